-- Reading is the inverse of writing, for every format. What was written is read, wherever it stands; what is read was written, and is in range.
use Prim.Native.Nat.{ℕ, zero, suc, ◌+◌, ◌-◌, ◌≤◌, ◌<◌}
use native.Mathlib.Omega.{arith}
use mathlib.Core.Path.{◌≡◌, refl, sym, ap, ap₂, subst, ◌∙◌}
use mathlib.Core.Bool.{Bool, true, false, not, ◌&&◌}
use mathlib.Core.Logic.{◌⊎◌, inl, inr}
use mathlib.Core.List.{List, [], ◌∷◌, ◌++◌, append-nil, append_assoc}
use lib.ListN.{length, get_or, drop, length-take, length-drop}
use lib.Seq.{drop-cons, drop-length}
use lib.Dec.{eqb, ltb, leb}
use native.Mathlib.Numerals.{add-one}
use borrow.Author.Tests.{lt-ltb, le-ltb, ltb-true, ltb-false, leb-true, le-leb, eqb-true, eq-eqb, ne_eqb}
use Rattle.flow.specs.Choice.{pick}
use Rattle.flow.proofs.Choices.{yes_back, no-back}
use Rattle.limits.specs.Limits.{RANGE}
use Rattle.line.specs.Number.{Octets, encode, number_at}
use Rattle.line.specs.Text.{octets_at, text_at, between, Sized}
use Rattle.line.proofs.Reading.{num_back, span_back}
use Rattle.line.proofs.Numbers.{head_at, number-most, number_written}
use Rattle.line.proofs.Texts.{text_written, text-inside, octets-read}
use Rattle.line.proofs.Trips.{Rest, rest-is, rest-none, number_trip, text_trip, octets_trip, octets_written}
use Rattle.format.specs.Read.{Read, got, bad, and_then, times, every, joined}
use Rattle.format.specs.Format.{Format, number, text, bare, octet, nothing, ◌⨾◌, many, tag, never, such, named, octets, fits, read, decode, apart, good}

-- ---- tests

pub both : (x y : Bool) → (x && y) ≡ true → (x ≡ true) × (y ≡ true)
both true y e = (refl, e)
both false y e = absurd (let z : ◌≡◌ {A = ℕ} 0 1 = cc in omega arith)

pub together : (x y : Bool) → x ≡ true → y ≡ true → (x && y) ≡ true
together x y p q = rw p q

module _ {A : Type 0} (P : A → Type 0) (t : Bool) (x y : A) where
  yes_all : t ≡ true → P x → P (pick t x y)
  unfolding pick
  yes_all e p = rw e p

  no_all : t ≡ false → P y → P (pick t x y)
  unfolding pick
  no_all e p = rw e p

pub no-got : {A : Type 0} (a : A) (n : ℕ) → bad ≡ got a n → ⊥
no-got a n e = let z : ◌≡◌ {A = ℕ} 0 1 = cc in omega arith

-- ---- what was written is read

-- a value that is read from at, and the rest after it
pub record Reads {A : Type 0} (s t : List ℕ) (a : A) (r : Read A) : Type 0 where
  pub end : ℕ
  pub is : r ≡ got a end
  pub rest : Rest s end t

reads_then : {A B : Type 0} (s t u : List ℕ) (a : A) (b : B) (r : Read A) (k : A → ℕ → Read B) → Reads s t a r
    → ((n : ℕ) → Rest s n t → Reads s u b (k a n)) → Reads s u b (and_then r k)
unfolding and_then
reads_then s t u a b r k p q = subst (λ x. Reads s u b (and_then x k)) (sym p.is) (q p.end p.rest)

reads_got : {A : Type 0} (s t : List ℕ) (a : A) (n : ℕ) → Rest s n t → Reads s t a (got a n)
reads_got s t a n d = record { end = n; is = refl; rest = d }

reads_times : {A : Type 0} (s t : List ℕ) (r : ℕ → Read A) (e : A → List ℕ) (p : A → Bool)
    → ((a : A) (at : ℕ) (t : List ℕ) → p a ≡ true → Rest s at (e a ++ t) → Reads s t a (r at))
    → (xs : List A) (at : ℕ) → every p xs ≡ true → Rest s at (joined e xs ++ t) → Reads s t xs (times r (length xs) at)
unfolding times every joined
reads_times s t r e p h [] at ok d = reads_got s t [] at d
reads_times s t r e p h (a ∷ rest) at ok d =
    let o = both (p a) (every p rest) ok in
    let first = h a at (joined e rest ++ t) o.0 (rest-is s at _ _ (append_assoc (e a) (joined e rest) t) d) in
    reads_then s (joined e rest ++ t) t a (a ∷ rest) (r at) _ first λ n d.
    reads_then s t t rest (a ∷ rest) (times r (length rest) n) _ (reads_times s t r e p h rest n o.1 d) λ m d.
    reads_got s t (a ∷ rest) m d

-- the octets that `apart` speaks of
record Headed (k : ℕ) (x : List ℕ) : Type 0 where
  pub head : ℕ
  pub tail : List ℕ
  pub is : x ≡ head ∷ tail
  pub other : head ≡ k → ⊥

headed : {A : Type 0} (k : ℕ) (f : Format A) (a : A) → apart k f ≡ true → Headed k (octets f a)
unfolding apart octets
headed k (number lo hi) a e = absurd (let z : ◌≡◌ {A = ℕ} 0 1 = cc in omega arith)
headed k (text lo hi) a e = absurd (let z : ◌≡◌ {A = ℕ} 0 1 = cc in omega arith)
headed k (bare n) a e = absurd (let z : ◌≡◌ {A = ℕ} 0 1 = cc in omega arith)
headed k (octet p) a e = absurd (let z : ◌≡◌ {A = ℕ} 0 1 = cc in omega arith)
headed k nothing a e = absurd (let z : ◌≡◌ {A = ℕ} 0 1 = cc in omega arith)
headed k (f ⨾ g) a e =
    let h = headed k f a.0 e in
    record { head = h.head; tail = h.tail ++ octets g a.1; is = ap (λ (l : List ℕ). l ++ octets g a.1) h.is; other = h.other }
headed k (many hi f) a e = absurd (let z : ◌≡◌ {A = ℕ} 0 1 = cc in omega arith)
headed k (tag j f g) (inl a) e =
    record {
      head = j;
      tail = octets f a;
      is = refl;
      other =
          λ q.
          let z : ◌≡◌ {A = Bool} true false = sym (both (not (eqb j k)) (apart k g) e).0 ∙ ap not (eq-eqb j k q) in
          let y : ◌≡◌ {A = ℕ} 0 1 = cc in
          omega arith;
    }
headed k (tag j f g) (inr b) e = headed k g b (both (not (eqb j k)) (apart k g) e).1
headed k never a e = absurd a
headed k (such f p) a e = headed k f a e
headed k (named B f to from p q) a e = headed k f (from a) e

pub written_reads : {A : Type 0} (f : Format A) (a : A) (s : List ℕ) (at : ℕ) (t : List ℕ) → good f ≡ true → fits f a ≡ true
    → Rest s at (octets f a ++ t) → Reads s t a (read f s at)
unfolding read octets fits good
written_reads (number lo hi) n s at t g ok d =
    let o = both (leb lo n) (leb n hi) ok in
    number_trip (Reads s t n) bad _ s at t n hi (leb-true n hi o.1) (ltb-true hi RANGE g) d λ next d.
    no_all (Reads s t n) (ltb n lo) bad (got n next) (le-ltb n lo (leb-true lo n o.0)) (reads_got s t n next d)
written_reads (text lo hi) x s at t g ok d =
    let o = both (leb lo (length x)) (leb (length x) hi) ok in
    let sized : Sized lo hi x = record { least = leb-true lo (length x) o.0; most = leb-true (length x) hi o.1 } in
    text_trip (Reads s t x) bad _ s at t x lo hi sized (ltb-true hi RANGE g) d λ start end e d.
    record { end = end; is = ap (λ (y : List ℕ). got y end) e; rest = d }
written_reads (bare n) x s at t g ok d =
    octets_trip (Reads s t x) bad _ s at t x n (eqb-true (length x) n ok) d λ start end e d.
    record { end = end; is = ap (λ (y : List ℕ). got y end) e; rest = d }
written_reads (octet p) b s at t g ok d =
    let q = head_at s at b t d.left in
    let P = Reads s t b in
    yes_all P _ _ _ (lt-ltb at (length s) q.inside) (yes_all P _ _ _ (ap p q.octet ∙ ok)
    (record { end = at + 1; is = ap (λ (x : ℕ). got x (at + 1)) q.octet; rest = record { inside = omega (arith, q.inside); left = q.after } }))
written_reads nothing x s at t g ok d = reads_got s t x at d
written_reads (f ⨾ h) x s at t g ok d =
    let o = both (fits f x.0) (fits h x.1) ok in
    let g = both (good f) (good h) g in
    let here = rest-is s at _ _ (append_assoc (octets f x.0) (octets h x.1) t) d in
    reads_then s (octets h x.1 ++ t) t x.0 x (read f s at) _ (written_reads f x.0 s at _ g.0 o.0 here) λ n d.
    reads_then s t t x.1 x (read h s n) _ (written_reads h x.1 s n t g.1 o.1 d) λ m d.
    reads_got s t x m d
written_reads (many hi f) xs s at t g ok d =
    let o = both (leb (length xs) hi) (every (λ a. fits f a) xs) ok in
    let g = both (ltb hi RANGE) (good f) g in
    number_trip (Reads s t xs) bad _ s at (joined (λ a. octets f a) xs ++ t) (length xs) hi (leb-true (length xs) hi o.0) (ltb-true hi RANGE g.0)
    (rest-is s at _ _ (append_assoc (encode (length xs)) (joined (λ a. octets f a) xs) t) d) λ next d.
    reads_times s t (λ at. read f s at) (λ a. octets f a) (λ a. fits f a) (λ a at t ok d. written_reads f a s at t g.1 ok d) xs next o.1 d
written_reads (tag k f h) (inl a) s at t g ok d =
    let g = both (good f) (good h && apart k h) g in
    let q = head_at s at k (octets f a ++ t) d.left in
    let w = written_reads f a s (at + 1) t g.0 ok (record { inside = omega (arith, q.inside); left = q.after }) in
    let P = Reads s t (inl a) in
    yes_all P _ _ _ (lt-ltb at (length s) q.inside) (yes_all P _ _ _ (eq-eqb (get_or s at 0) k q.octet)
    (reads_then s t t a (inl a) (read f s (at + 1)) _ w λ n d. reads_got s t (inl a) n d))
written_reads (tag k f h) (inr b) s at t g ok d =
    let g = both (good h) (apart k h) (both (good f) (good h && apart k h) g).1 in
    let e = headed k h b g.1 in
    let q = head_at s at e.head (e.tail ++ t) (d.left ∙ ap (λ (l : List ℕ). l ++ t) e.is) in
    let w = written_reads h b s at t g.0 ok d in
    let z : get_or s at 0 ≡ k → ⊥ = λ z. e.other (sym q.octet ∙ z) in
    let P = Reads s t (inr b) in
    yes_all P _ _ _ (lt-ltb at (length s) q.inside) (no_all P _ _ _ (ne_eqb (get_or s at 0) k z)
    (reads_then s t t b (inr b) (read h s at) _ w λ n d. reads_got s t (inr b) n d))
written_reads never x s at t g ok d = absurd x
written_reads (such f p) x s at t g ok d =
    let o = both (fits f x) (p x) ok in
    reads_then s t t x x (read f s at) _ (written_reads f x s at t g o.0 d) λ n d.
    yes_all (Reads s t x) (p x) _ _ o.1 (reads_got s t x n d)
written_reads (named B f to from p q) x s at t g ok d =
    reads_then s t t (from x) x (read f s at) _ (written_reads f (from x) s at t g ok d) λ n d.
    record { end = n; is = ap (λ y. got y n) (p x); rest = d }

-- ---- what is read was written

-- a value in range was read at a place, up to next; and in a list of octets its own octets stand there
pub record Stood {A : Type 0} (f : Format A) (s : List ℕ) (at : ℕ) (a : A) (next : ℕ) : Type 0 where
  pub ok : fits f a ≡ true
  pub here : Octets s → drop at s ≡ octets f a ++ drop next s

pub record Both {A B : Type 0} (r : Read A) (k : A → ℕ → Read B) (b : B) (end : ℕ) : Type 0 where
  pub a : A
  pub next : ℕ
  pub first : r ≡ got a next
  pub then : k a next ≡ got b end

pub then_back : {A B : Type 0} (r : Read A) (k : A → ℕ → Read B) (b : B) (end : ℕ) → and_then r k ≡ got b end → Both r k b end
unfolding and_then
then_back (got a next) k b end e = record { a = a; next = next; first = refl; then = e }
then_back bad k b end e = absurd (no-got b end e)

pub got_value : {A : Type 0} (a b : A) (m n : ℕ) → got a m ≡ got b n → a ≡ b
got_value a b m n e = cc

got-place : {A : Type 0} (a b : A) (m n : ℕ) → got a m ≡ got b n → m ≡ n
got-place a b m n e = cc

record Times {A : Type 0} (s : List ℕ) (e : A → List ℕ) (p : A → Bool) (n at : ℕ) (xs : List A) (end : ℕ) : Type 0 where
  pub count : length xs ≡ n
  pub ok : every p xs ≡ true
  pub here : Octets s → drop at s ≡ joined e xs ++ drop end s

times_stood : {A : Type 0} (s : List ℕ) (r : ℕ → Read A) (e : A → List ℕ) (p : A → Bool)
    → ((a : A) (at next : ℕ) → r at ≡ got a next → (p a ≡ true) × (Octets s → drop at s ≡ e a ++ drop next s))
    → (n at : ℕ) (xs : List A) (end : ℕ) → times r n at ≡ got xs end → Times s e p n at xs end
unfolding times every joined
times_stood s r e p h zero at xs end q =
    let x : [] ≡ xs = got_value [] xs at end q in
    let y : at ≡ end = got-place [] xs at end q in
    subst (λ l. Times s e p 0 at l end) x (record { count = refl; ok = refl; here = λ o. ap (λ (k : ℕ). drop k s) y })
times_stood s r e p h (suc n) at xs end q =
    let a = then_back (r at) _ xs end q in
    let b = then_back (times r n a.next) _ xs end a.then in
    let w = h a.a at a.next a.first in
    let v = times_stood s r e p h n a.next b.a b.next b.first in
    let x : (a.a ∷ b.a) ≡ xs = got_value (a.a ∷ b.a) xs b.next end b.then in
    let y : b.next ≡ end = got-place (a.a ∷ b.a) xs b.next end b.then in
    subst (λ l. Times s e p (suc n) at l end) x
    (record {
      count = ap suc v.count;
      ok = together (p a.a) (every p b.a) w.0 v.ok;
      here =
          λ o.
          w.1 o
          ∙ ap (λ (l : List ℕ). e a.a ++ l) (v.here o)
          ∙ sym (append_assoc (e a.a) (joined e b.a) (drop b.next s))
          ∙ ap (λ (k : ℕ). (e a.a ++ joined e b.a) ++ drop k s) y;
    })

-- the value and the place are those that were read
stood_as : {A : Type 0} (f : Format A) (s : List ℕ) (at : ℕ) (a b : A) (m n : ℕ) → got a m ≡ got b n → Stood f s at a m → Stood f s at b n
stood_as f s at a b m n e w = subst (λ x. Stood f s at x n) (got_value a b m n e) (subst (λ k. Stood f s at a k) (got-place a b m n e) w)

by-octet : {A B : Type 0} (k : ℕ) (f : Format A) (g : Format B) (s : List ℕ) (at : ℕ) (x : A ⊎ B) (next : ℕ) → at < length s
    → (t : Bool) → eqb (get_or s at 0) k ≡ t
    → pick t (and_then (read f s (at + 1)) λ a end. got (inl a) end) (and_then (read g s at) λ b end. got (inr b) end) ≡ got x next
    → ((a : A) (n : ℕ) → read f s (at + 1) ≡ got a n → Stood f s (at + 1) a n) → ((b : B) (n : ℕ) → read g s at ≡ got b n → Stood g s at b n)
    → Stood (tag k f g) s at x next
unfolding pick octets fits
by-octet k f g s at x next l true h q p r =
    let a = then_back (read f s (at + 1)) _ x next q in
    let w = p a.a a.next a.first in
    let d : drop at s ≡ k ∷ drop (at + 1) s = drop-cons s at 0 l ∙ rw (eqb-true (get_or s at 0) k h, add-one) in
    stood_as (tag k f g) s at (inl a.a) x a.next next a.then (record { ok = w.ok; here = λ o. d ∙ ap (λ (l : List ℕ). k ∷ l) (w.here o) })
by-octet k f g s at x next l false h q p r =
    let b = then_back (read g s at) _ x next q in
    let w = r b.a b.next b.first in
    stood_as (tag k f g) s at (inr b.a) x b.next next b.then (record { ok = w.ok; here = w.here })

pub read_stood : {A : Type 0} (f : Format A) (s : List ℕ) (at : ℕ) (a : A) (next : ℕ) → read f s at ≡ got a next → Stood f s at a next
unfolding read octets fits
read_stood (number lo hi) s at n next e =
    let r = num_back (got n next) bad (no-got n next) _ (number_at s at hi) e in
    let p = no-back (got n next) bad (no-got n next) (ltb r.v lo) _ r.rest in
    stood_as (number lo hi) s at r.v n r.next next p.1
    (record {
      ok =
          together (leb lo r.v) (leb r.v hi) (le-leb lo r.v (ltb-false r.v lo p.0))
          (le-leb r.v hi (number-most s at hi r.v r.next r.read));
      here = λ o. (number_written s at hi r.v r.next o r.read).here;
    })
read_stood (text lo hi) s at x next e =
    let r = span_back (got x next) bad (no-got x next) _ (text_at s at lo hi) e in
    let i = text-inside s at lo hi r.start r.end r.read in
    let y = between s r.start r.end in
    let l : length y ≡ r.end - r.start = simp (length-take, length-drop) (omega (arith, i.inside)) in
    let least : lo ≤ length y = omega (arith, i.least) in
    let most : length y ≤ hi = omega (arith, i.most) in
    stood_as (text lo hi) s at y x r.end next r.rest
    (record {
      ok = together (leb lo (length y)) (leb (length y) hi) (le-leb lo (length y) least) (le-leb (length y) hi most);
      here = λ o. (text_written s at lo hi r.start r.end o r.read).here;
    })
read_stood (bare n) s at x next e =
    let r = span_back (got x next) bad (no-got x next) _ (octets_at s at n) e in
    let q = octets-read s at n r.start r.end r.read in
    let y = between s r.start (r.start + n) in
    let l : length y ≡ n = simp (length-take, length-drop) (omega (arith, q.first, q.last, q.inside)) in
    stood_as (bare n) s at y x r.end next r.rest
    (record { ok = eq-eqb (length y) n l; here = λ o. octets_written s at n r.start r.end r.read })
read_stood (octet p) s at b next e =
    let y = yes_back (got b next) bad (no-got b next) (ltb at (length s)) _ e in
    let z = yes_back (got b next) bad (no-got b next) (p (get_or s at 0)) _ y.1 in
    stood_as (octet p) s at (get_or s at 0) b (at + 1) next z.1
    (record { ok = z.0; here = λ o. drop-cons s at 0 (ltb-true at (length s) y.0) ∙ rw add-one })
read_stood nothing s at x next e = stood_as nothing s at tt x at next e (record { ok = refl; here = λ o. refl })
read_stood (f ⨾ g) s at x next e =
    let a = then_back (read f s at) _ x next e in
    let b = then_back (read g s a.next) _ x next a.then in
    let v = read_stood f s at a.a a.next a.first in
    let w = read_stood g s a.next b.a b.next b.first in
    stood_as (f ⨾ g) s at (a.a, b.a) x b.next next b.then
    (record {
      ok = together (fits f a.a) (fits g b.a) v.ok w.ok;
      here =
          λ o.
          v.here o
          ∙ ap (λ (l : List ℕ). octets f a.a ++ l) (w.here o)
          ∙ sym (append_assoc (octets f a.a) (octets g b.a) (drop b.next s));
    })
read_stood (many hi f) s at xs next e =
    let r = num_back (got xs next) bad (no-got xs next) _ (number_at s at hi) e in
    let w =
    times_stood s (λ at. read f s at) (λ a. octets f a) (λ a. fits f a) (λ a at next e. let w = read_stood f s at a next e in (w.ok, w.here))
    r.v r.next xs next r.rest in
    let m : length xs ≤ hi = omega (arith, number-most s at hi r.v r.next r.read, w.count) in
    record {
      ok = together (leb (length xs) hi) (every (λ a. fits f a) xs) (le-leb (length xs) hi m) w.ok;
      here =
          λ o.
          (number_written s at hi r.v r.next o r.read).here
          ∙ ap₂ (λ (k : ℕ) (l : List ℕ). encode k ++ l) (sym w.count) (w.here o)
          ∙ sym (append_assoc (encode (length xs)) (joined (λ a. octets f a) xs) (drop next s));
    }
read_stood (tag k f g) s at x next e =
    let y = yes_back (got x next) bad (no-got x next) (ltb at (length s)) _ e in
    by-octet k f g s at x next (ltb-true at (length s) y.0) (eqb (get_or s at 0) k) refl y.1
    (λ a n e. read_stood f s (at + 1) a n e) (λ b n e. read_stood g s at b n e)
read_stood never s at x next e = absurd x
read_stood (such f p) s at x next e =
    let a = then_back (read f s at) _ x next e in
    let y = yes_back (got x next) bad (no-got x next) (p a.a) _ a.then in
    let w = read_stood f s at a.a a.next a.first in
    stood_as (such f p) s at a.a x a.next next y.1 (record { ok = together (fits f a.a) (p a.a) w.ok y.0; here = w.here })
read_stood (named B f to from p q) s at x next e =
    let a = then_back (read f s at) _ x next e in
    let w = read_stood f s at a.a a.next a.first in
    let z : from (to a.a) ≡ a.a = q a.a in
    stood_as (named B f to from p q) s at (to a.a) x a.next next a.then
    (record { ok = ap (fits f) z ∙ w.ok; here = λ o. w.here o ∙ ap (λ y. octets f y ++ drop a.next s) (sym z) })

-- what is read is in range
pub read_fits : {A : Type 0} (f : Format A) (s : List ℕ) (at : ℕ) (a : A) (next : ℕ) → read f s at ≡ got a next → fits f a ≡ true
read_fits f s at a next e = (read_stood f s at a next e).ok

-- ---- what a value in range is

module _ (lo hi : ℕ) where
  pub number_fits : (n : ℕ) → fits (number lo hi) n ≡ true → (lo ≤ n) × (n ≤ hi)
  unfolding fits
  number_fits n e = let o = both (leb lo n) (leb n hi) e in (leb-true lo n o.0, leb-true n hi o.1)

  pub text-fits : (x : List ℕ) → fits (text lo hi) x ≡ true → Sized lo hi x
  unfolding fits
  text-fits x e =
      let o = both (leb lo (length x)) (leb (length x) hi) e in
      record { least = leb-true lo (length x) o.0; most = leb-true (length x) hi o.1 }

pub bare-fits : (n : ℕ) (x : List ℕ) → fits (bare n) x ≡ true → length x ≡ n
unfolding fits
bare-fits n x e = eqb-true (length x) n e

-- ---- a body

-- reading what was written gives the value again, with nothing left
pub decode_written : {A : Type 0} (f : Format A) (a : A) → good f ≡ true → fits f a ≡ true → decode f (octets f a) ≡ got a (length (octets f a))
unfolding decode and_then pick
decode_written f a g ok =
    let s = octets f a in
    let w = written_reads f a s 0 [] g ok (record { inside = omega arith; left = sym (append-nil s) }) in
    let n = rest-none s w.end w.rest in
    rw (w.is, n, eq-eqb (length s) (length s) refl)

-- writing what was read gives the same octets, and what is read is in range
pub record Whole {A : Type 0} (f : Format A) (s : List ℕ) (a : A) : Type 0 where
  pub ok : fits f a ≡ true
  pub same : octets f a ≡ s

decode_stood : {A : Type 0} (f : Format A) (s : List ℕ) (a : A) (end : ℕ) → decode f s ≡ got a end → Stood f s 0 a (length s)
unfolding decode
decode_stood f s a end e =
    let b = then_back (read f s 0) _ a end e in
    let y = yes_back (got a end) bad (no-got a end) (eqb b.next (length s)) _ b.then in
    let n : end ≡ length s = sym (got-place b.a a b.next end y.1) ∙ eqb-true b.next (length s) y.0 in
    let m : got b.a b.next ≡ got a (length s) = y.1 ∙ ap (got a) n in
    stood_as f s 0 b.a a b.next (length s) m (read_stood f s 0 b.a b.next b.first)

pub decode-fits : {A : Type 0} (f : Format A) (s : List ℕ) (a : A) (end : ℕ) → decode f s ≡ got a end → fits f a ≡ true
decode-fits f s a end e = (decode_stood f s a end e).ok

pub decode_whole : {A : Type 0} (f : Format A) (s : List ℕ) (a : A) (end : ℕ) → Octets s → decode f s ≡ got a end → Whole f s a
decode_whole f s a end o e =
    let w = decode_stood f s a end e in
    record { ok = w.ok; same = sym (w.here o ∙ ap (λ (l : List ℕ). octets f a ++ l) (drop-length s) ∙ append-nil (octets f a)) }

-- no value's octets begin another's
pub prefix_free : {A : Type 0} (f : Format A) (a b : A) (t u : List ℕ) → good f ≡ true → fits f a ≡ true → fits f b ≡ true
    → octets f a ++ t ≡ octets f b ++ u → a ≡ b
prefix_free f a b t u g p q e =
    let s = octets f a ++ t in
    let v = written_reads f a s 0 t g p (record { inside = omega arith; left = refl }) in
    let w = written_reads f b s 0 u g q (record { inside = omega arith; left = e }) in
    got_value a b v.end w.end (sym v.is ∙ w.is)
