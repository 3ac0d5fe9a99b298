-- What stands in the input so far says the same whatever arrives after it. A field that ends before the input does is read from octets that are
-- all there; one that doesn't is said to be cut, and nothing else is said of it.
use Rattle.std.proofs.Common.{ℕ, zero, suc, ◌+◌, ◌-◌, ◌*◌, ◌%◌, ◌≤◌, ◌≡◌, refl, sym, ap, ◌∙◌, arith, Bool, true, false, true≢false, List, ◌++◌, length, get_or, take, drop, ltb, leb, eqb, Option, Some, None, Result, Ok, Err}
use lib.ListN.{length-append, length-drop, get_or-append}
use lib.Seq.{take-append-le, drop-append-le}
use borrow.Author.Tests.{ltb-true, lt-ltb, leb-true, le-leb}
use Rattle.limits.specs.Limits.{GROUPS, BODY}
use Rattle.flow.specs.Choice.{pick}
use Rattle.line.specs.Number.{Num, groups_at, number_at, value, with_num}
use Rattle.line.specs.Text.{octets_at, text_at, span, with_span, between}
use Rattle.line.specs.declared.Span.{Span}
use Rattle.line.proofs.Reading.{no_num, no_span}
use Rattle.program.specs.Cut.{cut_in, cut_number, cut_text, stopped, number_in, text_in, with_read}
use Rattle.program.specs.Frame.{frame_at}
use Rattle.program.specs.declared.Stop.{Stop}
use Rattle.program.specs.declared.Stop.TheVariants.{More, Bad}

-- a number that is not cut
pub record Kept (k : ℕ) (s more : List ℕ) (at : ℕ) : Type 0 where
  pub cut : cut_in k (s ++ more) at ≡ false
  pub read : groups_at k (s ++ more) at ≡ groups_at k s at

-- an octet that is there is the same, and there
module _ (s more : List ℕ) (at : ℕ) (h : ltb at (length s) ≡ true) where
  there : ltb at (length (s ++ more)) ≡ true
  there = lt-ltb at (length (s ++ more)) (rw length-append (omega (arith, ltb-true at (length s) h)))

  pub alike : get_or (s ++ more) at 0 ≡ get_or s at 0
  alike = get_or-append s more 0 at (ltb-true at (length s) h)

pub kept : (k : ℕ) (s more : List ℕ) (at : ℕ) → cut_in k s at ≡ false → Kept k s more at
unfolding cut_in groups_at pick
kept zero s more at e = record { cut = refl; read = refl }
kept (suc k) s more at e = within (ltb at (length s)) refl e (kept k s more (at + 1))
  where
    last : ltb at (length s) ≡ true → (b : Bool) → ltb (get_or s at 0) 128 ≡ b → pick b false (cut_in k s (at + 1)) ≡ false
        → (cut_in k s (at + 1) ≡ false → Kept k s more (at + 1)) → Kept (suc k) s more at
    last h true q e r = record { cut = rw (there s more at h, alike s more at h, q); read = rw (there s more at h, alike s more at h, q, h) }
    last h false q e r =
        record { cut = rw (there s more at h, alike s more at h, q) (r e).cut; read = rw (there s more at h, alike s more at h, q, h, (r e).read) }

    within : (b : Bool) → ltb at (length s) ≡ b → pick b (pick (ltb (get_or s at 0) 128) false (cut_in k s (at + 1))) true ≡ false
        → (cut_in k s (at + 1) ≡ false → Kept k s more (at + 1)) → Kept (suc k) s more at
    within true h e r = last h (ltb (get_or s at 0) 128) refl e r
    within false h e r = absurd (true≢false e)

-- a number that was read is not cut
pub read_whole : (k : ℕ) (s : List ℕ) (at v next : ℕ) → groups_at k s at ≡ value v next → cut_in k s at ≡ false
unfolding cut_in groups_at pick with_num
read_whole zero s at v next e = refl
read_whole (suc k) s at v next e = within (ltb at (length s)) (ltb (get_or s at 0) 128) (groups_at k s (at + 1)) refl (read_whole k s (at + 1)) e
  where
    within : (b c : Bool) (x : Num) → groups_at k s (at + 1) ≡ x → ((v next : ℕ) → groups_at k s (at + 1) ≡ value v next → cut_in k s (at + 1) ≡ false)
        → pick b (pick c (value (get_or s at 0) (at + 1)) (with_num None x λ v next. pick (eqb v 0) None (value (get_or s at 0 % 128 + 128 * v) next))) None
        ≡ value v next
        → pick b (pick c false (cut_in k s (at + 1))) true ≡ false
    within true true x g r e = refl
    within true false (Some (w, n)) g r e = r w n g
    within true false None g r e = absurd (no_num v next e)
    within false c x g r e = absurd (no_num v next e)

number_whole : (s : List ℕ) (at max v next : ℕ) → number_at s at max ≡ value v next → cut_number s at ≡ false
unfolding with_num
number_whole s at max v next e = go (groups_at GROUPS s at) refl e
  where
    go : (x : Num) → groups_at GROUPS s at ≡ x → with_num None x (λ v next. pick (leb v max) (value v next) None) ≡ value v next → cut_number s at ≡ false
    go (Some (w, n)) g e = read_whole GROUPS s at w n g
    go None g e = absurd (no_num v next e)

number-kept : (s more : List ℕ) (at max : ℕ) → cut_number s at ≡ false → number_at (s ++ more) at max ≡ number_at s at max
number-kept s more at max c = ap (λ (x : Num). with_num None x (λ v next. pick (leb v max) (value v next) None)) (kept GROUPS s more at c).read

-- ---- octets

pub between-kept : (s more : List ℕ) (start end : ℕ) → start ≤ end → end ≤ length s → between (s ++ more) start end ≡ between s start end
between-kept s more start end h k =
    ap (take (end - start)) (drop-append-le start s more (omega arith)) ∙ take-append-le (end - start) (drop start s) more (rw length-drop (omega arith))

-- ---- a text

module _ (s : List ℕ) (at lo hi : ℕ) where
  text_whole : (a z : ℕ) → text_at s at lo hi ≡ span a z → cut_text s at lo hi ≡ false
  unfolding with_num with_span pick
  text_whole a z e = read (groups_at GROUPS s at) refl e
    where
      rest : (v next : ℕ) (c d : Bool) → pick c None (pick d (span next (next + v)) None) ≡ span a z
          → pick c false (with_span true (pick d (span next (next + v)) None) (λ _ _. false)) ≡ false
      rest v next true d e = refl
      rest v next false true e = refl
      rest v next false false e = absurd (no_span a z e)

      most : (v next : ℕ) (b : Bool) → with_num None (pick b (value v next) None) (λ n start. pick (ltb n lo) None (octets_at s start n)) ≡ span a z
          → with_num (cut_in GROUPS s at) (pick b (value v next) None) (λ n start. pick (ltb n lo) false (with_span true (octets_at s start n) (λ _ _. false)))
          ≡ false
      most v next true e = rest v next (ltb v lo) (leb (next + v) (length s)) e
      most v next false e = absurd (no_span a z e)

      read : (x : Num) → groups_at GROUPS s at ≡ x
          → with_num None (with_num None x λ v next. pick (leb v hi) (value v next) None) (λ n start. pick (ltb n lo) None (octets_at s start n)) ≡ span a z
          → cut_text s at lo hi ≡ false
      read (Some (v, next)) g e = rw g (most v next (leb v hi) e)
      read None g e = absurd (no_span a z e)

-- a text that is not cut
pub record TextKept (s more : List ℕ) (at lo hi : ℕ) : Type 0 where
  pub cut : cut_text (s ++ more) at lo hi ≡ false
  pub read : text_at (s ++ more) at lo hi ≡ text_at s at lo hi

module _ (s more : List ℕ) (at lo hi : ℕ) (whole : cut_text s at lo hi ≡ true → ⊥) where
  text-kept : TextKept s more at lo hi
  unfolding with_num with_span pick
  text-kept = read (groups_at GROUPS s at) refl
    where
      bare : (v next : ℕ) → groups_at GROUPS s at ≡ value v next → leb v hi ≡ true → ltb v lo ≡ false → (b : Bool) → leb (next + v) (length s) ≡ b
          → TextKept s more at lo hi
      bare v next g m l true e =
          let k = kept GROUPS s more at (read_whole GROUPS s at v next g) in
          let h = leb-true (next + v) (length s) e in
          let f : leb (next + v) (length (s ++ more)) ≡ true = le-leb (next + v) (length (s ++ more)) (rw length-append (omega arith)) in
          record { cut = rw (k.read, g, m, l, f); read = rw (k.read, g, m, l, e, f) }
      bare v next g m l false e = absurd (whole (rw (g, m, l, e)))

      least : (v next : ℕ) → groups_at GROUPS s at ≡ value v next → leb v hi ≡ true → (b : Bool) → ltb v lo ≡ b → TextKept s more at lo hi
      least v next g m true l =
          let k = kept GROUPS s more at (read_whole GROUPS s at v next g) in record { cut = rw (k.read, g, m, l); read = rw (k.read, g, m, l) }
      least v next g m false l = bare v next g m l (leb (next + v) (length s)) refl

      most : (v next : ℕ) → groups_at GROUPS s at ≡ value v next → (b : Bool) → leb v hi ≡ b → TextKept s more at lo hi
      most v next g true m = least v next g m (ltb v lo) refl
      most v next g false m =
          let k = kept GROUPS s more at (read_whole GROUPS s at v next g) in record { cut = rw (k.read, g, m, k.cut); read = rw (k.read, g, m) }

      cut : groups_at GROUPS s at ≡ None → (b : Bool) → cut_in GROUPS s at ≡ b → TextKept s more at lo hi
      cut g true c = absurd (whole (rw (g, c)))
      cut g false c = let k = kept GROUPS s more at c in record { cut = rw (k.read, g, k.cut); read = rw (k.read, g) }

      read : (x : Num) → groups_at GROUPS s at ≡ x → TextKept s more at lo hi
      read (Some (v, next)) g = most v next g (leb v hi) refl
      read None g = cut g (cut_in GROUPS s at) refl

-- ---- a chain of reads

-- what is said of the input so far is said with more of it, unless it asks for more
abbrev pub Stays : {A : Type 0} → Result A Stop → Result A Stop → Type 0
Stays v w = (v ≡ Err More → ⊥) → w ≡ v

-- what was read, and what is bad, doesn't ask for more
module _ {A : Type 0} where
  pub read_is : (a : A) → ◌≡◌ {A = Result A Stop} (Ok a) (Err More) → ⊥
  read_is a e = let z : ◌≡◌ {A = ℕ} 0 1 = cc in omega arith

  bad_is : ◌≡◌ {A = Result A Stop} (Err Bad) (Err More) → ⊥
  bad_is e = let z : ◌≡◌ {A = ℕ} 0 1 = cc in omega arith

  pub pick_stays : (t u : Bool) → u ≡ t → (x y z : Result A Stop) → Stays y z → Stays (pick t x y) (pick u x z)
  unfolding pick
  pick_stays true u e x y z stays whole = rw e
  pick_stays false u e x y z stays whole = rw e (stays whole)

  module _ (s more : List ℕ) where
    pub here-stays : (at : ℕ) (x y : Result A Stop) → (ltb at (length s) ≡ true → Stays x y)
        → Stays (pick (ltb at (length s)) x (Err More)) (pick (ltb at (length (s ++ more))) y (Err More))
    unfolding pick
    here-stays at x y stays whole = go (ltb at (length s)) refl whole
      where
        go : (b : Bool) → ltb at (length s) ≡ b → (pick b x (Err More) ≡ Err More → ⊥) → pick (ltb at (length (s ++ more))) y (Err More) ≡ pick b x (Err More)
        go true h whole = rw (there s more at h) (stays h whole)
        go false h whole = absurd (whole refl)

pub read_stays : {A B : Type 0} (x y : Result A Stop) (f g : A → Result B Stop) → Stays x y → ((a : A) → x ≡ Ok a → Stays (f a) (g a))
    → Stays (with_read x f) (with_read y g)
unfolding with_read
read_stays (Ok a) y f g stays next whole = rw (stays (read_is a)) (next a refl whole)
read_stays (Err More) y f g stays next whole = absurd (whole refl)
read_stays (Err Bad) y f g stays next whole = rw (stays bad_is)

-- ---- what the program reads

module _ (s more : List ℕ) where
  pub number_stays : (at max : ℕ) → Stays (number_in s at max) (number_in (s ++ more) at max)
  unfolding with_num pick
  number_stays at max whole = go (number_at s at max) refl (cut_number s at) refl whole
    where
      read : Bool → Num → Result (ℕ × ℕ) Stop
      read c x = with_num (Err (stopped c)) x λ n next. Ok (n, next)

      go : (x : Num) → number_at s at max ≡ x → (c : Bool) → cut_number s at ≡ c → (read c x ≡ Err More → ⊥) → number_in (s ++ more) at max ≡ read c x
      go (Some (v, next)) e c q whole = rw (number-kept s more at max (number_whole s at max v next e), e)
      go None e true q whole = absurd (whole refl)
      go None e false q whole = rw (number-kept s more at max q, e, (kept GROUPS s more at q).cut)

  pub text_stays : (at lo hi : ℕ) → Stays (text_in s at lo hi) (text_in (s ++ more) at lo hi)
  unfolding with_span pick
  text_stays at lo hi whole = go (text_at s at lo hi) refl (cut_text s at lo hi) refl whole
    where
      read : Bool → Option Span → Result Span Stop
      read c x = with_span (Err (stopped c)) x λ start end. Ok (record { start = start; end = end })

      keeps : cut_text s at lo hi ≡ false → TextKept s more at lo hi
      keeps q = text-kept s more at lo hi (λ t. true≢false (sym t ∙ q))

      go : (x : Option Span) → text_at s at lo hi ≡ x → (c : Bool) → cut_text s at lo hi ≡ c → (read c x ≡ Err More → ⊥)
          → text_in (s ++ more) at lo hi ≡ read c x
      go (Some y) e c q whole = rw ((keeps (text_whole s at lo hi y.start y.end e)).read, e)
      go None e true q whole = absurd (whole refl)
      go None e false q whole = rw ((keeps q).read, e, (keeps q).cut)

  -- an event, or what is none
  pub frame_kept : (at : ℕ) → Stays (frame_at s at) (frame_at (s ++ more) at)
  unfolding frame_at
  frame_kept at = text_stays at 1 BODY
