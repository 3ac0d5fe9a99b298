-- How a reader's proof follows the table: each law takes what a call and its `?` leave to one field. The ruleset `tabled` closes a
-- `returns`, under `unfolding` of the table's name.
use Prim.Native.Nat.{ℕ, ◌+◌, ◌≤◌, ◌<◌}
use native.Mathlib.Nat.{pos_of_ne-zero}
use native.Mathlib.Omega.{arith}
use mathlib.Core.Path.{◌≡◌, sym, ap, ◌∙◌}
use mathlib.Core.Bool.{Bool, true, false}
use mathlib.Core.Logic.{◌⊎◌, inl, inr}
use mathlib.Core.List.{List}
use lib.ListN.{length, get_or}
use lib.Dec.{eqb, ltb}
use borrow.Author.Tests.{lt-ltb, le-ltb, eq-eqb, ne_eqb}
use Rattle.flow.specs.Choice.{pick}
use Rattle.flow.proofs.Choices.{choices}
use Rattle.std.specs.Prelude.{Some, None}
use Rattle.line.specs.Number.{value, number_at, with_num}
use Rattle.line.specs.Text.{octets_at, text_at, with_span, between, Inside}
use Rattle.line.specs.declared.Span.{Span}
use Rattle.line.proofs.Numbers.{number-most}
use Rattle.line.proofs.Texts.{octets-read, text-inside}
use Rattle.format.specs.Read.{Read, got, bad, and_then, times}
use Rattle.format.specs.Format.{Format, number, text, bare, nothing, ◌⨾◌, many, tag, never, such, named, read}
use Rattle.format.proofs.Means.{then_got, pair_then, tag_then, tag-none, named_then, such_then}

-- ---- one field, and then the rest

module _ {C : Type 0} (o : Read C) (s : List ℕ) (at : ℕ) where
  -- a field that a part of the reader has read
  module _ {A : Type 0} (f : Format A) (r : Read A) (e : r ≡ read f s at) (k : A → ℕ → Read C) where
    pub by-got : (a : A) (n : ℕ) → r ≡ got a n → o ≡ k a n → o ≡ and_then (read f s at) k
    unfolding and_then
    by-got a n g p = p ∙ ap (λ x. and_then x k) (sym g ∙ e)

    pub by-bad : r ≡ bad → o ≡ bad → o ≡ and_then (read f s at) k
    unfolding and_then
    by-bad g p = p ∙ ap (λ x. and_then x k) (sym g ∙ e)

  module _ (hi : ℕ) (k : ℕ → ℕ → Read C) where
    pub by-no-number : (lo : ℕ) → None ≡ number_at s at hi → o ≡ bad → o ≡ and_then (read (number lo hi) s at) k
    unfolding read and_then with_num
    by-no-number lo e p = p ∙ ap (λ x. and_then (with_num bad x λ n next. pick (ltb n lo) bad (got n next)) k) e

    module _ (n next : ℕ) (e : value n next ≡ number_at s at hi) where
      by-num : (lo : ℕ) (t : Bool) → ltb n lo ≡ t → o ≡ and_then (pick t bad (got n next)) k → o ≡ and_then (read (number lo hi) s at) k
      unfolding read with_num
      by-num lo t q p =
          p
          ∙ ap (λ x. and_then (pick x bad (got n next)) k) (sym q)
          ∙ ap (λ x. and_then (with_num bad x λ n next. pick (ltb n lo) bad (got n next)) k) e

      pub by_number : o ≡ k n next → o ≡ and_then (read (number 0 hi) s at) k
      unfolding and_then pick
      by_number p = by-num 0 false (le-ltb n 0 (omega arith)) p

      pub by-number-1 : (n ≡ 0 → ⊥) → o ≡ k n next → o ≡ and_then (read (number 1 hi) s at) k
      unfolding and_then pick
      by-number-1 h p = by-num 1 false (le-ltb n 1 (pos_of_ne-zero h)) p

      pub by-number-0 : n ≡ 0 → o ≡ bad → o ≡ and_then (read (number 1 hi) s at) k
      unfolding and_then pick
      by-number-0 h p = by-num 1 true (lt-ltb n 1 (omega arith)) p

  module _ (lo hi : ℕ) (k : List ℕ → ℕ → Read C) where
    pub by-text : (x : Span) → Some x ≡ text_at s at lo hi → o ≡ k (between s x.start x.end) x.end → o ≡ and_then (read (text lo hi) s at) k
    unfolding read and_then with_span
    by-text x e p = p ∙ ap (λ x. and_then (with_span bad x λ start end. got (between s start end) end) k) e

    pub by-no-text : None ≡ text_at s at lo hi → o ≡ bad → o ≡ and_then (read (text lo hi) s at) k
    unfolding read and_then with_span
    by-no-text e p = p ∙ ap (λ x. and_then (with_span bad x λ start end. got (between s start end) end) k) e

  module _ (n : ℕ) (k : List ℕ → ℕ → Read C) where
    pub by_bare : (x : Span) → Some x ≡ octets_at s at n → o ≡ k (between s x.start (x.start + n)) x.end → o ≡ and_then (read (bare n) s at) k
    unfolding read and_then with_span
    by_bare x e p = p ∙ ap (λ x. and_then (with_span bad x λ start end. got (between s start (start + n)) end) k) e

    pub by-no-bare : None ≡ octets_at s at n → o ≡ bad → o ≡ and_then (read (bare n) s at) k
    unfolding read and_then with_span
    by-no-bare e p = p ∙ ap (λ x. and_then (with_span bad x λ start end. got (between s start (start + n)) end) k) e

  pub by-nothing : (k : Unit {0} → ℕ → Read C) → o ≡ k tt at → o ≡ and_then (read nothing s at) k
  unfolding read and_then
  by-nothing k p = p

  pub by-never : (k : ⊥ → ℕ → Read C) → o ≡ bad → o ≡ and_then (read never s at) k
  unfolding read and_then
  by-never k p = p

  -- ---- compositions

  pub by-pair : {A B : Type 0} (f : Format A) (g : Format B) (k : (A × B) → ℕ → Read C)
      → o ≡ and_then (read f s at) (λ a n. and_then (read g s n) (λ b m. k (a, b) m)) → o ≡ and_then (read (f ⨾ g) s at) k
  by-pair f g k p = p ∙ sym (pair_then f g s at k)

  pub by-such : {A : Type 0} (f : Format A) (t : A → Bool) (k : A → ℕ → Read C)
      → o ≡ and_then (read f s at) (λ a n. pick (t a) (k a n) bad) → o ≡ and_then (read (such f t) s at) k
  by-such f t k p = p ∙ sym (such_then f t s at k)

  pub by-named : {A B : Type 0} (f : Format A) (to : A → B) (from : B → A) (p : (b : B) → to (from b) ≡ b) (q : (a : A) → from (to a) ≡ a) (k : B → ℕ → Read C)
      → o ≡ and_then (read f s at) (λ a n. k (to a) n) → o ≡ and_then (read (named B f to from p q) s at) k
  by-named f to from p q k e = e ∙ sym (named_then f to from p q s at k)

  module _ {A B : Type 0} (c : ℕ) (f : Format A) (g : Format B) (k : (A ⊎ B) → ℕ → Read C) where
    -- the octet of this choice
    pub by-this : at < length s → get_or s at 0 ≡ c → o ≡ and_then (read f s (at + 1)) (λ a n. k (inl a) n) → o ≡ and_then (read (tag c f g) s at) k
    unfolding pick
    by-this h e p =
        p
        ∙ ap (λ t. pick t (and_then (read f s (at + 1)) λ a n. k (inl a) n) (and_then (read g s at) λ b n. k (inr b) n)) (sym (eq-eqb (get_or s at 0) c e))
        ∙ sym (tag_then f g s at c k h)

    -- that of another
    pub by-that : (d : ℕ) → at < length s → get_or s at 0 ≡ d → eqb d c ≡ false → o ≡ and_then (read g s at) (λ b n. k (inr b) n)
        → o ≡ and_then (read (tag c f g) s at) k
    unfolding pick
    by-that d h e n p =
        p
        ∙ ap (λ t. pick t (and_then (read f s (at + 1)) λ a n. k (inl a) n) (and_then (read g s at) λ b n. k (inr b) n))
        (sym (ap (λ x. eqb x c) e ∙ n))
        ∙ sym (tag_then f g s at c k h)

    pub by-not : at < length s → (get_or s at 0 ≡ c → ⊥) → o ≡ and_then (read g s at) (λ b n. k (inr b) n) → o ≡ and_then (read (tag c f g) s at) k
    unfolding pick
    by-not h e p =
        p
        ∙ ap (λ t. pick t (and_then (read f s (at + 1)) λ a n. k (inl a) n) (and_then (read g s at) λ b n. k (inr b) n)) (sym (ne_eqb (get_or s at 0) c e))
        ∙ sym (tag_then f g s at c k h)

    pub by-short : length s ≤ at → o ≡ bad → o ≡ and_then (read (tag c f g) s at) k
    by-short h p = p ∙ tag-none f g s at c k h

  -- a count, then that many
  module _ {A : Type 0} (hi : ℕ) (f : Format A) (k : List A → ℕ → Read C) where
    pub by-many : (n next : ℕ) → value n next ≡ number_at s at hi → o ≡ and_then (times (λ a. read f s a) n next) k → o ≡ and_then (read (many hi f) s at) k
    unfolding read with_num
    by-many n next e p = p ∙ ap (λ x. and_then (with_num bad x λ n next. times (λ a. read f s a) n next) k) e

    pub by-no-many : None ≡ number_at s at hi → o ≡ bad → o ≡ and_then (read (many hi f) s at) k
    unfolding read and_then with_num
    by-no-many e p = p ∙ ap (λ x. and_then (with_num bad x λ n next. times (λ a. read f s a) n next) k) e

-- a reading by itself
pub by_read : {A : Type 0} (o : Read A) (f : Format A) (s : List ℕ) (at : ℕ) → o ≡ and_then (read f s at) (λ a n. got a n) → o ≡ read f s at
by_read o f s at p = p ∙ then_got (read f s at)

pub ruleset tabled = (
  by_read,
  by-pair,
  by-such,
  by-named,
  by_number,
  by-number-1,
  by-number-0,
  by-no-number,
  by-text,
  by-no-text,
  by_bare,
  by-no-bare,
  by-many,
  by-no-many,
  by-nothing,
  by-never,
  choices,
)

-- ---- where what was read stands

module _ (s : List ℕ) (at : ℕ) where
  pub most-read : (hi n next : ℕ) → value n next ≡ number_at s at hi → n ≤ hi
  most-read hi n next e = number-most s at hi n next (sym e)

  pub inside-read : (lo hi : ℕ) (x : Span) → Some x ≡ text_at s at lo hi → Inside s lo hi x.start x.end
  inside-read lo hi x e = text-inside s at lo hi x.start x.end (sym e)

  pub bare-read : (n : ℕ) (x : Span) → Some x ≡ octets_at s at n → x.start + n ≤ length s
  bare-read n x e = let o = octets-read s at n x.start x.end (sym e) in omega (arith, o.first, o.last, o.inside)

pub ruleset standing = (most-read, inside-read, bare-read, pos_of_ne-zero)
