-- The functions of three words, bit by bit. A bit of `and`, `or`, `xor` and the complement is that of the bits; words with the same bits are
-- the same; and of three bits there are eight cases.
use mathlib.Core.Path.{◌≡◌, refl, sym, ap, ap₂, ◌∙◌}
use Prim.Native.Nat.{ℕ, zero, suc, ◌+◌, ◌-◌, ◌*◌, ◌/◌, ◌%◌, ◌^◌, ◌<◌}
use native.Mathlib.Nat.{pow-suc}
use native.Mathlib.Omega.{arith}
use lib.Bits.{bit_and, bit_or, bit_xor, and_shr, or_shr, xor_shr, and_mod, or_mod, xor_mod, and_lt, or_lt, xor_lt, and_comm}
use lib.Dec.{eqb}
use Rattle.flow.specs.Choice.{pick}
use Rattle.blocks.specs.Words.{bit, not}
use Rattle.blocks.specs.Functions.{Ch, Parity, Maj, F, G, I}

bit_lt : (i x : ℕ) → bit i x < 2
unfolding bit
bit_lt zero x = omega arith
bit_lt (suc i) x = bit_lt i (x / 2)

-- an operation that works on each bit apart
module _ (op : ℕ → ℕ → ℕ) (half : (x y : ℕ) → op x y / 2 ≡ op (x / 2) (y / 2)) (low : (x y : ℕ) → op x y % 2 ≡ op (x % 2) (y % 2)) where
  bit-of : (i x y : ℕ) → bit i (op x y) ≡ op (bit i x) (bit i y)
  unfolding bit
  bit-of zero x y = low x y
  bit-of (suc i) x y = ap (bit i) (half x y) ∙ bit-of i (x / 2) (y / 2)

pub bit-and : (i x y : ℕ) → bit i (bit_and x y) ≡ bit_and (bit i x) (bit i y)
bit-and = bit-of bit_and (λ x y. and_shr x y 1) (λ x y. and_mod x y 1)

pub bit-or : (i x y : ℕ) → bit i (bit_or x y) ≡ bit_or (bit i x) (bit i y)
bit-or = bit-of bit_or (λ x y. or_shr x y 1) (λ x y. or_mod x y 1)

pub bit-xor : (i x y : ℕ) → bit i (bit_xor x y) ≡ bit_xor (bit i x) (bit i y)
bit-xor = bit-of bit_xor (λ x y. xor_shr x y 1) (λ x y. xor_mod x y 1)

pub bit_not : (k i x : ℕ) → x < 2 ^ k → i < k → bit i (2 ^ k - 1 - x) ≡ 1 - bit i x
unfolding bit
bit_not zero i x p h = absurd (omega arith)
bit_not (suc k) zero x p h = let w = pow-suc 2 k in omega arith
bit_not (suc k) (suc i) x p h =
    let w = pow-suc 2 k in
    let e : (2 ^ suc k - 1 - x) / 2 ≡ 2 ^ k - 1 - x / 2 = omega arith in
    ap (bit i) e ∙ bit_not k i (x / 2) (omega arith) (omega arith)

pub same_bits : (k x y : ℕ) → x < 2 ^ k → y < 2 ^ k → ((i : ℕ) → i < k → bit i x ≡ bit i y) → x ≡ y
unfolding bit
same_bits zero x y p q e = omega arith
same_bits (suc k) x y p q e =
    let w = pow-suc 2 k in
    let high : x / 2 ≡ y / 2 = same_bits k (x / 2) (y / 2) (omega arith) (omega arith) (λ i h. e (suc i) (omega arith)) in
    let low : x % 2 ≡ y % 2 = e 0 (omega arith) in
    omega arith

-- what holds of each three bits
module _ (P : ℕ → ℕ → ℕ → Type 0) where
  cases : P 0 0 0 → P 0 0 1 → P 0 1 0 → P 0 1 1 → P 1 0 0 → P 1 0 1 → P 1 1 0 → P 1 1 1 → (a b c : ℕ) → a < 2 → b < 2 → c < 2 → P a b c
  cases p0 p1 p2 p3 p4 p5 p6 p7 zero zero zero h k l = p0
  cases p0 p1 p2 p3 p4 p5 p6 p7 zero zero (suc zero) h k l = p1
  cases p0 p1 p2 p3 p4 p5 p6 p7 zero (suc zero) zero h k l = p2
  cases p0 p1 p2 p3 p4 p5 p6 p7 zero (suc zero) (suc zero) h k l = p3
  cases p0 p1 p2 p3 p4 p5 p6 p7 (suc zero) zero zero h k l = p4
  cases p0 p1 p2 p3 p4 p5 p6 p7 (suc zero) zero (suc zero) h k l = p5
  cases p0 p1 p2 p3 p4 p5 p6 p7 (suc zero) (suc zero) zero h k l = p6
  cases p0 p1 p2 p3 p4 p5 p6 p7 (suc zero) (suc zero) (suc zero) h k l = p7
  cases p0 p1 p2 p3 p4 p5 p6 p7 (suc (suc a)) b c h k l = absurd (omega arith)
  cases p0 p1 p2 p3 p4 p5 p6 p7 zero (suc (suc b)) c h k l = absurd (omega arith)
  cases p0 p1 p2 p3 p4 p5 p6 p7 (suc zero) (suc (suc b)) c h k l = absurd (omega arith)
  cases p0 p1 p2 p3 p4 p5 p6 p7 zero zero (suc (suc c)) h k l = absurd (omega arith)
  cases p0 p1 p2 p3 p4 p5 p6 p7 zero (suc zero) (suc (suc c)) h k l = absurd (omega arith)
  cases p0 p1 p2 p3 p4 p5 p6 p7 (suc zero) zero (suc (suc c)) h k l = absurd (omega arith)
  cases p0 p1 p2 p3 p4 p5 p6 p7 (suc zero) (suc zero) (suc (suc c)) h k l = absurd (omega arith)

-- Ch on one bit, with the complement 1 - a
abbrev ch₁ : ℕ → ℕ → ℕ → ℕ
ch₁ a b c = bit_xor (bit_and a b) (bit_and (1 - a) c)

module _ (x y z : ℕ) where
  module _ (i : ℕ) where
    -- what holds of each three bits holds of the bits i
    at-bit : (P : ℕ → ℕ → ℕ → Type 0) → P 0 0 0 → P 0 0 1 → P 0 1 0 → P 0 1 1 → P 1 0 0 → P 1 0 1 → P 1 1 0 → P 1 1 1 → P (bit i x) (bit i y) (bit i z)
    at-bit P p0 p1 p2 p3 p4 p5 p6 p7 =
        cases P p0 p1 p2 p3 p4 p5 p6 p7 (bit i x) (bit i y) (bit i z) (bit_lt i x) (bit_lt i y) (bit_lt i z)

    ch-bits : x < 2 ^ 32 → i < 32 → bit i (Ch x y z) ≡ ch₁ (bit i x) (bit i y) (bit i z)
    ch-bits p h =
        bit-xor i _ _ ∙ ap₂ bit_xor (bit-and i x y) (bit-and i (not x) z ∙ ap (λ (n : ℕ). bit_and n (bit i z)) (bit_not 32 i x p h))

    -- FIPS 180-4 4.1.2: where a bit of x is set Ch has y's, else z's
    pub ch-bit : x < 2 ^ 32 → i < 32 → bit i (Ch x y z) ≡ pick (eqb (bit i x) 1) (bit i y) (bit i z)
    unfolding pick
    ch-bit p h = ch-bits p h ∙ at-bit (λ a b c. ch₁ a b c ≡ pick (eqb a 1) b c) refl refl refl refl refl refl refl refl

    -- Maj has the bit that two of the three have, and Parity whether one or all have it
    pub maj-bit : bit i (Maj x y z) ≡ (bit i x + bit i y + bit i z) / 2
    maj-bit =
        bit-xor i _ _ ∙ ap₂ bit_xor (bit-xor i _ _ ∙ ap₂ bit_xor (bit-and i x y) (bit-and i x z)) (bit-and i y z)
        ∙ at-bit (λ a b c. Maj a b c ≡ (a + b + c) / 2) refl refl refl refl refl refl refl refl

    pub parity-bit : bit i (Parity x y z) ≡ (bit i x + bit i y + bit i z) % 2
    parity-bit =
        bit-xor i _ _ ∙ ap (λ (n : ℕ). bit_xor n (bit i z)) (bit-xor i x y)
        ∙ at-bit (λ a b c. Parity a b c ≡ (a + b + c) % 2) refl refl refl refl refl refl refl refl

    -- RFC 1321 3.4: I turns y's bit over where x's is set or z's is not
    pub i-bit : z < 2 ^ 32 → i < 32 → bit i (I x y z) ≡ (bit i y + (1 - bit i z * (1 - bit i x))) % 2
    i-bit p h =
        bit-xor i _ _ ∙ ap (bit_xor (bit i y)) (bit-or i x (not z) ∙ ap (bit_or (bit i x)) (bit_not 32 i z p h))
        ∙ at-bit (λ a b c. bit_xor b (bit_or a (1 - c)) ≡ (b + (1 - c * (1 - a))) % 2) refl refl refl refl refl refl refl refl

    fewer-bits : bit i (bit_xor z (bit_and x (bit_xor y z))) ≡ bit_xor (bit i z) (bit_and (bit i x) (bit_xor (bit i y) (bit i z)))
    fewer-bits = bit-xor i _ _ ∙ ap (bit_xor (bit i z)) (bit-and i _ _ ∙ ap (bit_and (bit i x)) (bit-xor i y z))

    f-bits : x < 2 ^ 32 → i < 32 → bit i (F x y z) ≡ bit_or (bit_and (bit i x) (bit i y)) (bit_and (1 - bit i x) (bit i z))
    f-bits p h =
        bit-or i _ _ ∙ ap₂ bit_or (bit-and i x y) (bit-and i (not x) z ∙ ap (λ (n : ℕ). bit_and n (bit i z)) (bit_not 32 i x p h))

    right-bits : bit i (bit_xor x (bit_xor y z)) ≡ bit_xor (bit i x) (bit_xor (bit i y) (bit i z))
    right-bits = bit-xor i _ _ ∙ ap (bit_xor (bit i x)) (bit-xor i y z)

  -- RFC 1321 3.4: G is F with its arguments turned
  pub g-is-f : G x y z ≡ F z x y
  g-is-f = ap₂ bit_or (and_comm x z) (and_comm y (not z))

  -- of words
  module _ (p : x < 2 ^ 32) (q : y < 2 ^ 32) (r : z < 2 ^ 32) where
    ch-lt : Ch x y z < 2 ^ 32
    ch-lt = xor_lt 32 _ _ (and_lt 32 x y p q) (and_lt 32 (not x) z (omega arith) r)

    -- Ch with one operation less
    pub ch-fewer : bit_xor z (bit_and x (bit_xor y z)) ≡ Ch x y z
    ch-fewer =
        same_bits 32 _ _ (xor_lt 32 _ _ r (and_lt 32 _ _ p (xor_lt 32 _ _ q r))) ch-lt
        (λ i h. fewer-bits i ∙ at-bit i (λ a b c. bit_xor c (bit_and a (bit_xor b c)) ≡ ch₁ a b c) refl refl refl refl refl refl refl refl
        ∙ sym (ch-bits i p h))

    -- RFC 1321's F is FIPS 180-4's Ch: no bit is set on both sides
    pub f-is-ch : F x y z ≡ Ch x y z
    f-is-ch =
        same_bits 32 _ _ (or_lt 32 _ _ (and_lt 32 x y p q) (and_lt 32 (not x) z (omega arith) r)) ch-lt
        (λ i h.
        f-bits i p h
        ∙ at-bit i (λ a b c. bit_or (bit_and a b) (bit_and (1 - a) c) ≡ ch₁ a b c) refl refl refl refl refl refl refl refl ∙ sym (ch-bits i p h))

    -- Parity in any order
    pub parity-right : Parity x y z ≡ bit_xor x (bit_xor y z)
    parity-right =
        same_bits 32 _ _ (xor_lt 32 _ _ (xor_lt 32 x y p q) r) (xor_lt 32 x _ p (xor_lt 32 y z q r))
        (λ i h.
        parity-bit i ∙ at-bit i (λ a b c. (a + b + c) % 2 ≡ bit_xor a (bit_xor b c)) refl refl refl refl refl refl refl refl ∙ sym (right-bits i))
