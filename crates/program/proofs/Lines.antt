-- Laws of printed numbers and octets: how long they are, and how one more digit, or one more octet, is put after those before.
use Prim.Native.Nat.{ℕ, zero, suc, ◌+◌, ◌-◌, ◌*◌, ◌/◌, ◌%◌, ◌^◌, ◌≤◌, ◌<◌}
use native.Mathlib.Nat.{pow-succ'}
use native.Mathlib.Numerals.{add-one, sub-one}
use native.Mathlib.Omega.{arith}
use mathlib.Core.Path.{◌≡◌, refl, sym, ap, ap₂, ◌∙◌}
use mathlib.Core.Bool.{Bool, true, false}
use mathlib.Core.List.{List, [], ◌∷◌, ◌++◌, append-nil}
use lib.Dec.{ltb, eqb}
use lib.ListN.{length, take, get_or, take-append-drop}
use lib.Seq.{take-suc, take_all, length-take-le}
use borrow.Author.Tests.{lt-ltb, le-ltb}
use Rattle.limits.specs.Limits.{DIGITS}
use Rattle.flow.specs.Choice.{pick}
use Rattle.flow.specs.Front.{◌▹◌, front, Put}
use Rattle.flow.proofs.Choices.{pick_all}
use Rattle.flow.proofs.Fronts.{fields_length, fields_assoc, then_put, put_as}
use Rattle.program.specs.Printed.{digit, decimal_in, decimal, pair, hex, dash, shown, line_of, line_room}

-- ---- decimal

pub decimal-last : (k n : ℕ) → n < 10 → decimal_in k n ≡ digit n ∷ []
unfolding decimal_in pick
decimal-last zero n h = refl
decimal-last (suc k) n h = simp (lt-ltb _ _ h)

decimal-more : (k n : ℕ) → 10 ≤ n → decimal_in (suc k) n ≡ decimal_in k (n / 10) ▹ (digit (n % 10) ∷ [])
unfolding decimal_in pick
decimal-more k n h = simp (le-ltb _ _ h)

pub decimal-next : (k n : ℕ) → 10 ≤ n → n < 10 ^ (k + 1) → decimal_in k n ≡ decimal_in (k - 1) (n / 10) ▹ (digit (n % 10) ∷ [])
decimal-next zero n h l = absurd (omega arith)
decimal-next (suc k) n h l = rw sub-one (decimal-more k n h)

-- a number that is not its own last digit has room for one more
pub more_digits : (k n : ℕ) → 10 ≤ n → n < 10 ^ (k + 1) → 1 ≤ k
more_digits zero n h l = omega arith
more_digits (suc k) n h l = omega arith

pub fewer : (k n : ℕ) → 10 ≤ n → n < 10 ^ (k + 1) → n / 10 < 10 ^ (k - 1 + 1)
fewer zero n h l = omega arith
fewer (suc k) n h l = rw (sub-one, add-one) (omega (arith, pow-succ' 10 (suc k), ap (λ (j : ℕ). 10 ^ j) (add-one (suc k))))

pub decimal-length : (k n : ℕ) → length (decimal_in k n) ≤ k + 1
unfolding decimal_in pick
decimal-length zero n = omega arith
decimal-length (suc k) n = go (ltb n 10) (decimal-length k (n / 10))
  where
    go : (u : Bool) → length (decimal_in k (n / 10)) ≤ k + 1 → length (pick u (digit n ∷ []) (decimal_in k (n / 10) ▹ (digit (n % 10) ∷ []))) ≤ suc k + 1
    go true h = omega arith
    go false h = rw fields_length (omega arith)

decimal_any : (n : ℕ) → length (decimal n) ≤ DIGITS
decimal_any n = decimal-length (DIGITS - 1) n

-- the room that a number asks for at a place, and where it ends
pub decimal-fits : (n at room : ℕ) → at + DIGITS ≤ room → at + length (decimal n) ≤ room
decimal-fits n at room h = omega (arith, decimal_any n)

pub decimal_ends : (n at end : ℕ) (old new : List ℕ) → Put (decimal n) at end old new → end ≤ at + DIGITS
decimal_ends n at end old new p = omega (arith, p.place, decimal_any n)

-- the digits before the last leave room for it
pub digits_room : (k n : ℕ) → 10 ≤ n → n < 10 ^ (k + 1) → length (decimal_in k n) ≡ length (decimal_in (k - 1) (n / 10)) + 1
digits_room k n h l = ap length (decimal-next k n h l) ∙ fields_length (decimal_in (k - 1) (n / 10)) (digit (n % 10) ∷ [])

-- ---- hex

pub hex-length : (s : List ℕ) → length (hex s) ≡ 2 * length s
unfolding hex
hex-length [] = refl
hex-length (b ∷ s) = rw (fields_length (pair b) (hex s), fields_length (digit (b / 16) ∷ []) (digit (b % 16) ∷ [])) (omega (arith, hex-length s))

hex_append : (s t : List ℕ) → hex (s ++ t) ≡ hex s ▹ hex t
unfolding hex ◌▹◌
hex_append [] t = refl
hex_append (b ∷ s) t = ap (λ (l : List ℕ). pair b ▹ l) (hex_append s t) ∙ sym (fields_assoc (pair b) (hex s) (hex t))

hex-one : (b : ℕ) → hex (b ∷ []) ≡ pair b
unfolding hex ◌▹◌
hex-one b = append-nil (pair b)

pub hex-more : (s : List ℕ) (i : ℕ) → i < length s → hex (take (i + 1) s) ≡ hex (take i s) ▹ pair (get_or s i 0)
hex-more s i h =
    ap hex (ap (λ (k : ℕ). take k s) (add-one i) ∙ take-suc s i 0 h) ∙ hex_append (take i s) (get_or s i 0 ∷ [])
    ∙ ap (λ (l : List ℕ). hex (take i s) ▹ l) (hex-one (get_or s i 0))

-- ---- what is put

-- one digit, whichever way it was made
digit-is : (d e : ℕ) → d ≡ e → d ∷ [] ≡ e ∷ []
digit-is d e p = ap (λ (x : ℕ). x ∷ []) p

module _ (k n at : ℕ) (old new : List ℕ) (d : ℕ) where
  pub last-put : (end : ℕ) → n < 10 → d ≡ digit n → Put (d ∷ []) at end old new → Put (decimal_in k n) at end old new
  last-put end h e p = put_as _ _ at end old new (digit-is d (digit n) e ∙ sym (decimal-last k n h)) p

  pub more-put : (mid end : ℕ) (m : List ℕ) → 10 ≤ n → n < 10 ^ (k + 1) → at + length (decimal_in k n) ≤ length old → d ≡ digit (n % 10)
      → Put (decimal_in (k - 1) (n / 10)) at mid old m → Put (d ∷ []) mid end m new → Put (decimal_in k n) at end old new
  more-put mid end m h l r e p q =
      put_as _ _ at end old new (ap (λ (x : List ℕ). decimal_in (k - 1) (n / 10) ▹ x) (digit-is d (digit (n % 10)) e) ∙ sym (decimal-next k n h l))
      (then_put (decimal_in (k - 1) (n / 10)) (d ∷ []) at mid end old m new (omega arith) p q)

  -- one digit has room
  pub last-room : n < 10 → at + length (decimal_in k n) ≤ length old → at + 1 ≤ length old
  last-room h r = omega (arith, ap length (decimal-last k n h))

  pub before-room : 10 ≤ n → n < 10 ^ (k + 1) → at + length (decimal_in k n) ≤ length old → at + length (decimal_in (k - 1) (n / 10)) ≤ length old
  before-room h l r = omega (arith, digits_room k n h l)

  pub after-room : (mid : ℕ) (m : List ℕ) → 10 ≤ n → n < 10 ^ (k + 1) → at + length (decimal_in k n) ≤ length old
      → Put (decimal_in (k - 1) (n / 10)) at mid old m → mid + 1 ≤ length old
  after-room mid m h l r p = omega (arith, digits_room k n h l, p.place)

pub pair_put : (b at mid end : ℕ) (old m new : List ℕ) (d e : ℕ) → at + 2 ≤ length old → d ≡ digit (b / 16) → e ≡ digit (b % 16)
    → Put (d ∷ []) at mid old m → Put (e ∷ []) mid end m new → Put (pair b) at end old new
pair_put b at mid end old m new d e h p q u v =
    put_as _ _ at end old new (ap₂ (λ (x y : List ℕ). x ▹ y) (digit-is d (digit (b / 16)) p) (digit-is e (digit (b % 16)) q))
    (then_put (d ∷ []) (e ∷ []) at mid end old m new (omega arith) u v)

-- i octets of s have been put
pub record Hexed (s : List ℕ) (at i next : ℕ) (old new : List ℕ) : Type 0 where
  pub within : i ≤ length s
  pub put : Put (hex (take i s)) at next old new
  pub long : length new ≡ length old

pub hexed_none : (s : List ℕ) (at : ℕ) (old : List ℕ) → Hexed s at 0 at old old
unfolding hex front
hexed_none s at old = record { within = omega arith; put = record { place = omega arith; octets = sym (take-append-drop at old) }; long = refl }

module _ (s : List ℕ) (at i next : ℕ) (old new : List ℕ) (w : Hexed s at i next old new) where
  hexed_place : next ≡ at + 2 * i
  hexed_place = omega (arith, w.put.place, hex-length (take i s), length-take-le i s w.within)

  pub hexed_room : at + 2 * length s ≤ length old → i < length s → next + 2 ≤ length new
  hexed_room r h = omega (arith, hexed_place, w.long)

  pub hexed_more : (end : ℕ) (last : List ℕ) → at + 2 * length s ≤ length old → i < length s → length last ≡ length new
      → Put (pair (get_or s i 0)) next end new last → Hexed s at (i + 1) end old last
  hexed_more end last r h l p =
      record {
        within = omega arith;
        put =
            put_as _ _ at end old last (sym (hex-more s i h)) (then_put (hex (take i s)) (pair (get_or s i 0)) at next end old new last (omega arith) w.put p);
        long = l ∙ w.long;
      }

  pub hexed_all : length s ≤ i → Put (hex s) at next old new
  hexed_all h = put_as _ _ at next old new (ap hex (take_all i s (omega arith))) w.put

-- ---- the answer, or "-"

shown-room : (answer : List ℕ) → length (shown answer) ≤ 1 + 2 * length answer
shown-room answer =
    pick_all (λ l. length l ≤ 1 + 2 * length answer) (eqb (length answer) 0) dash (hex answer) (λ _. omega arith) (λ _. omega (arith, hex-length answer))

module _ (answer : List ℕ) (at end : ℕ) (old new : List ℕ) where
  pub shown_ends : Put (shown answer) at end old new → end ≤ at + 1 + 2 * length answer
  shown_ends p = omega (arith, p.place, shown-room answer)

-- how long a line may be
pub line-long : (place number : ℕ) (answer : List ℕ) → length (line_of place number answer) ≤ line_room (length answer)
line-long place number answer =
    rw (fields_length, fields_length, fields_length, fields_length, fields_length)
    (omega (arith, decimal_any place, decimal_any number, shown-room answer))
