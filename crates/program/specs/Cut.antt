-- Input that may still be arriving: whether it ends within a field.
use Rattle.std.specs.Prelude.{ℕ, zero, suc, ◌+◌, Bool, true, false, Result, Ok, Err, List, length, get_or, ltb}
use Rattle.limits.specs.Limits.{GROUPS}
use Rattle.flow.specs.Choice.{pick}
use Rattle.line.specs.Number.{number_at, with_num}
use Rattle.line.specs.Text.{octets_at, text_at, with_span}
use Rattle.line.specs.declared.Span.{Span}
use Rattle.program.specs.declared.Stop.{Stop}
use Rattle.program.specs.declared.Stop.TheVariants.{More, Bad}

-- before a number of at most k octets ends: each octet that is there has its top bit set
unfoldable pub cut_in : ℕ → List ℕ → ℕ → Bool
cut_in zero s at = false
cut_in (suc k) s at = pick (ltb at (length s)) (pick (ltb (get_or s at 0) 128) false (cut_in k s (at + 1))) true

-- within a number: no number has more than GROUPS octets
abbrev pub cut_number : List ℕ → ℕ → Bool
cut_number s at = cut_in GROUPS s at

-- within a text of lo to hi octets: within its length, or where that is in range, before its last octet
abbrev pub cut_text : List ℕ → ℕ → ℕ → ℕ → Bool
cut_text s at lo hi =
    with_num (cut_number s at) (number_at s at hi) λ n start.
    pick (ltb n lo) false
    (with_span true (octets_at s start n) λ a z. false)

-- a field that is not there asks for more input where the input ends within it; else no further octet can mend it
abbrev pub stopped : Bool → Stop
stopped cut = pick cut More Bad

-- a number and the place after it, or why there is none
abbrev pub number_in : List ℕ → ℕ → ℕ → Result (ℕ × ℕ) Stop
number_in s at max = with_num (Err (stopped (cut_number s at))) (number_at s at max) λ n next. Ok (n, next)

-- where a text's octets stand, or why they don't
abbrev pub text_in : List ℕ → ℕ → ℕ → ℕ → Result Span Stop
text_in s at lo hi = with_span (Err (stopped (cut_text s at lo hi))) (text_at s at lo hi) λ start end. Ok (record { start = start; end = end })

-- goes on with what was read, or ends for the reason that it gives
unfoldable pub with_read : {A B : Type 0} → Result A Stop → (A → Result B Stop) → Result B Stop
with_read (Ok a) f = f a
with_read (Err e) f = Err e
