-- 01, "The event program": it prints per event its place from 1, the returned number, and the answer in lower-case hex or "-".
use Rattle.std.specs.Prelude.{ℕ, zero, suc, ◌+◌, ◌-◌, ◌*◌, ◌/◌, ◌%◌, List, [], ◌∷◌, length, ltb, eqb}
use Rattle.limits.specs.Limits.{DIGITS}
use Rattle.flow.specs.Choice.{pick}
use Rattle.flow.specs.Front.{◌▹◌}

-- the letter of a digit below 16: "0" to "9", "a" to "f"
abbrev pub digit : ℕ → ℕ
digit d = pick (ltb d 10) (48 + d) (87 + d)

-- the decimal digits of n, of which at most k stand before the last
unfoldable pub decimal_in : ℕ → ℕ → List ℕ
decimal_in zero n = digit n ∷ []
decimal_in (suc k) n = pick (ltb n 10) (digit n ∷ []) (decimal_in k (n / 10) ▹ (digit (n % 10) ∷ []))

-- a number in decimal
abbrev pub decimal : ℕ → List ℕ
decimal n = decimal_in (DIGITS - 1) n

-- an octet, and octets, in hex
abbrev pub pair : ℕ → List ℕ
pair b = (digit (b / 16) ∷ []) ▹ (digit (b % 16) ∷ [])

unfoldable pub hex : List ℕ → List ℕ
hex [] = []
hex (b ∷ s) = pair b ▹ hex s

-- " ", "-" and the end of a line
abbrev pub blank : List ℕ
blank = 32 ∷ []

abbrev pub dash : List ℕ
dash = 45 ∷ []

abbrev pub newline : List ℕ
newline = 10 ∷ []

-- the answer in hex, or "-" where there is none
abbrev pub shown : List ℕ → List ℕ
shown answer = pick (eqb (length answer) 0) dash (hex answer)

abbrev pub line_of : ℕ → ℕ → List ℕ → List ℕ
line_of place number answer = decimal place ▹ blank ▹ decimal number ▹ blank ▹ shown answer ▹ newline

-- the longest line of an answer of n octets: two numbers, each with a blank after it, "-" and newline, and two digits for each octet
abbrev pub line_room : ℕ → ℕ
line_room n = DIGITS + 1 + (DIGITS + 1) + (1 + 1) + 2 * n
