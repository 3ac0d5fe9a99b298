-- RFC 3548, section 3: three octets are 24 bits, and these are four groups of six bits, each a letter of the alphabet.
use Rattle.std.specs.Prelude.{ℕ, ◌+◌, ◌-◌, ◌*◌, ◌/◌, ◌%◌, ◌&&◌, List, [], ◌∷◌, ◌++◌, ltb, leb, eqb}
use Rattle.flow.specs.Choice.{pick}

-- Table 1, the alphabet: A to Z, a to z, 0 to 9, + and /
abbrev pub letter_of : ℕ → ℕ
letter_of n = pick (ltb n 26) (n + 0x41) (pick (ltb n 52) (n - 26 + 0x61) (pick (ltb n 62) (n - 52 + 0x30) (pick (eqb n 62) 0x2b 0x2f)))

-- the table read the other way: the six bits of a letter, and 64 for what is no letter
unfoldable pub six_of : ℕ → ℕ
six_of l =
    pick (leb 0x41 l && leb l 0x5a) (l - 0x41)
    (pick (leb 0x61 l && leb l 0x7a) (l - 0x61 + 26) (pick (leb 0x30 l && leb l 0x39) (l - 0x30 + 52) (pick (eqb l 0x2b) 62 (pick (eqb l 0x2f) 63 64))))

-- =
abbrev pub PAD : ℕ
PAD = 0x3d

abbrev pub three_of : ℕ → ℕ → ℕ → List ℕ
three_of a b c = letter_of (a / 4) ∷ letter_of (a % 4 * 16 + b / 16) ∷ letter_of (b % 16 * 4 + c / 64) ∷ letter_of (c % 64) ∷ []

-- fewer than 24 bits at the end: zero bits are added on the right up to a whole group of six, and pads up to four letters
abbrev pub one_of : ℕ → List ℕ
one_of a = letter_of (a / 4) ∷ letter_of (a % 4 * 16) ∷ PAD ∷ PAD ∷ []

abbrev pub two_of : ℕ → ℕ → List ℕ
two_of a b = letter_of (a / 4) ∷ letter_of (a % 4 * 16 + b / 16) ∷ letter_of (b % 16 * 4) ∷ PAD ∷ []

unfoldable pub base64 : List ℕ → List ℕ
base64 [] = []
base64 (a ∷ []) = one_of a
base64 (a ∷ b ∷ []) = two_of a b
base64 (a ∷ b ∷ c ∷ s) = three_of a b c ++ base64 s
