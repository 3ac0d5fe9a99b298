-- The functions of three words that the rounds of the hash functions share.
use Rattle.std.specs.Prelude.{ℕ}
use Rattle.std.specs.Int.Bits.{bit_and, bit_or, bit_xor}
use Rattle.blocks.specs.Words.{not}

-- FIPS 180-4 4.1.1 and 4.1.2
abbrev pub Ch : ℕ → ℕ → ℕ → ℕ
Ch x y z = bit_xor (bit_and x y) (bit_and (not x) z)

abbrev pub Parity : ℕ → ℕ → ℕ → ℕ
Parity x y z = bit_xor (bit_xor x y) z

abbrev pub Maj : ℕ → ℕ → ℕ → ℕ
Maj x y z = bit_xor (bit_xor (bit_and x y) (bit_and x z)) (bit_and y z)

-- RFC 1321 3.4; its H is Parity
abbrev pub F : ℕ → ℕ → ℕ → ℕ
F x y z = bit_or (bit_and x y) (bit_and (not x) z)

abbrev pub G : ℕ → ℕ → ℕ → ℕ
G x y z = bit_or (bit_and x z) (bit_and y (not z))

abbrev pub I : ℕ → ℕ → ℕ → ℕ
I x y z = bit_xor y (bit_or x (not z))
