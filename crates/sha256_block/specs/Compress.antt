-- FIPS 180-4 6.2.2: what a block makes of a hash value.
use Rattle.std.specs.Prelude.{ℕ, List, slice_index}
use Rattle.blocks.specs.Words.{word, add}
use Rattle.blocks.specs.Functions.{Ch, Maj}
use Rattle.blocks.specs.Schedule.{schedule}
use Rattle.blocks.specs.Blocks.{steps}
use Rattle.sha256_block.specs.Words.{Σ0, Σ1, σ0, σ1, K}
use Rattle.sha256_block.specs.declared.Hash.{Hash}

-- the rounds, and the words of the message schedule
abbrev pub ROUNDS : ℕ
ROUNDS = 64

-- step 1: W_t for t from 16 on, where `W d` is W_{t-d}: σ1(W_{t-2}) + W_{t-7} + σ0(W_{t-15}) + W_{t-16}
unfoldable pub mixed : (ℕ → ℕ) → ℕ
mixed W = add (add (add (σ1 (W 2)) (W 7)) (σ0 (W 15))) (W 16)

-- the message schedule of the block b
unfoldable pub W : List ℕ → List ℕ
W b = schedule (word b) mixed ROUNDS

-- step 3: a round, with the constant k and the schedule's word w
unfoldable pub T1 : Hash → ℕ → ℕ → ℕ
T1 s k w = add (add (add (add s.h (Σ1 s.e)) (Ch s.e s.f s.g)) k) w

unfoldable pub T2 : Hash → ℕ
T2 s = add (Σ0 s.a) (Maj s.a s.b s.c)

unfoldable pub round_of : Hash → ℕ → ℕ → Hash
round_of s k w = record {
  a = add (T1 s k w) (T2 s);
  b = s.a;
  c = s.b;
  d = s.c;
  e = add s.d (T1 s k w);
  f = s.e;
  g = s.f;
  h = s.g;
}

-- the first n rounds over the schedule w, from the working variables s
unfoldable pub rounds : List ℕ → Hash → ℕ → Hash
rounds w s n = steps (λ t v. round_of v (slice_index K t) (slice_index w t)) s n

-- step 4: the sum, word by word
unfoldable pub sum_of : Hash → Hash → Hash
sum_of x y = record {
  a = add x.a y.a;
  b = add x.b y.b;
  c = add x.c y.c;
  d = add x.d y.d;
  e = add x.e y.e;
  f = add x.f y.f;
  g = add x.g y.g;
  h = add x.h y.h;
}

-- the hash value after the block b, from the hash value x before it
unfoldable pub compress_of : Hash → List ℕ → Hash
compress_of x b = sum_of x (rounds (W b) x ROUNDS)
