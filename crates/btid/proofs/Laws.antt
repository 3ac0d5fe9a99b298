-- Laws of base64: the letters of one to three octets, and of a list three octets at a time.
use Prim.Native.Nat.{ℕ, ◌+◌, ◌≤◌, ◌<◌, min}
use native.Mathlib.Omega.{arith}
use mathlib.Core.Path.{◌≡◌, refl, sym, ap, ◌∙◌}
use mathlib.Core.List.{List, [], ◌∷◌, ◌++◌, append-nil, append_assoc}
use lib.ListN.{length, get_or, length-append}
use Rattle.flow.specs.Front.{front, ◌▹◌, Wrote, Put}
use Rattle.flow.proofs.Fronts.{front-none, fields_length, next-put, wrote-length}
use Rattle.btid.specs.Base64.{one_of, two_of, three_of, base64}
use Rattle.btid.specs.Btid.{btid}

pub wrote_as : {x y old new : List ℕ} {r : ℕ} → x ≡ y → Wrote x r old new → Wrote y r old new
wrote_as {old = old} e w = record { count = w.count ∙ ap length e; octets = w.octets ∙ ap (λ (l : List ℕ). front l old) e }

-- the letters of a group
pub one_letters : (g : List ℕ) → length g ≡ 1 → one_of (get_or g 0 0) ≡ base64 g
unfolding base64
one_letters [] h = absurd (omega arith)
one_letters (a ∷ []) h = refl
one_letters (a ∷ b ∷ g) h = absurd (omega arith)

pub two_letters : (g : List ℕ) → length g ≡ 2 → two_of (get_or g 0 0) (get_or g 1 0) ≡ base64 g
unfolding base64
two_letters [] h = absurd (omega arith)
two_letters (a ∷ []) h = absurd (omega arith)
two_letters (a ∷ b ∷ []) h = refl
two_letters (a ∷ b ∷ c ∷ g) h = absurd (omega arith)

pub three_letters : (g : List ℕ) → length g ≡ 3 → three_of (get_or g 0 0) (get_or g 1 0) (get_or g 2 0) ≡ base64 g
unfolding base64
three_letters [] h = absurd (omega arith)
three_letters (a ∷ []) h = absurd (omega arith)
three_letters (a ∷ b ∷ []) h = absurd (omega arith)
three_letters (a ∷ b ∷ c ∷ []) h = refl
three_letters (a ∷ b ∷ c ∷ d ∷ g) h = absurd (omega arith)

-- a group is three octets, or all that are left where these are fewer
pub group_on : (g rest : List ℕ) → length g ≡ min 3 (length (g ++ rest)) → 0 < length (g ++ rest) → base64 (g ++ rest) ≡ base64 g ++ base64 rest
unfolding base64
group_on [] [] h k = refl
group_on [] (a ∷ rest) h k = absurd (omega arith)
group_on (a ∷ []) [] h k = refl
group_on (a ∷ []) (b ∷ rest) h k = absurd (omega arith)
group_on (a ∷ b ∷ []) [] h k = refl
group_on (a ∷ b ∷ []) (c ∷ rest) h k = absurd (omega arith)
group_on (a ∷ b ∷ c ∷ []) rest h k = refl
group_on (a ∷ b ∷ c ∷ d ∷ g) rest h k = absurd (omega arith)

-- the letters of the groups before the rest stand in front
pub record Going (s rest old out : List ℕ) (at : ℕ) : Type 0 where
  pub letters : List ℕ
  pub seam : base64 s ≡ letters ++ base64 rest
  pub front : Wrote letters at old out

pub going_none : (s old : List ℕ) → Going s s old old 0
going_none s old = record { letters = []; seam = refl; front = record { count = refl; octets = sym (front-none old) } }

pub going_done : (s rest old out : List ℕ) (at : ℕ) → Going s rest old out at → length rest ≡ 0 → Wrote (base64 s) at old out
unfolding base64
going_done s [] old out at g h = wrote_as (sym (append-nil g.letters) ∙ sym g.seam) g.front
going_done s (a ∷ rest) old out at g h = absurd (omega arith)

-- one group more
module _ (s rest old out : List ℕ) (at : ℕ) (w : Going s rest old out at) (g more : List ℕ) (split : rest ≡ g ++ more)
    (size : length g ≡ min 3 (length rest)) (some : 0 < length rest) where
  seam-more : base64 s ≡ (w.letters ++ base64 g) ++ base64 more
  seam-more =
      let e : base64 rest ≡ base64 g ++ base64 more = ap base64 split ∙ group_on g more (rw split at size) (rw split at some) in
      w.seam ∙ ap (λ (l : List ℕ). w.letters ++ l) e ∙ sym (append_assoc w.letters (base64 g) (base64 more))

  pub going_room : length (base64 s) ≤ length old → at + length (base64 g) ≤ length out
  going_room h =
      let l = simp length-append at (ap length seam-more) in
      let c = w.front.count in
      omega (arith, wrote-length w.letters at old out w.front (omega arith))

  pub going_more : (new : List ℕ) (end : ℕ) → Put (base64 g) at end out new → Going s more old new end
  unfolding ◌▹◌
  going_more new end p = record { letters = w.letters ++ base64 g; seam = seam-more; front = next-put w.letters (base64 g) at end old out new p w.front }

pub btid_size : (rand domain : List ℕ) → length (btid rand domain) ≡ length (base64 rand) + 1 + length domain
unfolding btid
btid_size rand domain = simp fields_length
