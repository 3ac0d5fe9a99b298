-- From what the readers of the input answered back to what stands there.
use Rattle.std.proofs.Common.{ℕ, ◌≡◌, ap, List, Option, Some, None, Result, Ok, Err, arith}
use Rattle.limits.specs.Limits.{BODY}
use Rattle.line.specs.Number.{Num, number_at, value, with_num, After}
use Rattle.line.specs.Text.{text_at, span, with_span, Inside}
use Rattle.line.specs.declared.Span.{Span}
use Rattle.line.proofs.Texts.{text-inside, text-after}
use Rattle.program.specs.Cut.{number_in, text_in}
use Rattle.program.specs.Frame.{frame_at}
use Rattle.program.specs.declared.Stop.{Stop}

-- what was read, where one thing was read
read_or : {A : Type 0} → A → Result A Stop → A
read_or d (Ok a) = a
read_or d (Err e) = d

pub one_read : {A : Type 0} (a b : A) → ◌≡◌ {A = Result A Stop} (Ok a) (Ok b) → a ≡ b
unfolding read_or
one_read a b e = ap (read_or a) e

pub not_read : {A : Type 0} (e : Stop) (a : A) → ◌≡◌ {A = Result A Stop} (Err e) (Ok a) → ⊥
not_read e a h = let z : ◌≡◌ {A = ℕ} 0 1 = cc in omega arith

pub number_back : (s : List ℕ) (at max : ℕ) (r : ℕ × ℕ) → number_in s at max ≡ Ok r → number_at s at max ≡ value r.0 r.1
unfolding with_num
number_back s at max r e = go (number_at s at max) _ e
  where
    go : (x : Num) (why : Stop) → with_num (Err why) x (λ n next. Ok (n, next)) ≡ Ok r → x ≡ value r.0 r.1
    go (Some (v, next)) why h = ap Some (one_read _ _ h)
    go None why h = absurd (not_read why r h)

pub text_back : (s : List ℕ) (at lo hi : ℕ) (r : Span) → text_in s at lo hi ≡ Ok r → text_at s at lo hi ≡ span r.start r.end
unfolding with_span
text_back s at lo hi r e = go (text_at s at lo hi) _ e
  where
    go : (x : Option Span) (why : Stop) → with_span (Err why) x (λ start end. Ok (record { start = start; end = end })) ≡ Ok r → x ≡ span r.start r.end
    go (Some y) why h = ap Some (one_read _ _ h)
    go None why h = absurd (not_read why r h)

-- ---- what was read lies inside the input

-- a body, and the length before it
pub record Framed (s : List ℕ) (at start end : ℕ) : Type 0 where
  pub body : Inside s 1 BODY start end
  pub after : After s at end

pub framed : (s : List ℕ) (at : ℕ) (body : Span) → frame_at s at ≡ Ok body → Framed s at body.start body.end
unfolding frame_at
framed s at body e =
    let t = text_back s at 1 BODY body e in
    record { body = text-inside s at 1 BODY body.start body.end t; after = text-after s at 1 BODY body.start body.end t }
