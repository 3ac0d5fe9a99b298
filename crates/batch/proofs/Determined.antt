-- Two batches that meet the promise are equal. Each run of events is so many turns of one function, and before each turn there was room and an
-- event; so the shorter of two runs could have gone on, and its end says that it couldn't.
use Prim.Native.Nat.{ℕ, zero, suc, ◌+◌, ◌≤◌, ◌<◌}
use native.Mathlib.Nat.{eq-or-lt_of_le}
use native.Mathlib.Omega.{arith}
use mathlib.Core.Path.{◌≡◌, refl, sym, ap, subst, subst⁻¹, ◌∙◌}
use mathlib.Core.Logic.{⊎_elim}
use mathlib.Core.List.{List, []}
use lib.Dec.{leb}
use lib.ListN.{length}
use borrow.Author.Tests.{leb-true, leb-false}
use Rattle.flow.specs.Front.{◌▹◌, front}
use Rattle.flow.proofs.Choices.{split}
use Rattle.std.specs.Prelude.{Result, Ok, Err}
use Rattle.line.specs.declared.Span.{Span}
use Rattle.limits.specs.Limits.{LINE}
use Rattle.shelves.specs.declared.Shelf.{Shelf}
use Rattle.tables.specs.declared.State.{State}
use Rattle.program.specs.Frame.{frame_at}
use Rattle.program.specs.declared.Stop.{Stop}
use Rattle.program.specs.declared.Stop.TheVariants.{More as StopMore, Bad as StopBad}
use Rattle.batch.specs.Batch.{next_of, event_line, body_of, Ran, none, one, last_line, Ended, Served}
use Rattle.batch.specs.declared.Why.{Why}
use Rattle.batch.specs.declared.Why.TheVariants.{More, Full, Bad}
use Rattle.batch.specs.declared.Batch.{Batch}

unfoldable frame_no : Result Span Stop → ℕ
frame_no (Ok x) = 0
frame_no (Err StopMore) = 1
frame_no (Err StopBad) = 2

-- where a run of events stands
record Spot : Type 0 where
  lines : List ℕ
  state : State
  at : ℕ
  place : ℕ

module _ (shelf : Shelf) (input : List ℕ) (room : ℕ) (s : State) (from first : ℕ) where
  unfoldable moved : Result Span Stop → Spot → Spot
  moved (Ok f) x =
      record {
        lines = x.lines ▹ event_line x.place x.state shelf (body_of input f);
        state = next_of x.state shelf (body_of input f);
        at = f.end;
        place = x.place + 1;
      }
  moved (Err e) x = x

  unfoldable turns : ℕ → Spot
  turns zero = record { lines = []; state = s; at = from; place = first }
  turns (suc n) = moved (frame_at input (turns n).at) (turns n)

  -- there was room for a line, and an event
  record Next (x : Spot) : Type 0 where
    frame : Span
    fits : length x.lines + LINE ≤ room
    body : frame_at input x.at ≡ Ok frame

  record Turned (x : Spot) : Type 0 where
    count : ℕ
    is : x ≡ turns count
    next : (k : ℕ) → k < count → Next (turns k)

  turned : {lines : List ℕ} {t : State} {at place : ℕ} → Ran shelf input room s from first lines t at place → Turned (record { lines = lines; state = t; at = at; place = place })
  unfolding turns moved
  turned none = record { count = 0; is = refl; next = λ k h. absurd (omega (arith, h)) }
  turned (one {lines = lines} {t = t} {at = at} {place = place} f r fits body) =
      let past = turned r in
      let now : Next (turns past.count) = subst Next past.is (record { frame = f; fits = fits; body = body }) in
      record {
        count = suc past.count;
        is = ap (λ g. moved g (record { lines = lines; state = t; at = at; place = place })) (sym body) ∙ ap (λ (x : Spot). moved (frame_at input x.at) x) past.is;
        next = λ k h. ⊎_elim (λ (e : k ≡ past.count). subst⁻¹ (λ k. Next (turns k)) e now) (λ l. past.next k l) (eq-or-lt_of_le (omega (arith, h)));
      }

  -- what the end of a batch says: no event came next
  stopped : (why : Why) (x : Spot) → Ended why input room x.at (length x.lines) → Next x → ⊥
  unfolding Ended frame_no
  stopped More x e n = let k : ◌≡◌ {A = ℕ} 1 0 = ap frame_no (sym e.1 ∙ n.body) in omega (arith, k)
  stopped Full x e n = omega (arith, n.fits)
  stopped Bad x e n = let k : ◌≡◌ {A = ℕ} 2 0 = ap frame_no (sym e.1 ∙ n.body) in omega (arith, k)

  -- two runs that have ended stand at one spot
  one_spot : (x y : Spot) (why why' : Why) → Turned x → Turned y → Ended why input room x.at (length x.lines) → Ended why' input room y.at (length y.lines) → x ≡ y
  one_spot x y why why' t u d e =
      ⊎_elim (λ h. ordered x y why t u d (omega (arith, leb-true t.count u.count h))) (λ h. sym (ordered y x why' u t e (omega (arith, leb-false t.count u.count h)))) (split (leb t.count u.count))
    where
      ordered : (x y : Spot) (why : Why) (t : Turned x) (u : Turned y) → Ended why input room x.at (length x.lines) → t.count ≤ u.count → x ≡ y
      ordered x y why t u d h =
          ⊎_elim (λ e. t.is ∙ ap turns e ∙ sym u.is) (λ l. absurd (stopped why x d (subst⁻¹ Next t.is (u.next t.count l)))) (eq-or-lt_of_le h)

  one-why : (why why' : Why) (at len : ℕ) → Ended why input room at len → Ended why' input room at len → why ≡ why'
  unfolding Ended frame_no
  one-why More More at len d e = refl
  one-why More Full at len d e = absurd (omega (arith, d.0))
  one-why More Bad at len d e = let k : ◌≡◌ {A = ℕ} 1 2 = ap frame_no (sym d.1 ∙ e.1) in absurd (omega (arith, k))
  one-why Full More at len d e = absurd (omega (arith, e.0))
  one-why Full Full at len d e = refl
  one-why Full Bad at len d e = absurd (omega (arith, e.0))
  one-why Bad More at len d e = let k : ◌≡◌ {A = ℕ} 2 1 = ap frame_no (sym d.1 ∙ e.1) in absurd (omega (arith, k))
  one-why Bad Full at len d e = absurd (omega (arith, d.0))
  one-why Bad Bad at len d e = refl

pub record Equal (t t' : State) (r r' : Batch) (new new' : List ℕ) : Type 0 where
  pub state : t ≡ t'
  pub batch : r ≡ r'
  pub buffer : new ≡ new'

module _ (shelf : Shelf) (input : List ℕ) (s : State) (from first : ℕ) (t t' : State) (r r' : Batch) (old new new' : List ℕ)
    (m : Served shelf input s from first t r old new) (m' : Served shelf input s from first t' r' old new') where
  at_spot : ◌≡◌ {A = Spot} (record { lines = m.lines; state = t; at = r.at; place = r.place }) (record { lines = m'.lines; state = t'; at = r'.at; place = r'.place })
  at_spot = one_spot shelf input (length old) s from first _ _ r.why r'.why (turned shelf input (length old) s from first m.ran) (turned shelf input (length old) s from first m'.ran) m.ended m'.ended

  why-is : r.why ≡ r'.why
  why-is =
      one-why shelf input (length old) s from first r.why r'.why r.at (length m.lines) m.ended
      (subst⁻¹ (λ (x : Spot). Ended r'.why input (length old) x.at (length x.lines)) at_spot m'.ended)

  lines_are : m.lines ▹ last_line r.why r.place ≡ m'.lines ▹ last_line r'.why r'.place
  lines_are = ap (λ (x : Spot). x.lines ▹ last_line r.why x.place) at_spot ∙ ap (λ w. m'.lines ▹ last_line w r'.place) why-is

  len_is : r.len ≡ r'.len
  len_is = m.wrote.count ∙ ap length lines_are ∙ sym m'.wrote.count

  pub determined : Equal t t' r r' new new'
  determined =
      record {
        state = ap (λ (x : Spot). x.state) at_spot;
        batch =
            ap (λ (x : Spot). record { at = x.at; place = x.place; len = r.len; why = r.why }) at_spot
            ∙ ap (λ n. record { at = r'.at; place = r'.place; len = n; why = r.why }) len_is
            ∙ ap (λ w. record { at = r'.at; place = r'.place; len = r'.len; why = w }) why-is;
        buffer = m.wrote.octets ∙ ap (λ x. front x old) lines_are ∙ sym m'.wrote.octets;
      }
