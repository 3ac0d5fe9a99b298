-- Laws of a batch: what a met promise prints, and how one more event goes on a run of them.
use Prim.Native.Nat.{ℕ, ◌+◌, ◌-◌, ◌≤◌, ◌<◌}
use native.Mathlib.Omega.{arith}
use mathlib.Core.Path.{◌≡◌, refl, sym, ap, subst, subst⁻¹, ◌∙◌}
use mathlib.Core.List.{List, [], append-nil}
use Rattle.std.specs.Prelude.{Ok, Err}
use Rattle.std.specs.Prelude.{Result as Returned}
use lib.ListN.{length, take, drop, length-append, length-drop}
use lib.Seq.{take-append_seam}
use Rattle.limits.specs.Limits.{ROOM, LINE}
use Rattle.flow.specs.Refusals.{FORM}
use Rattle.flow.specs.Result.{Result, refused, ok, map_r}
use Rattle.flow.specs.Front.{front, ◌▹◌, Put, Wrote}
use Rattle.flow.specs.Reply.{reply_of, told, buffer_of}
use Rattle.flow.specs.declared.Refusal.{Refusal}
use Rattle.flow.specs.declared.Reply.{Reply}
use Rattle.flow.proofs.Fronts.{next-put, front-none}
use Rattle.line.specs.declared.Span.{Span}
use Rattle.shelves.specs.declared.Shelf.{Shelf}
use Rattle.tables.specs.declared.State.{State}
use Rattle.outcome.specs.Outcome.{Done, octets_of, state_of, outcome_of, Outcome, Met, Left}
use Rattle.program.specs.Frame.{frame_at}
use Rattle.program.specs.declared.Stop.{Stop}
use Rattle.program.specs.declared.Stop.TheVariants.{More as StopMore, Bad as StopBad}
use Rattle.program.proofs.Laws.{framed}
use Rattle.program.specs.Printed.{line_of}
use Rattle.program.proofs.Lines.{line-long}
use Rattle.batch.specs.Batch.{done_of, line_told, event_line, bad_line, Lined, body_of, Ran, none, one, last_line, Ended, Served}
use Rattle.batch.specs.declared.Why.{Why}
use Rattle.batch.specs.declared.Why.TheVariants.{More, Full, Bad}

-- ---- what an outcome prints

-- the answer lies within the buffer
within : (o : Result (List ℕ)) (old new : List ℕ) → new ≡ buffer_of old o → length new ≡ length old → (reply_of o).len ≤ length new
unfolding reply_of buffer_of front
within (refused n) old new e l = omega arith
within (ok x) old new e l = let n = simp (length-append, length-drop) at (ap length e) in omega (arith, n)

-- and is what is printed
prints : (place : ℕ) (o : Result (List ℕ)) (old new : List ℕ) → new ≡ buffer_of old o → line_of place (reply_of o).no (take (reply_of o).len new) ≡ line_told place o
unfolding reply_of buffer_of front line_told
prints place (refused n) old new e = refl
prints place (ok x) old new e = ap (line_of place 0) (ap (take (length x)) e ∙ take-append_seam x (drop (length x) old))

module _ (s : State) (o : Result Done) (old new : List ℕ) (r : Outcome) (m : Met s o old r new) where
  reply-is : r.reply ≡ reply_of (map_r octets_of o)
  unfolding outcome_of
  reply-is = ap (λ (x : Outcome). x.reply) m.outcome

  pub reply-within : length new ≡ length old → r.reply.len ≤ length new
  reply-within l = rw reply-is (within (map_r octets_of o) old new m.buffer l)

  pub reply_prints : (place : ℕ) → line_of place r.reply.no (take r.reply.len new) ≡ line_told place (map_r octets_of o)
  reply_prints place = rw reply-is (prints place (map_r octets_of o) old new m.buffer)

  pub state-is : r.state ≡ state_of s o
  unfolding outcome_of
  state-is = ap (λ (x : Outcome). x.state) m.outcome

-- ---- a run of events, and what is written so far

pub record Running (shelf : Shelf) (input : List ℕ) (s : State) (from first : ℕ) (old : List ℕ) (t : State) (at place len : ℕ) (new : List ℕ) : Type 0 where
  pub lines : List ℕ
  pub ran : Ran shelf input (length old) s from first lines t at place
  pub wrote : Wrote lines len old new
  pub inside : at ≤ length input
  pub fits : len ≤ length old
  pub long : length new ≡ length old
  pub far : place + from ≤ first + at

pub running_none : (shelf : Shelf) (input : List ℕ) (s : State) (from first : ℕ) (old : List ℕ) → from ≤ length input → Running shelf input s from first old s from first 0 old
running_none shelf input s from first old h =
    record { lines = []; ran = none; wrote = record { count = refl; octets = sym (front-none old) }; inside = h; fits = omega arith; long = refl; far = omega arith }

-- nothing after the lines
same_lines : (x : List ℕ) → x ▹ [] ≡ x
unfolding ◌▹◌
same_lines x = append-nil x

module _ (shelf : Shelf) (input : List ℕ) (s : State) (from first : ℕ) (old : List ℕ) (t : State) (at place len : ℕ) (new : List ℕ) (w : Running shelf input s from first old t at place len new) where
  pub running_more : (next : State) (answered : Returned ℕ Refusal) (zeros buffer : List ℕ) (x : Span) (stop : ℕ) (last : List ℕ)
      → LINE ≤ length new - len → frame_at input at ≡ Ok x
      → Left t (done_of t shelf (body_of input x)) zeros next answered buffer → Lined place (told answered) buffer len stop new last → length last ≡ length new
      → Running shelf input s from first old next x.end (place + 1) stop last
  running_more next answered zeros buffer x stop last h b m p l =
      let i = framed input at x b in
      let o = done_of t shelf (body_of input x) in
      let room : length w.lines + LINE ≤ length old = omega (arith, w.wrote.count, w.long, w.fits) in
      record {
        lines = w.lines ▹ event_line place t shelf (body_of input x);
        ran = subst⁻¹ (λ u. Ran shelf input (length old) s from first (w.lines ▹ event_line place t shelf (body_of input x)) u x.end (place + 1)) (state-is t o zeros buffer _ m)
            (one x w.ran room b);
        wrote = next-put w.lines _ len stop old new last (subst (λ y. Put y len stop new last) (reply_prints t o zeros buffer _ m place) p.line) w.wrote;
        inside = i.after.inside;
        fits = omega (arith, p.fits, w.long);
        long = l ∙ w.long;
        far = omega (arith, w.far, i.after.later);
      }

  room_left : LINE ≤ length new - len → length w.lines + LINE ≤ length old
  room_left h = omega (arith, w.wrote.count, w.long, w.fits)

  pub served-more : frame_at input at ≡ Err StopMore → LINE ≤ length new - len → Served shelf input s from first t (record { at = at; place = place; len = len; why = More }) old new
  unfolding Ended last_line
  served-more e h =
      record { lines = w.lines; ran = w.ran; ended = (room_left h, e); wrote = rw same_lines w.wrote; inside = w.inside; fits = w.fits }

  pub served_full : (why : Why) → why ≡ Full → length new - len < LINE → Served shelf input s from first t (record { at = at; place = place; len = len; why = why }) old new
  unfolding Ended last_line
  served_full why e h =
      subst⁻¹ (λ (w : Why). Served shelf input s from first t (record { at = at; place = place; len = len; why = w }) old new) e
      (record { lines = w.lines; ran = w.ran; ended = omega (arith, w.wrote.count, w.long); wrote = rw same_lines w.wrote; inside = w.inside; fits = w.fits })

  pub served-bad : (end : ℕ) (last : List ℕ) → frame_at input at ≡ Err StopBad → LINE ≤ length new - len → Put (bad_line place) len end new last
      → Served shelf input s from first t (record { at = at; place = place; len = end; why = Bad }) old last
  unfolding Ended last_line
  served-bad end last e h p =
      record {
        lines = w.lines;
        ran = w.ran;
        ended = (room_left h, e);
        wrote = next-put w.lines (bad_line place) len end old new last p w.wrote;
        inside = w.inside;
        fits = omega (arith, p.place, line-long place FORM [], w.long, w.fits);
      }
