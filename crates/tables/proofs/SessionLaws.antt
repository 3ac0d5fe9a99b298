-- Laws of the session table, which hold of any arrangement of its rows: what a search found passes its test, what it did not find is nowhere; a
-- session that is put where place_for says stands at some place, with every other live session but the student's own, and nothing else does.
use Prim.Native.Nat.{ℕ, ◌<◌}
use native.Mathlib.Omega.{arith}
use mathlib.Core.Path.{◌≡◌, refl, sym, ap, ◌∙◌}
use mathlib.Core.Logic.{◌≢◌, ⊎_elim}
use mathlib.Core.Bool.{Bool, true, false, ◌&&◌, true≢false}
use mathlib.Core.List.{List, map}
use lib.ListN.{length, get_or, length-set, length-replicate}
use borrow.Author.Tests.{le-ltb, not-true, not-false}
use Rattle.limits.specs.Limits.{SESSIONS}
use Rattle.flow.specs.Search.{first}
use Rattle.std.specs.Prelude.{Option}
use Rattle.std.specs.Prelude.{Some, None}
use Rattle.std.specs.Option.{option_or}
use Rattle.flow.proofs.Choices.{split}
use Rattle.flow.proofs.Searches.{first-same}
use Rattle.flow.proofs.Tables.{passed, missed, put_all, put_pairs, put-inside, set-map}
use Rattle.records.specs.Rows.{no_session, is_live, is_own, has_rand}
use Rattle.records.specs.declared.Session.{Session}
use Rattle.tables.specs.Tables.{no_sessions, session_in, own_of, rand_of, is_named, named_of, is_over, place_for, put_session, Has, WholeSessions, map_sessions}
use Rattle.tables.specs.declared.Sessions.{Sessions}
use Rattle.tables.proofs.RunLaws.{missed_anywhere, get_d_none, at_map, set_same}

-- ---- none

pub none_over : (t : ℕ) → is_live t no_session ≡ false
unfolding no_session
none_over t = le-ltb t 0 (omega arith)

pub none-session : (j : ℕ) → session_in no_sessions j ≡ no_session
unfolding session_in no_sessions
none-session j = get_d_none SESSIONS j no_session

pub none-sessions_whole : WholeSessions no_sessions
unfolding no_sessions
none-sessions_whole = record { places = length-replicate SESSIONS no_session }

none-and : (t : ℕ) (b : Bool) → (is_live t no_session && b) ≡ false
none-and t b = rw (none_over t)

-- ---- what was found

module _ (sessions : Sessions) where
  module _ (impi : List ℕ) (t : ℕ) where
    pub own-found : (j : ℕ) → own_of impi t sessions ≡ Some j → is_own impi t (session_in sessions j) ≡ true
    unfolding own_of session_in
    own-found j e = (passed (is_own impi t) no_session sessions.rows j e).passes

    pub own-missed : own_of impi t sessions ≡ None → (k : ℕ) → is_own impi t (session_in sessions k) ≡ false
    unfolding own_of session_in is_own
    own-missed e k = missed_anywhere (is_own impi t) no_session sessions.rows (none-and t _) e k

  pub rand_missed : (rand : List ℕ) (t : ℕ) → rand_of rand t sessions ≡ None → (k : ℕ) → has_rand rand t (session_in sessions k) ≡ false
  unfolding rand_of session_in has_rand
  rand_missed rand t e k = missed_anywhere (has_rand rand t) no_session sessions.rows (none-and t _) e k

  module _ (text domain : List ℕ) (t : ℕ) where
    pub named-found : (j : ℕ) → named_of text domain t sessions ≡ Some j → is_named text domain t (session_in sessions j) ≡ true
    unfolding named_of session_in
    named-found j e = (passed (is_named text domain t) no_session sessions.rows j e).passes

    pub named-missed : named_of text domain t sessions ≡ None → (k : ℕ) → is_named text domain t (session_in sessions k) ≡ false
    unfolding named_of session_in is_named
    named-missed e k = missed_anywhere (is_named text domain t) no_session sessions.rows (none-and t _) e k

-- ---- where a session goes

-- at the student's own, or at one that is over where the student has none
data Goes (impi : List ℕ) (t : ℕ) (sessions : Sessions) (j : ℕ) : Type 0 where
  own : j < length sessions.rows → is_own impi t (get_or sessions.rows j no_session) ≡ true → Goes impi t sessions j
  free : j < length sessions.rows → is_live t (get_or sessions.rows j no_session) ≡ false → first (is_own impi t) sessions.rows ≡ None → Goes impi t sessions j

goes : (impi : List ℕ) (t : ℕ) (sessions : Sessions) (j : ℕ) → place_for impi t sessions ≡ Some j → Goes impi t sessions j
unfolding place_for
goes impi t sessions j e = go (first (is_own impi t) sessions.rows) refl e
  where
    go : (f : Option ℕ) → first (is_own impi t) sessions.rows ≡ f → option_or f (first (is_over t) sessions.rows) ≡ Some j → Goes impi t sessions j
    go (Some k) q h =
        let m : k ≡ j = cc in
        let p = passed (is_own impi t) no_session sessions.rows j (q ∙ ap Some m) in
        own p.inside p.passes
    go None q h =
        let p = passed (is_over t) no_session sessions.rows j h in
        free p.inside (not-true _ p.passes) q

goes-inside : {impi : List ℕ} {t : ℕ} {sessions : Sessions} {j : ℕ} → Goes impi t sessions j → j < length sessions.rows
goes-inside (own i e) = i
goes-inside (free i e m) = i

nothing-in-both : (f g : Option ℕ) → option_or f g ≡ None → (f ≡ None) × (g ≡ None)
nothing-in-both (Some i) g e = let z : ◌≡◌ {A = ℕ} 0 1 = cc in absurd (omega arith)
nothing-in-both None g e = (refl, e)

module _ (impi : List ℕ) (t : ℕ) (sessions : Sessions) where
  -- where a session has no place, as many are live as may be, and none is the student's
  pub place-live : WholeSessions sessions → place_for impi t sessions ≡ None → (j : ℕ) → j < SESSIONS → is_live t (session_in sessions j) ≡ true
  unfolding place_for session_in
  place-live w e j h = not-false _ (missed (is_over t) no_session sessions.rows (nothing-in-both _ _ e).1 j (omega (arith, w.places)))

  pub place-others : place_for impi t sessions ≡ None → (j : ℕ) → is_own impi t (session_in sessions j) ≡ false
  unfolding place_for
  place-others e j = own-missed sessions impi t (unfold own_of in (nothing-in-both _ _ e).0) j

-- ---- what was put

module _ (sessions : Sessions) (j : ℕ) (x : Session) where
  -- what holds of x and of every session that stood holds of every session that stands
  pub session-put-all : (P : Session → Type 0) → P x → ((k : ℕ) → P (session_in sessions k)) → (k : ℕ) → P (session_in (put_session sessions j x) k)
  unfolding session_in put_session
  session-put-all P h f = put_all no_session P sessions.rows j x h f

  pub session-put_whole : WholeSessions sessions → WholeSessions (put_session sessions j x)
  unfolding put_session
  session-put_whole w = record { places = length-set sessions.rows j x ∙ w.places }

  module _ (impi : List ℕ) (t : ℕ) (e : place_for impi t sessions ≡ Some j) where
    pub session-put-has : Has (put_session sessions j x) x
    session-put-has =
        record {
          place = j;
          stands = unfold session_in put_session in ⊎_elim (λ p. p.1) (λ p. absurd (p.0 refl)) (put-inside no_session sessions.rows j x (goes-inside (goes impi t sessions j e)) j);
        }

    -- a live session of another student stands
    pub session-put-stays : (k : ℕ) → is_live t (session_in sessions k) ≡ true → is_own impi t (session_in sessions k) ≡ false → Has (put_session sessions j x) (session_in sessions k)
    unfolding session_in
    session-put-stays k l n =
        record {
          place = k;
          stands = unfold put_session in
              ⊎_elim (λ p. absurd (other (goes impi t sessions j e) p.0)) (λ p. p.1) (put-inside no_session sessions.rows j x (goes-inside (goes impi t sessions j e)) k);
        }
      where
        other : Goes impi t sessions j → k ≡ j → ⊥
        other (own i o) q = true≢false (sym o ∙ ap (λ (m : ℕ). is_own impi t (get_or sessions.rows m no_session)) (sym q) ∙ n)
        other (free i o m) q = true≢false (sym l ∙ ap (λ (m : ℕ). is_live t (get_or sessions.rows m no_session)) q ∙ o)

    -- what holds of every two sessions goes on to hold, where the student has at most one
    pub session-put-pairs : (R : Session → Session → Type 0) → ((a b : Session) → R a b → R b a)
        → ((i k : ℕ) → i ≢ k → is_own impi t (session_in sessions i) ≡ true → is_own impi t (session_in sessions k) ≡ true → ⊥)
        → ((k : ℕ) → is_own impi t (session_in sessions k) ≡ false → R x (session_in sessions k))
        → ((i k : ℕ) → i ≢ k → R (session_in sessions i) (session_in sessions k))
        → (i k : ℕ) → i ≢ k → R (session_in (put_session sessions j x) i) (session_in (put_session sessions j x) k)
    unfolding session_in put_session
    session-put-pairs R flip one h f = put_pairs no_session R flip sessions.rows j x (λ k n. h k (other (goes impi t sessions j e) k n)) f
      where
        other : Goes impi t sessions j → (k : ℕ) → k ≢ j → is_own impi t (get_or sessions.rows k no_session) ≡ false
        other (own i o) k n = ⊎_elim (λ b. absurd (one k j n b o)) (λ b. b) (split (is_own impi t (get_or sessions.rows k no_session)))
        other (free i o m) k n = unfold own_of session_in in own-missed sessions impi t m k

-- j is a place of the table
pub record IsSessionPlace (sessions : Sessions) (j : ℕ) : Type 0 where
  pub inside : j < length sessions.rows

-- the rows as they are: what is put at a place is there, and what is put where it stands changes nothing
pub session-put_there : (sessions : Sessions) (j : ℕ) (x : Session) → IsSessionPlace sessions j → session_in (put_session sessions j x) j ≡ x
unfolding session_in put_session
session-put_there sessions j x h = ⊎_elim (λ p. p.1) (λ p. absurd (p.0 refl)) (put-inside no_session sessions.rows j x h.inside j)

pub session-put-same : (sessions : Sessions) (j : ℕ) → put_session sessions j (session_in sessions j) ≡ sessions
unfolding put_session session_in
session-put-same sessions j = ap (λ (l : List Session). record { rows = l }) (set_same no_session sessions.rows j)

-- ---- what a function makes of every session

module _ (e : Session → Session) (sessions : Sessions) where
  pub session_mapped : (j : ℕ) → e no_session ≡ no_session → session_in (map_sessions e sessions) j ≡ e (session_in sessions j)
  unfolding session_in map_sessions
  session_mapped j h = at_map e no_session sessions.rows j h

  pub own_mapped : (impi : List ℕ) (t : ℕ) → ((x : Session) → is_own impi t (e x) ≡ is_own impi t x) → own_of impi t (map_sessions e sessions) ≡ own_of impi t sessions
  unfolding own_of map_sessions
  own_mapped impi t h = first-same (is_own impi t) (is_own impi t) e h 0 sessions.rows

  pub rand_mapped : (rand : List ℕ) (t : ℕ) → ((x : Session) → has_rand rand t (e x) ≡ has_rand rand t x) → rand_of rand t (map_sessions e sessions) ≡ rand_of rand t sessions
  unfolding rand_of map_sessions
  rand_mapped rand t h = first-same (has_rand rand t) (has_rand rand t) e h 0 sessions.rows

  pub named_mapped : (text domain : List ℕ) (t : ℕ) → ((x : Session) → is_named text domain t (e x) ≡ is_named text domain t x)
      → named_of text domain t (map_sessions e sessions) ≡ named_of text domain t sessions
  unfolding named_of map_sessions
  named_mapped text domain t h = first-same (is_named text domain t) (is_named text domain t) e h 0 sessions.rows

  pub place_mapped : (impi : List ℕ) (t : ℕ) → ((x : Session) → is_own impi t (e x) ≡ is_own impi t x) → ((x : Session) → is_live t (e x) ≡ is_live t x)
      → place_for impi t (map_sessions e sessions) ≡ place_for impi t sessions
  unfolding place_for map_sessions
  place_mapped impi t h g =
      ap (λ (f : Option ℕ). option_or f (first (is_over t) (map e sessions.rows))) (first-same (is_own impi t) (is_own impi t) e h 0 sessions.rows)
      ∙ ap (option_or (first (is_own impi t) sessions.rows)) (first-same (is_over t) (is_over t) e (λ x. rw (g x)) 0 sessions.rows)

  pub session-put_mapped : (j : ℕ) (x : Session) → map_sessions e (put_session sessions j x) ≡ put_session (map_sessions e sessions) j (e x)
  unfolding map_sessions put_session
  session-put_mapped j x = ap (λ (l : List Session). record { rows = l }) (set-map e sessions.rows j x)
