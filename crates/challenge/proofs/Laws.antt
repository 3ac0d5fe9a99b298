-- Laws of copies out of the body, and of the entries that stand in it one after the other.
use Prim.Native.Nat.{ℕ, ◌+◌, ◌-◌, ◌<◌, ◌≤◌}
use native.Mathlib.Omega.{arith}
use native.Mathlib.Nat.{sub-zero}
use mathlib.Core.Path.{◌≡◌, refl, sym, ap, ◌∙◌}
use mathlib.Core.List.{List, [], ◌∷◌, ◌++◌, map, append-nil, append_assoc}
use Rattle.std.specs.Prelude.{Option, Some, None, IsSome}
use borrow.Rule.Slice.PartMut.{put_mid}
use Rattle.std.proofs.lemmas.List.{take_at, drop_at, map-append, length-map}
use lib.ListN.{length, take, set, replicate, length-append, drop_of_length-le}
use Rattle.flow.proofs.Tables.{set_next}
use Rattle.octets.proofs.Laws.{padded-front}
use Rattle.limits.specs.Limits.{RES_MOST, ENTRIES}
use Rattle.format.specs.Read.{Read, got, bad, and_then}
use Rattle.settings.specs.Values.{EntryValues}
use Rattle.settings.specs.Meaning.{entry_means, entries_at, list_of}
use Rattle.settings.specs.Placed.{EntryReads, EntriesStand}
use Rattle.settings.specs.declared.EntryAt.{EntryAt}
use Rattle.settings.proofs.Laws.{led, entries_past, entries_led, entries_none}
use Rattle.event.specs.Values.{VectorValues}
use Rattle.records.specs.Settings.{no_entry}
use Rattle.records.specs.declared.Entry.{Entry}
use Rattle.challenge.specs.Challenge.{challenge_of, entry_of, entries_of}

-- ---- octets of the body

-- RES is compared with the very octets of XRES
pub xres_held : (v : VectorValues) → length v.xres ≤ RES_MOST → take (challenge_of v).xlen (challenge_of v).xres ≡ v.xres
unfolding challenge_of
xres_held v h = padded-front RES_MOST v.xres h

-- two fields that fill an array, one after the other
pub both_put : (n m : ℕ) (xs a b x y : List ℕ) → a ≡ x → b ≡ y → length a ≡ n → length xs ≤ m → put_mid n m (a ++ xs) b ≡ x ++ y
both_put n m xs a b x y p q e h = rw (take_at a xs n e, drop_at a xs n e, drop_of_length-le xs h, append-nil b, p, q)

-- ---- entries

no-got : (es : List EntryValues) (n : ℕ) → bad ≡ got es n → ⊥
no-got es n e = let z : ◌≡◌ {A = ℕ} 0 1 = cc in omega arith

got_list : (es fs : List EntryValues) (m n : ℕ) → got es m ≡ got fs n → es ≡ fs
got_list es fs m n e = cc

record Led (v : EntryValues) (t : Read (List EntryValues)) (es : List EntryValues) (end : ℕ) : Type 0 where
  pub rest : List EntryValues
  pub left : t ≡ got rest end
  pub all : es ≡ v ∷ rest

led_back : (v : EntryValues) (t : Read (List EntryValues)) (es : List EntryValues) (end : ℕ) → led v t ≡ got es end → Led v t es end
unfolding and_then
led_back v bad es end e = absurd (no-got es end e)
led_back v (got fs n) es end e = record { rest = fs; left = let p : n ≡ end = cc in ap (got fs) p; all = sym (got_list (v ∷ fs) es n end e) }

-- i entries have been read and stored, and the rest stand from a place on
pub record Going (s : List ℕ) (count first : ℕ) (entries : List Entry) (at i : ℕ) : Type 0 where
  pub read : List EntryValues
  pub rest : List EntryValues
  pub end : ℕ
  pub stand : entries_at (count - i) s at ≡ got rest end
  pub all : list_of (entries_at count s first) ≡ read ++ rest
  pub many : length read ≡ i
  pub held : entries ≡ take ENTRIES (map entry_of read ++ replicate ENTRIES no_entry)

pub going_none : (s : List ℕ) (count first : ℕ) (x : Entry) → EntriesStand s count first → x ≡ no_entry → Going s count first (replicate ENTRIES x) first 0
going_none s count first x h e =
    record {
      read = [];
      rest = list_of (entries_at count s first);
      end = h.end;
      stand = rw sub-zero h.stand;
      all = refl;
      many = refl;
      held = ap (replicate ENTRIES) e;
    }

module _ (s : List ℕ) (count first : ℕ) (entries : List Entry) (at i : ℕ) (w : Going s count first entries at i) where
  pub going_done : count ≤ i → entries ≡ entries_of (list_of (entries_at count s first))
  unfolding entries_of
  going_done h =
      let p : [] ≡ w.rest = got_list [] w.rest at w.end (sym (entries_past (count - i) s at (omega arith)) ∙ w.stand) in
      let l : list_of (entries_at count s first) ≡ w.read = w.all ∙ ap (λ (l : List EntryValues). w.read ++ l) (sym p) ∙ append-nil w.read in
      w.held ∙ ap (λ (l : List EntryValues). take ENTRIES (map entry_of l ++ replicate ENTRIES no_entry)) (sym l)

  -- where an entry is left there is one
  pub going_some : (r : Option EntryAt) → i < count → EntryReads s at r → IsSome r
  going_some (Some v) h e = refl
  going_some None h e = absurd (no-got w.rest w.end (sym (entries_none s at (count - i) (λ z. omega arith) e) ∙ w.stand))

  pub going_more : (x : Entry) (v : EntryAt) → i < count → count ≤ ENTRIES → EntryReads s at (Some v) → x ≡ entry_of (entry_means s v)
      → Going s count first (set entries i x) v.user.end (i + 1)
  going_more x v h k e t =
      let n : count - i - 1 ≡ count - (i + 1) = omega arith in
      let d = sym (entries_led s at (count - i) (λ z. omega arith) v e) ∙ w.stand in
      let l = led_back (entry_means s v) (entries_at (count - i - 1) s v.user.end) w.rest w.end d in
      let m : length (map entry_of w.read) ≡ i = length-map w.read entry_of ∙ w.many in
      record {
        read = w.read ++ (entry_means s v ∷ []);
        rest = l.rest;
        end = w.end;
        stand = ap (λ (n : ℕ). entries_at n s v.user.end) (sym n) ∙ l.left;
        all = w.all ∙ ap (λ (l : List EntryValues). w.read ++ l) l.all ∙ sym (append_assoc w.read (entry_means s v ∷ []) l.rest);
        many = rw length-append (omega (arith, w.many));
        held =
            rw (t, w.held, ← m, map-append entry_of w.read (entry_means s v ∷ []))
            (set_next no_entry (entry_of (entry_means s v)) (map entry_of w.read) ENTRIES ENTRIES (omega arith) (omega arith));
      }

pub ruleset going = (going_none, going_done, going_some, going_more)
