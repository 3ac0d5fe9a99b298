-- Which row counts for an event: for a KEY the first with its peer and FQDN; no other event's rule asks what the shelf table says.
use Prim.Native.Nat.{◌+◌, ◌-◌}
use native.Mathlib.Omega.{arith}
use mathlib.Core.Path.{◌≡◌, refl, sym, ap, ap₂, ◌∙◌}
use mathlib.Core.Bool.{Bool, true, false}
use mathlib.Core.Logic.{⊎_elim}
use lib.ListN.{length, take, drop, length-take, length-drop}
use lib.Seq.{take-take}
use Rattle.std.specs.Prelude.{ℕ, Option, None, Some, List}
use Rattle.limits.specs.Limits.{UA}
use Rattle.flow.specs.Choice.{pick}
use Rattle.flow.proofs.Chains.{stops_unset}
use Rattle.flow.proofs.Choices.{split}
use Rattle.line.specs.Text.{between, Inside}
use Rattle.names.specs.Name.{no_name}
use Rattle.event.specs.Meaning.{key_means, kind_means}
use Rattle.event.specs.Placed.{KeyPlaced}
use Rattle.event.specs.Table.{decoded}
use Rattle.event.specs.Values.{start, on_run, key, KeyValues, KindValues, EventValues}
use Rattle.event.specs.declared.KeyAt.{KeyAt}
use Rattle.event.specs.declared.KindAt.{KindAt}
use Rattle.event.specs.declared.KindAt.TheVariants.{Start, OnRun, Key}
use Rattle.shelves.specs.Shelf.{part, nowhere, no_policy, policy_as, row_as, policy_of}
use Rattle.shelves.specs.declared.Asked.{Asked}
use Rattle.shelves.specs.declared.Policy.{Policy}
use Rattle.shelves.specs.declared.Row.{Row}
use Rattle.rules.specs.Key.{key_rule}
use Rattle.rules.specs.Server.{kind_rule, rule, step_of, fqdn_of, policy_for, asked_by, asked_in}
use Rattle.tables.specs.declared.State.{State}
use Rattle.server.specs.Counts.{Counts, AsksShelf}

module _ (rows : List Row) (w : Policy) where
  -- a body that is no event
  pub nothing_counts : Counts rows None w
  unfolding step_of rule
  nothing_counts s room = refl

  module _ (body : List ℕ) (t : ℕ) where
    pub none_counts : (k : KindAt) → ((v : KeyAt) → k ≡ Key v → ⊥) → Counts rows (Some (record { time = t; kind = kind_means body k })) w
    unfolding step_of rule kind_rule
    none_counts (Start v) n s room = refl
    none_counts (OnRun v) n s room = refl
    none_counts (Key v) n s room = absurd (n v refl)

    pub row_counts : (k : KindAt) (v : KeyAt) → k ≡ Key v → (peer naf : List ℕ)
        → peer ≡ between body v.peer.start v.peer.end → naf ≡ between body v.naf.start v.naf.end
        → w ≡ policy_of rows peer (fqdn_of naf) → Counts rows (Some (record { time = t; kind = kind_means body k })) w
    unfolding policy_for asked_in asked_by
    row_counts k v q peer naf e f p s room =
        rw q
        (ap (λ (u : Policy). step_of s u (Some (record { time = t; kind = key (key_means body v) })) room)
        (p ∙ ap₂ (λ (x n : List ℕ). policy_of rows x (fqdn_of n)) e f))

-- ---- a policy that is handed in

-- where no row counts, the rule asks nothing else of what the shelf table says
unheard : (s : State) (w : Policy) (t : ℕ) (k : KindValues) → w.found ≡ false → kind_rule s w t k ≡ kind_rule s no_policy t k
unfolding kind_rule key_rule
unheard s w t (start v) e = refl
unheard s w t (on_run v) e = refl
unheard s w t (key v) e = sym (stops_unset _ _ w.found e) ∙ stops_unset _ _ false refl

-- what a row says that was made of a policy is the policy, as far as the event's rule asks
pub heard : (w : Policy) (r : Option Row) → r ≡ row_as w → (s : State) (e : Option EventValues) (room : ℕ) → step_of s (policy_as r) e room ≡ step_of s w e room
unfolding row_as pick step_of rule
heard w r p s e room = ⊎_elim there none (split w.found)
  where
    made : Row
    made = record { peer = no_name; fqdn = no_name; identity = w.identity; group = w.group; required = w.required }

    back : w.found ≡ true → policy_as (row_as w) ≡ w
    back q =
        ap (λ (b : Bool). policy_as (pick b (Some made) None)) q
        ∙ ap (λ (b : Bool). record { found = b; identity = w.identity; group = w.group; required = w.required }) (sym q)

    deaf : w.found ≡ false → (e : Option EventValues) → step_of s no_policy e room ≡ step_of s w e room
    deaf q None = refl
    deaf q (Some x) = rw (unheard s w x.time x.kind q) refl

    there : w.found ≡ true → step_of s (policy_as r) e room ≡ step_of s w e room
    there q = ap (λ (o : Option Row). step_of s (policy_as o) e room) p ∙ ap (λ (u : Policy). step_of s u e room) (back q)

    none : w.found ≡ false → step_of s (policy_as r) e room ≡ step_of s w e room
    none q = ap (λ (o : Option Row). step_of s (policy_as o) e room) p ∙ ap (λ (b : Bool). step_of s (policy_as (pick b (Some made) None)) e room) q ∙ deaf q e

-- ---- the shelf that a body asks for

-- the FQDN is the NAF_Id less its last five octets
fqdn-read : (s : List ℕ) (hi a z : ℕ) → Inside s (1 + UA) hi a z → between s a (z - UA) ≡ fqdn_of (between s a z)
fqdn-read s hi a z i =
    let l : length (between s a z) ≡ z - a = simp (length-take, length-drop) (omega (arith, i.least, i.inside)) in
    let k : length (between s a z) - UA ≡ (z - UA) - a = omega (arith, l) in
    sym (take-take (length (between s a z) - UA) (z - a) (drop a s) (omega (arith, l)) ∙ ap (λ (n : ℕ). take n (drop a s)) k)

module _ (body : List ℕ) where
  stands : (d : Option EventValues) (a : Asked) → decoded body ≡ d → part body a.peer ≡ (asked_in d).peer → part body a.fqdn ≡ fqdn_of (asked_in d).naf
      → AsksShelf body a
  stands d a e p f = record {
    peer_is = p ∙ sym (ap (λ (o : Option EventValues). (asked_in o).peer) e);
    fqdn_is = f ∙ sym (ap (λ (o : Option EventValues). fqdn_of (asked_in o).naf) e);
  }

  -- a body that is no event asks for nothing
  pub asks_nowhere : decoded body ≡ None → AsksShelf body nowhere
  unfolding part asked_in
  asks_nowhere e = stands None nowhere e refl refl

  module _ (t : ℕ) where
    pub asks_no_key : (k : KindAt) → ((v : KeyAt) → k ≡ Key v → ⊥) → decoded body ≡ Some (record { time = t; kind = kind_means body k }) → AsksShelf body nowhere
    unfolding part asked_in asked_by
    asks_no_key (Start v) n e = stands _ nowhere e refl refl
    asks_no_key (OnRun v) n e = stands _ nowhere e refl refl
    asks_no_key (Key v) n e = absurd (n v refl)

    pub asks_there : (k : KindAt) (v : KeyAt) → k ≡ Key v → KeyPlaced body v → decoded body ≡ Some (record { time = t; kind = kind_means body k })
        → AsksShelf body (record { peer = v.peer; fqdn = record { start = v.naf.start; end = v.naf.end - UA } })
    unfolding part asked_in asked_by
    asks_there k v q p e =
        let asks : KindAt → KeyValues = λ u. asked_by (kind_means body u) in
        stands _ _ e (sym (ap (λ (u : KindAt). (asks u).peer) q)) (fqdn-read body _ v.naf.start v.naf.end p.naf_inside ∙ sym (ap (λ (u : KindAt). fqdn_of (asks u).naf) q))
