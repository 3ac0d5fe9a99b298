-- An opening that is refused hands back the closed state; one that is not, the fresh one.
use Prim.Native.Nat.{ℕ}
use mathlib.Core.Path.{◌≡◌, ap, ◌∙◌}
use mathlib.Core.Bool.{true}
use mathlib.Core.List.{List}
use Rattle.flow.specs.Result.{Result, refused, ok}
use Rattle.names.specs.declared.Name.{Name}
use Rattle.names.specs.Name.{name_of}
use Rattle.tables.specs.declared.State.{State}
use Rattle.rules.specs.Opening.{closed, fresh}
use Rattle.opening.specs.Opening.{opening_of}

pub opening-refused : (n : ℕ) (s : State) (o : Result State) → s ≡ closed → refused n ≡ o → record { no = n; state = s } ≡ opening_of o
unfolding opening_of
opening-refused n s o e p = ap (λ (x : State). record { no = n; state = x }) e ∙ ap opening_of p

pub opening-made : (s t : State) (o : Result State) → s ≡ t → ok t ≡ o → record { no = 0; state = s } ≡ opening_of o
unfolding opening_of
opening-made s t o e p = ap (λ (x : State). record { no = 0; state = x }) e ∙ ap opening_of p

-- the closed state, with what the opening brings
pub opened-fresh : (s : State) (name : Name) (domain : List ℕ) (restart lifetime : ℕ) → s ≡ closed → name ≡ name_of domain
    → record {
      ready = true;
      domain = name;
      restart = restart;
      lifetime = record { 0 = lifetime };
      clock = s.clock;
      last = s.last;
      runs = s.runs;
      sessions = s.sessions;
    }
    ≡ fresh domain restart lifetime
unfolding fresh closed
opened-fresh s name domain restart lifetime e p = rw (e, p)
