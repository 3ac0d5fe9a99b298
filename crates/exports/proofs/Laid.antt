-- How the structs that C and Rust share with the library lie in memory, by the language's own rule: where each field starts, in order, and the size.
use Prim.Native.Nat.{ℕ}
use mathlib.Core.Path.{◌≡◌, refl}
use mathlib.Core.List.{List, [], ◌∷◌}
use mathlib.Core.Option.{Option, none, some}
use mir.Syntax.{Ty}
use prog.Memory.{size, field_of}
use Rattle.flow.proofs.Reply.TheLaws as Reply
use Rattle.names.proofs.Name.TheLaws as Name
use Rattle.records.proofs.Entry.TheLaws as Entry
use Rattle.records.proofs.Settings.TheLaws as Settings
use Rattle.records.proofs.Run.TheLaws as Run
use Rattle.records.proofs.Session.TheLaws as Session
use Rattle.shelves.proofs.Row.TheLaws as Row
use Rattle.shelves.proofs.Shelf.TheLaws as Shelf
use Rattle.tables.proofs.State.TheLaws as State
use Rattle.exports.proofs.Progress.TheLaws as Progress

abbrev start : Option (Ty × ℕ) → ℕ
start none = 0
start (some (τ, at)) = at

abbrev pub laid : Ty → List ℕ → List ℕ
laid τ [] = size τ ∷ []
laid τ (k ∷ ks) = start (field_of τ k) ∷ laid τ ks

pub reply_laid : laid Reply.mir (0 ∷ 1 ∷ []) ≡ 0 ∷ 8 ∷ 16 ∷ []
reply_laid = refl

pub progress_laid : laid Progress.mir (0 ∷ 1 ∷ 2 ∷ 3 ∷ []) ≡ 0 ∷ 8 ∷ 16 ∷ 24 ∷ 32 ∷ []
progress_laid = refl

pub name_laid : laid Name.mir (0 ∷ 1 ∷ []) ≡ 0 ∷ 64 ∷ 72 ∷ []
name_laid = refl

pub row_laid : laid Row.mir (0 ∷ 1 ∷ 2 ∷ 3 ∷ 4 ∷ []) ≡ 0 ∷ 72 ∷ 144 ∷ 145 ∷ 148 ∷ 152 ∷ []
row_laid = refl

pub shelf_laid : laid Shelf.mir (0 ∷ 1 ∷ []) ≡ 0 ∷ 2432 ∷ 2440 ∷ []
shelf_laid = refl

pub entry_laid : laid Entry.mir (0 ∷ 1 ∷ 2 ∷ 3 ∷ 4 ∷ []) ≡ 0 ∷ 8 ∷ 9 ∷ 13 ∷ 48 ∷ 56 ∷ []
entry_laid = refl

pub settings_laid : laid Settings.mir (0 ∷ 1 ∷ 2 ∷ []) ≡ 0 ∷ 8 ∷ 16 ∷ 240 ∷ []
settings_laid = refl

pub run_laid : laid Run.mir (0 ∷ 1 ∷ 2 ∷ 3 ∷ 4 ∷ 5 ∷ 6 ∷ 7 ∷ 8 ∷ []) ≡ 0 ∷ 8 ∷ 16 ∷ 88 ∷ 89 ∷ 105 ∷ 128 ∷ 136 ∷ 168 ∷ 408 ∷ []
run_laid = refl

pub session_laid : laid Session.mir (0 ∷ 1 ∷ 2 ∷ 3 ∷ 4 ∷ 5 ∷ []) ≡ 0 ∷ 32 ∷ 48 ∷ 120 ∷ 128 ∷ 136 ∷ 376 ∷ []
session_laid = refl

pub state_laid : laid State.mir (0 ∷ 1 ∷ 2 ∷ 3 ∷ 4 ∷ 5 ∷ 6 ∷ 7 ∷ []) ≡ 0 ∷ 8 ∷ 80 ∷ 88 ∷ 96 ∷ 104 ∷ 112 ∷ 13168 ∷ 37232 ∷ []
state_laid = refl
