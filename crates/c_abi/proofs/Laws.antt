-- The number of an answer is that of its verdict. Assumes nothing.
use Prim.Native.Nat.{ℕ}
use mathlib.Core.List.{List}
use mathlib.Core.Path.{◌≡◌, refl, ap, ◌∙◌}
use lib.Ieee.{Float}
use Rattle.std.specs.Prelude.{Result, Ok, Err}
use Rattle.refusal.specs.Refusal.{Told, number, number_by}
use Rattle.refusal.specs.Shaped.{told, told_error, Answers}
use Rattle.refusal.specs.declared.ShapeError.{ShapeError}
use Rattle.c_abi.specs.Number.{Numbers}

number-told : (r : Result Unit ShapeError) → number_by told_error r ≡ number (told r)
number-told (Ok w) = refl
number-told (Err e) = refl

pub numbers : {v : Told} {old new now : List Float} {s : Result Unit ShapeError} {r : ℕ} → Answers v old new s now → r ≡ number_by told_error s → Numbers v old new r now
numbers {s = s} a e = record { outcome = e ∙ number-told s ∙ ap number a.outcome; buffer = a.buffer }
