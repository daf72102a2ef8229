-- The answer in each case: `refused` where a check refuses, `answered` where none does. Assumes nothing.
use Rattle.std.specs.Prelude.{◌≡◌, ℕ, Bool, true, false, cond, List, [], ◌∷◌, ◌++◌, drop, Result}
use mathlib.Core.Path.{sym, ap, ◌∙◌}
use lib.Ieee.{Float}
use Rattle.refusal.specs.Refusal.{Told, done, accepted, refuses}
use Rattle.refusal.proofs.Laws.{first-refuses, first_passes}
use Rattle.scalars.specs.Scalars.{scalar_count}
use Rattle.marks.specs.Mark.{marks_of, silent_of}
use Rattle.marks.specs.Marks.{told, Marks}
use Rattle.marks.specs.declared.Tally.{Tally}
use Rattle.marks.specs.declared.MarksError.{MarksError}

module _ (v : Told) (dims order : List ℕ) (d : List Float) (tol : Float) (marks : List ℕ) where
  pub refused : (r : Result Tally MarksError) → told r ≡ v → refuses (told r) ≡ true → Marks v dims order d tol marks r marks
  refused r e s =
      let t : refuses v ≡ true = ap refuses (sym e) ∙ s in
      record { outcome = e ∙ first-refuses v _ t; bytes = sym (ap (λ (b : Bool). cond b marks (marks_of dims order tol d ++ drop (scalar_count dims) marks)) t) }

  pub answered : (r : Result Tally MarksError) (marks' : List ℕ) → done ≡ v → told r ≡ accepted (silent_of tol d ∷ []) [] → marks' ≡ marks_of dims order tol d ++ drop (scalar_count dims) marks
      → Marks v dims order d tol marks r marks'
  answered r marks' e t m =
      let s : refuses v ≡ false = ap refuses (sym e) in
      record { outcome = t ∙ first_passes v _ s; bytes = m ∙ sym (ap (λ (b : Bool). cond b marks (marks_of dims order tol d ++ drop (scalar_count dims) marks)) s) }
