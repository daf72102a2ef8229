-- The answer, test by test: each where it fails and those before it pass, and what the verdict is where all pass. Assumes nothing.
use Rattle.std.specs.Prelude.{◌≡◌, ℕ, ◌+◌, ◌<◌, ◌≤◌, Bool, true, false, List, [], length, drop, Some, None, Err}
use mathlib.Core.Path.{refl, sym, ap, ◌∙◌}
use native.Mathlib.Nat.{mul-one}
use native.Mathlib.Omega.{arith}
use lib.Ieee.{Float}
use Rattle.scalar.specs.Scalar.{is_tolerance}
use Rattle.refusal.specs.Refusal.{Told, done, short_buffer, refuses, verdict}
use Rattle.refusal.proofs.Laws.{need-short, need-met, area-differs, area-fits}
use Rattle.tables.specs.Search.{fault}
use Rattle.tables.specs.Verdict.{dim_ok, perm_ok}
use Rattle.tables.proofs.CheckLaws.{stops, goes, blocks-stop, blocks-go, dims-stop, dims-go, perm-stop, perm-go, tolerance-stop, tolerance-go}
use Rattle.scalars.specs.Scalars.{scalar_count}
use Rattle.marks.specs.Marks.{told_error, Marks, marks_checks, marks_verdict}
use Rattle.marks.specs.declared.MarksError.{MarksError}
use Rattle.marks.specs.declared.MarksError.TheVariants.{Blocks, Dimension, Permutation, Tolerance, Short, Shape}
use Rattle.marks.proofs.AnswerLaws.{refused}

module _ (dims order : List ℕ) (d : List Float) (tol : Float) (marks : List ℕ) where
  abbrev checks : List Told
  checks = marks_checks dims order (length d) tol (length marks)

  -- a test that fails
  stop : (e : MarksError) → told_error e ≡ marks_verdict dims order (length d) tol (length marks) → refuses (told_error e) ≡ true → Marks (marks_verdict dims order (length d) tol (length marks)) dims order d tol marks (Err e) marks
  stop e says r = refused (marks_verdict dims order (length d) tol (length marks)) dims order d tol marks (Err e) says r

  pub marks-blocks : 4096 < length dims → Marks (marks_verdict dims order (length d) tol (length marks)) dims order d tol marks (Err Blocks) marks
  unfolding marks_verdict
  marks-blocks h = stop Blocks (stops (drop 1 checks) (blocks-stop _ h) refl) refl

  module _ (blocks_pass : length dims ≤ 4096) where
    past-blocks : verdict (drop 1 checks) ≡ verdict checks
    past-blocks = goes (drop 1 checks) (blocks-go _ blocks_pass)

    pub marks-dims : (k : ℕ) → Some k ≡ fault (dim_ok dims) 0 (length dims) → Marks (marks_verdict dims order (length d) tol (length marks)) dims order d tol marks (Err (Dimension k)) marks
    unfolding marks_verdict
    marks-dims k e = stop (Dimension k) (stops (drop 2 checks) (dims-stop _ k e) refl ∙ past-blocks) refl

    module _ (dims_pass : None ≡ fault (dim_ok dims) 0 (length dims)) where
      past-dims : verdict (drop 2 checks) ≡ verdict checks
      past-dims = goes (drop 2 checks) (dims-go _ dims_pass) ∙ past-blocks

      pub marks-perm : (k : ℕ) → Some k ≡ fault (perm_ok order (length dims)) 0 (length dims + 1) → Marks (marks_verdict dims order (length d) tol (length marks)) dims order d tol marks (Err (Permutation k)) marks
      unfolding marks_verdict
      marks-perm k e = stop (Permutation k) (stops (drop 3 checks) (perm-stop _ _ k e) refl ∙ past-dims) refl

      module _ (perm_pass : None ≡ fault (perm_ok order (length dims)) 0 (length dims + 1)) where
        past-perm : verdict (drop 3 checks) ≡ verdict checks
        past-perm = goes (drop 3 checks) (perm-go _ _ perm_pass) ∙ past-dims

        pub marks-tolerance : (b : Bool) → b ≡ is_tolerance tol → b ≡ false → Marks (marks_verdict dims order (length d) tol (length marks)) dims order d tol marks (Err Tolerance) marks
        unfolding marks_verdict
        marks-tolerance b e h = stop Tolerance (stops (drop 4 checks) (tolerance-stop _ (sym e ∙ h)) refl ∙ past-perm) refl

        module _ (b : Bool) (is_b : b ≡ is_tolerance tol) (tolerance_pass : b ≡ true) (need : ℕ) (is_need : need ≡ scalar_count dims) where
          past-tolerance : verdict (drop 4 checks) ≡ verdict checks
          past-tolerance = goes (drop 4 checks) (tolerance-go _ (sym is_b ∙ tolerance_pass)) ∙ past-perm

          pub marks-need : length marks < need → Marks (marks_verdict dims order (length d) tol (length marks)) dims order d tol marks (Err (Short 0 need)) marks
          unfolding marks_verdict
          marks-need h = stop (Short 0 need) (stops (drop 5 checks) (need-short 0 _ _ (omega (arith, h, is_need)) ∙ ap (short_buffer 0) (sym is_need)) refl ∙ past-tolerance) refl

          module _ (need_met : need ≤ length marks) where
            past-need : verdict (drop 5 checks) ≡ verdict checks
            past-need = goes (drop 5 checks) (need-met 0 (length marks) (scalar_count dims) (omega (arith, need_met, is_need))) ∙ past-tolerance

            pub marks-shape : (length d ≡ need → ⊥) → Marks (marks_verdict dims order (length d) tol (length marks)) dims order d tol marks (Err (Shape 2)) marks
            unfolding marks_verdict
            marks-shape h = stop (Shape 2) (stops [] (area-differs 2 (scalar_count dims) 1 (length d) (λ e. h (e ∙ mul-one _ ∙ sym is_need))) refl ∙ past-need) refl

            pub marks-accepts : length d ≡ need → done ≡ marks_verdict dims order (length d) tol (length marks)
            unfolding marks_verdict
            marks-accepts e = goes [] (area-fits 2 (scalar_count dims) 1 (length d) (e ∙ is_need ∙ sym (mul-one _))) ∙ past-need
