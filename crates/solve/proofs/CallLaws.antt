-- The verdict on the call, test by test: each where it fails and those before it pass, and all where they pass. Assumes nothing.
use Rattle.std.specs.Prelude.{◌≡◌, ℕ, ◌+◌, true, List, [], ◌∷◌, length, IsErr, IsErrAnd, Result, Ok, Err}
use mathlib.Core.Bool.{false≢true}
use mathlib.Core.Path.{◌∙◌}
use lib.Ieee.{Float}
use Rattle.refusal.specs.Refusal.{Told, done, refuses, verdict}
use Rattle.needs.specs.Needs.{lent_from, need_checks}
use Rattle.scalars.specs.Scalars.{scalar_count}
use Rattle.solve_checks.specs.Verdict.{solve_verdict}
use Rattle.solve_match.specs.Verdict.{match_verdict}
use Rattle.solve.specs.Solve.{told_error, told, call_verdict}
use Rattle.solve.specs.declared.SolveError.{SolveError}
use Rattle.solve.proofs.Laws.{error-refuses, stops_first, goes_first, needs-worked}

-- an error that is passed on in the words t
passed-on : (r : Result Unit SolveError) (t : Told) → IsErr r × IsErrAnd r (λ e. told_error e ≡ t) → (told r ≡ t) × (refuses (told r) ≡ true)
passed-on (Ok w) t p = absurd (false≢true p.0)
passed-on (Err e) t p = (p.1, error-refuses e)

module _ (dims starts rows perm late order parents l_starts l_rows l_offsets : List ℕ) (l_values : List Float) (diag d x y scalar_perm sizes scalar_starts : ℕ) (r : Result Unit SolveError) (t : Told) (says : IsErr r × IsErrAnd r (λ e. told_error e ≡ t)) where
  pub call-tables : t ≡ solve_verdict dims starts rows perm late parents l_starts l_rows l_values → told r ≡ call_verdict dims starts rows perm late order parents l_starts l_rows l_offsets l_values diag d x y scalar_perm sizes scalar_starts
  unfolding call_verdict
  call-tables h = let p = passed-on r t says in stops_first _ (p.0 ∙ h) p.1

  module _ (tables : done ≡ solve_verdict dims starts rows perm late parents l_starts l_rows l_values) (all : ℕ) (is_all : all ≡ scalar_count dims) where
    pub call-needs : t ≡ verdict (need_checks (lent_from 0 (x ∷ y ∷ scalar_perm ∷ sizes ∷ scalar_starts ∷ []) (0 ∷ all ∷ all ∷ length dims ∷ (length dims + 1) ∷ []))) → told r ≡ call_verdict dims starts rows perm late order parents l_starts l_rows l_offsets l_values diag d x y scalar_perm sizes scalar_starts
    unfolding call_verdict
    call-needs h = let p = passed-on r t says in goes_first tables (stops_first _ (p.0 ∙ (h ∙ needs-worked dims x y scalar_perm sizes scalar_starts all is_all)) p.1)

    pub call-match : done ≡ verdict (need_checks (lent_from 0 (x ∷ y ∷ scalar_perm ∷ sizes ∷ scalar_starts ∷ []) (0 ∷ all ∷ all ∷ length dims ∷ (length dims + 1) ∷ []))) → t ≡ match_verdict dims starts rows perm late order parents l_starts l_rows l_offsets diag d x → told r ≡ call_verdict dims starts rows perm late order parents l_starts l_rows l_offsets l_values diag d x y scalar_perm sizes scalar_starts
    unfolding call_verdict
    call-match n h = let p = passed-on r t says in goes_first tables (goes_first (n ∙ needs-worked dims x y scalar_perm sizes scalar_starts all is_all) (p.0 ∙ h))

module _ (dims starts rows perm late order parents l_starts l_rows l_offsets : List ℕ) (l_values : List Float) (diag d x y scalar_perm sizes scalar_starts : ℕ) where
  pub call-accepts : done ≡ solve_verdict dims starts rows perm late parents l_starts l_rows l_values → (all : ℕ) → all ≡ scalar_count dims → done ≡ verdict (need_checks (lent_from 0 (x ∷ y ∷ scalar_perm ∷ sizes ∷ scalar_starts ∷ []) (0 ∷ all ∷ all ∷ length dims ∷ (length dims + 1) ∷ []))) → done ≡ match_verdict dims starts rows perm late order parents l_starts l_rows l_offsets diag d x → done ≡ call_verdict dims starts rows perm late order parents l_starts l_rows l_offsets l_values diag d x y scalar_perm sizes scalar_starts
  unfolding call_verdict
  call-accepts tables all is_all n m = goes_first tables (goes_first (n ∙ needs-worked dims x y scalar_perm sizes scalar_starts all is_all) m)

-- what the proof of `check_call` cites
pub ruleset call_laws = (call-tables, call-needs, call-match, call-accepts)
