-- Where the loop over the columns ends is where the machine's run ends.
--     stops_at    a column that is refused ends the run with its refusal
--     refuses     and so do the columns
--     mapped      an error that was mapped is made from one
-- Assumes nothing.
use Rattle.std.specs.Prelude.{◌≡◌, ℕ, suc, ◌+◌, ◌-◌, ◌<◌, List}
use mathlib.Core.Path.{refl, ap, sym, subst, ◌∙◌}
use native.Mathlib.Omega.{arith}
use mathlib.Core.Bool.{false≢true}
use lib.Ieee.{Float}
use Rattle.refusal.specs.Refusal.{Told}
use Rattle.std.specs.Prelude.{Result, Ok, Err}
use Rattle.std.specs.Result.{MatchResult, IsErrAnd, is_ok}
use Rattle.block_diag_ldlt.specs.declared.cores.BlockError.{BlockError}
use Rattle.block_diag_ldlt.specs.declared.cores.BlockError.TheVariants.{NotFinite, Poor}
use Rattle.machine.specs.System.{System, blocks}
use Rattle.machine.specs.Machine.{stopped, run_to, run}
use Rattle.machine.proofs.StopLaws.{stays}
use Rattle.layout.specs.Layout.{Tables}
use Rattle.factor_column.specs.Turn.{After}
use Rattle.factor_columns.specs.Columns.{refused_at, Ends}

pub stops_at : (a : System) (t : Told) (j : ℕ) → j < blocks a → run_to a (suc j) ≡ stopped t → run a ≡ stopped t
stops_at a t j h e =
    let z : suc j + (blocks a - suc j) ≡ blocks a = omega arith in
    sym (ap (run_to a) z) ∙ stays a t (suc j) (blocks a - suc j) e

pub refuses : (t : Tables) (unit_starts d_starts : List ℕ) (a : System) (j : ℕ) (e : BlockError) (values diag d cache : List Float) → j < blocks a
    → After t unit_starts d_starts a j (Err e) values diag d cache → Ends t unit_starts d_starts a (Err (refused_at j e)) values diag d cache
refuses t unit_starts d_starts a j (NotFinite place pivot) values diag d cache h e = stops_at a _ j h e
refuses t unit_starts d_starts a j (Poor condition) values diag d cache h e = stops_at a _ j h e

-- where the error of an answer was mapped, the error that it is made from
pub mapped : {A E D : Type 0} {Q : E → D → Type 0} (f : E → D) (y : Result A E) (z : Result A D) (d : D) → MatchResult y (λ x. z ≡ Ok x) (λ e. IsErrAnd z (Q e)) → z ≡ Err d
    → ((e : E) (r : D) → Q e r → r ≡ f e) → (e : E) × (y ≡ Err e) × (d ≡ f e)
mapped f (Ok x) z d m w h = absurd (false≢true (sym (ap is_ok (sym m ∙ w))))
mapped {Q = Q} f (Err e) z d m w h = (e, refl, h e d (subst (λ r. IsErrAnd r (Q e)) w m))
