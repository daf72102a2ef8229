-- Where the machine stops it refuses, so that an accepted outcome has a last state.
--     answer-is    the outcome of the columns, with what L has, is the run's answer
--     accepted-run an accepted answer has a last state, whose triples it counts
-- Assumes nothing.
use Rattle.std.specs.Prelude.{◌≡◌, ℕ, true, List, [], ◌∷◌, length}
use mathlib.Core.Bool.{false≢true}
use mathlib.Core.Path.{refl, sym, ap, ◌∙◌}
use native.Mathlib.Omega.{arith}
use lib.Ieee.{Float}
use Rattle.refusal.specs.Refusal.{Told, accepted, refuses}
use Rattle.block_diag_ldlt.specs.Block.{block_ldlt}
use Rattle.std.specs.Prelude.{Result, Ok, Err}
use Rattle.dense_pivots.specs.declared.LdltResult.{LdltResult}
use Rattle.block_diag_ldlt.specs.declared.cores.BlockError.{BlockError}
use Rattle.block_diag_ldlt.specs.declared.cores.BlockError.TheVariants.{NotFinite, Poor}
use Rattle.machine.specs.System.{System, dim}
use Rattle.machine.specs.Machine as machine
use Rattle.machine.specs.Machine.{State, refused, body_or, settled_by, finish, Run, going, stopped, run}
use Rattle.machine.proofs.StopLaws.{stops}
use Rattle.factor_columns.specs.Columns as columns
use Rattle.factor_columns.specs.declared.cores.ColumnError.{ColumnError}
use Rattle.factor_columns.specs.declared.cores.ColumnError.TheVariants as column
use Rattle.factor_core.specs.Factorize.{told, answered}
use Rattle.factor_core.specs.Written.{factorized_by}
use Rattle.factor_setup.specs.Exact.{stored, numbers}

-- a column that is refused is refused by 13 or 14
finish-refuses : (a : System) (j : ℕ) (s : State) (t : Told) → finish a j s ≡ refused t → refuses t ≡ true
unfolding finish settled_by
finish-refuses a j s t e = go (block_ldlt (dim a j) a.tol (body_or _ (s.work j))) e
  where
    out : (u : Told) → refused u ≡ refused t → t ≡ u
    out u p = cc

    go : (r : Result LdltResult BlockError × List Float × List Float) → settled_by a j s r ≡ refused t → refuses t ≡ true
    go (Ok r, unit, d) p = absurd (let z : ◌≡◌ {A = ℕ} 0 1 = cc in omega arith)
    go (Err (NotFinite place pivot), unit, d) p = ap refuses (out _ p)
    go (Err (Poor condition), unit, d) p = ap refuses (out _ p)

module _ (a : System) where
  stop-refuses : (t : Told) → run a ≡ stopped t → refuses t ≡ true
  stop-refuses t e = let r = (stops a t).0 e in finish-refuses a r.0 _ t r.2.refusal

  pub answer-is : (w : Result ℕ ColumnError) → columns.told w ≡ machine.told (run a) → told (factorized_by (stored a) (numbers a) w) ≡ answered a (run a)
  answer-is w e = go w (run a) refl e
    where
      counts : (s m c d : ℕ) → accepted (c ∷ []) [] ≡ accepted (d ∷ []) [] → accepted (s ∷ m ∷ c ∷ []) [] ≡ accepted (s ∷ m ∷ d ∷ []) []
      counts s m c d p = let q : c ≡ d = cc in ap (λ (x : ℕ). accepted (s ∷ m ∷ x ∷ []) []) q

      go : (w : Result ℕ ColumnError) (r : Run) → run a ≡ r → columns.told w ≡ machine.told r → told (factorized_by (stored a) (numbers a) w) ≡ answered a r
      go (Ok count) (going s) q p = counts (stored a) (numbers a) count (length s.done) p
      go (Ok count) (stopped t) q p = absurd (false≢true (ap refuses p ∙ stop-refuses t q))
      go (Err (column.NotFinite block place pivot)) (going s) q p = absurd (false≢true (sym (ap refuses p)))
      go (Err (column.NotFinite block place pivot)) (stopped t) q p = p
      go (Err (column.Poor block condition)) (going s) q p = absurd (false≢true (sym (ap refuses p)))
      go (Err (column.Poor block condition)) (stopped t) q p = p

  pub accepted-run : (s m c : ℕ) → accepted (s ∷ m ∷ c ∷ []) [] ≡ answered a (run a) → (st : State) × (run a ≡ going st) × (c ≡ length st.done)
  accepted-run s m c e = go (run a) refl e
    where
      last : (x y z : ℕ) → accepted (s ∷ m ∷ c ∷ []) [] ≡ accepted (x ∷ y ∷ z ∷ []) [] → c ≡ z
      last x y z p = cc

      go : (r : Run) → run a ≡ r → accepted (s ∷ m ∷ c ∷ []) [] ≡ answered a r → (st : State) × (run a ≡ going st) × (c ≡ length st.done)
      go (going st) q p = (st, q, last _ _ _ p)
      go (stopped t) q p = absurd (false≢true (ap refuses p ∙ stop-refuses t q))
