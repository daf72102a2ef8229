-- The two steps of the end of a column, from what the code writes.
--     decomposes    the diagonal block
--     one_more      the rows: a turn of the loop
-- Assumes nothing.
use Rattle.std.specs.Prelude.{◌≡◌, ℕ, ◌+◌, ◌*◌, ◌<◌, ◌≤◌, List, length}
use mathlib.Core.Logic.{inl}
use mathlib.Core.Path.{subst, ◌∙◌}
use native.Mathlib.Decide.{dec_lt}
use native.Mathlib.Omega.{arith}
use lib.Ieee.{Float}
use Rattle.scalar.specs.Block.{within}
use Rattle.dense_solve_right.specs.SolveRight.{ldlt_right_matsolve}
use Rattle.block_diag_ldlt.specs.Block.{block_ldlt}
use Rattle.std.specs.Prelude.{Result}
use Rattle.dense_pivots.specs.declared.LdltResult.{LdltResult}
use Rattle.block_diag_ldlt.specs.declared.cores.BlockError.{BlockError}
use Rattle.tables.specs.Verdict.{at}
use Rattle.block_product.specs.Working.{slot}
use Rattle.block_product.proofs.SlotLaws.{slot-written, slot-other}
use Rattle.layout.specs.Layout.{Tables, side, start_of, stop_of}
use Rattle.finish_column.specs.Steps.{BlockFit, Decomposes, StoreFit, Stores}

-- ---- the diagonal block

-- what it needs is the same with lists that are as long
pub block-later : (sizes places unit_starts d_starts : List ℕ) (j c diag diag' d d' : ℕ) → diag' ≡ diag → d' ≡ d
    → BlockFit sizes places unit_starts d_starts j c diag d → BlockFit sizes places unit_starts d_starts j c diag' d'
block-later sizes places unit_starts d_starts j c diag diag' d d' e f h = rw (e, f) h

-- its unit factor and d are written to their places
pub decomposes : (sizes places unit_starts d_starts : List ℕ) (j : ℕ) (tol : Float) (c diag d : List Float) (r : Result LdltResult BlockError) (unit pivots : List Float)
    → BlockFit sizes places unit_starts d_starts j (length c) (length diag) (length d) → length unit ≡ at sizes j * at sizes j → length pivots ≡ at sizes j
    → (r, unit, pivots) ≡ block_ldlt (at sizes j) tol (slot (at places j) (at sizes j * at sizes j) c)
    → Decomposes sizes places unit_starts d_starts j tol c diag d r (within (at unit_starts j) (at sizes j * at sizes j) (λ x. unit) diag) (within (at d_starts j) (at sizes j) (λ x. pivots) d)
decomposes sizes places unit_starts d_starts j tol c diag d r unit pivots fits long long-d e =
    record {
      factors =
          rw (slot-written (at unit_starts j) (at sizes j * at sizes j) (λ x. unit) diag fits.unit long, slot-written (at d_starts j) (at sizes j) (λ x. pivots) d fits.of_d long-d) e;
      units_before = λ o n h. slot-other (at unit_starts j) (at sizes j * at sizes j) (λ x. unit) diag fits.unit long o n (inl h);
      d_before = λ o n h. slot-other (at d_starts j) (at sizes j) (λ x. pivots) d fits.of_d long-d o n (inl h);
    }

-- ---- the rows

module _ (t : Tables) (places : List ℕ) (j : ℕ) (unit d c values₀ : List Float) where
  -- the rows before place u are stored
  abbrev pub UpTo : ℕ → List Float → Type 0
  UpTo u values = Stores t places j u unit d c values₀ values

  -- the block of the row at place u, right-solved
  abbrev solved : ℕ → List Float
  solved u = ldlt_right_matsolve (side t (at t.l_rows u)) (side t j) unit d (slot (at places (at t.l_rows u)) (side t (at t.l_rows u) * side t j) c)

  -- a turn: the body of the row at place u is written, and the others stay
  pub one_more : (u : ℕ) (values values' : List Float) → StoreFit t places j (length c) (length values)
      → start_of t j ≤ u → u < stop_of t j → UpTo u values → length (solved u) ≡ side t (at t.l_rows u) * side t j
      → values' ≡ within (at t.l_offsets u) (side t (at t.l_rows u) * side t j) (λ x. solved u) values → UpTo (u + 1) values'
  one_more u values values' fits le lt up long e =
      record {
        own = λ v le' lt'. rw e (at_row v le' lt' (dec_lt v u));
        before = λ o n h.
            rw e (slot-other (at t.l_offsets u) _ (λ x. solved u) values (fits.body u le lt) long o n (inl (h u le (omega arith))) ∙ up.before o n (λ v le' lt'. h v le' (omega arith)));
      }
    where
      written : List Float
      written = within (at t.l_offsets u) (side t (at t.l_rows u) * side t j) (λ x. solved u) values

      at_row : (v : ℕ) → start_of t j ≤ v → v < u + 1 → Dec (v < u) → slot (at t.l_offsets v) (side t (at t.l_rows v) * side t j) written ≡ solved v
      at_row v le' lt' (yes l) =
          slot-other (at t.l_offsets u) _ (λ x. solved u) values (fits.body u le lt) long (at t.l_offsets v) _ (inl (fits.after v u le' l lt)) ∙ up.own v le' l
      at_row v le' lt' (no l) =
          let e : u ≡ v = omega arith in
          subst (λ (v : ℕ). slot (at t.l_offsets v) (side t (at t.l_rows v) * side t j) written ≡ solved v) e
          (slot-written (at t.l_offsets u) _ (λ x. solved u) values (fits.body u le lt) long)
