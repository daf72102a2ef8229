-- The rows of a finished column, kept one after the other.
--     row_kept    one row that is written
--     one_more    a turn of the loop over the rows
-- Assumes nothing.
use Rattle.std.specs.Prelude.{◌≡◌, ℕ, ◌+◌, ◌*◌, ◌<◌, ◌≤◌, List, length}
use mathlib.Core.Logic.{inl}
use mathlib.Core.Path.{sym, subst, ◌∙◌}
use native.Mathlib.Decide.{dec_lt}
use native.Mathlib.Omega.{arith}
use lib.Ieee.{Float}
use Rattle.scalar.specs.Block.{within}
use Rattle.tables.specs.Verdict.{at}
use Rattle.machine.specs.Machine.{mat_product}
use Rattle.block_product.specs.Working.{slot}
use Rattle.block_product.proofs.SlotLaws.{slot-written, slot-other, within-length}
use Rattle.tiled_multiply.proofs.GridLaws.{product-length}
use Rattle.keep_column.specs.Keep.{KeptRow, KeepFit, Keeps}

-- ---- one row

module _ (h w o : ℕ) (values unit cache : List Float) where
  abbrev q : List Float
  q = mat_product h w w (slot o (h * w) values) unit

  pub row_kept : (cache' : List Float) → o + h * w ≤ length cache → cache' ≡ within o (h * w) (λ x. q) cache → KeptRow h w o values unit cache cache'
  row_kept cache' fits e =
      let long = product-length h w w (slot o (h * w) values) unit in
      record {
        long = rw e (within-length o (h * w) (λ x. q) cache fits long);
        own = λ f. rw e (slot-written o (h * w) (λ x. q) cache fits long);
        before = λ p n b. rw e (slot-other o (h * w) (λ x. q) cache fits long p n (inl b));
      }

-- ---- the rows

module _ (sizes rows offsets : List ℕ) (k from : ℕ) (values unit cache₀ : List Float) where
  -- the rows before place u are kept
  abbrev pub UpTo : ℕ → List Float → Type 0
  UpTo u cache = Keeps sizes rows offsets k from u values unit cache₀ cache

  pub one_more : (end u : ℕ) (cache cache' : List Float) → KeepFit sizes rows offsets k from end (length values) → from ≤ u → u < end → UpTo u cache
      → KeptRow (at sizes (at rows u)) (at sizes k) (at offsets u) values unit cache cache' → UpTo (u + 1) cache'
  one_more end u cache cache' fits le lt up row =
      record {
        long = row.long ∙ up.long;
        own = λ v le' lt' f. at_row v le' lt' f (dec_lt v u);
        before = λ p n h. row.before p n (h u le (omega arith)) ∙ up.before p n (λ v le' lt'. h v le' (omega arith));
      }
    where
      at_row : (v : ℕ) → from ≤ v → v < u + 1 → at offsets v + at sizes (at rows v) * at sizes k ≤ length cache₀ → Dec (v < u)
          → slot (at offsets v) (at sizes (at rows v) * at sizes k) cache'
          ≡ mat_product (at sizes (at rows v)) (at sizes k) (at sizes k) (slot (at offsets v) (at sizes (at rows v) * at sizes k) values) unit
      at_row v le' lt' f (yes l) = row.before (at offsets v) (at sizes (at rows v) * at sizes k) (fits.after v u le' l lt) ∙ up.own v le' l f
      at_row v le' lt' f (no l) =
          let e : u ≡ v = omega arith in
          let g : at offsets u + at sizes (at rows u) * at sizes k ≤ length cache₀ = subst (λ (v : ℕ). at offsets v + at sizes (at rows v) * at sizes k ≤ length cache₀) (sym e) f in
          subst (λ (v : ℕ). slot (at offsets v) (at sizes (at rows v) * at sizes k) cache' ≡ mat_product (at sizes (at rows v)) (at sizes k) (at sizes k) (slot (at offsets v) (at sizes (at rows v) * at sizes k) values) unit) e
          (row.own (subst (λ (n : ℕ). at offsets u + at sizes (at rows u) * at sizes k ≤ n) (sym up.long) g))
