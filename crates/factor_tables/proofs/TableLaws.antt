-- The dimensions under an order are good, and so are the tables of L by them.
--     sizes-count, sizes-sound   the dimensions under a permutation of the blocks
--     order-inside               every old number is a block
--     l-measured                 what L's offsets are made from
--     layable                    tables that pass and the columns of L can be laid out
-- Assumes nothing.
use Rattle.std.specs.Prelude.{◌≡◌, ℕ, ◌<◌, ◌≤◌, List, length, get_or}
use mathlib.Core.Path.{sym, subst, ◌∙◌}
use native.Mathlib.Omega.{arith}
use Rattle.graph.specs.Order.{Permutes, moved}
use Rattle.graph.proofs.OrderLaws.{moved-permutes}
use Rattle.order.specs.Order.{sizes_of}
use Rattle.order.proofs.Laws.{below_at, length-sizes}
use Rattle.tables.specs.Verdict.{past_diagonal}
use Rattle.tables.specs.Sound.{Columns, PlanSound, Sizes, Ordered, Measured}
use Rattle.scalars.proofs.ScalarLaws.{sizes-at}
use Rattle.analysis.proofs.Laws.{sized}
use Rattle.factor_tables.specs.Given.{Layable}

module _ (dims order : List ℕ) (p : Permutes (length dims) order) where
  pub order-inside : (k : ℕ) → k < length order → get_or order k 0 < length dims
  order-inside k h = below_at (length dims) order p k (omega (arith, p.entries))

  pub sizes-count : length (sizes_of dims order) ≡ length dims
  sizes-count = length-sizes dims order ∙ p.entries

  pub sizes-sound : Sizes dims → Sizes (sizes_of dims order)
  sizes-sound s = record { positive = positive; small = (sized (length dims) dims order s p.entries).small }
    where
      positive : (k : ℕ) → k < length (sizes_of dims order) → 1 ≤ get_or (sizes_of dims order) k 0
      positive k h =
          let l : k < length order = omega (arith, length-sizes dims order) in
          omega (arith, sizes-at dims order k l, s.positive (get_or order k 0) (order-inside k l))

-- what L's offsets are made from
pub l-measured : (dims starts rows order l_starts l_rows : List ℕ) → Layable dims starts rows order l_starts l_rows → Measured (sizes_of dims order) l_starts l_rows
l-measured dims starts rows order l_starts l_rows g =
    let e = sizes-count dims order g.permutes in
    record {
      sizes = sizes-sound dims order g.permutes g.measured.sizes;
      ordered = subst (λ (m : ℕ). Ordered l_starts m (length l_rows)) (sym e) g.columns.ordered;
      below = λ p h. subst (λ (m : ℕ). get_or l_rows p 0 < m) (sym e) (g.columns.below p h);
      few = omega (arith, g.filled);
    }

-- tables that pass and the columns of L can be laid out
pub layable : (dims starts rows perm late l_starts l_rows : List ℕ) → PlanSound dims starts rows perm late → Columns past_diagonal (length dims) l_starts l_rows → length l_rows < 16777216
    → Layable dims starts rows (moved perm late) l_starts l_rows
layable dims starts rows perm late l_starts l_rows p c few =
    record {
      blocks = p.blocks;
      measured = record { sizes = p.sizes; ordered = p.columns.ordered; below = p.columns.below; few = omega (arith, p.stored) };
      stored = omega (arith, p.stored);
      permutes = moved-permutes perm late (length dims) p.permutes;
      columns = c;
      filled = few;
    }
