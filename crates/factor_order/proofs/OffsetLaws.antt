-- The offsets of a factor under an order, one block after the other. Assumes nothing.
use Rattle.std.specs.Prelude.{◌≡◌, ℕ, ◌+◌, ◌*◌, ◌<◌, ◌≤◌, List, length}
use mathlib.Core.Path.{sym, ap, ◌∙◌}
use native.Mathlib.Omega.{arith}
use Rattle.graph.specs.Order.{Permutes}
use Rattle.tables.specs.Verdict.{at, block_area, area_at, past_diagonal}
use Rattle.tables.specs.Sound.{Sizes, Columns}
use Rattle.tables.proofs.ColumnLaws.{column-is}
use Rattle.tables.proofs.TableLaws.{stored-limit}
use Rattle.order.specs.Order.{sizes_of}
use Rattle.scalars.specs.Bodies.{offset_at}
use Rattle.scalars.proofs.BodyLaws.{offset-next, offset-small}
use Rattle.factor_tables.proofs.TableLaws.{sizes-count}
use Rattle.factor_order.proofs.AreaLaws.{measured-under}

-- the offsets before p agree, and the sum is the next
pub record Agree (dims order l_starts l_rows l_offsets : List ℕ) (p sum : ℕ) : Type 0 where
  pub before : (q : ℕ) → q < p → at l_offsets q ≡ offset_at (sizes_of dims order) l_starts l_rows q
  pub next : sum ≡ offset_at (sizes_of dims order) l_starts l_rows p

module _ (dims order l_starts l_rows : List ℕ) (few : length dims ≤ 4096) (s : Sizes dims) (p : Permutes (length dims) order) (c : Columns past_diagonal (length dims) l_starts l_rows) where
  -- the area of the block at place u of column j
  area-at : (j u : ℕ) → j < length dims → at l_starts j ≤ u → u < at l_starts (j + 1) → area_at (sizes_of dims order) l_starts l_rows u ≡ at (sizes_of dims order) (at l_rows u) * at (sizes_of dims order) j
  unfolding block_area
  area-at j u h lo hi = rw (sizes-count dims order p, column-is c.ordered j u h lo hi)

  pub offset-turn : (j u : ℕ) → j < length dims → at l_starts j ≤ u → u < at l_starts (j + 1)
      → offset_at (sizes_of dims order) l_starts l_rows u + at (sizes_of dims order) (at l_rows u) * at (sizes_of dims order) j ≡ offset_at (sizes_of dims order) l_starts l_rows (u + 1)
  offset-turn j u h lo hi = sym (offset-next (sizes_of dims order) l_starts l_rows u ∙ ap (λ (x : ℕ). offset_at (sizes_of dims order) l_starts l_rows u + x) (area-at j u h lo hi))

  pub offset-few : (u : ℕ) → u ≤ length l_rows → offset_at (sizes_of dims order) l_starts l_rows u ≤ 4294967040
  offset-few u h = offset-small (measured-under dims order l_starts l_rows few s p c) (omega (arith, stored-limit c few)) u h

  -- as the loop has it
  pub offset-sum : (j u sum row height width : ℕ) → j < length dims → at l_starts j ≤ u → u < at l_starts (j + 1) → sum ≡ offset_at (sizes_of dims order) l_starts l_rows u → row ≡ at l_rows u
      → height ≡ at (sizes_of dims order) row → width ≡ at (sizes_of dims order) j → sum + height * width ≡ offset_at (sizes_of dims order) l_starts l_rows (u + 1)
  offset-sum j u sum row height width h lo hi es er eh ew = rw (es, eh, er, ew) (offset-turn j u h lo hi)
