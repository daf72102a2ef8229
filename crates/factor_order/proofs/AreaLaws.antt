-- The dimensions under the order of elimination measure a factor's blocks. Assumes nothing.
use Rattle.std.specs.Prelude.{ℕ, ◌<◌, ◌≤◌, List, length}
use native.Mathlib.Omega.{arith}
use Rattle.graph.specs.Order.{Permutes, moved}
use Rattle.graph.proofs.OrderLaws.{moved-permutes}
use Rattle.tables.specs.Verdict.{at, past_diagonal}
use Rattle.tables.specs.Sound.{Sizes, Columns, Measured}
use Rattle.tables.proofs.TableLaws.{stored-limit}
use Rattle.order.specs.Order.{sizes_of}
use Rattle.order.proofs.Laws.{below_at}
use Rattle.factor_tables.proofs.TableLaws.{sizes-count, sizes-sound}

pub measured-under : (dims order l_starts l_rows : List ℕ) → length dims ≤ 4096 → Sizes dims → Permutes (length dims) order → Columns past_diagonal (length dims) l_starts l_rows
    → Measured (sizes_of dims order) l_starts l_rows
measured-under dims order l_starts l_rows few s p c =
    let e = sizes-count dims order p in
    record {
      sizes = sizes-sound dims order p s;
      ordered = rw e c.ordered;
      below = λ q h. rw e (c.below q h);
      few = omega (arith, stored-limit c few);
    }

-- each block of the moved permutation is one of them
pub moved-below : (dims perm late : List ℕ) → Permutes (length dims) perm → (k : ℕ) → k < length (moved perm late) → at (moved perm late) k < length dims
moved-below dims perm late p k h =
    let q = moved-permutes perm late (length dims) p in
    below_at (length dims) (moved perm late) q k (omega (arith, q.entries))
