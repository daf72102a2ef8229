-- A block of dimension d is a run of d scalars, one block behind the other. Under the order of elimination scalars keep their order
-- inside a block. Assumes nothing.
use Rattle.std.specs.Prelude.{ℕ, ◌+◌, List, map, length, slice_index}
use Rattle.graph.specs.Sets.{from, gather}
use Rattle.buckets.specs.Buckets.{before}

-- how many scalars there are
abbrev pub scalar_count : (sizes : List ℕ) → ℕ
scalar_count sizes = before sizes (length sizes)

-- where the scalars of each block begin, and behind the last their number: n + 1 running sums
unfoldable pub scalar_starts : (sizes : List ℕ) → List ℕ
scalar_starts sizes = map {A = ℕ} {B = ℕ} (before sizes) (from 0 (length sizes + 1))

-- the scalars of block k
abbrev pub scalars_of : (sizes : List ℕ) → ℕ → List ℕ
scalars_of sizes k = from (before sizes k) (slice_index sizes k)

-- the old number of each new scalar: the scalars of the old blocks, in the order of the new ones
unfoldable pub scalar_perm : (dims order : List ℕ) → List ℕ
scalar_perm dims order = gather {A = ℕ} (scalars_of dims) order
