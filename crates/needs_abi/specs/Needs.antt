-- The needs of each call's lent buffers, read off the call's own checks of 11, and what the exported calls that tell them answer. Assumes
-- nothing.
use Rattle.std.specs.Prelude.{◌≡◌, ℕ, ◌+◌, List, [], ◌∷◌, ◌++◌, map, length, take, drop, replicate, slice_index, slice_set}
use Rattle.scalar.specs.Scalar.{nought}
use Rattle.scalar.specs.Block.{zeros}
use Rattle.refusal.specs.Refusal.{Told, tells, verdict, after}
use Rattle.refusal.specs.Refusal as refusal
use Rattle.report.specs.Report.{carried}
use Rattle.needs.specs.Needs.{Lent}
use Rattle.tables.specs.Verdict.{blocks_check, dims_check, stored_check}
use Rattle.elimination_tree.specs.New as tree
use Rattle.reach.specs.Walk as walk
use Rattle.plan_core.specs.Plan as plan
use Rattle.scalars.specs.Scalars.{scalar_count}
use Rattle.machine.specs.System.{System}
use Rattle.factor_setup.specs.Exact.{system}
use Rattle.factor_core.specs.Factorize as factor
use Rattle.factor_core.specs.Cache.{lesser, most_kept}
use Rattle.solve.specs.Solve.{lent_list}
use Rattle.marks.specs.Marks.{marks_checks}

-- ---- the needs, in the order of the call

-- the need that a check of 11 tells of an empty buffer: one that needs nothing passes, and tells none
abbrev pub need_told : Told → ℕ
need_told (tells n is xs) = slice_index is 1

-- of the tree and of the walk, on n blocks; the walk's third check is 12
abbrev pub tree_needs : ℕ → List ℕ
tree_needs n = map {A = Told} {B = ℕ} need_told (tree.needs n 0 0)

abbrev pub reach_needs : ℕ → List ℕ
reach_needs n = map {A = Told} {B = ℕ} need_told (take 2 (walk.needs n 0 0 0))

-- of the plan, n blocks and m stored: what is known without it, and in L's row table L's blocks
abbrev pub plan_needs : (n m blocks : ℕ) → List ℕ
plan_needs n m blocks = slice_set (plan.first_needs n m) 3 blocks

-- of the factorization: what is known without the plan, and in L's rows, offsets and values what L's blocks and L's numbers say
abbrev pub factor_needs : System → (blocks numbers : ℕ) → List ℕ
factor_needs a blocks numbers = slice_set (slice_set (slice_set (factor.first_needs a) 3 blocks) 4 (blocks + 1)) 5 numbers

-- the same with a cache, whose need is the last
abbrev pub cached_needs : System → (blocks numbers : ℕ) → List ℕ
cached_needs a blocks numbers = factor_needs a blocks numbers ++ lesser numbers (most_kept a) ∷ []

-- a system with these dimensions, m stored blocks and so many numbers, its other tables as long as 3, 8 and 9 want them; its needs read no
-- more of it
abbrev pub shaped : (dims : List ℕ) → (m numbers : ℕ) → System
shaped dims m numbers =
    let n = length dims in
    system dims (replicate (n + 1) 0) (replicate m 0) (zeros numbers) (replicate n 0) (replicate n 0) nought

-- of the solve: what 11 tests, and in the right side the scalars, which is what 12 tests
abbrev pub solve_needs : (dims : List ℕ) → List ℕ
solve_needs dims = slice_set (map {A = Lent} {B = ℕ} (λ b. b.need) (lent_list dims 0 0 0 0 0)) 0 (scalar_count dims)

-- of the marks, whose fifth check is 11
abbrev pub marks_needs : (dims : List ℕ) → List ℕ
marks_needs dims = map {A = Told} {B = ℕ} need_told (take 1 (drop 4 (marks_checks dims [] 0 nought 0)))

-- ---- what is told of them

-- 1 and 4, on counts
abbrev pub counts_verdict : (n m : ℕ) → Told
counts_verdict n m = verdict (blocks_check n ∷ stored_check m ∷ [])

-- 1, 2 and 4, on dimensions
abbrev pub sizes_verdict : (dims : List ℕ) → (m : ℕ) → Told
sizes_verdict dims m = verdict (blocks_check (length dims) ∷ dims_check dims ∷ stored_check m ∷ [])

-- under a verdict v: its number, what it carries, and the needs, which are zeros where it refuses
pub record ExportsNeeds (v : Told) (list : List ℕ) (r : ℕ) (needs told : List ℕ) : Type 0 where
  pub number : r ≡ refusal.number v
  pub carries : told ≡ carried v
  pub listed : needs ≡ after v (replicate (length list) 0) list
