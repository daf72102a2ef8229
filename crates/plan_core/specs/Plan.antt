-- What `plan::plan` answers, and what it leaves in every lent place, for any arguments. Assumes nothing.
use Rattle.std.specs.Prelude.{◌≡◌, ℕ, ◌+◌, ◌<◌, Bool, false, T, ◌↔◌, List, [], ◌∷◌, ◌++◌, length, drop, replicate, slice_index, Result}
use Rattle.graph.specs.Sets.{elem}
use Rattle.graph.specs.Links.{linked_of}
use Rattle.graph.specs.Order.{moved}
use Rattle.graph.specs.Count.{triples}
use Rattle.graph.specs.Path as rule
use Rattle.graph.specs.Tree.{Parent}
use Rattle.graph.specs.Symbolic as L
use Rattle.refusal.specs.Refusal.{Told, told_by, accepted, too_many_blocks, bad_dimension, bad_starts, too_many_stored, out_of_range, not_increasing, bad_permutation, bad_late_flags, short_buffer, refuses, first_of, verdict_after, after}
use Rattle.needs.specs.Needs.{Lent, lent_from, need_checks}
use Rattle.tables.specs.Verdict.{plan_verdict}
use Rattle.elimination_tree.specs.Tree.{decode, parents_of}
use Rattle.order.specs.Order.{sizes_of}
use Rattle.symbolic.specs.Columns.{numbers_of}
use Rattle.analysis.specs.Plan.{stored_of, products_in, starts_of, rows_of}
pub use Rattle.analysis.specs.declared.cores.Counts.{Counts}
use Rattle.lists.specs.declared.Night as declared
use Rattle.plan_core.specs.declared.Outputs.{Outputs}
use Rattle.scratch.specs.declared.Scratch.{Scratch}
pub use Rattle.scratch.specs.Scratch.{SameScratch}
use Rattle.plan_core.specs.declared.PlanError.{PlanError}
use Rattle.plan_core.specs.declared.PlanError.TheVariants.{Blocks, Dimension, Starts, Stored, Row, Order, Permutation, Late, Short}

-- document 01's number and values for each case
abbrev pub told_error : PlanError → Told
told_error Blocks = too_many_blocks
told_error (Dimension place) = bad_dimension place
told_error (Starts place) = bad_starts place
told_error Stored = too_many_stored
told_error (Row place) = out_of_range place
told_error (Order place) = not_increasing place
told_error (Permutation place) = bad_permutation place
told_error (Late place) = bad_late_flags place
told_error (Short which need) = short_buffer which need

-- an accepted plan hands back L's blocks, L's numbers and the block products
abbrev pub told : Result Counts PlanError → Told
told = told_by (λ c. accepted (c.stored ∷ c.numbers ∷ c.products ∷ []) []) told_error

-- what is handed in
pub record Night : Type 0 where
  pub dims : List ℕ
  pub starts : List ℕ
  pub rows : List ℕ
  pub perm : List ℕ
  pub late : List ℕ

-- what is lent, in the order of the call: four outputs, then scratch
pub record Places : Type 0 where
  pub order : List ℕ
  pub parents : List ℕ
  pub l_starts : List ℕ
  pub l_rows : List ℕ
  pub inverse : List ℕ
  pub sizes : List ℕ
  pub count : List ℕ
  pub heads : List ℕ
  pub into : List ℕ
  pub stamps : List ℕ
  pub table : List ℕ
  pub upper : List ℕ

abbrev pub night : (dims starts rows perm late : List ℕ) → Night
night dims starts rows perm late = record { dims = dims; starts = starts; rows = rows; perm = perm; late = late }

abbrev pub places : (order parents l_starts l_rows inverse sizes count heads into stamps table upper : List ℕ) → Places
places order parents l_starts l_rows inverse sizes count heads into stamps table upper = record {
  order = order;
  parents = parents;
  l_starts = l_starts;
  l_rows = l_rows;
  inverse = inverse;
  sizes = sizes;
  count = count;
  heads = heads;
  into = into;
  stamps = stamps;
  table = table;
  upper = upper;
}

-- the same of the structs of a call
abbrev pub handed : declared.Night → Night
handed a = night a.dims.now a.starts.now a.rows.now a.perm.now a.late.now

abbrev pub lent_of : Outputs → Scratch → Places
lent_of o w =
    places o.order.now o.parents.now o.l_starts.now o.l_rows.now w.inverse.now w.sizes.now w.count.now w.heads.now w.into.now w.stamps.now w.table.now w.upper.now

-- each output is still the one that was lent
pub record SameOutputs (o p : Outputs) : Type 0 where
  pub order : p.order.ghost_name ≡ o.order.ghost_name
  pub parents : p.parents.ghost_name ≡ o.parents.ghost_name
  pub l_starts : p.l_starts.ghost_name ≡ o.l_starts.ghost_name
  pub l_rows : p.l_rows.ghost_name ≡ o.l_rows.ghost_name

abbrev pub blocks : Night → ℕ
blocks a = length a.dims

-- the links of the night's permuted matrix
abbrev pub links : Night → ℕ → ℕ → Bool
links a = linked_of a.starts a.rows a.perm a.late

-- ---- the needs

-- the lengths of what is lent
abbrev pub lengths_of : Places → List ℕ
lengths_of b =
    length b.order ∷ length b.parents ∷ length b.l_starts ∷ length b.l_rows ∷ length b.inverse ∷ length b.sizes
    ∷ length b.count ∷ length b.heads ∷ length b.into ∷ length b.stamps ∷ length b.table ∷ length b.upper ∷ []

-- what is known of the needs without the plan, n blocks and m stored: of L's row table nothing
abbrev pub first_needs : (n m : ℕ) → List ℕ
first_needs n m = n ∷ n ∷ (n + 1) ∷ 0 ∷ n ∷ n ∷ n ∷ (n + 1) ∷ (n + 1) ∷ n ∷ m ∷ m ∷ []

abbrev pub first_list : Night → Places → List Lent
first_list a b = lent_from 0 (lengths_of b) (first_needs (blocks a) (length a.rows))

-- what only the plan shows: L's row table needs the count of L's blocks
abbrev pub plan_list : Night → Places → List Lent
plan_list a b = lent_from 3 (length b.l_rows ∷ []) (stored_of (links a) (blocks a) ∷ [])

-- the verdict before the plan: 1 to 9 on the tables, then 11
unfoldable pub early : Night → Places → Told
early a b = verdict_after (plan_verdict a.dims a.starts a.rows a.perm a.late) (need_checks (first_list a b))

-- ---- the promise

-- the whole verdict: after an early one, the need that only the plan shows
abbrev pub whole : Told → Night → Places → Told
whole v a b = verdict_after v (need_checks (plan_list a b))

-- what an accepted plan hands back: L's blocks, L's numbers, and the block products
abbrev pub answer : Night → Told
answer a = accepted (stored_of (links a) (blocks a) ∷ numbers_of (links a) (blocks a) (sizes_of a.dims (moved a.perm a.late)) ∷ products_in (links a) (blocks a) ∷ []) []

-- zeros in the first n places
abbrev pub cleared : ℕ → List ℕ → List ℕ
cleared n xs = replicate n 0 ++ drop n xs

-- under an early verdict v: outputs are as they were where the call refuses, and scratch where v refuses; else outputs have the plan,
-- and scratch is zeros. Places beyond a need are as they were.
pub record Plans (v : Told) (a : Night) (b : Places) (r : Result Counts PlanError) (b' : Places) : Type 0 where
  pub outcome : told r ≡ first_of (whole v a b) (answer a)
  -- the outputs
  pub order : b'.order ≡ after (whole v a b) b.order (moved a.perm a.late ++ drop (blocks a) b.order)
  pub parents : b'.parents ≡ after (whole v a b) b.parents (parents_of (links a) (blocks a) ++ drop (blocks a) b.parents)
  pub l_starts : b'.l_starts ≡ after (whole v a b) b.l_starts (starts_of (links a) (blocks a) ++ drop (blocks a + 1) b.l_starts)
  pub l_rows : b'.l_rows ≡ after (whole v a b) b.l_rows (rows_of (links a) (blocks a) ++ drop (stored_of (links a) (blocks a)) b.l_rows)
  -- the scratch
  pub inverse : b'.inverse ≡ after v b.inverse (cleared (blocks a) b.inverse)
  pub sizes : b'.sizes ≡ after v b.sizes (cleared (blocks a) b.sizes)
  pub count : b'.count ≡ after v b.count (cleared (blocks a) b.count)
  pub heads : b'.heads ≡ after v b.heads (cleared (blocks a + 1) b.heads)
  pub into : b'.into ≡ after v b.into (cleared (blocks a + 1) b.into)
  pub stamps : b'.stamps ≡ after v b.stamps (cleared (blocks a) b.stamps)
  pub table : b'.table ≡ after v b.table (cleared (length a.rows) b.table)
  pub upper : b'.upper ≡ after v b.upper (cleared (length a.rows) b.upper)
  -- each parent is Liu's, each column has exactly the rows of the path rule, and the products are the triples (i, j, k)
  pub liu : refuses (whole v a b) ≡ false → (k : ℕ) → k < blocks a → Parent (links a) (blocks a) k (decode (slice_index b'.parents k))
  pub path : (k i : ℕ) → k < blocks a → T (elem i (L.rows (links a) (blocks a) k)) ↔ ((i < blocks a) × rule.Stored (links a) k i)
  pub products : products_in (links a) (blocks a) ≡ length (triples (links a) (blocks a))

-- each buffer but L's row table has exactly what it needs
pub record Exact (a : Night) (b : Places) : Type 0 where
  pub order : length b.order ≡ blocks a
  pub parents : length b.parents ≡ blocks a
  pub l_starts : length b.l_starts ≡ blocks a + 1
  pub inverse : length b.inverse ≡ blocks a
  pub sizes : length b.sizes ≡ blocks a
  pub count : length b.count ≡ blocks a
  pub heads : length b.heads ≡ blocks a + 1
  pub into : length b.into ≡ blocks a + 1
  pub stamps : length b.stamps ≡ blocks a
  pub table : length b.table ≡ length a.rows
  pub upper : length b.upper ≡ length a.rows
