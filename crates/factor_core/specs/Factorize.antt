-- What `factorize::factorize` answers, and what it leaves in every lent place, for any arguments. Assumes nothing.
use Rattle.std.specs.Prelude.{◌≡◌, ℕ, ◌+◌, ◌-◌, ◌<◌, false, T, ◌↔◌, List, [], ◌∷◌, ◌++◌, length, drop, replicate}
use Rattle.std.specs.Prelude.{Float, Result, Ok}
use Rattle.scalar.specs.Block.{zeros}
use Rattle.graph.specs.Sets.{elem, between, sum}
use Rattle.graph.specs.Links.{rows_in}
use Rattle.graph.specs.Path.{Stored}
use Rattle.graph.specs.Count.{products_of}
use Rattle.graph.specs.Tree.{Parent}
use Rattle.refusal.specs.Refusal.{Told, told_by, accepted, too_many_blocks, bad_dimension, bad_starts, too_many_stored, out_of_range, not_increasing, bad_value_count, bad_permutation, bad_late_flags, bad_tolerance, short_buffer, pivot_not_finite, poorly_conditioned, refuses, first_of, verdict_after, after}
use Rattle.needs.specs.Needs.{Lent, lent_from, need_checks}
use Rattle.needs.specs.declared.ShortBuffer.{ShortBuffer}
use Rattle.tables.specs.Verdict.{at, system_verdict}
use Rattle.elimination_tree.specs.Tree.{decode, parents_of}
use Rattle.scalars.specs.Scalars.{scalar_count}
use Rattle.analysis.specs.declared.cores.Counts.{Counts}
use Rattle.machine.specs.System.{System, blocks, links, order}
use Rattle.machine.specs.Machine.{State, rows_at, Run, going, stopped, run}
use Rattle.layout.specs.Layout.{units_need, work_need}
use Rattle.factor_setup.specs.Exact.{stored, numbers, l_starts, l_rows, l_offsets, values_after, units_after, pivots_after}
use Rattle.factor_setup.specs.declared.Outputs.{Outputs}
use Rattle.factor_setup.specs.declared.Work.{Work}
pub use Rattle.factor_setup.specs.Lent.{SameOutputs}
use Rattle.scratch.specs.declared.Scratch as plan
use Rattle.checks.specs.declared.SystemError.{SystemError}
use Rattle.checks.specs.declared.SystemError.TheVariants as table
use Rattle.factor_columns.specs.declared.cores.ColumnError.{ColumnError}
use Rattle.factor_columns.specs.declared.cores.ColumnError.TheVariants as column
use Rattle.factor_core.specs.declared.Scratch.{Scratch}
use Rattle.factor_core.specs.declared.FactorizeError.{FactorizeError}
use Rattle.factor_core.specs.declared.FactorizeError.TheVariants as variant

-- document 01's number and values for each refusal
abbrev pub told_error : FactorizeError → Told
told_error variant.Blocks = too_many_blocks
told_error (variant.Dimension place) = bad_dimension place
told_error (variant.Starts place) = bad_starts place
told_error variant.Stored = too_many_stored
told_error (variant.Row place) = out_of_range place
told_error (variant.Order place) = not_increasing place
told_error variant.Values = bad_value_count
told_error (variant.Permutation place) = bad_permutation place
told_error (variant.Late place) = bad_late_flags place
told_error variant.Tolerance = bad_tolerance
told_error (variant.Short which need) = short_buffer which need
told_error (variant.NotFinite block place pivot) = pivot_not_finite block place pivot
told_error (variant.Poor block condition) = poorly_conditioned block condition

-- how a factorization ends: what L has and the block products, or a refusal
abbrev pub Factorized : Type 0
Factorized = Result Counts FactorizeError

-- document 01's number and values; an accepted factorization hands back L's blocks, L's numbers and the block products
abbrev pub told : Factorized → Told
told = told_by (λ c. accepted (c.stored ∷ c.numbers ∷ c.products ∷ []) []) told_error

-- ---- a refusal of the tables, of a buffer and of the columns, as the factorization's own

abbrev pub of_tables : SystemError → FactorizeError
of_tables table.Blocks = variant.Blocks
of_tables (table.Dimension place) = variant.Dimension place
of_tables (table.Starts place) = variant.Starts place
of_tables table.Stored = variant.Stored
of_tables (table.Row place) = variant.Row place
of_tables (table.Order place) = variant.Order place
of_tables table.Values = variant.Values
of_tables (table.Permutation place) = variant.Permutation place
of_tables (table.Late place) = variant.Late place
of_tables table.Tolerance = variant.Tolerance

abbrev pub of_short : ShortBuffer → FactorizeError
of_short e = variant.Short e.which e.need

abbrev pub of_columns : ColumnError → FactorizeError
of_columns (column.NotFinite block place pivot) = variant.NotFinite block place pivot
of_columns (column.Poor block condition) = variant.Poor block condition

-- ---- what is lent

-- what is lent, in the order of the call: eight outputs, the working column, then scratch
pub record Places : Type 0 where
  pub order : List ℕ
  pub parents : List ℕ
  pub l_starts : List ℕ
  pub l_rows : List ℕ
  pub l_offsets : List ℕ
  pub l_values : List Float
  pub diag : List Float
  pub d : List Float
  pub column : List Float
  pub inverse : List ℕ
  pub sizes : List ℕ
  pub count : List ℕ
  pub heads : List ℕ
  pub into : List ℕ
  pub stamps : List ℕ
  pub table : List ℕ
  pub upper : List ℕ
  pub bodies : List ℕ
  pub unit_starts : List ℕ
  pub d_starts : List ℕ
  pub places : List ℕ

abbrev pub lent :
    (order parents l_starts l_rows l_offsets : List ℕ) (l_values diag d column : List Float)
    (inverse sizes count heads into stamps table upper bodies unit_starts d_starts places : List ℕ) → Places
lent order parents l_starts l_rows l_offsets l_values diag d column inverse sizes count heads into stamps table upper bodies unit_starts d_starts places = record {
  order = order;
  parents = parents;
  l_starts = l_starts;
  l_rows = l_rows;
  l_offsets = l_offsets;
  l_values = l_values;
  diag = diag;
  d = d;
  column = column;
  inverse = inverse;
  sizes = sizes;
  count = count;
  heads = heads;
  into = into;
  stamps = stamps;
  table = table;
  upper = upper;
  bodies = bodies;
  unit_starts = unit_starts;
  d_starts = d_starts;
  places = places;
}

-- the same of the outputs and the scratch of a call
abbrev pub lent_of : Outputs → Scratch → Places
lent_of o w =
    lent o.order.now o.parents.now o.l_starts.now o.l_rows.now o.l_offsets.now o.l_values.now o.diag.now o.d.now w.column.now
    w.inverse.now w.sizes.now w.count.now w.heads.now w.into.now w.stamps.now w.table.now w.upper.now w.bodies.now w.unit_starts.now w.d_starts.now w.places.now

-- the same where the scratch of the plan and what the numbers are worked out in are lent apart
abbrev pub lent_in : Outputs → plan.Scratch → Work → Places
lent_in o p w =
    lent o.order.now o.parents.now o.l_starts.now o.l_rows.now o.l_offsets.now o.l_values.now o.diag.now o.d.now w.column.now
    p.inverse.now p.sizes.now p.count.now p.heads.now p.into.now p.stamps.now p.table.now p.upper.now w.bodies.now w.unit_starts.now w.d_starts.now w.places.now

-- each buffer of scratch is still the one that was lent, as long as it was
pub record SameScratch (w x : Scratch) : Type 0 where
  pub column : (x.column.ghost_name ≡ w.column.ghost_name) × (length x.column.now ≡ length w.column.now)
  pub inverse : (x.inverse.ghost_name ≡ w.inverse.ghost_name) × (length x.inverse.now ≡ length w.inverse.now)
  pub sizes : (x.sizes.ghost_name ≡ w.sizes.ghost_name) × (length x.sizes.now ≡ length w.sizes.now)
  pub count : (x.count.ghost_name ≡ w.count.ghost_name) × (length x.count.now ≡ length w.count.now)
  pub heads : (x.heads.ghost_name ≡ w.heads.ghost_name) × (length x.heads.now ≡ length w.heads.now)
  pub into : (x.into.ghost_name ≡ w.into.ghost_name) × (length x.into.now ≡ length w.into.now)
  pub stamps : (x.stamps.ghost_name ≡ w.stamps.ghost_name) × (length x.stamps.now ≡ length w.stamps.now)
  pub table : (x.table.ghost_name ≡ w.table.ghost_name) × (length x.table.now ≡ length w.table.now)
  pub upper : (x.upper.ghost_name ≡ w.upper.ghost_name) × (length x.upper.now ≡ length w.upper.now)
  pub bodies : (x.bodies.ghost_name ≡ w.bodies.ghost_name) × (length x.bodies.now ≡ length w.bodies.now)
  pub unit_starts : (x.unit_starts.ghost_name ≡ w.unit_starts.ghost_name) × (length x.unit_starts.now ≡ length w.unit_starts.now)
  pub d_starts : (x.d_starts.ghost_name ≡ w.d_starts.ghost_name) × (length x.d_starts.now ≡ length w.d_starts.now)
  pub places : (x.places.ghost_name ≡ w.places.ghost_name) × (length x.places.now ≡ length w.places.now)

-- ---- the needs

-- the lengths of what is lent
abbrev pub lengths_of : Places → List ℕ
lengths_of b =
    length b.order ∷ length b.parents ∷ length b.l_starts ∷ length b.l_rows ∷ length b.l_offsets ∷ length b.l_values
    ∷ length b.diag ∷ length b.d ∷ length b.column ∷ length b.inverse ∷ length b.sizes ∷ length b.count
    ∷ length b.heads ∷ length b.into ∷ length b.stamps ∷ length b.table ∷ length b.upper ∷ length b.bodies
    ∷ length b.unit_starts ∷ length b.d_starts ∷ length b.places ∷ []

-- what is known of the needs without the plan: of L's rows, offsets and values nothing
abbrev pub first_needs : System → List ℕ
first_needs a =
    blocks a ∷ blocks a ∷ (blocks a + 1) ∷ 0 ∷ 0 ∷ 0
    ∷ units_need a.dims ∷ scalar_count a.dims ∷ work_need a.dims ∷ blocks a ∷ blocks a ∷ blocks a
    ∷ (blocks a + 1) ∷ (blocks a + 1) ∷ blocks a ∷ length a.rows ∷ length a.rows ∷ (length a.rows + 1)
    ∷ (blocks a + 1) ∷ (blocks a + 1) ∷ blocks a ∷ []

abbrev pub first_list : System → Places → List Lent
first_list a b = lent_from 0 (lengths_of b) (first_needs a)

-- what only the plan shows, L's row table last
abbrev pub plan_list : System → Places → List Lent
plan_list a b =
    record { which = 4; have = length b.l_offsets; need = stored a + 1 }
    ∷ record { which = 5; have = length b.l_values; need = numbers a }
    ∷ record { which = 3; have = length b.l_rows; need = stored a }
    ∷ []

-- the verdict before the plan: 1 to 10 on what is handed in, then 11. 12 cannot arise: starts, values, permutation or flags of another
-- length are 3, 7, 8 or 9
unfoldable pub early : System → Places → Told
early a b = verdict_after (system_verdict a.dims a.starts a.rows a.values a.perm a.late a.tol) (need_checks (first_list a b))

-- ---- the promise

-- the verdict before the numbers: after an early one, the needs that only the plan shows
unfoldable pub whole : Told → System → Places → Told
whole v a b = verdict_after v (need_checks (plan_list a b))

-- what the machine's run answers: L's blocks, L's numbers and the block products, or its refusal
abbrev pub answered : System → Run → Told
answered a (going s) = accepted (stored a ∷ numbers a ∷ length s.done ∷ []) []
answered a (stopped t) = t

-- zeros in the first n places
abbrev pub cleared : ℕ → List ℕ → List ℕ
cleared n xs = replicate n 0 ++ drop n xs

-- Demand 3, of the lent tables of an accepted factorization, L's starts and rows, and of the count that it reports.
pub record Demand3 (a : System) (products : ℕ) (starts rows : List ℕ) : Type 0 where
  -- the machine's last state
  pub state : State
  pub accepts : run a ≡ going state
  -- the count is the length of its list of triples, and the sum of c(c + 1)/2, c the number of rows that the lent starts give a column
  pub worked : products ≡ length state.done
  pub summed : products ≡ sum (between 0 (blocks a)) (λ k. products_of (at starts (k + 1) - at starts k))
  -- column k has exactly the rows of the path rule; past the last block a number is no block, though the links read it as one
  pub path_rule : (k i : ℕ) → k < blocks a → T (elem i (rows_in starts rows k)) ↔ ((i < blocks a) × Stored (links a) k i)
  -- which are those of the machine's column, in their order
  pub listed : (k : ℕ) → k < blocks a → rows_in starts rows k ≡ rows_at state k

-- What is left under a verdict v before the plan and a verdict w before the numbers:
--     v refuses                                  all is as it was
--     only w refuses, a need that the plan shows the outputs are as they were, scratch is zeros
--     13 or 14                                   order, parents and L's tables are the plan's, the numbers are NaN in full, scratch is zeros
--     accepted                                   the same tables, the numbers are those of the machine's last state, scratch is zeros
-- Places beyond a need are as they were in every case.
pub record FactorsBy (v w : Told) (a : System) (b : Places) (r : Factorized) (b' : Places) : Type 0 where
  pub outcome : told r ≡ first_of w (answered a (run a))
  -- the outputs
  pub order : b'.order ≡ after w b.order (order a ++ drop (blocks a) b.order)
  pub parents : b'.parents ≡ after w b.parents (parents_of (links a) (blocks a) ++ drop (blocks a) b.parents)
  pub l_starts : b'.l_starts ≡ after w b.l_starts (l_starts a ++ drop (blocks a + 1) b.l_starts)
  pub l_rows : b'.l_rows ≡ after w b.l_rows (l_rows a ++ drop (stored a) b.l_rows)
  pub l_offsets : b'.l_offsets ≡ after w b.l_offsets (l_offsets a ++ drop (stored a + 1) b.l_offsets)
  pub l_values : b'.l_values ≡ after w b.l_values (values_after a (run a) ++ drop (numbers a) b.l_values)
  pub diag : b'.diag ≡ after w b.diag (units_after a (run a) ++ drop (units_need a.dims) b.diag)
  pub d : b'.d ≡ after w b.d (pivots_after a (run a) ++ drop (scalar_count a.dims) b.d)
  -- the working column and the scratch
  pub column : b'.column ≡ after v b.column (zeros (work_need a.dims) ++ drop (work_need a.dims) b.column)
  pub inverse : b'.inverse ≡ after v b.inverse (cleared (blocks a) b.inverse)
  pub sizes : b'.sizes ≡ after v b.sizes (cleared (blocks a) b.sizes)
  pub count : b'.count ≡ after v b.count (cleared (blocks a) b.count)
  pub heads : b'.heads ≡ after v b.heads (cleared (blocks a + 1) b.heads)
  pub into : b'.into ≡ after v b.into (cleared (blocks a + 1) b.into)
  pub stamps : b'.stamps ≡ after v b.stamps (cleared (blocks a) b.stamps)
  pub table : b'.table ≡ after v b.table (cleared (length a.rows) b.table)
  pub upper : b'.upper ≡ after v b.upper (cleared (length a.rows) b.upper)
  pub bodies : b'.bodies ≡ after v b.bodies (cleared (length a.rows + 1) b.bodies)
  pub unit_starts : b'.unit_starts ≡ after v b.unit_starts (cleared (blocks a + 1) b.unit_starts)
  pub d_starts : b'.d_starts ≡ after v b.d_starts (cleared (blocks a + 1) b.d_starts)
  pub places : b'.places ≡ after v b.places (cleared (blocks a) b.places)
  -- each parent is Liu's, and an accepted factorization keeps demand 3
  pub liu : refuses w ≡ false → (k : ℕ) → k < blocks a → Parent (links a) (blocks a) k (decode (at b'.parents k))
  pub demand3 : (c : Counts) → r ≡ Ok c → Demand3 a c.products b'.l_starts b'.l_rows

-- the promise of `factorize` under the early verdict v
abbrev pub Factors : (v : Told) (a : System) (b : Places) (r : Factorized) (b' : Places) → Type 0
Factors v a b r b' = FactorsBy v (whole v a b) a b r b'

-- each buffer but L's rows, offsets and values has exactly what it needs
pub record Exact (a : System) (b : Places) : Type 0 where
  pub order : length b.order ≡ blocks a
  pub parents : length b.parents ≡ blocks a
  pub l_starts : length b.l_starts ≡ blocks a + 1
  pub diag : length b.diag ≡ units_need a.dims
  pub d : length b.d ≡ scalar_count a.dims
  pub column : length b.column ≡ work_need a.dims
  pub inverse : length b.inverse ≡ blocks a
  pub sizes : length b.sizes ≡ blocks a
  pub count : length b.count ≡ blocks a
  pub heads : length b.heads ≡ blocks a + 1
  pub into : length b.into ≡ blocks a + 1
  pub stamps : length b.stamps ≡ blocks a
  pub table : length b.table ≡ length a.rows
  pub upper : length b.upper ≡ length a.rows
  pub bodies : length b.bodies ≡ length a.rows + 1
  pub unit_starts : length b.unit_starts ≡ blocks a + 1
  pub d_starts : length b.d_starts ≡ blocks a + 1
  pub places : length b.places ≡ blocks a
