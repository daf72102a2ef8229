-- What `solve::solve_inplace` answers, and what it leaves in every lent place, for any arguments. Assumes nothing.
use Rattle.std.specs.Prelude.{◌≡◌, ℕ, ◌+◌, false, List, [], ◌∷◌, ◌++◌, length, drop, replicate, Result}
use Rattle.std.specs.Prelude.{Float}
use Rattle.scalar.specs.Block.{zeros}
use Rattle.refusal.specs.Refusal.{Told, done, told_by, too_many_blocks, bad_dimension, bad_starts, too_many_stored, out_of_range, bad_parent, not_increasing, bad_value_count, bad_permutation, bad_late_flags, short_buffer, shapes_disagree, refuses, first_of, verdict, after}
use Rattle.needs.specs.Needs.{Lent, lent_from, need_checks}
use Rattle.order.specs.Order.{sizes_of}
use Rattle.scalars.specs.Scalars.{scalar_count}
use Rattle.lists.specs.declared.Factor.{Factor}
use Rattle.lists.specs.declared.Night.{Night}
use Rattle.machine.specs.Machine.{Column}
use Rattle.layout.specs.Layout.{tables}
use Rattle.solution.specs.Solution.{solution}
use Rattle.solution.specs.Flat.{column_in, HoldsColumns}
use Rattle.solve_checks.specs.Verdict.{bad_factor, solve_verdict}
use Rattle.solve_match.specs.Verdict.{bad_column, match_verdict}
use Rattle.solve_match.specs.Fresh.{Fresh}
use Rattle.solve.specs.declared.Lent as declared
use Rattle.solve.specs.declared.SolveError.{SolveError}
use Rattle.solve.specs.declared.SolveError.TheVariants as variant

-- document 01's number and values for each case
abbrev pub told_error : SolveError → Told
told_error variant.Blocks = too_many_blocks
told_error (variant.Dimension place) = bad_dimension place
told_error (variant.Starts place) = bad_starts place
told_error (variant.LStarts place) = bad_factor 3 place
told_error variant.Stored = too_many_stored
told_error (variant.Row place) = out_of_range place
told_error (variant.LRow place) = bad_factor 5 place
told_error (variant.Parent block) = bad_parent block
told_error (variant.Order place) = not_increasing place
told_error (variant.LOrder place) = bad_factor 6 place
told_error variant.LValues = bad_value_count
told_error (variant.Permutation place) = bad_permutation place
told_error (variant.Late place) = bad_late_flags place
told_error (variant.Short which need) = short_buffer which need
told_error (variant.Mismatch place) = shapes_disagree place
told_error (variant.Missing column) = bad_column 8 column 0
told_error (variant.Extra column) = bad_column 8 column 1
told_error (variant.OtherParent column) = bad_column 6 column 2

abbrev pub told : Result Unit SolveError → Told
told = told_by (λ w. done) told_error

-- ---- the verdict

-- 11: how long each lent place is, and its need. The right side has none: that it has another length is 12
abbrev pub lent_list : (dims : List ℕ) → (x y scalar_perm sizes scalar_starts : ℕ) → List Lent
lent_list dims x y scalar_perm sizes scalar_starts =
    lent_from 0 (x ∷ y ∷ scalar_perm ∷ sizes ∷ scalar_starts ∷ []) (0 ∷ scalar_count dims ∷ scalar_count dims ∷ length dims ∷ (length dims + 1) ∷ [])

-- 1 to 9 on the tables, then 11, then 12. What is not read is handed over by its length.
unfoldable pub call_verdict : (dims starts rows perm late order parents l_starts l_rows l_offsets : List ℕ) → (l_values : List Float) → (diag d x y scalar_perm sizes scalar_starts : ℕ) → Told
call_verdict dims starts rows perm late order parents l_starts l_rows l_offsets l_values diag d x y scalar_perm sizes scalar_starts =
    first_of (solve_verdict dims starts rows perm late parents l_starts l_rows l_values)
    (first_of (verdict (need_checks (lent_list dims x y scalar_perm sizes scalar_starts))) (match_verdict dims starts rows perm late order parents l_starts l_rows l_offsets diag d x))

-- ---- the promise

-- what the call is handed and lent, in its order: the system, the factor, the right side, scratch
pub record Call : Type 0 where
  pub dims : List ℕ
  pub starts : List ℕ
  pub rows : List ℕ
  pub perm : List ℕ
  pub late : List ℕ
  pub order : List ℕ
  pub parents : List ℕ
  pub l_starts : List ℕ
  pub l_rows : List ℕ
  pub l_offsets : List ℕ
  pub l_values : List Float
  pub diag : List Float
  pub d : List Float
  pub x : List Float
  pub y : List Float
  pub scalar_perm : List ℕ
  pub sizes : List ℕ
  pub scalar_starts : List ℕ

abbrev pub call : (dims starts rows perm late order parents l_starts l_rows l_offsets : List ℕ) (l_values diag d x y : List Float) (scalar_perm sizes scalar_starts : List ℕ) → Call
call dims starts rows perm late order parents l_starts l_rows l_offsets l_values diag d x y scalar_perm sizes scalar_starts = record {
  dims = dims;
  starts = starts;
  rows = rows;
  perm = perm;
  late = late;
  order = order;
  parents = parents;
  l_starts = l_starts;
  l_rows = l_rows;
  l_offsets = l_offsets;
  l_values = l_values;
  diag = diag;
  d = d;
  x = x;
  y = y;
  scalar_perm = scalar_perm;
  sizes = sizes;
  scalar_starts = scalar_starts;
}

-- the same of the structs of a call
abbrev pub called : Night → Factor → declared.Lent → Call
called n f l =
    call n.dims.now n.starts.now n.rows.now n.perm.now n.late.now f.order.now f.parents.now f.l_starts.now f.l_rows.now f.l_offsets.now f.l_values.now f.diag.now f.d.now
    l.x.now l.y.now l.scalar_perm.now l.sizes.now l.scalar_starts.now

-- each place is still the one that was lent
pub record SameLent (l m : declared.Lent) : Type 0 where
  pub x : m.x.ghost_name ≡ l.x.ghost_name
  pub y : m.y.ghost_name ≡ l.y.ghost_name
  pub scalar_perm : m.scalar_perm.ghost_name ≡ l.scalar_perm.ghost_name
  pub sizes : m.sizes.ghost_name ≡ l.sizes.ghost_name
  pub scalar_starts : m.scalar_starts.ghost_name ≡ l.scalar_starts.ghost_name

module _ (a : Call) where
  -- the verdict on the call
  abbrev pub verdict_of : Told
  verdict_of =
      call_verdict a.dims a.starts a.rows a.perm a.late a.order a.parents a.l_starts a.l_rows a.l_offsets a.l_values
      (length a.diag) (length a.d) (length a.x) (length a.y) (length a.scalar_perm) (length a.sizes) (length a.scalar_starts)

  -- the columns of the factor, read off its lists, whatever numbers they hold
  abbrev pub columns_of : ℕ → Column
  columns_of = column_in (tables (sizes_of a.dims a.order) a.l_starts a.l_rows a.l_offsets) a.l_values a.diag a.d

  -- these columns stand in the factor's lists
  abbrev pub HoldsFactor : (ℕ → Column) → Type 0
  HoldsFactor col = HoldsColumns (tables (sizes_of a.dims a.order) a.l_starts a.l_rows a.l_offsets) a.l_values a.diag a.d (length a.dims) col

  -- the factor is that of the system
  abbrev pub FreshFactor : Type 0
  FreshFactor = Fresh a.dims a.starts a.rows a.perm a.late a.order a.parents a.l_starts a.l_rows a.l_offsets (length a.diag) (length a.d) (length a.x)

-- the first n places of scratch as zeros, and those beyond as they were
abbrev pub cleared : ℕ → List ℕ → List ℕ
cleared n xs = replicate n 0 ++ drop n xs

-- Refused, all is as it was; accepted, x is the solution and scratch is zeros.
pub record Solves (a : Call) (r : Result Unit SolveError) (x y : List Float) (scalar_perm sizes scalar_starts : List ℕ) : Type 0 where
  pub outcome : told r ≡ first_of (verdict_of a) done
  pub solved : x ≡ after (verdict_of a) a.x (solution a.dims a.order (columns_of a) a.x)
  -- scratch
  pub of_y : y ≡ after (verdict_of a) a.y (zeros (scalar_count a.dims) ++ drop (scalar_count a.dims) a.y)
  pub of_scalar_perm : scalar_perm ≡ after (verdict_of a) a.scalar_perm (cleared (scalar_count a.dims) a.scalar_perm)
  pub of_sizes : sizes ≡ after (verdict_of a) a.sizes (cleared (length a.dims) a.sizes)
  pub of_scalar_starts : scalar_starts ≡ after (verdict_of a) a.scalar_starts (cleared (length a.dims + 1) a.scalar_starts)
  -- the same with any columns that the factor's lists hold, so with those of a run of the machine whose factor they are
  pub by_columns : refuses (verdict_of a) ≡ false → (col : ℕ → Column) → HoldsFactor a col → x ≡ solution a.dims a.order col a.x
  -- no stale factor is accepted: the tables are those of the system's own plan
  pub fresh : refuses (verdict_of a) ≡ false → FreshFactor a
