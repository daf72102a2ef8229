-- What a factorization within the rooms of `fit` answers, and what it leaves in its outputs. Assumes nothing.
use Rattle.std.specs.Prelude.{◌≡◌, ℕ, ◌+◌, ◌≤◌, Bool, cond, List, [], ◌∷◌, ◌++◌, length, drop, ◌==◌, Result}
use Rattle.std.specs.Prelude.{Float}
use Rattle.refusal.specs.Refusal.{Told, told_by, number, accepted, done, pivot_not_finite, poorly_conditioned, no_room, first_of, after}
use Rattle.graph.specs.Sets.{elem}
use Rattle.elimination_tree.specs.Tree.{parents_of}
use Rattle.tables.specs.Verdict.{system_verdict}
use Rattle.scalars.specs.Scalars.{scalar_count}
use Rattle.machine.specs.System.{System, blocks, links, order}
use Rattle.machine.specs.Machine.{run}
use Rattle.layout.specs.Layout.{units_need}
use Rattle.sheet_check.specs.Checks.{room_factor, room_check}
use Rattle.factor_setup.specs.Exact.{stored, numbers, l_starts, l_rows, l_offsets, values_after, units_after, pivots_after}
use Rattle.factor_core.specs.Factorize.{answered}
use Rattle.analysis.specs.declared.cores.Counts.{Counts}
use Rattle.fit_factor.specs.declared.cores.Arrays.{Arrays}
use Rattle.fit_factor.specs.declared.cores.FitError.{FitError}
use Rattle.fit_factor.specs.declared.cores.FitError.TheVariants as variant

-- the tables of a system have passed, and the rooms of `fit` hold it
pub record Within (a : System) : Type 0 where
  pub passes : system_verdict a.dims a.starts a.rows a.values a.perm a.late a.tol ≡ done
  pub blocks : length a.dims ≤ 128
  pub rows : length a.rows ≤ 1024
  pub scalars : scalar_count a.dims ≤ 512

-- document 01's number and values for each refusal
abbrev pub told_error : FitError → Told
told_error (variant.NotFinite block place pivot) = pivot_not_finite block place pivot
told_error (variant.Poor block condition) = poorly_conditioned block condition
told_error variant.Room = no_room

-- how a factorization within the rooms ends
abbrev pub Fitted : Type 0
Fitted = Result Counts FitError

-- an accepted one hands back L's blocks, L's numbers and the block products
abbrev pub told : Fitted → Told
told = told_by (λ c. accepted (c.stored ∷ c.numbers ∷ c.products ∷ []) []) told_error

-- 16: the program's room for L's numbers, 8,192
abbrev pub l_room_check : System → Told
l_room_check a = room_check room_factor (numbers a)

-- the numbers that a factorization can be told with where its tables have passed
abbrev pub possible : ℕ → Bool
possible n = elem n (0 ∷ 11 ∷ 13 ∷ 14 ∷ [])

-- a buffer of the program's own that is short is 16
abbrev pub roomed : Told → Told
roomed t = cond (number t == 11) no_room t

-- the outputs: the order after the late move, the tree, L's tables and numbers, the unit factors of the diagonal, d
pub record Factor : Type 0 where
  pub order : List ℕ
  pub parents : List ℕ
  pub l_starts : List ℕ
  pub l_rows : List ℕ
  pub l_offsets : List ℕ
  pub l_values : List Float
  pub diag : List Float
  pub d : List Float

abbrev pub factor : (order parents l_starts l_rows l_offsets : List ℕ) (l_values diag d : List Float) → Factor
factor order parents l_starts l_rows l_offsets l_values diag d =
    record { order = order; parents = parents; l_starts = l_starts; l_rows = l_rows; l_offsets = l_offsets; l_values = l_values; diag = diag; d = d }

-- what the arrays hold
abbrev pub factor_in : Arrays → Factor
factor_in o = factor o.order.now o.parents.now o.l_starts.now o.l_rows.now o.l_offsets.now o.l_values.now o.diag.now o.d.now

-- each array is still the one that was lent
pub record SameArrays (o p : Arrays) : Type 0 where
  pub order : p.order.ghost_name ≡ o.order.ghost_name
  pub parents : p.parents.ghost_name ≡ o.parents.ghost_name
  pub l_starts : p.l_starts.ghost_name ≡ o.l_starts.ghost_name
  pub l_rows : p.l_rows.ghost_name ≡ o.l_rows.ghost_name
  pub l_offsets : p.l_offsets.ghost_name ≡ o.l_offsets.ghost_name
  pub l_values : p.l_values.ghost_name ≡ o.l_values.ghost_name
  pub diag : p.diag.ghost_name ≡ o.diag.ghost_name
  pub d : p.d.ghost_name ≡ o.d.ghost_name

-- 16 where L has no room, else what the machine's run answers. Under 16 the outputs are as they were, else the first places of each are
-- the plan's tables and the numbers of the machine's last state, NaN after 13 and 14.
pub record Fits (a : System) (b : Factor) (r : Fitted) (b' : Factor) : Type 0 where
  pub outcome : told r ≡ first_of (l_room_check a) (answered a (run a))
  pub order : b'.order ≡ after (l_room_check a) b.order (order a ++ drop (blocks a) b.order)
  pub parents : b'.parents ≡ after (l_room_check a) b.parents (parents_of (links a) (blocks a) ++ drop (blocks a) b.parents)
  pub l_starts : b'.l_starts ≡ after (l_room_check a) b.l_starts (l_starts a ++ drop (blocks a + 1) b.l_starts)
  pub l_rows : b'.l_rows ≡ after (l_room_check a) b.l_rows (l_rows a ++ drop (stored a) b.l_rows)
  pub l_offsets : b'.l_offsets ≡ after (l_room_check a) b.l_offsets (l_offsets a ++ drop (stored a + 1) b.l_offsets)
  pub l_values : b'.l_values ≡ after (l_room_check a) b.l_values (values_after a (run a) ++ drop (numbers a) b.l_values)
  pub diag : b'.diag ≡ after (l_room_check a) b.diag (units_after a (run a) ++ drop (units_need a.dims) b.diag)
  pub d : b'.d ≡ after (l_room_check a) b.d (pivots_after a (run a) ++ drop (scalar_count a.dims) b.d)
