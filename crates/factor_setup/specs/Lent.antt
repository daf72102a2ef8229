-- What a factor is made in: its outputs, the scratch of its plan, and what its numbers are worked out in. Assumes nothing.
use Rattle.std.specs.Prelude.{◌≡◌, ℕ, ◌+◌, ◌≤◌, List, length, take, drop}
use Rattle.scalars.specs.Scalars.{scalar_count}
use Rattle.machine.specs.System.{System, blocks}
use Rattle.layout.specs.Layout.{units_need, work_need}
use Rattle.lists.specs.declared.Night.{Night}
pub use Rattle.symbolic.specs.declared.UpperTree.{UpperTree}
use Rattle.analysis.specs.declared.cores.Analysis.{Analysis}
use Rattle.factor_setup.specs.Exact.{stored, numbers, Analyzed}
use Rattle.factor_setup.specs.declared.System as declared
use Rattle.factor_setup.specs.declared.Outputs.{Outputs}
use Rattle.factor_setup.specs.declared.Work.{Work}

-- the pattern of a system
abbrev pub night_of : declared.System → Night
night_of s = record { dims = s.dims; starts = s.starts; rows = s.rows; perm = s.perm; late = s.late }

-- each output is still the one that was lent, as long as it was
pub record SameOutputs (o p : Outputs) : Type 0 where
  pub order : (p.order.ghost_name ≡ o.order.ghost_name) × (length p.order.now ≡ length o.order.now)
  pub parents : (p.parents.ghost_name ≡ o.parents.ghost_name) × (length p.parents.now ≡ length o.parents.now)
  pub l_starts : (p.l_starts.ghost_name ≡ o.l_starts.ghost_name) × (length p.l_starts.now ≡ length o.l_starts.now)
  pub l_rows : (p.l_rows.ghost_name ≡ o.l_rows.ghost_name) × (length p.l_rows.now ≡ length o.l_rows.now)
  pub l_offsets : (p.l_offsets.ghost_name ≡ o.l_offsets.ghost_name) × (length p.l_offsets.now ≡ length o.l_offsets.now)
  pub l_values : (p.l_values.ghost_name ≡ o.l_values.ghost_name) × (length p.l_values.now ≡ length o.l_values.now)
  pub diag : (p.diag.ghost_name ≡ o.diag.ghost_name) × (length p.diag.now ≡ length o.diag.now)
  pub d : (p.d.ghost_name ≡ o.d.ghost_name) × (length p.d.now ≡ length o.d.now)

-- and so is each buffer of the numbers
pub record SameWork (w x : Work) : Type 0 where
  pub column : (x.column.ghost_name ≡ w.column.ghost_name) × (length x.column.now ≡ length w.column.now)
  pub bodies : (x.bodies.ghost_name ≡ w.bodies.ghost_name) × (length x.bodies.now ≡ length w.bodies.now)
  pub unit_starts : (x.unit_starts.ghost_name ≡ w.unit_starts.ghost_name) × (length x.unit_starts.now ≡ length w.unit_starts.now)
  pub d_starts : (x.d_starts.ghost_name ≡ w.d_starts.ghost_name) × (length x.d_starts.now ≡ length w.d_starts.now)
  pub places : (x.places.ghost_name ≡ w.places.ghost_name) × (length x.places.now ≡ length w.places.now)

-- What the analysis left: the tree, the upper pattern, whose rows are the first entries of the list, and how many rows each column of L has.
pub record Found (a : System) (t : UpperTree) (count : List ℕ) (r : Analysis) : Type 0 where
  pub analyzed : Analyzed a t.starts.now (take r.entries t.rows.now) t.parent.now count
  pub inside : r.entries ≤ length t.rows.now
  pub stored : r.counts.stored ≡ stored a

-- L's rows and offsets have room for what the plan shows, and each other buffer of the tables has exactly what it needs
pub record TableRoom (a : System) (o : Outputs) (inverse' sizes' stamps' : List ℕ) (w : Work) : Type 0 where
  pub order : length o.order.now ≡ blocks a
  pub parents : length o.parents.now ≡ blocks a
  pub l_starts : length o.l_starts.now ≡ blocks a + 1
  pub l_rows : stored a ≤ length o.l_rows.now
  pub l_offsets : stored a + 1 ≤ length o.l_offsets.now
  pub inverse : length inverse' ≡ blocks a
  pub sizes : length sizes' ≡ blocks a
  pub stamps : length stamps' ≡ blocks a
  pub bodies : length w.bodies.now ≡ length a.rows + 1
  pub unit_starts : length w.unit_starts.now ≡ blocks a + 1
  pub d_starts : length w.d_starts.now ≡ blocks a + 1
  pub places : length w.places.now ≡ blocks a

-- L's values have room for what the plan shows, and each other buffer of the numbers has exactly what it needs
pub record ValueRoom (a : System) (o : Outputs) (w : Work) : Type 0 where
  pub l_values : numbers a ≤ length o.l_values.now
  pub diag : length o.diag.now ≡ units_need a.dims
  pub d : length o.d.now ≡ scalar_count a.dims
  pub column : length w.column.now ≡ work_need a.dims

-- the outputs that a factor's tables and numbers do not fill are as they were
pub record SameBeyond (a : System) (o p : Outputs) : Type 0 where
  pub l_rows : drop (stored a) p.l_rows.now ≡ drop (stored a) o.l_rows.now
  pub l_offsets : drop (stored a + 1) p.l_offsets.now ≡ drop (stored a + 1) o.l_offsets.now
  pub l_values : drop (numbers a) p.l_values.now ≡ drop (numbers a) o.l_values.now
