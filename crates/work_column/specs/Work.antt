-- The products of column j, by the columns that the walk finds, each from its next place on. Assumes nothing.
use Rattle.std.specs.Prelude.{◌≡◌, ℕ, ◌+◌, ◌<◌, ◌≤◌, List, length, nat_lt}
use Rattle.std.specs.Prelude.{Float}
use Rattle.graph.specs.Sets.{filter}
use Rattle.graph.specs.Symbolic as L
use Rattle.graph.specs.Count.{column_triples}
use Rattle.tables.specs.Verdict.{at}
use Rattle.elimination_tree.specs.Tree.{linked_up}
use Rattle.symbolic.specs.Columns.{Tree, Below}
use Rattle.order.specs.Order.{sizes_of}
use Rattle.machine.specs.System.{System, order}
use Rattle.machine.specs.Machine.{State, load, sequence, worked}
use Rattle.block_product.specs.Working.{Shows}
use Rattle.layout.specs.Layout.{Tables, side, start_of, rows_at, on_at}
use Rattle.finish_column.specs.Finish.{HoldsAll}
use Rattle.keep_column.specs.Keep.{KeptAll}
use Rattle.column_products.specs.Columns.{SameWorking}
use Rattle.work_column.specs.declared.cores.Scratch.{Scratch}

-- what is lent is still the same, and as long
pub record SameScratch (w x : Scratch) : Type 0 where
  pub stamps : (x.stamps.ghost_name ≡ w.stamps.ghost_name) × (length x.stamps.now ≡ length w.stamps.now)
  pub out : (x.out.ghost_name ≡ w.out.ghost_name) × (length x.out.now ≡ length w.out.now)
  pub next : (x.next.ghost_name ≡ w.next.ghost_name) × (length x.next.now ≡ length w.next.now)
  pub room : SameWorking w.room x.room

module _ (t : Tables) where
  -- where the first row of column k from j on stands in the row table
  abbrev pub next_of : (j k : ℕ) → ℕ
  next_of j k = start_of t k + length (filter (λ i. nat_lt i j) (rows_at t k))

  -- the next places of n columns, before column j
  pub record Next (n j : ℕ) (next : List ℕ) : Type 0 where
    pub count : length next ≡ n
    pub place : (k : ℕ) → k < n → at next k ≡ next_of j k

  -- L's row table is that of an upper pattern, whose tree is lent
  pub record Grown (into upper tree : List ℕ) : Type 0 where
    pub liu : Tree (length tree) into upper tree
    pub rows : (k : ℕ) → k < length tree → rows_at t k ≡ L.rows (linked_up into upper) (length tree) k

  -- what is lent to work out n columns, before column j, p the places of a column's blocks: each list is long enough, and no stamp is past it
  pub record Ready (n j : ℕ) (p : List ℕ) (w : Scratch) : Type 0 where
    pub next : Next n j w.next.now
    pub stamps : (length w.stamps.now ≡ n) × Below j w.stamps.now
    pub out : length w.out.now ≡ n
    pub places : length p ≡ n
    pub rooms : (256 ≤ length w.room.qj.now) × (256 ≤ length w.room.qi.now)

-- ---- what is promised

module _ (t : Tables) (unit_starts d_starts into upper : List ℕ) (n j : ℕ) where
  -- the machine before column j: its finished columns are held, and it will work through the pattern's products
  pub record Ahead (a : System) (values diag d cache : List Float) (s : State) : Type 0 where
    pub by_sizes : t.sizes ≡ sizes_of a.dims (order a)
    pub by_sequence : sequence a j s ≡ column_triples (linked_up into upper) n j
    pub so_far : length s.finished ≡ j
    pub held : HoldsAll t unit_starts d_starts values diag d s.finished
    pub kept : KeptAll t unit_starts d_starts cache s.finished

  -- where the working column and the count showed column j loaded, they show it with its products done
  abbrev pub Works : (places : List ℕ) (values diag d cache c : List Float) (count : ℕ) (c' : List Float) (count' : ℕ) → Type 0
  Works places values diag d cache c count c' count' =
      (a : System) (s : State) → Ahead a values diag d cache s → Shows (side t) (at places) (on_at t j) j c count (load a j s)
      → Shows (side t) (at places) (on_at t j) j c' count' (worked a j s)
