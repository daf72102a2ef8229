-- What is claimed of the machine: demand 3, where a refused run stops, and the law of locality. Assumes nothing.
use Rattle.std.specs.Prelude.{ℕ, ◌≤◌, ◌<◌, Bool, ◌↔◌, ◌≡◌, T, length}
use Rattle.refusal.specs.Refusal.{Told}
use Rattle.graph.specs.Sets.{elem, between, sum, Inc}
use Rattle.graph.specs.Path.{Stored}
use Rattle.graph.specs.Count.{products_of}
use Rattle.order.specs.Order.{sizes_of}
use Rattle.machine.specs.System.{System, blocks, links, order, loaded_row}
use Rattle.machine.specs.Machine.{Column, State, column_at, rows_at, reached, Made, made, refused, made_of, going, stopped, run_to, run}

-- ---- demand 3, of the last state of an accepted run

pub record Demand3 (a : System) (s : State) : Type 0 where
  -- L has every column
  pub whole : length s.finished ≡ blocks a
  -- each has exactly the rows of the path rule, ascending
  pub path_rule : (k i : ℕ) → k < blocks a → T (elem i (rows_at s k)) ↔ ((i < blocks a) × Stored (links a) k i)
  pub ascending : (k : ℕ) → k < blocks a → Inc (rows_at s k)
  -- and the block products worked through are the sum of c(c + 1)/2, c the rows of a column
  pub count : length s.done ≡ sum (between 0 (blocks a)) (λ k. products_of (length (rows_at s k)))

-- ---- a refused run stops at the first column of which 13 or 14 became: those before it were made

pub record StopsAt (a : System) (t : Told) (j : ℕ) (s : State) : Type 0 where
  pub below : j < blocks a
  pub before : run_to a j ≡ going s
  pub refusal : made_of a j s ≡ refused t

abbrev pub Stops : Type 0
Stops = (a : System) (t : Told) → run a ≡ stopped t ↔ ((j : ℕ) × (s : State) × StopsAt a t j s)

-- ---- locality

-- two columns hold the same: their rows, the body of each of these, the unit factor and d
pub record Same (c c' : Column) : Type 0 where
  pub rows : c.rows ≡ c'.rows
  pub body : (i : ℕ) → T (elem i c.rows) → c.body i ≡ c'.body i
  pub unit : c.unit ≡ c'.unit
  pub d : c.d ≡ c'.d

-- the same became of two columns
abbrev pub SameMade : Made → Made → Type 0
SameMade (made c) (made c') = Same c c'
SameMade (refused t) (refused t') = t ≡ t'
SameMade (made c) (refused t') = ⊥
SameMade (refused t) (made c') = ⊥

-- What two systems give column j is the same: the dimensions and the tolerance, the loaded column, and which blocks before j are linked to
-- it, where the walk starts. Their other values may differ.
pub record Given (j : ℕ) (a a' : System) : Type 0 where
  pub count : blocks a ≡ blocks a'
  pub sizes : sizes_of a.dims (order a) ≡ sizes_of a'.dims (order a')
  pub tol : a.tol ≡ a'.tol
  pub loaded : (i : ℕ) → j ≤ i → i < blocks a → loaded_row a j i ≡ loaded_row a' j i
  pub linked : (i : ℕ) → i < j → links a i j ≡ links a' i j

-- Two machines agree on what column j depends on: this, and the finished columns that reach it. Other columns and the triples may differ.
pub record Agree (j : ℕ) (a : System) (s : State) (a' : System) (s' : State) : Type 0 where
  pub given : Given j a a'
  pub reaching : (k : ℕ) → T (elem k (reached a j s)) → Same (column_at s k) (column_at s' k)

-- The law: where they agree before column j, the same becomes of it in both, a refusal included.
abbrev pub Locality : Type 0
Locality = (j : ℕ) (a a' : System) (s s' : State) → j < blocks a → Agree j a s a' s' → SameMade (made_of a j s) (made_of a' j s')

-- The same of two accepted runs, by their last states.
abbrev pub RunLocality : Type 0
RunLocality = (a a' : System) (s s' : State) → run a ≡ going s → run a' ≡ going s' → (j : ℕ) → j < blocks a → Agree j a s a' s' → Same (column_at s j) (column_at s' j)

-- So a site, a set of columns that no other column reaches, is the same in both where the two systems give it the same.
abbrev pub SiteLocality : Type 0
SiteLocality =
    (a a' : System) (s s' : State) → run a ≡ going s → run a' ≡ going s' → (site : ℕ → Bool)
    → ((j k : ℕ) → j < blocks a → T (site j) → T (elem k (reached a j s)) → T (site k))
    → ((j : ℕ) → j < blocks a → T (site j) → Given j a a')
    → (j : ℕ) → j < blocks a → T (site j) → Same (column_at s j) (column_at s' j)
