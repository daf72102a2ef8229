-- Column j of the permuted matrix as it is loaded into the working column. Assumes nothing.
use Rattle.std.specs.Prelude.{◌≡◌, ℕ, ◌*◌, ◌≤◌, T, List, length}
use Rattle.std.specs.Prelude.{Float}
use Rattle.graph.specs.Sets.{elem}
use Rattle.graph.specs.Order.{Permutes}
use Rattle.tables.specs.Verdict.{at, areas, from_diagonal}
use Rattle.tables.specs.Sound.{Sizes, Columns}
use Rattle.order.specs.Order.{sizes_of}
use Rattle.scalars.specs.Bodies.{offsets}
use Rattle.machine.specs.System.{System, order, loaded_row}
use Rattle.machine.specs.Machine.{body_or}
use Rattle.block_product.specs.Working.{slot}
use Rattle.layout.specs.Layout.{Tables, side, on_at, Placed}

-- ---- what is needed: A's tables and values, good; the order of elimination; where each body of A begins; the dimensions by new number

pub record Source (dims starts rows : List ℕ) (values : List Float) (bodies order sizes : List ℕ) : Type 0 where
  pub few : length dims ≤ 4096
  pub stored : length rows ≤ 65536
  pub dimensions : Sizes dims
  pub columns : Columns from_diagonal (length dims) starts rows
  pub counted : length values ≡ areas dims starts rows
  pub permutes : Permutes (length dims) order
  pub by_bodies : bodies ≡ offsets dims starts rows
  pub by_sizes : sizes ≡ sizes_of dims order

-- ---- what is promised

-- the system a is fed with these tables and values, and this is its order of elimination
pub record Fed (a : System) (dims starts rows : List ℕ) (values : List Float) (moved : List ℕ) : Type 0 where
  pub by_dims : a.dims ≡ dims
  pub by_starts : a.starts ≡ starts
  pub by_rows : a.rows ≡ rows
  pub by_values : a.values ≡ values
  pub by_order : order a ≡ moved

-- The blocks of column j have their places in the working column c, and each is the machine's loaded row: zeros where A stores none.
pub record LoadedColumn (t : Tables) (a : System) (j : ℕ) (places : List ℕ) (c : List Float) : Type 0 where
  pub placed : Placed t places j
  pub blocks : (i : ℕ) → T (elem i (on_at t j)) → slot (at places i) (side t i * side t j) c ≡ body_or (side t i * side t j) (loaded_row a j i)
