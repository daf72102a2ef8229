-- The elimination tree as the code holds it: tables of u32, made from an upper pattern. Assumes nothing.
use Rattle.std.specs.Prelude.{◌≡◌, ℕ, zero, suc, ◌+◌, ◌<◌, ◌≤◌, min, max, Bool, true, false, ◌⊎◌, List, map, length, replicate, ◌==◌, nat_lt, slice_index}
use Rattle.std.proofs.Math.Option.{Option, none, some}
use Rattle.std.proofs.Math.Seq.{slice}
use Rattle.graph.specs.Sets.{elem, filter, Inc}
use Rattle.graph.specs.Liu.{Forest, walks, forest}

-- ---- none as a number

abbrev pub root : ℕ
root = 4294967295

-- the number of an optional block, and back
abbrev pub code : Option ℕ → ℕ
code none = root
code (some k) = k

abbrev pub pick : Bool → ℕ → Option ℕ
pick true x = none
pick false x = some x

abbrev pub decode : ℕ → Option ℕ
decode x = pick (x == root) x

-- the two tables of u32 as Liu's two tables
abbrev pub as_forest : List ℕ → List ℕ → Forest
as_forest parent ancestor = record { parent = map decode parent; ancestor = map decode ancestor }

-- each ancestor is none, or a greater block up to j
unfoldable pub Climbs : ℕ → List ℕ → Type 0
Climbs j ancestor = (i : ℕ) → i < length ancestor → (slice_index ancestor i ≡ root) ⊎ ((i < slice_index ancestor i) × (slice_index ancestor i ≤ j))

-- ---- the upper pattern

-- the rows of upper column j that count: those below j
abbrev pub upper : List ℕ → List ℕ → ℕ → List ℕ
upper starts rows j = filter (λ i. nat_lt i j) (slice (slice_index starts j) (slice_index starts (j + 1)) rows)

-- the tables of an upper pattern of n blocks, as far as the code needs them to be safe
pub record Pattern (n : ℕ) (starts rows : List ℕ) : Type 0 where
  pub few : n ≤ 4096
  pub count : length starts ≡ n + 1
  pub rising : (j : ℕ) → j < n → slice_index starts j ≤ slice_index starts (j + 1)
  pub inside : (j : ℕ) → j ≤ n → slice_index starts j ≤ length rows

-- the columns ascend, so that they say a set
unfoldable pub Ascends : ℕ → List ℕ → List ℕ → Type 0
Ascends n starts rows = (j : ℕ) → j < n → Inc (upper starts rows j)

-- two blocks are linked where the column of the greater lists the lesser
abbrev pub linked_up : List ℕ → List ℕ → ℕ → ℕ → Bool
linked_up starts rows p q = elem (min p q) (upper starts rows (max p q))

-- ---- Liu's algorithm over given columns

unfoldable pub forest_by : (ℕ → List ℕ) → ℕ → ℕ → Forest
forest_by cols n zero = record { parent = replicate n none; ancestor = replicate n none }
forest_by cols n (suc j) = walks j (cols j) (forest_by cols n j)

-- the table of parents, as numbers, of any links
abbrev pub parents_of : (ℕ → ℕ → Bool) → ℕ → List ℕ
parents_of linked n = map code (forest linked n n).parent
