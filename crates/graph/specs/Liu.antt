-- Liu's algorithm for the elimination tree, with path compression, as `EliminationTree::new` has it.
use Rattle.std.specs.Prelude.{ℕ, zero, suc, Bool, true, false, List, [], ◌∷◌, eqb, get_or, set, replicate}
use Rattle.std.proofs.Math.Option.{Option, none, some}
use Rattle.graph.specs.Sets.{filter, between}

-- the two tables
pub record Forest : Type 0 where
  pub parent : List (Option ℕ)
  pub ancestor : List (Option ℕ)

abbrev pub parent_of : Forest → ℕ → Option ℕ
parent_of f i = get_or f.parent i none

abbrev pub ancestor_of : Forest → ℕ → Option ℕ
ancestor_of f i = get_or f.ancestor i none

-- ancestor[i] = j
abbrev pub passed : ℕ → ℕ → Forest → Forest
passed j i f = record { parent = f.parent; ancestor = set f.ancestor i (some j) }

-- ancestor[i] = j; parent[i] = j
abbrev pub rooted : ℕ → ℕ → Forest → Forest
rooted j i f = record { parent = set f.parent i (some j); ancestor = set f.ancestor i (some j) }

-- The inner loop of column j, from i: until j, or a vertex that has no ancestor yet. The first number bounds the steps.
unfoldable pub walk : ℕ → ℕ → ℕ → Forest → Forest
walk j zero i f = f
walk j (suc steps) i f =
    elim (eqb i j) [ true ↦ f | false ↦ elim (ancestor_of f i) [ none ↦ rooted j i f | some a ↦ walk j steps a (passed j i f) ] ]

-- the walks from each of the vertices listed, one after the other
unfoldable pub walks : ℕ → List ℕ → Forest → Forest
walks j [] f = f
walks j (i ∷ is) f = walks j is (walk j j i f)

-- the tables after the first j columns
unfoldable pub forest : (ℕ → ℕ → Bool) → ℕ → ℕ → Forest
forest linked n zero = record { parent = replicate n none; ancestor = replicate n none }
forest linked n (suc j) = walks j (filter (λ i. linked i j) (between 0 j)) (forest linked n j)

-- the elimination tree
unfoldable pub tree_parent : (ℕ → ℕ → Bool) → ℕ → ℕ → Option ℕ
tree_parent linked n k = parent_of (forest linked n n) k
