-- Symbolic elimination: reach in document 01's order, and the rows of L column by column. Assumes nothing.
use Rattle.std.specs.Prelude.{ℕ, zero, suc, Bool, true, false, ◌||◌, List, [], ◌∷◌, ◌++◌, eqb, get_or}
use Rattle.std.proofs.Math.Option.{Option, none, some}
use Rattle.graph.specs.Sets.{elem, any, filter, between}

-- The climb for column j from vertex o: until j itself, a vertex already found, or a root. `found` lists what was found, the last first.
-- The first number bounds the steps: the number of blocks is enough for any table of ascending parents.
unfoldable pub climb : (ℕ → Option ℕ) → ℕ → ℕ → Option ℕ → List ℕ → List ℕ
climb parent j zero o found = found
climb parent j (suc steps) none found = found
climb parent j (suc steps) (some i) found =
    elim (eqb i j || elem i found) [ true ↦ found | false ↦ climb parent j steps (parent i) (i ∷ found) ]

-- the climbs from each of the vertices listed, one after the other
unfoldable pub climbs : (ℕ → Option ℕ) → ℕ → ℕ → List ℕ → List ℕ → List ℕ
climbs parent j steps [] found = found
climbs parent j steps (i ∷ is) found = climbs parent j steps is (climb parent j steps (some i) found)

-- the columns that reach column j, last found first: a climb from each linked vertex before j, ascending
unfoldable pub reach : (ℕ → ℕ → Bool) → ℕ → (ℕ → Option ℕ) → ℕ → List ℕ
reach linked n parent j = climbs parent j n (filter (λ i. linked i j) (between 0 j)) []

-- the first of a list, if there is one: the parent of a column, from its rows
abbrev pub first : List ℕ → Option ℕ
first [] = none
first (x ∷ l) = some x

-- the parents that the columns found so far give
abbrev pub parents : List (List ℕ) → ℕ → Option ℕ
parents cols k = first (get_or cols k [])

-- the rows of column j, from the columns before it: the linked rows, and the rows of each column that reaches j
unfoldable pub column : (ℕ → ℕ → Bool) → ℕ → List (List ℕ) → ℕ → List ℕ
column linked n cols j =
    filter (λ i. linked i j || any (λ k. elem i (get_or cols k [])) (reach linked n (parents cols) j)) (between (suc j) n)

-- the first j columns of L
unfoldable pub columns : (ℕ → ℕ → Bool) → ℕ → ℕ → List (List ℕ)
columns linked n zero = []
columns linked n (suc j) = columns linked n j ++ (column linked n (columns linked n j) j ∷ [])

-- the rows of column k of L
unfoldable pub rows : (ℕ → ℕ → Bool) → ℕ → ℕ → List ℕ
rows linked n k = get_or (columns linked n n) k []
