-- The block products of the numeric phase, as triples, and the sum rule. Assumes nothing.
use Rattle.std.specs.Prelude.{ℕ, ◌+◌, ◌*◌, ◌/◌, Bool, List, ◌∷◌, map, ltb}
use Rattle.graph.specs.Sets.{filter, between, gather}
use Rattle.graph.specs.Symbolic.{reach, first, rows}

-- a block product: block (i, j) loses a product of column k
pub record Triple : Type 0 where
  pub i : ℕ
  pub j : ℕ
  pub k : ℕ

abbrev pub triple : ℕ → ℕ → ℕ → Triple
triple j k i = record { i = i; j = j; k = k }

-- the block products of column j, in their order: for each k that reaches it, i = j, then each row i > j of column k
unfoldable pub column_triples : (ℕ → ℕ → Bool) → ℕ → ℕ → List Triple
column_triples linked n j =
    gather (λ k. map (triple j k) (j ∷ filter (λ i. ltb j i) (rows linked n k))) (reach linked n (λ k. first (rows linked n k)) j)

-- the block products of the columns that pass a test, in their order: of those that a refit works again
unfoldable pub rework_triples : (ℕ → ℕ → Bool) → ℕ → (ℕ → Bool) → List Triple
rework_triples linked n w = gather (column_triples linked n) (filter w (between 0 n))

-- the block products of all columns
unfoldable pub triples : (ℕ → ℕ → Bool) → ℕ → List Triple
triples linked n = gather (column_triples linked n) (between 0 n)

-- the products that a column of c rows gives: c(c + 1)/2
abbrev pub products_of : ℕ → ℕ
products_of c = c * (c + 1) / 2
