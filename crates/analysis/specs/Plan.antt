-- The plan of L for the links of n blocks: how much it has, where each column begins, its rows. Assumes nothing.
use Rattle.std.specs.Prelude.{◌≡◌, ℕ, suc, ◌≤◌, Bool, List, map, length, take}
use Rattle.graph.specs.Sets.{between, from, sum, gather}
use Rattle.graph.specs.Links.{linked_of}
use Rattle.graph.specs.Order.{moved}
use Rattle.graph.specs.Symbolic.{columns, rows}
use Rattle.graph.specs.Count.{products_of}
use Rattle.elimination_tree.specs.Tree.{parents_of}
use Rattle.order.specs.Order.{sizes_of}
use Rattle.pattern.specs.Moved.{UpperOf}
use Rattle.symbolic.specs.Columns.{numbers_of}
use Rattle.buckets.specs.Buckets.{lengths}
use Rattle.analysis.specs.declared.cores.Counts.{Counts}
use Rattle.analysis.specs.declared.cores.Analysis.{Analysis}

-- the blocks that L stores below the diagonal
abbrev pub stored_of : (linked : ℕ → ℕ → Bool) → (n : ℕ) → ℕ
stored_of linked n = sum (between 0 n) (λ k. length (rows linked n k))

-- the block products that make L
abbrev pub products_in : (linked : ℕ → ℕ → Bool) → (n : ℕ) → ℕ
products_in linked n = sum (between 0 n) (λ k. products_of (length (rows linked n k)))

-- where each column of L begins, and the end
abbrev pub starts_of : (linked : ℕ → ℕ → Bool) → (n : ℕ) → List ℕ
starts_of linked n = map {A = ℕ} {B = ℕ} (λ k. sum (between 0 k) (λ c. length (rows linked n c))) (from 0 (suc n))

-- L's rows, column after column
abbrev pub rows_of : (linked : ℕ → ℕ → Bool) → (n : ℕ) → List ℕ
rows_of linked n = gather (rows linked n) (between 0 n)

-- Liu's parents, the rows of each column counted, and what L has in all
pub record Analyzed (n : ℕ) (linked : ℕ → ℕ → Bool) (sizes tree count : List ℕ) (all : Counts) : Type 0 where
  pub parents : tree ≡ parents_of linked n
  pub counted : count ≡ lengths (columns linked n n)
  pub stored : all.stored ≡ stored_of linked n
  pub numbers : all.numbers ≡ numbers_of linked n sizes
  pub products : all.products ≡ products_in linked n

-- the same for a night, with the upper pattern that L's rows are made from
pub record Ready (dims starts rows perm late count heads into upper : List ℕ) (r : Analysis) : Type 0 where
  pub listed : UpperOf (length dims) (linked_of starts rows perm late) into (take r.entries upper)
  pub inside : r.entries ≤ length upper
  pub analyzed : Analyzed (length dims) (linked_of starts rows perm late) (sizes_of dims (moved perm late)) (take (length dims) heads) count r.counts
