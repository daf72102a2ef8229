-- All products of column j: by each column that reaches it, in that order. Assumes nothing.
use Rattle.std.specs.Prelude.{◌≡◌, ℕ, ◌+◌, ◌-◌, ◌<◌, T, List, [], ◌∷◌, map, length, slice_set}
use Rattle.std.specs.Prelude.{Float}
use Rattle.graph.specs.Sets.{elem, gather, Uniq}
use Rattle.graph.specs.Count.{Triple, triple}
use Rattle.tables.specs.Verdict.{at}
use Rattle.machine.specs.Machine.{State, column_at, products}
use Rattle.block_product.specs.Working.{slot, Apart, Shows}
use Rattle.column_products.specs.Columns.{Plan, size_of, place_of, Holds, Kept, PlacesFit, FactorsFit}

-- next[k] one further, for each k listed
abbrev pub advanced : List ℕ → List ℕ → List ℕ
advanced [] next = next
advanced (k ∷ ks) next = advanced ks (slice_set next k (at next k + 1))

-- where column k ends in the table of rows
abbrev pub end_of : (l_starts : List ℕ) → ℕ → ℕ
end_of l_starts k = at l_starts (k + 1)

module _ (p : Plan) (l_starts : List ℕ) where
  -- the rows of column k from place next[k] on
  abbrev pub rows_from : (next : List ℕ) → ℕ → List ℕ
  rows_from next k = slot (at next k) (end_of l_starts k - at next k) p.l_rows

  -- the products of column j by the columns listed
  abbrev pub reach_triples : (next : List ℕ) → ℕ → (reach : List ℕ) → List Triple
  reach_triples next j reach = gather (λ k. map (triple j k) (rows_from next k)) reach

  -- each column listed, once, has row j at its next place, and its blocks in their lists
  pub record ReachFit (j : ℕ) (reach next : List ℕ) (values diag d qj qi c : ℕ) : Type 0 where
    pub once : Uniq reach
    pub column : (t : ℕ) → t < length reach → let k = at reach t in
        (k < length next) × (k + 1 < length l_starts) × (at next k < end_of l_starts k) × (at p.l_rows (at next k) ≡ j)
    pub places : (t : ℕ) → t < length reach → PlacesFit p j (at reach t) (at next (at reach t)) (end_of l_starts (at reach t)) values qi c
    pub factors : (t : ℕ) → t < length reach → FactorsFit p j (at reach t) diag d qj

  -- where the working column and the count showed a state, they show the one after the block products `did`
  abbrev pub ReachSteps : (j : ℕ) (reach next : List ℕ) (values diag d cache c : List Float) → ℕ → (did : List Triple) → List Float → ℕ → Type 0
  ReachSteps j reach next values diag d cache c count did c' count' =
      (on : List ℕ) → ((t : ℕ) → t < length reach → (i : ℕ) → T (elem i (rows_from next (at reach t))) → T (elem i on))
      → Apart (size_of p) (place_of p) on j
      → (s : State) → ((t : ℕ) → t < length reach → Holds p values diag d (at reach t) (at next (at reach t)) (end_of l_starts (at reach t)) (column_at s (at reach t)))
      → ((t : ℕ) → t < length reach → Kept p cache (at reach t) (at next (at reach t)) (end_of l_starts (at reach t)) (column_at s (at reach t)))
      → Shows (size_of p) (place_of p) on j c count s → Shows (size_of p) (place_of p) on j c' count' (products (size_of p) did s)

  pub record ReachProducts (j : ℕ) (reach next : List ℕ) (values diag d cache c : List Float) (count : ℕ) (next' : List ℕ) (c' : List Float) (count' : ℕ) : Type 0 where
    pub moved : next' ≡ advanced reach next
    -- one greater for each product
    pub counts : count' ≡ count + length (reach_triples next j reach)
    pub steps : ReachSteps j reach next values diag d cache c count (reach_triples next j reach) c' count'
