-- T3: the number of block products is the sum over the columns k of c(c + 1)/2, c the number of rows of column k.
-- It is shown for the products of any set of columns that holds the parent of each of its columns (a refit's, N6), c being the number of
-- rows of column k in that set; the night's is the set of all columns.
use Prim.Native.Nat.{ℕ, suc, ◌<◌}
use mathlib.Core.Bool.{Bool, true, false}
use mathlib.Core.List.{List, ◌∷◌, map}
use mathlib.Core.Option.{some}
use mathlib.Core.Path.{◌≡◌, refl, sym, ap, ◌∙◌}
use native.Mathlib.Omega.{arith}
use lib.Dec.{T, ltb, ltb→lt}
use lib.ListN.{length, length-map}
use Rattle.graph.specs.Sets.{elem, filter, between, sum, gather, Inc}
use Rattle.graph.specs.Fill.{made}
use Rattle.graph.specs.Symbolic.{reach, first, rows}
use Rattle.graph.specs.Count.{triple, column_triples, rework_triples, triples, products_of}
use Rattle.graph.proofs.SetLaws.{filter-elim, filter-intro, filter-inc, between-elim, between-intro, between-inc, inc-uniq, inc-ext}
use Rattle.graph.proofs.SumLaws.{sum-ext, sum-swap, length-gather, weigh, sum-weights, sum-pairs, filter-all}
use Rattle.graph.proofs.SymbolicLaws.{rows_right, rows_ascending, parent_least, reach_rows, reach_uniq}
use Rattle.graph.proofs.LiuLaws.{Chain, stay, up, fill-chain}

pub same_test : (a b : Bool) → (T a → T b) → (T b → T a) → a ≡ b
same_test true true f g = refl
same_test true false f g = absurd (f tt)
same_test false true f g = absurd (g tt)
same_test false false f g = refl

module _ (linked : ℕ → ℕ → Bool) (n : ℕ) where
  -- the products of column k done for column j: row j itself, and the rows of k past j
  products : ℕ → ℕ → ℕ
  products k j = suc (length (filter (λ i. ltb j i) (rows linked n k)))

  reached : ℕ → List ℕ
  reached j = reach linked n (λ k. first (rows linked n k)) j

  length-column : (j : ℕ) → length (column_triples linked n j) ≡ sum (reached j) (λ k. products k j)
  unfolding column_triples products reached
  length-column j =
      length-gather (λ k. map (triple j k) (j ∷ filter (λ i. ltb j i) (rows linked n k))) (reached j)
      ∙ sum-ext (reached j) (λ k. length (map (triple j k) (j ∷ filter (λ i. ltb j i) (rows linked n k)))) (λ k. products k j)
      (λ k m. length-map (j ∷ filter (λ i. ltb j i) (rows linked n k)) (triple j k))

  module _ (symm : (a b : ℕ) → T (linked a b) → T (linked b a)) where
    -- for one column j: over the columns that reach it, or over all columns that have row j
    by-column : (j : ℕ) → j < n → sum (reached j) (λ k. products k j) ≡ sum (between 0 n) (λ k. weigh (elem j (rows linked n k)) (products k j))
    unfolding reached
    by-column j h =
        sum-weights (reached j) (between 0 n) (λ k. products k j) (reach_uniq linked n symm j h) (inc-uniq (between 0 n) (between-inc 0 n))
        (λ k m. let r = (reach_rows linked n symm j k h).0 m in between-intro k 0 n (omega arith) (omega arith))
        ∙ sum-ext (between 0 n) (λ k. weigh (elem k (reached j)) (products k j)) (λ k. weigh (elem j (rows linked n k)) (products k j))
        (λ k m. ap (λ (b : Bool). weigh b (products k j))
        (same_test (elem k (reached j)) (elem j (rows linked n k)) (λ t. ((reach_rows linked n symm j k h).0 t).1)
        (λ t. (reach_rows linked n symm j k h).1 (((rows_right linked n symm k (between-elim k 0 n m).1).sound j t).0, t))))

    module _ (w : ℕ → Bool) (closed : (k p : ℕ) → T (w k) → first (rows linked n k) ≡ some p → T (w p)) where
      -- the set has the ancestors of its columns
      climbs-in : {j i : ℕ} → Chain linked n (λ k. first (rows linked n k)) j i → T (w j) → T (w i)
      climbs-in stay t = t
      climbs-in {j} (up {p = p} e c) t = climbs-in c (closed j p t e)

      -- so of the rows of one column it has all past the first that it has
      rows_in : (k j i : ℕ) → k < n → T (elem j (rows linked n k)) → T (elem i (rows linked n k)) → j < i → T (w j) → T (w i)
      rows_in k j i h mj mi l t =
          let a = (rows_right linked n symm k h).sound j mj in
          let b = (rows_right linked n symm k h).sound i mi in
          climbs-in (fill-chain linked n (λ k. first (rows linked n k)) (parent_least linked n symm) i i j b.1 l (omega arith) (made a.0 a.2 b.2)) t

      -- for one column k: over its rows in the set
      by_row : (k : ℕ) → k < n
          → sum (filter w (between 0 n)) (λ j. weigh (elem j (rows linked n k)) (products k j))
          ≡ products_of (length (filter w (rows linked n k)))
      unfolding products
      by_row k h =
          sum-ext (filter w (between 0 n)) (λ j. weigh (elem j (rows linked n k)) (products k j)) (λ j. weigh (elem j some-rows) (products k j))
          (λ j m. ap (λ (b : Bool). weigh b (products k j))
          (same_test (elem j (rows linked n k)) (elem j some-rows) (λ t. filter-intro w j (rows linked n k) t (filter-elim w j (between 0 n) m).1)
          (λ t. (filter-elim w j (rows linked n k) t).0)))
          ∙ sym (sum-weights some-rows (filter w (between 0 n)) (products k) (inc-uniq some-rows inc)
          (inc-uniq (filter w (between 0 n)) (filter-inc w (between 0 n) (between-inc 0 n)))
          (λ j m. let r = filter-elim w j (rows linked n k) m in
          filter-intro w j (between 0 n) (between-intro j 0 n (omega arith) ((rows_right linked n symm k h).sound j r.0).1) r.1))
          ∙ sum-ext some-rows (products k) (λ j. suc (length (filter (λ i. ltb j i) some-rows))) (λ j m. ap (λ (l : List ℕ). suc (length l)) (past j m))
          ∙ sum-pairs some-rows inc
        where
          some-rows : List ℕ
          some-rows = filter w (rows linked n k)

          inc : Inc some-rows
          inc = filter-inc w (rows linked n k) (rows_ascending linked n symm k h)

          past : (j : ℕ) → T (elem j some-rows) → filter (λ i. ltb j i) (rows linked n k) ≡ filter (λ i. ltb j i) some-rows
          past j m =
              let r = filter-elim w j (rows linked n k) m in
              inc-ext (filter (λ i. ltb j i) (rows linked n k)) (filter (λ i. ltb j i) some-rows)
              (filter-inc (λ i. ltb j i) (rows linked n k) (rows_ascending linked n symm k h)) (filter-inc (λ i. ltb j i) some-rows inc)
              (λ i t. let q = filter-elim (λ i. ltb j i) i (rows linked n k) t in
              filter-intro (λ i. ltb j i) i some-rows (filter-intro w i (rows linked n k) q.0 (rows_in k j i h r.0 q.0 (ltb→lt j i q.1) r.1)) q.1)
              (λ i t. let q = filter-elim (λ i. ltb j i) i some-rows t in filter-intro (λ i. ltb j i) i (rows linked n k) (filter-elim w i (rows linked n k) q.0).0 q.1)

      -- N6: the count of the products of the columns in the set
      pub rework-count : length (rework_triples linked n w)
          ≡ sum (between 0 n) (λ k. products_of (length (filter w (rows linked n k))))
      unfolding rework_triples
      rework-count =
          length-gather (column_triples linked n) (filter w (between 0 n))
          ∙ sum-ext (filter w (between 0 n)) (λ j. length (column_triples linked n j)) (λ j. sum (between 0 n) (λ k. weigh (elem j (rows linked n k)) (products k j)))
          (λ j m. length-column j ∙ by-column j (between-elim j 0 n (filter-elim w j (between 0 n) m).0).1)
          ∙ sum-swap (filter w (between 0 n)) (between 0 n) (λ j k. weigh (elem j (rows linked n k)) (products k j))
          ∙ sum-ext (between 0 n) (λ k. sum (filter w (between 0 n)) (λ j. weigh (elem j (rows linked n k)) (products k j)))
          (λ k. products_of (length (filter w (rows linked n k)))) (λ k m. by_row k (between-elim k 0 n m).1)

    -- T3: the count of the night's products
    pub triples-count : length (triples linked n) ≡ sum (between 0 n) (λ k. products_of (length (rows linked n k)))
    unfolding triples rework_triples
    triples-count =
        ap (λ (l : List ℕ). length (gather (column_triples linked n) l)) (sym (filter-all every (between 0 n) (λ x m. tt)))
        ∙ rework-count every (λ k p t e. tt)
        ∙ ap (sum (between 0 n)) (λ i k. let l = filter-all every (rows linked n k) (λ x m. tt) i in products_of (length l))
      where
        every : ℕ → Bool
        every x = true
