-- An upper pattern that lists the links of `linked` says the same of the tree and of L's columns as `linked` itself. Assumes nothing.
use Rattle.std.specs.Prelude.{◌≡◌, ℕ, zero, suc, ◌+◌, ◌-◌, ◌<◌, ◌≤◌, Bool, ◌||◌, T, ltb, List, [], ◌∷◌, ◌++◌, map, length, get_or}
use mathlib.Core.Path.{refl, sym, ap, subst, ◌∙◌}
use native.Mathlib.Omega.{arith}
use native.Mathlib.Decide.{dec_lt}
use lib.Dec.{lt→ltb}
use Rattle.graph.specs.Sets.{elem, any, filter, from, between, sum, gather, Inc}
use Rattle.graph.specs.Symbolic.{climbs, reach, parents, column, columns}
use Rattle.graph.specs.Symbolic as L
use Rattle.graph.specs.Liu.{Forest}
use Rattle.graph.proofs.SetLaws.{filter-ext, filter-elim, filter-intro, filter-inc, between-elim, between-intro, between-inc}
use Rattle.graph.proofs.CountLaws.{same_test}
use Rattle.graph.proofs.SumLaws.{sum-ext, filter-all}
use Rattle.buckets.specs.Buckets.{lengths}
use Rattle.elimination_tree.specs.Tree.{code, upper, Pattern, Ascends, linked_up, parents_of}
use Rattle.elimination_tree.proofs.Links.{linked-symm, upper-links, forest-by, parents-by}
use Rattle.pattern.specs.Moved.{UpperOf}
use Rattle.graph.specs.Count.{products_of}
use Rattle.symbolic.specs.Columns.{Tree, area}
use Rattle.analysis.specs.Plan.{stored_of, starts_of, rows_of, Analyzed}
use Rattle.analysis.specs.declared.cores.Counts.{Counts}

-- ---- two links that agree between different blocks give the same columns

module _ (l m : ℕ → ℕ → Bool) (n : ℕ) (same : (i j : ℕ) → i < n → j < n → (i ≡ j → ⊥) → l i j ≡ m i j) where
  reach-ext : (cols : List (List ℕ)) (j : ℕ) → j < n → reach l n (parents cols) j ≡ reach m n (parents cols) j
  unfolding reach
  reach-ext cols j h = ap (λ (is : List ℕ). climbs (parents cols) j n is [])
      (filter-ext (λ i. l i j) (λ i. m i j) (between 0 j) (λ x t. let b = between-elim x 0 j t in same x j (omega arith) h (λ e. omega arith)))

  column-ext : (cols : List (List ℕ)) (j : ℕ) → j < n → column l n cols j ≡ column m n cols j
  unfolding column
  column-ext cols j h =
      filter-ext (λ i. l i j || any (λ k. elem i (get_or cols k [])) (reach l n (parents cols) j)) (λ i. m i j || any (λ k. elem i (get_or cols k [])) (reach m n (parents cols) j)) (between (suc j) n)
      (λ x t. let b = between-elim x (suc j) n t in
      ap (λ (z : Bool). z || any (λ k. elem x (get_or cols k [])) (reach l n (parents cols) j)) (same x j b.1 h (λ e. omega arith))
      ∙ ap (λ (r : List ℕ). m x j || any (λ k. elem x (get_or cols k [])) r) (reach-ext cols j h))

  pub columns-ext : (j : ℕ) → j ≤ n → columns l n j ≡ columns m n j
  unfolding columns
  columns-ext zero h = refl
  columns-ext (suc j) h =
      ap (λ (c : List (List ℕ)). c ++ (column l n c j ∷ [])) (columns-ext j (omega arith)) ∙ ap (λ (x : List ℕ). columns m n j ++ (x ∷ [])) (column-ext (columns m n j) j h)

-- ---- an upper pattern

module _ (n : ℕ) (linked : ℕ → ℕ → Bool) (starts rows : List ℕ) (few : n ≤ 4096) (u : UpperOf n linked starts rows) where
  -- column j, once more without the rows that do not count: there are none
  pub same-upper : (j : ℕ) → j < n → upper starts rows j ≡ filter (λ i. linked i j) (between 0 j)
  same-upper j h =
      ap (filter (λ i. ltb i j)) (u.columns j h)
      ∙ filter-all (λ i. ltb i j) (filter (λ i. linked i j) (between 0 j)) (λ x m. lt→ltb x j (between-elim x 0 j (filter-elim (λ i. linked i j) x (between 0 j) m).0).1)

  rise : (e i : ℕ) → i + e ≡ n → get_or starts i 0 ≤ length rows
  rise zero i z = let w = ap (λ (m : ℕ). get_or starts m 0) (whole i z) in let t = u.last in omega arith
    where
      whole : (i : ℕ) → i + 0 ≡ n → i ≡ n
      whole i z = omega arith
  rise (suc e) i z = let l = u.rising i (omega arith) in let r = rise e (i + 1) (omega arith) in omega arith

  pub pattern-of : Pattern n starts rows
  pattern-of = record { few = few; count = u.count; rising = u.rising; inside = λ j h. rise (n - j) j (omega arith) }

  pub ascends-of : Ascends n starts rows
  unfolding Ascends
  ascends-of = λ j h. subst Inc (sym (same-upper j h)) (filter-inc (λ i. linked i j) (between 0 j) (between-inc 0 j))

  -- the same tree
  pub same-parents : parents_of (linked_up starts rows) n ≡ parents_of linked n
  same-parents = sym (parents-by starts rows n ascends-of) ∙ ap (λ (f : Forest). map code f.parent) (forest-by (upper starts rows) linked n same-upper n (omega arith))

  module _ (symm : (a b : ℕ) → T (linked a b) → T (linked b a)) where
    -- the same links
    lesser : (i j : ℕ) → i < j → j < n → linked_up starts rows i j ≡ linked i j
    unfolding Ascends
    lesser i j h b =
        let e = sym (upper-links starts rows j (ascends-of j b)) ∙ same-upper j b in
        same_test (linked_up starts rows i j) (linked i j)
        (λ t. (filter-elim (λ i. linked i j) i (between 0 j) (subst (λ (l : List ℕ). T (elem i l)) e (filter-intro (λ i. linked_up starts rows i j) i (between 0 j) (between-intro i 0 j (omega arith) h) t))).1)
        (λ t. (filter-elim (λ i. linked_up starts rows i j) i (between 0 j) (subst (λ (l : List ℕ). T (elem i l)) (sym e) (filter-intro (λ i. linked i j) i (between 0 j) (between-intro i 0 j (omega arith) h) t))).1)

    same-links : (i j : ℕ) → i < n → j < n → (i ≡ j → ⊥) → linked_up starts rows i j ≡ linked i j
    same-links i j hi hj ne = go (dec_lt i j)
      where
        go : Dec (i < j) → linked_up starts rows i j ≡ linked i j
        go (yes h) = lesser i j h hj
        go (no h) =
            let e = lesser j i (omega arith) hi in
            same_test (linked_up starts rows i j) (linked i j)
            (λ t. symm j i (subst (λ (b : Bool). T b) e (linked-symm starts rows i j t)))
            (λ t. linked-symm starts rows j i (subst (λ (b : Bool). T b) (sym e) (symm i j t)))

    -- the same columns of L
    pub same-columns : columns (linked_up starts rows) n n ≡ columns linked n n
    same-columns = columns-ext (linked_up starts rows) linked n same-links n (omega arith)

    same_rows : (k : ℕ) → L.rows (linked_up starts rows) n k ≡ L.rows linked n k
    unfolding L.rows
    same_rows k = ap (λ (x : List (List ℕ)). get_or x k []) same-columns

    over : (f : List ℕ → ℕ) (l : List ℕ) → sum l (λ k. f (L.rows (linked_up starts rows) n k)) ≡ sum l (λ k. f (L.rows linked n k))
    over f l = sum-ext l (λ k. f (L.rows (linked_up starts rows) n k)) (λ k. f (L.rows linked n k)) (λ k m. ap f (same_rows k))

    pub same-stored : stored_of (linked_up starts rows) n ≡ stored_of linked n
    same-stored = over length (between 0 n)

    pub same-starts : starts_of (linked_up starts rows) n ≡ starts_of linked n
    unfolding L.rows
    same-starts = ap (λ (x : List (List ℕ)). map {A = ℕ} {B = ℕ} (λ k. sum (between 0 k) (λ c. length (get_or x c []))) (from 0 (suc n))) same-columns

    pub same-l-rows : rows_of (linked_up starts rows) n ≡ rows_of linked n
    unfolding L.rows
    same-l-rows = ap (λ (x : List (List ℕ)). gather (λ k. get_or x k []) (between 0 n)) same-columns

    -- so what is counted over the pattern's links is counted over `linked`
    pub said : (sizes tree count : List ℕ) (all : Counts) → Analyzed n (linked_up starts rows) sizes tree count all → Analyzed n linked sizes tree count all
    said sizes tree count all a = record {
      parents = a.parents ∙ same-parents;
      counted = a.counted ∙ ap lengths same-columns;
      stored = a.stored ∙ same-stored;
      numbers = a.numbers ∙ sum-ext (between 0 n) (λ k. sum (L.rows (linked_up starts rows) n k) (λ i. area sizes i k)) (λ k. sum (L.rows linked n k) (λ i. area sizes i k)) (λ k m. ap (λ (l : List ℕ). sum l (λ i. area sizes i k)) (same_rows k));
      products = a.products ∙ over (λ l. products_of (length l)) (between 0 n);
    }

    -- the tree that the rows of L are made from
    pub tree_of : (tree : List ℕ) → tree ≡ parents_of linked n → Tree n starts rows tree
    tree_of tree e = record { pattern = pattern-of; ascends = ascends-of; liu = e ∙ sym same-parents }
