-- An upper pattern and its links; Liu's algorithm over the columns is Liu's algorithm over the links; and what its table of u32 says. Assumes nothing.
use Rattle.std.specs.Prelude.{ℕ, zero, suc, min, max, Bool, T, ltb, List, map, length, get_or, ◌≡◌, ◌+◌, ◌<◌, ◌≤◌, ◌⊎◌}
use mathlib.Core.Path.{refl, sym, ap, subst, ◌∙◌}
use mathlib.Core.Logic.{inl, inr}
use mathlib.Core.Option.{Option, none, some}
use native.Mathlib.Omega.{arith}
use native.Mathlib.Nat.{min_comm, max_comm}
use lib.Dec.{ltb→lt}
use lib.ListN.{length-map, get_or-map}
use lib.Seq.{slice}
use Rattle.graph.specs.Sets.{elem, filter, between, Inc}
use Rattle.graph.specs.Fill.{Least}
use Rattle.graph.specs.Symbolic.{first, rows}
use Rattle.graph.specs.Liu.{Forest, walks, forest, tree_parent}
use Rattle.graph.proofs.SetLaws.{filter-elim, filter-intro, filter-inc, between-elim, between-intro, between-inc, inc-ext}
use Rattle.graph.proofs.SymbolicLaws.{parent_least}
use Rattle.graph.proofs.LiuLaws.{forest_ready}
use Rattle.graph.proofs.TreeLaws.{tree-least}
use Rattle.buckets.proofs.Lists.{get_or_any}
use Rattle.elimination_tree.specs.Tree.{root, code, decode, upper, Ascends, linked_up, forest_by, parents_of}
use Rattle.elimination_tree.proofs.Laws.{decode-block}

-- ---- the links of an upper pattern

pub linked-symm : (starts rows : List ℕ) (p q : ℕ) → T (linked_up starts rows p q) → T (linked_up starts rows q p)
linked-symm starts rows p q t =
    subst (λ (x : ℕ). T (elem x (upper starts rows (max q p)))) (min_comm p q) (subst (λ (x : ℕ). T (elem (min p q) (upper starts rows x))) (max_comm p q) t)

-- a column that ascends lists the blocks linked to j
pub upper-links : (starts rows : List ℕ) (j : ℕ) → Inc (upper starts rows j) → upper starts rows j ≡ filter (λ i. linked_up starts rows i j) (between 0 j)
upper-links starts rows j inc =
    inc-ext (upper starts rows j) (filter (λ i. linked_up starts rows i j) (between 0 j)) inc (filter-inc (λ i. linked_up starts rows i j) (between 0 j) (between-inc 0 j))
    (λ x m. let h = below x m in filter-intro (λ i. linked_up starts rows i j) x (between 0 j) (between-intro x 0 j (omega arith) h) (subst (λ (b : Bool). T b) (sym (at x h)) m))
    (λ x m. let r = filter-elim (λ i. linked_up starts rows i j) x (between 0 j) m in
    subst (λ (b : Bool). T b) (at x (between-elim x 0 j r.0).1) r.1)
  where
    below : (x : ℕ) → T (elem x (upper starts rows j)) → x < j
    below x m = ltb→lt x j (filter-elim (λ i. ltb i j) x (slice (get_or starts j 0) (get_or starts (j + 1) 0) rows) m).1

    at : (x : ℕ) → x < j → linked_up starts rows x j ≡ elem x (upper starts rows j)
    at x h =
        let a : min x j ≡ x = omega arith in
        let b : max x j ≡ j = omega arith in
        ap (λ (y : ℕ). elem y (upper starts rows (max x j))) a ∙ ap (λ (y : ℕ). elem x (upper starts rows y)) b

-- ---- Liu's algorithm, from columns that list the links

pub forest-by : (cols : ℕ → List ℕ) (linked : ℕ → ℕ → Bool) (n : ℕ) → ((j : ℕ) → j < n → cols j ≡ filter (λ i. linked i j) (between 0 j))
    → (k : ℕ) → k ≤ n → forest_by cols n k ≡ forest linked n k
unfolding forest_by forest
forest-by cols linked n e zero h = refl
forest-by cols linked n e (suc k) h =
    ap (λ (l : List ℕ). walks k l (forest_by cols n k)) (e k h) ∙ ap (walks k (filter (λ i. linked i k) (between 0 k))) (forest-by cols linked n e k (omega arith))

pub parents-by : (starts rows : List ℕ) (n : ℕ) → Ascends n starts rows → map code (forest_by (upper starts rows) n n).parent ≡ parents_of (linked_up starts rows) n
unfolding Ascends
parents-by starts rows n inc =
    ap (λ (f : Forest). map code f.parent) (forest-by (upper starts rows) (linked_up starts rows) n (λ j h. upper-links starts rows j (inc j h)) n (omega arith))

-- ---- what the table of parents says, for any links

module _ (linked : ℕ → ℕ → Bool) (n : ℕ) (symm : (a b : ℕ) → T (linked a b) → T (linked b a)) where
  table-length : length (forest linked n n).parent ≡ n
  table-length = (forest_ready linked n (λ k. first (rows linked n k)) (parent_least linked n symm) symm n (omega arith)).sizes.0

  pub parents-length : length (parents_of linked n) ≡ n
  parents-length = length-map (forest linked n n).parent code ∙ table-length

  -- the entry of block k is the number of its parent
  pub parents-at : (k : ℕ) → k < n → get_or (parents_of linked n) k 0 ≡ code (tree_parent linked n k)
  unfolding tree_parent
  parents-at k h =
      get_or_any (parents_of linked n) k 0 root (subst (λ (m : ℕ). k < m) (sym parents-length) h) ∙ get_or-map code (forest linked n n).parent k none

  module _ (few : n ≤ 4096) where
    -- and back
    pub parents-back : (k : ℕ) → k < n → decode (get_or (parents_of linked n) k 0) ≡ tree_parent linked n k
    parents-back k h = ap decode (parents-at k h) ∙ go (tree_parent linked n k) (tree-least linked n symm k h)
      where
        go : (o : Option ℕ) → Least linked n k o → decode (code o) ≡ o
        go none l = refl
        go (some p) l = decode-block p (λ e. let b : p < n = l.1 in omega arith)

    -- each block's parent is none, or a greater block: the least row of its column, which is Liu's definition
    pub parents-rule : (k : ℕ) → k < n → (get_or (parents_of linked n) k 0 ≡ root) ⊎ ((k < get_or (parents_of linked n) k 0) × (get_or (parents_of linked n) k 0 < n))
    parents-rule k h = go (tree_parent linked n k) (parents-at k h) (tree-least linked n symm k h)
      where
        go : (o : Option ℕ) → get_or (parents_of linked n) k 0 ≡ code o → Least linked n k o → (get_or (parents_of linked n) k 0 ≡ root) ⊎ ((k < get_or (parents_of linked n) k 0) × (get_or (parents_of linked n) k 0 < n))
        go none e l = inl e
        go (some p) e l = let a : k < p = l.0 in let b : p < n = l.1 in inr (omega arith, omega arith)

    pub parents-least : (k : ℕ) → k < n → Least linked n k (decode (get_or (parents_of linked n) k 0))
    parents-least k h = subst (λ (o : Option ℕ). Least linked n k o) (sym (parents-back k h)) (tree-least linked n symm k h)
