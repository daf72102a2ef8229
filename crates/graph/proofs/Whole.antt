-- The whole claim, for every pattern: the columns of L by the path rule, Liu's parents, Davis's reach, and the count. Assumes nothing.
use Prim.Native.Nat.{ℕ, ◌≤◌, ◌<◌, min, max}
use mathlib.Core.Bool.{Bool, true, false, not, ◌&&◌}
use mathlib.Core.List.{List}
use mathlib.Core.Option.{Option, none, some}
use mathlib.Core.Logic.{◌↔◌, ⊎_elim}
use mathlib.Core.Path.{◌≡◌, sym, subst}
use native.Mathlib.Nat.{min_comm, max_comm}
use native.Mathlib.Omega.{arith}
use lib.Dec.{T, eqb, eqb→eq}
use lib.ListN.{length, get_or}
use Rattle.graph.specs.Sets.{elem, filter, between, sum, Inc, Uniq}
use Rattle.graph.specs.Links.{rows_in, linked_by, linked_in}
use Rattle.graph.specs.Path.{Stored}
use Rattle.graph.specs.Fill.{Fill, Least}
use Rattle.graph.specs.Tree.{Parent, Reaches}
use Rattle.graph.specs.Symbolic.{reach, first, rows}
use Rattle.graph.specs.Count.{triples, rework_triples, products_of}
use Rattle.graph.specs.Liu.{tree_parent}
use Rattle.graph.proofs.SetLaws.{decide, eqb_of}
use Rattle.graph.proofs.FillPath.{fill-path, path-fill}
use Rattle.graph.proofs.ReachLaws.{reach_iff, reach_once}
use Rattle.graph.proofs.SymbolicLaws.{rows_right, rows_iff, rows_ascending}
use Rattle.graph.proofs.TreeLaws.{tree-rows, tree-least}
use Rattle.graph.proofs.DavisLaws.{davis-iff}
use Rattle.graph.proofs.CountLaws.{triples-count, rework-count}
use Rattle.graph.proofs.BoundLaws.{triples-limit}

-- what holds of every pattern `linked` on n blocks
pub record Whole (linked : ℕ → ℕ → Bool) (n : ℕ) : Type 0 where
  -- the rows of each column are those of the path rule, ascending
  pub path_rule : (k i : ℕ) → k < n → T (elem i (rows linked n k)) ↔ ((i < n) × Stored linked k i)
  pub ascending : (k : ℕ) → k < n → Inc (rows linked n k)
  -- Liu's algorithm gives the parents that he defines: the least row of the path rule, which is the first of the column
  pub parents : (k : ℕ) → k < n → Parent linked n k (tree_parent linked n k)
  pub firsts : (k : ℕ) → k < n → tree_parent linked n k ≡ first (rows linked n k)
  -- the walk over the tree finds Davis's reach, which is the columns that have row j, once each
  pub davis : (j k : ℕ) → j < n → T (elem k (reach linked n (tree_parent linked n) j)) ↔ Reaches linked (tree_parent linked n) j k
  pub walk : (j k : ℕ) → j < n → T (elem k (reach linked n (tree_parent linked n) j)) ↔ ((k < j) × T (elem j (rows linked n k)))
  pub once : (j : ℕ) → j < n → Uniq (reach linked n (tree_parent linked n) j)
  -- the count of the block products, of the night and of any set of columns that holds the parent of each of its columns
  pub count : length (triples linked n) ≡ sum (between 0 n) (λ k. products_of (length (rows linked n k)))
  pub rework : (w : ℕ → Bool) → ((k p : ℕ) → T (w k) → first (rows linked n k) ≡ some p → T (w p))
      → length (rework_triples linked n w) ≡ sum (between 0 n) (λ k. products_of (length (filter w (rows linked n k))))
  pub fits : n ≤ 4096 → length (triples linked n) ≤ 11453245440

-- the least row of the fill rule is that of the path rule
pub parent-of-least : (linked : ℕ → ℕ → Bool) → ((a b : ℕ) → T (linked a b) → T (linked b a)) → (n k : ℕ) (o : Option ℕ) → Least linked n k o → Parent linked n k o
parent-of-least linked symm n k none l = λ i b s. l i s.0 b (path-fill linked symm s.1)
parent-of-least linked symm n k (some p) l =
    (l.1, (l.0, fill-path linked symm l.2), λ i b s. l.3 i s.0 b (path-fill linked symm s.1))

module _ (linked : ℕ → ℕ → Bool) (n : ℕ) (symm : (a b : ℕ) → T (linked a b) → T (linked b a)) where
  -- the walk for j finds the columns k < j that the fill rule gives row j
  fill-walk : (j k : ℕ) → j < n → T (elem k (reach linked n (tree_parent linked n) j)) ↔ ((k < j) × Fill linked j k)
  fill-walk j k h = reach_iff linked n j (tree_parent linked n) h (λ m b. tree-least linked n symm m (omega arith)) symm k

  pub whole : Whole linked n
  whole =
      record {
        path_rule = λ k i h. rows_iff linked n symm k i h;
        ascending = λ k h. rows_ascending linked n symm k h;
        parents = λ k h. parent-of-least linked symm n k (tree_parent linked n k) (tree-least linked n symm k h);
        firsts = λ k h. tree-rows linked n symm k h;
        davis = λ j k h.
            let d = davis-iff linked n j (tree_parent linked n) h (λ m b. tree-least linked n symm m (omega arith)) symm k in
            (λ m. d.1 ((fill-walk j k h).0 m), λ r. (fill-walk j k h).1 (d.0 r));
        walk = λ j k h. (
          λ m. let r = (fill-walk j k h).0 m in (r.0, (rows_right linked n symm k (omega arith)).complete j r.0 h r.1),
          λ r. (fill-walk j k h).1 (r.0, ((rows_right linked n symm k (omega arith)).sound j r.1).2),
        );
        once = λ j h. reach_once linked n j (tree_parent linked n) h (λ m b. tree-least linked n symm m (omega arith)) symm;
        count = triples-count linked n symm;
        rework = λ w closed. rework-count linked n symm w closed;
        fits = triples-limit linked n symm;
      }

-- ---- A's tables

pub and_split : (a b : Bool) → T (a && b) → T a × T b
and_split true b t = (tt, t)
and_split false b t = absurd t

pub and-join : (a b : Bool) → T a → T b → T (a && b)
and-join true b t u = u
and-join false b t u = absurd t

apart : (p q : ℕ) → T (not (eqb p q)) → T (not (eqb q p))
apart p q t = ⊎_elim (λ e. absurd (never (eqb p q) t (eqb_of (sym (eqb→eq q p e))))) (λ e. opposite (eqb q p) e) (decide (eqb q p))
  where
    never : (b : Bool) → T (not b) → T b → ⊥
    never true s r = s
    never false s r = r

    opposite : (b : Bool) → (T b → ⊥) → T (not b)
    opposite true h = h tt
    opposite false h = tt

module _ (column : ℕ → List ℕ) (perm : List ℕ) where
  pub linked-symm : (p q : ℕ) → T (linked_by column perm p q) → T (linked_by column perm q p)
  linked-symm p q t =
      let x = get_or perm p 0 in
      let y = get_or perm q 0 in
      let s = and_split (not (eqb p q)) (elem (max x y) (column (min x y))) t in
      and-join (not (eqb q p)) (elem (max y x) (column (min y x))) (apart p q s.0)
      (subst (λ (r : ℕ). T (elem r (column (min y x)))) (max_comm x y) (subst (λ (c : ℕ). T (elem (max x y) (column c))) (min_comm x y) s.1))

  -- the whole claim for what A stores and a permutation
  pub whole_by : (n : ℕ) → Whole (linked_by column perm) n
  whole_by n = whole (linked_by column perm) n linked-symm

-- the whole claim for A's tables and a permutation
pub whole_in : (starts rows perm : List ℕ) (n : ℕ) → Whole (linked_in starts rows perm) n
whole_in starts rows perm n = whole_by (rows_in starts rows) perm n
