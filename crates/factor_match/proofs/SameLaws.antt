-- The answer is Same exactly where the factor's tables are those of the plan. Assumes nothing.
--     same_tables   Same: the starts, the rows and the parents are those of the links
--     tables-same   and back
--     same-rule     Same in the words of the papers: each column has the rows of the path rule, each parent is the one that Liu defines
use Rattle.std.specs.Prelude.{◌≡◌, ℕ, zero, suc, ◌+◌, ◌-◌, ◌<◌, ◌≤◌, Bool, true, false, cond, not, ◌||◌, T, eqb, ltb, ◌↔◌, List, [], length, take, Result, Ok, Err}
use Prim.Native.Nat.{zero-le}
use mathlib.Core.Logic.{⊎_elim}
use mathlib.Core.Option.{Option}
use mathlib.Core.Path.{refl, sym, ap, subst, ◌∙◌}
use native.Mathlib.Numerals.{add-one}
use native.Mathlib.Omega.{arith}
use borrow.Author.Tests.{ltb-false, eqb-true, not-false}
use lib.Seq.{get_or-take, get_or-drop, length-slice, ext_get_or}
use Rattle.graph.specs.Sets.{elem}
use Rattle.graph.specs.Links.{rows_in, linked_in}
use Rattle.graph.specs.Symbolic.{rows}
use Rattle.graph.specs.Path.{Stored}
use Rattle.graph.specs.Tree.{Parent}
use Rattle.graph.specs.Liu.{tree_parent}
use Rattle.graph.proofs.SetLaws.{decide, is_false, inc-ext}
use Rattle.graph.proofs.SymbolicLaws.{rows_iff, rows_ascending}
use Rattle.graph.proofs.Whole.{whole, linked-symm}
use Rattle.tables.specs.Search.{first}
use Rattle.tables.specs.Verdict.{at, past_diagonal}
use Rattle.tables.specs.Sound.{Columns}
use Rattle.tables.proofs.SearchLaws.{first-none}
use Rattle.tables.proofs.ColumnLaws.{in_some}
use Rattle.elimination_tree.specs.Tree.{code, decode, parents_of}
use Rattle.elimination_tree.proofs.Links.{parents-length, parents-at, parents-back}
use Rattle.analysis.specs.Plan.{starts_of, rows_of}
use Rattle.layout.proofs.RowLaws.{rows-slot}
use Rattle.layout.proofs.PlanLaws.{plan_columns, plan_rows}
use Rattle.factor_match.specs.Match.{lacks, column_right, kind_at, first_wrong, match_of}
use Rattle.factor_match.specs.declared.cores.ColumnError.{ColumnError}
use Rattle.factor_match.proofs.MatchLaws.{lacks-some, lacks-same, wrong-none, is_right}

-- ---- two tables with the same columns are the same

place_at : {least : ℕ → ℕ} {n : ℕ} {starts rows : List ℕ} → Columns least n starts rows → (j p : ℕ) → at starts j ≤ p → p < at starts (j + 1) → at (rows_in starts rows j) (p - at starts j) ≡ at rows p
place_at {least} {n} {starts} {rows} c j p lo hi =
    let e : at starts j + (p - at starts j) ≡ p = omega arith in
    get_or-drop (at starts j) (take (at starts (j + 1)) rows) (p - at starts j) 0
    ∙ get_or-take (at starts (j + 1)) rows (at starts j + (p - at starts j)) 0 (omega arith) ∙ ap (at rows) e

module _ {least : ℕ → ℕ} {n : ℕ} {starts rows starts' rows' : List ℕ} (c : Columns least n starts rows) (d : Columns least n starts' rows')
    (same : (k : ℕ) → k < n → rows_in starts rows k ≡ rows_in starts' rows' k) where
  start-next : (k : ℕ) → k < n → at starts k ≡ at starts' k → at starts (k + 1) ≡ at starts' (k + 1)
  start-next k h e =
      omega (
        arith,
        ap length (same k h),
        length-slice (at starts k) (at starts (k + 1)) rows (c.ordered.inside (k + 1) (omega arith)),
        c.ordered.rising k h,
        length-slice (at starts' k) (at starts' (k + 1)) rows' (d.ordered.inside (k + 1) (omega arith)),
        d.ordered.rising k h,
      )

  start-same : (k : ℕ) → k ≤ n → at starts k ≡ at starts' k
  start-same zero h = c.ordered.begins ∙ sym d.ordered.begins
  start-same (suc k) h = subst (λ (m : ℕ). at starts m ≡ at starts' m) (add-one k) (start-next k h (start-same k (omega arith)))

  pub starts-same : starts ≡ starts'
  starts-same = ext_get_or 0 starts starts' (c.ordered.entries ∙ sym d.ordered.entries) (λ i h. start-same i (omega (arith, c.ordered.entries)))

  row_same : (p : ℕ) → p < length rows → at rows p ≡ at rows' p
  row_same p h =
      in_some c.ordered p (at rows p ≡ at rows' p) h
      (λ j l lo hi.
      let e = start-same j (omega arith) in
      let f = start-same (j + 1) (omega arith) in
      sym (place_at c j p lo hi) ∙ ap (λ (x : List ℕ). at x (p - at starts j)) (same j l) ∙ ap (λ (m : ℕ). at (rows_in starts' rows' j) (p - m)) e ∙ place_at d j p (omega (arith, e)) (omega (arith, f)))

  pub rows_same : rows ≡ rows'
  rows_same = ext_get_or 0 rows rows' (sym c.ordered.ends ∙ start-same n (omega arith) ∙ d.ordered.ends) row_same

-- ---- what an answer of Same says

an-error : (x : ColumnError) → ◌≡◌ {A = Result Unit ColumnError} (Err x) (Ok tt) → ⊥
an-error x e = cc

none_of : (a b c : Bool) → not (a || (b || c)) ≡ true → (a ≡ false) × (b ≡ false) × (c ≡ false)
none_of true b c e = absurd (is_false (sym e) tt)
none_of false true c e = absurd (is_false (sym e) tt)
none_of false false true e = absurd (is_false (sym e) tt)
none_of false false false e = (refl, refl, refl)

lacks-false : (l m : List ℕ) → lacks l m ≡ false → (i : ℕ) → T (elem i l) → T (elem i m)
lacks-false l m e i t = ⊎_elim (λ s. s) (λ s. absurd (is_false (sym (lacks-some l m i t s) ∙ e) tt)) (decide (elem i m))

module _ (linked : ℕ → ℕ → Bool) (n : ℕ) (symm : (a b : ℕ) → T (linked a b) → T (linked b a)) (parents : List ℕ) where
  same-right : (listed : ℕ → List ℕ) → first_wrong linked n parents listed ≡ Ok tt → (k : ℕ) → k < n → column_right linked n parents listed k ≡ true
  unfolding first_wrong kind_at
  same-right listed e k h = first-none (column_right linked n parents listed) 0 n (go (ltb (first (column_right linked n parents listed) 0 n) n) refl e) k zero-le h
    where
      go : (b : Bool) → ltb (first (column_right linked n parents listed) 0 n) n ≡ b → ◌≡◌ {A = Result Unit ColumnError} (cond b (Err (kind_at linked n parents listed (first (column_right linked n parents listed) 0 n))) (Ok tt)) (Ok tt) → n ≤ first (column_right linked n parents listed) 0 n
      go true x y = absurd (an-error _ y)
      go false x y = ltb-false (first (column_right linked n parents listed) 0 n) n x

  module _ (l_starts l_rows : List ℕ) (columns : Columns past_diagonal n l_starts l_rows) where
    right-rows : (k : ℕ) → k < n → column_right linked n parents (rows_in l_starts l_rows) k ≡ true → (rows_in l_starts l_rows k ≡ rows linked n k) × (at parents k ≡ code (tree_parent linked n k))
    unfolding column_right
    right-rows k h e =
        let listed : ℕ → List ℕ = rows_in l_starts l_rows in
        let t = none_of (lacks (rows linked n k) (listed k)) (lacks (listed k) (rows linked n k)) (not (eqb (at parents k) (code (tree_parent linked n k)))) e in (
          inc-ext (listed k) (rows linked n k) (columns.increasing k h) (rows_ascending linked n symm k h) (lacks-false (listed k) (rows linked n k) t.1) (lacks-false (rows linked n k) (listed k) t.0),
          eqb-true (at parents k) (code (tree_parent linked n k)) (not-false (eqb (at parents k) (code (tree_parent linked n k))) t.2),
        )

    plan-column : (k : ℕ) → k < n → rows_in (starts_of linked n) (rows_of linked n) k ≡ rows linked n k
    plan-column k h = rows-slot (starts_of linked n) (rows_of linked n) k ∙ plan_rows linked n symm [] [] k h

    pub same-plan : length parents ≡ n → first_wrong linked n parents (rows_in l_starts l_rows) ≡ Ok tt
        → (l_starts ≡ starts_of linked n) × (l_rows ≡ rows_of linked n) × (parents ≡ parents_of linked n)
    same-plan long e =
        let right = same-right (rows_in l_starts l_rows) e in
        let col : (k : ℕ) → k < n → rows_in l_starts l_rows k ≡ rows_in (starts_of linked n) (rows_of linked n) k = λ k h. (right-rows k h (right k h)).0 ∙ sym (plan-column k h) in (
          starts-same columns (plan_columns linked n symm) col,
          rows_same columns (plan_columns linked n symm) col,
          ext_get_or 0 parents (parents_of linked n) (long ∙ sym (parents-length linked n symm))
              (λ i h. let b : i < n = omega (arith, long) in (right-rows i b (right i b)).1 ∙ sym (parents-at linked n symm i b)),
        )

    pub plan-same : l_starts ≡ starts_of linked n → l_rows ≡ rows_of linked n → parents ≡ parents_of linked n → first_wrong linked n parents (rows_in l_starts l_rows) ≡ Ok tt
    plan-same a b c =
        let listed : ℕ → List ℕ = rows_in l_starts l_rows in
        let col : (k : ℕ) → k < n → rows_in l_starts l_rows k ≡ rows linked n k = λ k h. rw (a, b) (plan-column k h) in
        sym (wrong-none linked n parents listed (λ k h.
        is_right linked n parents listed k (lacks-same (rows linked n k) (listed k) (sym (col k h))) (lacks-same (listed k) (rows linked n k) (col k h)) (ap (λ (x : List ℕ). at x k) c ∙ parents-at linked n symm k h)))

    pub rule-of-same : n ≤ 4096 → first_wrong linked n parents (rows_in l_starts l_rows) ≡ Ok tt
        → (k : ℕ) → k < n → ((i : ℕ) → T (elem i (rows_in l_starts l_rows k)) ↔ ((i < n) × Stored linked k i)) × Parent linked n k (decode (at parents k))
    rule-of-same few e k h =
        let right = right-rows k h (same-right (rows_in l_starts l_rows) e k h) in (
          λ i. subst (λ (l : List ℕ). T (elem i l) ↔ ((i < n) × Stored linked k i)) (sym right.0) (rows_iff linked n symm k i h),
          subst (λ (o : Option ℕ). Parent linked n k o) (sym (ap decode (right.1 ∙ sym (parents-at linked n symm k h)) ∙ parents-back linked n symm few k h)) ((whole linked n symm).parents k h),
        )

-- ---- of A's tables and the order of elimination

module _ (starts rows order parents l_starts l_rows : List ℕ) (columns : Columns past_diagonal (length order) l_starts l_rows) where
  pub same_tables : length parents ≡ length order → match_of starts rows order parents l_starts l_rows ≡ Ok tt
      → (l_starts ≡ starts_of (linked_in starts rows order) (length order)) × (l_rows ≡ rows_of (linked_in starts rows order) (length order)) × (parents ≡ parents_of (linked_in starts rows order) (length order))
  same_tables = same-plan (linked_in starts rows order) (length order) (linked-symm (rows_in starts rows) order) parents l_starts l_rows columns

  pub tables-same : l_starts ≡ starts_of (linked_in starts rows order) (length order) → l_rows ≡ rows_of (linked_in starts rows order) (length order) → parents ≡ parents_of (linked_in starts rows order) (length order)
      → match_of starts rows order parents l_starts l_rows ≡ Ok tt
  tables-same = plan-same (linked_in starts rows order) (length order) (linked-symm (rows_in starts rows) order) parents l_starts l_rows columns

  pub same-rule : length order ≤ 4096 → match_of starts rows order parents l_starts l_rows ≡ Ok tt
      → (k : ℕ) → k < length order → ((i : ℕ) → T (elem i (rows_in l_starts l_rows k)) ↔ ((i < length order) × Stored (linked_in starts rows order) k i)) × Parent (linked_in starts rows order) (length order) k (decode (at parents k))
  same-rule = rule-of-same (linked_in starts rows order) (length order) (linked-symm (rows_in starts rows) order) parents l_starts l_rows columns
