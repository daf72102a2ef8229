-- The columns of L beside their parents'.
--     row_up          a row of column k, but for the parent itself, is a row of the parent's column
--     column-repeats  a column that has one row more than its parent's is the parent and its column
-- Assumes nothing.
use Rattle.std.specs.Prelude.{◌≡◌, ℕ, suc, ◌+◌, ◌<◌, ◌≤◌, Bool, true, false, not, ◌&&◌, T, eqb, List, [], ◌∷◌, length, get_or}
use mathlib.Core.Path.{refl, sym, ap, subst, ◌∙◌}
use mathlib.Core.Logic.{⊎_elim}
use mathlib.Core.Option.{Option, some}
use native.Mathlib.Omega.{arith}
use lib.Dec.{eqb→eq}
use Rattle.graph.proofs.OrderLaws.{filter-short}
use Rattle.graph.specs.Sets.{elem, keep, filter}
use Rattle.graph.specs.Fill.{Fill, made, Least}
use Rattle.graph.specs.Symbolic as L
use Rattle.graph.proofs.SetLaws.{elem-head, elem-cases, elem-tail, filter-elim, filter-intro, filter-inc, inc-ext, is_true, is_false, eqb_of}
use Rattle.graph.proofs.SymbolicLaws.{rows_right}
use Rattle.buckets.proofs.Lists.{same?}
use Rattle.elimination_tree.specs.Tree.{linked_up, decode}
use Rattle.elimination_tree.proofs.Links.{linked-symm, parents-length, parents-least}
use Rattle.elimination_tree.proofs.Laws.{decode-root, decode-block}
use Rattle.reach.specs.Reach.{none, Parents}
use Rattle.symbolic.specs.Columns.{Tree}
use Rattle.symbolic.proofs.Walks.{tree-rule}
use Rattle.fill_rows.specs.Repeats.{rows_in, repeats}

-- ---- filters

-- a filter that drops nothing, by its length
filter-whole : (p : ℕ → Bool) (l : List ℕ) → length l ≤ length (filter p l) → filter p l ≡ l
filter-whole p [] h = refl
filter-whole p (x ∷ l) h = go (p x) h (filter-whole p l)
  where
    go : (b : Bool) → suc (length l) ≤ length (keep b x (filter p l)) → (length l ≤ length (filter p l) → filter p l ≡ l) → keep b x (filter p l) ≡ x ∷ l
    go true g ih = ap {B = List ℕ} (λ r. x ∷ r) (ih (omega arith))
    go false g ih = let s = filter-short p l in absurd (omega arith)

-- ---- what `repeats` says

both : (a b : Bool) → (a && b) ≡ true → (a ≡ true) × (b ≡ true)
both true true e = (refl, refl)
both true false e = absurd (is_true e)
both false b e = absurd (is_true e)

denied : (a : Bool) → not a ≡ true → a ≡ false
denied true e = absurd (is_true e)
denied false e = refl

module _ (parent heads : List ℕ) (k : ℕ) (e : repeats parent heads k ≡ true) where
  -- column k has a parent
  pub repeats-child : get_or parent k 0 ≡ none → ⊥
  repeats-child z = is_false (denied (eqb (get_or parent k 0) none) (both (not (eqb (get_or parent k 0) none)) (eqb (rows_in heads k) (rows_in heads (get_or parent k 0) + 1)) e).0) (eqb_of z)

  pub repeats-rows : rows_in heads k ≡ rows_in heads (get_or parent k 0) + 1
  repeats-rows = eqb→eq (rows_in heads k) (rows_in heads (get_or parent k 0) + 1) (is_true (both (not (eqb (get_or parent k 0) none)) (eqb (rows_in heads k) (rows_in heads (get_or parent k 0) + 1)) e).1)

-- ---- the tree

module _ (starts rows : List ℕ) (n : ℕ) (parent : List ℕ) (t : Tree n starts rows parent) where
  abbrev pub links : ℕ → ℕ → Bool
  links = linked_up starts rows

  pub symm : (a b : ℕ) → T (linked_up starts rows a b) → T (linked_up starts rows b a)
  symm a b l = linked-symm starts rows a b l

  -- the rows of column k
  abbrev pub column : ℕ → List ℕ
  column k = L.rows (linked_up starts rows) n k

  pub blocks : length parent ≡ n
  blocks = ap length t.liu ∙ parents-length links n symm

  pub parents-good : Parents parent
  parents-good = tree-rule starts rows n t.pattern.few t.ascends parent t.liu

  least : (k : ℕ) → k < n → Least links n k (decode (get_or parent k 0))
  least k h = subst (λ (l : List ℕ). Least links n k (decode (get_or l k 0))) (sym t.liu) (parents-least links n symm t.pattern.few k h)

  -- a parent is the least row
  pub up_least : (k : ℕ) → k < n → (get_or parent k 0 ≡ none → ⊥) → Least links n k (some (get_or parent k 0))
  up_least k h e = subst (λ (o : Option ℕ). Least links n k o) (decode-block (get_or parent k 0) e) (least k h)

  -- a column with a row has a parent
  pub has-up : (k j : ℕ) → k < j → j < n → Fill links j k → get_or parent k 0 ≡ none → ⊥
  has-up k j h b f e = subst (λ (o : Option ℕ). Least links n k o) (decode-root (get_or parent k 0) e) (least k (omega arith)) j h b f

  pub row_up : (k j : ℕ) → k < n → (e : get_or parent k 0 ≡ none → ⊥) → Fill links j k → Fill links j (get_or parent k 0)
  row_up k j h e f = let u = up_least k h e in made u.0 u.2 f

  -- rows, by the fill rule
  pub row-fills : (k j : ℕ) → k < n → T (elem j (column k)) → (k < j) × (j < n) × Fill links j k
  row-fills k j h m = (rows_right links n symm k h).sound j m

  pub fills-row : (k j : ℕ) → k < j → j < n → Fill links j k → T (elem j (column k))
  fills-row k j h b f = (rows_right links n symm k (omega arith)).complete j h b f

  pub column-repeats : (heads : List ℕ) → ((k : ℕ) → k < n → rows_in heads k ≡ length (column k)) → (k : ℕ) → k < n → repeats parent heads k ≡ true
      → column k ≡ get_or parent k 0 ∷ column (get_or parent k 0)
  column-repeats heads laid k h e =
      let u = up_least k h (repeats-child parent heads k e) in
      let p = get_or parent k 0 in
      let whole : column k ≡ p ∷ shared = split in
      let c = ap {A = List ℕ} length whole in
      let a = laid k h in
      let b = laid p u.1 in
      let r = repeats-rows parent heads k e in
      whole ∙ ap {B = List ℕ} (λ l. p ∷ l) (filter-whole (λ i. elem i (column k)) (column p) (omega arith))
    where
      shared : List ℕ
      shared = filter (λ i. elem i (column k)) (column (get_or parent k 0))

      -- the parent, and the rows that both columns have
      split : column k ≡ get_or parent k 0 ∷ shared
      split =
          let u = up_least k h (repeats-child parent heads k e) in
          let p = get_or parent k 0 in
          inc-ext (column k) (p ∷ shared) (rows_right links n symm k h).ascending
          (λ y m. (row-fills p y u.1 (filter-elim (λ i. elem i (column k)) y (column p) m).0).0, filter-inc (λ i. elem i (column k)) (column p) (rows_right links n symm p u.1).ascending)
          (λ x m.
          let f = row-fills k x h m in
          ⊎_elim
          (λ z. subst (λ (y : ℕ). T (elem y (p ∷ shared))) (sym z) (elem-head p shared))
          (λ z.
          let q : p ≤ x = u.3 x f.0 f.1 f.2 in
          elem-tail x p shared (filter-intro (λ i. elem i (column k)) x (column p) (fills-row p x (omega arith) f.1 (row_up k x h (repeats-child parent heads k e) f.2)) m))
          (same? x p))
          (λ x m. ⊎_elim
          (λ z. subst (λ (y : ℕ). T (elem y (column k))) (sym z) (fills-row k p u.0 u.1 u.2))
          (λ s. (filter-elim (λ i. elem i (column k)) x (column p) s).1)
          (elem-cases x p shared m))
