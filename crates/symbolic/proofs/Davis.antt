-- The public walk over the tree's parents finds Davis's reach: its mark is borne by no stamp. Assumes nothing.
use Rattle.std.specs.Prelude.{◌≡◌, ℕ, zero, suc, ◌+◌, ◌<◌, ◌≤◌, Bool, true, false, cond, ◌||◌, T, eqb, ◌↔◌, List, [], ◌∷◌, length, get_or, take, replicate}
use mathlib.Core.Bool.{false≢true}
use mathlib.Core.Path.{refl, sym, subst, ◌∙◌}
use native.Mathlib.Omega.{arith}
use borrow.Author.Tests.{eq-eqb}
use lib.ListN.{length-replicate, get_or-replicate}
use lib.Seq.{length-take-le}
use Rattle.graph.specs.Sets.{elem}
use Rattle.graph.specs.Tree.{Reaches}
use Rattle.graph.specs.Liu.{tree_parent}
use Rattle.graph.specs.Symbolic as L
use Rattle.graph.proofs.Whole.{whole}
use Rattle.reach.specs.Reach.{any_is, next_of, stale, mark_of, stamps_of}
use Rattle.elimination_tree.specs.Tree.{Ascends, linked_up, parents_of}
use Rattle.elimination_tree.proofs.Links.{linked-symm}
use Rattle.symbolic.specs.Davis.{FindsReach}
use Rattle.symbolic.proofs.Walks.{walk-reach}

-- ---- the mark

or-false : (a b : Bool) → (a || b) ≡ false → (a ≡ false) × (b ≡ false)
or-false true b e = absurd (false≢true (sym e))
or-false false b e = (refl, e)

any_false : (m : ℕ) (xs : List ℕ) → any_is m xs ≡ false → (i : ℕ) → i < length xs → get_or xs i 0 ≡ m → ⊥
unfolding any_is
any_false m [] e i h v = omega arith
any_false m (x ∷ xs) e zero h v = false≢true (sym (or-false (eqb x m) (any_is m xs) e).0 ∙ eq-eqb x m v)
any_false m (x ∷ xs) e (suc i) h v = let g : suc i < suc (length xs) = h in any_false m xs (or-false (eqb x m) (any_is m xs) e).1 i (omega arith) v

-- no stamp bears the walk's mark
fresh : (stamps : List ℕ) (mark i : ℕ) → i < length stamps → get_or (stamps_of stamps mark) i 0 ≡ mark_of stamps mark → ⊥
fresh stamps mark i h = by-case (stale stamps mark) refl
  where
    by-case : (b : Bool) → stale stamps mark ≡ b → get_or (cond b (replicate (length stamps) 0) stamps) i 0 ≡ cond b 1 (next_of mark) → ⊥
    by-case true e v = let z : get_or {A = ℕ} (replicate {A = ℕ} (length stamps) 0) i 0 ≡ 0 = get_or-replicate {A = ℕ} (length stamps) i 0 0 h in omega arith
    by-case false e v = any_false (next_of mark) stamps (or-false (eqb (next_of mark) 0) (any_is (next_of mark) stamps) e).1 i h v

stamps-long : (stamps : List ℕ) (mark : ℕ) → length (stamps_of stamps mark) ≡ length stamps
stamps-long stamps mark = by-case (stale stamps mark)
  where
    by-case : (b : Bool) → length (cond b (replicate (length stamps) 0) stamps) ≡ length stamps
    by-case true = length-replicate (length stamps) 0
    by-case false = refl

-- ---- a number that no entry is above

total : List ℕ → ℕ
total [] = 0
total (x ∷ xs) = x + total xs

below_total : (xs : List ℕ) (i : ℕ) → get_or xs i 0 ≤ total xs
unfolding total
below_total [] i = omega arith
below_total (x ∷ xs) zero = omega arith
below_total (x ∷ xs) (suc i) = let r = below_total xs i in omega arith

-- ---- the theorem

pub finds-reach : (starts rows parents stamps : List ℕ) (j mark : ℕ) → length parents ≤ 4096 → Ascends (length parents) starts rows → parents ≡ parents_of (linked_up starts rows) (length parents) → length parents ≤ length stamps → j < length parents → FindsReach starts rows parents stamps j mark
finds-reach starts rows parents stamps j mark few inc liu room h =
    let n = length parents in
    let front = take n stamps in
    let m = mark_of front mark in
    let now = stamps_of front mark in
    let long : length now ≡ n = stamps-long front mark ∙ length-take-le n stamps room in
    let cap = m + total now in
    let listed = walk-reach starts rows n few inc parents liu j h m cap (first-le m (total now)) now long (λ i b. second-le m (total now) (get_or now i 0) (below_total now i)) (λ i b. fresh front mark i (subst (λ (x : ℕ). i < x) (sym (length-take-le n stamps room)) b)) in
    let w = whole (linked_up starts rows) n (λ a b t. linked-symm starts rows a b t) in
    record {
      listed = listed;
      davis = λ k. subst (λ (l : List ℕ). T (elem k l) ↔ Reaches (linked_up starts rows) (tree_parent (linked_up starts rows) (length parents)) j k) (sym listed) (w.davis j k h);
      columns = λ k. subst (λ (l : List ℕ). T (elem k l) ↔ ((k < j) × T (elem j (L.rows (linked_up starts rows) (length parents) k)))) (sym listed) (w.walk j k h);
    }
  where
    first-le : (a b : ℕ) → a ≤ a + b
    first-le a b = omega arith

    second-le : (a b c : ℕ) → c ≤ b → c ≤ a + b
    second-le a b c h = omega arith
