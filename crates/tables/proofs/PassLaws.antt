-- The way back: tables that are sound at every place pass each check of a night's system. Assumes nothing.
--     sizes-done, starts-done, rows-done, order-done, perm-done, late-done    a check whose search runs to its end
--     once-before    of a list without repetitions, an element is not among those before it
use Rattle.std.specs.Prelude.{◌≡◌, ℕ, zero, suc, ◌+◌, ◌-◌, ◌<◌, ◌≤◌, Bool, true, false, not, ◌||◌, T, eqb, ltb, ◌⊎◌, List, [], ◌∷◌, length, take}
use mathlib.Core.Logic.{inl, inr, ⊎_elim}
use mathlib.Core.Path.{refl, ap, subst, ◌∙◌}
use native.Mathlib.Numerals.{add-one}
use native.Mathlib.Omega.{arith}
use borrow.Author.Tests.{lt-ltb, le-ltb, le-leb, lt-leb, eq-eqb, ne_eqb}
use Rattle.graph.specs.Sets.{elem, Uniq}
use Rattle.graph.specs.Order.{Permutes}
use Rattle.graph.proofs.SetLaws.{elem-head, elem-tail, elem-cases, eqb_of, or_left}
use Rattle.refusal.specs.Refusal.{done}
use Rattle.tables.specs.Verdict.{at, dim_ok, rises_at, start_ok, row_ok, order_ok, perm_ok, late_ok, dims_check, starts_check, rows_check, order_check, perm_check, late_check}
use Rattle.tables.specs.Sound.{Sizes, Ordered, Columns}
use Rattle.tables.proofs.SearchLaws.{lt-or-ge}
use Rattle.tables.proofs.FaultLaws.{fault-none}
use Rattle.tables.proofs.ColumnLaws.{none-found}
use Rattle.tables.proofs.CheckLaws.{dims-go, starts-go, rows-go, order-go, perm-go, late-go}

-- ---- 2

module _ (dims : List ℕ) (s : Sizes dims) where
  dim-passes : (k : ℕ) → k < length dims → dim_ok dims k ≡ true
  unfolding dim_ok
  dim-passes k h = rw (le-leb 1 (at dims k) (s.positive k h)) (le-leb (at dims k) 16 (s.small k))

  pub sizes-done : dims_check dims ≡ done
  sizes-done = dims-go dims (fault-none (dim_ok dims) 0 (length dims) (λ k _ h. dim-passes k h))

-- ---- 3

module _ (starts : List ℕ) (n m : ℕ) (o : Ordered starts n m) where
  rises : (k : ℕ) → k ≤ n → rises_at starts k ≡ true
  unfolding rises_at
  rises zero h = eq-eqb _ _ o.begins
  rises (suc j) h =
      let up : at starts j ≤ at starts (suc j) = rw add-one at (o.rising j (omega arith)) in
      let back : suc j - 1 ≡ j = omega arith in
      rw (ne_eqb (suc j) 0 (λ z. omega arith), back) (le-leb _ _ up)

  ends-or-goes : (k : ℕ) → k ≤ n → (ltb k n || eqb (at starts k) m) ≡ true
  ends-or-goes k h =
      ⊎_elim (λ (l : k < n). rw (lt-ltb k n l)) (λ (l : n ≤ k). let e : k ≡ n = omega arith in rw (le-ltb k n l) (eq-eqb _ _ (ap (at starts) e ∙ o.ends))) (lt-or-ge k n)

  start-passes : (k : ℕ) → k < n + 2 → start_ok starts n m k ≡ true
  unfolding start_ok
  start-passes k h =
      ⊎_elim (λ (l : k ≤ n). rw (le-leb k n l, lt-ltb k (length starts) (omega (arith, o.entries)), rises k l) (ends-or-goes k l)) (λ (l : n < k). rw (lt-leb k n l) (le-leb (length starts) k (omega (arith, o.entries)))) (le-or-gt k)
    where
      le-or-gt : (k : ℕ) → (k ≤ n) ⊎ (n < k)
      le-or-gt k = ⊎_elim (λ (g : n < k). inr g) (λ g. inl g) (lt-or-ge n k)

  pub starts-done : starts_check starts n m ≡ done
  starts-done = starts-go starts n m (fault-none (start_ok starts n m) 0 (n + 2) (λ k _ h. start-passes k h))

-- ---- 5 and 6

module _ (least : ℕ → ℕ) (n : ℕ) (starts rows : List ℕ) (c : Columns least n starts rows) where
  row-passes : (j p : ℕ) → j < n → at starts j ≤ p → p < at starts (j + 1) → row_ok rows n (least j) p ≡ true
  unfolding row_ok
  row-passes j p l lo hi =
      let r = c.ranged j p l lo hi in
      rw (le-leb (least j) (at rows p) r.0) (lt-ltb (at rows p) n r.1)

  pub rows-done : rows_check least starts rows n ≡ done
  rows-done =
      rows-go least starts rows n (none-found c.ordered (λ j p. row_ok rows n (least j) p) (λ j l. fault-none (row_ok rows n (least j)) (at starts j) (at starts (j + 1)) (λ p lo hi. row-passes j p l lo hi)))

  order-passes : (j p : ℕ) → j < n → at starts j ≤ p → p < at starts (j + 1) → order_ok rows (at starts j) p ≡ true
  unfolding order_ok
  order-passes j p l lo hi =
      ⊎_elim
      (λ (h : at starts j < p). rw (lt-leb p (at starts j) h) (lt-ltb (at rows (p - 1)) (at rows p) (c.rises j (p - 1) p l (omega arith) (omega arith) hi)))
      (λ (h : p ≤ at starts j). rw (le-leb p (at starts j) h))
      (lt-or-ge (at starts j) p)

  pub order-done : order_check starts rows n ≡ done
  order-done =
      order-go starts rows n (none-found c.ordered (λ j p. order_ok rows (at starts j) p) (λ j l. fault-none (order_ok rows (at starts j)) (at starts j) (at starts (j + 1)) (λ p lo hi. order-passes j p l lo hi)))

-- ---- 8

elem-take : (l : List ℕ) (k x : ℕ) → T (elem x (take k l)) → T (elem x l)
elem-take l zero x m = absurd m
elem-take [] (suc k) x m = absurd m
elem-take (y ∷ l) (suc k) x m = ⊎_elim (λ e. or_left (eqb x y) (elem x l) (eqb_of e)) (λ t. elem-tail x y l (elem-take l k x t)) (elem-cases x y (take k l) m)

at-elem : (l : List ℕ) (k : ℕ) → k < length l → T (elem (at l k) l)
at-elem [] k h = absurd (omega arith)
at-elem (x ∷ l) zero h = elem-head x l
at-elem (x ∷ l) (suc k) h = elem-tail (at l k) x l (at-elem l k (omega arith))

pub once-before : (l : List ℕ) (k : ℕ) → Uniq l → k < length l → T (elem (at l k) (take k l)) → ⊥
once-before l zero u h m = absurd m
once-before [] (suc k) u h m = absurd m
once-before (x ∷ l) (suc k) u h m =
    ⊎_elim (λ e. u.0 (subst (λ (y : ℕ). T (elem y l)) e (at-elem l k (omega arith)))) (λ t. once-before l k u.1 (omega arith) t) (elem-cases (at l k) x (take k l) m)

not-true : (b : Bool) → (T b → ⊥) → not b ≡ true
not-true true f = absurd (f tt)
not-true false f = refl

module _ (perm : List ℕ) (n : ℕ) (p : Permutes n perm) where
  perm-passes : (k : ℕ) → k < n + 1 → perm_ok perm n k ≡ true
  unfolding perm_ok
  perm-passes k h =
      ⊎_elim
      (λ (l : k < n).
      rw (lt-ltb k n l, lt-ltb k (length perm) (omega (arith, p.entries)), lt-ltb (at perm k) n (p.below (at perm k) (at-elem perm k (omega (arith, p.entries)))))
      (not-true (elem (at perm k) (take k perm)) (once-before perm k p.once (omega (arith, p.entries)))))
      (λ (l : n ≤ k). rw (le-ltb k n l) (le-leb (length perm) k (omega (arith, p.entries))))
      (lt-or-ge k n)

  pub perm-done : perm_check perm n ≡ done
  perm-done = perm-go perm n (fault-none (perm_ok perm n) 0 (n + 1) (λ k _ h. perm-passes k h))

-- ---- 9

module _ (late : List ℕ) (n : ℕ) (e : length late ≡ n) (f : (k : ℕ) → k < n → at late k ≤ 1) where
  late-passes : (k : ℕ) → k < n + 1 → late_ok late n k ≡ true
  unfolding late_ok
  late-passes k h =
      ⊎_elim
      (λ (l : k < n). rw (lt-ltb k n l, lt-ltb k (length late) (omega (arith, e))) (le-leb (at late k) 1 (f k l)))
      (λ (l : n ≤ k). rw (le-ltb k n l) (le-leb (length late) k (omega (arith, e))))
      (lt-or-ge k n)

  pub late-done : late_check late n ≡ done
  late-done = late-go late n (fault-none (late_ok late n) 0 (n + 1) (λ k _ h. late-passes k h))
