-- Good columns pass the checks of a factor's table: each search runs to its end. Assumes nothing.
use Prim.Native.Nat.{ℕ, ◌+◌, ◌-◌, ◌≤◌, ◌<◌, zero-le}
use mathlib.Core.Bool.{Bool, true, cond, ◌&&◌, ◌||◌}
use mathlib.Core.List.{List}
use mathlib.Core.Logic.{⊎_elim}
use mathlib.Core.Path.{◌≡◌, sym, subst, ◌∙◌}
use native.Mathlib.Omega.{arith}
use borrow.Author.Tests.{lt-ltb, le-leb, lt-leb, eq-eqb, ne_eqb}
use lib.Dec.{leb, ltb, eqb}
use lib.ListN.{length}
use Rattle.refusal.specs.Refusal.{done}
use Rattle.tables.specs.Search.{fault}
use Rattle.tables.specs.Verdict.{at, rises_at, start_ok, row_ok, row_fits, order_ok, order_fits, past_diagonal}
use Rattle.tables.specs.Sound.{Columns}
use Rattle.tables.proofs.Bools.{or-true}
use Rattle.tables.proofs.SearchLaws.{lt-or-ge}
use Rattle.tables.proofs.FaultLaws.{fault-none}
use Rattle.std.specs.Prelude.{None}
use Rattle.tables.proofs.ColumnLaws.{column-is, in_some}
use Rattle.solve_checks.specs.Verdict.{l_starts_check, l_rows_check, l_order_check}
use Rattle.solve_checks.proofs.CheckLaws.{l-starts-go, l-rows-go, l-order-go}

-- a search whose test holds at every place finds none
pub ends : (ok : ℕ → Bool) (end : ℕ) → ((k : ℕ) → k < end → ok k ≡ true) → None ≡ fault ok 0 end
ends ok end all = fault-none ok 0 end (λ k _ h. all k h)

module _ {n : ℕ} {l_starts l_rows : List ℕ} (c : Columns past_diagonal n l_starts l_rows) where
  -- ---- 3

  rise : (k : ℕ) → k ≤ n → rises_at l_starts k ≡ true
  unfolding rises_at
  rise k l = ⊎_elim past here (lt-or-ge 0 k)
    where
      past : 0 < k → cond (eqb k 0) (eqb (at l_starts k) 0) (leb (at l_starts (k - 1)) (at l_starts k)) ≡ true
      past h =
          let z : k - 1 + 1 ≡ k = omega arith in
          rw (ne_eqb k 0 (λ e. omega arith)) (le-leb (at l_starts (k - 1)) (at l_starts k) (subst (λ (m : ℕ). at l_starts (k - 1) ≤ at l_starts m) z (c.ordered.rising (k - 1) (omega arith))))

      here : k ≤ 0 → cond (eqb k 0) (eqb (at l_starts k) 0) (leb (at l_starts (k - 1)) (at l_starts k)) ≡ true
      here h =
          let z : 0 ≡ k = omega arith in
          subst (λ (m : ℕ). cond (eqb m 0) (eqb (at l_starts m) 0) (leb (at l_starts (m - 1)) (at l_starts m)) ≡ true) z (eq-eqb (at l_starts 0) 0 c.ordered.begins)

  last : (k : ℕ) → k ≤ n → (ltb k n || eqb (at l_starts k) (length l_rows)) ≡ true
  last k l = ⊎_elim (λ (h : k < n). rw (lt-ltb k n h)) (λ (h : n ≤ k). at-end h) (lt-or-ge k n)
    where
      at-end : n ≤ k → (ltb k n || eqb (at l_starts k) (length l_rows)) ≡ true
      at-end h =
          let z : n ≡ k = omega arith in
          subst (λ (m : ℕ). (ltb k n || eqb (at l_starts m) (length l_rows)) ≡ true) z (rw (eq-eqb (at l_starts n) (length l_rows) c.ordered.ends) (or-true (ltb k n)))

  start-ok : (k : ℕ) → k < n + 2 → start_ok l_starts n (length l_rows) k ≡ true
  unfolding start_ok
  start-ok k h = ⊎_elim beyond inside (lt-or-ge n k)
    where
      inside : k ≤ n → cond (leb k n) (ltb k (length l_starts) && (rises_at l_starts k && (ltb k n || eqb (at l_starts k) (length l_rows)))) (leb (length l_starts) k) ≡ true
      inside l = rw (le-leb k n l, lt-ltb k (length l_starts) (omega (arith, c.ordered.entries)), rise k l) (last k l)

      beyond : n < k → cond (leb k n) (ltb k (length l_starts) && (rises_at l_starts k && (ltb k n || eqb (at l_starts k) (length l_rows)))) (leb (length l_starts) k) ≡ true
      beyond l = rw (lt-leb k n l) (le-leb (length l_starts) k (omega (arith, c.ordered.entries)))

  pub starts-pass : l_starts_check l_starts n (length l_rows) ≡ done
  starts-pass = l-starts-go l_starts n (length l_rows) (ends (start_ok l_starts n (length l_rows)) (n + 2) start-ok)

  -- ---- 5

  row-ok : (p : ℕ) → p < length l_rows → row_fits past_diagonal l_starts l_rows n p ≡ true
  unfolding row_ok
  row-ok p h =
      in_some c.ordered p (row_fits past_diagonal l_starts l_rows n p ≡ true) h
      (λ j l lo hi.
      let r = c.ranged j p l lo hi in
      rw (column-is c.ordered j p l lo hi, le-leb (j + 1) (at l_rows p) r.0) (lt-ltb (at l_rows p) n r.1))

  pub rows_pass : l_rows_check l_starts l_rows n ≡ done
  rows_pass = l-rows-go l_starts l_rows n (ends (row_fits past_diagonal l_starts l_rows n) (length l_rows) row-ok)

  -- ---- 6

  order-ok : (p : ℕ) → p < length l_rows → order_fits l_starts l_rows n p ≡ true
  unfolding order_ok
  order-ok p h =
      in_some c.ordered p (order_fits l_starts l_rows n p ≡ true) h
      (λ j l lo hi. subst (λ (m : ℕ). (leb p (at l_starts m) || ltb (at l_rows (p - 1)) (at l_rows p)) ≡ true) (sym (column-is c.ordered j p l lo hi)) (of_column j l lo hi))
    where
      of_column : (j : ℕ) → j < n → at l_starts j ≤ p → p < at l_starts (j + 1) → (leb p (at l_starts j) || ltb (at l_rows (p - 1)) (at l_rows p)) ≡ true
      of_column j l lo hi =
          ⊎_elim (λ (s : at l_starts j < p). rw (lt-ltb (at l_rows (p - 1)) (at l_rows p) (c.rises j (p - 1) p l (omega arith) (omega arith) hi)) (or-true (leb p (at l_starts j))))
          (λ (s : p ≤ at l_starts j). rw (le-leb p (at l_starts j) s)) (lt-or-ge (at l_starts j) p)

  pub order-pass : l_order_check l_starts l_rows n ≡ done
  order-pass = l-order-go l_starts l_rows n (ends (order_fits l_starts l_rows n) (length l_rows) order-ok)
