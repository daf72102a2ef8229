-- `dense_rows::cores::divide_row` meets its contract: a turn stores what `divided` gives of what `reduced` gives, and the pivot so far reads no entry that a later turn stores. Assumes nothing.
use Rattle.std.specs.Prelude.{◌≡◌, ℕ, ◌+◌, ◌*◌, ◌<◌, List, length, get_or}
use mathlib.Core.Path.{◌∙◌}
use native.Mathlib.Nat.{eq_of_mul-eq-mul_right}
use native.Mathlib.Omega.{arith}
use lib.Ieee.{Float, nan, binary64, mul}
use lib.Seq.{get_or-set_same, get_or-set_other}
use borrow.Author.Rules.{rules}
use Rattle.scalar.specs.Loop.{steps}
use Rattle.scalar.specs.Block.{at, put, lose}
use Rattle.dense_rows.specs.Row.{lose_pivot}
use Rattle.scalar.proofs.Laws.{steps_next, steps-same, column, kernels}
use Rattle.dense_rows.proofs.cores.divide_row.Goals as goal

-- ---- b is the block a with l as the entry (j, k)
module _ (n j k : ℕ) (a d b : List Float) (l : Float) (row : j < n) (left : k < j) (long : length a ≡ n * n) (writes : b ≡ put a n j k l) where
  -- an entry of row j in another column stands elsewhere, since a column is not empty
  other : (c : ℕ) → (c ≡ k → ⊥) → at b n j c ≡ at a n j c
  other c ne = rw writes (get_or-set_other a (j + k * n) (j + c * n) l nan (λ e. ne (eq_of_mul-eq-mul_right n (omega arith) c k (omega arith))))

  -- the place lies in the block
  written : at b n j k ≡ l
  written = rw writes (get_or-set_same a (j + k * n) l nan (omega (arith, column n n k (omega arith))))

  -- the pivot so far reads the entries (j, p) with p below k, and (j, j), which are the same in both; the next product is that of l
  pivot-more : (x : Float) → x ≡ steps (lose_pivot n j a d) k (at a n j j)
      → lose x (mul binary64 (get_or d k nan) l) l ≡ steps (lose_pivot n j b d) (k + 1) (at b n j j)
  pivot-more x e =
      steps_next _ k (at b n j j) x _
      (e ∙ rw (other j (λ z. omega arith)) (steps-same _ _ k (λ p s h. rw (other p (λ z. omega arith))) (at a n j j)))
      (rw written)

pub loop-k-preserved : goal.loop-k-preserved
loop-k-preserved c =
    let made = c.loop-k in
    let args = c.args in (
      search rules,
      search rules,
      steps_next _ _ _ _ _ made.invariant.2 (rw (c.store.ensures, c.divided-l.ensures, c.reduced-s.ensures)),
      pivot-more _ _ _ made.a args.d.now _ _ (omega arith) c.loop-k-test.true made.invariant.1 c.store.ensures _ made.invariant.3,
    )

pub loop-k-init : goal.loop-k-init
loop-k-init c = search kernels
