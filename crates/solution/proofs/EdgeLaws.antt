-- A right side by new number, and back. The loops: `permuted-turn` and `permuted-length`; `unpermuted-turn` and `unpermuted-all`. Assumes nothing.
use Prim.Native.Nat.{ℕ, ◌+◌, ◌<◌}
use mathlib.Core.List.{List, map}
use mathlib.Core.Logic.{⊎_elim}
use mathlib.Core.Path.{◌≡◌, sym, ap, subst, ◌∙◌}
use native.Mathlib.Omega.{arith}
use lib.Dec.{eqb, eqb→eq}
use lib.Ieee.{Float, nan}
use lib.ListN.{length, get_or, set, length-map, get_or-map}
use lib.Seq.{ext_get_or, get_or-set_same, get_or-set_other}
use Rattle.graph.specs.Order.{Permutes}
use Rattle.graph.proofs.SetLaws.{decide, eqb_of}
use Rattle.buckets.proofs.Lists.{get_or_any}
use Rattle.order.specs.Order.{Inverse}
use Rattle.order.proofs.Laws.{below_at, once-at}
use Rattle.tables.specs.Verdict.{at}
use Rattle.scalars.proofs.Filling.{Filled, filled_more}
use Rattle.machine.specs.System.{inverse_of}
use Rattle.load_column.proofs.MeaningLaws.{inverse-holds}
use Rattle.solution.specs.Solution.{taken, permuted, unpermuted}

-- an entry
taken_at : (l : List Float) (places : List ℕ) (k : ℕ) → k < length places → get_or (taken l places) k nan ≡ get_or l (at places k) nan
taken_at l places k h =
    let f : ℕ → Float = λ p. get_or l p nan in
    let m = length-map {A = ℕ} {B = Float} places f in
    get_or_any (taken l places) k nan (f 0) (omega arith) ∙ get_or-map {A = ℕ} {B = Float} f places k 0

module _ (perm : List ℕ) (b : List Float) where
  pub permuted-length : length (permuted perm b) ≡ length perm
  unfolding permuted
  permuted-length = length-map {A = ℕ} {B = Float} perm (λ p. get_or b p nan)

  pub permuted-turn : (y : List Float) (k : ℕ) (x : Float) → k < length perm → x ≡ get_or b (at perm k) nan → Filled (permuted perm b) y k → Filled (permuted perm b) (set y k x) (k + 1)
  unfolding permuted
  permuted-turn y k x h e f =
      let l = length-map {A = ℕ} {B = Float} perm (λ p. get_or b p nan) in
      filled_more (taken b perm) y k f nan x (omega arith) (taken_at b perm k h ∙ sym e)

module _ (perm : List ℕ) (p : Permutes (length perm) perm) where
  inverse : Inverse (length perm) perm (inverse_of (length perm) perm)
  inverse = inverse-holds (length perm) perm p

  -- the first k numbers of y are written
  module _ {A : Type 0} (z : A) where
    pub scattered-turn : (x : List A) (f : ℕ → A) (k : ℕ) → length x ≡ length perm → k < length perm → ((i : ℕ) → i < k → get_or x (at perm i) z ≡ f i)
        → (i : ℕ) → i < k + 1 → get_or (set x (at perm k) (f k)) (at perm i) z ≡ f i
    scattered-turn x f k l h done i hi = ⊎_elim
        (λ t. let e : i ≡ k = eqb→eq i k t in
        subst (λ (m : ℕ). get_or (set x (at perm k) (f k)) (at perm m) z ≡ f m) (sym e) (get_or-set_same x (at perm k) (f k) z (subst (λ (m : ℕ). at perm k < m) (sym l) (below_at (length perm) perm p k h))))
        (λ no. let ne : (i ≡ k → ⊥) = λ e. no (eqb_of e) in
        get_or-set_other x (at perm k) (at perm i) (f k) z (λ e. ne (once-at perm p.once i k (omega arith) h e)) ∙ done i (omega arith))
        (decide (eqb i k))

    -- all are
    pub scattered-all : (x : List A) (f : ℕ → A) → length x ≡ length perm → ((i : ℕ) → i < length perm → get_or x (at perm i) z ≡ f i)
        → x ≡ map {A = ℕ} {B = A} f (inverse_of (length perm) perm)
    scattered-all x f l done =
        let inv = inverse_of (length perm) perm in
        let c = inverse.count in
        let m = length-map {A = ℕ} {B = A} inv f in
        ext_get_or z x (map {A = ℕ} {B = A} f inv) (omega arith)
        (λ o h.
        let b = inverse.back o (omega arith) in
        ap (λ (q : ℕ). get_or x q z) (sym b.1) ∙ done (at inv o) b.0
        ∙ sym (get_or_any (map {A = ℕ} {B = A} f inv) o z (f 0) (omega arith) ∙ get_or-map {A = ℕ} {B = A} f inv o 0))

  pub unpermuted-all : (x y : List Float) → length x ≡ length perm → ((i : ℕ) → i < length perm → get_or x (at perm i) nan ≡ get_or y i nan) → x ≡ unpermuted perm y
  unfolding unpermuted
  unpermuted-all x y l done = scattered-all nan x (λ i. get_or y i nan) l done
