-- The needs of a factor's lists: an order changes none of them, and every one is small.
--     same-scalars, same_units, same-widest, same-work   under a permutation of the blocks
--     few-scalars, few-units, few-work                   at most 65,536 scalars, and 1,048,576 numbers
-- Assumes nothing.
use Rattle.std.specs.Prelude.{◌≡◌, ℕ, zero, suc, ◌*◌, ◌<◌, ◌≤◌, List, [], ◌∷◌, length, get_or}
use mathlib.Core.Path.{refl, sym, ap, ap₂, subst, ◌∙◌}
use native.Mathlib.Nat.{mul-suc, mul-le-mul}
use native.Mathlib.Omega.{arith}
use Rattle.graph.specs.Order.{Permutes}
use Rattle.buckets.specs.Buckets.{before}
use Rattle.order.specs.Order.{sizes_of}
use Rattle.order.proofs.Laws.{place-of, has_all, length-sizes}
use Rattle.tables.specs.Sound.{Sizes}
use Rattle.scalars.specs.Scalars.{scalar_count}
use Rattle.scalars.proofs.ScalarLaws.{sizes-at, sizes_total}
use Rattle.layout.specs.Layout.{squares, units_need, widest, work_need}
use Rattle.layout.proofs.DiagonalLaws.{length-squares, squares-at, widest-at}

-- ---- under an order

-- the areas under an order are those of the dimensions under it
squares-sizes : (dims order : List ℕ) → squares (sizes_of dims order) ≡ sizes_of (squares dims) order
unfolding squares sizes_of
squares-sizes dims [] = refl
squares-sizes dims (o ∷ order) = ap₂ {A = ℕ} {B = List ℕ} {C = List ℕ} ◌∷◌ (sym (squares-at dims o)) (squares-sizes dims order)

-- a number that no dimension is above
widest-most : (sizes : List ℕ) (most : ℕ) → ((k : ℕ) → k < length sizes → get_or sizes k 0 ≤ most) → widest sizes ≤ most
unfolding widest
widest-most [] most h = omega arith
widest-most (s ∷ sizes) most h = let front = h 0 (omega arith) in let rest = widest-most sizes most (λ k l. h (suc k) (omega arith)) in omega arith

module _ (dims order : List ℕ) (p : Permutes (length dims) order) where
  pub same-scalars : scalar_count (sizes_of dims order) ≡ scalar_count dims
  same-scalars = ap (before (sizes_of dims order)) (length-sizes dims order) ∙ sizes_total dims order p

  -- each dimension is there under the order, and no other
  kept : (k : ℕ) → k < length dims → get_or dims k 0 ≤ widest (sizes_of dims order)
  kept k h =
      let r = place-of k order (has_all (length dims) order p k h) in
      subst (λ (m : ℕ). m ≤ widest (sizes_of dims order)) (sizes-at dims order r.0 r.1 ∙ ap (λ (o : ℕ). get_or dims o 0) r.2) (widest-at (sizes_of dims order) r.0)

  old : (k : ℕ) → k < length (sizes_of dims order) → get_or (sizes_of dims order) k 0 ≤ widest dims
  old k h = omega (arith, sizes-at dims order k (omega (arith, length-sizes dims order)), widest-at dims (get_or order k 0))

  pub same-widest : widest (sizes_of dims order) ≡ widest dims
  same-widest = let few = widest-most (sizes_of dims order) (widest dims) old in let many = widest-most dims (widest (sizes_of dims order)) kept in omega arith

  pub same-work : work_need (sizes_of dims order) ≡ work_need dims
  same-work = ap₂ ◌*◌ same-scalars same-widest

pub same_units : (dims order : List ℕ) → Permutes (length dims) order → units_need (sizes_of dims order) ≡ units_need dims
same_units dims order p =
    ap scalar_count (squares-sizes dims order) ∙ same-scalars (squares dims) order (subst (λ (m : ℕ). Permutes m order) (sym (length-squares dims)) p)

-- ---- how much at most

pub before-most : (sizes : List ℕ) (most k : ℕ) → ((i : ℕ) → get_or sizes i 0 ≤ most) → before sizes k ≤ most * k
unfolding before
before-most sizes most zero h = omega arith
before-most sizes most (suc k) h = omega (arith, before-most sizes most k h, h k, mul-suc most k)

module _ (dims : List ℕ) (s : Sizes dims) where
  pub area_small : (k : ℕ) → get_or (squares dims) k 0 ≤ 256
  area_small k = omega (arith, squares-at dims k, mul-le-mul (s.small k) (s.small k))

  pub widest-small : widest dims ≤ 16
  widest-small = widest-most dims 16 (λ k h. s.small k)

  module _ (few : length dims ≤ 4096) where
    pub few-scalars : scalar_count dims ≤ 65536
    few-scalars = omega (arith, before-most dims 16 (length dims) s.small)

    pub few-units : units_need dims ≤ 1048576
    few-units = omega (arith, length-squares dims, before-most (squares dims) 256 (length (squares dims)) area_small)

    pub few-work : work_need dims ≤ 1048576
    few-work = mul-le-mul few-scalars widest-small
