-- The diagonal of a factor, from the dimensions.
--     length-squares, squares-at   the areas of the diagonal blocks
--     diagonal-laid                every unit factor and every d lies in its list, and no two overlap
--     widest-at                    no dimension is above the greatest
--     widest-turn, widest-end      the greatest by what is left
-- Assumes nothing.
use Rattle.std.specs.Prelude.{◌≡◌, ℕ, zero, suc, ◌+◌, ◌*◌, ◌<◌, ◌≤◌, max, List, [], ◌∷◌, length, drop}
use mathlib.Core.Path.{refl, ap, subst, ◌∙◌}
use native.Mathlib.Omega.{arith}
use native.Mathlib.Numerals.{add-one}
use lib.ListN.{length-map, get_or-map, drop_of_length-le}
use lib.Seq.{drop-cons}
use Rattle.tables.specs.Verdict.{at}
use Rattle.scalars.specs.Scalars.{scalar_starts, scalar_count}
use Rattle.scalars.proofs.ScalarLaws.{runs-apart, starts-at, length-starts}
use Rattle.layout.specs.Layout.{squares, unit_starts_of, DiagonalLaid, units_need, widest}

-- ---- the diagonal

pub length-squares : (sizes : List ℕ) → length (squares sizes) ≡ length sizes
unfolding squares
length-squares sizes = length-map {A = ℕ} {B = ℕ} sizes (λ s. s * s)

pub squares-at : (sizes : List ℕ) (k : ℕ) → at (squares sizes) k ≡ at sizes k * at sizes k
unfolding squares
squares-at sizes k = get_or-map {A = ℕ} {B = ℕ} (λ s. s * s) sizes k 0

-- runs of the given sizes, one behind the other
runs : (sizes : List ℕ) (k j : ℕ) → k < j → j ≤ length sizes → at (scalar_starts sizes) k + at sizes k ≤ at (scalar_starts sizes) j
runs sizes k j h le = omega (arith, starts-at sizes k (omega arith), starts-at sizes j le, runs-apart sizes k j h)

runs-end : (sizes : List ℕ) → at (scalar_starts sizes) (length sizes) ≤ scalar_count sizes
runs-end sizes = omega (arith, starts-at sizes (length sizes) (omega arith))

pub diagonal-laid : (sizes : List ℕ) → DiagonalLaid sizes (unit_starts_of sizes) (scalar_starts sizes) (length sizes) (units_need sizes) (scalar_count sizes)
diagonal-laid sizes =
    let l = length-squares sizes in
    record {
      count = (refl, length-starts (squares sizes) ∙ ap (λ (m : ℕ). m + 1) l, length-starts sizes);
      unit = λ k j h le. omega (arith, squares-at sizes k, runs (squares sizes) k j h (omega arith));
      units = subst (λ (m : ℕ). at (unit_starts_of sizes) m ≤ units_need sizes) l (runs-end (squares sizes));
      pivots = runs sizes;
      all_pivots = runs-end sizes;
    }

-- ---- the greatest dimension

pub widest-at : (sizes : List ℕ) (k : ℕ) → at sizes k ≤ widest sizes
unfolding widest
widest-at [] k = omega arith
widest-at (s ∷ sizes) zero = omega arith
widest-at (s ∷ sizes) (suc k) = let r = widest-at sizes k in omega arith

-- at the head of a loop that has seen k of them: the greatest of what was seen and what is left
module _ (sizes : List ℕ) (k most : ℕ) (seen : max most (widest (drop k sizes)) ≡ widest sizes) where
  pub widest-turn : (next : ℕ) → k < length sizes → next ≡ max most (at sizes k) → max next (widest (drop (k + 1) sizes)) ≡ widest sizes
  unfolding widest
  widest-turn next h e =
      let front : widest (drop k sizes) ≡ max (at sizes k) (widest (drop (suc k) sizes)) = ap widest (drop-cons sizes k 0 h) in
      let rest = ap (λ (m : ℕ). widest (drop m sizes)) (add-one k) in
      omega arith

  pub widest-end : length sizes ≤ k → most ≡ widest sizes
  unfolding widest
  widest-end h = let none : widest (drop k sizes) ≡ 0 = ap widest (drop_of_length-le sizes h) in omega arith
