-- What a search that found a place, or none, says, and a pass that found the lowest column, or none. Assumes nothing.
use Rattle.std.specs.Prelude.{◌≡◌, ℕ, ◌<◌, ◌≤◌, Bool, true, false, ltb, is_some, List, Option, Some, None}
use mathlib.Core.Path.{refl, sym}
use native.Mathlib.Omega.{arith}
use borrow.Author.Tests.{ltb-true, ltb-false, lt-ltb, le-ltb}
use Rattle.std.specs.Bool.{then_some}
use Rattle.tables.specs.Search.{first, fault}
use Rattle.tables.proofs.FaultLaws.{fault-some, fault-past}
use Rattle.match_rows.specs.Rows.{Lowest, LowestOf}

module _ (ok : ℕ → Bool) (lo hi : ℕ) where
  -- from the place at which the search ended
  pub found-at : (k : ℕ) → k ≡ first ok lo hi → k < hi → Some k ≡ fault ok lo hi
  unfolding fault
  found-at k e h = rw (sym e, lt-ltb k hi h)

  pub found-none : hi ≤ first ok lo hi → None ≡ fault ok lo hi
  unfolding fault
  found-none h = rw (le-ltb (first ok lo hi) hi h)

  -- and back
  pub some-within : (o : Option ℕ) → o ≡ fault ok lo hi → is_some o ≡ true → first ok lo hi < hi
  some-within (Some k) e t = let r = fault-some ok lo hi k e in rw r.0 at r.1
  some-within None e t = cc

  pub none-past : (o : Option ℕ) → o ≡ fault ok lo hi → is_some o ≡ false → hi ≤ first ok lo hi
  none-past (Some k) e t = cc
  none-past None e t = fault-past ok lo hi e

-- the lowest so far, where there is one
pub lowest-of : {given : ℕ → ℕ → Bool} {listed : ℕ → List ℕ} {n r : ℕ} → Lowest given listed n r → LowestOf given listed n (then_some (ltb r n) r)
lowest-of {given} {listed} {n} {r} low = go (ltb r n) refl
  where
    go : (b : Bool) → ltb r n ≡ b → LowestOf given listed n (then_some b r)
    go true e = (ltb-true r n e, low)
    go false e = let z : r ≡ n = omega (arith, ltb-false r n e, low.within) in rw z at low
