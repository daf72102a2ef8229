-- The loops that load a body: one number more of the whole, which is 0.0 + each number of a list. Assumes nothing.
use Rattle.std.specs.Prelude.{◌≡◌, ℕ, ◌+◌, ◌*◌, ◌<◌, List, map, length, get_or, set}
use mathlib.Core.Path.{ap, ◌∙◌}
use native.Mathlib.Nat.{mul_comm}
use native.Mathlib.Omega.{arith}
use lib.Ieee.{Float, nan, binary64, add}
use lib.ListN.{length-map, get_or-map}
use Rattle.scalar.specs.Scalar.{nought}
use Rattle.scalar.specs.Block as block
use Rattle.scalar.proofs.Laws.{column}
use Rattle.scalars.specs.Bodies.{transposed}
use Rattle.scalars.proofs.Filling.{Filled, filled_more}
use Rattle.scalars.proofs.BodyLaws.{transposed-length, transposed-at}

-- 0.0 + each number
abbrev pub added : List Float → List Float
added l = map {A = Float} {B = Float} (add binary64 nought) l

pub added-length : (l : List Float) → length (added l) ≡ length l
added-length l = length-map {A = Float} {B = Float} l (add binary64 nought)

pub added-turn : (l y : List Float) (k : ℕ) (x : Float) → k < length l → get_or l k nan ≡ x → Filled (added l) y k → Filled (added l) (set y k (add binary64 nought x)) (k + 1)
added-turn l y k x h e f =
    filled_more (added l) y k f (add binary64 nought nan) (add binary64 nought x) (omega (arith, added-length l))
    (get_or-map {A = Float} {B = Float} (add binary64 nought) l k nan ∙ ap (add binary64 nought) e)

-- the transpose of a body of height h and width w, row after row
module _ (h w : ℕ) (body : List Float) where
  pub turned-length : length (added (transposed h w body)) ≡ h * w
  turned-length = added-length (transposed h w body) ∙ transposed-length h w body

  module _ (y : List Float) (place r c : ℕ) (f : Filled (added (transposed h w body)) y place) (at : place ≡ c + r * w) (i : r < h) (k : c < w) where
    pub turned-inside : place < h * w
    turned-inside = let q = column w h r i in let m = mul_comm w h in omega arith

    pub turned_turn : Filled (added (transposed h w body)) (set y place (add binary64 nought (block.at body h r c))) (place + 1)
    turned_turn =
        let t = turned-inside in
        added-turn (transposed h w body) y place (block.at body h r c) (omega (arith, transposed-length h w body))
        (ap (λ (m : ℕ). get_or (transposed h w body) m nan) at ∙ transposed-at h w body r c i k) f
