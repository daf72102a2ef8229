-- Slots of a flat list: what a write of one does to it, and to the others. Assumes nothing.
use Rattle.std.specs.Prelude.{◌≡◌, ℕ, zero, suc, ◌+◌, ◌-◌, ◌<◌, ◌≤◌, ◌⊎◌, List, ◌++◌, length, take, drop}
use mathlib.Core.Logic.{inl, inr}
use mathlib.Core.Path.{refl, sym, ap, subst, ◌∙◌}
use native.Mathlib.Omega.{arith}
use lib.Ieee.{Float}
use lib.ListN.{length-append, length-drop, take-append-drop}
use lib.Seq.{drop-cons, take_at, drop_at, take-append-le, drop-append-le, drop-drop, length-take-le, get_or-take, get_or-drop}
use Rattle.graph.specs.Sets.{from, gather}
use Rattle.scalar.specs.Block.{within}
use Rattle.tables.specs.Verdict.{at}
use Rattle.block_product.specs.Working.{slot}

-- an entry of a slot of a table
pub at_slot : (l : List ℕ) (off size t : ℕ) → t < size → at (slot off size l) t ≡ at l (off + t)
at_slot l off size t h = get_or-take size (drop off l) t 0 h ∙ get_or-drop off l t 0

-- a list for each entry of a slot of a table
pub gather-part : {A : Type 0} (f : ℕ → List A) (l : List ℕ) (start many : ℕ) → start + many ≤ length l → gather (λ u. f (at l u)) (from start many) ≡ gather f (slot start many l)
gather-part f l start zero h = refl
gather-part f l start (suc many) h =
    ap (λ (r : List _). f (at l start) ++ r) (gather-part f l (suc start) many (omega arith))
    ∙ sym (ap (λ (r : List ℕ). gather f (take (suc many) r)) (drop-cons l start 0 (omega arith)))

module _ {A : Type 0} where
  pub slot-length : (l : List A) (off size : ℕ) → off + size ≤ length l → length (slot off size l) ≡ size
  slot-length l off size h = length-take-le size (drop off l) (rw length-drop (omega arith))

  -- a slot of the front does not see what follows it
  front : (l r r' : List A) (o n : ℕ) → o + n ≤ length l → take n (drop o (l ++ r)) ≡ take n (drop o (l ++ r'))
  front l r r' o n h =
      let b : n ≤ length (drop o l) = rw length-drop (omega arith) in
      ap (take n) (drop-append-le o l r (omega arith)) ∙ take-append-le n (drop o l) r b
      ∙ sym (ap (take n) (drop-append-le o l r' (omega arith)) ∙ take-append-le n (drop o l) r' b)

module _ (off size : ℕ) (f : List Float → List Float) (x : List Float) (fits : off + size ≤ length x) (keeps : length (f (slot off size x)) ≡ size) where
  head-length : length (take off x) ≡ off
  head-length = length-take-le off x (omega arith)

  -- what was written stands there
  pub slot-written : slot off size (within off size f x) ≡ f (slot off size x)
  slot-written = ap (take size) (drop_at (take off x) _ off head-length) ∙ take_at (f (slot off size x)) _ size keeps

  -- what stands after it
  after : drop (off + size) (within off size f x) ≡ drop (off + size) x
  after =
      sym (drop-drop size off (within off size f x)) ∙ ap (drop size) (drop_at (take off x) _ off head-length)
      ∙ drop_at (f (slot off size x)) _ size keeps ∙ drop-drop size off x

  -- a slot that ends before it, or starts after it, is as it was
  pub slot-other : (o n : ℕ) → (o + n ≤ off) ⊎ (off + size ≤ o) → slot o n (within off size f x) ≡ slot o n x
  slot-other o n (inl h) =
      front (take off x) (f (slot off size x) ++ drop size (drop off x)) (drop off x) o n (omega (arith, head-length))
      ∙ ap (slot o n) (take-append-drop off x)
  slot-other o n (inr h) =
      let e : off + size + (o - (off + size)) ≡ o = omega arith in
      subst (λ (p : ℕ). take n (drop p (within off size f x)) ≡ take n (drop p x)) e
      (ap (take n)
      (sym (drop-drop (o - (off + size)) (off + size) (within off size f x)) ∙ ap (drop (o - (off + size))) after ∙ drop-drop (o - (off + size)) (off + size) x))

  -- it is as long as it was
  pub within-length : length (within off size f x) ≡ length x
  within-length =
      length-append (take off x) (f (slot off size x) ++ drop size (drop off x))
      ∙ rw (length-append, keeps, head-length, length-drop, length-drop) (omega arith)
