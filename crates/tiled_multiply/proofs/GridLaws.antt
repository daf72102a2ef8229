-- A product of blocks by its entries. Assumes nothing.
use Rattle.std.specs.Prelude.{◌≡◌, ℕ, zero, suc, ◌+◌, ◌*◌, ◌<◌, List, map, length, get_or}
use mathlib.Core.Path.{sym, ap, ◌∙◌}
use native.Mathlib.Nat.{suc-mul, mul_comm}
use native.Mathlib.Omega.{arith}
use lib.Ieee.{Float, nan}
use lib.ListN.{length-append, length-map, get_or-append, get_or-map}
use lib.Seq.{get_or-append-add}
use Rattle.graph.specs.Sets.{from, gather}
use Rattle.buckets.proofs.Lists.{get_or_any}
use Rattle.order.proofs.Laws.{length_from, get_or-from}
use Rattle.machine.specs.Machine.{product_entry, mat_product}
use Rattle.tiled_product.specs.Tiled.{each_entry}
use Rattle.tiled_product.proofs.EntryLaws.{by_entries, every, columns_length}

-- ---- columns of h entries e, one after the other

module _ (h : ℕ) (e : ℕ → ℕ → Float) where
  abbrev col : ℕ → List Float
  col c = map {A = ℕ} {B = Float} (λ r. e r c) (from 0 h)

  length-col : (c : ℕ) → length (col c) ≡ h
  length-col c = length-map {A = ℕ} {B = Float} (from 0 h) (λ r. e r c) ∙ length_from 0 h

  col-at : (r c : ℕ) → r < h → get_or (col c) r nan ≡ e r c
  col-at r c k =
      let l = length-col c in
      get_or_any (col c) r nan (e 0 c) (omega arith) ∙ get_or-map {A = ℕ} {B = Float} (λ r. e r c) (from 0 h) r 0
      ∙ ap (λ (m : ℕ). e m c) (get_or-from 0 h r k ∙ omega arith)

  cols-length : (a n : ℕ) → length (gather {A = Float} col (from a n)) ≡ n * h
  cols-length a zero = sym (omega arith)
  cols-length a (suc n) =
      let i = cols-length (suc a) n in
      let l = length-col a in
      let s = suc-mul n h in
      length-append (col a) (gather {A = Float} col (from (suc a) n)) ∙ omega arith

  cols-at : (a n r c : ℕ) → c < n → r < h → get_or (gather {A = Float} col (from a n)) (r + c * h) nan ≡ e r (a + c)
  cols-at a zero r c i k = absurd (omega arith)
  cols-at a (suc n) r zero i k =
      let l = length-col a in
      let p : r + 0 * h ≡ r = omega arith in
      let z : a + 0 ≡ a = omega arith in
      ap (λ (m : ℕ). get_or (gather {A = Float} col (from a (suc n))) m nan) p
      ∙ get_or-append (col a) (gather {A = Float} col (from (suc a) n)) nan r (omega arith) ∙ col-at r a k ∙ ap (e r) (sym z)
  cols-at a (suc n) r (suc c) i k =
      let l = length-col a in
      let s = suc-mul c h in
      let p : r + suc c * h ≡ length (col a) + (r + c * h) = omega arith in
      let z : suc a + c ≡ a + suc c = omega arith in
      ap (λ (m : ℕ). get_or (gather {A = Float} col (from a (suc n))) m nan) p
      ∙ get_or-append-add (col a) (gather {A = Float} col (from (suc a) n)) (r + c * h) nan ∙ cols-at (suc a) n r c (omega arith) k ∙ ap (e r) z

-- ---- A B

module _ (h m w : ℕ) (a b : List Float) where
  abbrev whole : List Float
  whole = mat_product h m w a b

  pub product-length : length whole ≡ h * w
  unfolding mat_product
  product-length = cols-length h (product_entry h m a b) 0 w ∙ mul_comm w h

  pub product_at : (r c : ℕ) → r < h → c < w → get_or whole (r + c * h) nan ≡ product_entry h m a b r c
  unfolding mat_product
  product_at r c i k = let z : 0 + c ≡ c = omega arith in cols-at h (product_entry h m a b) 0 w r c k i ∙ ap (product_entry h m a b r) z

  -- each entry by itself, whatever stood there
  pub all_entries : (q : List Float) → length q ≡ h * w → each_entry h w (λ r c x. product_entry h m a b r c) q ≡ whole
  all_entries q long =
      by_entries h w (each_entry h w (λ r c x. product_entry h m a b r c) q) whole (columns_length h w (λ r c x. product_entry h m a b r c) w q ∙ long) product-length
      (λ r c hr hc. every h w (λ r c x. product_entry h m a b r c) q long r c hr hc ∙ sym (product_at r c hr hc))
