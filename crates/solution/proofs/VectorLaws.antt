-- A vector by blocks in a flat list.
--     blocks-laid        the blocks lie one behind the other, from the dimensions
--     block_inside       a block lies in the list
--     shows-within       a write of one block
--     own_block, other_block, same_block, written-again   a block put into a vector
--     shows-blocks       a flat list shows its own blocks
--     shows-flat         the flat list is the vector's
--     row_fits           what a row needs, from how the blocks lie
-- Assumes nothing.
use Prim.Native.Nat.{ℕ, ◌+◌, ◌≤◌, ◌<◌}
use mathlib.Core.List.{List}
use mathlib.Core.Logic.{◌⊎◌, inl, inr, ⊎_elim}
use mathlib.Core.Path.{◌≡◌, sym, ap, ◌∙◌}
use native.Mathlib.Decide.{dec_lt}
use native.Mathlib.Omega.{arith}
use lib.Dec.{T, eqb, eqb→eq, eqb_refl}
use lib.Ieee.{Float}
use lib.ListN.{length}
use Rattle.scalar.specs.Block.{within}
use Rattle.graph.specs.Sets.{from}
use Rattle.graph.proofs.SetLaws.{decide, true_of, false_of, eqb_of, from-elim}
use Rattle.tables.specs.Verdict.{at}
use Rattle.tables.specs.Sound.{Sizes}
use Rattle.scalars.specs.Scalars.{scalar_starts, scalar_count}
use Rattle.scalars.proofs.ScalarLaws.{runs-apart, starts-at, length-starts}
use Rattle.machine.proofs.ListLaws.{gather_ext}
use Rattle.block_product.specs.Working.{slot}
use Rattle.block_product.proofs.SlotLaws.{slot-written, slot-other}
use Rattle.layout.specs.Layout.{Tables, side, start_of, stop_of, RowsLaid}
use Rattle.layout.proofs.FlatLaws.{pivots-join}
use Rattle.solution.specs.Solution.{Vector, put, blocks_of, flat}
use Rattle.solution.specs.Flat.{BlocksLaid, ShowsVector, RowFits}

-- ---- where the blocks lie

pub blocks-laid : (sizes : List ℕ) → Sizes sizes → BlocksLaid sizes (scalar_starts sizes) (scalar_count sizes)
blocks-laid sizes s =
    record {
      count = length-starts sizes;
      small = λ k h. s.small k;
      apart = λ k j h le. omega (arith, starts-at sizes k (omega arith), starts-at sizes j le, runs-apart sizes k j h);
      inside = omega (arith, starts-at sizes (length sizes) (omega arith));
    }

module _ {sizes starts : List ℕ} {m : ℕ} (laid : BlocksLaid sizes starts m) where
  pub block_inside : (k : ℕ) → k < length sizes → at starts k + at sizes k ≤ m
  block_inside k h = omega (arith, laid.apart k (length sizes) h (omega arith), laid.inside)

-- ---- one block is written

pub other_block : (i k : ℕ) (z : List Float) (x : Vector) → (k ≡ i → ⊥) → put i z x k ≡ x k
other_block i k z x ne = rw (false_of (eqb k i) (λ t. ne (eqb→eq k i t)))

pub own_block : (i : ℕ) (z : List Float) (x : Vector) → put i z x i ≡ z
own_block i z x = rw (true_of (eqb i i) (eqb_refl i))

pub same_block : (i k : ℕ) (x : Vector) → put i (x i) x k ≡ x k
same_block i k x = ⊎_elim (λ t. rw (true_of (eqb k i) t) (ap x (sym (eqb→eq k i t)))) (λ t. rw (false_of (eqb k i) t)) (decide (eqb k i))

pub written-again : (i k : ℕ) (z w : List Float) (x : Vector) → put i z (put i w x) k ≡ put i z x k
written-again i k z w x = ⊎_elim (λ t. rw (true_of (eqb k i) t)) (λ t. rw (false_of (eqb k i) t)) (decide (eqb k i))

module _ {sizes starts : List ℕ} (y : List Float) (laid : BlocksLaid sizes starts (length y)) where
  pub shows-within : (i : ℕ) (f : List Float → List Float) (x : Vector) (z : List Float) → i < length sizes → length (f (slot (at starts i) (at sizes i) y)) ≡ at sizes i
      → f (x i) ≡ z → ShowsVector sizes starts y x → ShowsVector sizes starts (within (at starts i) (at sizes i) f y) (put i z x)
  shows-within i f x z h keeps e shown k hk = ⊎_elim same other (decide (eqb k i))
    where
      same : T (eqb k i) → slot (at starts k) (at sizes k) (within (at starts i) (at sizes i) f y) ≡ put i z x k
      same t = rw (eqb→eq k i t, true_of (eqb i i) (eqb_refl i)) (slot-written (at starts i) (at sizes i) f y (block_inside laid i h) keeps ∙ ap f (shown i h) ∙ e)

      other : (T (eqb k i) → ⊥) → slot (at starts k) (at sizes k) (within (at starts i) (at sizes i) f y) ≡ put i z x k
      other t =
          let ne : k ≡ i → ⊥ = λ e. t (eqb_of e) in
          rw (false_of (eqb k i) t) (slot-other (at starts i) (at sizes i) f y (block_inside laid i h) keeps (at starts k) (at sizes k) (split ne (dec_lt k i)) ∙ shown k hk)
        where
          split : (k ≡ i → ⊥) → Dec (k < i) → (at starts k + at sizes k ≤ at starts i) ⊎ (at starts i + at sizes i ≤ at starts k)
          split ne (yes l) = inl (laid.apart k i l (omega arith))
          split ne (no l) = inr (laid.apart i k (omega arith) (omega arith))

-- ---- the whole list

module _ (sizes : List ℕ) (y : List Float) where
  pub shows-blocks : ShowsVector sizes (scalar_starts sizes) y (blocks_of sizes y)
  shows-blocks k h = ap (λ (s : ℕ). slot s (at sizes k) y) (starts-at sizes k (omega arith))

  pub shows-flat : (x : Vector) → length y ≡ scalar_count sizes → ShowsVector sizes (scalar_starts sizes) y x → y ≡ flat (length sizes) x
  shows-flat x l shown =
      pivots-join sizes y l
      ∙ gather_ext (λ k. slot (at (scalar_starts sizes) k) (at sizes k) y) x (from 0 (length sizes)) (λ k m. shown k (omega (arith, from-elim k 0 (length sizes) m)))

-- ---- a row

module _ (t : Tables) {starts : List ℕ} {values c m : ℕ} (rows : RowsLaid t (length t.sizes) values c) (laid : BlocksLaid t.sizes starts m) where
  pub row_fits : (j u : ℕ) → j < length t.sizes → start_of t j ≤ u → u < stop_of t j → RowFits t.sizes starts t.l_rows t.l_offsets (at starts j) (side t j) u values m
  row_fits j u h lo hi =
      let r = rows.row j u h lo hi in
      let in' = rows.column j h in
      record {
        known = omega (arith, rows.count);
        row = omega (arith, laid.count);
        behind = laid.apart j (at t.l_rows u) r.0 (omega arith);
        block = block_inside laid (at t.l_rows u) r.1;
        body = omega (arith, rows.body j u (length t.l_rows) h lo hi (omega arith) (omega arith), rows.bodies);
      }
