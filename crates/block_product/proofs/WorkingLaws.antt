-- The machine's step on the flat list that shows its column.
--     steps-length, sub-length    what a loop and a product keep the length of
--     shows-within    a write of one block
--     product-step    one block product, from the equation that the code has
-- Assumes nothing.
use Rattle.std.specs.Prelude.{◌≡◌, ℕ, zero, suc, ◌+◌, ◌*◌, ◌<◌, ◌≤◌, T, eqb, ◌⊎◌, List, [], ◌∷◌, length}
use mathlib.Core.Logic.{inl, inr, ⊎_elim}
use mathlib.Core.Option.{Option}
use mathlib.Core.Path.{refl, sym, ap, ◌∙◌}
use native.Mathlib.Decide.{dec_lt}
use native.Mathlib.Omega.{arith}
use lib.Dec.{eqb→eq, eqb_refl}
use lib.Ieee.{Float}
use lib.ListN.{length-set, length-append}
use Rattle.graph.specs.Sets.{elem}
use Rattle.graph.specs.Count.{triple}
use Rattle.graph.proofs.SetLaws.{decide, true_of, false_of, eqb_of}
use Rattle.scalar.specs.Loop.{steps}
use Rattle.scalar.specs.Block.{within}
use Rattle.kernel_product.specs.Product.{sub_mat_diag_mat_t}
use Rattle.tiled_product.specs.Tiled.{sub_mat_mat_t}
use Rattle.tiled_product.proofs.TileLaws.{sub-is-tiled}
use Rattle.machine.specs.Machine.{Column, column_at, body_or, touch, scaled, reduced, product}
use Rattle.block_product.specs.Working.{slot, Apart, scaled_by_d, OneProduct}
use Rattle.tiled_multiply.proofs.GridLaws.{product-length}
use Rattle.block_product.proofs.SlotLaws.{slot-length, slot-written, slot-other}

-- ---- lengths

-- a loop whose turns keep the length keeps it
pub steps-length : (f : ℕ → List Float → List Float) → ((k : ℕ) (a : List Float) → length (f k a) ≡ length a) → (n : ℕ) (a : List Float) → length (steps f n a) ≡ length a
unfolding steps
steps-length f h zero a = refl
steps-length f h (suc n) a = h n (steps f n a) ∙ steps-length f h n a

pub sub-length : (m n k : ℕ) (y a d b : List Float) → length (sub_mat_diag_mat_t m n k y a d b) ≡ length y
unfolding sub_mat_diag_mat_t
sub-length m n k y a d b = steps-length _ (λ t. steps-length _ (λ j. steps-length _ (λ i y. length-set y _ _) m) n) k y

-- ---- the working column

module _ (dim place : ℕ → ℕ) (on : List ℕ) (j : ℕ) (apart : Apart dim place on j) where
  -- Where block i is changed by f, and no place of another block, every slot is that of the machine's column with block i changed.
  pub shows-within : (i : ℕ) (f : List Float → List Float) (c : List Float) (work : ℕ → Option (List Float))
      → T (elem i on) → place i + dim i * dim j ≤ length c → length (f (slot (place i) (dim i * dim j) c)) ≡ dim i * dim j
      → ((r : ℕ) → T (elem r on) → slot (place r) (dim r * dim j) c ≡ body_or (dim r * dim j) (work r))
      → (r : ℕ) → T (elem r on)
      → slot (place r) (dim r * dim j) (within (place i) (dim i * dim j) f c) ≡ body_or (dim r * dim j) (touch i (f (body_or (dim i * dim j) (work i))) work r)
  shows-within i f c work mi fits keeps held r mr = ⊎_elim same other (decide (eqb r i))
    where
      same : T (eqb r i) → slot (place r) (dim r * dim j) (within (place i) (dim i * dim j) f c) ≡ body_or (dim r * dim j) (touch i (f (body_or (dim i * dim j) (work i))) work r)
      same t = rw (eqb→eq r i t, true_of (eqb i i) (eqb_refl i)) (slot-written (place i) (dim i * dim j) f c fits keeps ∙ ap f (held i mi))

      other : (T (eqb r i) → ⊥) → slot (place r) (dim r * dim j) (within (place i) (dim i * dim j) f c) ≡ body_or (dim r * dim j) (touch i (f (body_or (dim i * dim j) (work i))) work r)
      other t =
          let ne : r ≡ i → ⊥ = λ e. t (eqb_of e) in
          rw (false_of (eqb r i) t) (slot-other (place i) (dim i * dim j) f c fits keeps (place r) (dim r * dim j) (split ne (dec_lt r i)) ∙ held r mr)
        where
          split : (r ≡ i → ⊥) → Dec (r < i) → (place r + dim r * dim j ≤ place i) ⊎ (place i + dim i * dim j ≤ place r)
          split ne (yes l) = inl (apart r i mr mi l)
          split ne (no l) = inr (apart i r mi mr (omega arith))

-- ---- one block product

module _ (dim : ℕ → ℕ) (i j k : ℕ) where
  pub product-step : (here : ℕ) (qi qj c c' : List Float) (count : ℕ) → here + dim i * dim j ≤ length c
      → c' ≡ within here (dim i * dim j) (λ y. sub_mat_mat_t (dim i) (dim j) (dim k) y qi qj) c
      → OneProduct dim i j k here qi qj c count c' (count + 1)
  unfolding product
  product-step here qi qj c c' count fits e =
      record {
        counts = refl;
        step = λ place on mi pe apart s lent sh.
            let long = slot-length c (place i) (dim i * dim j) (rw pe fits) in
            record {
              blocks = λ r mr.
                  rw (e, ← pe, lent.by_row, lent.by_q, ← kernel (column_at s k) (slot (place i) (dim i * dim j) c) long)
                  (shows-within dim place on j apart i (reduced dim (column_at s k) i j k) c s.work mi (rw pe fits) (sub-length _ _ _ _ _ _ _ ∙ long) sh.blocks r mr);
              counted = ap (λ (n : ℕ). n + 1) sh.counted ∙ sym (length-append s.done (triple j k i ∷ []));
            };
      }
    where
      -- the kernel's product, with Q(j) d made before
      kernel : (col : Column) (y : List Float) → length y ≡ dim i * dim j
          → reduced dim col i j k y ≡ sub_mat_mat_t (dim i) (dim j) (dim k) y (scaled dim col i k) (scaled_by_d dim col j k)
      kernel col y long =
          sub-is-tiled (dim i) (dim j) y (scaled dim col i k) col.d (scaled dim col j k) long (dim k) (product-length (dim j) (dim k) (dim k) (col.body j) col.unit)
