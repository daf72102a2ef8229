-- The laws of tables read from bytes.
--     length-u32s, u32s-at, length-f64s, f64s-at   how long a table is, and its entries
--     u32s-filled, f64s-filled                      a list with those entries is the table
--     u32-take, f64-take, u32s-take                 bytes behind those that are read do not matter
-- Assumes nothing.
use Rattle.std.specs.Prelude.{◌≡◌, ℕ, ◌+◌, ◌*◌, ◌<◌, ◌≤◌, List, map, length, get_or, take}
use mathlib.Core.Path.{sym, ap, ◌∙◌}
use native.Mathlib.Omega.{arith}
use lib.Ieee.{Float, nan}
use lib.ListN.{length-map, get_or-map}
use lib.Seq.{get_or-take, ext_get_or}
use Rattle.graph.specs.Sets.{from}
use Rattle.buckets.proofs.Lists.{get_or_any}
use Rattle.order.proofs.Laws.{length_from, get_or-from}
use Rattle.sheet_bytes.specs.Layout.{u32_at, f64_at, u32s, f64s}

-- ---- a table of what a function gives

module _ {A : Type 0} (f : ℕ → A) where
  mapped-length : (count : ℕ) → length (map {A = ℕ} {B = A} f (from 0 count)) ≡ count
  mapped-length count = length-map {A = ℕ} {B = A} (from 0 count) f ∙ length_from 0 count

  mapped_at : (count k : ℕ) (d : A) → k < count → get_or (map {A = ℕ} {B = A} f (from 0 count)) k d ≡ f k
  mapped_at count k d h =
      let l = mapped-length count in
      let e : get_or (from 0 count) k 0 ≡ k = get_or-from 0 count k h ∙ omega arith in
      get_or_any (map {A = ℕ} {B = A} f (from 0 count)) k d (f 0) (omega arith) ∙ get_or-map {A = ℕ} {B = A} f (from 0 count) k 0 ∙ ap f e

  mapped-all : (count : ℕ) (d : A) (xs : List A) → length xs ≡ count → ((k : ℕ) → k < count → get_or xs k d ≡ f k) → xs ≡ map {A = ℕ} {B = A} f (from 0 count)
  mapped-all count d xs l each =
      let m = mapped-length count in
      ext_get_or d xs (map {A = ℕ} {B = A} f (from 0 count)) (omega arith) (λ k h. each k (omega arith) ∙ sym (mapped_at count k d (omega arith)))

-- ---- tables

module _ (s : List ℕ) (start stride count : ℕ) where
  pub length-u32s : length (u32s s start stride count) ≡ count
  unfolding u32s
  length-u32s = mapped-length _ count

  pub u32s-at : (k : ℕ) → k < count → get_or (u32s s start stride count) k 0 ≡ u32_at s (start + stride * k)
  unfolding u32s
  u32s-at k h = mapped_at (λ j. u32_at s (start + stride * j)) count k 0 h

  pub u32s-filled : (xs : List ℕ) → length xs ≡ count → ((k : ℕ) → k < count → get_or xs k 0 ≡ u32_at s (start + stride * k)) → xs ≡ u32s s start stride count
  unfolding u32s
  u32s-filled xs l each = mapped-all (λ j. u32_at s (start + stride * j)) count 0 xs l each

module _ (s : List ℕ) (start count : ℕ) where
  pub length-f64s : length (f64s s start count) ≡ count
  unfolding f64s
  length-f64s = mapped-length _ count

  pub f64s-at : (k : ℕ) → k < count → get_or (f64s s start count) k nan ≡ f64_at s (start + 8 * k)
  unfolding f64s
  f64s-at k h = mapped_at (λ j. f64_at s (start + 8 * j)) count k nan h

  pub f64s-filled : (xs : List Float) → length xs ≡ count → ((k : ℕ) → k < count → get_or xs k nan ≡ f64_at s (start + 8 * k)) → xs ≡ f64s s start count
  unfolding f64s
  f64s-filled xs l each = mapped-all (λ j. f64_at s (start + 8 * j)) count nan xs l each

-- ---- the first bytes of a list

module _ (room : ℕ) (s : List ℕ) where
  pub u32-take : (o : ℕ) → o + 4 ≤ room → u32_at (take room s) o ≡ u32_at s o
  unfolding u32_at
  u32-take o h = rw (get_or-take room s o 0 (omega arith), get_or-take room s (o + 1) 0 (omega arith), get_or-take room s (o + 2) 0 (omega arith), get_or-take room s (o + 3) 0 (omega arith))

  pub f64-take : (o : ℕ) → o + 8 ≤ room → f64_at (take room s) o ≡ f64_at s o
  f64-take o h = rw (u32-take o (omega arith), u32-take (o + 4) (omega arith))

  pub u32s-take : (start stride count : ℕ) → ((k : ℕ) → k < count → start + stride * k + 4 ≤ room) → u32s (take room s) start stride count ≡ u32s s start stride count
  u32s-take start stride count h =
      u32s-filled s start stride count (u32s (take room s) start stride count) (length-u32s (take room s) start stride count)
      (λ k l. u32s-at (take room s) start stride count k l ∙ u32-take (start + stride * k) (h k l))
