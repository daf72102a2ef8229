-- A loop of block products by rows of column k: `up_none` where it begins, `up_more` a turn, `up_all` where it ends. Assumes nothing.
use Rattle.std.specs.Prelude.{◌≡◌, ℕ, ◌+◌, ◌*◌, ◌<◌, ◌≤◌, List, [], ◌∷◌, ◌++◌, map, length, get_or, take}
use mathlib.Core.Path.{refl, sym, ap, subst, ◌∙◌}
use native.Mathlib.Numerals.{add-one}
use lib.Ieee.{Float}
use lib.Seq.{take-suc, take_all}
use Rattle.graph.specs.Count.{Triple, triple}
use Rattle.buckets.proofs.Lists.{elem_at}
use Rattle.tables.specs.Verdict.{at}
use Rattle.machine.specs.Machine.{State, Column, no_column, column_at, mat_product, product, products}
use Rattle.machine.proofs.StepLaws.{products-finished}
use Rattle.block_product.specs.Working.{slot, Shows, OneProduct}
use Rattle.row_products.specs.Rows.{LentRow, RowProduct, RowSteps}

-- block products one after the other
pub products-append : (dim : ℕ → ℕ) (l m : List Triple) (s : State) → products dim (l ++ m) s ≡ products dim m (products dim l s)
unfolding products
products-append dim [] m s = refl
products-append dim (t ∷ l) m s = products-append dim l m (product dim t.i t.j t.k s)

map-append : (f : ℕ → Triple) (l m : List ℕ) → map f (l ++ m) ≡ map f l ++ map f m
map-append f [] m = refl
map-append f (x ∷ l) m = ap (λ (r : List Triple). f x ∷ r) (map-append f l m)

module _ (dim place : ℕ → ℕ) (j k : ℕ) (rows offsets : List ℕ) (values cache unit qj : List Float) (c₀ : List Float) (count₀ : ℕ) where
  -- the first t rows are done
  abbrev pub UpTo : List Float → ℕ → ℕ → Type 0
  UpTo c count t = RowSteps dim place j k rows offsets values cache unit qj c₀ count₀ (take t rows) c count

  pub up_none : UpTo c₀ count₀ 0
  unfolding products
  up_none on all apart s lent sh = sh

  pub up_more : (t : ℕ) (c c' : List Float) (count count' : ℕ) → t < length rows → UpTo c count t
      → RowProduct dim (at rows t) j k (at offsets t) (place (at rows t)) values cache unit qj c count c' count'
      → UpTo c' count' (t + 1)
  unfolding products
  up_more t c c' count count' h up one on all apart s lent sh =
      subst (Shows dim place on j c' count') (sym whole)
      (one.step place on (all (at rows t) (elem_at rows t h)) refl apart s₁ (subst (LentRow dim (at rows t) j k (at offsets t) values cache unit qj) same row) (up on all apart s lent sh))
    where
      s₁ : State
      s₁ = products dim (map (triple j k) (take t rows)) s

      row : LentRow dim (at rows t) j k (at offsets t) values cache unit qj (column_at s k)
      row = record { body = lent.bodies t h; kept = lent.kept t h; by_unit = lent.by_unit; by_q = lent.by_q }

      same : column_at s k ≡ column_at s₁ k
      same = ap (λ (l : List Column). get_or l k no_column) (sym (products-finished dim (map (triple j k) (take t rows)) s))

      whole : products dim (map (triple j k) (take (t + 1) rows)) s ≡ product dim (at rows t) j k s₁
      whole =
          ap (λ (l : List ℕ). products dim (map (triple j k) l) s) (ap (λ (m : ℕ). take m rows) (add-one t) ∙ take-suc rows t 0 h)
          ∙ ap (λ (l : List Triple). products dim l s) (map-append (triple j k) (take t rows) (at rows t ∷ []))
          ∙ products-append dim (map (triple j k) (take t rows)) (triple j k (at rows t) ∷ []) s

  pub up_all : (t : ℕ) (c : List Float) (count : ℕ) → length rows ≤ t → UpTo c count t
      → RowSteps dim place j k rows offsets values cache unit qj c₀ count₀ rows c count
  up_all t c count h up on all apart s lent sh =
      subst (λ (l : List ℕ). Shows dim place on j c count (products dim (map (triple j k) l) s)) (take_all t rows h) (up on all apart s lent sh)

-- ---- one row, from a block product with its Q(i)

module _ (dim : ℕ → ℕ) (i j k o here : ℕ) (values cache unit qj c : List Float) (count : ℕ) (c' : List Float) (count' : ℕ) where
  -- from the cache
  pub row_kept : o + dim i * dim k ≤ length cache → OneProduct dim i j k here (slot o (dim i * dim k) cache) qj c count c' count'
      → RowProduct dim i j k o here values cache unit qj c count c' count'
  row_kept fits one =
      record {
        counts = one.counts;
        step = λ place on mi pe apart s lent. one.step place on mi pe apart s (record { by_row = lent.kept fits; by_q = lent.by_q });
      }

  -- worked out
  pub row_made : (q : List Float) → q ≡ mat_product (dim i) (dim k) (dim k) (slot o (dim i * dim k) values) unit → OneProduct dim i j k here q qj c count c' count'
      → RowProduct dim i j k o here values cache unit qj c count c' count'
  row_made q e one =
      record {
        counts = one.counts;
        step = λ place on mi pe apart s lent. one.step place on mi pe apart s (record { by_row = e ∙ rw (lent.body, lent.by_unit); by_q = lent.by_q });
      }
