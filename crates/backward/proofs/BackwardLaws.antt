-- The sweep of the backward part does what the solve means: `rows-up` over the rows of a column, `columns-up` over the columns. Assumes nothing.
use Rattle.std.specs.Prelude.{◌≡◌, ℕ, zero, suc, ◌+◌, ◌-◌, ◌*◌, ◌<◌, ◌≤◌, List, ◌++◌, length, take, drop}
use mathlib.Core.Logic.{inr}
use mathlib.Core.Path.{refl, sym, ap, subst, ◌∙◌}
use native.Mathlib.Omega.{arith}
use lib.Ieee.{Float}
use Rattle.scalar.specs.Loop.{steps}
use Rattle.scalar.specs.Block.{within}
use Rattle.scalar.proofs.Laws.{steps-none, steps-more}
use Rattle.tables.specs.Verdict.{at}
use Rattle.kernel_vector_transpose.specs.VectorTranspose.{sub_mat_transpose_plus_vec}
use Rattle.machine.specs.Machine.{Column}
use Rattle.block_product.specs.Working.{slot}
use Rattle.block_product.proofs.SlotLaws.{slot-length, slot-other, within-length}
use Rattle.layout.specs.Layout.{Tables, side, start_of, stop_of, RowsLaid}
use Rattle.solution.specs.Solution.{Vector, put, through, backward_row, backward_column, backward_turn, backward}
use Rattle.solution.specs.Flat.{HoldsRows, BlocksLaid, ShowsVector}
use Rattle.solution.proofs.RowLaws.{through-none, through-more, lost-transpose-length}
use Rattle.solution.proofs.VectorLaws.{block_inside, shows-within, own_block, other_block, same_block, written-again}
use Rattle.sweep.specs.Sweep.{Touches, rows_done, column_done, turns_done}
use Rattle.sweep.proofs.SweepLaws.{rewritten}
use Rattle.backward.specs.Backward.{Backwards, backward_pass}

module _ (t : Tables) (starts : List ℕ) (l_values : List Float) where
  abbrev n : ℕ
  n = length t.sizes

  -- y' shows the vector after column j
  abbrev ColumnDone : ℕ → (y y' : List Float) → Type 0
  ColumnDone j y y' = (col : ℕ → Column) → HoldsRows t l_values n col → (x : Vector) → ShowsVector t.sizes starts y x → ShowsVector t.sizes starts y' (backward_column (side t) col j x)

  -- ---- the rows of column j

  module _ (j : ℕ) (y₀ : List Float) where
    -- block j with the rows before place u done
    abbrev after : (ℕ → Column) → Vector → ℕ → List Float
    after col x u = through (backward_row (side t) col x j) (slot (start_of t j) (u - start_of t j) t.l_rows) (x j)

    -- y shows the vector with it
    abbrev UpTo : List Float → ℕ → Type 0
    UpTo y u = (col : ℕ → Column) → HoldsRows t l_values n col → (x : Vector) → ShowsVector t.sizes starts y₀ x → ShowsVector t.sizes starts y (put j (after col x u) x)

    up_none : UpTo y₀ (start_of t j)
    up_none col held x shown k h =
        shown k h ∙ sym (same_block j k x) ∙ ap (λ (z : List Float). put j z x k) (sym (through-none (backward_row (side t) col x j) t.l_rows (start_of t j) (x j)))

    up_more : {v c : ℕ} (y y' : List Float) (u : ℕ) → RowsLaid t n v c → BlocksLaid t.sizes starts (length y) → j < n → start_of t j ≤ u → u < stop_of t j
        → y' ≡ within (at starts j) (side t j) (λ z. sub_mat_transpose_plus_vec (side t (at t.l_rows u)) (side t j) z (slot (at t.l_offsets u) (side t (at t.l_rows u) * side t j) l_values) (slot (at starts (at t.l_rows u)) (side t (at t.l_rows u)) y)) y
        → UpTo y u → UpTo y' (u + 1)
    up_more y y' u rows laid h lo hi e up col held x shown k hk =
        let i = at t.l_rows u in
        let r = rows.row j u h lo hi in
        let now = up col held x shown in
        let was = after col x u in
        let body = slot (at t.l_offsets u) (side t i * side t j) l_values in
        let f : List Float → List Float = λ z. sub_mat_transpose_plus_vec (side t i) (side t j) z body (slot (at starts i) (side t i) y) in
        let same : f (put j was x j) ≡ backward_row (side t) col x j i was =
        ap f (own_block j was x)
        ∙ ap (λ (b : List Float). sub_mat_transpose_plus_vec (side t i) (side t j) was b (slot (at starts i) (side t i) y)) (held.bodies j u h lo hi)
        ∙ ap (sub_mat_transpose_plus_vec (side t i) (side t j) was ((col j).body i)) (now i r.1 ∙ other_block j i was x (λ q. absurd (omega arith))) in
        let keeps = lost-transpose-length (side t i) (side t j) (slot (at starts j) (side t j) y) body (slot (at starts i) (side t i) y) ∙ slot-length y (at starts j) (side t j) (block_inside laid j h) in
        ap (slot (at starts k) (side t k)) e
        ∙ shows-within y laid j f (put j was x) (backward_row (side t) col x j i was) h keeps same now k hk
        ∙ written-again j k (backward_row (side t) col x j i was) was x
        ∙ ap (λ (z : List Float). put j z x k) (sym (through-more (backward_row (side t) col x j) t.l_rows (start_of t j) u (x j) lo (omega (arith, rows.column j h))))

    module _ {v c : ℕ} (rows : RowsLaid t n v c) (laid : BlocksLaid t.sizes starts (length y₀)) (h : j < n) where
      abbrev done : ℕ → List Float
      done m = rows_done backward_pass t starts l_values j m y₀

      rows-up : (m : ℕ) → m ≤ stop_of t j - start_of t j → (length (done m) ≡ length y₀) × UpTo (done m) (start_of t j + m)
      unfolding steps
      rows-up zero le = let e : start_of t j ≡ start_of t j + 0 = omega arith in (refl, subst (UpTo y₀) e up_none)
      rows-up (suc m) le =
          let r = rows-up m (omega arith) in
          let u = start_of t j + m in
          let still : BlocksLaid t.sizes starts (length (done m)) = subst (BlocksLaid t.sizes starts) (sym r.0) laid in
          let e : u + 1 ≡ start_of t j + suc m = omega arith in
          let i = at t.l_rows u in
          let f : List Float → List Float = λ z. sub_mat_transpose_plus_vec (side t i) (side t j) z (slot (at t.l_offsets u) (side t i * side t j) l_values) (slot (at starts i) (side t i) (done m)) in
          let keeps : length (f (slot (at starts j) (side t j) (done m))) ≡ side t j =
          lost-transpose-length (side t i) (side t j) (slot (at starts j) (side t j) (done m)) (slot (at t.l_offsets u) (side t i * side t j) l_values) (slot (at starts i) (side t i) (done m))
          ∙ slot-length (done m) (at starts j) (side t j) (block_inside still j h) in
          (within-length (at starts j) (side t j) f (done m) (block_inside still j h) keeps ∙ r.0, subst (UpTo (done (suc m))) e (up_more (done m) (done (suc m)) u rows still h (omega arith) (omega arith) refl r.1))

      column-up : (length (column_done backward_pass t starts l_values j y₀) ≡ length y₀) × ColumnDone j y₀ (column_done backward_pass t starts l_values j y₀)
      column-up =
          let r = rows-up (stop_of t j - start_of t j) (omega arith) in
          let e : start_of t j + (stop_of t j - start_of t j) ≡ stop_of t j = omega (arith, rows.column j h) in (
            r.0,
            λ col held x shown.
                let f = ap (λ (m : ℕ). slot (start_of t j) (m - start_of t j) t.l_rows) e ∙ sym (held.rows j h) in
                subst (λ (l : List ℕ). ShowsVector t.sizes starts (column_done backward_pass t starts l_values j y₀) (put j (through (backward_row (side t) col x j) l (x j)) x)) f (r.1 col held x shown),
          )

  -- ---- the columns

  -- the last `did` of m columns are done
  abbrev Turned : (m did : ℕ) → (y y' : List Float) → Type 0
  Turned m did y y' =
      (col : ℕ → Column) → HoldsRows t l_values n col → (x : Vector) → ShowsVector t.sizes starts y x → ShowsVector t.sizes starts y' (steps (backward_turn (side t) col m) did x)

  columns_none : (m : ℕ) (y : List Float) → Turned m 0 y y
  columns_none m y col held x shown = subst (ShowsVector t.sizes starts y) (steps-none (backward_turn (side t) col m) x x refl) shown

  columns_more : (m did : ℕ) (y y' y'' : List Float) → Turned m did y y' → ColumnDone (m - 1 - did) y' y'' → Turned m (did + 1) y y''
  columns_more m did y y' y'' before one col held x shown =
      subst (ShowsVector t.sizes starts y'') (steps-more (backward_turn (side t) col m) did x (steps (backward_turn (side t) col m) did x) refl)
      (one col held (steps (backward_turn (side t) col m) did x) (before col held x shown))

  module _ {v c : ℕ} (rows : RowsLaid t n v c) (y : List Float) (laid : BlocksLaid t.sizes starts (length y)) where
    turns-up : (m : ℕ) → m ≤ n → (length (turns_done backward_pass t starts l_values m y) ≡ length y) × Turned n m y (turns_done backward_pass t starts l_values m y)
    unfolding steps
    turns-up zero le = (refl, columns_none n y)
    turns-up (suc m) le =
        let r = turns-up m (omega arith) in
        let y' = turns_done backward_pass t starts l_values m y in
        let one = column-up (n - 1 - m) y' rows (subst (BlocksLaid t.sizes starts) (sym r.0) laid) (omega arith) in
        let e : m + 1 ≡ suc m = omega arith in
        (one.0 ∙ r.0, subst (λ (k : ℕ). Turned n k y (turns_done backward_pass t starts l_values (suc m) y)) e (columns_more n m y y' _ r.1 one.1))

    pub columns-up : Backwards t starts l_values n y (turns_done backward_pass t starts l_values n y)
    unfolding backward
    columns-up = (turns-up n (omega arith)).1

-- the column's part loses Aᵀ times a row's, which stays
pub row_touches : (h w : ℕ) (a x y x' : List Float) → length x' ≡ w → x' ≡ sub_mat_transpose_plus_vec h w x a y → Touches backward_pass h w a x y x' y
row_touches h w a x y x' size e s t z fits block sx sy =
    ap (λ (l : List Float). take s z ++ (l ++ drop w (drop s z)))
    (ap (λ (l : List Float). sub_mat_transpose_plus_vec h w l a (slot t h z)) sx ∙ ap (sub_mat_transpose_plus_vec h w x a) sy ∙ sym e)
    ∙ sym (ap (λ (l : List Float). within t h (λ _. l) (within s w (λ _. x') z)) (sym (slot-other s w (λ _. x') z (omega (arith, fits, block)) size t h (inr fits) ∙ sy))
    ∙ rewritten t h (within s w (λ _. x') z))
