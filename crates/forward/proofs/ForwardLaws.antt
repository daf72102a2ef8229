-- The sweep of the forward part does what the solve means: `rows-up` over the rows of a column, `columns-up` over the columns. Assumes nothing.
use Rattle.std.specs.Prelude.{◌≡◌, ℕ, zero, suc, ◌+◌, ◌-◌, ◌*◌, ◌<◌, ◌≤◌, List, ◌++◌, length, take, drop}
use mathlib.Core.Path.{refl, sym, ap, subst, ◌∙◌}
use native.Mathlib.Omega.{arith}
use lib.Ieee.{Float}
use Rattle.scalar.specs.Loop.{steps}
use Rattle.scalar.specs.Block.{within}
use Rattle.scalar.proofs.Laws.{steps-none, steps-more}
use Rattle.tables.specs.Verdict.{at}
use Rattle.kernel_vector.specs.Vector.{sub_mat_plus_vec}
use Rattle.machine.specs.Machine.{Column}
use Rattle.block_product.specs.Working.{slot}
use Rattle.block_product.proofs.SlotLaws.{slot-length, within-length}
use Rattle.layout.specs.Layout.{Tables, side, start_of, stop_of, RowsLaid}
use Rattle.solution.specs.Solution.{Vector, through, forward_row, forward_column, forward}
use Rattle.solution.specs.Flat.{HoldsRows, BlocksLaid, ShowsVector}
use Rattle.solution.proofs.RowLaws.{through-none, through-more, lost-length}
use Rattle.solution.proofs.VectorLaws.{block_inside, shows-within}
use Rattle.sweep.specs.Sweep.{Touches, rows_done, column_done, turns_done}
use Rattle.sweep.proofs.SweepLaws.{rewritten}
use Rattle.forward.specs.Forward.{Forwards, forward_pass}

module _ (t : Tables) (starts : List ℕ) (l_values : List Float) where
  abbrev n : ℕ
  n = length t.sizes

  -- y' shows the vector after column j
  abbrev ColumnDone : ℕ → (y y' : List Float) → Type 0
  ColumnDone j y y' = (col : ℕ → Column) → HoldsRows t l_values n col → (x : Vector) → ShowsVector t.sizes starts y x → ShowsVector t.sizes starts y' (forward_column (side t) col j x)

  -- ---- the rows of column j

  module _ (j : ℕ) (y₀ : List Float) where
    -- the vector with the rows before place u done
    abbrev after : (ℕ → Column) → Vector → ℕ → Vector
    after col x u = through (forward_row (side t) col j) (slot (start_of t j) (u - start_of t j) t.l_rows) x

    -- y shows it
    abbrev UpTo : List Float → ℕ → Type 0
    UpTo y u = (col : ℕ → Column) → HoldsRows t l_values n col → (x : Vector) → ShowsVector t.sizes starts y₀ x → ShowsVector t.sizes starts y (after col x u)

    up_none : UpTo y₀ (start_of t j)
    up_none col held x shown = subst (ShowsVector t.sizes starts y₀) (sym (through-none (forward_row (side t) col j) t.l_rows (start_of t j) x)) shown

    up_more : {v c : ℕ} (y y' : List Float) (u : ℕ) → RowsLaid t n v c → BlocksLaid t.sizes starts (length y) → j < n → start_of t j ≤ u → u < stop_of t j
        → y' ≡ within (at starts (at t.l_rows u)) (side t (at t.l_rows u)) (λ z. sub_mat_plus_vec (side t (at t.l_rows u)) (side t j) z (slot (at t.l_offsets u) (side t (at t.l_rows u) * side t j) l_values) (slot (at starts j) (side t j) y)) y
        → UpTo y u → UpTo y' (u + 1)
    up_more y y' u rows laid h lo hi e up col held x shown =
        let i = at t.l_rows u in
        let r = rows.row j u h lo hi in
        let now = up col held x shown in
        let was = after col x u in
        let body = slot (at t.l_offsets u) (side t i * side t j) l_values in
        let f : List Float → List Float = λ z. sub_mat_plus_vec (side t i) (side t j) z body (slot (at starts j) (side t j) y) in
        let same : f (was i) ≡ sub_mat_plus_vec (side t i) (side t j) (was i) ((col j).body i) (was j) =
        ap (λ (b : List Float). sub_mat_plus_vec (side t i) (side t j) (was i) b (slot (at starts j) (side t j) y)) (held.bodies j u h lo hi)
        ∙ ap (sub_mat_plus_vec (side t i) (side t j) (was i) ((col j).body i)) (now j h) in
        let keeps = lost-length (side t i) (side t j) (slot (at starts i) (side t i) y) body (slot (at starts j) (side t j) y) ∙ slot-length y (at starts i) (side t i) (block_inside laid i r.1) in
        subst (ShowsVector t.sizes starts y') (sym (through-more (forward_row (side t) col j) t.l_rows (start_of t j) u x lo (omega (arith, rows.column j h))))
        (subst (λ (l : List Float). ShowsVector t.sizes starts l (forward_row (side t) col j i was)) (sym e)
        (shows-within y laid i f was (sub_mat_plus_vec (side t i) (side t j) (was i) ((col j).body i) (was j)) r.1 keeps same now))

    module _ {v c : ℕ} (rows : RowsLaid t n v c) (laid : BlocksLaid t.sizes starts (length y₀)) (h : j < n) where
      abbrev done : ℕ → List Float
      done m = rows_done forward_pass t starts l_values j m y₀

      rows-up : (m : ℕ) → m ≤ stop_of t j - start_of t j → (length (done m) ≡ length y₀) × UpTo (done m) (start_of t j + m)
      unfolding steps
      rows-up zero le = let e : start_of t j ≡ start_of t j + 0 = omega arith in (refl, subst (UpTo y₀) e up_none)
      rows-up (suc m) le =
          let r = rows-up m (omega arith) in
          let u = start_of t j + m in
          let i = at t.l_rows u in
          let still : BlocksLaid t.sizes starts (length (done m)) = subst (BlocksLaid t.sizes starts) (sym r.0) laid in
          let e : u + 1 ≡ start_of t j + suc m = omega arith in
          let in' = rows.row j u h (omega arith) (omega arith) in
          let f : List Float → List Float = λ z. sub_mat_plus_vec (side t i) (side t j) z (slot (at t.l_offsets u) (side t i * side t j) l_values) (slot (at starts j) (side t j) (done m)) in
          let keeps : length (f (slot (at starts i) (side t i) (done m))) ≡ side t i =
          lost-length (side t i) (side t j) (slot (at starts i) (side t i) (done m)) (slot (at t.l_offsets u) (side t i * side t j) l_values) (slot (at starts j) (side t j) (done m))
          ∙ slot-length (done m) (at starts i) (side t i) (block_inside still i in'.1) in
          (within-length (at starts i) (side t i) f (done m) (block_inside still i in'.1) keeps ∙ r.0, subst (UpTo (done (suc m))) e (up_more (done m) (done (suc m)) u rows still h (omega arith) (omega arith) refl r.1))

      column-up : (length (column_done forward_pass t starts l_values j y₀) ≡ length y₀) × ColumnDone j y₀ (column_done forward_pass t starts l_values j y₀)
      column-up =
          let r = rows-up (stop_of t j - start_of t j) (omega arith) in
          let e : start_of t j + (stop_of t j - start_of t j) ≡ stop_of t j = omega (arith, rows.column j h) in (
            r.0,
            λ col held x shown.
                let f = ap (λ (m : ℕ). slot (start_of t j) (m - start_of t j) t.l_rows) e ∙ sym (held.rows j h) in
                subst (λ (l : List ℕ). ShowsVector t.sizes starts (column_done forward_pass t starts l_values j y₀) (through (forward_row (side t) col j) l x)) f (r.1 col held x shown),
          )

  -- ---- the columns

  columns_none : (y : List Float) → Forwards t starts l_values 0 y y
  unfolding forward
  columns_none y col held x shown = subst (ShowsVector t.sizes starts y) (steps-none (forward_column (side t) col) x x refl) shown

  columns_more : (j : ℕ) (y y' y'' : List Float) → Forwards t starts l_values j y y' → ColumnDone j y' y'' → Forwards t starts l_values (j + 1) y y''
  unfolding forward
  columns_more j y y' y'' before one col held x shown =
      subst (ShowsVector t.sizes starts y'') (steps-more (forward_column (side t) col) j x (steps (forward_column (side t) col) j x) refl)
      (one col held (steps (forward_column (side t) col) j x) (before col held x shown))

  module _ {v c : ℕ} (rows : RowsLaid t n v c) (y : List Float) (laid : BlocksLaid t.sizes starts (length y)) where
    pub columns-up : (m : ℕ) → m ≤ n → (length (turns_done forward_pass t starts l_values m y) ≡ length y) × Forwards t starts l_values m y (turns_done forward_pass t starts l_values m y)
    unfolding steps
    columns-up zero le = (refl, columns_none y)
    columns-up (suc m) le =
        let r = columns-up m (omega arith) in
        let y' = turns_done forward_pass t starts l_values m y in
        let one = column-up m y' rows (subst (BlocksLaid t.sizes starts) (sym r.0) laid) (omega arith) in
        let e : m + 1 ≡ suc m = omega arith in
        (one.0 ∙ r.0, subst (λ (k : ℕ). Forwards t starts l_values k y (turns_done forward_pass t starts l_values (suc m) y)) e (columns_more m y y' _ r.1 one.1))

-- a row's part loses A times the column's, which stays
pub row_touches : (h w : ℕ) (a x y y' : List Float) → y' ≡ sub_mat_plus_vec h w y a x → Touches forward_pass h w a x y x y'
row_touches h w a x y y' e s t z fits block sx sy =
    ap (λ (l : List Float). take t z ++ (l ++ drop h (drop t z))) (ap (λ (l : List Float). sub_mat_plus_vec h w l a (slot s w z)) sy ∙ ap (sub_mat_plus_vec h w y a) sx ∙ sym e)
    ∙ ap (within t h (λ _. y')) (sym (ap (λ (l : List Float). within s w (λ _. l) z) (sym sx) ∙ rewritten s w z))
