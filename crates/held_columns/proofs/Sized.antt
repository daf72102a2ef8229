-- Every body, unit factor and d of the machine's columns has as many numbers as the dimensions say.
--     block-sized   of a block that is decomposed
--     run_sized     of the columns of an accepted run
-- Assumes nothing.
use Prim.Native.Nat.{ℕ, zero, suc, ◌*◌, ◌≤◌, ◌<◌}
use mathlib.Core.Bool.{Bool, true, false, cond}
use mathlib.Core.List.{List, [], ◌∷◌, ◌++◌, map}
use mathlib.Core.Option.{some}
use mathlib.Core.Path.{◌≡◌, refl, sym, ap, subst, ◌∙◌}
use native.Mathlib.Omega.{arith}
use native.Mathlib.Decide.{dec_lt}
use borrow.Author.Tests.{eqb-true}
use lib.Dec.{ltb, eqb}
use lib.Ieee.{Float}
use lib.ListN.{length, get_or, length-set, length-append, get_or-append}
use Rattle.scalar.specs.Loop.{steps}
use Rattle.scalar.specs.Block.{put, nans}
use Rattle.scalar.specs.Scalar.{one, is_finite}
use Rattle.graph.specs.Sets.{elem, filter, gather}
use Rattle.graph.specs.Count.{Triple, triple}
use Rattle.graph.proofs.OrderLaws.{moved-permutes}
use Rattle.tables.specs.Sound.{SystemSound}
use Rattle.kernel_product.specs.Product.{sub_mat_diag_mat_t}
use Rattle.kernel_right.specs.Right.{lower_right_solve}
use Rattle.kernel_right_transpose.specs.RightTranspose.{lower_transpose_rightsolve}
use Rattle.kernel_diag_right.specs.DiagRight.{diag_right_matsolve}
use Rattle.dense_solve_right.specs.SolveRight.{ldlt_right_matsolve}
use Rattle.dense_rows.specs.Row as row
use Rattle.dense_rows.specs.Row.{pivot_of, divided_row, clear_upper}
use Rattle.dense_pivots.specs.Pivots.{row_tolerance, result_of}
use Rattle.dense_pivots.specs.declared.LdltResult.{LdltResult}
use Rattle.dense_ldlt.specs.Ldlt as dense
use Rattle.dense_ldlt.specs.Ldlt.{ldlt, ldlt_row}
use Rattle.block_diag_ldlt.specs.Block as block
use Rattle.block_diag_ldlt.specs.Block.{is_poor, block_ldlt}
use Rattle.std.specs.Prelude.{Result, Ok, Err}
use Rattle.block_diag_ldlt.specs.declared.cores.BlockError.{BlockError}
use Rattle.block_diag_ldlt.specs.declared.cores.BlockError.TheVariants.{NotFinite, Poor}
use Rattle.refusal.specs.Refusal.{Told}
use Rattle.order.specs.Order.{sizes_of}
use Rattle.scalars.specs.Bodies.{offsets}
use Rattle.load_column.specs.Load.{Source, Fed}
use Rattle.load_column.proofs.MeaningLaws.{block-length, block-is}
use Rattle.block_product.proofs.WorkingLaws.{steps-length, sub-length}
use Rattle.machine.specs.System.{System, blocks, order, dim}
use Rattle.machine.specs.Machine.{Column, State, no_column, column_at, rows_at, reduced, body_or, load, product, products, reached, sequence_by, sequence, worked, Made, made, refused, solved, settled_by, finish, going, stored, run_to, run, start}
use Rattle.machine.proofs.StepLaws.{products-finished, stored-going}
use Rattle.machine.proofs.RunLaws.{going_before}

-- ---- the kernels keep the length of what they write

right-length : (m n : ℕ) (l d x : List Float) → length (ldlt_right_matsolve m n l d x) ≡ length x
unfolding ldlt_right_matsolve lower_right_solve diag_right_matsolve lower_transpose_rightsolve
right-length m n l d x =
    steps-length _ (λ r. steps-length _ (λ u x. length-set x _ _) n) m _
    ∙ (steps-length _ (λ j. steps-length _ (λ r x. length-set x _ _) m) n _
    ∙ steps-length _ (λ r. steps-length _ (λ j x. length-set x _ _) n) m x)

-- ---- the block that is decomposed: its factor, and a pivot for each row

-- after j rows
abbrev RowsSized : (size j : ℕ) → dense.Run → Type 0
RowsSized size j (dense.going a d) = (length a ≡ size) × (length d ≡ j)
RowsSized size j (dense.stopped i x) = Unit {0}

row_sized : (n : ℕ) (tol : Float) (size j : ℕ) (r : dense.Run) → RowsSized size j r → RowsSized size (suc j) (ldlt_row n tol j r)
unfolding ldlt_row
row_sized n tol size j (dense.stopped i x) h = tt
row_sized n tol size j (dense.going a d) h =
    let a' = divided_row n j (row_tolerance tol d j) d a in
    let long : length a' ≡ size = steps-length _ (λ k a. length-set a _ _) j a ∙ h.0 in
    go a' long (pivot_of n j a' d) (is_finite (pivot_of n j a' d))
  where
    go : (a' : List Float) → length a' ≡ size → (x : Float) (finite : Bool)
        → RowsSized size (suc j) (cond finite (dense.going (put a' n j j one) (d ++ (row.stored (row_tolerance tol d j) x ∷ []))) (dense.stopped j x))
    go a' long x true = (length-set a' _ _ ∙ long, length-append d _ ∙ omega (arith, h.1))
    go a' long x false = tt

rows-sized : (n : ℕ) (tol : Float) (a : List Float) (j : ℕ) → RowsSized (length a) j (steps (ldlt_row n tol) j (dense.going a []))
unfolding steps
rows-sized n tol a zero = (refl, refl)
rows-sized n tol a (suc j) = row_sized n tol (length a) j _ (rows-sized n tol a j)

pub block-sized : (n : ℕ) (tol : Float) (a : List Float) (r : LdltResult) (unit d : List Float) → ◌≡◌ {A = Result LdltResult BlockError × List Float × List Float} (block_ldlt n tol a) (Ok r, unit, d) → (length unit ≡ length a) × (length d ≡ n)
unfolding block_ldlt ldlt clear_upper
block-sized n tol a r unit d e = go (steps (ldlt_row n tol) n (dense.going a [])) (rows-sized n tol a n) e
  where
    -- a refusal is not accepted
    accepts : Result LdltResult BlockError → ℕ
    accepts (Ok k) = 1
    accepts (Err e) = 0

    other : (x : Result LdltResult BlockError) → accepts x ≡ 0 → x ≡ Ok r → ⊥
    other x z q = let o : ◌≡◌ {A = ℕ} 0 1 = sym z ∙ ap accepts q in omega arith

    parts : (k : LdltResult) (l p : List Float) → ◌≡◌ {A = Result LdltResult BlockError × List Float × List Float} (Ok k, l, p) (Ok r, unit, d) → length l ≡ length a → length p ≡ n → (length unit ≡ length a) × (length d ≡ n)
    parts k l p q hl hp = (ap length (ap (λ (t : Result LdltResult BlockError × List Float × List Float). t.1) (sym q)) ∙ hl, ap length (ap (λ (t : Result LdltResult BlockError × List Float × List Float). t.2) (sym q)) ∙ hp)

    go : (run : dense.Run) → RowsSized (length a) n run → ◌≡◌ {A = Result LdltResult BlockError × List Float × List Float} (block.settle n (dense.finish n tol run)) (Ok r, unit, d) → (length unit ≡ length a) × (length d ≡ n)
    go (dense.stopped j x) h q = absurd (other _ refl (ap (λ (t : Result LdltResult BlockError × List Float × List Float). t.0) q))
    go (dense.going l p) h q = poor (result_of tol p n) (is_poor (result_of tol p n)) q
      where
        poor : (k : LdltResult) (b : Bool) → ◌≡◌ {A = Result LdltResult BlockError × List Float × List Float} (cond b (Err (Poor k.pivot_condition), nans (n * n), nans n) (Ok k, clear_upper n l, p)) (Ok r, unit, d) → (length unit ≡ length a) × (length d ≡ n)
        poor k true q = absurd (other _ refl (ap (λ (t : Result LdltResult BlockError × List Float × List Float). t.0) q))
        poor k false q = parts k (clear_upper n l) p q (steps-length _ (λ r. steps-length _ (λ u a. length-set a _ _) _) n l ∙ h.0) h.1

-- ---- the column being worked

module _ (a : System) (j : ℕ) where
  -- each row from the diagonal on, touched or not
  abbrev WorkSized : State → Type 0
  WorkSized s = (i : ℕ) → j ≤ i → i < blocks a → length (body_or (dim a i * dim a j) (s.work i)) ≡ dim a i * dim a j

  product-sized : (i k : ℕ) (s : State) → WorkSized s → WorkSized (product (dim a) i j k s)
  unfolding product
  product-sized i k s h r lo hi = go (eqb r i) refl
    where
      new : List Float
      new = reduced (dim a) (column_at s k) i j k (body_or (dim a i * dim a j) (s.work i))

      go : (b : Bool) → eqb r i ≡ b → length (body_or (dim a r * dim a j) (cond b (some new) (s.work r))) ≡ dim a r * dim a j
      go true e =
          let same = eqb-true r i e in
          sub-length (dim a i) (dim a j) (dim a k) (body_or (dim a i * dim a j) (s.work i)) _ _ _
          ∙ (ap (λ (m : ℕ). length (body_or (dim a m * dim a j) (s.work m))) (sym same) ∙ h r lo hi)
      go false e = h r lo hi

  -- products of this column
  abbrev Mine : List Triple → Type 0
  Mine [] = Unit {0}
  Mine (t ∷ ts) = (t.j ≡ j) × Mine ts

  mine-append : (ts us : List Triple) → Mine ts → Mine us → Mine (ts ++ us)
  mine-append [] us h g = g
  mine-append (t ∷ ts) us h g = (h.0, mine-append ts us h.1 g)

  mine-map : (k : ℕ) (l : List ℕ) → Mine (map (triple j k) l)
  mine-map k [] = tt
  mine-map k (i ∷ l) = (refl, mine-map k l)

  mine-gather : (s : State) (ks : List ℕ) → Mine (gather (sequence_by j s) ks)
  mine-gather s [] = tt
  mine-gather s (k ∷ ks) = mine-append (sequence_by j s k) (gather (sequence_by j s) ks) (mine-map k (j ∷ filter (λ i. ltb j i) (rows_at s k))) (mine-gather s ks)

  products-sized : (ts : List Triple) (s : State) → Mine ts → WorkSized s → WorkSized (products (dim a) ts s)
  unfolding products
  products-sized [] s m h = h
  products-sized (t ∷ ts) s m h =
      products-sized ts (product (dim a) t.i t.j t.k s) m.1
      (subst (λ (c : ℕ). WorkSized (product (dim a) t.i c t.k s)) (sym m.0) (product-sized t.i t.k s h))

  -- ---- and as it is finished

  pub record ColumnSized (c : Column) : Type 0 where
    pub of_unit : length c.unit ≡ dim a j * dim a j
    pub of_d : length c.d ≡ dim a j
    pub of_body : (i : ℕ) → j < i → i < blocks a → length (c.body i) ≡ dim a i * dim a j

  finish-sized : (s : State) (c : Column) → j < blocks a → WorkSized s → finish a j s ≡ made c → ColumnSized c
  unfolding finish settled_by
  finish-sized s c below h e = go (block_ldlt (dim a j) a.tol (body_or (dim a j * dim a j) (s.work j))) refl e
    where
      never : {A : Type 0} (m : Made) → m ≡ made c → (t : Told) → m ≡ refused t → A
      never m p t q = absurd (let z : ◌≡◌ {A = ℕ} 0 1 = cc in omega arith)

      out : (b : Column) → made b ≡ made c → b ≡ c
      out b p = cc

      go : (r : Result LdltResult BlockError × List Float × List Float) → block_ldlt (dim a j) a.tol (body_or (dim a j * dim a j) (s.work j)) ≡ r → settled_by a j s r ≡ made c → ColumnSized c
      go (Ok r, unit, d) is p =
          let z = block-sized (dim a j) a.tol _ r unit d is in
          subst ColumnSized (out (solved a j s unit d) p)
          (record {
            of_unit = z.0 ∙ h j (omega arith) below;
            of_d = z.1;
            of_body = λ i lo hi. right-length (dim a i) (dim a j) unit d _ ∙ h i (omega arith) hi;
          })
      go (Err (NotFinite place pivot), unit, d) is p = never (refused _) p _ refl
      go (Err (Poor condition), unit, d) is p = never (refused _) p _ refl

-- ---- the run

-- the entry behind a list
behind : (l : List Column) (c : Column) → get_or (l ++ (c ∷ [])) (length l) no_column ≡ c
behind [] c = refl
behind (x ∷ l) c = behind l c

module _ (a : System) (sound : SystemSound a.dims a.starts a.rows a.values a.perm a.late a.tol) where
  source : Source a.dims a.starts a.rows a.values (offsets a.dims a.starts a.rows) (order a) (sizes_of a.dims (order a))
  source =
      record {
        few = sound.plan.blocks;
        stored = sound.plan.stored;
        dimensions = sound.plan.sizes;
        columns = sound.plan.columns;
        counted = sound.counted;
        permutes = moved-permutes a.perm a.late (blocks a) sound.plan.permutes;
        by_bodies = refl;
        by_sizes = refl;
      }

  fed : Fed a a.dims a.starts a.rows a.values (order a)
  fed = record { by_dims = refl; by_starts = refl; by_rows = refl; by_values = refl; by_order = refl }

  load_sized : (j : ℕ) → j < blocks a → (s : State) → WorkSized a j (load a j s)
  unfolding load
  load_sized j h s i lo hi = sym (ap length (block-is source i j hi h lo a fed)) ∙ block-length source i j hi h

  -- the columns finished so far
  abbrev AllSized : State → Type 0
  AllSized s = (k : ℕ) → k < length s.finished → ColumnSized a k (column_at s k)

  column-sized : (j : ℕ) → j < blocks a → (s s' : State) → length s.finished ≡ j → AllSized s → stored (worked a j s) (finish a j (worked a j s)) ≡ going s' → AllSized s' × (length s'.finished ≡ suc j)
  unfolding sequence load
  column-sized j h s s' count all e =
      let r = stored-going (worked a j s) s' (finish a j (worked a j s)) e in
      let c = r.0 in
      let before : (worked a j s).finished ≡ s.finished = products-finished (dim a) (sequence a j s) (load a j s) in
      let new : ColumnSized a j c = finish-sized a j (worked a j s) c h (products-sized a j (sequence a j s) (load a j s) (mine-gather a j s (filter (λ k. elem j (rows_at s k)) (reached a j s))) (load_sized j h s)) r.1 in
      let list : s'.finished ≡ s.finished ++ (c ∷ []) = ap (λ (t : State). t.finished) r.2 ∙ ap (λ (l : List Column). l ++ (c ∷ [])) before in
      let long : length s'.finished ≡ suc j = ap length list ∙ (length-append s.finished (c ∷ []) ∙ omega (arith, count)) in
      (λ k l. subst (ColumnSized a k) (sym (ap (λ (f : List Column). get_or f k no_column) list)) (at-column c new k (omega (arith, long)) (dec_lt k j)), long)
    where
      at-column : (c : Column) → ColumnSized a j c → (k : ℕ) → k < suc j → Dec (k < j) → ColumnSized a k (get_or (s.finished ++ (c ∷ [])) k no_column)
      at-column c new k l (yes q) = subst (ColumnSized a k) (sym (get_or-append s.finished (c ∷ []) no_column k (omega (arith, count)))) (all k (omega (arith, count)))
      at-column c new k l (no q) =
          let last : k ≡ length s.finished = omega (arith, count) in
          let mine : k ≡ j = omega arith in
          subst (ColumnSized a k) (sym (ap (λ (m : ℕ). get_or (s.finished ++ (c ∷ [])) m no_column) last ∙ behind s.finished c)) (subst (λ (m : ℕ). ColumnSized a m c) (sym mine) new)

  so_far : (j : ℕ) → j ≤ blocks a → (s : State) → run_to a j ≡ going s → AllSized s × (length s.finished ≡ j)
  unfolding run_to steps
  so_far zero h s e = let z : start ≡ s = first s e in let n = ap (λ (t : State). length t.finished) z in (λ k l. absurd (omega arith), sym n)
    where
      first : (s : State) → going start ≡ going s → start ≡ s
      first s e = cc
  so_far (suc j) h s e =
      let b = going_before a j s e in
      let q = so_far j (omega arith) b.0 b.1 in
      column-sized j (omega arith) b.0 s q.1 q.0 b.2

  -- the columns of an accepted run
  pub run_sized : (s : State) → run a ≡ going s → (k : ℕ) → k < blocks a → ColumnSized a k (column_at s k)
  run_sized s e k h = let r : AllSized s × (length s.finished ≡ blocks a) = so_far (blocks a) (omega arith) s e in r.0 k (omega (arith, r.1))
