-- The law of locality: what becomes of column j depends on the dimensions, the tolerance, the loaded column and the columns that reach j alone.
--     locality   the law
-- Assumes nothing.
use Prim.Native.Nat.{ℕ, suc, ◌*◌, ◌≤◌, ◌<◌}
use mathlib.Core.Bool.{Bool, true, false, cond}
use mathlib.Core.List.{List, [], ◌∷◌, ◌++◌, map}
use mathlib.Core.Logic.{⊎_elim}
use mathlib.Core.Option.{Option, some}
use mathlib.Core.Path.{◌≡◌, refl, sym, ap, ap₂, subst, ◌∙◌}
use native.Mathlib.Omega.{arith}
use lib.Dec.{T, eqb, ltb, eqb→eq}
use lib.Ieee.{Float}
use lib.ListN.{get_or}
use Rattle.graph.specs.Sets.{elem, filter, between, gather}
use Rattle.graph.specs.Symbolic.{reach, first}
use Rattle.graph.specs.Count.{Triple, triple}
use Rattle.graph.proofs.SetLaws.{is_true, elem-head, elem-tail, elem-cases, filter-elim, between-elim, filter-ext}
use Rattle.block_diag_ldlt.specs.Block.{block_ldlt}
use Rattle.std.specs.Prelude.{Result, Ok, Err}
use Rattle.dense_pivots.specs.declared.LdltResult.{LdltResult}
use Rattle.block_diag_ldlt.specs.declared.cores.BlockError.{BlockError}
use Rattle.block_diag_ldlt.specs.declared.cores.BlockError.TheVariants.{NotFinite, Poor}
use Rattle.dense_solve_right.specs.SolveRight.{ldlt_right_matsolve}
use Rattle.kernel_product.specs.Product.{sub_mat_diag_mat_t}
use Rattle.machine.specs.System.{System, blocks, links, dim}
use Rattle.machine.specs.Machine.{Column, State, no_column, column_at, rows_at, parent_at, touched, body_or, load, scaled, reduced, mat_product, product, products, reached, sequence_by, sequence, worked, solved, settled_by, finish, made_of}
use Rattle.machine.specs.Claims.{Same, SameMade, Agree, Locality}
use Rattle.machine.proofs.ListLaws.{gather_ext}
use Rattle.machine.proofs.ReachLocal.{reach-local}

-- ---- a property of every triple of a list

module _ (P : Triple → Type 0) where
  abbrev Every : List Triple → Type 0
  Every [] = Unit
  Every (t ∷ ts) = P t × Every ts

  every_append : (l m : List Triple) → Every l → Every m → Every (l ++ m)
  every_append [] m e f = f
  every_append (t ∷ l) m e f = (e.0, every_append l m e.1 f)

  every_map : (j k : ℕ) (l : List ℕ) → ((i : ℕ) → T (elem i l) → P (triple j k i)) → Every (map (triple j k) l)
  every_map j k [] h = tt
  every_map j k (i ∷ l) h = (h i (elem-head i l), every_map j k l (λ x m. h x (elem-tail x i l m)))

  every-gather : (f : ℕ → List Triple) (l : List ℕ) → ((k : ℕ) → T (elem k l) → Every (f k)) → Every (gather f l)
  every-gather f [] h = tt
  every-gather f (k ∷ l) h = every_append (f k) (gather f l) (h k (elem-head k l)) (every-gather f l (λ x m. h x (elem-tail x k l m)))

-- ---- block products

module _ (dim : ℕ → ℕ) where
  -- a product does the same with the columns f and with the columns f'
  abbrev Alike : (f f' : List Column) → Triple → Type 0
  Alike f f' t = (y : List Float) → reduced dim (get_or f t.k no_column) t.i t.j t.k y ≡ reduced dim (get_or f' t.k no_column) t.i t.j t.k y

  -- with the same columns, products leave the same in row r where it held the same
  products-local : (ts : List Triple) (s s' : State) → Every (Alike s.finished s'.finished) ts → (r : ℕ) → s.work r ≡ s'.work r
      → (products dim ts s).work r ≡ (products dim ts s').work r
  unfolding products product
  products-local [] s s' e r w = w
  products-local (t ∷ ts) s s' e r w =
      products-local ts (product dim t.i t.j t.k s) (product dim t.i t.j t.k s') e.1 r (one (eqb r t.i) refl)
    where
      y : State → List Float
      y s = body_or (dim t.i * dim t.j) (s.work t.i)

      one : (b : Bool) → eqb r t.i ≡ b
          → cond b (some (reduced dim (column_at s t.k) t.i t.j t.k (y s))) (s.work r) ≡ cond b (some (reduced dim (column_at s' t.k) t.i t.j t.k (y s'))) (s'.work r)
      one true q =
          let here : s.work t.i ≡ s'.work t.i = subst (λ (x : ℕ). s.work x ≡ s'.work x) (eqb→eq r t.i (is_true q)) w in
          ap {B = Option (List Float)} some (e.0 (y s) ∙ ap (λ (o : Option (List Float)). reduced dim (column_at s' t.k) t.i t.j t.k (body_or (dim t.i * dim t.j) o)) here)
      one false q = w

  -- columns that hold the same do the same to the rows that they store
  same-reduced : (c c' : Column) → Same c c' → (i j k : ℕ) → T (elem i c.rows) → T (elem j c.rows) → (y : List Float) → reduced dim c i j k y ≡ reduced dim c' i j k y
  same-reduced c c' e i j k mi mj y =
      ap₂ {C = List Float} (λ b d. sub_mat_diag_mat_t (dim i) (dim j) (dim k) y (mat_product (dim i) (dim k) (dim k) b c.unit) d (scaled dim c j k)) (e.body i mi) e.d
      ∙ ap (λ (b : List Float). sub_mat_diag_mat_t (dim i) (dim j) (dim k) y (mat_product (dim i) (dim k) (dim k) (c'.body i) c.unit) c'.d (mat_product (dim j) (dim k) (dim k) b c.unit)) (e.body j mj)
      ∙ ap (λ (u : List Float). sub_mat_diag_mat_t (dim i) (dim j) (dim k) y (mat_product (dim i) (dim k) (dim k) (c'.body i) u) c'.d (mat_product (dim j) (dim k) (dim k) (c'.body j) u)) e.unit

-- ---- column j

module _ (j : ℕ) (a a' : System) (s s' : State) (lt : j < blocks a) (g : Agree j a s a' s') where
  same-dim : dim a ≡ dim a'
  same-dim = ap {B = ℕ → ℕ} (λ l p. get_or l p 0) g.given.sizes

  same-reached : reached a j s ≡ reached a' j s'
  same-reached =
      reach-local (links a) (links a') (blocks a) (parent_at s) (parent_at s') j g.given.linked (λ k m. ap first (g.reaching k m).rows)
      ∙ ap (λ (n : ℕ). reach (links a') n (parent_at s') j) g.given.count

  -- the columns that work on j
  abbrev by : List ℕ
  by = filter (λ k. elem j (rows_at s k)) (reached a j s)

  in-by : (k : ℕ) → T (elem k by) → Same (column_at s k) (column_at s' k) × T (elem j (rows_at s k))
  in-by k m = let f = filter-elim (λ k. elem j (rows_at s k)) k (reached a j s) m in (g.reaching k f.0, f.1)

  same-sequence : sequence a j s ≡ sequence a' j s'
  unfolding sequence
  same-sequence =
      gather_ext (sequence_by j s) (sequence_by j s') by (λ k m. ap (λ (l : List ℕ). map (triple j k) (j ∷ filter (λ i. ltb j i) l)) (in-by k m).0.rows)
      ∙ ap (gather (sequence_by j s')) (filter-ext (λ k. elem j (rows_at s k)) (λ k. elem j (rows_at s' k)) (reached a j s) (λ k m. ap (elem j) (g.reaching k m).rows))
      ∙ ap (λ (l : List ℕ). gather (sequence_by j s') (filter (λ k. elem j (rows_at s' k)) l)) same-reached

  all_alike : Every (Alike (dim a) s.finished s'.finished) (sequence a j s)
  unfolding sequence
  all_alike = every-gather (Alike (dim a) s.finished s'.finished) (sequence_by j s) by
      (λ k m.
      let e = in-by k m in
      every_map (Alike (dim a) s.finished s'.finished) j k (j ∷ filter (λ i. ltb j i) (rows_at s k))
      (λ i mi. same-reduced (dim a) (column_at s k) (column_at s' k) e.0 i j k
      (⊎_elim (λ q. subst (λ (x : ℕ). T (elem x (rows_at s k))) (sym q) e.1) (λ f. (filter-elim (λ i. ltb j i) i (rows_at s k) f).0) (elem-cases i j (filter (λ i. ltb j i) (rows_at s k)) mi))
      e.1))

  -- the worked column
  same-work : (i : ℕ) → j ≤ i → i < blocks a → (worked a j s).work i ≡ (worked a' j s').work i
  unfolding load
  same-work i le h =
      products-local (dim a) (sequence a j s) (load a j s) (load a' j s') all_alike i (g.given.loaded i le h)
      ∙ ap₂ {C = Option (List Float)} (λ d ts. (products d ts (load a' j s')).work i) same-dim same-sequence

  -- its diagonal block, decomposed
  same-factor : block_ldlt (dim a j) a.tol (body_or (dim a j * dim a j) ((worked a j s).work j)) ≡ block_ldlt (dim a' j) a'.tol (body_or (dim a' j * dim a' j) ((worked a' j s').work j))
  same-factor =
      ap (λ (w : Option (List Float)). block_ldlt (dim a j) a.tol (body_or (dim a j * dim a j) w)) (same-work j (omega arith) lt)
      ∙ ap₂ {C = Result LdltResult BlockError × List Float × List Float} (λ d t. block_ldlt (d j) t (body_or (d j * d j) ((worked a' j s').work j))) same-dim g.given.tol

  -- its rows, right-solved
  same-solved : (unit d : List Float) → Same (solved a j (worked a j s) unit d) (solved a' j (worked a' j s') unit d)
  same-solved unit d =
      let in_range : (i : ℕ) → T (elem i (between (suc j) (blocks a))) → (suc j ≤ i) × (i < blocks a) = λ i m. between-elim i (suc j) (blocks a) m in
      record {
        rows = filter-ext (λ i. touched ((worked a j s).work i)) (λ i. touched ((worked a' j s').work i)) (between (suc j) (blocks a))
            (λ i m. let b = in_range i m in ap touched (same-work i (omega arith) b.1))
            ∙ ap (λ (n : ℕ). filter (λ i. touched ((worked a' j s').work i)) (between (suc j) n)) g.given.count;
        body = λ i m.
            let b = in_range i (filter-elim (λ i. touched ((worked a j s).work i)) i (between (suc j) (blocks a)) m).0 in
            ap (λ (w : Option (List Float)). ldlt_right_matsolve (dim a i) (dim a j) unit d (body_or (dim a i * dim a j) w)) (same-work i (omega arith) b.1)
            ∙ ap (λ (z : ℕ → ℕ). ldlt_right_matsolve (z i) (z j) unit d (body_or (z i * z j) ((worked a' j s').work i))) same-dim;
        unit = refl;
        d = refl;
      }

  same-made : SameMade (made_of a j s) (made_of a' j s')
  unfolding finish settled_by
  same-made =
      subst (λ (r : Result LdltResult BlockError × List Float × List Float). SameMade (made_of a j s) (settled_by a' j (worked a' j s') r)) same-factor
      (go (block_ldlt (dim a j) a.tol (body_or (dim a j * dim a j) ((worked a j s).work j))))
    where
      go : (r : Result LdltResult BlockError × List Float × List Float) → SameMade (settled_by a j (worked a j s) r) (settled_by a' j (worked a' j s') r)
      go (Ok r, unit, d) = same-solved unit d
      go (Err (NotFinite place pivot), unit, d) = refl
      go (Err (Poor condition), unit, d) = refl

pub locality : Locality
locality = same-made
