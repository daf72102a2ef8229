-- The loop over a column's rows. `UpTo` is its invariant: the diagonal block and the rows before place u of L's row table have their places
-- and are loaded. `up_more` a turn, `up_placed` and `up_blocks` where it ends. Assumes nothing.
use Rattle.std.specs.Prelude.{◌≡◌, ℕ, ◌+◌, ◌-◌, ◌*◌, ◌<◌, ◌≤◌, T, List, length, set}
use mathlib.Core.Logic.{inl, ⊎_elim}
use mathlib.Core.Path.{sym, ap, subst, ◌∙◌}
use native.Mathlib.Nat.{eq-or-lt_of_le}
use native.Mathlib.Omega.{arith}
use lib.Ieee.{Float}
use lib.Seq.{get_or-set_same, get_or-set_other}
use Rattle.graph.specs.Sets.{elem}
use Rattle.graph.proofs.SetLaws.{elem-cases}
use Rattle.scalar.specs.Block.{within}
use Rattle.tables.specs.Verdict.{at}
use Rattle.order.proofs.Laws.{place-of}
use Rattle.block_product.specs.Working.{slot}
use Rattle.block_product.proofs.SlotLaws.{at_slot, slot-length, slot-written, slot-other}
use Rattle.layout.specs.Layout.{Tables, side, start_of, stop_of, rows_at, on_at, RowsLaid, Placed}
use Rattle.layout.proofs.RowLaws.{inc-rises}

module _ (t : Tables) (j : ℕ) where
  -- row v of L's row table, and where its block begins in the working column
  abbrev pub row_at : ℕ → ℕ
  row_at v = at t.l_rows v

  abbrev pub place_at : ℕ → ℕ
  place_at v = side t j * side t j + (at t.l_offsets v - at t.l_offsets (start_of t j))

  -- `block i` is block (i, j)
  pub record UpTo (block : ℕ → List Float) (places : List ℕ) (c : List Float) (u : ℕ) : Type 0 where
    pub own : at places j ≡ 0
    pub own_block : slot 0 (side t j * side t j) c ≡ block j
    pub row : (v : ℕ) → start_of t j ≤ v → v < u → at places (row_at v) ≡ place_at v
    pub row_block : (v : ℕ) → start_of t j ≤ v → v < u → slot (place_at v) (side t (row_at v) * side t j) c ≡ block (row_at v)

  -- what is known of one row of column j
  pub record RowFits (n m u : ℕ) : Type 0 where
    pub known : (u < length t.l_rows) × (u < length t.l_offsets) × (j < row_at u) × (row_at u < n)
    pub rises : at t.l_offsets (start_of t j) ≤ at t.l_offsets u
    pub inside : place_at u + side t (row_at u) * side t j ≤ m

  module _ {n values m : ℕ} (laid : RowsLaid t n values m) (h : j < n) where
    pub row_fits : (u : ℕ) → start_of t j ≤ u → u < stop_of t j → RowFits n m u
    row_fits u lo hi =
        let s = laid.column j h in
        let r = laid.row j u h lo hi in
        let rises : at t.l_offsets (start_of t j) ≤ at t.l_offsets u = ⊎_elim (λ e. subst (λ (v : ℕ). at t.l_offsets (start_of t j) ≤ at t.l_offsets v) e (omega arith))
        (λ l. let b = laid.body j (start_of t j) u h (omega arith) (omega arith) l (omega arith) in omega arith) (eq-or-lt_of_le lo) in
        record {
          known = (omega arith, omega (arith, laid.count), r.0, r.1);
          rises = rises;
          inside = let b = laid.body j u (stop_of t j) h lo hi hi s.1 in omega (arith, laid.packed j h, rises);
        }

    -- an earlier row is a lesser one, and its block ends before
    rows-rise : (v u : ℕ) → start_of t j ≤ v → v < u → u < stop_of t j → row_at v < row_at u
    rows-rise v u lo l hi =
        let s = start_of t j in
        let e = laid.column j h in
        let long : length (rows_at t j) ≡ stop_of t j - s = slot-length t.l_rows s (stop_of t j - s) (omega arith) in
        let r = inc-rises (rows_at t j) (laid.ascends j h) (v - s) (u - s) (omega arith) (omega (arith, long)) in
        let a : at (rows_at t j) (v - s) ≡ at t.l_rows (s + (v - s)) = at_slot t.l_rows s (stop_of t j - s) (v - s) (omega arith) in
        let b : at (rows_at t j) (u - s) ≡ at t.l_rows (s + (u - s)) = at_slot t.l_rows s (stop_of t j - s) (u - s) (omega arith) in
        let x : s + (v - s) ≡ v = omega arith in
        let y : s + (u - s) ≡ u = omega arith in
        omega (arith, r, a ∙ ap row_at x, b ∙ ap row_at y)

    blocks-apart : (v u : ℕ) → start_of t j ≤ v → v < u → u < stop_of t j → place_at v + side t (row_at v) * side t j ≤ place_at u
    blocks-apart v u lo l hi =
        let e = laid.column j h in
        let b = laid.body j v u h lo (omega arith) l (omega arith) in
        let r = (row_fits v lo (omega arith)).rises in
        omega arith

    module _ (block : ℕ → List Float) (long : (i : ℕ) → i < n → length (block i) ≡ side t i * side t j) (places : List ℕ) (c : List Float) (all : length places ≡ n) (room : length c ≡ m) where
      module _ (u : ℕ) (lo : start_of t j ≤ u) (hi : u < stop_of t j) (up : UpTo block places c u) where
        f : RowFits n m u
        f = row_fits u lo hi

        fits : place_at u + side t (row_at u) * side t j ≤ length c
        fits = omega (arith, f.inside)

        keeps : length (block (row_at u)) ≡ side t (row_at u) * side t j
        keeps = long (row_at u) f.known.3

        turned : UpTo block (set places (row_at u) (place_at u)) (within (place_at u) (side t (row_at u) * side t j) (λ _. block (row_at u)) c) (u + 1)
        turned =
            record {
              own = get_or-set_other places (row_at u) j (place_at u) 0 (λ e. absurd (omega (arith, f.known.2))) ∙ up.own;
              own_block = slot-other (place_at u) (side t (row_at u) * side t j) (λ _. block (row_at u)) c fits keeps 0 (side t j * side t j) (inl (omega arith)) ∙ up.own_block;
              row = λ v a b. ⊎_elim
                  (λ e. subst (λ (w : ℕ). at (set places (row_at u) (place_at u)) (row_at w) ≡ place_at w) (sym e) (get_or-set_same places (row_at u) (place_at u) 0 (omega (arith, f.known.3))))
                  (λ l. get_or-set_other places (row_at u) (row_at v) (place_at u) 0 (λ e. let r = rows-rise v u a l hi in absurd (omega arith)) ∙ up.row v a l)
                  (eq-or-lt_of_le (omega (arith, b)));
              row_block = λ v a b. ⊎_elim
                  (λ e. subst (λ (w : ℕ). slot (place_at w) (side t (row_at w) * side t j) (within (place_at u) (side t (row_at u) * side t j) (λ _. block (row_at u)) c) ≡ block (row_at w)) (sym e)
                  (slot-written (place_at u) (side t (row_at u) * side t j) (λ _. block (row_at u)) c fits keeps))
                  (λ l. slot-other (place_at u) (side t (row_at u) * side t j) (λ _. block (row_at u)) c fits keeps (place_at v) (side t (row_at v) * side t j) (inl (blocks-apart v u a l hi)) ∙ up.row_block v a l)
                  (eq-or-lt_of_le (omega (arith, b)));
            }

        pub up_more : (places' : List ℕ) (c' : List Float)
            → (places' ≡ set places (row_at u) (place_at u)) × (c' ≡ within (place_at u) (side t (row_at u) * side t j) (λ _. block (row_at u)) c) → UpTo block places' c' (u + 1)
        up_more places' c' e = rw (e.0, e.1) turned

    -- ---- all rows are done

    -- each block of the column is a row of it, by its place, or the diagonal one
    on-cases : (P : ℕ → Type 0) → P j → ((v : ℕ) → start_of t j ≤ v → v < stop_of t j → P (row_at v)) → (i : ℕ) → T (elem i (on_at t j)) → P i
    on-cases P own row i e = ⊎_elim (λ q. subst P (sym q) own) other (elem-cases i j (rows_at t j) e)
      where
        other : T (elem i (rows_at t j)) → P i
        other e =
            let s = start_of t j in
            let stop = laid.column j h in
            let p = place-of i (rows_at t j) e in
            let k : p.0 < stop_of t j - s = omega (arith, p.1, slot-length t.l_rows s (stop_of t j - s) (omega arith)) in
            subst P (sym (at_slot t.l_rows s (stop_of t j - s) p.0 k) ∙ p.2) (row (s + p.0) (omega arith) (omega arith))

    pub on_inside : (i : ℕ) → T (elem i (on_at t j)) → (j ≤ i) × (i < n)
    on_inside = on-cases (λ i. (j ≤ i) × (i < n)) (omega arith, h) (λ v a b. let r = laid.row j v h a b in (omega arith, r.1))

    module _ {block : ℕ → List Float} {places : List ℕ} {c : List Float} {u : ℕ} (all : stop_of t j ≤ u) (up : UpTo block places c u) where
      pub up_placed : Placed t places j
      up_placed = record { own = up.own; row = λ v a b. up.row v a (omega arith) }

      pub up_blocks : (i : ℕ) → T (elem i (on_at t j)) → slot (at places i) (side t i * side t j) c ≡ block i
      up_blocks =
          on-cases (λ i. slot (at places i) (side t i * side t j) c ≡ block i) (ap (λ (p : ℕ). slot p (side t j * side t j) c) up.own ∙ up.own_block)
          (λ v a b. ap (λ (p : ℕ). slot p (side t (row_at v) * side t j) c) (up.row v a (omega arith)) ∙ up.row_block v a (omega arith))
