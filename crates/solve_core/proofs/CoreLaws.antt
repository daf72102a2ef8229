-- From the tables to how the blocks lie, and from the parts of the solve to the whole.
--     sizes-ready       the dimensions by new number can be summed up
--     permutes-all      the scalar permutation is one
--     laid              every block lies in its list, and no two overlap
--     solves            the parts one after the other are the solve
-- Assumes nothing.
use Rattle.std.specs.Prelude.{◌≡◌, ℕ, ◌+◌, ◌<◌, ◌≤◌, List, length, get_or, take}
use mathlib.Core.Path.{refl, sym, ap, subst, ◌∙◌}
use native.Mathlib.Omega.{arith}
use lib.Ieee.{Float}
use lib.Seq.{take_all}
use Rattle.graph.specs.Order.{Permutes}
use Rattle.tables.specs.Verdict.{at, past_diagonal}
use Rattle.tables.specs.Sound.{Sizes, Columns}
use Rattle.order.specs.Order.{sizes_of}
use Rattle.scalars.specs.Scalars.{scalar_starts, scalar_count, scalar_perm}
use Rattle.scalars.proofs.ScalarLaws.{scalar-permutes}
use Rattle.layout.specs.Layout.{tables, unit_starts_of, units_need, work_need, RowsLaid, DiagonalLaid}
use Rattle.layout.proofs.DiagonalLaws.{diagonal-laid}
use Rattle.layout.proofs.RowLaws.{rows-laid}
use Rattle.factor_tables.proofs.TableLaws.{order-inside, sizes-count, sizes-sound}
use Rattle.factor_tables.proofs.NeedLaws.{same-scalars, same_units}
use Rattle.solution.specs.Solution.{solved, permuted, unpermuted, blocks_of, flat, solution}
use Rattle.solution.specs.Flat.{HoldsColumns, BlocksLaid}
use Rattle.solution.proofs.VectorLaws.{blocks-laid, shows-blocks, shows-flat}
use Rattle.solve_core.specs.Core.{Solvable, SolvedBy, Substitutes}

-- ---- the tables

module _ (dims order : List ℕ) (p : Permutes (length dims) order) where
  -- a copy of the order is the order
  pub copy_is : (copy : List ℕ) (n : ℕ) → n ≡ length dims → copy ≡ take n order → copy ≡ order
  copy_is copy n l e = e ∙ take_all n order (omega (arith, p.entries))

  pub copy-inside : (copy : List ℕ) → copy ≡ order → (k : ℕ) → k < length copy → get_or copy k 0 < length dims
  copy-inside copy e = subst (λ (l : List ℕ). (k : ℕ) → k < length l → get_or l k 0 < length dims) (sym e) (order-inside dims order p)

  pub sizes-ready : (sizes : List ℕ) (m : ℕ) → length dims ≤ 4096 → Sizes dims → m ≡ length dims + 1 → sizes ≡ sizes_of dims order
      → ((length sizes ≤ 4096) × (m ≡ length sizes + 1)) × ((k : ℕ) → k < length sizes → get_or sizes k 0 ≤ 16)
  sizes-ready sizes m few small l e =
      let n : length sizes ≡ length dims = ap length e ∙ sizes-count dims order p in
      (omega arith, λ k h. subst (λ (t : List ℕ). get_or t k 0 ≤ 16) (sym e) ((sizes-sound dims order p small).small k))

  -- the scalar permutation
  pub permutes-all : (perm : List ℕ) → perm ≡ scalar_perm dims order → Permutes (length perm) perm
  permutes-all perm e =
      let s = scalar-permutes dims order p in
      subst (λ (t : List ℕ). Permutes (length t) t) (sym e) (subst (λ (m : ℕ). Permutes m (scalar_perm dims order)) (sym s.entries) s)

  pub perm-long : (perm : List ℕ) → perm ≡ scalar_perm dims order → length perm ≡ scalar_count dims
  perm-long perm e = ap length e ∙ (scalar-permutes dims order p).entries

-- ---- how the blocks lie, and the whole

module _ {dims order l_starts l_rows l_offsets : List ℕ} {v g e : ℕ} (s : Solvable dims order l_starts l_rows l_offsets v g e) where
  abbrev new : List ℕ
  new = sizes_of dims order

  sound : Sizes new
  sound = sizes-sound dims order s.permutes s.sizes

  many : length new ≡ length dims
  many = sizes-count dims order s.permutes

  scalars-same : scalar_count new ≡ scalar_count dims
  scalars-same = same-scalars dims order s.permutes

  rows : RowsLaid (tables new l_starts l_rows l_offsets) (length new) v (work_need new)
  rows = rw (s.bodies, s.values) (rows-laid new l_starts l_rows sound (subst (λ (n : ℕ). Columns past_diagonal n l_starts l_rows) (sym many) s.columns))

  blocks : (m : ℕ) → m ≡ scalar_count dims → BlocksLaid new (scalar_starts new) m
  blocks m l = subst (BlocksLaid new (scalar_starts new)) (scalars-same ∙ sym l) (blocks-laid new sound)

  diagonal : DiagonalLaid new (unit_starts_of new) (scalar_starts new) (length new) g e
  diagonal =
      subst (λ (n : ℕ). DiagonalLaid new (unit_starts_of new) (scalar_starts new) (length new) n e) (same_units dims order s.permutes ∙ sym s.units)
      (subst (DiagonalLaid new (unit_starts_of new) (scalar_starts new) (length new) (units_need new)) (scalars-same ∙ sym s.pivots) (diagonal-laid new))

  pub laid : (sizes starts : List ℕ) (m : ℕ) → sizes ≡ new → starts ≡ scalar_starts new → m ≡ scalar_count dims
      → (RowsLaid (tables sizes l_starts l_rows l_offsets) (length sizes) v (work_need sizes) × BlocksLaid sizes starts m)
      × ((starts ≡ scalar_starts sizes) × DiagonalLaid sizes (unit_starts_of sizes) starts (length sizes) g e)
  laid sizes starts m a b l = rw (a, b) ((rows, blocks m l), (refl, diagonal))

  module _ (l_values diag d x y y' : List Float) where
    by-new : y ≡ permuted (scalar_perm dims order) x → Substitutes (tables new l_starts l_rows l_offsets) (scalar_starts new) l_values diag d y y' → length y' ≡ scalar_count dims
        → SolvedBy dims order l_starts l_rows l_offsets l_values diag d x (unpermuted (scalar_perm dims order) y')
    unfolding solution
    by-new ey sub l col held =
        let here = subst (λ (n : ℕ). HoldsColumns (tables new l_starts l_rows l_offsets) l_values diag d n col) (sym many) held in
        let all = shows-flat new y' (solved (at new) col (length new) (blocks_of new y)) (l ∙ sym scalars-same) (sub col here (blocks_of new y) (shows-blocks new y)) in
        ap (unpermuted (scalar_perm dims order))
        (all ∙ ap (λ (n : ℕ). flat n (solved (at new) col n (blocks_of new y))) many ∙ ap (λ (z : List Float). flat (length dims) (solved (at new) col (length dims) (blocks_of new z))) ey)

    pub solves : (sizes starts perm : List ℕ) (x' : List Float) → sizes ≡ new → starts ≡ scalar_starts new → perm ≡ scalar_perm dims order → y ≡ permuted perm x
        → Substitutes (tables sizes l_starts l_rows l_offsets) starts l_values diag d y y' → length y' ≡ scalar_count dims → x' ≡ unpermuted perm y'
        → SolvedBy dims order l_starts l_rows l_offsets l_values diag d x x'
    solves sizes starts perm x' a b p ey sub l ex col held =
        let sub₁ = subst (λ (t : List ℕ). Substitutes (tables t l_starts l_rows l_offsets) starts l_values diag d y y') a sub in
        let sub₂ = subst (λ (t : List ℕ). Substitutes (tables new l_starts l_rows l_offsets) t l_values diag d y y') b sub₁ in
        ex ∙ ap (λ (q : List ℕ). unpermuted q y') p ∙ by-new (ey ∙ ap (λ (q : List ℕ). permuted q x) p) sub₂ l col held
