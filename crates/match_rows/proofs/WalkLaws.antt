-- The walk of two columns side by side. `Walked` is its invariant: the rows of column c behind its first and before u are among those of
-- column k before `place`, which are below the rows from u on. Assumes nothing.
use Rattle.std.specs.Prelude.{◌≡◌, ℕ, ◌+◌, ◌<◌, ◌≤◌, ltb, List}
use mathlib.Core.Logic.{⊎_elim}
use mathlib.Core.Path.{refl, ap}
use native.Mathlib.Omega.{arith}
use borrow.Author.Tests.{eq-eqb, ne_eqb}
use Rattle.graph.specs.Sets.{elem}
use Rattle.graph.specs.Links.{rows_in}
use Rattle.tables.specs.Search.{first}
use Rattle.tables.specs.Verdict.{at}
use Rattle.tables.proofs.SearchLaws.{lt-or-ge, Searched, searched, passed, failed}
use Rattle.load_column.specs.Blocks.{ColumnRises}
use Rattle.match_rows.proofs.HalvedLaws.{Parted, parted-at, place-met, holds-here, holds-none}

pub record Walked (starts rows : List ℕ) (c k u place : ℕ) : Type 0 where
  pub past : at starts c < u
  pub within : (at starts k ≤ place) × (place ≤ at starts (k + 1))
  pub below : (p v : ℕ) → at starts k ≤ p → p < place → u ≤ v → v < at starts (c + 1) → at rows p < at rows v
  pub walk : Searched (λ v. elem (at rows v) (rows_in starts rows k)) (at starts c + 1) (at starts (c + 1)) u

module _ {starts rows : List ℕ} {c k : ℕ} (rc : ColumnRises starts rows c) (rk : ColumnRises starts rows k) where
  pub walked_none : at starts c < at starts (c + 1) → Walked starts rows c k (at starts c + 1) (at starts k)
  walked_none h =
      record { past = omega arith; within = (omega arith, rk.inside.0); below = λ p v a b l m. absurd (omega arith); walk = searched (omega arith) }

  -- where row u is, or would be
  module _ {u place place' : ℕ} (g : Walked starts rows c k u place) (h : u < at starts (c + 1)) (e : place' ≡ first (λ p. ltb (at rows p) (at rows u)) (at starts k) (at starts (k + 1))) where
    pub walk_end : at starts (k + 1) ≤ place' → u ≡ first (λ v. elem (at rows v) (rows_in starts rows k)) (at starts c + 1) (at starts (c + 1))
    walk_end t = failed g.walk h (holds-none rk (parted-at rk place' e) t) refl

    pub walk_lacks : place' < at starts (k + 1) → at rows u < at rows place' → u ≡ first (λ v. elem (at rows v) (rows_in starts rows k)) (at starts c + 1) (at starts (c + 1))
    walk_lacks l t = failed g.walk h (holds-here rk (parted-at rk place' e) l) (rw (ne_eqb (at rows place') (at rows u) (λ z. omega arith)))

    pub walk_on : place' < at starts (k + 1) → at rows place' ≤ at rows u → Walked starts rows c k (u + 1) (place' + 1)
    walk_on l t =
        record {
          past = omega (arith, g.past);
          within = (omega (arith, w.low), omega arith);
          below = λ p v a b s m. let r = rc.rises u v (omega (arith, g.past)) (omega arith) m in omega (arith, r, until p a b);
          walk = passed g.walk h (holds-here rk w l) (rw (eq-eqb (at rows place') (at rows u) same));
        }
      where
        w : Parted starts rows (at rows u) k place'
        w = parted-at rk place' e

        same : at rows place' ≡ at rows u
        same = omega (arith, w.behind place' (omega arith) l)

        until : (p : ℕ) → at starts k ≤ p → p < place' + 1 → at rows p ≤ at rows u
        until p a b = ⊎_elim (λ q. omega (arith, w.before p a q)) (λ q. let z : at rows p ≡ at rows place' = ap (at rows) (omega arith) in omega arith) (lt-or-ge p place')

  -- where it is, or would be, at the place come to
  module _ {u place : ℕ} (g : Walked starts rows c k u place) (h : u < at starts (c + 1)) where
    here : (place < at starts (k + 1) → at rows u ≤ at rows place) → place ≡ first (λ p. ltb (at rows p) (at rows u)) (at starts k) (at starts (k + 1))
    here = place-met rk place g.within.0 g.within.1 (λ p a b. g.below p u a b (omega arith) h)

    pub walk_over : at starts (k + 1) ≤ place → u ≡ first (λ v. elem (at rows v) (rows_in starts rows k)) (at starts c + 1) (at starts (c + 1))
    walk_over t = walk_end g h (here (λ l. absurd (omega arith))) t

    pub walk_next : place < at starts (k + 1) → at rows place ≡ at rows u → Walked starts rows c k (u + 1) (place + 1)
    walk_next l e = walk_on g h (here (λ s. omega arith)) l (omega arith)
