-- The loops that write the marks: `UpTo` is where they stand, `up_none`, `up_more` and `up_all` their turns. Assumes nothing.
use Rattle.std.specs.Prelude.{◌≡◌, ℕ, ◌+◌, ◌<◌, ◌≤◌, List, map, length, get_or, set}
use mathlib.Core.Path.{sym, ap, subst, ◌∙◌}
use native.Mathlib.Omega.{arith}
use lib.Ieee.{Float, nan}
use lib.ListN.{length-set}
use Rattle.graph.specs.Order.{Permutes}
use Rattle.buckets.specs.Buckets.{before}
use Rattle.buckets.proofs.Turns.{before-next}
use Rattle.tables.specs.Search.{sum}
use Rattle.tables.specs.Sound.{Sizes}
use Rattle.tables.specs.Verdict.{at}
use Rattle.tables.proofs.SearchLaws.{sum-next, sum-end, sum-split}
use Rattle.order.specs.Order.{sizes_of}
use Rattle.order.proofs.Laws.{below_at}
use Rattle.scalars.specs.Scalars.{scalar_starts, scalar_count, scalar_perm}
use Rattle.scalars.proofs.ScalarLaws.{starts-at, length-starts, runs-apart, perm-entry, scalar-permutes, sizes_total, sizes-at}
use Rattle.factor_tables.proofs.NeedLaws.{few-scalars}
use Rattle.machine.specs.System.{inverse_of}
use Rattle.solution.proofs.EdgeLaws.{scattered-turn, scattered-all}
use Rattle.marks.specs.declared.cores.Mark.{Mark}
use Rattle.marks.specs.declared.cores.Mark.TheVariants.{Silent, Heard}
use mir.Val.{bool_byte}
use denote.Enum.Bare.{sameb}
use Rattle.marks.specs.contracts.cores.Mark.{the_type}
use Rattle.marks.specs.Mark.{mark, byte_at, marks_of, silent_one, silent_at, silent_of}

-- what a comparison with silent counts
pub counted-one : (m : Mark) {n : ℕ} → n ≡ bool_byte (sameb the_type m Silent) → n ≡ silent_one m
counted-one Silent e = e
counted-one Heard e = e

-- at most one
pub one-most : (m : Mark) → silent_one m ≤ 1
one-most Silent = omega arith
one-most Heard = omega arith

module _ (dims order : List ℕ) (tol : Float) (d : List Float) where
  -- the first `place` scalars by new number are marked and counted
  pub record UpTo (marks : List ℕ) (silent place : ℕ) : Type 0 where
    pub as_long : length marks ≡ scalar_count dims
    pub counted : silent ≡ sum (silent_at tol d) 0 place
    pub few : silent ≤ place
    pub marked : (i : ℕ) → i < place → at marks (at (scalar_perm dims order) i) ≡ byte_at tol d i

module _ (dims order : List ℕ) (p : Permutes (length dims) order) (tol : Float) (d : List Float) where
  abbrev perm : List ℕ
  perm = scalar_perm dims order

  long : length perm ≡ scalar_count dims
  long = (scalar-permutes dims order p).entries

  all : Permutes (length perm) perm
  all = subst (λ (m : ℕ). Permutes m perm) (sym long) (scalar-permutes dims order p)

  pub up_none : (marks : List ℕ) → length marks ≡ scalar_count dims → UpTo dims order tol d marks 0 0
  up_none marks l = record { as_long = l; counted = sym (sum-end (silent_at tol d) 0 0 (omega arith)); few = omega arith; marked = λ i h. absurd (omega arith) }

  -- scalar s of the new block k
  module _ (olds : List ℕ) (e : olds ≡ scalar_starts dims) (k : ℕ) (h : k < length order) where
    pub old_below : at order k < length dims
    old_below = below_at (length dims) order p k (omega (arith, p.entries))

    pub old-known : at order k < length olds
    old-known = let l = ap {A = List ℕ} length e ∙ length-starts dims in let b = old_below in omega arith

    start_is : at olds (at order k) ≡ before dims (at order k)
    start_is = let b = old_below in ap (λ (l : List ℕ). at l (at order k)) e ∙ starts-at dims (at order k) (omega arith)

    module _ (place s : ℕ) (here : place ≡ before (sizes_of dims order) k + s) where
      module _ (g : s < at dims (at order k)) where
        inside : place < scalar_count dims
        inside =
            let a = runs-apart (sizes_of dims order) k (length order) h in
            let z = sizes-at dims order k h in
            let t = sizes_total dims order p in
            omega arith

        entry : at olds (at order k) + s ≡ at perm place
        entry = ap (λ (m : ℕ). m + s) start_is ∙ sym (ap (at perm) here ∙ perm-entry dims order k s h g)

        entry-inside : at olds (at order k) + s < scalar_count dims
        entry-inside = subst (λ (m : ℕ). m < scalar_count dims) (sym entry) (below_at (scalar_count dims) perm (scalar-permutes dims order p) place inside)

        -- the two places of the turn, and how many scalars there are
        pub scalar_fits : Sizes dims → length dims ≤ 4096 → (place < scalar_count dims) × (at olds (at order k) + s < scalar_count dims) × (scalar_count dims ≤ 65536)
        scalar_fits z few = (inside, entry-inside, few-scalars dims z few)

        pub up_more : (marks : List ℕ) (silent byte one : ℕ) → byte ≡ byte_at tol d place → one ≡ silent_at tol d place → UpTo dims order tol d marks silent place
            → UpTo dims order tol d (set marks (at olds (at order k) + s) byte) (silent + one) (place + 1)
        up_more marks silent byte one eb eo up =
            let f = silent_at tol d in
            let i = inside in
            let w = sum-split f 0 place (place + 1) (omega arith) (omega arith) in
            let n = sum-next f place (place + 1) (omega arith) in
            let z = sum-end f (place + 1) (place + 1) (omega arith) in
            let m = one-most (mark' place) in
            record {
              as_long = length-set marks (at olds (at order k) + s) byte ∙ up.as_long;
              counted = omega (arith, up.counted, eo);
              few = omega (arith, up.few, eo);
              marked = subst (λ (q : ℕ). (i : ℕ) → i < place + 1 → at (set marks q byte) (at perm i) ≡ byte_at tol d i) (sym entry)
                  (subst (λ (b : ℕ). (i : ℕ) → i < place + 1 → at (set marks (at perm place) b) (at perm i) ≡ byte_at tol d i) (sym eb)
                  (scattered-turn perm all 0 marks (byte_at tol d) place (up.as_long ∙ sym long) (omega (arith, long)) up.marked));
            }
          where
            mark' : ℕ → Mark
            mark' new = mark tol (get_or d new nan)

      pub block_next : s ≡ at dims (at order k) → place ≡ before (sizes_of dims order) (k + 1)
      block_next g = let n = before-next (sizes_of dims order) k in let z = sizes-at dims order k h in omega arith

  pub up_all : (marks : List ℕ) (silent place : ℕ) → place ≡ scalar_count dims → length d ≡ scalar_count dims → UpTo dims order tol d marks silent place
      → (silent ≡ silent_of tol d) × (marks ≡ marks_of dims order tol d)
  unfolding silent_of marks_of
  up_all marks silent place e l up = (
    up.counted ∙ ap (sum (silent_at tol d) 0) (e ∙ sym l),
    scattered-all perm all 0 marks (byte_at tol d) (up.as_long ∙ sym long) (λ i h. up.marked i (omega (arith, long)))
        ∙ ap (λ (m : ℕ). map {A = ℕ} {B = ℕ} (byte_at tol d) (inverse_of m perm)) long,
  )

  pub all_places : (place : ℕ) (k : ℕ) → place ≡ before (sizes_of dims order) k → k ≡ length order → place ≡ scalar_count dims
  all_places place k e a = e ∙ ap (before (sizes_of dims order)) a ∙ sizes_total dims order p
