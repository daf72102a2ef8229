-- Within the rooms of `fit` only L's values can be short, and a factorization says nothing else than 0, 11, 13 or 14. Assumes nothing.
use Rattle.std.specs.Prelude.{◌≡◌, ℕ, zero, suc, ◌+◌, ◌*◌, ◌<◌, ◌≤◌, Bool, true, false, cond, ltb, ◌⊎◌, List, [], ◌∷◌, length, get_or}
use mathlib.Core.Logic.{inl, inr}
use mathlib.Core.Path.{refl, sym, ap, subst, ◌∙◌}
use native.Mathlib.Nat.{mul-le-mul, mul-le-mul_left, mul-le-mul_right}
use native.Mathlib.Omega.{arith}
use native.Mathlib.Decide.{dec_lt}
use lib.Ieee.{Float}
use borrow.Author.Tests.{lt-ltb, le-ltb}
use Rattle.refusal.specs.Refusal.{Told, tells, number, done, short_buffer, no_room, refuses, first_of, verdict, verdict_after, after}
use Rattle.refusal.specs.Check as need
use Rattle.refusal.proofs.Laws.{verdict-stops, verdict-goes, need-short, need-met}
use Rattle.buckets.specs.Buckets.{before}
use Rattle.needs.specs.Needs.{Lent, need_checks, AllMet}
use Rattle.tables.specs.Verdict.{system_verdict}
use Rattle.tables.specs.Sound.{Sizes}
use Rattle.tables.proofs.Sound.{system-sound}
use Rattle.tables.proofs.TableLaws.{stored-half}
use Rattle.scalars.specs.Scalars.{scalar_count}
use Rattle.block_diag_ldlt.specs.Block.{block_ldlt}
use Rattle.std.specs.Prelude.{Result, Ok, Err}
use Rattle.dense_pivots.specs.declared.LdltResult.{LdltResult}
use Rattle.block_diag_ldlt.specs.declared.cores.BlockError.{BlockError}
use Rattle.block_diag_ldlt.specs.declared.cores.BlockError.TheVariants.{NotFinite, Poor}
use Rattle.machine.specs.System.{System, blocks, links, dim}
use Rattle.machine.specs.Machine.{State, refused, body_or, settled_by, finish, Run, going, stopped, run}
use Rattle.machine.proofs.StopLaws.{stops}
use Rattle.machine.proofs.RunLaws.{links-symm}
use Rattle.layout.specs.Layout.{squares, units_need, work_need}
use Rattle.layout.proofs.DiagonalLaws.{length-squares, squares-at}
use Rattle.layout.proofs.PlanLaws.{plan_columns, plan-stored}
use Rattle.factor_tables.proofs.NeedLaws.{widest-small}
use Rattle.factor_setup.specs.Exact.{stored, numbers}
use Rattle.factor_core.specs.Factorize as factorization
use Rattle.factor_core.specs.Factorize.{Factorized, Places, first_list, early, whole, answered, Factors}
use Rattle.fit_factor.specs.Fitted.{Fitted, told, l_room_check, possible, roomed, Within, factor, Fits}

-- ---- what a run can be told with

-- a column that is refused is refused by 13 or 14
finish-number : (a : System) (j : ℕ) (s : State) (t : Told) → finish a j s ≡ refused t → (number t ≡ 13) ⊎ (number t ≡ 14)
unfolding finish settled_by
finish-number a j s t e = go (block_ldlt (dim a j) a.tol (body_or _ (s.work j))) e
  where
    out : (u : Told) → refused u ≡ refused t → t ≡ u
    out u p = cc

    go : (r : Result LdltResult BlockError × List Float × List Float) → settled_by a j s r ≡ refused t → (number t ≡ 13) ⊎ (number t ≡ 14)
    go (Ok r, unit, d) p = absurd (let z : ◌≡◌ {A = ℕ} 0 1 = cc in omega arith)
    go (Err (NotFinite place pivot), unit, d) p = inl (ap number (out _ p))
    go (Err (Poor condition), unit, d) p = inr (ap number (out _ p))

-- so a run that stopped is refused
pub stopped-refuses : (a : System) (t : Told) → run a ≡ stopped t → refuses t ≡ true
stopped-refuses a t e = let r = (stops a t).0 e in go t (finish-number a r.0 _ t r.2.refusal)
  where
    go : (t : Told) → (number t ≡ 13) ⊎ (number t ≡ 14) → refuses t ≡ true
    go (tells zero is xs) (inl e) = absurd (omega arith)
    go (tells zero is xs) (inr e) = absurd (omega arith)
    go (tells (suc n) is xs) e = refl

module _ (a : System) where
  -- an accepted run, or 13, or 14
  run-number : (number (answered a (run a)) ≡ 0) ⊎ ((number (answered a (run a)) ≡ 13) ⊎ (number (answered a (run a)) ≡ 14))
  run-number = go (run a) refl
    where
      go : (r : Run) → run a ≡ r → (number (answered a r) ≡ 0) ⊎ ((number (answered a r) ≡ 13) ⊎ (number (answered a r) ≡ 14))
      go (going s) e = inl refl
      go (stopped t) e = let r = (stops a t).0 e in inr (finish-number a r.0 _ t r.2.refusal)

  run-possible : possible (number (answered a (run a))) ≡ true
  run-possible = go (number (answered a (run a))) run-number
    where
      go : (n : ℕ) → (n ≡ 0) ⊎ ((n ≡ 13) ⊎ (n ≡ 14)) → possible n ≡ true
      go n (inl e) = rw e refl
      go n (inr (inl e)) = rw e refl
      go n (inr (inr e)) = rw e refl

  -- so what a run answers says nothing of room
  run-roomed : roomed (answered a (run a)) ≡ answered a (run a)
  run-roomed = go (answered a (run a)) run-number
    where
      go : (t : Told) → (number t ≡ 0) ⊎ ((number t ≡ 13) ⊎ (number t ≡ 14)) → roomed t ≡ t
      go t (inl e) = rw e refl
      go t (inr (inl e)) = rw e refl
      go t (inr (inr e)) = rw e refl

-- ---- the needs

-- the sum of the squares of dimensions of at most 16 is at most 16 times their sum
squares-most : (dims : List ℕ) → Sizes dims → (k : ℕ) → before (squares dims) k ≤ 16 * before dims k
unfolding before
squares-most dims s zero = omega arith
squares-most dims s (suc k) = omega (arith, squares-most dims s k, squares-at dims k, mul-le-mul_right (get_or dims k 0) (s.small k))

module _ (a : System) (passes : system_verdict a.dims a.starts a.rows a.values a.perm a.late a.tol ≡ done)
    (few : blocks a ≤ 128) (scalars : scalar_count a.dims ≤ 512) where
  sizes : Sizes a.dims
  sizes = (system-sound _ _ _ _ _ _ _ (ap refuses passes)).plan.sizes

  pub units-few : units_need a.dims ≤ 8192
  units-few = omega (arith, ap (before (squares a.dims)) (length-squares a.dims), squares-most a.dims sizes (blocks a), scalars)

  pub work-few : work_need a.dims ≤ 8192
  work-few = mul-le-mul scalars (widest-small a.dims sizes)

  pub stored-few : stored a ≤ 8128
  stored-few = omega (arith, plan-stored (links a) (blocks a) (links-symm a), stored-half (plan_columns (links a) (blocks a) (links-symm a)), mul-le-mul_left (blocks a) few)

-- where each need is met, nothing is short
met-done : (bs : List Lent) → AllMet bs → verdict (need_checks bs) ≡ done
met-done [] m = refl
met-done (b ∷ bs) m = verdict-goes _ (need_checks bs) (need-met b.which b.have b.need m.0) ∙ met-done bs m.1

-- how long the buffers are
pub record Rooms (b : Places) : Type 0 where
  pub order : length b.order ≡ 128
  pub parents : length b.parents ≡ 128
  pub l_starts : length b.l_starts ≡ 129
  pub l_rows : length b.l_rows ≡ 8128
  pub l_offsets : length b.l_offsets ≡ 8129
  pub l_values : length b.l_values ≡ 8192
  pub diag : length b.diag ≡ 8192
  pub d : length b.d ≡ 512
  pub column : length b.column ≡ 8192
  pub inverse : length b.inverse ≡ 128
  pub sizes : length b.sizes ≡ 128
  pub count : length b.count ≡ 128
  pub heads : length b.heads ≡ 129
  pub into : length b.into ≡ 129
  pub stamps : length b.stamps ≡ 128
  pub table : length b.table ≡ 1024
  pub upper : length b.upper ≡ 1024
  pub bodies : length b.bodies ≡ 1025
  pub unit_starts : length b.unit_starts ≡ 129
  pub d_starts : length b.d_starts ≡ 129
  pub places : length b.places ≡ 128

module _ (a : System) (passes : system_verdict a.dims a.starts a.rows a.values a.perm a.late a.tol ≡ done)
    (few : blocks a ≤ 128) (listed : length a.rows ≤ 1024) (scalars : scalar_count a.dims ≤ 512) (b : Places) (r : Rooms b) where
  at_least : {have room need : ℕ} → have ≡ room → need ≤ room → need ≤ have
  at_least e h = omega arith

  first-met : AllMet (first_list a b)
  first-met = (at_least r.order few, (at_least r.parents few, (at_least r.l_starts (omega (arith, few)), (omega arith, (omega arith, (omega arith, (at_least r.diag (units-few a passes few scalars), (at_least r.d scalars, (at_least r.column (work-few a passes few scalars), (at_least r.inverse few, (at_least r.sizes few, (at_least r.count few, (at_least r.heads (omega (arith, few)), (at_least r.into (omega (arith, few)), (at_least r.stamps few, (at_least r.table listed, (at_least r.upper listed, (at_least r.bodies (omega (arith, listed)), (at_least r.unit_starts (omega (arith, few)), (at_least r.d_starts (omega (arith, few)), (at_least r.places few, tt)))))))))))))))))))))

  pub early-passes : early a b ≡ done
  unfolding early
  early-passes = ap (λ (t : Told). verdict_after t (need_checks (first_list a b))) passes ∙ met-done (first_list a b) first-met

  -- of what the plan shows, L's offsets and its row table are long enough
  whole_is : whole done a b ≡ cond (ltb 8192 (numbers a)) (short_buffer 5 (numbers a)) done
  unfolding whole
  whole_is = go (dec_lt 8192 (numbers a))
    where
      row-table : List Told
      row-table = need.need_check 3 (length b.l_rows) (stored a) ∷ []

      bodies : List Told
      bodies = need.need_check 5 (length b.l_values) (numbers a) ∷ row-table

      offsets-met : whole done a b ≡ verdict bodies
      offsets-met = verdict-goes (need.need_check 4 (length b.l_offsets) (stored a + 1)) bodies
          (need-met 4 (length b.l_offsets) (stored a + 1) (at_least r.l_offsets (omega (arith, stored-few a passes few scalars))))

      rows-met : verdict row-table ≡ done
      rows-met = verdict-goes (need.need_check 3 (length b.l_rows) (stored a)) [] (need-met 3 (length b.l_rows) (stored a) (at_least r.l_rows (stored-few a passes few scalars)))

      go : Dec (8192 < numbers a) → whole done a b ≡ cond (ltb 8192 (numbers a)) (short_buffer 5 (numbers a)) done
      go (yes h) =
          let short = need-short 5 (length b.l_values) (numbers a) (omega (arith, r.l_values)) in
          offsets-met ∙ (verdict-stops (need.need_check 5 (length b.l_values) (numbers a)) row-table (ap refuses short) ∙ (short ∙ sym (ap (λ (c : Bool). cond c (short_buffer 5 (numbers a)) done) (lt-ltb 8192 (numbers a) h))))
      go (no h) =
          offsets-met ∙ (verdict-goes (need.need_check 5 (length b.l_values) (numbers a)) row-table (need-met 5 (length b.l_values) (numbers a) (at_least r.l_values (omega arith)))
          ∙ (rows-met ∙ sym (ap (λ (c : Bool). cond c (short_buffer 5 (numbers a)) done) (le-ltb 8192 (numbers a) (omega arith)))))

  whole-refuses : refuses (whole done a b) ≡ refuses (l_room_check a)
  whole-refuses = ap refuses whole_is ∙ go (ltb 8192 (numbers a))
    where
      go : (c : Bool) → refuses (cond c (short_buffer 5 (numbers a)) done) ≡ refuses (cond c no_room done)
      go true = refl
      go false = refl

  pub fits-number : (f : Factorized) → factorization.told f ≡ first_of (whole done a b) (answered a (run a)) → possible (number (factorization.told f)) ≡ true
  fits-number f e = ap (λ (t : Told). possible (number t)) (e ∙ ap (λ (t : Told). first_of t (answered a (run a))) whole_is) ∙ go (ltb 8192 (numbers a))
    where
      go : (c : Bool) → possible (number (first_of (cond c (short_buffer 5 (numbers a)) done) (answered a (run a)))) ≡ true
      go true = refl
      go false = run-possible a

  fits_told : (f : Factorized) → factorization.told f ≡ first_of (whole done a b) (answered a (run a)) → roomed (factorization.told f) ≡ first_of (l_room_check a) (answered a (run a))
  fits_told f e = ap roomed (e ∙ ap (λ (t : Told). first_of t (answered a (run a))) whole_is) ∙ go (ltb 8192 (numbers a))
    where
      go : (c : Bool) → roomed (first_of (cond c (short_buffer 5 (numbers a)) done) (answered a (run a))) ≡ first_of (cond c no_room done) (answered a (run a))
      go true = refl
      go false = run-roomed a

  by-room : {A : Type 0} (old new : A) → after (whole done a b) old new ≡ after (l_room_check a) old new
  by-room old new = ap (λ (t : Bool). cond t old new) whole-refuses

  -- the factorization within the rooms
  pub fits : (f : Factorized) (b' : Places) (g : Fitted) → Factors done a b f b' → told g ≡ roomed (factorization.told f)
      → Fits a (factor b.order b.parents b.l_starts b.l_rows b.l_offsets b.l_values b.diag b.d) g
      (factor b'.order b'.parents b'.l_starts b'.l_rows b'.l_offsets b'.l_values b'.diag b'.d)
  fits f b' g q e =
      record {
        outcome = e ∙ fits_told f q.outcome;
        order = q.order ∙ by-room _ _;
        parents = q.parents ∙ by-room _ _;
        l_starts = q.l_starts ∙ by-room _ _;
        l_rows = q.l_rows ∙ by-room _ _;
        l_offsets = q.l_offsets ∙ by-room _ _;
        l_values = q.l_values ∙ by-room _ _;
        diag = q.diag ∙ by-room _ _;
        d = q.d ∙ by-room _ _;
      }

-- ---- as the call finds it: under the verdict before the plan

module _ {a : System} {b b' : Places} {f : Factorized} (q : Factors (early a b) a b f b') (w : Within a) (r : Rooms b) where
  passed : Factors done a b f b'
  passed = subst (λ (t : Told). Factors t a b f b') (early-passes a w.passes w.blocks w.rows w.scalars b r) q

  pub within-number : possible (number (factorization.told f)) ≡ true
  within-number = fits-number a w.passes w.blocks w.rows w.scalars b r f passed.outcome

  pub within-fits : (g : Fitted) → told g ≡ roomed (factorization.told f)
      → Fits a (factor b.order b.parents b.l_starts b.l_rows b.l_offsets b.l_values b.diag b.d) g
      (factor b'.order b'.parents b'.l_starts b'.l_rows b'.l_offsets b'.l_values b'.diag b'.d)
  within-fits g e = fits a w.passes w.blocks w.rows w.scalars b r f b' g passed e
