-- What a factorization within the rooms gives the solve and the marks.
--     long          its lists are as long as they were
--     accepts       accepted, the run has a last state
--     solvable      and the first places of the lists are a factor that can be solved with
--     solved        so the solution is that of the last state, and so are the marks
-- Assumes nothing.
use Rattle.std.specs.Prelude.{◌≡◌, ℕ, ◌+◌, ◌<◌, ◌≤◌, Bool, true, false, cond, ltb, List, [], ◌∷◌, ◌++◌, length, take, drop, Ok}
use mathlib.Core.Bool.{false≢true}
use mathlib.Core.Path.{refl, sym, ap, ◌∙◌}
use native.Mathlib.Omega.{arith}
use native.Mathlib.Decide.{dec_lt}
use borrow.Author.Tests.{lt-ltb}
use lib.Ieee.{Float}
use lib.Seq.{take_at}
use Rattle.refusal.specs.Refusal.{number, accepted, done, no_room, refuses, first_of, after}
use Rattle.refusal.proofs.Laws.{first-refuses, first_passes}
use Rattle.tables.specs.Sound.{SystemSound}
use Rattle.tables.proofs.Sound.{system-sound}
use Rattle.scalars.specs.Scalars.{scalar_count}
use Rattle.machine.specs.System.{System, blocks, order}
use Rattle.machine.specs.Machine.{State, column_at, Run, going, stopped, run}
use Rattle.layout.specs.Layout.{units_need}
use Rattle.factor_setup.specs.Exact.{stored, numbers, l_starts, l_rows, l_offsets, values_after, units_after, pivots_after}
use Rattle.factor_core.specs.Factorize as factorization
use Rattle.factor_core.proofs.StopLaws.{accepted-run}
use Rattle.analysis.specs.declared.cores.Counts.{Counts}
use Rattle.held_columns.proofs.Held as held
use Rattle.marks.specs.Mark.{silent_of, marks_of}
use Rattle.solution.specs.Solution.{solution}
use Rattle.solve_core.specs.Core.{Solvable, SolvedBy}
use Rattle.fit_factor.specs.Fitted.{Fitted, told, l_room_check, Within, Factor, factor, Fits}
use Rattle.fit_factor.proofs.Laws.{units-few, stored-few}
use Rattle.fit_night.specs.Night as night
use Rattle.fit_night.specs.Night.{Night, Room, Solves}

-- what the lists hold once the factorization has let them go; the parents are not asked for
pub fits-back : {a : System} {b b' : Factor} {r : Fitted} {order l_starts l_rows l_offsets : List ℕ} {l_values diag d : List Float}
    → Fits a b r b' → order ≡ b'.order → l_starts ≡ b'.l_starts → l_rows ≡ b'.l_rows → l_offsets ≡ b'.l_offsets → l_values ≡ b'.l_values → diag ≡ b'.diag → d ≡ b'.d
    → Fits a b r (factor order b'.parents l_starts l_rows l_offsets l_values diag d)
fits-back f order l_starts l_rows l_offsets l_values diag d = rw (order, l_starts, l_rows, l_offsets, l_values, diag, d) f

module _ (a : System) (w : Within a) where
  sound : SystemSound a.dims a.starts a.rows a.values a.perm a.late a.tol
  sound = system-sound _ _ _ _ _ _ _ (ap refuses w.passes)

  -- ---- an accepted factorization

  pub record Accepts (c : Counts) : Type 0 where
    pub state : State
    pub runs : run a ≡ going state
    pub has_room : refuses (l_room_check a) ≡ false
    pub by_stored : c.stored ≡ stored a
    pub by_numbers : c.numbers ≡ numbers a
    pub by_products : c.products ≡ length state.done

  pub accepts : (c : Counts) → told (Ok c) ≡ first_of (l_room_check a) (factorization.answered a (run a)) → Accepts c
  accepts c e = go (ltb 8192 (numbers a)) refl e
    where
      go : (b : Bool) → ltb 8192 (numbers a) ≡ b → told (Ok c) ≡ first_of (cond b no_room done) (factorization.answered a (run a)) → Accepts c
      go true is p = absurd (let z : ◌≡◌ {A = ℕ} 0 16 = ap number p in omega arith)
      go false is p =
          let r = accepted-run a c.stored c.numbers c.products p in
          let q : told (Ok c) ≡ factorization.answered a (going r.0) = p ∙ ap (factorization.answered a) r.1 in
          record {
            state = r.0;
            runs = r.1;
            has_room = ap (λ (t : Bool). refuses (cond t no_room done)) is;
            by_stored = first (stored a) (numbers a) (length r.0.done) q;
            by_numbers = second (stored a) (numbers a) (length r.0.done) q;
            by_products = r.2;
          }
        where
          first : (x y z : ℕ) → told (Ok c) ≡ accepted (x ∷ y ∷ z ∷ []) [] → c.stored ≡ x
          first x y z p = cc

          second : (x y z : ℕ) → told (Ok c) ≡ accepted (x ∷ y ∷ z ∷ []) [] → c.numbers ≡ y
          second x y z p = cc

  -- ---- the lists that it leaves

  module _ (b : Factor) (c : Counts) (b' : Factor) (f : Fits a b (Ok c) b') where
    pub acc : Accepts c
    acc = accepts c f.outcome

    abbrev s : State
    s = acc.state

    now-new : {A : Type 0} (old new : A) → after (l_room_check a) old new ≡ new
    now-new old new = ap (λ (t : Bool). cond t old new) acc.has_room

    order-long : length (order a) ≡ blocks a
    order-long = (held.permutes a sound s acc.runs).entries

    -- the first places of each
    pub order_part : take (blocks a) b'.order ≡ order a
    order_part = ap (take (blocks a)) (f.order ∙ now-new _ _) ∙ take_at (order a) _ (blocks a) order-long

    pub starts_part : take (blocks a + 1) b'.l_starts ≡ l_starts a
    starts_part = ap (take (blocks a + 1)) (f.l_starts ∙ now-new _ _) ∙ take_at (l_starts a) _ (blocks a + 1) (held.good a sound s acc.runs).ordered.entries

    pub rows_part : take c.stored b'.l_rows ≡ l_rows a
    rows_part = ap (λ (m : ℕ). take m b'.l_rows) acc.by_stored ∙ (ap (take (stored a)) (f.l_rows ∙ now-new _ _) ∙ take_at (l_rows a) _ (stored a) (held.rows_long a sound s acc.runs))

    pub offsets_part : take (c.stored + 1) b'.l_offsets ≡ l_offsets a
    offsets_part = ap (λ (m : ℕ). take (m + 1) b'.l_offsets) acc.by_stored ∙ (ap (take (stored a + 1)) (f.l_offsets ∙ now-new _ _) ∙ take_at (l_offsets a) _ (stored a + 1) (held.offsets-long a sound s acc.runs))

    pub values_part : take c.numbers b'.l_values ≡ values_after a (going s)
    values_part =
        ap (λ (m : ℕ). take m b'.l_values) acc.by_numbers
        ∙ (ap (take (numbers a)) (f.l_values ∙ (now-new _ _ ∙ ap (λ (l : List Float). l ++ drop (numbers a) b.l_values) (ap (values_after a) acc.runs))) ∙ take_at (values_after a (going s)) _ (numbers a) (held.values-long a sound s acc.runs))

    pub units_part : take (units_need a.dims) b'.diag ≡ units_after a (going s)
    units_part =
        ap (take (units_need a.dims)) (f.diag ∙ (now-new _ _ ∙ ap (λ (l : List Float). l ++ drop (units_need a.dims) b.diag) (ap (units_after a) acc.runs)))
        ∙ take_at (units_after a (going s)) _ (units_need a.dims) (held.units-long a sound s acc.runs)

    pub pivots_part : take (scalar_count a.dims) b'.d ≡ pivots_after a (going s)
    pivots_part =
        ap (take (scalar_count a.dims)) (f.d ∙ (now-new _ _ ∙ ap (λ (l : List Float). l ++ drop (scalar_count a.dims) b.d) (ap (pivots_after a) acc.runs)))
        ∙ take_at (pivots_after a (going s)) _ (scalar_count a.dims) (held.pivots-long a sound s acc.runs)

    few-numbers : numbers a ≤ 8192
    few-numbers = go (dec_lt 8192 (numbers a))
      where
        go : Dec (8192 < numbers a) → numbers a ≤ 8192
        go (yes h) = absurd (false≢true (sym acc.has_room ∙ ap (λ (t : Bool). refuses (cond t no_room done)) (lt-ltb 8192 (numbers a) h)))
        go (no h) = omega arith

    -- there is room for the solve
    pub room : {i j k l m n o : ℕ} → i ≡ 128 → j ≡ 129 → k ≡ 8128 → l ≡ 8129 → m ≡ 8192 → n ≡ 8192 → o ≡ 512
        → (x marks : ℕ) → x ≡ scalar_count a.dims → marks ≡ scalar_count a.dims → Room a.dims c.stored c.numbers i j k l m n o x marks
    room ei ej ek el em en eo x marks ex ey =
        record {
          blocks = w.blocks;
          scalars = w.scalars;
          of_order = omega (arith, ei, w.blocks);
          of_starts = omega (arith, ej, w.blocks);
          of_rows = omega (arith, ek, acc.by_stored, stored-few a w.passes w.blocks w.scalars);
          of_offsets = omega (arith, el, acc.by_stored, stored-few a w.passes w.blocks w.scalars);
          of_values = omega (arith, em, acc.by_numbers, few-numbers);
          of_diag = omega (arith, en, units-few a w.passes w.blocks w.scalars);
          of_d = omega (arith, eo, w.scalars);
          of_x = ex;
          of_marks = ey;
        }

    -- a factor that can be solved with
    good : Solvable a.dims (order a) (l_starts a) (l_rows a) (l_offsets a) (numbers a) (units_need a.dims) (scalar_count a.dims)
    good =
        record {
          blocks = sound.plan.blocks;
          sizes = sound.plan.sizes;
          permutes = held.permutes a sound s acc.runs;
          columns = held.good a sound s acc.runs;
          bodies = refl;
          values = sym (held.areas-are a sound s acc.runs);
          units = refl;
          pivots = refl;
        }

    pub solvable : Solvable a.dims (take (blocks a) b'.order) (take (blocks a + 1) b'.l_starts) (take c.stored b'.l_rows) (take (c.stored + 1) b'.l_offsets) c.numbers (units_need a.dims) (scalar_count a.dims)
    solvable = rw (order_part, starts_part, rows_part, offsets_part, acc.by_numbers) good

    -- the solution is that of the last state
    pub solved : (x x' : List Float)
        → SolvedBy a.dims (take (blocks a) b'.order) (take (blocks a + 1) b'.l_starts) (take c.stored b'.l_rows) (take (c.stored + 1) b'.l_offsets) (take c.numbers b'.l_values) (take (units_need a.dims) b'.diag) (take (scalar_count a.dims) b'.d) x x'
        → x' ≡ solution a.dims (order a) (column_at s) x
    solved x x' q =
        let q' : SolvedBy a.dims (order a) (l_starts a) (l_rows a) (l_offsets a) (values_after a (going s)) (units_after a (going s)) (pivots_after a (going s)) x x' =
        rw (order_part, starts_part, rows_part, offsets_part, values_part, units_part, pivots_part) at q in
        q' (column_at s) (held.holds a sound s acc.runs)

    -- ---- the answer

    pub answers : (x x' : List Float) (marks marks' : List ℕ) (silent : ℕ)
        → SolvedBy a.dims (take (blocks a) b'.order) (take (blocks a + 1) b'.l_starts) (take c.stored b'.l_rows) (take (c.stored + 1) b'.l_offsets) (take c.numbers b'.l_values) (take (units_need a.dims) b'.diag) (take (scalar_count a.dims) b'.d) x x'
        → silent ≡ silent_of a.tol (take (scalar_count a.dims) b'.d)
        → marks' ≡ marks_of a.dims (take (blocks a) b'.order) a.tol (take (scalar_count a.dims) b'.d)
        → Solves a x marks (Ok (record { stored = c.stored; products = c.products; silent = silent })) x' marks'
    answers x x' marks marks' silent q e m =
        record {
          outcome =
              ap₃ acc.by_stored acc.by_products (e ∙ ap (silent_of a.tol) pivots_part)
              ∙ (sym (ap (night.answered a) acc.runs) ∙ first_passes (l_room_check a) _ acc.has_room);
          solution_is = solved x x' q ∙ (sym (ap (λ (r : Run). night.solution_after a r x) acc.runs) ∙ sym (now-new x _));
          marks_are =
              m ∙ (ap (λ (l : List ℕ). marks_of a.dims l a.tol (take (scalar_count a.dims) b'.d)) order_part ∙ (ap (marks_of a.dims (order a) a.tol) pivots_part
              ∙ (sym (ap (λ (r : Run). night.marks_after a r marks) acc.runs) ∙ sym (now-new marks _))));
        }
      where
        ap₃ : {i i' j j' k k' : ℕ} → i ≡ i' → j ≡ j' → k ≡ k' → accepted (i ∷ j ∷ k ∷ []) [] ≡ accepted (i' ∷ j' ∷ k' ∷ []) []
        ap₃ p q r = rw (p, q, r) refl

  -- ---- a night that is refused: nothing is changed

  pub refused : (f : Fitted) (r : Night) (x : List Float) (marks : List ℕ) → refuses (told f) ≡ true → night.told r ≡ told f
      → told f ≡ first_of (l_room_check a) (factorization.answered a (run a)) → Solves a x marks r x marks
  refused f r x marks stops e o = go (ltb 8192 (numbers a)) refl (run a) refl o
    where
      go : (b : Bool) → ltb 8192 (numbers a) ≡ b → (q : Run) → run a ≡ q → told f ≡ first_of (cond b no_room done) (factorization.answered a q) → Solves a x marks r x marks
      go true is q runs p =
          let all : refuses (l_room_check a) ≡ true = ap (λ (t : Bool). refuses (cond t no_room done)) is in
          record {
            outcome = e ∙ (p ∙ (sym (ap (λ (t : Bool). cond t no_room done) is) ∙ first-refuses (l_room_check a) _ all));
            solution_is = sym (ap (λ (t : Bool). cond t x (night.solution_after a (run a) x)) all);
            marks_are = sym (ap (λ (t : Bool). cond t marks (night.marks_after a (run a) marks)) all);
          }
      go false is (going s) runs p = absurd (false≢true (sym (ap refuses p) ∙ stops))
      go false is (stopped t) runs p =
          let none : refuses (l_room_check a) ≡ false = ap (λ (t : Bool). refuses (cond t no_room done)) is in
          record {
            outcome = e ∙ (p ∙ (sym (ap (night.answered a) runs) ∙ first_passes (l_room_check a) _ none));
            solution_is = sym (ap (λ (t : Bool). cond t x (night.solution_after a (run a) x)) none ∙ ap (λ (r : Run). night.solution_after a r x) runs);
            marks_are = sym (ap (λ (t : Bool). cond t marks (night.marks_after a (run a) marks)) none ∙ ap (λ (r : Run). night.marks_after a r marks) runs);
          }
