-- The text of a night by what was answered of it, and that of a sheet.
--     night-refused, night-accepted   after the plan
--     sheet-refused, sheet-accepted   before it
-- Assumes nothing.
use Rattle.std.specs.Prelude.{◌≡◌, ℕ, zero, suc, ◌+◌, ◌≤◌, Bool, true, false, cond, eqb, ltb, leb, List, [], ◌∷◌, ◌++◌, length, take, replicate, Ok}
use mathlib.Core.Bool.{false≢true}
use mathlib.Core.Path.{refl, sym, ap, subst, ◌∙◌}
use native.Mathlib.Omega.{arith}
use borrow.Author.Tests.{le-leb, eq-eqb}
use lib.Ieee.{Float}
use lib.ListN.{length-append, length-replicate, length-take}
use lib.Seq.{length-take-le, take_at}
use Rattle.refusal.specs.Refusal.{Told, tells, number, accepted, done, no_room, refuses, first_of, verdict, short_buffer, shapes_disagree}
use Rattle.refusal.proofs.Laws.{both-pass, verdict-goes}
use Rattle.scalars.specs.Scalars.{scalar_count}
use Rattle.machine.specs.System.{System, blocks}
use Rattle.machine.specs.Machine.{Run, going, stopped, run}
use Rattle.factor_setup.specs.Exact.{system, numbers}
use Rattle.fit_factor.specs.Fitted as fitted
use Rattle.fit_factor.specs.Fitted.{l_room_check, Within}
use Rattle.fit_factor.specs.declared.cores.FitError.{FitError}
use Rattle.fit_factor.specs.declared.cores.FitError.TheVariants as fit
use Rattle.fit_factor.proofs.Laws.{stopped-refuses}
use Rattle.fit_night.specs.Night as night
use Rattle.fit_night.specs.Night.{Solves}
use Rattle.fit_night.specs.declared.cores.Tally.{Tally}
use Rattle.sheet_bytes.specs.Layout.{blocks_of, stored_of, tol_of}
use Rattle.sheet_check.specs.Sheet.{value_count, scalars_of, system_of, right_side_of, sheet_verdict}
use Rattle.sheet_check.specs.Outcome as outcome
use Rattle.sheet_check.specs.Outcome.{sheet_told}
use Rattle.sheet_check.specs.declared.cores.Night.{Night as Night'}
use Rattle.sheet_check.specs.declared.cores.SheetError.{SheetError}
use Rattle.sheet_check.specs.declared.cores.SheetError.TheVariants as sheet
use Rattle.sheet.specs.Reads.{Holds}
use Rattle.render.specs.Lines.{refused_line, answer_text}
use Rattle.render.specs.Rendered.{shape_checks, text_verdict, answer_verdict, Renders}
use Rattle.fit_answer.specs.Fit.{refused_or, run_text, night_text, printed}

-- ---- each error is a refusal

pub fit-refuses : (e : FitError) → refuses (fitted.told_error e) ≡ true
fit-refuses (fit.NotFinite block place pivot) = refl
fit-refuses (fit.Poor block condition) = refl
fit-refuses fit.Room = refl

pub sheet-refuses : (e : SheetError) → refuses (outcome.told_error e) ≡ true
sheet-refuses (sheet.Dimension place) = refl
sheet-refuses (sheet.Column place) = refl
sheet-refuses (sheet.Row place) = refl
sheet-refuses (sheet.Order place) = refl
sheet-refuses (sheet.Permutation place) = refl
sheet-refuses (sheet.Late place) = refl
sheet-refuses sheet.Tolerance = refl
sheet-refuses sheet.Length = refl
sheet-refuses sheet.Room = refl

-- ---- parts of a room

-- the first m places of a room of r
pub part : {A : Type 0} (x : A) (m r : ℕ) → m ≤ r → m ≡ length (take m (replicate r x))
part x m r h = sym (length-take-le m (replicate r x) (omega (arith, length-replicate r x)))

-- a part put back stands in the room
pub within : {A : Type 0} (m : ℕ) (p q : List A) → length p ≡ m → m ≤ length (p ++ q)
within m p q e = omega (arith, length-append p q)

pub again : {A : Type 0} (m : ℕ) (p q : List A) → length p ≡ m → m ≡ length (take m (p ++ q))
again m p q e = sym (ap length (take_at p q m e) ∙ e)

-- as many as were taken were there
pub were-there : {A : Type 0} (m : ℕ) (l : List A) → length (take m l) ≡ m → m ≤ length l
were-there m l e = omega (arith, length-take m l)

-- ---- after the plan

module _ (a : System) (b : List Float) where
  pub night-refused : (t : Told) → t ≡ first_of (l_room_check a) (night.answered a (run a)) → refuses t ≡ true → refused_line (number t) ≡ night_text a b
  unfolding night_text
  night-refused t e stops = go (ltb 8192 (numbers a)) (run a) e
    where
      go : (c : Bool) (r : Run) → t ≡ first_of (cond c no_room done) (night.answered a r) → refused_line (number t) ≡ refused_or (cond c no_room done) (run_text a r b)
      go true r p = ap (λ (u : Told). refused_line (number u)) p
      go false (going s) p = absurd (false≢true (sym (ap refuses p) ∙ stops))
      go false (stopped u) p = ap (λ (u : Told). refused_line (number u)) p

  module _ (m : List ℕ) (t : Tally) (x : List Float) (marks : List ℕ) (q : Solves a b m (Ok t) x marks) where
    pub night-accepted : answer_text (blocks a) t.stored t.products t.silent x marks ≡ night_text a b
    unfolding night_text
    night-accepted = go (ltb 8192 (numbers a)) (run a) refl q.outcome q.solution_is q.marks_are
      where
        parts : (i j k i' j' k' : ℕ) → accepted (i ∷ j ∷ k ∷ []) [] ≡ accepted (i' ∷ j' ∷ k' ∷ []) [] → (i ≡ i') × (j ≡ j') × (k ≡ k')
        parts i j k i' j' k' p = (cc, cc, cc)

        go : (c : Bool) (r : Run) → run a ≡ r → night.told (Ok t) ≡ first_of (cond c no_room done) (night.answered a r)
            → x ≡ cond (refuses (cond c no_room done)) b (night.solution_after a r b) → marks ≡ cond (refuses (cond c no_room done)) m (night.marks_after a r m)
            → answer_text (blocks a) t.stored t.products t.silent x marks ≡ refused_or (cond c no_room done) (run_text a r b)
        go true r runs p ex em = absurd (let z : ◌≡◌ {A = ℕ} 0 16 = ap number p in omega arith)
        go false (going s) runs p ex em =
            let e = parts _ _ _ _ _ _ p in
            rw (e.0, e.1, e.2, ex, em) refl
        go false (stopped u) runs p ex em = absurd (false≢true (ap refuses p ∙ stopped-refuses a u runs))

-- ---- the text is rendered

-- under a verdict on the text alone
module _ (text' text out : List ℕ) (e : text' ≡ text) (r : Told) (out' : List ℕ) where
  pub renders-as : Renders (text_verdict text' out) text' out r out' → Renders (text_verdict text out) text out r out'
  renders-as q = subst (λ (t : List ℕ). Renders (text_verdict t out) t out r out') e q

  -- under that of an answer, whose solution and marks are as long as they must be
  pub answer-renders : (x : List Float) (marks : List ℕ) → length x ≤ 65536 → length marks ≡ length x → Renders (answer_verdict x marks text' out) text' out r out' → Renders (text_verdict text out) text out r out'
  answer-renders x marks few same q = renders-as (subst (λ (v : Told). Renders v text' out r out') passes q)
    where
      shape : verdict (shape_checks x marks) ≡ done
      shape =
          verdict-goes (cond (leb (length x) 65536) done (shapes_disagree 0)) (cond (eqb (length marks) (length x)) done (shapes_disagree 1) ∷ []) (ap (λ (b : Bool). cond b done (shapes_disagree 0)) (le-leb (length x) 65536 few))
          ∙ verdict-goes (cond (eqb (length marks) (length x)) done (shapes_disagree 1)) [] (ap (λ (b : Bool). cond b done (shapes_disagree 1)) (eq-eqb (length marks) (length x) same))

      passes : answer_verdict x marks text' out ≡ text_verdict text' out
      passes = ap (λ (v : Told). first_of v (text_verdict text' out)) shape

-- what is told of a text is 0 or 11
pub told-of-text : (text out : List ℕ) (t : Told) (out' : List ℕ) → Renders (text_verdict text out) text out t out' → eqb (number t) 12 ≡ false
told-of-text text out t out' q = ap (λ (u : Told). eqb (number u) 12) q.outcome ∙ go (ltb (length out) (length text))
  where
    go : (c : Bool) → eqb (number (first_of (cond c (short_buffer 0 (length text)) done) (accepted (length text ∷ []) []))) 12 ≡ false
    go true = refl
    go false = refl

-- ---- before the plan

module _ (s : List ℕ) where
  pub sheet-refused : (t : Told) → t ≡ sheet_told s → refuses t ≡ true → refused_line (number t) ≡ printed s
  unfolding printed
  sheet-refused t e stops = go (sheet_verdict s) e
    where
      go : (v : Told) → t ≡ first_of v (accepted (blocks_of s ∷ stored_of s ∷ value_count s ∷ scalars_of s ∷ []) (tol_of s ∷ [])) → refused_line (number t) ≡ refused_or v (night_text (system_of s) (right_side_of s))
      go (tells zero is xs) p = absurd (false≢true (sym (ap refuses p) ∙ stops))
      go (tells (suc n) is xs) p = ap (λ (u : Told). refused_line (number u)) p

  pub sheet-accepted : refuses (sheet_verdict s) ≡ false → night_text (system_of s) (right_side_of s) ≡ printed s
  unfolding printed
  sheet-accepted e = sym (ap (λ (b : Bool). cond b (refused_line (number (sheet_verdict s))) (night_text (system_of s) (right_side_of s))) e)

-- what the lists hold once the reading has let them go
pub holds-back : {s : List ℕ} {w : Night'} {dims late perm starts rows dims' late' perm' starts' rows' : List ℕ} {values right values' right' : List Float}
    → Holds s w dims' late' perm' starts' rows' values' right'
    → dims ≡ dims' → late ≡ late' → perm ≡ perm' → starts ≡ starts' → rows ≡ rows' → values ≡ values' → right ≡ right'
    → Holds s w dims late perm starts rows values right
holds-back h dims late perm starts rows values right = rw (dims, late, perm, starts, rows, values, right) h

-- the sheet's night in the first places of the rooms
module _ (s : List ℕ) (w : Night') (e : outcome.told (Ok w) ≡ sheet_told s) (dims late perm starts rows : List ℕ) (values right : List Float) (h : Holds s w dims late perm starts rows values right) where
  pub night-within : Within (system (take w.blocks dims) (take (w.blocks + 1) starts) (take w.stored rows) (take w.values values) (take w.blocks perm) (take w.blocks late) w.tol)
  night-within =
      let z = h.sound in
      rw (h.of_dims, h.of_starts, h.of_rows, h.of_values, h.of_perm, h.of_late, h.tol)
      (record { passes = z.system; blocks = omega (arith, z.of_dims, z.blocks); rows = omega (arith, z.of_rows, z.stored); scalars = z.scalars })

  pub night-printed : night_text (system (take w.blocks dims) (take (w.blocks + 1) starts) (take w.stored rows) (take w.values values) (take w.blocks perm) (take w.blocks late) w.tol) (take w.scalars right) ≡ printed s
  night-printed =
      rw (h.of_dims, h.of_starts, h.of_rows, h.of_values, h.of_perm, h.of_late, h.of_right, h.tol)
      (sheet-accepted s (both-pass (sheet_verdict s) _ (sym (ap refuses e))).0)
