-- The laws of verdicts and of checks. Assumes nothing.
use mathlib.Core.Path.{◌≡◌, refl, sym, ◌∙◌, ap}
use mathlib.Core.Bool.{Bool, true, false, cond}
use Prim.Native.Nat.{ℕ, zero, suc, ◌*◌, ◌≤◌, ◌<◌}
use native.Mathlib.Omega.{arith}
use borrow.Author.Tests.{eqb-true, eq-eqb, ne_eqb, lt-ltb, le-ltb}
use Rattle.refusal.specs.Refusal.{Told, tells, done, short_buffer, shapes_disagree, refuses, first_of, verdict_after, verdict}
use Rattle.refusal.specs.Check.{need_check, area_check}
use Rattle.refusal.specs.Shaped.{told_error}
use Rattle.refusal.specs.declared.ShapeError.{ShapeError}
use Rattle.refusal.specs.declared.ShapeError.TheVariants.{Dimension, Mismatch}
use mathlib.Core.List.{List, [], ◌∷◌}

-- ---- verdicts

-- a verdict that refuses is the first of two
pub first-refuses : (v next : Told) → refuses v ≡ true → v ≡ first_of v next
first-refuses (tells zero is xs) next e = cc
first-refuses (tells (suc n) is xs) next e = refl

-- after one that passes, the next decides
pub first_passes : (v next : Told) → refuses v ≡ false → next ≡ first_of v next
first_passes (tells zero is xs) next e = refl
first_passes (tells (suc n) is xs) next e = cc

-- where the first of two passes, both pass
pub both-pass : (v next : Told) → refuses (first_of v next) ≡ false → (refuses v ≡ false) × (refuses next ≡ false)
both-pass (tells zero is xs) next e = (refl, e)
both-pass (tells (suc n) is xs) next e = (e, cc)

-- ---- a list of checks, from its front

-- a verdict that refuses stays
pub stays-refused : (v : Told) (checks : List Told) → refuses v ≡ true → verdict_after v checks ≡ v
stays-refused v [] e = refl
stays-refused v (check ∷ checks) e = ap (λ (t : Told). verdict_after t checks) (sym (first-refuses v check e)) ∙ stays-refused v checks e

-- the first check refuses
pub verdict-stops : (check : Told) (checks : List Told) → refuses check ≡ true → verdict (check ∷ checks) ≡ check
verdict-stops check checks e = stays-refused check checks e

-- the first check passes
pub verdict-goes : (check : Told) (checks : List Told) → check ≡ done → verdict (check ∷ checks) ≡ verdict checks
verdict-goes check checks e = ap (λ (t : Told). verdict_after t checks) e

-- ---- what a check says

pub need-short : (which have need : ℕ) → have < need → need_check which have need ≡ short_buffer which need
need-short which have need h = rw (lt-ltb have need h)

pub need-met : (which have need : ℕ) → need ≤ have → need_check which have need ≡ done
need-met which have need h = rw (le-ltb have need h)

pub area-differs : (place h w count : ℕ) → (count ≡ h * w → ⊥) → area_check place h w count ≡ shapes_disagree place
area-differs place h w count e = rw (ne_eqb count (h * w) e)

pub area-fits : (place h w count : ℕ) → count ≡ h * w → area_check place h w count ≡ done
area-fits place h w count e = rw (eq-eqb count (h * w) e)

-- ---- what a check that passes says

pub of_test : (b : Bool) (v : Told) → refuses v ≡ true → refuses (cond b done v) ≡ false → b ≡ true
of_test true v r e = refl
of_test false v r e = cc

pub area-passes : (place h w count : ℕ) → refuses (area_check place h w count) ≡ false → count ≡ h * w
area-passes place h w count e = eqb-true _ _ (of_test _ _ refl e)

-- a slice as long as one column
pub column-passes : (place n count : ℕ) → refuses (area_check place n 1 count) ≡ false → count ≡ n
column-passes place n count e = omega (arith, area-passes place n 1 count e)

-- ---- what a list of checks that passes says

abbrev pub AllPass : List Told → Type 0
AllPass [] = Unit
AllPass (check ∷ checks) = (refuses check ≡ false) × AllPass checks

all-pass-after : (v : Told) (checks : List Told) → refuses (verdict_after v checks) ≡ false → (refuses v ≡ false) × AllPass checks
all-pass-after v [] e = (e, tt)
all-pass-after v (check ∷ checks) e =
    let rest = all-pass-after (first_of v check) checks e in
    let both = both-pass v check rest.0 in
    (both.0, (both.1, rest.1))

pub all_pass : (checks : List Told) → refuses (verdict checks) ≡ false → AllPass checks
all_pass checks e = (all-pass-after done checks e).1

-- and back: checks of which none refuses pass, after a verdict that does not refuse
pub pass-after : (v : Told) (checks : List Told) → refuses v ≡ false → AllPass checks → refuses (verdict_after v checks) ≡ false
pass-after v [] e p = e
pass-after v (check ∷ checks) e p = pass-after (first_of v check) checks (sym (ap refuses (first_passes v check e)) ∙ p.0) p.1

-- ---- one check after the other, each by `?`: what `grind` is handed

pub after_error : (e : ShapeError) (next : Told) → first_of (told_error e) next ≡ told_error e
after_error (Dimension place) next = refl
after_error (Mismatch place) next = refl

pub after_done : (next : Told) → first_of done next ≡ next
after_done next = refl

pub ruleset in_order = (after_error, after_done)
