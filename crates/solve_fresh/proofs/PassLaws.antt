-- A list of checks of which none refuses passes. Assumes nothing.
use mathlib.Core.Bool.{false}
use mathlib.Core.List.{List, [], ◌∷◌}
use mathlib.Core.Path.{◌≡◌, refl, sym, ap, ◌∙◌}
use Rattle.refusal.specs.Refusal.{Told, done, refuses, first_of, verdict_after, verdict}
use Rattle.refusal.proofs.Laws.{AllPass, first_passes, both-pass, need-met, pass-after}
use Rattle.needs.specs.Needs.{Lent, need_checks, AllMet}

-- where both pass, the first of two does
pub first-pass : (v next : Told) → refuses v ≡ false → refuses next ≡ false → refuses (first_of v next) ≡ false
first-pass v next a b = ap refuses (sym (first_passes v next a)) ∙ b

pub pass_all : (checks : List Told) → AllPass checks → refuses (verdict checks) ≡ false
pass_all checks p = pass-after done checks refl p

-- where a list of checks passes after a verdict, that verdict does
pub pass-before : (v : Told) (checks : List Told) → refuses (verdict_after v checks) ≡ false → refuses v ≡ false
pass-before v [] e = e
pass-before v (check ∷ checks) e = (both-pass v check (pass-before (first_of v check) checks e)).0

-- needs that are met pass
pub needs-pass : (bs : List Lent) → AllMet bs → AllPass (need_checks bs)
needs-pass [] m = tt
needs-pass (b ∷ bs) m = (ap refuses (need-met b.which b.have b.need m.0), needs-pass bs m.1)
