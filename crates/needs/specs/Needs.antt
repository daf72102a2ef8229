-- 11 of document 01 as one list: what a call is lent and what it needs. Assumes nothing.
use Rattle.std.specs.Prelude.{ℕ, suc, ◌≤◌, List, [], ◌∷◌, Result}
use Rattle.refusal.specs.Refusal.{Told, done, short_buffer, told_by}
use Rattle.refusal.specs.Check.{need_check}
use Rattle.needs.specs.declared.ShortBuffer.{ShortBuffer}

-- a buffer: which of the call's, its length, and the call's need
pub record Lent : Type 0 where
  pub which : ℕ
  pub have : ℕ
  pub need : ℕ

-- lengths and needs, in the order of the call, as one list; the first is buffer `which`
abbrev pub lent_from : (which : ℕ) → (have need : List ℕ) → List Lent
lent_from which [] needs = []
lent_from which (h ∷ hs) [] = []
lent_from which (h ∷ hs) (x ∷ xs) = record { which = which; have = h; need = x } ∷ lent_from (suc which) hs xs

-- a check for each: the verdict of the list is the refusal of the first that is short
abbrev pub need_checks : List Lent → List Told
need_checks [] = []
need_checks (b ∷ bs) = need_check b.which b.have b.need ∷ need_checks bs

-- each need is met
abbrev pub AllMet : List Lent → Type 0
AllMet [] = Unit {0}
AllMet (b ∷ bs) = (b.need ≤ b.have) × AllMet bs

-- document 01's number and values
abbrev pub told_error : ShortBuffer → Told
told_error e = short_buffer e.which e.need

abbrev pub told : Result Unit ShortBuffer → Told
told = told_by (λ w. done) told_error
