-- The laws of the checks of a sheet: what each says where its test fails and where it holds, and what a list of them tells.
-- Assumes nothing.
use Rattle.std.specs.Prelude.{◌≡◌, ℕ, ◌<◌, ◌≤◌, true, false, cond, eqb, List, ◌∷◌, length}
use mathlib.Core.Path.{refl, sym, ap, ◌∙◌}
use borrow.Author.Tests.{lt-ltb, le-ltb, ltb-false, eq-eqb, ne_eqb, eqb-true}
use Rattle.refusal.specs.Refusal.{Told, done, refuses, verdict, first_of, bad_sheet, no_room}
use Rattle.refusal.proofs.Laws.{first-refuses, of_test}
use Rattle.tables.specs.Sound.{Ordered}
use Rattle.tables.proofs.CheckLaws.{stops, goes, fails-passes}
use Rattle.contents.proofs.Laws.{starts-ordered}
use Rattle.sheet_check.specs.Checks.{room_check, Unpacked, Laid}
use Rattle.sheet_check.specs.Sheet.{cut_check}

-- ---- a list of checks, from its front, and what is told where all pass

module _ (night : Told) where
  pub told-stops : {check v : Told} (checks : List Told) → check ≡ v → refuses v ≡ true → v ≡ first_of (verdict (check ∷ checks)) night
  told-stops checks e r = let w = stops checks e r in w ∙ first-refuses _ night (sym (ap refuses w) ∙ r)

  pub told-goes : {check : Told} (checks : List Told) → check ≡ done → first_of (verdict checks) night ≡ first_of (verdict (check ∷ checks)) night
  told-goes checks e = ap (λ (t : Told). first_of t night) (goes checks e)

-- ---- 16

module _ (room count : ℕ) where
  pub room-stop : room < count → room_check room count ≡ no_room
  room-stop h = rw (lt-ltb room count h)

  pub room_go : count ≤ room → room_check room count ≡ done
  room_go h = rw (le-ltb room count h)

-- ---- 15

module _ (need : ℕ) (s : List ℕ) where
  pub cut-stop : length s < need → cut_check need s ≡ bad_sheet
  cut-stop h = rw (lt-ltb (length s) need h)

  pub cut-go : need ≤ length s → cut_check need s ≡ done
  cut-go h = rw (le-ltb (length s) need h)

module _ (size end : ℕ) where
  pub end-stop : (size ≡ end → ⊥) → cond (eqb size end) done bad_sheet ≡ bad_sheet
  end-stop h = rw (ne_eqb size end h)

  pub end-go : size ≡ end → cond (eqb size end) done bad_sheet ≡ done
  end-go h = rw (eq-eqb size end h)

-- ---- what a check that passes says

pub room-passes : (room count : ℕ) → refuses (room_check room count) ≡ false → count ≤ room
room-passes room count h = ltb-false room count (fails-passes _ _ refl h)

pub cut-passes : (need : ℕ) (s : List ℕ) → refuses (cut_check need s) ≡ false → need ≤ length s
cut-passes need s h = ltb-false (length s) need (fails-passes _ _ refl h)

pub end-passes : (size end : ℕ) → refuses (cond (eqb size end) done bad_sheet) ≡ false → size ≡ end
end-passes size end h = eqb-true size end (of_test _ _ refl h)

-- ---- tables that have passed 2 and 3

pub ordered : {dims starts rows columns offsets : List ℕ} {bodies : ℕ} → Unpacked dims rows columns offsets bodies → Laid dims starts columns → Ordered starts (length dims) (length rows)
ordered {dims = dims} {columns = columns} u l = rw (u.as_rows, l.by_starts) (starts-ordered columns (length dims) l.sorted)
