-- The first buffer that is short decides, and where none is, each need is met. Assumes nothing.
use Prim.Native.Nat.{ℕ, suc, ◌≤◌, ◌<◌, min}
use mathlib.Core.Bool.{true, false, false≢true}
use mathlib.Core.List.{List, [], ◌∷◌}
use mathlib.Core.Path.{◌≡◌, refl, sym, ap, ◌∙◌}
use native.Mathlib.Omega.{arith}
use native.Mathlib.Decide.{dec_lt}
use lib.ListN.{length, get_or, drop, drop_of_length-le}
use lib.Seq.{drop-cons}
use Rattle.refusal.specs.Refusal.{Told, done, refuses, verdict}
use Rattle.refusal.specs.Check.{need_check}
use Rattle.refusal.proofs.Laws.{verdict-stops, verdict-goes, need-short, need-met}
use Rattle.needs.specs.Needs.{Lent, lent_from, need_checks, AllMet, told_error}
use Rattle.needs.specs.declared.ShortBuffer.{ShortBuffer}

-- the law of 11: where no buffer is short, each need is met
pub all-met : (bs : List Lent) → refuses (verdict (need_checks bs)) ≡ false → AllMet bs
all-met [] e = tt
all-met (b ∷ bs) e = go (all-met bs) (dec_lt b.have b.need)
  where
    go : (refuses (verdict (need_checks bs)) ≡ false → AllMet bs) → Dec (b.have < b.need) → AllMet (b ∷ bs)
    go others (yes h) =
        let stops : refuses (need_check b.which b.have b.need) ≡ true = ap refuses (need-short b.which b.have b.need h) in
        absurd (false≢true (sym e ∙ (ap refuses (verdict-stops _ (need_checks bs) stops) ∙ stops)))
    go others (no h) = (omega arith, others (sym (ap refuses (verdict-goes _ (need_checks bs) (need-met b.which b.have b.need (omega arith)))) ∙ e))

-- ---- the loop

-- what is left of the list at place i
abbrev pub rest : (have need : List ℕ) → ℕ → Told
rest have need i = verdict (need_checks (lent_from i (drop i have) (drop i need)))

module _ (have need : List ℕ) (i : ℕ) where
  -- the list has ended
  pub rest_end : length have ≤ i → rest have need i ≡ done
  rest_end h = ap (λ (l : List ℕ). verdict (need_checks (lent_from i l (drop i need)))) (drop_of_length-le have h)

  pub rest-cut : length need ≤ i → rest have need i ≡ done
  rest-cut h = ap (λ (l : List ℕ). verdict (need_checks (lent_from i (drop i have) l))) (drop_of_length-le need h) ∙ none (drop i have)
    where
      none : (l : List ℕ) → verdict (need_checks (lent_from i l [])) ≡ done
      none [] = refl
      none (x ∷ l) = refl

  -- one of the two has ended
  pub rest_out : min (length have) (length need) ≤ i → rest have need i ≡ done
  rest_out h = by-length (dec_lt i (length have))
    where
      by-length : Dec (i < length have) → rest have need i ≡ done
      by-length (yes a) = rest-cut (omega arith)
      by-length (no a) = rest_end (omega arith)

  module _ (h : i < length have) (n : i < length need) where
    front : rest have need i ≡ verdict (need_check i (get_or have i 0) (get_or need i 0) ∷ need_checks (lent_from (suc i) (drop (suc i) have) (drop (suc i) need)))
    front = ap (λ (l : List ℕ). verdict (need_checks (lent_from i l (drop i need)))) (drop-cons have i 0 h)
        ∙ ap (λ (l : List ℕ). verdict (need_checks (lent_from i (get_or have i 0 ∷ drop (suc i) have) l))) (drop-cons need i 0 n)

    -- this buffer is short
    pub rest_short : (w : ShortBuffer) → told_error w ≡ need_check i (get_or have i 0) (get_or need i 0) → rest have need i ≡ told_error w
    rest_short w e = front ∙ (verdict-stops _ (need_checks (lent_from (suc i) (drop (suc i) have) (drop (suc i) need))) (ap refuses (sym e)) ∙ sym e)
