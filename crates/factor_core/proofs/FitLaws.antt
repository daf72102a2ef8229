-- The needs that only the plan shows.
--     offsets_short, values_short, cache_short, rows_short, all_there    the four needs, in their order
--     met, told-needs                                                    where nothing is refused; the same needs told otherwise
--     join-length                                                        a front that was changed in place leaves the length
-- Assumes nothing.
use Rattle.std.specs.Prelude.{◌≡◌, ℕ, ◌+◌, ◌<◌, ◌≤◌, List, ◌++◌, length, take, drop}
use mathlib.Core.Path.{refl, sym, ap, ◌∙◌}
use lib.ListN.{length-append, take-append-drop}
use Rattle.refusal.specs.Refusal.{Told, done, short_buffer, refuses, verdict}
use Rattle.refusal.proofs.Laws.{need-short, need-met}
use Rattle.needs.specs.Needs.{need_checks}
use Rattle.needs.proofs.Laws.{all-met}
use Rattle.factor_core.specs.Written.{plan_needs}
use Rattle.factor_core.specs.Cache.{lesser}

-- ---- the four needs

module _ (o v c r s m k : ℕ) where
  abbrev planned : Told
  planned = verdict (need_checks (plan_needs o v c r s m k))

  pub offsets_short : o < s + 1 → short_buffer 4 (s + 1) ≡ planned
  offsets_short h = rw (need-short 4 o (s + 1) h) refl

  pub values_short : s + 1 ≤ o → v < m → short_buffer 5 m ≡ planned
  values_short h i = rw (need-met 4 o (s + 1) h, need-short 5 v m i) refl

  pub cache_short : s + 1 ≤ o → m ≤ v → c < k → short_buffer 21 k ≡ planned
  cache_short h i l = rw (need-met 4 o (s + 1) h, need-met 5 v m i, need-short 21 c k l) refl

  pub rows_short : s + 1 ≤ o → m ≤ v → k ≤ c → r < s → short_buffer 3 s ≡ planned
  rows_short h i l n = rw (need-met 4 o (s + 1) h, need-met 5 v m i, need-met 21 c k l, need-short 3 r s n) refl

  pub all_there : s + 1 ≤ o → m ≤ v → k ≤ c → s ≤ r → done ≡ planned
  all_there h i l n = rw (need-met 4 o (s + 1) h, need-met 5 v m i, need-met 21 c k l, need-met 3 r s n) refl

  -- where nothing is refused, all are met
  pub met : done ≡ planned → (s + 1 ≤ o) × (m ≤ v) × (k ≤ c) × (s ≤ r)
  met e = let g = all-met (plan_needs o v c r s m k) (sym (ap refuses e)) in (g.0, g.1.0, g.1.1.0, g.1.1.1.0)

-- with what L has as it is defined
pub told-needs : (o v c r most : ℕ) {s s' m m' : ℕ} → s ≡ s' → m ≡ m'
    → verdict (need_checks (plan_needs o v c r s m (lesser m most))) ≡ verdict (need_checks (plan_needs o v c r s' m' (lesser m' most)))
told-needs o v c r most {s} {s'} {m} {m'} es em =
    ap (λ (k : ℕ). verdict (need_checks (plan_needs o v c r k m (lesser m most)))) es
    ∙ ap (λ (k : ℕ). verdict (need_checks (plan_needs o v c r s' k (lesser k most)))) em

-- a front that was changed in place leaves the length
pub join-length : {A : Type 0} (n : ℕ) (xs ys : List A) → length ys ≡ length (take n xs) → length (ys ++ drop n xs) ≡ length xs
join-length n xs ys e =
    length-append ys (drop n xs)
    ∙ (ap (λ (k : ℕ). k + length (drop n xs)) e ∙ (sym (length-append (take n xs) (drop n xs)) ∙ ap {A = List _} length (take-append-drop n xs)))
