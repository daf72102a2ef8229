-- The needs under another name, the needs that an empty buffer's checks tell, and the bound on a cache's. Assumes nothing.
use Rattle.std.specs.Prelude.{◌≡◌, ℕ, zero, suc, ◌+◌, ◌*◌, List, [], ◌∷◌, length}
use mathlib.Core.Path.{refl, sym, ap, ◌∙◌}
use native.Mathlib.Omega.{arith}
use lib.Ieee.{Float}
use lib.ListN.{length-replicate}
use Rattle.scalar.specs.Scalar.{nought}
use Rattle.refusal.specs.Refusal.{Told}
use Rattle.refusal.specs.Check.{need_check}
use Rattle.refusal.proofs.Laws.{need-short}
use Rattle.factor_core.specs.Cache.{most_kept}
use Rattle.needs_abi.specs.Needs.{need_told, tree_needs, shaped, ExportsNeeds}

-- ---- an answer

-- the same needs under another name
pub same-needs : {v : Told} {list other : List ℕ} {r : ℕ} {needs told : List ℕ} → list ≡ other → ExportsNeeds v list r needs told → ExportsNeeds v other r needs told
same-needs e t = rw e at t

-- ---- the need of an empty buffer

pub empty-tells : (which need : ℕ) → need ≡ need_told (need_check which 0 need)
empty-tells which zero = refl
empty-tells which (suc n) = ap need_told (sym (need-short which 0 (suc n) (omega arith)))

-- the tree's needs, which are the walk's too
pub each_tells : (n : ℕ) → n ∷ n ∷ [] ≡ tree_needs n
each_tells n = ap (λ (k : ℕ). k ∷ n ∷ []) (empty-tells 0 n) ∙ ap (λ (k : ℕ). need_told (need_check 0 0 n) ∷ k ∷ []) (empty-tells 1 n)

-- ---- what is handed in

-- the bound on the cache's need, by the lengths alone
pub bound : (dims : List ℕ) (m numbers : ℕ) → let n = length dims in most_kept (shaped dims m numbers) ≡ 16 * (1 + (n + (n + 1) + m + numbers + n + n))
bound dims m numbers =
    let n = length dims in
    rw (length-replicate {A = ℕ} (n + 1) 0, length-replicate {A = ℕ} m 0, length-replicate {A = Float} numbers nought, length-replicate {A = ℕ} n 0)
