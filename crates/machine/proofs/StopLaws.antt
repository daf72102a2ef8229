-- Where a refused run stops.
--     run-next   one column more
--     stops      the claim
-- Assumes nothing.
use Prim.Native.Nat.{ℕ, zero, suc, ◌+◌, ◌-◌, ◌≤◌}
use mathlib.Core.Path.{◌≡◌, refl, sym, ap, ◌∙◌}
use native.Mathlib.Omega.{arith}
use Rattle.scalar.specs.Loop.{steps}
use Rattle.refusal.specs.Refusal.{Told}
use Rattle.machine.specs.System.{System, blocks}
use Rattle.machine.specs.Machine.{State, Made, made, refused, worked, made_of, Run, going, stopped, stored, work_column, run_to, run}
use Rattle.machine.specs.Claims.{StopsAt, Stops}

module _ (a : System) where
  pub run-next : (j : ℕ) (s : State) → run_to a j ≡ going s → run_to a (suc j) ≡ stored (worked a j s) (made_of a j s)
  unfolding run_to steps work_column
  run-next j s e = ap (work_column a j) e

  module _ (t : Told) where
    -- a run that stopped stays as it is
    pub stays : (j d : ℕ) → run_to a j ≡ stopped t → run_to a (j + d) ≡ stopped t
    unfolding run_to steps work_column
    stays j zero e = let z : j + 0 ≡ j = omega arith in ap (run_to a) z ∙ e
    stays j (suc d) e = let z : j + suc d ≡ suc (j + d) = omega arith in ap (run_to a) z ∙ ap (work_column a (j + d)) (stays j d e)

    -- and there is a column at which it did
    found : (m : ℕ) → m ≤ blocks a → run_to a m ≡ stopped t → (j : ℕ) × (s : State) × StopsAt a t j s
    unfolding run_to steps work_column stored
    found zero le e = absurd (let z : ◌≡◌ {A = ℕ} 0 1 = cc in omega arith)
    found (suc m) le e = go (run_to a m) refl e (found m (omega arith))
      where
        out : (u : Told) → stopped u ≡ stopped t → u ≡ t
        out u p = cc

        made-not : (s : State) (x : Made) → stored s x ≡ stopped t → x ≡ refused t
        made-not s (made c) p = absurd (let z : ◌≡◌ {A = ℕ} 0 1 = cc in omega arith)
        made-not s (refused u) p = ap {B = Made} refused (out u p)

        go : (r : Run) → run_to a m ≡ r → work_column a m r ≡ stopped t → (run_to a m ≡ stopped t → (j : ℕ) × (s : State) × StopsAt a t j s) → (j : ℕ) × (s : State) × StopsAt a t j s
        go (going s) p q ih = (m, s, record { below = omega arith; before = p; refusal = made-not (worked a m s) (made_of a m s) q })
        go (stopped u) p q ih = ih (p ∙ q)

    stop : (j : ℕ) (s : State) → StopsAt a t j s → run a ≡ stopped t
    unfolding stored
    stop j s h =
        let here : run_to a (suc j) ≡ stopped t = run-next j s h.before ∙ ap (stored (worked a j s)) h.refusal in
        let b = h.below in
        let z : suc j + (blocks a - suc j) ≡ blocks a = omega arith in
        sym (ap (run_to a) z) ∙ stays (suc j) (blocks a - suc j) here

pub stops : Stops
stops a t = (λ e. found a t (blocks a) (omega arith) e, λ r. stop a t r.0 r.1 r.2)
