-- Davis's reach is row j's columns: k is on a tree path from an entry of upper column j towards j exactly when k < j and row j is in column k.
-- `parent` may be any table that gives the least row of each column before j. Assumes nothing.
use Prim.Native.Nat.{ℕ, zero, suc, ◌+◌, ◌≤◌, ◌<◌}
use mathlib.Core.Bool.{Bool}
use mathlib.Core.Option.{Option, none, some}
use mathlib.Core.Logic.{◌↔◌}
use mathlib.Core.Path.{◌≡◌, refl, subst}
use native.Mathlib.Omega.{arith}
use native.Mathlib.Decide.{dec_lt}
use lib.Dec.{T}
use Rattle.graph.specs.Fill.{Fill, here, made, Least}
use Rattle.graph.specs.Tree.{Towards, stands, climbs, Reaches}

-- a path that is gone on
pub towards-join : {parent : ℕ → Option ℕ} {j i k m : ℕ} → Towards parent j i k → Towards parent j k m → Towards parent j i m
towards-join (stands h) t = t
towards-join (climbs h e s) t = climbs h e (towards-join s t)

pub towards-start : {parent : ℕ → Option ℕ} {j i k : ℕ} → Towards parent j i k → i < j
towards-start (stands h) = h
towards-start (climbs h e s) = h

module _ (linked : ℕ → ℕ → Bool) (n j : ℕ) (parent : ℕ → Option ℕ) (lt : j < n) (least : (k : ℕ) → k < j → Least linked n k (parent k)) where
  -- along a path the columns keep row j
  along : {i k : ℕ} → Towards parent j i k → Fill linked j i → (k < j) × Fill linked j k
  along (stands h) f = (h, f)
  along (climbs {i = i} {p = p} h e s) f =
      let l : Least linked n i (some p) = subst (λ (o : Option ℕ). Least linked n i o) e (least i h) in
      along s (made l.0 l.2 f)

  -- the parents of k lead to a row m < j of column k
  leads : (d k m : ℕ) → m ≤ k + d → k < m → m < j → Fill linked m k → Towards parent j k m
  leads zero k m b lm mj f = absurd (omega arith)
  leads (suc d) k m b lm mj f = go (parent k) refl (least k (omega arith)) (λ p b' lm' f'. leads d p m b' lm' mj f')
    where
      go : (o : Option ℕ) → parent k ≡ o → Least linked n k o → ((p : ℕ) → m ≤ p + d → p < m → Fill linked m p → Towards parent j p m) → Towards parent j k m
      go none e l rec = absurd (l m lm (omega arith) f)
      go (some p) e l rec =
          let q : p ≤ m = l.3 m lm (omega arith) f in
          let g : k < p = l.0 in
          let b : k < j = omega arith in
          climbs b e (at (dec_lt p m) q g)
        where
          at : Dec (p < m) → p ≤ m → k < p → Towards parent j p m
          at (yes h) q g = rec p (omega arith) h (made g l.2 f)
          at (no h) q g = let x : p ≡ m = omega arith in subst (λ (y : ℕ). Towards parent j p y) x (stands (omega arith))

  module _ (symm : (a b : ℕ) → T (linked a b) → T (linked b a)) where
    sound : (k : ℕ) → Reaches linked parent j k → (k < j) × Fill linked j k
    sound k (i, l, t) = along t (here (symm i j l))

    complete : (k : ℕ) → k < j → Fill linked j k → Reaches linked parent j k
    complete k h (here l) = (k, symm j k l, stands h)
    complete k h (made {k = m} lm f g) =
        let r = complete m (omega arith) g in
        (r.0, r.1, towards-join r.2 (leads k m k (omega arith) lm h f))

    pub davis-iff : (k : ℕ) → Reaches linked parent j k ↔ ((k < j) × Fill linked j k)
    davis-iff k = (sound k, λ h. complete k h.0 h.1)
