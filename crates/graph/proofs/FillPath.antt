-- The fill-path theorem (Rose, Tarjan and Lueker): the fill rule and the path rule say the same.
--     fill-path   Fill i j  →  a path from i to j through vertices below j
--     path-fill   and back: by induction on the bound; the greatest vertex on the way cuts a path in two
use Prim.Native.Nat.{ℕ, zero, suc, ◌≤◌, ◌<◌}
use mathlib.Core.Bool.{Bool}
use mathlib.Core.Logic.{◌⊎◌, inl, inr, ◌↔◌, ⊎_elim}
use mathlib.Core.Path.{◌≡◌, subst}
use native.Mathlib.Omega.{arith}
use native.Mathlib.Decide.{dec_lt}
use lib.Dec.{T}
use Rattle.graph.specs.Path.{Path, link, through}
use Rattle.graph.specs.Fill.{Fill, here, made}

module _ (linked : ℕ → ℕ → Bool) where
  -- a wider bound
  pub widen : {k i j : ℕ} (k' : ℕ) → k ≤ k' → Path linked k i j → Path linked k' i j
  widen k' h (link l) = link l
  widen k' h (through l lt p) = through l (omega arith) (widen k' h p)

  -- two paths, joined at a vertex below the bound
  pub join : {k i m j : ℕ} → m < k → Path linked k i m → Path linked k m j → Path linked k i j
  join h (link l) q = through l h q
  join h (through l lt p) q = through l lt (join h p q)

  -- a path through vertices up to b goes through b, or does not: then it is a path through vertices below b
  pub cut : (b : ℕ) {i j : ℕ} → Path linked (suc b) i j → Path linked b i j ⊎ (Path linked b i b × Path linked b b j)
  cut b (link l) = inl (link l)
  cut b {i} {j} (through {m = m} l lt p) = go m l lt (cut b p) (dec_lt m b)
    where
      go : (m : ℕ) → T (linked i m) → m < suc b → Path linked b m j ⊎ (Path linked b m b × Path linked b b j) → Dec (m < b)
          → Path linked b i j ⊎ (Path linked b i b × Path linked b b j)
      go m l lt (inl p) (yes h) = inl (through l h p)
      go m l lt (inr (p, q)) (yes h) = inr (through l h p, q)
      go m l lt r (no h) =
          let e : m ≡ b = omega arith in
          inr (link (subst (λ (x : ℕ). T (linked i x)) e l), ⊎_elim (λ p. subst (λ (x : ℕ). Path linked b x j) e p) (λ r. r.1) r)

  module _ (symm : (i j : ℕ) → T (linked i j) → T (linked j i)) where
    -- the path walked back
    pub back : {k i j : ℕ} → Path linked k i j → Path linked k j i
    back {i} {j} (link l) = link (symm i j l)
    back {i} (through {m = m} l lt p) = join lt (back p) (link (symm i m l))

    pub fill-path : {i j : ℕ} → Fill linked i j → Path linked j i j
    fill-path (here l) = link l
    fill-path {j} (made {k = k} lt f g) = join lt (widen j (omega arith) (fill-path g)) (back (widen j (omega arith) (fill-path f)))

    path-fill' : (b : ℕ) {i j : ℕ} → b ≤ j → Path linked b i j → Fill linked i j
    path-fill' zero h (link l) = here l
    path-fill' zero h (through l lt p) = absurd (omega arith)
    path-fill' (suc b) h p =
        ⊎_elim (λ q. path-fill' b (omega arith) q) (λ r. made h (path-fill' b (omega arith) (back r.1)) (path-fill' b (omega arith) r.0)) (cut b p)

    pub path-fill : {i j : ℕ} → Path linked j i j → Fill linked i j
    path-fill {j} p = path-fill' j (omega arith) p

    pub fill-iff-path : (i j : ℕ) → Fill linked i j ↔ Path linked j i j
    fill-iff-path i j = (fill-path, path-fill)
