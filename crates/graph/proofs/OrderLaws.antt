-- The laws of the late move: it gives a permutation, keeps each group's order, puts the unflagged first, and moving twice is moving once.
-- Assumes nothing.
use Prim.Native.Nat.{ℕ, suc, ◌+◌, ◌≤◌}
use mathlib.Core.Bool.{Bool, true, false, not}
use mathlib.Core.List.{List, [], ◌∷◌, ◌++◌, append-nil}
use mathlib.Core.Logic.{◌⊎◌, inl, inr, ⊎_elim}
use mathlib.Core.Path.{◌≡◌, refl, ap, ap₂, ◌∙◌}
use native.Mathlib.Omega.{arith}
use lib.Dec.{T, eqb}
use lib.ListN.{length, length-append}
use Rattle.graph.specs.Sets.{elem, keep, filter, Uniq}
use Rattle.graph.specs.Order.{is_late, moved, Permutes}
use Rattle.graph.proofs.SetLaws.{or_left, is_true, eqb_of, elem-head, elem-cases, elem-tail, filter-elim, filter-intro, decide}

-- ---- filters

keep_append : (b : Bool) (x : ℕ) (l m : List ℕ) → keep b x (l ++ m) ≡ keep b x l ++ m
keep_append true x l m = refl
keep_append false x l m = refl

pub filter-append : (p : ℕ → Bool) (l m : List ℕ) → filter p (l ++ m) ≡ filter p l ++ filter p m
filter-append p [] m = refl
filter-append p (x ∷ l) m = ap (keep (p x) x) (filter-append p l m) ∙ keep_append (p x) x (filter p l) (filter p m)

-- no more pass a test than there are
pub filter-short : (p : ℕ → Bool) (l : List ℕ) → length (filter p l) ≤ length l
filter-short p [] = omega arith
filter-short p (x ∷ l) = go (p x) (filter-short p l)
  where
    go : (b : Bool) → length (filter p l) ≤ length l → length (keep b x (filter p l)) ≤ suc (length l)
    go true h = omega arith
    go false h = omega arith

filter-twice : (p : ℕ → Bool) (l : List ℕ) → filter p (filter p l) ≡ filter p l
filter-twice p [] = refl
filter-twice p (x ∷ l) = by-test (p x) refl (filter-twice p l)
  where
    by-test : (b : Bool) → p x ≡ b → filter p (filter p l) ≡ filter p l → filter p (keep b x (filter p l)) ≡ keep b x (filter p l)
    by-test true e ih = rw e (ap (λ (t : List ℕ). x ∷ t) ih)
    by-test false e ih = ih

-- what one test keeps, a test that never holds with it drops
filter_none : (p q : ℕ → Bool) → ((x : ℕ) → T (p x) → T (q x) → ⊥) → (l : List ℕ) → filter p (filter q l) ≡ []
filter_none p q apart [] = refl
filter_none p q apart (x ∷ l) = by-test (p x) (q x) refl refl (filter_none p q apart l)
  where
    by-test : (a b : Bool) → p x ≡ a → q x ≡ b → filter p (filter q l) ≡ [] → filter p (keep b x (filter q l)) ≡ []
    by-test true true e f ih = absurd (apart x (is_true e) (is_true f))
    by-test false true e f ih = rw e ih
    by-test a false e f ih = ih

-- a test and its opposite share a list out
filter-lengths : (p : ℕ → Bool) (l : List ℕ) → length (filter (λ x. not (p x)) l) + length (filter p l) ≡ length l
filter-lengths p [] = refl
filter-lengths p (x ∷ l) = by-test (p x) (filter-lengths p l)
  where
    by-test : (b : Bool) → length (filter (λ x. not (p x)) l) + length (filter p l) ≡ length l
        → length (keep (not b) x (filter (λ x. not (p x)) l)) + length (keep b x (filter p l)) ≡ suc (length l)
    by-test true ih = omega arith
    by-test false ih = omega arith

filter-uniq : (p : ℕ → Bool) (l : List ℕ) → Uniq l → Uniq (filter p l)
filter-uniq p [] u = tt
filter-uniq p (x ∷ l) u = by-test (p x) (filter-uniq p l u.1)
  where
    by-test : (b : Bool) → Uniq (filter p l) → Uniq (keep b x (filter p l))
    by-test true ih = (λ t. u.0 (filter-elim p x l t).0, ih)
    by-test false ih = ih

-- ---- two lists joined

pub elem-append : (x : ℕ) (l m : List ℕ) → T (elem x (l ++ m)) → T (elem x l) ⊎ T (elem x m)
elem-append x [] m t = inr t
elem-append x (y ∷ l) m t =
    ⊎_elim (λ e. inl (or_left (eqb x y) (elem x l) (eqb_of e))) (λ s. ⊎_elim (λ a. inl (elem-tail x y l a)) (λ b. inr b) (elem-append x l m s)) (elem-cases x y (l ++ m) t)

pub elem-left : (x : ℕ) (l m : List ℕ) → T (elem x l) → T (elem x (l ++ m))
elem-left x [] m t = absurd t
elem-left x (y ∷ l) m t = ⊎_elim (λ e. or_left (eqb x y) (elem x (l ++ m)) (eqb_of e)) (λ s. elem-tail x y (l ++ m) (elem-left x l m s)) (elem-cases x y l t)

pub elem-right : (x : ℕ) (l m : List ℕ) → T (elem x m) → T (elem x (l ++ m))
elem-right x [] m t = t
elem-right x (y ∷ l) m t = elem-tail x y (l ++ m) (elem-right x l m t)

pub append-uniq : (l m : List ℕ) → Uniq l → Uniq m → ((x : ℕ) → T (elem x l) → T (elem x m) → ⊥) → Uniq (l ++ m)
append-uniq [] m u v apart = v
append-uniq (x ∷ l) m u v apart =
    (λ t. ⊎_elim u.0 (λ s. apart x (elem-head x l) s) (elem-append x l m t), append-uniq l m u.1 v (λ y s r. apart y (elem-tail y x l s) r))

-- ---- the late move

never : (b : Bool) → T (not b) → T b → ⊥
never true s t = s
never false s t = t

module _ (perm late : List ℕ) where
  late-or-not : (x : ℕ) → T (not (is_late late x)) → T (is_late late x) → ⊥
  late-or-not x s t = never (is_late late x) s t

  -- the unflagged blocks stand first, as they stood, and the flagged ones after them, as they stood
  pub keeps-others : filter (λ block. not (is_late late block)) (moved perm late) ≡ filter (λ block. not (is_late late block)) perm
  unfolding moved
  keeps-others =
      filter-append (λ block. not (is_late late block)) (filter (λ block. not (is_late late block)) perm) (filter (is_late late) perm)
      ∙ ap₂ (λ (a b : List ℕ). a ++ b) (filter-twice (λ block. not (is_late late block)) perm)
      (filter_none (λ block. not (is_late late block)) (is_late late) late-or-not perm)
      ∙ append-nil (filter (λ block. not (is_late late block)) perm)

  pub keeps-late : filter (is_late late) (moved perm late) ≡ filter (is_late late) perm
  unfolding moved
  keeps-late =
      filter-append (is_late late) (filter (λ block. not (is_late late block)) perm) (filter (is_late late) perm)
      ∙ ap₂ (λ (a b : List ℕ). a ++ b) (filter_none (is_late late) (λ block. not (is_late late block)) (λ x s t. late-or-not x t s) perm)
      (filter-twice (is_late late) perm)

  -- moving twice is moving once
  pub moved_twice : moved (moved perm late) late ≡ moved perm late
  unfolding moved
  moved_twice = ap₂ (λ (a b : List ℕ). a ++ b) keeps-others keeps-late

  -- a permutation is moved to one
  pub moved-permutes : (n : ℕ) → Permutes n perm → Permutes n (moved perm late)
  unfolding moved
  moved-permutes n p =
      let others = filter (λ block. not (is_late late block)) perm in
      let flagged = filter (is_late late) perm in
      record {
        entries = length-append others flagged ∙ filter-lengths (is_late late) perm ∙ p.entries;
        below = λ block t. ⊎_elim (λ s. p.below block (filter-elim (λ block. not (is_late late block)) block perm s).0) (λ s. p.below block (filter-elim (is_late late) block perm s).0)
            (elem-append block others flagged t);
        once = append-uniq others flagged (filter-uniq (λ block. not (is_late late block)) perm p.once) (filter-uniq (is_late late) perm p.once)
            (λ x s t. late-or-not x (filter-elim (λ block. not (is_late late block)) x perm s).1 (filter-elim (is_late late) x perm t).1);
      }

  -- every block of the permutation is in it still
  pub moved_has : (block : ℕ) → T (elem block perm) → T (elem block (moved perm late))
  unfolding moved
  moved_has block t =
      ⊎_elim (λ l. elem-right block (filter (λ block. not (is_late late block)) perm) (filter (is_late late) perm) (filter-intro (is_late late) block perm t l))
      (λ l. elem-left block (filter (λ block. not (is_late late block)) perm) (filter (is_late late) perm) (filter-intro (λ block. not (is_late late block)) block perm t (opposite (is_late late block) l)))
      (decide (is_late late block))
    where
      opposite : (b : Bool) → (T b → ⊥) → T (not b)
      opposite true h = h tt
      opposite false h = tt
