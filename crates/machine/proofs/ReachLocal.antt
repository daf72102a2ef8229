-- The walk for column j asks for no parent but those of the columns that it lists: two tables of parents that agree on these, and links that
-- agree on the blocks before j, give the same list in the same order. Nothing is asked of the parents. Assumes nothing.
use Prim.Native.Nat.{ℕ, zero, suc, ◌<◌}
use mathlib.Core.Bool.{Bool, ◌||◌}
use mathlib.Core.List.{List, [], ◌∷◌}
use mathlib.Core.Logic.{◌⊎◌, inl, inr}
use mathlib.Core.Option.{Option, none, some}
use mathlib.Core.Path.{◌≡◌, refl, sym, ap, subst, ◌∙◌}
use lib.Dec.{T, eqb}
use Rattle.graph.specs.Sets.{elem, filter, between}
use Rattle.graph.specs.Symbolic.{climb, climbs, reach}
use Rattle.graph.proofs.SetLaws.{decide, elem-head, elem-tail, between-elim, filter-ext}
use Rattle.graph.proofs.ReachLaws.{climb-stop, climb-go}

module _ (parent : ℕ → Option ℕ) (j : ℕ) where
  -- what was found stays
  climb-keeps : (steps : ℕ) (o : Option ℕ) (found : List ℕ) (k : ℕ) → T (elem k found) → T (elem k (climb parent j steps o found))
  unfolding climb
  climb-keeps zero o found k m = m
  climb-keeps (suc steps) none found k m = m
  climb-keeps (suc steps) (some i) found k m = go (climb-keeps steps (parent i) (i ∷ found) k (elem-tail k i found m)) (decide (eqb i j || elem i found))
    where
      go : T (elem k (climb parent j steps (parent i) (i ∷ found))) → T (eqb i j || elem i found) ⊎ (T (eqb i j || elem i found) → ⊥)
          → T (elem k (climb parent j (suc steps) (some i) found))
      go later (inl t) = subst (λ (l : List ℕ). T (elem k l)) (sym (climb-stop parent j steps i found t)) m
      go later (inr t) = subst (λ (l : List ℕ). T (elem k l)) (sym (climb-go parent j steps i found t)) later

  climbs-keep : (steps : ℕ) (is found : List ℕ) (k : ℕ) → T (elem k found) → T (elem k (climbs parent j steps is found))
  unfolding climbs
  climbs-keep steps [] found k m = m
  climbs-keep steps (i ∷ is) found k m = climbs-keep steps is (climb parent j steps (some i) found) k (climb-keeps steps (some i) found k m)

  module _ (parent' : ℕ → Option ℕ) where
    -- the parents agree on a list
    abbrev AgreeOn : List ℕ → Type 0
    AgreeOn l = (k : ℕ) → T (elem k l) → parent k ≡ parent' k

    climb-local : (steps : ℕ) (o : Option ℕ) (found : List ℕ) → AgreeOn (climb parent j steps o found) → climb parent j steps o found ≡ climb parent' j steps o found
    unfolding climb
    climb-local zero o found h = refl
    climb-local (suc steps) none found h = refl
    climb-local (suc steps) (some i) found h = go (climb-local steps (parent i) (i ∷ found)) (decide (eqb i j || elem i found))
      where
        go : (AgreeOn (climb parent j steps (parent i) (i ∷ found)) → climb parent j steps (parent i) (i ∷ found) ≡ climb parent' j steps (parent i) (i ∷ found))
            → T (eqb i j || elem i found) ⊎ (T (eqb i j || elem i found) → ⊥) → climb parent j (suc steps) (some i) found ≡ climb parent' j (suc steps) (some i) found
        go ih (inl t) = climb-stop parent j steps i found t ∙ sym (climb-stop parent' j steps i found t)
        go ih (inr t) =
            let later : AgreeOn (climb parent j steps (parent i) (i ∷ found)) = subst AgreeOn (climb-go parent j steps i found t) h in
            climb-go parent j steps i found t
            ∙ ih later
            ∙ ap (λ (o : Option ℕ). climb parent' j steps o (i ∷ found)) (later i (climb-keeps steps (parent i) (i ∷ found) i (elem-head i found)))
            ∙ sym (climb-go parent' j steps i found t)

    climbs-local : (steps : ℕ) (is found : List ℕ) → AgreeOn (climbs parent j steps is found) → climbs parent j steps is found ≡ climbs parent' j steps is found
    unfolding climbs
    climbs-local steps [] found h = refl
    climbs-local steps (i ∷ is) found h =
        climbs-local steps is (climb parent j steps (some i) found) h
        ∙ ap (climbs parent' j steps is) (climb-local steps (some i) found (λ k m. h k (climbs-keep steps is (climb parent j steps (some i) found) k m)))

pub reach-local : (linked linked' : ℕ → ℕ → Bool) (n : ℕ) (parent parent' : ℕ → Option ℕ) (j : ℕ) → ((i : ℕ) → i < j → linked i j ≡ linked' i j)
    → ((k : ℕ) → T (elem k (reach linked n parent j)) → parent k ≡ parent' k) → reach linked n parent j ≡ reach linked' n parent' j
unfolding reach
reach-local linked linked' n parent parent' j l h =
    climbs-local parent j parent' n (filter (λ i. linked i j) (between 0 j)) [] h
    ∙ ap (λ (is : List ℕ). climbs parent' j n is []) (filter-ext (λ i. linked i j) (λ i. linked' i j) (between 0 j) (λ i m. l i (between-elim i 0 j m).1))
