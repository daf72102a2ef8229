-- Locality of two accepted runs, by their last states.
--     column_made     a column of the last state is what became of it, and those before it stood so already
--     run-locality    the law of two runs
--     site-locality   and for a set of columns that no other column reaches
-- Assumes nothing.
use Prim.Native.Nat.{ℕ, zero, suc, ◌≤◌, ◌<◌}
use mathlib.Core.Bool.{Bool}
use mathlib.Core.List.{List, [], ◌∷◌, ◌++◌}
use mathlib.Core.Path.{◌≡◌, refl, sym, ap, subst, ◌∙◌}
use native.Mathlib.Omega.{arith}
use native.Mathlib.Decide.{dec_lt}
use lib.Dec.{T}
use lib.ListN.{length, get_or, length-map, get_or-append}
use lib.Seq.{get_or_at}
use Rattle.graph.specs.Sets.{elem}
use Rattle.graph.specs.Symbolic.{first}
use Rattle.graph.proofs.SymbolicLaws.{columns_length}
use Rattle.machine.specs.System.{System, blocks, links, dim}
use Rattle.machine.specs.Machine.{Column, State, no_column, column_at, parent_at, load, reached, sequence, worked, Made, made, made_of, going, run_to, run}
use Rattle.machine.specs.Claims.{Same, SameMade, Given, Agree, RunLocality, SiteLocality}
use Rattle.machine.proofs.StepLaws.{products-finished, stored-going}
use Rattle.machine.proofs.RunLaws.{reached-before, going_before, columns_keep}
use Rattle.machine.proofs.ReachLocal.{reach-local}
use Rattle.machine.proofs.Local.{locality}

module _ (a : System) where
  -- before column j of a run that came to the state s
  pub record Before (j : ℕ) (s s₀ : State) : Type 0 where
    pub going_on : run_to a j ≡ going s₀
    pub became : made_of a j s₀ ≡ made (column_at s j)
    pub stood : (k : ℕ) → k < j → column_at s₀ k ≡ column_at s k

  -- as many columns as were run over
  finished-count : (m : ℕ) (s : State) → m ≤ blocks a → run_to a m ≡ going s → length s.finished ≡ m
  finished-count m s le e =
      sym (length-map s.finished (λ (c : Column). c.rows)) ∙ ap length (columns_keep a m s le e).by_rows ∙ columns_length (links a) (blocks a) m

  pub column_made : (m : ℕ) (s : State) → m ≤ blocks a → run_to a m ≡ going s → (j : ℕ) → j < m → (s₀ : State) × Before j s s₀
  unfolding load
  column_made zero s le e j h = absurd (omega arith)
  column_made (suc m) s le e j h =
      let b = going_before a m s e in
      let s₁ : State = b.0 in
      let f = stored-going (worked a m s₁) s (made_of a m s₁) b.2 in
      let long : length s₁.finished ≡ m = finished-count m s₁ (omega arith) b.1 in
      let now : s.finished ≡ s₁.finished ++ (f.0 ∷ []) =
      ap (λ (u : State). u.finished) f.2 ∙ ap (λ (l : List Column). l ++ (f.0 ∷ [])) (products-finished (dim a) (sequence a m s₁) (load a m s₁)) in
      let stays : (k : ℕ) → k < m → column_at s₁ k ≡ column_at s k = λ k l.
      sym (ap (λ (c : List Column). get_or c k no_column) now ∙ get_or-append s₁.finished (f.0 ∷ []) no_column k (omega arith)) in
      let last : column_at s m ≡ f.0 = ap (λ (c : List Column). get_or c m no_column) now ∙ get_or_at s₁.finished f.0 [] no_column m long in
      go s₁ b.1 stays (f.1 ∙ ap {B = Made} made (sym last)) (λ k l. column_made m s₁ (omega arith) b.1 k l) (dec_lt j m)
    where
      go : (s₁ : State) → run_to a m ≡ going s₁ → ((k : ℕ) → k < m → column_at s₁ k ≡ column_at s k) → made_of a m s₁ ≡ made (column_at s m)
          → ((k : ℕ) → k < m → (s₀ : State) × Before k s₁ s₀) → Dec (j < m) → (s₀ : State) × Before j s s₀
      go s₁ r stays became ih (yes l) =
          let p = ih j l in (
            p.0,
            record {
              going_on = p.1.going_on;
              became = p.1.became ∙ ap {B = Made} made (stays j l);
              stood = λ k lk. p.1.stood k lk ∙ stays k (omega arith);
            },
          )
      go s₁ r stays became ih (no l) =
          let q : m ≡ j = omega arith in
          (s₁, subst (λ (x : ℕ). Before x s s₁) q (record { going_on = r; became = became; stood = stays }))

  -- the walk for j finds the same before column j and at the end
  pub reached_stood : (j : ℕ) (s s₀ : State) → j < blocks a → Before j s s₀ → ((k : ℕ) → T (elem k (reached a j s₀)) → k < j) × (reached a j s₀ ≡ reached a j s)
  reached_stood j s s₀ h b =
      let below : (k : ℕ) → T (elem k (reached a j s₀)) → k < j = reached-before a j h s₀ (columns_keep a j s₀ (omega arith) b.going_on).by_rows in
      (below, reach-local (links a) (links a) (blocks a) (parent_at s₀) (parent_at s) j (λ i l. refl) (λ k m. ap (λ (c : Column). first c.rows) (b.stood k (below k m))))

pub run-locality : RunLocality
run-locality a a' s s' e e' j h g =
    let n : blocks a ≡ blocks a' = g.given.count in
    let b = column_made a (blocks a) s (omega arith) e j h in
    let b' = column_made a' (blocks a') s' (omega arith) e' j (omega arith) in
    let r = reached_stood a j s b.0 h b.1 in
    let agree : Agree j a b.0 a' b'.0 = record {
      given = g.given;
      reaching = λ k m.
          let l = r.0 k m in
          let same : Same (column_at s k) (column_at s' k) = g.reaching k (subst (λ (x : List ℕ). T (elem k x)) r.1 m) in
          subst (λ (c : Column). Same c (column_at b'.0 k)) (sym (b.1.stood k l)) (subst (λ (c : Column). Same (column_at s k) c) (sym (b'.1.stood k l)) same);
    } in
    let same : SameMade (made_of a j b.0) (made_of a' j b'.0) = locality j a a' b.0 b'.0 h agree in
    subst (λ (x : Made). SameMade (made (column_at s j)) x) b'.1.became (subst (λ (x : Made). SameMade x (made_of a' j b'.0)) b.1.became same)

module _ (a a' : System) (s s' : State) (e : run a ≡ going s) (e' : run a' ≡ going s') (site : ℕ → Bool)
    (closed : (j k : ℕ) → j < blocks a → T (site j) → T (elem k (reached a j s)) → T (site k)) (given : (j : ℕ) → j < blocks a → T (site j) → Given j a a') where
  -- by what reaches a column stands before it; m bounds the columns
  by_columns : (m j : ℕ) → j < m → j < blocks a → T (site j) → Same (column_at s j) (column_at s' j)
  by_columns zero j l h t = absurd (omega arith)
  by_columns (suc m) j l h t =
      let b = column_made a (blocks a) s (omega arith) e j h in
      let r = reached_stood a j s b.0 h b.1 in
      run-locality a a' s s' e e' j h
      (record {
        given = given j h t;
        reaching = λ k x. let q = r.0 k (subst (λ (y : List ℕ). T (elem k y)) (sym r.1) x) in by_columns m k (omega arith) (omega arith) (closed j k h t x);
      })

pub site-locality : SiteLocality
site-locality a a' s s' e e' site closed given j h t = by_columns a a' s s' e e' site closed given (suc j) j (omega arith) h t
