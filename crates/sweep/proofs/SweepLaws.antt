-- A turn of the loop over a column's rows, and a row where the vector is cut in two. Assumes nothing.
use Rattle.std.specs.Prelude.{◌≡◌, ℕ, ◌+◌, ◌-◌, ◌≤◌, List, ◌++◌, length, take, drop}
use mathlib.Core.List.{append_assoc}
use mathlib.Core.Path.{sym, ap, subst, ◌∙◌}
use native.Mathlib.Omega.{arith}
use lib.Ieee.{Float}
use lib.ListN.{length-append, length-drop, take-append-drop}
use lib.Seq.{take_at, drop_at, take-append-le, drop-append-le, length-take-le}
use Rattle.scalar.specs.Block.{within}
use Rattle.scalar.proofs.Laws.{steps_next}
use Rattle.block_product.specs.Working.{slot}
use Rattle.layout.specs.Layout.{Tables, start_of}
use Rattle.sweep.specs.Sweep.{Pass, Touches, row_done, rows_done}

pub row_more : (p : Pass) (t : Tables) (starts : List ℕ) (l_values : List Float) (j u : ℕ) (y₀ y y' : List Float)
    → start_of t j ≤ u → y ≡ rows_done p t starts l_values j (u - start_of t j) y₀ → y' ≡ row_done p t starts l_values j u y
    → y' ≡ rows_done p t starts l_values j (u + 1 - start_of t j) y₀
row_more p t starts l_values j u y₀ y y' lo before e =
    let here : u ≡ start_of t j + (u - start_of t j) = omega arith in
    let next : u - start_of t j + 1 ≡ u + 1 - start_of t j = omega arith in
    subst (λ (m : ℕ). y' ≡ rows_done p t starts l_values j m y₀) next
    (steps_next (λ k. row_done p t starts l_values j (start_of t j + k)) (u - start_of t j) y₀ y y' before (e ∙ ap (λ (v : ℕ). row_done p t starts l_values j v y) here))

-- A row's two parts, which change where a vector is cut between them.
module _ (s w t h : ℕ) (f b x' : List Float) (front : length f ≡ t) (fits : s + w ≤ t) (block : t + h ≤ length (f ++ b)) (size : length x' ≡ w) where
  rest : drop s (f ++ b) ≡ drop s f ++ b
  rest = drop-append-le s f b (omega (arith, front))

  tail : w ≤ length (drop s f)
  tail = rw length-drop (omega (arith, front))

  one : slot s w (f ++ b) ≡ slot s w f
  one = ap (take w) rest ∙ take-append-le w (drop s f) b tail

  two : slot t h (f ++ b) ≡ take h b
  two = ap (take h) (drop_at f b t front)

  -- the front part, changed
  abbrev changed : List Float
  changed = within s w (λ _. x') f

  as-long : length changed ≡ t
  as-long =
      length-append (take s f) (x' ++ drop w (drop s f))
      ∙ rw (length-append, size, length-take-le s f (omega (arith, front)), length-drop, length-drop, front) (omega (arith, fits))

  kept : within s w (λ _. x') (f ++ b) ≡ changed ++ b
  kept =
      ap (λ (l : List Float). l ++ (x' ++ drop w (drop s (f ++ b)))) (take-append-le s f b (omega (arith, front)))
      ∙ ap (λ (l : List Float). take s f ++ (x' ++ drop w l)) rest
      ∙ ap (λ (l : List Float). take s f ++ (x' ++ l)) (drop-append-le w (drop s f) b tail)
      ∙ ap (λ (l : List Float). take s f ++ l) (sym (append_assoc x' (drop w (drop s f)) b))
      ∙ sym (append_assoc (take s f) (x' ++ drop w (drop s f)) b)

  pub joined : (p : Pass) (a y' : List Float) → Touches p h w a (slot s w f) (take h b) x' y' → changed ++ (y' ++ drop h b) ≡ p.row h w a s t (f ++ b)
  joined p a y' row =
      sym (row s t (f ++ b) fits block one two
      ∙ ap (within t h (λ _. y')) kept
      ∙ ap (λ (l : List Float). l ++ (y' ++ drop h (drop t (changed ++ b)))) (take_at changed b t as-long)
      ∙ ap (λ (l : List Float). changed ++ (y' ++ drop h l)) (drop_at changed b t as-long))

-- What stands in a part may be written there again.
pub rewritten : (off n : ℕ) (z : List Float) → within off n (λ _. slot off n z) z ≡ z
rewritten off n z = ap (λ (l : List Float). take off z ++ l) (take-append-drop n (drop off z)) ∙ take-append-drop off z
