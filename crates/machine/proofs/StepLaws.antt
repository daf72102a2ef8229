-- What each step of the machine does to the finished columns, to the touched rows and to the list of triples. Assumes nothing.
use Prim.Native.Nat.{ℕ, ◌+◌}
use mathlib.Core.Bool.{Bool, true, false, cond, ◌||◌}
use mathlib.Core.List.{List, [], ◌∷◌, ◌++◌, map, append_assoc, append-nil}
use mathlib.Core.Option.{Option, none, some}
use mathlib.Core.Path.{◌≡◌, refl, sym, ap, ◌∙◌}
use native.Mathlib.Omega.{arith}
use lib.Dec.{eqb}
use lib.Ieee.{Float}
use lib.ListN.{length, get_or, length-append, get_or-map}
use Rattle.block_diag_ldlt.specs.Block.{block_ldlt}
use Rattle.std.specs.Prelude.{Result, Ok, Err}
use Rattle.dense_pivots.specs.declared.LdltResult.{LdltResult}
use Rattle.block_diag_ldlt.specs.declared.cores.BlockError.{BlockError}
use Rattle.block_diag_ldlt.specs.declared.cores.BlockError.TheVariants.{NotFinite, Poor}
use Rattle.refusal.specs.Refusal.{Told}
use Rattle.graph.specs.Sets.{elem}
use Rattle.graph.specs.Count.{Triple, triple}
use Rattle.machine.specs.System.{System, dim}
use Rattle.machine.specs.Machine.{State, Column, no_column, rows_at, touched, body_or, product, products, Made, made, refused, solved, settled_by, finish, going, stored}
use Rattle.machine.proofs.ListLaws.{works_on}

-- the rows of each finished column
abbrev pub row_lists : State → List (List ℕ)
row_lists s = map (λ (c : Column). c.rows) s.finished

pub listed : (s : State) (k : ℕ) → get_or (row_lists s) k [] ≡ rows_at s k
listed s k = get_or-map (λ (c : Column). c.rows) s.finished k no_column

-- ---- block products

module _ (dim : ℕ → ℕ) where
  -- each counts one
  pub product-count : (i j k : ℕ) (s : State) → length (product dim i j k s).done ≡ length s.done + 1
  unfolding product
  product-count i j k s = length-append s.done (triple j k i ∷ [])

  pub products-finished : (ts : List Triple) (s : State) → (products dim ts s).finished ≡ s.finished
  unfolding products product
  products-finished [] s = refl
  products-finished (t ∷ ts) s = products-finished ts (product dim t.i t.j t.k s)

  -- the triples worked through stand behind those before
  pub products-done : (ts : List Triple) (s : State) → (products dim ts s).done ≡ s.done ++ ts
  unfolding products product
  products-done [] s = sym (append-nil s.done)
  products-done (t ∷ ts) s = products-done ts (product dim t.i t.j t.k s) ∙ append_assoc s.done (t ∷ []) ts

  -- a row is touched if it was, or if a product worked on it
  pub products-touched : (ts : List Triple) (s : State) (i : ℕ) → touched ((products dim ts s).work i) ≡ (touched (s.work i) || elem i (works_on ts))
  unfolding products product
  products-touched [] s i = sym (or-false (touched (s.work i)))
    where
      or-false : (b : Bool) → (b || false) ≡ b
      or-false true = refl
      or-false false = refl
  products-touched (t ∷ ts) s i =
      products-touched ts (product dim t.i t.j t.k s) i ∙ one _ (eqb i t.i) (s.work i) (elem i (works_on ts))
    where
      one : (b : List Float) (e : Bool) (o : Option (List Float)) (m : Bool) → (touched (cond e (some b) o) || m) ≡ (touched o || (e || m))
      one b true none m = refl
      one b true (some c) m = refl
      one b false o m = refl

-- ---- the end of a column

-- what is going on was not refused
pub stored-going : (s s' : State) (m : Made) → stored s m ≡ going s'
    → (c : Column) × (m ≡ made c) × (s' ≡ record { finished = s.finished ++ (c ∷ []); work = λ i. none; done = s.done })
unfolding stored
stored-going s s' (made c) e = (c, refl, out _ e)
  where
    out : (u : State) → going u ≡ going s' → s' ≡ u
    out u p = cc
stored-going s s' (refused t) e = absurd (let z : ◌≡◌ {A = ℕ} 0 1 = cc in omega arith)

-- and a column that was not refused is that of the touched rows
pub finish-made : (a : System) (j : ℕ) (s : State) (c : Column) → finish a j s ≡ made c → (unit : List Float) × (d : List Float) × (c ≡ solved a j s unit d)
unfolding finish settled_by
finish-made a j s c e = go (block_ldlt (dim a j) a.tol (body_or _ (s.work j))) e
  where
    never : {A : Type 0} (m : Made) → m ≡ made c → (t : Told) → m ≡ refused t → A
    never m p t q = absurd (let z : ◌≡◌ {A = ℕ} 0 1 = cc in omega arith)

    out : (b : Column) → made b ≡ made c → c ≡ b
    out b p = cc

    go : (r : Result LdltResult BlockError × List Float × List Float) → settled_by a j s r ≡ made c → (unit : List Float) × (d : List Float) × (c ≡ solved a j s unit d)
    go (Ok r, unit, d) p = (unit, d, out (solved a j s unit d) p)
    go (Err (NotFinite place pivot), unit, d) p = never (refused _) p _ refl
    go (Err (Poor condition), unit, d) p = never (refused _) p _ refl

pub rows_append : (l : List Column) (c : Column) → map (λ (c : Column). c.rows) (l ++ (c ∷ [])) ≡ map (λ (c : Column). c.rows) l ++ (c.rows ∷ [])
rows_append [] c = refl
rows_append (x ∷ l) c = ap (λ (r : List (List ℕ)). x.rows ∷ r) (rows_append l c)
