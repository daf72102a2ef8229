-- What an upper pattern that passes gives the work, and what `new` answers in each case. Assumes nothing.
use Rattle.std.specs.Prelude.{ℕ, Bool, true, cond, T, ltb, List, length, get_or, drop, replicate, Result, Ok, Err, ◌≡◌, ◌+◌, ◌<◌, ◌≤◌, ◌++◌}
use Rattle.std.specs.Result.{IsErr, IsErrAnd}
use mathlib.Core.Bool.{false≢true}
use mathlib.Core.Path.{refl, sym, ap, subst, ◌∙◌}
use lib.Seq.{slice, drop_at}
use Rattle.graph.specs.Fill.{Least}
use Rattle.graph.specs.Tree.{Parent}
use Rattle.graph.proofs.SetLaws.{filter-inc}
use Rattle.graph.proofs.Whole.{parent-of-least}
use Rattle.buckets.proofs.Lists.{front}
use Rattle.refusal.specs.Refusal.{Told, done, refuses, verdict, verdict_after, after}
use Rattle.refusal.proofs.Laws.{stays-refused}
use Rattle.tables.specs.Verdict.{upper_verdict}
use Rattle.tables.specs.Sound.{UpperSound}
use Rattle.elimination_tree.specs.Tree.{decode, Ascends, linked_up, parents_of}
use Rattle.elimination_tree.specs.New.{told, told_error, needs, new_verdict, Grows}
use Rattle.elimination_tree.specs.declared.TreeError.{TreeError}
use Rattle.elimination_tree.specs.declared.TreeError.TheVariants.{Blocks, Starts, Row, Order, Short}
use Rattle.elimination_tree.proofs.Links.{linked-symm, parents-length, parents-least}

-- ---- a pattern that passes

pub as-ascends : (n : ℕ) (starts rows : List ℕ) → UpperSound n starts rows → Ascends n starts rows
unfolding Ascends
as-ascends n starts rows u j below =
    let from = get_or starts j 0 in
    let to = get_or starts (j + 1) 0 in
    filter-inc (λ i. ltb i j) (slice from to rows) (u.columns.increasing j below)

-- ---- the buffers' needs

-- ---- the answer in each case

-- refused: nothing is changed
pub refused : (v : Told) (n : ℕ) (starts rows parents ancestors : List ℕ) (r : Result Unit TreeError) → told r ≡ v → refuses v ≡ true → Grows v n starts rows parents ancestors r parents ancestors
refused v n starts rows parents ancestors r e stops =
    let same : (old new : List ℕ) → old ≡ after v old new = λ old new. sym (ap (λ (b : Bool). cond b old new) stops) in
    record { outcome = e; tree = same parents _; liu = λ passes. absurd (false≢true (sym passes ∙ stops)); scratch = same ancestors _ }

-- the table of parents, before anything that stands after it, holds the parents that Liu defines
pub is-parent : (n : ℕ) (starts rows rest tree : List ℕ) → n ≤ 4096 → tree ≡ parents_of (linked_up starts rows) n → (k : ℕ) → k < n → Parent (linked_up starts rows) n k (decode (get_or (tree ++ rest) k 0))
is-parent n starts rows rest tree few e k below =
    let linked = linked_up starts rows in
    let symm : (a b : ℕ) → T (linked a b) → T (linked b a) = linked-symm starts rows in
    let size : length tree ≡ n = ap length e ∙ parents-length linked n symm in
    let entry : get_or (parents_of linked n) k 0 ≡ get_or (tree ++ rest) k 0 = ap (λ (l : List ℕ). get_or l k 0) (sym e) ∙ sym (front tree rest k (subst (λ (m : ℕ). k < m) (sym size) below)) in
    parent-of-least linked symm n k (decode (get_or (tree ++ rest) k 0)) (subst (λ (x : ℕ). Least linked n k (decode x)) entry (parents-least linked n symm few k below))

-- accepted: the tree before what stood after it, and zeros for the scratch
pub grown : (v : Told) (n : ℕ) (starts rows parents ancestors tree used zeros : List ℕ) (r : Result Unit TreeError) → n ≤ 4096 → told r ≡ done → v ≡ done → length used ≡ n →
    tree ≡ parents_of (linked_up starts rows) n → zeros ≡ replicate n 0 →
    Grows v n starts rows parents ancestors r (tree ++ drop n parents) (zeros ++ drop n (used ++ drop n ancestors))
grown v n starts rows parents ancestors tree used zeros r few e passed size is-tree are-zeros =
    let new : (old xs : List ℕ) → xs ≡ after v old xs = λ old xs. sym (ap (λ (t : Told). after t old xs) passed) in
    record {
      outcome = e ∙ sym passed;
      tree = ap (λ (l : List ℕ). l ++ drop n parents) is-tree ∙ new parents _;
      liu = λ passes. is-parent n starts rows (drop n parents) tree few is-tree;
      scratch = ap (λ (l : List ℕ). l ++ drop n (used ++ drop n ancestors)) are-zeros ∙ ap (λ (l : List ℕ). replicate n 0 ++ l) (drop_at used (drop n ancestors) n size) ∙ new ancestors _;
    }

-- each error is a refusal
error-refuses : (e : TreeError) → refuses (told_error e) ≡ true
error-refuses Blocks = refl
error-refuses (Starts place) = refl
error-refuses (Row place) = refl
error-refuses (Order place) = refl
error-refuses (Short which need) = refl

-- the pattern is refused, and so is the call, in the same words
pub pattern-refused : (n : ℕ) (starts rows parents ancestors : List ℕ) (r : Result Unit TreeError) (v : Told) → IsErr r × IsErrAnd r (λ e. told_error e ≡ v) → v ≡ upper_verdict n starts rows →
    Grows (new_verdict n starts rows (length parents) (length ancestors)) n starts rows parents ancestors r parents ancestors
unfolding new_verdict
pattern-refused n starts rows parents ancestors (Ok w) v p e = absurd (false≢true p.0)
pattern-refused n starts rows parents ancestors (Err r) v p e =
    let list = needs n (length parents) (length ancestors) in
    let stops : refuses (told_error r) ≡ true = error-refuses r in
    let same : told_error r ≡ upper_verdict n starts rows = p.1 ∙ e in
    let stays : verdict_after (upper_verdict n starts rows) list ≡ told_error r = ap (λ (t : Told). verdict_after t list) (sym same) ∙ stays-refused (told_error r) list stops in
    refused _ n starts rows parents ancestors (Err r) (sym stays) (ap refuses stays ∙ stops)

-- the pattern passes, and the needs decide
pub pattern-passed : (n : ℕ) (starts rows : List ℕ) (parents ancestors : ℕ) → done ≡ upper_verdict n starts rows → verdict (needs n parents ancestors) ≡ new_verdict n starts rows parents ancestors
unfolding new_verdict
pattern-passed n starts rows parents ancestors e = ap (λ (t : Told). verdict_after t (needs n parents ancestors)) e
