-- What `reach` answers in each case. Assumes nothing.
use Rattle.std.proofs.Common.{◌≡◌, ℕ, ◌+◌, ◌-◌, ◌<◌, Bool, true, cond, List, [], ◌∷◌, ◌++◌, length, get_or, take, drop, sym, refl, ap, ◌∙◌, append_assoc, arith, take-take, lt-ltb}
use lib.Seq.{slice}
use Rattle.refusal.specs.Refusal.{Told, done, accepted, shapes_disagree, refuses, first_of, verdict, verdict_after, after}
use Rattle.refusal.proofs.Laws.{first-refuses, stays-refused}
use Rattle.tables.specs.Verdict.{tree_verdict}
use Rattle.tables.specs.Sound.{TreeSound}
use Rattle.reach.specs.Reach.{Parents, State, mark_of, reach_of}
use Rattle.reach.specs.Walk.{told, told_error, block_check, needs, reach_verdict, walk_of, Walks}
use mathlib.Core.Bool.{false≢true}
use Rattle.std.specs.Prelude.{Result, Ok, Err}
use Rattle.std.specs.Result.{IsErr, IsErrAnd}
use Rattle.reach.specs.declared.cores.Mark.{Mark}
use Rattle.reach.specs.declared.ReachError.{ReachError}
use Rattle.reach.specs.declared.ReachError.TheVariants.{Blocks, Starts, Row, Parent, Order, Short, Past}

-- the parents' rule, as the walk asks for it
pub rule-of : (starts rows parents : List ℕ) → TreeSound starts rows parents → Parents parents
unfolding Parents
rule-of starts rows parents t = t.parents

-- ---- the block

pub block-met : (j n : ℕ) → j < n → block_check j n ≡ done
block-met j n h = ap (λ (b : Bool). cond b done (shapes_disagree 0)) (lt-ltb j n h)

-- ---- the answer in each case

module _ (starts rows parents : List ℕ) (j mark : ℕ) (stamps found : List ℕ) (r : Result Mark ReachError) where
  -- refused: nothing is changed
  pub refused : (v : Told) → told r ≡ v → refuses v ≡ true → Walks v starts rows parents j mark stamps found r stamps found
  refused v e stops =
      let same : (old new : List ℕ) → old ≡ after v old new = λ old new. sym (ap (λ (b : Bool). cond b old new) stops) in
      record { outcome = e ∙ first-refuses v _ stops; stamped = same stamps _; listed = same found _ }

  -- accepted: the stamps and the list of the walk, each before what stood after it
  pub walked : (v : Told) (part stamps' found' : List ℕ) (next top : ℕ) → told r ≡ accepted (next ∷ top ∷ []) [] → v ≡ done → part ≡ slice (get_or starts j 0) (get_or starts (j + 1) 0) rows →
      let n = length parents in
      let w = reach_of parents part j (take n stamps) mark in
      next ≡ mark_of (take n stamps) mark → top + length w.found ≡ n → stamps' ≡ w.stamps → found' ≡ take top (take n found) ++ w.found →
      Walks v starts rows parents j mark stamps found r (stamps' ++ drop n stamps) (found' ++ drop n found)
  walked v part stamps' found' next top e passed rows-of-j is-next is-top are-stamps are-found =
      let n = length parents in
      let w = reach_of parents part j (take n stamps) mark in
      let is-walk : w ≡ walk_of starts rows parents j mark stamps = ap (λ (p : List ℕ). reach_of parents p j (take n stamps) mark) rows-of-j in
      let size : length w.found ≡ length (walk_of starts rows parents j mark stamps).found = ap (λ (s : State). length s.found) is-walk in
      let begins : top ≡ n - length (walk_of starts rows parents j mark stamps).found = omega arith in
      let new : (old xs : List ℕ) → xs ≡ after v old xs = λ old xs. sym (ap (λ (t : Told). after t old xs) passed) in
      let answer : Told = accepted (mark_of (take n stamps) mark ∷ (n - length (walk_of starts rows parents j mark stamps).found) ∷ []) [] in
      record {
        outcome = e ∙ ap (λ (m : ℕ). accepted (m ∷ top ∷ []) []) is-next ∙ ap (λ (m : ℕ). accepted (mark_of (take n stamps) mark ∷ m ∷ []) []) begins ∙ sym (ap (λ (t : Told). first_of t answer) passed);
        stamped = ap (λ (l : List ℕ). l ++ drop n stamps) (are-stamps ∙ ap (λ (s : State). s.stamps) is-walk) ∙ new stamps _;
        listed =
            ap (λ (l : List ℕ). l ++ drop n found) are-found
            ∙ append_assoc (take top (take n found)) w.found (drop n found)
            ∙ ap (λ (l : List ℕ). l ++ (w.found ++ drop n found)) (take-take top n found (omega arith))
            ∙ ap (λ (m : ℕ). take m found ++ (w.found ++ drop n found)) begins
            ∙ ap (λ (s : State). take (n - length (walk_of starts rows parents j mark stamps).found) found ++ (s.found ++ drop n found)) is-walk
            ∙ new found _;
      }

-- each error is a refusal
error-refuses : (e : ReachError) → refuses (told_error e) ≡ true
error-refuses Blocks = refl
error-refuses (Starts place) = refl
error-refuses (Row place) = refl
error-refuses (Parent place) = refl
error-refuses (Order place) = refl
error-refuses (Short which need) = refl
error-refuses (Past place) = refl

-- the tables are refused, and so is the call, in the same words
pub tables_refused : (starts rows parents : List ℕ) (j mark : ℕ) (stamps found : List ℕ) (r : Result Mark ReachError) (v : Told) → IsErr r × IsErrAnd r (λ e. told_error e ≡ v) → v ≡ tree_verdict starts rows parents →
    Walks (reach_verdict starts rows parents j (length stamps) (length found)) starts rows parents j mark stamps found r stamps found
unfolding reach_verdict
tables_refused starts rows parents j mark stamps found (Ok m) v p e = absurd (false≢true p.0)
tables_refused starts rows parents j mark stamps found (Err r) v p e =
    let list = needs (length parents) j (length stamps) (length found) in
    let stops : refuses (told_error r) ≡ true = error-refuses r in
    let same : told_error r ≡ tree_verdict starts rows parents = p.1 ∙ e in
    let stays : verdict_after (tree_verdict starts rows parents) list ≡ told_error r = ap (λ (t : Told). verdict_after t list) (sym same) ∙ stays-refused (told_error r) list stops in
    refused starts rows parents j mark stamps found (Err r) _ (sym stays) (ap refuses stays ∙ stops)

-- the tables pass, and the needs decide
pub tables-passed : (starts rows parents : List ℕ) (j stamps found : ℕ) → done ≡ tree_verdict starts rows parents → verdict (needs (length parents) j stamps found) ≡ reach_verdict starts rows parents j stamps found
unfolding reach_verdict
tables-passed starts rows parents j stamps found e = ap (λ (t : Told). verdict_after t (needs (length parents) j stamps found)) e
