-- 12 passes exactly the factors that are not stale.
--     fresh           what 12 passes has the tables of the system's own plan
--     fresh_passes    and what has them is passed: a factor just made is never refused
-- Assumes nothing.
use Rattle.std.specs.Prelude.{◌≡◌, ℕ, Bool, false, List, [], length, drop}
use mathlib.Core.Path.{sym, ap, subst, ◌∙◌}
use Rattle.graph.specs.Links.{rows_in, linked_in, linked_of}
use Rattle.graph.specs.Order.{Permutes, moved}
use Rattle.graph.proofs.OrderLaws.{moved-permutes}
use Rattle.graph.proofs.Whole.{linked-symm}
use Rattle.refusal.specs.Refusal.{done, refuses}
use Rattle.refusal.proofs.Laws.{all_pass}
use Rattle.tables.specs.Verdict.{past_diagonal}
use Rattle.tables.specs.Sound.{Columns}
use Rattle.tables.proofs.CheckLaws.{goes}
use Rattle.elimination_tree.specs.Tree.{parents_of}
use Rattle.elimination_tree.proofs.Links.{parents-length}
use Rattle.order.specs.Order.{sizes_of}
use Rattle.analysis.specs.Plan.{starts_of, rows_of}
use Rattle.scalars.specs.Scalars.{scalar_count}
use Rattle.scalars.specs.Bodies.{offsets}
use Rattle.layout.specs.Layout.{units_need}
use Rattle.layout.proofs.PlanLaws.{plan_columns}
use Rattle.factor_match.specs.Match.{match_of}
use Rattle.factor_match.proofs.SameLaws.{same_tables, tables-same}
use Rattle.factor_order.specs.Same.{same_list}
use Rattle.factor_order.proofs.SameLaws.{same-equal, equal-same}
use Rattle.solve_match.specs.Verdict.{match_checks, match_verdict, told_match}
use Rattle.solve_match.specs.Fresh.{Fresh}
use Rattle.solve_match.proofs.MatchLaws.{table-go, table-pass, count-go, count-pass, columns-pass}

module _ (dims starts rows perm late order parents l_starts l_rows l_offsets : List ℕ) (diag d x : ℕ) (permutes : Permutes (length dims) perm) where
  -- the links under the permutation after the late move
  abbrev links : ℕ → ℕ → Bool
  links = linked_of starts rows perm late

  -- the order has an entry for each block
  many : order ≡ moved perm late → length order ≡ length dims
  many e = ap length e ∙ (moved-permutes perm late (length dims) permutes).entries

  -- ---- what passes is not stale

  pub fresh : Columns past_diagonal (length dims) l_starts l_rows → refuses (match_verdict dims starts rows perm late order parents l_starts l_rows l_offsets diag d x) ≡ false
      → Fresh dims starts rows perm late order parents l_starts l_rows l_offsets diag d x
  unfolding match_verdict
  fresh columns e =
      let p = all_pass (match_checks dims starts rows perm late order parents l_starts l_rows l_offsets diag d x) e in
      let o = same-equal order (moved perm late) (table-pass 5 (same_list order (moved perm late)) p.0) in
      let n = many o in
      let q = p.1.1 in
      let same = columns-pass (match_of starts rows order parents l_starts l_rows) q.0 in
      let t = same_tables starts rows order parents l_starts l_rows (subst (λ (m : ℕ). Columns past_diagonal m l_starts l_rows) (sym n) columns) (count-pass 6 (length dims) (length parents) p.1.0 ∙ sym n) same in
      let links-are : (f : (ℕ → ℕ → Bool) → ℕ → List ℕ) → f (linked_in starts rows order) (length order) ≡ f links (length dims) =
      λ f. ap (λ (m : ℕ). f (linked_in starts rows order) m) n ∙ ap (λ (l : List ℕ). f (linked_in starts rows l) (length dims)) o in
      record {
        of_order = o;
        of_parents = t.2 ∙ links-are parents_of;
        of_l_starts = t.0 ∙ links-are starts_of;
        of_l_rows = t.1 ∙ links-are rows_of;
        of_l_offsets = same-equal l_offsets (offsets (sizes_of dims order) l_starts l_rows) (table-pass 9 (same_list l_offsets (offsets (sizes_of dims order) l_starts l_rows)) q.1.0) ∙ ap (λ (l : List ℕ). offsets (sizes_of dims l) l_starts l_rows) o;
        of_diag = count-pass 11 (units_need dims) diag q.1.1.0;
        of_d = count-pass 12 (scalar_count dims) d q.1.1.1.0;
        of_x = count-pass 13 (scalar_count dims) x q.1.1.1.1.0;
      }

  -- ---- what is not stale passes

  pub fresh_passes : Fresh dims starts rows perm late order parents l_starts l_rows l_offsets diag d x → match_verdict dims starts rows perm late order parents l_starts l_rows l_offsets diag d x ≡ done
  unfolding match_verdict
  fresh_passes f =
      let o = f.of_order in
      let n = many o in
      let symm = linked-symm (rows_in starts rows) (moved perm late) in
      let links-are : (g : (ℕ → ℕ → Bool) → ℕ → List ℕ) → g links (length dims) ≡ g (linked_in starts rows order) (length order) =
      λ g. sym (ap (λ (m : ℕ). g (linked_in starts rows order) m) n ∙ ap (λ (l : List ℕ). g (linked_in starts rows l) (length dims)) o) in
      let columns : Columns past_diagonal (length dims) l_starts l_rows = rw (f.of_l_starts, f.of_l_rows) (plan_columns links (length dims) symm) in
      let same = tables-same starts rows order parents l_starts l_rows (subst (λ (m : ℕ). Columns past_diagonal m l_starts l_rows) (sym n) columns)
      (f.of_l_starts ∙ links-are starts_of) (f.of_l_rows ∙ links-are rows_of) (f.of_parents ∙ links-are parents_of) in
      let checks = match_checks dims starts rows perm late order parents l_starts l_rows l_offsets diag d x in
      sym (
      goes [] (count-go 13 (scalar_count dims) x f.of_x)
      ∙ (goes (drop 6 checks) (count-go 12 (scalar_count dims) d f.of_d)
      ∙ (goes (drop 5 checks) (count-go 11 (units_need dims) diag f.of_diag)
      ∙ (goes (drop 4 checks) (table-go 9 (same_list l_offsets (offsets (sizes_of dims order) l_starts l_rows)) (sym (equal-same l_offsets (offsets (sizes_of dims order) l_starts l_rows) (f.of_l_offsets ∙ ap (λ (l : List ℕ). offsets (sizes_of dims l) l_starts l_rows) (sym o)))))
      ∙ (goes (drop 3 checks) (ap told_match same)
      ∙ (goes (drop 2 checks) (count-go 6 (length dims) (length parents) (ap length f.of_parents ∙ parents-length links (length dims) symm))
      ∙ goes (drop 1 checks) (table-go 5 (same_list order (moved perm late)) (sym (equal-same order (moved perm late) o)))))))))
