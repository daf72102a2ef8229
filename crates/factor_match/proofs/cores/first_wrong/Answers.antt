-- `factor_match::cores::first_wrong` meets its contract: the lowest of the three answers is the first wrong column. Assumes nothing.
use Rattle.std.specs.Prelude.{◌≤◌, min, length}
use mathlib.Core.Path.{sym, ◌∙◌}
use Rattle.std.specs.Option.{unwrap_or}
use Rattle.graph.specs.Links.{rows_in}
use Rattle.tables.specs.Search.{first}
use Rattle.match_rows.specs.Rows.{given_in, headed, column_given}
use Rattle.factor_match.proofs.MatchLaws.{wrong-parent, late-lack, late-stray, late-none, wrong-extra, stray-late, stray-none, wrong-missing, none-wrong}
use Rattle.factor_match.proofs.cores.first_wrong.Goals as goal
use Rattle.factor_match.proofs.cores.first_wrong.Goals.{in-Some+else-is_before, else-is_before-via-then-is_before+else-is_before-2, else-is_before-via-else-is_before, in_default, in-Some-stray+else-is_before-3, in_default-stray}

pub first_off-requires : goal.first_off-requires
first_off-requires c =
    let s = c.requires in
    rw s.parents_len s.compared.l_columns

pub returns-then-is_before-2 : goal.returns-then-is_before-2
returns-then-is_before-2 c =
    let a = c.args in
    let s = c.requires in
    wrong-parent a.links.now.starts.now a.links.now.rows.now a.links.now.order.now a.parents.now a.l_starts.now a.l_rows.now s.compared.l_columns _ _ c.first_lacking-lack.ensures c.first_stray-stray.ensures s.parents_len c.in-Some.column c.in-Some.ensures (sym c.is_before.ensures ∙ c.if-is_before.true) (sym c.is_before-then-is_before.ensures ∙ c.if-is_before-2.true)

pub returns-then-is_before-3 : goal.returns-then-is_before-3
returns-then-is_before-3 c =
    let a = c.args in
    let s = c.requires in
    let late : min (unwrap_or c.first_lacking-lack.result (length a.links.now.order.now)) (first (column_given (given_in a.links.now.starts.now a.links.now.rows.now a.links.now.order.now a.l_starts.now a.l_rows.now) a.l_starts.now a.l_rows.now) 0 (length a.links.now.order.now)) ≤ first (headed a.parents.now (rows_in a.l_starts.now a.l_rows.now)) 0 (length a.parents.now) = elim c.match-first_off.branch [
      | in-Some+else-is_before w ↦ elim w.else-is_before.branch [
        | else-is_before-via-then-is_before+else-is_before-2 v ↦ late-stray a.links.now.starts.now a.links.now.rows.now a.links.now.order.now a.parents.now a.l_starts.now a.l_rows.now s.compared.l_columns _ _ c.first_lacking-lack.ensures c.first_stray-stray.ensures s.parents_len w.in-Some.column w.in-Some.ensures (sym v.is_before-then-is_before.ensures ∙ v.if-is_before-2.false)
        | else-is_before-via-else-is_before v ↦ late-lack a.links.now.starts.now a.links.now.rows.now a.links.now.order.now a.parents.now a.l_starts.now a.l_rows.now s.compared.l_columns _ _ c.first_lacking-lack.ensures c.first_stray-stray.ensures s.parents_len w.in-Some.column w.in-Some.ensures (sym w.is_before.ensures ∙ v.if-is_before.false)
      ]
      | in_default w ↦ late-none a.links.now.starts.now a.links.now.rows.now a.links.now.order.now a.parents.now a.l_starts.now a.l_rows.now s.compared.l_columns _ _ c.first_lacking-lack.ensures c.first_stray-stray.ensures s.parents_len w.in_default.ensures
    ] in
    wrong-extra a.links.now.starts.now a.links.now.rows.now a.links.now.order.now a.parents.now a.l_starts.now a.l_rows.now s.compared.l_columns _ _ c.first_lacking-lack.ensures c.first_stray-stray.ensures s.parents_len c.in-Some-stray.column c.in-Some-stray.ensures (sym c.is_before-in-Some-stray.ensures ∙ c.if-is_before-3.true) late

pub returns-in-Some-lack : goal.returns-in-Some-lack
returns-in-Some-lack c =
    let a = c.args in
    let s = c.requires in
    let late : min (unwrap_or c.first_lacking-lack.result (length a.links.now.order.now)) (first (column_given (given_in a.links.now.starts.now a.links.now.rows.now a.links.now.order.now a.l_starts.now a.l_rows.now) a.l_starts.now a.l_rows.now) 0 (length a.links.now.order.now)) ≤ first (headed a.parents.now (rows_in a.l_starts.now a.l_rows.now)) 0 (length a.parents.now) = elim c.match-first_off.branch [
      | in-Some+else-is_before w ↦ elim w.else-is_before.branch [
        | else-is_before-via-then-is_before+else-is_before-2 v ↦ late-stray a.links.now.starts.now a.links.now.rows.now a.links.now.order.now a.parents.now a.l_starts.now a.l_rows.now s.compared.l_columns _ _ c.first_lacking-lack.ensures c.first_stray-stray.ensures s.parents_len w.in-Some.column w.in-Some.ensures (sym v.is_before-then-is_before.ensures ∙ v.if-is_before-2.false)
        | else-is_before-via-else-is_before v ↦ late-lack a.links.now.starts.now a.links.now.rows.now a.links.now.order.now a.parents.now a.l_starts.now a.l_rows.now s.compared.l_columns _ _ c.first_lacking-lack.ensures c.first_stray-stray.ensures s.parents_len w.in-Some.column w.in-Some.ensures (sym w.is_before.ensures ∙ v.if-is_before.false)
      ]
      | in_default w ↦ late-none a.links.now.starts.now a.links.now.rows.now a.links.now.order.now a.parents.now a.l_starts.now a.l_rows.now s.compared.l_columns _ _ c.first_lacking-lack.ensures c.first_stray-stray.ensures s.parents_len w.in_default.ensures
    ] in
    let past : unwrap_or c.first_lacking-lack.result (length a.links.now.order.now) ≤ first (column_given (given_in a.links.now.starts.now a.links.now.rows.now a.links.now.order.now a.l_starts.now a.l_rows.now) a.l_starts.now a.l_rows.now) 0 (length a.links.now.order.now) = elim c.match-stray.branch [
      | in-Some-stray+else-is_before-3 w ↦ stray-late a.links.now.starts.now a.links.now.rows.now a.links.now.order.now a.parents.now a.l_starts.now a.l_rows.now s.compared.l_columns _ _ c.first_lacking-lack.ensures c.first_stray-stray.ensures s.parents_len w.in-Some-stray.column w.in-Some-stray.ensures (sym w.is_before-in-Some-stray.ensures ∙ w.if-is_before-3.false)
      | in_default-stray w ↦ stray-none a.links.now.starts.now a.links.now.rows.now a.links.now.order.now a.parents.now a.l_starts.now a.l_rows.now s.compared.l_columns _ _ c.first_lacking-lack.ensures c.first_stray-stray.ensures s.parents_len w.in_default-stray.ensures
    ] in
    wrong-missing a.links.now.starts.now a.links.now.rows.now a.links.now.order.now a.parents.now a.l_starts.now a.l_rows.now s.compared.l_columns _ _ c.first_lacking-lack.ensures c.first_stray-stray.ensures s.parents_len c.in-Some-lack.column c.in-Some-lack.is past late

pub returns : goal.returns
returns c =
    let a = c.args in
    let s = c.requires in
    let late : min (unwrap_or c.first_lacking-lack.result (length a.links.now.order.now)) (first (column_given (given_in a.links.now.starts.now a.links.now.rows.now a.links.now.order.now a.l_starts.now a.l_rows.now) a.l_starts.now a.l_rows.now) 0 (length a.links.now.order.now)) ≤ first (headed a.parents.now (rows_in a.l_starts.now a.l_rows.now)) 0 (length a.parents.now) = elim c.match-first_off.branch [
      | in-Some+else-is_before w ↦ elim w.else-is_before.branch [
        | else-is_before-via-then-is_before+else-is_before-2 v ↦ late-stray a.links.now.starts.now a.links.now.rows.now a.links.now.order.now a.parents.now a.l_starts.now a.l_rows.now s.compared.l_columns _ _ c.first_lacking-lack.ensures c.first_stray-stray.ensures s.parents_len w.in-Some.column w.in-Some.ensures (sym v.is_before-then-is_before.ensures ∙ v.if-is_before-2.false)
        | else-is_before-via-else-is_before v ↦ late-lack a.links.now.starts.now a.links.now.rows.now a.links.now.order.now a.parents.now a.l_starts.now a.l_rows.now s.compared.l_columns _ _ c.first_lacking-lack.ensures c.first_stray-stray.ensures s.parents_len w.in-Some.column w.in-Some.ensures (sym w.is_before.ensures ∙ v.if-is_before.false)
      ]
      | in_default w ↦ late-none a.links.now.starts.now a.links.now.rows.now a.links.now.order.now a.parents.now a.l_starts.now a.l_rows.now s.compared.l_columns _ _ c.first_lacking-lack.ensures c.first_stray-stray.ensures s.parents_len w.in_default.ensures
    ] in
    let past : unwrap_or c.first_lacking-lack.result (length a.links.now.order.now) ≤ first (column_given (given_in a.links.now.starts.now a.links.now.rows.now a.links.now.order.now a.l_starts.now a.l_rows.now) a.l_starts.now a.l_rows.now) 0 (length a.links.now.order.now) = elim c.match-stray.branch [
      | in-Some-stray+else-is_before-3 w ↦ stray-late a.links.now.starts.now a.links.now.rows.now a.links.now.order.now a.parents.now a.l_starts.now a.l_rows.now s.compared.l_columns _ _ c.first_lacking-lack.ensures c.first_stray-stray.ensures s.parents_len w.in-Some-stray.column w.in-Some-stray.ensures (sym w.is_before-in-Some-stray.ensures ∙ w.if-is_before-3.false)
      | in_default-stray w ↦ stray-none a.links.now.starts.now a.links.now.rows.now a.links.now.order.now a.parents.now a.l_starts.now a.l_rows.now s.compared.l_columns _ _ c.first_lacking-lack.ensures c.first_stray-stray.ensures s.parents_len w.in_default-stray.ensures
    ] in
    none-wrong a.links.now.starts.now a.links.now.rows.now a.links.now.order.now a.parents.now a.l_starts.now a.l_rows.now s.compared.l_columns _ _ c.first_lacking-lack.ensures c.first_stray-stray.ensures s.parents_len c.in_default-lack.is past late
