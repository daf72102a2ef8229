-- `load_column::cores::find_row` meets its contract: the first place whose row is not below this one has it, or none has. Assumes nothing.
use Rattle.load_column.proofs.FindLaws.{found, none_left, other_row}
use Rattle.load_column.proofs.cores.find_row.Goals as goal
use Rattle.load_column.proofs.cores.find_row.Goals.{else-place-end-via-then-place-end+else-rows-place, else-place-end-via-else-place-end}

pub returns-then-rows-place : goal.returns-then-rows-place
returns-then-rows-place c =
    let x = c.args in
    let e = c.lower_bound-place.ensures in
    found x.row c.requires c.lower_bound-place.result e c.if-place-end.true c.if-rows-place.true

pub returns : goal.returns
returns c =
    let x = c.args in
    let place = c.lower_bound-place.result in
    let e = c.lower_bound-place.ensures in
    elim c.else-place-end.branch [
      | else-place-end-via-then-place-end+else-rows-place w ↦ other_row x.row c.requires place e w.if-place-end.true w.if-rows-place.false
      | else-place-end-via-else-place-end w ↦ none_left x.row c.requires place e w.if-place-end.false
    ]
