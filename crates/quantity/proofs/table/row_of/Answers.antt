use Rattle.std.proofs.Common.{◌≡◌, ◌-◌, take, drop, ap, ◌∙◌, arith}
use Rattle.std.proofs.lemmas.List.{length-drop, take_all}
use Rattle.quantity.specs.Table.{row_with, table}
use Rattle.quantity.proofs.table.row_of.Goals as goal

pub returns : goal.returns
returns c =
    let s = c.start_of-start.result in
    let all : take (28 - s) (drop s table) ≡ drop s table = take_all (28 - s) (drop s table) (omega (arith, length-drop s table)) in
    c.find_row.ensures ∙ ap (row_with c.args.code) all ∙ c.start_of-start.ensures.passed
