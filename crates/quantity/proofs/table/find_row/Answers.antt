use Rattle.std.proofs.Common.{◌∙◌, rules}
use Rattle.std.proofs.lemmas.Iterator.{YieldsList-from_slice}
use Rattle.std.proofs.lemmas.Iterator.Search.{find_from_yields_List}
use borrow.Author.Tests.{tests}
use Rattle.quantity.specs.Table.{has}
use Rattle.quantity.proofs.table.find_row.Goals as goal

pub returns : goal.returns
returns c = c.copied.ensures ∙ find_from_yields_List (has c.args.code) _ _ c.find.result c.find.ensures.ran (YieldsList-from_slice c.args.rows.now cc) (λ x b q k. search (rules, tests))
