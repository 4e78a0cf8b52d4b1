use Rattle.std.proofs.Common.{sym, ◌∙◌, rules}
use Rattle.telegram.proofs.Telling.{first_told}
use Rattle.telegram.proofs.address.methods.check_digits.Goals as goal

pub returns-in-Some : goal.returns-in-Some
returns-in-Some c =
    first_told c.args.number c.args.start c.in-Some.at (search rules) (sym c.first_bad.ensures ∙ c.in-Some.is)
