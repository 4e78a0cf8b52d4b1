use Rattle.quantity.proofs.Standing.{start_within, start_passed}
use Rattle.quantity.proofs.table.start_of.Goals as goal

pub returns : goal.returns
returns c = record { within = start_within c.args.code c.requires; passed = start_passed c.args.code c.requires }
