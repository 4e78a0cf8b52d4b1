use Rattle.std.proofs.Common.{refl}
use Rattle.search.proofs.Worked.{one_number, two_numbers}
use Rattle.examples.proofs.worked_searches.Goals as goal

pub returns : goal.returns
returns c = record { hold = (two_numbers.0, (two_numbers.1, (one_number, tt))); count = refl }
