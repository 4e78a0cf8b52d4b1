use Rattle.std.proofs.Common.{refl}
use Rattle.search.specs.Searches.{start}
use Rattle.search.proofs.beginning.Beginning.first.Goals as goal

pub returns : goal.returns
returns c = record { digits = refl; starts = λ ms faultless. start }
