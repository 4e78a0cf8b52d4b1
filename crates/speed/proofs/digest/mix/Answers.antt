use Rattle.std.proofs.Common.{refl}
use Rattle.speed.specs.Digests.{mixed}
use Rattle.speed.proofs.digest.mix.Goals as goal

pub returns : goal.returns
unfolding mixed
returns c = refl
