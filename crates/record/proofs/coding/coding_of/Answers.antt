use Rattle.std.proofs.Common.{◌%◌, refl}
use Rattle.record.specs.Codings.{dif_coding}
use Rattle.record.proofs.Sizes.{sized_at}
use Rattle.record.proofs.coding.coding_of.Goals as goal

pub returns : goal.returns
unfolding dif_coding
returns c = record { value = refl; sized = sized_at (c.args.dif % 16) }
