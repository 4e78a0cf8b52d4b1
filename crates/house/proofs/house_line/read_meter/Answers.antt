use Rattle.std.proofs.Common.{arith}
use Rattle.house.proofs.Scanning.{few_behind}
use Rattle.house.proofs.house_line.read_meter.Goals as goal

pub read_all-requires-clause-room : goal.read_all-requires-clause-room
read_all-requires-clause-room c =
    omega (arith, few_behind c.args.source.text.now _ _ _ c.in_ok-address.ensures.rest c.in_ok-primary.ensures.steps, c.args.source.fits.bodies)
