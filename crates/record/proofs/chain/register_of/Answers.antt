use Rattle.std.proofs.Common.{arith}
use Rattle.record.proofs.Positions.{storage_is}
use Rattle.record.proofs.chain.register_of.Goals as goal

pub returns-clause-storage : goal.returns-clause-storage
returns-clause-storage c = omega (arith, c.shown_by-shown.ensures.storage, storage_is c.args.dif c.args.difes.now)
