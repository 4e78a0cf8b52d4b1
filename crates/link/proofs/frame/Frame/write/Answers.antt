use Rattle.std.proofs.Common.{rules}
use Rattle.link.specs.Frames.{parts}
use Rattle.link.proofs.Judging.{readable}
use Rattle.link.proofs.frame.Frame.write.Goals as goal

pub returns-in-Ack-clause-readable : goal.returns-in-Ack-clause-readable
returns-in-Ack-clause-readable c =
    readable c.fill.new.buffer c.fill.result (parts c.args.self.now) (search rules) (search rules)

pub returns-in-Short-clause-readable : goal.returns-in-Short-clause-readable
returns-in-Short-clause-readable c =
    readable c.fill-in-Short.new.buffer c.fill-in-Short.result (parts c.args.self.now) (search rules) (search rules)

pub returns-else-frame-gt-MOST_DATA-clause-readable :
    goal.returns-else-frame-gt-MOST_DATA-clause-readable
returns-else-frame-gt-MOST_DATA-clause-readable c =
    readable c.write.new.buffer c.write.result (parts c.args.self.now) (search rules) (search rules)
