use Rattle.link.proofs.Judging.{judged}
use Rattle.link.proofs.frame.Frame.read.Goals as goal

pub returns : goal.returns
returns c =
    let x = c.read_any.ensures in
    let j = judged c.args.bytes.now c.read_any.result x.fault x.bytes in
    record { fault = x.fault; order = j.order; frame = j.frame; reads = j.reads }
