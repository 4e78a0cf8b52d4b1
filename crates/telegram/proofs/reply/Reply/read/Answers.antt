use Rattle.std.proofs.lemmas.Result.{err_from_is_err_and}
use Rattle.link.specs.Frames.{parts}
use Rattle.telegram.proofs.Replying.{judged, judged_frame}
use Rattle.telegram.proofs.reply.Reply.read.Goals as goal

pub returns-in_err-frame : goal.returns-in_err-frame
returns-in_err-frame c =
    let p = err_from_is_err_and c.from_residual.result c.from_residual.ensures.1 in
    let j = judged_frame c.args.bytes.now c.from_residual.result p.0 c.in_err-frame.field-0.0 p.1 p.2 c.in_err-frame.ensures.fault in
    record { fault = j.told; order = j.order; rises = j.rises; reads = j.reads }

pub returns : goal.returns
returns c =
    let e = c.in_ok-frame.ensures in
    let j = judged c.args.bytes.now (parts c.in_ok-frame.frame) c.try_from.result e.reads.writes_back c.try_from.ensures.fault c.try_from.ensures.reads in
    record { fault = j.told; order = j.order; rises = j.rises; reads = j.reads }
