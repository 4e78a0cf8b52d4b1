use Rattle.std.proofs.Common.{sym, ap}
use Rattle.link.specs.Frames.{parts, written}
use Rattle.telegram.proofs.Replying.{framed_long, framed_other}
use Rattle.telegram.proofs.reply.ReplyTryFromFrame.try_from.Goals as goal

pub returns-in-Long : goal.returns-in-Long
returns-in-Long c =
    let f = c.in-Long.frame in
    let h = ap (λ g. written (parts g)) (sym c.in-Long.is) in
    let j = framed_long (written (parts c.args.frame)) c.from_long.result f.control f.address f.information f.data.now c.from_long.ensures.fault c.from_long.ensures.parts h in
    record { fault = j.told; reads = j.reads }

pub returns-in_default : goal.returns-in_default
returns-in_default c =
    let j = framed_other c.args.frame c.in_default.not-Long in
    record { fault = j.told; reads = j.reads }
