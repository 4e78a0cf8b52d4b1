use Rattle.std.proofs.Common.{Err, ◌∙◌}
use Rattle.master.proofs.Probing.{answered_probe, read_is, read_one, silent_probe, told_several}
use Rattle.master.proofs.probe.probe.Goals as goal

pub returns-then-send-eq0 : goal.returns-then-send-eq0
returns-then-send-eq0 g c =
    record {
      probed = silent_probe _ _ _ c.pattern.result.bytes _ _ c.pattern.ensures.bytes c.send.ensures.sent.exchanged c.if-send-eq0.true;
      layers = c.send.ensures.layers;
    }

pub returns-in-Ok : goal.returns-in-Ok
returns-in-Ok g c =
    let n = c.send-count.result in
    let buffer = c.send-count.new.reply in
    let reply = c.in-Ok.reply in
    record {
      probed = answered_probe _ _ _ c.pattern.result.bytes _ _ c.pattern.ensures.bytes c.send.ensures.sent.exchanged _ n buffer c.send.array_long c.if-send-eq0.false
          c.send-count.ensures.sent.exchanged _ (read_one n buffer reply reply.address.sized c.in-Ok.ensures.reads);
      layers = c.send-count.ensures.layers ∙ c.send.ensures.layers;
    }

pub returns-in-Err : goal.returns-in-Err
returns-in-Err g c =
    let n = c.send-count.result in
    let buffer = c.send-count.new.reply in
    record {
      probed = answered_probe _ _ _ c.pattern.result.bytes _ _ c.pattern.ensures.bytes c.send.ensures.sent.exchanged _ n buffer c.send.array_long c.if-send-eq0.false
          c.send-count.ensures.sent.exchanged _ (told_several _ (read_is n buffer (Err c.in-Err.field-0) c.in-Err.ensures.fault));
      layers = c.send-count.ensures.layers ∙ c.send.ensures.layers;
    }
