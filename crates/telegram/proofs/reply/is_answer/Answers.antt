use Rattle.std.proofs.Common.{◌||◌, ◌∙◌, ap₂}
use Rattle.telegram.proofs.Replying.{accepted}
use Rattle.telegram.proofs.reply.is_answer.Goals as goal

pub returns : goal.returns
returns c = ap₂ ◌||◌ c.is_ack_alone.ensures (c.is_ok.ensures.value ∙ accepted c.args.bytes.now c.read.result c.read.ensures.fault)
