use Rattle.std.proofs.Common.{◌≡◌, ltb, take, sym, ap, ◌∙◌, arith}
use Rattle.telegram.specs.Replies.{answers}
use Rattle.line.proofs.Replying.{silence_no_answer}
use Rattle.line.proofs.retry.is_answered.Goals as goal

pub returns-else-count-gt0 : goal.returns-else-count-gt0
returns-else-count-gt0 c =
    let none : c.args.count ≡ 0 = omega arith in
    ap (ltb 0) none ∙ sym (ap (λ n. answers (take n c.args.reply.now)) none ∙ silence_no_answer)
