use Rattle.std.proofs.Common.{sym, ap, ◌∙◌, subst, rules}
use Rattle.std.proofs.lemmas.Result.{err_from_is_err_and}
use Rattle.telegram.specs.Replies.{reply_refusal}
use Rattle.line.specs.Meters.{address_in}
use Rattle.capture.specs.Cutting.{Faulty}
use Rattle.capture.proofs.Carrying.{address_read}
use Rattle.capture.proofs.Cuts.{part_is}
use Rattle.capture.proofs.reader.Reader.next.Goals as goal

pub returns-in_err-reply-clause-taken : goal.returns-in_err-reply-clause-taken
returns-in_err-reply-clause-taken c =
    let fault = c.in_err-reply.field-0.0 in
    let e = part_is c.args.self.now.bytes.now c.args.self.now.at c.new-guard.result.end.now c.new-guard.ensures.end in
    let f = c.in_err-reply.ensures in
    let p = err_from_is_err_and c.from_residual.result c.from_residual.ensures.1 in
    let faulty = subst (λ x. Faulty x fault) e (record { told = sym f.fault; rises = f.rises }) in
    rw (p.1, p.2) (record { faulty = faulty; stays = search rules })

pub returns-clause-taken : goal.returns-clause-taken
returns-clause-taken c =
    let e = part_is c.args.self.now.bytes.now c.args.self.now.at c.new-guard.result.end.now c.new-guard.ensures.end in
    let f = c.in_ok-reply.ensures in
    let a = address_read c.in_ok-reply.reply _ f.reads in
    record { sound = sym (f.fault ∙ ap reply_refusal e); carried = a ∙ ap address_in e; moved = c.new-guard.ensures.end }
