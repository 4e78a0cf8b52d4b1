use Rattle.std.proofs.Common.{◌≡◌, ℕ, ◌-◌, List, ◌++◌, take, replicate, ap, ◌∙◌, arith}
use Rattle.link.specs.Frames.{long}
use Rattle.link.proofs.Filling.{put_whole}
use Rattle.telegram.specs.Replies.{head_of, reply_parts}
use Rattle.telegram.proofs.Writing.{joined, wrote}
use Rattle.telegram.proofs.reply.Reply.write.Goals as goal

pub returns : goal.returns
returns c =
    let t = c.args.self.now in
    let body : List ℕ = c.args.body.now in
    let end : ℕ = c.append-end.result in
    let d : List ℕ = c.append-end.new.buffer in
    let x = c.append-start.ensures in
    let y = c.append-end.ensures in
    let x_is = put_whole (replicate 252 0) c.head.result _ 0 (omega arith) x.front in
    let y_is = put_whole c.append-start.new.buffer body _ c.append-start.result (omega (arith, x.count)) y.front in
    let whole : end - 0 ≡ end = omega arith in
    let d_is : take (end - 0) d ≡ head_of t ++ body = ap (λ n. take n d) whole ∙ y_is ∙ ap (λ q. q ++ body) (x_is ∙ c.head.ensures) in
    let p : long 0x08 t.primary 0x72 (take (end - 0) d) ≡ reply_parts t body = joined t body (take (end - 0) d) d_is in
    let v = c.write.ensures in
    let r = wrote t body (long 0x08 t.primary 0x72 (take (end - 0) d)) c.write.result c.args.buffer.now c.write.new.buffer p (omega arith) v.fault v.count v.buffer in
    record { fault = r.fault; count = r.count; buffer = r.buffer; readable = r.readable }
