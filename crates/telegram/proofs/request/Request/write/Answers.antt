use Rattle.std.proofs.Common.{length, ap, ◌∙◌}
use Rattle.link.specs.Buffers.{filled}
use Rattle.link.specs.Frames.{parts, written}
use Rattle.telegram.specs.Requests.{request_bytes}
use Rattle.telegram.proofs.Asking.{sent}
use Rattle.telegram.proofs.request.Request.write.Goals as goal

pub returns : goal.returns
unfolding request_bytes
returns c =
    let f = c.frame-frame.ensures in
    let w = c.write_frame.ensures in
    record {
      buffer = w.buffer ∙ ap (λ p. filled (written p)) f.frame;
      count = w.count ∙ ap (λ p. length (written p)) f.frame;
      understood = sent c.args.self.now (parts c.frame-frame.result) c.write_frame.result c.write_frame.new.buffer f.understood w.buffer w.count;
    }
