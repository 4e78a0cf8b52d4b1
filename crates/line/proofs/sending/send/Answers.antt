use Rattle.std.proofs.Common.{◌≡◌, ◌-◌, ◌≤◌, length, take, sym, ap, ◌∙◌, subst, arith, rules}
use Rattle.link.proofs.Filling.{filled_few, take_filled}
use Rattle.telegram.specs.Requests.{request_bytes, request_of}
use Rattle.line.specs.Exchanges.{Exchanged}
use Rattle.line.specs.Layering.{run_gone}
use Rattle.line.proofs.Hearing.{hear_twice}
use Rattle.line.proofs.Sent.{sent_by}
use Rattle.line.proofs.sending.send.Goals as goal

pub slice_bounds-exchange-end : goal.slice_bounds-exchange-end
slice_bounds-exchange-end g c =
    let w = c.write-count.ensures in
    let bytes = request_bytes c.args.request.now in
    let few : length bytes ≤ 261 = filled_few bytes (sym (ap length w.buffer) ∙ c.write-count.array_long) in
    let within : c.write-count.result ≤ length c.write-count.new.buffer = omega arith in
    search rules

pub returns : goal.returns
returns g c =
    let m = g.L.Line in
    let line = c.args.line.now in
    let bytes = request_bytes c.args.request.now in
    let count = c.write-count.result in
    let buffer = c.write-count.new.buffer in
    let w = c.write-count.ensures in
    let whole : count - 0 ≡ count = omega arith in
    let front : take count buffer ≡ bytes = ap (take count) w.buffer ∙ take_filled bytes count w.count in
    let x = subst (λ q. Exchanged (m.means line) q c.exchange.result c.exchange.new.reply (m.means c.exchange.new.self)) (ap (λ n. take n buffer) whole ∙ front) c.exchange.ensures.exchanged in
    record {
      sent = sent_by (m.sound line) c.exchange.array_long (ap request_of (sym front) ∙ w.understood) x;
      layers = c.exchange.ensures.layers;
      shown = run_gone (m.tries line) (m.means line) (m.base line) (m.layered line);
      once = hear_twice;
    }
