use Rattle.std.proofs.Common.{ℕ, true, ltb, List, sym, refl, ap, subst}
use Rattle.telegram.specs.Addresses.{address_bytes}
use Rattle.telegram.proofs.Writing.{address_size}
use Rattle.line.specs.Exchanges.{Exchanged}
use Rattle.master.specs.Picks.{Selects}
use Rattle.master.specs.Requests.{selection}
use Rattle.master.proofs.Fetching.{reply_size}
use Rattle.master.proofs.Selecting.{pick_starts}
use Rattle.master.proofs.master.Idle.pick.Goals as goal

pub returns : goal.returns
returns g c =
    let means = g.L.Line.means in
    let a = address_bytes c.args.address in
    let n = c.send-count.result in
    let buffer = c.send-count.new.reply in
    let x = subst (λ (p : List ℕ). Exchanged (means c.args.self.line) (selection p) n buffer (means c.send-count.new.line)) c.bytes.ensures c.send-count.ensures.sent.exchanged in
    let sent : Selects (means c.args.self.line) a (ltb 0 n) true (means c.send-count.new.line) =
    record { reply = _; exchange = x.exchange; noted = ap (ltb 0) (sym (reply_size c.send-count.array_long x)); first = refl } in
    record {
      sent = sent;
      starts = λ m one. pick_starts a (address_size c.args.address) _ _ m _ _ one sent;
      layers = c.send-count.ensures.layers;
    }
