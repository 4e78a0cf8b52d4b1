use Rattle.master.proofs.Finding.{release_clear}
use Rattle.master.proofs.master.send_release.Goals as goal

pub returns : goal.returns
returns g c =
    let x = c.send-count.ensures.sent.exchanged.exchange in
    record { sent = record { reply = _; exchange = x }; clear = release_clear _ _ _ x; layers = c.send-count.ensures.layers }
