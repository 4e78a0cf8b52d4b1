use Rattle.std.proofs.Common.{refl, ◌∙◌}
use Rattle.master.proofs.Finding.{search_clears, search_finds}
use Rattle.master.proofs.Walking.{walked_released}
use Rattle.master.proofs.master.Idle.search.Goals as goal

pub returns : goal.returns
returns g c =
    let w = c.walk-found.ensures in
    let sent = walked_released _ _ _ _ _ _ _ _ w.walked c.send_release.ensures.sent refl in
    record {
      searched = sent;
      finds = search_finds _ _ _ _ _ _ (g.L.Line.sound c.args.self.now.line) sent;
      clear = search_clears _ _ _ _ _ _ sent;
      entries = w.entries;
      filled = w.filled;
      lender = w.lender;
      layers = c.send_release.ensures.layers ∙ w.layers;
    }
