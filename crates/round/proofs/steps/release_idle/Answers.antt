use Rattle.master.proofs.Keeping.{exchange_keeps}
use Rattle.round.specs.declared.any_master.Master.TheVariants as master
use Rattle.round.proofs.Stepping.{release_goes, same_house}
use Rattle.round.proofs.steps.release_idle.Goals as goal

pub returns : goal.returns
returns g c =
    let f = c.release.ensures in
    record {
      goes = λ room es. release_goes g.L.Line.means room es (master.Idle c.args.idle) c.release.new.self f.sent f.clear;
      house = same_house _ _ (exchange_keeps _ _ _ _ f.sent.exchange);
      layers = f.layers;
    }
