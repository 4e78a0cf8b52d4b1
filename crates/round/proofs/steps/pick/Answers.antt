use Rattle.master.proofs.Keeping.{exchange_keeps}
use Rattle.round.proofs.Stepping.{pick_goes, same_house}
use Rattle.round.proofs.steps.pick.Goals as goal

pub returns : goal.returns
returns g c =
    let f = c.pick-picked.ensures in
    record {
      goes = λ room es. pick_goes g.L.Line.means room es c.args.idle c.args.address c.pick-picked.result c.is_answered-answered.result c.is_answered-answered.ensures f.sent f.starts;
      house = same_house _ _ (exchange_keeps _ _ _ _ f.sent.exchange);
      layers = f.layers;
    }
