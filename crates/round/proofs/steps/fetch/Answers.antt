use Rattle.round.proofs.Stepping.{accepted_goes, fetches_keep, refused_goes, same_house}
use Rattle.round.proofs.steps.fetch.Goals as goal

pub returns-in-Ok : goal.returns-in-Ok
returns-in-Ok g c =
    let f = c.in-Ok.ensures in
    record {
      goes = λ room es. accepted_goes g.L.Line.means room es c.args.picked c.fetch.new.self c.fetch.new.buffer f.answered c.in-Ok.count f.fetched f.continues;
      house = same_house _ _ (fetches_keep f.fetched);
      layers = f.layers;
    }

pub returns-in-Err : goal.returns-in-Err
returns-in-Err g c =
    let f = c.in-Err.ensures in
    record {
      goes = λ room es. refused_goes g.L.Line.means room es c.args.picked c.fetch.new.self c.fetch.new.buffer f.answered c.in-Err.fault f.fetched f.continues;
      house = same_house _ _ (fetches_keep f.fetched);
      layers = f.layers;
    }
