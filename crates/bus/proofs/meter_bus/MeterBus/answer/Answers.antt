use Rattle.bus.proofs.Answering.{answered}
use Rattle.bus.proofs.meter_bus.MeterBus.answer.Goals as goal

pub returns-clause-exchanged : goal.returns-clause-exchanged
returns-clause-exchanged g c s at =
    let h = c.hear-due.ensures in
    let d = c.deliver.ensures in
    answered s _ _ _ _ _ _ h.hears.bus h.due c.deliver.array_long at d.count d.buffer
