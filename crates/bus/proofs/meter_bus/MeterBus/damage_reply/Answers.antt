use Rattle.bus.proofs.Answering.{spoilt}
use Rattle.bus.proofs.meter_bus.MeterBus.damage_reply.Goals as goal

pub returns-clause-exchanged : goal.returns-clause-exchanged
returns-clause-exchanged g c s at =
    let h = c.hear-due.ensures in
    let ms = g.T.Table.meters c.hear-due.new.self.table in
    let d = c.damage.ensures in
    spoilt s _ _ _ _ _ _ h.hears.bus h.due c.damage.array_long at (d.count ms) (d.buffer ms)
