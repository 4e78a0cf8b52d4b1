use Rattle.std.proofs.Common.{take, filter}
use Rattle.telegram.specs.Patterns.{fits}
use Rattle.bus.specs.Choices.{Tells}
use Rattle.bus.proofs.choice.choose.Given as goal

-- what is chosen of the rows so far
abbrev pub invariant-loop-row : goal.invariant-loop-row
invariant-loop-row g l =
    let ms = g.T.Table.meters l.table in
    Tells ms (filter (λ m. fits l.pattern.bytes m.address) (take l.row ms)) l.chosen
