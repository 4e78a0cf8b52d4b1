use Rattle.std.proofs.Common.{ℕ, ◌+◌, ◌<◌, Bool, true, false, length, take, filter, sym, ◌∙◌, subst, arith}
use Rattle.telegram.specs.Patterns.{fits}
use Rattle.line.specs.Meters.{Meter}
use Rattle.telegram.specs.declared.matches.Matches.{Matches}
use Rattle.bus.specs.Choices.{Tells}
use Rattle.bus.proofs.Choosing.{at_row, tells_fit, tells_unfit}
use Rattle.bus.proofs.choice.choose.Goals as goal
use Rattle.bus.proofs.choice.choose.Goals.{then-is_fit, else-is_fit}

pub loop-row-preserved : goal.loop-row-preserved
loop-row-preserved g c =
    let ms = g.T.Table.meters c.args.table.now in
    let p : Meter → Bool = λ m. fits c.args.pattern.now.bytes m.address in
    let i = c.loop-row.row in
    let P : Matches ℕ → Type 0 = λ x. Tells ms (filter p (take (i + 1) ms)) x in
    let low : i < length ms = omega arith in
    elim c.if-is_fit.branch [
      | then-is_fit w ↦ subst P (sym (w.chosen-is ∙ w.with_row-chosen.ensures)) (tells_fit p ms i low c.loop-row.chosen (at_row p ms i low true w.if-is_fit.ensures) c.loop-row.invariant)
      | else-is_fit w ↦ subst P (sym w.chosen-is) (tells_unfit p ms i low c.loop-row.chosen (at_row p ms i low false w.if-is_fit.ensures) c.loop-row.invariant)
    ]
