use Rattle.std.proofs.Common.{ap, ◌∙◌, length, [], ◌∷◌, arith}
use Rattle.std.proofs.lemmas.List.{length-append}
use Rattle.search.proofs.Raising.{front_of, last_raised, nine_dropped}
use Rattle.search.proofs.beginning.Beginning.raised.Goals as goal

pub returns-then-last-lt9 : goal.returns-then-last-lt9
returns-then-last-lt9 c =
    let i = c.loop-last.invariant in
    last_raised c.args.self.now.digits c.loop-last.kept.now c.in_ok-last.front.now c.in_ok-last.last.now c.in_ok-last.ensures.cases.0 i.1 (omega arith) c.if-last-lt9.true ∙ i.2

pub loop-last-preserved : goal.loop-last-preserved
loop-last-preserved c =
    let i = c.loop-last.invariant in
    let k = c.in_ok-last.ensures.cases.0 in (
      omega (arith, ap length k, length-append c.in_ok-last.front.now (c.in_ok-last.last.now ∷ [])),
      front_of c.args.self.now.digits c.loop-last.kept.now c.in_ok-last.front.now c.in_ok-last.last.now k i.1,
      nine_dropped c.loop-last.kept.now c.in_ok-last.front.now c.in_ok-last.last.now k c.if-last-lt9.false ∙ i.2,
    )
