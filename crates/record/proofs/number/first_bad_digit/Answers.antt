use Rattle.std.proofs.Common.{length, arith, rules}
use Rattle.std.proofs.lemmas.Iterator.{YieldsList-from_range, first_from_find}
use borrow.Author.Tests.{tests}
use Rattle.record.proofs.Decimals.{Bad, Good, bad_found}
use Rattle.record.proofs.number.first_bad_digit.Goals as goal

pub returns : goal.returns
returns c =
    let bs = c.args.bytes.now in
    bad_found bs c.find.result
    (first_from_find _ _ c.find.result (Bad bs) (Good bs) c.find.ensures.ran (YieldsList-from_range 0 (length bs) (length bs) (cc) (omega arith)) (λ x q k. search (rules, tests)) (λ x q k. search (rules, tests)))
