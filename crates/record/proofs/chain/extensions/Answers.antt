use Rattle.std.proofs.Common.{◌≡◌, ◌-◌, length, drop, take, min, ap, ◌∙◌, arith, rules}
use Rattle.std.proofs.lemmas.Iterator.{YieldsList-from_slice}
use Rattle.std.proofs.lemmas.Iterator.Consumers.{count_from_yields_List}
use Rattle.std.proofs.lemmas.Iterator.Search.{YieldsList-from_take_while}
use Rattle.std.proofs.lemmas.List.{length-drop, take_all}
use Rattle.std.proofs.lemmas.List.Folds.{length-prefix_len}
use borrow.Author.Tests.{tests}
use Rattle.record.specs.Chains.{extended}
use Rattle.record.proofs.chain.extensions.Goals as goal

pub returns : goal.returns
returns c =
    let bs = c.args.bytes.now in
    let ys = drop c.args.first bs in
    let all : take (length bs - c.args.first) ys ≡ ys = take_all (length bs - c.args.first) ys (omega (arith, length-drop c.args.first bs)) in
    c.min.ensures
    ∙ ap (λ n. min n 11)
    (count_from_yields_List c.take_while.result c.count-asked.result c.count-asked.ensures.ran
    (YieldsList-from_take_while _ extended (YieldsList-from_slice ys (cc all)) c.take_while.ensures.closure c.take_while.ensures.done (λ x b q k. search (rules, tests)))
    ∙ length-prefix_len extended ys)
