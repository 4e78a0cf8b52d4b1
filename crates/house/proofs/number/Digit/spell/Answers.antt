use Rattle.std.proofs.Common.{◌≡◌, ◌&&◌, true, eqb, length, ap, rules}
use borrow.Author.Tests.{tests}
use Rattle.std.specs.List.{list_all}
use Rattle.std.proofs.lemmas.Iterator.{YieldsList-from_slice}
use Rattle.std.proofs.lemmas.Iterator.Search.{all_from_yields_List}
use Rattle.house.specs.Numbers.{is_digit}
use Rattle.house.proofs.number.Digit.spell.Goals as goal

pub returns-then-all : goal.returns-then-all
returns-then-all c =
    let all : true ≡ list_all (is_digit c.args.self.now) c.args.word.now = all_from_yields_List (is_digit c.args.self.now) _ _ _ c.if-all.ensures.ran (YieldsList-from_slice c.args.word.now cc) (λ x b q k. search (rules, tests)) in
    ap (λ b. b && eqb (length c.args.word.now) c.args.count) all
