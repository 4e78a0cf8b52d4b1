use Rattle.std.proofs.Common.{◌≡◌, ◌+◌, eqb, take, drop, ap, ◌∙◌, rules}
use borrow.Author.Tests.{tests}
use Rattle.std.specs.List.{position_or_len}
use Rattle.std.proofs.lemmas.Iterator.{YieldsList-from_slice}
use Rattle.std.proofs.lemmas.Iterator.Search.{position_from_yields_List}
use Rattle.house.proofs.Scanning.{place_or_len, back_is, front_is}
use Rattle.house.proofs.words.size_before.Goals as goal

pub returns-clause-front : goal.returns-clause-front
returns-clause-front c =
    let p : c.unwrap_or.result ≡ position_or_len (λ x. eqb x c.args.end) c.args.text.now = place_or_len (λ x. eqb x c.args.end) c.args.text.now _ _ (position_from_yields_List (λ x. eqb x c.args.end) _ _ _ c.position.ensures.ran (YieldsList-from_slice c.args.text.now cc) (λ x b q k. search (rules, tests))) c.unwrap_or.ensures in
    ap (λ n. take n c.args.text.now) p ∙ front_is c.args.end c.args.text.now

pub returns-clause-back : goal.returns-clause-back
returns-clause-back c =
    let p : c.unwrap_or.result ≡ position_or_len (λ x. eqb x c.args.end) c.args.text.now = place_or_len (λ x. eqb x c.args.end) c.args.text.now _ _ (position_from_yields_List (λ x. eqb x c.args.end) _ _ _ c.position.ensures.ran (YieldsList-from_slice c.args.text.now cc) (λ x b q k. search (rules, tests))) c.unwrap_or.ensures in
    ap (λ n. drop (n + 1) c.args.text.now) p ∙ back_is c.args.end c.args.text.now
