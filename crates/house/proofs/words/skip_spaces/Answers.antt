use Rattle.std.proofs.Common.{◌≡◌, not, eqb, drop, ap, ◌∙◌, rules}
use borrow.Author.Tests.{tests}
use Rattle.std.specs.List.{position_or_len}
use Rattle.std.proofs.lemmas.Iterator.{YieldsList-from_slice}
use Rattle.std.proofs.lemmas.Iterator.Search.{position_from_yields_List}
use Rattle.std.proofs.lemmas.List.{take_rest}
use Rattle.house.specs.Words.{words}
use Rattle.house.proofs.Scanning.{place_or_len, kept}
use Rattle.house.proofs.words.skip_spaces.Goals as goal

pub returns-clause-same : goal.returns-clause-same
returns-clause-same c =
    let p : c.unwrap_or-spaces.result ≡ position_or_len (λ x. not (eqb x 0x20)) c.args.text.now = place_or_len (λ x. not (eqb x 0x20)) c.args.text.now _ _ (position_from_yields_List (λ x. not (eqb x 0x20)) _ _ _ c.position.ensures.ran (YieldsList-from_slice c.args.text.now cc) (λ x b q k. search (rules, tests))) c.unwrap_or-spaces.ensures in
    ap words (take_rest c.args.text.now c.unwrap_or-spaces.result) ∙ ap (λ n. words (drop n c.args.text.now)) p ∙ kept c.args.text.now
