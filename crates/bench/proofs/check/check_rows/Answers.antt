use Rattle.std.proofs.Common.{◌≡◌, not, rules}
use borrow.Author.Tests.{tests}
use Rattle.std.specs.List.{position}
use Rattle.std.proofs.lemmas.Iterator.{YieldsList-from_slice}
use Rattle.std.proofs.lemmas.Iterator.Search.{position_from_yields_List}
use Rattle.bench.specs.Rows.{row_fits}
use Rattle.bench.proofs.Listing.{first_told}
use Rattle.bench.proofs.check.check_rows.Goals as goal

pub returns : goal.returns
returns c =
    let e : c.position.result ≡ position (λ x. not (row_fits c.args.size x)) c.args.rows.now =
    position_from_yields_List (λ x. not (row_fits c.args.size x)) _ _ c.position.result c.position.ensures.ran (YieldsList-from_slice _ c.iter.ensures.rest) (λ x b q k. search (rules, tests)) in
    first_told (row_fits c.args.size) c.args.rows.now c.position.result _ e (search (rules, c.map_or.ensures))
