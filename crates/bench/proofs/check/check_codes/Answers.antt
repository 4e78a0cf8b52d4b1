use Rattle.std.proofs.Common.{◌≡◌, ℕ, not, is_err, Ok, Err, Result, sym, ap, rules}
use borrow.Author.Tests.{tests}
use Rattle.std.specs.List.{position}
use Rattle.std.proofs.lemmas.Iterator.{YieldsList-from_slice}
use Rattle.std.proofs.lemmas.Iterator.Search.{position_from_yields_List}
use Rattle.bench.specs.declared.fault_codes.Code.{Code}
use Rattle.bench.specs.declared.fault_codes.UnknownCode.{UnknownCode}
use Rattle.bench.specs.Codes.{Decodes, known}
use Rattle.bench.proofs.Listing.{first_told}
use Rattle.bench.proofs.check.check_codes.Goals as goal

unknown_refused : (n : ℕ) (r : Result Code UnknownCode) → Decodes n r → is_err r ≡ not (known n)
unknown_refused n (Ok code) h = ap not (sym h.0)
unknown_refused n (Err e) h = ap not (sym h)

pub returns : goal.returns
returns c =
    let e : c.position.result ≡ position (λ x. not (known x)) c.args.codes.now =
    position_from_yields_List (λ x. not (known x)) _ _ c.position.result c.position.ensures.ran (YieldsList-from_slice _ c.iter.ensures.rest) (λ x b q k. search (rules, tests, unknown_refused)) in
    first_told known c.args.codes.now c.position.result _ e (search (rules, c.map_or.ensures))
