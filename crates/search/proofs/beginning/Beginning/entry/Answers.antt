use Rattle.std.proofs.Common.{◌≤◌, [], ◌∷◌, length, sym, ap, arith, length-take}
use Rattle.telegram.specs.Addresses.{address_bytes}
use Rattle.search.specs.Addresses.{number}
use Rattle.search.specs.Beginnings.{digits_of}
use Rattle.search.specs.Entries.{verdict_of}
use Rattle.search.specs.Verdicts.{found, only}
use Rattle.search.proofs.Stepping.{lists_by}
use Rattle.search.proofs.beginning.Beginning.entry.Goals as goal

pub returns-in-One-clause-lists : goal.returns-in-One-clause-lists
returns-in-One-clause-lists c =
    let b = c.args.self.now in
    let short : length (digits_of b) ≤ 8 = simp length-take (omega arith) in
    lists_by number 8 (digits_of b) (verdict_of c.args.verdict) short (only (address_bytes c.in-One.address) ∷ [])
    (ap (λ w. found 8 (digits_of b) (verdict_of w)) (sym c.in-One.is))
