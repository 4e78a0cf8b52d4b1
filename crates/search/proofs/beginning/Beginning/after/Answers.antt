use Rattle.std.proofs.Common.{Some, rules}
use Rattle.search.specs.Addresses.{number}
use Rattle.search.specs.Beginnings.{digits_of, followed}
use Rattle.search.specs.Entries.{verdict_of}
use Rattle.search.proofs.Stepping.{leads_by}
use Rattle.search.proofs.beginning.Beginning.after.Goals as goal

pub returns-in-Several-clause-leads : goal.returns-in-Several-clause-leads
returns-in-Several-clause-leads c =
    leads_by number 8 (digits_of c.args.self.now) (verdict_of c.args.verdict) (followed (Some c.deeper.result)) (search rules)

pub returns-in_default-clause-leads : goal.returns-in_default-clause-leads
returns-in_default-clause-leads c =
    leads_by number 8 (digits_of c.args.self.now) (verdict_of c.args.verdict) (followed c.raised.result) (search rules)
