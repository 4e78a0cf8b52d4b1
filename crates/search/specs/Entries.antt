-- Verdicts and entries of the code as those of the search: a meter is told by its address, as it travels.
use Rattle.std.specs.Prelude.{ℕ, List}
use Rattle.telegram.specs.Addresses.{address_bytes}
use Rattle.search.specs.Verdicts as verdicts
use Rattle.telegram.specs.declared.address.Address.{Address}
use Rattle.telegram.specs.declared.matches.Matches.{Matches}
use Rattle.telegram.specs.declared.matches.Matches.TheVariants.{Nobody, One, Several}
use Rattle.search.specs.declared.entry.Entry.{Entry}
use Rattle.search.specs.declared.entry.Entry.TheVariants.{Meter, Shared}

abbrev pub verdict_of : Matches Address → verdicts.Verdict (List ℕ)
verdict_of Nobody = verdicts.nobody
verdict_of (One a) = verdicts.one (address_bytes a)
verdict_of Several = verdicts.several

abbrev pub entry_of : Entry → verdicts.Entry (List ℕ)
entry_of (Meter a) = verdicts.only (address_bytes a)
entry_of (Shared n) = verdicts.shared n.digits
