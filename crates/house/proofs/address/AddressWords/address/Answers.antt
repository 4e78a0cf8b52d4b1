use Rattle.std.proofs.Common.{◌≡◌, sym, rules}
use Rattle.link.specs.Checks.{first_fault}
use Rattle.telegram.specs.Digits.{digit_checks}
use Rattle.telegram.specs.Faults.{reply_fault}
use Rattle.house.specs.Fields.{address_of}
use Rattle.house.proofs.Addressing.{is_made}
use Rattle.house.proofs.address.AddressWords.address.Goals as goal

pub unwrap-requires : goal.unwrap-requires
unwrap-requires c =
    let w = c.args.self in
    let f : reply_fault c.try_from.result ≡ first_fault (digit_checks 0 (address_of w.number.now w.maker.now w.version.now w.medium.now)) = search rules in
    is_made c.try_from.result w.number.now w.maker.now w.version.now w.medium.now (sym c.if-not-are_digits.ensures) f
