-- How an address travels.
use Rattle.std.specs.Prelude.{◌≡◌, ℕ, ◌/◌, ◌%◌, List, [], ◌∷◌, ◌++◌, IfOk, Result}
use Rattle.link.specs.Checks.{FailsFirst, first_fault}
use Rattle.telegram.specs.declared.address.Address.{Address}
use Rattle.telegram.specs.declared.fault.ReplyFault.{ReplyFault}
use Rattle.telegram.specs.Digits.{digit_checks}
use Rattle.telegram.specs.Faults.{reply_fault}

-- the number, the manufacturer's low and high byte, version and medium
abbrev pub address_bytes : Address → List ℕ
address_bytes a =
    a.number ++ (a.manufacturer % 256) ∷ (a.manufacturer / 256) ∷ a.version ∷ a.medium ∷ []

-- the address that eight bytes hold, or the fault of the first digit above 9
pub record AddressIn (bs : List ℕ) (r : Result Address ReplyFault) : Type 0 where
  pub fault : reply_fault r ≡ first_fault (digit_checks 0 bs)
  pub order : FailsFirst (digit_checks 0 bs) (reply_fault r)
  pub bytes : IfOk r (λ a. address_bytes a ≡ bs)
