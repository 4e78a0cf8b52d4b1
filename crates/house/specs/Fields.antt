-- What the words of a line spell.
use Rattle.std.specs.Prelude.{◌≡◌, ℕ, Bool, true, false, ◌&&◌, List, [], ◌∷◌, Option, MatchOption, slice_index_or}
use Rattle.telegram.specs.declared.address.Address.{Address}
use Rattle.telegram.specs.Addresses.{address_bytes}
use Rattle.bench.specs.declared.row.Body.{Body}
use Rattle.house.specs.declared.number.Digit.TheVariants.{Decimal, Hexadecimal}
use Rattle.house.specs.Numbers.{decimal_value, has_digits, is_decimal, pair_at}
use Rattle.house.specs.Words.{after, before}

-- a fault code
abbrev pub is_code : List ℕ → Bool
is_code w = is_decimal 255 w

-- a body: its start and its length, with a plus sign between them
abbrev pub is_body : List ℕ → Bool
is_body w = is_decimal 65535 (before 0x2b w) && is_decimal 65535 (after 0x2b w)

abbrev pub body_of : List ℕ → Body
body_of w = record { start = decimal_value (before 0x2b w); length = decimal_value (after 0x2b w) }

-- an address: number, maker, version and medium, the highest digits first
abbrev pub is_address : List ℕ → List ℕ → List ℕ → List ℕ → Bool
is_address number maker version medium =
    has_digits Decimal 8 number && (has_digits Hexadecimal 4 maker && (has_digits Hexadecimal 2 version && has_digits Hexadecimal 2 medium))

-- as it travels, the lowest pairs first
abbrev pub address_of : List ℕ → List ℕ → List ℕ → List ℕ → List ℕ
address_of number maker version medium =
    pair_at number 6 ∷ pair_at number 4 ∷ pair_at number 2 ∷ pair_at number 0
    ∷ pair_at maker 2 ∷ pair_at maker 0 ∷ pair_at version 0 ∷ pair_at medium 0 ∷ []

-- the address that words spell, or none
abbrev pub AddressFrom : Option Address → List ℕ → List ℕ → List ℕ → List ℕ → Type 0
AddressFrom r number maker version medium =
    MatchOption r (is_address number maker version medium ≡ false)
    (λ a. (is_address number maker version medium ≡ true) × (address_bytes a ≡ address_of number maker version medium))

-- the word at a place, or nothing
abbrev pub word_at : List (List ℕ) → ℕ → List ℕ
word_at ws place = slice_index_or ws place []
