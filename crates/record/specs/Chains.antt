-- A chain: a byte and the extension bytes that follow it. Bit 7 of each says that one follows, and at most ten may.
-- bs is a telegram up to its body's end, p the place where the chain begins.
use Rattle.std.specs.Prelude.{ℕ, ◌+◌, ◌-◌, ◌*◌, ◌/◌, ◌%◌, ◌^◌, min, Bool, List, [], ◌∷◌, length, drop, nat_le, nat_lt}
use Rattle.std.specs.List.{prefix_len}
use Rattle.link.specs.Checks.{Check, must}
use Rattle.record.specs.Faults.{at, ended}
use Rattle.record.specs.Numbers.{total}

abbrev pub extended : ℕ → Bool
extended b = nat_le 128 b

-- how many bytes in a row have bit 7
abbrev pub asked : List ℕ → ℕ → ℕ
asked bs p = prefix_len extended (drop p bs)

-- how many extension bytes are asked for, counted up to eleven
abbrev pub extensions : List ℕ → ℕ → ℕ
extensions bs p = min (asked bs p) 11

-- each extension byte has to be there, and the eleventh is refused
abbrev pub chain_checks : List ℕ → ℕ → List Check
chain_checks bs p =
    must (nat_lt (p + extensions bs p) (length bs)) (ended bs)
    ∷ must (nat_le (extensions bs p) 10) (at 12 (p + 11))
    ∷ []

-- the place after the chain
abbrev pub chain_end : List ℕ → ℕ → ℕ
chain_end bs p = p + extensions bs p + 1

-- the DIFEs are numbered from 1
abbrev pub storage_of : ℕ → List ℕ → ℕ
storage_of dif difes = dif / 64 % 2 + total (λ i. 2 ^ (4 * i - 3)) (λ b. b % 16) 1 difes

abbrev pub tariff_of : List ℕ → ℕ
tariff_of difes = total (λ i. 4 ^ (i - 1)) (λ b. b / 16 % 4) 1 difes

abbrev pub subunit_of : List ℕ → ℕ
subunit_of difes = total (λ i. 2 ^ (i - 1)) (λ b. b / 64 % 2) 1 difes
