-- Numbers as words.
use Rattle.std.specs.Prelude.{ℕ, ◌+◌, ◌-◌, ◌*◌, Bool, ◌&&◌, ◌||◌, List, length, fold, ◌==◌, nat_le, nat_lt, slice_index}
use Rattle.std.specs.List.{list_all}
use Rattle.std.specs.Option.{unwrap_or}
use Rattle.input.specs.Hex.{hex_value, in_range}
use Rattle.house.specs.declared.number.Digit.{Digit}
use Rattle.house.specs.declared.number.Digit.TheVariants.{Decimal, Hexadecimal}

abbrev pub decimal_digit : ℕ → Bool
decimal_digit c = in_range 0x30 0x39 c

-- one digit more: ten times the number before it, and its value
abbrev pub next_digit : ℕ → ℕ → ℕ
next_digit n c = n * 10 + (c - 0x30)

abbrev pub decimal_value : List ℕ → ℕ
decimal_value w = fold next_digit 0 w

-- one decimal digit or more, of a number up to `most`
abbrev pub is_decimal : ℕ → List ℕ → Bool
is_decimal most w = nat_lt 0 (length w) && (list_all decimal_digit w && nat_le (decimal_value w) most)

-- the digits of a kind: decimal ones, or hexadecimal ones in upper case
abbrev pub is_digit : Digit → ℕ → Bool
is_digit Decimal c = decimal_digit c
is_digit Hexadecimal c = decimal_digit c || in_range 0x41 0x46 c

-- so many digits of a kind, and nothing else
abbrev pub has_digits : Digit → ℕ → List ℕ → Bool
has_digits kind count w = list_all (is_digit kind) w && length w == count

abbrev pub digit_value : ℕ → ℕ
digit_value c = unwrap_or (hex_value c) 0

-- the byte that two hexadecimal digits spell, the first of which stands at a place
abbrev pub pair_at : List ℕ → ℕ → ℕ
pair_at w place = digit_value (slice_index w place) * 16 + digit_value (slice_index w (place + 1))
