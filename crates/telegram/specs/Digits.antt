-- A number of eight decimal digits, two to a byte, the lowest pair first.
use Rattle.std.specs.Prelude.{ℕ, ◌+◌, ◌/◌, ◌%◌, Bool, ◌&&◌, List, [], ◌∷◌, nat_le, slice_index}
use Rattle.link.specs.declared.fault.Layer.TheVariants as layer
use Rattle.link.specs.Checks.{Check, must}
use Rattle.link.specs.Faults.{report_at}

-- no digit of the byte is above 9
abbrev pub decimal : ℕ → Bool
decimal b = nat_le (b % 16) 9 && nat_le (b / 16) 9

-- no digit of the number in the first four bytes is above 9
abbrev pub decimal_number : List ℕ → Bool
decimal_number n = decimal (slice_index n 0) && (decimal (slice_index n 1) && (decimal (slice_index n 2) && decimal (slice_index n 3)))

-- a byte of the number, which stands at a place
abbrev pub digit_check : ℕ → ℕ → Check
digit_check byte place = must (decimal byte) (report_at layer.Reply 10 place)

-- the number in the first four bytes, of which the first stands at `start`
abbrev pub digit_checks : ℕ → List ℕ → List Check
digit_checks start n =
    digit_check (slice_index n 0) start
    ∷ digit_check (slice_index n 1) (start + 1)
    ∷ digit_check (slice_index n 2) (start + 2)
    ∷ digit_check (slice_index n 3) (start + 3)
    ∷ []
