-- The data of a record: bs is a telegram up to its body's end, p the place of the data.
use Rattle.std.specs.Prelude.{ℕ, ◌+◌, List, [], ◌∷◌, length, nat_le, nat_lt, slice_index}
use Rattle.std.specs.List.{between}
use Rattle.link.specs.Checks.{Check, must}
use Rattle.record.specs.declared.coding.Coding.{Coding}
use Rattle.record.specs.declared.coding.Coding.TheVariants.{Fixed, Text}
use Rattle.record.specs.declared.coding.Kind.{Kind}
use Rattle.record.specs.declared.coding.Kind.TheVariants.{NoData, Integer, Real, Decimal}
use Rattle.record.specs.declared.reading.Value.{Value}
use Rattle.record.specs.declared.reading.Value.TheVariants as value
use Rattle.record.specs.Faults.{at, ended}
use Rattle.record.specs.Numbers.{decimal_of, digit_checks, integer_of, magnitude, unsigned_of}

-- the value of the bytes ds
abbrev pub number_of : List ℕ → Kind → Value
number_of ds NoData = value.NoData
number_of ds Integer = value.Integer (integer_of ds)
number_of ds Real = value.Real (unsigned_of ds)
number_of ds Decimal = value.Integer (decimal_of ds)

-- in a decimal number no digit but the sign is above 9
abbrev pub number_checks : List ℕ → ℕ → Kind → List Check
number_checks ds p NoData = []
number_checks ds p Integer = []
number_checks ds p Real = []
number_checks ds p Decimal = digit_checks p (magnitude ds)

-- a length byte up to BF, and that much text
abbrev pub text_checks : List ℕ → ℕ → List Check
text_checks bs p =
    must (nat_lt p (length bs)) (ended bs)
    ∷ must (nat_le (slice_index bs p) 0xBF) (at 15 p)
    ∷ must (nat_le (p + 1 + slice_index bs p) (length bs)) (ended bs)
    ∷ []

-- the data are there before their digits are looked at
abbrev pub value_checks : List ℕ → ℕ → Coding → List Check
value_checks bs p (Fixed n k) = must (nat_le (p + n) (length bs)) (ended bs) ∷ number_checks (between p (p + n) bs) p k
value_checks bs p Text = text_checks bs p

abbrev pub value_of : List ℕ → ℕ → Coding → Value
value_of bs p (Fixed n k) = number_of (between p (p + n) bs) k
value_of bs p Text = value.Text (record { place = p + 1; len = slice_index bs p })

-- the place after the data
abbrev pub value_end : List ℕ → ℕ → Coding → ℕ
value_end bs p (Fixed n k) = p + n
value_end bs p Text = p + 1 + slice_index bs p
