-- What the bytes of a number mean, lowest byte first.
use Rattle.std.specs.Prelude.{ℕ, ◌+◌, ◌-◌, ◌*◌, ◌/◌, ◌%◌, ◌^◌, Bool, cond, List, [], ◌∷◌, length, ℤ, pos, ◌-ℤ◌, neg_ℤ, nat_le, nat_lt, slice_index, slice_set}
use Rattle.std.specs.List.{prefix_len}
use Rattle.link.specs.Checks.{Check, must}
use Rattle.telegram.specs.Digits.{decimal}
use Rattle.record.specs.Faults.{at}

-- the sum of weight i times the field of byte i, over the bytes numbered from i
abbrev pub total : (ℕ → ℕ) → (ℕ → ℕ) → ℕ → List ℕ → ℕ
total weight field i [] = 0
total weight field i (b ∷ bs) = weight i * field b + total weight field (i + 1) bs

abbrev pub unsigned_of : List ℕ → ℕ
unsigned_of bs = total (λ i. 256 ^ i) (λ b. b) 0 bs

-- two's complement, where `half` is the weight of the highest bit
abbrev pub signed : ℕ → ℕ → ℤ
signed half v = cond (nat_lt v half) (pos v) (pos v -ℤ pos (half + half))

abbrev pub integer_of : List ℕ → ℤ
integer_of bs = signed (2 ^ (8 * length bs - 1)) (unsigned_of bs)

-- the decimal digits, two to a byte, the lowest first
abbrev pub digits : List ℕ → List ℕ
digits [] = []
digits (b ∷ bs) = b % 16 ∷ b / 16 ∷ digits bs

abbrev pub digits_value : List ℕ → ℕ
digits_value bs = total (λ i. 10 ^ i) (λ d. d) 0 (digits bs)

abbrev pub top_byte : List ℕ → ℕ
top_byte bs = slice_index bs (length bs - 1)

-- a topmost digit F means minus
abbrev pub negative : List ℕ → Bool
negative bs = nat_le 0xF0 (top_byte bs)

-- the bytes with the digit 0 for the sign
abbrev pub magnitude : List ℕ → List ℕ
magnitude bs = cond (negative bs) (slice_set bs (length bs - 1) (top_byte bs - 0xF0)) bs

abbrev pub decimal_of : List ℕ → ℤ
decimal_of bs = cond (negative bs) (neg_ℤ (pos (digits_value (magnitude bs)))) (pos (digits_value (magnitude bs)))

-- no digit is above 9, in bytes of which the first stands at p
abbrev pub digit_checks : ℕ → List ℕ → List Check
digit_checks p [] = []
digit_checks p (b ∷ bs) = must (decimal b) (at 14 p) ∷ digit_checks (p + 1) bs

-- how many bytes precede the first with a digit above 9
abbrev pub first_bad : List ℕ → ℕ
first_bad bs = prefix_len decimal (magnitude bs)
