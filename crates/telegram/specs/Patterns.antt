-- Which addresses a pattern fits. Both are eight bytes: four with two digits each, then manufacturer, version and medium.
use Rattle.std.specs.Prelude.{ℕ, ◌+◌, ◌*◌, ◌/◌, ◌%◌, Bool, true, false, ◌&&◌, ◌||◌, List, [], ◌∷◌, take, drop, ◌==◌, slice_index_or}

-- a digit F fits every digit, any other only itself
abbrev pub digit_fits : ℕ → ℕ → Bool
digit_fits p a = p == 0xf || p == a

-- the two digits of a byte
abbrev pub digits_fit : ℕ → ℕ → Bool
digits_fit p a = digit_fits (p / 16) (a / 16) && digit_fits (p % 16) (a % 16)

-- a byte FF fits every byte, any other only itself
abbrev pub byte_fits : ℕ → ℕ → Bool
byte_fits p a = p == 0xff || p == a

-- lists of one length that fit place by place
abbrev pub each_fits : (ℕ → ℕ → Bool) → List ℕ → List ℕ → Bool
each_fits f [] [] = true
each_fits f [] (a ∷ rest) = false
each_fits f (p ∷ ps) [] = false
each_fits f (p ∷ ps) (a ∷ rest) = f p a && each_fits f ps rest

unfoldable pub fits : List ℕ → List ℕ → Bool
fits pattern address =
    each_fits digits_fit (take 4 pattern) (take 4 address) && each_fits byte_fits (drop 4 pattern) (drop 4 address)

-- the digit of a beginning at a place, the highest at 0; past its end F, which fits every digit
abbrev pub digit_or_wildcard : List ℕ → ℕ → ℕ
digit_or_wildcard digits i = slice_index_or digits i 0xf

-- the pattern of the numbers that begin with these digits
abbrev pub beginning_pattern : List ℕ → List ℕ
beginning_pattern p =
    (digit_or_wildcard p 6 * 16 + digit_or_wildcard p 7) ∷ (digit_or_wildcard p 4 * 16 + digit_or_wildcard p 5)
    ∷ (digit_or_wildcard p 2 * 16 + digit_or_wildcard p 3) ∷ (digit_or_wildcard p 0 * 16 + digit_or_wildcard p 1)
    ∷ 0xff ∷ 0xff ∷ 0xff ∷ 0xff ∷ []
