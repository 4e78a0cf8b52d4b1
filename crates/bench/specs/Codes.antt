-- Fault codes: what befalls each exchange, and how many in a row are faulty.
use Rattle.std.specs.Prelude.{◌≡◌, ℕ, zero, suc, ◌+◌, ◌<◌, ◌≤◌, min, max, Bool, true, false, cond, not, List, [], ◌∷◌, length, ◌==◌, nat_le, slice_index, Result, MatchResult}
use Rattle.std.specs.List.{prefix_len}
use Rattle.bench.specs.declared.fault_codes.Code.{Code}
use Rattle.bench.specs.declared.fault_codes.UnknownCode.{UnknownCode}
use Rattle.bench.specs.declared.fault_codes.Code.TheVariants.{Clean, LostOut, LostBack, Damaged}

-- 0 clean, 1 lost out, 2 lost back, 3 damaged
abbrev pub code_of : ℕ → Code
code_of n = cond (n == 0) Clean (cond (n == 1) LostOut (cond (n == 2) LostBack Damaged))

-- only 0 to 3 are codes
abbrev pub known : ℕ → Bool
known code = nat_le code 3

-- a number is read as the code that it stands for, and refused where it stands for none
abbrev pub Decodes : ℕ → Result Code UnknownCode → Type 0
Decodes n r = MatchResult r (λ code. (known n ≡ true) × (code ≡ code_of n)) (λ e. known n ≡ false)

-- the code at a position; after the last, all are clean
abbrev pub code_at : List ℕ → ℕ → Code
code_at codes position = code_of (slice_index codes position)

-- each exchange takes one code; the position stops one past the last
abbrev pub position_after : List ℕ → ℕ → ℕ
position_after codes position = min (position + 1) (length codes + 1)

abbrev pub faulty : ℕ → Bool
faulty code = not (code == 0)

-- the stretch of faults just before a position
unfoldable pub streak : List ℕ → ℕ → ℕ
streak codes zero = 0
streak codes (suc n) = cond (faulty (slice_index codes n)) (streak codes n + 1) 0

-- the longest stretch of faults
unfoldable pub longest : List ℕ → ℕ
longest [] = 0
longest (code ∷ codes) = max (prefix_len faulty (code ∷ codes)) (longest codes)

-- so many codes from a position on are faults
abbrev pub Stretch : List ℕ → ℕ → ℕ → Type 0
Stretch codes from n = (i : ℕ) → from ≤ i → i < from + n → faulty (slice_index codes i) ≡ true

-- some stretch of faults has this length, and none is longer
pub record Longest (codes : List ℕ) (n : ℕ) : Type 0 where
  pub start : ℕ
  pub stretch : Stretch codes start n
  pub no_longer : (from k : ℕ) → Stretch codes from k → k ≤ n
