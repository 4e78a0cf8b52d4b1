-- The check before a bench is made.
use Rattle.std.specs.Prelude.{ℕ, ◌+◌, Bool, List, [], ◌∷◌, ◌++◌, length, Option, nat_le}
use Rattle.link.specs.declared.fault.Report.{Report}
use Rattle.link.specs.Checks.{Check, must, first_fault}
use Rattle.bench.specs.declared.row.Row.{Row}
use Rattle.bench.specs.Codes.{known}
use Rattle.bench.specs.Faults.{bad, oversize}
use Rattle.bench.specs.Rows.{row_fits}

abbrev pub size_checks : ℕ → ℕ → ℕ → List Check
size_checks rows bytes codes =
    must (nat_le rows 250) oversize ∷ must (nat_le bytes 65535) oversize ∷ must (nat_le codes 4096) oversize ∷ []

-- one check for each element, in order, the first of which has this number
abbrev pub numbered : {X : Type 0} → (X → Bool) → ℕ → List X → List Check
numbered p number [] = []
numbered p number (x ∷ xs) = must (p x) (bad number) ∷ numbered p (number + 1) xs

abbrev pub row_checks : ℕ → ℕ → List Row → List Check
row_checks size number rows = numbered (row_fits size) number rows

abbrev pub code_checks : ℕ → List ℕ → List Check
code_checks number codes = numbered known number codes

-- all checks, in their order: sizes, rows, codes
abbrev pub bench_checks : List Row → List ℕ → List ℕ → List Check
bench_checks rows area codes =
    size_checks (length rows) (length area) (length codes) ++ (row_checks (length area) 0 rows ++ code_checks 0 codes)

-- why no bench is made
unfoldable pub bench_refusal : List Row → List ℕ → List ℕ → Option Report
bench_refusal rows area codes = first_fault (bench_checks rows area codes)
