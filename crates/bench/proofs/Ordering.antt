-- The checks before a bench is made, and what it means that all of them hold.
use Rattle.std.proofs.Common.{◌≡◌, ℕ, List, ◌++◌, length, Option, sym, ◌∙◌, ap₂}
use Rattle.link.specs.declared.fault.Report.{Report}
use Rattle.link.specs.Checks.{FailsFirst, first_fault}
use Rattle.link.proofs.Ordering.{fails_first_at, first_joined, or_else}
use Rattle.bench.specs.declared.row.Row.{Row}
use Rattle.bench.specs.Checks.{bench_checks, bench_refusal, code_checks, row_checks, size_checks}

module _ (rows : List Row) (area codes : List ℕ) where
  -- the first fault, by those of the sizes, the rows and the codes
  pub refusal_by : (o p q : Option Report) → o ≡ first_fault (size_checks (length rows) (length area) (length codes)) → p ≡ first_fault (row_checks (length area) 0 rows) → q ≡ first_fault (code_checks 0 codes) → or_else o (or_else p q) ≡ bench_refusal rows area codes
  unfolding bench_refusal
  refusal_by o p q e f g =
      ap₂ or_else e (ap₂ or_else f g ∙ sym (first_joined (row_checks (length area) 0 rows) (code_checks 0 codes)))
      ∙ sym (first_joined (size_checks (length rows) (length area) (length codes)) (row_checks (length area) 0 rows ++ code_checks 0 codes))

  pub order_of : (o : Option Report) → o ≡ bench_refusal rows area codes → FailsFirst (bench_checks rows area codes) o
  unfolding bench_refusal
  order_of o h = fails_first_at (bench_checks rows area codes) o h
