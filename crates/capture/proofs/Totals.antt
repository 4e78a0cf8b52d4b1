-- How many telegrams the rows of a capture have together.
use Rattle.std.proofs.Common.{◌≡◌, ℕ, ◌*◌, ◌≤◌, List, [], ◌∷◌, length, sum_by, arith}
use Rattle.std.proofs.lemmas.List.{length-append}
use Rattle.std.proofs.lemmas.List.Sums.{sum_by-cons}
use Rattle.capture.specs.declared.row.Row.{Row}
use Rattle.capture.specs.Recordings.{telegrams_of}
use Rattle.capture.specs.Rows.{meter_of, meters_of}
use Rattle.capture.proofs.Adding.{meter_count}

pub total_few : (rows : List Row) → sum_by (λ r. length r.starts.items) rows ≤ length rows * 16
total_few [] = omega arith
total_few (r ∷ rows) = omega (arith, r.few, total_few rows, sum_by-cons (λ x. length x.starts.items) r rows)

-- each telegram is counted
pub total_is : (bytes : List ℕ) (rows : List Row) → sum_by (λ r. length r.starts.items) rows ≡ length (telegrams_of (meters_of bytes rows))
unfolding meters_of
total_is bytes [] = omega arith
total_is bytes (r ∷ rows) =
    omega (arith, sum_by-cons (λ x. length x.starts.items) r rows, total_is bytes rows, meter_count bytes r, length-append (meter_of bytes r).telegrams (telegrams_of (meters_of bytes rows)))
