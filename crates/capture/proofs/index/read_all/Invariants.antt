use Rattle.std.proofs.Common.{◌≡◌, ◌-◌, length, take, vec_items}
use Rattle.capture.specs.Recordings.{Recorded}
use Rattle.capture.specs.Rows.{meters_of}
use Rattle.capture.proofs.index.read_all.Given as goal

abbrev pub invariant-loop-reader : goal.invariant-loop-reader
invariant-loop-reader l = record {
  same : l.reader.bytes.now ≡ l.bytes;
  recorded : Recorded (take l.reader.at l.bytes) (meters_of l.bytes (vec_items l.rows.list));
}

abbrev pub decreases-loop-reader : goal.decreases-loop-reader
decreases-loop-reader l = length l.bytes - l.reader.at
