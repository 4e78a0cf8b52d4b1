use Rattle.std.proofs.Common.{◌≡◌, take}
use Rattle.link.specs.Frames.{checksum}
use Rattle.link.proofs.reading.checksum.Given as goal

abbrev pub invariant-loop-b : goal.invariant-loop-b
invariant-loop-b l = l.sum ≡ checksum (take l.b-index l.bytes)
