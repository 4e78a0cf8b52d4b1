use Rattle.std.proofs.Common.{ℕ, List, [], refl, arith}
use Rattle.std.proofs.lemmas.List.{length-take}
use Rattle.link.proofs.Filling.{filled_more}
use Rattle.link.proofs.buffer.fill.Goals as goal

pub returns : goal.returns
returns c =
    let bs : List ℕ = c.args.bytes.now in
    let x = c.append.ensures in
    record {
      buffer = filled_more [] bs _ _ 0 _ refl (omega arith) c.new_buffer.ensures x.count x.front x.rest;
      count = omega (arith, x.count, length-take 261 bs);
    }
