use Rattle.std.proofs.Common.{arith}
use Rattle.std.proofs.lemmas.Slice.{drop-put_mid}
use Rattle.link.proofs.buffer.append.Goals as goal

pub returns-clause-rest : goal.returns-clause-rest
returns-clause-rest c =
    drop-put_mid c.min-start.result _ c.args.buffer.now c.copy_from_slice.new.self _ (omega arith) (omega arith) (omega arith)
