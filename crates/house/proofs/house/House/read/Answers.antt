use Rattle.house.specs.Houses.{parts_of}
use Rattle.house.specs.Lines.{said}
use Rattle.house.proofs.Adding.{said_line}
use Rattle.house.proofs.house.House.read.Goals as goal

pub returns : goal.returns
returns c =
    said_line (parts_of c.args.self.now) (parts_of c.take.new.self) c.args.line.text.now (said c.in_ok-read_line.field-0) c.in_ok-read_line.ensures c.take.result c.take.ensures
