use Rattle.house.specs.Words.{words}
use Rattle.house.proofs.Picking.{pick_by}
use Rattle.house.proofs.house_line.read_pick.Goals as goal

pub returns : goal.returns
returns c =
    let a = c.in_ok-address.ensures.address in
    pick_by (words c.args.text.now) _ _ _ a.0 a.1 c.in_ok-address.ensures.rest c.read_call.ensures
