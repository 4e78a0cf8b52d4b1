use Rattle.master.proofs.Pushing.{added, added_some}
use Rattle.master.proofs.walk.add.Goals as goal

pub returns-in-Some : goal.returns-in-Some
returns-in-Some c =
    let l = c.args.list.now in
    let l' = c.push.new.self in
    let p = c.push.ensures in
    let a = added l l' c.in-Some.entry c.push.result p.result p.places p.used p.entries in
    record { cases = added_some l l' c.in-Some.entry c.push.result c.args.entry c.in-Some.is a; filled = a.filled; lender = p.lender }
