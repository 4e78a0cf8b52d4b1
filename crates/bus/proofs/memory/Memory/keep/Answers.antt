use Rattle.std.proofs.Common.{Some}
use Rattle.bus.proofs.Keeping.{keeps_selection, keeps_release, keeps_next, keeps_same, keeps_first, keeps_alone}
use Rattle.bus.proofs.memory.Memory.keep.Goals as goal

pub returns-in_default-Selection : goal.returns-in_default-Selection
returns-in_default-Selection c =
    let m = c.args.self.now in
    rw c.in_default-Selection.is-1 (keeps_selection m.selection m.kept c.args.only c.in_default-Selection.pattern)

pub returns-in_default-Release : goal.returns-in_default-Release
returns-in_default-Release c =
    let m = c.args.self.now in
    rw c.in_default-Release.is-1 (keeps_release m.selection m.kept c.args.only)

pub returns-then-bit-next : goal.returns-then-bit-next
returns-then-bit-next c =
    let f = c.in-Some-Fetch in
    rw (f.is-0, f.is-1, c.in-Some.is) (keeps_next c.args.self.now.selection f.field-0-0 f.next c.in-Some.count c.if-bit-next.true)

pub returns-else-bit-next : goal.returns-else-bit-next
returns-else-bit-next c =
    let f = c.in-Some-Fetch in
    rw (f.is-0, f.is-1, c.in-Some.is) (keeps_same c.args.self.now.selection f.field-0-0 f.next c.in-Some.count c.if-bit-next.false)

pub returns-in_default : goal.returns-in_default
returns-in_default c =
    let f = c.in-Some-Fetch in
    rw (f.is-0, f.is-1, c.in_default.is) (keeps_alone c.args.self.now.selection (Some f.field-0-0) f.next)

pub returns-in-Some-only : goal.returns-in-Some-only
returns-in-Some-only c =
    let f = c.in-None-Fetch in
    rw (f.is-0, f.is-1, c.in-Some-only.is) (keeps_first c.args.self.now.selection f.bit c.in-Some-only.field-0)

pub returns-in_default-only : goal.returns-in_default-only
returns-in_default-only c =
    let m = c.args.self.now in
    rw (c.in-None-Fetch.is-1, c.in_default-only.is) (keeps_alone m.selection m.kept c.in-None-Fetch.bit)
