use Rattle.std.proofs.Common.{◌≡◌, length, take, vec_items, sym, ap, ◌∙◌, subst, arith}
use Rattle.std.proofs.lemmas.List.{take_all}
use Rattle.link.specs.Buffers.{filled}
use Rattle.line.specs.Soundness.{stocked_out}
use Rattle.bus.specs.Tables.{telegram_at}
use Rattle.capture.specs.Cutting.{telegram_from}
use Rattle.capture.specs.Rows.{meters_of}
use Rattle.capture.proofs.Tabling.{Stands, telegram_is, telegram_starts}
use Rattle.capture.proofs.table.RecordingTable.write.Goals as goal

pub telegram_at-requires : goal.telegram_at-requires
telegram_at-requires c =
    let t = c.args.self.now in
    let bytes = vec_items t.bytes in
    let rows = vec_items t.rows in
    let h = subst (λ l. Stands l c.args.row c.in-Some.row.now) c.deref.ensures.value c.in-Some.ensures.lookup.3 in
    let k = subst (λ l. Stands l c.args.place c.in-Some-get.start.now) c.deref-2.ensures.0 c.in-Some-get.ensures.lookup.3 in
    let low = telegram_starts bytes rows c.args.row c.in-Some.row.now h c.args.place c.in-Some-get.start.now k (stocked_out (meters_of bytes rows) t.stocked) in
    omega (arith, low, ap length c.deref-3.ensures.value)

-- the bytes that are copied out
copied : (c : goal.After-fill) → take 261 c.telegram_at.result.now ≡ telegram_at (meters_of (vec_items c.args.self.now.bytes) (vec_items c.args.self.now.rows)) c.args.row c.args.place
copied c =
    let t = c.args.self.now in
    let start = c.in-Some-get.start.now in
    let h = subst (λ l. Stands l c.args.row c.in-Some.row.now) c.deref.ensures.value c.in-Some.ensures.lookup.3 in
    let k = subst (λ l. Stands l c.args.place start) c.deref-2.ensures.0 c.in-Some-get.ensures.lookup.3 in
    let part = c.telegram_at.ensures in
    take_all 261 c.telegram_at.result.now part.few ∙ part.bytes ∙ ap (λ b. telegram_from b start) c.deref-3.ensures.value
    ∙ sym (telegram_is (vec_items t.bytes) (vec_items t.rows) c.args.row c.in-Some.row.now h c.args.place start k)

pub returns-in-Some-get-clause-buffer : goal.returns-in-Some-get-clause-buffer
returns-in-Some-get-clause-buffer c = c.fill.ensures.buffer ∙ ap filled (copied c)

pub returns-in-Some-get-clause-count : goal.returns-in-Some-get-clause-count
returns-in-Some-get-clause-count c = c.fill.ensures.count ∙ ap length (copied c)
