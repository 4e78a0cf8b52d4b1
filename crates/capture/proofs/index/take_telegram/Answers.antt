use Rattle.std.proofs.Common.{vec_items}
use Rattle.std.proofs.lemmas.Result.{MatchResult-weaker}
use Rattle.capture.specs.Rows.{meters_of}
use Rattle.capture.proofs.Following.{followed, full_blocked}
use Rattle.capture.proofs.index.take_telegram.Goals as goal

pub returns-clause-taken : goal.returns-clause-taken
returns-clause-taken c =
    let bytes = c.args.reader.now.bytes.now in
    let at = c.args.reader.now.at in
    let ms = meters_of bytes (vec_items c.args.rows.now.list) in
    let next = c.in_ok-address.ensures.taken in
    MatchResult-weaker c.add.result (c.add.ensures bytes)
    (λ _ h. followed bytes at ms _ _ _ next h)
    (λ e h. (h.0, full_blocked bytes at ms _ _ e.cause next h.1, h.2))
