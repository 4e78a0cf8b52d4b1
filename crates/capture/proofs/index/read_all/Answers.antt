use Rattle.std.proofs.Common.{◌≡◌, ◌+◌, length, take, Some, vec_items, sym, ap, ◌∙◌, subst, arith}
use Rattle.std.proofs.lemmas.Result.{err_from_is_err_and}
use Rattle.capture.specs.Cutting.{telegram_from}
use Rattle.capture.specs.Recordings.{Blocked, Recorded, telegrams_of}
use Rattle.capture.specs.Rows.{Followed, meters_of}
use Rattle.capture.proofs.Following.{followed_recorded, recorded_none, refused}
use Rattle.capture.proofs.index.read_all.Goals as goal

pub loop-reader-init : goal.loop-reader-init
loop-reader-init c =
    let bytes = c.args.bytes.now in
    let rows = vec_items c.args.store.rows.list in
    record {
      same = c.new-reader.ensures.bytes;
      recorded = subst (λ n. Recorded (take n bytes) (meters_of bytes rows)) (sym c.new-reader.ensures.at) (recorded_none bytes rows c.args.store.empty);
    }

pub loop-reader-preserved : goal.loop-reader-preserved
loop-reader-preserved c =
    let bytes = c.args.bytes.now in
    let at = c.loop-reader.reader.at in
    let next = c.read_telegram.new.reader.at in
    let rows = vec_items c.loop-reader.rows.list in
    let rows' = vec_items c.read_telegram.new.rows.list in
    let h = c.loop-reader.invariant in
    let f = subst (λ b. Followed b at (meters_of b rows) next (meters_of b rows')) h.same c.in_ok-read_telegram.ensures.taken in
    record {
      same = c.read_telegram.ensures.bytes ∙ h.same;
      recorded = followed_recorded bytes at (meters_of bytes rows) next (meters_of bytes rows') f h.recorded;
    }

pub returns-in_err-read_telegram : goal.returns-in_err-read_telegram
returns-in_err-read_telegram c =
    let bytes = c.args.bytes.now in
    let at = c.loop-reader.reader.at in
    let rows = vec_items c.loop-reader.rows.list in
    let fault = c.in_err-read_telegram.field-0.0 in
    let h = c.loop-reader.invariant in
    let told = subst (λ b. (fault.telegram ≡ Some (length (telegrams_of (meters_of b rows)) + 1)) × Blocked (meters_of b rows) (telegram_from b at) fault.cause) h.same c.in_err-read_telegram.ensures.taken in
    let p = err_from_is_err_and c.from_residual.result c.from_residual.ensures.1 in
    rw (p.1, p.2) (refused bytes at (meters_of bytes rows) fault h.recorded (omega (arith, ap length h.same)) told.0 told.1)
