use Rattle.std.proofs.Common.{vec_items, ◌∙◌, subst, arith}
use Rattle.std.proofs.lemmas.Result.{err_from_is_err_and}
use Rattle.capture.specs.Recordings.{Refusal}
use Rattle.capture.specs.Rows.{meters_of}
use Rattle.capture.proofs.Exclusive.{no_refusal}
use Rattle.capture.proofs.Making.{bus_means, bus_only, bus_recorded, bus_sound, read_of}
use Rattle.capture.proofs.capture.Capture.new.Goals as goal

pub returns-in_err-rows : goal.returns-in_err-rows
returns-in_err-rows c =
    let bytes = vec_items c.args.bytes in
    let fault = c.in_err-rows.field-0.0 in
    let r : Refusal bytes fault = subst (λ b. Refusal b fault) c.deref.ensures.value c.in_err-rows.ensures in
    let p = err_from_is_err_and c.from_residual-in_err-rows.result c.from_residual-in_err-rows.ensures.1 in
    let n = c.len.ensures ∙ c.args.bytes.ok.0 in
    rw (p.1, p.2) (record { too_long = λ l. absurd (omega (arith, c.in_ok-check_size.ensures)); first_fault = λ _. r; nothing = λ _ ms h. no_refusal bytes fault ms r h })

pub returns : goal.returns
returns c =
    let bytes = vec_items c.args.bytes in
    let rows = vec_items c.in_ok-rows.rows.list in
    let x = c.new-bus.result in
    let ms = meters_of bytes rows in
    let h = read_of rows c.deref.ensures.value c.in_ok-rows.ensures in
    let e = c.new-bus.ensures.bus in
    record {
      small = omega (arith, c.in_ok-check_size.ensures, c.len.ensures, c.args.bytes.ok.0);
      recorded = bus_recorded bytes ms h x e;
      only = bus_only bytes ms h x e;
      means = bus_means bytes ms h x e;
      sound = bus_sound bytes ms h x e;
    }
