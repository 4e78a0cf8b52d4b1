use Rattle.std.proofs.Common.{Some, None, refl}
use Rattle.std.proofs.lemmas.Result.{err_from_is_err_and}
use Rattle.record.specs.Faults.{record_report}
use Rattle.record.proofs.Refusals.{handed_on, record_is, refusal_order, refused_first, refused_last, refused_second}
use Rattle.record.proofs.Standing.{within}
use Rattle.record.specs.declared.decode.Decoded.{Decoded}
use Rattle.record.proofs.decode.decode.Goals as goal

pub returns-in_err-dib : goal.returns-in_err-dib
returns-in_err-dib c =
    let bs = c.args.bytes.now in
    let p = c.args.at in
    let e = c.in_err-dib.field-0.0 in
    let r = err_from_is_err_and c.from_residual.result c.from_residual.ensures.1 in
    let told = refused_first bs p _ _ refl refl (record_report e) c.in_err-dib.ensures.fault in
    let h = handed_on c.from_residual.result r.0 e _ _ _ r.1 r.2 told in
    record { fault = h.0; order = refusal_order bs p _ h.0; value = h.1; within = h.2 }

pub returns-in_err-vib : goal.returns-in_err-vib
returns-in_err-vib c =
    let bs = c.args.bytes.now in
    let p = c.args.at in
    let e = c.in_err-vib.field-0.0 in
    let r = err_from_is_err_and c.from_residual-in_err-vib.result c.from_residual-in_err-vib.ensures.1 in
    let first = c.in_ok-dib.ensures in
    let told = refused_second bs p c.in_ok-dib.dib.end _ first.place refl first.fault (record_report e) c.in_err-vib.ensures.fault in
    let h = handed_on c.from_residual-in_err-vib.result r.0 e _ _ _ r.1 r.2 told in
    record { fault = h.0; order = refusal_order bs p _ h.0; value = h.1; within = h.2 }

pub returns-in_err-valued : goal.returns-in_err-valued
returns-in_err-valued c =
    let bs = c.args.bytes.now in
    let p = c.args.at in
    let e = c.in_err-valued.field-0.0 in
    let r = err_from_is_err_and c.from_residual-in_err-valued.result c.from_residual-in_err-valued.ensures.1 in
    let first = c.in_ok-dib.ensures in
    let second = c.in_ok-vib.ensures in
    let told = refused_last bs p c.in_ok-dib.dib.end c.in_ok-vib.vib.end first.place second.place first.fault second.fault c.in_ok-dib.dib.value first.coding (Some (record_report e)) c.in_err-valued.ensures.fault in
    let h = handed_on c.from_residual-in_err-valued.result r.0 e _ _ _ r.1 r.2 told in
    record { fault = h.0; order = refusal_order bs p _ h.0; value = h.1; within = h.2 }

pub returns : goal.returns
returns c =
    let bs = c.args.bytes.now in
    let p = c.args.at in
    let v = c.in_ok-dib.dib.end in
    let d = c.in_ok-vib.vib.end in
    let k = c.in_ok-dib.dib.value in
    let m = c.in_ok-vib.vib.value in
    let first = c.in_ok-dib.ensures in
    let second = c.in_ok-vib.ensures in
    let last = c.in_ok-valued.ensures in
    let told = refused_last bs p v d first.place second.place first.fault second.fault k first.coding None last.fault in
    let x : Decoded = record { reading = c.assembled.result; next = c.in_ok-valued.valued.end } in
    let is = record_is bs p v d first.place second.place told k m first.coding second.meaning x.reading c.in_ok-valued.valued.value c.assembled.ensures last.value x.next last.end in
    record { fault = told; order = refusal_order bs p None told; value = is; within = within bs p x told is }
