-- From what the reading of a frame tells to what the laws say of it.
use Rattle.std.proofs.Common.{◌≡◌, ℕ, cond, List, length, take, is_some, IfOk, Some, None, Ok, Err, Option, Result, sym, ap, ◌∙◌, arith}
use Rattle.link.specs.declared.fault.Report.{Report}
use Rattle.link.specs.declared.fault.FrameFault.{FrameFault}
use Rattle.link.specs.declared.frame.Frame.{Frame}
use Rattle.link.specs.Buffers.{filled}
use Rattle.link.specs.Checks.{FailsFirst}
use Rattle.link.specs.Faults.{frame_fault, frame_report}
use Rattle.link.specs.Frames.{Parts, frame_checks, frame_of, frame_refusal, parts, parts_in, parts_read, written}
use Rattle.link.specs.Laws.{ReadAs, Reads}
use Rattle.link.proofs.Filling.{take_filled}
use Rattle.link.proofs.Ordering.{fails_first_at}
use Rattle.link.proofs.Trips.{accepts, apart, parts_back}

refusal_order : (bs : List ℕ) (o : Option Report) → o ≡ frame_refusal bs → FailsFirst (frame_checks bs) o
unfolding frame_refusal
refusal_order bs o h = fails_first_at (frame_checks bs) o h

read_as : (bs : List ℕ) (p : Parts) → written p ≡ bs → ReadAs bs p
read_as bs p h = record { writes_back = h; only = λ q k. apart q p (k ∙ sym h) }

reads : (bs : List ℕ) (r : Result Frame FrameFault) → frame_fault r ≡ frame_refusal bs → IfOk r (λ f. written (parts f) ≡ bs) → Reads bs (parts_read r)
reads bs (Ok f) h b = read_as bs (parts f) b
reads bs (Err e) h b =
    λ p k.
    let s : Some (frame_report e) ≡ None = h ∙ ap frame_refusal (sym k) ∙ accepts p in
    let z : ◌≡◌ {A = ℕ} 0 1 = cc in
    omega arith

pub frame_is : (bs : List ℕ) (p : Parts) → written p ≡ bs → frame_of bs ≡ Some p
unfolding frame_of
frame_is bs p h =
    let n : frame_refusal bs ≡ None = ap frame_refusal (sym h) ∙ accepts p in
    ap (λ o. cond (is_some o) None (Some (parts_in bs))) n ∙ ap (λ x. Some (parts_in x)) (sym h) ∙ ap Some (parts_back p)

no_frame : (bs : List ℕ) (r : Report) → Some r ≡ frame_refusal bs → None ≡ frame_of bs
unfolding frame_of
no_frame bs r h = ap (λ o. cond (is_some o) None (Some (parts_in bs))) h

frame_read : (bs : List ℕ) (r : Result Frame FrameFault) → frame_fault r ≡ frame_refusal bs → IfOk r (λ f. written (parts f) ≡ bs) → parts_read r ≡ frame_of bs
frame_read bs (Ok f) h b = sym (frame_is bs (parts f) b)
frame_read bs (Err e) h b = no_frame bs (frame_report e) h

-- all that reading promises, from the fault that it tells and the frame that it gives
pub record Judged (bs : List ℕ) (r : Result Frame FrameFault) : Type 0 where
  pub order : FailsFirst (frame_checks bs) (frame_fault r)
  pub frame : parts_read r ≡ frame_of bs
  pub reads : Reads bs (parts_read r)

pub judged : (bs : List ℕ) (r : Result Frame FrameFault) → frame_fault r ≡ frame_refusal bs → IfOk r (λ f. written (parts f) ≡ bs) → Judged bs r
judged bs r h b =
    record { order = refusal_order bs (frame_fault r) h; frame = frame_read bs r h b; reads = reads bs r h b }

-- what was written into a buffer is read from it
pub readable : (buffer : List ℕ) (n : ℕ) (p : Parts) → buffer ≡ filled (written p) → n ≡ length (written p) → ReadAs (take n buffer) p
readable buffer n p b h = read_as (take n buffer) p (sym (ap (take n) b ∙ take_filled (written p) n h))
