-- From a frame's parts to what its bytes are as a reply telegram.
use Rattle.std.proofs.Common.{◌≡◌, ℕ, ◌+◌, ◌-◌, ◌≤◌, true, cond, not, ◌&&◌, leb, List, [], ◌∷◌, ◌++◌, length, get_or, take, drop, is_some, is_ok, IfOk, Some, None, Ok, Err, Option, Result, sym, refl, ap, ◌∙◌, subst, ⊎_elim, arith}
use Rattle.std.specs.List.{between}
use Rattle.std.proofs.lemmas.List.{append_assoc, get_or_append_left, length-append, length-take-le, take-append-drop}
use Rattle.std.proofs.lemmas.Bool.{and_parts, cases_lt, le-leb, lt-leb}
use Rattle.std.proofs.lemmas.Bool.Decides.{nat_tests}
use Rattle.link.specs.declared.frame.LongFrame.{LongFrame}
use Rattle.link.specs.declared.frame.Frame.{Frame}
use Rattle.link.specs.declared.frame.Frame.TheVariants.{Ack, Short, Long}
use Rattle.link.specs.declared.fault.FrameFault.{FrameFault}
use Rattle.link.specs.declared.fault.Report.{Report}
use Rattle.link.specs.Checks.{FailsFirst, first_fault}
use Rattle.link.specs.Faults.{frame_report}
use Rattle.link.specs.Frames.{Parts, parts, long, checksum, written, frame_checks, frame_refusal}
use Rattle.link.proofs.Lists.{between_at}
use Rattle.link.proofs.Ordering.{fails_first_at, first_joined, or_else}
use Rattle.link.proofs.Trips.{accepts}
use Rattle.telegram.specs.declared.fault.ReplyFault.{ReplyFault}
use Rattle.telegram.specs.declared.fault.ReplyFault.TheVariants as fault
use Rattle.telegram.specs.declared.reply.Reply.{Reply}
use Rattle.telegram.specs.Faults.{Rises, reply_fault, reply_report}
use Rattle.telegram.specs.Digits.{decimal, decimal_number, digit_checks}
use Rattle.telegram.specs.Replies.{ReadsReply, body_of, is_reply, telegram_checks, long_reply_checks, not_reply, reply_checks, reply_parts, reply_refusal}

-- a frame's fault comes first
refusals : (bs : List ℕ) → reply_refusal bs ≡ or_else (frame_refusal bs) (first_fault (telegram_checks bs))
unfolding reply_refusal frame_refusal
refusals bs = first_joined (frame_checks bs) (telegram_checks bs)

-- a frame's fault rises
risen : (bs : List ℕ) (t : Report) → Some t ≡ frame_refusal bs → Some t ≡ reply_refusal bs
risen bs t h = ap (λ o. or_else o (first_fault (telegram_checks bs))) h ∙ sym (refusals bs)

-- a frame without a fault is checked further
goes_on : (bs : List ℕ) → None ≡ frame_refusal bs → first_fault (telegram_checks bs) ≡ reply_refusal bs
goes_on bs h = ap (λ o. or_else o (first_fault (telegram_checks bs))) h ∙ sym (refusals bs)

-- what follows the data does not matter
same_digits : (d tail : List ℕ) (x : Option Report) → cond (leb 15 (length d + 3)) (first_fault (digit_checks 7 (d ++ tail))) x ≡ cond (leb 12 (length d)) (first_fault (digit_checks 7 d)) x
same_digits d tail x =
    ⊎_elim
    (λ h. simp (lt-leb 15 (length d + 3) (omega arith), lt-leb 12 (length d) h))
    (λ h. simp (le-leb 15 (length d + 3) (omega arith), le-leb 12 (length d) h, get_or_append_left d tail 0 0 (omega arith), get_or_append_left d tail 0 1 (omega arith), get_or_append_left d tail 0 2 (omega arith), get_or_append_left d tail 0 3 (omega arith)))
    (cases_lt (length d) 12)

at_long : (c a i : ℕ) (d : List ℕ) → first_fault (telegram_checks (written (long c a i d))) ≡ first_fault (long_reply_checks c i d)
at_long c a i d = simp (same_digits d (checksum (c ∷ a ∷ i ∷ d) ∷ 0x16 ∷ []) (Some (not_reply 1)))

long_refusal : (bs : List ℕ) (c a i : ℕ) (d : List ℕ) → None ≡ frame_refusal bs → written (long c a i d) ≡ bs → first_fault (long_reply_checks c i d) ≡ reply_refusal bs
long_refusal bs c a i d n h =
    sym (at_long c a i d) ∙ ap (λ x. first_fault (telegram_checks x)) h ∙ goes_on bs n

other_refusal : (bs : List ℕ) (f : Frame) → ((g : LongFrame) → f ≡ Long g → ⊥) → None ≡ frame_refusal bs → written (parts f) ≡ bs → Some (not_reply 0) ≡ reply_refusal bs
other_refusal bs Ack no_long n h = ap (λ x. first_fault (telegram_checks x)) h ∙ goes_on bs n
other_refusal bs (Short c a) no_long n h = ap (λ x. first_fault (telegram_checks x)) h ∙ goes_on bs n
other_refusal bs (Long g) no_long n h = absurd (no_long g refl)

-- the body of a long frame with enough data
body_is : (bs : List ℕ) (c a i : ℕ) (d : List ℕ) → 12 ≤ length d → written (long c a i d) ≡ bs → body_of bs ≡ drop 12 d
body_is bs c a i d l h =
    let n : ℕ = length d + 3 in
    let xs : List ℕ = drop 12 d in
    let rest : List ℕ = checksum (c ∷ a ∷ i ∷ d) ∷ 0x16 ∷ [] in
    let front : List ℕ = 0x68 ∷ n ∷ n ∷ 0x68 ∷ c ∷ a ∷ i ∷ take 12 d in
    let cut : take 12 d ++ (xs ++ rest) ≡ d ++ rest = sym (append_assoc (take 12 d) xs rest) ∙ ap (λ x. x ++ rest) (take-append-drop 12 d) in
    let e : front ++ (xs ++ rest) ≡ bs = ap (λ t. 0x68 ∷ n ∷ n ∷ 0x68 ∷ c ∷ a ∷ i ∷ t) cut ∙ h in
    let k : length front ≡ 19 = omega (arith, length-take-le 12 d l) in
    let m : length (front ++ xs) ≡ length bs - 2 = omega (arith, ap length e, length-append front (xs ++ rest), length-append xs rest, length-append front xs) in
    ap (between 19 (length bs - 2)) (sym e) ∙ between_at front xs rest 19 (length bs - 2) k m

reply_bytes : (r : Result Reply ReplyFault) (bs : List ℕ) (c a i : ℕ) (d : List ℕ) → reply_fault r ≡ first_fault (long_reply_checks c i d) → IfOk r (λ t. reply_parts t (drop 12 d) ≡ long c a i d) → written (long c a i d) ≡ bs → IfOk r (λ t. written (reply_parts t (body_of bs)) ≡ bs)
reply_bytes (Ok t) bs c a i d f p h =
    let l : 12 ≤ length d = grind (arith, nat_tests) in
    ap (λ b. written (reply_parts t b)) (body_is bs c a i d l h) ∙ ap written p ∙ h
reply_bytes (Err e) bs c a i d f p h = tt

-- the data of a reply telegram pass
long_passes : (d : List ℕ) → 12 ≤ length d → decimal_number d ≡ true → first_fault (long_reply_checks 0x08 0x72 d) ≡ None
long_passes d h e =
    let p = and_parts (decimal (get_or d 0 0)) (decimal (get_or d 1 0) && (decimal (get_or d 2 0) && decimal (get_or d 3 0))) e in
    let q = and_parts (decimal (get_or d 1 0)) (decimal (get_or d 2 0) && decimal (get_or d 3 0)) p.1 in
    let r = and_parts (decimal (get_or d 2 0)) (decimal (get_or d 3 0)) q.1 in
    simp (le-leb 12 (length d) h, p.0, q.0, r.0, r.1)

pub passes : (bs : List ℕ) (a : ℕ) (d : List ℕ) → 12 ≤ length d → decimal_number d ≡ true → written (long 0x08 a 0x72 d) ≡ bs → reply_refusal bs ≡ None
passes bs a d l e h =
    let n : None ≡ frame_refusal bs = sym (accepts (long 0x08 a 0x72 d)) ∙ ap frame_refusal h in
    sym (long_refusal bs 0x08 a 0x72 d n h) ∙ long_passes d l e

-- all that reading promises, from the fault that it tells and the telegram that it gives
pub record Judged (bs : List ℕ) (r : Result Reply ReplyFault) : Type 0 where
  pub told : reply_fault r ≡ reply_refusal bs
  pub rises : Rises (frame_refusal bs) r
  pub order : FailsFirst (reply_checks bs) (reply_fault r)
  pub reads : ReadsReply bs r

reads_reply : (bs : List ℕ) (r : Result Reply ReplyFault) → reply_fault r ≡ reply_refusal bs → IfOk r (λ t. written (reply_parts t (body_of bs)) ≡ bs) → ReadsReply bs r
reads_reply bs (Ok t) h b = b
reads_reply bs (Err e) h b =
    λ a d l k w.
    let s : Some (reply_report e) ≡ None = h ∙ passes bs a d l k w in
    let z : ◌≡◌ {A = ℕ} 0 1 = cc in
    omega arith

order_of : (bs : List ℕ) (o : Option Report) → o ≡ reply_refusal bs → FailsFirst (reply_checks bs) o
unfolding reply_refusal
order_of bs o h = fails_first_at (reply_checks bs) o h

rises_whole : (o : Option Report) (r : Result Reply ReplyFault) (e : FrameFault) → r ≡ Err (fault.Frame e) → Some (frame_report e) ≡ o → Rises o r
rises_whole None r e q h = tt
rises_whole (Some t) (Ok x) e q h = let z : ◌≡◌ {A = ℕ} 0 1 = cc in absurd (omega arith)
rises_whole (Some t) (Err (fault.Frame f)) e q h = let k : f ≡ e = cc in ap frame_report k ∙ (cc)
rises_whole (Some t) (Err (fault.NotReply p)) e q h = let z : ◌≡◌ {A = ℕ} 0 1 = cc in absurd (omega arith)
rises_whole (Some t) (Err (fault.Digit p)) e q h = let z : ◌≡◌ {A = ℕ} 0 1 = cc in absurd (omega arith)

rises_none : (o : Option Report) (r : Result Reply ReplyFault) → None ≡ o → Rises o r
rises_none None r h = tt
rises_none (Some t) r h = let z : ◌≡◌ {A = ℕ} 0 1 = cc in absurd (omega arith)

-- the fault and the reply of a frame, by its bytes
pub record Framed (bs : List ℕ) (r : Result Reply ReplyFault) : Type 0 where
  pub told : reply_fault r ≡ reply_refusal bs
  pub reads : ReadsReply bs r

-- a long frame
pub framed_long : (bs : List ℕ) (r : Result Reply ReplyFault) (c a i : ℕ) (d : List ℕ) → reply_fault r ≡ first_fault (long_reply_checks c i d) → IfOk r (λ t. reply_parts t (drop 12 d) ≡ long c a i d) → written (long c a i d) ≡ bs → Framed bs r
framed_long bs r c a i d f p h =
    let n : None ≡ frame_refusal bs = sym (accepts (long c a i d)) ∙ ap frame_refusal h in
    let told : reply_fault r ≡ reply_refusal bs = f ∙ long_refusal bs c a i d n h in
    record { told = told; reads = reads_reply bs r told (reply_bytes r bs c a i d f p h) }

-- any other
pub framed_other : (f : Frame) → ((g : LongFrame) → f ≡ Long g → ⊥) → Framed (written (parts f)) (Err (fault.NotReply 0))
framed_other f no_long =
    let bs = written (parts f) in
    let told = other_refusal bs f no_long (sym (accepts (parts f))) refl in
    record { told = told; reads = reads_reply bs (Err (fault.NotReply 0)) told tt }

-- the bytes are those of a frame
pub judged : (bs : List ℕ) (p : Parts) (r : Result Reply ReplyFault) → written p ≡ bs → reply_fault r ≡ reply_refusal (written p) → ReadsReply (written p) r → Judged bs r
judged bs p r h f b =
    let n : None ≡ frame_refusal bs = sym (accepts p) ∙ ap frame_refusal h in
    let told : reply_fault r ≡ reply_refusal bs = f ∙ ap reply_refusal h in
    let P : List ℕ → Type 0 = λ x. ReadsReply x r in
    record { told = told; rises = rises_none (frame_refusal bs) r n; order = order_of bs (reply_fault r) told; reads = subst P h b }

-- the bytes are none, and that fault rises
pub judged_frame : (bs : List ℕ) (r : Result Reply ReplyFault) (f : ReplyFault) (e : FrameFault) → r ≡ Err f → f ≡ fault.Frame e → Some (frame_report e) ≡ frame_refusal bs → Judged bs r
judged_frame bs r f e p q h =
    let k : r ≡ Err (fault.Frame e) = p ∙ ap Err q in
    let t : reply_fault r ≡ reply_refusal bs = ap reply_fault k ∙ risen bs (frame_report e) h in
    let P : Result Reply ReplyFault → Type 0 = λ x. IfOk x (λ t. written (reply_parts t (body_of bs)) ≡ bs) in
    record { told = t; rises = rises_whole (frame_refusal bs) r e k h; order = order_of bs (reply_fault r) t; reads = reads_reply bs r t (subst P (sym k) tt) }

-- what is read is a reply telegram
pub accepted : (bs : List ℕ) (r : Result Reply ReplyFault) → reply_fault r ≡ reply_refusal bs → is_ok r ≡ is_reply bs
unfolding is_reply
accepted bs (Ok t) h = ap (λ o. not (is_some o)) h
accepted bs (Err e) h = ap (λ o. not (is_some o)) h
