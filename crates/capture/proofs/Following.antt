-- Reading one telegram after the other.
use Rattle.std.proofs.Common.{◌≡◌, ℕ, ◌+◌, ◌<◌, List, [], ◌++◌, length, take, drop, Some, sym, refl, ap, ◌∙◌, subst, arith, take-add}
use Rattle.std.proofs.lemmas.List.{length-drop, take-append-drop}
use Rattle.line.specs.Meters.{Meter, address_in}
use Rattle.capture.specs.Cutting.{Took, telegram_from}
use Rattle.capture.specs.Recordings.{Blocked, Recorded, Refusal, telegrams_of}
use Rattle.capture.specs.Rows.{Added, Followed, Full, meters_of}
use Rattle.capture.specs.declared.row.Row.{Row}
use Rattle.capture.specs.declared.fault.Cause.{Cause}
use Rattle.capture.specs.declared.fault.Cause.TheVariants.{Size, Reply}
use Rattle.capture.specs.declared.fault.CaptureFault.{CaptureFault}
use Rattle.capture.proofs.Cuts.{take_length}
use Rattle.capture.proofs.Growing.{added_recorded}
use Rattle.capture.proofs.Carrying.{reply_from}

module _ (bytes : List ℕ) (at : ℕ) (ms : List Meter) where
  pub full_blocked : (a : List ℕ) (next : ℕ) (cause : Cause) → Took bytes at a next → Full ms a cause → Blocked ms (telegram_from bytes at) cause
  full_blocked a next Size t f = (t.sound, subst (λ x. Full ms x Size) t.carried f)
  full_blocked a next (Reply e) t f = absurd f

  pub followed : (a : List ℕ) (next : ℕ) (ms' : List Meter) → Took bytes at a next → Added ms (telegram_from bytes at) a ms' → Followed bytes at ms next ms'
  followed a next ms' t h =
      record { sound = t.sound; added = subst (λ x. Added ms (telegram_from bytes at) x ms') t.carried h; moved = t.moved }

  module _ (next : ℕ) (ms' : List Meter) (f : Followed bytes at ms next ms') where
    front_is : take next bytes ≡ take at bytes ++ telegram_from bytes at
    front_is =
        ap (λ n. take n bytes) f.moved ∙ take-add at (length (telegram_from bytes at)) bytes ∙ ap (λ x. take at bytes ++ x) (take_length _ (drop at bytes))

    pub followed_recorded : Recorded (take at bytes) ms → Recorded (take next bytes) ms'
    followed_recorded h =
        subst (λ x. Recorded x ms') (sym front_is)
        (added_recorded (take at bytes) ms ms' (telegram_from bytes at) (address_in (telegram_from bytes at)) h (reply_from (telegram_from bytes at) f.sound) refl f.added)

  pub refused : (e : CaptureFault) → Recorded (take at bytes) ms → at < length bytes → e.telegram ≡ Some (length (telegrams_of ms) + 1) → Blocked ms (telegram_from bytes at) e.cause → Refusal bytes e
  refused e h l n b =
      record {
        before = ms;
        rest = drop at bytes;
        split = sym (ap (λ x. x ++ drop at bytes) h.whole ∙ take-append-drop at bytes);
        some_left = omega (arith, length-drop at bytes);
        taken = subst (λ x. Recorded x ms) (sym h.whole) h;
        number = n;
        blocked = b;
      }

pub recorded_none : (bytes : List ℕ) (rows : List Row) → rows ≡ [] → Recorded [] (meters_of bytes rows)
unfolding meters_of
recorded_none bytes rows e =
    let P : List Row → Type 0 = λ x. Recorded [] (meters_of bytes x) in
    subst P (sym e) (record { whole = refl; apart = tt; stocked = tt; few = omega arith })
