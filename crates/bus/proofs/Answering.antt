-- What meters of a table answer is one exchange of their line.
use Rattle.std.proofs.Common.{◌≡◌, ℕ, ◌<◌, List, length, sym, refl, ap, ◌∙◌, subst, arith}
use Rattle.std.specs.List.{AllByRecursion}
use Rattle.link.specs.Buffers.{filled}
use Rattle.line.specs.Meters.{Meter, Stocked}
use Rattle.line.specs.Buses.{Bus, Due, Arrives, Damages}
use Rattle.line.specs.Exchanges.{State, Exchange, Exchanged, Sound, cleared, due_to, faulted, heard}
use Rattle.line.proofs.Exchanging.{exchanged_by, stands}
use Rattle.line.proofs.Replying.{zero_garbled}
use Rattle.bus.specs.Memories.{at_rest}
use Rattle.bus.specs.Replies.{arriving, damaged}

arrives : (d : Due) → Arrives d (arriving d)
arrives Due.silence = refl
arrives Due.acknowledgement = refl
arrives (Due.telegram t) = refl
arrives Due.collision = zero_garbled

damages : (d : Due) → Damages d (damaged d)
damages Due.silence = refl
damages Due.acknowledgement = zero_garbled
damages (Due.telegram t) = zero_garbled
damages Due.collision = zero_garbled

-- the due reply d, as n bytes in a buffer, of a bus b that has heard a request and so become b'
module _ (s : State) (b b' : Bus) (q : List ℕ) (n : ℕ) (buffer : List ℕ) (d : Due) (hears : b' ≡ heard q b) (is : d ≡ due_to q b) (size : length buffer ≡ 261) (at : s.bus ≡ b) where
  pub answered : n ≡ length (arriving d) → buffer ≡ filled (arriving d) → Exchanged s q n buffer (cleared s b')
  answered count bytes =
      exchanged_by (stands count bytes size) (Exchange.clean (record { arrives = subst (λ x. Arrives x (arriving d)) (is ∙ ap (due_to q) (sym at)) (arrives d); after = ap (cleared s) (hears ∙ ap (heard q) (sym at)) }))

  pub spoilt : n ≡ length (damaged d) → buffer ≡ filled (damaged d) → s.streak < s.run → Exchanged s q n buffer (faulted s b')
  spoilt count bytes low =
      exchanged_by (stands count bytes size) (Exchange.damaged low (subst (λ x. Damages x (damaged d)) (is ∙ ap (due_to q) (sym at)) (damages d)) (ap (faulted s) (hears ∙ ap (heard q) (sym at))))

-- meters that have heard nothing are sound
pub rest_sound : (ms : List Meter) (run : ℕ) → AllByRecursion Stocked ms → Sound (record { bus = at_rest ms; run = run; streak = 0 })
rest_sound ms run h = record { stocked = h; turned = refl; limited = omega arith }
