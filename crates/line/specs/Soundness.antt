-- Meters are stocked, and a state is sound, in at most one way: so each can be taken out of a truncation, in which
-- a ghost field has it.
use Rattle.std.specs.Prelude.{ℕ, Bool, List, [], ◌∷◌, Some, None, Option}
use Rattle.std.proofs.Math.Bool.{Bool-set}
use mathlib.Core.HLevel.{×_prop}
use mathlib.Core.List.{is_set}
use Rattle.std.proofs.Math.Logic.{∥∥₁_elim}
use Rattle.std.proofs.Math.Bridge.{le_prop}
use Rattle.std.proofs.Math.Nat.{ℕ_set}
use Rattle.std.specs.List.{AllByRecursion}
use Rattle.telegram.specs.Replies.{is_reply}
use Rattle.line.specs.Meters.{Meter, Carries, Stocked, address_in}
use Rattle.line.specs.Buses.{selected, turn_fits}
use Rattle.line.specs.Exchanges.{State, Sound}

all_prop : {X : Type 0} (P : X → Type 0) → ((x : X) → IsProp (P x)) → (xs : List X) → IsProp (AllByRecursion P xs)
all_prop P f [] p q = λ i. tt
all_prop P f (x ∷ xs) p q = λ i. (f x p.0 q.0 i, all_prop P f xs p.1 q.1 i)

carries_prop : (address t : List ℕ) → IsProp (Carries address t)
carries_prop address t = ×_prop (Bool-set (is_reply t) _) (is_set ℕ_set (address_in t) address)

stocked_prop : (m : Meter) → IsProp (Stocked m)
stocked_prop m a b =
    λ i. record {
      some_telegrams = le_prop a.some_telegrams b.some_telegrams i;
      few_telegrams = le_prop a.few_telegrams b.few_telegrams i;
      carry = all_prop (Carries m.address) (carries_prop m.address) m.telegrams a.carry b.carry i;
    }

pub stocked_out : (ms : List Meter) → ∥ AllByRecursion Stocked ms ∥₁ → AllByRecursion Stocked ms
stocked_out ms h = ∥∥₁_elim h (all_prop Stocked stocked_prop ms) (λ x. x)

turn_prop : (k : Option Bool) (ms : List Meter) (turn : ℕ) → IsProp (turn_fits k ms turn)
turn_prop None ms turn a b = ℕ_set turn 0 a b
turn_prop (Some bit) [] turn a b = absurd a
turn_prop (Some bit) (m ∷ []) turn a b = ×_prop le_prop le_prop a b
turn_prop (Some bit) (m ∷ n ∷ ms) turn a b = absurd a

sound_prop : (s : State) → IsProp (Sound s)
sound_prop s a b =
    λ i. record {
      stocked = all_prop Stocked stocked_prop s.bus.meters a.stocked b.stocked i;
      turned = turn_prop s.bus.kept (selected s.bus) s.bus.turn a.turned b.turned i;
      limited = le_prop a.limited b.limited i;
    }

pub sound_out : (s : State) → ∥ Sound s ∥₁ → Sound s
sound_out s h = ∥∥₁_elim h (sound_prop s) (λ x. x)
