-- What every exchange keeps.
use Rattle.std.proofs.Common.{◌≡◌, ℕ, ◌+◌, ◌≤◌, List, [], ◌∷◌, ◌++◌, length, take, sym, refl, ap, ◌∙◌, subst, arith}
use Rattle.std.specs.List.{AllByRecursion}
use Rattle.link.specs.Buffers.{filled}
use Rattle.link.proofs.Filling.{take_filled, filled_few}
use Rattle.telegram.specs.Requests.{request_of}
use Rattle.line.specs.Meters.{Stocked}
use Rattle.line.specs.Exchanges.{State, Clean, Exchange, Exchanged, Chain, Sound, heard}
use Rattle.line.proofs.Hearing.{hear_meters, hear_turned}

pub exchange_meters : {s : State} {q r : List ℕ} {s' : State} → Exchange s q r s' → s'.bus.meters ≡ s.bus.meters
exchange_meters {s} {q} (Exchange.clean x) = ap (λ t. t.bus.meters) x.after ∙ hear_meters (request_of q) s.bus
exchange_meters (Exchange.lost_out l a e) = ap (λ t. t.bus.meters) e
exchange_meters {s} {q} (Exchange.lost_back l a e) = ap (λ t. t.bus.meters) e ∙ hear_meters (request_of q) s.bus
exchange_meters {s} {q} (Exchange.damaged l a e) = ap (λ t. t.bus.meters) e ∙ hear_meters (request_of q) s.bus

pub exchange_run : {s : State} {q r : List ℕ} {s' : State} → Exchange s q r s' → s'.run ≡ s.run
exchange_run (Exchange.clean x) = ap (λ t. t.run) x.after
exchange_run (Exchange.lost_out l a e) = ap (λ t. t.run) e
exchange_run (Exchange.lost_back l a e) = ap (λ t. t.run) e
exchange_run (Exchange.damaged l a e) = ap (λ t. t.run) e

-- on a line with no run every exchange is clean
pub always_clean : {s : State} {q r : List ℕ} {s' : State} → s.run ≡ 0 → Exchange s q r s' → Clean s q r s'
always_clean z (Exchange.clean x) = x
always_clean z (Exchange.lost_out l a e) = absurd (omega arith)
always_clean z (Exchange.lost_back l a e) = absurd (omega arith)
always_clean z (Exchange.damaged l a e) = absurd (omega arith)

heard_sound : (s : State) (q : List ℕ) (k : ℕ) → Sound s → k ≤ s.run → Sound (record { bus = heard q s.bus; run = s.run; streak = k })
heard_sound s q k h low =
    record {
      stocked = subst (AllByRecursion Stocked) (sym (hear_meters (request_of q) s.bus)) h.stocked;
      turned = hear_turned (request_of q) s.bus h.stocked h.turned;
      limited = low;
    }

pub exchange_sound : {s : State} {q r : List ℕ} {s' : State} → Sound s → Exchange s q r s' → Sound s'
exchange_sound {s} {q} h (Exchange.clean x) = subst Sound (sym x.after) (heard_sound s q 0 h (omega arith))
exchange_sound {s} {q} h (Exchange.lost_out l a e) =
    subst Sound (sym e) (record { stocked = h.stocked; turned = h.turned; limited = omega arith })
exchange_sound {s} {q} h (Exchange.lost_back l a e) = subst Sound (sym e) (heard_sound s q (s.streak + 1) h (omega arith))
exchange_sound {s} {q} h (Exchange.damaged l a e) = subst Sound (sym e) (heard_sound s q (s.streak + 1) h (omega arith))

-- chains
pub chain_one : {s t : State} {q r : List ℕ} → Exchange s q r t → Chain s ((q, r) ∷ []) t
chain_one x = Chain.more x Chain.none

pub chain_join : {s t u : State} {xs ys : List (List ℕ × List ℕ)} → Chain s xs t → Chain t ys u → Chain s (xs ++ ys) u
chain_join Chain.none d = d
chain_join (Chain.more x c) d = Chain.more x (chain_join c d)

pub chain_run : {s t : State} {xs : List (List ℕ × List ℕ)} → Chain s xs t → t.run ≡ s.run
chain_run Chain.none = refl
chain_run (Chain.more x c) = chain_run c ∙ exchange_run x

pub chain_meters : {s t : State} {xs : List (List ℕ × List ℕ)} → Chain s xs t → t.bus.meters ≡ s.bus.meters
chain_meters Chain.none = refl
chain_meters (Chain.more x c) = chain_meters c ∙ exchange_meters x

pub chain_sound : {s t : State} {xs : List (List ℕ × List ℕ)} → Sound s → Chain s xs t → Sound t
chain_sound h Chain.none = h
chain_sound h (Chain.more x c) = chain_sound (exchange_sound h x) c

-- a reply that stands in a buffer, and 00 after it
pub record Stands (n : ℕ) (buffer reply : List ℕ) : Type 0 where
  pub within : n ≤ 261
  pub front : take n buffer ≡ reply
  pub then_zeros : buffer ≡ filled (take n buffer)

pub stands : {n : ℕ} {buffer reply : List ℕ} → n ≡ length reply → buffer ≡ filled reply → length buffer ≡ 261 → Stands n buffer reply
stands {n} {buffer} {reply} h e size =
    let front : take n buffer ≡ reply = ap (take n) e ∙ take_filled reply n h in
    record { within = omega (arith, filled_few reply (sym (ap length e) ∙ size)); front = front; then_zeros = e ∙ ap filled (sym front) }

pub exchanged_by : {s : State} {q r buffer : List ℕ} {n : ℕ} {s' : State} → Stands n buffer r → Exchange s q r s' → Exchanged s q n buffer s'
exchanged_by {s} {q} {s' = s'} h x =
    record { within = h.within; exchange = subst (λ y. Exchange s q y s') (sym h.front) x; then_zeros = h.then_zeros }
