-- What exchanges keep: the meters, the run, and that the state is sound.
use Rattle.std.proofs.Common.{◌≡◌, ℕ, List, [], ◌∷◌, ◌++◌, refl, ◌∙◌}
use Rattle.line.specs.Exchanges.{State, Exchange, Sound, Chain}
use Rattle.line.proofs.Exchanging.{exchange_meters, exchange_run, exchange_sound}

-- a state with the same meters and run, and sound where the first is
pub record Keeps (s s' : State) : Type 0 where
  pub meters : s'.bus.meters ≡ s.bus.meters
  pub run : s'.run ≡ s.run
  pub sound : Sound s → Sound s'

pub keeps_self : (s : State) → Keeps s s
keeps_self s = record { meters = refl; run = refl; sound = λ h. h }

pub keeps_then : (s s₁ s₂ : State) → Keeps s s₁ → Keeps s₁ s₂ → Keeps s s₂
keeps_then s s₁ s₂ a b =
    record { meters = b.meters ∙ a.meters; run = b.run ∙ a.run; sound = λ h. b.sound (a.sound h) }

pub exchange_keeps : (s s' : State) (q r : List ℕ) → Exchange s q r s' → Keeps s s'
exchange_keeps s s' q r x = record { meters = exchange_meters x; run = exchange_run x; sound = λ h. exchange_sound h x }

pub chain_keeps : (s s' : State) (es : List (List ℕ × List ℕ)) → Chain s es s' → Keeps s s'
chain_keeps a b events Chain.none = keeps_self a
chain_keeps a b events (Chain.more {t} {request} {reply} {rest} x c) = keeps_then a t b (exchange_keeps a t request reply x) (chain_keeps t b rest c)

-- the first exchange of a chain, and its rest
pub record Head (s : State) (e : List ℕ × List ℕ) (es : List (List ℕ × List ℕ)) (s' : State) : Type 0 where
  pub state : State
  pub exchange : Exchange s e.0 e.1 state
  pub rest : Chain state es s'

pub chain_head : (s s' : State) (e : List ℕ × List ℕ) (es : List (List ℕ × List ℕ)) → Chain s (e ∷ es) s' → Head s e es s'
chain_head a b e events (Chain.more {t} x c) = record { state = t; exchange = x; rest = c }

pub chain_none : (s s' : State) → Chain s [] s' → s ≡ s'
chain_none s s' Chain.none = refl

-- a chain in two parts
pub record Parts (s : State) (es fs : List (List ℕ × List ℕ)) (s' : State) : Type 0 where
  pub state : State
  pub front : Chain s es state
  pub back : Chain state fs s'

pub chain_parts : (s s' : State) (es fs : List (List ℕ × List ℕ)) → Chain s (es ++ fs) s' → Parts s es fs s'
chain_parts s s' [] fs c = record { state = s; front = Chain.none; back = c }
chain_parts s s' (e ∷ es) fs c =
    let h = chain_head s s' e (es ++ fs) c in
    let p = chain_parts h.state s' es fs h.rest in
    record { state = p.state; front = Chain.more h.exchange p.front; back = p.back }
