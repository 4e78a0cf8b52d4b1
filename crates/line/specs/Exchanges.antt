-- What a line means, and what an exchange on it is: a request goes out and a reply comes back, or a fault befalls one of them.
use Rattle.std.specs.Prelude.{◌≡◌, ℕ, ◌+◌, ◌<◌, ◌≤◌, List, [], ◌∷◌, take}
use Rattle.std.specs.List.{AllByRecursion}
use Rattle.link.specs.Buffers.{filled}
use Rattle.telegram.specs.Requests.{request_of}
use Rattle.line.specs.Meters.{Stocked}
use Rattle.line.specs.Buses.{Bus, hear, Due, due, Arrives, Damages, Turned}

pub record State : Type 0 where
  pub bus : Bus
  -- the most exchanges in a row that may be faulty
  pub run : ℕ
  -- how many exchanges in a row have just been faulty
  pub streak : ℕ

-- the bus after the bytes were heard
abbrev pub heard : List ℕ → Bus → Bus
heard request b = hear (request_of request) b

-- the reply that the bytes make due
abbrev pub due_to : List ℕ → Bus → Due
due_to request b = due (request_of request) (heard request b)

-- after an exchange without a fault
abbrev pub cleared : State → Bus → State
cleared s b = record { bus = b; run = s.run; streak = 0 }

-- after a faulty one
abbrev pub faulted : State → Bus → State
faulted s b = record { bus = b; run = s.run; streak = s.streak + 1 }

-- no fault: the request is heard, and the due reply arrives
pub record Clean (s : State) (request reply : List ℕ) (s' : State) : Type 0 where
  pub arrives : Arrives (due_to request s.bus) reply
  pub after : s' ≡ cleared s (heard request s.bus)

-- one exchange: clean, or, with the streak below the run, one of three faults
pub data Exchange (s : State) (request reply : List ℕ) (s' : State) : Type 0 where
  clean : Clean s request reply s' → Exchange s request reply s'
  -- the request is lost on its way out: no meter hears it
  lost_out : s.streak < s.run → reply ≡ [] → s' ≡ faulted s s.bus → Exchange s request reply s'
  -- the reply is lost on its way back
  lost_back : s.streak < s.run → reply ≡ [] → s' ≡ faulted s (heard request s.bus) → Exchange s request reply s'
  -- the reply is damaged on its way back
  damaged : s.streak < s.run → Damages (due_to request s.bus) reply → s' ≡ faulted s (heard request s.bus) → Exchange s request reply s'

-- an exchange whose reply is the first n bytes of a buffer, with 00 after it
pub record Exchanged (s : State) (request : List ℕ) (n : ℕ) (buffer : List ℕ) (s' : State) : Type 0 where
  pub within : n ≤ 261
  pub exchange : Exchange s request (take n buffer) s'
  pub then_zeros : buffer ≡ filled (take n buffer)

-- a state that a line can be in
pub record Sound (s : State) : Type 0 where
  pub stocked : AllByRecursion Stocked s.bus.meters
  pub turned : Turned s.bus
  pub limited : s.streak ≤ s.run

-- exchanges one after another, and none besides: each request with its reply
pub data Chain : State → List (List ℕ × List ℕ) → State → Type 0 where
  none : {s : State} → Chain s [] s
  more : {s t u : State} {request reply : List ℕ} {rest : List (List ℕ × List ℕ)} → Exchange s request reply t → Chain t rest u → Chain s ((request, reply) ∷ rest) u
