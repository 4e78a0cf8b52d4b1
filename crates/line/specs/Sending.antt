-- What is known of a line on which a request was sent.
use Rattle.std.specs.Prelude.{◌≡◌, ℕ, ◌<◌, true, List, take, Some}
use Rattle.telegram.specs.declared.request.Request.{Request}
use Rattle.telegram.specs.Replies.{answers}
use Rattle.telegram.specs.Requests.{request_bytes, request_of}
use Rattle.line.specs.Buses.{hear}
use Rattle.line.specs.Exchanges.{State, Clean, Exchanged, Sound}

-- a request was sent in one exchange, whose reply is the first n bytes of a buffer
pub record Sent (s : State) (request : Request) (n : ℕ) (buffer : List ℕ) (s' : State) : Type 0 where
  pub exchanged : Exchanged s (request_bytes request) n buffer s'
  pub understood : request_of (request_bytes request) ≡ Some request
  -- what stays
  pub meters : s'.bus.meters ≡ s.bus.meters
  pub run : s'.run ≡ s.run
  pub sound : Sound s'
  -- where anything came back, the request was heard
  pub replied : 0 < n → s'.bus ≡ hear (Some request) s.bus
  -- what is answered was sent without a fault
  pub answered : answers (take n buffer) ≡ true → Clean s (request_bytes request) (take n buffer) s'
  -- with no run there are no faults
  pub steady : s.run ≡ 0 → Clean s (request_bytes request) (take n buffer) s'
