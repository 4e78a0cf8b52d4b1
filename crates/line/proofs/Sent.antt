-- What every exchange by which a request is sent keeps.
use Rattle.std.proofs.Common.{◌≡◌, ℕ, List, length, Some, ap, ◌∙◌, arith, length-take}
use Rattle.telegram.specs.declared.request.Request.{Request}
use Rattle.telegram.specs.Requests.{request_bytes, request_of}
use Rattle.line.specs.Buses.{hear}
use Rattle.line.specs.Exchanges.{State, Exchanged, Sound}
use Rattle.line.specs.Sending.{Sent}
use Rattle.line.proofs.Exchanging.{always_clean, exchange_meters, exchange_run, exchange_sound}
use Rattle.line.proofs.Replying.{answered_clean, replied_heard}

pub sent_by : {s : State} {request : Request} {n : ℕ} {buffer : List ℕ} {s' : State} → Sound s → length buffer ≡ 261 → request_of (request_bytes request) ≡ Some request → Exchanged s (request_bytes request) n buffer s' → Sent s request n buffer s'
sent_by {s} {request} {n} {buffer} sound size understood x =
    record {
      exchanged = x;
      understood = understood;
      meters = exchange_meters x.exchange;
      run = exchange_run x.exchange;
      sound = exchange_sound sound x.exchange;
      replied = λ some. replied_heard x.exchange (λ none. omega (arith, ap length none, length-take n buffer)) ∙ ap (λ q. hear q s.bus) understood;
      answered = answered_clean x.exchange;
      steady = λ none. always_clean none x.exchange;
    }
