-- The meters that the rows of a capture stand for, and one telegram more.
use Rattle.std.specs.Prelude.{◌≡◌, ℕ, ◌+◌, ◌<◌, List, [], ◌∷◌, ◌++◌, map, length, None}
use Rattle.telegram.specs.Addresses.{address_bytes}
use Rattle.telegram.specs.Replies.{reply_refusal}
use Rattle.line.specs.Meters.{Meter, address_in}
use Rattle.capture.specs.declared.fault.Cause.{Cause}
use Rattle.capture.specs.declared.fault.Cause.TheVariants.{Size, Reply}
use Rattle.capture.specs.declared.row.Row.{Row}
use Rattle.capture.specs.Cutting.{telegram_from}
use Rattle.capture.specs.Recordings.{Crowded, Unlike}

-- where a meter's telegrams start
abbrev pub places : Row → List ℕ
places r = r.starts.items

unfoldable pub meter_of : List ℕ → Row → Meter
meter_of bytes r = record { address = address_bytes r.address; telegrams = map (telegram_from bytes) (places r) }

unfoldable pub meters_of : List ℕ → List Row → List Meter
meters_of bytes rows = map (meter_of bytes) rows

-- a meter with one telegram more
abbrev pub longer : Meter → List ℕ → Meter
longer m t = record { address = m.address; telegrams = m.telegrams ++ t ∷ [] }

-- the meters with one telegram more, which carries the address a: the last meter's where that has this address,
-- else a new meter's
pub data Added (ms : List Meter) (t a : List ℕ) (ms' : List Meter) : Type 0 where
  joins : (front : List Meter) (m : Meter) → ms ≡ front ++ m ∷ [] → m.address ≡ a → length m.telegrams < 16 → ms' ≡ front ++ longer m t ∷ [] → Added ms t a ms'
  begins : Unlike ms a → length ms < 250 → ms' ≡ ms ++ record { address = a; telegrams = t ∷ [] } ∷ [] → Added ms t a ms'

-- why there is no place for one telegram more
abbrev pub Full : List Meter → List ℕ → Cause → Type 0
Full ms a Size = Crowded ms a
Full ms a (Reply f) = ⊥

-- the telegram at a place is taken: the meters have it, and the next one starts after it
pub record Followed (bytes : List ℕ) (at : ℕ) (ms : List Meter) (next : ℕ) (ms' : List Meter) : Type 0 where
  pub sound : reply_refusal (telegram_from bytes at) ≡ None
  pub added : Added ms (telegram_from bytes at) (address_in (telegram_from bytes at)) ms'
  pub moved : next ≡ at + length (telegram_from bytes at)
