-- Which meters some bytes record, and why some bytes record none.
use Rattle.std.specs.Prelude.{◌≡◌, ℕ, ◌+◌, ◌≤◌, List, [], ◌∷◌, ◌++◌, length, Some, None, ◌≢◌}
use Rattle.std.specs.List.{flat_map, AllByRecursion}
use Rattle.telegram.specs.Replies.{reply_refusal}
use Rattle.line.specs.Meters.{Meter, Stocked, address_in}
use Rattle.capture.specs.declared.fault.Cause.{Cause}
use Rattle.capture.specs.declared.fault.Cause.TheVariants.{Size, Reply}
use Rattle.capture.specs.declared.fault.CaptureFault.{CaptureFault}
use Rattle.capture.specs.Cutting.{Faulty, first_telegram}

-- the telegrams of all meters, one after the other
abbrev pub telegrams_of : List Meter → List (List ℕ)
telegrams_of ms = flat_map (λ m. m.telegrams) ms

-- the bytes of some telegrams, end to end
abbrev pub end_to_end : List (List ℕ) → List ℕ
end_to_end ts = flat_map (λ t. t) ts

-- the first of these meters, if there is one, has another address
abbrev pub Differs : Meter → List Meter → Type 0
Differs m [] = Unit {0}
Differs m (n ∷ ms) = m.address ≡ n.address → ⊥

-- neighbours have different addresses
abbrev pub Apart : List Meter → Type 0
Apart [] = Unit {0}
Apart (m ∷ ms) = Differs m ms × Apart ms

-- the bytes are the meters' telegrams, end to end and in order; each meter has 1 to 16 telegrams that carry its address,
-- neighbours differ in address, and there are at most 250
pub record Recorded (bytes : List ℕ) (ms : List Meter) : Type 0 where
  pub whole : end_to_end (telegrams_of ms) ≡ bytes
  pub apart : Apart ms
  pub stocked : AllByRecursion Stocked ms
  pub few : length ms ≤ 250

-- the last meter, if there is one, has another address
abbrev pub Unlike : List Meter → List ℕ → Type 0
Unlike ms a = (front : List Meter) (m : Meter) → ms ≡ front ++ m ∷ [] → m.address ≢ a

-- there is no place for a telegram with this address: it is the 17th of its meter, or its meter is the 251st
pub data Crowded (ms : List Meter) (a : List ℕ) : Type 0 where
  full_meter : (front : List Meter) (m : Meter) → ms ≡ front ++ m ∷ [] → m.address ≡ a → length m.telegrams ≡ 16 → Crowded ms a
  full_line : Unlike ms a → 250 ≤ length ms → Crowded ms a

-- why a telegram cannot follow those of the meters
abbrev pub Blocked : List Meter → List ℕ → Cause → Type 0
Blocked ms t Size = (reply_refusal t ≡ None) × Crowded ms (address_in t)
Blocked ms t (Reply f) = Faulty t f

-- the first telegram that cannot be taken, by its number from 1: all before it are recorded
pub record Refusal (bytes : List ℕ) (e : CaptureFault) : Type 0 where
  pub before : List Meter
  pub rest : List ℕ
  pub split : bytes ≡ end_to_end (telegrams_of before) ++ rest
  pub some_left : 1 ≤ length rest
  pub taken : Recorded (end_to_end (telegrams_of before)) before
  pub number : e.telegram ≡ Some (length (telegrams_of before) + 1)
  pub blocked : Blocked before (first_telegram rest) e.cause
