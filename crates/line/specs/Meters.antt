-- Meters: an address, and the telegrams that the meter sends.
use Rattle.std.specs.Prelude.{◌≡◌, ℕ, ◌≤◌, true, List, length}
use Rattle.std.specs.List.{between, AllByRecursion}
use Rattle.telegram.specs.Replies.{is_reply}

pub record Meter : Type 0 where
  -- the address as it travels, eight bytes
  pub address : List ℕ
  -- what it sends, in this order, and after the last the first again
  pub telegrams : List (List ℕ)

-- the address that a reply telegram carries, at the places 7 to 14
abbrev pub address_in : List ℕ → List ℕ
address_in bs = between 7 15 bs

-- a reply telegram that carries an address
abbrev pub Carries : List ℕ → List ℕ → Type 0
Carries address t = (is_reply t ≡ true) × (address_in t ≡ address)

-- a meter has 1 to 16 telegrams, each a reply telegram that carries its address
pub record Stocked (m : Meter) : Type 0 where
  pub some_telegrams : 1 ≤ length m.telegrams
  pub few_telegrams : length m.telegrams ≤ 16
  pub carry : AllByRecursion (Carries m.address) m.telegrams
