-- Memory for what a line can add to a house.
use Rattle.std.specs.Prelude.{ℕ, ◌+◌, ◌<◌, ◌≤◌, vec_len, vec_capacity}
use Rattle.house.specs.declared.house.House.{House}
use Rattle.house.specs.declared.room.Room.{Room}

-- each vector takes so many values
pub record IsRoomFor (room : Room) (size : ℕ) : Type 0 where
  pub bytes : size ≤ vec_capacity room.bytes
  pub bodies : size ≤ vec_capacity room.bodies

-- a house takes so many bytes or codes more, or one more of what else it has
pub record TakesMore (house : House) (size : ℕ) : Type 0 where
  pub rows : vec_len house.rows < vec_capacity house.rows
  pub area : vec_len house.area + size ≤ vec_capacity house.area
  pub codes : vec_len house.codes + size ≤ vec_capacity house.codes
  pub limits : vec_len house.limits < vec_capacity house.limits
  pub calls : vec_len house.calls < vec_capacity house.calls
