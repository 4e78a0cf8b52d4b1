-- A list over handed-in places: all its places, how many of them are used, and who lent them.
use Rattle.std.specs.Prelude.{ℕ, ◌+◌, Bool, cond, List, [], ◌∷◌, ◌++◌, length, take, Ok, Err, Result, nat_lt, slice_set}
use Rattle.std.specs.Borrow.{GName}
use Rattle.list.specs.declared.fixed_list.FixedList.{FixedList}
use Rattle.list.specs.declared.full.Full.{Full}

module _ {T : Type 0} where
  abbrev pub all_places : FixedList T → List T
  all_places l = l.places.now

  abbrev pub used_of : FixedList T → ℕ
  used_of l = l.used

  -- the entries stand in the first places
  abbrev pub entries_of : FixedList T → List T
  entries_of l = take (used_of l) (all_places l)

  -- the places after one more entry x, where the first n are used
  abbrev pub put_places : List T → ℕ → T → List T
  put_places xs n x = cond (nat_lt n (length xs)) (slice_set xs n x) xs

  abbrev pub put_used : List T → ℕ → ℕ
  put_used xs n = cond (nat_lt n (length xs)) (n + 1) n

  abbrev pub put_result : List T → ℕ → Result (Unit {0}) Full
  put_result xs n = cond (nat_lt n (length xs)) (Ok tt) (Err (record {}))

  -- the entries after one more that found a place, or none
  abbrev pub put_entries : List T → T → Bool → List T
  put_entries es x placed = cond placed (es ++ x ∷ []) es

  -- the reference that the places were handed in by: with it a caller knows what its places hold in the end
  abbrev pub lender : FixedList T → GName
  lender l = l.places.ghost_name
