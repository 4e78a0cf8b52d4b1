-- What a list over handed-in places leaves in them.
use Rattle.std.specs.Prelude.{◌≡◌, List, length, drop}
use Rattle.list.specs.declared.fixed_list.FixedList.{FixedList}
use Rattle.list.specs.FixedLists.{all_places, used_of}

-- filled from the first of these places, and those after the entries untouched
pub record Filled {T : Type 0} (places : List T) (l : FixedList T) : Type 0 where
  pub size : length (all_places l) ≡ length places
  pub untouched : drop (used_of l) (all_places l) ≡ drop (used_of l) places
