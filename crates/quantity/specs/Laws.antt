-- What the table of VIF codes is like as a whole.
use Rattle.std.specs.Prelude.{◌≡◌, ℕ, ◌%◌, ◌<◌, ◌≤◌, not, List, [], ◌∷◌, ◌++◌, map, is_some, count_by, filter, nat_eq}
use Rattle.std.specs.List.{range_with_len, AllByRecursion}
use Rattle.quantity.specs.declared.table.Row.{Row}
use Rattle.quantity.specs.Quantities.{quantity_number}
use Rattle.quantity.specs.Table.{table, first_code, next_code, has, vif_meaning}

-- each row begins after the last code of the row before it
abbrev pub Rising : ℕ → List Row → Type 0
Rising from [] = from ≤ 128
Rising from (r ∷ rs) = (from ≤ first_code r) × Rising (next_code r) rs

abbrev pub rows_with : ℕ → ℕ
rows_with c = count_by (has c) table

pub record SoundTable : Type 0 where
  pub rises : Rising 0 table
  -- n counts the codes of a row from 0
  pub aligned : AllByRecursion (λ r. first_code r % r.count ≡ 0) table
  pub once : (c : ℕ) → c < 128 → rows_with c ≤ 1
  pub without_row : filter (λ c. nat_eq (rows_with c) 0) (range_with_len 0 128) ≡ 0x6F ∷ 0x7C ∷ 0x7E ∷ []
  -- the quantities come in the order of their numbers, and the extension twice
  pub numbered : map (λ r. quantity_number r.quantity) table ≡ range_with_len 1 26 ++ range_with_len 26 2
  -- the VIFs that mean nothing
  pub refused : filter (λ v. not (is_some (vif_meaning v))) (range_with_len 0 256) ≡ 0x6F ∷ 0x7B ∷ 0x7C ∷ 0x7D ∷ 0x7E ∷ 0xEF ∷ 0xFC ∷ 0xFE ∷ []

-- shut, so that a caller's search is spared its parts
unfoldable pub TableStands : Type 0
TableStands = SoundTable
