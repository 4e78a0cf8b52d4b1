-- The rows of a capture, and the meters in them.
use Rattle.std.proofs.Common.{◌≡◌, ℕ, ◌<◌, List, [], length, get_or, sym, ap, ◌∙◌, arith}
use Rattle.std.specs.List.{AllByRecursion}
use Rattle.std.proofs.ByRecursion.{All-get_or}
use Rattle.std.proofs.lemmas.List.{get_or-map}
use Rattle.line.specs.Meters.{Carries, Stocked}
use Rattle.bus.specs.Tables.{meter_at, telegram_at}
use Rattle.capture.specs.declared.row.Row.{Row}
use Rattle.capture.specs.Cutting.{telegram_from}
use Rattle.capture.specs.Rows.{meter_of, meters_of, places}
use Rattle.capture.proofs.Adding.{length_meters, meter_count}
use Rattle.capture.proofs.Carrying.{reply_length}
use Rattle.capture.proofs.Cuts.{length_telegram}

-- the element at a place, as a lookup finds it
abbrev pub Stands : {X : Type 0} → List X → ℕ → X → Type 0
Stands {X} xs i x = (i < length xs) × ((d : X) → x ≡ get_or xs i d)

module _ (bytes : List ℕ) (rows : List Row) (i : ℕ) where
  module _ (r : Row) (h : Stands rows i r) where
    pub meter_is : meter_at (meters_of bytes rows) i ≡ meter_of bytes r
    unfolding meters_of
    meter_is = get_or-map (meter_of bytes) rows i r _ h.0 ∙ ap (meter_of bytes) (sym (h.1 r))

    module _ (place start : ℕ) (k : Stands (places r) place start) where
      of_meter : get_or (meter_of bytes r).telegrams place [] ≡ telegram_from bytes start
      unfolding meter_of
      of_meter = get_or-map (telegram_from bytes) (places r) place 0 [] k.0 ∙ ap (telegram_from bytes) (sym (k.1 0))

      pub telegram_is : telegram_at (meters_of bytes rows) i place ≡ telegram_from bytes start
      telegram_is = ap (λ m. get_or m.telegrams place []) meter_is ∙ of_meter

      -- a reply telegram has some bytes
      pub telegram_starts : AllByRecursion Stocked (meters_of bytes rows) → start < length bytes
      telegram_starts s =
          let m = meter_at (meters_of bytes rows) i in
          let stocked = All-get_or Stocked (meters_of bytes rows) i _ (omega (arith, h.0, length_meters bytes rows)) s in
          let count : length m.telegrams ≡ length (places r) = ap (λ x. length x.telegrams) meter_is ∙ meter_count bytes r in
          let carries = All-get_or (Carries m.address) m.telegrams place [] (omega (arith, count, k.0)) stocked.carry in
          let size = reply_length (telegram_at (meters_of bytes rows) i place) carries.0 in
          omega (arith, size.0, ap length telegram_is, length_telegram bytes start)
