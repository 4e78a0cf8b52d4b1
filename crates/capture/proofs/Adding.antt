-- One telegram more, in the rows and in the meters.
use Rattle.std.proofs.Common.{◌≡◌, ℕ, ◌+◌, ◌-◌, ◌<◌, ◌≤◌, List, [], ◌∷◌, ◌++◌, map, length, get_or, take, set, sym, refl, ap, ◌∙◌, subst, ap₂, arith}
use Rattle.std.proofs.Math.Seq.{map-set_same}
use Rattle.std.proofs.lemmas.List.{length-map, length_push, length-set, map_push, same_from_push, take_all, take_more, take_more_set}
use Rattle.telegram.specs.Addresses.{address_bytes}
use Rattle.capture.specs.declared.fault.Cause.{Cause}
use Rattle.capture.specs.declared.fault.Cause.TheVariants.{Size}
use Rattle.capture.specs.declared.row.Row.{Row}
use Rattle.capture.specs.Cutting.{telegram_from}
use Rattle.capture.specs.Recordings.{Crowded, Unlike}
use Rattle.capture.specs.Rows.{Added, Full, longer, meter_of, meters_of, places}

split_last : {X : Type 0} (xs : List X) (n : ℕ) (x : X) → n ≡ length xs → 0 < n → x ≡ get_or xs (n - 1) x → xs ≡ take (n - 1) xs ++ x ∷ []
split_last xs n x e h r =
    let k : n - 1 + 1 ≡ n = omega arith in
    sym (take_all n xs (omega arith)) ∙ ap (λ m. take m xs) (sym k) ∙ take_more xs (n - 1) x (omega arith) ∙ ap (λ y. take (n - 1) xs ++ y ∷ []) (sym r)

set_last : {X : Type 0} (xs : List X) (n : ℕ) (y : X) → n ≡ length xs → 0 < n → set xs (n - 1) y ≡ take (n - 1) xs ++ y ∷ []
set_last xs n y e h =
    let k : n - 1 + 1 ≡ n = omega arith in
    sym (take_all n (set xs (n - 1) y) (omega (arith, length-set xs (n - 1) y))) ∙ ap (λ m. take m (set xs (n - 1) y)) (sym k) ∙ take_more_set xs (n - 1) y (omega arith)

module _ (bytes : List ℕ) where
  meters_push : (rows : List Row) (r : Row) → meters_of bytes (rows ++ r ∷ []) ≡ meters_of bytes rows ++ meter_of bytes r ∷ []
  unfolding meters_of
  meters_push rows r = map_push (meter_of bytes) rows r

  pub length_meters : (rows : List Row) → length (meters_of bytes rows) ≡ length rows
  unfolding meters_of
  length_meters rows = length-map rows (meter_of bytes)

  pub meter_address : (r : Row) → (meter_of bytes r).address ≡ address_bytes r.address
  unfolding meter_of
  meter_address r = refl

  pub meter_count : (r : Row) → length (meter_of bytes r).telegrams ≡ length (places r)
  unfolding meter_of
  meter_count r = length-map (places r) (telegram_from bytes)

  meter_with : (r r' : Row) (start : ℕ) → r'.address ≡ r.address → places r' ≡ places r ++ start ∷ [] → meter_of bytes r' ≡ longer (meter_of bytes r) (telegram_from bytes start)
  unfolding meter_of
  meter_with r r' start a p =
      ap₂ (λ x y. record { address = address_bytes x; telegrams = y }) a (ap (map (telegram_from bytes)) p ∙ map_push (telegram_from bytes) (places r) start)

  meter_same : (r r' : Row) → r'.address ≡ r.address → r'.starts ≡ r.starts → meter_of bytes r' ≡ meter_of bytes r
  unfolding meter_of
  meter_same r r' a p =
      ap₂ (λ x y. record { address = address_bytes x; telegrams = map (telegram_from bytes) y.items }) a p

  meter_new : (r : Row) (a : List ℕ) (start : ℕ) → address_bytes r.address ≡ a → places r ≡ start ∷ [] → meter_of bytes r ≡ record { address = a; telegrams = telegram_from bytes start ∷ [] }
  unfolding meter_of
  meter_new r a start e p = ap₂ (λ x y. record { address = x; telegrams = y }) e (ap (map (telegram_from bytes)) p)

  module _ (rows : List Row) (a : List ℕ) where
    pub unlike_none : length rows ≡ 0 → Unlike (meters_of bytes rows) a
    unlike_none z front m e h = omega (arith, ap length e, length_push front m, length_meters rows)

    module _ (n : ℕ) (row : Row) (size : n ≡ length rows) (some : 0 < n) (is_last : row ≡ get_or rows (n - 1) row) where
      meters_split : meters_of bytes rows ≡ meters_of bytes (take (n - 1) rows) ++ meter_of bytes row ∷ []
      meters_split = ap (meters_of bytes) (split_last rows n row size some is_last) ∙ meters_push (take (n - 1) rows) row

      -- the last row, with one telegram more
      pub joins_row : (row' : Row) (start : ℕ) → address_bytes row.address ≡ a → row'.address ≡ row.address → places row' ≡ places row ++ start ∷ [] → Added (meters_of bytes rows) (telegram_from bytes start) a (meters_of bytes (set rows (n - 1) row'))
      joins_row row' start e a' p =
          Added.joins (meters_of bytes (take (n - 1) rows)) (meter_of bytes row) meters_split (meter_address row ∙ e) (omega (arith, meter_count row, row'.few, ap length p, length_push (places row) start))
          (ap (meters_of bytes) (set_last rows n row' size some) ∙ meters_push (take (n - 1) rows) row' ∙ ap (λ m. meters_of bytes (take (n - 1) rows) ++ m ∷ []) (meter_with row row' start a' p))

      pub full_row : (cause : Cause) → cause ≡ Size → address_bytes row.address ≡ a → length (places row) ≡ 16 → Full (meters_of bytes rows) a cause
      full_row cause k e h =
          subst (Full (meters_of bytes rows) a) (sym k) (Crowded.full_meter (meters_of bytes (take (n - 1) rows)) (meter_of bytes row) meters_split (meter_address row ∙ e) (meter_count row ∙ h))

      pub stays_row : (row' : Row) → row'.address ≡ row.address → row'.starts ≡ row.starts → meters_of bytes (set rows (n - 1) row') ≡ meters_of bytes rows
      unfolding meters_of
      stays_row row' a' p =
          map-set_same (meter_of bytes) rows (n - 1) row' row (meter_same row row' a' p ∙ ap (meter_of bytes) is_last)

      pub unlike_last : (address_bytes row.address ≡ a → ⊥) → Unlike (meters_of bytes rows) a
      unlike_last ne front m e h =
          let same = same_from_push front (meters_of bytes (take (n - 1) rows)) m (meter_of bytes row) (sym e ∙ meters_split) in
          ne (sym (meter_address row) ∙ sym (ap (λ x. x.address) same.1) ∙ h)

    module _ (u : Unlike (meters_of bytes rows) a) where
      pub full_rows : (cause : Cause) → cause ≡ Size → 250 ≤ length rows → Full (meters_of bytes rows) a cause
      full_rows cause k h =
          subst (Full (meters_of bytes rows) a) (sym k) (Crowded.full_line u (omega (arith, length_meters rows)))

      pub begins_row : (row : Row) (start : ℕ) → length rows < 250 → address_bytes row.address ≡ a → places row ≡ start ∷ [] → Added (meters_of bytes rows) (telegram_from bytes start) a (meters_of bytes (rows ++ row ∷ []))
      begins_row row start h e p =
          Added.begins u (omega (arith, length_meters rows)) (meters_push rows row ∙ ap (λ m. meters_of bytes rows ++ m ∷ []) (meter_new row a start e p))

-- rows whose last one, if there is one, has another address
pub record Unjoined (a : List ℕ) (rows rows' : List Row) : Type 0 where
  pub same : rows' ≡ rows
  pub unlike : (bytes : List ℕ) → Unlike (meters_of bytes rows) a
