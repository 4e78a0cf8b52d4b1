-- What a line of a test house says.
use Rattle.std.specs.Prelude.{◌≡◌, ℕ, ◌<◌, Bool, true, cond, ◌&&◌, List, [], ◌∷◌, ◌++◌, map, length, drop, Some, None, vec_items, codes, Option, ◌==◌, nat_lt}
use Rattle.std.specs.List.{list_all}
use Rattle.std.specs.Option.{option_map}
use Rattle.std.specs.Str.{bytes_eq}
use Rattle.telegram.specs.Addresses.{address_bytes}
use Rattle.input.specs.Hex as hex
use Rattle.input.specs.Lines.{skips}
use Rattle.bench.specs.declared.row.Body.{Body}
use Rattle.bench.specs.declared.row.Row.{Row}
use Rattle.round.specs.declared.call.Call.{Call}
use Rattle.round.specs.declared.call.Call.TheVariants as called
use Rattle.house.specs.declared.house_line.HouseLine.{HouseLine}
use Rattle.house.specs.declared.house_line.HouseLine.TheVariants.{Skipped, Area, Meter, Fault, Retry, Places}
use Rattle.house.specs.declared.house_line.HouseLine.TheVariants as said_as
use Rattle.house.specs.declared.keyword.Keyword.{Keyword}
use Rattle.house.specs.declared.keyword.Keyword.TheVariants as keyword
use Rattle.house.specs.declared.number.Digit.TheVariants.{Hexadecimal}
use Rattle.house.specs.Fields.{address_of, body_of, is_address, is_body, is_code, word_at}
use Rattle.house.specs.Numbers.{decimal_value, has_digits, is_decimal, pair_at}
use Rattle.house.specs.Words.{Fields, before, words}

-- a meter as a line lists it: its address's bytes, the byte A and the bodies of its telegrams
pub record Listed : Type 0 where
  pub address : List ℕ
  pub primary : ℕ
  pub bodies : List Body

-- a call on the master; a pick has the address's bytes
pub data Asked : Type 0 where
  searching : Asked
  picking : (address : List ℕ) → Asked
  fetching : Asked
  releasing : Asked

abbrev pub asked : Call → Asked
asked called.Search = searching
asked (called.Pick address) = picking (address_bytes address)
asked called.Fetch = fetching
asked called.Release = releasing

-- what a line can say
pub data Statement : Type 0 where
  skipped : Statement
  area : (bytes : List ℕ) → Statement
  meter : (listed : Listed) → Statement
  fault : (codes : List ℕ) → Statement
  retry : (limit : ℕ) → Statement
  places : (count : ℕ) → Statement
  call : (asked : Asked) → Statement

abbrev pub listed : Row → Listed
listed r = record { address = address_bytes r.address; primary = r.primary; bodies = vec_items r.bodies }

abbrev pub said : HouseLine → Statement
said Skipped = skipped
said (Area bytes) = area (vec_items bytes)
said (Meter row) = meter (listed row)
said (Fault codes) = fault (vec_items codes)
said (Retry limit) = retry limit
said (Places count) = places count
said (said_as.Call c) = call (asked c)

-- how many bytes or codes it adds
abbrev pub added : Statement → ℕ
added skipped = 0
added (area bytes) = length bytes
added (meter m) = 0
added (fault codes) = length codes
added (retry limit) = 0
added (places count) = 0
added (call c) = 0

-- a text, without its line's end, spells a statement
pub data Spells : List ℕ → Statement → Type 0 where
  nothing : {cs : List ℕ} → skips cs ≡ true → Spells cs skipped
  area_line : {cs bytes : List ℕ} → hex.Spells (0x20 ∷ cs) bytes → 0 < length bytes → Spells (codes "area" ++ 0x20 ∷ cs) (area bytes)
  meter_line : {cs number maker version medium primary : List ℕ} {bodies : List (List ℕ)} → Fields cs (number ∷ maker ∷ version ∷ medium ∷ primary ∷ bodies) → is_address number maker version medium ≡ true → has_digits Hexadecimal 2 primary ≡ true → list_all is_body bodies ≡ true → Spells (codes "meter" ++ cs) (meter (record { address = address_of number maker version medium; primary = pair_at primary 0; bodies = map body_of bodies }))
  fault_line : {cs : List ℕ} {w : List ℕ} {ws : List (List ℕ)} → Fields cs (w ∷ ws) → list_all is_code (w ∷ ws) ≡ true → Spells (codes "fault" ++ cs) (fault (map decimal_value (w ∷ ws)))
  retry_line : {cs w : List ℕ} → Fields cs (w ∷ []) → is_decimal 255 w ≡ true → Spells (codes "retry" ++ cs) (retry (decimal_value w))
  places_line : {cs w : List ℕ} → Fields cs (w ∷ []) → is_decimal 250 w ≡ true → Spells (codes "places" ++ cs) (places (decimal_value w))
  search_line : {cs : List ℕ} → Fields cs [] → Spells (codes "s" ++ cs) (call searching)
  pick_line : {cs number maker version medium : List ℕ} → Fields cs (number ∷ maker ∷ version ∷ medium ∷ []) → is_address number maker version medium ≡ true → Spells (codes "p" ++ cs) (call (picking (address_of number maker version medium)))
  fetch_line : {cs : List ℕ} → Fields cs [] → Spells (codes "f" ++ cs) (call fetching)
  release_line : {cs : List ℕ} → Fields cs [] → Spells (codes "r" ++ cs) (call releasing)

-- The same as a function, by the first word and by the words behind it.
abbrev pub keyword_of : List ℕ → Option Keyword
keyword_of w =
    cond (bytes_eq w (codes "area")) (Some keyword.Area)
    (cond (bytes_eq w (codes "meter")) (Some keyword.Meter)
    (cond (bytes_eq w (codes "fault")) (Some keyword.Fault)
    (cond (bytes_eq w (codes "retry")) (Some keyword.Retry)
    (cond (bytes_eq w (codes "places")) (Some keyword.Places)
    (cond (bytes_eq w (codes "s")) (Some keyword.Search)
    (cond (bytes_eq w (codes "p")) (Some keyword.Pick)
    (cond (bytes_eq w (codes "f")) (Some keyword.Fetch)
    (cond (bytes_eq w (codes "r")) (Some keyword.Release) None))))))))

abbrev pub area_from : Option (List ℕ) → Option Statement
area_from None = None
area_from (Some []) = None
area_from (Some (b ∷ bs)) = Some (area (b ∷ bs))

unfoldable pub area_in : List ℕ → Option Statement
area_in rest = area_from (hex.bytes_from rest None)

abbrev pub is_meter : List (List ℕ) → Bool
is_meter ws =
    is_address (word_at ws 0) (word_at ws 1) (word_at ws 2) (word_at ws 3)
    && (has_digits Hexadecimal 2 (word_at ws 4) && list_all is_body (drop 5 ws))

abbrev pub meter_of : List (List ℕ) → Listed
meter_of ws =
    record {
      address = address_of (word_at ws 0) (word_at ws 1) (word_at ws 2) (word_at ws 3);
      primary = pair_at (word_at ws 4) 0;
      bodies = map body_of (drop 5 ws);
    }

unfoldable pub meter_in : List (List ℕ) → Option Statement
meter_in ws = cond (is_meter ws) (Some (meter (meter_of ws))) None

unfoldable pub fault_in : List (List ℕ) → Option Statement
fault_in ws = cond (nat_lt 0 (length ws) && list_all is_code ws) (Some (fault (map decimal_value ws))) None

-- one number, and no second word
unfoldable pub number_in : ℕ → List (List ℕ) → Option ℕ
number_in most ws =
    cond (length (word_at ws 1) == 0 && is_decimal most (word_at ws 0)) (Some (decimal_value (word_at ws 0))) None

-- a call without words
unfoldable pub call_in : Asked → List (List ℕ) → Option Statement
call_in a ws = cond (length (word_at ws 0) == 0) (Some (call a)) None

abbrev pub is_pick : List (List ℕ) → Bool
is_pick ws =
    is_address (word_at ws 0) (word_at ws 1) (word_at ws 2) (word_at ws 3) && length (word_at ws 4) == 0

unfoldable pub pick_in : List (List ℕ) → Option Statement
pick_in ws =
    cond (is_pick ws) (Some (call (picking (address_of (word_at ws 0) (word_at ws 1) (word_at ws 2) (word_at ws 3))))) None

abbrev pub by_keyword : Option Keyword → List ℕ → Option Statement
by_keyword (Some keyword.Area) rest = area_in rest
by_keyword (Some keyword.Meter) rest = meter_in (words rest)
by_keyword (Some keyword.Fault) rest = fault_in (words rest)
by_keyword (Some keyword.Retry) rest = option_map retry (number_in 255 (words rest))
by_keyword (Some keyword.Places) rest = option_map places (number_in 250 (words rest))
by_keyword (Some keyword.Search) rest = call_in searching (words rest)
by_keyword (Some keyword.Pick) rest = pick_in (words rest)
by_keyword (Some keyword.Fetch) rest = call_in fetching (words rest)
by_keyword (Some keyword.Release) rest = call_in releasing (words rest)
by_keyword None rest = None

unfoldable pub statement : List ℕ → Option Statement
statement cs =
    cond (skips cs) (Some skipped)
    (by_keyword (keyword_of (before 0x20 cs)) (drop (length (before 0x20 cs)) cs))
