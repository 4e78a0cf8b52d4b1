-- Bytes as hexadecimal pairs in a text of characters.
use Rattle.std.specs.Prelude.{◌≡◌, ℕ, ◌+◌, ◌-◌, ◌*◌, ◌<◌, ◌≤◌, Bool, cond, ◌&&◌, List, [], ◌∷◌, length, take, drop, is_some, IfSome, Some, None, Option, ◌==◌, nat_le}
use Rattle.input.specs.declared.hex.Step.{Step}
use Rattle.input.specs.declared.hex.Step.TheVariants.{Open, Byte}

abbrev pub in_range : ℕ → ℕ → ℕ → Bool
in_range first last c = nat_le first c && nat_le c last

-- the value of a digit's character: 0 to 9, A to F, a to f
unfoldable pub hex_value : ℕ → Option ℕ
hex_value c =
    cond (in_range 0x30 0x39 c) (Some (c - 0x30))
    (cond (in_range 0x41 0x46 c) (Some (c - 0x41 + 10))
    (cond (in_range 0x61 0x66 c) (Some (c - 0x61 + 10)) None))

-- a text spells bytes: pairs of digits, with spaces before, between and after them
pub data Spells : List ℕ → List ℕ → Type 0 where
  nothing : Spells [] []
  space : {cs bs : List ℕ} → Spells cs bs → Spells (0x20 ∷ cs) bs
  pair : {c d x y : ℕ} {cs bs : List ℕ} → hex_value c ≡ Some x → hex_value d ≡ Some y → Spells cs bs → Spells (c ∷ d ∷ cs) ((x * 16 + y) ∷ bs)

-- one character more, where the high digit of a pair may have been read already
abbrev pub by_digit : {X : Type 0} → Option ℕ → X → (ℕ → X) → X
by_digit None x f = x
by_digit (Some d) x f = f d

abbrev pub step_of : Option ℕ → ℕ → Option Step
step_of None c = by_digit (hex_value c) (cond (c == 0x20) (Some (Open None)) None) (λ d. Some (Open (Some d)))
step_of (Some h) c = by_digit (hex_value c) None (λ d. Some (Byte (h * 16 + d)))

-- a digit that was read is below 16
abbrev pub Small : Step → Type 0
Small (Open high) = IfSome high (λ d. d < 16)
Small (Byte b) = Unit {0}

abbrev pub and_byte : ℕ → Option (List ℕ) → Option (List ℕ)
and_byte b None = None
and_byte b (Some bs) = Some (b ∷ bs)

abbrev pub after_step : Option Step → (Option ℕ → Option (List ℕ)) → Option (List ℕ)
after_step (Some (Open high)) rest = rest high
after_step (Some (Byte b)) rest = and_byte b (rest None)
after_step None rest = None

-- the bytes that a text spells, if it spells any, from left to right
abbrev pub bytes_from : List ℕ → Option ℕ → Option (List ℕ)
bytes_from [] None = Some []
bytes_from [] (Some h) = None
bytes_from (c ∷ cs) high = after_step (step_of high c) (λ h. bytes_from cs h)

-- the text has nothing but pairs and spaces
abbrev pub is_hex : List ℕ → Bool
is_hex cs = is_some (bytes_from cs None)

-- a text whose bytes have taken its front, the rest as before; or a text that spells none, as it was
pub record AsBytes (text : List ℕ) (size : ℕ) (after : List ℕ) : Type 0 where
  pub spells : Spells text (take size after)
  pub value : bytes_from text None ≡ Some (take size after)
  pub within : size ≤ length text
  pub rest : drop size after ≡ drop size text

pub record AsStray (text after : List ℕ) : Type 0 where
  pub none : (bs : List ℕ) → Spells text bs → ⊥
  pub value : bytes_from text None ≡ None
  pub same : after ≡ text

abbrev pub Converts : List ℕ → Option ℕ → List ℕ → Type 0
Converts text None after = AsStray text after
Converts text (Some size) after = AsBytes text size after
