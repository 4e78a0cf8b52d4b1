-- What a line holds, given without its line feed.
use Rattle.std.specs.Prelude.{◌≡◌, ℕ, ◌-◌, ◌≤◌, Bool, true, false, cond, ◌&&◌, ◌||◌, List, [], length, take, drop, Ok, Err, Result, ◌==◌, nat_lt, slice_index}
use Rattle.std.specs.List.{list_all}
use Rattle.input.specs.declared.line.Line.{Line}
use Rattle.input.specs.declared.line.Line.TheVariants.{Skipped, Telegram}
use Rattle.input.specs.declared.line.Unreadable.{Unreadable}
use Rattle.input.specs.Hex.{Spells}

-- the length without one carriage return at the end
abbrev pub content_size : List ℕ → ℕ
content_size line = cond (nat_lt 0 (length line) && slice_index line (length line - 1) == 0x0d) (length line - 1) (length line)

abbrev pub content : List ℕ → List ℕ
content line = take (content_size line) line

-- nothing but spaces
abbrev pub blank : List ℕ → Bool
blank cs = list_all (λ c. c == 0x20) cs

-- a comment begins with #
abbrev pub skips : List ℕ → Bool
skips cs = (nat_lt 0 (length cs) && slice_index cs 0 == 0x23) || blank cs

-- the minus sign alone
abbrev pub dash : List ℕ → Bool
dash cs = length cs == 1 && slice_index cs 0 == 0x2d

-- a telegram: the minus sign alone stands for no bytes, else the bytes are spelled
pub data TelegramIn (cs bs : List ℕ) : Type 0 where
  none : dash cs ≡ true → bs ≡ [] → TelegramIn cs bs
  pairs : Spells cs bs → TelegramIn cs bs

-- a skipped line; a telegram whose bytes stand at the front of the line after, the rest as before; or neither
pub record AsSkipped (line after : List ℕ) : Type 0 where
  pub skipped : skips (content line) ≡ true
  pub same : after ≡ line

pub record AsTelegram (line : List ℕ) (size : ℕ) (after : List ℕ) : Type 0 where
  pub kept : skips (content line) ≡ false
  pub telegram : TelegramIn (content line) (take size after)
  pub within : size ≤ length line
  pub rest : drop size after ≡ drop size line

pub record AsUnreadable (line after : List ℕ) : Type 0 where
  pub kept : skips (content line) ≡ false
  pub no_telegram : (bs : List ℕ) → TelegramIn (content line) bs → ⊥
  pub same : after ≡ line

abbrev pub ReadAs : List ℕ → Result Line Unreadable → List ℕ → Type 0
ReadAs line (Ok Skipped) after = AsSkipped line after
ReadAs line (Ok (Telegram size)) after = AsTelegram line size after
ReadAs line (Err u) after = AsUnreadable line after
