-- From what a line says to what is added.
use Rattle.std.proofs.Common.{◌≡◌, ℕ, true, false, ◌≤◌, List, ◌∷◌, length, codes, length-append, length-take, Some, None, MatchOption, Option, is_some, sym, refl, ap, ◌∙◌, arith}
use Rattle.std.proofs.lemmas.List.{length-map}
use Rattle.std.proofs.lemmas.Option.{none-some}
use Rattle.input.specs.Lines.{content, content_size}
use Rattle.house.specs.Houses.{Parts, RefusesLine, TakesLine, takes}
use Rattle.house.specs.Lines.{Spells, nothing, area_line, meter_line, fault_line, retry_line, places_line, search_line, pick_line, fetch_line, release_line, Statement, added, statement}
use Rattle.house.specs.Numbers.{decimal_value}
use Rattle.house.specs.Words.{Fields, none, space, field}
use Rattle.input.specs.Hex as hex
use Rattle.house.specs.Memory.{TakesMore}
use Rattle.house.specs.Taking.{Accepts}
use Rattle.house.specs.declared.house.House.{House}
use Rattle.house.proofs.Stating.{complete, sound}

-- two statements of one text are the same
same : (a b : Statement) (o : Option Statement) → o ≡ Some a → o ≡ Some b → b ≡ a
same a b o p q = cc

-- a text that says nothing is refused
nothing_said : (p : Parts) (text : List ℕ) → None ≡ statement (content text) → RefusesLine p text p
nothing_said p text e =
    record {
      untaken = λ x sp. absurd (none-some x (e ∙ complete sp));
      parts = refl;
    }

pub unsaid_line : (p : Parts) (text : List ℕ) → None ≡ statement (content text) → {A : Type 0} (r : Option A) → r ≡ None → MatchOption r (RefusesLine p text p) (λ _. TakesLine p text p)
unsaid_line p text e None n = nothing_said p text e
unsaid_line p text e (Some x) n = absurd (none-some x (sym n))

module _ (p q : Parts) (text : List ℕ) (s : Statement) (e : Some s ≡ statement (content text)) where
  pub line_taken : Accepts p s true q → TakesLine p text q
  line_taken a =
      record {
        says = s;
        spelled = sound (content text) s (sym e);
        only = λ x sp. same s x (statement (content text)) (sym e) (complete sp);
        taken = sym a.answer;
        parts = a.parts;
      }

  pub line_refused : Accepts p s false q → RefusesLine p text q
  line_refused a =
      record {
        untaken = λ x sp. ap (takes p) (same s x (statement (content text)) (sym e) (complete sp)) ∙ sym a.answer;
        parts = a.parts;
      }

  -- what is said is taken or refused
  pub said_line : {A : Type 0} (r : Option A) → Accepts p s (is_some r) q → MatchOption r (RefusesLine p text q) (λ _. TakesLine p text q)
  said_line None a = line_refused a
  said_line (Some x) a = line_taken a

-- what a text says adds no more bytes or codes than the text has
few_bytes : {cs bs : List ℕ} → hex.Spells cs bs → length bs ≤ length cs
few_bytes hex.nothing = omega arith
few_bytes (hex.space s) = omega (arith, few_bytes s)
few_bytes (hex.pair p q s) = omega (arith, few_bytes s)

few_fields : {cs : List ℕ} {ws : List (List ℕ)} → Fields cs ws → length ws ≤ length cs
few_fields none = omega arith
few_fields (space f) = omega (arith, few_fields f)
few_fields (field {w} {cs} word f) = omega (arith, few_fields f, length-append w cs)

few_spelled : {cs : List ℕ} {s : Statement} → Spells cs s → added s ≤ length cs
few_spelled (nothing t) = omega arith
few_spelled (area_line {cs} b h) = omega (arith, few_bytes b, length-append (codes "area") (0x20 ∷ cs))
few_spelled (meter_line f a p b) = omega arith
few_spelled (fault_line {cs} {w} {ws} f c) =
    omega (arith, few_fields f, length-map (w ∷ ws) decimal_value, length-append (codes "fault") cs)
few_spelled (retry_line f t) = omega arith
few_spelled (places_line f t) = omega arith
few_spelled (search_line f) = omega arith
few_spelled (pick_line f a) = omega arith
few_spelled (fetch_line f) = omega arith
few_spelled (release_line f) = omega arith

pub few_said : (text : List ℕ) (s : Statement) → Some s ≡ statement (content text) → added s ≤ length text
few_said text s e =
    omega (arith, few_spelled (sound (content text) s (sym e)), length-take (content_size text) text)

pub takes_less : (h : House) (most size : ℕ) → size ≤ most → TakesMore h most → TakesMore h size
takes_less h most size l t =
    record { rows = t.rows; area = omega (arith, t.area); codes = omega (arith, t.codes); limits = t.limits; calls = t.calls }
