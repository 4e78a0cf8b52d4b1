-- What a probe of a beginning sends, and what it tells.
use Rattle.std.specs.Prelude.{ℕ, ◌≤◌, true, cond, List, [], ◌∷◌, length}
use Rattle.telegram.specs.Patterns.{beginning_pattern}
use Rattle.telegram.specs.Replies.{is_reply}
use Rattle.line.specs.Meters.{address_in}
use Rattle.line.specs.Exchanges.{State, Chain}
use Rattle.search.specs.Verdicts.{Verdict, nobody, one, several}
use Rattle.master.specs.Requests.{selection, fetch}

-- a reply telegram means one meter, all else several
abbrev pub told : List ℕ → Verdict (List ℕ)
told reply = cond (is_reply reply) (one (address_in reply)) several

-- requests with their replies: the selection of the beginning p, and after any reply a fetch with bit 1
pub data Probe (p : List ℕ) : List (List ℕ × List ℕ) → Verdict (List ℕ) → Type 0 where
  silent : Probe p ((selection (beginning_pattern p), []) ∷ []) nobody
  answered : (r₁ r₂ : List ℕ) → 1 ≤ length r₁ → Probe p ((selection (beginning_pattern p), r₁) ∷ (fetch true, r₂) ∷ []) (told r₂)

pub record Probed (s : State) (p : List ℕ) (v : Verdict (List ℕ)) (s' : State) : Type 0 where
  pub events : List (List ℕ × List ℕ)
  pub chain : Chain s events s'
  pub probe : Probe p events v
