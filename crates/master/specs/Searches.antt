-- What a search sends, and what it lists.
use Rattle.std.specs.Prelude.{◌≡◌, ℕ, suc, Bool, true, false, List, [], ◌∷◌, ◌++◌, length, Some, None, count_by, Option}
use Rattle.telegram.specs.declared.request.Request.{Request}
use Rattle.telegram.specs.declared.request.Request.TheVariants.{Selection, Fetch, Release}
use Rattle.telegram.specs.Requests.{request_of}
use Rattle.line.specs.Exchanges.{State, Chain}
use Rattle.search.specs.Verdicts.{Verdict, Entry, followers, found}
use Rattle.master.specs.Requests.{release}
use Rattle.master.specs.Probes.{Probe}

-- The walk over the beginnings of numbers of D digits: what it sent, the beginnings still to probe, what it found, and the
-- number of its probes. The first beginning is the empty one; after several, with under D digits, the ten longer ones
-- come before the rest.
pub data Walk (D : ℕ) : List (List ℕ × List ℕ) → List (List ℕ) → List (Entry (List ℕ)) → ℕ → Type 0 where
  start : Walk D [] ([] ∷ []) [] 0
  probe : {events : List (List ℕ × List ℕ)} {p : List ℕ} {rest : List (List ℕ)} {es : List (Entry (List ℕ))} {n : ℕ} → Walk D events (p ∷ rest) es n → {more : List (List ℕ × List ℕ)} {v : Verdict (List ℕ)} → Probe p more v → Walk D (events ++ more) (followers D p v ++ rest) (es ++ found D p v) (suc n)

-- a walk ends where no beginning is left, or with an entry that finds no place
pub data Ends (D places : ℕ) (events : List (List ℕ × List ℕ)) (listed : List (Entry (List ℕ))) (n : ℕ) : Bool → Type 0 where
  whole : Walk D events [] listed n → Ends D places events listed n false
  full : {rest : List (List ℕ)} (e : Entry (List ℕ)) → Walk D events rest (listed ++ e ∷ []) n → length listed ≡ places → Ends D places events listed n true

pub record Walked (D : ℕ) (s : State) (places : ℕ) (listed : List (Entry (List ℕ))) (n : ℕ) (full : Bool) (s' : State) : Type 0 where
  pub events : List (List ℕ × List ℕ)
  pub chain : Chain s events s'
  pub ends : Ends D places events listed n full

-- the bytes select some meters
abbrev pub asks_selection : Option Request → Bool
asks_selection None = false
asks_selection (Some (Selection p)) = true
asks_selection (Some (Fetch bit)) = false
asks_selection (Some Release) = false

abbrev pub selections_in : List (List ℕ × List ℕ) → ℕ
selections_in events = count_by (λ e. asks_selection (request_of e.0)) events

-- The chain of exchanges by which a search leads from one state to another: the walk, and last, always, the release.
-- The number told is that of the selections in the chain.
pub record Searched (D : ℕ) (s : State) (places : ℕ) (listed : List (Entry (List ℕ))) (selections : ℕ) (full : Bool) (s' : State) : Type 0 where
  pub events : List (List ℕ × List ℕ)
  pub reply : List ℕ
  pub chain : Chain s (events ++ (release, reply) ∷ []) s'
  pub ends : Ends D places events listed selections full
  pub counted : selections ≡ selections_in (events ++ (release, reply) ∷ [])
