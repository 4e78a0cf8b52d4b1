-- The words of a line, which spaces separate.
use Rattle.std.specs.Prelude.{ℕ, ◌<◌, cond, List, [], ◌∷◌, ◌++◌, length, ◌==◌, ◌≢◌}
use Rattle.std.specs.List.{AllByRecursion}

-- what stands before the first such byte, and what stands after it
abbrev pub before : ℕ → List ℕ → List ℕ
before end [] = []
before end (c ∷ cs) = cond (c == end) [] (c ∷ before end cs)

abbrev pub after : ℕ → List ℕ → List ℕ
after end [] = []
after end (c ∷ cs) = cond (c == end) cs (after end cs)

-- a word in front, unless it is empty
abbrev pub and_word : List ℕ → List (List ℕ) → List (List ℕ)
and_word [] ws = ws
and_word (c ∷ w) ws = (c ∷ w) ∷ ws

-- the words that stand after a space
abbrev pub later_words : List ℕ → List (List ℕ)
later_words [] = []
later_words (c ∷ cs) = cond (c == 0x20) (and_word (before 0x20 cs) (later_words cs)) (later_words cs)

-- all words of a text
abbrev pub words : List ℕ → List (List ℕ)
words cs = and_word (before 0x20 cs) (later_words cs)

-- a word has one byte or more, and none of them is a space
pub record Word (w : List ℕ) : Type 0 where
  pub some : 0 < length w
  pub whole : AllByRecursion (λ c. c ≢ 0x20) w

-- what follows the first word of a line: words, each after one space or more, and spaces at the end
pub data Fields : List ℕ → List (List ℕ) → Type 0 where
  none : Fields [] []
  space : {cs : List ℕ} {ws : List (List ℕ)} → Fields cs ws → Fields (0x20 ∷ cs) ws
  field : {w cs : List ℕ} {ws : List (List ℕ)} → Word w → Fields cs ws → Fields (0x20 ∷ w ++ cs) (w ∷ ws)
