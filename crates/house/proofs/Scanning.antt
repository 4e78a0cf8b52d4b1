-- Looking for the ends of words.
use Rattle.std.proofs.Common.{◌≡◌, ℕ, ◌+◌, ◌<◌, ◌≤◌, Bool, true, false, cond, not, suc, eqb, List, [], ◌∷◌, length, get_or, take, drop, Some, None, Option, MatchOption, unwrap_or, ltb, sym, refl, ap, ◌∙◌, subst, ⊎_elim, arith}
use Rattle.std.proofs.lemmas.List.{drop-drop, get_or-drop, length-drop, length-take-le, nil_from_length}
use Rattle.std.proofs.lemmas.Bool.{cases_eq, cond_both, cond-false, eqb-false, eqb-true, ltb-false, ne_eqb}
use Rattle.std.specs.Bool.{then_some}
use Rattle.std.specs.List.{AllByRecursion, position, position_or_len}
use Rattle.std.proofs.lemmas.List.Sums.{prefix_len-le-length}
use Rattle.house.specs.Words.{after, before, later_words, and_word, words}

-- the place of the first that passes, or the length
by_place : (n size : ℕ) → n ≤ size → unwrap_or (cond (ltb n size) (Some n) None) size ≡ n
by_place n size h =
    cond_both (ltb n size) (Some n) None (λ o. unwrap_or o size ≡ n) (λ _. refl)
    (λ e. let l : size ≤ n = ltb-false n size e in omega arith)

pub place_or_len : (p : ℕ → Bool) (xs : List ℕ) (r : Option ℕ) (i : ℕ) → r ≡ position p xs → i ≡ unwrap_or r (length xs) → i ≡ position_or_len p xs
place_or_len p xs r i e u =
    u ∙ ap (λ o. unwrap_or o (length xs)) e ∙ by_place (position_or_len p xs) (length xs) (prefix_len-le-length (λ x. not (p x)) xs)

-- what stands before and after the first such byte, by its place
front_by : (b : Bool) (c n : ℕ) (cs : List ℕ) → take (cond (not b) (1 + n) 0) (c ∷ cs) ≡ cond b [] (c ∷ take n cs)
front_by true c n cs = refl
front_by false c n cs = let one : suc n ≡ 1 + n = omega arith in ap (λ m. take m (c ∷ cs)) (sym one)

pub front_is : (end : ℕ) (cs : List ℕ) → take (position_or_len (λ c. eqb c end) cs) cs ≡ before end cs
front_is end [] = refl
front_is end (c ∷ cs) =
    front_by (eqb c end) c (position_or_len (λ x. eqb x end) cs) cs ∙ ap (λ w. cond (eqb c end) [] (c ∷ w)) (front_is end cs)

back_by : (b : Bool) (c n : ℕ) (cs : List ℕ) → drop (cond (not b) (1 + n) 0 + 1) (c ∷ cs) ≡ cond b cs (drop (n + 1) cs)
back_by true c n cs = refl
back_by false c n cs = let one : suc (n + 1) ≡ 1 + n + 1 = omega arith in ap (λ m. drop m (c ∷ cs)) (sym one)

pub back_is : (end : ℕ) (cs : List ℕ) → drop (position_or_len (λ c. eqb c end) cs + 1) cs ≡ after end cs
back_is end [] = refl
back_is end (c ∷ cs) =
    back_by (eqb c end) c (position_or_len (λ x. eqb x end) cs) cs ∙ ap (cond (eqb c end) cs) (back_is end cs)

-- spaces in front are no part of a word
kept_by : (b : Bool) (c n : ℕ) (cs : List ℕ) → eqb c 0x20 ≡ b → words (drop n cs) ≡ words cs → words (drop (cond (not (not b)) (1 + n) 0) (c ∷ cs)) ≡ words (c ∷ cs)
kept_by true c n cs e h =
    let one : suc n ≡ 1 + n = omega arith in
    ap (λ m. words (drop m (c ∷ cs))) (sym one) ∙ h ∙ ap (λ x. words (x ∷ cs)) (sym (eqb-true c 0x20 e))
kept_by false c n cs e h = refl

pub kept : (cs : List ℕ) → words (drop (position_or_len (λ c. not (eqb c 0x20)) cs) cs) ≡ words cs
kept [] = refl
kept (c ∷ cs) = kept_by (eqb c 0x20) c (position_or_len (λ x. not (eqb x 0x20)) cs) cs refl (kept cs)

-- the words behind the first
pub rest_words : (cs : List ℕ) → words (drop (length (before 0x20 cs)) cs) ≡ later_words cs
rest_words [] = refl
rest_words (c ∷ cs) =
    ⊎_elim
    (λ (q : c ≡ 0x20).
    let P : ℕ → Type 0 = λ x. words (drop (length (before 0x20 (x ∷ cs))) (x ∷ cs)) ≡ later_words (x ∷ cs) in
    subst P (sym q) refl)
    (λ n. let e = ne_eqb c 0x20 n in
    ap (λ (b : List ℕ). words (drop (length b) (c ∷ cs))) (cond-false (eqb c 0x20) [] (c ∷ before 0x20 cs) e)
    ∙ rest_words cs
    ∙ sym (cond-false (eqb c 0x20) (and_word (before 0x20 cs) (later_words cs)) (later_words cs) e))
    (cases_eq c 0x20)

-- a word and what is left behind it
pub record Parted (cs front back : List ℕ) : Type 0 where
  pub word : front ≡ before 0x20 cs
  pub rest : words back ≡ later_words cs

pub parted : (cs front back : List ℕ) (n : ℕ) → n ≤ length cs → take n cs ≡ before 0x20 cs → front ≡ take n cs → back ≡ drop n cs → Parted cs front back
parted cs front back n h t f b =
    let size : n ≡ length (before 0x20 cs) = sym (length-take-le n cs h) ∙ ap length t in
    record { word = f ∙ t; rest = ap words (b ∙ ap (λ m. drop m cs) size) ∙ rest_words cs }

pub some_word : (w : List ℕ) (ws : List (List ℕ)) → 0 < length w → and_word w ws ≡ w ∷ ws
some_word [] ws h = absurd (omega arith)
some_word (c ∷ w) ws h = refl

module _ (text cs front back : List ℕ) (p : Parted cs front back) (same : words cs ≡ words text) where
  no_first : (before 0x20 cs ≡ [] → cs ≡ []) → length front ≡ 0 → words text ≡ []
  no_first word h = sym same ∙ ap words (word (sym p.word ∙ nil_from_length front h))

  first : 0 < length front → words text ≡ front ∷ words back
  first h =
      sym same ∙ ap (λ w. and_word w (later_words cs)) (sym p.word) ∙ some_word front (later_words cs) h ∙ ap (λ ws. front ∷ ws) (sym p.rest)

  pub split_by : {A : Type 0} (o : Option A) (v : A) (P : A → Type 0) (b : Bool) → o ≡ then_some (not b) v → b ≡ eqb (length front) 0 → (before 0x20 cs ≡ [] → cs ≡ []) → (words text ≡ front ∷ words back → P v) → MatchOption o (words text ≡ []) P
  split_by {A = A} o v P true e z word f =
      let Q : Option A → Type 0 = λ x. MatchOption x (words text ≡ []) P in
      subst Q (sym e) (no_first word (eqb-true (length front) 0 (sym z)))
  split_by {A = A} o v P false e z word f =
      let Q : Option A → Type 0 = λ x. MatchOption x (words text ≡ []) P in
      subst Q (sym e) (f (first (let n = eqb-false (length front) 0 (sym z) in omega arith)))

-- no word is empty
all_and_word : (w : List ℕ) (ws : List (List ℕ)) → AllByRecursion (λ v. 0 < length v) ws → AllByRecursion (λ v. 0 < length v) (and_word w ws)
all_and_word [] ws a = a
all_and_word (c ∷ w) ws a = (omega arith, a)

all_later : (cs : List ℕ) → AllByRecursion (λ v. 0 < length v) (later_words cs)
all_later [] = tt
all_later (c ∷ cs) =
    cond_both (eqb c 0x20) (and_word (before 0x20 cs) (later_words cs)) (later_words cs) (AllByRecursion (λ v. 0 < length v))
    (λ _. all_and_word (before 0x20 cs) (later_words cs) (all_later cs)) (λ _. all_later cs)

pub all_words : (cs : List ℕ) → AllByRecursion (λ v. 0 < length v) (words cs)
all_words cs = all_and_word (before 0x20 cs) (later_words cs) (all_later cs)

first_of : (ws : List (List ℕ)) → AllByRecursion (λ v. 0 < length v) ws → length (get_or ws 0 []) ≡ 0 → ws ≡ []
first_of [] a h = refl
first_of (w ∷ ws) a h = absurd (omega (arith, a.0))

pub no_words : (cs : List ℕ) → length (get_or (words cs) 0 []) ≡ 0 → words cs ≡ []
no_words cs = first_of (words cs) (all_words cs)

-- and there are no more words than bytes
few_and_word : (w : List ℕ) (ws : List (List ℕ)) → length (and_word w ws) ≤ length w + length ws
few_and_word [] ws = omega arith
few_and_word (c ∷ w) ws = omega arith

few_by : (b : Bool) (c : ℕ) (front cs : List ℕ) (more ws : List (List ℕ)) → length front + length ws ≤ length cs → length more ≤ length front + length ws → length (cond b [] (c ∷ front)) + length (cond b more ws) ≤ length (c ∷ cs)
few_by true c front cs more ws h k = omega arith
few_by false c front cs more ws h k = omega arith

few_both : (cs : List ℕ) → length (before 0x20 cs) + length (later_words cs) ≤ length cs
few_both [] = omega arith
few_both (c ∷ cs) =
    few_by (eqb c 0x20) c (before 0x20 cs) cs (and_word (before 0x20 cs) (later_words cs)) (later_words cs) (few_both cs) (few_and_word (before 0x20 cs) (later_words cs))

pub few_words : (cs : List ℕ) → length (words cs) ≤ length cs
few_words cs = omega (arith, few_and_word (before 0x20 cs) (later_words cs), few_both cs)

-- what stands behind four words
pub behind_four : (ws : List (List ℕ)) → (get_or ws 4 [] ≡ get_or (drop 4 ws) 0 []) × (drop 5 ws ≡ drop 1 (drop 4 ws))
behind_four ws = (sym (get_or-drop 4 ws 0 []), sym (drop-drop 1 4 ws))

pub few_behind : (cs : List ℕ) (left : List (List ℕ)) (w : List ℕ) (rest : List (List ℕ)) → left ≡ drop 4 (words cs) → left ≡ w ∷ rest → length rest ≤ length cs
few_behind cs left w rest d e =
    let l : length left ≡ suc (length rest) = ap length e in
    omega (arith, few_words cs, length-drop 4 (words cs), ap length d, l)
