-- A text is read as a statement exactly where it spells it.
use Rattle.std.proofs.Common.{◌≡◌, ℕ, ◌<◌, true, false, not, ◌&&◌, eqb, ltb, List, [], ◌∷◌, ◌++◌, map, length, drop, Some, None, codes, Option, sym, refl, ap, ◌∙◌, subst, ⊎_elim, arith}
use Rattle.std.specs.List.{AllByRecursion, list_all}
use Rattle.std.specs.Option.{option_map}
use Rattle.std.specs.Str.{bytes_eq}
use Rattle.std.proofs.lemmas.Slice.Eq.{bytes_eq-Decides}
use Rattle.std.proofs.lemmas.List.{append-nil, drop_at}
use Rattle.std.proofs.lemmas.Bool.{and_from, and_left, and_parts, and_right, cases_Bool, cases_eq, cond_both, cond-false, cond-true, eq-eqb, eqb-false, eqb-true, lt-ltb, ne_eqb, or_from, true≢false}
use Rattle.std.proofs.lemmas.Option.{cond_some, none-some}
use Rattle.input.specs.Hex as hex
use Rattle.input.specs.Lines.{blank, skips}
use Rattle.input.proofs.Spelling.{spelled, spelling}
use Rattle.house.specs.declared.keyword.Keyword.{Keyword}
use Rattle.house.specs.declared.keyword.Keyword.TheVariants as keyword
use Rattle.house.specs.declared.number.Digit.TheVariants.{Decimal, Hexadecimal}
use Rattle.house.specs.Fields.{address_of, is_address, is_body, is_code, word_at}
use Rattle.house.specs.Lines.{Spells, Statement, nothing, area_line, meter_line, fault_line, retry_line, places_line, search_line, pick_line, fetch_line, release_line, Asked, searching, picking, fetching, releasing, skipped, area, meter, fault, retry, places, call, call_in, is_pick, pick_in, area_from, area_in, by_keyword, fault_in, is_meter, keyword_of, meter_in, meter_of, number_in, statement}
use Rattle.house.specs.Numbers.{decimal_value, has_digits, is_decimal}
use Rattle.house.specs.Words.{Fields, none, space, field, and_word, before, later_words, words}
use Rattle.house.proofs.Scanning.{all_words, rest_words, some_word}

-- a text is what stands before its first space, and the rest
joined : (cs : List ℕ) → cs ≡ before 0x20 cs ++ drop (length (before 0x20 cs)) cs
joined [] = refl
joined (c ∷ cs) =
    ⊎_elim
    (λ (q : c ≡ 0x20). let P : ℕ → Type 0 = λ x. x ∷ cs ≡ before 0x20 (x ∷ cs) ++ drop (length (before 0x20 (x ∷ cs))) (x ∷ cs) in subst P (sym q) refl)
    (λ n. ap (λ xs. c ∷ xs) (joined cs) ∙ ap (λ b. b ++ drop (length b) (c ∷ cs)) (sym (cond-false (eqb c 0x20) [] (c ∷ before 0x20 cs) (ne_eqb c 0x20 n))))
    (cases_eq c 0x20)

unspaced : (cs : List ℕ) → AllByRecursion (λ c. c ≡ 0x20 → ⊥) (before 0x20 cs)
unspaced [] = tt
unspaced (c ∷ cs) =
    cond_both (eqb c 0x20) [] (c ∷ before 0x20 cs) (AllByRecursion (λ x. x ≡ 0x20 → ⊥)) (λ _. tt) (λ e. (eqb-false c 0x20 e, unspaced cs))

-- the words behind the first are fields
one_field : (w cs rest : List ℕ) (ws : List (List ℕ)) → AllByRecursion (λ c. c ≡ 0x20 → ⊥) w → cs ≡ w ++ rest → Fields rest ws → Fields (0x20 ∷ cs) (and_word w ws)
one_field [] cs rest ws a e f =
    let P : List ℕ → Type 0 = λ x. Fields (0x20 ∷ x) ws in
    subst P (sym e) (space f)
one_field (c ∷ w) cs rest ws a e f =
    let P : List ℕ → Type 0 = λ x. Fields (0x20 ∷ x) ((c ∷ w) ∷ ws) in
    subst P (sym e) (field (record { some = omega arith; whole = a }) f)

later_fields : (cs : List ℕ) → Fields (drop (length (before 0x20 cs)) cs) (later_words cs)
later_fields [] = none
later_fields (c ∷ cs) =
    ⊎_elim
    (λ (q : c ≡ 0x20).
    let P : ℕ → Type 0 = λ x. Fields (drop (length (before 0x20 (x ∷ cs))) (x ∷ cs)) (later_words (x ∷ cs)) in
    subst P (sym q) (one_field (before 0x20 cs) cs (drop (length (before 0x20 cs)) cs) (later_words cs) (unspaced cs) (joined cs) (later_fields cs)))
    (λ n.
    let e = ne_eqb c 0x20 n in
    let P : List ℕ → Type 0 = λ b. Fields (drop (length b) (c ∷ cs)) (later_words (c ∷ cs)) in
    let Q : List (List ℕ) → Type 0 = λ ws. Fields (drop (length (before 0x20 cs)) cs) ws in
    subst P (sym (cond-false (eqb c 0x20) [] (c ∷ before 0x20 cs) e)) (subst Q (sym (cond-false (eqb c 0x20) (and_word (before 0x20 cs) (later_words cs)) (later_words cs) e)) (later_fields cs)))
    (cases_eq c 0x20)

fields_behind : (cs : List ℕ) → Fields (drop (length (before 0x20 cs)) cs) (words (drop (length (before 0x20 cs)) cs))
fields_behind cs =
    let P : List (List ℕ) → Type 0 = Fields (drop (length (before 0x20 cs)) cs) in
    subst P (sym (rest_words cs)) (later_fields cs)

-- and fields are words
before_word : (w cs : List ℕ) → AllByRecursion (λ c. c ≡ 0x20 → ⊥) w → before 0x20 (w ++ cs) ≡ w ++ before 0x20 cs
before_word [] cs a = refl
before_word (c ∷ w) cs a =
    cond-false (eqb c 0x20) [] (c ∷ before 0x20 (w ++ cs)) (ne_eqb c 0x20 a.0) ∙ ap (λ xs. c ∷ xs) (before_word w cs a.1)

later_word : (w cs : List ℕ) → AllByRecursion (λ c. c ≡ 0x20 → ⊥) w → later_words (w ++ cs) ≡ later_words cs
later_word [] cs a = refl
later_word (c ∷ w) cs a =
    cond-false (eqb c 0x20) (and_word (before 0x20 (w ++ cs)) (later_words (w ++ cs))) (later_words (w ++ cs)) (ne_eqb c 0x20 a.0) ∙ later_word w cs a.1

at_space : {cs : List ℕ} {ws : List (List ℕ)} → Fields cs ws → before 0x20 cs ≡ []
at_space none = refl
at_space (space f) = refl
at_space (field w f) = refl

field_words : {cs : List ℕ} {ws : List (List ℕ)} → Fields cs ws → words cs ≡ ws
field_words none = refl
field_words (space f) = field_words f
field_words (field {w} {cs} {ws} word f) =
    let b : before 0x20 (w ++ cs) ≡ w = before_word w cs word.whole ∙ ap (λ xs. w ++ xs) (at_space f) ∙ append-nil w in
    let l : later_words (w ++ cs) ≡ ws = later_word w cs word.whole ∙ sym (ap (λ v. and_word v (later_words cs)) (at_space f)) ∙ field_words f in
    ap (λ v. and_word v (later_words (w ++ cs))) b ∙ ap (and_word w) l ∙ some_word w ws word.some

-- the names of the keywords
abbrev Named : List ℕ → Option Keyword → Type 0
Named w (Some keyword.Area) = w ≡ codes "area"
Named w (Some keyword.Meter) = w ≡ codes "meter"
Named w (Some keyword.Fault) = w ≡ codes "fault"
Named w (Some keyword.Retry) = w ≡ codes "retry"
Named w (Some keyword.Places) = w ≡ codes "places"
Named w (Some keyword.Search) = w ≡ codes "s"
Named w (Some keyword.Pick) = w ≡ codes "p"
Named w (Some keyword.Fetch) = w ≡ codes "f"
Named w (Some keyword.Release) = w ≡ codes "r"
Named w None = Unit {0}

named : (w : List ℕ) → Named w (keyword_of w)
named w =
    cond_both (bytes_eq w (codes "area")) _ _ (Named w) (λ e. (bytes_eq-Decides w (codes "area")).0 e)
    (λ _. cond_both (bytes_eq w (codes "meter")) _ _ (Named w) (λ e. (bytes_eq-Decides w (codes "meter")).0 e)
    (λ _. cond_both (bytes_eq w (codes "fault")) _ _ (Named w) (λ e. (bytes_eq-Decides w (codes "fault")).0 e)
    (λ _. cond_both (bytes_eq w (codes "retry")) _ _ (Named w) (λ e. (bytes_eq-Decides w (codes "retry")).0 e)
    (λ _. cond_both (bytes_eq w (codes "places")) _ _ (Named w) (λ e. (bytes_eq-Decides w (codes "places")).0 e)
    (λ _. cond_both (bytes_eq w (codes "s")) _ _ (Named w) (λ e. (bytes_eq-Decides w (codes "s")).0 e)
    (λ _. cond_both (bytes_eq w (codes "p")) _ _ (Named w) (λ e. (bytes_eq-Decides w (codes "p")).0 e)
    (λ _. cond_both (bytes_eq w (codes "f")) _ _ (Named w) (λ e. (bytes_eq-Decides w (codes "f")).0 e)
    (λ _. cond_both (bytes_eq w (codes "r")) _ _ (Named w) (λ e. (bytes_eq-Decides w (codes "r")).0 e) (λ _. tt)))))))))

-- what follows a keyword spells what is read from it
never : {X : Type 0} → false ≡ true → X
never e = absurd (true≢false (sym e))

area_said : (cs : List ℕ) (s : Statement) (o : Option (List ℕ)) → hex.bytes_from (0x20 ∷ cs) None ≡ o → area_from o ≡ Some s → Spells (codes "area" ++ 0x20 ∷ cs) s
area_said cs s None e h = absurd (none-some s h)
area_said cs s (Some []) e h = absurd (none-some s h)
area_said cs s (Some (b ∷ bs)) e h =
    let k : area (b ∷ bs) ≡ s = cc in
    subst (Spells (codes "area" ++ 0x20 ∷ cs)) k (area_line (spelled (0x20 ∷ cs) (b ∷ bs) e) (omega arith))

sound_area : {cs : List ℕ} {ws : List (List ℕ)} (s : Statement) → Fields cs ws → area_in cs ≡ Some s → Spells (codes "area" ++ cs) s
unfolding area_in
sound_area s none h = absurd (none-some s h)
sound_area s (space {cs} f) h = area_said cs s (hex.bytes_from (0x20 ∷ cs) None) refl h
sound_area s (field {w} {cs} word f) h = area_said (w ++ cs) s (hex.bytes_from (0x20 ∷ w ++ cs) None) refl h

sound_meter : (cs : List ℕ) (ws : List (List ℕ)) (s : Statement) → Fields cs ws → is_meter ws ≡ true → meter (meter_of ws) ≡ s → Spells (codes "meter" ++ cs) s
sound_meter cs ws s f t e =
    let a = and_parts (is_address (word_at ws 0) (word_at ws 1) (word_at ws 2) (word_at ws 3)) _ t in
    let b = and_parts (has_digits Hexadecimal 2 (word_at ws 4)) _ a.1 in
    meter_words ws f a.0 b.0 b.1 e
  where
    meter_words : (vs : List (List ℕ)) → Fields cs vs → is_address (word_at vs 0) (word_at vs 1) (word_at vs 2) (word_at vs 3) ≡ true → has_digits Hexadecimal 2 (word_at vs 4) ≡ true → list_all is_body (drop 5 vs) ≡ true → meter (meter_of vs) ≡ s → Spells (codes "meter" ++ cs) s
    meter_words [] f a b d e = never b
    meter_words (n ∷ []) f a b d e = never b
    meter_words (n ∷ m ∷ []) f a b d e = never b
    meter_words (n ∷ m ∷ v ∷ []) f a b d e = never b
    meter_words (n ∷ m ∷ v ∷ x ∷ []) f a b d e = never b
    meter_words (n ∷ m ∷ v ∷ x ∷ p ∷ bs) f a b d e = subst (Spells (codes "meter" ++ cs)) e (meter_line f a b d)

sound_fault : (cs : List ℕ) (ws : List (List ℕ)) (s : Statement) → Fields cs ws → fault_in ws ≡ Some s → Spells (codes "fault" ++ cs) s
unfolding fault_in
sound_fault cs [] s f h = absurd (none-some s h)
sound_fault cs (w ∷ ws) s f h =
    let t = cond_some (ltb 0 (length (w ∷ ws)) && list_all is_code (w ∷ ws)) (fault (map decimal_value (w ∷ ws))) s h in
    subst (Spells (codes "fault" ++ cs)) t.1 (fault_line f (and_parts (ltb 0 (length (w ∷ ws))) _ t.0).1)

-- one number
pub record Alone (most : ℕ) (ws : List (List ℕ)) (n : ℕ) : Type 0 where
  pub word : List ℕ
  pub only : ws ≡ word ∷ []
  pub number : is_decimal most word ≡ true
  pub value : decimal_value word ≡ n

alone : (most : ℕ) (ws : List (List ℕ)) (n : ℕ) → AllByRecursion (λ w. 0 < length w) ws → eqb (length (word_at ws 1)) 0 ≡ true → is_decimal most (word_at ws 0) ≡ true → decimal_value (word_at ws 0) ≡ n → Alone most ws n
alone most [] n a e t v = never t
alone most (w ∷ []) n a e t v = record { word = w; only = refl; number = t; value = v }
alone most (w ∷ x ∷ ws) n a e t v = absurd (omega (arith, a.1.0, eqb-true (length x) 0 e))

sound_number : (most : ℕ) (ws : List (List ℕ)) (n : ℕ) → AllByRecursion (λ w. 0 < length w) ws → number_in most ws ≡ Some n → Alone most ws n
unfolding number_in
sound_number most ws n a h =
    let t = cond_some (eqb (length (word_at ws 1)) 0 && is_decimal most (word_at ws 0)) (decimal_value (word_at ws 0)) n h in
    let p = and_parts (eqb (length (word_at ws 1)) 0) _ t.0 in
    alone most ws n a p.0 p.1 t.1

with_alone : (f : ℕ → Statement) (most : ℕ) (ws : List (List ℕ)) (s : Statement) (o : Option ℕ) → number_in most ws ≡ o → AllByRecursion (λ w. 0 < length w) ws → option_map f o ≡ Some s → (n : ℕ) × (Alone most ws n × (f n ≡ s))
with_alone f most ws s None e a h = absurd (none-some s h)
with_alone f most ws s (Some n) e a h = (n, (sound_number most ws n a e, cc))

-- a call
sound_call : (a : Asked) (cs : List ℕ) (ws : List (List ℕ)) (s : Statement) → Fields cs ws → AllByRecursion (λ w. 0 < length w) ws → call_in a ws ≡ Some s → Fields cs [] × (call a ≡ s)
unfolding call_in
sound_call a cs [] s f n h = (f, (cond_some true (call a) s h).1)
sound_call a cs (w ∷ ws) s f n h =
    let t = cond_some (eqb (length w) 0) (call a) s h in
    absurd (omega (arith, n.0, eqb-true (length w) 0 t.0))

pick_words : (cs : List ℕ) (ws : List (List ℕ)) (s : Statement) → Fields cs ws → AllByRecursion (λ w. 0 < length w) ws → is_address (word_at ws 0) (word_at ws 1) (word_at ws 2) (word_at ws 3) ≡ true → has_digits Hexadecimal 2 (word_at ws 3) ≡ true → eqb (length (word_at ws 4)) 0 ≡ true → call (picking (address_of (word_at ws 0) (word_at ws 1) (word_at ws 2) (word_at ws 3))) ≡ s → Spells (codes "p" ++ cs) s
pick_words cs [] s f n a b d e = never b
pick_words cs (x ∷ []) s f n a b d e = never b
pick_words cs (x ∷ m ∷ []) s f n a b d e = never b
pick_words cs (x ∷ m ∷ v ∷ []) s f n a b d e = never b
pick_words cs (x ∷ m ∷ v ∷ y ∷ []) s f n a b d e = subst (Spells (codes "p" ++ cs)) e (pick_line f a)
pick_words cs (x ∷ m ∷ v ∷ y ∷ z ∷ ws) s f n a b d e = absurd (omega (arith, n.1.1.1.1.0, eqb-true (length z) 0 d))

sound_pick : (cs : List ℕ) (ws : List (List ℕ)) (s : Statement) → Fields cs ws → AllByRecursion (λ w. 0 < length w) ws → pick_in ws ≡ Some s → Spells (codes "p" ++ cs) s
unfolding pick_in
sound_pick cs ws s f n h =
    let t = cond_some (is_pick ws) (call (picking (address_of (word_at ws 0) (word_at ws 1) (word_at ws 2) (word_at ws 3)))) s h in
    let p = and_parts (is_address (word_at ws 0) (word_at ws 1) (word_at ws 2) (word_at ws 3)) _ t.0 in
    let q = and_parts (has_digits Decimal 8 (word_at ws 0)) _ p.0 in
    let r = and_parts (has_digits Hexadecimal 4 (word_at ws 1)) _ q.1 in
    let v = and_parts (has_digits Hexadecimal 2 (word_at ws 2)) _ r.1 in
    pick_words cs ws s f n p.0 v.1 p.1 t.1

sound_by : (k : Option Keyword) (w rest : List ℕ) (s : Statement) → Named w k → Fields rest (words rest) → by_keyword k rest ≡ Some s → Spells (w ++ rest) s
unfolding meter_in
sound_by (Some keyword.Area) w rest s e f h = subst (λ x. Spells (x ++ rest) s) (sym e) (sound_area s f h)
sound_by (Some keyword.Meter) w rest s e f h =
    let t = cond_some (is_meter (words rest)) (meter (meter_of (words rest))) s h in
    subst (λ x. Spells (x ++ rest) s) (sym e) (sound_meter rest (words rest) s f t.0 t.1)
sound_by (Some keyword.Fault) w rest s e f h = subst (λ x. Spells (x ++ rest) s) (sym e) (sound_fault rest (words rest) s f h)
sound_by (Some keyword.Retry) w rest s e f h =
    let t = with_alone retry 255 (words rest) s (number_in 255 (words rest)) refl (all_words rest) h in
    let a = t.1.0 in
    let g : Fields rest (a.word ∷ []) = subst (Fields rest) a.only f in
    let l : Spells (codes "retry" ++ rest) (retry (decimal_value a.word)) = retry_line g a.number in
    subst (λ x. Spells (x ++ rest) s) (sym e) (subst (Spells (codes "retry" ++ rest)) (ap retry a.value ∙ t.1.1) l)
sound_by (Some keyword.Places) w rest s e f h =
    let t = with_alone places 250 (words rest) s (number_in 250 (words rest)) refl (all_words rest) h in
    let a = t.1.0 in
    let g : Fields rest (a.word ∷ []) = subst (Fields rest) a.only f in
    let l : Spells (codes "places" ++ rest) (places (decimal_value a.word)) = places_line g a.number in
    subst (λ x. Spells (x ++ rest) s) (sym e) (subst (Spells (codes "places" ++ rest)) (ap places a.value ∙ t.1.1) l)
sound_by (Some keyword.Search) w rest s e f h =
    let t = sound_call searching rest (words rest) s f (all_words rest) h in
    subst (λ x. Spells (x ++ rest) s) (sym e) (subst (Spells (codes "s" ++ rest)) t.1 (search_line t.0))
sound_by (Some keyword.Pick) w rest s e f h = subst (λ x. Spells (x ++ rest) s) (sym e) (sound_pick rest (words rest) s f (all_words rest) h)
sound_by (Some keyword.Fetch) w rest s e f h =
    let t = sound_call fetching rest (words rest) s f (all_words rest) h in
    subst (λ x. Spells (x ++ rest) s) (sym e) (subst (Spells (codes "f" ++ rest)) t.1 (fetch_line t.0))
sound_by (Some keyword.Release) w rest s e f h =
    let t = sound_call releasing rest (words rest) s f (all_words rest) h in
    subst (λ x. Spells (x ++ rest) s) (sym e) (subst (Spells (codes "r" ++ rest)) t.1 (release_line t.0))
sound_by None w rest s e f h = absurd (none-some s h)

pub sound : (cs : List ℕ) (s : Statement) → statement cs ≡ Some s → Spells cs s
unfolding statement
sound cs s h =
    let w = before 0x20 cs in
    let rest = drop (length w) cs in
    ⊎_elim
    (λ (t : skips cs ≡ true). let k : Some skipped ≡ Some s = sym (cond-true (skips cs) (Some skipped) _ t) ∙ h in
    let q : skipped ≡ s = cc in subst (Spells cs) q (nothing t))
    (λ (t : skips cs ≡ false). let k : by_keyword (keyword_of w) rest ≡ Some s = sym (cond-false (skips cs) (Some skipped) _ t) ∙ h in
    subst (λ x. Spells x s) (sym (joined cs)) (sound_by (keyword_of w) w rest s (named w) (fields_behind cs) k))
    (cases_Bool (skips cs))

-- a keyword and what follows it, by the keyword's bytes
plain : (w : List ℕ) → list_all (λ c. not (eqb c 0x20)) w ≡ true → AllByRecursion (λ c. c ≡ 0x20 → ⊥) w
plain [] e = tt
plain (c ∷ w) e =
    let p = and_parts (not (eqb c 0x20)) _ e in
    ((λ q. true≢false (sym p.0 ∙ ap not (eq-eqb c 0x20 q))), plain w p.1)

by_name : (c : ℕ) (w rest : List ℕ) (k : Option Keyword) → eqb c 0x23 ≡ false → eqb c 0x20 ≡ false → list_all (λ x. not (eqb x 0x20)) (c ∷ w) ≡ true → keyword_of (c ∷ w) ≡ k → before 0x20 rest ≡ [] → statement (c ∷ w ++ rest) ≡ by_keyword k rest
unfolding statement
by_name c w rest k no_comment no_space p e b =
    let front : before 0x20 (c ∷ w ++ rest) ≡ c ∷ w = before_word (c ∷ w) rest (plain (c ∷ w) p) ∙ ap (λ xs. (c ∷ w) ++ xs) b ∙ append-nil (c ∷ w) in
    let kept : skips (c ∷ w ++ rest) ≡ false = or_from _ _ (and_right (ltb 0 (length (c ∷ w ++ rest))) _ no_comment) (and_left (eqb c 0x20) (blank (w ++ rest)) no_space) in
    cond-false (skips (c ∷ w ++ rest)) _ _ kept
    ∙ ap (λ v. by_keyword (keyword_of v) (drop (length v) (c ∷ w ++ rest))) front
    ∙ ap (λ x. by_keyword x (drop (length (c ∷ w)) (c ∷ w ++ rest))) e
    ∙ ap (by_keyword k) (drop_at (c ∷ w) rest (length (c ∷ w)) refl)

area_some : (bs : List ℕ) → 0 < length bs → area_from (Some bs) ≡ Some (area bs)
area_some [] h = absurd (omega arith)
area_some (b ∷ bs) h = refl

one_number : (most : ℕ) (w : List ℕ) → is_decimal most w ≡ true → number_in most (w ∷ []) ≡ Some (decimal_value w)
unfolding number_in
one_number most w t = cond-true (is_decimal most w) _ _ t

pub complete : {cs : List ℕ} {s : Statement} → Spells cs s → statement cs ≡ Some s
unfolding statement meter_in fault_in area_in call_in pick_in
complete (nothing t) = cond-true _ _ _ t
complete (area_line {cs} {bytes} b h) =
    by_name 0x61 (0x72 ∷ 0x65 ∷ 0x61 ∷ []) (0x20 ∷ cs) (Some keyword.Area) refl refl refl refl refl ∙ ap area_from (spelling b) ∙ area_some bytes h
complete (meter_line {cs} f a p b) =
    by_name 0x6d (0x65 ∷ 0x74 ∷ 0x65 ∷ 0x72 ∷ []) cs (Some keyword.Meter) refl refl refl refl (at_space f) ∙ ap meter_in (field_words f)
    ∙ cond-true _ _ _ (and_from _ _ a (and_from _ _ p b))
complete (fault_line {cs} {w} {ws} f c) =
    by_name 0x66 (0x61 ∷ 0x75 ∷ 0x6c ∷ 0x74 ∷ []) cs (Some keyword.Fault) refl refl refl refl (at_space f) ∙ ap fault_in (field_words f)
    ∙ cond-true _ _ _ (and_from _ _ (lt-ltb 0 (length (w ∷ ws)) (omega arith)) c)
complete (retry_line {cs} {w} f t) =
    by_name 0x72 (0x65 ∷ 0x74 ∷ 0x72 ∷ 0x79 ∷ []) cs (Some keyword.Retry) refl refl refl refl (at_space f)
    ∙ ap (λ ws. option_map retry (number_in 255 ws)) (field_words f) ∙ ap (option_map retry) (one_number 255 w t)
complete (places_line {cs} {w} f t) =
    by_name 0x70 (0x6c ∷ 0x61 ∷ 0x63 ∷ 0x65 ∷ 0x73 ∷ []) cs (Some keyword.Places) refl refl refl refl (at_space f)
    ∙ ap (λ ws. option_map places (number_in 250 ws)) (field_words f) ∙ ap (option_map places) (one_number 250 w t)
complete (search_line {cs} f) = by_name 0x73 [] cs (Some keyword.Search) refl refl refl refl (at_space f) ∙ ap (call_in searching) (field_words f)
complete (pick_line {cs} f a) =
    by_name 0x70 [] cs (Some keyword.Pick) refl refl refl refl (at_space f) ∙ ap pick_in (field_words f) ∙ cond-true _ _ _ (and_from _ _ a refl)
complete (fetch_line {cs} f) = by_name 0x66 [] cs (Some keyword.Fetch) refl refl refl refl (at_space f) ∙ ap (call_in fetching) (field_words f)
complete (release_line {cs} f) = by_name 0x72 [] cs (Some keyword.Release) refl refl refl refl (at_space f) ∙ ap (call_in releasing) (field_words f)
