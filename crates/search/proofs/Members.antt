-- What stands in a list.
use Rattle.std.proofs.Common.{◌≡◌, ℕ, zero, suc, ◌+◌, ◌<◌, ◌≤◌, Bool, true, false, cond, ◌⊎◌, List, [], ◌∷◌, ◌++◌, map, filter, sym, refl, ap, ◌∙◌, subst, inl, inr, arith}
use Rattle.std.specs.List.{range_with_len, flat_map, AllByRecursion}
use Rattle.std.proofs.lemmas.Bool.{false≢true, cases_order}
use Rattle.std.proofs.lemmas.List.{map-append}
use Rattle.search.specs.Counts.{◌∈◌}

pub in_left : {X : Type 0} (x : X) (xs ys : List X) → x ∈ xs → x ∈ (xs ++ ys)
in_left x [] ys h = absurd h
in_left x (y ∷ xs) ys h = elim h [ inl e ↦ inl e | inr r ↦ inr (in_left x xs ys r) ]

pub in_right : {X : Type 0} (x : X) (xs ys : List X) → x ∈ ys → x ∈ (xs ++ ys)
in_right x [] ys h = h
in_right x (y ∷ xs) ys h = inr (in_right x xs ys h)

pub in_all : {X : Type 0} (P : X → Type 0) (x : X) (xs : List X) → x ∈ xs → AllByRecursion P xs → P x
in_all P x [] h a = absurd h
in_all P x (y ∷ xs) h a = elim h [ inl e ↦ subst P e a.0 | inr r ↦ in_all P x xs r a.1 ]

pub in_kept : {X : Type 0} (t : X → Bool) (x : X) (xs : List X) → x ∈ xs → t x ≡ true → x ∈ filter t xs
in_kept t x [] h k = h
in_kept {X} t x (y ∷ xs) h k = go (t y) refl h (λ r. in_kept t x xs r k)
  where
    go : (b : Bool) → t y ≡ b → (y ≡ x) ⊎ (x ∈ xs) → (x ∈ xs → x ∈ filter t xs) → x ∈ cond b (y ∷ filter t xs) (filter t xs)
    go true e h r = elim h [ inl q ↦ inl q | inr i ↦ inr (r i) ]
    go false e h r = elim h [ inl q ↦ absurd (false≢true (sym e ∙ ap t q ∙ k)) | inr i ↦ r i ]

pub in_counting : (n a c : ℕ) → a ≤ c → c < a + n → c ∈ range_with_len a n
in_counting zero a c l h = absurd (omega arith)
in_counting (suc n) a c l h = elim (cases_order a c) [ inl e ↦ inl e | inr o ↦ inr (in_counting n (a + 1) c (elim o [ inl i ↦ omega arith | inr i ↦ omega arith ]) (omega arith)) ]

pub in_map_joined : {C X Y : Type 0} (g : X → Y) (f : C → List X) (y : Y) (c : C) (cs : List C) → c ∈ cs → y ∈ map g (f c) → y ∈ map g (flat_map f cs)
in_map_joined g f y c [] h i = absurd h
in_map_joined {C} {X} {Y} g f y c (b ∷ cs) h i =
    rw (map-append g (f b) (flat_map f cs)) (elim h [ inl e ↦ in_left y (map g (f b)) (map g (flat_map f cs)) (subst (λ (z : C). y ∈ map g (f z)) (sym e) i) | inr r ↦ in_right y (map g (f b)) (map g (flat_map f cs)) (in_map_joined g f y c cs r i) ])

pub in_kept_of : {X : Type 0} (t : X → Bool) (x : X) (xs : List X) → x ∈ filter t xs → x ∈ xs
in_kept_of t x [] h = h
in_kept_of {X} t x (y ∷ xs) h = go (t y) h (λ r. in_kept_of t x xs r)
  where
    go : (b : Bool) → x ∈ cond b (y ∷ filter t xs) (filter t xs) → (x ∈ filter t xs → x ∈ xs) → (y ≡ x) ⊎ (x ∈ xs)
    go true h r = elim h [ inl q ↦ inl q | inr i ↦ inr (r i) ]
    go false h r = inr (r h)
