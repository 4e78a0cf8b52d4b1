-- A place for each number present is enough.
use Rattle.std.proofs.Common.{◌≡◌, ℕ, suc, ◌≤◌, List, [], ◌∷◌, length, sym, refl, ◌∙◌, subst, inl, inr, arith}
use Rattle.std.specs.List.{AllByRecursion}
use Rattle.std.proofs.lemmas.List.{length-map}
use Rattle.search.specs.Numbers.{◌≺◌, Rising}
use Rattle.search.specs.Counts.{◌∈◌}
use Rattle.search.specs.Verdicts.{number_of, numbers}
use Rattle.search.specs.Laws.{Present, PlacesEnough}
use Rattle.std.proofs.ByRecursion.{All-weaker}
use Rattle.search.proofs.Sound.{listed_truly}

≺_differs : (x y : List ℕ) → x ≺ y → x ≡ y → ⊥
≺_differs x y h e = go x (subst (λ (z : List ℕ). x ≺ z) (sym e) h)
  where
    go : (x : List ℕ) → x ≺ x → ⊥
    go [] h = h
    go (a ∷ x) h = elim h [ inl l ↦ omega arith | inr r ↦ go x r.1 ]

-- a list without one of its elements
drop_one : {X : Type 0} (x : X) (ks : List X) → x ∈ ks → (rest : List X) × ((length ks ≡ suc (length rest)) × ((y : X) → y ∈ ks → (x ≡ y → ⊥) → y ∈ rest))
drop_one x [] h = absurd h
drop_one {X} x (k ∷ ks) h = elim h [ inl e ↦ (ks, (refl, λ y i d. here e y i d)) | inr r ↦ there (drop_one x ks r) ]
  where
    here : k ≡ x → (y : X) → y ∈ (k ∷ ks) → (x ≡ y → ⊥) → y ∈ ks
    here e y i d = elim i [ inl q ↦ absurd (d (sym e ∙ q)) | inr r ↦ r ]

    there : (rest : List X) × ((length ks ≡ suc (length rest)) × ((y : X) → y ∈ ks → (x ≡ y → ⊥) → y ∈ rest)) → (rest : List X) × ((suc (length ks) ≡ suc (length rest)) × ((y : X) → y ∈ (k ∷ ks) → (x ≡ y → ⊥) → y ∈ rest))
    there r = (k ∷ r.0, (let e = r.1.0 in omega arith, λ y i d. elim i [ inl q ↦ inl q | inr j ↦ inr (r.1.1 y j d) ]))

-- numbers that rise are as many as the list that has them, at most
rising_fits : (xs ks : List (List ℕ)) → Rising xs → AllByRecursion (λ x. x ∈ ks) xs → length xs ≤ length ks
rising_fits [] ks r h = omega arith
rising_fits (x ∷ xs) ks r h =
    let d = drop_one x ks h.0 in
    let s = rising_fits xs d.0 r.1 (without xs r.0 h.1 d) in
    let e = d.1.0 in
    omega arith
  where
    without : (ys : List (List ℕ)) → AllByRecursion (λ y. x ≺ y) ys → AllByRecursion (λ y. y ∈ ks) ys → (d : (rest : List (List ℕ)) × ((length ks ≡ suc (length rest)) × ((y : List ℕ) → y ∈ ks → (x ≡ y → ⊥) → y ∈ rest))) → AllByRecursion (λ y. y ∈ d.0) ys
    without [] l i d = tt
    without (y ∷ ys) l i d = (d.1.1 y i.0 (≺_differs x y l.0), without ys l.1 i.1 d)

pub places_enough : (M : Type 0) → PlacesEnough M
places_enough M number ms D hs ks has ps es n r =
    let t = listed_truly M number ms D hs ps es n r in
    let c = All-weaker (Present number ms) (λ k. k ∈ ks) (λ k m. subst (λ (z : List ℕ). z ∈ ks) m.1.1 (has m.0 m.1.0)) (numbers number es) t.present in
    let f = rising_fits (numbers number es) ks t.rising c in
    let l = length-map es (number_of number) in
    omega arith
