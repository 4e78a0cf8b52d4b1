-- A text spells exactly the bytes that are read from it.
use Rattle.std.proofs.Common.{◌≡◌, ℕ, ◌+◌, ◌*◌, false, cond, eqb, List, [], ◌∷◌, is_some, Some, None, Option, sym, refl, ap, ◌∙◌, subst, ⊎_elim}
use Rattle.std.proofs.lemmas.Bool.{cases_eq, ne_eqb, true≢false}
use Rattle.std.proofs.lemmas.Option.{none-some}
use Rattle.input.specs.Hex.{Spells, nothing, space, pair, after_step, and_byte, bytes_from, hex_value, is_hex}
use Rattle.input.specs.declared.hex.Step.TheVariants.{Open}

-- the bytes of a text are spelled
abbrev Reads : List ℕ → Type 0
Reads cs = (bs : List ℕ) → bytes_from cs None ≡ Some bs → Spells cs bs

-- and so are those of a text after a high digit
abbrev ReadsOn : List ℕ → Type 0
ReadsOn cs = (c d : ℕ) (bs : List ℕ) → hex_value c ≡ Some d → bytes_from cs (Some d) ≡ Some bs → Spells (c ∷ cs) bs

-- the first character of a text, by its value
first_spelled : (e : ℕ) (cs : List ℕ) (v : Option ℕ) → hex_value e ≡ v → Reads cs → ReadsOn cs → Reads (e ∷ cs)
first_spelled e cs None q r s bs h =
    let k : after_step (cond (eqb e 0x20) (Some (Open None)) None) (λ x. bytes_from cs x) ≡ Some bs = simp q at h in
    ⊎_elim
    (λ (b : e ≡ 0x20).
    let P : ℕ → Type 0 = λ x. Spells (x ∷ cs) bs in
    subst P (sym b) (space (r bs (rw b at k))))
    (λ n. absurd (none-some bs (rw (ne_eqb e 0x20 n) at k)))
    (cases_eq e 0x20)
first_spelled e cs (Some d) q r s bs h = s e d bs q (simp q at h)

with_byte : (c e x y : ℕ) (cs bs : List ℕ) (o : Option (List ℕ)) → hex_value c ≡ Some x → hex_value e ≡ Some y → bytes_from cs None ≡ o → Reads cs → and_byte (x * 16 + y) o ≡ Some bs → Spells (c ∷ e ∷ cs) bs
with_byte c e x y cs bs None p q b r h = absurd (none-some bs h)
with_byte c e x y cs bs (Some rest) p q b r h =
    let k : bs ≡ (x * 16 + y) ∷ rest = cc in
    let P : List ℕ → Type 0 = Spells (c ∷ e ∷ cs) in
    subst P (sym k) (pair p q (r rest b))

second_spelled : (e : ℕ) (cs : List ℕ) (v : Option ℕ) → hex_value e ≡ v → Reads cs → ReadsOn (e ∷ cs)
second_spelled e cs None q r c d bs p h = absurd (none-some bs (simp q at h))
second_spelled e cs (Some y) q r c d bs p h = with_byte c e d y cs bs (bytes_from cs None) p q refl r (simp q at h)

spelled_both : (cs : List ℕ) → Reads cs × ReadsOn cs
spelled_both [] =
    (λ bs h. let k : bs ≡ [] = cc in let P : List ℕ → Type 0 = Spells [] in subst P (sym k) nothing, λ c d bs p h. absurd (none-some bs h))
spelled_both (e ∷ cs) =
    let r = spelled_both cs in
    (first_spelled e cs (hex_value e) refl r.0 r.1, second_spelled e cs (hex_value e) refl r.0)

pub spelled : (cs bs : List ℕ) → bytes_from cs None ≡ Some bs → Spells cs bs
spelled cs bs h = (spelled_both cs).0 bs h

no_digit : hex_value 0x20 ≡ None
unfolding hex_value
no_digit = refl

-- the other way
pub spelling : {cs bs : List ℕ} → Spells cs bs → bytes_from cs None ≡ Some bs
spelling nothing = refl
spelling (space s) = simp no_digit (spelling s)
spelling (pair p q s) = simp (p, q, spelling s)

no_bytes : (o : Option (List ℕ)) → false ≡ is_some o → o ≡ None
no_bytes None e = refl
no_bytes (Some bs) e = absurd (true≢false (sym e))

pub stray_value : (cs : List ℕ) → false ≡ is_hex cs → bytes_from cs None ≡ None
stray_value cs e = no_bytes (bytes_from cs None) e

pub stray : (cs : List ℕ) → false ≡ is_hex cs → (bs : List ℕ) → Spells cs bs → ⊥
stray cs e bs s = true≢false (sym (e ∙ ap is_some (spelling s)))
