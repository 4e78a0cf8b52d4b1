-- Requests, from bytes to what is understood and back.
use Rattle.std.proofs.Common.{◌≡◌, ℕ, true, false, cond, ◌&&◌, ◌||◌, eqb, ◌⊎◌, List, [], ◌∷◌, length, take, Some, None, Ok, Err, Option, Result, sym, ap, ◌∙◌, subst, ap₂, inl, inr, ⊎_elim, arith}
use Rattle.std.proofs.lemmas.Bool.{eq-eqb, cases_eq}
use Rattle.std.proofs.lemmas.Bool.Decides.{nat_tests}
use Rattle.std.specs.Option.{option_and_then}
use Rattle.std.specs.Result.{result_ok}
use Rattle.link.specs.declared.fault.FrameFault.{FrameFault}
use Rattle.link.specs.declared.frame.Frame.{Frame}
use Rattle.link.specs.Buffers.{filled}
use Rattle.link.specs.Frames.{Parts, ack, short, long, frame_of, parts, parts_read, written}
use Rattle.link.specs.Laws.{Reads}
use Rattle.link.proofs.Filling.{take_filled}
use Rattle.link.proofs.Judging.{frame_is}
use Rattle.telegram.specs.declared.pattern.Pattern.{Pattern}
use Rattle.telegram.specs.declared.request.Request.{Request}
use Rattle.telegram.specs.declared.request.Request.TheVariants.{Selection, Fetch, Release}
use Rattle.telegram.specs.Requests.{Asks, selects, fetches_1, fetches_0, releases, Understands, request_in, request_among, request_of}

-- the request of the frame that the bytes are
pub request_is : (bs : List ℕ) (p : Parts) → written p ≡ bs → request_of bs ≡ request_in p
unfolding request_of
request_is bs p h = ap request_among (frame_is bs p h)

selection_in : (c : ℕ) (p : Pattern) → (c ≡ 0x53) ⊎ (c ≡ 0x73) → length p.bytes ≡ 8 → request_in (long c 0xfd 0x52 p.bytes) ≡ Some (Selection p)
selection_in c p h l =
    let e : eqb (length p.bytes) 8 ≡ true = eq-eqb (length p.bytes) 8 l in
    let s : Option Request = Some (Selection p) in
    ⊎_elim
    (λ k. ap (λ x. cond ((eqb x 0x53 || eqb x 0x73) && eqb (length p.bytes) 8) s None) k ∙ ap (λ b. cond b s None) e)
    (λ k. ap (λ x. cond ((eqb x 0x53 || eqb x 0x73) && eqb (length p.bytes) 8) s None) k ∙ ap (λ b. cond b s None) e)
    h

-- what is asked is understood
pub asked : (bs : List ℕ) (q : Request) → Asks bs q → request_of bs ≡ Some q
asked bs q (selects c p h l e) = request_is bs (long c 0xfd 0x52 p.bytes) e ∙ selection_in c p h l
asked bs q (fetches_1 e) = request_is bs (short 0x7b 0xfd) e
asked bs q (fetches_0 e) = request_is bs (short 0x5b 0xfd) e
asked bs q (releases e) = request_is bs (short 0x40 0xfd) e

-- what a frame asks, as bytes
short_asks : (bs : List ℕ) (c a : ℕ) (q : Request) → written (short c a) ≡ bs → request_in (short c a) ≡ Some q → Asks bs q
short_asks bs c a q h e =
    ⊎_elim
    (λ (s : a ≡ 0xfd). ⊎_elim
    (λ (k : c ≡ 0x7b).
    let r : q ≡ Fetch true = grind (arith, nat_tests) in
    let b : 0x10 ∷ 0x7b ∷ 0xfd ∷ 0x78 ∷ 0x16 ∷ [] ≡ bs = sym (ap₂ (λ x y. written (short x y)) k s) ∙ h in
    let P : Request → Type 0 = Asks bs in
    subst P (sym r) (fetches_1 b))
    (λ (m : c ≡ 0x7b → ⊥). ⊎_elim
    (λ (k : c ≡ 0x5b).
    let r : q ≡ Fetch false = grind (arith, nat_tests) in
    let b : 0x10 ∷ 0x5b ∷ 0xfd ∷ 0x58 ∷ 0x16 ∷ [] ≡ bs = sym (ap₂ (λ x y. written (short x y)) k s) ∙ h in
    let P : Request → Type 0 = Asks bs in
    subst P (sym r) (fetches_0 b))
    (λ (n : c ≡ 0x5b → ⊥). ⊎_elim
    (λ (k : c ≡ 0x40).
    let r : q ≡ Release = grind (arith, nat_tests) in
    let b : 0x10 ∷ 0x40 ∷ 0xfd ∷ 0x3d ∷ 0x16 ∷ [] ≡ bs = sym (ap₂ (λ x y. written (short x y)) k s) ∙ h in
    let P : Request → Type 0 = Asks bs in
    subst P (sym r) (releases b))
    (λ (o : c ≡ 0x40 → ⊥). absurd (grind (arith, nat_tests)))
    (cases_eq c 0x40))
    (cases_eq c 0x5b))
    (cases_eq c 0x7b))
    (λ (s : a ≡ 0xfd → ⊥). absurd (grind (arith, nat_tests)))
    (cases_eq a 0xfd)

long_asks : (bs : List ℕ) (c a i : ℕ) (d : List ℕ) (q : Request) → written (long c a i d) ≡ bs → request_in (long c a i d) ≡ Some q → Asks bs q
long_asks bs c a i d q h e =
    let ca : a ≡ 0xfd = grind (arith, nat_tests) in
    let ci : i ≡ 0x52 = grind (arith, nat_tests) in
    let cl : length d ≡ 8 = grind (arith, nat_tests) in
    let cc' : (c ≡ 0x53) ⊎ (c ≡ 0x73) = ⊎_elim (λ k. inl k) (λ n. inr (grind (arith, nat_tests))) (cases_eq c 0x53) in
    let r : q ≡ Selection (record { bytes = d }) = grind (arith, nat_tests) in
    let b : written (long c 0xfd 0x52 d) ≡ bs = sym (ap₂ (λ x y. written (long c x y d)) ca ci) ∙ h in
    let P : Request → Type 0 = Asks bs in
    subst P (sym r) (selects c (record { bytes = d }) cc' cl b)

asks_in : (bs : List ℕ) (p : Parts) (q : Request) → written p ≡ bs → request_in p ≡ Some q → Asks bs q
asks_in bs ack q h e = let z : ◌≡◌ {A = ℕ} 0 1 = cc in absurd (omega arith)
asks_in bs (short c a) q h e = short_asks bs c a q h e
asks_in bs (long c a i d) q h e = long_asks bs c a i d q h e

-- no request is missed
none_asked : (bs : List ℕ) → request_of bs ≡ None → Understands bs None
none_asked bs h q k = let e = asked bs q k in let z : ◌≡◌ {A = ℕ} 0 1 = cc in omega arith

-- bytes that are a frame
pub understood : (bs : List ℕ) (p : Parts) (r : Option Request) → written p ≡ bs → r ≡ request_in p → (r ≡ request_of bs) × Understands bs r
understood bs p None h e = (e ∙ sym (request_is bs p h), none_asked bs (request_is bs p h ∙ sym e))
understood bs p (Some q) h e = (e ∙ sym (request_is bs p h), asks_in bs p q h (sym e))

-- bytes that are none
pub not_understood : (bs : List ℕ) → None ≡ frame_of bs → (None ≡ request_of bs) × Understands bs None
unfolding request_of
not_understood bs h = (ap request_among h, none_asked bs (sym (ap request_among h)))

-- what was read, if it is a frame
pub heard : (bs : List ℕ) (f : Result Frame FrameFault) (r : Option Request) → parts_read f ≡ frame_of bs → Reads bs (parts_read f) → r ≡ option_and_then (λ g. request_in (parts g)) (result_ok f) → (r ≡ request_of bs) × Understands bs r
heard bs (Ok f) r h k e = understood bs (parts f) r k.writes_back e
heard bs (Err t) r h k e =
    let P : Option Request → Type 0 = λ x. (x ≡ request_of bs) × Understands bs x in
    subst P (sym e) (not_understood bs h)

-- what was sent is understood
pub sent : (q : Request) (p : Parts) (n : ℕ) (buffer : List ℕ) → request_in p ≡ Some q → buffer ≡ filled (written p) → n ≡ length (written p) → request_of (take n buffer) ≡ Some q
sent q p n buffer i b l = request_is (take n buffer) p (sym (ap (take n) b ∙ take_filled (written p) n l)) ∙ i
