-- Reading accepts what writing gives, and finds its parts; no two frames have the same bytes.
use Rattle.std.proofs.Common.{◌≡◌, ℕ, ◌+◌, ◌-◌, List, [], ◌∷◌, ◌++◌, length, get_or, take, drop, None, sym, refl, ap, ◌∙◌, arith}
use Rattle.std.specs.List.{between}
use Rattle.std.proofs.lemmas.List.{append_assoc, length-append, get_or_at, take_at}
use Rattle.std.proofs.lemmas.Bool.{le-leb, eq-eqb}
use Rattle.link.specs.Checks.{first_fault}
use Rattle.link.specs.Frames.{Parts, frame_refusal, ack, short, long, checksum, end_checks, frame_checks, with_sum, parts_in, written}
use Rattle.link.proofs.Lists.{between_at}
use Rattle.link.proofs.Passed.{Ended, Headed, headed_checks}

-- a front, and then summed bytes with their sum, end as a frame does
ends_well : (front body : List ℕ) (from size : ℕ) → length front ≡ from → length (front ++ body) + 2 ≡ size → Ended from size (front ++ with_sum body)
ends_well front body from size h l =
    let s : ℕ = checksum body in
    let n : length (front ++ body) ≡ size - 2 = omega arith in
    let m : length (front ++ (body ++ s ∷ [])) ≡ size - 1 = omega (arith, length-append front body, length-append front (body ++ s ∷ []), length-append body (s ∷ [])) in
    let at_sum = get_or_at (front ++ body) s (0x16 ∷ []) 0 (size - 2) n in
    let at_stop = get_or_at (front ++ (body ++ s ∷ [])) 0x16 [] 0 (size - 1) m in
    record {
      size_is = omega (arith, length-append front body, length-append front (with_sum body), length-append body (s ∷ 0x16 ∷ []));
      stop_is = simp append_assoc at at_stop;
      sum_is = simp append_assoc at at_sum ∙ ap checksum (sym (between_at front body (s ∷ 0x16 ∷ []) from (size - 2) h n));
    }

passes : (from size : ℕ) (bs : List ℕ) → Ended from size bs → first_fault (end_checks from size bs) ≡ None
passes from size bs e =
    simp (le-leb size (length bs) (omega arith), le-leb (length bs) size (omega arith), eq-eqb (get_or bs (size - 1) 0) 0x16 e.stop_is, eq-eqb (get_or bs (size - 2) 0) (checksum (between from (size - 2) bs)) e.sum_is)

accepts_checked : (p : Parts) → first_fault (frame_checks (written p)) ≡ None
accepts_checked ack = refl
accepts_checked (short c a) = passes 1 5 (written (short c a)) (ends_well (0x10 ∷ []) (c ∷ a ∷ []) 1 5 refl refl)
accepts_checked (long c a i d) =
    let bs : List ℕ = written (long c a i d) in
    let l : length d + 3 ≡ get_or bs 1 0 = refl in
    let h : Headed bs = record { start_is = refl; least = omega arith; again = refl; fourth = refl } in
    let head : List ℕ = 0x68 ∷ (length d + 3) ∷ (length d + 3) ∷ 0x68 ∷ [] in
    simp (le-leb 1 (length bs) (omega arith))
    (headed_checks bs h (omega arith)
    ∙ passes 4 (length d + 3 + 6) bs (ends_well head (c ∷ a ∷ i ∷ d) 4 (length d + 3 + 6) refl (omega arith)))

-- the data of two long frames with the same bytes
same_data : (d e s t : List ℕ) → length d ≡ length e → d ++ s ≡ e ++ t → d ≡ e
same_data d e s t l h =
    sym (take_at d s (length d) refl) ∙ ap (take (length d)) h ∙ take_at e t (length d) (sym l)

pub apart : (p q : Parts) → written p ≡ written q → p ≡ q
apart ack ack h = refl
apart ack (short c a) h = absurd (omega (arith, ap (λ l. get_or l 0 0) h))
apart ack (long c a i d) h = absurd (omega (arith, ap (λ l. get_or l 0 0) h))
apart (short c a) ack h = absurd (omega (arith, ap (λ l. get_or l 0 0) h))
apart (short c a) (short c' a') h = cc
apart (short c a) (long c' a' i d) h = absurd (omega (arith, ap (λ l. get_or l 0 0) h))
apart (long c a i d) ack h = absurd (omega (arith, ap (λ l. get_or l 0 0) h))
apart (long c a i d) (short c' a') h = absurd (omega (arith, ap (λ l. get_or l 0 0) h))
apart (long c a i d) (long c' a' i' d') h =
    let l : length d ≡ length d' = omega (arith, ap (λ l. get_or l 1 0) h) in
    let k : d ≡ d' = same_data d d' (checksum (c ∷ a ∷ i ∷ d) ∷ 0x16 ∷ []) (checksum (c' ∷ a' ∷ i' ∷ d') ∷ 0x16 ∷ []) l (ap (drop 7) h) in
    cc

-- what was written is accepted
pub accepts : (p : Parts) → frame_refusal (written p) ≡ None
unfolding frame_refusal
accepts p = accepts_checked p

-- the parts stand where they were written
pub parts_back : (p : Parts) → parts_in (written p) ≡ p
parts_back ack = refl
parts_back (short c a) = refl
parts_back (long c a i d) =
    let n : ℕ = length d + 3 in
    let front : List ℕ = 0x68 ∷ n ∷ n ∷ 0x68 ∷ c ∷ a ∷ i ∷ [] in
    let rest : List ℕ = checksum (c ∷ a ∷ i ∷ d) ∷ 0x16 ∷ [] in
    let size : length (front ++ d) ≡ length (written (long c a i d)) - 2 = omega (arith, length-append d rest) in
    ap (long c a i) (between_at front d rest 7 (length (written (long c a i d)) - 2) refl size)
