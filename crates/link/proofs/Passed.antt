-- What bytes that pass the checks look like.
use Rattle.std.proofs.Common.{◌≡◌, ℕ, ◌+◌, ◌-◌, ◌≤◌, List, [], ◌∷◌, ◌++◌, length, get_or, take, drop, None, sym, ap, ◌∙◌, arith}
use Rattle.std.specs.List.{between}
use Rattle.std.proofs.lemmas.List.Edits.{split_between, length-between}
use Rattle.std.proofs.lemmas.List.{take_all, length-drop}
use Rattle.std.proofs.lemmas.Bool.{le-leb, eq-eqb}
use Rattle.std.proofs.lemmas.Bool.Decides.{nat_tests}
use Rattle.link.specs.Checks.{first_fault}
use Rattle.link.proofs.Lists.{spelled, between_first}
use Rattle.link.specs.Frames.{checksum, end_checks, long_checks, with_sum, long, written}

-- a frame of `size` bytes that passes the checks at its end
pub record Ended (from size : ℕ) (bs : List ℕ) : Type 0 where
  pub size_is : length bs ≡ size
  pub stop_is : get_or bs (size - 1) 0 ≡ 0x16
  pub sum_is : get_or bs (size - 2) 0 ≡ checksum (between from (size - 2) bs)

pub ended : (from size : ℕ) (bs : List ℕ) → first_fault (end_checks from size bs) ≡ None → Ended from size bs
ended from size bs h = record { size_is = grind (arith, nat_tests); stop_is = grind (arith, nat_tests); sum_is = grind (arith, nat_tests) }

-- the last two bytes
two_left : (n : ℕ) (bs : List ℕ) → length bs ≡ n + 2 → drop n bs ≡ get_or bs n 0 ∷ get_or bs (n + 1) 0 ∷ []
two_left n bs h =
    sym (take_all 2 (drop n bs) (omega (arith, length-drop n bs))) ∙ spelled bs n 2 (omega arith)

pub laid_out : (from n : ℕ) (bs : List ℕ) → from ≤ n → Ended from (n + 2) bs → bs ≡ take from bs ++ with_sum (between from n bs)
laid_out from n bs h e =
    let m : n + 2 - 2 ≡ n = omega arith in
    let k : n + 2 - 1 ≡ n + 1 = omega arith in
    let sum_is = rw m at e.sum_is in
    let stop_is = rw k at e.stop_is in
    split_between bs from n h
    ∙ ap (λ t. take from bs ++ (between from n bs ++ t)) (two_left n bs e.size_is ∙ (cc))

-- a frame by what stands before the summed bytes, and these
pub from_parts : (from n : ℕ) (bs front body : List ℕ) → from ≤ n → Ended from (n + 2) bs → take from bs ≡ front → between from n bs ≡ body → front ++ with_sum body ≡ bs
from_parts from n bs front body h e p q =
    sym (laid_out from n bs h e ∙ ap (λ x. x ++ with_sum (between from n bs)) p ∙ ap (λ y. front ++ with_sum y) q)

-- a long frame whose header stands
pub record Headed (bs : List ℕ) : Type 0 where
  pub start_is : get_or bs 0 0 ≡ 0x68
  pub least : 3 ≤ get_or bs 1 0
  pub again : get_or bs 2 0 ≡ get_or bs 1 0
  pub fourth : get_or bs 3 0 ≡ 0x68

pub headed_checks : (bs : List ℕ) → Headed bs → 4 ≤ length bs → first_fault (long_checks bs) ≡ first_fault (end_checks 4 (get_or bs 1 0 + 6) bs)
headed_checks bs h l =
    simp (le-leb 4 (length bs) l, le-leb 3 (get_or bs 1 0) h.least, eq-eqb (get_or bs 2 0) (get_or bs 1 0) h.again, eq-eqb (get_or bs 3 0) 0x68 h.fourth)

pub long_bytes : (bs : List ℕ) → Headed bs → Ended 4 (get_or bs 1 0 + 6) bs → written (long (get_or bs 4 0) (get_or bs 5 0) (get_or bs 6 0) (between 7 (get_or bs 1 0 + 6 - 2) bs)) ≡ bs
long_bytes bs h e =
    let d : List ℕ = between 7 (get_or bs 1 0 + 6 - 2) bs in
    let n : ℕ = get_or bs 1 0 + 4 in
    let r : get_or bs 1 0 + 6 ≡ n + 2 = omega arith in
    let e' = rw r at e in
    let q : get_or bs 1 0 + 6 - 2 ≡ n = omega arith in
    let x : d ≡ between 7 n bs = ap (λ k. between 7 k bs) q in
    let l : length bs ≡ n + 2 = e'.size_is in
    let k : 3 ≤ get_or bs 1 0 = h.least in
    let z : length d + 3 ≡ get_or bs 1 0 = omega (arith, ap length x, length-between bs 7 n (omega arith)) in
    let a : take 4 bs ≡ get_or bs 0 0 ∷ get_or bs 1 0 ∷ get_or bs 2 0 ∷ get_or bs 3 0 ∷ [] = spelled bs 0 4 (omega arith) in
    let b4 = between_first bs 4 n (omega arith) (omega arith) in
    let b5 = between_first bs 5 n (omega arith) (omega arith) in
    let b6 = between_first bs 6 n (omega arith) (omega arith) in
    from_parts 4 n bs (0x68 ∷ (length d + 3) ∷ (length d + 3) ∷ 0x68 ∷ []) (get_or bs 4 0 ∷ get_or bs 5 0 ∷ get_or bs 6 0 ∷ d)
    (omega arith) e' (cc) (cc)
