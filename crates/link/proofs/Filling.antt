-- A buffer that is filled part by part.
use Rattle.std.proofs.Common.{◌≡◌, ℕ, ◌+◌, ◌-◌, ◌≤◌, List, ◌++◌, length, take, drop, min, replicate, sym, ap, ◌∙◌, arith}
use Rattle.std.specs.List.{between}
use Rattle.std.proofs.lemmas.List.{append_assoc, take_all, take_at, take-append-drop, drop-replicate, length-append, length-replicate, length-take}
use Rattle.std.proofs.Math.Seq.{drop-append-add}
use Rattle.link.specs.Buffers.{filled}
use Rattle.link.proofs.Lists.{between_at}

-- bytes are put behind others whole where there is room for them
pub put_whole : (old bs xs : List ℕ) (at : ℕ) → at + length bs ≤ length old → xs ≡ take at old ++ take (length old - at) bs → xs ≡ take at old ++ bs
put_whole old bs xs at room h =
    h ∙ ap (λ ys. take at old ++ ys) (take_all (length old - at) bs (omega arith))

-- some bytes more, as many as there is room for
pub filled_more : (front bs old new : List ℕ) (at n : ℕ) → length front ≡ at → at ≤ 261 → old ≡ filled front → n ≡ min (length old) (at + length bs) → take n new ≡ take at old ++ take (length old - at) bs → drop n new ≡ drop n old → new ≡ filled (front ++ take (261 - at) bs)
unfolding filled
filled_more front bs old new at n h room e count front_is rest_is =
    let xs : List ℕ = take (261 - at) bs in
    let zeros : List ℕ = replicate (261 - length front) 0 in
    let all : length old ≡ 261 = omega (arith, ap length e, length-append front zeros, length-replicate {A = ℕ} (261 - length front) 0) in
    let size : length xs ≡ min (261 - at) (length bs) = length-take (261 - at) bs in
    let n_is : n ≡ length front + length xs = omega arith in
    let left : 261 - length front - length xs ≡ 261 - length (front ++ xs) = omega (arith, length-append front xs) in
    let written : take n new ≡ front ++ xs = front_is ∙ ap (λ k. take at old ++ take (k - at) bs) all ∙ ap (λ x. x ++ xs) (ap (take at) e ∙ take_at front zeros at h) in
    let zeros_left : drop n new ≡ replicate (261 - length (front ++ xs)) 0 =
    rest_is
    ∙ ap (λ k. drop k old) n_is
    ∙ ap (drop (length front + length xs)) e
    ∙ drop-append-add front zeros (length xs)
    ∙ drop-replicate (length xs) (261 - length front) 0
    ∙ ap (λ k. replicate k 0) left in
    sym (take-append-drop n new) ∙ ap (λ x. x ++ drop n new) written ∙ ap (λ y. (front ++ xs) ++ y) zeros_left

-- the same where there is room for all
pub filled_all : (front bs old new : List ℕ) (at n : ℕ) → length front ≡ at → at + length bs ≤ 261 → old ≡ filled front → n ≡ min (length old) (at + length bs) → take n new ≡ take at old ++ take (length old - at) bs → drop n new ≡ drop n old → new ≡ filled (front ++ bs)
filled_all front bs old new at n h room e count front_is rest_is =
    filled_more front bs old new at n h (omega arith) e count front_is rest_is
    ∙ ap (λ x. filled (front ++ x)) (take_all (261 - at) bs (omega arith))

-- the part of a buffer that was filled
pub between_filled : (front bs : List ℕ) (from n : ℕ) → length front ≡ from → length (front ++ bs) ≡ n → between from n (filled (front ++ bs)) ≡ bs
unfolding filled
between_filled front bs from n h l =
    let rest : List ℕ = replicate (261 - length (front ++ bs)) 0 in
    ap (between from n) (append_assoc front bs rest) ∙ between_at front bs rest from n h l

-- what a buffer was filled with
pub take_filled : (bs : List ℕ) (n : ℕ) → n ≡ length bs → take n (filled bs) ≡ bs
unfolding filled
take_filled bs n h = take_at bs (replicate (261 - length bs) 0) n (sym h)

-- a buffer is filled with no more bytes than it has
pub filled_few : (bs : List ℕ) → length (filled bs) ≡ 261 → length bs ≤ 261
unfolding filled
filled_few bs h = omega (arith, length-append bs (replicate (261 - length bs) 0), length-replicate {A = ℕ} (261 - length bs) 0)
