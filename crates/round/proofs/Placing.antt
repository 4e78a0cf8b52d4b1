-- Places of which a part is lent: what stands before the part, what fills its front, and what is left.
use Rattle.std.proofs.Common.{◌≡◌, ℕ, ◌+◌, ◌-◌, ◌≤◌, List, [], ◌++◌, length, take, drop, set, sym, refl, ap, ◌∙◌, ap₂, append_assoc, append-nil, arith, length-drop, length-take-le}
use Rattle.round.specs.declared.places.Places.{Places}
use Rattle.round.specs.Places.{Fills}
use borrow.Rule.Slice.PartMut.{put_mid}
use Rattle.std.proofs.lemmas.List.{drop_all, drop-drop, drop-set-lt, drop_at, length-append, take-append-drop, take_at, take_rest}

module _ {T : Type 0} (xs p : List T) (used n : ℕ) (low : used ≤ length xs) where
  -- the places from `used` on
  part_is : take (length xs - used) (drop used xs) ≡ drop used xs
  part_is = take_rest xs used

  pub part_size : length (take (length xs - used) (drop used xs)) ≡ length xs - length (take used xs)
  part_size = ap length part_is ∙ omega (arith, length-drop used xs, length-take-le used xs low)

  pub within : n ≤ length (take (length xs - used) (drop used xs)) → used + n ≤ length xs
  within h = omega (arith, part_size, length-take-le used xs low)

  put_is : put_mid used (length xs - used) xs p ≡ take used xs ++ p
  put_is =
      let rest : drop (length xs - used) (drop used xs) ≡ [] = drop_all (length xs - used) (drop used xs) (omega (arith, length-drop used xs)) in
      ap (λ r. take used xs ++ (p ++ r)) rest ∙ ap (λ r. take used xs ++ r) (append-nil p)

  pub put_size : length p ≡ length (take (length xs - used) (drop used xs)) → length (put_mid used (length xs - used) xs p) ≡ length xs
  put_size h =
      ap length put_is ∙ omega (arith, length-append (take used xs) p, length-take-le used xs low, h, part_size)

  pub take_put : n ≤ length p → take (used + n) (put_mid used (length xs - used) xs p) ≡ take used xs ++ take n p
  take_put h =
      let front : List T = take used xs ++ take n p in
      let cut : take used xs ++ p ≡ front ++ drop n p = ap (λ r. take used xs ++ r) (sym (take-append-drop n p)) ∙ sym (append_assoc (take used xs) (take n p) (drop n p)) in
      let size : length front ≡ used + n = length-append (take used xs) (take n p) ∙ ap₂ ◌+◌ (length-take-le used xs low) (length-take-le n p h) in
      ap (take (used + n)) (put_is ∙ cut) ∙ take_at front (drop n p) (used + n) size

  pub drop_put : drop n p ≡ drop n (take (length xs - used) (drop used xs)) → drop (used + n) (put_mid used (length xs - used) xs p) ≡ drop (used + n) xs
  drop_put e =
      ap (drop (used + n)) put_is ∙ sym (drop-drop n used (take used xs ++ p)) ∙ ap (drop n) (drop_at (take used xs) p used (length-take-le used xs low))
      ∙ e ∙ ap (drop n) part_is ∙ drop-drop n used xs

-- what is untouched past a place is untouched past a later one
pub drop_later : {T : Type 0} (xs ys : List T) (m n : ℕ) → m ≤ n → drop m xs ≡ drop m ys → drop n xs ≡ drop n ys
drop_later xs ys m n h e =
    let s : m + (n - m) ≡ n = omega arith in
    ap (λ k. drop k xs) (sym s) ∙ sym (drop-drop (n - m) m xs) ∙ ap (drop (n - m)) e ∙ drop-drop (n - m) m ys ∙ ap (λ k. drop k ys) s

-- places that nothing was put into, and places that were filled further
pub fills_none : (p : Places) → Fills p p
fills_none p = record { size = refl; later = omega arith; untouched = refl; lender = refl }

pub fills_then : (p q r : Places) → Fills p q → Fills q r → Fills p r
fills_then p q r f h =
    record {
      size = h.size ∙ f.size;
      later = omega (arith, f.later, h.later);
      untouched = h.untouched ∙ drop_later q.all.now p.all.now q.used r.used h.later f.untouched;
      lender = h.lender ∙ f.lender;
    }

-- one place more is filled
pub drop_set : {T : Type 0} (xs ys : List T) (i : ℕ) (x : T) → drop i xs ≡ drop i ys → drop (i + 1) (set xs i x) ≡ drop (i + 1) ys
drop_set xs ys i x e = drop-set-lt (i + 1) xs i x (omega arith) ∙ drop_later xs ys i (i + 1) (omega arith) e
