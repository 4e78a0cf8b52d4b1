-- Bytes record one list of meters at most.
use Rattle.std.proofs.Common.{◌≡◌, ℕ, ◌≤◌, List, [], ◌∷◌, ◌++◌, length, get_or, take, drop, sym, refl, ap, ◌∙◌, subst, ap₂, arith}
use Rattle.std.specs.List.{AllByRecursion}
use Rattle.std.proofs.lemmas.List.{length-append, get_or_append_left, take_at, drop_at}
use Rattle.std.proofs.ByRecursion.{All-append, All-weaker}
use Rattle.line.specs.Meters.{Carries, Meter, Stocked, address_in}
use Rattle.capture.specs.Recordings.{Apart, Differs, Recorded, end_to_end, telegrams_of}
use Rattle.capture.proofs.Carrying.{Telegram, reply_length}

pub second : (t rest : List ℕ) → Telegram t → get_or (t ++ rest) 1 0 ≡ get_or t 1 0
second t rest h = let l = reply_length t h in get_or_append_left t rest 0 1 (omega arith)

-- a telegram in front, and the bytes after it
pub front_unique : (t t' rest rest' : List ℕ) → Telegram t → Telegram t' → t ++ rest ≡ t' ++ rest' → (t ≡ t') × (rest ≡ rest')
front_unique t t' rest rest' h h' e =
    let n : length t ≡ length t' = omega (arith, (reply_length t h).0, (reply_length t' h').0, second t rest h, second t' rest' h', ap (λ x. get_or x 1 0) e) in (
      sym (take_at t rest (length t) refl) ∙ ap (take (length t)) e ∙ take_at t' rest' (length t) (sym n),
      sym (drop_at t rest (length t) refl) ∙ ap (drop (length t)) e ∙ drop_at t' rest' (length t) (sym n),
    )

pub none_left : (t rest : List ℕ) → Telegram t → [] ≡ t ++ rest → ⊥
none_left t rest h e = omega (arith, (reply_length t h).0, ap length e, length-append t rest)

-- bytes are telegrams end to end in one way at most
pub cut_unique : (ts ts' : List (List ℕ)) → AllByRecursion Telegram ts → AllByRecursion Telegram ts' → end_to_end ts ≡ end_to_end ts' → ts ≡ ts'
cut_unique [] [] h h' e = refl
cut_unique [] (t ∷ ts) h h' e = absurd (none_left t (end_to_end ts) h'.0 e)
cut_unique (t ∷ ts) [] h h' e = absurd (none_left t (end_to_end ts) h.0 (sym e))
cut_unique (t ∷ ts) (t' ∷ ts') h h' e =
    let p = front_unique t t' (end_to_end ts) (end_to_end ts') h.0 h'.0 e in
    ap₂ (λ x xs. x ∷ xs) p.0 (cut_unique ts ts' h.1 h'.1 p.1)

abbrev pub From : List ℕ → List ℕ → Type 0
From a t = address_in t ≡ a

-- the first telegram, if there is one, has another address
abbrev pub Changes : List ℕ → List (List ℕ) → Type 0
Changes a [] = Unit {0}
Changes a (t ∷ ts) = address_in t ≡ a → ⊥

-- telegrams of one address up to a change
pub split_unique : (a : List ℕ) (xs ys r r' : List (List ℕ)) → AllByRecursion (From a) xs → AllByRecursion (From a) ys → Changes a r → Changes a r' → xs ++ r ≡ ys ++ r' → (xs ≡ ys) × (r ≡ r')
split_unique a [] [] r r' h k c c' e = (refl, e)
split_unique a [] (y ∷ ys) r r' h k c c' e = absurd (subst (Changes a) e c k.0)
split_unique a (x ∷ xs) [] r r' h k c c' e = absurd (subst (Changes a) (sym e) c' h.0)
split_unique a (x ∷ xs) (y ∷ ys) r r' h k c c' e =
    let first : x ≡ y = cc in
    let after : xs ++ r ≡ ys ++ r' = cc in
    let p = split_unique a xs ys r r' h.1 k.1 c c' after in
    (ap₂ (λ u us. u ∷ us) first p.0, p.1)

module _ (m : Meter) (h : Stocked m) where
  pub from_meter : AllByRecursion (From m.address) m.telegrams
  from_meter =
      All-weaker (Carries m.address) (From m.address) (λ t p. p.1) m.telegrams h.carry

  telegrams_meter : AllByRecursion Telegram m.telegrams
  telegrams_meter =
      All-weaker (Carries m.address) Telegram (λ t p. p.0) m.telegrams h.carry

pub all_telegrams : (ms : List Meter) → AllByRecursion Stocked ms → AllByRecursion Telegram (telegrams_of ms)
all_telegrams [] h = tt
all_telegrams (m ∷ ms) h = All-append Telegram m.telegrams (telegrams_of ms) (telegrams_meter m h.0) (all_telegrams ms h.1)

-- the first telegram of a meter's, before others
first_changes : (a b : List ℕ) (ts rest : List (List ℕ)) → 1 ≤ length ts → AllByRecursion (From b) ts → (a ≡ b → ⊥) → Changes a (ts ++ rest)
first_changes a b [] rest n h d = absurd (omega arith)
first_changes a b (t ∷ ts) rest n h d = λ e. d (sym e ∙ h.0)

pub changes_after : (m : Meter) (ms : List Meter) → AllByRecursion Stocked ms → Differs m ms → Changes m.address (telegrams_of ms)
changes_after m [] h d = tt
changes_after m (n ∷ ms) h d = first_changes m.address n.address n.telegrams (telegrams_of ms) h.0.some_telegrams (from_meter n h.0) d

pub no_telegrams : (ts rest : List (List ℕ)) → 1 ≤ length ts → [] ≡ ts ++ rest → ⊥
no_telegrams ts rest n e = omega (arith, ap length e, length-append ts rest)

-- the first telegrams tell the first addresses
pub same_address : (a b : List ℕ) (ts us rest rest' : List (List ℕ)) → 1 ≤ length ts → 1 ≤ length us → AllByRecursion (From a) ts → AllByRecursion (From b) us → ts ++ rest ≡ us ++ rest' → a ≡ b
same_address a b [] us rest rest' n k h g e = absurd (omega arith)
same_address a b (t ∷ ts) [] rest rest' n k h g e = absurd (omega arith)
same_address a b (t ∷ ts) (u ∷ us) rest rest' n k h g e =
    let first : t ≡ u = cc in sym h.0 ∙ ap address_in first ∙ g.0

-- telegrams are grouped into meters in one way at most
group_unique : (ms ms' : List Meter) → AllByRecursion Stocked ms → AllByRecursion Stocked ms' → Apart ms → Apart ms' → telegrams_of ms ≡ telegrams_of ms' → ms ≡ ms'
group_unique [] [] h h' d d' e = refl
group_unique [] (m ∷ ms) h h' d d' e = absurd (no_telegrams m.telegrams (telegrams_of ms) h'.0.some_telegrams e)
group_unique (m ∷ ms) [] h h' d d' e = absurd (no_telegrams m.telegrams (telegrams_of ms) h.0.some_telegrams (sym e))
group_unique (m ∷ ms) (n ∷ ns) h h' d d' e =
    let a : m.address ≡ n.address =
    same_address m.address n.address m.telegrams n.telegrams (telegrams_of ms) (telegrams_of ns) h.0.some_telegrams h'.0.some_telegrams (from_meter m h.0) (from_meter n h'.0) e in
    let p = split_unique m.address m.telegrams n.telegrams (telegrams_of ms) (telegrams_of ns) (from_meter m h.0)
    (subst (λ x. AllByRecursion (From x) n.telegrams) (sym a) (from_meter n h'.0))
    (changes_after m ms h.1 d.0)
    (subst (λ x. Changes x (telegrams_of ns)) (sym a) (changes_after n ns h'.1 d'.0)) e in
    let same : m ≡ n = ap₂ (λ x y. record { address = x; telegrams = y }) a p.0 in
    ap₂ (λ x xs. x ∷ xs) same (group_unique ms ns h.1 h'.1 d.1 d'.1 p.1)

pub one_reading : (bytes : List ℕ) (ms ms' : List Meter) → Recorded bytes ms → Recorded bytes ms' → ms ≡ ms'
one_reading bytes ms ms' h h' =
    group_unique ms ms' h.stocked h'.stocked h.apart h'.apart
    (cut_unique (telegrams_of ms) (telegrams_of ms') (all_telegrams ms h.stocked) (all_telegrams ms' h'.stocked) (h.whole ∙ sym h'.whole))
