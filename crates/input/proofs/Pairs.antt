-- Reading pairs of digits, one character at a time.
use Rattle.std.proofs.Common.{◌≡◌, ℕ, ◌+◌, ◌-◌, ◌<◌, ◌≤◌, true, List, [], ◌∷◌, ◌++◌, length, get_or, take, drop, set, is_some, IfSome, IsSome, Some, None, Option, sym, refl, ap, ◌∙◌, subst, arith, length-set}
use Rattle.std.proofs.lemmas.Bool.{true≢false}
use Rattle.std.proofs.lemmas.List.{append_assoc, drop_all, drop-drop, drop_more, drop-set-lt, get_or-drop, take_more_set}
use Rattle.input.specs.declared.hex.Step.{Step}
use Rattle.input.specs.declared.hex.Step.TheVariants.{Open, Byte}
use Rattle.input.specs.Hex.{Small, after_step, and_byte, bytes_from, is_hex, step_of}

-- from one character to the next
next : (text : List ℕ) (i : ℕ) (high : Option ℕ) (s : Option Step) → i < length text → s ≡ step_of high (get_or text i 0) → bytes_from (drop i text) high ≡ after_step s (bytes_from (drop (i + 1) text))
next text i high s h e =
    ap (λ cs. bytes_from cs high) (drop_more text i 0 h) ∙ ap (λ x. after_step x (bytes_from (drop (i + 1) text))) (sym e)

at_end : (text : List ℕ) (i : ℕ) (high : Option ℕ) → length text ≤ i → bytes_from (drop i text) high ≡ bytes_from [] high
at_end text i high h = ap (λ cs. bytes_from cs high) (drop_all i text h)

-- the test has come to the character i, after a high digit or none
pub record Tested (text : List ℕ) (i : ℕ) (high : Option ℕ) : Type 0 where
  pub small : IfSome high (λ d. d < 16)
  pub left : is_hex text ≡ is_some (bytes_from (drop i text) high)

-- bytes in front
abbrev behind : List ℕ → Option (List ℕ) → Option (List ℕ)
behind bs None = None
behind bs (Some cs) = Some (bs ++ cs)

one_behind : (bs : List ℕ) (b : ℕ) (o : Option (List ℕ)) → behind bs (and_byte b o) ≡ behind (bs ++ b ∷ []) o
one_behind bs b None = refl
one_behind bs b (Some cs) = ap Some (sym (append_assoc bs (b ∷ []) cs))

-- the conversion of a text has come to the character i, after a high digit or none, and put n bytes in front
pub record Converted (text now : List ℕ) (i n : ℕ) (high : Option ℕ) : Type 0 where
  pub few : n ≤ i
  pub same_length : length now ≡ length text
  pub small : IfSome high (λ d. d < 16)
  pub rest : drop n now ≡ drop n text
  pub bytes : bytes_from text None ≡ behind (take n now) (bytes_from (drop i text) high)

-- characters that were not reached are still there
pub unread : (text now : List ℕ) (i n : ℕ) → n ≤ i → drop n now ≡ drop n text → get_or now i 0 ≡ get_or text i 0
unread text now i n l e =
    let k : n + (i - n) ≡ i = omega arith in
    sym (ap (λ j. get_or now j 0) k) ∙ sym (get_or-drop n now (i - n) 0) ∙ ap (λ cs. get_or cs (i - n) 0) e
    ∙ get_or-drop n text (i - n) 0 ∙ ap (λ j. get_or text j 0) k

module _ (text now : List ℕ) (i n : ℕ) (high : Option ℕ) (h : i < length text) (was : Converted text now i n high) where
  seen : (s : Option Step) → s ≡ step_of high (get_or now i 0) → bytes_from text None ≡ behind (take n now) (after_step s (bytes_from (drop (i + 1) text)))
  seen s e = was.bytes ∙ ap (behind (take n now)) (next text i high s h (e ∙ ap (step_of high) (unread text now i n was.few was.rest)))

  pub convert_open : (m : ℕ) (after : List ℕ) (digit then : Option ℕ) (s : Option Step) → s ≡ Some (Open digit) → s ≡ step_of high (get_or now i 0) → IfSome s Small → after ≡ now → m ≡ n → then ≡ digit → Converted text after (i + 1) m then
  convert_open m after digit then s o e small p q r =
      rw (p, q, r) (record { few = omega (arith, was.few); same_length = was.same_length; small = subst (λ x. IfSome x Small) o small; rest = was.rest; bytes = seen (Some (Open digit)) (sym o ∙ e) })

  pub convert_byte : (m b : ℕ) (after : List ℕ) (then : Option ℕ) → Some (Byte b) ≡ step_of high (get_or now i 0) → after ≡ set now n b → m ≡ n + 1 → then ≡ None → Converted text after (i + 1) m then
  convert_byte m b after then e p q r =
      let l : n < length now = omega (arith, was.few, was.same_length) in
      let o = bytes_from (drop (i + 1) text) None in
      rw (p, q, r)
      (record {
        few = omega (arith, was.few);
        same_length = simp length-set was.same_length;
        small = tt;
        rest = drop-set-lt (n + 1) now n b (omega arith) ∙ sym (drop-drop 1 n now) ∙ ap (drop 1) was.rest ∙ drop-drop 1 n text;
        bytes = seen (Some (Byte b)) e ∙ one_behind (take n now) b o ∙ ap (λ cs. behind cs o) (sym (take_more_set now n b l));
      })

  pub convert_some : is_hex text ≡ true → (s : Option Step) → s ≡ step_of high (get_or now i 0) → IsSome s
  convert_some y (Some s) e = refl
  convert_some y None e =
      absurd (true≢false (sym y ∙ ap is_some (seen None e)))
