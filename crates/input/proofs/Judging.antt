-- From what the tests of a line say to what the line holds.
use Rattle.std.proofs.Common.{◌≡◌, ℕ, ◌-◌, ◌≤◌, Bool, false, List, ◌++◌, length, take, drop, is_some, Some, None, sym, refl, ap, ◌∙◌, arith}
use borrow.Rule.Slice.PartMut.{post_of}
use Rattle.std.proofs.lemmas.Bool.{true≢false}
use Rattle.std.proofs.lemmas.List.{drop-append-le, length-take-le, take-append-drop, take-append-le}
use Rattle.input.specs.Hex.{bytes_from, is_hex}
use Rattle.input.specs.Lines.{AsTelegram, AsUnreadable, TelegramIn, none, pairs, content, content_size, dash, skips}
use Rattle.input.proofs.Spelling.{spelled, spelling}

module _ (line : List ℕ) (end : ℕ) (e : end ≡ content_size line) where
  -- the part of the line that was looked at
  looked : take (end - 0) line ≡ content line
  looked = let k : end - 0 ≡ content_size line = omega arith in ap (λ n. take n line) k

  -- a test of that part is one of the content
  at_content : (f : List ℕ → Bool) (b : Bool) → b ≡ f (take (end - 0) line) → f (content line) ≡ b
  at_content f b h = sym (h ∙ ap f looked)

  no_telegram : dash (content line) ≡ false → is_hex (content line) ≡ false → (bs : List ℕ) → TelegramIn (content line) bs → ⊥
  no_telegram d x bs (none y z) = true≢false (sym y ∙ d)
  no_telegram d x bs (pairs s) = true≢false (sym (ap is_some (spelling s)) ∙ x)

  pub unreadable_line : false ≡ skips (take (end - 0) line) → false ≡ dash (take (end - 0) line) → false ≡ is_hex (take (end - 0) line) → AsUnreadable line line
  unreadable_line h d x =
      record { kept = at_content skips false h; no_telegram = no_telegram (at_content dash false d) (at_content is_hex false x); same = refl }

  pub telegram_line : (n : ℕ) (text : List ℕ) → end ≤ length line → false ≡ skips (take (end - 0) line) → length text ≡ length (take (end - 0) line) → n ≤ length (take (end - 0) line) → bytes_from (take (end - 0) line) None ≡ Some (take n text) → drop n text ≡ drop n (take (end - 0) line) → AsTelegram line n (text ++ post_of 0 (end - 0) line)
  telegram_line n text within h same few b r =
      let k : end - 0 ≡ end = omega arith in
      let post = drop (end - 0) line in
      let front : take n (text ++ post) ≡ take n text = take-append-le n text post (omega arith) in
      let s = spelled (content line) (take n text) (ap (λ cs. bytes_from cs None) (sym looked) ∙ b) in
      record {
        kept = at_content skips false h;
        telegram = pairs (rw front s);
        within = omega (arith, length-take-le (end - 0) line (omega arith));
        rest =
            drop-append-le n text post (omega arith) ∙ ap (λ cs. cs ++ post) r
            ∙ sym (drop-append-le n (take (end - 0) line) post few) ∙ ap (drop n) (take-append-drop (end - 0) line);
      }
