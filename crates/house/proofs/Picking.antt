-- A pick is a call behind an address.
use Rattle.std.proofs.Common.{◌≡◌, ℕ, cond, ◌&&◌, true, eqb, List, [], length, get_or, drop, Some, None, Option, sym, ap, ◌∙◌}
use Rattle.std.proofs.lemmas.List.{get_or-drop}
use Rattle.house.specs.Fields.{address_of, is_address, word_at}
use Rattle.house.specs.Lines.{Statement, call, call_in, pick_in, picking}

pub pick_by : (ws left : List (List ℕ)) (address : List ℕ) (said : Option Statement) → is_address (word_at ws 0) (word_at ws 1) (word_at ws 2) (word_at ws 3) ≡ true → address ≡ address_of (word_at ws 0) (word_at ws 1) (word_at ws 2) (word_at ws 3) → left ≡ drop 4 ws → said ≡ call_in (picking address) left → said ≡ pick_in ws
unfolding call_in pick_in
pick_by ws left address said t a d e =
    let picked : List ℕ = address_of (word_at ws 0) (word_at ws 1) (word_at ws 2) (word_at ws 3) in
    let fifth : word_at left 0 ≡ word_at ws 4 = ap (λ r. get_or r 0 []) d ∙ get_or-drop 4 ws 0 [] in
    e ∙ ap (λ x. cond (eqb (length (word_at left 0)) 0) (Some (call (picking x))) None) a
    ∙ ap (λ w. cond (eqb (length w) 0) (Some (call (picking picked))) None) fifth
    ∙ ap (λ b. cond (b && eqb (length (word_at ws 4)) 0) (Some (call (picking picked))) None) (sym t)
