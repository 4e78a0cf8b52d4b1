use Rattle.std.proofs.Common.{◌-◌, set, [], ◌∷◌, ◌++◌, length, vec_items, vec_len, refl, ap, ◌∙◌, arith}
use Rattle.std.proofs.lemmas.List.{set-get_or}
use Rattle.std.proofs.lemmas.Bool.{both_ways}
use Rattle.std.proofs.lemmas.Result.{MatchResult-weaker}
use Rattle.telegram.specs.Addresses.{address_bytes}
use Rattle.capture.specs.Rows.{meters_of}
use Rattle.capture.proofs.Adding.{Unjoined, begins_row, full_row, full_rows, joins_row, stays_row, unlike_last, unlike_none}
use Rattle.capture.proofs.rows.Rows.add.Goals as goal
use Rattle.capture.proofs.rows.Rows.add.Goals.{in-Some+else-eq, in_default}

pub returns-then-eq : goal.returns-then-eq
returns-then-eq c bytes =
    let list = c.args.self.now.list in
    let rows = vec_items list in
    let a = address_bytes c.args.address in
    let row = c.in-Some.row.now in
    let last = c.in-Some.ensures.item.3 in
    let same = c.if-eq.ensures.same.0 refl in
    let add = c.add.ensures in
    MatchResult-weaker c.add.result add.starts
    (λ _ p. joins_row bytes rows a (vec_len list) row list.ok.0 (omega arith) (last.1 row) c.add.new.self c.args.start same add.address p)
    (λ e p. (p.0, full_row bytes rows a (vec_len list) row list.ok.0 (omega arith) (last.1 row) e.cause p.1 same p.2, stays_row bytes rows a (vec_len list) row list.ok.0 (omega arith) (last.1 row) c.add.new.self add.address p.3))

unjoined : (c : goal.After-begin) → Unjoined (address_bytes c.args.address) (vec_items c.args.self.now.list) (vec_items c.match-last_mut.self.list)
unjoined c =
    let list = c.args.self.now.list in
    let rows = vec_items list in
    let a = address_bytes c.args.address in
    elim c.match-last_mut.branch [
      | in-Some+else-eq w ↦
          let row = w.in-Some.row.now in
          let last = w.in-Some.ensures.item.3 in
          record {
            same = ap (λ x. vec_items x.list) w.self-is ∙ ap (set rows (vec_len list - 1)) (last.1 row) ∙ set-get_or rows (vec_len list - 1) row;
            unlike = λ bytes. unlike_last bytes rows a (vec_len list) row list.ok.0 (omega arith) (last.1 row) (λ e. both_ways _ w.if-eq.false (w.eq.ensures.same.1 e));
          }
      | in_default w ↦ record { same = ap (λ x. vec_items x.list) w.self-is; unlike = λ bytes. unlike_none bytes rows a (omega (arith, w.in_default.ensures.item.3)) }
    ]

pub returns : goal.returns
returns c bytes =
    let rows = vec_items c.args.self.now.list in
    let a = address_bytes c.args.address in
    let p = unjoined c in
    let size = c.match-last_mut.self.list.ok.0 ∙ ap length p.same in
    MatchResult-weaker c.begin.result c.begin.ensures
    (λ _ h. rw (h.1 ∙ ap (λ x. x ++ c.new.result ∷ []) p.same) (begins_row bytes rows a (p.unlike bytes) c.new.result c.args.start (omega arith) (ap address_bytes c.new.ensures.address) c.new.ensures.starts))
    (λ e h. (h.1, full_rows bytes rows a (p.unlike bytes) e.cause h.2 (omega arith), ap (meters_of bytes) (h.3 ∙ p.same)))
