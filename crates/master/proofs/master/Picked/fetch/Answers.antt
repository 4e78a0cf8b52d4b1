use Rattle.std.proofs.Common.{sym, refl, ◌∙◌}
use Rattle.master.proofs.Fetching.{fetch_accepted, fetch_garbled, fetch_silent, fetch_unanswered}
use Rattle.master.proofs.Linking.{fetch_continues}
use Rattle.master.proofs.Probing.{read_is}
use Rattle.master.proofs.master.Picked.fetch.Goals as goal

pub returns-then-not-self : goal.returns-then-not-self
returns-then-not-self g c =
    let f = fetch_unanswered _ _ _ _ c.if-not-self.true c.new_buffer.ensures in
    record {
      fetched = f;
      continues = λ p m k l. fetch_continues p m k _ _ _ _ _ _ _ (g.L.Line.sound c.args.self.now.line) f l;
      answered = refl;
      layers = refl;
    }

pub returns-then-is_ok : goal.returns-then-is_ok
returns-then-is_ok g c =
    let f = fetch_accepted _ _ _ _ _ _ c.if-not-self.false c.send-count.ensures.sent.exchanged c.send-count.array_long (read_is c.send-count.result c.send-count.new.reply c.read.result c.read.ensures.fault ∙ sym c.if-is_ok.ensures.value) in
    record {
      fetched = f;
      continues = λ p m k l. fetch_continues p m k _ _ _ _ _ _ _ (g.L.Line.sound c.args.self.now.line) f l;
      answered = refl;
      layers = c.send-count.ensures.layers;
    }

pub returns-then-count-eq0 : goal.returns-then-count-eq0
returns-then-count-eq0 g c =
    let f = fetch_silent _ _ _ _ _ _ c.if-not-self.false c.send-count.ensures.sent.exchanged c.send-count.array_long _ c.new_buffer-2.ensures c.if-count-eq0.true in
    record {
      fetched = f;
      continues = λ p m k l. fetch_continues p m k _ _ _ _ _ _ _ (g.L.Line.sound c.args.self.now.line) f l;
      answered = refl;
      layers = c.send-count.ensures.layers;
    }

pub returns-else-count-eq0 : goal.returns-else-count-eq0
returns-else-count-eq0 g c =
    let f = fetch_garbled _ _ _ _ _ _ c.if-not-self.false c.send-count.ensures.sent.exchanged c.send-count.array_long _ c.new_buffer-2.ensures c.if-count-eq0.false (read_is c.send-count.result c.send-count.new.reply c.read.result c.read.ensures.fault ∙ sym c.if-is_ok.ensures.value) in
    record {
      fetched = f;
      continues = λ p m k l. fetch_continues p m k _ _ _ _ _ _ _ (g.L.Line.sound c.args.self.now.line) f l;
      answered = refl;
      layers = c.send-count.ensures.layers;
    }
