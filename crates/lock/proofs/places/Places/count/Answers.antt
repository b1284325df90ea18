use Rattle.std.proofs.Common.{List, vec_items, arith, sym, ◌∙◌}
use Rattle.rulebook.specs.Book.{Rule}
use Rattle.lock.proofs.Standing.{count_less, count_all}
use Rattle.lock.proofs.places.Places.count.Goals as goal

pub loop-count-preserved : goal.loop-count-preserved
loop-count-preserved g c =
    let places = c.args.self.now.list in
    let book : List Rule = (g.B.RuleBook.meaning c.args.book.now).rules in
    (count_less (vec_items places) book c.rules-rules.result c.loop-count.count c.index.result.now c.loop-count-test.true (omega (arith, places.ok.0, c.loop-count.invariant.1)) c.rules-rules.ensures (omega (arith, c.index.ensures, c.if-index-rules.true)) ∙ c.loop-count.invariant.0, omega (arith, c.loop-count.invariant.1))

pub returns-else-index-rules : goal.returns-else-index-rules
returns-else-index-rules g c =
    let places = c.args.self.now.list in
    let book : List Rule = (g.B.RuleBook.meaning c.args.book.now).rules in
    sym (count_all (vec_items places) book c.rules-rules.result c.loop-count.count c.index.result.now c.args.self.now.rises c.loop-count-test.true (omega (arith, places.ok.0, c.loop-count.invariant.1)) c.rules-rules.ensures (omega (arith, c.index.ensures, c.if-index-rules.false)))
    ∙ c.loop-count.invariant.0
