use Rattle.std.proofs.Common.{refl, arith, append_assoc, rules}
use Rattle.std.proofs.lemmas.Grind.{put_three}
use Rattle.std.specs.List.{slice_get}
use Rattle.listing.proofs.Lines.{line_told}
use Rattle.listing.proofs.LineDisplay.fmt.Goals as goal

pub returns-clause-writes : goal.returns-clause-writes
returns-clause-writes g c = λ plain ended.
    let rule = slice_get (g.B.RuleBook.meaning c.args.self.now.book.now).rules c.args.self.now.k in
    let line = line_told c.args.self.now.k rule c.in-Some.head c.loop-j.j c.in-Some.ensures (omega arith) in
    let head = c.in_ok-write.ensures.writes plain refl in
    let answers = c.loop-j.invariant head.plain in
    put_three _ _ _ _ _ _ _ _ _ head answers (c.writeln.ensures.writes answers.plain ended) (search (rules, append_assoc))
