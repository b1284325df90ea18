use Rattle.std.proofs.Common.{◌≡◌, ◌+◌, ◌/◌, ◌<◌, vec_items, arith, rules}
use Rattle.std.proofs.lemmas.Option.{IfSome_then}
use Rattle.allowance.proofs.Origins.{comes_nowhere, comes_above}
use Rattle.allowance.proofs.allowance.levels.Levels.find.Goals as goal

pub returns-in_err-level : goal.returns-in_err-level
returns-in_err-level g c =
    let l = c.args.self.now in
    let later : c.args.k ≡ c.count-first.result + c.in-Some.above = grind (arith, c.in-Some.ensures) in
    let none : c.rules-rules.result ≡ 0 = grind (arith, c.in_err-level.ensures) in
    rw c.from_residual.ensures (comes_nowhere (vec_items l.first.now.list) l.setting (g.B.RuleBook.meaning l.below.now) c.args.k c.count-first.result c.rules-rules.result c.in-Some.above c.count-first.ensures c.rules-rules.ensures later none)

pub returns : goal.returns
returns g c =
    let l = c.args.self.now in
    let later : c.args.k ≡ c.count-first.result + c.in-Some.above = grind (arith, c.in-Some.ensures) in
    let some : 0 < c.rules-rules.result = grind (arith, c.in_ok-level.ensures) in
    let level : c.in_ok-level.level ≡ c.in-Some.above / c.rules-rules.result = grind (arith, c.in_ok-level.ensures) in
    comes_above (vec_items l.first.now.list) l.setting (g.B.RuleBook.meaning l.below.now) c.args.k c.count-first.result c.rules-rules.result c.in-Some.above c.in_ok-level.level c.then.result c.count-first.ensures c.rules-rules.ensures later some level c.then.ensures.variant (IfSome_then c.then.result c.then.ensures.some (λ o p. search rules))
