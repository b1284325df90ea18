use Rattle.std.proofs.Common.{ℕ, length, vec_items, suc-mul, arith}
use Rattle.lock.specs.Formed.{picks_few}
use Rattle.allowance.specs.Levels.{fits_parts, length-leveled}
use Rattle.allowance.proofs.allowance.levels.LevelsRuleBook.rules.Goals as goal

pub overflow_add-result : goal.overflow_add-result
overflow_add-result g c =
    let l = c.args.self.now in
    let b = g.B.RuleBook.meaning l.below.now in
    let A : ℕ = l.setting.most in
    let fewer = picks_few 0 (vec_items l.first.now.list) b.rules l.first.now.rises in
    grind (arith, fewer, suc-mul A (length b.rules), (fits_parts A b l.fit).1)

pub returns : goal.returns
returns g c = grind (arith, length-leveled)
