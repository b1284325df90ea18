-- The laws of an allowance.
use Rattle.std.proofs.Common.{◌≡◌, ℕ, ◌+◌, ◌*◌, ◌≤◌, true, not, List, [], ◌∷◌, map, length, filter, ap, suc-mul, mul-le-mul_left, arith}
use Rattle.std.specs.List.{range_with_len}
use Rattle.std.proofs.lemmas.List.Filters.{length-filter_both}
use Rattle.std.proofs.lemmas.Bool.Decides.{nat_tests}
use Rattle.rulebook.specs.Book.{Rule}
use Rattle.allowance.specs.Allowed.{fits}
use Rattle.allowance.specs.Laws.{AllowancesKeepFormed, has_key, RuleCount, AllowancesPassOn, FittingLasts}
use Rattle.allowance.specs.Levels.{length-leveled, allowed_formed}
use Rattle.lock.specs.Locked.{free}
use Rattle.allowance.specs.Moved.{rule_with}
use Rattle.lock.proofs.LeftOut.{left_out_length, left_out_append, left_out_map, left_out_joined, left_out_kept}

pub allowances_keep_formed : (limit : ℕ) → limit ≤ 60 → AllowancesKeepFormed limit
allowances_keep_formed limit within key A b formed modes rules = let fit : fits A b ≡ true = grind (arith, nat_tests) in allowed_formed key A b fit formed

-- a rule is free of one key where it has another
free_of_one : (key : ℕ) (r : Rule) → free (key ∷ []) r ≡ not (has_key key r)
free_of_one key r = grind (arith, nat_tests)

pub rule_count : RuleCount
rule_count key A b =
    let n : ℕ = length b.rules in
    let first : List Rule = filter (free (key ∷ [])) b.rules in
    grind (arith, length-leveled key A b.modes first b.rules, length-filter_both (has_key key) (free (key ∷ [])) (free_of_one key) b.rules, suc-mul A n)

pub allowances_pass_on : AllowancesPassOn
allowances_pass_on key A before after n =
    let P : ℕ = before.modes in
    record {
      modes = ap (λ (m : ℕ). m * (A + 1)) n.modes;
      screens = n.screens;
      rules = rw n.modes
          (left_out_append (left_out_map (rule_with key P 0) (left_out_kept (free (key ∷ [])) n.rules))
          (left_out_joined (λ l. map (rule_with key P l) after.rules) (λ l. map (rule_with key P l) before.rules) (λ l. left_out_map (rule_with key P l) n.rules) (range_with_len 1 A)));
    }

pub fitting_lasts : FittingLasts
fitting_lasts key A before after fit n =
    let rules = mul-le-mul_left (A + 1) (left_out_length n.rules) in
    (grind (arith, nat_tests, fit, n.modes, rules), grind (arith, nat_tests, fit, n.modes, rules))
