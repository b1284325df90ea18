use Rattle.std.proofs.Common.{Ok, ◌≡◌, vec_items, is_ok, sym, subst, arith, rules}
use Rattle.std.specs.List.{insert}
use Rattle.std.specs.List.Sorted.{IsStrictlyIncreasing, IsBinarySearchResult}
use Rattle.std.specs.Ordering.{nat_cmp}
use Rattle.std.proofs.lemmas.Bool.{cond_both}
use Rattle.std.proofs.lemmas.Result.{MatchResult-from_err}
use Rattle.unions.specs.Working.{Adds}
use Rattle.unions.proofs.Rising.{gap_from_search, in_from_search, adds_same, adds_insert, increasing_insert, crowded_from_full}
use Rattle.unions.proofs.sets.SetList.insert.Goals as goal

pub returns-in_default-clause-added : goal.returns-in_default-clause-added
returns-in_default-clause-added c =
    let found : IsBinarySearchResult (λ y. nat_cmp y c.args.set) c.deref.result.now (Ok c.in_default.field-0) = search rules in
    let there = in_from_search c.args.set c.in_default.field-0 c.deref.ensures.value c.args.self.now.climbs found in
    adds_same (vec_items c.args.self.now.list) c.args.set there

pub invariant_of-self : goal.invariant_of-self
invariant_of-self c =
    let xs = vec_items c.args.self.now.list in
    let gap = gap_from_search c.args.set c.in-Err.place c.deref.ensures.value c.args.self.now.climbs c.in-Err.ensures.position in
    let either = cond_both (is_ok c.insert.result) (insert xs c.in-Err.place c.args.set) xs IsStrictlyIncreasing (λ _. increasing_insert xs c.args.set c.in-Err.place c.args.self.now.climbs gap) (λ _. c.args.self.now.climbs) in
    record { climbs = subst IsStrictlyIncreasing (sym c.insert.ensures.items) either; room = omega (arith, c.insert.ensures.capacity) }

pub returns-in_err-insert-clause-added : goal.returns-in_err-insert-clause-added
returns-in_err-insert-clause-added c =
    let xs = vec_items c.args.self.now.list in
    let gap = gap_from_search c.args.set c.in-Err.place c.deref.ensures.value c.args.self.now.climbs c.in-Err.ensures.position in
    let crowded = crowded_from_full xs c.args.set c.in-Err.place c.args.self.now.climbs gap (omega (arith, c.in_err-insert.ensures.full)) in
    MatchResult-from_err c.from_residual.result _ _ c.from_residual.ensures.0 (λ e. crowded)

pub returns-clause-added : goal.returns-clause-added
returns-clause-added c =
    let xs = vec_items c.args.self.now.list in
    let put : vec_items c.insert.new.self ≡ insert xs c.in-Err.place c.args.set = search rules in
    subst (λ ys. Adds xs ys (λ X. X ≡ c.args.set)) (sym put) (adds_insert xs c.in-Err.place c.args.set)
