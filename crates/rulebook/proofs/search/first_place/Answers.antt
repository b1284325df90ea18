use Rattle.std.proofs.Common.{rules}
use Rattle.rulebook.proofs.Places.{first_value}
use Rattle.rulebook.proofs.search.first_place.Goals as goal

pub returns-clause-value : goal.returns-clause-value
returns-clause-value g c = first_value (λ x. g.T.Same.same x c.args.wanted.now) c.args.records.now _ (search rules)
