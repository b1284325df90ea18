-- So far the lines of the first k rules have been written.
use Rattle.std.proofs.Common.{take}
use Rattle.std.specs.Fmt.{HasWritten, IsPlainFormatter}
use Rattle.listing.specs.Text.{rule_lines}
use Rattle.listing.proofs.ListingDisplay.fmt.Given as goal

abbrev pub invariant-loop-k : goal.invariant-loop-k
invariant-loop-k g l =
    IsPlainFormatter l.initial.f → HasWritten g.W.Write.write_str_gives l.initial.f (rule_lines 0 (take l.k (g.B.RuleBook.meaning l.book).rules)) l.f
