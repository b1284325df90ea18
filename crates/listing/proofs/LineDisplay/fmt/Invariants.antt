-- So far the first j answers have been written.
use Rattle.std.proofs.Common.{take}
use Rattle.std.specs.Fmt.{HasWritten, IsPlainFormatter}
use Rattle.std.specs.List.{slice_get}
use Rattle.listing.specs.Pieces.{answers_in}
use Rattle.listing.specs.Text.{answers_text}
use Rattle.listing.proofs.LineDisplay.fmt.Given as goal

abbrev pub invariant-loop-j : goal.invariant-loop-j
invariant-loop-j g l =
    let answers = answers_in (slice_get (g.B.RuleBook.meaning l.book).rules l.k) in
    IsPlainFormatter l.initial.f → HasWritten g.W.Write.write_str_gives l.initial.f (answers_text (take l.j answers)) l.f
