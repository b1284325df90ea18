-- The number by which users know each refusal of the calls on a table.
use Rattle.std.specs.Prelude.{ℕ}
use Rattle.table.specs.declared.refusals.GiveRefusal.{GiveRefusal}
use Rattle.table.specs.declared.refusals.GiveRefusal.TheVariants as give
use Rattle.table.specs.declared.refusals.MarkRefusal.{MarkRefusal}
use Rattle.table.specs.declared.refusals.MarkRefusal.TheVariants as mark
use Rattle.table.specs.declared.refusals.AskRefusal.{AskRefusal}
use Rattle.table.specs.declared.refusals.AskRefusal.TheVariants as ask

abbrev pub give_number : GiveRefusal → ℕ
give_number give.NoSuchState = 9
give_number give.NoSuchScreen = 10
give_number give.ModeInSet = 11
give_number give.AlreadyGiven = 12
give_number give.Full = 13

abbrev pub mark_number : MarkRefusal → ℕ
mark_number mark.NoSuchState = 9

abbrev pub ask_number : AskRefusal → ℕ
ask_number ask.Open = 15
ask_number ask.NoSuchMode = 16
ask_number (ask.NoSuchScreen place) = 10
