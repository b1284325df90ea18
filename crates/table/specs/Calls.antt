-- What the calls on a table answer, and what the table holds then. P and G are the modes and the screens of the book.
use Rattle.std.specs.Prelude.{◌≡◌, ℕ, ◌+◌, Bool, true, cond, leb, ◌↔◌, List, [], ◌∷◌, ◌++◌, length, is_some, is_ok, Some, None, Ok, Err, Option, Result, bit_or, nat_le, nat_lt, refl}
use Rattle.rulebook.specs.Search.{first_of}
use Rattle.states.specs.Sets.{only, holds_below, count_below}
use Rattle.forcing.specs.Entries.{Accepts, entry, same_entry}
use Rattle.forcing.specs.declared.entry.Entry.{Entry}
use Rattle.table.specs.Held.{Held, entries_in, opened, blank}
use Rattle.table.specs.declared.refusals.GiveRefusal.{GiveRefusal}
use Rattle.table.specs.declared.refusals.GiveRefusal.TheVariants as give
use Rattle.table.specs.declared.refusals.MarkRefusal.{MarkRefusal}
use Rattle.table.specs.declared.refusals.MarkRefusal.TheVariants as mark
use Rattle.table.specs.declared.refusals.AskRefusal.{AskRefusal}
use Rattle.table.specs.declared.refusals.AskRefusal.TheVariants as ask

-- What giving an entry answers: how many are given then, or the first of the refusals that applies.
abbrev pub give_answer : ℕ → ℕ → Held → Entry → Result ℕ GiveRefusal
give_answer P G h e =
    cond (nat_lt 63 e.state) (Err give.NoSuchState)
    (cond (nat_le G e.screen) (Err give.NoSuchScreen)
    (cond (holds_below P e.set) (Err give.ModeInSet)
    (cond (is_some (first_of (λ (x : Entry). same_entry x e) h.given)) (Err give.AlreadyGiven)
    (cond (nat_lt 127 (length h.given)) (Err give.Full) (Ok (length h.given + 1))))))

-- What the table holds after it: one given entry more, open and with nothing earned, or the same where it was refused.
abbrev pub give_after : ℕ → ℕ → Held → Entry → Held
give_after P G h e = cond (is_ok (give_answer P G h e)) (opened (h.given ++ e ∷ []) h.marks) h

-- the marks with one more; a state that is marked stays so
abbrev pub marks_with : Held → ℕ → ℕ
marks_with h q = bit_or h.marks (only q)

-- What an end mark on a state answers: how many states are marked then, or that there is no such state.
abbrev pub mark_answer : Held → ℕ → Result ℕ MarkRefusal
mark_answer h q = cond (nat_lt 63 q) (Err mark.NoSuchState) (Ok (count_below 64 (marks_with h q)))

abbrev pub mark_after : Held → ℕ → Held
mark_after h q = cond (is_ok (mark_answer h q)) (opened h.given (marks_with h q)) h

-- the lowest place of a list of screens at which the number is not below G
abbrev pub first_wrong : ℕ → List ℕ → Option ℕ
first_wrong G w = first_of (λ a. leb G a) w

-- the refusal of a list with a wrong screen at this place, if at any
abbrev pub wrong_screen : Option ℕ → Option AskRefusal
wrong_screen None = None
wrong_screen (Some place) = Some (ask.NoSuchScreen place)

-- Why asking is refused, if it is: the first of the refusals that applies.
abbrev pub ask_refusal : ℕ → ℕ → Held → ℕ → List ℕ → Option AskRefusal
ask_refusal P G h p w = cond h.settled (cond (nat_le P p) (Some ask.NoSuchMode) (wrong_screen (first_wrong G w))) (Some ask.Open)

-- the answer is yes exactly when the mode accepts the list by all entries and the end marks
abbrev pub YesIfAccepted : Held → ℕ → List ℕ → Result Bool AskRefusal → Type 0
YesIfAccepted h p w (Ok yes') = (yes' ≡ true) ↔ Accepts (entries_in h) h.marks p w
YesIfAccepted h p w (Err x) = ⊥

-- What asking answers: its refusal, or yes exactly when the mode accepts the list.
abbrev pub AskedBy : Option AskRefusal → Held → ℕ → List ℕ → Result Bool AskRefusal → Type 0
AskedBy (Some x) h p w r = r ≡ Err x
AskedBy None h p w r = YesIfAccepted h p w r

abbrev pub Asked : ℕ → ℕ → Held → ℕ → List ℕ → Result Bool AskRefusal → Type 0
Asked P G h p w r = AskedBy (ask_refusal P G h p w) h p w r

-- the second of three screens is wrong in a book with two screens
example_wrong : ask_refusal 1 2 (record { given = []; marks = 0; earned = []; settled = true }) 0 (1 ∷ 2 ∷ 2 ∷ []) ≡ Some (ask.NoSuchScreen 1)
example_wrong = refl

-- with two modes, state 1 is a mode and state 2 is not
example_mode : give_answer 2 3 blank (entry 1 2 2) ≡ Err give.ModeInSet
example_mode = refl

example_given : give_after 2 3 blank (entry 1 2 4) ≡ opened (entry 1 2 4 ∷ []) 0
example_given = refl

example_twice : give_answer 2 3 (opened (entry 1 2 4 ∷ []) 0) (entry 1 2 4) ≡ Err give.AlreadyGiven
example_twice = refl
