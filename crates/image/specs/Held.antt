-- The book that an image stands for.
use Rattle.std.specs.Prelude.{[]}
use Rattle.rulebook.specs.Book.{Book}
use Rattle.image.specs.Plan.{decoded}
use Rattle.image.specs.declared.image.Image.{Image}

-- the book that the image's words say
abbrev pub book_in : Image → Book
book_in i = decoded i.plan.words.now

-- the book of an image before any load: one mode, one screen, no rules
abbrev pub blank : Book
blank = record { modes = 1; screens = 1; rules = [] }
