-- The pile of books that the program stands on: an allowance over a lock over the image.
use Rattle.rulebook.specs.Book.{Book}
use Rattle.image.specs.Held.{book_in}
use Rattle.image.specs.declared.image.Image.{Image}
use Rattle.lock.specs.Lock.{lock_book}
use Rattle.lock.specs.declared.lock.Lock.{Lock}
use Rattle.allowance.specs.Allowance.{allowance_book}
use Rattle.allowance.specs.declared.allowance.Allowance.{Allowance}

-- the layers over an image
abbrev pub Pile : Type 0
Pile = Allowance (Lock Image)

-- the book that the pile means
abbrev pub pile_book : Pile → Book
pile_book p = allowance_book (lock_book book_in) p
