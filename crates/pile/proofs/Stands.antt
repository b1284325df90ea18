-- Whatever was called, the pile means the plan under its locked keys and its setting.
use Rattle.std.proofs.Common.{◌≡◌, sym, ap, ◌∙◌, subst}
use Rattle.image.specs.Held.{book_in}
use Rattle.image.specs.declared.image.Image.{Image}
use Rattle.lock.specs.Life.{Lived as LockLived}
use Rattle.lock.specs.Life.Lived.{made as lock_made, locks as lock_locks}
use Rattle.lock.specs.Lock.{keys_of, lock_book}
use Rattle.lock.specs.Locked.{locked}
use Rattle.lock.specs.declared.lock.Lock.{Lock}
use Rattle.lock.proofs.Lives.{always_lists, only_leaves_out, same_below}
use Rattle.allowance.specs.Allowed.{under}
use Rattle.allowance.specs.Life.{Lived as AllowanceLived}
use Rattle.allowance.specs.Life.LivedOver.{made as allowance_made, sets as allowance_sets, follows as allowance_follows}
use Rattle.allowance.proofs.Lives.{always_allows}
use Rattle.pile.specs.Life.{PileLived, PileStands}
use Rattle.pile.specs.Life.PileLived.{made, sets, locks}
use Rattle.pile.specs.Pile.{Pile}

-- both layers have lived, over one plan
record Standing (plan : Image) (p : Pile) : Type 0 where
  low : LockLived book_in p.below
  high : AllowanceLived (lock_book book_in) p
  book : book_in p.below.below ≡ book_in plan

standing : (plan : Image) (p : Pile) → PileLived plan p → Standing plan p
standing plan u (made p h) =
    record {
      low = lock_made plan p.below h.low;
      high = allowance_made p.below p h.high;
      book = ap book_in h.low.below;
    }
standing plan u (sets p key A r q l h) =
    let before = standing plan p l in
    record {
      low = subst (LockLived book_in) (sym h.below) before.low;
      high = allowance_sets p key A r q before.high h;
      book = ap (λ (l : Lock Image). book_in l.below) h.below ∙ before.book;
    }
standing plan u (locks p key r q l h f) =
    let before = standing plan p l in
    record {
      low = lock_locks p.below key r q.below before.low h;
      high = allowance_follows p r q before.high f (only_leaves_out book_in p.below key r q.below before.low h);
      book = sym (same_below book_in p.below key r q.below h) ∙ before.book;
    }

pub pile_stands : PileStands
pile_stands plan p l =
    let s = standing plan p l in
    always_allows (lock_book book_in) p s.high
    ∙ ap (under p.setting) (always_lists book_in p.below s.low ∙ ap (locked (keys_of p.below)) s.book)
