-- The number by which users know each refusal of a lock.
use Rattle.std.specs.Prelude.{ℕ}
use Rattle.lock.specs.declared.refusal.LockRefusal.{LockRefusal}
use Rattle.lock.specs.declared.refusal.LockRefusal.TheVariants.{NoSuchKey, AlreadyLocked, Full}

abbrev pub number_of : LockRefusal → ℕ
number_of NoSuchKey = 5
number_of AlreadyLocked = 6
number_of Full = 7
