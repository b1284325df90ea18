-- The number by which users know each refusal of an allowance.
use Rattle.std.specs.Prelude.{ℕ}
use Rattle.allowance.specs.declared.refusal.SettingRefusal.{SettingRefusal}
use Rattle.allowance.specs.declared.refusal.SettingRefusal.TheVariants.{NoSuchKey, DoesNotFit}

abbrev pub number_of : SettingRefusal → ℕ
number_of NoSuchKey = 5
number_of DoesNotFit = 8
