-- Whatever was called, an allowance means the book below under its setting.
use Rattle.std.proofs.Common.{arith, ◌≡◌, ℕ, is_ok, Some, None, Option, Result, sym, refl, ap, ◌∙◌, subst, ⊎_elim}
use Rattle.std.proofs.lemmas.Bool.{cases_Bool, cond-true}
use Rattle.std.proofs.lemmas.Bool.Decides.{nat_tests}
use Rattle.std.proofs.lemmas.Option.{cond_some}
use Rattle.rulebook.specs.Book.{Book}
use Rattle.lock.specs.Narrower.{Narrower}
use Rattle.allowance.specs.Allowance.{allowance_book, setting_of}
use Rattle.allowance.specs.Allowed.{allowed, allowance, fits, in_force, under}
use Rattle.allowance.specs.Life.{Lived, LivedOver, Sets, AlwaysLists, AlwaysAllows}
use Rattle.allowance.specs.Life.LivedOver.{made, sets, follows}
use Rattle.allowance.specs.declared.allowance.Allowance.{Allowance}
use Rattle.allowance.specs.declared.refusal.SettingRefusal.{SettingRefusal}
use Rattle.allowance.specs.declared.setting.Setting.{Setting}
use Rattle.allowance.proofs.AllowanceLaws.{fitting_lasts}

-- a setting that counts goes on to count while rules are left out
counts_on : (o : Option Setting) (before after : Book) → Narrower before after → in_force o before ≡ o → in_force o after ≡ o
counts_on None before after n e = refl
counts_on (Some s) before after n e = grind (arith, nat_tests, fitting_lasts s.key s.most before after (cond_some (fits s.most before) s s e).0 n)

module _ {B : Type 0} (m : B → Book) where
  -- the setting counts
  counts : (s : Allowance B) → Lived m s → in_force s.setting (m s.below) ≡ s.setting
  counts u (made book s h) = grind (arith, h.setting)
  counts u (sets s key A r t l h) = grind (arith, nat_tests, counts s l, h.value, h.below, h.setting, h.same)
  counts u (follows s r t l h n) =
      let still = counts_on s.setting (m s.below) (m t.below) n (counts s l) in
      grind (arith, h.setting, still)

  -- an allowance means the book below under its setting
  abbrev Means : Allowance B → Type 0
  Means s = allowance_book m s ≡ allowance s.setting (m s.below)

  means_set : (s : Allowance B) (key A : ℕ) (r : Result ℕ SettingRefusal) (t : Allowance B) → Means s → Sets m s key A r t → Means t
  means_set s key A r t before h =
      ⊎_elim
      (λ ok.
      let stored : t.setting ≡ Some (setting_of key A) = h.setting ∙ cond-true (is_ok r) (Some (setting_of key A)) s.setting ok in
      let counted : in_force t.setting (m t.below) ≡ t.setting = grind (arith, nat_tests, ok, h.value, h.below, stored) in
      h.meaning ok ∙ sym (ap (λ (o : Option Setting). under o (m t.below)) (counted ∙ stored) ∙ ap (λ (b : B). allowed key A (m b)) h.below))
      (λ refused. subst Means (sym (h.same refused)) before)
      (cases_Bool (is_ok r))

  means : (R : Book → Book → Type 0) (s : Allowance B) → LivedOver m R s → Means s
  means R u (made book s h) = h.meaning ∙ ap m (sym h.below) ∙ ap (λ (o : Option Setting). allowance o (m s.below)) (sym h.setting)
  means R u (sets s key A r t l h) = means_set s key A r t (means R s l) h
  means R u (follows s r t l h n) =
      ⊎_elim
      (λ ok. h.meaning ok ∙ ap (λ (o : Option Setting). allowance o (m t.below)) (sym h.setting))
      (λ refused. subst Means (sym (h.same refused)) (means R s l))
      (cases_Bool (is_ok r))

  pub always_lists : AlwaysLists m
  always_lists s l =
      let means : Means s = means (λ before after. Unit) s l in
      record { places = means; counted = λ x is fit. means ∙ grind (arith, is, fit) }

  pub always_allows : AlwaysAllows m
  always_allows s l = means Narrower s l ∙ ap (λ (o : Option Setting). under o (m s.below)) (counts s l)
