-- The proof that an allowance that fits a well-formed book means a well-formed one.
-- A rule book gives that proof with its meaning, so it stands here and not among the proofs.
use Rattle.std.specs.Prelude.{◌≡◌, ℕ, zero, suc, ◌+◌, ◌*◌, ◌<◌, ◌≤◌, true, List, [], ◌∷◌, map, length, Some, None, Option}
use Rattle.std.proofs.Common.{sym, ap, arith, add-one, mul-add, mul-one, mul-le-mul_left, suc-mul, zero-mul}
use Rattle.std.specs.List.{range_with_len, flat_map, AllByRecursion}
use Rattle.std.proofs.ByRecursion.{All-append, All-map, All-weaker, all_kept_by}
use Rattle.std.proofs.lemmas.List.{length-map}
use Rattle.std.proofs.lemmas.List.Sums.{length-filter, count_by-le-length}
use Rattle.std.proofs.lemmas.Bool.{cond_both}
use Rattle.std.proofs.lemmas.Bool.Decides.{nat_tests}
use Rattle.std.proofs.lemmas.Grind.{common_steps}
use Rattle.rulebook.specs.Book.{Book, Rule, AnswerFits, RuleFits, WellFormed}
use Rattle.rulebook.specs.declared.told.Answer.{Answer}
use Rattle.allowance.specs.Allowance.{under_at}
use Rattle.allowance.specs.Allowed.{leveled, allowed, allowed_at, fits, in_force, under, allowance}
use Rattle.lock.specs.Formed.{picks_few, picks_all}
use Rattle.lock.specs.Locked.{free, locked}
use Rattle.lock.specs.Places.{rises_from, picks}
use Rattle.allowance.specs.Moved.{mode_with, answer_with, left_after, rule_with}
use Rattle.allowance.specs.declared.setting.Setting.{Setting}

-- the two bounds of a setting that fits
pub fits_parts : (A : ℕ) (b : Book) → fits A b ≡ true → (b.modes * (A + 1) ≤ 60) × ((A + 1) * length b.rules ≤ 65535)
fits_parts A b e = (grind (arith, nat_tests), grind (arith, nat_tests))

-- a mode of the book below with at most A left
pub mode_fits : (P A l m : ℕ) → m < P → l ≤ A → mode_with P l m < P * (A + 1)
mode_fits P A l m h k = omega (arith, mul-add P A 1, mul-one P, mul-le-mul_left P k)

-- a press leaves no more than there were
pub left_no_more : (counted key l : ℕ) → left_after counted key l ≤ l
left_no_more counted key l = grind (arith, nat_tests)

module _ (P G A : ℕ) where
  answer_fits : (l : ℕ) → l ≤ A → (a : Answer) → AnswerFits P G a → AnswerFits (P * (A + 1)) G (answer_with P l a)
  answer_fits l k a fit = record { mode = mode_fits P A l a.mode fit.mode k; screens = fit.screens }

  rule_fits : (counted l : ℕ) → l ≤ A → (r : Rule) → RuleFits P G r → RuleFits (P * (A + 1)) G (rule_with counted P l r)
  rule_fits counted l k r fit =
      let left : ℕ = left_after counted r.key l in
      let number = length-map r.answers (answer_with P left) in
      let fewer : left ≤ A = omega (arith, left_no_more counted r.key l) in
      record {
        key = fit.key;
        mode = mode_fits P A l r.mode fit.mode k;
        screen = fit.screen;
        some = omega (arith, number, fit.some);
        few = omega (arith, number, fit.few);
        answers = All-map (AnswerFits (P * (A + 1)) G) (answer_with P left) r.answers (All-weaker (AnswerFits P G) (λ a. AnswerFits (P * (A + 1)) G (answer_with P left a)) (answer_fits left fewer) r.answers fit.answers);
      }

  level_fits : (counted l : ℕ) → l ≤ A → (rules : List Rule) → AllByRecursion (RuleFits P G) rules → AllByRecursion (RuleFits (P * (A + 1)) G) (map (rule_with counted P l) rules)
  level_fits counted l k rules fit =
      All-map (RuleFits (P * (A + 1)) G) (rule_with counted P l) rules
      (All-weaker (RuleFits P G) (λ r. RuleFits (P * (A + 1)) G (rule_with counted P l r)) (rule_fits counted l k) rules fit)

module _ {X : Type 0} (f : ℕ → List X) where
  all_levels : (Q : X → Type 0) (i n : ℕ) → ((l : ℕ) → l < i + n → AllByRecursion Q (f l)) → AllByRecursion Q (flat_map f (range_with_len i n))
  all_levels Q i zero h = tt
  all_levels Q i (suc n) h =
      All-append Q (f i) (flat_map f (range_with_len (i + 1) n)) (h i (omega arith)) (all_levels Q (i + 1) n (λ l k. h l (omega arith)))

  -- lists of one length, one after another
  pub length_levels : (k i n : ℕ) → ((l : ℕ) → length (f l) ≡ k) → length (flat_map f (range_with_len i n)) ≡ n * k
  length_levels k i zero h = sym (zero-mul k)
  length_levels k i (suc n) h = grind (arith, common_steps, suc-mul n k, h i, length_levels k (i + 1) n h)

-- how many rules there are in all
pub length-leveled : (counted A P : ℕ) (first rules : List Rule) → length (leveled counted A P first rules) ≡ length first + A * length rules
length-leveled counted A P first rules =
    let level : ℕ → List Rule = λ l. map (rule_with counted P l) rules in
    grind (arith, common_steps, length_levels level (length rules) 1 A (λ l. length-map rules (rule_with counted P l)))

module _ (key A : ℕ) (b : Book) (fit : fits A b ≡ true) (formed : WellFormed b) where
  -- the levels over some of the rules of a book
  leveled_formed :
      (first : List Rule) → length first ≤ length b.rules → AllByRecursion (RuleFits b.modes b.screens) first
      → WellFormed (record { modes = b.modes * (A + 1); screens = b.screens; rules = leveled key A b.modes first b.rules })
  leveled_formed first few each =
      let P : ℕ = b.modes in
      let G : ℕ = b.screens in
      let n : ℕ = length b.rules in
      let bounds = fits_parts A b fit in
      record {
        some_mode = omega (arith, mul-add P A 1, mul-one P, formed.some_mode);
        few_modes = bounds.0;
        some_screen = formed.some_screen;
        few_screens = formed.few_screens;
        few_rules = omega (arith, length-leveled key A P first b.rules, few, bounds.1, suc-mul A n, ap (λ (k : ℕ). k * n) (add-one A));
        rules = All-append (RuleFits (P * (A + 1)) G) (map (rule_with key P 0) first) (flat_map (λ l. map (rule_with key P l) b.rules) (range_with_len 1 A))
            (level_fits P G A key 0 (omega arith) first each)
            (all_levels (λ l. map (rule_with key P l) b.rules) (RuleFits (P * (A + 1)) G) 1 A (λ l k. level_fits P G A key l (omega arith) b.rules formed.rules));
      }

  -- A book in which a key can be pressed so many times is well formed where that fits a well-formed one.
  pub allowed_formed : WellFormed (allowed key A b)
  allowed_formed =
      leveled_formed (locked (key ∷ []) b).rules
      (omega (arith, length-filter (free (key ∷ [])) b.rules, count_by-le-length (free (key ∷ [])) b.rules))
      (all_kept_by (free (key ∷ [])) (RuleFits b.modes b.screens) b.rules formed.rules)

  -- The same with any rising places of the rules that are listed where none is left.
  pub allowed_at_formed : (places : List ℕ) → rises_from 0 places ≡ true → WellFormed (allowed_at places key A b)
  allowed_at_formed places rises =
      leveled_formed (picks places b.rules) (omega (arith, picks_few 0 places b.rules rises)) (picks_all (RuleFits b.modes b.screens) places b.rules formed.rules)

-- an allowance means a well-formed book, whatever it was set to
pub allowance_formed : (places : List ℕ) (s : Option Setting) (b : Book) → rises_from 0 places ≡ true → WellFormed b → WellFormed (under_at places (in_force s b) b)
allowance_formed places None b rises formed = formed
allowance_formed places (Some s) b rises formed =
    cond_both (fits s.most b) (Some s) None (λ o. WellFormed (under_at places o b)) (λ e. allowed_at_formed s.key s.most b e formed places rises) (λ e. formed)

-- and so is a book under a setting, by the definition alone
pub setting_formed : (s : Option Setting) (b : Book) → WellFormed b → WellFormed (allowance s b)
setting_formed None b formed = formed
setting_formed (Some s) b formed =
    cond_both (fits s.most b) (Some s) None (λ o. WellFormed (under o b)) (λ e. allowed_formed s.key s.most b e formed) (λ e. formed)
