-- Where the rules of an allowance stand in its list.
use Rattle.std.proofs.Common.{◌≡◌, ℕ, zero, suc, ◌+◌, ◌*◌, ◌/◌, ◌%◌, ◌<◌, ◌≤◌, ltb, List, map, length, is_some, Some, None, Option, sym, ap, ◌∙◌, mul-le-mul_right, mod-lt, suc-mul, div-add-mod', mul-zero, arith}
use Rattle.std.specs.List.{range_with_len, flat_map, slice_get}
use Rattle.std.specs.Option.{option_map, IfSome}
use Rattle.std.proofs.lemmas.Bool.Decides.{nat_tests}
use Rattle.std.proofs.lemmas.Grind.{common_steps}
use Rattle.std.proofs.lemmas.List.{length-map}
use Rattle.std.proofs.lemmas.Option.{slice_get-map, slice_get_past, gets}
use Rattle.rulebook.specs.Book.{Book, Rule}
use Rattle.lock.specs.Places.{picks}
use Rattle.allowance.specs.Allowance.{Comes}
use Rattle.allowance.specs.Allowed.{leveled}
use Rattle.allowance.specs.Levels.{length-leveled}
use Rattle.allowance.specs.Moved.{rule_with}
use Rattle.allowance.specs.declared.setting.Origin.{Origin}
use Rattle.allowance.specs.declared.setting.Setting.{Setting}

-- lists of one length, one after another: the r-th of the q-th of them
nth_levels : {X : Type 0} (f : ℕ → List X) (n i m q r : ℕ) → ((l : ℕ) → length (f l) ≡ n) → q < m → r < n → slice_get (flat_map f (range_with_len i m)) (q * n + r) ≡ slice_get (f (i + q)) r
nth_levels f n i zero q r len h l = absurd (omega arith)
nth_levels f n i (suc m) zero r len h l = grind (arith, common_steps, gets, len i)
nth_levels f n i (suc m) (suc q) r len h l = grind (arith, common_steps, gets, suc-mul, len i, nth_levels f n (i + 1) m q r len (omega arith) l)

-- in a list of levels, k is `above` after the c rules with none left
module _ (counted A P : ℕ) (first rules : List Rule) (k c n above : ℕ) (here : c ≡ length first) (below : n ≡ length rules) (later : k ≡ c + above) where
  -- where some are left
  pub origin_level : 0 < n → above / n < A → slice_get (leveled counted A P first rules) k ≡ option_map (rule_with counted P (above / n + 1)) (slice_get rules (above % n))
  origin_level some fits =
      let level : ℕ → List Rule = λ l. map (rule_with counted P l) rules in
      let there = nth_levels level n 1 A (above / n) (above % n) (λ l. length-map rules (rule_with counted P l) ∙ sym below) fits (mod-lt above some) in
      grind (arith, common_steps, gets, slice_get-map, div-add-mod' above n, there)

  -- beyond the last
  pub origin_none : A * n ≤ above → slice_get (leveled counted A P first rules) k ≡ None
  origin_none h = slice_get_past (leveled counted A P first rules) k (grind (arith, length-leveled counted A P first rules))

-- after the rules with none left, where there is no rule below
pub comes_nowhere : (places : List ℕ) (s : Setting) (b : Book) (k c n above : ℕ) → c ≡ length (picks places b.rules) → n ≡ length b.rules → k ≡ c + above → n ≡ 0 → Comes places s b k None
comes_nowhere places s b k c n above here below later none =
    origin_none s.key s.most b.modes (picks places b.rules) b.rules k c n above here below later (omega (arith, ap (λ (m : ℕ). s.most * m) none, mul-zero s.most))

-- after the rules with none left, the level is told where there is one
pub comes_above : (places : List ℕ) (s : Setting) (b : Book) (k c n above level : ℕ) (r : Option Origin) → c ≡ length (picks places b.rules) → n ≡ length b.rules → k ≡ c + above → 0 < n → level ≡ above / n → is_some r ≡ ltb level s.most → IfSome r (λ o. (o.left ≡ level + 1) × (o.place ≡ above % n)) → Comes places s b k r
comes_above places s b k c n above level None here below later some at variant made =
    let over : s.most ≤ above / n = grind (arith, nat_tests) in
    origin_none s.key s.most b.modes (picks places b.rules) b.rules k c n above here below later (omega (arith, mul-le-mul_right n over, div-add-mod' above n))
comes_above places s b k c n above level (Some o) here below later some at variant made =
    let fits : level < s.most = grind (arith, nat_tests) in
    (grind (arith, origin_level s.key s.most b.modes (picks places b.rules) b.rules k c n above here below later some), omega (arith, made.0, fits))
