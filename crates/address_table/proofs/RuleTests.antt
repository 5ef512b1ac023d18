-- Rules that are tested one after the other.
use Rattle.std.proofs.Common.{◌≡◌, ◌∙◌, ap, sym, subst, refl, ℕ, ◌+◌, ◌<◌, ◌≤◌, Bool, true, false, cond, List, [], ◌∷◌, ◌++◌, length, take, drop, get_or, Some, None, add-one, append_assoc, arith, eqb, ltb, drop-cons}
use Rattle.std.proofs.Math.Seq.{take-suc}
use Rattle.std.proofs.lemmas.Bool.{le-ltb}
use Rattle.std.specs.List.{AllByRecursion, IsDistinct}
use Rattle.std.specs.Str.{bytes_eq}
use Rattle.std.specs.Option.{option_or}
use Rattle.flow_counts.specs.declared.profile.TheConstants.{MAX_PREFIX, MAX_RULES}
use Rattle.capture_form.specs.Rules.{RuleText, RuleSet, IsRule, AreRules, prefixes}
use Rattle.capture_form.specs.Reading.{has_prefix}
use Rattle.capture_form.proofs.RuleLemmas.{distinct_push, is_new_there}
use Rattle.address_table.specs.declared.fault.RulesFault.{RulesFault}
use Rattle.address_table.specs.declared.fault.RulesFault.TheVariants.{Duplicate, TooMany, Empty, TooLong}
use Rattle.address_table.specs.Refusals.{rule_fault, first_fault, rules_fault}

-- a rule without a fault has a prefix of its own
taken_by : (a b c : Bool) → cond a (Some Empty) (cond b (Some TooLong) (cond c (Some Duplicate) None)) ≡ None → c ≡ false
taken_by true b c e = absurd cc
taken_by false true c e = absurd cc
taken_by false false true e = absurd cc
taken_by false false false e = refl

all_push : (rules : List RuleText) (rule : RuleText) → AllByRecursion IsRule rules → IsRule rule → AllByRecursion IsRule (rules ++ rule ∷ [])
all_push [] rule all h = (h, tt)
all_push (r ∷ rules) rule all h = (all.0, all_push rules rule all.1 h)

-- what is known behind the first i rules
pub record Tested (rules : List RuleText) (i : ℕ) : Type 0 where
  pub each : AllByRecursion IsRule (take i rules)
  pub distinct : IsDistinct bytes_eq (prefixes (take i rules))
  pub faults : first_fault [] rules ≡ first_fault (take i rules) (drop i rules)

pub tested_none : (rules : List RuleText) → Tested rules 0
unfolding IsDistinct
tested_none rules = record { each = tt; distinct = tt; faults = refl }

pub tested_next : (rules : List RuleText) (i : ℕ) (rule : RuleText) → i < length rules → rule ≡ get_or rules i rule → Tested rules i → IsRule rule
    → rule_fault (take i rules) rule ≡ None → Tested rules (i + 1)
tested_next rules i rule lt is tested h none =
    let next : take (i + 1) rules ≡ take i rules ++ rule ∷ [] = rw (add-one, take-suc rules i rule, ← is) refl in
    let rest : drop i rules ≡ rule ∷ drop (i + 1) rules = rw (add-one, drop-cons rules i rule, ← is) refl in
    record {
      each = rw next (all_push (take i rules) rule tested.each h);
      distinct = rw next (distinct_push (take i rules) rule tested.distinct (taken_by (eqb (length rule.prefix) 0) (ltb MAX_PREFIX (length rule.prefix)) (has_prefix (take i rules) rule.prefix) none));
      faults = tested.faults ∙ ap (first_fault (take i rules)) rest ∙ ap (λ f. option_or f (first_fault (take i rules ++ rule ∷ []) (drop (i + 1) rules))) none
          ∙ ap (λ (earlier : List RuleText). first_fault earlier (drop (i + 1) rules)) (sym next);
    }

-- the fault of the first rule that has one
pub tested_fault : (rules : List RuleText) (i : ℕ) (rule : RuleText) (fault : RulesFault) → i < length rules → rule ≡ get_or rules i rule → Tested rules i
    → rule_fault (take i rules) rule ≡ Some fault → first_fault [] rules ≡ Some fault
tested_fault rules i rule fault lt is tested found =
    let rest : drop i rules ≡ rule ∷ drop (i + 1) rules = rw (add-one, drop-cons rules i rule, ← is) refl in
    tested.faults ∙ ap (first_fault (take i rules)) rest ∙ ap (λ f. option_or f (first_fault (take i rules ++ rule ∷ []) (drop (i + 1) rules))) found

-- so of a router's rules, of which there are not too many
pub refusal : (rules items : List RuleText) (i : ℕ) (rule : RuleText) (fault : RulesFault) → rules ≡ items → length rules ≤ MAX_RULES → i < length rules → rule ≡ get_or rules i rule
    → Tested rules i → rule_fault (take i rules) rule ≡ Some fault → rules_fault items ≡ Some fault
refusal rules items i rule fault same few lt is tested found =
    subst (λ (rs : List RuleText). rules_fault rs ≡ Some fault) same
    (ap (λ b. cond b (Some TooMany) (first_fault [] rules)) (le-ltb MAX_RULES (length rules) few) ∙ tested_fault rules i rule fault lt is tested found)

-- a rule of its own has no fault
no_fault : (a b c : Bool) → a ≡ false → b ≡ false → c ≡ false → cond a (Some Empty) (cond b (Some TooLong) (cond c (Some Duplicate) None)) ≡ None
no_fault true b c p q r = absurd cc
no_fault false true c p q r = absurd cc
no_fault false false true p q r = absurd cc
no_fault false false false p q r = refl

not_zero : (n : ℕ) → 1 ≤ n → eqb n 0 ≡ false
not_zero n some = grind arith

-- distinct rules within the bounds have none, whichever stand in front
none_first : (earlier rules : List RuleText) → AllByRecursion IsRule rules → IsDistinct bytes_eq (prefixes (earlier ++ rules)) → first_fault earlier rules ≡ None
none_first earlier [] each distinct = refl
none_first earlier (rule ∷ rules) each distinct =
    let none : rule_fault earlier rule ≡ None =
    no_fault (eqb (length rule.prefix) 0) (ltb MAX_PREFIX (length rule.prefix)) (has_prefix earlier rule.prefix)
    (not_zero (length rule.prefix) each.0.some_prefix) (le-ltb MAX_PREFIX (length rule.prefix) each.0.short_prefix) (is_new_there earlier rule rules distinct) in
    ap (λ f. option_or f (first_fault (earlier ++ rule ∷ []) rules)) none
    ∙ none_first (earlier ++ rule ∷ []) rules each.1 (subst (λ (rs : List RuleText). IsDistinct bytes_eq (prefixes rs)) (sym (append_assoc earlier (rule ∷ []) rules)) distinct)

pub none_refused : (rules : RuleSet) → AreRules rules → rules_fault rules.list ≡ None
none_refused rules are =
    ap (λ b. cond b (Some TooMany) (first_fault [] rules.list)) (le-ltb MAX_RULES (length rules.list) are.few) ∙ none_first [] rules.list are.each are.distinct
