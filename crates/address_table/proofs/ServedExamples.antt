-- Rules of a capture that are those of a router, and such that are not.
use Rattle.std.proofs.Common.{◌≡◌, true, false, List, [], ◌∷◌, refl, ap}
use Rattle.std.specs.Prelude.{codes}
use Rattle.capture_form.specs.declared.rules.Distribution.{Distribution}
use Rattle.capture_form.specs.declared.rules.Distribution.TheVariants.{Closest, Balanced, Multicast}
use Rattle.capture_form.specs.declared.rules.Form.{Form}
use Rattle.capture_form.specs.declared.rules.Form.TheVariants.{One, Two}
use Rattle.capture_form.specs.Rules.{RuleText, RuleSet, no_rules, serves_anonymous}
use Rattle.address_table.specs.Served.{AreServed, AreSameRules}

to_all : RuleText
to_all = record { distribution = Multicast; prefix = codes "all" }

closest : RuleText
closest = record { distribution = Closest; prefix = codes "near" }

-- two rules, in a form
both : Form → RuleSet
both form = record { form = form; list = to_all ∷ closest ∷ [] }

-- the second one in front
turned : Form → RuleSet
turned form = record { form = form; list = closest ∷ to_all ∷ [] }

abbrev first_distribution : List RuleText → Distribution
first_distribution [] = Balanced
first_distribution (rule ∷ rules) = rule.distribution

-- form One is as form Two without the mark
across_forms : AreSameRules (both One) (both (Two false))
unfolding both
across_forms = record { list = refl; anonymous = refl }

marked_too : AreSameRules (both (Two true)) (both (Two true))
marked_too = record { list = refl; anonymous = refl }

-- the list fails alone: in another order the rules are others
other_list : (serves_anonymous (turned (Two true)) ≡ serves_anonymous (both (Two true))) × (AreSameRules (turned (Two true)) (both (Two true)) → ⊥)
unfolding both turned to_all closest
other_list = (refl, λ same. let first : Closest ≡ Multicast = ap first_distribution same.list in absurd cc)

-- and so it does where a rule is lacking
fewer : AreSameRules no_rules (both (Two false)) → ⊥
unfolding both
fewer same = absurd (cc same.list)

-- the mark fails alone, of either form
other_mark : ((both (Two false)).list ≡ (both (Two true)).list) × (AreSameRules (both (Two false)) (both (Two true)) → ⊥)
unfolding both
other_mark = (refl, λ same. absurd (cc same.anonymous))

one_has_no_mark : ((both One).list ≡ (both (Two true)).list) × (AreSameRules (both One) (both (Two true)) → ⊥)
unfolding both
one_has_no_mark = (refl, λ same. absurd (cc same.anonymous))

-- a router's captures have the form with a mark
form_one_is_not_served : AreServed (both One) → ⊥
unfolding both
form_one_is_not_served served = absurd (cc served.form)
