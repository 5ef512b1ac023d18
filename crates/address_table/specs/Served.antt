-- The rules that a router serves by, and those of a capture beside them. Own rules.
use Rattle.std.specs.Prelude.{◌≡◌, Bool, true, false}
use Rattle.capture_form.specs.declared.rules.Form.{Form}
use Rattle.capture_form.specs.declared.rules.Form.TheVariants.{One, Two}
use Rattle.capture_form.specs.Rules.{RuleSet, AreRules, serves_anonymous}

-- whether it is the form that has a mark
abbrev pub is_two : Form → Bool
is_two One = false
is_two (Two anonymous) = true

-- what a router serves by: rules that a capture may have, in the form of its captures
pub record AreServed (rules : RuleSet) : Type 0 where
  pub are_rules : AreRules rules
  pub form : is_two rules.form ≡ true

-- the same rules in the same order, and anonymous senders are served by both or by none; the forms may differ
pub record AreSameRules (rules others : RuleSet) : Type 0 where
  pub list : rules.list ≡ others.list
  pub anonymous : serves_anonymous rules ≡ serves_anonymous others
