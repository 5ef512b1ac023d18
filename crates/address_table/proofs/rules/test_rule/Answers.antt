use Rattle.std.proofs.Common.{◌≡◌, ◌≤◌, length, arith, true}
use Rattle.std.specs.Str.{is_utf8}
use Rattle.std.proofs.lemmas.Bool.Decides.{nat_tests}
use Rattle.flow_counts.specs.declared.profile.TheConstants.{MAX_PREFIX}
use Rattle.capture_form.proofs.Utf8.{is_text}
use Rattle.address_table.proofs.rules.test_rule.Goals as goal

pub returns-clause-rule : goal.returns-clause-rule
returns-clause-rule c =
    let short : length c.as_str-prefix.result.now ≤ MAX_PREFIX = c.if-prefix-gt-MAX_PREFIX.false in
    let text : is_utf8 c.as_str-prefix.result.now ≡ true = is_text c.as_str-prefix.result.now c.as_str-prefix.utf8 in
    record { some_prefix = grind (arith, nat_tests); short_prefix = rw (← c.rule.view_is, ← c.as_str-prefix.ensures.value) short; text_prefix = rw (← c.rule.view_is, ← c.as_str-prefix.ensures.value) text }
