-- Why rules are refused.
use Rattle.std.specs.Prelude.{ℕ, ◌==◌, List, [], ◌∷◌, ◌++◌, length, Option, Some, None, nat_lt, if◌then◌else◌}
use Rattle.std.specs.Option.{option_or}
use Rattle.flow_counts.specs.declared.profile.TheConstants.{MAX_PREFIX, MAX_RULES}
use Rattle.capture_form.specs.Rules.{RuleText}
use Rattle.capture_form.specs.Reading.{has_prefix}
use Rattle.address_table.specs.declared.fault.RulesFault.{RulesFault}
use Rattle.address_table.specs.declared.fault.RulesFault.TheVariants.{Duplicate, TooMany, Empty, Memory, TooLong}

-- the number of a fault
abbrev pub fault_number : RulesFault → ℕ
fault_number Duplicate = 1
fault_number TooMany = 2
fault_number Empty = 3
fault_number Memory = 4
fault_number TooLong = 5

-- what is wrong with a rule after those earlier ones (own rules)
abbrev pub rule_fault : List RuleText → RuleText → Option RulesFault
rule_fault earlier rule =
    if length rule.prefix == 0 then Some Empty
    else (if nat_lt MAX_PREFIX (length rule.prefix) then Some TooLong
    else (if has_prefix earlier rule.prefix then Some Duplicate else None))

-- the first fault of these rules after those earlier ones
abbrev pub first_fault : List RuleText → List RuleText → Option RulesFault
first_fault earlier [] = None
first_fault earlier (rule ∷ rules) = option_or (rule_fault earlier rule) (first_fault (earlier ++ rule ∷ []) rules)

-- the first fault of the rules of a router
abbrev pub rules_fault : List RuleText → Option RulesFault
rules_fault rules = if nat_lt MAX_RULES (length rules) then Some TooMany else first_fault [] rules
