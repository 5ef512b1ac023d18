-- Passing over sections one after the other.
use Rattle.std.proofs.Common.{◌≡◌, refl, sym, ◌∙◌, ℕ, suc, ◌+◌, ◌-◌, ◌≤◌, ◌<◌, List, length, Option, Some, None, arith}
use Rattle.amqp_cuts.specs.declared.section.Named.{Named}
use Rattle.amqp_cuts.specs.declared.section.Named.TheVariants.{PassedOver, Properties}
use Rattle.amqp_cuts.specs.Sections.{section_at, to_in, to_past, to_within}

-- one section, where so many of all that may follow were passed over
next : (octets : List ℕ) (all passed at : ℕ) (section : Option (Named × ℕ × ℕ)) → passed < all → section_at octets at (length octets) ≡ section
    → to_within octets (all - passed) at ≡ to_past section octets (to_within octets (all - (passed + 1)))
unfolding to_within
next octets all passed at section lt is =
    let one : all - passed ≡ suc (all - (passed + 1)) = omega (arith, lt) in
    rw (one, is) refl

-- it is none
pub stops : (octets : List ℕ) (all passed at : ℕ) (whole : Option (ℕ × ℕ)) → passed < all → section_at octets at (length octets) ≡ None → to_within octets (all - passed) at ≡ whole → None ≡ whole
stops octets all passed at whole lt is same = sym (next octets all passed at None lt is) ∙ same

-- it is the properties
pub ends : (octets : List ℕ) (all passed at value end : ℕ) (whole : Option (ℕ × ℕ)) → passed < all → section_at octets at (length octets) ≡ Some (Properties, value, end) → to_within octets (all - passed) at ≡ whole
    → to_in octets value end ≡ whole
ends octets all passed at value end whole lt is same = sym (next octets all passed at (Some (Properties, value, end)) lt is) ∙ same

-- it is passed over
pub passes : (octets : List ℕ) (all passed at value end : ℕ) (whole : Option (ℕ × ℕ)) → passed < all → section_at octets at (length octets) ≡ Some (PassedOver, value, end) → to_within octets (all - passed) at ≡ whole
    → to_within octets (all - (passed + 1)) end ≡ whole
passes octets all passed at value end whole lt is same = sym (next octets all passed at (Some (PassedOver, value, end)) lt is) ∙ same

-- no more may follow
pub none_left : (octets : List ℕ) (all passed at : ℕ) (whole : Option (ℕ × ℕ)) → all ≤ passed → to_within octets (all - passed) at ≡ whole → None ≡ whole
unfolding to_within
none_left octets all passed at whole le same =
    let none : all - passed ≡ 0 = omega (arith, le) in
    let step : to_within octets (all - passed) at ≡ None = rw none refl in
    sym step ∙ same
