-- The state that a list is which a number describes.
use Rattle.std.proofs.Common.{◌≡◌, ℕ, List, true, Option, Some, None, option_map, option_and_then, is_some, refl, ap, ◌∙◌}
use Rattle.std.specs.Option.{option_zip}
use Rattle.amqp_types.specs.Part.{Seen}
use Rattle.amqp_types.specs.Items.{descriptor_of, described_of}
use Rattle.amqp_types.specs.Typed.{ulong_in, list_in}
use Rattle.amqp_types.specs.Listed.{IsNumbered}
use Rattle.amqp_perf.specs.declared.descriptor.Descriptor.{Descriptor}
use Rattle.amqp_perf.specs.declared.descriptor.Descriptor.TheVariants as descriptors
use Rattle.amqp_perf.specs.Descriptors.{descriptor_named, descriptor_of_code}
use Rattle.amqp_perf.specs.Nested.{outcome_named, outcome_of, state_in}

named_by : (o : Option Descriptor) (items : List Seen) → outcome_of (option_zip o (Some items)) ≡ outcome_named o
named_by None items = refl
named_by (Some (descriptors.Performative kind)) items = refl
named_by (Some descriptors.Error) items = refl
named_by (Some (descriptors.Outcome outcome)) items = refl
named_by (Some descriptors.Source) items = refl
named_by (Some descriptors.Target) items = refl
named_by (Some descriptors.Coordinator) items = refl

-- by its descriptor and its items
numbered_by : (n : ℕ) (d : Option Seen) (l : Option (List Seen)) → option_map (λ (list : Seen × List Seen). ulong_in list.0.part) (option_zip d l) ≡ Some (Some n)
    → (is_some d ≡ true) × (outcome_of (option_zip (option_and_then (λ (x : Seen). descriptor_named x.part) d) l) ≡ outcome_named (descriptor_of_code n))
numbered_by n None l e = absurd cc
numbered_by n (Some x) None e = absurd cc
numbered_by n (Some x) (Some items) e =
    let number : ulong_in x.part ≡ Some n = cc in
    let named : descriptor_named x.part ≡ descriptor_of_code n = rw number refl in
    (refl, ap (λ (o : Option Descriptor). outcome_of (option_zip o (Some items))) named ∙ named_by (descriptor_of_code n) items)

pub state_numbered : (value : Seen) (n : ℕ) → IsNumbered value.part n → state_in value ≡ Some (record { octets = value.octets; outcome = outcome_named (descriptor_of_code n) })
state_numbered value n is =
    let by = numbered_by n (descriptor_of value.part) (option_and_then (λ (described : Seen). list_in described.part) (described_of value.part)) is in
    rw (by.0, by.1) refl
