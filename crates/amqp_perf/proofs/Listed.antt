-- A described list that is read in one go says what its value says.
use Rattle.std.proofs.Common.{◌≡◌, refl, ap, ◌∙◌, ℕ, List, Option, Some, None, option_map, Ok, Err}
use Rattle.std.specs.Prelude.{option_and_then}
use Rattle.std.specs.Option.{option_zip}
use Rattle.amqp_types.specs.declared.fault.ValueFault.{ValueFault}
use Rattle.amqp_types.specs.Part.{Seen}
use Rattle.amqp_types.specs.Items.{descriptor_of, described_of}
use Rattle.amqp_types.specs.Typed.{list_in}
use Rattle.amqp_types.specs.Reading.{Read}
use Rattle.amqp_types.specs.Listed.{listed, listed_in}
use Rattle.amqp_types.proofs.Steps.{ok_is}
use Rattle.amqp_perf.specs.declared.descriptor.Descriptor.{Descriptor}
use Rattle.amqp_perf.specs.declared.fault.PerfFault.TheVariants.{Value}
use Rattle.amqp_perf.specs.Descriptors.{descriptor_named, named_list}
use Rattle.amqp_perf.specs.Reading.{said_by, said_of, before}

no_items : (names : Option Descriptor) → ◌≡◌ {A = Option (Descriptor × List Seen)} (option_zip names None) None
no_items None = refl
no_items (Some descriptor) = refl

with_items : (names : Option Descriptor) (items : List Seen) → option_zip names (Some items) ≡ option_map (λ descriptor. (descriptor, items)) names
with_items None items = refl
with_items (Some descriptor) items = refl

named : (descriptor : Option Seen) (items : Option (List Seen)) → option_zip (option_and_then (λ d. descriptor_named d.part) descriptor) items ≡ named_list (option_zip descriptor items)
named None None = refl
named None (Some items) = refl
named (Some d) None = no_items (descriptor_named d.part)
named (Some d) (Some items) = with_items (descriptor_named d.part) items

-- what a value says by its descriptor and its items
pub said_listed : (read : Read Seen) (list : Option (Seen × List Seen)) (rest : List ℕ) → listed read ≡ Ok (list, rest) → said_by read ≡ before rest (said_of (named_list list))
said_listed (Ok x) list rest e =
    let same : ◌≡◌ {A = Option (Seen × List Seen) × List ℕ} (listed_in x.0.part, x.1) (list, rest) = ok_is (listed_in x.0.part, x.1) (list, rest) e in
    ap (λ d. before x.1 (said_of d)) (named (descriptor_of x.0.part) (option_and_then (λ described. list_in described.part) (described_of x.0.part)))
    ∙ ap (λ (p : Option (Seen × List Seen) × List ℕ). before p.1 (said_of (named_list p.0))) same
said_listed (Err fault) list rest e = absurd cc

-- a fault stays
pub fault_listed : (read : Read Seen) (fault : ValueFault) → listed read ≡ Err fault → said_by read ≡ Err (Value fault)
fault_listed (Ok x) fault e = absurd cc
fault_listed (Err d) fault e = cc
