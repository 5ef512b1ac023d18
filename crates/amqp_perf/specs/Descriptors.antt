-- The descriptors of performatives and of what is nested in them (part 2, sections 2.7 and 2.8; part 3; part 4).
use Rattle.std.specs.Prelude.{ℕ, List, Option, Some, None, option_map, option_and_then, codes, ◌==◌, if◌then◌else◌}
use Rattle.std.specs.Option.{option_zip}
use Rattle.std.specs.Str.{bytes_eq}
use Rattle.amqp_types.specs.Part.{Part, Seen}
use Rattle.amqp_types.specs.Items.{descriptor_of, described_of}
use Rattle.amqp_types.specs.Typed.{ulong_in, symbol_in, list_in}
use Rattle.amqp_perf.specs.declared.descriptor.Descriptor.{Descriptor}
use Rattle.amqp_perf.specs.declared.descriptor.Descriptor.TheVariants.{Performative, Error, Outcome, Source, Target, Coordinator}
use Rattle.amqp_perf.specs.declared.descriptor.PerformativeKind.TheVariants as kinds
use Rattle.amqp_perf.specs.declared.descriptor.Outcome.TheVariants.{Accepted, Rejected, Released, Modified}

-- what a descriptor names that is a number
unfoldable pub descriptor_of_code : ℕ → Option Descriptor
descriptor_of_code n =
    if n == 0x10 then Some (Performative kinds.Open) else
    if n == 0x11 then Some (Performative kinds.Begin) else
    if n == 0x12 then Some (Performative kinds.Attach) else
    if n == 0x13 then Some (Performative kinds.Flow) else
    if n == 0x14 then Some (Performative kinds.Transfer) else
    if n == 0x15 then Some (Performative kinds.Disposition) else
    if n == 0x16 then Some (Performative kinds.Detach) else
    if n == 0x17 then Some (Performative kinds.End) else
    if n == 0x18 then Some (Performative kinds.Close) else
    if n == 0x1D then Some Error else
    if n == 0x24 then Some (Outcome Accepted) else
    if n == 0x25 then Some (Outcome Rejected) else
    if n == 0x26 then Some (Outcome Released) else
    if n == 0x27 then Some (Outcome Modified) else
    if n == 0x28 then Some Source else
    if n == 0x29 then Some Target else
    if n == 0x30 then Some Coordinator else None

-- what a descriptor names that is a symbol
unfoldable pub descriptor_of_name : List ℕ → Option Descriptor
descriptor_of_name name =
    if bytes_eq name (codes "amqp:open:list") then Some (Performative kinds.Open) else
    if bytes_eq name (codes "amqp:begin:list") then Some (Performative kinds.Begin) else
    if bytes_eq name (codes "amqp:attach:list") then Some (Performative kinds.Attach) else
    if bytes_eq name (codes "amqp:flow:list") then Some (Performative kinds.Flow) else
    if bytes_eq name (codes "amqp:transfer:list") then Some (Performative kinds.Transfer) else
    if bytes_eq name (codes "amqp:disposition:list") then Some (Performative kinds.Disposition) else
    if bytes_eq name (codes "amqp:detach:list") then Some (Performative kinds.Detach) else
    if bytes_eq name (codes "amqp:end:list") then Some (Performative kinds.End) else
    if bytes_eq name (codes "amqp:close:list") then Some (Performative kinds.Close) else
    if bytes_eq name (codes "amqp:error:list") then Some Error else
    if bytes_eq name (codes "amqp:accepted:list") then Some (Outcome Accepted) else
    if bytes_eq name (codes "amqp:rejected:list") then Some (Outcome Rejected) else
    if bytes_eq name (codes "amqp:released:list") then Some (Outcome Released) else
    if bytes_eq name (codes "amqp:modified:list") then Some (Outcome Modified) else
    if bytes_eq name (codes "amqp:source:list") then Some Source else
    if bytes_eq name (codes "amqp:target:list") then Some Target else
    if bytes_eq name (codes "amqp:coordinator:list") then Some Coordinator else None

-- what a descriptor names by its code, or else by its name
abbrev pub descriptor_by : Option ℕ → Option (List ℕ) → Option Descriptor
descriptor_by (Some code) name = descriptor_of_code code
descriptor_by None name = option_and_then descriptor_of_name name

-- what a value names that is a descriptor: an ulong or a symbol (part 1, section 1.5)
abbrev pub descriptor_named : Part → Option Descriptor
descriptor_named part = descriptor_by (ulong_in part) (symbol_in part)

-- what the descriptor of a described list names, and the list's items (part 1, section 1.4)
abbrev pub described_list : Part → Option (Descriptor × List Seen)
described_list part = option_zip
    (option_and_then (λ descriptor. descriptor_named descriptor.part) (descriptor_of part))
    (option_and_then (λ described. list_in described.part) (described_of part))

-- what the descriptor of a list names, with the list's items
abbrev pub named_list : Option (Seen × List Seen) → Option (Descriptor × List Seen)
named_list None = None
named_list (Some list) = option_map (λ descriptor. (descriptor, list.1)) (descriptor_named list.0.part)
