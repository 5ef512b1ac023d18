-- Reading what a SASL frame says, with the first fault: the value, the descriptor, the number of fields, then each field.
use Rattle.std.specs.Prelude.{ℕ, List, Option, Some, None, option_and_then, Result, Ok, Err}
use Rattle.std.specs.Option.{option_zip}
use Rattle.amqp_types.specs.Part.{Part, Seen}
use Rattle.amqp_types.specs.Items.{descriptor_of, described_of}
use Rattle.amqp_types.specs.Typed.{list_in}
use Rattle.amqp_types.specs.Reading.{Read, seen_at}
use Rattle.flow_counts.specs.declared.profile.TheConstants.{MAX_DEPTH}
use Rattle.amqp_perf.specs.declared.fault.PerfFault.{PerfFault}
use Rattle.amqp_perf.specs.declared.fault.PerfFault.TheVariants.{Value, NotPerformative}
use Rattle.amqp_perf.specs.Fields.{table_fault}
use Rattle.amqp_frames.specs.declared.sasl.SaslKind.{SaslKind}
use Rattle.amqp_frames.specs.Sasl.{Saying, kind_named, sasl_table, saying_of}

-- what the descriptor of a described list names, and the list's items (part 1, 1.4)
abbrev pub sasl_list : Part → Option (SaslKind × List Seen)
sasl_list part = option_zip
    (option_and_then (λ descriptor. kind_named descriptor.part) (descriptor_of part))
    (option_and_then (λ described. list_in described.part) (described_of part))

-- what is said, unless there is a fault
abbrev pub said_or : Saying → Option PerfFault → Result Saying PerfFault
said_or saying (Some fault) = Err fault
said_or saying None = Ok saying

-- what fields say, where they fit the table of their frame
abbrev pub checked : SaslKind → List Seen → Result Saying PerfFault
checked kind fields = said_or (saying_of kind fields) (table_fault (sasl_table kind) fields)

abbrev pub said_of : Option (SaslKind × List Seen) → Result Saying PerfFault
said_of (Some (kind, fields)) = checked kind fields
said_of None = Err NotPerformative

-- what a value says in a SASL frame
abbrev pub said : Part → Result Saying PerfFault
said part = said_of (sasl_list part)

-- what a value that was read says; the octets behind it are passed over (own rule)
abbrev pub said_by : Read Seen → Result Saying PerfFault
said_by (Ok x) = said x.0.part
said_by (Err fault) = Err (Value fault)

-- what the body of a SASL frame says
unfoldable pub sasl_at : List ℕ → Result Saying PerfFault
sasl_at body = said_by (seen_at MAX_DEPTH 0 body)
