-- Reading a performative, with the first fault: the value, the descriptor, the number of fields, then each field.
use Rattle.std.specs.Prelude.{ℕ, List, length, Option, Some, None, Result, Ok, Err, nat_lt, if◌then◌else◌}
use Rattle.amqp_types.specs.Part.{Part, Seen}
use Rattle.amqp_types.specs.Reading.{Read, seen_at}
use Rattle.flow_counts.specs.declared.profile.TheConstants.{MAX_DEPTH}
use Rattle.amqp_perf.specs.declared.fault.PerfFault.{PerfFault}
use Rattle.amqp_perf.specs.declared.fault.PerfFault.TheVariants.{Value, NotPerformative, TooManyFields}
use Rattle.amqp_perf.specs.declared.descriptor.PerformativeKind.{PerformativeKind}
use Rattle.amqp_perf.specs.declared.descriptor.Descriptor.{Descriptor}
use Rattle.amqp_perf.specs.declared.descriptor.Descriptor.TheVariants.{Performative}
use Rattle.amqp_perf.specs.Descriptors.{described_list}
use Rattle.amqp_perf.specs.Tables.{table_of}
use Rattle.amqp_perf.specs.Fields.{first_fault}
use Rattle.amqp_perf.specs.Meaning.{Meaning, meaning_of}

-- a meaning, unless there is a fault
abbrev pub said_or : Meaning → Option PerfFault → Result Meaning PerfFault
said_or meaning (Some fault) = Err fault
said_or meaning None = Ok meaning

-- what fields say, where they fit the table of their performative
abbrev pub checked : PerformativeKind → List Seen → Result Meaning PerfFault
checked kind fields =
    if nat_lt (length (table_of kind)) (length fields) then Err TooManyFields
    else said_or (meaning_of kind fields) (first_fault 1 (table_of kind) fields)

-- what a described list says as a performative
abbrev pub said_of : Option (Descriptor × List Seen) → Result Meaning PerfFault
said_of (Some (Performative kind, fields)) = checked kind fields
said_of other = Err NotPerformative

-- what a value says as a performative
abbrev pub said : Part → Result Meaning PerfFault
said part = said_of (described_list part)

-- what was read, with the octets behind it
abbrev pub before : List ℕ → Result Meaning PerfFault → Result (Meaning × List ℕ) PerfFault
before rest (Ok meaning) = Ok (meaning, rest)
before rest (Err fault) = Err fault

-- what a value that was read says as a performative
abbrev pub said_by : Read Seen → Result (Meaning × List ℕ) PerfFault
said_by (Ok x) = before x.1 (said x.0.part)
said_by (Err fault) = Err (Value fault)

-- a performative at the front of these octets, and what stands behind it
unfoldable pub performative_at : List ℕ → Result (Meaning × List ℕ) PerfFault
performative_at bytes = said_by (seen_at MAX_DEPTH 0 bytes)
