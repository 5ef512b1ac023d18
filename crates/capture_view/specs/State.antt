-- What a state of a delivery tells beside its outcome: the error of a rejected one (part 3, 3.4.3; part 2, 2.8.14), and what a
-- modified one says of its delivery (part 3, 3.4.5). And the name of an outcome.
use Rattle.std.specs.Prelude.{ℕ, Bool, false, List, Option, Some, None, Ok, Err, codes, ◌==◌, if◌then◌else◌}
use Rattle.std.specs.Str.{bytes_eq}
use Rattle.flow_counts.specs.declared.profile.TheConstants.{MAX_DEPTH}
use Rattle.amqp_types.specs.Part.{Part, Seen}
use Rattle.amqp_types.specs.Listed.{listed_in}
use Rattle.amqp_types.specs.Reading.{Read, seen_at}
use Rattle.amqp_types.specs.Typed.{boolean_in, symbol_in, ulong_in}
use Rattle.amqp_perf.specs.declared.descriptor.Outcome.{Outcome}
use Rattle.amqp_perf.specs.declared.descriptor.Outcome.TheVariants.{Accepted, Rejected, Released, Modified}
use Rattle.amqp_perf.specs.FieldPlaces.{first, others}
use Rattle.amqp_perf.specs.Meaning.{flag}
use Rattle.amqp_perf.specs.Nested.{StateFields}
use Rattle.capture_view.specs.declared.state.ModifiedTold.{ModifiedTold}

-- whether a name is that of an error (part 2, 2.8.14)
abbrev pub names_error : Option (List ℕ) → Bool
names_error None = false
names_error (Some name) = bytes_eq name (codes "amqp:error:list")

-- whether a descriptor that says a number, or else a name, is that of an error
abbrev pub describes_error : Option ℕ → Option (List ℕ) → Bool
describes_error (Some code) name = code == 0x1D
describes_error None name = names_error name

abbrev pub is_error : Part → Bool
is_error descriptor = describes_error (ulong_in descriptor) (symbol_in descriptor)

-- the condition of an error, which is its first field
abbrev pub condition_in : Option (Seen × List Seen) → Option (List ℕ)
condition_in None = None
condition_in (Some list) = if is_error list.0.part then symbol_in (first list.1).part else None

-- the condition of the error that is the first field of a list
abbrev pub condition_of : Option (Seen × List Seen) → Option (List ℕ)
condition_of None = None
condition_of (Some list) = condition_in (listed_in (first list.1).part)

-- that of a state whose octets were read so
abbrev pub condition_read : Read Seen → Option (List ℕ)
condition_read (Ok x) = condition_of (listed_in x.0.part)
condition_read (Err fault) = None

-- only a rejected state tells an error
abbrev pub condition_by : Option Outcome → List ℕ → Option (List ℕ)
condition_by None octets = None
condition_by (Some Accepted) octets = None
condition_by (Some Rejected) octets = condition_read (seen_at MAX_DEPTH 0 octets)
condition_by (Some Released) octets = None
condition_by (Some Modified) octets = None

-- the condition that a state tells
abbrev pub condition_told : StateFields → Option (List ℕ)
condition_told state = condition_by state.outcome state.octets

-- a boolean that is true; a field that is absent says nothing
abbrev pub says_true : Seen → Bool
says_true field = flag (boolean_in field.part)

-- its first field says that the delivery failed, its second that it is not to come to this consumer again
abbrev pub modified_of : Option (Seen × List Seen) → Option ModifiedTold
modified_of None = None
modified_of (Some list) = Some (record { delivery_failed = says_true (first list.1); undeliverable_here = says_true (first (others list.1)) })

-- of a state whose octets were read so
abbrev pub modified_read : Read Seen → Option ModifiedTold
modified_read (Ok x) = modified_of (listed_in x.0.part)
modified_read (Err fault) = None

abbrev pub modified_by : Option Outcome → List ℕ → Option ModifiedTold
modified_by None octets = None
modified_by (Some Accepted) octets = None
modified_by (Some Rejected) octets = None
modified_by (Some Released) octets = None
modified_by (Some Modified) octets = modified_read (seen_at MAX_DEPTH 0 octets)

-- what a modified state says of its delivery
abbrev pub modified_told : StateFields → Option ModifiedTold
modified_told state = modified_by state.outcome state.octets

-- the name of an outcome (part 3, 3.4)
abbrev pub outcome_name : Outcome → List ℕ
outcome_name Accepted = codes "accepted"
outcome_name Rejected = codes "rejected"
outcome_name Released = codes "released"
outcome_name Modified = codes "modified"
