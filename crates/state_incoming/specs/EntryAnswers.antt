-- What the entries of deliveries answer, where there is one.
use Rattle.std.specs.Prelude.{◌≡◌, ℕ, ◌+◌, Bool, List, [], length, not, nat_lt, Option, Some, None, is_some, option_map, unwrap_or}
use Rattle.pairing_cert.specs.declared.note.Note.{Note}
use Rattle.pairing_cert.specs.declared.note.Note.TheVariants as notes
use Rattle.trace_events.specs.Words.{is_none_or, is_some_and, where_passes}
use Rattle.trace_events.specs.Event.{Incoming}
use Rattle.state_incoming.specs.Held.{Held, says_arriving, says_gone, may_go, comes_before}
use Rattle.state_incoming.specs.HeldTables.{held_in}
use Rattle.state_incoming.specs.declared.deliveries.Deliveries.{Deliveries}

-- the table can tell of the delivery that began in this record
abbrev pub has_entry : Deliveries → ℕ → Bool
has_entry table n = is_some (held_in table n)

-- the delivery that it has of a number
abbrev pub delivery_in : Deliveries → ℕ → Option Incoming
delivery_in table n = option_map (λ x. x.delivery) (held_in table n)

-- it can tell of this delivery
abbrev pub Knows : Deliveries → Incoming → Type 0
Knows table d = delivery_in table d.number ≡ Some d

-- ---- what an entry says, if there is one

abbrev pub says_complete : Option Held → Bool
says_complete o = is_some_and o (λ x. not (says_arriving x.fate))

abbrev pub says_closed : Option Held → Bool
says_closed o = is_some_and o (λ x. x.is_closed)

-- nothing more is to be told of it, as of one that is not kept
abbrev pub is_shut : Option Held → Bool
is_shut o = is_none_or o (λ x. x.is_closed)

abbrev pub has_gone : Option Held → Bool
has_gone o = is_some_and o (λ x. says_gone x.fate)

abbrev pub payload_of : Option Held → List ℕ
payload_of o = unwrap_or (option_map (λ x. x.payload) o) []

-- the address that it is for
abbrev pub address_in : Option Held → List ℕ
address_in o = unwrap_or (option_map (λ x. x.address) o) []

abbrev pub is_longer : ℕ → Option Held → ℕ → Bool
is_longer limit o count = nat_lt limit (length (payload_of o) + count)

abbrev pub is_before : Option Held → Option Held → Bool
is_before o p = is_some_and o (λ x. is_some_and p (comes_before x))

-- the delivery of the entry, where it may go to consumers
abbrev pub to_go : Option Held → Option Incoming
to_go o = option_map (λ x. x.delivery) (where_passes may_go o)

-- that of the entry which a note names
abbrev pub to_go_by : Deliveries → Note → Option Incoming
to_go_by table (notes.Pair n) = to_go (held_in table n)
to_go_by table notes.None = None
to_go_by table (notes.Told why) = None
