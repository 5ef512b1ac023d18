-- What the entry of a delivery from a client stands for, and what one event makes of it (own rules).
use Rattle.std.specs.Prelude.{◌≡◌, ◌∷◌, ℕ, Bool, true, false, ◌&&◌, ◌||◌, not, List, [], ◌++◌, Option, Some, None, option_map, option_and_then, nat_lt, if◌then◌else◌, ◌==◌}
use Rattle.capture_form.specs.Rules.{RuleSet}
use Rattle.capture_form.specs.declared.records.Record.{Record}
use Rattle.trace_events.specs.Words.{is_some_and, where_passes}
use Rattle.trace_events.specs.Event.{Event, Link, Incoming}
use Rattle.trace_events.specs.Said.{in_spoken}
use Rattle.trace_events.specs.Address.{has_multicast, has_consumer}
use Rattle.trace_events.specs.History.{history}
use Rattle.trace_events.specs.Link.{is_live, is_anonymous}
use Rattle.trace_events.specs.Ends.{ends_link}
use Rattle.trace_events.specs.Incoming as incoming
use Rattle.trace_events.specs.Incoming.{address_of, is_part, part_payload, completes, is_complete, aborts, is_aborted, incoming_begun, incoming_at}
use Rattle.trace_events.specs.Outgoing.{is_paired}
use Rattle.trace_events.specs.Waiting.{is_of_multicast, always_had_consumer, is_gone, is_undecided}
use Rattle.trace_events.specs.Queue.{pairs}
use Rattle.trace_events.specs.Settling.{is_closed}
use Rattle.trace_events.specs.Work.{closes_incoming}
use Rattle.state_tables.specs.Addressed.{IsAddressed}
use Rattle.state_tables.specs.Connections.{IsLawfulNext}
use Rattle.state_incoming.specs.declared.held.Fate.{Fate}
use Rattle.state_incoming.specs.declared.held.Fate.TheVariants.{Arriving, Waiting, Gone, Paired, Copied}

-- what has become of a delivery
abbrev pub fate_of : RuleSet → Incoming → List Event → Fate
fate_of rules d past =
    if not (is_complete d past) then Arriving
    else if is_of_multicast rules d past then Copied
    else if is_paired d past then Paired
    else if always_had_consumer d past then Waiting else Gone

-- which of them it is
abbrev pub says_arriving : Fate → Bool
says_arriving Arriving = true
says_arriving _ = false

abbrev pub says_waiting : Fate → Bool
says_waiting Waiting = true
says_waiting _ = false

abbrev pub says_gone : Fate → Bool
says_gone Gone = true
says_gone _ = false

abbrev pub says_paired : Fate → Bool
says_paired Paired = true
says_paired _ = false

abbrev pub says_copied : Fate → Bool
says_copied Copied = true
says_copied _ = false

-- a delivery with what the law says of it: the address that it is for, its payload so far, the record that completed it,
-- whether nothing more is to be told of it, whether it is undecided, and what has become of it
pub record Held : Type 0 where
  pub delivery : Incoming
  pub address : List ℕ
  pub payload : List ℕ
  pub completion : Option ℕ
  pub is_closed : Bool
  pub is_undecided : Bool
  pub fate : Fate

abbrev pub held : RuleSet → List Event → Incoming → Held
held rules past d = record {
  delivery = d;
  address = address_of d past;
  payload = incoming.payload d past;
  completion = incoming.completion d past;
  is_closed = is_closed past d;
  is_undecided = is_undecided rules d past;
  fate = fate_of rules d past;
}

-- It is kept while more of it may come, and from its completion on, but not once it is gone and nothing more is to be told
-- of it. One that its producer gave up, or whose link is over before its last part, is not.
abbrev pub is_held : RuleSet → List Event → Incoming → Bool
is_held rules past d =
    if is_complete d past then not (is_gone rules d past && is_closed past d) else not (is_aborted d past) && is_live past d.link

-- the delivery that began in this record, if it is kept
abbrev pub held_at : RuleSet → ℕ → List Event → Option Held
held_at rules n past = option_map (held rules past) (where_passes (is_held rules past) (incoming_at n past))

-- ---- what one event makes of it; given are the address of what the event completes, and whether the delivery's own address
-- has a consumer behind the event

-- an arriving delivery of a link without address is for the one that the event which completes it tells
abbrev pub address_behind : Event → List ℕ → Held → List ℕ
address_behind e to x = if is_anonymous x.delivery.link && (says_arriving x.fate && completes x.delivery e) then to else x.address

-- one whose address is of multicast is copied; one of anycast waits where there is a consumer, and is gone where there is none
abbrev pub fate_completed : RuleSet → List ℕ → Bool → Fate
fate_completed rules address has = if has_multicast rules address then Copied else if has then Waiting else Gone

-- the address is the one behind the event
abbrev pub fate_next : RuleSet → Event → List ℕ → Bool → Incoming → Fate → Fate
fate_next rules e address has d Arriving = if completes d e then fate_completed rules address has else Arriving
fate_next rules e address has d Waiting = if pairs d e then Paired else if has then Waiting else Gone
fate_next rules e address has d Gone = Gone
fate_next rules e address has d Paired = Paired
fate_next rules e address has d Copied = Copied

abbrev pub payload_next : Event → Incoming → List ℕ → List ℕ
payload_next e d payload = if is_part d e then payload ++ part_payload (in_spoken e) else payload

abbrev pub completion_next : Event → Incoming → Option ℕ → Option ℕ
completion_next e d completion = if completes d e then Some e.number else completion

abbrev pub closed_next : Event → Incoming → Bool → Bool
closed_next e d closed = closed || closes_incoming e d

-- it arrives, waits, or something is to be told of it
abbrev pub stands_open : Fate → Bool → Bool
stands_open fate closed = says_arriving fate || says_waiting fate || not closed

-- what has become of it, and whether nothing more is to be told of it, are those behind the event
abbrev pub undecided_next : Event → Incoming → Fate → Bool → Bool → Bool
undecided_next e d fate closed undecided =
    not (ends_link d.link e) && not (aborts d e) && undecided && stands_open fate closed

abbrev pub moved : RuleSet → Event → List ℕ → Bool → Held → Held
moved rules e to has x =
    let address = address_behind e to x in
    let fate = fate_next rules e address has x.delivery x.fate in
    let closed = closed_next e x.delivery x.is_closed in
    record x {
      address = address;
      payload = payload_next e x.delivery x.payload;
      completion = completion_next e x.delivery x.completion;
      is_closed = closed;
      is_undecided = undecided_next e x.delivery fate closed x.is_undecided;
      fate = fate;
    }

-- whether it is kept behind the event, by what has become of it
abbrev pub stays_with : Event → Incoming → Bool → Fate → Bool
stays_with e d over Arriving = not (aborts d e) && not (ends_link d.link e)
stays_with e d over Gone = not over
stays_with e d over Waiting = true
stays_with e d over Paired = true
stays_with e d over Copied = true

abbrev pub stays : Event → Held → Bool
stays e x = stays_with e x.delivery x.is_closed x.fate

-- with the octets of its part, and the address that it tells
abbrev pub joined : Event → List ℕ → Held → Held
joined e to x = record x { address = address_behind e to x; payload = payload_next e x.delivery x.payload }

-- what is left of it, if it is kept
abbrev pub held_next : RuleSet → Event → List ℕ → Bool → Held → Option Held
held_next rules e to has x = where_passes (stays e) (Some (moved rules e to has x))

-- before its completion: its link's address, and on a link without one none
abbrev pub first_address : Link → List ℕ
first_address l = if is_anonymous l then [] else l.address

-- before its first part
abbrev pub unbegun : Incoming → Held
unbegun d = record {
  delivery = d;
  address = first_address d.link;
  payload = [];
  completion = None;
  is_closed = false;
  is_undecided = true;
  fate = Arriving;
}

-- the delivery that the event begins
abbrev pub held_begun : RuleSet → Event → List ℕ → Bool → Option Held
held_begun rules e to has = option_and_then (λ d. held_next rules e to has (unbegun d)) (incoming_begun e)

-- the address of that delivery has a consumer, where these addresses have one
abbrev pub is_begun_served : Event → List ℕ → (List ℕ → Bool) → Bool
is_begun_served e to has = is_some_and (incoming_begun e) (λ d. has (address_behind e to (unbegun d)))

-- the event begins the delivery of this number
abbrev pub begins_number : Event → ℕ → Bool
begins_number e n = is_some_and (incoming_begun e) (λ d. d.number == n)

-- what the event makes of a delivery, where these addresses have a consumer behind it
abbrev pub held_on : RuleSet → Event → List ℕ → (List ℕ → Bool) → Held → Option Held
held_on rules e to has x = held_next rules e to (has (address_behind e to x)) x

-- and of that of this number
abbrev pub held_behind : RuleSet → Event → List ℕ → (List ℕ → Bool) → ℕ → Option Held → Option Held
held_behind rules e to has n earlier =
    if begins_number e n then held_begun rules e to (is_begun_served e to has) else option_and_then (held_on rules e to has) earlier

-- ---- what is asked of one that is kept

-- it may go to consumers
abbrev pub may_go : Held → Bool
may_go x = not (says_arriving x.fate) && not (says_gone x.fate)

-- an outcome may be told of it
abbrev pub may_tell : Held → Bool
may_tell x = not (says_arriving x.fate) && not x.is_closed

-- the one was completed before the other
abbrev pub comes_before : Held → Held → Bool
comes_before x y = is_some_and x.completion (λ m. is_some_and y.completion (λ n. nat_lt m n))

-- ---- in a capture that is lawful with the event

-- it is what the events say of its number
abbrev pub IsEntry : RuleSet → List Event → Held → Type 0
IsEntry rules past x = held_at rules x.delivery.number past ≡ Some x

-- what was the entry before the event is this behind it
abbrev pub HeldFollows : RuleSet → Event → List ℕ → Bool → Held → Option Held → Type 0
HeldFollows rules e to has earlier later =
    (records : List Record) (r : Record) → IsLawfulNext rules records r e → IsEntry rules (history rules records) earlier
    → IsAddressed e (history rules records) to
    → has ≡ has_consumer (address_behind e to earlier) (e ∷ history rules records)
    → held_at rules earlier.delivery.number (e ∷ history rules records) ≡ later

-- this is the entry of the event's own number behind it
abbrev pub HeldBegins : RuleSet → Event → List ℕ → Bool → Option Held → Type 0
HeldBegins rules e to has later =
    (records : List Record) (r : Record) → IsLawfulNext rules records r e
    → IsAddressed e (history rules records) to
    → has ≡ is_begun_served e to (λ address. has_consumer address (e ∷ history rules records))
    → held_at rules e.number (e ∷ history rules records) ≡ later
