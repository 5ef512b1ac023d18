-- What the entry of a delivery to a client stands for, and what one event makes of it (own rules).
use Rattle.std.specs.Prelude.{◌≡◌, ◌⊎◌, ℕ, ◌+◌, ◌%◌, ◌^◌, Bool, false, ◌&&◌, ◌||◌, not, List, ◌∷◌, length, drop, Option, None, Some, is_none, is_some, option_and_then, option_map, unwrap_or, if◌then◌else◌, ◌==◌}
use Rattle.amqp_perf.specs.declared.descriptor.Outcome.{Outcome}
use Rattle.amqp_perf.specs.declared.descriptor.Outcome.TheVariants.{Accepted}
use Rattle.amqp_perf.specs.Nested.{StateFields}
use Rattle.amqp_perf.specs.Meaning.{flag}
use Rattle.capture_form.specs.Rules.{RuleSet}
use Rattle.capture_form.specs.declared.records.Record.{Record}
use Rattle.trace_events.specs.Words.{is_some_and, or_else, where_passes}
use Rattle.trace_events.specs.Event.{Event, Outgoing}
use Rattle.trace_events.specs.Said.{out_spoken, out_transfer}
use Rattle.trace_events.specs.History.{judge, history}
use Rattle.trace_events.specs.Disposition.{is_decisive, terminal_state}
use Rattle.trace_events.specs.Incoming.{part_payload}
use Rattle.trace_events.specs.Outgoing as law
use Rattle.trace_events.specs.Outgoing.{is_part, outgoing_begun, outgoing_at, answering}
use Rattle.trace_events.specs.Work.{stands_unsettled, keeps_unsettled}
use Rattle.trace_events.specs.TransferClause as clause

-- A delivery to a client with what the law says of it: how many octets of its payload were sent, counted in 64 bits;
-- whether its last part is written; the terminal state of its consumer's decision, if there is a decision; whether it is
-- still unsettled.
pub record Sent : Type 0 where
  pub delivery : Outgoing
  pub sent_count : ℕ
  pub is_sent : Bool
  pub decision : Option (Option StateFields)
  pub is_unsettled : Bool

-- it is still unsettled: sent unsettled, on a link that lives, and settled by neither side
abbrev pub is_left_unsettled : List Event → Outgoing → Bool
is_left_unsettled past j = not j.link.is_pre_settled && stands_unsettled past j

abbrev pub sent : List Event → Outgoing → Sent
sent past j = record {
  delivery = j;
  sent_count = length (law.payload j past) % 2 ^ 64;
  is_sent = law.is_sent j past;
  decision = option_map terminal_state (law.decision j past);
  is_unsettled = is_left_unsettled past j;
}

-- what is kept of the delivery that began in this record
abbrev pub sent_at : ℕ → List Event → Option Sent
sent_at n past = option_map (sent past) (outgoing_at n past)

-- ---- what one event makes of it

-- the event is its last part
abbrev pub ends_delivery : Event → Outgoing → Bool
ends_delivery e j = is_part j e && is_some_and (out_transfer e) (λ fields. not (flag fields.more))

-- what its consumer decides with the event
abbrev pub decided_with : Event → Outgoing → Option (Option StateFields)
decided_with e j = option_map terminal_state (where_passes is_decisive (answering j e))

abbrev pub count_next : Event → Outgoing → ℕ → ℕ
count_next e j count = if is_part j e then (count + length (part_payload (out_spoken e))) % 2 ^ 64 else count

-- the first decision holds, and there is none once it is settled
abbrev pub decision_next : Event → Outgoing → Bool → Option (Option StateFields) → Option (Option StateFields)
decision_next e j unsettled earlier = or_else earlier (if unsettled then decided_with e j else None)

abbrev pub sent_next : Event → Sent → Sent
sent_next e x = record x {
  sent_count = count_next e x.delivery x.sent_count;
  is_sent = ends_delivery e x.delivery || x.is_sent;
  decision = decision_next e x.delivery x.is_unsettled x.decision;
  is_unsettled = x.is_unsettled && keeps_unsettled e x.delivery;
}

-- with its consumer's decision
abbrev pub decided : Event → Sent → Sent
decided e x = record x { decision = decision_next e x.delivery x.is_unsettled x.decision }

-- the event decides it, with a terminal state
abbrev pub takes_state : Event → Sent → Bool
takes_state e x = x.is_unsettled && is_none x.decision && is_some_and (decided_with e x.delivery) is_some

-- before its first part
abbrev pub unsent : Outgoing → Sent
unsent j = record {
  delivery = j;
  sent_count = 0;
  is_sent = false;
  decision = None;
  is_unsettled = not j.link.is_pre_settled;
}

-- the delivery that the event begins
abbrev pub sent_begun : Event → Option Sent
sent_begun e = option_map (λ j. sent_next e (unsent j)) (outgoing_begun e)

-- the event begins the delivery of this number
abbrev pub begins_number : Event → ℕ → Bool
begins_number e n = is_some_and (outgoing_begun e) (λ j. j.number == n)

-- what the event makes of the delivery of this number
abbrev pub sent_behind : Event → ℕ → Option Sent → Option Sent
sent_behind e n earlier = if begins_number e n then sent_begun e else option_map (sent_next e) earlier

-- ---- what is asked of it

-- the router is to settle it, where nothing more is to be told of what it carries or something is
abbrev pub to_settle : Sent → Bool → Bool
to_settle x closed = x.is_unsettled && is_some x.decision && closed

-- the outcome that a decision tells, accepted where it tells none
abbrev pub outcome_of : Option StateFields → Outcome
outcome_of state = unwrap_or (option_and_then (λ fields. fields.outcome) state) Accepted

-- what came of a delivery: what its consumer decided; accepted without a decision, where it was sent settled
abbrev pub verdict_said : Option (Option StateFields) → Bool → Option Outcome
verdict_said (Some state) settled = Some (outcome_of state)
verdict_said None settled = if settled then Some Accepted else None

abbrev pub verdict_of : Sent → Option Outcome
verdict_of x = verdict_said x.decision (x.delivery.link.is_pre_settled && x.is_sent)

-- behind so many octets of a payload these are its next ones, and where no more follows its last ones
abbrev pub goes_on_with : Bool → List ℕ → ℕ → List ℕ → Bool
goes_on_with more payload count octets = clause.is_payload_so_far more (drop count payload) octets

-- ---- in a capture

-- it is what the events say of its number
abbrev pub IsEntry : List Event → Sent → Type 0
IsEntry past x = sent_at x.delivery.number past ≡ Some x

-- the delivery to a client has begun, or begins behind these events
abbrev pub IsKnownTo : List Event → Outgoing → Type 0
IsKnownTo past j = (outgoing_at j.number past ≡ Some j) ⊎ (j.number ≡ length past)

-- what was the entry before the event of a next record is this behind it
abbrev pub SentFollows : Event → Sent → Sent → Type 0
SentFollows e earlier later =
    (rules : RuleSet) (records : List Record) (r : Record) → e ≡ judge rules (history rules records) r
    → IsEntry (history rules records) earlier → sent_at earlier.delivery.number (e ∷ history rules records) ≡ Some later

-- this is the entry of the number of the event of a next record, behind it
abbrev pub SentBegins : Event → Option Sent → Type 0
SentBegins e later =
    (rules : RuleSet) (records : List Record) (r : Record) → e ≡ judge rules (history rules records) r
    → sent_at e.number (e ∷ history rules records) ≡ later
