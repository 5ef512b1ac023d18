-- The deliveries of a session, as the counts of `flow_counts` over its own parts: what each event of a capture does to them.
use Rattle.std.specs.Prelude.{ℕ, ◌&&◌, ◌||◌, not, Bool, List, [], ◌∷◌, ◌++◌, Option, Some, None, filter_map, map, ◌==◌, if◌then◌else◌}
use Rattle.amqp_perf.specs.Meaning.{TransferFields, flag}
use Rattle.capture_form.specs.Rules.{RuleSet}
use Rattle.flow_counts.specs.Parts.{PartEvent, Part, Aborted, Completed, Freed, Partial}
use Rattle.trace_events.specs.Event.{Event, Link, Incoming}
use Rattle.trace_events.specs.declared.session.Session.{Session}
use Rattle.trace_events.specs.Said.{in_spoken, in_transfer}
use Rattle.trace_events.specs.Incoming.{part_payload, payload, is_aborted, incoming_deliveries}
use Rattle.trace_events.specs.Waiting.{is_undecided}

-- what a transfer does on its link: it gives up the delivery in progress, or is a part, with its own delivery-id; the last
-- part completes the delivery
abbrev pub parts_on : Link → Event → Option TransferFields → List PartEvent
parts_on l e None = []
parts_on l e (Some fields) =
    let part = Part l.number e.number fields.delivery_id (part_payload (in_spoken e)) in
    if flag fields.aborted then Aborted l.number ∷ []
    else if flag fields.more then part ∷ [] else Completed l.number ∷ part ∷ []

-- where it is of a delivery of the session
abbrev pub parts_of : Session → Event → Option Incoming → List PartEvent
parts_of s e None = []
parts_of s e (Some d) = if d.link.session.number == s.number then parts_on d.link e (in_transfer e) else []

-- the event decides a delivery of the session, other than by an abort: undecided before, or begun by this event, it isn't
-- undecided with it
abbrev pub frees : RuleSet → Session → Event → List Event → Incoming → Bool
frees rules s e past d =
    d.link.session.number == s.number && (is_undecided rules d past || d.number == e.number)
    && not (is_undecided rules d (e ∷ past)) && not (is_aborted d (e ∷ past))

-- the ids of the deliveries that it decides so
abbrev pub freed_id : RuleSet → Session → Event → List Event → Incoming → Option ℕ
freed_id rules s e past d = if frees rules s e past d then d.id else None

abbrev pub freed_ids : RuleSet → Session → Event → List Event → List ℕ
freed_ids rules s e past = filter_map (freed_id rules s e past) (incoming_deliveries (e ∷ past))

-- all that moves the session's deliveries, the newest first; what an event decides comes behind its part
abbrev pub part_events : RuleSet → Session → List Event → List PartEvent
part_events rules s [] = []
part_events rules s (e ∷ past) =
    let earlier = part_events rules s past in map Freed (freed_ids rules s e past) ++ (parts_of s e e.incoming ++ earlier)

-- a delivery in progress, as it is counted
abbrev pub partial_of : List Event → Incoming → Partial
partial_of past d = record { number = d.number; id = d.id; payload = payload d past }
