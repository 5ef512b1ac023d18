-- What is told of an incoming delivery, and why (states: part 3 of the standard, section 3.4; the rows are own rules).
use Rattle.std.specs.Prelude.{ℕ, Bool, ◌&&◌, ◌||◌, not, List, [], ◌∷◌, length, Option, Some, None, is_some, option_and_then, option_map, unwrap_or, nat_le, if◌then◌else◌}
use Rattle.std.specs.List.{list_any}
use Rattle.amqp_perf.specs.declared.descriptor.Outcome.{Outcome}
use Rattle.amqp_perf.specs.declared.descriptor.Outcome.TheVariants.{Accepted, Released}
use Rattle.amqp_perf.specs.Meaning.{DispositionFields}
use Rattle.amqp_perf.specs.Router.{bare_state, delivery_failed}
use Rattle.pairing_cert.specs.declared.note.Why.{Why}
use Rattle.pairing_cert.specs.declared.note.Why.TheVariants.{C, Z, S, L, N, M}
use Rattle.capture_form.specs.Rules.{RuleSet}
use Rattle.trace_events.specs.Event.{Event, Incoming, Outgoing}
use Rattle.trace_events.specs.Connection.{frame_limit}
use Rattle.trace_events.specs.Link.{is_live}
use Rattle.trace_events.specs.Disposition.{terminal_state}
use Rattle.trace_events.specs.Incoming.{is_complete, is_settled, is_told}
use Rattle.trace_events.specs.Outgoing.{pairing, decision, is_sent}
use Rattle.trace_events.specs.Waiting.{is_of_multicast, is_gone}
use Rattle.trace_events.specs.Written.{spoken_octets, written_outcome}
use Rattle.trace_events.specs.BestVerdict.{multicast_row}

-- ---- states, as octets

-- an outcome without fields
abbrev pub bare_octets : Outcome → List ℕ
bare_octets outcome = (bare_state outcome).octets

-- the outcome that a decision tells, as its octets came; none without a terminal state
abbrev pub outcome_octets : DispositionFields → Option (List ℕ)
outcome_octets fields = option_map (λ state. state.octets) (terminal_state fields)

-- the same outcome without its fields
abbrev pub bare_outcome : DispositionFields → Option (List ℕ)
bare_outcome fields = option_map bare_octets (option_and_then (λ state. state.outcome) (terminal_state fields))

-- ---- the rows

-- the producer takes the frame that tells this state
abbrev pub fits_producer : Incoming → Option (List ℕ) → List Event → Bool
fits_producer d state past =
    nat_le (length (spoken_octets (written_outcome d.link.session.channel (unwrap_or d.id 0) state)))
    (frame_limit d.link.session.connection past)

-- the last transfer to a pre-settled link is written
abbrev pub is_sent_settled : Outgoing → List Event → Bool
is_sent_settled j past = j.link.is_pre_settled && is_sent j past

-- Where row `why` applies, the state that it tells: its octets, or that there is none. First, of an anycast delivery
-- that went to a consumer by j, with the consumer's decision:
-- C: the decision's outcome. Z: the outcome without fields, where the producer doesn't take that frame. S: accepted,
-- once the last transfer to a pre-settled link is written. L: delivery failed, where the link is over and none of those
-- applies.
abbrev pub paired_row : Incoming → Outgoing → List Event → Option DispositionFields → Why → Option (Option (List ℕ))
paired_row d j past (Some fields) C = if fits_producer d (outcome_octets fields) past then Some (outcome_octets fields) else None
paired_row d j past (Some fields) Z = if fits_producer d (outcome_octets fields) past then None else Some (bare_outcome fields)
paired_row d j past decided S = if is_sent_settled j past then Some (Some (bare_octets Accepted)) else None
paired_row d j past None L = if is_live past j.link || is_sent_settled j past then None else Some (Some delivery_failed.octets)
paired_row d j past decided why = None

abbrev pub anycast_row : Incoming → List Event → Why → Option Outgoing → Option (Option (List ℕ))
anycast_row d past why None = None
anycast_row d past why (Some j) = paired_row d j past (decision j past) why

-- N: released, where the delivery is gone. M: of a multicast delivery the best verdict of its copies, once each has its own.
abbrev pub row : RuleSet → Incoming → List Event → Why → Option (Option (List ℕ))
row rules d past N = if is_gone rules d past then Some (Some (bare_octets Released)) else None
row rules d past M = multicast_row rules d past
row rules d past why = if is_of_multicast rules d past then None else anycast_row d past why (pairing d past)

-- it may be told: complete, of a live link, neither settled nor told
abbrev pub may_be_told : Incoming → List Event → Bool
may_be_told d past = is_complete d past && not (is_settled d past) && not (is_told d past) && is_live past d.link

abbrev pub reasons : List Why
reasons = C ∷ Z ∷ S ∷ L ∷ N ∷ M ∷ []

-- and a row applies to it
abbrev pub is_to_tell : RuleSet → List Event → Incoming → Bool
is_to_tell rules past d = may_be_told d past && list_any (λ why. is_some (row rules d past why)) reasons
