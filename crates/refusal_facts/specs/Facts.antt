-- What a reason is worth.
use Rattle.std.specs.Prelude.{◌≡◌, ℕ, Bool, true, false, ◌&&◌, ◌||◌, List, Some, is_some}
use Rattle.capture_form.specs.Rules.{RuleSet}
use Rattle.trace_events.specs.Event.{Event, channel_of, out_frame}
use Rattle.trace_events.specs.declared.clause.Clause.{Clause}
use Rattle.trace_events.specs.Said.{is_out_end, out_attach, out_begin, out_detach, out_disposition, out_flow, out_transfer}
use Rattle.trace_events.specs.declared.clause.Clause.TheVariants.{L1, L2, L3, L4, L5, L6, L7, L8, L9, L10, L11, L12, L13, L14}
use Rattle.trace_events.specs.Clauses.{broken_clause}
use Rattle.trace_events.specs.TransferClause.{to_carry}
use Rattle.refusal_facts.specs.OpeningFacts.{AreAttach, AreBegin, AreWriting, IsFrame}
use Rattle.refusal_facts.specs.TransferFacts.{AreBeginning, AreCarrying, AreGoingOn, AreOrder, AreSending}
use Rattle.refusal_facts.specs.PayloadFacts.{ArePayload}
use Rattle.refusal_facts.specs.FlowFacts.{AreFlow}
use Rattle.refusal_facts.specs.OutcomeFacts.{AreOutcome, AreSettling}
use Rattle.refusal_facts.specs.EndingFacts.{AreDetach, AreEnd}
use Rattle.refusal_facts.specs.declared.reason.Facts.{Facts}
use Rattle.refusal_facts.specs.declared.reason.Facts.TheVariants as kinds
use Rattle.refusal_facts.specs.declared.reason.Reason.{Reason}

-- each number is the law's at this event, by those before it
abbrev pub AreFacts : RuleSet → (ℕ → Type 0) → Event → List Event → Facts → Type 0
AreFacts rules knows e past (kinds.Frame facts) = IsFrame e facts
AreFacts rules knows e past (kinds.Writing facts) = AreWriting e past facts
AreFacts rules knows e past (kinds.Begin facts) = AreBegin e past facts
AreFacts rules knows e past (kinds.Attach facts) = AreAttach e past facts
AreFacts rules knows e past (kinds.Sending facts) = AreSending e past facts
AreFacts rules knows e past (kinds.Beginning facts) = AreBeginning e past facts
AreFacts rules knows e past (kinds.GoingOn facts) = AreGoingOn e facts
AreFacts rules knows e past (kinds.Carrying facts) = AreCarrying rules knows e past facts
AreFacts rules knows e past (kinds.Payload facts) = ArePayload rules e past facts
AreFacts rules knows e past (kinds.Order facts) = AreOrder rules e past facts
AreFacts rules knows e past (kinds.Flow facts) = AreFlow rules e past facts
AreFacts rules knows e past (kinds.Outcome facts) = AreOutcome rules e past facts
AreFacts rules knows e past (kinds.Settling facts) = AreSettling e facts
AreFacts rules knows e past (kinds.Detach facts) = AreDetach e past facts
AreFacts rules knows e past (kinds.End facts) = AreEnd e past facts
AreFacts rules knows e past (kinds.Noted note) = note ≡ e.note
AreFacts rules knows e past kinds.Nothing = Unit {0}

-- the facts are what the clause compares
abbrev pub is_of : Clause → Facts → Bool
is_of L1 (kinds.Frame facts) = true
is_of L1 (kinds.Writing facts) = true
is_of L2 (kinds.Begin facts) = true
is_of L3 (kinds.Attach facts) = true
is_of L4 (kinds.Sending facts) = true
is_of L5 (kinds.Beginning facts) = true
is_of L6 (kinds.GoingOn facts) = true
is_of L7 (kinds.Carrying facts) = true
is_of L8 (kinds.Payload facts) = true
is_of L9 (kinds.Order facts) = true
is_of L10 (kinds.Flow facts) = true
is_of L11 (kinds.Outcome facts) = true
is_of L12 (kinds.Settling facts) = true
is_of L13 (kinds.Detach facts) = true
is_of L13 (kinds.End facts) = true
is_of L14 (kinds.Noted said) = true
is_of _ _ = false

-- the event has what the clause compares
abbrev pub has_facts : RuleSet → Event → List Event → Clause → Bool
has_facts rules e past L1 = is_some (out_frame e.moment)
has_facts rules e past L2 = is_some (out_begin e)
has_facts rules e past L3 = is_some (out_attach e)
has_facts rules e past L4 = is_some (out_transfer e)
has_facts rules e past L5 = is_some (out_transfer e) && is_some e.link
has_facts rules e past L6 = is_some (out_transfer e)
has_facts rules e past L7 = is_some (out_transfer e) && is_some e.link
has_facts rules e past L8 = is_some (out_transfer e) && (is_some (to_carry rules e.note past) && is_some e.outgoing)
has_facts rules e past L9 = is_some e.link && is_some (to_carry rules e.note past)
has_facts rules e past L10 = is_some (out_flow e)
has_facts rules e past L11 = is_some (out_disposition e)
has_facts rules e past L12 = is_some (out_disposition e)
has_facts rules e past L13 = is_some (out_detach e) || is_out_end e
has_facts rules e past L14 = true

-- it is of this event, and names the first clause that the event breaks, with what that compares
abbrev pub IsReasonOf : RuleSet → (ℕ → Type 0) → Event → List Event → Reason → Type 0
IsReasonOf rules knows e past reason =
    (reason.number ≡ e.number) × (reason.connection ≡ e.connection) × (reason.channel ≡ channel_of e.moment)
    × (broken_clause rules e past ≡ Some reason.clause) × AreFacts rules knows e past reason.facts
    × (is_of reason.clause reason.facts ≡ true)
