-- The law: the clauses that each record which the router has written must meet.
use Rattle.std.specs.Prelude.{ℕ, Bool, true, false, ◌&&◌, ◌||◌, not, List, [], ◌∷◌, Option, Some, None, is_none, option_map, find, if◌then◌else◌}
use Rattle.amqp_perf.specs.declared.attach.Role.{Role}
use Rattle.amqp_perf.specs.Meaning.{Meaning, ATransfer, ADisposition, TransferFields, DispositionFields}
use Rattle.pairing_cert.specs.declared.note.Note.{Note}
use Rattle.pairing_cert.specs.declared.note.Note.TheVariants as notes
use Rattle.capture_form.specs.declared.records.Record.{Record}
use Rattle.capture_form.specs.Rules.{RuleSet}
use Rattle.trace_events.specs.declared.clause.Clause.{Clause}
use Rattle.trace_events.specs.declared.clause.Clause.TheVariants.{L1, L2, L3, L4, L5, L6, L7, L8, L9, L10, L11, L12, L13, L14}
use Rattle.trace_events.specs.Words.{is_some_and, is_none_or, or_else}
use Rattle.trace_events.specs.Frame.{Frame, Spoken, spoken_in}
use Rattle.trace_events.specs.Event.{Event, Moment, Out}
use Rattle.trace_events.specs.Said.{as_begin, as_attach, as_flow, as_detach, is_end}
use Rattle.trace_events.specs.Link.{is_sender, is_receiver}
use Rattle.trace_events.specs.Credit.{begins_outgoing}
use Rattle.trace_events.specs.History.{history}
use Rattle.trace_events.specs.ConnectionClause.{may_be_written, fits_limit}
use Rattle.trace_events.specs.SessionClause.{answers_begin, may_end}
use Rattle.trace_events.specs.LinkClause.{answers_attach, may_detach}
use Rattle.trace_events.specs.TransferClause.{has_link_and_window, has_credit_and_next_id, goes_on_with, names_what_may_go, carries_its_octets, goes_once_and_in_order}
use Rattle.trace_events.specs.FlowClause.{tells_counts}
use Rattle.trace_events.specs.DispositionClause.{is_outcome, is_settling}

-- ---- which clause speaks of which records: each table has a row for each clause, and what a clause doesn't speak of meets it

-- L14
abbrev pub has_no_note : Note → Bool
has_no_note notes.None = true
has_no_note (notes.Pair n) = false
has_no_note (notes.Told why) = false

-- L1 is asked of the frame, by `spoken_meets`
abbrev pub transfer_meets : RuleSet → Event → TransferFields → List ℕ → List Event → Clause → Bool
transfer_meets rules e fields octets past L1 = true
transfer_meets rules e fields octets past L2 = true
transfer_meets rules e fields octets past L3 = true
transfer_meets rules e fields octets past L4 = has_link_and_window e fields past
transfer_meets rules e fields octets past L5 = not (begins_outgoing e) || is_some_and e.link (λ l. has_credit_and_next_id l fields past)
transfer_meets rules e fields octets past L6 = begins_outgoing e || is_some_and e.outgoing (λ j. goes_on_with j e.note fields)
transfer_meets rules e fields octets past L7 = is_some_and e.link (names_what_may_go rules e fields past)
transfer_meets rules e fields octets past L8 = carries_its_octets rules e fields octets past
transfer_meets rules e fields octets past L9 = not (begins_outgoing e) || is_some_and e.link (goes_once_and_in_order rules e past)
transfer_meets rules e fields octets past L10 = true
transfer_meets rules e fields octets past L11 = true
transfer_meets rules e fields octets past L12 = true
transfer_meets rules e fields octets past L13 = true
transfer_meets rules e fields octets past L14 = true

-- an outcome is told by a receiver, a settling by a sender
abbrev pub disposition_meets : RuleSet → Event → DispositionFields → List Event → Role → Clause → Bool
disposition_meets rules e fields past role L1 = true
disposition_meets rules e fields past role L2 = true
disposition_meets rules e fields past role L3 = true
disposition_meets rules e fields past role L4 = true
disposition_meets rules e fields past role L5 = true
disposition_meets rules e fields past role L6 = true
disposition_meets rules e fields past role L7 = true
disposition_meets rules e fields past role L8 = true
disposition_meets rules e fields past role L9 = true
disposition_meets rules e fields past role L10 = true
disposition_meets rules e fields past role L11 = is_sender role || is_outcome rules e fields past
disposition_meets rules e fields past role L12 = is_receiver role || is_settling e fields
disposition_meets rules e fields past role L13 = true
disposition_meets rules e fields past role L14 = is_receiver role || has_no_note e.note

-- all others
abbrev pub other_meets : RuleSet → Event → ℕ → List Event → Meaning → Clause → Bool
other_meets rules e channel past meaning L1 = true
other_meets rules e channel past meaning L2 = is_none_or (as_begin meaning) (λ begin. answers_begin e.connection channel begin past)
other_meets rules e channel past meaning L3 = is_none_or (as_attach meaning) (λ fields. is_some_and e.session (answers_attach fields past))
other_meets rules e channel past meaning L4 = true
other_meets rules e channel past meaning L5 = true
other_meets rules e channel past meaning L6 = true
other_meets rules e channel past meaning L7 = true
other_meets rules e channel past meaning L8 = true
other_meets rules e channel past meaning L9 = true
other_meets rules e channel past meaning L10 = is_none_or (as_flow meaning) (λ flow. tells_counts rules e flow past)
other_meets rules e channel past meaning L11 = true
other_meets rules e channel past meaning L12 = true
other_meets rules e channel past meaning L13 =
    if is_end meaning then may_end e channel past else is_none_or (as_detach meaning) (λ fields. may_detach e fields past)
other_meets rules e channel past meaning L14 = has_no_note e.note

abbrev pub meaning_meets : RuleSet → Event → Spoken → List Event → Meaning → Clause → Bool
meaning_meets rules e spoken past (ATransfer fields) clause = transfer_meets rules e fields spoken.payload past clause
meaning_meets rules e spoken past (ADisposition fields) clause = disposition_meets rules e fields past fields.role clause
meaning_meets rules e spoken past meaning clause = other_meets rules e spoken.channel past meaning clause

-- a performative, by clause; L1 speaks of each
abbrev pub spoken_meets : RuleSet → Event → Frame → List Event → Spoken → Clause → Bool
spoken_meets rules e frame past spoken L1 = may_be_written e.connection spoken.meaning past && fits_limit e.connection frame past
spoken_meets rules e frame past spoken clause = meaning_meets rules e spoken past spoken.meaning clause

-- ---- the first clause that is broken

abbrev pub clauses : List Clause
clauses = L1 ∷ L2 ∷ L3 ∷ L4 ∷ L5 ∷ L6 ∷ L7 ∷ L8 ∷ L9 ∷ L10 ∷ L11 ∷ L12 ∷ L13 ∷ L14 ∷ []

-- a frame that is no performative breaks L1
abbrev pub broken_by : RuleSet → Event → Frame → List Event → Option Spoken → Option Clause
broken_by rules e frame past None = Some L1
broken_by rules e frame past (Some spoken) = find (λ clause. not (spoken_meets rules e frame past spoken clause)) clauses

abbrev pub broken_at : RuleSet → Event → List Event → Moment → Option Clause
broken_at rules e past (Out frame) = broken_by rules e frame past (spoken_in frame.body)
broken_at rules e past _ = None

-- the first clause that an event breaks
abbrev pub broken_clause : RuleSet → Event → List Event → Option Clause
broken_clause rules e past = broken_at rules e past e.moment

-- the first event that breaks a clause, by its number, with the first clause that it breaks
abbrev pub first_broken : RuleSet → List Event → Option (ℕ × Clause)
first_broken rules [] = None
first_broken rules (e ∷ past) =
    let earlier = first_broken rules past in or_else earlier (option_map (λ clause. (e.number, clause)) (broken_clause rules e past))

-- no record breaks a clause
abbrev pub is_lawful : RuleSet → List Record → Bool
is_lawful rules records = is_none (first_broken rules (history rules records))
