-- Frames that are due on worked captures, and frames that are not.
use Rattle.std.specs.Prelude.{◌≡◌, ℕ, Bool, true, false, List, [], ◌∷◌, ◌++◌, Option, Some, None, option_map, option_and_then, codes, take, refl}
use Rattle.amqp_perf.specs.declared.attach.SenderSettleMode.TheVariants.{Settled}
use Rattle.pairing_cert.specs.declared.note.Note.{Note}
use Rattle.pairing_cert.specs.declared.note.Note.TheVariants as notes
use Rattle.pairing_cert.specs.declared.note.Why.TheVariants.{M}
use Rattle.capture_form.specs.declared.records.Record.{Record}
use Rattle.capture_form.specs.Rules.{RuleText}
use Rattle.std.specs.Fmt.{digits}
use Rattle.amqp_perf.proofs.Opened.{read, written}
use Rattle.amqp_frames.specs.Writing.{frame_octets}
use Rattle.amqp_frames.specs.Reading.{whole_frame, frame_at, sized_frame, headed_frame}
use Rattle.trace_events.specs.Frame.{Spoken, frame_read}
use Rattle.trace_events.specs.Event.{Event, Link, Out}
use Rattle.trace_events.specs.Link.{link_at}
use Rattle.trace_events.specs.Incoming.{incoming_at}
use Rattle.trace_events.specs.Outgoing.{in_progress}
use Rattle.trace_events.specs.History.{history}
use Rattle.trace_events.specs.declared.clause.Clause.{Clause}
use Rattle.trace_events.specs.declared.clause.Clause.TheVariants.{L8, L10, L11}
use Rattle.trace_events.specs.Clauses.{broken_clause}
use Rattle.trace_events.specs.Outcome.{bare_octets}
use Rattle.amqp_perf.specs.declared.descriptor.Outcome.TheVariants.{Accepted}
use Rattle.trace_events.specs.Written.{spoken_octets, written_transfer, first_part, next_part, written_credit, written_outcome}
use Rattle.amqp_perf.specs.Meaning.{AFlow, ATransfer}
use Rattle.trace_events.proofs.Captures.{unmarked}
use Rattle.trace_events.proofs.Made.{from, from_with, carry, gives, first, with_more, hi, pair, sent, multicast, two_sent_by}
use Rattle.trace_duties.specs.Diligent.{moment_keeps}
use Rattle.trace_duties.specs.Order.{is_earliest}
use Rattle.route_answers.specs.Writing.{frame_of}
use Rattle.route_dues.specs.Writing.{writing}
use Rattle.route_dues.specs.Transfers.{first_frame, next_frame}

-- ---- what is asked, of the link that opened in a record

-- the octets of a frame
unfoldable pub octets_on : List RuleText → List Record → ℕ → (Link → List Event → Option Spoken) → Option (List ℕ)
unfolding frame_read whole_frame frame_at sized_frame headed_frame read digits spoken_octets frame_octets written
octets_on rules records n frame = let past = history (unmarked rules) records in option_and_then (λ l. option_map spoken_octets (frame l past)) (link_at n past)

-- the clause that it breaks, written with this note; whether it keeps the duties; and whether it begins nothing in front of
-- an earlier copy
unfoldable pub broken_on : List RuleText → List Record → ℕ → Note → (Link → List Event → Spoken) → Option (Option Clause)
unfolding frame_read whole_frame frame_at sized_frame headed_frame read digits spoken_octets frame_octets written
broken_on rules records n note frame =
    let past = history (unmarked rules) records in option_map (λ l. broken_clause (unmarked rules) (writing (unmarked rules) past l.session.connection note (frame l past)) past) (link_at n past)

unfoldable pub kept_on : List RuleText → List Record → ℕ → Note → (Link → List Event → Spoken) → Option Bool
unfolding frame_read whole_frame frame_at sized_frame headed_frame read digits spoken_octets frame_octets written
kept_on rules records n note frame =
    let past = history (unmarked rules) records in
    option_map (λ l. moment_keeps (unmarked rules) (writing (unmarked rules) past l.session.connection note (frame l past)) past (Out (frame_of (frame l past)))) (link_at n past)

unfoldable pub earliest_on : List RuleText → List Record → ℕ → Note → (Link → List Event → Spoken) → Option Bool
unfolding frame_read whole_frame frame_at sized_frame headed_frame read digits spoken_octets frame_octets written
earliest_on rules records n note frame =
    let past = history (unmarked rules) records in option_map (λ l. is_earliest (unmarked rules) (writing (unmarked rules) past l.session.connection note (frame l past)) past) (link_at n past)

-- ---- frames

-- the first part of delivery 16, which is all of it
abbrev whole : List ℕ
whole = 0x00 ∷ 0x00 ∷ 0x00 ∷ 0x1B ∷ 0x02 ∷ 0x00 ∷ 0x00 ∷ 0x00 ∷ 0x00 ∷ 0x53 ∷ 0x14 ∷ 0xC0 ∷ 0x0C ∷ 0x06 ∷ 0x43 ∷ 0x43 ∷ 0xA0 ∷ 0x04 ∷ 0x00 ∷ 0x00 ∷ 0x00 ∷ 0x00 ∷ 0x43 ∷ 0x42 ∷ 0x42 ∷ hi

first_whole : octets_on [] sent 13 (λ l past. option_map (first_frame past l) (incoming_at 16 past)) ≡ Some whole
unfolding octets_on
first_whole = refl

-- the rest of a delivery of which one octet is sent
abbrev one_goes_on : List Record
one_goes_on =
    pair ++ (from 1 (AFlow (gives 0 0 10)) ∷ from_with 0 (ATransfer (first 0)) (codes "abc") ∷ carry 1 16 (with_more (first 0)) (codes "a") ∷ [])

abbrev rest_of_abc : List ℕ
rest_of_abc = 0x00 ∷ 0x00 ∷ 0x00 ∷ 0x16 ∷ 0x02 ∷ 0x00 ∷ 0x00 ∷ 0x00 ∷ 0x00 ∷ 0x53 ∷ 0x14 ∷ 0xC0 ∷ 0x07 ∷ 0x06 ∷ 0x43 ∷ 0x40 ∷ 0x40 ∷ 0x40 ∷ 0x40 ∷ 0x42 ∷ codes "bc"

next_rest : octets_on [] one_goes_on 13 (λ l past. option_and_then (λ d. option_map (next_frame past l d) (in_progress l past)) (incoming_at 16 past)) ≡ Some rest_of_abc
unfolding octets_on
next_rest = refl

-- ---- what may follow

-- a producer's credit, where it lacks any
abbrev without_credit : List Record
without_credit = take 14 pair

credit_lawful : broken_on [] without_credit 6 notes.None (λ l past. written_credit l 250 past) ≡ Some None
unfolding broken_on
credit_lawful = refl

credit_kept : kept_on [] without_credit 6 notes.None (λ l past. written_credit l 250 past) ≡ Some true
unfolding kept_on
credit_kept = refl

credit_earliest : earliest_on [] without_credit 6 notes.None (λ l past. written_credit l 250 past) ≡ Some true
unfolding earliest_on
credit_earliest = refl

-- more than fills it up breaks a clause
too_much : broken_on [] without_credit 6 notes.None (λ l past. written_credit l 251 past) ≡ Some (Some L10)
unfolding broken_on
too_much = refl

-- the same credit again breaks none, and is not due
abbrev with_credit : List Record
with_credit = pair

again_lawful : broken_on [] with_credit 6 notes.None (λ l past. written_credit l 250 past) ≡ Some None
unfolding broken_on
again_lawful = refl

again_not_due : kept_on [] with_credit 6 notes.None (λ l past. written_credit l 250 past) ≡ Some false
unfolding kept_on
again_not_due = refl

-- an outcome of no delivery has the form of one that is due, and breaks a clause
abbrev accepted : Link → List Event → Spoken
accepted l past = written_outcome l.session.channel 0 (Some (bare_octets Accepted))

told_of_none : broken_on [] with_credit 6 (notes.Told M) accepted ≡ Some (Some L11)
unfolding broken_on
told_of_none = refl

told_kept : kept_on [] with_credit 6 (notes.Told M) accepted ≡ Some true
unfolding kept_on
told_kept = refl

-- a part that leaves something, and says that nothing follows, breaks a clause; one that says that more follows where
-- nothing is left breaks none, and is not due
b_is_last : broken_on [] one_goes_on 13 (notes.Pair 16) (λ l past. written_transfer l (next_part l false) (codes "b")) ≡ Some (Some L8)
unfolding broken_on
b_is_last = refl

more_than_all : broken_on [] one_goes_on 13 (notes.Pair 16) (λ l past. written_transfer l (next_part l true) (codes "bc")) ≡ Some None
unfolding broken_on
more_than_all = refl

more_not_due : kept_on [] one_goes_on 13 (notes.Pair 16) (λ l past. written_transfer l (next_part l true) (codes "bc")) ≡ Some false
unfolding kept_on
more_not_due = refl

rest_lawful : broken_on [] one_goes_on 13 (notes.Pair 16) (λ l past. written_transfer l (next_part l false) (codes "bc")) ≡ Some None
unfolding broken_on
rest_lawful = refl

rest_kept : kept_on [] one_goes_on 13 (notes.Pair 16) (λ l past. written_transfer l (next_part l false) (codes "bc")) ≡ Some true
unfolding kept_on
rest_kept = refl

-- of two copies that are due to a link the second, which begins in front of the first, breaks no clause and keeps the duties
abbrev copy_of : Link → List Event → Bool → Spoken
copy_of l past more = written_transfer l (first_part l 0 0 more) hi

second_lawful : broken_on multicast (two_sent_by Settled) 13 (notes.Pair 17) (λ l past. copy_of l past false) ≡ Some None
unfolding broken_on
second_lawful = refl

second_kept : kept_on multicast (two_sent_by Settled) 13 (notes.Pair 17) (λ l past. copy_of l past false) ≡ Some true
unfolding kept_on
second_kept = refl

second_early : earliest_on multicast (two_sent_by Settled) 13 (notes.Pair 17) (λ l past. copy_of l past false) ≡ Some false
unfolding earliest_on
second_early = refl

first_earliest : earliest_on multicast (two_sent_by Settled) 13 (notes.Pair 16) (λ l past. copy_of l past false) ≡ Some true
unfolding earliest_on
first_earliest = refl
