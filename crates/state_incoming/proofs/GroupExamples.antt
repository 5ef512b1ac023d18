-- By what a delivery is found, and which deliveries a record names.
use Rattle.std.specs.Prelude.{◌≡◌, ℕ, Bool, true, false, List, [], ◌∷◌, ◌++◌, codes, Option, Some, None, refl}
use Rattle.std.specs.Fmt.{digits}
use Rattle.amqp_frames.specs.Writing.{frame_octets}
use Rattle.amqp_frames.specs.Reading.{whole_frame, frame_at, sized_frame, headed_frame}
use Rattle.amqp_perf.proofs.Opened.{read, written}
use Rattle.amqp_perf.specs.declared.attach.Role.TheVariants.{Sender, Receiver}
use Rattle.amqp_perf.specs.Meaning.{AFlow, ATransfer, ADisposition}
use Rattle.pairing_cert.specs.declared.note.Why.TheVariants.{N}
use Rattle.capture_form.specs.declared.records.Record.{Record}
use Rattle.capture_form.specs.Rules.{no_rules}
use Rattle.trace_events.specs.Frame.{frame_read}
use Rattle.trace_events.specs.Event.{Event, Incoming}
use Rattle.trace_events.specs.History.{history, judge}
use Rattle.trace_events.specs.Outgoing.{carried_number}
use Rattle.trace_events.specs.Written.{spoken_octets}
use Rattle.trace_events.proofs.Made.{carry, disposes, first, from, from_with, gives, hi, next, pair, q, released, sent, tell, to, with_more}
use Rattle.state_incoming.specs.Held.{Held, unbegun}
use Rattle.state_incoming.specs.Grouped.{has_id, is_for, is_of_link, is_of_session, marks_of, unmarked}
use Rattle.state_incoming.specs.Touched.{part_number, settled_session}
use Rattle.state_incoming.specs.declared.held.Fate.{Fate}
use Rattle.state_incoming.specs.declared.held.Fate.TheVariants.{Arriving, Waiting, Gone, Paired}

-- ---- the keys of a delivery: link 6, session 4, id 3 there, address `q`

abbrev delivery : Option ℕ → Incoming
delivery id = record {
  number = 15;
  link = record {
    number = 6;
    session = record { number = 4; connection = 0; channel = 0; our_first_id = 0; their_first_id = 0; their_window = 100 };
    handle = 0;
    role = Receiver;
    address = q;
    is_pre_settled = false;
    our_first_count = 0;
    their_first_count = 0;
  };
  id = id;
  format = 0;
}

of_its_link : is_of_link 6 (delivery (Some 3)) ≡ true
of_its_link = refl

of_no_other_link : is_of_link 7 (delivery (Some 3)) ≡ false
of_no_other_link = refl

of_its_session : is_of_session 4 (delivery (Some 3)) ≡ true
of_its_session = refl

of_no_other_session : is_of_session 6 (delivery (Some 3)) ≡ false
of_no_other_session = refl

under_its_id : has_id 4 3 (delivery (Some 3)) ≡ true
under_its_id = refl

not_on_another_session : has_id 5 3 (delivery (Some 3)) ≡ false
not_on_another_session = refl

under_no_other_id : has_id 4 2 (delivery (Some 3)) ≡ false
under_no_other_id = refl

under_no_id : has_id 4 3 (delivery None) ≡ false
under_no_id = refl

for_its_address : is_for q (unbegun (delivery (Some 3))) ≡ true
for_its_address = refl

for_no_other_address : is_for (codes "other") (unbegun (delivery (Some 3))) ≡ false
for_no_other_address = refl

-- ---- in which groups one stands

abbrev kept : Bool → Fate → Held
kept undecided fate = let x = unbegun (delivery (Some 3)) in record x { is_undecided = undecided; fate = fate }

arrives : marks_of (kept true Arriving) ≡ record { is_arriving = true; is_undecided = true; is_waiting = false }
arrives = refl

waits : marks_of (kept true Waiting) ≡ record { is_arriving = false; is_undecided = true; is_waiting = true }
waits = refl

waits_behind_its_link : marks_of (kept false Waiting) ≡ record { is_arriving = false; is_undecided = false; is_waiting = true }
waits_behind_its_link = refl

goes : marks_of (kept true Paired) ≡ record { is_arriving = false; is_undecided = true; is_waiting = false }
goes = refl

is_decided : marks_of (kept false Gone) ≡ unmarked
is_decided = refl

-- ---- the deliveries that a record names

unfoldable names : (Event → Option ℕ) → List Record → Record → Option ℕ
unfolding frame_read whole_frame frame_at sized_frame headed_frame read digits spoken_octets frame_octets written
names number records r = number (judge no_rules (history no_rules records) r)

-- delivery 15 is incomplete
abbrev begun : List Record
begun = pair ++ (from_with 0 (ATransfer (with_more (first 0))) hi ∷ [])

abbrev gives_more : Record
gives_more = from 1 (AFlow (gives 0 0 20))

is_part : names part_number begun (from 0 (ATransfer (next false))) ≡ Some 15
unfolding names
is_part = refl

is_first_part : names part_number pair (from_with 0 (ATransfer (first 0)) hi) ≡ Some 15
unfolding names
is_first_part = refl

is_no_part : names part_number begun gives_more ≡ None
unfolding names
is_no_part = refl

is_told : names (λ (e : Event). e.told) sent (tell 0 N (disposes Receiver 0 true released)) ≡ Some 16
unfolding names
is_told = refl

tells_none : names (λ (e : Event). e.told) sent gives_more ≡ None
unfolding names
tells_none = refl

is_carried : names carried_number sent (carry 1 16 (first 0) hi) ≡ Some 16
unfolding names
is_carried = refl

carries_none : names carried_number sent (to 1 (ATransfer (first 0))) ≡ None
unfolding names
carries_none = refl

no_transfer : names carried_number sent gives_more ≡ None
unfolding names
no_transfer = refl

settles_on : names settled_session sent (from 0 (ADisposition (disposes Sender 0 true None))) ≡ Some 4
unfolding names
settles_on = refl

decides : names settled_session sent (from 1 (ADisposition (disposes Receiver 0 true released))) ≡ None
unfolding names
decides = refl

settles_nothing : names settled_session sent gives_more ≡ None
unfolding names
settles_nothing = refl
