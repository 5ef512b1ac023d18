-- Of which deliveries from clients nothing can come any more, and of which something can.
use Rattle.std.specs.Prelude.{◌≡◌, ℕ, Bool, true, false, ◌&&◌, List, [], ◌∷◌, ◌++◌, Option, Some, None, option_and_then, option_map, refl}
use Rattle.std.specs.Fmt.{digits}
use Rattle.amqp_frames.specs.Writing.{frame_octets}
use Rattle.amqp_frames.specs.Reading.{whole_frame, frame_at, sized_frame, headed_frame}
use Rattle.amqp_perf.proofs.Opened.{read, written}
use Rattle.amqp_perf.specs.declared.attach.Role.TheVariants.{Receiver}
use Rattle.amqp_perf.specs.declared.attach.SenderSettleMode.TheVariants.{Settled}
use Rattle.amqp_perf.specs.Meaning.{ADisposition}
use Rattle.pairing_cert.specs.declared.note.Note.TheVariants as notes
use Rattle.pairing_cert.specs.declared.note.Why.TheVariants.{C}
use Rattle.capture_form.specs.declared.records.Record.{Record}
use Rattle.capture_form.specs.Rules.{no_rules}
use Rattle.trace_events.specs.Due.{is_unsent}
use Rattle.trace_events.specs.Frame.{frame_read}
use Rattle.trace_events.specs.History.{history}
use Rattle.trace_events.specs.Incoming.{incoming_at}
use Rattle.trace_events.specs.Link.{is_live, link_at}
use Rattle.trace_events.specs.Written.{spoken_octets}
use Rattle.trace_events.proofs.Captures.{outgoing_of, unmarked}
use Rattle.trace_events.proofs.Made.{from, carry, first, with_more, as_settled, disposes, accepted, detach_of, hi, sent, sent_by, carried, finishes, accepts, tells, producer_settles, multicast}
use Rattle.trace_events.proofs.Copies.{due, copy_to}
use Rattle.state_tables.specs.LetGo.{is_let_go, names_let_go}
use Rattle.state_incoming.specs.Held.{held_at}
use Rattle.state_incoming.specs.LetGo.{is_finished, is_spent}

-- ---- which were let go

abbrev gone : List (ℕ × Unit {0})
gone = (16, tt) ∷ (20, tt) ∷ []

first_is_gone : is_let_go gone 16 ≡ true
first_is_gone = refl

last_is_gone : is_let_go gone 20 ≡ true
last_is_gone = refl

other_is_not : is_let_go gone 18 ≡ false
other_is_not = refl

none_is : is_let_go [] 16 ≡ false
none_is = refl

note_of_it : names_let_go gone (notes.Pair 20) ≡ true
note_of_it = refl

note_of_another : names_let_go gone (notes.Pair 18) ≡ false
note_of_another = refl

note_of_none : names_let_go gone notes.None ≡ false
note_of_none = refl

note_of_why : names_let_go gone (notes.Told C) ≡ false
note_of_why = refl

-- ---- what carries it: delivery 16, carried by delivery 17

abbrev part_carried : List Record
part_carried = sent ++ (carry 1 16 (with_more (first 0)) hi ∷ [])

unfoldable finished_in : List Record → ℕ → Option Bool
unfolding frame_read whole_frame frame_at sized_frame headed_frame read digits spoken_octets frame_octets written
finished_in records n = let past = history no_rules records in option_map (is_finished past) (outgoing_of n past)

is_done : finished_in (carried ++ (finishes ∷ [])) 17 ≡ Some true
unfolding finished_in
is_done = refl

stands_unsettled : finished_in (carried ++ (accepts ∷ [])) 17 ≡ Some false
unfolding finished_in
stands_unsettled = refl

not_all_sent : finished_in (part_carried ++ (finishes ∷ [])) 17 ≡ Some false
unfolding finished_in
not_all_sent = refl

-- its link is over
ends_with_its_link : finished_in (carried ++ (from 1 (detach_of true) ∷ [])) 17 ≡ Some true
unfolding finished_in
ends_with_its_link = refl

-- sent settled, it is so with its last part
is_sent_settled : finished_in (sent_by Settled ++ (carry 1 16 (as_settled (first 0)) hi ∷ [])) 17 ≡ Some true
unfolding finished_in
is_sent_settled = refl

-- ---- the delivery itself

unfoldable spent_in : List Record → ℕ → Option Bool
unfolding frame_read whole_frame frame_at sized_frame headed_frame read digits spoken_octets frame_octets written
spent_in records n = option_map is_spent (held_at no_rules n (history no_rules records))

went_and_told : spent_in (carried ++ (accepts ∷ tells ∷ [])) 16 ≡ Some true
unfolding spent_in
went_and_told = refl

not_told : spent_in (carried ++ (accepts ∷ [])) 16 ≡ Some false
unfolding spent_in
not_told = refl

still_waits : spent_in (sent ++ (producer_settles ∷ [])) 16 ≡ Some false
unfolding spent_in
still_waits = refl

-- ---- one of multicast: delivery 24, of which copies are due to the links of records 13 and 20

abbrev settled_by : ℕ → Record
settled_by c = from c (ADisposition (disposes Receiver 0 true accepted))

unfoldable spent_of_all : List Record → Option Bool
unfolding frame_read whole_frame frame_at sized_frame headed_frame read digits spoken_octets frame_octets written
spent_of_all records = option_map is_spent (held_at (unmarked multicast) 24 (history (unmarked multicast) records))

-- a copy is still to begin on the link of this number
unfoldable to_begin_in : List Record → ℕ → Option Bool
unfolding frame_read whole_frame frame_at sized_frame headed_frame read digits spoken_octets frame_octets written
to_begin_in records m =
    let past = history (unmarked multicast) records in
    option_and_then (λ d. option_map (λ l. is_live past l && is_unsent (unmarked multicast) d l past) (link_at m past)) (incoming_at 24 past)

unfoldable finished_of_all : List Record → ℕ → Option Bool
unfolding frame_read whole_frame frame_at sized_frame headed_frame read digits spoken_octets frame_octets written
finished_of_all records n = let past = history (unmarked multicast) records in option_map (is_finished past) (outgoing_of n past)

abbrev settled_by_both : List Record
settled_by_both = due ++ (copy_to 1 ∷ copy_to 2 ∷ settled_by 1 ∷ settled_by 2 ∷ [])

-- one that is over: told, its copies sent and settled, and none to begin
copies_told : spent_of_all (settled_by_both ++ (tells ∷ [])) ≡ Some true
unfolding spent_of_all
copies_told = refl

first_finished : finished_of_all (settled_by_both ++ (tells ∷ [])) 25 ≡ Some true
unfolding finished_of_all
first_finished = refl

second_finished : finished_of_all (settled_by_both ++ (tells ∷ [])) 26 ≡ Some true
unfolding finished_of_all
second_finished = refl

first_begun : to_begin_in (settled_by_both ++ (tells ∷ [])) 13 ≡ Some false
unfolding to_begin_in
first_begun = refl

second_begun : to_begin_in (settled_by_both ++ (tells ∷ [])) 20 ≡ Some false
unfolding to_begin_in
second_begun = refl

-- nothing was told of it
copies_untold : spent_of_all settled_by_both ≡ Some false
unfolding spent_of_all
copies_untold = refl

-- its producer settled it before a copy of it began
copies_to_begin : spent_of_all (due ++ (producer_settles ∷ [])) ≡ Some true
unfolding spent_of_all
copies_to_begin = refl

one_to_begin : to_begin_in (due ++ (producer_settles ∷ copy_to 2 ∷ [])) 13 ≡ Some true
unfolding to_begin_in
one_to_begin = refl

-- and its link is over then
none_to_begin : to_begin_in (due ++ (producer_settles ∷ from 1 (detach_of true) ∷ [])) 13 ≡ Some false
unfolding to_begin_in
none_to_begin = refl
