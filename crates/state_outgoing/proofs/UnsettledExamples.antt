-- How many deliveries on a link of captures are unsettled.
use Rattle.std.specs.Prelude.{◌≡◌, ℕ, true, false, List, [], ◌∷◌, ◌++◌, Option, option_map, Some, refl}
use Rattle.std.specs.Fmt.{digits}
use Rattle.amqp_frames.specs.Writing.{frame_octets}
use Rattle.amqp_frames.specs.Reading.{whole_frame, frame_at, sized_frame, headed_frame}
use Rattle.amqp_perf.specs.declared.attach.Role.TheVariants.{Receiver}
use Rattle.amqp_perf.specs.Meaning.{ATransfer, ADisposition}
use Rattle.amqp_perf.proofs.Opened.{read, written}
use Rattle.capture_form.specs.declared.records.Record.{Record}
use Rattle.capture_form.specs.Rules.{no_rules}
use Rattle.trace_events.specs.Frame.{frame_read}
use Rattle.trace_events.specs.History.{history}
use Rattle.trace_events.specs.Link.{link_at}
use Rattle.trace_events.specs.Written.{spoken_octets}
use Rattle.trace_events.proofs.Made.{accepted, carry, detach_of, disposes, first, from, from_with, hi, sent}
use Rattle.state_outgoing.specs.UnsettledCount.{unsettled_count}

-- on the link that is attached in the record of this number
unfoldable count_in : List Record → ℕ → Option ℕ
unfolding frame_read whole_frame frame_at sized_frame headed_frame read digits spoken_octets frame_octets written
count_in records link = let past = history no_rules records in option_map (λ l. unsettled_count l past) (link_at link past)

-- ---- deliveries 16, 17 and 18 of the producer's link 6 go to the consumer's link 13, and it settles the second

abbrev three : List Record
three =
    sent
    ++ (from_with 0 (ATransfer (first 1)) hi ∷ from_with 0 (ATransfer (first 2)) hi ∷ carry 1 16 (first 0) hi ∷ carry 1 17 (first 1) hi
    ∷ carry 1 18 (first 2) hi ∷ [])

abbrev one_settled : List Record
one_settled = three ++ (from 1 (ADisposition (disposes Receiver 1 true accepted)) ∷ [])

count-none_yet : count_in sent 13 ≡ Some 0
unfolding count_in
count-none_yet = refl

count-three : count_in three 13 ≡ Some 3
unfolding count_in
count-three = refl

count-two : count_in one_settled 13 ≡ Some 2
unfolding count_in
count-two = refl

-- a decision alone settles nothing
count-decided : count_in (three ++ (from 1 (ADisposition (disposes Receiver 1 false accepted)) ∷ [])) 13 ≡ Some 3
unfolding count_in
count-decided = refl

-- none to the producer
count-elsewhere : count_in one_settled 6 ≡ Some 0
unfolding count_in
count-elsewhere = refl

-- with the link all are settled
count-left : count_in (one_settled ++ (from 1 (detach_of true) ∷ [])) 13 ≡ Some 0
unfolding count_in
count-left = refl
