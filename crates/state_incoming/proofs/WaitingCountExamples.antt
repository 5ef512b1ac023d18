-- How many deliveries of captures wait at an address.
use Rattle.std.specs.Prelude.{◌≡◌, ℕ, true, List, [], ◌∷◌, ◌++◌, codes, refl}
use Rattle.std.specs.Fmt.{digits}
use Rattle.amqp_frames.specs.Writing.{frame_octets}
use Rattle.amqp_frames.specs.Reading.{whole_frame, frame_at, sized_frame, headed_frame}
use Rattle.amqp_perf.proofs.Opened.{read, written}
use Rattle.amqp_perf.specs.Meaning.{ATransfer}
use Rattle.capture_form.specs.declared.records.Record.{Record}
use Rattle.capture_form.specs.Rules.{no_rules}
use Rattle.trace_events.specs.Frame.{frame_read}
use Rattle.trace_events.specs.History.{history}
use Rattle.trace_events.specs.Written.{spoken_octets}
use Rattle.trace_events.proofs.Made.{carry, detach_of, first, from, from_with, hi, pair, q, sent, with_more}
use Rattle.state_incoming.specs.WaitingCount.{waiting_count}

unfoldable count_in : List Record → List ℕ → ℕ
unfolding frame_read whole_frame frame_at sized_frame headed_frame read digits spoken_octets frame_octets written
count_in records address = waiting_count no_rules address (history no_rules records)

-- ---- deliveries 16 and 17 wait, and the last part of delivery 18 hasn't come

abbrev three : List Record
three = sent ++ (from_with 0 (ATransfer (first 1)) hi ∷ from_with 0 (ATransfer (with_more (first 2))) hi ∷ [])

count-two : count_in three q ≡ 2
unfolding count_in
count-two = refl

count-elsewhere : count_in three (codes "other") ≡ 0
unfolding count_in
count-elsewhere = refl

-- one goes to the consumer
count-less_one : count_in (three ++ (carry 1 16 (first 0) hi ∷ [])) q ≡ 1
unfolding count_in
count-less_one = refl

-- the consumer leaves
count-none_left : count_in (three ++ (from 1 (detach_of true) ∷ [])) q ≡ 0
unfolding count_in
count-none_left = refl

count-none_yet : count_in pair q ≡ 0
unfolding count_in
count-none_yet = refl
