-- How many deliveries captures complete.
use Rattle.std.specs.Prelude.{◌≡◌, ℕ, true, false, List, [], ◌∷◌, ◌++◌, refl}
use Rattle.std.specs.Fmt.{digits}
use Rattle.amqp_frames.specs.Writing.{frame_octets}
use Rattle.amqp_frames.specs.Reading.{whole_frame, frame_at, sized_frame, headed_frame}
use Rattle.amqp_perf.proofs.Opened.{read, written}
use Rattle.amqp_perf.specs.Meaning.{ATransfer}
use Rattle.capture_form.specs.declared.records.Record.{Record}
use Rattle.capture_form.specs.Rules.{no_rules}
use Rattle.trace_events.specs.Frame.{frame_read}
use Rattle.trace_events.specs.History.{history}
use Rattle.trace_events.specs.Written.{spoken_octets}
use Rattle.trace_events.proofs.Made.{carry, first, from_with, hi, next, pair, sent, with_more}
use Rattle.state_answers.specs.Tables.{completed_by_all}

unfoldable completed_in : List Record → ℕ
unfolding frame_read whole_frame frame_at sized_frame headed_frame read digits spoken_octets frame_octets written
completed_in records = completed_by_all (history no_rules records)

completed-none : completed_in pair ≡ 0
unfolding completed_in
completed-none = refl

-- ---- deliveries 16 and 17 came whole, and the last part of delivery 18 hasn't come

abbrev three : List Record
three = sent ++ (from_with 0 (ATransfer (first 1)) hi ∷ from_with 0 (ATransfer (with_more (first 2))) hi ∷ [])

completed-two : completed_in three ≡ 2
unfolding completed_in
completed-two = refl

-- a part that is not the last completes nothing, and the last one does
completed-no_more : completed_in (three ++ (from_with 0 (ATransfer (next true)) hi ∷ [])) ≡ 2
unfolding completed_in
completed-no_more = refl

completed-last : completed_in (three ++ (from_with 0 (ATransfer (next false)) hi ∷ [])) ≡ 3
unfolding completed_in
completed-last = refl

-- what the router sends to a consumer is none of a client's
completed-carried : completed_in (three ++ (carry 1 16 (first 0) hi ∷ [])) ≡ 2
unfolding completed_in
completed-carried = refl
