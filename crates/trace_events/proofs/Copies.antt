-- Captures with a producer and two consumers of a multicast address, and what the verdicts compute of them.
use Rattle.std.specs.Prelude.{ℕ, List, Bool, true, false, [], ◌∷◌, ◌++◌, Option, Some, option_and_then}
use Rattle.std.specs.Fmt.{digits}
use Rattle.amqp_perf.proofs.Opened.{read, written}
use Rattle.amqp_perf.specs.declared.attach.Role.TheVariants.{Receiver}
use Rattle.amqp_perf.specs.declared.attach.SenderSettleMode.{SenderSettleMode}
use Rattle.amqp_perf.specs.declared.attach.SenderSettleMode.TheVariants.{Unsettled}
use Rattle.amqp_perf.specs.declared.descriptor.Outcome.{Outcome}
use Rattle.amqp_perf.specs.Meaning.{AFlow, ATransfer, ADisposition}
use Rattle.amqp_frames.specs.Writing.{frame_octets}
use Rattle.amqp_frames.specs.Reading.{whole_frame, frame_at, sized_frame, headed_frame}
use Rattle.capture_form.specs.declared.records.Record.{Record}
use Rattle.capture_form.specs.Rules.{RuleText, RuleSet}
use Rattle.trace_events.specs.Words.{is_some_and}
use Rattle.trace_events.specs.Frame.{frame_read}
use Rattle.trace_events.specs.History.{history, judge}
use Rattle.trace_events.specs.Incoming.{incoming_at}
use Rattle.trace_events.specs.Link.{link_at}
use Rattle.trace_events.specs.Written.{spoken_octets}
use Rattle.trace_events.proofs.Captures.{unmarked}
use Rattle.trace_events.proofs.Made.{from, from_with, to, carry, gives, shows, first, disposes, detach_of, producer, consumer, q, hi}
use Rattle.trace_events.specs.CopyVerdict.{copy_verdict, verdict_by, awaits_verdict, awaits_now}
use Rattle.trace_events.specs.BestVerdict.{multicast_row}

-- 22 records: a producer of q on connection 0, and consumers on connections 1 and 2, whose links are those of records 13 and 20
abbrev pub attached : SenderSettleMode → SenderSettleMode → List Record
attached one other = producer 0 q ++ consumer 1 one q ++ consumer 2 other q ++ (to 0 (AFlow (shows 0 0 0 250)) ∷ [])

-- 25 records: both give credit, and the producer sends delivery 24
abbrev pub completed : SenderSettleMode → SenderSettleMode → List Record
completed one other =
    attached one other ++ (from 1 (AFlow (gives 0 0 10)) ∷ from 2 (AFlow (gives 0 0 10)) ∷ from_with 0 (ATransfer (first 0)) hi ∷ [])

-- each copy is to be settled
abbrev pub due : List Record
due = completed Unsettled Unsettled

-- the copy goes to a consumer, whose id for it is 0, and the consumer says of it
abbrev pub copy_to : ℕ → Record
copy_to c = carry c 24 (first 0) hi

abbrev pub says_of : ℕ → Option (List ℕ) → Record
says_of c state = from c (ADisposition (disposes Receiver 0 false state))

abbrev pub settles_with : ℕ → Option (List ℕ) → Record
settles_with c state = from c (ADisposition (disposes Receiver 0 true state))

abbrev pub leaves : ℕ → Record
leaves c = from c (detach_of true)

-- states beside accepted and released
abbrev pub rejected : Option (List ℕ)
rejected = Some (0x00 ∷ 0x53 ∷ 0x25 ∷ 0x45 ∷ [])

abbrev pub modified : Option (List ℕ)
modified = Some (0x00 ∷ 0x53 ∷ 0x27 ∷ 0x45 ∷ [])

-- received tells no outcome (part 3, section 3.4.1)
abbrev pub received : Option (List ℕ)
received = Some (0x00 ∷ 0x53 ∷ 0x23 ∷ 0xC0 ∷ 0x03 ∷ 0x02 ∷ 0x43 ∷ 0x44 ∷ [])

-- the verdict of the copy on the link of this number, of the delivery that began in the record of that one
unfoldable pub verdict_in : List RuleText → List Record → ℕ → ℕ → Option Outcome
unfolding frame_read whole_frame frame_at sized_frame headed_frame read digits spoken_octets frame_octets written
verdict_in rules records n m =
    let past = history (unmarked rules) records in
    option_and_then (λ d. option_and_then (λ l. copy_verdict d l past) (link_at m past)) (incoming_at n past)

-- a copy awaits its verdict there, or does with one more record; and the verdict that this one gives
unfoldable pub awaits_in : List RuleText → List Record → ℕ → ℕ → Bool
unfolding frame_read whole_frame frame_at sized_frame headed_frame read digits spoken_octets frame_octets written
awaits_in rules records n m =
    let past = history (unmarked rules) records in
    is_some_and (incoming_at n past) (λ d. is_some_and (link_at m past) (awaits_verdict (unmarked rules) d past))

unfoldable pub awaits_by : List RuleText → List Record → Record → ℕ → ℕ → Bool
unfolding frame_read whole_frame frame_at sized_frame headed_frame read digits spoken_octets frame_octets written
awaits_by rules records r n m =
    let past = history (unmarked rules) records in
    let e = judge (unmarked rules) past r in
    is_some_and (incoming_at n (e ∷ past)) (λ d. is_some_and (link_at m past) (awaits_now (unmarked rules) e past d))

unfoldable pub given_by : List RuleText → List Record → Record → ℕ → ℕ → Option Outcome
unfolding frame_read whole_frame frame_at sized_frame headed_frame read digits spoken_octets frame_octets written
given_by rules records r n m =
    let past = history (unmarked rules) records in
    let e = judge (unmarked rules) past r in
    option_and_then (λ d. option_and_then (verdict_by e past d) (link_at m past)) (incoming_at n past)

-- what the row of the delivery tells
unfoldable pub row_in : List RuleText → List Record → ℕ → Option (Option (List ℕ))
unfolding frame_read whole_frame frame_at sized_frame headed_frame read digits spoken_octets frame_octets written
row_in rules records n =
    let past = history (unmarked rules) records in
    option_and_then (λ d. multicast_row (unmarked rules) d past) (incoming_at n past)
