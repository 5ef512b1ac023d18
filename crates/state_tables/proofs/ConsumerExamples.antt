-- Which links are consumers', and of which address: behind a producer's link of `q` in record 6 and a consumer's in record 13.
use Rattle.std.specs.Prelude.{◌≡◌, ℕ, Bool, true, false, List, [], ◌∷◌, ◌++◌, Some, None, bytes_eq, codes, is_some, take, refl}
use Rattle.std.specs.Fmt.{digits}
use Rattle.amqp_frames.specs.Writing.{frame_octets}
use Rattle.amqp_frames.specs.Reading.{whole_frame, frame_at, sized_frame, headed_frame}
use Rattle.amqp_perf.proofs.Opened.{read, written}
use Rattle.amqp_perf.specs.declared.attach.Role.TheVariants.{Sender}
use Rattle.amqp_perf.specs.declared.attach.SenderSettleMode.TheVariants.{Mixed}
use Rattle.amqp_perf.specs.declared.attach.ReceiverSettleMode.TheVariants.{First}
use Rattle.capture_form.specs.declared.records.Record.{Record}
use Rattle.capture_form.specs.Rules.{no_rules}
use Rattle.trace_events.specs.Words.{is_some_and}
use Rattle.trace_events.specs.Frame.{frame_read}
use Rattle.trace_events.specs.Event.{Event, Link}
use Rattle.trace_events.specs.Address.{is_consumer_of}
use Rattle.trace_events.specs.Link.{link_at}
use Rattle.trace_events.specs.History.{history, judge}
use Rattle.trace_events.specs.Written.{spoken_octets}
use Rattle.trace_events.proofs.Made.{from, write, consumer, detach_of, pair, producer, q, written_to_consumer, written_to_producer}
use Rattle.state_tables.specs.ConsumerLinks.{consumer_at, opened_at, with_opened, without}
use Rattle.state_tables.specs.Consumers.{has_some, has_link_of, opens_consumer, opens_for}

abbrev other : List ℕ
other = codes "other"

-- ---- the number of a live link of the address's consumers

unfoldable consumes : List Record → List ℕ → ℕ → Bool
unfolding frame_read whole_frame frame_at sized_frame headed_frame read digits spoken_octets frame_octets written
consumes records address n = let past = history no_rules records in is_some_and (link_at n past) (is_consumer_of address past)

a_consumer : consumes pair q 13 ≡ true
unfolding consumes
a_consumer = refl

a_producer : consumes pair q 6 ≡ false
unfolding consumes
a_producer = refl

of_another_address : consumes pair other 13 ≡ false
unfolding consumes
of_another_address = refl

of_another_number : consumes pair q 12 ≡ false
unfolding consumes
of_another_number = refl

that_left : consumes (pair ++ (from 1 (detach_of true) ∷ [])) q 13 ≡ false
unfolding consumes
that_left = refl

-- ---- what a record opens

unfoldable opens : (Event → Bool) → List Record → Record → Bool
unfolding frame_read whole_frame frame_at sized_frame headed_frame read digits spoken_octets frame_octets written
opens test records r = test (judge no_rules (history no_rules records) r)

-- before the router's attach
abbrev asked_by_consumer : List Record
asked_by_consumer = take 6 (consumer 0 Mixed q)

abbrev asked_by_producer : List Record
asked_by_producer = take 6 (producer 0 q)

abbrev answers_consumer : Record
answers_consumer = write 0 (written_to_consumer 0 (codes "l") 0 Mixed First q false)

abbrev answers_producer : Record
answers_producer = write 0 (written_to_producer 0 (codes "l") 0 Mixed q)

opens_here : opens (opens_for q 6) asked_by_consumer answers_consumer ≡ true
unfolding opens
opens_here = refl

opens_elsewhere : opens (opens_for other 6) asked_by_consumer answers_consumer ≡ false
unfolding opens
opens_elsewhere = refl

opens_another : opens (opens_for q 5) asked_by_consumer answers_consumer ≡ false
unfolding opens
opens_another = refl

opens_a_producer : opens (opens_for q 6) asked_by_producer answers_producer ≡ false
unfolding opens
opens_a_producer = refl

names_one : opens (opens_for q 6) (consumer 0 Mixed q) (from 0 (detach_of true)) ≡ false
unfolding opens
names_one = refl

opens_one : opens opens_consumer asked_by_consumer answers_consumer ≡ true
unfolding opens
opens_one = refl

opens_none : opens opens_consumer asked_by_producer answers_producer ≡ false
unfolding opens
opens_none = refl

opens_no_more : opens opens_consumer (consumer 0 Mixed q) (from 0 (detach_of true)) ≡ false
unfolding opens
opens_no_more = refl

-- ---- links that ended

abbrev link : List ℕ → ℕ → Link
link address n = record {
  number = n;
  session = record { number = 4; connection = 0; channel = 0; our_first_id = 0; their_first_id = 0; their_window = 100 };
  handle = 0;
  role = Sender;
  address = address;
  is_pre_settled = false;
  our_first_count = 0;
  their_first_count = 0;
}

ended_here : has_link_of (link other 5 ∷ link q 6 ∷ []) q 6 ≡ true
ended_here = refl

ended_elsewhere : has_link_of (link other 6 ∷ link q 5 ∷ []) q 6 ≡ false
ended_elsewhere = refl

none_ended : has_link_of [] q 6 ≡ false
none_ended = refl

-- ---- an address that has some

has_one : has_some (6 ∷ []) ≡ true
has_one = refl

has_none : has_some [] ≡ false
has_none = refl

-- ---- the live link of a consumer that has a number

unfoldable finds : List Record → ℕ → Bool
unfolding frame_read whole_frame frame_at sized_frame headed_frame read digits spoken_octets frame_octets written
finds records n = is_some_and (consumer_at n (history no_rules records)) (λ l. bytes_eq l.address q)

finds_consumer : finds pair 13 ≡ true
unfolding finds
finds_consumer = refl

finds_no_producer : finds pair 6 ≡ false
unfolding finds
finds_no_producer = refl

finds_no_other : finds pair 12 ≡ false
unfolding finds
finds_no_other = refl

finds_none_that_left : finds (pair ++ (from 1 (detach_of true) ∷ [])) 13 ≡ false
unfolding finds
finds_none_that_left = refl

-- ---- the link of a number that a record opens

opens_of_number : opens (λ e. is_some (opened_at 6 e)) asked_by_consumer answers_consumer ≡ true
unfolding opens
opens_of_number = refl

opens_of_another : opens (λ e. is_some (opened_at 5 e)) asked_by_consumer answers_consumer ≡ false
unfolding opens
opens_of_another = refl

opens_of_producer : opens (λ e. is_some (opened_at 6 e)) asked_by_producer answers_producer ≡ false
unfolding opens
opens_of_producer = refl

opens_of_named : opens (λ e. is_some (opened_at 6 e)) (consumer 0 Mixed q) (from 0 (detach_of true)) ≡ false
unfolding opens
opens_of_named = refl

opens_in_place : opens (λ e. is_some_and (with_opened 6 e (Some (link other 6))) (λ l. bytes_eq l.address q)) asked_by_consumer answers_consumer ≡ true
unfolding opens
opens_in_place = refl

opens_beside : opens (λ e. is_some_and (with_opened 5 e (Some (link other 5))) (λ l. bytes_eq l.address other)) asked_by_consumer answers_consumer ≡ true
unfolding opens
opens_beside = refl

-- ---- what stands but for links that ended

ends_its_own : without (link other 5 ∷ link q 6 ∷ []) 6 (Some (link q 6)) ≡ None
ends_its_own = refl

ends_others : without (link q 5 ∷ []) 6 (Some (link q 6)) ≡ Some (link q 6)
ends_others = refl
