-- What captures say of a delivery to a client, and what one more record makes of it.
use Rattle.std.specs.Prelude.{◌≡◌, ℕ, Bool, true, false, List, [], ◌∷◌, ◌++◌, Option, Some, None, option_map, refl, ◌==◌}
use Rattle.std.specs.Fmt.{digits}
use Rattle.amqp_perf.specs.declared.attach.Role.TheVariants.{Sender, Receiver}
use Rattle.amqp_perf.specs.declared.attach.SenderSettleMode.TheVariants as modes
use Rattle.amqp_perf.specs.Nested.{StateFields}
use Rattle.amqp_perf.specs.Meaning.{ADisposition}
use Rattle.amqp_perf.proofs.Opened.{read, written}
use Rattle.amqp_frames.specs.Writing.{frame_octets}
use Rattle.amqp_frames.specs.Reading.{whole_frame, frame_at, sized_frame, headed_frame}
use Rattle.capture_form.specs.declared.records.Record.{Record}
use Rattle.capture_form.specs.Rules.{no_rules}
use Rattle.trace_events.specs.Frame.{frame_read}
use Rattle.trace_events.specs.Words.{is_some_and}
use Rattle.trace_events.specs.Event.{Outgoing}
use Rattle.trace_events.specs.History.{history, judge}
use Rattle.trace_events.specs.Written.{spoken_octets}
use Rattle.trace_events.proofs.Made.{from, carry, first, next, as_settled, disposes, accepted, released, hi, sent, sent_by, half, rest, half_carried, whole, carried, pre_settled, accepts, settles, finishes, tells, router_settles, consumer_leaves, gives_more}
use Rattle.state_outgoing.specs.Sent.{Sent, sent_at, sent_next, sent_begun, sent_behind, begins_number, ends_delivery, decided_with, takes_state, to_settle, goes_on_with}
use Rattle.number_groups.specs.Ids.{same_id}
use Rattle.state_outgoing.specs.SentGrouped.{is_of_link, is_of_session, has_id}
use Rattle.state_outgoing.specs.IdRanges.{are_few, some_place, span}
use Rattle.state_outgoing.specs.SentTouched.{part_number, spoken_ids, touches}
use Rattle.number_groups.specs.declared.id_on.IdOn.{IdOn}
use Rattle.state_outgoing.specs.declared.id_range.IdRange.{IdRange}

-- how many octets were sent, whether the last part is, the octets of the state that is decided, and whether it is unsettled
abbrev Shown : Type 0
Shown = ℕ × Bool × Option (Option (List ℕ)) × Bool

abbrev state_octets : Option StateFields → Option (List ℕ)
state_octets state = option_map (λ (s : StateFields). s.octets) state

abbrev shown : Sent → Shown
shown x = (x.sent_count, x.is_sent, option_map state_octets x.decision, x.is_unsettled)

unfoldable sent_in : List Record → ℕ → Option Shown
unfolding frame_read whole_frame frame_at sized_frame headed_frame read digits spoken_octets frame_octets written
sent_in records n = option_map shown (sent_at n (history no_rules records))

-- what one more record makes of it
unfoldable next_in : List Record → Record → ℕ → Option Shown
unfolding frame_read whole_frame frame_at sized_frame headed_frame read digits spoken_octets frame_octets written
next_in records r n = let past = history no_rules records in option_map (λ x. shown (sent_next (judge no_rules past r) x)) (sent_at n past)

unfoldable begun_in : List Record → Record → Option Shown
unfolding frame_read whole_frame frame_at sized_frame headed_frame read digits spoken_octets frame_octets written
begun_in records r = option_map shown (sent_begun (judge no_rules (history no_rules records) r))

unfoldable behind_in : List Record → Record → ℕ → Option Shown
unfolding frame_read whole_frame frame_at sized_frame headed_frame read digits spoken_octets frame_octets written
behind_in records r n = let past = history no_rules records in option_map shown (sent_behind (judge no_rules past r) n (sent_at n past))

unfoldable begins_in : List Record → Record → ℕ → Bool
unfolding frame_read whole_frame frame_at sized_frame headed_frame read digits spoken_octets frame_octets written
begins_in records r n = begins_number (judge no_rules (history no_rules records) r) n

unfoldable ends_in : List Record → Record → ℕ → Bool
unfolding frame_read whole_frame frame_at sized_frame headed_frame read digits spoken_octets frame_octets written
ends_in records r n = let past = history no_rules records in is_some_and (sent_at n past) (λ x. ends_delivery (judge no_rules past r) x.delivery)

unfoldable takes_in : List Record → Record → ℕ → Bool
unfolding frame_read whole_frame frame_at sized_frame headed_frame read digits spoken_octets frame_octets written
takes_in records r n = let past = history no_rules records in is_some_and (sent_at n past) (takes_state (judge no_rules past r))

unfoldable decided_in : List Record → Record → ℕ → Option (Option (Option (List ℕ)))
unfolding frame_read whole_frame frame_at sized_frame headed_frame read digits spoken_octets frame_octets written
decided_in records r n = let past = history no_rules records in option_map (λ x. option_map state_octets (decided_with (judge no_rules past r) x.delivery)) (sent_at n past)

unfoldable touches_in : List Record → Record → ℕ → Bool
unfolding frame_read whole_frame frame_at sized_frame headed_frame read digits spoken_octets frame_octets written
touches_in records r n = let past = history no_rules records in is_some_and (sent_at n past) (touches (judge no_rules past r))

-- what one more record is found by: the delivery that it is a part of; the ids that its consumer names, and whether they are on the
-- session of a delivery
unfoldable part_in : List Record → Record → Option ℕ
unfolding frame_read whole_frame frame_at sized_frame headed_frame read digits spoken_octets frame_octets written
part_in records r = part_number (judge no_rules (history no_rules records) r)

unfoldable ids_in : List Record → Record → ℕ → Option (ℕ × ℕ × Bool)
unfolding frame_read whole_frame frame_at sized_frame headed_frame read digits spoken_octets frame_octets written
ids_in records r n =
    let past = history no_rules records in
    option_map (λ ids. (ids.first, ids.last, is_some_and (sent_at n past) (λ x. is_of_session ids.session x.delivery))) (spoken_ids (judge no_rules past r))

-- ---- captures: delivery 17 goes to the consumer, in one part or in two

-- the consumer releases it
abbrev releases : Record
releases = from 1 (ADisposition (disposes Receiver 0 false released))

-- it names two ids, or one as the last too
abbrev accepts_two : Record
accepts_two = from 1 (ADisposition (record (disposes Receiver 0 true accepted) { last = Some 1 }))

abbrev accepts_last : Record
accepts_last = from 1 (ADisposition (record (disposes Receiver 0 true accepted) { last = Some 0 }))

-- a disposition of a sender
abbrev settles_as_sender : Record
settles_as_sender = from 1 (ADisposition (disposes Sender 0 true None))

-- it says something of another id, or no outcome
abbrev accepts_another : Record
accepts_another = from 1 (ADisposition (disposes Receiver 1 true accepted))

abbrev says_nothing : Record
says_nothing = from 1 (ADisposition (disposes Receiver 0 false None))

abbrev told : List Record
told = carried ++ (accepts ∷ tells ∷ [])

-- ---- what is said of it

of_another : sent_in carried 16 ≡ None
unfolding sent_in
of_another = refl

half_sent : sent_in half_carried 17 ≡ Some (1, false, None, true)
unfolding sent_in
half_sent = refl

in_two_parts : sent_in (half_carried ++ (rest ∷ [])) 17 ≡ Some (2, true, None, true)
unfolding sent_in
in_two_parts = refl

in_one_part : sent_in carried 17 ≡ Some (2, true, None, true)
unfolding sent_in
in_one_part = refl

is_accepted : sent_in (carried ++ (accepts ∷ [])) 17 ≡ Some (2, true, Some accepted, true)
unfolding sent_in
is_accepted = refl

-- settled without an outcome it is decided too
is_settled : sent_in (carried ++ (settles ∷ [])) 17 ≡ Some (2, true, Some None, false)
unfolding sent_in
is_settled = refl

is_both : sent_in (carried ++ (finishes ∷ [])) 17 ≡ Some (2, true, Some accepted, false)
unfolding sent_in
is_both = refl

-- the first decision holds, and what settles it later settles it
decided_once : sent_in (carried ++ (accepts ∷ releases ∷ settles ∷ [])) 17 ≡ Some (2, true, Some accepted, false)
unfolding sent_in
decided_once = refl

-- once its link is over it is neither unsettled nor decided
is_over : sent_in (carried ++ (consumer_leaves ∷ [])) 17 ≡ Some (2, true, None, false)
unfolding sent_in
is_over = refl

decided_late : sent_in (carried ++ (consumer_leaves ∷ finishes ∷ [])) 17 ≡ Some (2, true, None, false)
unfolding sent_in
decided_late = refl

router_settled : sent_in (told ++ (router_settles ∷ [])) 17 ≡ Some (2, true, Some accepted, false)
unfolding sent_in
router_settled = refl

-- on a pre-settled link it is never unsettled, and nothing is decided
sent_settled : sent_in pre_settled 17 ≡ Some (2, true, None, false)
unfolding sent_in
sent_settled = refl

pre_settled_sent : sent_in (pre_settled ++ (finishes ∷ [])) 17 ≡ Some (2, true, None, false)
unfolding sent_in
pre_settled_sent = refl

-- ---- its last part

last_part : ends_in half_carried rest 17 ≡ true
unfolding ends_in
last_part = refl

not_last : ends_in half_carried (carry 1 16 (next true) (0x69 ∷ [])) 17 ≡ false
unfolding ends_in
not_last = refl

no_part : ends_in carried gives_more 17 ≡ false
unfolding ends_in
no_part = refl

part_of_another : ends_in carried (carry 1 16 (first 1) hi) 17 ≡ false
unfolding ends_in
part_of_another = refl

-- ---- its consumer decides it

decides_it : decided_in carried accepts 17 ≡ Some (Some accepted)
unfolding decided_in
decides_it = refl

decides_by_settling : decided_in carried settles 17 ≡ Some (Some None)
unfolding decided_in
decides_by_settling = refl

decides_nothing : decided_in carried says_nothing 17 ≡ Some None
unfolding decided_in
decides_nothing = refl

decides_another : decided_in carried accepts_another 17 ≡ Some None
unfolding decided_in
decides_another = refl

-- ---- with a terminal state

takes_it : takes_in carried accepts 17 ≡ true
unfolding takes_in
takes_it = refl

takes_no_state : takes_in carried settles 17 ≡ false
unfolding takes_in
takes_no_state = refl

took_another : takes_in (carried ++ (accepts ∷ [])) releases 17 ≡ false
unfolding takes_in
took_another = refl

takes_over : takes_in (carried ++ (consumer_leaves ∷ [])) accepts 17 ≡ false
unfolding takes_in
takes_over = refl

-- ---- what one more record makes of it

next_part : next_in half_carried rest 17 ≡ Some (2, true, None, true)
unfolding next_in
next_part = refl

next_other : next_in half_carried gives_more 17 ≡ Some (1, false, None, true)
unfolding next_in
next_other = refl

next_decision : next_in carried finishes 17 ≡ Some (2, true, Some accepted, false)
unfolding next_in
next_decision = refl

-- where its link is over
next_over : next_in (carried ++ (consumer_leaves ∷ [])) finishes 17 ≡ Some (2, true, None, false)
unfolding next_in
next_over = refl

next_pre_settled : next_in pre_settled finishes 17 ≡ Some (2, true, None, false)
unfolding next_in
next_pre_settled = refl

next_decided : next_in (carried ++ (accepts ∷ [])) releases 17 ≡ Some (2, true, Some accepted, true)
unfolding next_in
next_decided = refl

next_still_settled : next_in (carried ++ (settles ∷ [])) gives_more 17 ≡ Some (2, true, Some None, false)
unfolding next_in
next_still_settled = refl

next_settled : next_in told router_settles 17 ≡ Some (2, true, Some accepted, false)
unfolding next_in
next_settled = refl

next_ended : next_in carried consumer_leaves 17 ≡ Some (2, true, None, false)
unfolding next_in
next_ended = refl

-- ---- one that begins

begins_half : begun_in sent half ≡ Some (1, false, None, true)
unfolding begun_in
begins_half = refl

begins_whole : begun_in sent whole ≡ Some (2, true, None, true)
unfolding begun_in
begins_whole = refl

begins_settled : begun_in (sent_by modes.Settled) (carry 1 16 (as_settled (first 0)) hi) ≡ Some (2, true, None, false)
unfolding begun_in
begins_settled = refl

begins_none : begun_in half_carried rest ≡ None
unfolding begun_in
begins_none = refl

begins_it : begins_in sent half 17 ≡ true
unfolding begins_in
begins_it = refl

begins_another : begins_in sent half 16 ≡ false
unfolding begins_in
begins_another = refl

goes_on : begins_in half_carried rest 17 ≡ false
unfolding begins_in
goes_on = refl

behind_first : behind_in sent half 17 ≡ Some (1, false, None, true)
unfolding behind_in
behind_first = refl

behind_next : behind_in carried finishes 17 ≡ Some (2, true, Some accepted, false)
unfolding behind_in
behind_next = refl

behind_none : behind_in sent half 16 ≡ None
unfolding behind_in
behind_none = refl

-- ---- what an event touches

touches_part : touches_in half_carried rest 17 ≡ true
unfolding touches_in
touches_part = refl

touches_decided : touches_in carried accepts 17 ≡ true
unfolding touches_in
touches_decided = refl

touches_settled : touches_in told router_settles 17 ≡ true
unfolding touches_in
touches_settled = refl

touches_ended : touches_in carried consumer_leaves 17 ≡ true
unfolding touches_in
touches_ended = refl

-- nothing once it is settled
touches_finished : touches_in (carried ++ (finishes ∷ [])) releases 17 ≡ false
unfolding touches_in
touches_finished = refl

touches_over : touches_in (carried ++ (consumer_leaves ∷ [])) accepts 17 ≡ false
unfolding touches_in
touches_over = refl

touches_other : touches_in carried gives_more 17 ≡ false
unfolding touches_in
touches_other = refl

touches_another : touches_in carried accepts_another 17 ≡ false
unfolding touches_in
touches_another = refl

-- ---- what finds those that an event touches

part_of_it : part_in half_carried rest ≡ Some 17
unfolding part_in
part_of_it = refl

part_of_none : part_in carried accepts ≡ None
unfolding part_in
part_of_none = refl

names_its_id : ids_in carried accepts 17 ≡ Some (0, 0, true)
unfolding ids_in
names_its_id = refl

names_it_twice : ids_in carried accepts_last 17 ≡ Some (0, 0, true)
unfolding ids_in
names_it_twice = refl

names_two : ids_in carried accepts_two 17 ≡ Some (0, 1, true)
unfolding ids_in
names_two = refl

names_as_sender : ids_in carried settles_as_sender 17 ≡ None
unfolding ids_in
names_as_sender = refl

names_no_ids : ids_in carried gives_more 17 ≡ None
unfolding ids_in
names_no_ids = refl

-- ---- how far the last id is from the first

module _ (session : ℕ) where
  abbrev ids : ℕ → ℕ → IdRange
  ids first last = record { session = session; first = first; last = last }

  of_one : span (ids 7 7) ≡ 0
  of_one = refl

  of_three : span (ids 7 9) ≡ 2
  of_three = refl

  -- once round
  past_the_end : span (ids 4294967295 1) ≡ 2
  past_the_end = refl

  before_the_first : span (ids 1 0) ≡ 4294967295
  before_the_first = refl

-- ---- which are looked up one by one

one_of_none : are_few 0 0 ≡ true
one_of_none = refl

three_of_three : are_few 2 3 ≡ true
three_of_three = refl

three_of_two : are_few 2 2 ≡ false
three_of_two = refl

two_of_none : are_few 1 0 ≡ false
two_of_none = refl

-- ---- whether one of so many places passes

abbrev is_second : ℕ → Bool
is_second place = place == 1

at_the_second : some_place is_second 2 ≡ true
unfolding some_place
at_the_second = refl

not_at_the_first : some_place is_second 1 ≡ false
unfolding some_place
not_at_the_first = refl

at_none : some_place is_second 0 ≡ false
unfolding some_place
at_none = refl

-- ---- the keys of the groups

abbrev key : ℕ → ℕ → IdOn
key session id = record { session = session; id = id }

same_key : same_id (key 1 2) (key 1 2) ≡ true
same_key = refl

other_session : same_id (key 1 2) (key 3 2) ≡ false
other_session = refl

other_id : same_id (key 1 2) (key 1 3) ≡ false
other_id = refl

module _ (x : Outgoing) where
  abbrev on : ℕ → ℕ → ℕ → Outgoing
  on link session id = record x { link = record x.link { number = link; session = record x.link.session { number = session } }; id = Some id }

  its_link : is_of_link 6 (on 6 4 3) ≡ true
  its_link = refl

  other_link : is_of_link 7 (on 6 4 3) ≡ false
  other_link = refl

  its_session : is_of_session 4 (on 6 4 3) ≡ true
  its_session = refl

  no_session : is_of_session 5 (on 6 4 3) ≡ false
  no_session = refl

  its_id : has_id 4 3 (on 6 4 3) ≡ true
  its_id = refl

  id_of_another : has_id 4 2 (on 6 4 3) ≡ false
  id_of_another = refl

  id_elsewhere : has_id 5 3 (on 6 4 3) ≡ false
  id_elsewhere = refl

-- ---- whether it is to be settled

module _ (j : Outgoing) where
  abbrev entry : Option (Option StateFields) → Bool → Sent
  entry decision unsettled = record { delivery = j; sent_count = 0; is_sent = true; decision = decision; is_unsettled = unsettled }

  is_to_settle : to_settle (entry (Some None) true) true ≡ true
  is_to_settle = refl

  not_decided : to_settle (entry None true) true ≡ false
  not_decided = refl

  settled_before : to_settle (entry (Some None) false) true ≡ false
  settled_before = refl

  carries_open : to_settle (entry (Some None) true) false ≡ false
  carries_open = refl

-- ---- whether octets go on with a payload

more_follows : goes_on_with true (1 ∷ 2 ∷ 3 ∷ []) 1 (2 ∷ []) ≡ true
more_follows = refl

all_follows : goes_on_with false (1 ∷ 2 ∷ 3 ∷ []) 1 (2 ∷ 3 ∷ []) ≡ true
all_follows = refl

less_follows : goes_on_with false (1 ∷ 2 ∷ 3 ∷ []) 1 (2 ∷ []) ≡ false
less_follows = refl

other_follows : goes_on_with true (1 ∷ 2 ∷ 3 ∷ []) 1 (3 ∷ []) ≡ false
other_follows = refl

first_again : goes_on_with true (1 ∷ 2 ∷ 3 ∷ []) 1 (1 ∷ []) ≡ false
first_again = refl
