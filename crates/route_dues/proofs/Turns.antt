-- Frames that are due stand in turn where nothing of an earlier place is due.
use Rattle.std.proofs.Common.{◌≡◌, refl, ap, ◌∙◌, ℕ, Bool, true, false, ◌&&◌, ◌||◌, List, length, take, drop, nat_lt, Option, Some, if◌then◌else◌}
use Rattle.amqp_perf.specs.Meaning.{AFlow, TransferFields}
use Rattle.amqp_perf.specs.Nested.{StateFields}
use Rattle.amqp_perf.specs.Router.{link_flow}
use Rattle.pairing_cert.specs.declared.note.Note.{Note}
use Rattle.pairing_cert.specs.declared.note.Note.TheVariants as notes
use Rattle.pairing_cert.specs.declared.note.Why.{Why}
use Rattle.capture_form.specs.Rules.{RuleSet}
use Rattle.trace_events.specs.declared.session.Session.{Session}
use Rattle.trace_events.specs.Words.{is_some_and, is_none_or}
use Rattle.trace_events.specs.Event.{Event, Link, Incoming, Outgoing, Out}
use Rattle.trace_events.specs.Link.{session_link, is_consumer, is_producer, IsLiveLink}
use Rattle.trace_events.specs.Incoming as incoming
use Rattle.trace_events.specs.Incoming.{incoming_at}
use Rattle.trace_events.specs.Outgoing as outgoing
use Rattle.trace_events.specs.Outgoing.{noted, next_delivery_id}
use Rattle.trace_events.specs.Credit.{is_draining, received_count}
use Rattle.trace_events.specs.Waiting.{is_of_multicast}
use Rattle.trace_events.specs.Due.{is_unsent}
use Rattle.trace_events.specs.History.{link_of}
use Rattle.trace_events.proofs.Along.{and_first}
use Rattle.trace_events.specs.FlowClause.{full_credit, drained_count}
use Rattle.trace_events.specs.Written.{says, session_numbers, written_transfer, first_part, next_part, written_settling, written_session_flow, written_credit, written_count}
use Rattle.trace_events.proofs.FirstSent.{due_copy}
use Rattle.trace_duties.specs.Quiet.{none_is_untold, stands_still, none_stands_still}
use Rattle.trace_duties.specs.Diligent.{is_of_answer}
use Rattle.trace_duties.specs.Turn.{is_all_told, is_all_sent, is_all_drained, is_first_to_begin, begins_in_turn, link_flow_in_turn, is_all_credited, stands_in_turn}
use Rattle.route_dues.specs.Outcomes.{outcome_frame}
use Rattle.route_dues.specs.Transfers.{room_on, first_frame, next_frame}
use Rattle.route_answers.specs.Writing.{frame_of}
use Rattle.route_dues.specs.Writing.{writing, IsLawful}
use Rattle.route_answers.proofs.Words.{or_left, or_right, both}
use Rattle.route_dues.proofs.Connections.{lawful_judged}
use Rattle.route_dues.proofs.FlowsFollow.{no_consumer}

-- ---- dispositions

module _ (rules : RuleSet) (past : List Event) where
  pub outcome_in_turn : (d : Incoming) (why : Why) (state : Option StateFields)
      → stands_in_turn rules (writing rules past d.link.session.connection (notes.Told why) (outcome_frame d state)) past (Out (frame_of (outcome_frame d state))) ≡ true
  outcome_in_turn d why state = or_right (is_of_answer rules past) true refl

  pub settling_in_turn : (j : Outgoing) (id : ℕ) → none_is_untold rules past ≡ true
      → stands_in_turn rules (writing rules past j.link.session.connection notes.None (written_settling j.link.session.channel id)) past (Out (frame_of (written_settling j.link.session.channel id))) ≡ true
  settling_in_turn j id told = or_right (is_of_answer rules past) (none_is_untold rules past) told

-- ---- transfers

module _ (rules : RuleSet) (past : List Event) (l : Link) (note : Note) (fields : TransferFields) (octets : List ℕ) (live : IsLiveLink l past) (names : fields.handle ≡ l.handle)
    (told : is_all_told rules past ≡ true) where
  abbrev e : Event
  e = writing rules past l.session.connection note (written_transfer l fields octets)

  on : e.link ≡ Some l
  on =
      ap (link_of (Out (frame_of (written_transfer l fields octets))) past) live.0
      ∙ (ap (λ handle. session_link l.session handle past) names ∙ live.1)

  goes_on : stands_still past l ≡ true → stands_in_turn rules e past (Out (frame_of (written_transfer l fields octets))) ≡ true
  goes_on still =
      or_right (is_of_answer rules past) _
      (both (is_all_told rules past) _ told
      (or_left (is_some_and e.link (stands_still past)) (begins_in_turn rules e past) (ap (λ o. is_some_and o (stands_still past)) on ∙ still)))

  begins : none_stands_still past ≡ true → is_none_or (noted note past) (λ d. is_of_multicast rules d past || is_first_to_begin rules past d) ≡ true
      → stands_in_turn rules e past (Out (frame_of (written_transfer l fields octets))) ≡ true
  begins moving first =
      or_right (is_of_answer rules past) _
      (both (is_all_told rules past) _ told
      (or_right (is_some_and e.link (stands_still past)) (begins_in_turn rules e past) (both (none_stands_still past) _ moving first)))

module _ (rules : RuleSet) (past : List Event) (l : Link) (d : Incoming) (live : IsLiveLink l past) (told : is_all_told rules past ≡ true) where
  -- a part of a delivery in progress
  pub part_in_turn : (j : Outgoing) → stands_still past l ≡ true
      → stands_in_turn rules (writing rules past l.session.connection j.note (next_frame past l d j)) past (Out (frame_of (next_frame past l d j))) ≡ true
  part_in_turn j still =
      let rest = drop (length (outgoing.payload j past)) (incoming.payload d past) in
      let room = room_on past l (next_part l) in
      goes_on rules past l j.note (next_part l (nat_lt room (length rest))) (take room rest) live refl told still

  module _ (moving : none_stands_still past ≡ true) (found : incoming_at d.number past ≡ Some d) where
    first_in_turn : is_of_multicast rules d past || is_first_to_begin rules past d ≡ true
        → stands_in_turn rules (writing rules past l.session.connection (notes.Pair d.number) (first_frame past l d)) past (Out (frame_of (first_frame past l d))) ≡ true
    first_in_turn first =
        let fields = first_part l (next_delivery_id l.session past) d.format in
        let room = room_on past l fields in
        begins rules past l (notes.Pair d.number) (fields (nat_lt room (length (incoming.payload d past)))) (take room (incoming.payload d past)) live refl told moving
        (ap (λ o. is_none_or o (λ x. is_of_multicast rules x past || is_first_to_begin rules past x)) found ∙ first)

    -- the first of those that wait
    pub waiting_in_turn : is_first_to_begin rules past d ≡ true
        → stands_in_turn rules (writing rules past l.session.connection (notes.Pair d.number) (first_frame past l d)) past (Out (frame_of (first_frame past l d))) ≡ true
    waiting_in_turn first = first_in_turn (or_right (is_of_multicast rules d past) (is_first_to_begin rules past d) first)

    -- a copy
    pub copy_in_turn : IsLawful rules past → is_unsent rules d l past ≡ true
        → stands_in_turn rules (writing rules past l.session.connection (notes.Pair d.number) (first_frame past l d)) past (Out (frame_of (first_frame past l d))) ≡ true
    copy_in_turn lawful unsent =
        let copy = due_copy rules past (lawful_judged rules past lawful) l d found (and_first _ _ unsent) in
        first_in_turn (or_left (is_of_multicast rules d past) (is_first_to_begin rules past d) copy.multicast)

-- ---- flows

module _ (rules : RuleSet) (past : List Event) (l : Link) (live : IsLiveLink l past) where
  flow_in_turn : (count credit : ℕ) (drains : Bool) → link_flow_in_turn rules past l ≡ true
      → (let spoken = says l.session.channel (AFlow (link_flow (session_numbers l.session past) l.handle count credit drains)) in
      stands_in_turn rules (writing rules past l.session.connection notes.None spoken) past (Out (frame_of spoken)) ≡ true)
  flow_in_turn count credit drains turn =
      let spoken = says l.session.channel (AFlow (link_flow (session_numbers l.session past) l.handle count credit drains)) in
      let on : (writing rules past l.session.connection notes.None spoken).link ≡ Some l = ap (link_of (Out (frame_of spoken)) past) live.0 ∙ live.1 in
      or_right (is_of_answer rules past) _ (ap (λ o. is_some_and o (link_flow_in_turn rules past)) on ∙ turn)

  pub drain_in_turn : is_consumer l ≡ true → is_all_sent rules past ≡ true
      → stands_in_turn rules (writing rules past l.session.connection notes.None (written_count l (drained_count past l) 0 past)) past (Out (frame_of (written_count l (drained_count past l) 0 past))) ≡ true
  drain_in_turn consumes sent =
      flow_in_turn (drained_count past l) 0 (is_draining l past) (ap (λ b. if b then is_all_sent rules past else is_all_drained rules past) consumes ∙ sent)

  pub credit_in_turn : is_producer l ≡ true → is_all_drained rules past ≡ true
      → stands_in_turn rules (writing rules past l.session.connection notes.None (written_credit l (full_credit rules past l) past)) past (Out (frame_of (written_credit l (full_credit rules past l) past))) ≡ true
  credit_in_turn produces drained =
      flow_in_turn (received_count l past) (full_credit rules past l) false (ap (λ b. if b then is_all_sent rules past else is_all_drained rules past) (no_consumer l.role produces) ∙ drained)

pub window_in_turn : (rules : RuleSet) (past : List Event) (s : Session) → is_all_credited rules past ≡ true
    → stands_in_turn rules (writing rules past s.connection notes.None (written_session_flow s past)) past (Out (frame_of (written_session_flow s past))) ≡ true
window_in_turn rules past s credited = or_right (is_of_answer rules past) (is_all_credited rules past) credited
