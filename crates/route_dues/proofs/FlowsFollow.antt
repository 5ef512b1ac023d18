-- Flows that are due: a session's window, a producer's credit, a drain answer.
use Rattle.std.proofs.Common.{◌≡◌, refl, ap, ◌∙◌, ℕ, Bool, true, false, ◌&&◌, ◌||◌, List, length, Some, nat_lt, nat_le, eq-eqb, le-leb, if◌then◌else◌}
use Rattle.std.specs.Bool.{beq}
use Rattle.amqp_perf.specs.declared.attach.Role.{Role}
use Rattle.amqp_perf.specs.declared.attach.Role.TheVariants.{Sender, Receiver}
use Rattle.amqp_perf.specs.declared.flow.Flow.{Flow}
use Rattle.amqp_perf.specs.Meaning.{AFlow}
use Rattle.amqp_perf.specs.Router.{link_flow}
use Rattle.pairing_cert.specs.declared.note.Note.TheVariants as notes
use Rattle.capture_form.specs.Rules.{RuleSet}
use Rattle.trace_events.specs.declared.session.Session.{Session}
use Rattle.trace_events.specs.Words.{is_some_and, is_number}
use Rattle.trace_events.specs.Event.{Event, Link, Out}
use Rattle.trace_events.specs.Connection.{frame_limit}
use Rattle.trace_events.specs.Session.{IsLiveOn}
use Rattle.trace_events.specs.Link.{is_sender, is_receiver, is_producer, is_consumer, IsLiveLink}
use Rattle.trace_events.specs.Window.{next_incoming_id, next_outgoing_id}
use Rattle.trace_events.specs.Credit.{received_count, given_credit, is_draining, link_credit, delivery_count}
use Rattle.trace_events.specs.History.{link_of}
use Rattle.trace_events.proofs.Along.{and_first}
use Rattle.trace_events.specs.declared.clause.Clause.{Clause}
use Rattle.trace_events.specs.declared.clause.Clause.TheVariants.{L1, L2, L3, L4, L5, L6, L7, L8, L9, L10, L11, L12, L13, L14}
use Rattle.trace_events.specs.Clauses.{spoken_meets, clauses}
use Rattle.trace_events.specs.FlowClause.{has_session_numbers, tells_counts, has_link_numbers, has_producer_numbers, has_consumer_numbers, is_drain_answer, may_be_topped_up, full_credit, may_be_drained, drained_count, nothing_waits}
use Rattle.trace_events.specs.Written.{spoken_octets, says, written_session_flow, written_credit, written_count, session_numbers}
use Rattle.trace_duties.specs.Quiet.{lacks_window}
use Rattle.trace_duties.specs.Diligent.{is_of_answer, is_owed_flow, is_owed_on, writes}
use Rattle.route_answers.specs.Writing.{frame_of}
use Rattle.route_dues.specs.Writing.{writing, IsLawful, MayFollow}
use Rattle.route_answers.proofs.Words.{or_right, both, same_octets, none_broken}
use Rattle.route_dues.proofs.Connections.{may_write}
use Rattle.route_dues.proofs.Lengths.{flow_short, short_fits}

pub no_consumer : (role : Role) → is_receiver role ≡ true → is_sender role ≡ false
no_consumer Receiver is = refl
no_consumer Sender is = absurd cc

-- ---- any flow on a live session

module _ (rules : RuleSet) (past : List Event) (s : Session) (lawful : IsLawful rules past) (live : IsLiveOn s past) (flow : Flow) where
  abbrev e : Event
  e = writing rules past s.connection notes.None (says s.channel (AFlow flow))

  flow_first : (let spoken = says s.channel (AFlow flow) in spoken_meets rules e (frame_of spoken) past spoken L1) ≡ true
  flow_first =
      both _ (nat_le (length (spoken_octets (says s.channel (AFlow flow)))) (frame_limit s.connection past))
      (may_write rules past s lawful live (AFlow flow) refl) (le-leb _ _ (short_fits s.connection past s.channel (AFlow flow) (flow_short flow)))

  flow_meets : tells_counts rules e flow past ≡ true → (clause : Clause) → (let spoken = says s.channel (AFlow flow) in spoken_meets rules e (frame_of spoken) past spoken clause) ≡ true
  flow_meets tells L1 = flow_first
  flow_meets tells L2 = refl
  flow_meets tells L3 = refl
  flow_meets tells L4 = refl
  flow_meets tells L5 = refl
  flow_meets tells L6 = refl
  flow_meets tells L7 = refl
  flow_meets tells L8 = refl
  flow_meets tells L9 = refl
  flow_meets tells L10 = tells
  flow_meets tells L11 = refl
  flow_meets tells L12 = refl
  flow_meets tells L13 = refl
  flow_meets tells L14 = refl

  pub flow_follows : tells_counts rules e flow past ≡ true → is_owed_flow rules e flow past ≡ true → MayFollow rules past s.connection notes.None (says s.channel (AFlow flow))
  flow_follows tells owed = record {
    lawful = none_broken (let spoken = says s.channel (AFlow flow) in spoken_meets rules e (frame_of spoken) past spoken) (flow_meets tells) clauses;
    keeps = or_right (is_of_answer rules past) _ owed;
    earliest = refl;
  }

-- ---- a session's

module _ (rules : RuleSet) (past : List Event) (s : Session) where
  pub right_numbers : has_session_numbers (session_numbers s past) past s ≡ true
  right_numbers = rw (eq-eqb (next_outgoing_id s past) (next_outgoing_id s past) refl, eq-eqb (next_incoming_id s past) (next_incoming_id s past) refl) refl

  pub window_follows : IsLawful rules past → IsLiveOn s past → lacks_window past s ≡ true → MayFollow rules past s.connection notes.None (written_session_flow s past)
  window_follows lawful live lacks =
      let flow = session_numbers s past in
      let g = writing rules past s.connection notes.None (written_session_flow s past) in
      flow_follows rules past s lawful live flow
      (ap (λ o. is_some_and o (has_session_numbers flow past) && true) live ∙ ap (λ b. b && true) right_numbers)
      (ap (λ o. is_some_and o (λ s. lacks_window past s && writes g (written_session_flow s past))) live
      ∙ both (lacks_window past s) (writes g (written_session_flow s past)) lacks (same_octets (spoken_octets (written_session_flow s past))))

-- ---- a link's

module _ (rules : RuleSet) (past : List Event) (l : Link) (lawful : IsLawful rules past) (live : IsLiveLink l past) (count credit : ℕ) (drains : Bool) where
  abbrev flow : Flow
  flow = link_flow (session_numbers l.session past) l.handle count credit drains

  abbrev h : Event
  h = writing rules past l.session.connection notes.None (says l.session.channel (AFlow flow))

  names : h.link ≡ Some l
  names = ap (link_of (Out (frame_of (says l.session.channel (AFlow flow)))) past) live.0 ∙ live.1

  pub link_flow_follows : has_link_numbers rules flow past l ≡ true → is_owed_on rules h past l ≡ true → MayFollow rules past l.session.connection notes.None (says l.session.channel (AFlow flow))
  link_flow_follows tells owed =
      flow_follows rules past l.session lawful live.0 flow
      (ap (λ o. is_some_and o (has_session_numbers flow past) && is_some_and h.link (has_link_numbers rules flow past)) live.0
      ∙ both (has_session_numbers flow past l.session) (is_some_and h.link (has_link_numbers rules flow past)) (right_numbers rules past l.session)
      (ap (λ o. is_some_and o (has_link_numbers rules flow past)) names ∙ tells))
      (ap (λ o. is_some_and o (is_owed_on rules h past)) names ∙ owed)

-- a producer's credit
module _ (rules : RuleSet) (past : List Event) (l : Link) (lawful : IsLawful rules past) (live : IsLiveLink l past) (produces : is_producer l ≡ true) (due : may_be_topped_up rules past l ≡ true) where
  abbrev full : ℕ
  full = full_credit rules past l

  abbrev gives : Flow
  gives = link_flow (session_numbers l.session past) l.handle (received_count l past) full false

  abbrev given : Event
  given = writing rules past l.session.connection notes.None (written_credit l full past)

  pub credit_follows : MayFollow rules past l.session.connection notes.None (written_credit l full past)
  credit_follows =
      let apart = no_consumer l.role produces in
      link_flow_follows rules past l lawful live (received_count l past) full false
      (ap (λ b. if b then has_consumer_numbers rules gives past l else has_producer_numbers rules gives past l) apart
      ∙ both (is_number (Some (received_count l past)) (received_count l past)) _ (eq-eqb (received_count l past) (received_count l past) refl)
      (or_right (is_number (Some full) (given_credit l past)) _ (both (may_be_topped_up rules past l) (is_number (Some full) full) due (eq-eqb full full refl))))
      (ap (λ b. if b then may_be_drained rules past l && writes given (written_count l (drained_count past l) 0 past) else may_be_topped_up rules past l && writes given (written_credit l full past)) apart
      ∙ both (may_be_topped_up rules past l) (writes given (written_credit l full past)) due (same_octets (spoken_octets (written_credit l full past))))

-- a drain answer
module _ (rules : RuleSet) (past : List Event) (l : Link) (lawful : IsLawful rules past) (live : IsLiveLink l past) (consumes : is_consumer l ≡ true) (due : may_be_drained rules past l ≡ true) where
  abbrev count : ℕ
  count = drained_count past l

  abbrev drained : Flow
  drained = link_flow (session_numbers l.session past) l.handle count 0 (is_draining l past)

  abbrev answered : Event
  answered = writing rules past l.session.connection notes.None (written_count l count 0 past)

  drain_said : (drains : Bool) → is_draining l past ≡ drains → drains ≡ true → has_consumer_numbers rules (link_flow (session_numbers l.session past) l.handle count 0 drains) past l ≡ true
  drain_said false is draining = absurd cc
  drain_said true is draining =
      ap (λ b. beq true b && (is_number (Some count) (delivery_count l past) && is_number (Some 0) (link_credit l past) || is_drain_answer rules (link_flow (session_numbers l.session past) l.handle count 0 true) past l)) is
      ∙ or_right (is_number (Some count) (delivery_count l past) && is_number (Some 0) (link_credit l past)) _
      (both (may_be_drained rules past l && is_number (Some count) count) true (both (may_be_drained rules past l) (is_number (Some count) count) due (eq-eqb count count refl)) refl)

  pub drain_follows : MayFollow rules past l.session.connection notes.None (written_count l count 0 past)
  drain_follows =
      let draining = and_first (is_draining l past) _ (and_first (is_draining l past && nat_lt 0 (link_credit l past)) (nothing_waits rules past l) due) in
      link_flow_follows rules past l lawful live count 0 (is_draining l past)
      (ap (λ b. if b then has_consumer_numbers rules drained past l else has_producer_numbers rules drained past l) consumes ∙ drain_said (is_draining l past) refl draining)
      (ap (λ b. if b then may_be_drained rules past l && writes answered (written_count l count 0 past) else may_be_topped_up rules past l && writes answered (written_credit l (full_credit rules past l) past)) consumes
      ∙ both (may_be_drained rules past l) (writes answered (written_count l count 0 past)) due (same_octets (spoken_octets (written_count l count 0 past))))
