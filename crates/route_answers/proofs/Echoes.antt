-- Echoes: flows with the numbers of a session, or of a link, as they are.
use Rattle.std.proofs.Common.{◌≡◌, refl, ap, ◌∙◌, ℕ, ◌≤◌, Bool, true, false, ◌&&◌, List, [], ◌∷◌, length, Some, option_and_then, arith, if◌then◌else◌, ◌==◌, eq-eqb}
use Rattle.std.specs.Bool.{beq}
use Rattle.amqp_types.proofs.Shortest.{uint_long}
use Rattle.amqp_perf.specs.declared.flow.Flow.{Flow}
use Rattle.amqp_perf.specs.Meaning.{AFlow, flag}
use Rattle.amqp_perf.specs.Router.{link_flow}
use Rattle.capture_form.specs.Rules.{RuleSet}
use Rattle.trace_events.specs.declared.session.Session.{Session}
use Rattle.trace_events.specs.Words.{is_some_and, is_number}
use Rattle.trace_events.specs.Event.{Event, Link}
use Rattle.trace_events.specs.Session.{live_session, IsLiveOn}
use Rattle.trace_events.specs.Link.{session_link, is_consumer, IsLiveLink}
use Rattle.trace_events.specs.Window.{next_incoming_id, next_outgoing_id}
use Rattle.trace_events.specs.Credit.{delivery_count, link_credit, given_credit, received_count, is_draining}
use Rattle.trace_events.specs.Written.{spoken_octets, says, session_numbers, link_numbers, written_session_flow, written_credit, written_count}
use Rattle.trace_events.specs.FlowClause.{has_session_numbers, has_link_numbers, has_producer_numbers, has_consumer_numbers}
use Rattle.trace_duties.specs.Answer as duties
use Rattle.route_answers.proofs.Words.{or_left, both}
use Rattle.route_answers.proofs.Connections.{Speaks}
use Rattle.route_answers.proofs.Lengths.{slots_fit, fits_all, uint_within, flag_within}
use Rattle.route_answers.proofs.Fine.{IsFine, flow_fine}

same : (n : ℕ) → (n == n) ≡ true
same n = eq-eqb n n refl

pub flow_fits : (channel : ℕ) (flow : Flow) → length (spoken_octets (says channel (AFlow flow))) ≤ 512
flow_fits channel flow =
    slots_fit channel (AFlow flow) (5 ∷ 5 ∷ 5 ∷ 5 ∷ 5 ∷ 5 ∷ 5 ∷ 1 ∷ 1 ∷ 1 ∷ []) (
      uint_within flow.next_incoming_id,
      (
        uint_long flow.incoming_window,
        (
          uint_long flow.next_outgoing_id,
          (
            uint_long flow.outgoing_window,
            (
              uint_within flow.handle,
              (
                uint_within flow.delivery_count,
                (uint_within flow.link_credit, (omega arith, (flag_within flow.drain, (flag_within flow.echo, tt)))),
              ),
            ),
          ),
        ),
      ),
    )
    (omega arith)

module _ (rules : RuleSet) (past : List Event) (s : Session) (live : IsLiveOn s past) (speaks : Speaks past s.connection) where
  numbers : has_session_numbers (session_numbers s past) past s ≡ true
  numbers = rw (same (next_outgoing_id s past), same (next_incoming_id s past)) refl

  pub session_echo : IsFine rules s.connection past (written_session_flow s past)
  session_echo =
      flow_fine rules s.connection s.channel past speaks (session_numbers s past)
      (both (is_some_and (live_session s.connection s.channel past) (has_session_numbers (session_numbers s past) past)) true
      (ap (λ o. is_some_and o (has_session_numbers (session_numbers s past) past)) live ∙ numbers) refl)
      (fits_all s.connection past (spoken_octets (written_session_flow s past)) (flow_fits s.channel (session_numbers s past)))

same_flag : (b : Bool) → beq b b ≡ true
same_flag true = refl
same_flag false = refl

drains : (flow : Flow) (handle count credit : ℕ) (b : Bool) → flag (link_flow flow handle count credit b).drain ≡ b
drains flow handle count credit true = refl
drains flow handle count credit false = refl

module _ (rules : RuleSet) (past : List Event) (l : Link) (live : IsLiveLink l past) (speaks : Speaks past l.session.connection) where
  -- a flow of the link
  module _ (count credit : ℕ) (draining : Bool) where
    abbrev shown : Flow
    shown = link_numbers l count credit draining past

    session_named : has_session_numbers shown past l.session ≡ true
    session_named = rw (same (next_outgoing_id l.session past), same (next_incoming_id l.session past)) refl

    link_shown : has_link_numbers rules shown past l ≡ true → IsFine rules l.session.connection past (says l.session.channel (AFlow shown))
    link_shown has =
        flow_fine rules l.session.connection l.session.channel past speaks shown
        (both (is_some_and (live_session l.session.connection l.session.channel past) (has_session_numbers shown past))
        (is_some_and (option_and_then (λ (s : Session). session_link s l.handle past) (live_session l.session.connection l.session.channel past)) (has_link_numbers rules shown past))
        (ap (λ o. is_some_and o (has_session_numbers shown past)) live.0 ∙ session_named)
        (ap (λ o. is_some_and (option_and_then (λ (s : Session). session_link s l.handle past) o) (has_link_numbers rules shown past)) live.0
        ∙ (ap (λ o. is_some_and o (has_link_numbers rules shown past)) live.1 ∙ has)))
        (fits_all l.session.connection past (spoken_octets (says l.session.channel (AFlow shown))) (flow_fits l.session.channel shown))

  producer_has : has_producer_numbers rules (link_numbers l (received_count l past) (given_credit l past) false past) past l ≡ true
  producer_has =
      both (is_number (Some (received_count l past)) (received_count l past)) _ (same (received_count l past))
      (or_left (is_number (Some (given_credit l past)) (given_credit l past)) _ (same (given_credit l past)))

  consumer_has : has_consumer_numbers rules (link_numbers l (delivery_count l past) (link_credit l past) (is_draining l past) past) past l ≡ true
  consumer_has =
      both (beq (flag (link_numbers l (delivery_count l past) (link_credit l past) (is_draining l past) past).drain) (is_draining l past)) _
      (ap (λ b. beq b (is_draining l past)) (drains (session_numbers l.session past) l.handle (delivery_count l past) (link_credit l past) (is_draining l past)) ∙ same_flag (is_draining l past))
      (or_left (is_number (Some (delivery_count l past)) (delivery_count l past) && is_number (Some (link_credit l past)) (link_credit l past)) _
      (both (delivery_count l past == delivery_count l past) (link_credit l past == link_credit l past) (same (delivery_count l past)) (same (link_credit l past))))

  echo_by : (consumes : Bool) → is_consumer l ≡ consumes
      → IsFine rules l.session.connection past (if consumes then written_count l (delivery_count l past) (link_credit l past) past else written_credit l (given_credit l past) past)
  echo_by true is =
      link_shown (delivery_count l past) (link_credit l past) (is_draining l past)
      (ap (λ b. if b then has_consumer_numbers rules (link_numbers l (delivery_count l past) (link_credit l past) (is_draining l past) past) past l else has_producer_numbers rules (link_numbers l (delivery_count l past) (link_credit l past) (is_draining l past) past) past l) is
      ∙ consumer_has)
  echo_by false is =
      link_shown (received_count l past) (given_credit l past) false
      (ap (λ b. if b then has_consumer_numbers rules (link_numbers l (received_count l past) (given_credit l past) false past) past l else has_producer_numbers rules (link_numbers l (received_count l past) (given_credit l past) false past) past l) is
      ∙ producer_has)

  pub link_echo : IsFine rules l.session.connection past (duties.link_flow l past)
  link_echo = echo_by (is_consumer l) refl
