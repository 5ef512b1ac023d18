-- What one more event does to the windows of sessions and the credits of links.
use Rattle.std.proofs.Common.{◌≡◌, refl, ap, ◌∙◌, ℕ, suc, ◌-◌, Bool, true, false, List, ◌∷◌, Option, Some, None, if◌then◌else◌, arith}
use Rattle.std.specs.List.{cons_option}
use Rattle.amqp_perf.specs.declared.flow.Flow.{Flow}
use Rattle.amqp_perf.specs.Meaning.{AFlow, flag}
use Rattle.flow_counts.specs.declared.events.WindowEvent.TheVariants as moves
use Rattle.flow_counts.specs.declared.profile.TheConstants.{INCOMING_WINDOW}
use Rattle.flow_counts.specs.Serial.{serial_add}
use Rattle.flow_counts.specs.declared.events.WindowEvent.{WindowEvent}
use Rattle.flow_counts.specs.declared.events.WindowEvent.TheVariants.{Sent, Received}
use Rattle.flow_counts.specs.Window as windows
use Rattle.flow_counts.specs.GivenWindow as given_windows
use Rattle.flow_counts.specs.Credit.{LinkEvent, Begun, credit_lag, is_drain_answer}
use Rattle.flow_counts.specs.Credit as credits
use Rattle.flow_counts.specs.GivenCredit as given_credits
use Rattle.trace_events.specs.Event.{Event, Link, is_on_session, is_on_link}
use Rattle.trace_events.specs.declared.session.Session.{Session}
use Rattle.trace_events.specs.Said.{in_meaning, out_meaning}
use Rattle.trace_events.specs.Window.{window_event, window_events, session_window, given_window, next_outgoing_id, next_incoming_id}
use Rattle.trace_events.specs.Credit.{link_event, link_events, link_credit, delivery_count, is_draining, given_credit, received_count, begun_count}
use Rattle.trace_events.proofs.StepWords.{if-none}
use Rattle.trace_events.proofs.EventKinds.{link_event-in_flow, link_event-out_flow}

less-one : (a b : ℕ) → a - suc b ≡ (a - b) - 1
less-one a b = omega arith

less-none : (a : ℕ) → a - 0 ≡ a
less-none a = omega arith

serial-next : (first n : ℕ) → serial_add first (suc n) ≡ serial_add (serial_add first n) 1
serial-next first n = omega arith

-- ---- windows

module _ (s : Session) (e : Event) (past : List Event) where
  -- an event that moves no window, or that isn't the session's
  pub window_events-same : window_event e.moment ≡ None → window_events s (e ∷ past) ≡ window_events s past
  window_events-same none =
      ap (λ o. cons_option o (window_events s past)) (ap (λ o. if is_on_session s e then o else None) none ∙ if-none (is_on_session s e))

  pub window_events-elsewhere : is_on_session s e ≡ false → window_events s (e ∷ past) ≡ window_events s past
  window_events-elsewhere off = ap (λ b. cons_option (if b then window_event e.moment else None) (window_events s past)) off

  pub window_events-more : (w : WindowEvent) → is_on_session s e ≡ true → window_event e.moment ≡ Some w → window_events s (e ∷ past) ≡ w ∷ window_events s past
  window_events-more w on is =
      ap (λ b. cons_option (if b then window_event e.moment else None) (window_events s past)) on ∙ ap (λ o. cons_option o (window_events s past)) is

  pub session_window-same : window_event e.moment ≡ None → session_window s (e ∷ past) ≡ session_window s past
  session_window-same h = ap (windows.window s.our_first_id s.their_window) (window_events-same h)

  pub session_window-elsewhere : is_on_session s e ≡ false → session_window s (e ∷ past) ≡ session_window s past
  session_window-elsewhere h = ap (windows.window s.our_first_id s.their_window) (window_events-elsewhere h)

  pub given_window-same : window_event e.moment ≡ None → given_window s (e ∷ past) ≡ given_window s past
  given_window-same h = ap (given_windows.given_window) (window_events-same h)

  pub given_window-elsewhere : is_on_session s e ≡ false → given_window s (e ∷ past) ≡ given_window s past
  given_window-elsewhere h = ap (given_windows.given_window) (window_events-elsewhere h)

  pub next_outgoing_id-same : window_event e.moment ≡ None → next_outgoing_id s (e ∷ past) ≡ next_outgoing_id s past
  next_outgoing_id-same h = ap (windows.next_id s.our_first_id) (window_events-same h)

  pub next_outgoing_id-elsewhere : is_on_session s e ≡ false → next_outgoing_id s (e ∷ past) ≡ next_outgoing_id s past
  next_outgoing_id-elsewhere h = ap (windows.next_id s.our_first_id) (window_events-elsewhere h)

  pub next_incoming_id-same : window_event e.moment ≡ None → next_incoming_id s (e ∷ past) ≡ next_incoming_id s past
  next_incoming_id-same h = ap (given_windows.next_incoming_id s.their_first_id) (window_events-same h)

  pub next_incoming_id-elsewhere : is_on_session s e ≡ false → next_incoming_id s (e ∷ past) ≡ next_incoming_id s past
  next_incoming_id-elsewhere h = ap (given_windows.next_incoming_id s.their_first_id) (window_events-elsewhere h)

  -- a transfer that is sent
  pub session_window-sent : is_on_session s e ≡ true → window_event e.moment ≡ Some Sent → session_window s (e ∷ past) ≡ session_window s past - 1
  session_window-sent on is =
      ap (windows.window s.our_first_id s.their_window) (window_events-more Sent on is) ∙ less-one (windows.granted_window s.our_first_id s.their_window (window_events s past)) (windows.sent_since_flow (window_events s past))

  pub given_window-sent : is_on_session s e ≡ true → window_event e.moment ≡ Some Sent → given_window s (e ∷ past) ≡ given_window s past
  given_window-sent on is =
      ap (given_windows.given_window) (window_events-more Sent on is)

  pub next_outgoing_id-sent : is_on_session s e ≡ true → window_event e.moment ≡ Some Sent → next_outgoing_id s (e ∷ past) ≡ serial_add (next_outgoing_id s past) 1
  next_outgoing_id-sent on is =
      ap (windows.next_id s.our_first_id) (window_events-more Sent on is) ∙ serial-next s.our_first_id (windows.sent_count (window_events s past))

  pub next_incoming_id-sent : is_on_session s e ≡ true → window_event e.moment ≡ Some Sent → next_incoming_id s (e ∷ past) ≡ next_incoming_id s past
  next_incoming_id-sent on is =
      ap (given_windows.next_incoming_id s.their_first_id) (window_events-more Sent on is)

  -- a transfer that is received
  pub session_window-received : is_on_session s e ≡ true → window_event e.moment ≡ Some Received → session_window s (e ∷ past) ≡ session_window s past
  session_window-received on is =
      ap (windows.window s.our_first_id s.their_window) (window_events-more Received on is)

  pub given_window-received : is_on_session s e ≡ true → window_event e.moment ≡ Some Received → given_window s (e ∷ past) ≡ given_window s past - 1
  given_window-received on is =
      ap (given_windows.given_window) (window_events-more Received on is) ∙ less-one INCOMING_WINDOW (given_windows.received_since_flow (window_events s past))

  pub next_outgoing_id-received : is_on_session s e ≡ true → window_event e.moment ≡ Some Received → next_outgoing_id s (e ∷ past) ≡ next_outgoing_id s past
  next_outgoing_id-received on is =
      ap (windows.next_id s.our_first_id) (window_events-more Received on is)

  pub next_incoming_id-received : is_on_session s e ≡ true → window_event e.moment ≡ Some Received → next_incoming_id s (e ∷ past) ≡ serial_add (next_incoming_id s past) 1
  next_incoming_id-received on is =
      ap (given_windows.next_incoming_id s.their_first_id) (window_events-more Received on is) ∙ serial-next s.their_first_id (given_windows.received_count (window_events s past))

  -- a flow of the client
  pub session_window-their_flow : (expected : Option ℕ) (window : ℕ) → is_on_session s e ≡ true → window_event e.moment ≡ Some (moves.TheirFlow expected window) → session_window s (e ∷ past) ≡ window - windows.lag s.our_first_id (next_outgoing_id s past) expected
  session_window-their_flow expected window on is =
      ap (windows.window s.our_first_id s.their_window) (window_events-more (moves.TheirFlow expected window) on is) ∙ less-none (window - windows.lag s.our_first_id (next_outgoing_id s past) expected)

  pub given_window-their_flow : (expected : Option ℕ) (window : ℕ) → is_on_session s e ≡ true → window_event e.moment ≡ Some (moves.TheirFlow expected window) → given_window s (e ∷ past) ≡ given_window s past
  given_window-their_flow expected window on is =
      ap (given_windows.given_window) (window_events-more (moves.TheirFlow expected window) on is)

  pub next_outgoing_id-their_flow : (expected : Option ℕ) (window : ℕ) → is_on_session s e ≡ true → window_event e.moment ≡ Some (moves.TheirFlow expected window) → next_outgoing_id s (e ∷ past) ≡ next_outgoing_id s past
  next_outgoing_id-their_flow expected window on is =
      ap (windows.next_id s.our_first_id) (window_events-more (moves.TheirFlow expected window) on is)

  pub next_incoming_id-their_flow : (expected : Option ℕ) (window : ℕ) → is_on_session s e ≡ true → window_event e.moment ≡ Some (moves.TheirFlow expected window) → next_incoming_id s (e ∷ past) ≡ next_incoming_id s past
  next_incoming_id-their_flow expected window on is =
      ap (given_windows.next_incoming_id s.their_first_id) (window_events-more (moves.TheirFlow expected window) on is)

  -- a flow to it
  pub session_window-our_flow : is_on_session s e ≡ true → window_event e.moment ≡ Some moves.OurFlow → session_window s (e ∷ past) ≡ session_window s past
  session_window-our_flow on is =
      ap (windows.window s.our_first_id s.their_window) (window_events-more moves.OurFlow on is)

  pub given_window-our_flow : is_on_session s e ≡ true → window_event e.moment ≡ Some moves.OurFlow → given_window s (e ∷ past) ≡ INCOMING_WINDOW
  given_window-our_flow on is =
      ap (given_windows.given_window) (window_events-more moves.OurFlow on is)

  pub next_outgoing_id-our_flow : is_on_session s e ≡ true → window_event e.moment ≡ Some moves.OurFlow → next_outgoing_id s (e ∷ past) ≡ next_outgoing_id s past
  next_outgoing_id-our_flow on is =
      ap (windows.next_id s.our_first_id) (window_events-more moves.OurFlow on is)

  pub next_incoming_id-our_flow : is_on_session s e ≡ true → window_event e.moment ≡ Some moves.OurFlow → next_incoming_id s (e ∷ past) ≡ next_incoming_id s past
  next_incoming_id-our_flow on is =
      ap (given_windows.next_incoming_id s.their_first_id) (window_events-more moves.OurFlow on is)

-- ---- credits

module _ (l : Link) (e : Event) (past : List Event) where
  -- an event that moves no credit, or that isn't the link's
  pub link_events-same : link_event e e.moment ≡ None → link_events l (e ∷ past) ≡ link_events l past
  link_events-same none =
      ap (λ o. cons_option o (link_events l past)) (ap (λ o. if is_on_link l e then o else None) none ∙ if-none (is_on_link l e))

  pub link_events-elsewhere : is_on_link l e ≡ false → link_events l (e ∷ past) ≡ link_events l past
  link_events-elsewhere off = ap (λ b. cons_option (if b then link_event e e.moment else None) (link_events l past)) off

  pub link_events-more : (w : LinkEvent) → is_on_link l e ≡ true → link_event e e.moment ≡ Some w → link_events l (e ∷ past) ≡ w ∷ link_events l past
  link_events-more w on is =
      ap (λ b. cons_option (if b then link_event e e.moment else None) (link_events l past)) on ∙ ap (λ o. cons_option o (link_events l past)) is

  pub link_credit-same : link_event e e.moment ≡ None → link_credit l (e ∷ past) ≡ link_credit l past
  link_credit-same h = ap (credits.credit l.our_first_count) (link_events-same h)

  pub link_credit-elsewhere : is_on_link l e ≡ false → link_credit l (e ∷ past) ≡ link_credit l past
  link_credit-elsewhere h = ap (credits.credit l.our_first_count) (link_events-elsewhere h)

  pub delivery_count-same : link_event e e.moment ≡ None → delivery_count l (e ∷ past) ≡ delivery_count l past
  delivery_count-same h = ap (credits.delivery_count l.our_first_count) (link_events-same h)

  pub delivery_count-elsewhere : is_on_link l e ≡ false → delivery_count l (e ∷ past) ≡ delivery_count l past
  delivery_count-elsewhere h = ap (credits.delivery_count l.our_first_count) (link_events-elsewhere h)

  pub is_draining-same : link_event e e.moment ≡ None → is_draining l (e ∷ past) ≡ is_draining l past
  is_draining-same h = ap (credits.is_draining) (link_events-same h)

  pub is_draining-elsewhere : is_on_link l e ≡ false → is_draining l (e ∷ past) ≡ is_draining l past
  is_draining-elsewhere h = ap (credits.is_draining) (link_events-elsewhere h)

  pub given_credit-same : link_event e e.moment ≡ None → given_credit l (e ∷ past) ≡ given_credit l past
  given_credit-same h = ap (given_credits.given_credit) (link_events-same h)

  pub given_credit-elsewhere : is_on_link l e ≡ false → given_credit l (e ∷ past) ≡ given_credit l past
  given_credit-elsewhere h = ap (given_credits.given_credit) (link_events-elsewhere h)

  pub received_count-same : link_event e e.moment ≡ None → received_count l (e ∷ past) ≡ received_count l past
  received_count-same h = ap (given_credits.received_delivery_count l.their_first_count) (link_events-same h)

  pub received_count-elsewhere : is_on_link l e ≡ false → received_count l (e ∷ past) ≡ received_count l past
  received_count-elsewhere h = ap (given_credits.received_delivery_count l.their_first_count) (link_events-elsewhere h)

  pub begun_count-same : link_event e e.moment ≡ None → begun_count l (e ∷ past) ≡ begun_count l past
  begun_count-same h = ap (given_credits.begun_count) (link_events-same h)

  pub begun_count-elsewhere : is_on_link l e ≡ false → begun_count l (e ∷ past) ≡ begun_count l past
  begun_count-elsewhere h = ap (given_credits.begun_count) (link_events-elsewhere h)

  -- a delivery that begins
  pub link_credit-begun : is_on_link l e ≡ true → link_event e e.moment ≡ Some Begun → link_credit l (e ∷ past) ≡ link_credit l past - 1
  link_credit-begun on is =
      ap (credits.credit l.our_first_count) (link_events-more Begun on is) ∙ less-one (credits.granted_credit l.our_first_count (link_events l past)) (credits.begun_since_grant (link_events l past))

  pub delivery_count-begun : is_on_link l e ≡ true → link_event e e.moment ≡ Some Begun → delivery_count l (e ∷ past) ≡ serial_add (delivery_count l past) 1
  delivery_count-begun on is =
      ap (credits.delivery_count l.our_first_count) (link_events-more Begun on is) ∙ serial-next (credits.told_count l.our_first_count (link_events l past)) (credits.begun_since_told (link_events l past))

  pub is_draining-begun : is_on_link l e ≡ true → link_event e e.moment ≡ Some Begun → is_draining l (e ∷ past) ≡ is_draining l past
  is_draining-begun on is =
      ap (credits.is_draining) (link_events-more Begun on is)

  pub given_credit-begun : is_on_link l e ≡ true → link_event e e.moment ≡ Some Begun → given_credit l (e ∷ past) ≡ given_credit l past - 1
  given_credit-begun on is =
      ap (given_credits.given_credit) (link_events-more Begun on is) ∙ less-one (given_credits.last_given (link_events l past)) (given_credits.begun_since_given (link_events l past))

  pub received_count-begun : is_on_link l e ≡ true → link_event e e.moment ≡ Some Begun → received_count l (e ∷ past) ≡ serial_add (received_count l past) 1
  received_count-begun on is =
      ap (given_credits.received_delivery_count l.their_first_count) (link_events-more Begun on is) ∙ serial-next l.their_first_count (given_credits.begun_count (link_events l past))

  pub begun_count-begun : is_on_link l e ≡ true → link_event e e.moment ≡ Some Begun → begun_count l (e ∷ past) ≡ suc (begun_count l past)
  begun_count-begun on is =
      ap (given_credits.begun_count) (link_events-more Begun on is)

  -- a flow of the client with a link-credit, and one without
  pub link_credit-their_credit : (known : Option ℕ) (credit : ℕ) (drain : Bool) → is_on_link l e ≡ true → link_event e e.moment ≡ Some (credits.TheirFlow known (Some credit) drain) → link_credit l (e ∷ past) ≡ credit - credit_lag l.our_first_count (delivery_count l past) known
  link_credit-their_credit known credit drain on is =
      ap (credits.credit l.our_first_count) (link_events-more (credits.TheirFlow known (Some credit) drain) on is) ∙ less-none (credit - credit_lag l.our_first_count (delivery_count l past) known)

  pub is_draining-their_credit : (known : Option ℕ) (credit : ℕ) (drain : Bool) → is_on_link l e ≡ true → link_event e e.moment ≡ Some (credits.TheirFlow known (Some credit) drain) → is_draining l (e ∷ past) ≡ drain
  is_draining-their_credit known credit drain on is =
      ap (credits.is_draining) (link_events-more (credits.TheirFlow known (Some credit) drain) on is)

  pub link_credit-their_none : (known : Option ℕ) (drain : Bool) → is_on_link l e ≡ true → link_event e e.moment ≡ Some (credits.TheirFlow known None drain) → link_credit l (e ∷ past) ≡ link_credit l past
  link_credit-their_none known drain on is =
      ap (credits.credit l.our_first_count) (link_events-more (credits.TheirFlow known None drain) on is)

  pub is_draining-their_none : (known : Option ℕ) (drain : Bool) → is_on_link l e ≡ true → link_event e e.moment ≡ Some (credits.TheirFlow known None drain) → is_draining l (e ∷ past) ≡ is_draining l past
  is_draining-their_none known drain on is =
      ap (credits.is_draining) (link_events-more (credits.TheirFlow known None drain) on is)

  pub delivery_count-their_flow : (known credit : Option ℕ) (drain : Bool) → is_on_link l e ≡ true → link_event e e.moment ≡ Some (credits.TheirFlow known credit drain) → delivery_count l (e ∷ past) ≡ delivery_count l past
  delivery_count-their_flow known credit drain on is =
      ap (credits.delivery_count l.our_first_count) (link_events-more (credits.TheirFlow known credit drain) on is)

  pub given_credit-their_flow : (known credit : Option ℕ) (drain : Bool) → is_on_link l e ≡ true → link_event e e.moment ≡ Some (credits.TheirFlow known credit drain) → given_credit l (e ∷ past) ≡ given_credit l past
  given_credit-their_flow known credit drain on is =
      ap (given_credits.given_credit) (link_events-more (credits.TheirFlow known credit drain) on is)

  pub received_count-their_flow : (known credit : Option ℕ) (drain : Bool) → is_on_link l e ≡ true → link_event e e.moment ≡ Some (credits.TheirFlow known credit drain) → received_count l (e ∷ past) ≡ received_count l past
  received_count-their_flow known credit drain on is =
      ap (given_credits.received_delivery_count l.their_first_count) (link_events-more (credits.TheirFlow known credit drain) on is)

  pub begun_count-their_flow : (known credit : Option ℕ) (drain : Bool) → is_on_link l e ≡ true → link_event e e.moment ≡ Some (credits.TheirFlow known credit drain) → begun_count l (e ∷ past) ≡ begun_count l past
  begun_count-their_flow known credit drain on is =
      ap (given_credits.begun_count) (link_events-more (credits.TheirFlow known credit drain) on is)

  -- a flow to it
  pub is_draining-our_flow : (count credit : Option ℕ) (drain : Bool) → is_on_link l e ≡ true → link_event e e.moment ≡ Some (credits.OurFlow count credit drain) → is_draining l (e ∷ past) ≡ is_draining l past
  is_draining-our_flow count credit drain on is =
      ap (credits.is_draining) (link_events-more (credits.OurFlow count credit drain) on is)

  pub received_count-our_flow : (count credit : Option ℕ) (drain : Bool) → is_on_link l e ≡ true → link_event e e.moment ≡ Some (credits.OurFlow count credit drain) → received_count l (e ∷ past) ≡ received_count l past
  received_count-our_flow count credit drain on is =
      ap (given_credits.received_delivery_count l.their_first_count) (link_events-more (credits.OurFlow count credit drain) on is)

  pub begun_count-our_flow : (count credit : Option ℕ) (drain : Bool) → is_on_link l e ≡ true → link_event e e.moment ≡ Some (credits.OurFlow count credit drain) → begun_count l (e ∷ past) ≡ begun_count l past
  begun_count-our_flow count credit drain on is =
      ap (given_credits.begun_count) (link_events-more (credits.OurFlow count credit drain) on is)

  pub link_credit-our_flow : (count credit : Option ℕ) (drain : Bool) → is_drain_answer credit drain ≡ false → is_on_link l e ≡ true → link_event e e.moment ≡ Some (credits.OurFlow count credit drain) → link_credit l (e ∷ past) ≡ link_credit l past
  link_credit-our_flow count credit drain other on is = ap (credits.credit l.our_first_count) (link_events-more (credits.OurFlow count credit drain) on is) ∙ rw other refl

  pub link_credit-drained : (count credit : Option ℕ) (drain : Bool) → is_drain_answer credit drain ≡ true → is_on_link l e ≡ true → link_event e e.moment ≡ Some (credits.OurFlow count credit drain) → link_credit l (e ∷ past) ≡ 0
  link_credit-drained count credit drain answers on is = ap (credits.credit l.our_first_count) (link_events-more (credits.OurFlow count credit drain) on is) ∙ rw answers refl

  pub delivery_count-our_count : (count : ℕ) (credit : Option ℕ) (drain : Bool) → is_on_link l e ≡ true → link_event e e.moment ≡ Some (credits.OurFlow (Some count) credit drain) → delivery_count l (e ∷ past) ≡ serial_add count 0
  delivery_count-our_count count credit drain on is =
      ap (credits.delivery_count l.our_first_count) (link_events-more (credits.OurFlow (Some count) credit drain) on is)

  pub delivery_count-our_none : (credit : Option ℕ) (drain : Bool) → is_on_link l e ≡ true → link_event e e.moment ≡ Some (credits.OurFlow None credit drain) → delivery_count l (e ∷ past) ≡ delivery_count l past
  delivery_count-our_none credit drain on is =
      ap (credits.delivery_count l.our_first_count) (link_events-more (credits.OurFlow None credit drain) on is)

  pub given_credit-our_credit : (count : Option ℕ) (credit : ℕ) (drain : Bool) → is_on_link l e ≡ true → link_event e e.moment ≡ Some (credits.OurFlow count (Some credit) drain) → given_credit l (e ∷ past) ≡ credit
  given_credit-our_credit count credit drain on is =
      ap (given_credits.given_credit) (link_events-more (credits.OurFlow count (Some credit) drain) on is) ∙ less-none credit

  pub given_credit-our_none : (count : Option ℕ) (drain : Bool) → is_on_link l e ≡ true → link_event e e.moment ≡ Some (credits.OurFlow count None drain) → given_credit l (e ∷ past) ≡ given_credit l past
  given_credit-our_none count drain on is =
      ap (given_credits.given_credit) (link_events-more (credits.OurFlow count None drain) on is)

-- ---- flows that name the link, as they are said

module _ (l : Link) (e : Event) (past : List Event) (flow : Flow) (on : is_on_link l e ≡ true) where
  pub delivery_count-in_flow : in_meaning e ≡ Some (AFlow flow) → delivery_count l (e ∷ past) ≡ delivery_count l past
  delivery_count-in_flow is = delivery_count-their_flow l e past flow.delivery_count flow.link_credit (flag flow.drain) on (link_event-in_flow e flow is flow.delivery_count flow.link_credit (flag flow.drain) refl refl refl)

  pub given_credit-in_flow : in_meaning e ≡ Some (AFlow flow) → given_credit l (e ∷ past) ≡ given_credit l past
  given_credit-in_flow is = given_credit-their_flow l e past flow.delivery_count flow.link_credit (flag flow.drain) on (link_event-in_flow e flow is flow.delivery_count flow.link_credit (flag flow.drain) refl refl refl)

  pub received_count-in_flow : in_meaning e ≡ Some (AFlow flow) → received_count l (e ∷ past) ≡ received_count l past
  received_count-in_flow is = received_count-their_flow l e past flow.delivery_count flow.link_credit (flag flow.drain) on (link_event-in_flow e flow is flow.delivery_count flow.link_credit (flag flow.drain) refl refl refl)

  pub begun_count-in_flow : in_meaning e ≡ Some (AFlow flow) → begun_count l (e ∷ past) ≡ begun_count l past
  begun_count-in_flow is = begun_count-their_flow l e past flow.delivery_count flow.link_credit (flag flow.drain) on (link_event-in_flow e flow is flow.delivery_count flow.link_credit (flag flow.drain) refl refl refl)

  pub link_credit-in_flow : in_meaning e ≡ Some (AFlow flow) → (credit : ℕ) → flow.link_credit ≡ Some credit → link_credit l (e ∷ past) ≡ credit - credit_lag l.our_first_count (delivery_count l past) flow.delivery_count
  link_credit-in_flow is credit gives =
      link_credit-their_credit l e past flow.delivery_count credit (flag flow.drain) on (link_event-in_flow e flow is flow.delivery_count (Some credit) (flag flow.drain) refl gives refl)

  pub is_draining-in_flow : in_meaning e ≡ Some (AFlow flow) → (credit : ℕ) → flow.link_credit ≡ Some credit → is_draining l (e ∷ past) ≡ flag flow.drain
  is_draining-in_flow is credit gives =
      is_draining-their_credit l e past flow.delivery_count credit (flag flow.drain) on (link_event-in_flow e flow is flow.delivery_count (Some credit) (flag flow.drain) refl gives refl)

  pub link_credit-in_flow_none : in_meaning e ≡ Some (AFlow flow) → flow.link_credit ≡ None → link_credit l (e ∷ past) ≡ link_credit l past
  link_credit-in_flow_none is gives =
      link_credit-their_none l e past flow.delivery_count (flag flow.drain) on (link_event-in_flow e flow is flow.delivery_count None (flag flow.drain) refl gives refl)

  pub is_draining-in_flow_none : in_meaning e ≡ Some (AFlow flow) → flow.link_credit ≡ None → is_draining l (e ∷ past) ≡ is_draining l past
  is_draining-in_flow_none is gives =
      is_draining-their_none l e past flow.delivery_count (flag flow.drain) on (link_event-in_flow e flow is flow.delivery_count None (flag flow.drain) refl gives refl)

  pub is_draining-out_flow : out_meaning e ≡ Some (AFlow flow) → is_draining l (e ∷ past) ≡ is_draining l past
  is_draining-out_flow is = is_draining-our_flow l e past flow.delivery_count flow.link_credit (flag flow.drain) on (link_event-out_flow e flow is flow.delivery_count flow.link_credit (flag flow.drain) refl refl refl)

  pub received_count-out_flow : out_meaning e ≡ Some (AFlow flow) → received_count l (e ∷ past) ≡ received_count l past
  received_count-out_flow is = received_count-our_flow l e past flow.delivery_count flow.link_credit (flag flow.drain) on (link_event-out_flow e flow is flow.delivery_count flow.link_credit (flag flow.drain) refl refl refl)

  pub begun_count-out_flow : out_meaning e ≡ Some (AFlow flow) → begun_count l (e ∷ past) ≡ begun_count l past
  begun_count-out_flow is = begun_count-our_flow l e past flow.delivery_count flow.link_credit (flag flow.drain) on (link_event-out_flow e flow is flow.delivery_count flow.link_credit (flag flow.drain) refl refl refl)

  pub link_credit-out_flow : out_meaning e ≡ Some (AFlow flow) → is_drain_answer flow.link_credit (flag flow.drain) ≡ false → link_credit l (e ∷ past) ≡ link_credit l past
  link_credit-out_flow is other =
      link_credit-our_flow l e past flow.delivery_count flow.link_credit (flag flow.drain) other on (link_event-out_flow e flow is flow.delivery_count flow.link_credit (flag flow.drain) refl refl refl)

  pub link_credit-out_drained : out_meaning e ≡ Some (AFlow flow) → is_drain_answer flow.link_credit (flag flow.drain) ≡ true → link_credit l (e ∷ past) ≡ 0
  link_credit-out_drained is answers =
      link_credit-drained l e past flow.delivery_count flow.link_credit (flag flow.drain) answers on (link_event-out_flow e flow is flow.delivery_count flow.link_credit (flag flow.drain) refl refl refl)

  pub delivery_count-out_flow : out_meaning e ≡ Some (AFlow flow) → (count : ℕ) → flow.delivery_count ≡ Some count → delivery_count l (e ∷ past) ≡ serial_add count 0
  delivery_count-out_flow is count counts =
      delivery_count-our_count l e past count flow.link_credit (flag flow.drain) on (link_event-out_flow e flow is (Some count) flow.link_credit (flag flow.drain) counts refl refl)

  pub delivery_count-out_flow_none : out_meaning e ≡ Some (AFlow flow) → flow.delivery_count ≡ None → delivery_count l (e ∷ past) ≡ delivery_count l past
  delivery_count-out_flow_none is counts =
      delivery_count-our_none l e past flow.link_credit (flag flow.drain) on (link_event-out_flow e flow is None flow.link_credit (flag flow.drain) counts refl refl)

  pub given_credit-out_flow : out_meaning e ≡ Some (AFlow flow) → (credit : ℕ) → flow.link_credit ≡ Some credit → given_credit l (e ∷ past) ≡ credit
  given_credit-out_flow is credit gives =
      given_credit-our_credit l e past flow.delivery_count credit (flag flow.drain) on (link_event-out_flow e flow is flow.delivery_count (Some credit) (flag flow.drain) refl gives refl)

  pub given_credit-out_flow_none : out_meaning e ≡ Some (AFlow flow) → flow.link_credit ≡ None → given_credit l (e ∷ past) ≡ given_credit l past
  given_credit-out_flow_none is gives =
      given_credit-our_none l e past flow.delivery_count (flag flow.drain) on (link_event-out_flow e flow is flow.delivery_count None (flag flow.drain) refl gives refl)

pub ruleset count_steps = (
  window_events-same,
  window_events-elsewhere,
  window_events-more,
  session_window-same,
  session_window-elsewhere,
  given_window-same,
  given_window-elsewhere,
  next_outgoing_id-same,
  next_outgoing_id-elsewhere,
  next_incoming_id-same,
  next_incoming_id-elsewhere,
  session_window-sent,
  given_window-sent,
  next_outgoing_id-sent,
  next_incoming_id-sent,
  session_window-received,
  given_window-received,
  next_outgoing_id-received,
  next_incoming_id-received,
  session_window-their_flow,
  given_window-their_flow,
  next_outgoing_id-their_flow,
  next_incoming_id-their_flow,
  session_window-our_flow,
  given_window-our_flow,
  next_outgoing_id-our_flow,
  next_incoming_id-our_flow,
  link_events-same,
  link_events-elsewhere,
  link_events-more,
  link_credit-same,
  link_credit-elsewhere,
  delivery_count-same,
  delivery_count-elsewhere,
  is_draining-same,
  is_draining-elsewhere,
  given_credit-same,
  given_credit-elsewhere,
  received_count-same,
  received_count-elsewhere,
  begun_count-same,
  begun_count-elsewhere,
  link_credit-begun,
  delivery_count-begun,
  is_draining-begun,
  given_credit-begun,
  received_count-begun,
  begun_count-begun,
  link_credit-their_credit,
  is_draining-their_credit,
  link_credit-their_none,
  is_draining-their_none,
  delivery_count-their_flow,
  given_credit-their_flow,
  received_count-their_flow,
  begun_count-their_flow,
  is_draining-our_flow,
  received_count-our_flow,
  begun_count-our_flow,
  link_credit-our_flow,
  link_credit-drained,
  delivery_count-our_count,
  delivery_count-our_none,
  given_credit-our_credit,
  given_credit-our_none,
  delivery_count-in_flow,
  given_credit-in_flow,
  received_count-in_flow,
  begun_count-in_flow,
  link_credit-in_flow,
  is_draining-in_flow,
  link_credit-in_flow_none,
  is_draining-in_flow_none,
  is_draining-out_flow,
  received_count-out_flow,
  begun_count-out_flow,
  link_credit-out_flow,
  link_credit-out_drained,
  delivery_count-out_flow,
  delivery_count-out_flow_none,
  given_credit-out_flow,
  given_credit-out_flow_none,
)
