-- What an event does to the session of a channel and its counts.
use Rattle.std.proofs.Common.{◌≡◌, refl, sym, ap, ◌∙◌, ℕ, ◌≤◌, Bool, true, false, ◌&&◌, ◌||◌, List, [], ◌∷◌, length, Option, Some, None, IfSome, is_some, option_and_then, option_map, if◌then◌else◌, ◌==◌, eqb-true, arith}
use Rattle.std.proofs.lemmas.Bool.{eq-eqb}
use Rattle.amqp_perf.specs.declared.begin.Begin.{Begin}
use Rattle.amqp_perf.specs.Meaning.{Meaning, ABegin}
use Rattle.capture_form.specs.Rules.{RuleSet}
use Rattle.flow_counts.specs.declared.events.WindowEvent.{WindowEvent}
use Rattle.flow_counts.specs.declared.events.WindowEvent.TheVariants.{TheirFlow, Sent, OurFlow, Received}
use Rattle.trace_events.specs.Words.{is_number, is_some_and, where_passes}
use Rattle.trace_events.specs.Frame.{Frame, Spoken, spoken_in}
use Rattle.trace_events.specs.Event.{Event, Outgoing, Moment, out_frame, Opened, In, Out, Lost, Broken, spoken_of, channel_of, is_on_channel, is_on_session}
use Rattle.trace_events.specs.declared.session.Session.{Session}
use Rattle.trace_events.specs.Said.{as_begin, in_begin, out_begin, out_meaning, is_in_end, is_out_end}
use Rattle.trace_events.specs.Connection.{is_final, is_over}
use Rattle.trace_events.specs.Session.{live_session, last_session, session_begun, own_session, begins_out, ends_in, ends_out}
use Rattle.trace_events.specs.Window.{in_window_event, out_window_event, window_event, window_events}
use Rattle.trace_events.specs.Clauses.{first_broken}
use Rattle.trace_events.proofs.CountSteps.{window_events-elsewhere, session_window-same, given_window-same, next_outgoing_id-same, next_incoming_id-same, session_window-elsewhere, given_window-elsewhere, next_outgoing_id-elsewhere, next_incoming_id-elsewhere, session_window-sent, given_window-sent, next_outgoing_id-sent, next_incoming_id-sent, session_window-received, given_window-received, next_outgoing_id-received, next_incoming_id-received, session_window-their_flow, given_window-their_flow, next_outgoing_id-their_flow, next_incoming_id-their_flow, session_window-our_flow, given_window-our_flow, next_outgoing_id-our_flow, next_incoming_id-our_flow}
use Rattle.trace_events.proofs.Elsewhere.{live_session-other}
use Rattle.trace_events.proofs.EventKinds.{window_event-said_out}
use Rattle.trace_events.specs.Outgoing.{outgoing_begun, next_delivery_id}
use Rattle.flow_counts.specs.Serial.{serial_add}
use Rattle.flow_counts.specs.Window.{window, next_id}
use Rattle.flow_counts.specs.GivenWindow.{given_window, next_incoming_id}
use Rattle.trace_events.proofs.Along.{and_first}
use Rattle.trace_events.proofs.Judged.{AreJudged, IsTransfer, judged-transfer}
use Rattle.trace_events.proofs.OutgoingSteps.{next_delivery_id-same, next_delivery_id-elsewhere, next_delivery_id-begun}
use Rattle.trace_events.proofs.SessionPlaces.{judged-connection}
use Rattle.trace_events.proofs.LinkLives.{live_session-at}
use Rattle.trace_events.proofs.SessionNumbers.{known-later, own_session-number, last_session-known, judged-event_session, one_number}
use Rattle.trace_events.proofs.Sessions.{IsKnown, not_on}
use Rattle.trace_events.proofs.SessionSteps.{live_session-same, live_session-over, live_session-ended, live_session-begun}
use Rattle.trace_events.proofs.BegunDeliveries.{begun-on_link, begun-linked}
use Rattle.trace_events.proofs.ClausesMet.{lawful-past}
use Rattle.trace_events.proofs.OpenedConnections.{begun-not_over}
use Rattle.state_counts.specs.Sessions.{counted, session_at, begins_delivery, begun, moved, moved_by, opens_or_ends, session_next, session_behind}
use Rattle.state_counts.specs.declared.sessions.CountedSession.{CountedSession}
use Rattle.state_counts.proofs.LinkSteps.{off-session}
use Rattle.trace_events.proofs.EventSessions.{spoken-channel, session-begun, session-live, said-live}

abbrev made : Session → ℕ → ℕ → ℕ → ℕ → ℕ → CountedSession
made s a b c d n = record { session = s; window = a; given_window = b; next_outgoing_id = c; next_incoming_id = d; next_delivery_id = n }

made-same : (s : Session) (a a' b b' c c' d d' n n' : ℕ) → a ≡ a' → b ≡ b' → c ≡ c' → d ≡ d' → n ≡ n' → made s a b c d n ≡ made s a' b' c' d' n'
made-same s a a' b b' c c' d d' n n' p q r t u = rw (p, q, r, t, u) refl

-- ---- the counts

module _ (e : Event) (past : List Event) (s : Session) where
  abbrev AreStill : Type 0
  AreStill = next_delivery_id s (e ∷ past) ≡ next_delivery_id s past

  -- an event that isn't the session's, or moves no window, and begins no delivery there
  counted-elsewhere : is_on_session s e ≡ false → AreStill → counted s (e ∷ past) ≡ counted s past
  counted-elsewhere off still =
      made-same s _ _ _ _ _ _ _ _ _ _ (session_window-elsewhere s e past off) (given_window-elsewhere s e past off) (next_outgoing_id-elsewhere s e past off) (next_incoming_id-elsewhere s e past off) still

  abbrev with_id : CountedSession → ℕ → CountedSession
  with_id x n = record x { next_delivery_id = n }

  abbrev id_now : ℕ
  id_now = next_delivery_id s (e ∷ past)

  windows-still : window_event e.moment ≡ None → counted s (e ∷ past) ≡ with_id (counted s past) id_now
  windows-still none =
      made-same s _ _ _ _ _ _ _ _ _ _ (session_window-same s e past none) (given_window-same s e past none) (next_outgoing_id-same s e past none) (next_incoming_id-same s e past none) refl

  windows-by : is_on_session s e ≡ true → (o : Option WindowEvent) → window_event e.moment ≡ o → counted s (e ∷ past) ≡ with_id (moved (counted s past) o) id_now
  windows-by on None is = windows-still is
  windows-by on (Some Sent) is =
      made-same s _ _ _ _ _ _ _ _ _ _ (session_window-sent s e past on is) (given_window-sent s e past on is) (next_outgoing_id-sent s e past on is) (next_incoming_id-sent s e past on is) refl
  windows-by on (Some Received) is =
      made-same s _ _ _ _ _ _ _ _ _ _ (session_window-received s e past on is) (given_window-received s e past on is) (next_outgoing_id-received s e past on is) (next_incoming_id-received s e past on is) refl
  windows-by on (Some OurFlow) is =
      made-same s _ _ _ _ _ _ _ _ _ _ (session_window-our_flow s e past on is) (given_window-our_flow s e past on is) (next_outgoing_id-our_flow s e past on is) (next_incoming_id-our_flow s e past on is) refl
  windows-by on (Some (TheirFlow expected window)) is =
      made-same s _ _ _ _ _ _ _ _ _ _ (session_window-their_flow s e past expected window on is) (given_window-their_flow s e past expected window on is)
      (next_outgoing_id-their_flow s e past expected window on is) (next_incoming_id-their_flow s e past expected window on is) refl

  -- the id counts the deliveries that begin
  id-next : id_now ≡ (if begins_delivery e s then serial_add (next_delivery_id s past) 1 else next_delivery_id s past)
  id-next = by (outgoing_begun e) refl
    where
      at : (j : Outgoing) → outgoing_begun e ≡ Some j → (b : Bool) → (j.link.session.number == s.number) ≡ b
          → id_now ≡ (if b then serial_add (next_delivery_id s past) 1 else next_delivery_id s past)
      at j begun true same = next_delivery_id-begun e past s j begun same
      at j begun false other = next_delivery_id-elsewhere e past s j begun other

      by : (o : Option Outgoing) → outgoing_begun e ≡ o
          → id_now ≡ (if is_some_and o (λ (j : Outgoing). j.link.session.number == s.number) then serial_add (next_delivery_id s past) 1 else next_delivery_id s past)
      by None none = next_delivery_id-same e past s none
      by (Some j) begun = at j begun (j.link.session.number == s.number) refl

  with_id-by : (x : CountedSession) (o : Option WindowEvent) (b : Bool) → with_id (moved x o) (if b then serial_add x.next_delivery_id 1 else x.next_delivery_id)
      ≡ (if b then record (moved x o) { next_delivery_id = serial_add (moved x o).next_delivery_id 1 } else moved x o)
  with_id-by x None true = refl
  with_id-by x None false = refl
  with_id-by x (Some Sent) true = refl
  with_id-by x (Some Sent) false = refl
  with_id-by x (Some Received) true = refl
  with_id-by x (Some Received) false = refl
  with_id-by x (Some OurFlow) true = refl
  with_id-by x (Some OurFlow) false = refl
  with_id-by x (Some (TheirFlow expected window)) true = refl
  with_id-by x (Some (TheirFlow expected window)) false = refl

  counted-by : (o : Option WindowEvent) → counted s (e ∷ past) ≡ with_id (moved (counted s past) o) id_now
      → counted s (e ∷ past) ≡ (if begins_delivery e s then record (moved (counted s past) o) { next_delivery_id = serial_add (moved (counted s past) o).next_delivery_id 1 } else moved (counted s past) o)
  counted-by o is = is ∙ (ap (with_id (moved (counted s past) o)) id-next ∙ with_id-by (counted s past) o (begins_delivery e s))

  counted-next : is_on_session s e ≡ true → counted s (e ∷ past) ≡ moved_by e (counted s past)
  counted-next on = counted-by (window_event e.moment) (windows-by on (window_event e.moment) refl)

  -- one that moves no window, wherever it stands
  counted-still : window_event e.moment ≡ None → counted s (e ∷ past) ≡ moved_by e (counted s past)
  counted-still none =
      counted-by None (windows-still none)
      ∙ ap (λ o. if begins_delivery e s then record (moved (counted s past) o) { next_delivery_id = serial_add (moved (counted s past) o).next_delivery_id 1 } else moved (counted s past) o) (sym none)

-- where an entry has the counts so far, it has them with this event
pub counted_next : (e : Event) (past : List Event) (x : CountedSession) → x ≡ counted x.session past → is_on_session x.session e ≡ true → moved_by e x ≡ counted x.session (e ∷ past)
counted_next e past x is on = ap (moved_by e) is ∙ sym (counted-next e past x.session on)

-- ---- nothing stands on a session before its record

pub judged-unused : (rules : RuleSet) (past : List Event) (s : Session) → AreJudged rules past → length past ≤ s.number → window_events s past ≡ []
judged-unused rules [] s are after = refl
judged-unused rules (e ∷ past) s are after =
    let off : is_on_session s e ≡ false =
    ap (λ b. b && (e.connection == s.connection)) (not_on s e.session (λ t is. omega (arith, after, (judged-event_session rules e past t are is).before))) in
    window_events-elsewhere s e past off ∙ judged-unused rules past s are.1 (omega (arith, after))

-- ---- deliveries begin on the session of their event

module _ (rules : RuleSet) (e : Event) (past : List Event) (are : AreJudged rules (e ∷ past)) (lawful : first_broken rules (e ∷ past) ≡ None) (s : Session) where
  abbrev named : ℕ → Bool
  named n = is_some_and e.session (λ (t : Session). t.number == n)

  begun-named : (j : Outgoing) → outgoing_begun e ≡ Some j → named j.link.session.number ≡ true
  begun-named j begun = by (is_on_session j.link.session e) refl
    where
      by : (b : Bool) → is_on_session j.link.session e ≡ b → named j.link.session.number ≡ true
      by true on = and_first (named j.link.session.number) (e.connection == j.link.session.connection) on
      by false off =
          let never : true ≡ false = sym (begun-on_link rules e past are lawful j begun) ∙ off-session rules e past are j.link (begun-linked rules e past are lawful j begun) off in
          absurd cc

  id-elsewhere : named s.number ≡ false → next_delivery_id s (e ∷ past) ≡ next_delivery_id s past
  id-elsewhere off = by (outgoing_begun e) refl
    where
      at : (j : Outgoing) → outgoing_begun e ≡ Some j → (b : Bool) → (j.link.session.number == s.number) ≡ b → next_delivery_id s (e ∷ past) ≡ next_delivery_id s past
      at j begun false other = next_delivery_id-elsewhere e past s j begun other
      at j begun true same =
          let never : true ≡ false = sym (begun-named j begun) ∙ (ap named (eqb-true j.link.session.number s.number same) ∙ off) in
          absurd cc

      by : (o : Option Outgoing) → outgoing_begun e ≡ o → next_delivery_id s (e ∷ past) ≡ next_delivery_id s past
      by None none = next_delivery_id-same e past s none
      by (Some j) begun = at j begun (j.link.session.number == s.number) refl

id-unused : (rules : RuleSet) (past : List Event) (s : Session) → AreJudged rules past → first_broken rules past ≡ None → length past ≤ s.number → next_delivery_id s past ≡ 0
id-unused rules [] s are lawful after = refl
id-unused rules (e ∷ past) s are lawful after =
    id-elsewhere rules e past are lawful s (not_on s e.session (λ t is. omega (arith, after, (judged-event_session rules e past t are is).before)))
    ∙ id-unused rules past s are.1 (lawful-past rules e past lawful) (omega (arith, after))

pub unused-begun : (s : Session) (past : List Event) → window_events s past ≡ [] → next_delivery_id s past ≡ 0 → counted s past ≡ begun s
unused-begun s past none zero = made-same s _ _ _ _ _ _ _ _ _ _ (ap (window s.our_first_id s.their_window) none) (ap given_window none) (ap (next_id s.our_first_id) none) (ap (next_incoming_id s.their_first_id) none) zero

-- ---- an event of another connection

map-same : (f g : Session → CountedSession) (o : Option Session) → ((s : Session) → o ≡ Some s → f s ≡ g s) → option_map f o ≡ option_map g o
map-same f g None same = refl
map-same f g (Some s) same = ap Some (same s refl)

and_none : (a b : Bool) → b ≡ false → a && b ≡ false
and_none true b is = is
and_none false b is = refl

and_all : (a b : Bool) → b ≡ true → a && b ≡ a
and_all true b is = is
and_all false b is = refl

last_live : (c channel : ℕ) (past : List Event) (s : Session) → live_session c channel past ≡ Some s → last_session c channel past ≡ Some s
last_live c channel past s is = by (is_over c past) is
  where
    by : (b : Bool) → (if b then None else last_session c channel past) ≡ Some s → last_session c channel past ≡ Some s
    by true is = absurd cc
    by false is = is

module _ (rules : RuleSet) (e : Event) (past : List Event) (are : AreJudged rules (e ∷ past)) (lawful : first_broken rules (e ∷ past) ≡ None) where
  unnamed : (c channel : ℕ) → (e.connection == c) ≡ false → (s : Session) → live_session c channel past ≡ Some s → (o : Option Session) → e.session ≡ o → is_some_and o (λ t. t.number == s.number) ≡ false
  unnamed c channel other s live None on = refl
  unnamed c channel other s live (Some t) on = by (t.number == s.number) refl
    where
      by : (b : Bool) → (t.number == s.number) ≡ b → b ≡ false
      by false apart = refl
      by true same =
          let mine = known-later rules e past s are (last_session-known rules past are.1 c channel s (last_live c channel past s live)) in
          let one : t ≡ s = one_number (e ∷ past) t s (judged-event_session rules e past t are on) mine (eqb-true t.number s.number same) in
          let at : e.connection ≡ c = sym (judged-connection rules e past t are on) ∙ (ap (λ (x : Session). x.connection) one ∙ (live_session-at c channel past s live).0) in
          let never : true ≡ false = sym (eq-eqb e.connection c at) ∙ other in
          cc

  pub session-other : (c channel : ℕ) → (e.connection == c) ≡ false → session_at c channel (e ∷ past) ≡ session_at c channel past
  session-other c channel other =
      ap (option_map (λ s. counted s (e ∷ past))) (live_session-other c e past other channel)
      ∙ map-same (λ s. counted s (e ∷ past)) (λ s. counted s past) (live_session c channel past)
      (λ s is. counted-elsewhere e past s (and_none (is_some_and e.session (λ t. t.number == s.number)) (e.connection == s.connection) (ap (λ n. e.connection == n) (live_session-at c channel past s is).0 ∙ other))
      (id-elsewhere rules e past are lawful s (unnamed c channel other s is e.session refl)))

-- ---- one of the connection

module _ (rules : RuleSet) (e : Event) (past : List Event) (are : AreJudged rules (e ∷ past)) where
  abbrev c : ℕ
  c = e.connection

  own : (c == c) ≡ true
  own = eq-eqb c c refl

  pub live-known : (channel : ℕ) (s : Session) → live_session c channel past ≡ Some s → IsKnown past s
  live-known channel s is = last_session-known rules past are.1 c channel s (last_live c channel past s is)

  -- the last one
  session-final : (channel : ℕ) → is_final e.moment ≡ true → session_at c channel (e ∷ past) ≡ None
  session-final channel final = ap (option_map (λ s. counted s (e ∷ past))) (live_session-over c channel e past final own)

  -- ---- one of another channel

  module _ (channel : ℕ) (going : is_final e.moment ≡ false) (off : is_number (channel_of e.moment) channel ≡ false) where
    off_channel : is_on_channel c channel e ≡ false
    off_channel = ap (λ b. b && (c == c)) off

    pub live-same : live_session c channel (e ∷ past) ≡ live_session c channel past
    live-same =
        live_session-same c channel e past going (and_none (is_in_end e) (is_on_channel c channel e) off_channel) (and_none (is_out_end e) (is_on_channel c channel e) off_channel)
        (and_none (is_some (out_begin e)) (is_on_channel c channel e) off_channel)

    off_spoken : (s t : Session) → live_session c channel past ≡ Some s → (o : Option Spoken) → spoken_of e.moment ≡ o → out_begin e ≡ None → e.session ≡ Some t → (t.number == s.number) ≡ true → ⊥
    off_spoken s t live None said none on same =
        let never : ◌≡◌ {A = Option Session} None (Some t) = sym (ap (λ o. option_and_then (λ (spoken : Spoken). live_session c spoken.channel past) o) said) ∙ (sym (session-live rules e past are none) ∙ on) in
        cc
    off_spoken s t live (Some spoken) said none on same =
        let there : live_session c spoken.channel past ≡ Some t = sym (said-live c e.moment past spoken said) ∙ (sym (session-live rules e past are none) ∙ on) in
        let one : t ≡ s = one_number past t s (live-known spoken.channel t there) (live-known channel s live) (eqb-true t.number s.number same) in
        let at : spoken.channel ≡ channel = sym (live_session-at c spoken.channel past t there).1 ∙ (ap (λ (x : Session). x.channel) one ∙ (live_session-at c channel past s live).1) in
        let never : true ≡ false = sym (eq-eqb spoken.channel channel at) ∙ (sym (ap (λ o. is_number o channel) (spoken-channel e.moment spoken said)) ∙ off) in
        cc

    off_by : (s : Session) → live_session c channel past ≡ Some s → (begin : Option Begin) → out_begin e ≡ begin → (t : Session) → e.session ≡ Some t → (b : Bool) → (t.number == s.number) ≡ b → b ≡ false
    off_by s live begin begins t on false same = refl
    off_by s live None begins t on true same = absurd (off_spoken s t live (spoken_of e.moment) refl begins on same)
    off_by s live (Some begin) begins t on true same =
        let opens : own_session e ≡ Some t = ap (λ b. if b then e.session else None) (ap is_some begins) ∙ on in
        absurd (omega (arith, own_session-number rules e past t are opens, eqb-true t.number s.number same, (live-known channel s live).before))

    pub off_session : (s : Session) → live_session c channel past ≡ Some s → (o : Option Session) → e.session ≡ o → is_some_and o (λ t. t.number == s.number) ≡ false
    off_session s live None on = refl
    off_session s live (Some t) on = off_by s live (out_begin e) refl t on (t.number == s.number) refl

    session-off : first_broken rules (e ∷ past) ≡ None → session_at c channel (e ∷ past) ≡ session_at c channel past
    session-off lawful =
        ap (option_map (λ s. counted s (e ∷ past))) live-same
        ∙ map-same (λ s. counted s (e ∷ past)) (λ s. counted s past) (live_session c channel past)
        (λ s live. counted-elsewhere e past s (ap (λ b. b && (c == s.connection)) (off_session s live e.session refl))
        (id-elsewhere rules e past are lawful s (off_session s live e.session refl)))

  -- ---- one of the channel

  module _ (channel : ℕ) (going : is_final e.moment ≡ false) (lawful : first_broken rules (e ∷ past) ≡ None) (at : is_number (channel_of e.moment) channel ≡ true) where
    here : is_on_channel c channel e ≡ true
    here = ap (λ b. b && (c == c)) at ∙ own

    theirs : ends_in c channel e ≡ is_in_end e
    theirs = and_all (is_in_end e) (is_on_channel c channel e) here

    ours : ends_out c channel e ≡ is_out_end e
    ours = and_all (is_out_end e) (is_on_channel c channel e) here

    begins : begins_out c channel e ≡ is_some (out_begin e)
    begins = and_all (is_some (out_begin e)) (is_on_channel c channel e) here

    -- an end
    session-ended : is_in_end e || is_out_end e ≡ true → session_at c channel (e ∷ past) ≡ None
    session-ended ends =
        ap (option_map (λ s. counted s (e ∷ past)))
        (live_session-ended c channel e past
        (ap (λ b. if b || ends_out c channel e then None else if begins_out c channel e then session_begun c channel e past else last_session c channel past) theirs
        ∙ (ap (λ b. if is_in_end e || b then None else if begins_out c channel e then session_begun c channel e past else last_session c channel past) ours
        ∙ ap (λ b. if b then None else if begins_out c channel e then session_begun c channel e past else last_session c channel past) ends)))

    -- a begin of the router
    still : is_some (out_begin e) ≡ true → window_event e.moment ≡ None
    still is = by (out_meaning e) refl is
      where
        by : (o : Option Meaning) → out_meaning e ≡ o → is_some (option_and_then as_begin o) ≡ true → window_event e.moment ≡ None
        by (Some (ABegin begin)) said is = window_event-said_out e.moment (ABegin begin) said
        by _ said is = absurd cc

    -- which is no transfer
    no_transfer : is_some (out_begin e) ≡ true → IsTransfer e.moment → ⊥
    no_transfer is transfer =
        let never : false ≡ true =
        sym (ap (λ m. is_some (option_and_then as_begin (option_map (λ (spoken : Spoken). spoken.meaning) (option_and_then (λ (frame : Frame). spoken_in frame.body) (out_frame m))))) transfer.written
        ∙ (ap (λ o. is_some (option_and_then as_begin (option_map (λ (spoken : Spoken). spoken.meaning) o))) transfer.says
        ∙ ap (λ m. is_some (as_begin m)) transfer.means)) ∙ is in
        cc

    begins_none : is_some (out_begin e) ≡ true → outgoing_begun e ≡ None
    begins_none is = by e.outgoing refl (judged-transfer rules e past are)
      where
        by : (o : Option Outgoing) → e.outgoing ≡ o → IfSome o (λ j. IsTransfer e.moment) → outgoing_begun e ≡ None
        by None none transfer = ap (where_passes (λ (j : Outgoing). j.number == e.number)) none
        by (Some j) some transfer = absurd (no_transfer is transfer)

    counted-begun : (s : Session) → is_some (out_begin e) ≡ true → e.session ≡ Some s → counted s (e ∷ past) ≡ begun s
    counted-begun s begins on =
        let opens : own_session e ≡ Some s = ap (λ b. if b then e.session else None) begins ∙ on in
        let number = own_session-number rules e past s are opens in
        windows-still e past s (still begins)
        ∙ (ap (with_id e past s (counted s past)) (next_delivery_id-same e past s (begins_none begins))
        ∙ unused-begun s past (judged-unused rules past s are.1 (omega (arith, number))) (id-unused rules past s are.1 (lawful-past rules e past lawful) (omega (arith, number))))

    session-new : is_in_end e ≡ false → is_out_end e ≡ false → is_some (out_begin e) ≡ true → session_at c channel (e ∷ past) ≡ option_map begun e.session
    session-new not_in not_out is =
        ap (option_map (λ s. counted s (e ∷ past)))
        (live_session-begun c channel e past (begun-not_over rules e past lawful is) going (theirs ∙ not_in) (ours ∙ not_out) (begins ∙ is) ∙ sym (session-begun rules e past are c channel is here))
        ∙ map-same (λ s. counted s (e ∷ past)) begun e.session (λ s on. counted-begun s is on)

    -- any other
    silent : (m : Moment) → spoken_of m ≡ None → window_event m ≡ None
    silent (In frame) none = ap (option_and_then (λ (spoken : Spoken). in_window_event spoken.meaning)) none
    silent (Out frame) none = ap (option_and_then (λ (spoken : Spoken). out_window_event spoken.meaning)) none
    silent Opened none = refl
    silent Lost none = refl
    silent Broken none = refl

    pub on_session : (s : Session) → out_begin e ≡ None → live_session c channel past ≡ Some s → (spoken : Spoken) → spoken_of e.moment ≡ Some spoken → is_on_session s e ≡ true
    on_session s none live spoken said =
        let same : spoken.channel ≡ channel = eqb-true spoken.channel channel (sym (ap (λ o. is_number o channel) (spoken-channel e.moment spoken said)) ∙ at) in
        let on : e.session ≡ Some s = session-live rules e past are none ∙ (said-live c e.moment past spoken said ∙ (ap (λ n. live_session c n past) same ∙ live)) in
        ap (λ o. is_some_and o (λ t. t.number == s.number) && (c == s.connection)) on
        ∙ (ap (λ b. b && (c == s.connection)) (eq-eqb s.number s.number refl) ∙ eq-eqb c s.connection (sym (live_session-at c channel past s live).0))

    counted-going : (s : Session) → out_begin e ≡ None → live_session c channel past ≡ Some s → (o : Option Spoken) → spoken_of e.moment ≡ o → counted s (e ∷ past) ≡ moved_by e (counted s past)
    counted-going s none live None said = counted-still e past s (silent e.moment said)
    counted-going s none live (Some spoken) said = counted-next e past s (on_session s none live spoken said)

    map-map : (f : Session → CountedSession) (g : CountedSession → CountedSession) (o : Option Session) → option_map g (option_map f o) ≡ option_map (λ s. g (f s)) o
    map-map f g None = refl
    map-map f g (Some s) = refl

    session-going : is_in_end e ≡ false → is_out_end e ≡ false → out_begin e ≡ None → session_at c channel (e ∷ past) ≡ option_map (moved_by e) (session_at c channel past)
    session-going not_in not_out none =
        ap (option_map (λ s. counted s (e ∷ past)))
        (live_session-same c channel e past going (theirs ∙ not_in) (ours ∙ not_out) (begins ∙ ap is_some none))
        ∙ (map-same (λ s. counted s (e ∷ past)) (λ s. moved_by e (counted s past)) (live_session c channel past) (λ s live. counted-going s none live (spoken_of e.moment) refl)
        ∙ sym (map-map (λ s. counted s past) (moved_by e) (live_session c channel past)))

    session-here : session_at c channel (e ∷ past) ≡ session_next e (session_at c channel past)
    session-here = by (is_in_end e) (is_out_end e) (out_begin e) refl refl refl
      where
        by : (a b : Bool) (o : Option Begin) → is_in_end e ≡ a → is_out_end e ≡ b → out_begin e ≡ o
            → session_at c channel (e ∷ past) ≡ (if a || b then None else if is_some o then option_map begun e.session else option_map (moved_by e) (session_at c channel past))
        by true b o p q r = session-ended (ap (λ x. x || is_out_end e) p)
        by false true o p q r = session-ended (ap (λ x. x || is_out_end e) p ∙ q)
        by false false (Some begin) p q r = session-new p q (ap is_some r)
        by false false None p q r = session-going p q r

  -- of any event of the connection
  pub session-behind : (lawful : first_broken rules (e ∷ past) ≡ None) (channel : ℕ) → session_at c channel (e ∷ past) ≡ session_behind e channel (session_at c channel past)
  session-behind lawful channel = by (is_final e.moment) (is_number (channel_of e.moment) channel) refl refl
    where
      by : (final on : Bool) → is_final e.moment ≡ final → is_number (channel_of e.moment) channel ≡ on
          → session_at c channel (e ∷ past) ≡ (if final then None else if on then session_next e (session_at c channel past) else session_at c channel past)
      by true on is at = session-final channel is
      by false true is at = session-here channel is lawful at
      by false false is off = session-off channel is off lawful

-- ---- events that neither begin nor end anything

pub session-moves : (e : Event) (o : Option CountedSession) → opens_or_ends e ≡ false → session_next e o ≡ option_map (moved_by e) o
session-moves e o none = by (is_some (in_begin e)) (is_some (out_begin e)) (is_in_end e) (is_out_end e) none
  where
    by : (a b c d : Bool) → a || b || c || d ≡ false
        → (if c || d then None else if b then option_map begun e.session else option_map (moved_by e) o) ≡ option_map (moved_by e) o
    by true b c d is = absurd cc
    by false true c d is = absurd cc
    by false false true d is = absurd cc
    by false false false true is = absurd cc
    by false false false false is = refl
