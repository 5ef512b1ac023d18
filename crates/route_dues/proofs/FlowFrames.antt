-- A flow that is owed leaves less to be written.
use Rattle.std.proofs.Common.{◌≡◌, refl, sym, ap, subst, ◌∙◌, ℕ, ◌+◌, ◌≤◌, ◌<◌, Bool, true, false, not, ◌&&◌, ◌||◌, List, [], ◌∷◌, length, Option, Some, None, is_some, nat_lt, if◌then◌else◌, ◌==◌, eq-eqb, ltb-true, leb-true, arith}
use Rattle.std.specs.Prelude.{Contains, nat_le}
use Rattle.std.specs.Bool.{beq}
use Rattle.std.proofs.lemmas.Slice.Eq.{bytes_eq-Decides}
use Rattle.amqp_perf.specs.declared.flow.Flow.{Flow}
use Rattle.amqp_perf.specs.Meaning.{AFlow, flag}
use Rattle.pairing_cert.specs.declared.note.Note.{Note}
use Rattle.capture_form.specs.Rules.{RuleSet}
use Rattle.flow_counts.specs.declared.profile.TheConstants.{LOW_MARK}
use Rattle.trace_events.specs.Frame.{Spoken}
use Rattle.trace_events.specs.Words.{is_some_and, is_number}
use Rattle.trace_events.specs.Event.{Event, Link, is_on_session, is_on_link}
use Rattle.trace_events.specs.declared.session.Session.{Session}
use Rattle.trace_events.specs.Link.{is_producer, is_consumer, links}
use Rattle.trace_events.specs.Window.{next_incoming_id}
use Rattle.trace_events.specs.Credit.{link_credit, given_credit, link_events, is_draining, delivery_count, received_count}
use Rattle.trace_events.specs.Waiting.{undecided_count}
use Rattle.trace_events.proofs.Along.{and_first, and_last, some_passes}
use Rattle.trace_events.proofs.Judged.{AreJudged}
use Rattle.trace_events.proofs.LinkLives.{live_session-at}
use Rattle.trace_events.proofs.Links as known_links
use Rattle.trace_events.specs.FlowClause.{tells_counts, has_session_numbers, has_link_numbers, has_producer_numbers, has_consumer_numbers, is_drain_answer, may_be_topped_up, full_credit, may_be_drained, drained_count, nothing_waits}
use Rattle.trace_events.specs.Written.{says, spoken_octets, link_numbers, written_credit, written_count, written_session_flow}
use Rattle.trace_events.proofs.WaitingQueue.{filter_has}
use Rattle.trace_duties.specs.Quiet.{lacks_window}
use Rattle.trace_duties.specs.Diligent.{is_owed_flow, is_owed_on, writes}
use Rattle.route_dues.specs.Work.{sendable, lacking, drainable, grantable, untold, unsettled, work_left}
use Rattle.route_dues.specs.Writing.{spoken_with, writing}
use Rattle.route_dues.proofs.FlowOctets.{NamesLink, same_credit, same_number}
use Rattle.route_dues.proofs.OwnCounts.{given-more}
use Rattle.route_dues.proofs.OwnEvents.{IsOwn, on-known, sendable-most, lacking-most, lacking-less, drainable-most, drainable-less, grantable-most, grantable-less, untold-most, unsettled-kept}
use Rattle.route_dues.proofs.Parts.{both, no_both, none_opened, by_lacking, by_drainable, by_grantable, number_some, receives}
use Rattle.route_dues.proofs.Places.{session-there, link-known, link-there, link-place, no_handle}

module _ (rules : RuleSet) (past : List Event) (are : AreJudged rules past) (c : ℕ) (note : Note) (channel : ℕ) (payload : List ℕ) (flow : Flow) where
  abbrev sent : Spoken
  sent = spoken_with channel (AFlow flow) payload

  abbrev e : Event
  e = writing rules past c note sent

  flow-link : (l : Link) → e.link ≡ Some l → known_links.IsKnown past l
  flow-link l is = link-known rules past are c channel flow.handle l is

  flow-own : IsOwn e
  flow-own = record {
    no_session = refl;
    no_link = none_opened e.link (length past) (λ l is. (flow-link l is).before);
    no_incoming = refl;
    windows = tt;
    credits = tt;
  }

  -- ---- a session's

  module _ (none : flow.handle ≡ None) where
    none-given : (l : Link) → Contains (links past) l → is_producer l ≡ true → is_on_link l e ≡ true → given_credit l past ≤ given_credit l (e ∷ past)
    none-given l there produces on =
        let m = some_passes (λ (m : Link). m.number == l.number) e.link (and_first (is_some_and e.link (λ m. m.number == l.number)) (c == l.session.connection) on) in
        no_handle rules past are c channel flow.handle m.0 none m.1

    pub window-flow-less : is_some_and e.session (λ s. lacks_window past s && writes e (written_session_flow s past)) ≡ true → work_left (e ∷ past) < work_left past
    window-flow-less owed =
        let s = some_passes (λ s. lacks_window past s && writes e (written_session_flow s past)) e.session owed in
        let at = live_session-at c channel past s.0 s.1 in
        let on : is_on_session s.0 e ≡ true =
        both (is_some_and e.session (λ t. t.number == s.0.number)) (c == s.0.connection)
        (ap (λ o. is_some_and o (λ (t : Session). t.number == s.0.number)) s.1 ∙ eq-eqb s.0.number s.0.number refl) (eq-eqb c s.0.connection (sym at.0)) in
        by_lacking (sendable past) (sendable (e ∷ past)) (lacking past) (lacking (e ∷ past)) (drainable past) (drainable (e ∷ past)) (grantable past) (grantable (e ∷ past))
        (untold past) (untold (e ∷ past)) (unsettled past) (unsettled (e ∷ past))
        (sendable-most e past flow-own)
        (lacking-less e past flow-own refl s.0 (session-there rules past are c channel s.0 s.1) on (and_first (lacks_window past s.0) _ s.2))
        (drainable-most e past flow-own) (grantable-most e past flow-own none-given)
        (untold-most e past flow-own) (unsettled-kept e past flow-own refl)

  -- ---- a link's

  module _ (handle : ℕ) (handle_is : flow.handle ≡ Some handle) (l : Link) (names : e.link ≡ Some l) (numbers : is_some_and e.session (has_session_numbers flow past) ≡ true) where
    known : known_links.IsKnown past l
    known = flow-link l names

    there : Contains (links past) l
    there = link-there rules past are l known

    on : is_on_link l e ≡ true
    on =
        both (is_some_and e.link (λ m. m.number == l.number)) (c == l.session.connection)
        (ap (λ o. is_some_and o (λ (m : Link). m.number == l.number)) names ∙ eq-eqb l.number l.number refl)
        (eq-eqb c l.session.connection (link-place c channel flow.handle past l names))

    expected : (n : ℕ) × (flow.next_incoming_id ≡ Some n)
    expected =
        let s = some_passes (has_session_numbers flow past) e.session numbers in
        (next_incoming_id s.0 past, number_some flow.next_incoming_id (next_incoming_id s.0 past) (and_last _ (is_number flow.next_incoming_id (next_incoming_id s.0 past)) s.2))

    abbrev names-link : (count credit : ℕ) → flow.delivery_count ≡ Some count → flow.link_credit ≡ Some credit → NamesLink flow
    names-link count credit count_is credit_is = record {
      expected = expected.0;
      handle = handle;
      count = count;
      credit = credit;
      expected_is = expected.1;
      handle_is = handle_is;
      count_is = count_is;
      credit_is = credit_is;
    }

    -- the octets say how much credit there is
    said-credit : (count credit k n : ℕ) (drains : Bool) → flow.delivery_count ≡ Some k → flow.link_credit ≡ Some n → credit < 256
        → writes e (says l.session.channel (AFlow (link_numbers l count credit drains past))) ≡ true → flow.link_credit ≡ Some credit
    said-credit count credit k n drains k_is n_is few is =
        let wanted = link_numbers l count credit drains past in
        let same = same_credit channel l.session.channel flow wanted payload [] (names-link k n k_is n_is)
        (record {
          expected = next_incoming_id l.session past;
          handle = l.handle;
          count = count;
          credit = credit;
          expected_is = refl;
          handle_is = refl;
          count_is = refl;
          credit_is = refl;
        })
        ((bytes_eq-Decides (spoken_octets sent) (spoken_octets (says l.session.channel (AFlow wanted)))).0 is) in
        n_is ∙ ap Some (same_number n credit few same)

    -- a drain answer
    module _ (consumes : is_consumer l ≡ true) (owed : may_be_drained rules past l && writes e (written_count l (drained_count past l) 0 past) ≡ true) (has : has_consumer_numbers rules flow past l ≡ true) where
      drain-given : (m : Link) → Contains (links past) m → is_producer m ≡ true → is_on_link m e ≡ true → given_credit m past ≤ given_credit m (e ∷ past)
      drain-given m m_there produces on_m =
          let one = on-known rules past are e l names known m m_there on_m in
          no_both m.role (ap is_consumer (sym one) ∙ consumes) produces

      counted : (k : ℕ) × ((n : ℕ) × ((flow.delivery_count ≡ Some k) × (flow.link_credit ≡ Some n)))
      counted =
          by (is_number flow.delivery_count (delivery_count l past)) (is_number flow.link_credit (link_credit l past)) refl refl
          (and_last (beq (flag flow.drain) (is_draining l past)) _ has)
        where
          answers : is_drain_answer rules flow past l ≡ true → (k : ℕ) × ((n : ℕ) × ((flow.delivery_count ≡ Some k) × (flow.link_credit ≡ Some n)))
          answers is =
              let first = and_first (may_be_drained rules past l && is_number flow.delivery_count (drained_count past l)) (is_number flow.link_credit 0) is in (
                drained_count past l,
                (
                  0,
                  (
                    number_some flow.delivery_count (drained_count past l) (and_last (may_be_drained rules past l) _ first),
                    number_some flow.link_credit 0 (and_last (may_be_drained rules past l && is_number flow.delivery_count (drained_count past l)) _ is),
                  ),
                ),
              )

          by : (a b : Bool) → is_number flow.delivery_count (delivery_count l past) ≡ a → is_number flow.link_credit (link_credit l past) ≡ b → a && b || is_drain_answer rules flow past l ≡ true
              → (k : ℕ) × ((n : ℕ) × ((flow.delivery_count ≡ Some k) × (flow.link_credit ≡ Some n)))
          by true true p q is = (delivery_count l past, (link_credit l past, (number_some flow.delivery_count (delivery_count l past) p, number_some flow.link_credit (link_credit l past) q)))
          by true false p q is = answers is
          by false b p q is = answers is

      drains : flag flow.drain ≡ true
      drains =
          by (flag flow.drain) (is_draining l past) (and_first (beq (flag flow.drain) (is_draining l past)) _ has)
          (and_first (is_draining l past) _ (and_first (is_draining l past && nat_lt 0 (link_credit l past)) (nothing_waits rules past l) (and_first (may_be_drained rules past l) _ owed)))
        where
          by : (a b : Bool) → beq a b ≡ true → b ≡ true → a ≡ true
          by true b same is = refl
          by false true same is = absurd cc
          by false false same is = is

      pub drain-flow-less : work_left (e ∷ past) < work_left past
      drain-flow-less =
          let used = said-credit (drained_count past l) 0 counted.0 counted.1.0 (is_draining l past) counted.1.1.0 counted.1.1.1 (omega arith) (and_last (may_be_drained rules past l) _ owed) in
          let lt = ltb-true 0 (link_credit l past)
          (and_last (is_draining l past) _ (and_first (is_draining l past && nat_lt 0 (link_credit l past)) (nothing_waits rules past l) (and_first (may_be_drained rules past l) _ owed))) in
          by_drainable (sendable past) (sendable (e ∷ past)) (lacking past) (lacking (e ∷ past)) (drainable past) (drainable (e ∷ past)) (grantable past) (grantable (e ∷ past))
          (untold past) (untold (e ∷ past)) (unsettled past) (unsettled (e ∷ past))
          (sendable-most e past flow-own) (lacking-most e past flow-own)
          (drainable-less e past flow-own flow.delivery_count flow.link_credit (flag flow.drain) refl used drains l (filter_has is_consumer (links past) l consumes there) on (omega (arith, lt)))
          (grantable-most e past flow-own drain-given) (untold-most e past flow-own) (unsettled-kept e past flow-own refl)

    -- credit
    module _ (produces : is_producer l ≡ true) (owed : may_be_topped_up rules past l && writes e (written_credit l (full_credit rules past l) past) ≡ true) (has : has_producer_numbers rules flow past l ≡ true) where
      credited : (n : ℕ) × (flow.link_credit ≡ Some n)
      credited =
          by (is_number flow.link_credit (given_credit l past)) refl (and_last (not (flag flow.drain) && is_number flow.delivery_count (received_count l past)) _ has)
        where
          by : (a : Bool) → is_number flow.link_credit (given_credit l past) ≡ a → a || may_be_topped_up rules past l && is_number flow.link_credit (full_credit rules past l) ≡ true
              → (n : ℕ) × (flow.link_credit ≡ Some n)
          by true p is = (given_credit l past, number_some flow.link_credit (given_credit l past) p)
          by false p is = (full_credit rules past l, number_some flow.link_credit (full_credit rules past l) (and_last (may_be_topped_up rules past l) _ is))

      counted_is : flow.delivery_count ≡ Some (received_count l past)
      counted_is =
          number_some flow.delivery_count (received_count l past)
          (and_last (not (flag flow.drain)) _ (and_first (not (flag flow.drain) && is_number flow.delivery_count (received_count l past)) _ has))

      low : given_credit l past + undecided_count rules l past ≤ LOW_MARK
      low =
          leb-true (given_credit l past + undecided_count rules l past) LOW_MARK
          (and_first (nat_le (given_credit l past + undecided_count rules l past) LOW_MARK) _ (and_first (may_be_topped_up rules past l) _ owed))

      gives : given_credit l past < given_credit l (e ∷ past)
      gives =
          given-more flow.delivery_count flow.link_credit (flag flow.drain) (link_events l past) (undecided_count rules l past)
          (said-credit (received_count l past) (full_credit rules past l) (received_count l past) credited.0 false counted_is credited.1 (omega arith) (and_last (may_be_topped_up rules past l) _ owed))
          low (is_on_link l e) on

      credit-given : (m : Link) → Contains (links past) m → is_producer m ≡ true → is_on_link m e ≡ true → given_credit m past ≤ given_credit m (e ∷ past)
      credit-given m m_there m_produces on_m =
          let one = on-known rules past are e l names known m m_there on_m in
          subst (λ (k : Link). given_credit k past ≤ given_credit k (e ∷ past)) one (omega (arith, gives))

      pub credit-flow-less : work_left (e ∷ past) < work_left past
      credit-flow-less =
          by_grantable (sendable past) (sendable (e ∷ past)) (lacking past) (lacking (e ∷ past)) (drainable past) (drainable (e ∷ past)) (grantable past) (grantable (e ∷ past))
          (untold past) (untold (e ∷ past)) (unsettled past) (unsettled (e ∷ past))
          (sendable-most e past flow-own) (lacking-most e past flow-own) (drainable-most e past flow-own)
          (grantable-less e past flow-own credit-given l (filter_has is_producer (links past) l produces there) gives (omega (arith, low)))
          (untold-most e past flow-own) (unsettled-kept e past flow-own refl)

    -- either
    pub link-flow-less : is_owed_on rules e past l ≡ true → has_link_numbers rules flow past l ≡ true → work_left (e ∷ past) < work_left past
    link-flow-less owed has = by (is_consumer l) refl owed has
      where
        by : (b : Bool) → is_consumer l ≡ b
            → (if b then may_be_drained rules past l && writes e (written_count l (drained_count past l) 0 past) else may_be_topped_up rules past l && writes e (written_credit l (full_credit rules past l) past)) ≡ true
            → (if b then has_consumer_numbers rules flow past l else has_producer_numbers rules flow past l) ≡ true → work_left (e ∷ past) < work_left past
        by true consumes owed has = drain-flow-less consumes owed has
        by false other owed has = credit-flow-less (receives l.role other) owed has

  -- ---- any

  pub flow-less : is_owed_flow rules e flow past ≡ true → tells_counts rules e flow past ≡ true → work_left (e ∷ past) < work_left past
  flow-less owed tells = by flow.handle refl owed (and_last (is_some_and e.session (has_session_numbers flow past)) _ tells)
    where
      numbers : is_some_and e.session (has_session_numbers flow past) ≡ true
      numbers = and_first (is_some_and e.session (has_session_numbers flow past)) _ tells

      by : (h : Option ℕ) → flow.handle ≡ h
          → (if is_some h then is_some_and e.link (is_owed_on rules e past) else is_some_and e.session (λ s. lacks_window past s && writes e (written_session_flow s past))) ≡ true
          → (if is_some h then is_some_and e.link (has_link_numbers rules flow past) else not (flag flow.drain)) ≡ true → work_left (e ∷ past) < work_left past
      by None none owed has = window-flow-less none owed
      by (Some handle) is owed has =
          let l = some_passes (is_owed_on rules e past) e.link owed in
          link-flow-less handle is l.0 l.1 numbers l.2 (sym (ap (λ o. is_some_and o (has_link_numbers rules flow past)) l.1) ∙ has)
