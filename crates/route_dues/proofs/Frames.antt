-- Each kind of frame that is called for, and breaks no clause, leaves less to be written.
use Rattle.std.proofs.Common.{◌≡◌, refl, sym, ap, ◌∙◌, ℕ, ◌≤◌, ◌<◌, Bool, true, false, not, ◌&&◌, List, ◌∷◌, length, reverse, Some, None, is_some, option_map, option_and_then, if◌then◌else◌, ◌==◌, eqb-true, eq-eqb, ltb-true, arith}
use Rattle.std.specs.Prelude.{Contains}
use Rattle.std.specs.List.{cons_option}
use Rattle.amqp_perf.specs.declared.attach.Role.{Role}
use Rattle.amqp_perf.specs.declared.attach.Role.TheVariants.{Sender, Receiver}
use Rattle.amqp_perf.specs.Meaning.{Meaning, ATransfer, ADisposition, TransferFields, DispositionFields, flag}
use Rattle.pairing_cert.specs.declared.note.Note.{Note}
use Rattle.capture_form.specs.Rules.{RuleSet}
use Rattle.flow_counts.specs.Credit.{LinkEvent, Begun}
use Rattle.flow_counts.specs.GivenCredit as given
use Rattle.trace_events.specs.Words.{is_some_and, is_number}
use Rattle.trace_events.specs.Event.{Event, Link, Incoming, Outgoing, is_on_session, is_on_link}
use Rattle.trace_events.specs.declared.session.Session.{Session}
use Rattle.trace_events.specs.Session.{live_session}
use Rattle.trace_events.specs.Link.{is_producer, is_consumer, is_sender, is_receiver, links, session_link, own_link}
use Rattle.trace_events.specs.Window.{session_window}
use Rattle.trace_events.specs.Credit.{given_credit, link_events, begins_outgoing}
use Rattle.trace_events.specs.Incoming.{incoming_at, incoming_deliveries, is_told, is_complete, is_settled}
use Rattle.trace_events.specs.Link as links_of
use Rattle.trace_events.specs.Outgoing.{outgoing_deliveries, is_settled_by_router, is_settled_by_consumer, decision, noted}
use Rattle.trace_events.specs.Settling.{is_to_settle, is_closed, to_settle}
use Rattle.trace_events.specs.History.{settled_by_role}
use Rattle.trace_events.proofs.Along.{and_first, and_last, some_passes, and_then_some}
use Rattle.trace_events.proofs.Judged.{AreJudged}
use Rattle.trace_events.proofs.LinkLives.{live_session-at}
use Rattle.trace_events.proofs.Links as known_links
use Rattle.trace_events.specs.declared.clause.Clause.{Clause}
use Rattle.trace_events.specs.declared.clause.Clause.TheVariants.{L4, L11, L12}
use Rattle.trace_events.specs.Clauses.{spoken_meets, disposition_meets}
use Rattle.trace_events.specs.DispositionClause.{settles_one, is_outcome, is_outcome_of}
use Rattle.trace_events.specs.TransferClause.{has_window}
use Rattle.trace_events.specs.Outcome.{may_be_told}
use Rattle.trace_events.proofs.WaitingQueue.{find_has, in_reverse}
use Rattle.route_dues.specs.Work.{sendable, lacking, drainable, grantable, untold, unsettled, work_left}
use Rattle.route_answers.specs.Writing.{frame_of}
use Rattle.route_dues.specs.Writing.{spoken_with, writing}
use Rattle.route_dues.proofs.OwnCounts.{IsOurCredit}
use Rattle.route_dues.proofs.OwnEvents.{IsOwn, on-known, sendable-most, sendable-less, lacking-most, drainable-most, grantable-most, untold-most, untold-less, unsettled-most, unsettled-kept, unsettled-less}
use Rattle.route_dues.proofs.Sums.{no_more}
use Rattle.route_dues.proofs.Parts.{both, not_true, some_is, map_some, found_passes, is_same_number, no_both, none_opened, by_transfer, by_untold, by_unsettled}
use Rattle.route_dues.proofs.Places.{session-there, link-known, no_handle}

module _ (rules : RuleSet) (past : List Event) (are : AreJudged rules past) (c : ℕ) (note : Note) (channel : ℕ) (payload : List ℕ) where
  abbrev said : Meaning → Event
  said m = writing rules past c note (spoken_with channel m payload)

  abbrev Meets : Meaning → Type 0
  Meets m = (clause : Clause) → (let spoken = spoken_with channel m payload in spoken_meets rules (said m) (frame_of spoken) past spoken clause ≡ true)

  -- ---- a transfer

  module _ (fields : TransferFields) (meets : Meets (ATransfer fields)) where
    abbrev sent : Event
    sent = said (ATransfer fields)

    sent-link : (l : Link) → sent.link ≡ Some l → known_links.IsKnown past l
    sent-link l is = link-known rules past are c channel (Some fields.handle) l is

    begun_ours : (b : Bool) → IsOurCredit (if b then Some Begun else None)
    begun_ours true = tt
    begun_ours false = tt

    sent-own : IsOwn sent
    sent-own = record {
      no_session = refl;
      no_link = none_opened sent.link (length past) (λ l is. (sent-link l is).before);
      no_incoming = refl;
      windows = tt;
      credits = begun_ours (begins_outgoing sent);
    }

    within : is_some_and sent.link is_consumer && is_some_and sent.session (has_window past) ≡ true
    within = and_first _ (not (flag fields.resume)) (and_first _ (not (flag fields.aborted)) (meets L4))

    sent-given : (l : Link) → Contains (links past) l → is_producer l ≡ true → is_on_link l sent ≡ true → given_credit l past ≤ given_credit l (sent ∷ past)
    sent-given l there produces on =
        let m = some_passes is_consumer sent.link (and_first (is_some_and sent.link is_consumer) _ within) in
        let one = on-known rules past are sent m.0 m.1 (sent-link m.0 m.1) l there on in
        no_both l.role (ap is_consumer (sym one) ∙ m.2) produces

    pub transfer-less : work_left (sent ∷ past) < work_left past
    transfer-less =
        let s = some_passes (has_window past) sent.session (and_last (is_some_and sent.link is_consumer) _ within) in
        let at = live_session-at c channel past s.0 s.1 in
        let on : is_on_session s.0 sent ≡ true =
        both (is_some_and sent.session (λ t. t.number == s.0.number)) (c == s.0.connection)
        (ap (λ o. is_some_and o (λ (t : Session). t.number == s.0.number)) s.1 ∙ eq-eqb s.0.number s.0.number refl) (eq-eqb c s.0.connection (sym at.0)) in
        let has : 1 ≤ session_window s.0 past = let lt = ltb-true 0 (session_window s.0 past) s.2 in omega (arith, lt) in
        by_transfer (sendable past) (sendable (sent ∷ past)) (lacking past) (lacking (sent ∷ past)) (drainable past) (drainable (sent ∷ past)) (grantable past) (grantable (sent ∷ past))
        (untold past) (untold (sent ∷ past)) (unsettled past) (unsettled (sent ∷ past))
        (sendable-less sent past sent-own refl s.0 (session-there rules past are c channel s.0 s.1) on has)
        (lacking-most sent past sent-own) (drainable-most sent past sent-own) (grantable-most sent past sent-own sent-given)
        (untold-most sent past sent-own) (unsettled-most sent past sent-own)

  -- ---- a disposition

  module _ (fields : DispositionFields) (meets : Meets (ADisposition fields)) where
    abbrev told : Event
    told = said (ADisposition fields)

    told-own : IsOwn told
    told-own = record {
      no_session = refl;
      no_link = none_opened told.link (length past) (λ l is. no_handle rules past are c channel None l refl is);
      no_incoming = refl;
      windows = tt;
      credits = tt;
    }

    none_given : (own : List LinkEvent) (b : Bool) → given.given_credit own ≤ given.given_credit (cons_option (if b then None else None) own)
    none_given own true = no_more (given.given_credit own)
    none_given own false = no_more (given.given_credit own)

    told-given : (l : Link) → Contains (links past) l → is_producer l ≡ true → is_on_link l told ≡ true → given_credit l past ≤ given_credit l (told ∷ past)
    told-given l there produces on = none_given (link_events l past) (is_on_link l told)

    -- an outcome
    outcome-less : is_outcome rules told fields past ≡ true → work_left (told ∷ past) < work_left past
    outcome-less outcome =
        let d = some_passes (is_outcome_of rules told fields past) (option_and_then (λ n. incoming_at n past) told.told) (and_last (settles_one fields) _ outcome) in
        let n = and_then_some (λ n. incoming_at n past) told.told d.0 d.1 in
        let numbered : (d.0.number == n.0) ≡ true = found_passes (λ (x : Incoming). x.number == n.0) (incoming_deliveries past) d.0 n.2 in
        let tells : is_number told.told d.0.number ≡ true = is_same_number told.told d.0.number (n.1 ∙ ap Some (sym (eqb-true d.0.number n.0 numbered))) in
        let may = and_first (may_be_told d.0 past) _ d.2 in
        let untold_is = not_true (is_told d.0 past) (and_last (is_complete d.0 past && not (is_settled d.0 past)) _ (and_first _ (links_of.is_live past d.0.link) may)) in
        by_untold (sendable past) (sendable (told ∷ past)) (lacking past) (lacking (told ∷ past)) (drainable past) (drainable (told ∷ past)) (grantable past) (grantable (told ∷ past))
        (untold past) (untold (told ∷ past)) (unsettled past) (unsettled (told ∷ past))
        (sendable-most told past told-own) (lacking-most told past told-own) (drainable-most told past told-own) (grantable-most told past told-own told-given)
        (untold-less told past told-own d.0 (find_has (λ (x : Incoming). x.number == n.0) (incoming_deliveries past) d.0 n.2) tells untold_is)
        (unsettled-kept told past told-own refl)

    -- a settling
    settling-less : fields.role ≡ Sender → is_some told.settled ≡ true → work_left (told ∷ past) < work_left past
    settling-less sends settles =
        let n = some_is told.settled settles in
        let s = and_then_some (λ s. settled_by_role s fields.first fields.role past) (live_session c channel past) n.0 n.1 in
        let named : option_map (λ (j : Outgoing). j.number) (to_settle s.0 fields.first past) ≡ Some n.0 = sym (ap (λ r. settled_by_role s.0 fields.first r past) sends) ∙ s.2 in
        let j = map_some (λ (j : Outgoing). j.number) (to_settle s.0 fields.first past) n.0 named in
        let test = λ (j : Outgoing). j.link.session.number == s.0.number && is_number j.id fields.first && is_to_settle past j in
        let passes = and_last (j.0.link.session.number == s.0.number && is_number j.0.id fields.first) (is_to_settle past j.0) (found_passes test (reverse (outgoing_deliveries past)) j.0 j.1) in
        let there = in_reverse (outgoing_deliveries past) j.0 (find_has test (reverse (outgoing_deliveries past)) j.0 j.1) in
        let open' = not_true (is_settled_by_router j.0 past)
        (and_last (links_of.is_live past j.0.link && is_some (decision j.0 past) && not (is_settled_by_consumer j.0 past)) _ (and_first _ (is_some_and (noted j.0.note past) (is_closed past)) passes)) in
        by_unsettled (sendable past) (sendable (told ∷ past)) (lacking past) (lacking (told ∷ past)) (drainable past) (drainable (told ∷ past)) (grantable past) (grantable (told ∷ past))
        (untold past) (untold (told ∷ past)) (unsettled past) (unsettled (told ∷ past))
        (sendable-most told past told-own) (lacking-most told past told-own) (drainable-most told past told-own) (grantable-most told past told-own told-given)
        (untold-most told past told-own)
        (unsettled-less told past told-own refl j.0 there (is_same_number told.settled j.0.number (n.1 ∙ ap Some (sym j.2))) open')

    pub disposition-less : work_left (told ∷ past) < work_left past
    disposition-less = by fields.role refl
      where
        by : (r : Role) → fields.role ≡ r → work_left (told ∷ past) < work_left past
        by Receiver is = outcome-less (sym (ap (λ r. disposition_meets rules told fields past r L11) is) ∙ meets L11)
        by Sender is = settling-less is (and_last (settles_one fields) _ (sym (ap (λ r. disposition_meets rules told fields past r L12) is) ∙ meets L12))
