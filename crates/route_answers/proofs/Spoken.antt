-- The answer to a performative of a client breaks no clause: by its fault, and where it has none by its kind.
use Rattle.std.proofs.Common.{◌≡◌, refl, sym, ap, ◌∙◌, subst, ℕ, ◌≤◌, Bool, true, false, ◌&&◌, ◌||◌, not, List, [], ◌∷◌, length, Option, Some, None, is_some, nat_lt, option_and_then, unwrap_or, if◌then◌else◌, ◌==◌, eq-eqb}
use Rattle.std.specs.Prelude.{is_none}
use Rattle.flow_counts.specs.declared.profile.TheConstants.{CHANNEL_MAX, MAX_LINK_NAME, MIN_MAX_FRAME_SIZE}
use Rattle.amqp_perf.specs.declared.attach.Role.{Role}
use Rattle.amqp_perf.specs.declared.begin.Begin.{Begin}
use Rattle.amqp_perf.specs.declared.condition.ErrorCondition.{ErrorCondition}
use Rattle.amqp_perf.specs.declared.condition.ErrorCondition.TheVariants.{NotAllowed, FramingError, InvalidField, UnattachedHandle}
use Rattle.amqp_perf.specs.declared.flow.Flow.{Flow}
use Rattle.amqp_perf.specs.Meaning.{Meaning, AnOpen, ABegin, AnAttach, AFlow, ATransfer, ADisposition, ADetach, AnEnd, AClose, OpenFields, AttachFields, TransferFields, DetachFields, flag, frame_limit}
use Rattle.amqp_perf.specs.Router.{attach_refused}
use Rattle.capture_form.specs.Rules.{RuleSet}
use Rattle.trace_events.specs.declared.fault.Fault.{Fault}
use Rattle.trace_events.specs.declared.fault.Fault.TheVariants.{Close, End, Refuse, Detach}
use Rattle.trace_events.specs.declared.session.Session.{Session}
use Rattle.trace_events.specs.Words.{is_some_and, or_else}
use Rattle.trace_events.specs.Frame.{Spoken}
use Rattle.trace_events.specs.Event.{Event, Link, is_on_session}
use Rattle.trace_events.specs.Said.{as_open, is_close, is_end, handle_in}
use Rattle.trace_events.specs.Connection.{is_over, was_opened, has_in_open, has_out_frame}
use Rattle.trace_events.specs.Session.{live_session, owes_end}
use Rattle.trace_events.specs.Link.{session_link, owes_detach, attaches_in, attaches_out, detaches_in, IsLiveLink}
use Rattle.trace_events.specs.Fault.{spoken_fault, on_session_fault, open_fault, begin_fault, terminus_fault}
use Rattle.trace_events.proofs.Standing.{live-on}
use Rattle.trace_events.proofs.SessionSteps.{has_unanswered_begin-asked, owes_end-ended}
use Rattle.trace_events.proofs.LinkSteps.{owes_detach-detached, owes_detach-refused}
use Rattle.trace_events.proofs.LinkLives.{live_session-at}
use Rattle.trace_events.proofs.LiveLinks.{live-link}
use Rattle.trace_events.proofs.Undecided.{link_of_session}
use Rattle.trace_events.specs.Written.{spoken_octets, says, written_open, written_begin, written_end, written_detach, written_session_flow}
use Rattle.trace_duties.specs.Answer.{closing, attach_answer, link_flow, flow_on, echo_on, plain_answer, refusal, heard_answer, passed_answer}
use Rattle.route_answers.specs.Writing.{writing}
use Rattle.route_answers.specs.Answering.{IsReady}
use Rattle.route_answers.proofs.Words.{or_left, or_right, both, neither}
use Rattle.route_answers.proofs.Connections.{Speaks, not_finished}
use Rattle.route_answers.proofs.Lengths.{fits_all}
use Rattle.route_answers.proofs.Fine.{IsFine, begin_fine, end_fine, detach_fine, attach_fine}
use Rattle.route_answers.proofs.Closing.{first_fine, end_fits, detach_fits}
use Rattle.route_answers.proofs.Said.{spoken_on, said, unfaulted, alive, found, lawful_input, stands_on, on_channel, opened_still, speaks, lives_on}
use Rattle.route_answers.proofs.Faults.{closes, unless_closed, behind_open, StandsOn, on_session, attach_named, names_link, detached_link, no_attach}
use Rattle.route_answers.proofs.Attaches.{accepted, refused, address_short, accepted_fits, refused_fits}
use Rattle.route_answers.proofs.Echoes.{session_echo, link_echo}
use Rattle.route_answers.proofs.Goes.{Goes, goes_none, goes_one, goes_two, goes_closing}
use Rattle.route_answers.proofs.Begins.{begin_fits}

no_detach : (b : Bool) (given condition : ErrorCondition) → (if b then Some (Close given) else None) ≡ Some (Detach condition) → ⊥
no_detach true given condition is = absurd cc
no_detach false given condition is = absurd cc

no_refusal : (b : Bool) (given condition : ErrorCondition) → (if b then Some (Close given) else None) ≡ Some (Refuse condition) → ⊥
no_refusal true given condition is = absurd cc
no_refusal false given condition is = absurd cc

no_flow : (a b : Bool) (condition : ErrorCondition) → (if a then if b then Some (End UnattachedHandle) else None else None) ≡ Some (Detach condition) → ⊥
no_flow true true condition is = absurd cc
no_flow true false condition is = absurd cc
no_flow false b condition is = absurd cc

abbrev no_link : Session → Option Link
no_link s = None

module _ (rules : RuleSet) (c channel : ℕ) (past : List Event) (octets payload : List ℕ) (ready : IsReady rules past) (opened : was_opened c past ≡ true) where
  abbrev spoken : Meaning → Spoken
  spoken m = spoken_on channel payload m

  abbrev e : Meaning → Event
  e m = said rules c past octets (spoken m)

  abbrev hist : Meaning → List Event
  hist m = e m ∷ past

  abbrev bare : Meaning → Event
  bare m = unfaulted c past octets (spoken m)

  -- ---- on a live session

  module _ (m : Meaning) (s : Session) (live : live_session c channel past ≡ Some s) where
    still : has_in_open c (hist m) ≡ true
    still = opened_still rules c channel past octets payload m s live ready

    module _ (unclosed : is_close m ≡ false) (unended : is_end m ≡ false) where
      talks : Speaks (hist m) c
      talks = speaks rules c channel past octets payload m s live unclosed opened

      lives : live_session c channel (hist m) ≡ Some s
      lives = lives_on rules c channel past octets payload m s live unclosed unended

      -- it is ended
      ended : (condition : Option ErrorCondition) → Goes rules c (written_end channel condition ∷ []) (hist m)
      ended condition =
          goes_one rules c (hist m) (written_end channel condition)
          (end_fine rules c channel (hist m) talks _ (or_left (is_some (live_session c channel (hist m))) (owes_end c channel (hist m)) (ap is_some lives))
          (fits_all c (hist m) (spoken_octets (written_end channel condition)) (end_fits channel condition)))
          (λ over. still)

      -- a handle is detached
      detached : (handle : ℕ) (closed : Bool) (condition : Option ErrorCondition) → is_some (session_link s handle (hist m)) || owes_detach s handle (hist m) ≡ true
          → Goes rules c (written_detach channel handle closed condition ∷ []) (hist m)
      detached handle closed condition may =
          goes_one rules c (hist m) (written_detach channel handle closed condition)
          (detach_fine rules c channel (hist m) talks s lives handle closed condition may
          (fits_all c (hist m) (spoken_octets (written_detach channel handle closed condition)) (detach_fits channel handle closed condition)))
          (λ over. still)

  -- ---- where a fault ends the session

  abbrev found_fault : Meaning → Option Fault
  found_fault m = spoken_fault rules (bare m) (spoken m) m past

  record Staying (m : Meaning) : Type 0 where
    session : Session
    live : live_session c channel past ≡ Some session
    unclosed : is_close m ≡ false
    unended : is_end m ≡ false

  staying : (m : Meaning) → is_close m ≡ false → is_end m ≡ false → (z : Option Fault) → StandsOn rules (bare m) (spoken m) past z → Staying m
  staying m unclosed unended z on = record { session = on.session; live = on.live; unclosed = unclosed; unended = unended }

  some_end : (condition given : ErrorCondition) (b : Bool) → (if b then Some (Close condition) else None) ≡ Some (End given) → ⊥
  some_end condition given true is = absurd cc
  some_end condition given false is = absurd cc

  on_kind : (m : Meaning) (z : Option Fault) → closes z ≡ false
      → (if not (has_in_open c past) then Some (Close NotAllowed) else if nat_lt CHANNEL_MAX channel then Some (Close FramingError) else on_session_fault rules (bare m) (spoken m) past (live_session c channel past)) ≡ z
      → StandsOn rules (bare m) (spoken m) past z
  on_kind m z other is = on_session rules (bare m) (spoken m) past z other is

  where_ended : (m : Meaning) (condition : ErrorCondition) → found_fault m ≡ Some (End condition) → Staying m
  where_ended (AnOpen fields) condition is =
      absurd (some_end InvalidField condition _ (unless_closed (has_in_open c past) NotAllowed (open_fault fields) (Some (End condition)) refl is).1)
  where_ended (AClose error) condition is = absurd cc
  where_ended (ABegin begin) condition is =
      absurd (some_end NotAllowed condition _ (behind_open (has_in_open c past) (nat_lt CHANNEL_MAX channel) (begin_fault (bare (ABegin begin)) begin) (Some (End condition)) refl is).1)
  where_ended (AnAttach fields) condition is = staying (AnAttach fields) refl refl (Some (End condition)) (on_kind (AnAttach fields) (Some (End condition)) refl is)
  where_ended (AFlow flow) condition is = staying (AFlow flow) refl refl (Some (End condition)) (on_kind (AFlow flow) (Some (End condition)) refl is)
  where_ended (ATransfer fields) condition is = staying (ATransfer fields) refl refl (Some (End condition)) (on_kind (ATransfer fields) (Some (End condition)) refl is)
  where_ended (ADisposition fields) condition is = staying (ADisposition fields) refl refl (Some (End condition)) (on_kind (ADisposition fields) (Some (End condition)) refl is)
  where_ended (ADetach fields) condition is = staying (ADetach fields) refl refl (Some (End condition)) (on_kind (ADetach fields) (Some (End condition)) refl is)
  where_ended (AnEnd error) condition is =
      let on = on_kind (AnEnd error) (Some (End condition)) refl is in let never = on.fault in absurd cc

  end_goes : (m : Meaning) (condition : ErrorCondition) → found_fault m ≡ Some (End condition) → Goes rules c (written_end channel (Some condition) ∷ []) (hist m)
  end_goes m condition is = let on = where_ended m condition is in ended m on.session on.live on.unclosed on.unended (Some condition)

  -- ---- where a fault detaches the handle

  -- a transfer of a link
  transfer_goes : (fields : TransferFields) (condition : ErrorCondition) → found_fault (ATransfer fields) ≡ Some (Detach condition)
      → Goes rules c (written_detach channel fields.handle true (Some condition) ∷ []) (hist (ATransfer fields))
  transfer_goes fields condition is =
      let on = on_kind (ATransfer fields) (Some (Detach condition)) refl is in
      let s = on.session in
      let named : is_some (bare (ATransfer fields)).link ≡ true = detached_link rules s (bare (ATransfer fields)) fields payload past condition on.fault in
      let link : is_some (session_link s fields.handle past) ≡ true =
      sym (ap (λ o. is_some (option_and_then (λ (t : Session). session_link t fields.handle past) o)) on.live) ∙ named in
      detached (ATransfer fields) s on.live refl refl fields.handle true (Some condition)
      (or_left (is_some (session_link s fields.handle (hist (ATransfer fields)))) (owes_detach s fields.handle (hist (ATransfer fields))) link)

  on_detach : (m : Meaning) (condition : ErrorCondition) → found_fault m ≡ Some (Detach condition) → Goes rules c (written_detach channel (unwrap_or (handle_in m) 0) true (Some condition) ∷ []) (hist m)
  on_detach (ATransfer fields) condition is = transfer_goes fields condition is
  on_detach (AnOpen fields) condition is =
      absurd (no_detach (nat_lt (frame_limit fields) MIN_MAX_FRAME_SIZE) InvalidField condition (unless_closed (has_in_open c past) NotAllowed (open_fault fields) (Some (Detach condition)) refl is).1)
  on_detach (AClose error) condition is = absurd cc
  on_detach (ABegin begin) condition is =
      absurd (no_detach (is_some begin.remote_channel || is_some (live_session c channel past)) NotAllowed condition (behind_open (has_in_open c past) (nat_lt CHANNEL_MAX channel) (begin_fault (bare (ABegin begin)) begin) (Some (Detach condition)) refl is).1)
  on_detach (AnAttach fields) condition is =
      let on = on_kind (AnAttach fields) (Some (Detach condition)) refl is in
      absurd (no_attach rules fields condition (attach_named rules on.session fields past (Some (Detach condition)) refl refl on.fault).1)
  on_detach (AFlow flow) condition is =
      let on = on_kind (AFlow flow) (Some (Detach condition)) refl is in absurd (no_flow (is_some flow.handle) (is_none (bare (AFlow flow)).link) condition on.fault)
  on_detach (ADisposition fields) condition is =
      let on = on_kind (ADisposition fields) (Some (Detach condition)) refl is in let never = on.fault in absurd cc
  on_detach (ADetach fields) condition is =
      let on = on_kind (ADetach fields) (Some (Detach condition)) refl is in absurd (no_flow true (is_none (bare (ADetach fields)).link) condition on.fault)
  on_detach (AnEnd error) condition is =
      let on = on_kind (AnEnd error) (Some (Detach condition)) refl is in let never = on.fault in absurd cc

  -- ---- where it refuses an attach

  module _ (fields : AttachFields) (heard : (e (AnAttach fields)).is_heard ≡ true) where
    abbrev m : Meaning
    m = AnAttach fields

    attached_here : (s : Session) → live_session c channel past ≡ Some s → attaches_in s fields.handle (e m) ≡ true
    attached_here s live =
        both (fields.handle == fields.handle) (is_on_session s (e m)) (eq-eqb fields.handle fields.handle refl) (stands_on rules c channel past octets payload m s live)

    attach_goes : (role : Role) → fields.role ≡ role → (e m).fault ≡ None → Goes rules c (says channel (AnAttach (attach_answer (e m).number fields role)) ∷ []) (hist m)
    attach_goes role same none =
        let on = on_kind m None refl (found rules c past octets (spoken m) None heard none) in
        let s = on.session in
        let named = attach_named rules s fields past None refl refl on.fault in
        let sound = subst (λ r. terminus_fault rules fields r ≡ None) same named.1 in
        let short = address_short rules (length past) ready.short fields role same sound in
        let ours = attach_answer (e m).number fields role in
        goes_one rules c (hist m) (says channel (AnAttach ours))
        (attach_fine rules c channel (hist m) (talks m s on.live refl refl) s (lives m s on.live refl refl) ours
        (accepted s (e m) past fields refl refl (attached_here s on.live) heard rules role same none sound)
        (fits_all c (hist m) (spoken_octets (says channel (AnAttach ours))) (accepted_fits channel fields named.0 (length past) role short)))
        (λ over. still m s on.live)

    module _ (condition : ErrorCondition) (s : Session) (live : live_session c channel past ≡ Some s) where
      abbrev w : Event
      w = writing rules c (hist m) (says channel (AnAttach (attach_refused fields)))

      abbrev next : List Event
      next = w ∷ hist m

      -- a refused attach opens no link
      unlinked : (o : Option Session) → is_none (or_else (option_and_then no_link o) (option_and_then no_link o)) ≡ true
      unlinked None = refl
      unlinked (Some t) = refl

      refused_there : attaches_out s fields.handle w ≡ true
      refused_there =
          both (fields.handle == fields.handle) (is_on_session s w) (eq-eqb fields.handle fields.handle refl)
          (both (is_some_and (live_session c channel (hist m)) (λ t. t.number == s.number)) (c == s.connection)
          (ap (λ o. is_some_and o (λ (t : Session). t.number == s.number)) (lives m s live refl refl) ∙ eq-eqb s.number s.number refl)
          (eq-eqb c s.connection (sym (live_session-at c channel past s live).0)))

      owed_next : owes_detach s fields.handle next ≡ true
      owed_next = owes_detach-refused s fields.handle w (hist m) refl refl refused_there (unlinked (live_session c channel (hist m)))

      talks_next : Speaks next c
      talks_next =
          let first = talks m s live refl refl in
          record { opened = first.opened; running = first.running; framed = or_left (c == c) (has_out_frame c (hist m)) (eq-eqb c c refl) }

      detach_next : IsFine rules c next (written_detach channel fields.handle true (Some condition))
      detach_next =
          detach_fine rules c channel next talks_next s (lives m s live refl refl) fields.handle true (Some condition)
          (or_right (is_some (session_link s fields.handle next)) (owes_detach s fields.handle next) owed_next)
          (fits_all c next (spoken_octets (written_detach channel fields.handle true (Some condition))) (detach_fits channel fields.handle true (Some condition)))

      refuse_on : length fields.name ≤ MAX_LINK_NAME → (e m).fault ≡ Some (Refuse condition) → Goes rules c (refusal channel condition m) (hist m)
      refuse_on named is =
          goes_two rules c (hist m) (says channel (AnAttach (attach_refused fields))) (written_detach channel fields.handle true (Some condition))
          (attach_fine rules c channel (hist m) (talks m s live refl refl) s (lives m s live refl refl) (attach_refused fields)
          (refused s (e m) past fields refl refl (attached_here s live) heard condition is)
          (fits_all c (hist m) (spoken_octets (says channel (AnAttach (attach_refused fields)))) (refused_fits channel fields named)))
          detach_next
          (λ over. still m s live)

    refuse_attach : (condition : ErrorCondition) → (e m).fault ≡ Some (Refuse condition) → Goes rules c (refusal channel condition m) (hist m)
    refuse_attach condition is =
        let on = on_kind m (Some (Refuse condition)) refl (found rules c past octets (spoken m) (Some (Refuse condition)) heard is) in
        refuse_on condition on.session on.live (attach_named rules on.session fields past (Some (Refuse condition)) refl refl on.fault).0 is

  -- ---- where there is no fault

  open_goes : (fields : OpenFields) → (e (AnOpen fields)).is_heard ≡ true → (e (AnOpen fields)).fault ≡ None → Goes rules c (written_open ∷ []) (hist (AnOpen fields))
  open_goes fields heard none =
      let m = AnOpen fields in
      let running = alive rules c past octets (spoken m) heard in
      let first = unless_closed (has_in_open c past) NotAllowed (open_fault fields) None refl (found rules c past octets (spoken m) None heard none) in
      goes_one rules c (hist m) written_open
      (first_fine rules c (hist m) opened (not_finished c past running) (ready.opens c running ∙ first.0))
      (λ over. or_left (c == c) (has_in_open c past) (eq-eqb c c refl))

  begin_goes : (begin : Begin) → (e (ABegin begin)).is_heard ≡ true → (e (ABegin begin)).fault ≡ None → Goes rules c (written_begin channel ∷ []) (hist (ABegin begin))
  begin_goes begin heard none =
      let m = ABegin begin in
      let running = alive rules c past octets (spoken m) heard in
      let there = (behind_open (has_in_open c past) (nat_lt CHANNEL_MAX channel) (begin_fault (bare m) begin) None refl (found rules c past octets (spoken m) None heard none)).0 in
      goes_one rules c (hist m) (written_begin channel)
      (begin_fine rules c channel (hist m) (record { opened = opened; running = running; framed = ready.opens c running ∙ there })
      (has_unanswered_begin-asked c channel (e m) past refl (both (channel == channel) (c == c) (eq-eqb channel channel refl) (eq-eqb c c refl)) heard (ap is_none none))
      (fits_all c (hist m) (spoken_octets (written_begin channel)) (begin_fits channel)))
      (λ over. there)

  detach_goes : (fields : DetachFields) → (e (ADetach fields)).is_heard ≡ true → (e (ADetach fields)).fault ≡ None
      → Goes rules c (written_detach channel fields.handle (flag fields.closed) None ∷ []) (hist (ADetach fields))
  detach_goes fields heard none =
      let m = ADetach fields in
      let on = on_kind m None refl (found rules c past octets (spoken m) None heard none) in
      let s = on.session in
      let named : is_some (e m).link ≡ true = names_link (bare m) on.fault in
      let here : detaches_in s fields.handle (e m) ≡ true =
      both (fields.handle == fields.handle) (is_on_session s (e m)) (eq-eqb fields.handle fields.handle refl) (stands_on rules c channel past octets payload m s on.live) in
      detached m s on.live refl refl fields.handle (flag fields.closed) None
      (or_right (is_some (session_link s fields.handle (hist m))) (owes_detach s fields.handle (hist m)) (owes_detach-detached s fields.handle (e m) past refl here named))

  end_plain : (error : Option (List ℕ)) → (e (AnEnd error)).is_heard ≡ true → (e (AnEnd error)).fault ≡ None → Goes rules c (written_end channel None ∷ []) (hist (AnEnd error))
  end_plain error heard none =
      let m = AnEnd error in
      let on = on_kind m None refl (found rules c past octets (spoken m) None heard none) in
      let s = on.session in
      let here = on_channel rules c channel past octets payload m s on.live in
      let owed : owes_end c channel (hist m) ≡ true = owes_end-ended c channel (e m) past refl here ∙ or_left (is_some (e m).session) (owes_end c channel past) (ap is_some on.live) in
      goes_one rules c (hist m) (written_end channel None)
      (end_fine rules c channel (hist m) (speaks rules c channel past octets payload m s on.live refl opened) None (or_right (is_some (live_session c channel (hist m))) (owes_end c channel (hist m)) owed)
      (fits_all c (hist m) (spoken_octets (written_end channel None)) (end_fits channel None)))
      (λ over. still m s on.live)

  close_goes : (error : Option (List ℕ)) → (e (AClose error)).is_heard ≡ true → Goes rules c (closing c None (hist (AClose error))) (hist (AClose error))
  close_goes error heard =
      let m = AClose error in
      goes_closing rules c (hist m) opened (not_finished c past (alive rules c past octets (spoken m) heard)) (lawful_input rules c past octets (spoken m) ready.lawful) None

  -- nothing is written where opens are answered already
  quiet : (m : Meaning) → is_some (as_open m) ≡ false → Goes rules c [] (hist m)
  quiet m other = goes_none rules c (hist m) (λ over. quiet_by m other over)
    where
      quiet_by : (m : Meaning) → is_some (as_open m) ≡ false → is_over c (hist m) ≡ false → has_out_frame c (hist m) ≡ has_in_open c (hist m)
      quiet_by m other over =
          ready.opens c (neither (is_close m && (c == c)) (is_over c past) over).1 ∙ sym (ap (λ b. b && (c == c) || has_in_open c past) other)

  -- ---- echoes, of a flow that is heard or passed over

  module _ (flow : Flow) where
    abbrev f : Meaning
    f = AFlow flow

    session_goes : (s : Session) → live_session c channel past ≡ Some s → Goes rules c (written_session_flow s (hist f) ∷ []) (hist f)
    session_goes s live =
        let at = live_session-at c channel past s live in
        goes_one rules c (hist f) (written_session_flow s (hist f))
        (subst (λ n. IsFine rules n (hist f) (written_session_flow s (hist f))) at.0
        (session_echo rules (hist f) s (live-on c channel past s live) (subst (Speaks (hist f)) (sym at.0) (talks f s live refl refl))))
        (λ over. still f s live)

    link_goes : (s : Session) → live_session c channel past ≡ Some s → (handle : ℕ) (l : Link) → session_link s handle past ≡ Some l → Goes rules c (link_flow l (hist f) ∷ []) (hist f)
    link_goes s live handle l is =
        let on = live-on c channel past s live in
        let names : IsLiveLink l past = live-link s handle past l on is in
        let of : l.session.connection ≡ c = ap (λ (t : Session). t.connection) (link_of_session s handle past l is).0 ∙ (live_session-at c channel past s live).0 in
        goes_one rules c (hist f) (link_flow l (hist f))
        (subst (λ n. IsFine rules n (hist f) (link_flow l (hist f))) of (link_echo rules (hist f) l names (subst (Speaks (hist f)) (sym of) (talks f s live refl refl))))
        (λ over. still f s live)

    echoes_of : (s : Session) → live_session c channel past ≡ Some s → (handle : Option ℕ) (l : Option Link) → option_and_then (λ h. session_link s h past) handle ≡ l → (b : Bool)
        → Goes rules c (if b then flow_on s l (hist f) ∷ [] else []) (hist f)
    echoes_of s live handle l is false = quiet f refl
    echoes_of s live handle None is true = session_goes s live
    echoes_of s live None (Some l) is true = absurd cc
    echoes_of s live (Some handle) (Some l) is true = link_goes s live handle l is

    echo_by : (o : Option Session) → live_session c channel past ≡ o
        → Goes rules c (echo_on o (option_and_then (λ (s : Session). option_and_then (λ h. session_link s h past) flow.handle) o) flow (hist f)) (hist f)
    echo_by None is = quiet f refl
    echo_by (Some s) is = echoes_of s is flow.handle (option_and_then (λ h. session_link s h past) flow.handle) refl (flag flow.echo)

    echo_goes : Goes rules c (echo_on (e f).session (e f).link flow (hist f)) (hist f)
    echo_goes = echo_by (live_session c channel past) refl

  -- ---- all of them

  plain_goes : (m : Meaning) → (e m).is_heard ≡ true → (e m).fault ≡ None → Goes rules c (plain_answer rules (e m) channel m (hist m)) (hist m)
  plain_goes (AnOpen fields) heard none = open_goes fields heard none
  plain_goes (ABegin begin) heard none = begin_goes begin heard none
  plain_goes (AnAttach fields) heard none = attach_goes fields heard fields.role refl none
  plain_goes (AFlow flow) heard none = echo_goes flow
  plain_goes (ATransfer fields) heard none = quiet (ATransfer fields) refl
  plain_goes (ADisposition fields) heard none = quiet (ADisposition fields) refl
  plain_goes (ADetach fields) heard none = detach_goes fields heard none
  plain_goes (AnEnd error) heard none = end_plain error heard none
  plain_goes (AClose error) heard none = close_goes error heard

  refusal_goes : (m : Meaning) → (e m).is_heard ≡ true → (condition : ErrorCondition) → (e m).fault ≡ Some (Refuse condition) → Goes rules c (refusal channel condition m) (hist m)
  refusal_goes (AnAttach fields) heard condition is = refuse_attach fields heard condition is
  refusal_goes (AnOpen fields) heard condition is =
      absurd (no_refusal (nat_lt (frame_limit fields) MIN_MAX_FRAME_SIZE) InvalidField condition
      (unless_closed (has_in_open c past) NotAllowed (open_fault fields) (Some (Refuse condition)) refl (found rules c past octets (spoken (AnOpen fields)) (Some (Refuse condition)) heard is)).1)
  refusal_goes (ABegin begin) heard condition is = quiet (ABegin begin) refl
  refusal_goes (AFlow flow) heard condition is = quiet (AFlow flow) refl
  refusal_goes (ATransfer fields) heard condition is = quiet (ATransfer fields) refl
  refusal_goes (ADisposition fields) heard condition is = quiet (ADisposition fields) refl
  refusal_goes (ADetach fields) heard condition is = quiet (ADetach fields) refl
  refusal_goes (AnEnd error) heard condition is = quiet (AnEnd error) refl
  refusal_goes (AClose error) heard condition is = quiet (AClose error) refl

  heard_goes : (m : Meaning) (f : Option Fault) → (e m).is_heard ≡ true → (e m).fault ≡ f → Goes rules c (heard_answer rules (e m) channel m f (hist m)) (hist m)
  heard_goes m None heard is = plain_goes m heard is
  heard_goes m (Some (Close condition)) heard is =
      goes_closing rules c (hist m) opened (not_finished c past (alive rules c past octets (spoken m) heard)) (lawful_input rules c past octets (spoken m) ready.lawful) (Some condition)
  heard_goes m (Some (End condition)) heard is = end_goes m condition (found rules c past octets (spoken m) (Some (End condition)) heard is)
  heard_goes m (Some (Refuse condition)) heard is = refusal_goes m heard condition is
  heard_goes m (Some (Detach condition)) heard is = on_detach m condition (found rules c past octets (spoken m) (Some (Detach condition)) heard is)

  -- an open is passed over only where the connection is over
  open_passed : (fields : OpenFields) → (e (AnOpen fields)).is_heard ≡ false → Goes rules c [] (hist (AnOpen fields))
  open_passed fields unheard = goes_none rules c (hist (AnOpen fields)) (λ over. let never : false ≡ true = sym unheard ∙ ap (λ b. not (b || false)) over in absurd cc)

  passed_goes : (m : Meaning) → (e m).is_heard ≡ false → Goes rules c (passed_answer (e m) m (hist m)) (hist m)
  passed_goes (AFlow flow) unheard = echo_goes flow
  passed_goes (AnOpen fields) unheard = open_passed fields unheard
  passed_goes (ABegin begin) unheard = quiet (ABegin begin) refl
  passed_goes (AnAttach fields) unheard = quiet (AnAttach fields) refl
  passed_goes (ATransfer fields) unheard = quiet (ATransfer fields) refl
  passed_goes (ADisposition fields) unheard = quiet (ADisposition fields) refl
  passed_goes (ADetach fields) unheard = quiet (ADetach fields) refl
  passed_goes (AnEnd error) unheard = quiet (AnEnd error) refl
  passed_goes (AClose error) unheard = quiet (AClose error) refl

  said_by : (m : Meaning) (h : Bool) → (e m).is_heard ≡ h → Goes rules c (if h then heard_answer rules (e m) channel m (e m).fault (hist m) else passed_answer (e m) m (hist m)) (hist m)
  said_by m true heard = heard_goes m (e m).fault heard refl
  said_by m false unheard = passed_goes m unheard

  -- the answer to what is said
  pub said_goes : (m : Meaning) → Goes rules c (if (e m).is_heard then heard_answer rules (e m) channel m (e m).fault (hist m) else passed_answer (e m) m (hist m)) (hist m)
  said_goes m = said_by m (e m).is_heard refl
