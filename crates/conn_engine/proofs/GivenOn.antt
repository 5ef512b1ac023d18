-- What was given, behind a call more.
use Rattle.std.proofs.Common.{◌≡◌, ◌≢◌, ℕ, ◌+◌, ◌⊎◌, Bool, true, false, ◌&&◌, not, is_some, is_none, length, List, [], ◌∷◌, ◌++◌, take, drop, refl, sym, ap, ◌∙◌, subst, inl, inr, append_assoc, Option, Some, None, Result, Ok, Err, nat_le, if◌then◌else◌}
use Rattle.std.specs.List.{concat}
use Rattle.std.proofs.lemmas.List.{append-nil, take-append-drop}
use Rattle.capture_form.specs.declared.records.What.{What}
use Rattle.capture_form.specs.declared.records.What.TheVariants as happened
use Rattle.stream_reading.specs.declared.step.Event.{Event}
use Rattle.stream_reading.specs.declared.step.Phase.{Phase}
use Rattle.stream_reading.specs.declared.step.Phase.TheVariants.{FirstHeader, Exchange, SecondHeader, Open}
use Rattle.stream_reading.specs.declared.step.Event.TheVariants.{SaslHeader, AnonymousInit, AmqpHeader, AmqpFrame}
use Rattle.stream_reading.specs.declared.step.StreamFault.TheVariants as stops
use Rattle.stream_reading.specs.Stream.{IsRefused, MayStand, phase_after, answer_to}
use Rattle.stream_reading.specs.Steps.{Ahead, IsAfter, MayFollow, StepText, answers_to}
use Rattle.conn_engine.specs.declared.fault.EngineFault.{EngineFault}
use Rattle.conn_engine.specs.declared.fault.EngineFault.TheVariants as faults
use Rattle.conn_engine.specs.declared.engine_state.Loss.{Loss}
use Rattle.conn_engine.specs.declared.engine_state.Loss.TheVariants.{Untold, Told, Refused}
use Rattle.conn_engine.specs.declared.engine_state.EngineState.{EngineState}
use Rattle.conn_engine.specs.declared.engine_state.EngineState.TheVariants.{Reading, Closing, Over}
use Rattle.conn_engine.specs.declared.frame_ends.FrameEnds.{FrameEnds}
use Rattle.conn_engine.specs.Closing.{is_over, over_of, place_given}
use Rattle.conn_engine.specs.Lacing.{IsPut}
use Rattle.conn_engine.specs.FrameEnds.{frame_ends_after, frame_ends_left}
use Rattle.conn_engine.specs.Silence.{empty_frame, is_asked, patience, silence_given}
use Rattle.conn_engine.specs.Serving.{Connection, Extent, Whole, Part, HasGiven, SaysAt, SaysLast, and_unkept}
use Rattle.conn_engine.specs.Feeding.{AfterPiece, AfterSteps, FedAt, ItemRefused, StopsFor, FeedState, Went, and_fed, and_piece, extent_after, place_after, place_at_fault, feed_state_of}
use Rattle.conn_engine.specs.Taking.{AfterLoss, Refilled, is_loss_due}
use Rattle.conn_engine.specs.Ticking.{AfterTick, and_tick, is_given, patience_of, ticked}
use Rattle.conn_engine.proofs.Going.{answers_all}
use Rattle.conn_engine.proofs.FedOn.{piece_unkept, steps_on}
use Rattle.conn_engine.proofs.LacedOn.{put_asked, put_empty, put_frames, put_left, unlaced}
use Rattle.conn_engine.proofs.TimeOuts.{asks_on}

-- ---- where frames are due, nothing else is answered

pub open_stays : (phase next : Phase) (steps : List StepText) → phase ≡ Open → MayFollow phase steps next → next ≡ Open
open_stays phase next [] is follow = follow ∙ is
open_stays phase next (step ∷ steps) is follow = open_stays _ next steps (by step.event (subst (λ (p : Phase). MayStand p step.event step.octets) is follow.0)) follow.1
  where
    by : (event : Event) → MayStand Open event step.octets → phase_after event ≡ Open
    by SaslHeader stands = absurd stands
    by AnonymousInit stands = absurd stands
    by AmqpHeader stands = absurd stands
    by AmqpFrame stands = refl

frames_unanswered : (phase next : Phase) (steps : List StepText) → phase ≡ Open → MayFollow phase steps next → answers_to steps ≡ []
frames_unanswered phase next [] is follow = refl
frames_unanswered phase next (step ∷ steps) is follow =
    by step.event (subst (λ (p : Phase). MayStand p step.event step.octets) is follow.0) follow.1 (frames_unanswered Open next steps refl)
  where
    by : (event : Event) → MayStand Open event step.octets → MayFollow (phase_after event) steps next → (MayFollow Open steps next → answers_to steps ≡ []) → answer_to event ++ answers_to steps ≡ []
    by SaslHeader stands behind others = absurd stands
    by AnonymousInit stands behind others = absurd stands
    by AmqpHeader stands behind others = absurd stands
    by AmqpFrame stands behind others = others behind

item_unsaid : (ahead : Ahead) (said : List ℕ) → ahead.phase ≡ Open → ItemRefused ahead said → said ≡ []
item_unsaid ahead said open_phase (inl is) = is.0
item_unsaid ahead said open_phase (inr is) = absurd (subst (λ (p : Phase). MayStand p AmqpHeader is.0) open_phase is.2)

pub stop_unsaid : (fault : EngineFault) (ahead : Ahead) (last : List What) (said : List ℕ) → ahead.phase ≡ Open → StopsFor fault ahead last said → said ≡ []
stop_unsaid faults.HeaderRefused ahead last said open_phase is = absurd (subst (λ (p : Phase). IsRefused p ahead.octets stops.HeaderRefused) open_phase is.0)
stop_unsaid faults.Frame ahead last said open_phase is = is.2
stop_unsaid (faults.Port fault) ahead last said open_phase is = item_unsaid ahead said open_phase is.1
stop_unsaid faults.Over ahead last said open_phase is = absurd is
stop_unsaid faults.SaslRefused ahead last said open_phase is = absurd (subst (λ (p : Phase). IsRefused p ahead.octets stops.SaslRefused) open_phase is.0)
stop_unsaid faults.Memory ahead last said open_phase (none, inl is) = is
stop_unsaid faults.Memory ahead last said open_phase (none, inr is) = item_unsaid ahead said open_phase is

-- ---- the octets

-- before any frame: more is said behind what was said
said_behind : (given waiting answers unsaid more said frames : List ℕ) → unsaid ≡ [] → frames ≡ [] → given ++ waiting ≡ (answers ++ unsaid) ++ frames
    → given ++ (waiting ++ (more ++ said)) ≡ ((answers ++ more) ++ said) ++ frames
said_behind given waiting answers unsaid more said frames none empty was =
    sym (append_assoc given waiting (more ++ said)) ∙ ap (λ (t : List ℕ). t ++ (more ++ said)) (was ∙ ap (λ (t : List ℕ). (answers ++ t) ++ frames) none ∙ ap (λ (t : List ℕ). (answers ++ []) ++ t) empty)
    ∙ regrouped answers more said ∙ ap (λ (t : List ℕ). ((answers ++ more) ++ said) ++ t) (sym empty)
  where
    regrouped : (a b c : List ℕ) → ((a ++ []) ++ []) ++ (b ++ c) ≡ ((a ++ b) ++ c) ++ []
    regrouped a b c = simp (append_assoc, append-nil)

-- behind the header nothing more is said
unsaid_behind : (given waiting answers unsaid more said frames : List ℕ) → unsaid ≡ [] → more ≡ [] → said ≡ [] → given ++ waiting ≡ (answers ++ unsaid) ++ frames
    → given ++ (waiting ++ (more ++ said)) ≡ ((answers ++ more) ++ said) ++ frames
unsaid_behind given waiting answers unsaid more said frames none no_more no_said was =
    ap (λ (t : List ℕ). given ++ (waiting ++ (t ++ said))) no_more ∙ ap (λ (t : List ℕ). given ++ (waiting ++ t)) no_said ∙ ap (λ (t : List ℕ). given ++ t) (append-nil waiting) ∙ was
    ∙ ap (λ (t : List ℕ). (answers ++ t) ++ frames) none ∙ ap (λ (t : List ℕ). t ++ frames) (ap (λ (t : List ℕ). t ++ []) (sym (append-nil answers) ∙ ap (λ (t : List ℕ). answers ++ t) (sym no_more)) ∙ ap (λ (t : List ℕ). (answers ++ more) ++ t) (sym no_said))

pub octets_on : (given waiting unsaid said : List ℕ) (steps more : List StepText) (frames : List (List ℕ)) (put : List ℕ) (phase next : Phase) → unsaid ≡ [] → MayFollow phase more next → (phase ≡ Open → said ≡ [])
    → (phase ≡ Open) ⊎ (frames ≡ []) → (frames ≡ [] → put ≡ []) → given ++ waiting ≡ (answers_to steps ++ unsaid) ++ put
    → given ++ (waiting ++ (answers_to more ++ said)) ≡ (answers_to (steps ++ more) ++ said) ++ put
octets_on given waiting unsaid said steps more frames put phase next none follow silent (inl is) unput was =
    unsaid_behind given waiting (answers_to steps) unsaid (answers_to more) said put none (frames_unanswered phase next more is follow) (silent is) was
    ∙ ap (λ (t : List ℕ). (t ++ said) ++ put) (sym (answers_all steps more))
octets_on given waiting unsaid said steps more frames put phase next none follow silent (inr is) unput was =
    said_behind given waiting (answers_to steps) unsaid (answers_to more) said put none (unput is) was
    ∙ ap (λ (t : List ℕ). (t ++ said) ++ put) (sym (answers_all steps more))

pub behind_on : (phase next : Phase) (steps : List StepText) (frames frames_then : List (List ℕ)) → MayFollow phase steps next → frames_then ≡ frames → (phase ≡ Open) ⊎ (frames ≡ []) → (next ≡ Open) ⊎ (frames_then ≡ [])
behind_on phase next steps frames frames_then follow same (inl is) = inl (open_stays phase next steps is follow)
behind_on phase next steps frames frames_then follow same (inr is) = inr (same ∙ is)

-- ---- what is said where an engine is

-- of what the router did not take
item_last : (ahead : Ahead) (unkept said : List ℕ) → ItemRefused ahead said → SaysLast ahead unkept said
item_last ahead unkept said (inl is) = inl is
item_last ahead unkept said (inr is) = inr (inr (inr is))

-- in whole, or in part
over_says : (extent : Extent) (loss : Loss) (ahead : Ahead) (unkept said : List ℕ) → SaysLast ahead unkept said → SaysAt extent (Over loss) ahead unkept said
over_says Whole loss ahead unkept said is = is
over_says Part loss ahead unkept said is = inr is

fault_says : (extent : Extent) (phase : Phase) (octets said : List ℕ) → IsRefused phase octets stops.BadFrame → said ≡ [] → SaysAt extent (place_at_fault phase) (record { phase = phase; octets = octets }) [] said
fault_says extent Open octets said is none = (none, refl)
fault_says extent FirstHeader octets said is none = absurd is
fault_says extent Exchange octets said is none = over_says extent Untold (record { phase = Exchange; octets = octets }) [] said (inr (inr (inl (stops.BadFrame, none, is))))
fault_says extent SecondHeader octets said is none = absurd is

stop_says : (extent : Extent) (fault : EngineFault) (ahead : Ahead) (last : List What) (said : List ℕ) → StopsFor fault ahead last said
    → SaysAt (extent_after extent (Err fault)) (place_after (Err fault) ahead.phase) ahead [] said
stop_says extent faults.HeaderRefused ahead last said is = over_says extent Untold ahead [] said (inr (inr (inl (stops.HeaderRefused, is.2, is.0))))
stop_says extent faults.Frame ahead last said is = fault_says extent ahead.phase ahead.octets said is.0 is.2
stop_says extent (faults.Port fault) ahead last said is = over_says extent Untold ahead [] said (item_last ahead [] said is.1)
stop_says extent faults.Over ahead last said is = absurd is
stop_says extent faults.SaslRefused ahead last said is = over_says extent Untold ahead [] said (inr (inr (inl (stops.SaslRefused, is.2, is.0))))
stop_says extent faults.Memory ahead last said (none, inl is) = inl is
stop_says extent faults.Memory ahead last said (none, inr is) = inr (item_last ahead [] said is)

-- ---- a feed

-- what was put is the same where frames and their ends are
pub put_on : (before after : Connection) (ticks : ℕ) (put : List ℕ) → after.frames ≡ before.frames → after.frame_ends ≡ before.frame_ends → (is_asked before.time_out ≡ true → is_asked after.time_out ≡ true)
    → IsPut before.frames before.frame_ends (is_asked before.time_out) ticks put → IsPut after.frames after.frame_ends (is_asked after.time_out) ticks put
put_on before after ticks put frames frame_ends still is =
    subst (λ (f : List (List ℕ)). IsPut f after.frame_ends (is_asked after.time_out) ticks put) (sym frames)
    (subst (λ (m : FrameEnds). IsPut before.frames m (is_asked after.time_out) ticks put) (sym frame_ends) (put_asked before.frames before.frame_ends (is_asked before.time_out) (is_asked after.time_out) ticks put still is))

given_on : (extent extent_then : Extent) (before after : Connection) (fed given piece : List ℕ) (last : List What) (said : List ℕ) (ticks : ℕ) (h : HasGiven extent before fed given ticks) → h.said ≡ [] → h.unkept ≡ []
    → after.frames ≡ before.frames → after.frame_ends ≡ before.frame_ends → Went (and_piece (feed_state_of before) piece) (feed_state_of after) last said → (after.ahead.phase ≡ Open → said ≡ []) → SaysAt extent_then after.place after.ahead [] said
    → HasGiven extent_then after (fed ++ piece) given ticks
given_on extent extent_then before after fed given piece last said ticks h none kept frames frame_ends went silent says = record {
  steps = h.steps ++ went.steps;
  unkept = [];
  said = said;
  put = h.put;
  follows = steps_on fed h.unkept piece h.steps went.steps before.ahead after.ahead kept h.follows went.parts went.follow;
  octets =
      ap (λ (t : List ℕ). given ++ t) went.waiting
      ∙ octets_on given before.waiting h.said said h.steps went.steps before.frames h.put before.ahead.phase after.ahead.phase none went.follow
      (λ is. silent (open_stays before.ahead.phase after.ahead.phase went.steps is went.follow)) h.behind (λ is. unlaced before.frames ticks h.put is h.is_put.laced) h.octets;
  is_put = put_on before after ticks h.put frames frame_ends (asks_on before.time_out after.time_out went.steps went.time_out) h.is_put;
  says = says;
  behind = behind_on before.ahead.phase after.ahead.phase went.steps before.frames after.frames went.follow frames h.behind;
}

given_stopped : (extent : Extent) (before after : Connection) (fed given piece : List ℕ) (fault : EngineFault) (last : List What) (said : List ℕ) (ticks : ℕ) (h : HasGiven extent before fed given ticks) → h.said ≡ [] → h.unkept ≡ []
    → after.frames ≡ before.frames → after.frame_ends ≡ before.frame_ends → Went (and_piece (feed_state_of before) piece) (feed_state_of after) last said → StopsFor fault after.ahead last said → after.place ≡ place_after (Err fault) after.ahead.phase
    → HasGiven (extent_after extent (Err fault)) after (fed ++ piece) given ticks
given_stopped extent before after fed given piece fault last said ticks h none kept frames frame_ends went stops place =
    given_on extent (extent_after extent (Err fault)) before after fed given piece last said ticks h none kept frames frame_ends went (λ is. stop_unsaid fault after.ahead last said is stops)
    (subst (λ (p : EngineState). SaysAt (extent_after extent (Err fault)) p after.ahead [] said) (sym place) (stop_says extent fault after.ahead last said stops))

given_steps : (extent : Extent) (before after : Connection) (fed given piece : List ℕ) (result : Result Unit EngineFault) (ticks : ℕ) (h : HasGiven extent before fed given ticks) → h.said ≡ [] → h.unkept ≡ []
    → after.frames ≡ before.frames → after.frame_ends ≡ before.frame_ends → AfterSteps (and_piece (feed_state_of before) piece) (feed_state_of after) result → after.place ≡ place_after result after.ahead.phase
    → HasGiven (extent_after extent result) after (and_fed result fed piece) given ticks
given_steps extent before after fed given piece (Ok done) ticks h none kept frames frame_ends did place =
    given_on extent extent before after fed given piece [] [] ticks h none kept frames frame_ends did.0 (λ is. refl) (subst (λ (p : EngineState). SaysAt extent p after.ahead [] []) (sym place) (refl, refl, did.1))
given_steps extent before after fed given piece (Err faults.HeaderRefused) ticks h none kept frames frame_ends did place = given_stopped extent before after fed given piece faults.HeaderRefused did.0 did.1 ticks h none kept frames frame_ends did.2 did.3 place
given_steps extent before after fed given piece (Err faults.Frame) ticks h none kept frames frame_ends did place = given_stopped extent before after fed given piece faults.Frame did.0 did.1 ticks h none kept frames frame_ends did.2 did.3 place
given_steps extent before after fed given piece (Err (faults.Port fault)) ticks h none kept frames frame_ends did place = given_stopped extent before after fed given piece (faults.Port fault) did.0 did.1 ticks h none kept frames frame_ends did.2 did.3 place
given_steps extent before after fed given piece (Err faults.Over) ticks h none kept frames frame_ends did place = absurd did.3
given_steps extent before after fed given piece (Err faults.SaslRefused) ticks h none kept frames frame_ends did place = given_stopped extent before after fed given piece faults.SaslRefused did.0 did.1 ticks h none kept frames frame_ends did.2 did.3 place
given_steps extent before after fed given piece (Err faults.Memory) ticks h none kept frames frame_ends did place = given_stopped extent before after fed given piece faults.Memory did.0 did.1 ticks h none kept frames frame_ends did.2 did.3 place

-- an engine whose octets ahead, those that wait, and frames are the same
pub given_elsewhere : (extent extent_then : Extent) (before after : Connection) (fed fed_then given unkept : List ℕ) (ticks : ℕ) (h : HasGiven extent before fed given ticks) → after.ahead ≡ before.ahead → after.waiting ≡ before.waiting
    → after.frames ≡ before.frames → after.frame_ends ≡ before.frame_ends → after.time_out ≡ before.time_out → IsAfter fed_then h.steps (and_unkept before.ahead unkept) → SaysAt extent_then after.place before.ahead unkept h.said → HasGiven extent_then after fed_then given ticks
given_elsewhere extent extent_then before after fed fed_then given unkept ticks h ahead waiting frames frame_ends time_out follows says = record {
  steps = h.steps;
  unkept = unkept;
  said = h.said;
  put = h.put;
  follows = subst (λ (a : Ahead). IsAfter fed_then h.steps (and_unkept a unkept)) (sym ahead) follows;
  octets = ap (λ (t : List ℕ). given ++ t) waiting ∙ h.octets;
  is_put = put_on before after ticks h.put frames frame_ends (λ is. ap is_asked time_out ∙ is) h.is_put;
  says = subst (λ (a : Ahead). SaysAt extent_then after.place a unkept h.said) (sym ahead) says;
  behind = behind_on before.ahead.phase after.ahead.phase [] before.frames after.frames (ap (λ (a : Ahead). a.phase) ahead) frames h.behind;
}

given_piece : (extent : Extent) (before after : Connection) (fed given piece : List ℕ) (result : Result Unit EngineFault) (ticks : ℕ) (h : HasGiven extent before fed given ticks) → h.said ≡ [] → h.unkept ≡ []
    → after.frames ≡ before.frames → after.frame_ends ≡ before.frame_ends → AfterPiece (feed_state_of before) (feed_state_of after) piece result → after.place ≡ place_after result after.ahead.phase
    → HasGiven (extent_after extent result) after (and_fed result fed piece) given ticks
given_piece extent before after fed given piece result ticks h none kept frames frame_ends (inl did) place = given_steps extent before after fed given piece result ticks h none kept frames frame_ends did place
given_piece extent before after fed given piece result ticks h none kept frames frame_ends (inr (is, same)) place =
    let over : after.place ≡ Over Untold = place ∙ ap (λ (r : Result Unit EngineFault). place_after r after.ahead.phase) is in
    subst (λ (r : Result Unit EngineFault). HasGiven (extent_after extent r) after (and_fed r fed piece) given ticks) (sym is)
    (given_elsewhere extent Part before after fed (fed ++ piece) given (h.unkept ++ piece) ticks h (ap (λ (t : FeedState). t.ahead) same) (ap (λ (t : FeedState). t.waiting) same) frames frame_ends (ap (λ (t : FeedState). t.time_out) same)
    (piece_unkept fed h.unkept piece h.steps before.ahead h.follows)
    (subst (λ (p : EngineState). SaysAt Part p before.ahead (h.unkept ++ piece) h.said) (sym over) (inl none)))

given_closing : (extent : Extent) (before : Connection) (fed given piece : List ℕ) (ticks : ℕ) (h : HasGiven extent before fed given ticks) → before.place ≡ Closing → HasGiven extent before (fed ++ piece) given ticks
given_closing extent before fed given piece ticks h place =
    given_elsewhere extent extent before before fed (fed ++ piece) given (h.unkept ++ piece) ticks h refl refl refl refl refl (piece_unkept fed h.unkept piece h.steps before.ahead h.follows)
    (subst (λ (p : EngineState). SaysAt extent p before.ahead (h.unkept ++ piece) h.said) (sym place) (subst (λ (p : EngineState). SaysAt extent p before.ahead h.unkept h.said) place h.says))

pub given_at : (place : EngineState) (extent : Extent) (before after : Connection) (fed given piece : List ℕ) (ticks : ℕ) (result : Result Unit EngineFault) → before.place ≡ place → after.frames ≡ before.frames → after.frame_ends ≡ before.frame_ends
    → FedAt place before after piece result → HasGiven extent before fed given ticks → HasGiven (extent_after extent result) after (and_fed result fed piece) given ticks
given_at Reading extent before after fed given piece ticks result at frames frame_ends did h =
    let says = subst (λ (p : EngineState). SaysAt extent p before.ahead h.unkept h.said) at h.says in
    given_piece extent before after fed given piece result ticks h says.0 says.1 frames frame_ends did.0 did.1
given_at Closing extent before after fed given piece ticks result at frames frame_ends did h =
    subst (λ (r : Result Unit EngineFault). HasGiven (extent_after extent r) after (and_fed r fed piece) given ticks) (sym did.0)
    (subst (λ (c : Connection). HasGiven extent c (fed ++ piece) given ticks) (sym did.1) (given_closing extent before fed given piece ticks h at))
given_at (Over loss) extent before after fed given piece ticks result at frames frame_ends did h =
    subst (λ (r : Result Unit EngineFault). HasGiven (extent_after extent r) after (and_fed r fed piece) given ticks) (sym did.0) (subst (λ (c : Connection). HasGiven extent c fed given ticks) (sym did.1) h)

-- ---- the other calls

-- an engine that goes on no more, whatever the router was told
says_over : (extent : Extent) (place : EngineState) (loss : Loss) (ahead : Ahead) (unkept said : List ℕ) → SaysAt extent place ahead unkept said → SaysAt extent (Over loss) ahead unkept said
says_over extent Reading loss ahead unkept said is = over_says extent loss ahead unkept said (inr (inl is))
says_over extent Closing loss ahead unkept said is = over_says extent loss ahead unkept said (inl is)
says_over Whole (Over other) loss ahead unkept said is = is
says_over Part (Over other) loss ahead unkept said is = is

says_over_of : (extent : Extent) (place : EngineState) (ahead : Ahead) (unkept said : List ℕ) → SaysAt extent place ahead unkept said → SaysAt extent (over_of place) ahead unkept said
says_over_of extent Reading ahead unkept said is = says_over extent Reading Untold ahead unkept said is
says_over_of extent Closing ahead unkept said is = says_over extent Closing Untold ahead unkept said is
says_over_of extent (Over loss) ahead unkept said is = is

says_by : (extent : Extent) (place : EngineState) (is_given : Bool) (ahead : Ahead) (unkept said : List ℕ) → SaysAt extent place ahead unkept said → SaysAt extent (if is_given then over_of place else place) ahead unkept said
says_by extent place true ahead unkept said is = says_over_of extent place ahead unkept said is
says_by extent place false ahead unkept said is = is

says_given : (extent : Extent) (place : EngineState) (close : Option ℕ) (n : ℕ) (ahead : Ahead) (unkept said : List ℕ) → SaysAt extent place ahead unkept said → SaysAt extent (place_given place close n) ahead unkept said
says_given extent place None n ahead unkept said is = is
says_given extent place (Some end) n ahead unkept said is = says_by extent place (nat_le end n) ahead unkept said is

-- the first octets that waited were given
pub given_first : (extent : Extent) (before after : Connection) (fed given : List ℕ) (n ticks : ℕ)
    → after ≡ record before { waiting = drop n before.waiting; frame_ends = frame_ends_left before.frame_ends n; place = place_given before.place before.frame_ends.closed n; silence = silence_given before.silence n }
    → HasGiven extent before fed given ticks → HasGiven extent after fed (given ++ take n before.waiting) ticks
given_first extent before after fed given n ticks is h = subst (λ (c : Connection). HasGiven extent c fed (given ++ take n before.waiting) ticks) (sym is) (record {
  steps = h.steps;
  unkept = h.unkept;
  said = h.said;
  put = h.put;
  follows = h.follows;
  octets = append_assoc given (take n before.waiting) (drop n before.waiting) ∙ ap (λ (t : List ℕ). given ++ t) (take-append-drop n before.waiting) ∙ h.octets;
  is_put = put_left before.frames before.frame_ends (is_asked before.time_out) ticks n h.put h.is_put;
  says = says_given extent before.place before.frame_ends.closed n before.ahead h.unkept h.said h.says;
  behind = h.behind;
})

-- the device is gone
given_lost : (due : Bool) (extent : Extent) (before after : Connection) (fed given : List ℕ) (ticks : ℕ) (result : Result Unit EngineFault) → AfterLoss due before after result → HasGiven extent before fed given ticks → HasGiven extent after fed given ticks
given_lost true extent before after fed given ticks (Ok done) did h =
    subst (λ (c : Connection). HasGiven extent c fed given ticks) (sym did)
    (given_elsewhere extent extent before (record before { items = before.items ++ happened.Lost ∷ []; is_idle = after.is_idle; place = Over Told }) fed fed given h.unkept ticks h refl refl refl refl refl h.follows
    (says_over extent before.place Told before.ahead h.unkept h.said h.says))
given_lost true extent before after fed given ticks (Err fault) did h =
    subst (λ (c : Connection). HasGiven extent c fed given ticks) (sym did.0)
    (given_elsewhere extent extent before (record before { is_idle = after.is_idle; place = Over Refused }) fed fed given h.unkept ticks h refl refl refl refl refl h.follows
    (says_over extent before.place Refused before.ahead h.unkept h.said h.says))
given_lost false extent before after fed given ticks result did h =
    subst (λ (c : Connection). HasGiven extent c fed given ticks) (sym did.1)
    (given_elsewhere extent extent before (record before { place = over_of before.place }) fed fed given h.unkept ticks h refl refl refl refl refl h.follows
    (says_over_of extent before.place before.ahead h.unkept h.said h.says))

pub given_gone : (extent : Extent) (before after : Connection) (fed given : List ℕ) (ticks : ℕ) (result : Result Unit EngineFault) → AfterLoss (is_loss_due before.ahead.phase before.place) before after result
    → HasGiven extent before fed given ticks → HasGiven extent after fed given ticks
given_gone extent before after fed given ticks result did h = given_lost (is_loss_due before.ahead.phase before.place) extent before after fed given ticks result did h

-- frames were taken
pub put_refilled : (before after : Connection) (ticks : ℕ) (put : List ℕ) (filled : Refilled before after) → is_asked after.time_out ≡ is_asked before.time_out
    → IsPut before.frames before.frame_ends (is_asked before.time_out) ticks put → IsPut after.frames after.frame_ends (is_asked after.time_out) ticks (put ++ concat filled.took.more)
put_refilled before after ticks put filled asked is =
    let more = filled.took.more in
    subst (λ (f : List (List ℕ)). IsPut f after.frame_ends (is_asked after.time_out) ticks (put ++ concat more)) (sym filled.took.given)
    (subst (λ (m : FrameEnds). IsPut (before.frames ++ more) m (is_asked after.time_out) ticks (put ++ concat more)) (sym filled.took.ends_are)
    (subst (λ (a : Bool). IsPut (before.frames ++ more) (frame_ends_after before.frame_ends (length before.waiting) more) a ticks (put ++ concat more)) (sym asked)
    (put_frames before.frames more before.frame_ends (is_asked before.time_out) ticks (length before.waiting) put is)))

pub is_open : (phase : Phase) → (phase ≡ Open) ⊎ (phase ≢ Open)
is_open FirstHeader = inr (λ is. cc)
is_open Exchange = inr (λ is. cc)
is_open SecondHeader = inr (λ is. cc)
is_open Open = inl refl

pub refilled_behind : (phase : Phase) (frames frames_then : List (List ℕ)) → (phase ≢ Open → frames_then ≡ frames) → (phase ≡ Open) ⊎ (phase ≢ Open) → (phase ≡ Open) ⊎ (frames ≡ []) → (phase ≡ Open) ⊎ (frames_then ≡ [])
refilled_behind phase frames frames_then closed (inl is) behind = inl is
refilled_behind phase frames frames_then closed (inr not_open) (inl is) = inl is
refilled_behind phase frames frames_then closed (inr not_open) (inr none) = inr (closed not_open ∙ none)

pub given_refilled : (extent : Extent) (before after : Connection) (fed given : List ℕ) (ticks : ℕ) → Refilled before after → after ≡ record before { frames = after.frames; waiting = after.waiting; is_idle = after.is_idle; frame_ends = after.frame_ends }
    → HasGiven extent before fed given ticks → HasGiven extent after fed given ticks
given_refilled extent before after fed given ticks filled same h =
    let more = filled.took.more in
    let ahead : before.ahead ≡ after.ahead = ap (λ (c : Connection). c.ahead) (sym same) in
    record {
      steps = h.steps;
      unkept = h.unkept;
      said = h.said;
      put = h.put ++ concat more;
      follows = subst (λ (a : Ahead). IsAfter fed h.steps (and_unkept a h.unkept)) ahead h.follows;
      octets =
          ap (λ (t : List ℕ). given ++ t) filled.took.put ∙ sym (append_assoc given before.waiting (concat more)) ∙ ap (λ (t : List ℕ). t ++ concat more) h.octets
          ∙ append_assoc (answers_to h.steps ++ h.said) h.put (concat more);
      is_put = put_refilled before after ticks h.put filled (ap (λ (c : Connection). is_asked c.time_out) same) h.is_put;
      says = subst (λ (p : EngineState). SaysAt extent p after.ahead h.unkept h.said) (ap (λ (c : Connection). c.place) (sym same)) (subst (λ (a : Ahead). SaysAt extent before.place a h.unkept h.said) ahead h.says);
      behind = subst (λ (a : Ahead). (a.phase ≡ Open) ⊎ (after.frames ≡ [])) ahead (refilled_behind before.ahead.phase before.frames after.frames filled.closed (is_open before.ahead.phase) h.behind);
    }

-- ---- a tick

-- what holds where it may place an empty frame: an open was taken and no close, and the client asks
bears_by : (opened closed over : Bool) (time_out : Option ℕ) (bears : ℕ) → (if opened && closed && over then patience time_out else None) ≡ Some bears
    → (opened ≡ true) × (closed ≡ true) × (is_asked time_out ≡ true)
bears_by true true true time_out bears is = (refl, refl, ap (λ (o : Option ℕ). is_some o) is)
bears_by true true false time_out bears is = absurd cc
bears_by true false over time_out bears is = absurd cc
bears_by false closed over time_out bears is = absurd cc

opened_given : (opened : Option ℕ) → is_given opened ≡ true → is_some opened ≡ true
opened_given None is = absurd cc
opened_given (Some left) is = refl

unclosed : (closed : Option ℕ) → is_none closed ≡ true → is_some closed ≡ false
unclosed None is = refl
unclosed (Some end) is = absurd cc

pub put_ticked : (c : Connection) (bears ticks : ℕ) (put : List ℕ) → patience_of c ≡ Some bears → IsPut c.frames c.frame_ends (is_asked c.time_out) ticks put
    → IsPut c.frames c.frame_ends (is_asked c.time_out) (ticks + 1) (put ++ empty_frame)
put_ticked c bears ticks put is h =
    let why = bears_by (is_given c.frame_ends.opened) (is_none c.frame_ends.closed) (not (is_over c.place)) c.time_out bears is in
    put_empty c.frames c.frame_ends (is_asked c.time_out) ticks put (opened_given c.frame_ends.opened why.0) (unclosed c.frame_ends.closed why.1) why.2 h

given_placed : (extent : Extent) (before : Connection) (fed given : List ℕ) (bears moment ticks : ℕ) → patience_of before ≡ Some bears → HasGiven extent before fed given ticks
    → HasGiven extent (ticked true moment before) fed given (ticks + 1)
given_placed extent before fed given bears moment ticks is h = record {
  steps = h.steps;
  unkept = h.unkept;
  said = h.said;
  put = h.put ++ empty_frame;
  follows = h.follows;
  octets = sym (append_assoc given before.waiting empty_frame) ∙ ap (λ (t : List ℕ). t ++ empty_frame) h.octets ∙ append_assoc (answers_to h.steps ++ h.said) h.put empty_frame;
  is_put = put_ticked before bears ticks h.put is h.is_put;
  says = h.says;
  behind = h.behind;
}

given_silent : (extent : Extent) (before : Connection) (fed given : List ℕ) (moment ticks : ℕ) → HasGiven extent before fed given ticks → HasGiven extent (ticked false moment before) fed given ticks
given_silent extent before fed given moment ticks h = record {
  steps = h.steps;
  unkept = h.unkept;
  said = h.said;
  put = h.put;
  follows = h.follows;
  octets = ap (λ (t : List ℕ). given ++ t) (append-nil before.waiting) ∙ h.octets;
  is_put = h.is_put;
  says = h.says;
  behind = h.behind;
}

ticked_given : {E : Type 0} (bears : Option ℕ) (extent : Extent) (moment : ℕ) (before after : Connection) (fed given : List ℕ) (ticks : ℕ) (result : Result Bool E) → patience_of before ≡ bears
    → AfterTick bears moment before after result → HasGiven extent before fed given ticks → HasGiven extent after fed given (and_tick result ticks)
ticked_given None extent moment before after fed given ticks result is did h =
    subst (λ (n : ℕ). HasGiven extent after fed given n) (ap (λ r. and_tick r ticks) (sym did.0)) (subst (λ (c : Connection). HasGiven extent c fed given ticks) (sym did.1) h)
ticked_given (Some bears) extent moment before after fed given ticks (Ok true) is did h =
    subst (λ (c : Connection). HasGiven extent c fed given (ticks + 1)) (sym did.1) (given_placed extent before fed given bears moment ticks is h)
ticked_given (Some bears) extent moment before after fed given ticks (Ok false) is did h =
    subst (λ (c : Connection). HasGiven extent c fed given ticks) (sym did.1) (given_silent extent before fed given moment ticks h)
ticked_given (Some bears) extent moment before after fed given ticks (Err fault) is did h = subst (λ (c : Connection). HasGiven extent c fed given ticks) (sym did.1) h

pub given_ticked : {E : Type 0} (extent : Extent) (moment : ℕ) (before after : Connection) (fed given : List ℕ) (ticks : ℕ) (result : Result Bool E) → AfterTick (patience_of before) moment before after result
    → HasGiven extent before fed given ticks → HasGiven extent after fed given (and_tick result ticks)
given_ticked extent moment before after fed given ticks result did h = ticked_given (patience_of before) extent moment before after fed given ticks result refl did h
