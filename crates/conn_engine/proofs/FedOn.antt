-- What was fed, behind a call more.
use Rattle.std.proofs.Common.{◌≡◌, ℕ, Bool, true, false, List, [], ◌∷◌, ◌++◌, drop, refl, sym, ap, ◌∙◌, subst, inl, inr, append_assoc, Option, Some, None, Result, Ok, Err, nat_le, if◌then◌else◌}
use Rattle.std.proofs.lemmas.List.{append-nil}
use Rattle.capture_form.specs.declared.records.What.{What}
use Rattle.capture_form.specs.declared.records.What.TheVariants as happened
use Rattle.stream_reading.specs.declared.step.Phase.{Phase}
use Rattle.stream_reading.specs.declared.step.Phase.TheVariants.{FirstHeader, Exchange, SecondHeader, Open}
use Rattle.stream_reading.specs.declared.step.StreamFault.TheVariants as stops
use Rattle.stream_reading.specs.Stream.{IsRefused}
use Rattle.stream_reading.specs.Steps.{Ahead, IsAfter, MayFollow, StepText, octets_of}
use Rattle.conn_engine.specs.declared.fault.EngineFault.{EngineFault}
use Rattle.conn_engine.specs.declared.fault.EngineFault.TheVariants as faults
use Rattle.conn_engine.specs.declared.engine_state.Loss.TheVariants.{Untold, Told, Refused}
use Rattle.conn_engine.specs.declared.engine_state.EngineState.{EngineState}
use Rattle.conn_engine.specs.declared.engine_state.EngineState.TheVariants.{Reading, Closing, Over}
use Rattle.conn_engine.specs.Closing.{over_of, place_given}
use Rattle.conn_engine.specs.FrameEnds.{frame_ends_left}
use Rattle.conn_engine.specs.Silence.{silence_given, time_out_after}
use Rattle.conn_engine.specs.Serving.{Connection, EndsAt, EndsOver, HasFed, and_unkept, items_of}
use Rattle.conn_engine.specs.Feeding.{AfterPiece, AfterSteps, FedAt, StopsFor, FeedState, Went, and_fed, and_piece, place_after, place_at_fault, feed_state_of, items_at_fault}
use Rattle.conn_engine.specs.Taking.{AfterLoss, is_loss_due}
use Rattle.conn_engine.specs.Ticking.{AfterTick, patience_of, ticked}
use Rattle.conn_engine.proofs.Going.{follow_all, items_all, octets_all}
use Rattle.conn_engine.proofs.TimeOuts.{time_out_on}

-- ---- steps behind others

-- a piece was fed that is not kept
pub piece_unkept : (fed unkept piece : List ℕ) (steps : List StepText) (ahead : Ahead) → IsAfter fed steps (and_unkept ahead unkept) → IsAfter (fed ++ piece) steps (and_unkept ahead (unkept ++ piece))
piece_unkept fed unkept piece steps ahead after = record {
  parts = ap (λ (t : List ℕ). t ++ piece) after.parts ∙ append_assoc (octets_of steps) (ahead.octets ++ unkept) piece ∙ ap (λ (t : List ℕ). octets_of steps ++ t) (append_assoc ahead.octets unkept piece);
  follow = after.follow;
}

-- all is kept
pub all_kept : (fed unkept : List ℕ) (steps : List StepText) (ahead : Ahead) → unkept ≡ [] → IsAfter fed steps (and_unkept ahead unkept) → IsAfter fed steps ahead
all_kept fed unkept steps ahead none after = record {
  parts = after.parts ∙ ap (λ (t : List ℕ). octets_of steps ++ t) (ap (λ (t : List ℕ). ahead.octets ++ t) none ∙ append-nil ahead.octets);
  follow = after.follow;
}

pub kept_all : (fed : List ℕ) (steps : List StepText) (ahead : Ahead) → IsAfter fed steps ahead → IsAfter fed steps (and_unkept ahead [])
kept_all fed steps ahead after = record { parts = after.parts ∙ ap (λ (t : List ℕ). octets_of steps ++ t) (sym (append-nil ahead.octets)); follow = after.follow }

-- steps were taken of what was fed and a piece
pub steps_on : (fed unkept piece : List ℕ) (steps more : List StepText) (ahead after : Ahead) → unkept ≡ [] → IsAfter fed steps (and_unkept ahead unkept)
    → ahead.octets ++ piece ≡ octets_of more ++ after.octets → MayFollow ahead.phase more after.phase → IsAfter (fed ++ piece) (steps ++ more) (and_unkept after [])
steps_on fed unkept piece steps more ahead after none was parts follow =
    kept_all (fed ++ piece) (steps ++ more) after (record {
      parts =
          ap (λ (t : List ℕ). t ++ piece) (all_kept fed unkept steps ahead none was).parts ∙ append_assoc (octets_of steps) ahead.octets piece
          ∙ ap (λ (t : List ℕ). octets_of steps ++ t) parts ∙ sym (append_assoc (octets_of steps) (octets_of more) after.octets)
          ∙ ap (λ (t : List ℕ). t ++ after.octets) (sym (octets_all steps more));
      follow = follow_all _ ahead.phase after.phase steps more was.follow follow;
    })

-- their items
pub items_on : (items items_then : List What) (steps more : List StepText) (none last : List What) → none ≡ [] → items ≡ items_of steps ++ none → items_then ≡ items ++ (items_of more ++ last)
    → items_then ≡ items_of (steps ++ more) ++ last
items_on items items_then steps more none last empty was next =
    next ∙ ap (λ (t : List What). t ++ (items_of more ++ last)) (was ∙ ap (λ (t : List What). items_of steps ++ t) empty ∙ append-nil (items_of steps))
    ∙ sym (append_assoc (items_of steps) (items_of more) last) ∙ ap (λ (t : List What). t ++ last) (sym (items_all steps more))

-- ---- where an engine is behind a fault

ends_over : (ahead : Ahead) (unkept : List ℕ) (last : List What) → last ≡ [] → EndsAt (Over Untold) ahead unkept last
ends_over ahead unkept last none = record { broken = []; is_broken = inl refl; parts = none }

ends_at_fault : (phase : Phase) (octets unkept : List ℕ) (last : List What) → IsRefused phase octets stops.BadFrame → last ≡ items_at_fault phase
    → EndsAt (place_at_fault phase) (record { phase = phase; octets = octets }) unkept last
ends_at_fault Open octets unkept last is told = (told, (refl, is))
ends_at_fault FirstHeader octets unkept last is told = ends_over _ unkept last told
ends_at_fault Exchange octets unkept last is told = ends_over _ unkept last told
ends_at_fault SecondHeader octets unkept last is told = ends_over _ unkept last told

ends_stopped : (fault : EngineFault) (ahead : Ahead) (last : List What) (said : List ℕ) → StopsFor fault ahead last said → EndsAt (place_after (Err fault) ahead.phase) ahead [] last
ends_stopped faults.HeaderRefused ahead last said is = ends_over ahead [] last is.1
ends_stopped faults.Frame ahead last said is = ends_at_fault ahead.phase ahead.octets [] last is.0 is.1
ends_stopped (faults.Port fault) ahead last said is = ends_over ahead [] last is.0
ends_stopped faults.Over ahead last said is = absurd is
ends_stopped faults.SaslRefused ahead last said is = ends_over ahead [] last is.1
ends_stopped faults.Memory ahead last said is = ends_over ahead [] last is.0

-- ---- a feed

-- steps that were taken, and what was told behind them
fed_on : (before after : Connection) (fed piece : List ℕ) (last : List What) (said : List ℕ) (h : HasFed before fed) → h.last ≡ [] → h.unkept ≡ []
    → Went (and_piece (feed_state_of before) piece) (feed_state_of after) last said → EndsAt after.place after.ahead [] last → HasFed after (fed ++ piece)
fed_on before after fed piece last said h none kept went ends = record {
  steps = h.steps ++ went.steps;
  unkept = [];
  last = last;
  follows = steps_on fed h.unkept piece h.steps went.steps before.ahead after.ahead kept h.follows went.parts went.follow;
  items = items_on before.items after.items h.steps went.steps h.last last none h.items went.items;
  time_out = time_out_on None before.time_out after.time_out h.steps went.steps h.time_out went.time_out;
  ends = ends;
}

fed_stopped : (before after : Connection) (fed piece : List ℕ) (fault : EngineFault) (last : List What) (said : List ℕ) (h : HasFed before fed) → h.last ≡ [] → h.unkept ≡ []
    → Went (and_piece (feed_state_of before) piece) (feed_state_of after) last said → StopsFor fault after.ahead last said → after.place ≡ place_after (Err fault) after.ahead.phase
    → HasFed after (fed ++ piece)
fed_stopped before after fed piece fault last said h none kept went stops place =
    fed_on before after fed piece last said h none kept went (subst (λ (p : EngineState). EndsAt p after.ahead [] last) (sym place) (ends_stopped fault after.ahead last said stops))

fed_steps : (before after : Connection) (fed piece : List ℕ) (result : Result Unit EngineFault) (h : HasFed before fed) → h.last ≡ [] → h.unkept ≡ []
    → AfterSteps (and_piece (feed_state_of before) piece) (feed_state_of after) result → after.place ≡ place_after result after.ahead.phase → HasFed after (and_fed result fed piece)
fed_steps before after fed piece (Ok done) h none kept did place =
    fed_on before after fed piece [] [] h none kept did.0 (subst (λ (p : EngineState). EndsAt p after.ahead [] []) (sym place) (refl, refl, did.1))
fed_steps before after fed piece (Err faults.HeaderRefused) h none kept did place = fed_stopped before after fed piece faults.HeaderRefused did.0 did.1 h none kept did.2 did.3 place
fed_steps before after fed piece (Err faults.Frame) h none kept did place = fed_stopped before after fed piece faults.Frame did.0 did.1 h none kept did.2 did.3 place
fed_steps before after fed piece (Err (faults.Port fault)) h none kept did place = fed_stopped before after fed piece (faults.Port fault) did.0 did.1 h none kept did.2 did.3 place
fed_steps before after fed piece (Err faults.Over) h none kept did place = absurd did.3
fed_steps before after fed piece (Err faults.SaslRefused) h none kept did place = fed_stopped before after fed piece faults.SaslRefused did.0 did.1 h none kept did.2 did.3 place
fed_steps before after fed piece (Err faults.Memory) h none kept did place = fed_stopped before after fed piece faults.Memory did.0 did.1 h none kept did.2 did.3 place

-- a piece that was not kept
fed_unkept : (before after : Connection) (fed piece : List ℕ) (h : HasFed before fed) → h.last ≡ [] → feed_state_of after ≡ feed_state_of before → after.place ≡ Over Untold → HasFed after (fed ++ piece)
fed_unkept before after fed piece h none same place =
    let ahead : after.ahead ≡ before.ahead = ap (λ (t : FeedState). t.ahead) same in
    record {
      steps = h.steps;
      unkept = h.unkept ++ piece;
      last = h.last;
      follows = subst (λ (a : Ahead). IsAfter (fed ++ piece) h.steps (and_unkept a (h.unkept ++ piece))) (sym ahead) (piece_unkept fed h.unkept piece h.steps before.ahead h.follows);
      items = ap (λ (t : FeedState). t.items) same ∙ h.items;
      time_out = ap (λ (t : FeedState). t.time_out) same ∙ h.time_out;
      ends = subst (λ (p : EngineState). EndsAt p after.ahead (h.unkept ++ piece) h.last) (sym place) (ends_over after.ahead (h.unkept ++ piece) h.last none);
    }

fed_piece : (before after : Connection) (fed piece : List ℕ) (result : Result Unit EngineFault) (h : HasFed before fed) → h.last ≡ [] → h.unkept ≡ []
    → AfterPiece (feed_state_of before) (feed_state_of after) piece result → after.place ≡ place_after result after.ahead.phase → HasFed after (and_fed result fed piece)
fed_piece before after fed piece result h none kept (inl did) place = fed_steps before after fed piece result h none kept did place
fed_piece before after fed piece result h none kept (inr (is, same)) place =
    subst (λ (r : Result Unit EngineFault). HasFed after (and_fed r fed piece)) (sym is)
    (fed_unkept before after fed piece h none same (place ∙ ap (λ (r : Result Unit EngineFault). place_after r after.ahead.phase) is))

-- a piece that was not looked at, where it is closing
fed_closing : (before : Connection) (fed piece : List ℕ) (h : HasFed before fed) → before.place ≡ Closing → HasFed before (fed ++ piece)
fed_closing before fed piece h place = record {
  steps = h.steps;
  unkept = h.unkept ++ piece;
  last = h.last;
  follows = piece_unkept fed h.unkept piece h.steps before.ahead h.follows;
  items = h.items;
  time_out = h.time_out;
  ends = subst (λ (p : EngineState). EndsAt p before.ahead (h.unkept ++ piece) h.last) (sym place) (subst (λ (p : EngineState). EndsAt p before.ahead h.unkept h.last) place h.ends);
}

pub fed_at : (place : EngineState) (before after : Connection) (fed piece : List ℕ) (result : Result Unit EngineFault) → before.place ≡ place → FedAt place before after piece result → HasFed before fed
    → HasFed after (and_fed result fed piece)
fed_at Reading before after fed piece result at did h =
    let ends = subst (λ (p : EngineState). EndsAt p before.ahead h.unkept h.last) at h.ends in
    fed_piece before after fed piece result h ends.0 ends.1 did.0 did.1
fed_at Closing before after fed piece result at did h =
    subst (λ (r : Result Unit EngineFault). HasFed after (and_fed r fed piece)) (sym did.0) (subst (λ (c : Connection). HasFed c (fed ++ piece)) (sym did.1) (fed_closing before fed piece h at))
fed_at (Over loss) before after fed piece result at did h =
    subst (λ (r : Result Unit EngineFault). HasFed after (and_fed r fed piece)) (sym did.0) (subst (λ (c : Connection). HasFed c fed) (sym did.1) h)

-- ---- the other calls

-- an engine that goes on no more
pub ends_over_of : (place : EngineState) (ahead : Ahead) (unkept : List ℕ) (last : List What) → EndsAt place ahead unkept last → EndsAt (over_of place) ahead unkept last
ends_over_of Reading ahead unkept last ends = ends_over ahead unkept last ends.0
ends_over_of Closing ahead unkept last ends = record { broken = happened.Broken ∷ []; is_broken = inr (refl, ends.1); parts = ends.0 }
ends_over_of (Over loss) ahead unkept last ends = ends

ends_by : (place : EngineState) (is : Bool) (ahead : Ahead) (unkept : List ℕ) (last : List What) → EndsAt place ahead unkept last → EndsAt (if is then over_of place else place) ahead unkept last
ends_by place true ahead unkept last ends = ends_over_of place ahead unkept last ends
ends_by place false ahead unkept last ends = ends

pub ends_given : (place : EngineState) (close : Option ℕ) (n : ℕ) (ahead : Ahead) (unkept : List ℕ) (last : List What) → EndsAt place ahead unkept last → EndsAt (place_given place close n) ahead unkept last
ends_given place None n ahead unkept last ends = ends
ends_given place (Some end) n ahead unkept last ends = ends_by place (nat_le end n) ahead unkept last ends

-- one whose items and octets ahead are the same
pub fed_elsewhere : (before after : Connection) (fed : List ℕ) (h : HasFed before fed) → after.items ≡ before.items → after.ahead ≡ before.ahead → after.time_out ≡ before.time_out
    → EndsAt after.place before.ahead h.unkept h.last → HasFed after fed
fed_elsewhere before after fed h items ahead time_out ends = record {
  steps = h.steps;
  unkept = h.unkept;
  last = h.last;
  follows = subst (λ (a : Ahead). IsAfter fed h.steps (and_unkept a h.unkept)) (sym ahead) h.follows;
  items = items ∙ h.items;
  time_out = time_out ∙ h.time_out;
  ends = subst (λ (a : Ahead). EndsAt after.place a h.unkept h.last) (sym ahead) ends;
}

-- the first octets that waited were given
pub fed_first : (before after : Connection) (fed : List ℕ) (n : ℕ)
    → after ≡ record before { waiting = drop n before.waiting; frame_ends = frame_ends_left before.frame_ends n; place = place_given before.place before.frame_ends.closed n; silence = silence_given before.silence n } → HasFed before fed → HasFed after fed
fed_first before after fed n is h = subst (λ (c : Connection). HasFed c fed) (sym is)
    (fed_elsewhere before (record before { waiting = drop n before.waiting; frame_ends = frame_ends_left before.frame_ends n; place = place_given before.place before.frame_ends.closed n; silence = silence_given before.silence n }) fed h refl refl refl
    (ends_given before.place before.frame_ends.closed n before.ahead h.unkept h.last h.ends))

-- frames were taken
pub fed_refilled : (before after : Connection) (fed : List ℕ) → after ≡ record before { frames = after.frames; waiting = after.waiting; is_idle = after.is_idle; frame_ends = after.frame_ends } → HasFed before fed → HasFed after fed
fed_refilled before after fed same h = subst (λ (c : Connection). HasFed c fed) (sym same)
    (fed_elsewhere before (record before { frames = after.frames; waiting = after.waiting; is_idle = after.is_idle; frame_ends = after.frame_ends }) fed h refl refl refl h.ends)

-- a loss that the router was told, or did not take
told_over : (place : EngineState) (phase : Phase) (ahead : Ahead) (unkept : List ℕ) (last : List What) → is_loss_due phase place ≡ true → EndsAt place ahead unkept last → EndsOver ahead Untold last
told_over Reading phase ahead unkept last due ends = ends_over ahead unkept last ends.0
told_over Closing phase ahead unkept last due ends = ends_over_of Closing ahead unkept last ends
told_over (Over Untold) phase ahead unkept last due ends = ends
told_over (Over Told) FirstHeader ahead unkept last due ends = absurd cc
told_over (Over Told) Exchange ahead unkept last due ends = absurd cc
told_over (Over Told) SecondHeader ahead unkept last due ends = absurd cc
told_over (Over Told) Open ahead unkept last due ends = absurd cc
told_over (Over Refused) FirstHeader ahead unkept last due ends = absurd cc
told_over (Over Refused) Exchange ahead unkept last due ends = absurd cc
told_over (Over Refused) SecondHeader ahead unkept last due ends = absurd cc
told_over (Over Refused) Open ahead unkept last due ends = absurd cc

ends_told : (ahead : Ahead) (last : List What) → EndsOver ahead Untold last → EndsOver ahead Told (last ++ happened.Lost ∷ [])
ends_told ahead last ends = record {
  broken = ends.broken;
  is_broken = ends.is_broken;
  parts = ap (λ (t : List What). t ++ happened.Lost ∷ []) (ends.parts ∙ append-nil ends.broken);
}

ends_refused : (ahead : Ahead) (last : List What) → EndsOver ahead Untold last → EndsOver ahead Refused last
ends_refused ahead last ends = record { broken = ends.broken; is_broken = ends.is_broken; parts = ends.parts }

fed_told : (idle : Bool) (before : Connection) (fed : List ℕ) (h : HasFed before fed) → EndsOver before.ahead Untold h.last → HasFed (record before { items = before.items ++ happened.Lost ∷ []; is_idle = idle; place = Over Told }) fed
fed_told idle before fed h ends = record {
  steps = h.steps;
  unkept = h.unkept;
  last = h.last ++ happened.Lost ∷ [];
  follows = h.follows;
  items = ap (λ (t : List What). t ++ happened.Lost ∷ []) h.items ∙ append_assoc (items_of h.steps) h.last (happened.Lost ∷ []);
  time_out = h.time_out;
  ends = ends_told before.ahead h.last ends;
}

fed_lost : (due : Bool) (before after : Connection) (fed : List ℕ) (result : Result Unit EngineFault) → is_loss_due before.ahead.phase before.place ≡ due → AfterLoss due before after result
    → HasFed before fed → HasFed after fed
fed_lost true before after fed (Ok done) due did h =
    subst (λ (c : Connection). HasFed c fed) (sym did) (fed_told after.is_idle before fed h (told_over before.place before.ahead.phase before.ahead h.unkept h.last due h.ends))
fed_lost true before after fed (Err fault) due did h =
    subst (λ (c : Connection). HasFed c fed) (sym did.0)
    (fed_elsewhere before (record before { is_idle = after.is_idle; place = Over Refused }) fed h refl refl refl (ends_refused before.ahead h.last (told_over before.place before.ahead.phase before.ahead h.unkept h.last due h.ends)))
fed_lost false before after fed result due did h =
    subst (λ (c : Connection). HasFed c fed) (sym did.1)
    (fed_elsewhere before (record before { place = over_of before.place }) fed h refl refl refl (ends_over_of before.place before.ahead h.unkept h.last h.ends))

pub fed_gone : (before after : Connection) (fed : List ℕ) (result : Result Unit EngineFault) → AfterLoss (is_loss_due before.ahead.phase before.place) before after result → HasFed before fed → HasFed after fed
fed_gone before after fed result did h = fed_lost (is_loss_due before.ahead.phase before.place) before after fed result refl did h

-- a tick
ticked_fed : (bears : Option ℕ) (moment : ℕ) (before after : Connection) (fed : List ℕ) {E : Type 0} (result : Result Bool E) → AfterTick bears moment before after result → HasFed before fed → HasFed after fed
ticked_fed None moment before after fed result did h = subst (λ (c : Connection). HasFed c fed) (sym did.1) h
ticked_fed (Some bears) moment before after fed (Ok is_placed) did h =
    subst (λ (c : Connection). HasFed c fed) (sym did.1) (fed_elsewhere before (ticked is_placed moment before) fed h refl refl refl h.ends)
ticked_fed (Some bears) moment before after fed (Err fault) did h = subst (λ (c : Connection). HasFed c fed) (sym did.1) h

pub fed_ticked : {E : Type 0} (moment : ℕ) (before after : Connection) (fed : List ℕ) (result : Result Bool E) → AfterTick (patience_of before) moment before after result → HasFed before fed → HasFed after fed
fed_ticked moment before after fed result did h = ticked_fed (patience_of before) moment before after fed result did h
