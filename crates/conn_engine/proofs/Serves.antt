-- What holds of an engine that serves, behind a call more.
use Rattle.std.proofs.Common.{◌≡◌, ◌≢◌, ℕ, ◌⊎◌, Bool, true, false, List, [], ◌∷◌, ◌++◌, take, drop, refl, sym, ap, ◌∙◌, subst, inl, inr, append_assoc, Option, Some, None, Result, Ok, Err, arith, ◌+◌}
use Rattle.std.specs.List.{concat}
use Rattle.std.proofs.lemmas.List.{append-nil, take-append-drop}
use Rattle.capture_form.specs.declared.records.What.{What}
use Rattle.capture_form.specs.declared.records.What.TheVariants as happened
use Rattle.stream_reading.specs.declared.step.Phase.{Phase}
use Rattle.stream_reading.specs.declared.step.Phase.TheVariants.{FirstHeader, Exchange, SecondHeader, Open}
use Rattle.stream_reading.specs.declared.step.StreamFault.TheVariants as stops
use Rattle.stream_reading.specs.Stream.{IsRefused}
use Rattle.stream_reading.specs.Steps.{Ahead, answers_to}
use Rattle.conn_engine.specs.declared.fault.EngineFault.{EngineFault}
use Rattle.conn_engine.specs.declared.fault.EngineFault.TheVariants as faults
use Rattle.conn_engine.specs.declared.engine_state.Loss.TheVariants.{Untold, Told, Refused}
use Rattle.conn_engine.specs.declared.engine_state.EngineState.{EngineState}
use Rattle.conn_engine.specs.declared.engine_state.EngineState.TheVariants.{Reading, Closing, Over}
use Rattle.conn_engine.specs.Closing.{is_over, place_given}
use Rattle.conn_engine.specs.Lacing.{IsPut}
use Rattle.conn_engine.specs.FrameEnds.{frame_ends_left, no_frame_ends}
use Rattle.conn_engine.specs.Silence.{empty_frame, is_asked, no_silence, silence_given}
use Rattle.conn_engine.specs.Serving.{Connection}
use Rattle.conn_engine.specs.Feeding.{AfterPiece, AfterSteps, FedAt, StopsFor, Went, and_piece, items_at_fault, place_after, place_at_fault, feed_state_of}
use Rattle.conn_engine.specs.Taking.{AfterLoss, Refilled, is_loss_due}
use Rattle.conn_engine.specs.Ticking.{AfterTick, patience_of}
use Rattle.conn_engine.proofs.FedOn.{items_on, piece_unkept, steps_on}
use Rattle.conn_engine.proofs.GivenOn.{behind_on, is_open, octets_on, open_stays, put_on, put_refilled, put_ticked, refilled_behind, stop_unsaid}
use Rattle.conn_engine.proofs.LacedOn.{put_left, put_none, unlaced}
use Rattle.conn_engine.proofs.TimeOuts.{asks_on, time_out_on}
use Rattle.conn_engine.specs.Streams.{IsStopped, IsTurnedAway, IsUnfinished, loss_at}
use Rattle.conn_engine.specs.Served.{IsOverFor, IsServing, stop_of}
use Rattle.conn_engine.proofs.Closes.{closing_given, over_given, over_on, reading_given}

-- ---- a new one

abbrev fresh : ℕ → Bool → Connection
fresh number idle = record { number = number; items = []; frames = []; ahead = record { phase = FirstHeader; octets = [] }; waiting = []; is_idle = idle; frame_ends = no_frame_ends; place = Reading; time_out = None; silence = no_silence }

fresh_serves : (number : ℕ) (idle : Bool) → IsServing (fresh number idle) [] []
fresh_serves number idle = record {
  answers = [];
  stream = record { steps = []; behind = []; told = []; said = []; follows = record { parts = refl; follow = refl }; ends = inl (refl, refl, refl, omega arith); items_are = refl; answers_are = refl };
  reads = λ is. (refl, refl, refl, omega arith);
  closes = λ is. absurd cc;
  put = [];
  given = refl;
  ticks = 0;
  is_put = put_none false;
  time_out = refl;
  behind = inr refl;
  over = tt;
}

pub serving_new : (number : ℕ) (idle : Bool) (items : List What) (frames : List (List ℕ)) (e : Connection)
    → e ≡ record { number = number; items = items; frames = frames; ahead = record { phase = FirstHeader; octets = [] }; waiting = []; is_idle = idle; frame_ends = no_frame_ends; place = Reading; time_out = None; silence = no_silence }
    → items ≡ [] → frames ≡ [] → IsServing e [] []
serving_new number idle items frames e is no_items no_frames =
    let same : e ≡ fresh number idle
    = is ∙ ap (λ (t : List What). record { number = number; items = t; frames = frames; ahead = record { phase = FirstHeader; octets = [] }; waiting = []; is_idle = idle; frame_ends = no_frame_ends; place = Reading; time_out = None; silence = no_silence }) no_items
    ∙ ap (λ (t : List (List ℕ)). record { number = number; items = []; frames = t; ahead = record { phase = FirstHeader; octets = [] }; waiting = []; is_idle = idle; frame_ends = no_frame_ends; place = Reading; time_out = None; silence = no_silence }) no_frames in
    subst (λ (c : Connection). IsServing c [] []) (sym same) (fresh_serves number idle)

-- ---- frames were taken of its port

pub serving_refilled : (before after : Connection) (octets taken : List ℕ) → Refilled before after → after ≡ record before { frames = after.frames; waiting = after.waiting; is_idle = after.is_idle; frame_ends = after.frame_ends }
    → IsServing before octets taken → IsServing after octets taken
serving_refilled before after octets taken filled same h =
    let more = filled.took.more in
    let all : before.frames ++ more ≡ after.frames = sym filled.took.given in
    let asked : is_asked after.time_out ≡ is_asked before.time_out = ap (λ (c : Connection). is_asked c.time_out) same in
    subst (λ (c : Connection). IsServing c octets taken) (sym same) (record {
      answers = h.answers;
      stream = h.stream;
      reads = h.reads;
      closes = h.closes;
      put = h.put ++ concat more;
      given =
          ap (λ (t : List ℕ). taken ++ t) filled.took.put ∙ sym (append_assoc taken before.waiting (concat more)) ∙ ap (λ (t : List ℕ). t ++ concat more) h.given
          ∙ append_assoc h.answers h.put (concat more);
      ticks = h.ticks;
      is_put =
          subst (λ (a : Bool). IsPut after.frames after.frame_ends a h.ticks (h.put ++ concat more)) asked (put_refilled before after h.ticks h.put filled asked h.is_put);
      time_out = h.time_out;
      behind = refilled_behind before.ahead.phase before.frames after.frames filled.closed (is_open before.ahead.phase) h.behind;
      over = subst (λ (t : List (List ℕ)). IsOverFor before.place before.ahead t) all (over_on before.place before.ahead before.frames more h.over);
    })

-- ---- it was told the moment

ticked_serves : {E : Type 0} (bears : Option ℕ) (moment : ℕ) (before after : Connection) (octets taken : List ℕ) (result : Result Bool E) → patience_of before ≡ bears
    → AfterTick bears moment before after result → IsServing before octets taken → IsServing after octets taken
ticked_serves None moment before after octets taken result is did h = subst (λ (c : Connection). IsServing c octets taken) (sym did.1) h
ticked_serves (Some bears) moment before after octets taken (Ok true) is did h =
    subst (λ (c : Connection). IsServing c octets taken) (sym did.1) (record {
      answers = h.answers;
      stream = h.stream;
      reads = h.reads;
      closes = h.closes;
      put = h.put ++ empty_frame;
      given = sym (append_assoc taken before.waiting empty_frame) ∙ ap (λ (t : List ℕ). t ++ empty_frame) h.given ∙ append_assoc h.answers h.put empty_frame;
      ticks = h.ticks + 1;
      is_put = put_ticked before bears h.ticks h.put is h.is_put;
      time_out = h.time_out;
      behind = h.behind;
      over = h.over;
    })
ticked_serves (Some bears) moment before after octets taken (Ok false) is did h =
    subst (λ (c : Connection). IsServing c octets taken) (sym did.1) (record {
      answers = h.answers;
      stream = h.stream;
      reads = h.reads;
      closes = h.closes;
      put = h.put;
      given = ap (λ (t : List ℕ). taken ++ t) (append-nil before.waiting) ∙ h.given;
      ticks = h.ticks;
      is_put = h.is_put;
      time_out = h.time_out;
      behind = h.behind;
      over = h.over;
    })
ticked_serves (Some bears) moment before after octets taken (Err fault) is did h = subst (λ (c : Connection). IsServing c octets taken) (sym did.1) h

pub serving_ticked : {E : Type 0} (moment : ℕ) (before after : Connection) (octets taken : List ℕ) (result : Result Bool E) → AfterTick (patience_of before) moment before after result
    → IsServing before octets taken → IsServing after octets taken
serving_ticked moment before after octets taken result did h = ticked_serves (patience_of before) moment before after octets taken result refl did h

-- ---- the first octets that waited were given

pub serving_given : (before after : Connection) (octets taken : List ℕ) (n : ℕ)
    → after ≡ record before { waiting = drop n before.waiting; frame_ends = frame_ends_left before.frame_ends n; place = place_given before.place before.frame_ends.closed n; silence = silence_given before.silence n }
    → IsServing before octets taken → IsServing after octets (taken ++ take n before.waiting)
serving_given before after octets taken n is h = subst (λ (c : Connection). IsServing c octets (taken ++ take n before.waiting)) (sym is) (record {
  answers = h.answers;
  stream = h.stream;
  reads = λ reading. h.reads (reading_given before.place before.frame_ends.closed n reading);
  closes = λ closing. h.closes (closing_given before.place before.frame_ends.closed n closing);
  given = append_assoc taken (take n before.waiting) (drop n before.waiting) ∙ ap (λ (t : List ℕ). taken ++ t) (take-append-drop n before.waiting) ∙ h.given;
  put = h.put;
  ticks = h.ticks;
  is_put = put_left before.frames before.frame_ends (is_asked before.time_out) h.ticks n h.put h.is_put;
  time_out = h.time_out;
  behind = h.behind;
  over = over_given before.place before.frame_ends.closed n before.ahead before.frames h.is_put.ends_are.closed h.over;
})

-- ---- a piece was fed

-- steps were taken of what was fed and the piece
serving_on : (before after : Connection) (octets piece taken : List ℕ) (last : List What) (said : List ℕ) (h : IsServing before octets taken)
    → IsUnfinished before.ahead h.stream.behind h.stream.told h.stream.said → Went (and_piece (feed_state_of before) piece) (feed_state_of after) last said
    → after.frames ≡ before.frames → after.frame_ends ≡ before.frame_ends → (after.ahead.phase ≡ Open → said ≡ [])
    → IsUnfinished after.ahead [] last said ⊎ IsStopped after.ahead last said → (after.place ≡ Reading → IsUnfinished after.ahead [] last said) → (after.place ≡ Closing → IsStopped after.ahead last said)
    → IsOverFor after.place after.ahead after.frames → IsServing after (octets ++ piece) taken
serving_on before after octets piece taken last said h unfinished went frames frame_ends silent ends reads closes over =
    let steps = h.stream.steps ++ went.steps in
    record {
      answers = answers_to steps ++ said;
      stream = record {
        steps = steps;
        behind = [];
        told = last;
        said = said;
        follows = steps_on octets h.stream.behind piece h.stream.steps went.steps before.ahead after.ahead unfinished.2 h.stream.follows went.parts went.follow;
        ends = ends;
        items_are = items_on before.items after.items h.stream.steps went.steps h.stream.told last unfinished.0 h.stream.items_are went.items;
        answers_are = refl;
      };
      reads = reads;
      closes = closes;
      given =
          ap (λ (t : List ℕ). taken ++ t) went.waiting
          ∙ octets_on taken before.waiting h.stream.said said h.stream.steps went.steps before.frames h.put before.ahead.phase after.ahead.phase unfinished.1 went.follow
          (λ is. silent (open_stays before.ahead.phase after.ahead.phase went.steps is went.follow)) h.behind (λ is. unlaced before.frames h.ticks h.put is h.is_put.laced)
          (h.given ∙ ap (λ (t : List ℕ). t ++ h.put) h.stream.answers_are);
      put = h.put;
      ticks = h.ticks;
      is_put = put_on before after h.ticks h.put frames frame_ends (asks_on before.time_out after.time_out went.steps went.time_out) h.is_put;
      time_out = time_out_on None before.time_out after.time_out h.stream.steps went.steps h.time_out went.time_out;
      behind = behind_on before.ahead.phase after.ahead.phase went.steps before.frames after.frames went.follow frames h.behind;
      over = over;
    }

-- where an engine is behind a fault, and why
header_refused : (ahead : Ahead) (last : List What) (said : List ℕ) → StopsFor faults.HeaderRefused ahead last said → IsStopped ahead last said × IsTurnedAway ahead
header_refused ahead last said is = (
  (stops.HeaderRefused, is.0, is.1 ∙ sym (by ahead.phase ahead.octets is.0).0, is.2),
  ((by ahead.phase ahead.octets is.0).1, (stops.HeaderRefused, is.0)),
)
  where
    by : (phase : Phase) (octets : List ℕ) → IsRefused phase octets stops.HeaderRefused → (items_at_fault phase ≡ []) × (phase ≢ Open)
    by FirstHeader octets is = (refl, λ same. cc)
    by Exchange octets is = absurd is
    by SecondHeader octets is = (refl, λ same. cc)
    by Open octets is = absurd is

name_refused : (ahead : Ahead) (last : List What) (said : List ℕ) → StopsFor faults.SaslRefused ahead last said → IsStopped ahead last said × IsTurnedAway ahead
name_refused ahead last said is = (
  (stops.SaslRefused, is.0, is.1 ∙ sym (by ahead.phase ahead.octets is.0).0, is.2),
  ((by ahead.phase ahead.octets is.0).1, (stops.SaslRefused, is.0)),
)
  where
    by : (phase : Phase) (octets : List ℕ) → IsRefused phase octets stops.SaslRefused → (items_at_fault phase ≡ []) × (phase ≢ Open)
    by FirstHeader octets is = absurd is
    by Exchange octets is = (refl, λ same. cc)
    by SecondHeader octets is = absurd is
    by Open octets is = absurd is

over_at_fault : (phase : Phase) (octets : List ℕ) (frames : List (List ℕ)) → IsRefused phase octets stops.BadFrame → IsOverFor (place_at_fault phase) (record { phase = phase; octets = octets }) frames
over_at_fault FirstHeader octets frames is = absurd is
over_at_fault Exchange octets frames is = inl (λ same. cc, (stops.BadFrame, is))
over_at_fault SecondHeader octets frames is = absurd is
over_at_fault Open octets frames is = tt

not_reading : (phase : Phase) → place_at_fault phase ≡ Reading → ⊥
not_reading FirstHeader is = cc
not_reading Exchange is = cc
not_reading SecondHeader is = cc
not_reading Open is = cc

over_not_reading : Over Untold ≡ Reading → ⊥
over_not_reading is = cc

-- octets that are refused, so that the engine is over
serving_refused : (before after : Connection) (octets piece taken : List ℕ) (fault : EngineFault) (last : List What) (said : List ℕ) (h : IsServing before octets taken)
    → IsUnfinished before.ahead h.stream.behind h.stream.told h.stream.said → Went (and_piece (feed_state_of before) piece) (feed_state_of after) last said
    → after.frames ≡ before.frames → after.frame_ends ≡ before.frame_ends → StopsFor fault after.ahead last said → IsStopped after.ahead last said × IsTurnedAway after.ahead → after.place ≡ Over Untold
    → IsServing after (octets ++ piece) taken
serving_refused before after octets piece taken fault last said h unfinished went frames frame_ends stopped why place =
    serving_on before after octets piece taken last said h unfinished went frames frame_ends (λ is. stop_unsaid fault after.ahead last said is stopped) (inr why.0)
    (λ is. absurd (over_not_reading (sym place ∙ is))) (λ is. why.0) (subst (λ (p : EngineState). IsOverFor p after.ahead after.frames) (sym place) (inl why.1))

-- octets that are no frame
serving_unframed : (before after : Connection) (octets piece taken : List ℕ) (last : List What) (said : List ℕ) (h : IsServing before octets taken)
    → IsUnfinished before.ahead h.stream.behind h.stream.told h.stream.said → Went (and_piece (feed_state_of before) piece) (feed_state_of after) last said
    → after.frames ≡ before.frames → after.frame_ends ≡ before.frame_ends → StopsFor faults.Frame after.ahead last said → after.place ≡ place_at_fault after.ahead.phase
    → IsServing after (octets ++ piece) taken
serving_unframed before after octets piece taken last said h unfinished went frames frame_ends stopped place =
    let why : IsStopped after.ahead last said = (stops.BadFrame, stopped.0, stopped.1, stopped.2) in
    serving_on before after octets piece taken last said h unfinished went frames frame_ends (λ is. stopped.2) (inr why)
    (λ is. absurd (not_reading after.ahead.phase (sym place ∙ is))) (λ is. why)
    (subst (λ (p : EngineState). IsOverFor p after.ahead after.frames) (sym place) (over_at_fault after.ahead.phase after.ahead.octets after.frames stopped.0))

serving_steps : (before after : Connection) (octets piece taken : List ℕ) (result : Result Unit EngineFault) (h : IsServing before octets taken)
    → IsUnfinished before.ahead h.stream.behind h.stream.told h.stream.said → AfterSteps (and_piece (feed_state_of before) piece) (feed_state_of after) result
    → after.frames ≡ before.frames → after.frame_ends ≡ before.frame_ends → after.place ≡ place_after result after.ahead.phase → stop_of result ≡ None
    → IsServing after (octets ++ piece) taken
serving_steps before after octets piece taken (Ok done) h unfinished did frames frame_ends place goes =
    serving_on before after octets piece taken [] [] h unfinished did.0 frames frame_ends (λ is. refl) (inl (refl, refl, refl, did.1)) (λ is. (refl, refl, refl, did.1)) (λ is. absurd (by (sym place ∙ is)))
    (subst (λ (p : EngineState). IsOverFor p after.ahead after.frames) (sym place) tt)
  where
    by : Reading ≡ Closing → ⊥
    by is = cc
serving_steps before after octets piece taken (Err faults.HeaderRefused) h unfinished did frames frame_ends place goes =
    serving_refused before after octets piece taken faults.HeaderRefused did.0 did.1 h unfinished did.2 frames frame_ends did.3 (header_refused after.ahead did.0 did.1 did.3) place
serving_steps before after octets piece taken (Err faults.Frame) h unfinished did frames frame_ends place goes = serving_unframed before after octets piece taken did.0 did.1 h unfinished did.2 frames frame_ends did.3 place
serving_steps before after octets piece taken (Err (faults.Port fault)) h unfinished did frames frame_ends place goes = absurd cc
serving_steps before after octets piece taken (Err faults.Over) h unfinished did frames frame_ends place goes = absurd did.3
serving_steps before after octets piece taken (Err faults.SaslRefused) h unfinished did frames frame_ends place goes =
    serving_refused before after octets piece taken faults.SaslRefused did.0 did.1 h unfinished did.2 frames frame_ends did.3 (name_refused after.ahead did.0 did.1 did.3) place
serving_steps before after octets piece taken (Err faults.Memory) h unfinished did frames frame_ends place goes = absurd cc

memory_stops : (result : Result Unit EngineFault) → result ≡ Err faults.Memory → stop_of result ≡ None → ⊥
memory_stops (Ok done) is goes = cc
memory_stops (Err faults.HeaderRefused) is goes = cc
memory_stops (Err faults.Frame) is goes = cc
memory_stops (Err (faults.Port fault)) is goes = cc
memory_stops (Err faults.Over) is goes = cc
memory_stops (Err faults.SaslRefused) is goes = cc
memory_stops (Err faults.Memory) is goes = cc

serving_piece : (before after : Connection) (octets piece taken : List ℕ) (result : Result Unit EngineFault) (h : IsServing before octets taken)
    → IsUnfinished before.ahead h.stream.behind h.stream.told h.stream.said → AfterPiece (feed_state_of before) (feed_state_of after) piece result
    → after.frames ≡ before.frames → after.frame_ends ≡ before.frame_ends → after.place ≡ place_after result after.ahead.phase → stop_of result ≡ None
    → IsServing after (octets ++ piece) taken
serving_piece before after octets piece taken result h unfinished (inl did) frames frame_ends place goes = serving_steps before after octets piece taken result h unfinished did frames frame_ends place goes
serving_piece before after octets piece taken result h unfinished (inr did) frames frame_ends place goes = absurd (memory_stops result did.0 goes)

-- a piece that was not looked at, where it is closing
serving_closing : (before : Connection) (octets piece taken : List ℕ) → before.place ≡ Closing → IsServing before octets taken → IsServing before (octets ++ piece) taken
serving_closing before octets piece taken place h = record {
  answers = h.answers;
  stream = record {
    steps = h.stream.steps;
    behind = h.stream.behind ++ piece;
    told = h.stream.told;
    said = h.stream.said;
    follows = piece_unkept octets h.stream.behind piece h.stream.steps before.ahead h.stream.follows;
    ends = inr (h.closes place);
    items_are = h.stream.items_are;
    answers_are = h.stream.answers_are;
  };
  reads = λ is. absurd (by (sym place ∙ is));
  closes = λ is. h.closes place;
  put = h.put;
  given = h.given;
  ticks = h.ticks;
  is_put = h.is_put;
  time_out = h.time_out;
  behind = h.behind;
  over = h.over;
}
  where
    by : Closing ≡ Reading → ⊥
    by is = cc

serving_at : (place : EngineState) (before after : Connection) (octets piece taken : List ℕ) (result : Result Unit EngineFault) → before.place ≡ place → is_over place ≡ false → FedAt place before after piece result
    → after.frames ≡ before.frames → after.frame_ends ≡ before.frame_ends → stop_of result ≡ None → IsServing before octets taken → IsServing after (octets ++ piece) taken
serving_at Reading before after octets piece taken result at going did frames frame_ends goes h = serving_piece before after octets piece taken result h (h.reads at) did.0 frames frame_ends did.1 goes
serving_at Closing before after octets piece taken result at going did frames frame_ends goes h =
    subst (λ (c : Connection). IsServing c (octets ++ piece) taken) (sym did.1) (serving_closing before octets piece taken at h)
serving_at (Over loss) before after octets piece taken result at going did frames frame_ends goes h = absurd cc

pub serving_fed : (before after : Connection) (octets piece taken : List ℕ) (result : Result Unit EngineFault) → is_over before.place ≡ false → FedAt before.place before after piece result
    → after.frames ≡ before.frames → after.frame_ends ≡ before.frame_ends → stop_of result ≡ None → IsServing before octets taken → IsServing after (octets ++ piece) taken
serving_fed before after octets piece taken result going did frames frame_ends goes h = serving_at before.place before after octets piece taken result refl going did frames frame_ends goes h

-- ---- the device is gone

-- what the router was told then
told_loss : (before after : Connection) (result : Result Unit EngineFault) → AfterLoss true before after result → stop_of result ≡ None → (after.items ≡ before.items ++ happened.Lost ∷ []) × (after.frames ≡ before.frames)
told_loss before after (Ok done) did goes = (ap (λ (c : Connection). c.items) did, ap (λ (c : Connection). c.frames) did)
told_loss before after (Err faults.HeaderRefused) did goes = absurd did.1
told_loss before after (Err faults.Frame) did goes = absurd did.1
told_loss before after (Err (faults.Port fault)) did goes = absurd cc
told_loss before after (Err faults.Over) did goes = absurd did.1
told_loss before after (Err faults.SaslRefused) did goes = absurd did.1
told_loss before after (Err faults.Memory) did goes = absurd cc

untold_loss : (before after : Connection) (result : Result Unit EngineFault) → AfterLoss false before after result → (after.items ≡ before.items ++ []) × (after.frames ≡ before.frames)
untold_loss before after result did = (ap (λ (c : Connection). c.items) did.1 ∙ sym (append-nil before.items), ap (λ (c : Connection). c.frames) did.1)

loss_by : (phase : Phase) (place : EngineState) (ahead : Ahead) (before after : Connection) (result : Result Unit EngineFault) → IsOverFor place ahead before.frames → AfterLoss (is_loss_due phase place) before after result
    → stop_of result ≡ None → (after.items ≡ before.items ++ loss_at phase) × (after.frames ≡ before.frames)
loss_by FirstHeader place ahead before after result over did goes = untold_loss before after result did
loss_by Exchange place ahead before after result over did goes = untold_loss before after result did
loss_by SecondHeader place ahead before after result over did goes = untold_loss before after result did
loss_by Open Reading ahead before after result over did goes = told_loss before after result did goes
loss_by Open Closing ahead before after result over did goes = told_loss before after result did goes
loss_by Open (Over Untold) ahead before after result over did goes = told_loss before after result did goes
loss_by Open (Over Told) ahead before after result over did goes = absurd over
loss_by Open (Over Refused) ahead before after result over did goes = absurd over

pub serving_gone : (before after : Connection) (octets taken : List ℕ) (result : Result Unit EngineFault) → AfterLoss (is_loss_due before.ahead.phase before.place) before after result → stop_of result ≡ None
    → IsServing before octets taken → (after.items ≡ before.items ++ loss_at before.ahead.phase) × (after.frames ≡ before.frames)
serving_gone before after octets taken result did goes h = loss_by before.ahead.phase before.place before.ahead before after result h.over did goes
