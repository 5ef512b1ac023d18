-- Steps that an engine takes from the front of what is ahead.
use Rattle.std.proofs.Common.{◌≡◌, ℕ, ◌<◌, List, [], ◌∷◌, ◌++◌, length, take, drop, refl, sym, ap, ◌∙◌, subst, inl, inr, append_assoc, arith, Option, true, Ok}
use Rattle.std.proofs.lemmas.List.{append-nil, length-append}
use Rattle.std.proofs.Math.Seq.{drop-append_seam, take-append_seam}
use Rattle.std.proofs.lemmas.Grind.{flat_map-append}
use Rattle.amqp_frames.specs.declared.frame.FrameKind.{FrameKind}
use Rattle.amqp_frames.specs.declared.frame.FrameKind.TheVariants as kinds
use Rattle.amqp_frames.specs.Frame.{code_of}
use Rattle.capture_form.specs.declared.records.What.{What}
use Rattle.stream_reading.specs.declared.step.Phase.{Phase}
use Rattle.stream_reading.specs.declared.step.Phase.TheVariants.{FirstHeader, Exchange, SecondHeader, Open}
use Rattle.stream_reading.specs.declared.step.Event.{Event}
use Rattle.stream_reading.specs.declared.step.Event.TheVariants.{SaslHeader, AnonymousInit, AmqpHeader, AmqpFrame}
use Rattle.stream_reading.specs.declared.step.StreamFault.{StreamFault}
use Rattle.stream_reading.specs.declared.step.StreamFault.TheVariants as stops
use Rattle.stream_reading.specs.Stream.{BeginsWith, IsAnonymousInit, IsFrameOf, IsRefused, MayStand, phase_after, answer_to, answer_to_fault}
use Rattle.stream_reading.specs.Steps.{Ahead, MayFollow, StepText, answers_to, octets_of}
use Rattle.conn_engine.specs.declared.fault.EngineFault.{EngineFault}
use Rattle.conn_engine.specs.declared.fault.EngineFault.TheVariants as faults
use Rattle.conn_engine.specs.Serving.{items_in, items_of}
use Rattle.conn_engine.specs.Silence.{time_out_at}
use Rattle.conn_engine.proofs.TimeOuts.{time_out_on}
use Rattle.conn_engine.specs.Feeding.{AfterStep, FaultTold, ItemRefused, Stopped, StepRefused, StopsFor, FeedState, ToldMore, feed_state, Went, engine_fault, items_at_fault}

-- ---- one after the other

pub follow_all : (phase mid next : Phase) (steps more : List StepText) → MayFollow phase steps mid → MayFollow mid more next → MayFollow phase (steps ++ more) next
follow_all phase mid next [] more at then = subst (λ (p : Phase). MayFollow p more next) at then
follow_all phase mid next (step ∷ steps) more at then = (at.0, follow_all (phase_after step.event) mid next steps more at.1 then)

pub octets_all : (steps more : List StepText) → octets_of (steps ++ more) ≡ octets_of steps ++ octets_of more
octets_all steps more = flat_map-append (λ (s : StepText). s.octets) steps more

pub items_all : (steps more : List StepText) → items_of (steps ++ more) ≡ items_of steps ++ items_of more
items_all steps more = flat_map-append (λ (s : StepText). items_in s.event s.octets) steps more

pub answers_all : (steps more : List StepText) → answers_to (steps ++ more) ≡ answers_to steps ++ answers_to more
answers_all steps more = flat_map-append (λ (s : StepText). answer_to s.event) steps more

-- three parts, the last of which is itself two
regrouped : {A : Type 0} (a b c d : List A) → (a ++ (b ++ [])) ++ (c ++ d) ≡ a ++ ((b ++ c) ++ d)
regrouped a b c d = simp (append_assoc, append-nil)

-- no step
pub went_none : (t : FeedState) → Went t t [] []
went_none t = record { steps = []; parts = refl; follow = refl; items = sym (append-nil t.items); waiting = sym (append-nil t.waiting); time_out = refl }

-- some, and then others
pub went_on : (before mid after : FeedState) (last : List What) (said : List ℕ) → Went before mid [] [] → Went mid after last said → Went before after last said
went_on before mid after last said first then = record {
  steps = first.steps ++ then.steps;
  parts =
      first.parts ∙ ap (λ (t : List ℕ). octets_of first.steps ++ t) then.parts ∙ sym (append_assoc (octets_of first.steps) (octets_of then.steps) after.ahead.octets)
      ∙ ap (λ (t : List ℕ). t ++ after.ahead.octets) (sym (octets_all first.steps then.steps));
  follow = follow_all before.ahead.phase mid.ahead.phase after.ahead.phase first.steps then.steps first.follow then.follow;
  items =
      then.items ∙ ap (λ (t : List What). t ++ (items_of then.steps ++ last)) first.items
      ∙ regrouped before.items (items_of first.steps) (items_of then.steps) last
      ∙ ap (λ (t : List What). before.items ++ (t ++ last)) (sym (items_all first.steps then.steps));
  waiting =
      then.waiting ∙ ap (λ (t : List ℕ). t ++ (answers_to then.steps ++ said)) first.waiting
      ∙ regrouped before.waiting (answers_to first.steps) (answers_to then.steps) said
      ∙ ap (λ (t : List ℕ). before.waiting ++ (t ++ said)) (sym (answers_all first.steps then.steps));
  time_out = time_out_on before.time_out mid.time_out after.time_out first.steps then.steps first.time_out then.time_out;
}

pub stopped_on : (before mid after : FeedState) (fault : EngineFault) → Went before mid [] [] → Stopped mid after fault → Stopped before after fault
stopped_on before mid after fault first then = (then.0, then.1, went_on before mid after then.0 then.1 first then.2, then.3)

-- ---- one step

-- what is behind the first octets
pub behind_front : (octets front : List ℕ) → BeginsWith octets front → octets ≡ front ++ drop (length front) octets
behind_front octets front begins = begins.1 ∙ ap (λ (t : List ℕ). front ++ t) (sym (drop-append_seam front begins.0) ∙ ap (λ (t : List ℕ). drop (length front) t) (sym begins.1))

pub front_is : (octets front : List ℕ) → BeginsWith octets front → take (length front) octets ≡ front
front_is octets front begins = ap (λ (t : List ℕ). take (length front) t) begins.1 ∙ take-append_seam front begins.0

-- a step that was taken, told and answered
pub went_step : (items items_then : List What) (ahead : Ahead) (waiting waiting_then : List ℕ) (time_out : Option ℕ) (event : Event) (octets : List ℕ)
    → MayStand ahead.phase event octets → BeginsWith ahead.octets octets → items_then ≡ items ++ items_in event octets → waiting_then ≡ waiting ++ answer_to event
    → Went (feed_state items ahead waiting time_out) (feed_state items_then (record { phase = phase_after event; octets = drop (length octets) ahead.octets }) waiting_then (time_out_at time_out event octets)) [] []
went_step items items_then ahead waiting waiting_then time_out event octets stands begins told answered = record {
  steps = record { event = event; octets = octets } ∷ [];
  parts = behind_front ahead.octets octets begins ∙ ap (λ (t : List ℕ). t ++ drop (length octets) ahead.octets) (sym (append-nil octets));
  follow = (stands, refl);
  items = told ∙ ap (λ (t : List What). items ++ t) (sym (append-nil (items_in event octets ++ []) ∙ append-nil (items_in event octets)));
  waiting = answered ∙ ap (λ (t : List ℕ). waiting ++ t) (sym (append-nil (answer_to event ++ []) ∙ append-nil (answer_to event)));
  time_out = refl;
}

-- nothing was taken, and this was told and said
pub went_last : (items items_then : List What) (ahead : Ahead) (waiting waiting_then : List ℕ) (time_out : Option ℕ) (last : List What) (said : List ℕ) → items_then ≡ items ++ last → waiting_then ≡ waiting ++ said
    → Went (feed_state items ahead waiting time_out) (feed_state items_then ahead waiting_then time_out) last said
went_last items items_then ahead waiting waiting_then time_out last said told answered = record { steps = []; parts = refl; follow = refl; items = told; waiting = answered; time_out = refl }

-- a step has octets
longer : (a b c d : List ℕ) (x y : ℕ) → 0 < length (a ++ (x ∷ y ∷ []) ++ b ++ c ++ d)
longer a b c d x y =
    omega (arith, length-append a (x ∷ y ∷ []), length-append (a ++ (x ∷ y ∷ [])) b, length-append (a ++ (x ∷ y ∷ []) ++ b) c, length-append (a ++ (x ∷ y ∷ []) ++ b ++ c) d)

frame_long : (kind : FrameKind) (octets : List ℕ) → IsFrameOf kind octets → 0 < length octets
frame_long kind octets is =
    subst (λ (t : List ℕ). 0 < length t) is.3 (subst (λ (t : List ℕ). 0 < length t) (sym is.1.parts) (longer is.1.size is.1.channel is.1.extended is.0.body is.1.offset (code_of is.0.kind)))

init_long : (octets : List ℕ) → IsAnonymousInit octets → 0 < length octets
init_long octets is = frame_long kinds.Sasl octets (is.0, is.1, is.2, is.3)

pub step_long : (phase : Phase) (event : Event) (octets : List ℕ) → MayStand phase event octets → 0 < length octets
step_long FirstHeader SaslHeader octets stands = omega (arith, ap length stands)
step_long FirstHeader AnonymousInit octets stands = absurd stands
step_long FirstHeader AmqpHeader octets stands = omega (arith, ap length stands)
step_long FirstHeader AmqpFrame octets stands = absurd stands
step_long Exchange SaslHeader octets stands = absurd stands
step_long Exchange AnonymousInit octets stands = init_long octets stands
step_long Exchange AmqpHeader octets stands = absurd stands
step_long Exchange AmqpFrame octets stands = absurd stands
step_long SecondHeader SaslHeader octets stands = absurd stands
step_long SecondHeader AnonymousInit octets stands = absurd stands
step_long SecondHeader AmqpHeader octets stands = omega (arith, ap length stands)
step_long SecondHeader AmqpFrame octets stands = absurd stands
step_long Open SaslHeader octets stands = absurd stands
step_long Open AnonymousInit octets stands = absurd stands
step_long Open AmqpHeader octets stands = absurd stands
step_long Open AmqpFrame octets stands = frame_long kinds.Amqp octets stands

-- what is ahead gets less
shorter : (octets front : List ℕ) → BeginsWith octets front → 0 < length front → length (drop (length front) octets) < length octets
shorter octets front begins long = omega (arith, long, ap length (behind_front octets front begins) ∙ length-append front (drop (length front) octets))

-- what was done with a step
pub took_step : (items items_then : List What) (ahead after : Ahead) (waiting waiting_then : List ℕ) (time_out time_out_then : Option ℕ) (event : Event) (octets : List ℕ)
    → MayStand ahead.phase event octets → BeginsWith ahead.octets octets → items_then ≡ items ++ items_in event octets → waiting_then ≡ waiting ++ answer_to event
    → time_out_then ≡ time_out_at time_out event octets → after ≡ record { phase = phase_after event; octets = drop (length octets) ahead.octets }
    → AfterStep (feed_state items ahead waiting time_out) (feed_state items_then after waiting_then time_out_then) (Ok true)
took_step items items_then ahead after waiting waiting_then time_out time_out_then event octets stands begins told answered kept is =
    subst (λ (a : Ahead). AfterStep (feed_state items ahead waiting time_out) (feed_state items_then a waiting_then time_out_then) (Ok true)) (sym is) (
      subst (λ (t : Option ℕ). Went (feed_state items ahead waiting time_out) (feed_state items_then (record { phase = phase_after event; octets = drop (length octets) ahead.octets }) waiting_then t) [] []) (sym kept)
          (went_step items items_then ahead waiting waiting_then time_out event octets stands begins told answered),
      shorter ahead.octets octets begins (step_long ahead.phase event octets stands),
    )

-- ---- why no further one is taken

-- what the router did not take, behind its answer
item_refused : (ahead : Ahead) (event : Event) (octets : List ℕ) → MayStand ahead.phase event octets → BeginsWith ahead.octets octets → phase_after event ≡ Open → ItemRefused ahead (answer_to event)
item_refused ahead AmqpHeader octets stands begins is = inr (octets, refl, stands, begins)
item_refused ahead AmqpFrame octets stands begins is = inl (refl, frame_phase ahead.phase octets stands)
  where
    frame_phase : (phase : Phase) (octets : List ℕ) → MayStand phase AmqpFrame octets → phase ≡ Open
    frame_phase FirstHeader octets stands = absurd stands
    frame_phase Exchange octets stands = absurd stands
    frame_phase SecondHeader octets stands = absurd stands
    frame_phase Open octets stands = refl
item_refused ahead SaslHeader octets stands begins is = absurd cc
item_refused ahead AnonymousInit octets stands begins is = absurd cc

-- a step that was answered, or not, and not told
pub step_refused : (items items_then : List What) (ahead : Ahead) (waiting waiting_then : List ℕ) (time_out : Option ℕ) (event : Event) (octets : List ℕ) (fault : EngineFault)
    → MayStand ahead.phase event octets → BeginsWith ahead.octets octets → items_then ≡ items → StepRefused event waiting waiting_then fault → Stopped (feed_state items ahead waiting time_out) (feed_state items_then ahead waiting_then time_out) fault
step_refused items items_then ahead waiting waiting_then time_out event octets (faults.Port fault) stands begins same refused =
    ([], answer_to event, went_last items items_then ahead waiting waiting_then time_out [] (answer_to event) (same ∙ sym (append-nil items)) refused.1, (refl, item_refused ahead event octets stands begins refused.0))
step_refused items items_then ahead waiting waiting_then time_out event octets faults.Memory stands begins same (inl is) =
    ([], [], went_last items items_then ahead waiting waiting_then time_out [] [] (same ∙ sym (append-nil items)) (is ∙ sym (append-nil waiting)), (refl, inl refl))
step_refused items items_then ahead waiting waiting_then time_out event octets faults.Memory stands begins same (inr refused) =
    ([], answer_to event, went_last items items_then ahead waiting waiting_then time_out [] (answer_to event) (same ∙ sym (append-nil items)) refused.1, (refl, inr (item_refused ahead event octets stands begins refused.0)))
step_refused items items_then ahead waiting waiting_then time_out event octets faults.HeaderRefused stands begins same refused = absurd refused
step_refused items items_then ahead waiting waiting_then time_out event octets faults.Frame stands begins same refused = absurd refused
step_refused items items_then ahead waiting waiting_then time_out event octets faults.Over stands begins same refused = absurd refused
step_refused items items_then ahead waiting waiting_then time_out event octets faults.SaslRefused stands begins same refused = absurd refused

-- a fault of the stream that was told and said
pub fault_stops : (phase : Phase) (octets : List ℕ) (fault : StreamFault) → IsRefused phase octets fault → StopsFor (engine_fault fault) (record { phase = phase; octets = octets }) (items_at_fault phase) (answer_to_fault fault)
fault_stops FirstHeader octets stops.HeaderRefused is = (is, refl, refl)
fault_stops FirstHeader octets stops.BadFrame is = absurd is
fault_stops FirstHeader octets stops.SaslRefused is = absurd is
fault_stops Exchange octets stops.HeaderRefused is = absurd is
fault_stops Exchange octets stops.BadFrame is = (is, refl, refl)
fault_stops Exchange octets stops.SaslRefused is = (is, refl, refl)
fault_stops SecondHeader octets stops.HeaderRefused is = (is, refl, refl)
fault_stops SecondHeader octets stops.BadFrame is = absurd is
fault_stops SecondHeader octets stops.SaslRefused is = absurd is
fault_stops Open octets stops.HeaderRefused is = absurd is
fault_stops Open octets stops.BadFrame is = (is, refl, refl)
fault_stops Open octets stops.SaslRefused is = absurd is

-- where frames are due nothing is said to it
pub unsaid_in_open : (octets : List ℕ) (fault : StreamFault) → IsRefused Open octets fault → answer_to_fault fault ≡ []
unsaid_in_open octets stops.HeaderRefused is = absurd is
unsaid_in_open octets stops.BadFrame is = refl
unsaid_in_open octets stops.SaslRefused is = absurd is

-- or was not taken
untold_in_open : (ahead : Ahead) (fault : StreamFault) (said : List ℕ) → IsRefused ahead.phase ahead.octets fault → ahead.phase ≡ Open → said ≡ answer_to_fault fault → ItemRefused ahead said
untold_in_open ahead fault said is open_phase same = inl (same ∙ unsaid_in_open ahead.octets fault (subst (λ (p : Phase). IsRefused p ahead.octets fault) open_phase is), open_phase)

stops_as : (ahead : Ahead) (fault : StreamFault) (answered : EngineFault) (last : List What) (said : List ℕ) → IsRefused ahead.phase ahead.octets fault
    → answered ≡ engine_fault fault → last ≡ items_at_fault ahead.phase → said ≡ answer_to_fault fault → StopsFor answered ahead last said
stops_as ahead fault answered last said is answers told same =
    subst (λ (a : EngineFault). StopsFor a ahead last said) (sym answers) (subst (λ (l : List What). StopsFor (engine_fault fault) ahead l said) (sym told)
    (subst (λ (t : List ℕ). StopsFor (engine_fault fault) ahead (items_at_fault ahead.phase) t) (sym same) (fault_stops ahead.phase ahead.octets fault is)))

pub fault_told : (ahead : Ahead) (fault : StreamFault) (answered : EngineFault) (last : List What) (said : List ℕ) → IsRefused ahead.phase ahead.octets fault
    → FaultTold ahead.phase fault last said answered → StopsFor answered ahead last said
fault_told ahead fault (faults.Port refusal) last said is told = (told.1, untold_in_open ahead fault said is told.0 told.2)
fault_told ahead fault faults.Memory last said is (none, inl unsaid) = (none, inl unsaid)
fault_told ahead fault faults.Memory last said is (none, inr (open_phase, same)) = (none, inr (untold_in_open ahead fault said is open_phase same))
fault_told ahead fault faults.HeaderRefused last said is told = stops_as ahead fault faults.HeaderRefused last said is told.0 told.1 told.2
fault_told ahead fault faults.Frame last said is told = stops_as ahead fault faults.Frame last said is told.0 told.1 told.2
fault_told ahead fault faults.Over last said is told = stops_as ahead fault faults.Over last said is told.0 told.1 told.2
fault_told ahead fault faults.SaslRefused last said is told = stops_as ahead fault faults.SaslRefused last said is told.0 told.1 told.2

pub fault_stopped : (items items_then : List What) (ahead : Ahead) (waiting waiting_then : List ℕ) (time_out : Option ℕ) (fault : StreamFault) (answered : EngineFault) → IsRefused ahead.phase ahead.octets fault
    → ToldMore items items_then waiting waiting_then (λ last said. FaultTold ahead.phase fault last said answered) → Stopped (feed_state items ahead waiting time_out) (feed_state items_then ahead waiting_then time_out) answered
fault_stopped items items_then ahead waiting waiting_then time_out fault answered is told =
    (told.0, told.1, went_last items items_then ahead waiting waiting_then time_out told.0 told.1 told.2 told.3, fault_told ahead fault answered told.0 told.1 is told.4)
