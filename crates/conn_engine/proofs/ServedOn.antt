-- What holds of a gate and its engine, behind a call more.
use Rattle.std.specs.List.{concat}
use Rattle.std.proofs.Common.{◌≡◌, ℕ, ◌⊎◌, Bool, true, List, [], ◌++◌, take, sym, ap, ◌∙◌, subst, inl, inr, Option, None, Result, Ok, Err, OnOk}
use Rattle.capture_form.specs.declared.records.What.{What}
use Rattle.stream_reading.specs.declared.step.Phase.TheVariants.{FirstHeader}
use Rattle.stream_reading.specs.Steps.{Ahead}
use Rattle.conn_engine.specs.declared.fault.EngineFault.{EngineFault}
use Rattle.conn_engine.specs.declared.engine_state.Loss.TheVariants.{Untold, Told, Refused}
use Rattle.conn_engine.specs.declared.engine_state.EngineState.{EngineState}
use Rattle.conn_engine.specs.declared.engine_state.EngineState.TheVariants.{Reading, Closing, Over}
use Rattle.conn_engine.specs.Closing.{is_over}
use Rattle.conn_engine.specs.FrameEnds.{no_frame_ends}
use Rattle.conn_engine.specs.Silence.{is_asked, no_silence}
use Rattle.conn_engine.specs.Device.{KeepsTold, TellsMore}
use Rattle.conn_engine.specs.Lacing.{IsLaced}
use Rattle.conn_engine.specs.Serving.{Connection}
use Rattle.conn_engine.specs.Taking.{AfterLoss, is_loss_due}
use Rattle.conn_engine.specs.declared.serving.Status.{Status}
use Rattle.conn_engine.specs.declared.serving.Status.TheVariants.{Open}
use Rattle.conn_engine.specs.declared.serving.Turn.{Turn}
use Rattle.conn_engine.specs.declared.serving.Motion.{Motion}
use Rattle.conn_engine.specs.declared.serving.Motion.TheVariants as motions
use Rattle.conn_engine.specs.declared.script.Script.{Script}
use Rattle.conn_engine.specs.Scripts.{StandsFor, octets_taken}
use Rattle.conn_engine.specs.Served.{HasCause, IsNoted, IsOpen, IsOverFor, IsServed, IsServedAsNoted, IsServing, LineHolds, status_after, stop_of}
use Rattle.conn_engine.proofs.Laced.{stands_taken}
use Rattle.conn_engine.proofs.Serves.{serving_gone, serving_new}

pub open_new : {G : Type 0} (Delivered Took : G → List ℕ → Type 0) (gate : G) (number : ℕ) (idle : Bool) (items : List What) (frames : List (List ℕ)) (e : Connection) (Stands : List ℕ → List ℕ → List ℕ → Type 0)
    → e ≡ record { number = number; items = items; frames = frames; ahead = record { phase = FirstHeader; octets = [] }; waiting = []; is_idle = idle; frame_ends = no_frame_ends; place = Reading; time_out = None; silence = no_silence }
    → items ≡ [] → frames ≡ [] → Stands [] [] [] → Delivered gate [] → Took gate [] → IsOpen Delivered Took gate e Stands
open_new Delivered Took gate number idle items frames e Stands is no_items no_frames stands delivered took = record {
  octets = [];
  taken = [];
  delivered = delivered;
  took = took;
  noted = record {
    serving = serving_new number idle items frames e is no_items no_frames;
    stands =
        subst (λ (c : Connection). Stands (concat c.frames) [] c.waiting) (sym is)
        (subst (λ (t : List (List ℕ)). Stands (concat t) [] []) (sym no_frames) stands);
  };
}

-- the gate did something else
pub open_kept : {G : Type 0} (Delivered Took : G → List ℕ → Type 0) (gate later : G) (e : Connection) (Stands : List ℕ → List ℕ → List ℕ → Type 0) → KeepsTold Delivered gate later → KeepsTold Took gate later
    → IsOpen Delivered Took gate e Stands → IsOpen Delivered Took later e Stands
open_kept Delivered Took gate later e Stands delivered took h =
    record { octets = h.octets; taken = h.taken; delivered = delivered h.octets h.delivered; took = took h.taken h.took; noted = h.noted }

-- the engine did something that moves no octets
pub open_noted : {G : Type 0} (Delivered Took : G → List ℕ → Type 0) (gate : G) (before after : Connection) (Was Is : List ℕ → List ℕ → List ℕ → Type 0)
    → ((octets taken : List ℕ) → IsNoted before Was octets taken → IsNoted after Is octets taken) → IsOpen Delivered Took gate before Was → IsOpen Delivered Took gate after Is
open_noted Delivered Took gate before after Was Is noted h =
    record { octets = h.octets; taken = h.taken; delivered = h.delivered; took = h.took; noted = noted h.octets h.taken h.noted }

-- it took octets
pub open_written : {G : Type 0} (Delivered Took : G → List ℕ → Type 0) (gate done : G) (before after : Connection) (Was Is : List ℕ → List ℕ → List ℕ → Type 0) (n : ℕ) → KeepsTold Delivered gate done
    → TellsMore Took (take n before.waiting) gate done → ((octets taken : List ℕ) → IsNoted before Was octets taken → IsNoted after Is octets (taken ++ take n before.waiting))
    → IsOpen Delivered Took gate before Was → IsOpen Delivered Took done after Is
open_written Delivered Took gate done before after Was Is n delivered took noted h = record {
  octets = h.octets;
  taken = h.taken ++ take n before.waiting;
  delivered = delivered h.octets h.delivered;
  took = took h.taken h.took;
  noted = noted h.octets h.taken h.noted;
}

-- it delivered octets, which were fed
pub open_fed : {G : Type 0} (Delivered Took : G → List ℕ → Type 0) (gate done : G) (before after : Connection) (Was Is : List ℕ → List ℕ → List ℕ → Type 0) (piece : List ℕ) → TellsMore Delivered piece gate done
    → KeepsTold Took gate done → ((octets taken : List ℕ) → IsNoted before Was octets taken → IsNoted after Is (octets ++ piece) taken)
    → IsOpen Delivered Took gate before Was → IsOpen Delivered Took done after Is
open_fed Delivered Took gate done before after Was Is piece delivered took noted h = record {
  octets = h.octets ++ piece;
  taken = h.taken;
  delivered = delivered h.octets h.delivered;
  took = took h.taken h.took;
  noted = noted h.octets h.taken h.noted;
}

-- why an engine is over
over_cause : (place : EngineState) (has_ended : Bool) (ahead : Ahead) (frames : List (List ℕ)) (waiting : List ℕ) → is_over place ≡ true → waiting ≡ [] → IsOverFor place ahead frames → HasCause has_ended ahead frames waiting
over_cause Reading has_ended ahead frames waiting is none over = absurd cc
over_cause Closing has_ended ahead frames waiting is none over = absurd cc
over_cause (Over Untold) has_ended ahead frames waiting is none over = inr (over, none)
over_cause (Over Told) has_ended ahead frames waiting is none over = absurd over
over_cause (Over Refused) has_ended ahead frames waiting is none over = absurd over

cause : (place : EngineState) (has_ended later : Bool) (ahead : Ahead) (frames : List (List ℕ)) (waiting : List ℕ) → later ≡ has_ended → (has_ended ≡ true) ⊎ ((is_over place ≡ true) × (waiting ≡ []))
    → IsOverFor place ahead frames → HasCause later ahead frames waiting
cause place has_ended later ahead frames waiting same (inl is) over = inl (same ∙ is)
cause place has_ended later ahead frames waiting same (inr is) over = over_cause place later ahead frames waiting is.0 is.1 over

-- the router was told that it is gone, and it was shut
taken_gone : {G : Type 0} (Delivered Took : G → List ℕ → Type 0) (ended : G → Bool) (gate later : G) (before after : Connection) (octets taken : List ℕ) (result : Result Unit EngineFault)
    → (ended gate ≡ true) ⊎ ((is_over before.place ≡ true) × (before.waiting ≡ [])) → AfterLoss (is_loss_due before.ahead.phase before.place) before after result → stop_of result ≡ None
    → Delivered later octets → Took later taken → ended later ≡ ended gate → IsServing before octets taken → IsServed Delivered Took ended later after.items after.frames taken
taken_gone Delivered Took ended gate later before after octets taken result why did goes delivered took same h =
    let told = serving_gone before after octets taken result did goes h in
    record {
      octets = octets;
      delivered = delivered;
      ahead = before.ahead;
      told = before.items;
      answers = h.answers;
      stream = h.stream;
      items_are = told.0;
      took = took;
      put = h.put;
      written = record {
        count = h.ticks;
        laced = subst (λ (t : List (List ℕ)). IsLaced t h.ticks h.put) (sym told.1) h.is_put.laced;
        quiet = subst (λ (t : Option ℕ). (h.ticks ≡ 0) ⊎ (is_asked t ≡ true)) h.time_out h.is_put.quiet;
      };
      waiting = before.waiting;
      given = h.given;
      cause = subst (λ (t : List (List ℕ)). HasCause (ended later) before.ahead t before.waiting) (sym told.1) (cause before.place (ended gate) (ended later) before.ahead before.frames before.waiting same why h.over);
    }

pub served_gone : {G : Type 0} (Delivered Took : G → List ℕ → Type 0) (ended : G → Bool) (gate later : G) (before after : Connection) (Stands : List ℕ → List ℕ → List ℕ → Type 0) (result : Result Unit EngineFault)
    → (ended gate ≡ true) ⊎ ((is_over before.place ≡ true) × (before.waiting ≡ [])) → AfterLoss (is_loss_due before.ahead.phase before.place) before after result → stop_of result ≡ None
    → KeepsTold Delivered gate later → KeepsTold Took gate later → ended later ≡ ended gate → IsOpen Delivered Took gate before Stands
    → IsServedAsNoted Delivered Took ended later after.items after.frames Stands
served_gone Delivered Took ended gate later before after Stands result why did goes delivered took same h =
    let told = serving_gone before after h.octets h.taken result did goes h.noted.serving in
    record {
      taken = h.taken;
      waiting = before.waiting;
      stands = subst (λ (t : List (List ℕ)). Stands (concat t) h.taken before.waiting) (sym told.1) h.noted.stands;
      served = taken_gone Delivered Took ended gate later before after h.octets h.taken result why did goes (delivered h.octets h.delivered) (took h.taken h.took) same h.noted.serving;
    }

-- the octets for which a script stands are those that it tells
pub served_by_script : {G : Type 0} (Delivered Took : G → List ℕ → Type 0) (ended : G → Bool) (gate : G) (items : List What) (frames : List (List ℕ)) (script : Script)
    → IsServedAsNoted Delivered Took ended gate items frames (StandsFor script) → IsServed Delivered Took ended gate items frames (octets_taken script frames)
served_by_script Delivered Took ended gate items frames script h =
    subst (λ (t : List ℕ). IsServed Delivered Took ended gate items frames t) (sym (stands_taken script frames h.taken h.waiting h.stands)) h.served

-- a line that goes on
pub line_open : {G : Type 0} (Delivered Took : G → List ℕ → Type 0) (ended : G → Bool) (turn : Turn) (gate : G) (e : Connection) (Stands : List ℕ → List ℕ → List ℕ → Type 0) → status_after turn ≡ Open
    → IsOpen Delivered Took gate e Stands → LineHolds Delivered Took ended (status_after turn) gate e Stands
line_open Delivered Took ended turn gate e Stands is h = subst (λ (s : Status). LineHolds Delivered Took ended s gate e Stands) (sym is) h

-- why one does not
pub why_ended : {B : Type 0} (motion : Motion) (has_ended : Bool) → (motion ≡ motions.Gone → has_ended ≡ true) → (motion ≡ motions.Gone) ⊎ B → (has_ended ≡ true) ⊎ B
why_ended motion has_ended then (inl is) = inl (then is)
why_ended motion has_ended then (inr is) = inr is

-- what a call does where it succeeds, behind another
pub on_ok_behind : {T E P Q : Type 0} (R : Type 0) (result : Result T E) → (P → Q) → OnOk result (Q → R) → OnOk result (P → R)
on_ok_behind R (Ok done) first then = λ h. then (first h)
on_ok_behind R (Err fault) first then = tt
