-- An engine between two turns, without its port.
use Rattle.std.specs.Prelude.{ℕ, Bool, List, Option}
use Rattle.capture_form.specs.declared.records.What.{What}
use Rattle.stream_reading.specs.Steps.{Ahead}
use Rattle.conn_engine.specs.declared.frame_ends.FrameEnds.{FrameEnds}
use Rattle.conn_engine.specs.declared.engine_state.EngineState.{EngineState}
use Rattle.conn_engine.specs.declared.silence.Silence.{Silence}
use Rattle.conn_engine.specs.Serving.{Connection}

-- what is of a connection, but what its port tells
pub record Paused : Type 0 where
  pub number : ℕ
  pub ahead : Ahead
  pub waiting : List ℕ
  pub frame_ends : FrameEnds
  pub place : EngineState
  pub time_out : Option ℕ
  pub silence : Silence

abbrev pub paused : Connection → Paused
paused c = record { number = c.number; ahead = c.ahead; waiting = c.waiting; frame_ends = c.frame_ends; place = c.place; time_out = c.time_out; silence = c.silence }

-- the connection, with what a port tells
abbrev pub resumed : Paused → List What → List (List ℕ) → Bool → Connection
resumed p items frames is_idle =
    record { number = p.number; items = items; frames = frames; ahead = p.ahead; waiting = p.waiting; is_idle = is_idle; frame_ends = p.frame_ends; place = p.place; time_out = p.time_out; silence = p.silence }
