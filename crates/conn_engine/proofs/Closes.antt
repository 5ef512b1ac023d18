-- Where closes are among the frames of an engine, behind a call more.
use Rattle.std.proofs.Common.{◌≡◌, ℕ, Bool, true, false, ◌||◌, List, ◌++◌, refl, ap, sym, ◌∙◌, inl, inr, Option, Some, None, is_some, nat_le, if◌then◌else◌}
use Rattle.std.specs.List.{list_any}
use Rattle.std.proofs.lemmas.List.Folds.{list_any-append}
use Rattle.stream_reading.specs.Steps.{Ahead}
use Rattle.conn_engine.specs.declared.engine_state.Loss.TheVariants.{Untold, Told, Refused}
use Rattle.conn_engine.specs.declared.engine_state.EngineState.{EngineState}
use Rattle.conn_engine.specs.declared.engine_state.EngineState.TheVariants.{Reading, Closing, Over}
use Rattle.conn_engine.specs.Closing.{over_of, place_given}
use Rattle.conn_engine.specs.Said.{is_close}
use Rattle.conn_engine.specs.Served.{HasClose, IsOverFor}

has_on : (frames more : List (List ℕ)) → HasClose frames → HasClose (frames ++ more)
has_on frames more is = list_any-append is_close frames more ∙ ap (λ (b : Bool). b || list_any is_close more) is

pub over_on : (place : EngineState) (ahead : Ahead) (frames more : List (List ℕ)) → IsOverFor place ahead frames → IsOverFor place ahead (frames ++ more)
over_on Reading ahead frames more is = tt
over_on Closing ahead frames more is = tt
over_on (Over Untold) ahead frames more (inl is) = inl is
over_on (Over Untold) ahead frames more (inr is) = inr (has_on frames more is)
over_on (Over Told) ahead frames more is = absurd is
over_on (Over Refused) ahead frames more is = absurd is

-- ---- where the first octets were given

over_by : (place : EngineState) (b : Bool) (ahead : Ahead) (frames : List (List ℕ)) → HasClose frames → IsOverFor place ahead frames → IsOverFor (if b then over_of place else place) ahead frames
over_by place false ahead frames close is = is
over_by Reading true ahead frames close is = inr close
over_by Closing true ahead frames close is = inr close
over_by (Over loss) true ahead frames close is = is

pub over_given : (place : EngineState) (close : Option ℕ) (n : ℕ) (ahead : Ahead) (frames : List (List ℕ)) → is_some close ≡ list_any is_close frames → IsOverFor place ahead frames → IsOverFor (place_given place close n) ahead frames
over_given place None n ahead frames ends_are is = is
over_given place (Some end) n ahead frames ends_are is = over_by place (nat_le end n) ahead frames (sym ends_are) is

reading_by : (place : EngineState) (b : Bool) → (if b then over_of place else place) ≡ Reading → place ≡ Reading
reading_by place false is = is
reading_by Reading true is = refl
reading_by Closing true is = absurd cc
reading_by (Over loss) true is = absurd cc

pub reading_given : (place : EngineState) (close : Option ℕ) (n : ℕ) → place_given place close n ≡ Reading → place ≡ Reading
reading_given place None n is = is
reading_given place (Some end) n is = reading_by place (nat_le end n) is

closing_by : (place : EngineState) (b : Bool) → (if b then over_of place else place) ≡ Closing → place ≡ Closing
closing_by place false is = is
closing_by Reading true is = absurd cc
closing_by Closing true is = refl
closing_by (Over loss) true is = absurd cc

pub closing_given : (place : EngineState) (close : Option ℕ) (n : ℕ) → place_given place close n ≡ Closing → place ≡ Closing
closing_given place None n is = is
closing_given place (Some end) n is = closing_by place (nat_le end n) is
