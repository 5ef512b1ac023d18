-- What an event does to links and deliveries, by the events before it.
use Rattle.std.specs.Prelude.{◌≡◌, true, Contains, is_some, nat_eq}
use Rattle.std.specs.List.{IsDistinct}
use Rattle.number_groups.specs.Numbers.{is_among}
use Rattle.trace_events.specs.Event.{Event, Outgoing}
use Rattle.trace_events.specs.Outgoing.{answering, outgoing_deliveries}
use Rattle.trace_events.specs.View.{Events}
use Rattle.state_outgoing.specs.Sent.{is_left_unsettled}
use Rattle.state_tables.specs.EndedLinks.{AreEnded, views}
use Rattle.state_answers.specs.declared.effects.EventEffects.{EventEffects}

-- these are what the event does behind the history
pub record AreEffects (e : Event) (history : Events) (effects : EventEffects) : Type 0 where
  -- just these links live there and end with it
  pub ended : AreEnded e history (views effects.ended.items)
  -- each delivery to a client that is left unsettled there, and of which its consumer speaks with it, is among these; there may
  -- be others
  pub spoken : (j : Outgoing) → Contains (outgoing_deliveries history) j → is_left_unsettled history j ≡ true → is_some (answering j e) ≡ true → is_among effects.spoken.items j.number ≡ true
  -- of which none stands there twice
  pub distinct : IsDistinct nat_eq effects.spoken.items
