-- What stands behind each record, of the link that is picked: numbers of the law.
use Rattle.std.specs.Prelude.{◌≡◌, ℕ, ◌==◌, List, [], ◌∷◌, ◌++◌, Option, None, option_and_then, option_map}
use Rattle.capture_form.specs.Rules.{RuleSet}
use Rattle.trace_events.specs.Words.{is_some_and, or_else, where_passes}
use Rattle.trace_events.specs.Event.{Event, Link, Moment}
use Rattle.trace_events.specs.Link.{is_consumer, live_link}
use Rattle.trace_events.specs.Credit.{is_draining, link_credit}
use Rattle.trace_events.specs.Window.{session_window}
use Rattle.state_incoming.specs.WaitingCount.{waiting_count}
use Rattle.state_outgoing.specs.UnsettledCount.{unsettled_count}
use Rattle.svg_text.specs.Numbers.{most}
use Rattle.credit_chart.specs.declared.level.Level.{Level}
use Rattle.credit_chart.specs.Thinned.{AreThinned}
use Rattle.credit_levels.specs.declared.pick.Pick.{Pick}
use Rattle.credit_levels.specs.declared.pick.PickedLink.{PickedLink}
use Rattle.credit_levels.specs.declared.levels.Levels.{Levels}
use Rattle.credit_levels.specs.Pick.{attached}

-- Behind a record are the events up to it, the newest first.

-- the link that stands at a place: the live one of the handle, if it opened in that record
abbrev pub link_at : PickedLink → List Event → Option Link
link_at place now = where_passes (λ l. l.number == place.number) (live_link place.connection place.channel place.handle now)

-- where the link stands that opened in the last record, of this number, if it is one of a consumer that is picked
abbrev pub opened : Pick → ℕ → ℕ → Moment → List Event → Option PickedLink
opened pick number connection moment now = where_passes (λ place. is_some_and (link_at place now) is_consumer) (attached pick number connection moment)

-- where the first such link stands
abbrev pub chosen : Pick → List Event → Option PickedLink
chosen pick [] = None
chosen pick (e ∷ past) = let earlier = chosen pick past in or_else earlier (opened pick e.number e.connection e.moment (e ∷ past))

-- ---- numbers

-- the link's credit, its session's window, how many deliveries wait at its address and how many are unsettled on it, each as a number of
-- 32 bits that stops at the largest, and whether its client drains it
abbrev pub level_on : RuleSet → List Event → Link → Level
level_on rules now l = record {
  credit = link_credit l now;
  window = session_window l.session now;
  waiting = most (waiting_count rules l.address now);
  unsettled = most (unsettled_count l now);
  is_draining = is_draining l now;
}

-- what stands at a place, if a link lives there
abbrev pub level_at : RuleSet → PickedLink → List Event → Option Level
level_at rules place now = option_map (level_on rules now) (link_at place now)

-- what stands behind the last record, of the link that is picked, if that lives
abbrev pub level_of : Pick → RuleSet → List Event → Option Level
level_of pick rules now = option_and_then (λ place. level_at rules place now) (chosen pick now)

-- what stands behind each record, the oldest first
abbrev pub levels_of : Pick → RuleSet → List Event → List (Option Level)
levels_of pick rules [] = []
levels_of pick rules (e ∷ past) = let earlier = levels_of pick rules past in earlier ++ level_of pick rules (e ∷ past) ∷ []

-- ---- values of the code

-- what was taken is that of these records, judged by these rules; what stands behind each is thinned
pub record AreOf (pick : Pick) (rules : RuleSet) (taken : Levels) (past : List Event) : Type 0 where
  pub asks : taken.pick ≡ pick
  pub place : taken.place ≡ chosen pick past
  pub levels : AreThinned (levels_of pick rules past) taken.levels
