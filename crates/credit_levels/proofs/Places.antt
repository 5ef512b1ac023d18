-- The link at a place, and what stands there, with one record more.
use Rattle.std.proofs.Common.{◌≡◌, ◌∙◌, ℕ, Bool, true, false, Option, Some, None, List, [], ◌∷◌, ◌++◌, length, option_and_then, ap, subst}
use Rattle.std.specs.Prelude.{IfSome, if◌then◌else◌}
use Rattle.capture_form.specs.Rules.{RuleSet}
use Rattle.capture_form.specs.declared.records.Record.{Record}
use Rattle.trace_events.specs.Words.{or_else, where_passes}
use Rattle.trace_events.specs.Event.{Event, Link}
use Rattle.trace_events.specs.declared.session.Session.{Session}
use Rattle.trace_events.specs.Session.{IsLiveOn, live_session}
use Rattle.trace_events.specs.History.{judge, moment_of}
use Rattle.trace_events.specs.Link.{IsLiveLink, live_link, session_link}
use Rattle.trace_events.proofs.LiveLinks.{live-link}
use Rattle.credit_chart.specs.declared.level.Level.{Level}
use Rattle.credit_chart.specs.declared.thinned.Thinned.{Thinned}
use Rattle.credit_chart.specs.Thinned.{AreThinned}
use Rattle.credit_levels.specs.declared.pick.Pick.{Pick}
use Rattle.credit_levels.specs.declared.pick.PickedLink.{PickedLink}
use Rattle.credit_levels.specs.Levels.{chosen, level_at, levels_of, opened}

-- what holds of a value holds where it passes a test
pub passes_so : (P : Link → Type 0) (test : Link → Bool) (o : Option Link) → IfSome o P → IfSome (where_passes test o) P
passes_so P test None so = tt
passes_so P test (Some l) so = by (test l)
  where
    by : (b : Bool) → IfSome (if b then Some l else None) P
    by true = so
    by false = tt

-- the link of a handle on the live session
pub on_session : (c channel handle : ℕ) (past : List Event) (s : Session) → live_session c channel past ≡ Some s → live_link c channel handle past ≡ session_link s handle past
on_session c channel handle past s is = ap (option_and_then (λ (t : Session). session_link t handle past)) is

pub found_lives : (s : Session) (handle : ℕ) (past : List Event) (o : Option Link) → IsLiveOn s past → session_link s handle past ≡ o → IfSome o (λ l. IsLiveLink l past)
found_lives s handle past None live is = tt
found_lives s handle past (Some l) live is = live-link s handle past l live is

-- ---- one record more

-- where the link stands that is picked
module _ (rules : RuleSet) (past : List Event) (entry : Record) (pick : Pick) where
  abbrev now : List Event
  now = judge rules past entry ∷ past

  abbrev found : Pick → ℕ → Option PickedLink
  found asked number = opened asked number entry.connection (moment_of entry.what) now

  pub chosen_next : (asked : Pick) (number : ℕ) (earlier place : Option PickedLink) → asked ≡ pick → number ≡ length past → earlier ≡ chosen pick past → place ≡ or_else earlier (found asked number) → place ≡ chosen pick now
  chosen_next asked number earlier place asks at stood is =
      is
      ∙ (ap (λ o. or_else o (found asked number)) stood
      ∙ (ap (λ p. or_else (chosen pick past) (found p number)) asks ∙ ap (λ n. or_else (chosen pick past) (found pick n)) at))

  -- and what stands there
  pub levels_next : (place : Option PickedLink) (level : Option Level) (thinned : Thinned) → place ≡ chosen pick now → level ≡ option_and_then (λ p. level_at rules p now) place
      → AreThinned (levels_of pick rules past ++ level ∷ []) thinned → AreThinned (levels_of pick rules now) thinned
  levels_next place level thinned stands is are =
      subst (λ o. AreThinned (levels_of pick rules past ++ o ∷ []) thinned) (is ∙ ap (option_and_then (λ p. level_at rules p now)) stands) are
