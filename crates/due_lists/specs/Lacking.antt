-- The sessions that are to be given their window anew (part 2 of the standard, section 2.5.6; when: own rule).
use Rattle.std.specs.Prelude.{◌≡◌, ◌⊎◌, ◌+◌, Bool, true, List, ◌∷◌, Option, Some, nat_le}
use Rattle.flow_counts.specs.declared.profile.TheConstants.{RENEWAL_MARK}
use Rattle.trace_events.specs.Event.{Event}
use Rattle.trace_events.specs.declared.session.Session.{Session}
use Rattle.trace_events.specs.Session.{IsLiveOn}
use Rattle.trace_events.specs.Window.{given_window}
use Rattle.trace_duties.specs.Quiet.{lacks_window}

-- it lives and lacks window
abbrev pub IsLacking : Session → List Event → Type 0
IsLacking s past = IsLiveOn s past × (lacks_window past s ≡ true)

-- one more transfer may leave it without window
abbrev pub runs_low : List Event → Session → Bool
runs_low past s = nat_le (given_window s past) (RENEWAL_MARK + 1)

-- what lacks window behind an event lacked it before, or is this session
abbrev pub HasLowered : Option Session → Event → List Event → Type 0
HasLowered lowered e past = (s : Session) → IsLacking s (e ∷ past) → (lowered ≡ Some s) ⊎ IsLacking s past
