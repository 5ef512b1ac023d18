-- What a live session says of its connection: that all but an open may be written there.
use Rattle.std.proofs.Common.{◌≡◌, refl, sym, subst, ℕ, Bool, true, false, List, Some, None, if◌then◌else◌}
use Rattle.std.specs.Prelude.{is_none}
use Rattle.amqp_perf.specs.Meaning.{Meaning}
use Rattle.capture_form.specs.Rules.{RuleSet}
use Rattle.trace_events.specs.declared.session.Session.{Session}
use Rattle.trace_events.specs.Event.{Event}
use Rattle.trace_events.specs.Said.{as_open}
use Rattle.trace_events.specs.Connection.{is_over}
use Rattle.trace_events.specs.Session.{last_session, live_session, IsLiveOn}
use Rattle.trace_events.specs.Heard.{is_of_connection}
use Rattle.trace_events.proofs.Judged.{AreJudged, history-judged}
use Rattle.trace_events.proofs.SessionPlaces.{live_session-framed}
use Rattle.trace_events.proofs.StepWords.{or-true}
use Rattle.trace_events.specs.ConnectionClause.{may_be_written}
use Rattle.trace_events.proofs.OpenedConnections.{live_session-opened}
use Rattle.route_answers.proofs.Connections.{not_finished, not_stopped}
use Rattle.route_dues.specs.Writing.{IsLawful}

-- the events of a capture are judged
pub lawful_judged : (rules : RuleSet) (past : List Event) → IsLawful rules past → AreJudged rules past
lawful_judged rules past lawful = subst (λ (events : List Event). AreJudged rules events) (sym lawful.is) (history-judged rules lawful.records)

-- ---- what a live session says

live_open : (c channel : ℕ) (past : List Event) (s : Session) → live_session c channel past ≡ Some s → is_over c past ≡ false
live_open c channel past s is = by (is_over c past) is
  where
    by : (b : Bool) → (if b then None else last_session c channel past) ≡ Some s → b ≡ false
    by true is = absurd cc
    by false is = refl

pub may_write : (rules : RuleSet) (past : List Event) (s : Session) → IsLawful rules past → IsLiveOn s past → (meaning : Meaning) → is_none (as_open meaning) ≡ true
    → may_be_written s.connection meaning past ≡ true
may_write rules past s lawful live meaning other =
    let c = s.connection in
    let over = live_open c s.channel past s live in
    let opened = live_session-opened rules c s.channel past s lawful.unbroken live in
    let framed = live_session-framed c s.channel past s live in
    rw (opened.0, not_finished c past over, framed, not_stopped c past over, other) (or-true (is_of_connection meaning))
