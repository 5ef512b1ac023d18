-- A performative of a client, as the next event.
use Rattle.std.proofs.Common.{◌≡◌, refl, sym, ap, ◌∙◌, ℕ, Bool, true, false, ◌&&◌, ◌||◌, not, List, ◌∷◌, Option, Some, None, if◌then◌else◌, ◌==◌, eq-eqb}
use Rattle.amqp_perf.specs.Meaning.{Meaning}
use Rattle.pairing_cert.specs.declared.note.Note.TheVariants as notes
use Rattle.capture_form.specs.Rules.{RuleSet}
use Rattle.trace_events.specs.declared.fault.Fault.{Fault}
use Rattle.trace_events.specs.declared.session.Session.{Session}
use Rattle.trace_events.specs.Words.{is_some_and}
use Rattle.trace_events.specs.Frame.{Spoken, Says}
use Rattle.trace_events.specs.Event.{Event, In, is_on_channel, is_on_session}
use Rattle.trace_events.specs.Said.{is_close, is_end}
use Rattle.trace_events.specs.Connection.{is_over, was_opened, has_in_open}
use Rattle.trace_events.specs.Session.{live_session, last_session}
use Rattle.trace_events.specs.Fault.{spoken_fault}
use Rattle.trace_events.specs.History.{judge_moment, placed, heard}
use Rattle.trace_events.proofs.ConnectionSteps.{has_in_open-stays}
use Rattle.trace_events.proofs.SessionSteps.{live_session-same}
use Rattle.trace_events.proofs.SessionPlaces.{live_session-framed}
use Rattle.trace_events.proofs.LinkLives.{live_session-at}
use Rattle.trace_events.specs.Clauses.{first_broken}
use Rattle.route_answers.specs.Answering.{IsReady}
use Rattle.route_answers.proofs.Words.{both}
use Rattle.route_answers.proofs.Connections.{Speaks}

abbrev pub spoken_on : ℕ → List ℕ → Meaning → Spoken
spoken_on channel payload m = record { channel = channel; meaning = m; payload = payload }

-- the event, and what it is before its fault is found
abbrev pub said : RuleSet → ℕ → List Event → List ℕ → Spoken → Event
said rules c past octets spoken = judge_moment rules past c (In (record { octets = octets; body = Says spoken })) notes.None

abbrev pub unfaulted : ℕ → List Event → List ℕ → Spoken → Event
unfaulted c past octets spoken = heard past (placed past c (In (record { octets = octets; body = Says spoken })) notes.None)

-- where it is heard the connection is not over
heard_by : (over passed : Bool) → not (over || passed) ≡ true → over ≡ false
heard_by true passed is = absurd cc
heard_by false passed is = refl

pub alive : (rules : RuleSet) (c : ℕ) (past : List Event) (octets : List ℕ) (spoken : Spoken) → (said rules c past octets spoken).is_heard ≡ true → is_over c past ≡ false
alive rules c past octets spoken is = heard_by (is_over c past) _ is

-- its fault is the one that is found
fault_by : (heard : Bool) (o p : Option Fault) → heard ≡ true → (if heard then o else None) ≡ p → o ≡ p
fault_by true o p is same = same
fault_by false o p is same = absurd cc

pub found : (rules : RuleSet) (c : ℕ) (past : List Event) (octets : List ℕ) (spoken : Spoken) (fault : Option Fault) → (said rules c past octets spoken).is_heard ≡ true
    → (said rules c past octets spoken).fault ≡ fault → spoken_fault rules (unfaulted c past octets spoken) spoken spoken.meaning past ≡ fault
found rules c past octets spoken fault is same =
    fault_by (unfaulted c past octets spoken).is_heard (spoken_fault rules (unfaulted c past octets spoken) spoken spoken.meaning past) fault is same

-- on a live session
pub session_alive : (c channel : ℕ) (past : List Event) (s : Session) → live_session c channel past ≡ Some s → is_over c past ≡ false
session_alive c channel past s is = by (is_over c past) is
  where
    by : (b : Bool) → (if b then None else last_session c channel past) ≡ Some s → b ≡ false
    by true is = absurd cc
    by false is = refl

pub lawful_input : (rules : RuleSet) (c : ℕ) (past : List Event) (octets : List ℕ) (spoken : Spoken) → first_broken rules past ≡ None → first_broken rules (said rules c past octets spoken ∷ past) ≡ None
lawful_input rules c past octets spoken lawful = rw lawful refl

module _ (rules : RuleSet) (c channel : ℕ) (past : List Event) (octets payload : List ℕ) (m : Meaning) (s : Session) (live : live_session c channel past ≡ Some s) where
  abbrev e : Event
  e = said rules c past octets (spoken_on channel payload m)

  -- it stands there
  pub stands_on : is_on_session s e ≡ true
  stands_on =
      both (is_some_and (live_session c channel past) (λ t. t.number == s.number)) (c == s.connection)
      (ap (λ o. is_some_and o (λ (t : Session). t.number == s.number)) live ∙ eq-eqb s.number s.number refl)
      (eq-eqb c s.connection (sym (live_session-at c channel past s live).0))

  pub on_channel : is_on_channel c channel e ≡ true
  on_channel = both (channel == channel) (c == c) (eq-eqb channel channel refl) (eq-eqb c c refl)

  module _ (ready : IsReady rules past) where
    -- an open of the client stands
    pub opened_before : has_in_open c past ≡ true
    opened_before = sym (ready.opens c (session_alive c channel past s live)) ∙ live_session-framed c channel past s live

    pub opened_still : has_in_open c (e ∷ past) ≡ true
    opened_still = has_in_open-stays c e past opened_before

  -- what is no close and no end leaves the session as it was
  module _ (open_still : is_close m ≡ false) where
    pub running : is_over c (e ∷ past) ≡ false
    running = ap (λ b. b && (c == c) || is_over c past) open_still ∙ session_alive c channel past s live

    pub speaks : was_opened c past ≡ true → Speaks (e ∷ past) c
    speaks opened = record { opened = opened; running = running; framed = live_session-framed c channel past s live }

    pub lives_on : is_end m ≡ false → live_session c channel (e ∷ past) ≡ Some s
    lives_on unended = live_session-same c channel e past open_still (ap (λ b. b && is_on_channel c channel e) unended) refl refl ∙ live
