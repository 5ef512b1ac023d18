-- What the entry of a delivery to a client answers is what the law says of it.
use Rattle.std.proofs.Common.{◌≡◌, refl, sym, ap, ◌∙◌, ℕ, Bool, true, false, ◌&&◌, not, List, ◌∷◌, Option, Some, None, is_some, option_map, if◌then◌else◌}
use Rattle.capture_form.specs.Rules.{RuleSet}
use Rattle.trace_events.specs.Event.{Event, Outgoing}
use Rattle.trace_events.specs.History.{history}
use Rattle.trace_events.specs.Disposition.{terminal_state}
use Rattle.trace_events.specs.Outgoing as law
use Rattle.trace_events.specs.Outgoing.{first_deciding, outgoing_at}
use Rattle.trace_events.specs.Settling.{is_to_settle}
use Rattle.trace_events.specs.Work.{stands_unsettled, carries_closed}
use Rattle.trace_events.proofs.Judged.{AreJudged, history-judged}
use Rattle.trace_events.proofs.SettlingSteps.{is_to_settle-parts}
use Rattle.state_outgoing.specs.LetGo.{is_done, is_finished}
use Rattle.state_outgoing.specs.Sent.{Sent, sent, sent_at, sent_next, sent_begun, to_settle, is_left_unsettled, IsEntry, SentFollows, SentBegins}
use Rattle.state_outgoing.proofs.SentBegun.{begun-once}
use Rattle.state_outgoing.proofs.SentFollowed.{sent-behind, sent-first}

same_some : {A : Type 0} (a b : A) → Some a ≡ Some b → a ≡ b
same_some a b is = cc

-- the delivery of a number, and what the law says of it
pub record IsSentOf (n : ℕ) (past : List Event) (x : Sent) : Type 0 where
  pub at : outgoing_at n past ≡ Some x.delivery
  pub is : sent past x.delivery ≡ x

pub sent-of : (n : ℕ) (past : List Event) (x : Sent) → sent_at n past ≡ Some x → IsSentOf n past x
sent-of n past x entry = by (outgoing_at n past) refl entry
  where
    by : (o : Option Outgoing) → outgoing_at n past ≡ o → option_map (sent past) o ≡ Some x → IsSentOf n past x
    by None none is = absurd cc
    by (Some j) found is =
        let same : sent past j ≡ x = same_some (sent past j) x is in
        let own : j ≡ x.delivery = ap (λ (y : Sent). y.delivery) same in
        record { at = found ∙ ap Some own; is = ap (sent past) (sym own) ∙ same }

-- ---- its answers

is_some-map : {A B : Type 0} (f : A → B) (o : Option A) → is_some (option_map f o) ≡ is_some o
is_some-map f None = refl
is_some-map f (Some x) = refl

-- nothing is decided on a pre-settled link
settle-bits : {A : Type 0} (s stands : Bool) (o : Option A) (closed : Bool) → (not s && stands) && is_some (if s then None else o) && closed ≡ stands && (is_some (if s then None else o) && closed)
settle-bits true true o closed = refl
settle-bits true false o closed = refl
settle-bits false true o closed = refl
settle-bits false false o closed = refl

module _ (past : List Event) (x : Sent) (entry : IsEntry past x) where
  of : IsSentOf x.delivery.number past x
  of = sent-of x.delivery.number past x entry

  pub entry_sent : x.is_sent ≡ law.is_sent x.delivery past
  entry_sent = ap (λ (y : Sent). y.is_sent) (sym of.is)

  pub entry_decision : x.decision ≡ option_map terminal_state (law.decision x.delivery past)
  entry_decision = ap (λ (y : Sent). y.decision) (sym of.is)

  pub entry_unsettled : x.is_unsettled ≡ is_left_unsettled past x.delivery
  entry_unsettled = ap (λ (y : Sent). y.is_unsettled) (sym of.is)

  pub entry_done : is_done x ≡ is_finished past x.delivery
  entry_done = ap is_done (sym of.is)

  pub entry_to_settle : (closed : Bool) → closed ≡ carries_closed past x.delivery → to_settle x closed ≡ is_to_settle past x.delivery
  entry_to_settle closed closes =
      let j = x.delivery in
      ap (λ b. x.is_unsettled && is_some x.decision && b) closes
      ∙ (ap (λ b. x.is_unsettled && b && carries_closed past j) (ap is_some entry_decision ∙ is_some-map terminal_state (law.decision j past))
      ∙ (ap (λ b. b && is_some (law.decision j past) && carries_closed past j) entry_unsettled
      ∙ (settle-bits j.link.is_pre_settled (stands_unsettled past j) (first_deciding j past) (carries_closed past j) ∙ sym (is_to_settle-parts past j))))

-- ---- followed from record to record

pub sent-on : (rules : RuleSet) (e : Event) (past : List Event) → AreJudged rules (e ∷ past) → (x : Sent) → IsEntry past x → sent_at x.delivery.number (e ∷ past) ≡ Some (sent_next e x)
sent-on rules e past are x entry =
    let n = x.delivery.number in
    let found = sent-of n past x entry in
    sent-behind rules e past are n
    ∙ (ap (λ b. if b then sent_begun e else option_map (sent_next e) (sent_at n past)) (begun-once rules e past are n x.delivery found.at)
    ∙ ap (option_map (sent_next e)) entry)

pub follows : (e : Event) (earlier later : Sent) → later ≡ sent_next e earlier → SentFollows e earlier later
follows e earlier later is = λ rules records r next entry.
    sent-on rules e (history rules records) ((r, next), history-judged rules records) earlier entry ∙ ap Some (sym is)

pub begins : (e : Event) (later : Option Sent) → later ≡ sent_begun e → SentBegins e later
begins e later is = λ rules records r next.
    sent-first rules e (history rules records) ((r, next), history-judged rules records) ∙ sym is
