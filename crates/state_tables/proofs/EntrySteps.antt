-- What an event does to the entry of its connection it does to the table.
use Rattle.std.proofs.Common.{◌≡◌, refl, sym, ap, ◌∙◌, ℕ, Bool, true, false, ◌&&◌, Option, Some, None, option_map, option_and_then, unwrap_or, if◌then◌else◌, ◌==◌, eqb-true}
use Rattle.std.specs.Prelude.{nat_eq}
use Rattle.indexmap.specs.IndexMap.{get}
use Rattle.number_runs.specs.Runs.{value_in}
use Rattle.trace_events.specs.Words.{is_number}
use Rattle.trace_events.specs.Event.{Event, channel_of}
use Rattle.state_tables.specs.Connections.{AreSame, IsBare, Takes, TakesOne, fresh, seen_in, seen_next, seen_over, session_in, session_on, unanswered_in, unanswered_on}
use Rattle.state_counts.specs.Sessions.{session_behind}
use Rattle.state_tables.specs.Unanswered.{nothing, unanswered_next}
use Rattle.state_tables.specs.declared.connection.Connection.{Connection}
use Rattle.state_tables.specs.declared.connections.Connections.{Connections}
use Rattle.state_tables.specs.declared.unanswered.Unanswered.{Unanswered}

push : {A : Type 0} (f : Option Connection → A) (b : Bool) (x y : Option Connection) → f (if b then x else y) ≡ (if b then f x else f y)
push f true x y = refl
push f false x y = refl

module _ (e : Event) (old new : Connections) (earlier later : Connection) (takes : Takes e earlier later)
    (moves : (c : ℕ) → get nat_eq new.entries c ≡ (if e.connection == c then Some later else get nat_eq old.entries c)) (over : new.over ≡ old.over)
    (seen : seen_in old e.connection ≡ earlier.seen) (sessions : (n : ℕ) → session_in old e.connection n ≡ session_on earlier n)
    (unanswered : (n : ℕ) → unanswered_in old e.connection n ≡ unanswered_on earlier n) where
  at : {A : Type 0} (f : Option Connection → A) (c : ℕ) → f (get nat_eq new.entries c) ≡ (if e.connection == c then f (Some later) else f (get nat_eq old.entries c))
  at f c = ap f (moves c) ∙ push f (e.connection == c) (Some later) (get nat_eq old.entries c)

  seen-at : (c : ℕ) → seen_in new c ≡ (if e.connection == c then later.seen else seen_in old c)
  seen-at c =
      ap (λ runs. unwrap_or (option_map (λ (x : Connection). x.seen) (get nat_eq new.entries c)) (unwrap_or (value_in runs c) fresh)) over
      ∙ at (λ o. unwrap_or (option_map (λ (x : Connection). x.seen) o) (seen_over old c)) c

  -- where the later one has the next value of the earlier one's
  either : {A : Type 0} (f : ℕ → A) (next : A → A) (x y : A) (c : ℕ) → x ≡ next y → f e.connection ≡ y → (if e.connection == c then x else f c) ≡ (if e.connection == c then next (f c) else f c)
  either f next x y c is same = by (e.connection == c) refl
    where
      by : (b : Bool) → (e.connection == c) ≡ b → (if b then x else f c) ≡ (if b then next (f c) else f c)
      by true own = is ∙ ap next (sym same ∙ ap f (eqb-true e.connection c own))
      by false other = refl

  seen-moved : (c : ℕ) → seen_in new c ≡ (if e.connection == c then seen_next e (seen_in old c) else seen_in old c)
  seen-moved c =
      seen-at c ∙ either (seen_in old) (seen_next e) later.seen earlier.seen c takes.seen seen

  sessions-moved : (c channel : ℕ) → session_in new c channel ≡ (if e.connection == c then session_behind e channel (session_in old c channel) else session_in old c channel)
  sessions-moved c channel =
      at (option_and_then (λ (x : Connection). session_on x channel)) c
      ∙ either (λ n. session_in old n channel) (session_behind e channel) (session_on later channel) (session_on earlier channel) c (takes.sessions channel) (sessions channel)

  both : (a b : Bool) (x y : Unanswered) → (if a then (if b then x else y) else y) ≡ (if a && b then x else y)
  both true b x y = refl
  both false b x y = refl

  unanswered-moved : (c channel : ℕ) → unanswered_in new c channel
      ≡ (if e.connection == c && is_number (channel_of e.moment) channel then unanswered_next e (unanswered_in old c channel) else unanswered_in old c channel)
  unanswered-moved c channel =
      at (λ o. unwrap_or (option_map (λ (x : Connection). unanswered_on x channel) o) nothing) c
      ∙ (either (λ n. unanswered_in old n channel) (λ x. if is_number (channel_of e.moment) channel then unanswered_next e x else x) (unanswered_on later channel) (unanswered_on earlier channel) c
      (takes.unanswered channel) (unanswered channel)
      ∙ both (e.connection == c) (is_number (channel_of e.moment) channel) (unanswered_next e (unanswered_in old c channel)) (unanswered_in old c channel))

  moved : TakesOne e old new
  moved = record { seen = seen-moved; sessions = sessions-moved; unanswered = unanswered-moved }

module _ (e : Event) (old new : Connections) (earlier later : Connection) (takes : Takes e earlier later)
    (moves : (c : ℕ) → get nat_eq new.entries c ≡ (if e.connection == c then Some later else get nat_eq old.entries c)) (over : new.over ≡ old.over) where
  -- a connection that has an entry
  pub known-moved : get nat_eq old.entries e.connection ≡ Some earlier → TakesOne e old new
  known-moved was =
      moved e old new earlier later takes moves over (ap (λ o. unwrap_or (option_map (λ (x : Connection). x.seen) o) (seen_over old e.connection)) was)
      (λ n. ap (option_and_then (λ (x : Connection). session_on x n)) was)
      (λ n. ap (λ o. unwrap_or (option_map (λ (x : Connection). unanswered_on x n) o) nothing) was)

  -- one that has none
  pub first-moved : get nat_eq old.entries e.connection ≡ None → IsBare (seen_over old e.connection) earlier → TakesOne e old new
  first-moved none is =
      moved e old new earlier later takes moves over (ap (λ o. unwrap_or (option_map (λ (x : Connection). x.seen) o) (seen_over old e.connection)) none ∙ sym is.seen-is)
      (λ n. ap (option_and_then (λ (x : Connection). session_on x n)) none ∙ sym (is.sessions n))
      (λ n. ap (λ o. unwrap_or (option_map (λ (x : Connection). unanswered_on x n) o) nothing) none ∙ sym (is.unanswered n))

-- what says the same later took it too
pub taken-same : (e : Event) (old mid new : Connections) → TakesOne e old mid → AreSame mid new → TakesOne e old new
taken-same e old mid new takes same = record {
  seen = λ c. same.seen c ∙ takes.seen c;
  sessions = λ c channel. same.sessions c channel ∙ takes.sessions c channel;
  unanswered = λ c channel. same.unanswered c channel ∙ takes.unanswered c channel;
}
