-- What one more event does to what is known of a delivery, in one equation for every event.
use Rattle.std.proofs.Common.{◌≡◌, refl, ap, ◌∙◌, ℕ, Bool, true, false, ◌&&◌, ◌||◌, List, ◌∷◌, Option, Some, None, is_some, option_map, find, if◌then◌else◌, ◌==◌}
use Rattle.std.specs.List.{cons_option}
use Rattle.trace_events.specs.Words.{is_some_and, is_number, or_else, where_passes}
use Rattle.trace_events.specs.Event.{Event, Link, Incoming, Outgoing}
use Rattle.trace_events.specs.Link.{is_live}
use Rattle.trace_events.specs.Incoming.{completes, is_complete, completion, is_aborted, incoming_begun, incoming_deliveries, incoming_at, settles_id, settles_part, is_settled, is_told, aborts}
use Rattle.trace_events.specs.Outgoing.{is_sent, outgoing_begun, outgoing_deliveries, names, pairing, is_paired, is_named_on, deciding, first_deciding, decision, is_settled_by_consumer, is_settled_by_router}
use Rattle.trace_events.specs.Queue.{pairs}
use Rattle.trace_events.proofs.OutgoingSteps.{ends_delivery, names_on, settles_answering}

-- the first that passes: the new one, or the first of before
find-cons : {A : Type 0} (test : A → Bool) (o : Option A) (xs : List A) → find test (cons_option o xs) ≡ or_else (where_passes test o) (find test xs)
find-cons test None xs = refl
find-cons test (Some x) xs = by (test x)
  where
    by : (b : Bool) → (if b then Some x else find test xs) ≡ or_else (if b then Some x else None) (find test xs)
    by true = refl
    by false = refl

some-or : {A : Type 0} (test : A → Bool) (o p : Option A) → is_some (or_else (where_passes test o) p) ≡ is_some_and o test || is_some p
some-or test None p = refl
some-or test (Some x) p = by (test x)
  where
    by : (b : Bool) → is_some (or_else (if b then Some x else None) p) ≡ b || is_some p
    by true = refl
    by false = refl

unless : {A : Type 0} (b : Bool) (o p : Option A) → (if b then None else or_else o p) ≡ or_else (if b then None else o) (if b then None else p)
unless true o p = refl
unless false o p = refl

number-of : (b : Bool) (e : Event) (o : Option Event) → option_map (λ (e : Event). e.number) (if b then Some e else o) ≡ (if b then Some e.number else option_map (λ (e : Event). e.number) o)
number-of true e o = refl
number-of false e o = refl

module _ (e : Event) (past : List Event) where
  -- ---- deliveries from clients

  pub incoming_deliveries-step : incoming_deliveries (e ∷ past) ≡ cons_option (incoming_begun e) (incoming_deliveries past)
  incoming_deliveries-step = refl

  pub incoming_at-step : (n : ℕ) → incoming_at n (e ∷ past) ≡ or_else (where_passes (λ d. d.number == n) (incoming_begun e)) (incoming_at n past)
  incoming_at-step n = find-cons (λ (d : Incoming). d.number == n) (incoming_begun e) (incoming_deliveries past)

  pub is_complete-step : (d : Incoming) → is_complete d (e ∷ past) ≡ completes d e || is_complete d past
  is_complete-step d = refl

  pub completion-step : (d : Incoming) → completion d (e ∷ past) ≡ (if completes d e then Some e.number else completion d past)
  completion-step d = number-of (completes d e) e (find (completes d) past)

  pub is_aborted-step : (d : Incoming) → is_aborted d (e ∷ past) ≡ aborts d e || is_aborted d past
  is_aborted-step d = refl

  pub is_settled-step : (d : Incoming) → is_settled d (e ∷ past) ≡ (settles_part d e || settles_id d e) || is_settled d past
  is_settled-step d = refl

  pub is_told-step : (d : Incoming) → is_told d (e ∷ past) ≡ is_number e.told d.number || is_told d past
  is_told-step d = refl

  -- ---- deliveries to clients

  pub outgoing_deliveries-step : outgoing_deliveries (e ∷ past) ≡ cons_option (outgoing_begun e) (outgoing_deliveries past)
  outgoing_deliveries-step = refl

  pub is_sent-step : (j : Outgoing) → is_sent j (e ∷ past) ≡ ends_delivery j e || is_sent j past
  is_sent-step j = refl

  -- the last that carries the delivery
  pub pairing-step : (d : Incoming) → pairing d (e ∷ past) ≡ or_else (where_passes (λ j. names d.number j.note) (outgoing_begun e)) (pairing d past)
  pairing-step d = find-cons (λ (j : Outgoing). names d.number j.note) (outgoing_begun e) (outgoing_deliveries past)

  pub is_paired-step : (d : Incoming) → is_paired d (e ∷ past) ≡ pairs d e || is_paired d past
  is_paired-step d = ap is_some (pairing-step d) ∙ some-or (λ (j : Outgoing). names d.number j.note) (outgoing_begun e) (pairing d past)

  pub is_named_on-step : (d : Incoming) (l : Link) → is_named_on d l (e ∷ past) ≡ names_on d l e || is_named_on d l past
  is_named_on-step d l = refl

  -- the first decision holds
  pub decision-step : (j : Outgoing) → decision j (e ∷ past) ≡ or_else (decision j past) (if j.link.is_pre_settled then None else deciding j e past)
  decision-step j = unless j.link.is_pre_settled (first_deciding j past) (deciding j e past)

  pub is_settled_by_consumer-step : (j : Outgoing) → is_settled_by_consumer j (e ∷ past) ≡ is_live past j.link && settles_answering j e || is_settled_by_consumer j past
  is_settled_by_consumer-step j = refl

  pub is_settled_by_router-step : (j : Outgoing) → is_settled_by_router j (e ∷ past) ≡ is_number e.settled j.number || is_settled_by_router j past
  is_settled_by_router-step j = refl

pub ruleset every_step = (
  incoming_deliveries-step,
  incoming_at-step,
  is_complete-step,
  completion-step,
  is_aborted-step,
  is_settled-step,
  is_told-step,
  outgoing_deliveries-step,
  is_sent-step,
  pairing-step,
  is_paired-step,
  is_named_on-step,
  decision-step,
  is_settled_by_consumer-step,
  is_settled_by_router-step,
)
