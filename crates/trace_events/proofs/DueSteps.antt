-- What one more event does to the copies of multicast deliveries that are due to a link, in one equation for every event.
use Rattle.std.proofs.Common.{◌≡◌, refl, ap, ◌∙◌, suc, Bool, true, false, not, ◌&&◌, ◌||◌, List, [], ◌∷◌, ◌++◌, Option, Some, None, filter, reverse, if◌then◌else◌, ◌==◌, eq-eqb}
use Rattle.std.specs.List.{cons_option}
use Rattle.std.proofs.lemmas.List.{reverse-append}
use Rattle.capture_form.specs.Rules.{RuleSet}
use Rattle.trace_events.specs.Words.{is_some_and}
use Rattle.trace_events.specs.Event.{Event, Link, Incoming}
use Rattle.trace_events.specs.Incoming.{completed_by, completes, is_complete}
use Rattle.trace_events.specs.Outgoing.{is_named_on}
use Rattle.trace_events.specs.Queue.{completed_deliveries}
use Rattle.trace_events.specs.Due.{due_count, is_due, is_unsent}
use Rattle.trace_events.specs.Work.{unsent_copies, comes_due}
use Rattle.trace_events.proofs.OutgoingSteps.{names_on}
use Rattle.trace_events.proofs.QueueSteps.{each-map, filter-each, filter-reverse, filter-cons, one-alone, completed-complete}

-- ---- one copy

and-true : (b : Bool) → b && true ≡ b
and-true true = refl
and-true false = refl

unsent-bits : (was before here : Bool) → was && not (here || before) ≡ was && not before && not here
unsent-bits true true true = refl
unsent-bits true false true = refl
unsent-bits true true false = refl
unsent-bits true false false = refl
unsent-bits false before here = refl

unsent-by : (completed comes was before here : Bool) → (completed ≡ true → here || before ≡ false)
    → (if completed then comes else was) && not (here || before) ≡ (if completed then comes else was && not before && not here)
unsent-by true comes was before here none = ap (λ b. comes && not b) (none refl) ∙ and-true comes
unsent-by false comes was before here none = unsent-bits was before here

module _ (rules : RuleSet) (l : Link) (e : Event) (past : List Event) where
  pub due_count-step : due_count rules l (e ∷ past) ≡ (if comes_due rules l e past then suc (due_count rules l past) else due_count rules l past)
  due_count-step = refl

  pub is_due-step : (d : Incoming) → is_due rules d l (e ∷ past) ≡ (if completes d e then comes_due rules l e past else is_due rules d l past)
  is_due-step d = refl

  -- a copy that was unsent stays so until a transfer names it; of what the event completes, it is unsent where it comes due,
  -- since nothing has named it before
  pub is_unsent-step : (d : Incoming) → (completes d e ≡ true → is_named_on d l (e ∷ past) ≡ false)
      → is_unsent rules d l (e ∷ past) ≡ (if completes d e then comes_due rules l e past else is_unsent rules d l past && not (names_on d l e))
  is_unsent-step d fresh = unsent-by (completes d e) (comes_due rules l e past) (is_due rules d l past) (is_named_on d l past) (names_on d l e) fresh

  pub is_unsent-stays : (d : Incoming) → completes d e ≡ false → is_unsent rules d l (e ∷ past) ≡ is_unsent rules d l past && not (names_on d l e)
  is_unsent-stays d none =
      ap (λ b. (if b then comes_due rules l e past else is_due rules d l past) && not (is_named_on d l (e ∷ past))) none
      ∙ unsent-bits (is_due rules d l past) (is_named_on d l past) (names_on d l e)

  pub is_unsent-begins : (d : Incoming) → completes d e ≡ true → is_named_on d l (e ∷ past) ≡ false → is_unsent rules d l (e ∷ past) ≡ comes_due rules l e past
  is_unsent-begins d here fresh =
      ap (λ b. (if b then comes_due rules l e past else is_due rules d l past) && not (is_named_on d l (e ∷ past))) here
      ∙ (ap (λ b. comes_due rules l e past && not b) fresh ∙ and-true (comes_due rules l e past))

  -- ---- all of the link

  new-by : ((d : Incoming) → completes d e ≡ true → is_named_on d l (e ∷ past) ≡ false) → (o : Option Incoming) → completed_by e ≡ o
      → filter (λ d. is_unsent rules d l (e ∷ past)) (cons_option o []) ≡ (if comes_due rules l e past then cons_option o [] else [])
  new-by fresh None is = none (comes_due rules l e past)
    where
      none : (b : Bool) → ◌≡◌ {A = List Incoming} [] (if b then [] else [])
      none true = refl
      none false = refl
  new-by fresh (Some d) is =
      let here : completes d e ≡ true = ap (λ (o : Option Incoming). is_some_and o (λ x. x.number == d.number)) is ∙ eq-eqb d.number d.number refl in
      ap (λ b. if b then d ∷ [] else []) (is_unsent-begins d here (fresh d here))

  -- those that no transfer names now, and behind them the one of what the event completes, if it is due
  pub unsent_copies-step : ((d : Incoming) → is_complete d past ≡ true → completes d e ≡ false) → ((d : Incoming) → completes d e ≡ true → is_named_on d l (e ∷ past) ≡ false)
      → unsent_copies rules l (e ∷ past) ≡ filter (λ d. not (names_on d l e)) (unsent_copies rules l past) ++ (if comes_due rules l e past then cons_option (completed_by e) [] else [])
  unsent_copies-step once fresh =
      let now = λ (d : Incoming). is_unsent rules d l (e ∷ past) in
      let was = λ (d : Incoming). is_unsent rules d l past in
      let stays = λ (d : Incoming). not (names_on d l e) in
      let done = completed_deliveries past in
      let added = filter now (cons_option (completed_by e) []) in
      ap reverse (filter-cons now (completed_by e) done)
      ∙ (reverse-append added (filter now done)
      ∙ (ap (λ xs. reverse (filter now done) ++ xs) (one-alone now (completed_by e) ∙ new-by fresh (completed_by e) refl)
      ∙ ap (λ xs. xs ++ (if comes_due rules l e past then cons_option (completed_by e) [] else []))
      (ap reverse (filter-each now was stays done
      (each-map (λ (d : Incoming). is_complete d past ≡ true) (λ d. now d ≡ was d && stays d) (λ d complete. is_unsent-stays d (once d complete)) done (completed-complete past)))
      ∙ filter-reverse stays (filter was done))))

pub ruleset due_steps = (
  due_count-step,
  is_due-step,
  is_unsent-step,
  is_unsent-stays,
  is_unsent-begins,
  unsent_copies-step,
)
