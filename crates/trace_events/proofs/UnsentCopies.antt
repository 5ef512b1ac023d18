-- The copies that are to be sent on a link, in a lawful history: how one event moves them, whatever it is, which they are,
-- and in which order.
use Rattle.std.proofs.Common.{◌≡◌, refl, sym, ap, subst, ◌∙◌, ℕ, inl, inr, List, [], ◌∷◌, ◌++◌, length, Bool, true, false, not, ◌&&◌, ◌||◌, ◌==◌, Option, Some, None, IfSome, is_some, filter, reverse, option_and_then, find, arith, eqb-true, ne_eqb, if◌then◌else◌}
use Rattle.std.specs.Prelude.{Contains, AllPairs}
use Rattle.std.specs.List.{cons_option, list_any}
use Rattle.std.proofs.lemmas.List.Kept.{AllPairs-filter}
use Rattle.amqp_perf.specs.Meaning.{TransferFields}
use Rattle.capture_form.specs.Rules.{RuleSet}
use Rattle.trace_events.specs.Words.{is_some_and}
use Rattle.trace_events.specs.Event.{Event, Link, Incoming, Moment, Opened, In, Out, Lost, Broken, is_on_link}
use Rattle.trace_events.specs.Said.{as_transfer, in_transfer, out_transfer}
use Rattle.trace_events.specs.Incoming.{is_last_part, completed_by, completes, is_complete, completed_before, incoming_deliveries}
use Rattle.trace_events.specs.Outgoing.{names, noted, is_named_on}
use Rattle.trace_events.specs.Queue.{completed_deliveries}
use Rattle.trace_events.specs.Due.{is_due, is_unsent, has_unsent}
use Rattle.trace_events.specs.Work.{unsent_copies, comes_due}
use Rattle.trace_events.specs.Clauses.{first_broken}
use Rattle.trace_events.proofs.Along.{and_first, and_last, some_such}
use Rattle.trace_events.proofs.DueSteps.{is_unsent-step, unsent_copies-step}
use Rattle.trace_events.proofs.EventKinds.{in_said, out_said}
use Rattle.trace_events.proofs.Fates.{complete-stays}
use Rattle.trace_events.proofs.Judged.{AreJudged}
use Rattle.trace_events.proofs.OutgoingSteps.{names_on}
use Rattle.trace_events.proofs.QueueSteps.{filter-reverse}
use Rattle.trace_events.proofs.StepWords.{or-true}
use Rattle.trace_events.proofs.ClausesMet.{lawful-past}
use Rattle.trace_events.proofs.JudgedHistories.{judged-keeps}
use Rattle.trace_events.proofs.OutgoingProgress.{noted_pair}
use Rattle.trace_events.proofs.Parts.{IsKept, AreKept, each_delivery}
use Rattle.trace_events.proofs.WaitingQueue.{completed_once, completed_in_order, completed_numbered, each_completed, all_contained, in_filter, filter_has, in_reverse, reverse_has, find_has, contains_first, contains_later, contains_none, contains_cases}

-- ---- a transfer names a delivery that is complete

known : {A : Type 0} (P : A → Type 0) (o : Option A) (x : A) → o ≡ Some x → IfSome o P → P x
known P o x is h = subst (λ (p : Option _). IfSome p P) is h

is_there : {A : Type 0} (o : Option A) → is_some o ≡ true → (x : A) × (o ≡ Some x)
is_there None is = absurd cc
is_there (Some x) is = (x, refl)

module _ (rules : RuleSet) (e : Event) (past : List Event) (are : AreJudged rules (e ∷ past)) (lawful : first_broken rules (e ∷ past) ≡ None) where
  named_here : (d : Incoming) (l : Link) → names_on d l e ≡ true → is_complete d past ≡ true
  named_here d l named =
      let both = and_first (is_some (out_transfer e) && names d.number e.note) (is_on_link l e) named in
      let fields = is_there (out_transfer e) (and_first (is_some (out_transfer e)) (names d.number e.note) both) in
      let keeps = judged-keeps rules (e ∷ past) are lawful in
      let x = some_such _ (noted e.note past) (known _ (out_transfer e) fields.0 fields.1 keeps.carried.0) in
      let j = some_such _ e.outgoing x.2 in
      let pair = noted_pair rules past are.1 e.note x.0 x.1 in
      let same : (x.0.number == d.number) ≡ true = sym (ap (names d.number) pair.0) ∙ and_last (is_some (out_transfer e)) (names d.number e.note) both in
      ap (λ (n : ℕ). list_any (λ (y : Event). is_some_and (completed_by y) (λ other. other.number == n)) past) (sym (eqb-true x.0.number d.number same)) ∙ j.2.0

pub named_complete : (rules : RuleSet) (past : List Event) → AreJudged rules past → first_broken rules past ≡ None → (d : Incoming) (l : Link) → is_named_on d l past ≡ true → is_complete d past ≡ true
named_complete rules [] are lawful d l named = absurd cc
named_complete rules (e ∷ past) are lawful d l named = by (names_on d l e) refl (named_complete rules past are.1 (lawful-past rules e past lawful) d l) named
  where
    by : (b : Bool) → names_on d l e ≡ b → (is_named_on d l past ≡ true → is_complete d past ≡ true) → b || is_named_on d l past ≡ true → is_complete d (e ∷ past) ≡ true
    by true here earlier named = complete-stays d e past (named_here rules e past are lawful d l here)
    by false here earlier named = complete-stays d e past (earlier named)

-- ---- what completes a delivery names none

one_way : (m : Moment) (fields : TransferFields) → option_and_then as_transfer (in_said m) ≡ Some fields → option_and_then as_transfer (out_said m) ≡ None
one_way (In frame) fields is = refl
one_way (Out frame) fields is = absurd cc
one_way Opened fields is = absurd cc
one_way Lost fields is = absurd cc
one_way Broken fields is = absurd cc

pub completes-written_none : (d : Incoming) (e : Event) → completes d e ≡ true → out_transfer e ≡ None
completes-written_none d e here = by (in_transfer e) refl e.incoming here
  where
    by : (o : Option TransferFields) → in_transfer e ≡ o → (part : Option Incoming) → is_some_and (if is_some_and o is_last_part then part else None) (λ other. other.number == d.number) ≡ true → out_transfer e ≡ None
    by None is part here = absurd cc
    by (Some fields) is part here = one_way e.moment fields is

-- ---- a step

module _ (rules : RuleSet) (l : Link) (e : Event) (past : List Event) (are : AreJudged rules (e ∷ past)) (lawful : first_broken rules past ≡ None) where
  -- nothing has named what the event completes
  pub completed-unnamed : (d : Incoming) → completes d e ≡ true → is_named_on d l (e ∷ past) ≡ false
  completed-unnamed d here =
      ap (λ o. is_some o && names d.number e.note && is_on_link l e || is_named_on d l past) (completes-written_none d e here) ∙ before (is_named_on d l past) refl
    where
      before : (b : Bool) → is_named_on d l past ≡ b → b ≡ false
      before false is = refl
      before true is =
          let none : completes d e ≡ false = completed_once rules e past are d (named_complete rules past are.1 lawful d l is) in
          absurd cc

  -- a copy that was unsent stays so until a transfer names it; of what the event completes, it is unsent where it comes due
  pub is_unsent_moves : (d : Incoming) → is_unsent rules d l (e ∷ past) ≡ (if completes d e then comes_due rules l e past else is_unsent rules d l past && not (names_on d l e))
  is_unsent_moves d = is_unsent-step rules l e past d (completed-unnamed d)

  -- those that no transfer names now, and behind them the one of what the event completes, if it comes due
  pub unsent_copies_move : unsent_copies rules l (e ∷ past) ≡ filter (λ d. not (names_on d l e)) (unsent_copies rules l past) ++ (if comes_due rules l e past then cons_option (completed_by e) [] else [])
  unsent_copies_move = unsent_copies-step rules l e past (completed_once rules e past are) completed-unnamed

-- ---- which deliveries they are

pub due_complete : (rules : RuleSet) (past : List Event) (d : Incoming) (l : Link) → is_due rules d l past ≡ true → is_complete d past ≡ true
due_complete rules [] d l due = absurd cc
due_complete rules (e ∷ past) d l due = by (completes d e) (due_complete rules past d l) due
  where
    by : (b : Bool) → (is_due rules d l past ≡ true → is_complete d past ≡ true) → (if b then comes_due rules l e past else is_due rules d l past) ≡ true → b || is_complete d past ≡ true
    by true earlier due = refl
    by false earlier due = earlier due

pub unsent_complete : (rules : RuleSet) (past : List Event) (d : Incoming) (l : Link) → is_unsent rules d l past ≡ true → is_complete d past ≡ true
unsent_complete rules past d l unsent = due_complete rules past d l (and_first (is_due rules d l past) (not (is_named_on d l past)) unsent)

-- a delivery of the history that is complete stands among those that events completed
pub completed_listed : (rules : RuleSet) (past : List Event) → AreKept rules past → (d : Incoming) → Contains (incoming_deliveries past) d → is_complete d past ≡ true → Contains (completed_deliveries past) d
completed_listed rules past all d there done =
    let kept = all_contained (IsKept past) (incoming_deliveries past) d (each_delivery (IsKept past) past all.each) there in
    let one = completed_numbered d.number past done in
    let other = all_contained (IsKept past) (completed_deliveries past) one.0 (each_completed (IsKept past) past all.each) one.1 in
    let both : ◌≡◌ {A = Option Incoming} (Some one.0) (Some d) = sym other.at ∙ (ap (λ n. find (λ (x : Incoming). x.number == n) (incoming_deliveries past)) one.2 ∙ kept.at) in
    let same : one.0 ≡ d = cc in
    subst (Contains (completed_deliveries past)) same one.1

module _ (rules : RuleSet) (l : Link) (past : List Event) (all : AreKept rules past) where
  -- one that stands there is a delivery of the history of which a copy is unsent
  pub listed_unsent : (d : Incoming) → Contains (unsent_copies rules l past) d → Contains (incoming_deliveries past) d × (is_unsent rules d l past ≡ true)
  listed_unsent d listed =
      let step = in_filter (λ (d : Incoming). is_unsent rules d l past) (completed_deliveries past) d (in_reverse (filter (λ (d : Incoming). is_unsent rules d l past) (completed_deliveries past)) d listed) in
      let kept = all_contained (IsKept past) (completed_deliveries past) d (each_completed (IsKept past) past all.each) step.0 in
      (find_has (λ (x : Incoming). x.number == d.number) (incoming_deliveries past) d kept.at, step.1)

  -- and each such delivery stands there
  pub unsent_listed : (d : Incoming) → Contains (incoming_deliveries past) d → is_unsent rules d l past ≡ true → Contains (unsent_copies rules l past) d
  unsent_listed d there unsent =
      reverse_has (filter (λ (d : Incoming). is_unsent rules d l past) (completed_deliveries past)) d
      (filter_has (λ (d : Incoming). is_unsent rules d l past) (completed_deliveries past) d unsent (completed_listed rules past all d there (unsent_complete rules past d l unsent)))

  -- ---- whether there is one

  none_any : (p : Incoming → Bool) (xs : List Incoming) → ((x : Incoming) → Contains xs x → p x ≡ false) → list_any p xs ≡ false
  none_any p [] none = refl
  none_any p (x ∷ xs) none = ap (λ b. b || list_any p xs) (none x (contains_first x xs)) ∙ none_any p xs (λ y there. none y (contains_later x xs y there))

  some_any : (p : Incoming → Bool) (xs : List Incoming) (x : Incoming) → Contains xs x → p x ≡ true → list_any p xs ≡ true
  some_any p [] x there is = contains_none x there
  some_any p (y ∷ ys) x there is = elim (contains_cases y ys x there) [
    | inl same ↦ ap (λ b. b || list_any p ys) (ap p same ∙ is)
    | inr later ↦ ap (λ b. p y || b) (some_any p ys x later is) ∙ or-true (p y)
  ]

  by_list : (ds : List Incoming) → unsent_copies rules l past ≡ ds → has_unsent rules l past ≡ not (length ds == 0)
  by_list [] is = none_any (λ d. is_unsent rules d l past) (incoming_deliveries past) (λ d there. off d there (is_unsent rules d l past) refl)
    where
      off : (d : Incoming) → Contains (incoming_deliveries past) d → (b : Bool) → is_unsent rules d l past ≡ b → b ≡ false
      off d there false unsent = refl
      off d there true unsent = contains_none d (subst (λ xs. Contains xs d) is (unsent_listed d there unsent))
  by_list (d ∷ ds) is =
      let one = listed_unsent d (subst (λ xs. Contains xs d) (sym is) (contains_first d ds)) in
      some_any (λ d. is_unsent rules d l past) (incoming_deliveries past) d one.0 one.1 ∙ sym (ap not (ne_eqb (length (d ∷ ds)) 0 (λ same. omega (arith, same))))

  pub has_unsent_listed : has_unsent rules l past ≡ not (length (unsent_copies rules l past) == 0)
  has_unsent_listed = by_list (unsent_copies rules l past) refl

-- ---- in which order they stand

-- each before those that were completed later
pub unsent_in_order : (rules : RuleSet) (l : Link) (past : List Event) → AreJudged rules past → AllPairs (λ a b. completed_before a b past ≡ true) (unsent_copies rules l past)
unsent_in_order rules l past are =
    subst (AllPairs (λ a b. completed_before a b past ≡ true)) (sym (filter-reverse (λ (d : Incoming). is_unsent rules d l past) (completed_deliveries past)))
    (AllPairs-filter (λ a b. completed_before a b past ≡ true) (λ (d : Incoming). is_unsent rules d l past) (reverse (completed_deliveries past)) (completed_in_order rules past are))
