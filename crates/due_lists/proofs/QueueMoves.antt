-- What the code does to a queue, and what the table of deliveries says of its numbers.
use Rattle.std.proofs.Common.{◌≡◌, refl, sym, ap, subst, ◌∙◌, inl, inr, ℕ, Bool, true, false, cond, ◌&&◌, not, List, [], ◌∷◌, ◌++◌, Option, Some, None, IfSome, Vec, drop, bytes_eq, filter, map, option_map, if◌then◌else◌}
use Rattle.std.specs.Prelude.{Contains}
use Rattle.std.specs.List.{cons_option, slice_get}
use Rattle.std.specs.declared.collections.VecDeque.{VecDeque}
use Rattle.std.proofs.lemmas.List.{append_assoc}
use Rattle.std.proofs.lemmas.Slice.Eq.{bytes_eq-Decides}
use Rattle.indexmap.specs.IndexMap.{IndexMap}
use Rattle.capture_form.specs.Rules.{RuleSet}
use Rattle.number_groups.proofs.Octets.{alike, under}
use Rattle.trace_events.specs.Words.{is_some_and, where_passes}
use Rattle.trace_events.specs.Event.{Event, Incoming}
use Rattle.trace_events.specs.Address.{has_multicast}
use Rattle.trace_events.specs.Incoming.{address_of, incoming_at, is_complete}
use Rattle.trace_events.specs.Outgoing.{is_paired}
use Rattle.trace_events.specs.Queue.{completed_deliveries}
use Rattle.trace_events.specs.Waiting.{is_of_multicast, is_waiting, always_had_consumer}
use Rattle.trace_events.proofs.Judged.{AreJudged}
use Rattle.trace_events.proofs.IncomingProgress.{judged-kept}
use Rattle.trace_events.proofs.Parts.{IsKept}
use Rattle.trace_events.proofs.WaitingQueue.{all_contained, contains_first, contains_later, contains_none, contains_cases, each_completed}
use Rattle.state_tables.specs.LetGo.{is_let_go}
use Rattle.state_incoming.specs.Held.{Held, held, held_at, is_held, says_waiting}
use Rattle.state_incoming.specs.declared.held.Fate.TheVariants.{Arriving, Waiting, Gone, Paired, Copied}
use Rattle.state_incoming.specs.HeldTables.{IsTable, held_in}
use Rattle.state_incoming.specs.declared.deliveries.Deliveries.{Deliveries}
use Rattle.state_incoming.proofs.HeldAnswers.{waiting-kept}
use Rattle.state_incoming.proofs.OverKnown as let_go
use Rattle.state_incoming.proofs.OverKnown.{table-there}
use Rattle.trace_duties.specs.Diligent.{is_next_waiting}
use Rattle.trace_duties.proofs.PicksInOrder.{first_waiting-next}
use Rattle.due_lists.specs.Queues.{queued, is_of, IsQueue, IsShorter}
use Rattle.due_lists.proofs.EndedConsumers.{and_first}
use Rattle.due_lists.proofs.QueueLists.{IsFirst, first-of, shorter}

-- ---- a number comes last

pub pushed : {A S Z : Type 0} (m n : IndexMap (Vec ℕ Z) (VecDeque ℕ A) S) (key : List ℕ) (w : Option (VecDeque ℕ A)) (number : ℕ) → ((at : List ℕ) → under n at ≡ cond (bytes_eq key at) w (under m at))
    → queued w ≡ queued (under m key) ++ number ∷ [] → (at : List ℕ) → queued (under n at) ≡ (if bytes_eq key at then queued (under m at) ++ number ∷ [] else queued (under m at))
pushed {A = A} m n key w number changed items at = ap queued (changed at) ∙ by (bytes_eq key at) refl
  where
    by : (b : Bool) → bytes_eq key at ≡ b → queued (cond b w (under m at)) ≡ (if b then queued (under m at) ++ number ∷ [] else queued (under m at))
    by true same = items ∙ ap (λ (o : Option (VecDeque ℕ A)). queued o ++ number ∷ []) (sym (alike m key at same))
    by false other = refl

-- what stands under a key that was written
pub here : {A : Type 0} (key : List ℕ) (queue : VecDeque ℕ A) (o : Option (VecDeque ℕ A)) → cond (bytes_eq key key) (Some queue) o ≡ Some queue
here key queue o = ap (λ b. cond b (Some queue) o) (bytes_eq-self key)
  where
    bytes_eq-self : (xs : List ℕ) → bytes_eq xs xs ≡ true
    bytes_eq-self xs = (bytes_eq-Decides xs xs).1 refl

append-nil : {A : Type 0} (xs : List A) → xs ≡ xs ++ []
append-nil [] = refl
append-nil (x ∷ xs) = ap (λ ys. x ∷ ys) (append-nil xs)

-- what the event completes is of its address alone, and of none where it goes to all consumers
pub unpushed-is : (rules : RuleSet) (at xs : List ℕ) (past : List Event) (address : List ℕ) (o : Option Incoming) → IfSome o (λ d. address_of d past ≡ address)
    → None ≡ where_passes (λ d. not (has_multicast rules address)) o → xs ≡ xs ++ map (λ d. d.number) (filter (is_of rules at past) (cons_option o []))
unpushed-is rules at xs past address None own none = append-nil xs
unpushed-is rules at xs past address (Some d) own none =
    by (is_of_multicast rules d past) (bytes_eq (address_of d past) at) (none ∙ ap (λ ys. if not (has_multicast rules ys) then Some d else None) (sym own))
  where
    by : (many here : Bool) → None ≡ (if not many then Some d else None) → xs ≡ xs ++ map (λ (d : Incoming). d.number) (if here && not many then d ∷ [] else [])
    by true true none = append-nil xs
    by true false none = append-nil xs
    by false here none = absurd cc

pub pushed-is : (rules : RuleSet) (at xs : List ℕ) (past : List Event) (address : List ℕ) (o : Option Incoming) (d : Incoming) → IfSome o (λ k. address_of k past ≡ address)
    → Some d ≡ where_passes (λ d. not (has_multicast rules address)) o
    → (if bytes_eq address at then xs ++ d.number ∷ [] else xs) ≡ xs ++ map (λ d. d.number) (filter (is_of rules at past) (cons_option o []))
pushed-is rules at xs past address None d own is = absurd cc
pushed-is rules at xs past address (Some k) d own is =
    ap (λ ys. if bytes_eq ys at then xs ++ d.number ∷ [] else xs) (sym own)
    ∙ by (is_of_multicast rules k past) (is ∙ ap (λ ys. if not (has_multicast rules ys) then Some k else None) (sym own))
  where
    named : (here : Bool) → (if here then xs ++ k.number ∷ [] else xs) ≡ xs ++ map (λ (d : Incoming). d.number) (if here && true then k ∷ [] else [])
    named true = refl
    named false = append-nil xs

    by : (many : Bool) → Some d ≡ (if not many then Some k else None)
        → (if bytes_eq (address_of k past) at then xs ++ d.number ∷ [] else xs) ≡ xs ++ map (λ (d : Incoming). d.number) (if bytes_eq (address_of k past) at && not many then k ∷ [] else [])
    by true is = absurd cc
    by false is = let same : d ≡ k = cc in ap (λ (x : Incoming). if bytes_eq (address_of k past) at then xs ++ x.number ∷ [] else xs) same ∙ named (bytes_eq (address_of k past) at)

pub none-queued : (rules : RuleSet) (address numbers : List ℕ) → numbers ≡ [] → IsQueue rules [] address numbers
none-queued rules address numbers none = record { dropped = []; kept = []; all = refl; over = λ d there. contains_none d there; are = none }

-- ---- numbers in front go

pub shorter-none : (waits : ℕ → Bool) (xs : List ℕ) → IsShorter waits xs xs
shorter-none waits xs = record { gone = []; all = refl; over = λ n there. contains_none n there }

contains-last : (xs : List ℕ) (x n : ℕ) → Contains (xs ++ x ∷ []) n → (P : ℕ → Type 0) → ((m : ℕ) → Contains xs m → P m) → P x → P n
contains-last [] x n there P each last = elim (contains_cases x [] n there) [
  | inl same ↦ subst P same last
  | inr later ↦ contains_none n later
]
contains-last (y ∷ ys) x n there P each last = elim (contains_cases y (ys ++ x ∷ []) n there) [
  | inl same ↦ subst P same (each y (contains_first y ys))
  | inr later ↦ contains-last ys x n later P (λ m within. each m (contains_later y ys m within)) last
]

pub shorter-more : (waits : ℕ → Bool) (whole now next : List ℕ) (n : ℕ) → IsShorter waits whole now → now ≡ n ∷ next → waits n ≡ false → IsShorter waits whole next
shorter-more waits whole now next n was is none = record {
  gone = was.gone ++ n ∷ [];
  all = was.all ∙ (ap (λ xs. was.gone ++ xs) is ∙ sym (append_assoc was.gone (n ∷ []) next));
  over = λ m there. contains-last was.gone n m there (λ k. waits k ≡ false) was.over none;
}

pub front-gone : (xs next : List ℕ) (n : ℕ) → slice_get xs 0 ≡ Some n → next ≡ drop 1 xs → xs ≡ n ∷ next
front-gone [] next n first rest = absurd cc
front-gone (x ∷ xs) next n first rest = let same : x ≡ n = cc in ap (λ m. m ∷ xs) same ∙ ap (λ ys. n ∷ ys) (sym rest)

pub first-item : (xs : List ℕ) (n : ℕ) → slice_get xs 0 ≡ Some n → (rest : List ℕ) × (xs ≡ n ∷ rest)
first-item [] n first = absurd cc
first-item (x ∷ xs) n first = let same : x ≡ n = cc in (xs, ap (λ m. m ∷ xs) same)

-- ---- what the table says of a number

fate-bits : (complete many paired always : Bool) → says_waiting (if not complete then Arriving else if many then Copied else if paired then Paired else if always then Waiting else Gone) ≡ not many && complete && not paired && always
fate-bits true true paired always = refl
fate-bits true false true always = refl
fate-bits true false false true = refl
fate-bits true false false false = refl
fate-bits false true paired always = refl
fate-bits false false paired always = refl

module _ (rules : RuleSet) (past : List Event) (are : AreJudged rules past) (table : Deliveries) (is_table : IsTable rules table past) where
  abbrev kept : ℕ → Option Held
  kept n = held_in table n

  pub listed-at : (d : Incoming) → Contains (completed_deliveries past) d → incoming_at d.number past ≡ Some d
  listed-at d there = (all_contained (IsKept past) (completed_deliveries past) d (each_completed (IsKept past) past (judged-kept rules past are).each) there).at

  -- the entry of one that is complete, and was not let go
  entry-at : (d : Incoming) → Contains (completed_deliveries past) d → is_let_go table.let_go.items d.number ≡ false → kept d.number ≡ option_map (held rules past) (if is_held rules past d then Some d else None)
  entry-at d there stays =
      table-there rules past table is_table.0 d.number stays
      ∙ ap (λ o. option_map (held rules past) (where_passes (is_held rules past) o)) (listed-at d there)

  -- one that was let go waits no more
  gone-waits : (d : Incoming) → Contains (completed_deliveries past) d → is_let_go table.let_go.items d.number ≡ true → is_waiting rules d past ≡ false
  gone-waits d there went = by (is_waiting rules d past) refl
    where
      by : (w : Bool) → is_waiting rules d past ≡ w → w ≡ false
      by false waits = refl
      by true waits = sym went ∙ let_go.waiting-kept rules past are table is_table.1.1 d.number d (listed-at d there) waits

  pub waits-is : (d : Incoming) → Contains (completed_deliveries past) d → is_some_and (kept d.number) (λ x. says_waiting x.fate) ≡ is_waiting rules d past
  waits-is d there = named (is_let_go table.let_go.items d.number) refl
    where
      by : (h : Bool) → is_held rules past d ≡ h → (w : Bool) → is_waiting rules d past ≡ w
          → is_some_and (option_map (held rules past) (if h then Some d else None)) (λ (x : Held). says_waiting x.fate) ≡ is_waiting rules d past
      by true is w other = fate-bits (is_complete d past) (is_of_multicast rules d past) (is_paired d past) (always_had_consumer d past)
      by false is false waits = sym waits
      by false is true waits = let never : true ≡ false = sym (waiting-kept rules past d waits) ∙ is in absurd cc

      named : (b : Bool) → is_let_go table.let_go.items d.number ≡ b → is_some_and (kept d.number) (λ x. says_waiting x.fate) ≡ is_waiting rules d past
      named false stays =
          ap (λ o. is_some_and o (λ (x : Held). says_waiting x.fate)) (entry-at d there stays)
          ∙ by (is_held rules past d) refl (is_waiting rules d past) refl
      named true went =
          ap (λ o. is_some_and o (λ (x : Held). says_waiting x.fate)) (is_table.0 d.number ∙ ap (λ b. if b then None else held_at rules d.number past) went)
          ∙ sym (gone-waits d there went)

  abbrev says : ℕ → Bool
  says n = is_some_and (kept n) (λ x. says_waiting x.fate)

  pub shorter-at : (address numbers later : List ℕ) → IsQueue rules past address numbers → IsShorter says numbers later → IsQueue rules past address later
  shorter-at address numbers later queue is =
      shorter rules past address numbers is.gone later queue is.all (λ d listed there. sym (waits-is d listed) ∙ is.over d.number there)

  pub moved-queues : {A S Z : Type 0} (m n : IndexMap (Vec ℕ Z) (VecDeque ℕ A) S) (key : List ℕ) (old new : VecDeque ℕ A) → Some old ≡ under m key
      → ((at : List ℕ) → under n at ≡ cond (bytes_eq key at) (Some new) (under m at)) → IsShorter says old.items new.items
      → ((at : List ℕ) → IsQueue rules past at (queued (under m at))) → (at : List ℕ) → IsQueue rules past at (queued (under n at))
  moved-queues m n key old new value changed is queues at = subst (IsQueue rules past at) (sym (ap queued (changed at))) (by (bytes_eq key at) refl)
    where
      by : (b : Bool) → bytes_eq key at ≡ b → IsQueue rules past at (queued (cond b (Some new) (under m at)))
      by true same =
          let old-items : old.items ≡ queued (under m at) = ap queued (value ∙ sym (alike m key at same)) in
          shorter-at at old.items new.items (subst (IsQueue rules past at) (sym old-items) (queues at)) is
      by false other = queues at

  -- an address of which no number is left goes
  pub emptied-queues : {A S Z : Type 0} (m n : IndexMap (Vec ℕ Z) (VecDeque ℕ A) S) (key : List ℕ) → queued (under m key) ≡ [] → ((at : List ℕ) → under n at ≡ cond (bytes_eq key at) None (under m at))
      → ((at : List ℕ) → IsQueue rules past at (queued (under m at))) → (at : List ℕ) → IsQueue rules past at (queued (under n at))
  emptied-queues {A = A} m n key none changed queues at = subst (IsQueue rules past at) (sym (ap queued (changed at))) (by (bytes_eq key at) refl)
    where
      gone : Option (VecDeque ℕ A)
      gone = None

      by : (b : Bool) → bytes_eq key at ≡ b → IsQueue rules past at (queued (cond b gone (under m at)))
      by true same = subst (IsQueue rules past at) (ap queued (alike m key at same) ∙ none) (queues at)
      by false other = queues at

  -- the first number of a queue, if its delivery waits
  pub chosen : (address numbers : List ℕ) (n : ℕ) → IsQueue rules past address numbers → says n ≡ true → slice_get numbers 0 ≡ Some n → (o : Option Incoming) → o ≡ option_map (λ x. x.delivery) (kept n)
      → IfSome o (λ d. (address_of d past ≡ address) × (incoming_at d.number past ≡ Some d) × (is_next_waiting rules past d ≡ true))
  chosen address numbers n queue says-so first o is =
      let item = first-item numbers n first in
      let one : IsFirst rules past address n = first-of rules past address numbers n item.0 queue item.1 in
      let d = one.delivery in
      let waits : is_waiting rules d past ≡ true = sym (waits-is d one.listed) ∙ (ap says one.number ∙ says-so) in
      let entry : kept n ≡ Some (held rules past d) =
      ap kept (sym one.number)
      ∙ (entry-at d one.listed (let_go.waiting-kept rules past are table is_table.1.1 d.number d (listed-at d one.listed) waits)
      ∙ ap (λ b. option_map (held rules past) (if b then Some d else None)) (waiting-kept rules past d waits)) in
      subst (λ (o : Option Incoming). IfSome o (λ d. (address_of d past ≡ address) × (incoming_at d.number past ≡ Some d) × (is_next_waiting rules past d ≡ true)))
      (sym (is ∙ ap (option_map (λ (x : Held). x.delivery)) entry)) (
        (bytes_eq-Decides (address_of d past) address).0 (and_first (bytes_eq (address_of d past) address) (not (is_of_multicast rules d past)) one.here),
        listed-at d one.listed,
        first_waiting-next rules past are address d one.others (one.queue waits),
      )
