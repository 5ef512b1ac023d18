-- The deliveries that wait at each address, the first completed first (own rules).
use Rattle.std.specs.Prelude.{◌≡◌, ℕ, Bool, false, ◌&&◌, not, List, [], ◌∷◌, ◌++◌, Option, Some, None, Contains, filter, map, reverse, bytes_eq, if◌then◌else◌}
use Rattle.std.specs.declared.collections.VecDeque.{VecDeque}
use Rattle.indexmap.specs.IndexMap.{get_by}
use Rattle.capture_form.specs.Rules.{RuleSet}
use Rattle.trace_events.specs.Words.{is_some_and}
use Rattle.trace_events.specs.Event.{Event, Incoming}
use Rattle.trace_events.specs.Incoming.{address_of}
use Rattle.trace_events.specs.Queue.{completed_deliveries}
use Rattle.trace_events.specs.Waiting.{is_of_multicast, is_waiting}
use Rattle.state_incoming.specs.Held.{says_waiting}
use Rattle.state_incoming.specs.HeldTables.{held_in}
use Rattle.state_incoming.specs.declared.deliveries.Deliveries.{Deliveries}
use Rattle.due_lists.specs.declared.queues.Queues.{Queues}

-- ---- what is kept

abbrev pub queued : {A : Type 0} → Option (VecDeque ℕ A) → List ℕ
queued None = []
queued (Some queue) = queue.items

-- the numbers that the table has for the address
abbrev pub queue_in : Queues → List ℕ → List ℕ
queue_in table address = queued (get_by (λ kept. bytes_eq address kept.items) table.entries)

-- ---- what the law says

-- a delivery of the address that goes to one consumer; asked of complete ones
abbrev pub is_of : RuleSet → List ℕ → List Event → Incoming → Bool
is_of rules address past d = bytes_eq (address_of d past) address && not (is_of_multicast rules d past)

-- all of them that are complete, the first completed first
abbrev pub completed_at : RuleSet → List ℕ → List Event → List Incoming
completed_at rules address past = reverse (filter (is_of rules address past) (completed_deliveries past))

-- these are their numbers, without some in front that wait no more
pub record IsQueue (rules : RuleSet) (past : List Event) (address : List ℕ) (numbers : List ℕ) : Type 0 where
  pub dropped : List Incoming
  pub kept : List Incoming
  pub all : completed_at rules address past ≡ dropped ++ kept
  pub over : (d : Incoming) → Contains dropped d → is_waiting rules d past ≡ false
  pub are : numbers ≡ map (λ d. d.number) kept

abbrev pub HaveQueues : RuleSet → Queues → List Event → Type 0
HaveQueues rules table past = (address : List ℕ) → IsQueue rules past address (queue_in table address)

-- the table of deliveries says that the delivery of the number waits
abbrev pub waits_in : Deliveries → ℕ → Bool
waits_in table n = is_some_and (held_in table n) (λ x. says_waiting x.fate)

-- some numbers in front that don't wait are gone
pub record IsShorter (waits : ℕ → Bool) (earlier later : List ℕ) : Type 0 where
  pub gone : List ℕ
  pub all : earlier ≡ gone ++ later
  pub over : (n : ℕ) → Contains gone n → waits n ≡ false

-- the number has come last at the address
abbrev pub IsPushed : List ℕ → ℕ → Queues → Queues → Type 0
IsPushed address number earlier later =
    (at : List ℕ) → queue_in later at ≡ (if bytes_eq address at then queue_in earlier at ++ number ∷ [] else queue_in earlier at)
