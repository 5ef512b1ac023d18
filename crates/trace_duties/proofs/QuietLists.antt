-- Nothing is left that a router could write, where the lists of its work are empty: each part of that by itself, from
-- lists that have at least the elements in question, whatever else they have and in whatever order.
use Rattle.std.proofs.Common.{◌≡◌, refl, sym, ap, subst, ◌∙◌, ℕ, inl, inr, List, [], ◌∷◌, length, Bool, true, false, not, ◌&&◌, ◌||◌, ◌==◌, is_some, arith, ne_eqb}
use Rattle.std.specs.Prelude.{Contains}
use Rattle.std.specs.Str.{bytes_eq}
use Rattle.std.specs.List.{list_all}
use Rattle.std.proofs.lemmas.Slice.Eq.{bytes_eq-Decides}
use Rattle.capture_form.specs.Rules.{RuleSet}
use Rattle.trace_events.specs.Event.{Event, Link, Incoming, Outgoing}
use Rattle.trace_events.specs.declared.session.Session.{Session}
use Rattle.trace_events.specs.Session.{live_sessions}
use Rattle.trace_events.specs.Link.{is_producer, is_consumer, live_links}
use Rattle.trace_events.specs.Window.{session_window}
use Rattle.trace_events.specs.Credit.{link_credit}
use Rattle.trace_events.specs.Incoming.{address_of, incoming_deliveries}
use Rattle.trace_events.specs.Outgoing as outgoing
use Rattle.trace_events.specs.Outgoing.{outgoing_deliveries}
use Rattle.trace_events.specs.Waiting.{is_waiting}
use Rattle.trace_events.specs.Queue.{waiting_queue}
use Rattle.trace_events.specs.Due.{is_unsent}
use Rattle.trace_events.specs.Settling.{is_to_settle}
use Rattle.trace_events.specs.Work.{deliveries_to_settle, unsent_copies}
use Rattle.trace_events.proofs.Judged.{AreJudged}
use Rattle.trace_events.specs.Outcome.{is_to_tell}
use Rattle.trace_events.specs.Telling.{outcomes_to_tell}
use Rattle.trace_events.specs.FlowClause.{may_be_topped_up, may_be_drained}
use Rattle.trace_events.proofs.IncomingProgress.{judged-kept}
use Rattle.trace_events.proofs.OutcomesToTell.{to_tell_listed}
use Rattle.trace_events.proofs.SettlingList.{to_settle_listed}
use Rattle.trace_events.proofs.UnsentCopies.{unsent_listed}
use Rattle.trace_events.proofs.WaitingQueue.{waits_queued, contains_first, contains_later, contains_none, contains_cases}
use Rattle.trace_duties.specs.Pick.{eligible}
use Rattle.trace_duties.specs.Quiet.{none_waits_in_vain, stands_still, none_stands_still, none_is_untold, none_lacks_credit, lacks_window, none_lacks_window, none_is_undrained, has_earlier_unsent, is_held_back, copies_are_sent, none_is_unsettled, is_quiet}

-- ---- on lists

-- the second list has the elements of the first
abbrev pub HasAll : {A : Type 0} → List A → List A → Type 0
HasAll {A} xs ys = (x : A) → Contains xs x → Contains ys x

pub all-each : {A : Type 0} (test : A → Bool) (xs : List A) → ((x : A) → Contains xs x → test x ≡ true) → list_all test xs ≡ true
all-each test [] each = refl
all-each test (x ∷ xs) each = ap (λ b. b && list_all test xs) (each x (contains_first x xs)) ∙ all-each test xs (λ y there. each y (contains_later x xs y there))

and-first : (b c : Bool) → b && c ≡ true → b ≡ true
and-first true c is = refl
and-first false c is = absurd cc

and-last : (b c : Bool) → b && c ≡ true → c ≡ true
and-last true c is = is
and-last false c is = absurd cc

pub each-all : {A : Type 0} (test : A → Bool) (xs : List A) → list_all test xs ≡ true → (x : A) → Contains xs x → test x ≡ true
each-all test [] all x there = contains_none x there
each-all test (y ∷ ys) all x there = elim (contains_cases y ys x there) [
  | inl same ↦ ap test (sym same) ∙ and-first (test y) (list_all test ys) all
  | inr later ↦ each-all test ys (and-last (test y) (list_all test ys) all) x later
]

-- what holds of all of a list holds of all of one with fewer elements
pub all-fewer : {A : Type 0} (test : A → Bool) (xs ys : List A) → HasAll xs ys → list_all test ys ≡ true → list_all test xs ≡ true
all-fewer test xs ys has all = all-each test xs (λ x there. each-all test ys all x (has x there))

not-yet : (b : Bool) → (b ≡ true → false ≡ true) → not b ≡ true
not-yet true none = none refl
not-yet false none = refl

-- nothing passes where all that does stands in an empty list
pub none-listed : {A : Type 0} (test : A → Bool) (xs work : List A) → ((x : A) → Contains xs x → test x ≡ true → Contains work x) → work ≡ [] → list_all (λ x. not (test x)) xs ≡ true
none-listed test xs work listed empty =
    all-each (λ x. not (test x)) xs (λ x there. not-yet (test x) (λ passes. contains_none x (subst (λ ys. Contains ys x) empty (listed x there passes))))

not-empty : {A : Type 0} (x : A) (xs : List A) → Contains xs x → (length xs == 0) ≡ false
not-empty x [] there = contains_none x there
not-empty x (y ∷ ys) there = ne_eqb (length (y ∷ ys)) 0 (λ same. omega (arith, same))

module _ (rules : RuleSet) (past : List Event) where
  -- ---- outcomes and settlings

  -- no outcome could be told: no delivery stands in a list of all that are to be told
  pub quiet-untold : (work : List Incoming) → ((d : Incoming) → Contains (incoming_deliveries past) d → is_to_tell rules past d ≡ true → Contains work d) → work ≡ []
      → none_is_untold rules past ≡ true
  quiet-untold work listed empty = none-listed (is_to_tell rules past) (incoming_deliveries past) work listed empty

  pub quiet-none_to_tell : outcomes_to_tell rules past ≡ [] → none_is_untold rules past ≡ true
  quiet-none_to_tell empty = quiet-untold (outcomes_to_tell rules past) (λ d there is. to_tell_listed rules past d there is) empty

  -- no delivery is to be settled
  pub quiet-unsettled : (work : List Outgoing) → ((j : Outgoing) → Contains (outgoing_deliveries past) j → is_to_settle past j ≡ true → Contains work j) → work ≡ []
      → none_is_unsettled past ≡ true
  quiet-unsettled work listed empty = none-listed (is_to_settle past) (outgoing_deliveries past) work listed empty

  pub quiet-none_to_settle : deliveries_to_settle past ≡ [] → none_is_unsettled past ≡ true
  quiet-none_to_settle empty = quiet-unsettled (deliveries_to_settle past) (λ j there is. to_settle_listed past j there is) empty

  -- ---- links and sessions: each of a list that has all that live passes

  pub quiet-progress : (ls : List Link) → HasAll (live_links past) ls → list_all (λ l. not (stands_still past l)) ls ≡ true → none_stands_still past ≡ true
  quiet-progress ls has all = all-fewer (λ l. not (stands_still past l)) (live_links past) ls has all

  pub quiet-credit : (ls : List Link) → HasAll (live_links past) ls → list_all (λ l. not (is_producer l && may_be_topped_up rules past l)) ls ≡ true → none_lacks_credit rules past ≡ true
  quiet-credit ls has all = all-fewer (λ l. not (is_producer l && may_be_topped_up rules past l)) (live_links past) ls has all

  pub quiet-drains : (ls : List Link) → HasAll (live_links past) ls → list_all (λ l. not (is_consumer l && may_be_drained rules past l)) ls ≡ true → none_is_undrained rules past ≡ true
  quiet-drains ls has all = all-fewer (λ l. not (is_consumer l && may_be_drained rules past l)) (live_links past) ls has all

  pub quiet-windows : (ss : List Session) → HasAll (live_sessions past) ss → list_all (λ s. not (lacks_window past s)) ss ≡ true → none_lacks_window past ≡ true
  quiet-windows ss has all = all-fewer (λ s. not (lacks_window past s)) (live_sessions past) ss has all

  -- ---- deliveries that wait: each queue is empty, or no link of its address may be sent anything

  abbrev pub waits_not : List ℕ → Bool
  waits_not address = length (waiting_queue rules address past) == 0 || length (eligible address past) == 0

  -- all addresses at which a delivery waits are among these
  pub quiet-queues : AreJudged rules past → (addresses : List (List ℕ))
      → ((d : Incoming) → Contains (incoming_deliveries past) d → is_waiting rules d past ≡ true → Contains addresses (address_of d past))
      → list_all waits_not addresses ≡ true → none_waits_in_vain rules past ≡ true
  quiet-queues are addresses has all = all-each (λ d. not (is_waiting rules d past) || length (eligible (address_of d past) past) == 0) (incoming_deliveries past) (λ d there. by d there (is_waiting rules d past) refl)
    where
      by : (d : Incoming) → Contains (incoming_deliveries past) d → (b : Bool) → is_waiting rules d past ≡ b → not b || length (eligible (address_of d past) past) == 0 ≡ true
      by d there false is = refl
      by d there true is =
          let at : waits_not (address_of d past) ≡ true = each-all waits_not addresses all (address_of d past) (has d there is) in
          let here : bytes_eq (address_of d past) (address_of d past) && is_waiting rules d past ≡ true = ap (λ b. b && is_waiting rules d past) ((bytes_eq-Decides (address_of d past) (address_of d past)).1 refl) ∙ is in
          let queued = waits_queued rules (address_of d past) past (judged-kept rules past are) d there here in
          sym (ap (λ b. b || length (eligible (address_of d past) past) == 0) (not-empty d (waiting_queue rules (address_of d past) past) queued)) ∙ at

  -- ---- copies: of each link none is unsent, or nothing may be sent on it

  abbrev pub copies_wait_not : Link → Bool
  copies_wait_not l =
      length (unsent_copies rules l past) == 0 || is_some (outgoing.in_progress l past) || session_window l.session past == 0 || link_credit l past == 0

  pub quiet-copies : AreJudged rules past → (ls : List Link) → HasAll (live_links past) ls → list_all copies_wait_not ls ≡ true → copies_are_sent rules past ≡ true
  quiet-copies are ls has all =
      all-each (λ l. list_all (λ d. not (is_unsent rules d l past) || is_held_back rules past l d) (incoming_deliveries past)) (live_links past)
      (λ l lives. all-each (λ d. not (is_unsent rules d l past) || is_held_back rules past l d) (incoming_deliveries past)
      (λ d there. by l (each-all copies_wait_not ls all l (has l lives)) d there (is_unsent rules d l past) refl))
    where
      held : (earlier none progress window credit : Bool) → none ≡ false → none || progress || window || credit ≡ true → earlier || progress || window || credit ≡ true
      held true none progress window credit some is = refl
      held false false progress window credit some is = is
      held false true progress window credit some is = absurd cc

      by : (l : Link) → copies_wait_not l ≡ true → (d : Incoming) → Contains (incoming_deliveries past) d → (b : Bool) → is_unsent rules d l past ≡ b → not b || is_held_back rules past l d ≡ true
      by l waits d there false is = refl
      by l waits d there true is =
          held (has_earlier_unsent rules past l d) (length (unsent_copies rules l past) == 0) (is_some (outgoing.in_progress l past)) (session_window l.session past == 0) (link_credit l past == 0)
          (not-empty d (unsent_copies rules l past) (unsent_listed rules l past (judged-kept rules past are) d there is)) waits

  -- ---- all of it

  pub quiet-is : none_waits_in_vain rules past ≡ true → none_stands_still past ≡ true → none_is_untold rules past ≡ true → none_lacks_credit rules past ≡ true
      → none_lacks_window past ≡ true → none_is_undrained rules past ≡ true → copies_are_sent rules past ≡ true → none_is_unsettled past ≡ true → is_quiet rules past ≡ true
  quiet-is queues progress untold credit windows drains copies unsettled = rw (queues, progress, untold, credit, windows, drains, copies, unsettled) refl
