-- Of a delivery to a client nothing is known before it begins; and each is found by its number.
use Rattle.std.proofs.Common.{◌≡◌, refl, sym, ap, subst, ◌∙◌, ℕ, suc, ◌%◌, ◌^◌, ◌<◌, ◌≤◌, Bool, true, false, ◌&&◌, not, List, [], ◌∷◌, length, Option, Some, None, IfSome, IsSomeAnd, is_some, find, reverse, option_map, if◌then◌else◌, ◌==◌, inl, inr, arith, eqb-true, eq-eqb, ne_eqb}
use Rattle.std.specs.List.{cons_option, AllByRecursion}
use Rattle.amqp_perf.specs.declared.attach.Role.{Role}
use Rattle.amqp_perf.specs.declared.attach.Role.TheVariants.{Sender, Receiver}
use Rattle.amqp_perf.specs.Meaning.{Meaning, AnOpen, ABegin, AnAttach, AFlow, ATransfer, ADisposition, ADetach, AnEnd, AClose, DispositionFields}
use Rattle.capture_form.specs.Rules.{RuleSet}
use Rattle.pairing_cert.specs.declared.note.Note.{Note}
use Rattle.trace_events.specs.declared.session.Session.{Session}
use Rattle.trace_events.specs.Words.{is_some_and, is_number}
use Rattle.trace_events.specs.Frame.{spoken_in}
use Rattle.trace_events.specs.Event.{Event, Outgoing, Moment, Opened, In, Out, Lost, Broken}
use Rattle.trace_events.specs.Link.{is_live}
use Rattle.trace_events.specs.History.{placed, heard, faulted, moment_of, settled_by, settled_part, settled_by_role}
use Rattle.trace_events.specs.Outgoing.{is_part, payload, outgoing_begun, outgoing_deliveries, outgoing_at, answering, first_deciding, decision, noted, is_settled_by_consumer, is_settled_by_router}
use Rattle.trace_events.specs.Outgoing as law
use Rattle.trace_events.specs.Settling.{to_settle, is_closed, is_to_settle}
use Rattle.trace_events.specs.Disposition.{terminal_state}
use Rattle.trace_events.proofs.Judged.{AreJudged, AreBorn, IsBorn, judged-born, judged-number, and_then-some}
use Rattle.trace_events.proofs.Links.{passing}
use Rattle.trace_events.proofs.OutgoingLinks.{answering-before, first_deciding-before}
use Rattle.trace_events.proofs.OutgoingSteps.{payload-same, is_sent-no_part, is_settled_by_consumer-unanswered, is_settled_by_router-same}
use Rattle.trace_events.proofs.Parts.{all_such, found_holds}
use Rattle.trace_events.proofs.WaitingQueue.{all_contained, find_has, in_reverse}
use Rattle.state_outgoing.specs.Sent.{sent, unsent, begins_number}
use Rattle.state_outgoing.proofs.SentSteps.{made-same}

-- ---- deliveries that have begun are of earlier numbers

born-before : (n : ℕ) (note : Note) (o : Option Outgoing) (m : ℕ) → IfSome o (IsBorn n note) → suc n ≤ m → is_some_and o (λ k. k.number == m) ≡ false
born-before n own None m born le = refl
born-before n own (Some k) m (inl lt) le = ne_eqb k.number m (λ same. absurd (omega (arith, lt, le, same)))
born-before n own (Some k) m (inr (at, named)) le = ne_eqb k.number m (λ same. absurd (omega (arith, at, le, same)))

abbrev IsBelow : ℕ → Outgoing → Type 0
IsBelow n j = j.number < n

born-below : (n : ℕ) (note : Note) (j : Outgoing) → IsBorn n note j → j.number < suc n
born-below n own j (inl lt) = omega (arith, lt)
born-below n own j (inr (at, named)) = omega (arith, at)

pub all-below : (past : List Event) → AreBorn past → AllByRecursion (IsBelow (length past)) (outgoing_deliveries past)
all-below [] are = tt
all-below (e ∷ past) are = by (outgoing_begun e) refl (all_such (IsBelow (length past)) (IsBelow (suc (length past))) (outgoing_deliveries past) (λ j lt. omega (arith, lt)) (all-below past are.1))
  where
    own : (o : Option Outgoing) (j : Outgoing) → o ≡ Some j → IfSome o (IsBorn (length past) e.note) → IsBorn (length past) e.note j
    own o j is born = subst (λ (p : Option Outgoing). IfSome p (IsBorn (length past) e.note)) is born

    by : (o : Option Outgoing) → outgoing_begun e ≡ o → AllByRecursion (IsBelow (suc (length past))) (outgoing_deliveries past) → AllByRecursion (IsBelow (suc (length past))) (cons_option o (outgoing_deliveries past))
    by None is earlier = earlier
    by (Some j) is earlier =
        (born-below (length past) e.note j (own e.outgoing j (passing (λ (x : Outgoing). x.number == e.number) e.outgoing j is).0 are.0), earlier)

pub found-below : (past : List Event) → AreBorn past → (n : ℕ) (j : Outgoing) → outgoing_at n past ≡ Some j → j.number < length past
found-below past are n j found = found_holds (IsBelow (length past)) (λ (x : Outgoing). x.number == n) (outgoing_deliveries past) j (all-below past are) found

found-number : (n : ℕ) (js : List Outgoing) (j : Outgoing) → find (λ (x : Outgoing). x.number == n) js ≡ Some j → j.number ≡ n
found-number n [] j found = absurd cc
found-number n (k ∷ js) j found = by (k.number == n) refl found (found-number n js j)
  where
    by : (b : Bool) → (k.number == n) ≡ b → (if b then Some k else find (λ (x : Outgoing). x.number == n) js) ≡ Some j → (find (λ (x : Outgoing). x.number == n) js ≡ Some j → j.number ≡ n) → j.number ≡ n
    by true same found later = let one : k ≡ j = cc in ap (λ (x : Outgoing). x.number) (sym one) ∙ eqb-true k.number n same
    by false other found later = later found

-- it has this number
pub at-number : (past : List Event) (n : ℕ) (j : Outgoing) → outgoing_at n past ≡ Some j → j.number ≡ n
at-number past n j found = found-number n (outgoing_deliveries past) j found

-- ---- what begins

module _ (rules : RuleSet) (e : Event) (past : List Event) (are : AreJudged rules (e ∷ past)) where
  pub own-number : (k : Outgoing) → outgoing_begun e ≡ Some k → k.number ≡ length past
  own-number k begun = eqb-true k.number e.number (passing (λ (x : Outgoing). x.number == e.number) e.outgoing k begun).1 ∙ judged-number rules e past are

  -- one that has begun is not begun by the event
  pub begun-once : (n : ℕ) (j : Outgoing) → outgoing_at n past ≡ Some j → begins_number e n ≡ false
  begun-once n j found = by (outgoing_begun e) refl
    where
      by : (o : Option Outgoing) → outgoing_begun e ≡ o → is_some_and o (λ k. k.number == n) ≡ false
      by None none = refl
      by (Some k) begun =
          let own = own-number k begun in
          let lt = found-below past (judged-born rules past are.1) n j found in
          let is = at-number past n j found in
          ne_eqb k.number n (λ same. absurd (omega (arith, own, lt, is, same)))

  at-by : (n : ℕ) (o : Option Outgoing) → outgoing_begun e ≡ o → outgoing_at n (e ∷ past) ≡ (if is_some_and o (λ k. k.number == n) then o else outgoing_at n past)
  at-by n None none = ap (λ o. find (λ (k : Outgoing). k.number == n) (cons_option o (outgoing_deliveries past))) none
  at-by n (Some k) begun = ap (λ o. find (λ (k : Outgoing). k.number == n) (cons_option o (outgoing_deliveries past))) begun

  pub at-step : (n : ℕ) → outgoing_at n (e ∷ past) ≡ (if begins_number e n then outgoing_begun e else outgoing_at n past)
  at-step n = at-by n (outgoing_begun e) refl

  -- and is found behind it
  pub found-still : (n : ℕ) (j : Outgoing) → outgoing_at n past ≡ Some j → outgoing_at n (e ∷ past) ≡ Some j
  found-still n j found = at-step n ∙ (ap (λ b. if b then outgoing_begun e else outgoing_at n past) (begun-once n j found) ∙ found)

  pub found-own : (j : Outgoing) → outgoing_begun e ≡ Some j → outgoing_at j.number (e ∷ past) ≡ Some j
  found-own j begun =
      at-by j.number (Some j) begun ∙ ap (λ b. if b then Some j else outgoing_at j.number past) (eq-eqb j.number j.number refl)

-- ---- each that has begun is found by its number

abbrev IsFound : List Event → Outgoing → Type 0
IsFound past j = outgoing_at j.number past ≡ Some j

pub all-found : (rules : RuleSet) (past : List Event) → AreJudged rules past → AllByRecursion (IsFound past) (outgoing_deliveries past)
all-found rules [] are = tt
all-found rules (e ∷ past) are =
    by (outgoing_begun e) refl (all_such (IsFound past) (IsFound (e ∷ past)) (outgoing_deliveries past) (λ j found. found-still rules e past are j.number j found) (all-found rules past are.1))
  where
    by : (o : Option Outgoing) → outgoing_begun e ≡ o → AllByRecursion (IsFound (e ∷ past)) (outgoing_deliveries past) → AllByRecursion (IsFound (e ∷ past)) (cons_option o (outgoing_deliveries past))
    by None none earlier = earlier
    by (Some j) begun earlier = (found-own rules e past are j begun, earlier)

-- ---- the router settles what is decided

abbrev pub IsDecidedIn : List Event → ℕ → Type 0
IsDecidedIn past n = IsSomeAnd (outgoing_at n past) (λ j. is_some (decision j past) ≡ true)

abbrev pub AreSettled : List Event → Type 0
AreSettled [] = Unit {0}
AreSettled (e ∷ past) = IfSome e.settled (IsDecidedIn past) × AreSettled past

find-passes : {A : Type 0} (test : A → Bool) (xs : List A) (x : A) → find test xs ≡ Some x → test x ≡ true
find-passes test [] x found = absurd cc
find-passes test (y ∷ ys) x found = by (test y) refl (find-passes test ys x) found
  where
    by : (b : Bool) → test y ≡ b → (find test ys ≡ Some x → test x ≡ true) → (if b then Some y else find test ys) ≡ Some x → test x ≡ true
    by true is later found = let same : y ≡ x = cc in ap test (sym same) ∙ is
    by false is later found = later found

and_last : (a b : Bool) → a && b ≡ true → b ≡ true
and_last true b is = is
and_last false b is = absurd cc

decided-one : (live decided c r closed : Bool) → live && decided && c && r && closed ≡ true → decided ≡ true
decided-one true true c r closed is = refl
decided-one true false c r closed is = absurd cc
decided-one false decided c r closed is = absurd cc

some-and : {A : Type 0} (P : A → Type 0) (o : Option A) (x : A) → o ≡ Some x → P x → IsSomeAnd o P
some-and P o x is h = subst (λ (p : Option _). IsSomeAnd p P) (sym is) h

to_settle-decided : (rules : RuleSet) (s : Session) (id : ℕ) (past : List Event) → AreJudged rules past → (j : Outgoing) → to_settle s id past ≡ Some j → IsDecidedIn past j.number
to_settle-decided rules s id past are j found =
    let test : Outgoing → Bool = λ x. x.link.session.number == s.number && is_number x.id id && is_to_settle past x in
    let at = all_contained (IsFound past) (outgoing_deliveries past) j (all-found rules past are) (in_reverse (outgoing_deliveries past) j (find_has test (reverse (outgoing_deliveries past)) j found)) in
    let is = and_last (j.link.session.number == s.number && is_number j.id id) (is_to_settle past j) (find-passes test (reverse (outgoing_deliveries past)) j found) in
    some-and (λ k. is_some (decision k past) ≡ true) (outgoing_at j.number past) j at
    (decided-one (is_live past j.link) (is_some (decision j past)) (not (is_settled_by_consumer j past)) (not (is_settled_by_router j past)) (is_some_and (noted j.note past) (is_closed past)) is)

module _ (rules : RuleSet) (past : List Event) (are : AreJudged rules past) where
  role-decided : (s : Session) (id : ℕ) (role : Role) → IfSome (settled_by_role s id role past) (IsDecidedIn past)
  role-decided s id Receiver = tt
  role-decided s id Sender = by (to_settle s id past) refl
    where
      by : (o : Option Outgoing) → to_settle s id past ≡ o → IfSome (option_map (λ (j : Outgoing). j.number) o) (IsDecidedIn past)
      by None none = tt
      by (Some j) found = to_settle-decided rules s id past are j found

  part-decided : (e : Event) (meaning : Meaning) → IfSome (settled_part e meaning past) (IsDecidedIn past)
  part-decided e (ADisposition fields) = and_then-some (IsDecidedIn past) _ e.session (λ s. role-decided s fields.first fields.role)
  part-decided e (ATransfer fields) = tt
  part-decided e (AnOpen fields) = tt
  part-decided e (ABegin fields) = tt
  part-decided e (AnAttach fields) = tt
  part-decided e (AFlow fields) = tt
  part-decided e (ADetach fields) = tt
  part-decided e (AnEnd error) = tt
  part-decided e (AClose error) = tt

  settled-decided : (e : Event) (m : Moment) → IfSome (settled_by e m past) (IsDecidedIn past)
  settled-decided e (Out frame) = and_then-some (IsDecidedIn past) _ (spoken_in frame.body) (λ spoken. part-decided e spoken.meaning)
  settled-decided e (In frame) = tt
  settled-decided e Opened = tt
  settled-decided e Lost = tt
  settled-decided e Broken = tt

pub judged-settled : (rules : RuleSet) (past : List Event) → AreJudged rules past → AreSettled past
judged-settled rules [] are = tt
judged-settled rules (e ∷ past) ((r, is), are) = (
  subst (λ (x : Event). IfSome x.settled (IsDecidedIn past)) (sym is)
      (settled-decided rules past are (faulted rules past (heard past (placed past r.connection (moment_of r.what) r.note))) (moment_of r.what)),
  judged-settled rules past are,
)

-- ---- so nothing is known before

decided-below : (past : List Event) → AreBorn past → (n : ℕ) → IsDecidedIn past n → n < length past
decided-below past are n is = by (outgoing_at n past) refl is
  where
    by : (o : Option Outgoing) → outgoing_at n past ≡ o → IsSomeAnd o (λ j. is_some (decision j past) ≡ true) → n < length past
    by None none never = absurd never
    by (Some j) found decided =
        let lt = found-below past are n j found in
        let at = at-number past n j found in
        omega (arith, lt, at)

settled-before : (past : List Event) → AreBorn past → (o : Option ℕ) (m : ℕ) → IfSome o (IsDecidedIn past) → length past ≤ m → is_number o m ≡ false
settled-before past are None m below le = refl
settled-before past are (Some k) m is le = let below = decided-below past are k is in ne_eqb k m (λ same. absurd (omega (arith, below, le, same)))

module _ (j : Outgoing) where
  pub payload-none : (past : List Event) → AreBorn past → length past ≤ j.number → payload j past ≡ []
  payload-none [] are le = refl
  payload-none (e ∷ past) are le =
      payload-same e past j (born-before (length past) e.note e.outgoing j.number are.0 (omega (arith, le))) ∙ payload-none past are.1 (omega (arith, le))

  pub sent-none : (past : List Event) → AreBorn past → length past ≤ j.number → law.is_sent j past ≡ false
  sent-none [] are le = refl
  sent-none (e ∷ past) are le =
      is_sent-no_part e past j (born-before (length past) e.note e.outgoing j.number are.0 (omega (arith, le))) ∙ sent-none past are.1 (omega (arith, le))

  pub by_consumer-none : (rules : RuleSet) (past : List Event) → AreJudged rules past → length past ≤ j.number → is_settled_by_consumer j past ≡ false
  by_consumer-none rules [] are le = refl
  by_consumer-none rules (e ∷ past) are le =
      let number = judged-number rules e past are in
      is_settled_by_consumer-unanswered e past j (answering-before j e (omega (arith, number, le))) ∙ by_consumer-none rules past are.1 (omega (arith, le))

  by_router-none_of : (past : List Event) → AreBorn past → AreSettled past → length past ≤ j.number → is_settled_by_router j past ≡ false
  by_router-none_of [] born are le = refl
  by_router-none_of (e ∷ past) born are le =
      is_settled_by_router-same e past j (settled-before past born.1 e.settled j.number are.0 (omega (arith, le))) ∙ by_router-none_of past born.1 are.1 (omega (arith, le))

  pub by_router-none : (rules : RuleSet) (past : List Event) → AreJudged rules past → length past ≤ j.number → is_settled_by_router j past ≡ false
  by_router-none rules past are le = by_router-none_of past (judged-born rules past are) (judged-settled rules past are) le

  none-if : (b : Bool) (o : Option DispositionFields) → o ≡ None → option_map terminal_state (if b then None else o) ≡ None
  none-if true o is = refl
  none-if false o is = ap (option_map terminal_state) is

  unsettled-if : (s live c r : Bool) → live ≡ true → c ≡ false → r ≡ false → not s && (live && not c && not r) ≡ not s
  unsettled-if true live c r a b d = refl
  unsettled-if false live c r a b d = rw (a, b, d) refl

  -- on a link that lives
  pub unsent-before : (rules : RuleSet) (past : List Event) → AreJudged rules past → length past ≤ j.number → is_live past j.link ≡ true → sent past j ≡ unsent j
  unsent-before rules past are le live =
      made-same j _ _ _ _ _ _ _ _ (ap (λ (xs : List ℕ). length xs % 2 ^ 64) (payload-none past (judged-born rules past are) le)) (sent-none past (judged-born rules past are) le)
      (none-if j.link.is_pre_settled (first_deciding j past) (first_deciding-before rules past j are (omega (arith, le))))
      (unsettled-if j.link.is_pre_settled (is_live past j.link) (is_settled_by_consumer j past) (is_settled_by_router j past) live (by_consumer-none rules past are le) (by_router-none rules past are le))
