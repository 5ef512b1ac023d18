-- Deliveries to clients begin on links that were opened before, and are decided after they began.
use Rattle.std.proofs.Common.{◌≡◌, refl, sym, ap, subst, ◌∙◌, ℕ, suc, ◌<◌, ◌≤◌, Bool, true, false, List, [], ◌∷◌, length, Option, Some, None, IfSome, is_some, option_and_then, option_map, if◌then◌else◌, ◌==◌, inl, inr, arith}
use Rattle.std.specs.Prelude.{nat_lt}
use Rattle.std.specs.List.{AllByRecursion, cons_option}
use Rattle.std.proofs.lemmas.Bool.{le-ltb}
use Rattle.amqp_perf.specs.Meaning.{Meaning, AnOpen, ABegin, AnAttach, AFlow, ATransfer, ADisposition, ADetach, AnEnd, AClose, DispositionFields, TransferFields, flag}
use Rattle.capture_form.specs.declared.records.Record.{Record}
use Rattle.capture_form.specs.Rules.{RuleSet}
use Rattle.trace_events.specs.Words.{is_some_and, or_else, where_passes}
use Rattle.trace_events.specs.Frame.{Spoken, spoken_in}
use Rattle.trace_events.specs.Said.{as_attach, out_transfer}
use Rattle.trace_events.specs.Event.{Event, Link, Outgoing, Moment, Opened, In, Out, Lost, Broken}
use Rattle.trace_events.specs.Link.{is_consumer}
use Rattle.trace_events.specs.Outgoing.{in_progress, outgoing_deliveries, answering, deciding, first_deciding, decision}
use Rattle.trace_events.specs.History.{judge, moment_of, outgoing_by, outgoing_part, new_outgoing, judge_unopened}
use Rattle.trace_events.proofs.Along.{standing}
use Rattle.trace_events.proofs.Elsewhere.{if-some}
use Rattle.trace_events.proofs.EventKinds.{out_said}
use Rattle.trace_events.proofs.Judged.{AreJudged, judged-number}
use Rattle.trace_events.proofs.Opens.{opened-link}
use Rattle.trace_events.proofs.Links.{Stands, passing, attach_in, of_kind, named_known}
use Rattle.trace_events.proofs.LinkLives.{judged-stands}
use Rattle.trace_events.proofs.OutgoingSteps.{first_deciding-same, deciding-none}
use Rattle.trace_events.proofs.StepWords.{and-false}

-- ---- a delivery stands on a link that was opened before

-- the link was opened before a record
abbrev pub IsOnEarlier : ℕ → Outgoing → Type 0
IsOnEarlier n j = j.link.number < n

abbrev pub AreOnEarlier : List Event → Type 0
AreOnEarlier [] = Unit {0}
AreOnEarlier (e ∷ past) = IfSome e.outgoing (IsOnEarlier (length past)) × AreOnEarlier past

if-some-weaker : {A : Type 0} (P Q : A → Type 0) (o : Option A) → ((a : A) → P a → Q a) → IfSome o P → IfSome o Q
if-some-weaker P Q None f h = tt
if-some-weaker P Q (Some a) f h = f a h

in_progress-earlier : (l : Link) (past : List Event) → AreOnEarlier past → IfSome (in_progress l past) (IsOnEarlier (length past))
in_progress-earlier l [] are = tt
in_progress-earlier l (e ∷ past) are =
    let Now : Outgoing → Type 0 = IsOnEarlier (suc (length past)) in
    let last : IfSome e.outgoing Now = if-some-weaker (IsOnEarlier (length past)) Now e.outgoing (λ j lt. omega (arith, lt)) are.0 in
    let before : IfSome (in_progress l past) Now = if-some-weaker (IsOnEarlier (length past)) Now (in_progress l past) (λ j lt. omega (arith, lt)) (in_progress-earlier l past are.1) in
    if-some Now (is_some_and e.outgoing (λ j. j.link.number == l.number)) (if is_some_and (out_transfer e) (λ fields. flag fields.more) then e.outgoing else None) (in_progress l past)
    (if-some Now (is_some_and (out_transfer e) (λ fields. flag fields.more)) e.outgoing None last tt) before

or_else-earlier : (n : ℕ) (o : Option Outgoing) (j : Outgoing) → IfSome o (IsOnEarlier n) → IsOnEarlier n j → IfSome (or_else o (Some j)) (IsOnEarlier n)
or_else-earlier n None j before now = now
or_else-earlier n (Some k) j before now = before

on_link : (n : ℕ) (e : Event) (fields : TransferFields) (past : List Event) (o : Option Link) → ((l : Link) → o ≡ Some l → l.number < n) → ((l : Link) → IfSome (in_progress l past) (IsOnEarlier n))
    → IfSome (option_and_then (λ l. or_else (in_progress l past) (Some (new_outgoing e.number e.note fields l))) o) (IsOnEarlier n)
on_link n e fields past None known before = tt
on_link n e fields past (Some l) known before = or_else-earlier n (in_progress l past) (new_outgoing e.number e.note fields l) (before l) (known l refl)

-- a link that a transfer names was opened before
named_earlier : (rules : RuleSet) (past : List Event) (r : Record) (fields : TransferFields) (l : Link) → Stands past → out_said (moment_of r.what) ≡ Some (ATransfer fields)
    → (standing rules past r).link ≡ Some l → l.number < length past
named_earlier rules past r fields l stands is on =
    let none : attach_in (moment_of r.what) ≡ None = ap (option_and_then as_attach) is in
    let linked : (judge rules past r).link ≡ Some l = opened-link (judge_unopened rules past r.connection (moment_of r.what) r.note) past none ∙ on in
    elim (of_kind rules past r l linked) [
      | inl opens ↦ let never : is_some (attach_in (moment_of r.what)) ≡ false = ap is_some none in absurd cc
      | inr named ↦ (named_known rules past r l stands named.0 named.1 named.2).1
    ]

module _ (rules : RuleSet) (past : List Event) (r : Record) (stands : Stands past) (before : (l : Link) → IfSome (in_progress l past) (IsOnEarlier (length past))) where
  part_earlier : (meaning : Meaning) → out_said (moment_of r.what) ≡ Some meaning → IfSome (outgoing_part (standing rules past r) meaning past) (IsOnEarlier (length past))
  part_earlier (ATransfer fields) is =
      on_link (length past) (standing rules past r) fields past (where_passes is_consumer (standing rules past r).link)
      (λ l on. named_earlier rules past r fields l stands is (passing is_consumer (standing rules past r).link l on).0) before
  part_earlier (AnOpen fields) is = tt
  part_earlier (ABegin fields) is = tt
  part_earlier (AnAttach fields) is = tt
  part_earlier (AFlow fields) is = tt
  part_earlier (ADisposition fields) is = tt
  part_earlier (ADetach fields) is = tt
  part_earlier (AnEnd error) is = tt
  part_earlier (AClose error) is = tt

  said_earlier : (o : Option Spoken) → out_said (moment_of r.what) ≡ option_map (λ (spoken : Spoken). spoken.meaning) o
      → IfSome (option_and_then (λ (spoken : Spoken). outgoing_part (standing rules past r) spoken.meaning past) o) (IsOnEarlier (length past))
  said_earlier None is = tt
  said_earlier (Some spoken) is = part_earlier spoken.meaning is

  moment_earlier : (m : Moment) → moment_of r.what ≡ m → IfSome (outgoing_by (standing rules past r) m past) (IsOnEarlier (length past))
  moment_earlier (Out frame) is = said_earlier (spoken_in frame.body) (ap out_said is)
  moment_earlier (In frame) is = tt
  moment_earlier Opened is = tt
  moment_earlier Lost is = tt
  moment_earlier Broken is = tt

pub judged-on_earlier : (rules : RuleSet) (past : List Event) → AreJudged rules past → AreOnEarlier past
judged-on_earlier rules [] are = tt
judged-on_earlier rules (e ∷ past) ((r, is), are) = (
  subst (λ (x : Event). IfSome x.outgoing (IsOnEarlier (length past))) (sym is)
      (moment_earlier rules past r (judged-stands rules past are) (λ l. in_progress-earlier l past (judged-on_earlier rules past are)) (moment_of r.what) refl),
  judged-on_earlier rules past are,
)

-- all deliveries that have begun with an event stand on links that were opened before it
begun_earlier : (n : ℕ) (number : ℕ) (o : Option Outgoing) (js : List Outgoing) → IfSome o (IsOnEarlier n) → AllByRecursion (IsOnEarlier n) js
    → AllByRecursion (IsOnEarlier n) (cons_option (where_passes (λ j. j.number == number) o) js)
begun_earlier n number None js is all = all
begun_earlier n number (Some j) js is all = by (j.number == number)
  where
    by : (b : Bool) → AllByRecursion (IsOnEarlier n) (cons_option (if b then Some j else None) js)
    by true = (is, all)
    by false = all

each-weaker : (n m : ℕ) → n ≤ m → (js : List Outgoing) → AllByRecursion (IsOnEarlier n) js → AllByRecursion (IsOnEarlier m) js
each-weaker n m le [] all = tt
each-weaker n m le (j ∷ js) all = (omega (arith, le, all.0), each-weaker n m le js all.1)

pub deliveries-earlier : (past : List Event) → AreOnEarlier past → AllByRecursion (IsOnEarlier (length past)) (outgoing_deliveries past)
deliveries-earlier [] are = tt
deliveries-earlier (e ∷ past) are =
    each-weaker (length past) (suc (length past)) (omega arith) (outgoing_deliveries (e ∷ past)) (begun_earlier (length past) e.number e.outgoing (outgoing_deliveries past) are.0 (deliveries-earlier past are.1))

-- with the one that the last event begins
pub deliveries-earlier_now : (e : Event) (past : List Event) → AreOnEarlier (e ∷ past) → AllByRecursion (IsOnEarlier (length past)) (outgoing_deliveries (e ∷ past))
deliveries-earlier_now e past are = begun_earlier (length past) e.number e.outgoing (outgoing_deliveries past) are.0 (deliveries-earlier past are.1)

-- ---- nothing decides a delivery before it began

pub answering-before : (j : Outgoing) (e : Event) → e.number ≤ j.number → answering j e ≡ None
answering-before j e le =
    let none : nat_lt j.number e.number ≡ false = le-ltb j.number e.number le in
    rw none (simp and-false)

pub first_deciding-before : (rules : RuleSet) (past : List Event) (j : Outgoing) → AreJudged rules past → length past ≤ suc j.number → first_deciding j past ≡ None
first_deciding-before rules [] j are le = refl
first_deciding-before rules (e ∷ past) j are le =
    let number : e.number ≡ length past = judged-number rules e past are in
    first_deciding-same e past j (deciding-none e past j (answering-before j e (omega (arith, number, le)))) ∙ first_deciding-before rules past j are.1 (omega (arith, le))

-- one that begins with an event is not decided by it
pub decision-begun : (rules : RuleSet) (e : Event) (past : List Event) (j : Outgoing) → AreJudged rules (e ∷ past) → j.number ≡ e.number → decision j (e ∷ past) ≡ None
decision-begun rules e past j are same =
    let number : e.number ≡ length past = judged-number rules e past are in
    by j.link.is_pre_settled (first_deciding j (e ∷ past)) (first_deciding-before rules (e ∷ past) j are (omega (arith, number, same)))
  where
    by : (b : Bool) (o : Option DispositionFields) → o ≡ None → (if b then None else o) ≡ None
    by true o is = refl
    by false o is = is

-- what is decided stays so
pub is_decided-stays : (e : Event) (past : List Event) (j : Outgoing) → is_some (decision j past) ≡ true → is_some (decision j (e ∷ past)) ≡ true
is_decided-stays e past j is = by j.link.is_pre_settled (first_deciding j past) is
  where
    by : (b : Bool) (o : Option DispositionFields) → is_some (if b then None else o) ≡ true → is_some (if b then None else or_else o (deciding j e past)) ≡ true
    by true o is = is
    by false None is = absurd cc
    by false (Some fields) is = refl
