-- The delivery in progress on a link, and what was carried there before, are told by the last delivery that began on it.
use Rattle.std.proofs.Common.{◌≡◌, refl, sym, ap, subst, ◌∙◌, ◌<◌, ◌≤◌, inl, inr, ℕ, Bool, true, false, not, ◌&&◌, ◌||◌, List, [], ◌∷◌, length, Option, Some, None, IfSome, option_and_then, option_map, if◌then◌else◌, ◌==◌, eqb-true, eq-eqb, ne_eqb, arith}
use Rattle.amqp_perf.specs.Meaning.{TransferFields, flag}
use Rattle.pairing_cert.specs.declared.note.Note.{Note}
use Rattle.capture_form.specs.Rules.{RuleSet}
use Rattle.trace_events.specs.Words.{is_some_and, where_passes}
use Rattle.trace_events.specs.Frame.{Frame, Spoken, spoken_in}
use Rattle.trace_events.specs.Event.{Event, Link, Incoming, Outgoing, out_frame}
use Rattle.trace_events.specs.Said.{as_transfer, out_spoken, out_transfer}
use Rattle.trace_events.specs.Incoming.{incoming_at}
use Rattle.trace_events.specs.Outgoing.{in_progress, is_part, is_sent, outgoing_begun, outgoing_deliveries, outgoing_at, noted}
use Rattle.trace_events.specs.TransferClause.{carried_before}
use Rattle.trace_events.proofs.Along.{and_then_some}
use Rattle.trace_events.proofs.Judged.{AreJudged, AreBorn, IsBorn, IsTransfer, judged-born, judged-number, judged-transfer}
use Rattle.trace_events.proofs.Links.{passing}
use Rattle.trace_events.proofs.OutgoingSteps.{in_progress-same, is_sent-no_part}
use Rattle.trace_events.proofs.OutgoingProgress.{IsPartOf, judged-outgoing_part, noted_pair}
use Rattle.state_tables.specs.LetGo.{names_let_go}
use Rattle.state_outgoing.specs.LetGo.{where_kept, kept_at}
use Rattle.state_outgoing.specs.Sent.{Sent, sent}
use Rattle.state_outgoing.specs.LastBegun.{last_on, last_number, is_last_let_go, begins_on, on_link_next}
use Rattle.trace_events.proofs.WaitingQueue.{find_has}
use Rattle.state_outgoing.proofs.SentKept.{IsOver, unfinished-names, unsent-unfinished}
use Rattle.state_outgoing.proofs.OutgoingNumbers.{begun-number, found-passes, found-earlier, found-at, found-known, found-entry, last-step}

-- ---- one more event

module _ (e : Event) (past : List Event) where
  pub last_on-step : (link : ℕ) → last_on link (e ∷ past) ≡ (if begins_on e link then outgoing_begun e else last_on link past)
  last_on-step link = last-step e past (λ (j : Outgoing). j.link.number == link)

-- so what a table has of a link is moved, by an event that begins none that carries what was let go
pub last-moved : (gone : List (ℕ × Unit {0})) (e : Event) (past : List Event) → is_some_and (outgoing_begun e) (λ j. names_let_go gone j.note) ≡ false
    → (link : ℕ) (old new : Option ℕ) → old ≡ last_number gone link past → new ≡ on_link_next e link old → new ≡ last_number gone link (e ∷ past)
last-moved gone e past apart link old new was moved =
    moved ∙ (ap (on_link_next e link) was ∙ (by (outgoing_begun e) refl apart ∙ sym (ap (λ o. option_map (λ (j : Outgoing). j.number) (where_passes stays o)) (last_on-step e past link))))
  where
    stays : Outgoing → Bool
    stays j = not (names_let_go gone j.note)

    begun : (j : Outgoing) → j.number ≡ e.number → names_let_go gone j.note ≡ false → (b : Bool)
        → (if b then Some e.number else last_number gone link past) ≡ option_map (λ (k : Outgoing). k.number) (where_passes stays (if b then Some j else last_on link past))
    begun j number none true = ap Some (sym number) ∙ sym (ap (λ b. option_map (λ (k : Outgoing). k.number) (if not b then Some j else None)) none)
    begun j number none false = refl

    by : (o : Option Outgoing) → outgoing_begun e ≡ o → is_some_and o (λ j. names_let_go gone j.note) ≡ false
        → (if is_some_and o (λ j. j.link.number == link) then Some e.number else last_number gone link past)
        ≡ option_map (λ (k : Outgoing). k.number) (where_passes stays (if is_some_and o (λ j. j.link.number == link) then o else last_on link past))
    by None none none_begun = refl
    by (Some j) is none_begun = begun j (begun-number e j is) none_begun (j.link.number == link)

-- ---- the delivery in progress is the last that began, until it is sent

same_some : {A : Type 0} (a b : A) → Some a ≡ Some b → a ≡ b
same_some a b is = cc

not-true : (b : Bool) → not b ≡ true → b ≡ false
not-true false is = refl
not-true true is = absurd cc

known : {A : Type 0} (P : A → Type 0) (o : Option A) (x : A) → o ≡ Some x → IfSome o P → P x
known P o x is h = subst (λ (p : Option _). IfSome p P) is h

abbrev IsLast : List Event → Link → Type 0
IsLast past l = in_progress l past ≡ where_passes (λ j. not (is_sent j past)) (last_on l.number past)

-- a part is the last one, or goes on
more-bits : (j : Outgoing) (more sent : Bool) → sent ≡ false → (if more then Some j else None) ≡ (if not (not more || sent) then Some j else None)
more-bits j true false none = refl
more-bits j false false none = refl
more-bits j more true none = absurd cc

off-link : (o : Option Outgoing) (test : Outgoing → Bool) (link : ℕ) → is_some_and o (λ j. j.link.number == link) ≡ false → is_some_and (where_passes test o) (λ j. j.link.number == link) ≡ false
off-link None test link off = refl
off-link (Some j) test link off = by (test j)
  where
    by : (b : Bool) → is_some_and (if b then Some j else None) (λ (x : Outgoing). x.link.number == link) ≡ false
    by true = off
    by false = refl

-- of a delivery that hasn't begun no part is written
born-apart : (n : ℕ) (note : Note) (o : Option Outgoing) (m : ℕ) → IfSome o (IsBorn n note) → n < m → is_some_and o (λ j. j.number == m) ≡ false
born-apart n own None m born lt = refl
born-apart n own (Some j) m (inl below) lt = ne_eqb j.number m (λ same. absurd (omega (arith, below, lt, same)))
born-apart n own (Some j) m (inr (here, named)) lt = ne_eqb j.number m (λ same. absurd (omega (arith, here, lt, same)))

not_yet-sent : (past : List Event) (j : Outgoing) → AreBorn past → length past ≤ j.number → is_sent j past ≡ false
not_yet-sent [] j born le = refl
not_yet-sent (e ∷ past) j born le =
    is_sent-no_part e past j (born-apart (length past) e.note e.outgoing j.number born.0 (omega (arith, le))) ∙ not_yet-sent past j born.1 (omega (arith, le))

module _ (rules : RuleSet) (e : Event) (past : List Event) (are : AreJudged rules (e ∷ past)) (earlier : (l : Link) → IsLast past l) where
  number : e.number ≡ length past
  number = judged-number rules e past are

  -- one that was in progress
  record WasGoing (l : Link) (j : Outgoing) : Type 0 where
    last : last_on l.number past ≡ Some j
    unsent : is_sent j past ≡ false
    on : j.link.number ≡ l.number
    at : outgoing_at j.number past ≡ Some j
    below : j.number < length past

  was-going : (l : Link) (j : Outgoing) → in_progress l past ≡ Some j → WasGoing l j
  was-going l j is =
      let test : Outgoing → Bool = λ x. x.link.number == l.number in
      let own = passing (λ (x : Outgoing). not (is_sent x past)) (last_on l.number past) j (sym (earlier l) ∙ is) in
      record {
        last = own.0;
        unsent = not-true (is_sent j past) own.1;
        on = eqb-true j.link.number l.number (found-passes test (outgoing_deliveries past) j own.0);
        at = found-at rules past are.1 test j own.0;
        below = found-earlier rules past are.1 test j own.0;
      }

  -- ---- the event is no part of it

  sent-still : (o : Option Outgoing) → ((j : Outgoing) → o ≡ Some j → is_part j e ≡ false) → where_passes (λ j. not (is_sent j (e ∷ past))) o ≡ where_passes (λ j. not (is_sent j past)) o
  sent-still None none = refl
  sent-still (Some j) none = ap (λ b. if not b then Some j else None) (is_sent-no_part e past j (none j refl))

  apart : (l : Link) → is_some_and e.outgoing (λ j. j.link.number == l.number) ≡ false → ((j : Outgoing) → last_on l.number past ≡ Some j → is_part j e ≡ false) → IsLast (e ∷ past) l
  apart l off none =
      let begins : begins_on e l.number ≡ false = off-link e.outgoing (λ (j : Outgoing). j.number == e.number) l.number off in
      let same : last_on l.number (e ∷ past) ≡ last_on l.number past =
      last_on-step e past l.number ∙ ap (λ b. if b then outgoing_begun e else last_on l.number past) begins in
      in_progress-same e past l off
      ∙ (earlier l ∙ (sym (sent-still (last_on l.number past) none) ∙ ap (where_passes (λ j. not (is_sent j (e ∷ past)))) (sym same)))

  -- a part of another link's delivery is no part of it
  other-part : (l : Link) (j : Outgoing) → last_on l.number past ≡ Some j → (k : Outgoing) → (k.link.number == l.number) ≡ false → IsPartOf e past k → (b : Bool) → (k.number == j.number) ≡ b → b ≡ false
  other-part l j last k off of false same = refl
  other-part l j last k off (inr new) true same =
      let lt = found-earlier rules past are.1 (λ (x : Outgoing). x.link.number == l.number) j last in
      absurd (omega (arith, eqb-true k.number j.number same, new.0, lt))
  other-part l j last k off (inl (m, on, goes)) true same =
      let test : Outgoing → Bool = λ x. x.link.number == l.number in
      let at : outgoing_at j.number past ≡ Some k = sym (ap (λ n. outgoing_at n past) (eqb-true k.number j.number same)) ∙ (was-going m k goes).at in
      let one : k ≡ j = same_some k j (sym at ∙ found-at rules past are.1 test j last) in
      let yes : (k.link.number == l.number) ≡ true = ap (λ (x : Outgoing). x.link.number == l.number) one ∙ found-passes test (outgoing_deliveries past) j last in
      absurd cc

  -- ---- the event is a part of it

  fields_of : (t : IsTransfer e.moment) → out_transfer e ≡ Some t.fields
  fields_of t =
      let said : out_spoken e ≡ Some t.spoken = ap (λ m. option_and_then (λ (f : Frame). spoken_in f.body) (out_frame m)) t.written ∙ t.says in
      ap (λ o. option_and_then as_transfer (option_map (λ (spoken : Spoken). spoken.meaning) o)) said ∙ ap as_transfer t.means

  is_transfer : (k : Outgoing) → e.outgoing ≡ Some k → IsTransfer e.moment
  is_transfer k is = known (λ (x : Outgoing). IsTransfer e.moment) e.outgoing k is (judged-transfer rules e past are)

  here-by : (l : Link) (k : Outgoing) → e.outgoing ≡ Some k → (fields : TransferFields) → out_transfer e ≡ Some fields → (k.link.number == l.number) ≡ true
      → last_on l.number (e ∷ past) ≡ Some k → is_sent k past ≡ false → IsLast (e ∷ past) l
  here-by l k is fields says on last unsent =
      let part : is_part k e ≡ true = ap (λ o. is_some_and o (λ (x : Outgoing). x.number == k.number)) is ∙ eq-eqb k.number k.number refl in
      let mine : is_some_and e.outgoing (λ (x : Outgoing). x.link.number == l.number) ≡ true = ap (λ o. is_some_and o (λ (x : Outgoing). x.link.number == l.number)) is ∙ on in
      ap (λ b. if b then (if is_some_and (out_transfer e) (λ fields. flag fields.more) then e.outgoing else None) else in_progress l past) mine
      ∙ (ap (λ o. if is_some_and o (λ (f : TransferFields). flag f.more) then e.outgoing else None) says
      ∙ (ap (λ o. if flag fields.more then o else None) is
      ∙ (more-bits k (flag fields.more) (is_sent k past) unsent
      ∙ (sym (ap (λ o. if not (is_some_and o (λ (f : TransferFields). not (flag f.more)) || is_sent k past) then Some k else None) says)
      ∙ (sym (ap (λ b. if not (b && is_some_and (out_transfer e) (λ (f : TransferFields). not (flag f.more)) || is_sent k past) then Some k else None) part)
      ∙ sym (ap (where_passes (λ j. not (is_sent j (e ∷ past)))) last))))))

  here : (l : Link) (k : Outgoing) → e.outgoing ≡ Some k → (k.link.number == l.number) ≡ true → last_on l.number (e ∷ past) ≡ Some k → is_sent k past ≡ false → IsLast (e ∷ past) l
  here l k is on last unsent = let t = is_transfer k is in here-by l k is t.fields (fields_of t) on last unsent

  begun-of : (k : Outgoing) → e.outgoing ≡ Some k → (b : Bool) → (k.number == e.number) ≡ b → outgoing_begun e ≡ (if b then Some k else None)
  begun-of k is b same = ap (where_passes (λ (x : Outgoing). x.number == e.number)) is ∙ ap (λ b. if b then Some k else None) same

  own-part : (l : Link) (k : Outgoing) → e.outgoing ≡ Some k → (k.link.number == l.number) ≡ true → IsPartOf e past k → IsLast (e ∷ past) l
  own-part l k is on (inl (m, named, goes)) =
      let w = was-going m k goes in
      let lt = w.below in
      let none : outgoing_begun e ≡ None = begun-of k is false (ne_eqb k.number e.number (λ same. omega (arith, same, number, lt))) in
      let link : m.number ≡ l.number = sym w.on ∙ eqb-true k.link.number l.number on in
      let last : last_on l.number (e ∷ past) ≡ Some k =
      last_on-step e past l.number
      ∙ (ap (λ o. if is_some_and o (λ (j : Outgoing). j.link.number == l.number) then o else last_on l.number past) none ∙ (ap (λ n. last_on n past) (sym link) ∙ w.last)) in
      here l k is on last w.unsent
  own-part l k is on (inr new) =
      let begun : outgoing_begun e ≡ Some k = begun-of k is true (eq-eqb k.number e.number (new.0 ∙ sym number)) in
      let last : last_on l.number (e ∷ past) ≡ Some k =
      last_on-step e past l.number
      ∙ (ap (λ o. if is_some_and o (λ (j : Outgoing). j.link.number == l.number) then o else last_on l.number past) begun ∙ ap (λ b. if b then Some k else last_on l.number past) on) in
      here l k is on last (not_yet-sent past k (judged-born rules past are.1) (omega (arith, new.0)))

  -- ---- so it is with each link

  step-by : (l : Link) (o : Option Outgoing) → e.outgoing ≡ o → IfSome o (IsPartOf e past) → IsLast (e ∷ past) l
  step-by l None is of =
      apart l (ap (λ o. is_some_and o (λ (j : Outgoing). j.link.number == l.number)) is) (λ j last. ap (λ o. is_some_and o (λ (x : Outgoing). x.number == j.number)) is)
  step-by l (Some k) is of = by (k.link.number == l.number) refl
    where
      by : (b : Bool) → (k.link.number == l.number) ≡ b → IsLast (e ∷ past) l
      by true on = own-part l k is on of
      by false off =
          apart l (ap (λ o. is_some_and o (λ (j : Outgoing). j.link.number == l.number)) is ∙ off)
          (λ j last. ap (λ o. is_some_and o (λ (x : Outgoing). x.number == j.number)) is ∙ other-part l j last k off of (k.number == j.number) refl)

  last-step_on : (l : Link) → IsLast (e ∷ past) l
  last-step_on l = step-by l e.outgoing refl (judged-outgoing_part rules e past are)

pub progress-last : (rules : RuleSet) (past : List Event) → AreJudged rules past → (l : Link) → in_progress l past ≡ where_passes (λ j. not (is_sent j past)) (last_on l.number past)
progress-last rules [] are l = refl
progress-last rules (e ∷ past) are l = last-step_on rules e past are (progress-last rules past are.1) l

-- ---- what these are is known

where-some : (P : Outgoing → Type 0) (test : Outgoing → Bool) (o : Option Outgoing) → IfSome o P → IfSome (where_passes test o) P
where-some P test None is = tt
where-some P test (Some j) is = by (test j)
  where
    by : (b : Bool) → IfSome (if b then Some j else None) P
    by true = is
    by false = tt

pub progress-known : (rules : RuleSet) (past : List Event) → AreJudged rules past → (l : Link) → IfSome (in_progress l past) (λ j. outgoing_at j.number past ≡ Some j)
progress-known rules past are l =
    subst (λ o. IfSome o (λ j. outgoing_at j.number past ≡ Some j)) (sym (progress-last rules past are l))
    (where-some (λ j. outgoing_at j.number past ≡ Some j) (λ j. not (is_sent j past)) (last_on l.number past) (found-known rules past are (λ (j : Outgoing). j.link.number == l.number)))

-- and its last part is not written
pub progress-unsent : (rules : RuleSet) (past : List Event) → AreJudged rules past → (l : Link) (j : Outgoing) → in_progress l past ≡ Some j → is_sent j past ≡ false
progress-unsent rules past are l j is = not-true (is_sent j past) (passing (λ (x : Outgoing). not (is_sent x past)) (last_on l.number past) j (sym (progress-last rules past are l) ∙ is)).1

pub carried-known : (rules : RuleSet) (past : List Event) → AreJudged rules past → (l : Link) → IfSome (carried_before l past) (λ d. incoming_at d.number past ≡ Some d)
carried-known rules past are l = by (carried_before l past) refl
  where
    by : (o : Option Incoming) → carried_before l past ≡ o → IfSome o (λ d. incoming_at d.number past ≡ Some d)
    by None none = tt
    by (Some d) is =
        let step = and_then_some (λ (j : Outgoing). noted j.note past) (last_on l.number past) d is in
        (noted_pair rules past are step.0.note d step.2).2

-- ---- where what is known of each delivery is kept by its number, and the number of the last that began on the link

module _ (rules : RuleSet) (past : List Event) (are : AreJudged rules past) (gone : List (ℕ × Unit {0})) (kept : ℕ → Option Sent) (were : (n : ℕ) → kept n ≡ kept_at gone n past)
    (link : ℕ) (last : Option ℕ) (is_last : last ≡ last_number gone link past) where
  -- what is kept of it
  pub last-entry : option_and_then kept last ≡ where_kept gone (option_map (sent past) (last_on link past))
  last-entry = ap (option_and_then kept) is_last ∙ by (last_on link past) (found-entry rules past are (λ (j : Outgoing). j.link.number == link) gone kept were)
    where
      one : (j : Outgoing) (b : Bool) → names_let_go gone j.note ≡ b → kept j.number ≡ where_kept gone (Some (sent past j))
          → option_and_then kept (option_map (λ (k : Outgoing). k.number) (if not b then Some j else None)) ≡ where_kept gone (Some (sent past j))
      one j true is entry = sym (ap (λ b. if not b then Some (sent past j) else None) is)
      one j false is entry = entry

      by : (o : Option Outgoing) → option_and_then kept (option_map (λ j. j.number) o) ≡ where_kept gone (option_map (sent past) o)
          → option_and_then kept (option_map (λ j. j.number) (where_passes (λ j. not (names_let_go gone j.note)) o)) ≡ where_kept gone (option_map (sent past) o)
      by None entry = refl
      by (Some j) entry = one j (names_let_go gone j.note) refl entry

  -- it is in progress, until it is sent; and what carries one that was let go is finished
  pub progress-entry : IsOver gone past → (l : Link) → l.number ≡ link
      → option_map (λ x. x.delivery) (where_passes (λ x. not x.is_sent) (option_and_then kept last)) ≡ in_progress l past
  progress-entry over l own =
      ap (λ o. option_map (λ (x : Sent). x.delivery) (where_passes (λ (x : Sent). not x.is_sent) o)) last-entry
      ∙ (by (last_on link past) refl ∙ (ap (λ n. where_passes (λ j. not (is_sent j past)) (last_on n past)) (sym own) ∙ sym (progress-last rules past are l)))
    where
      passes : (j : Outgoing) (b : Bool) → option_map (λ (x : Sent). x.delivery) (if b then Some (sent past j) else None) ≡ (if b then Some j else None)
      passes j true = refl
      passes j false = refl

      -- what is not kept is sent
      kept-or : (j : Outgoing) (stays sent_out : Bool) → is_sent j past ≡ sent_out → (sent_out ≡ false → stays ≡ true)
          → option_map (λ (x : Sent). x.delivery) (where_passes (λ (x : Sent). not x.is_sent) (if stays then Some (sent past j) else None)) ≡ (if not (is_sent j past) then Some j else None)
      kept-or j true sent_out is given = passes j (not (is_sent j past))
      kept-or j false true is given = sym (ap (λ b. if not b then Some j else None) is)
      kept-or j false false is given = let never : false ≡ true = given refl in absurd cc

      by : (o : Option Outgoing) → last_on link past ≡ o
          → option_map (λ (x : Sent). x.delivery) (where_passes (λ (x : Sent). not x.is_sent) (where_kept gone (option_map (sent past) o))) ≡ where_passes (λ j. not (is_sent j past)) o
      by None none = refl
      by (Some j) found =
          kept-or j (not (names_let_go gone j.note)) (is_sent j past) refl
          (λ unsent. ap not (unfinished-names gone past over j (find_has (λ (k : Outgoing). k.link.number == link) (outgoing_deliveries past) j found) (unsent-unfinished past j unsent)))

  -- what it carries was carried before, where that was not let go
  pub carried-entry : is_last_let_go gone link past ≡ false → (l : Link) → l.number ≡ link
      → option_and_then (λ x. noted x.delivery.note past) (option_and_then kept last) ≡ carried_before l past
  carried-entry stays l own =
      ap (option_and_then (λ (x : Sent). noted x.delivery.note past)) last-entry
      ∙ (by (last_on link past) stays ∙ ap (λ n. option_and_then (λ (j : Outgoing). noted j.note past) (last_on n past)) (sym own))
    where
      by : (o : Option Outgoing) → is_some_and o (λ j. names_let_go gone j.note) ≡ false
          → option_and_then (λ (x : Sent). noted x.delivery.note past) (where_kept gone (option_map (sent past) o)) ≡ option_and_then (λ (j : Outgoing). noted j.note past) o
      by None none = refl
      by (Some j) none = ap (λ b. option_and_then (λ (x : Sent). noted x.delivery.note past) (if not b then Some (sent past j) else None)) none
