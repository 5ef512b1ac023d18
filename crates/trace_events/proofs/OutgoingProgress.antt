-- In a lawful capture a delivery to a client that is in progress carries the first octets of a complete delivery of its
-- link's address, which its note names, and which is not gone.
use Rattle.std.proofs.Common.{◌≡◌, refl, sym, ap, subst, ◌∙◌, ℕ, ◌<◌, Bool, true, false, cond, ◌||◌, ◌++◌, List, [], ◌∷◌, length, Option, Some, None, IfSome, IsSomeAnd, is_some, find, option_and_then, option_map, if◌then◌else◌, ◌==◌, ◌⊎◌, inl, inr, arith, eqb-true, eq-eqb, ne_eqb}
use Rattle.std.specs.List.{cons_option}
use Rattle.amqp_perf.specs.Meaning.{Meaning, AnOpen, ABegin, AnAttach, AFlow, ATransfer, ADisposition, ADetach, AnEnd, AClose, TransferFields}
use Rattle.pairing_cert.specs.declared.note.Note.{Note}
use Rattle.pairing_cert.specs.declared.note.Note.TheVariants as notes
use Rattle.capture_form.specs.declared.records.Record.{Record}
use Rattle.capture_form.specs.Rules.{RuleSet}
use Rattle.trace_events.specs.declared.clause.Clause.TheVariants.{L6}
use Rattle.trace_events.specs.Words.{is_some_and, or_else, where_passes}
use Rattle.trace_events.specs.Frame.{Frame, Spoken, spoken_in}
use Rattle.trace_events.specs.Event.{Event, Link, Incoming, Outgoing, Moment, Opened, In, Out, Lost, Broken, out_frame}
use Rattle.trace_events.specs.Said.{as_attach, as_transfer, out_spoken, out_transfer}
use Rattle.trace_events.specs.Credit.{begins_outgoing}
use Rattle.trace_events.specs.Link.{is_consumer, link_at}
use Rattle.trace_events.specs.Incoming as incoming
use Rattle.trace_events.specs.Incoming.{address_of, incoming_at, is_complete, part_payload}
use Rattle.trace_events.specs.Outgoing as outgoing
use Rattle.trace_events.specs.Outgoing.{in_progress, is_part, outgoing_begun, outgoing_deliveries, outgoing_at, names, noted, is_paired}
use Rattle.trace_events.specs.Waiting.{is_gone}
use Rattle.trace_events.specs.History.{judge, judge_unopened, moment_of, outgoing_by, outgoing_part, new_outgoing}
use Rattle.trace_events.specs.TransferClause.{goes_on_with, is_same_note}
use Rattle.trace_events.specs.Clauses.{first_broken, meaning_meets}
use Rattle.trace_events.specs.Kept.{AreFirst}
use Rattle.trace_events.proofs.Along.{standing, and_last, some_such}
use Rattle.trace_events.proofs.EventKinds.{out_said}
use Rattle.trace_events.proofs.Fates.{complete-stays}
use Rattle.trace_events.proofs.Judged.{AreJudged, IsTransfer, judged-number, judged-transfer}
use Rattle.trace_events.proofs.Links as links
use Rattle.trace_events.proofs.Links.{attach_in, passing}
use Rattle.trace_events.proofs.LinkLives.{judged-stands}
use Rattle.trace_events.proofs.Opens.{opened-link}
use Rattle.trace_events.proofs.ClausesMet.{met, lawful-past}
use Rattle.trace_events.proofs.WaitingQueue.{address_stays}
use Rattle.trace_events.proofs.Incomings.{complete-payload, judged-part, judged-sound, at-step}
use Rattle.trace_events.proofs.OneConsumer.{incoming_at-is}
use Rattle.trace_events.proofs.JudgedHistories.{judged-keeps}
use Rattle.trace_events.proofs.Pairs.{is_paired-stays, paired-not_gone}

-- ---- a part goes on with what is in progress on its event's link, or begins a delivery there with the event's note

abbrev pub IsPartOf : Event → List Event → Outgoing → Type 0
IsPartOf e past j = ((l : Link) × (e.link ≡ Some l) × (in_progress l past ≡ Some j)) ⊎ ((j.number ≡ length past) × (j.note ≡ e.note) × (e.link ≡ Some j.link))

module _ (e : Event) (past : List Event) where
  link_part : (fields : TransferFields) (l : Link) → e.link ≡ Some l → (o : Option Outgoing) → in_progress l past ≡ o
      → IfSome (or_else o (Some (new_outgoing (length past) e.note fields l))) (IsPartOf e past)
  link_part fields l on None is = inr (refl, refl, on)
  link_part fields l on (Some j) is = inl (l, on, is)

  on_part : (fields : TransferFields) (o : Option Link) → ((l : Link) → o ≡ Some l → e.link ≡ Some l)
      → IfSome (option_and_then (λ l. or_else (in_progress l past) (Some (new_outgoing (length past) e.note fields l))) o) (IsPartOf e past)
  on_part fields None named = tt
  on_part fields (Some l) named = link_part fields l (named l refl) (in_progress l past) refl

-- the link that a transfer names is the event's
transfer_link : (rules : RuleSet) (past : List Event) (r : Record) (fields : TransferFields) (l : Link) → out_said (moment_of r.what) ≡ Some (ATransfer fields)
    → (standing rules past r).link ≡ Some l → (judge rules past r).link ≡ Some l
transfer_link rules past r fields l is on =
    let none : attach_in (moment_of r.what) ≡ None = ap (option_and_then as_attach) is in
    opened-link (judge_unopened rules past r.connection (moment_of r.what) r.note) past none ∙ on

module _ (rules : RuleSet) (past : List Event) (r : Record) where
  meaning_part : (meaning : Meaning) → out_said (moment_of r.what) ≡ Some meaning → IfSome (outgoing_part (standing rules past r) meaning past) (IsPartOf (judge rules past r) past)
  meaning_part (ATransfer fields) is =
      on_part (judge rules past r) past fields (where_passes is_consumer (standing rules past r).link)
      (λ l on. transfer_link rules past r fields l is (passing is_consumer (standing rules past r).link l on).0)
  meaning_part (AnOpen fields) is = tt
  meaning_part (ABegin fields) is = tt
  meaning_part (AnAttach fields) is = tt
  meaning_part (AFlow fields) is = tt
  meaning_part (ADisposition fields) is = tt
  meaning_part (ADetach fields) is = tt
  meaning_part (AnEnd error) is = tt
  meaning_part (AClose error) is = tt

  said_part : (o : Option Spoken) → out_said (moment_of r.what) ≡ option_map (λ (spoken : Spoken). spoken.meaning) o
      → IfSome (option_and_then (λ (spoken : Spoken). outgoing_part (standing rules past r) spoken.meaning past) o) (IsPartOf (judge rules past r) past)
  said_part None is = tt
  said_part (Some spoken) is = meaning_part spoken.meaning is

  moment_part : (m : Moment) → moment_of r.what ≡ m → IfSome (outgoing_by (standing rules past r) m past) (IsPartOf (judge rules past r) past)
  moment_part (Out frame) is = said_part (spoken_in frame.body) (ap out_said is)
  moment_part (In frame) is = tt
  moment_part Opened is = tt
  moment_part Lost is = tt
  moment_part Broken is = tt

pub judged-outgoing_part : (rules : RuleSet) (e : Event) (past : List Event) → AreJudged rules (e ∷ past) → IfSome e.outgoing (IsPartOf e past)
judged-outgoing_part rules e past ((r, same), are) =
    subst (λ (x : Event). IfSome x.outgoing (IsPartOf x past)) (sym same) (moment_part rules past r (moment_of r.what) refl)

-- ---- what a delivery in progress is

-- it began before, on a link that was opened before, and carries the first octets of the delivery that its note names: of
-- the link's address, complete and paired, so that it is not gone
pub record IsCarrying (past : List Event) (j : Outgoing) : Type 0 where
  pub below : j.number < length past
  pub at : outgoing_at j.number past ≡ Some j
  pub linked : links.IsKnown past j.link
  pub delivery : Incoming
  pub named : j.note ≡ notes.Pair delivery.number
  pub before : delivery.number < length past
  pub found : incoming_at delivery.number past ≡ Some delivery
  pub complete : is_complete delivery past ≡ true
  pub paired : is_paired delivery past ≡ true
  pub address : j.link.address ≡ address_of delivery past
  pub carried : AreFirst (outgoing.payload j past) (incoming.payload delivery past)

abbrev pub AreCarrying : List Event → Type 0
AreCarrying past = (l : Link) (j : Outgoing) → in_progress l past ≡ Some j → (j.link.number ≡ l.number) × IsCarrying past j

known : {A : Type 0} (P : A → Type 0) (o : Option A) (x : A) → o ≡ Some x → IfSome o P → P x
known P o x is h = subst (λ (p : Option _). IfSome p P) is h

known_and : {A : Type 0} (P : A → Type 0) (o : Option A) (x : A) → o ≡ Some x → IsSomeAnd o P → P x
known_and P o x is h = subst (λ (p : Option _). IsSomeAnd p P) is h

same_some : {A : Type 0} (a b : A) → Some a ≡ Some b → a ≡ b
same_some a b is = cc

-- the note of a later transfer is that of the first
pub same_note : (note : Note) (n : ℕ) → is_same_note note (notes.Pair n) ≡ true → note ≡ notes.Pair n
same_note notes.None n is = absurd cc
same_note (notes.Pair m) n is = ap notes.Pair (eqb-true m n is)
same_note (notes.Told why) n is = absurd cc

or_other : (b c : Bool) → b ≡ false → b || c ≡ true → c ≡ true
or_other true c none is = absurd cc
or_other false c none is = is

-- what a note names is the delivery of its number
pub noted_pair : (rules : RuleSet) (past : List Event) → AreJudged rules past → (note : Note) (d : Incoming) → noted note past ≡ Some d
    → (note ≡ notes.Pair d.number) × (d.number < length past) × (incoming_at d.number past ≡ Some d)
noted_pair rules past are notes.None d is = absurd cc
noted_pair rules past are (notes.Told why) d is = absurd cc
noted_pair rules past are (notes.Pair n) d is =
    let at = known (λ (d : Incoming). (n < length past) × (d.number ≡ n)) (incoming_at n past) d is (incoming_at-is rules past n are) in
    (ap notes.Pair (sym at.1), omega (arith, at.0, at.1), ap (λ m. incoming_at m past) at.1 ∙ is)

module _ (rules : RuleSet) (e : Event) (past : List Event) (are : AreJudged rules (e ∷ past)) (lawful : first_broken rules (e ∷ past) ≡ None) (going : AreCarrying past) where
  number : e.number ≡ length past
  number = judged-number rules e past are

  part : IfSome e.outgoing (IsPartOf e past)
  part = judged-outgoing_part rules e past are

  -- ---- a delivery that began before

  by_begun : (n : ℕ) → n < length past → (o : Option Outgoing) → outgoing_begun e ≡ o → find (λ j. j.number == n) (cons_option o (outgoing_deliveries past)) ≡ outgoing_at n past
  by_begun n lt None is = refl
  by_begun n lt (Some j) is =
      let here : j.number ≡ e.number = eqb-true j.number e.number (passing (λ (x : Outgoing). x.number == e.number) e.outgoing j is).1 in
      ap (λ b. cond b (Some j) (outgoing_at n past)) (ne_eqb j.number n (λ same. absurd (omega (arith, same, here, number, lt))))

  outgoing_at-step : (n : ℕ) → n < length past → outgoing_at n (e ∷ past) ≡ outgoing_at n past
  outgoing_at-step n lt = by_begun n lt (outgoing_begun e) refl

  incoming_at-step : (n : ℕ) → n < length past → incoming_at n (e ∷ past) ≡ incoming_at n past
  incoming_at-step = at-step e past number (judged-part rules e past are) (judged-sound rules past are.1)

  linked_still : (l : Link) → links.IsKnown past l → links.IsKnown (e ∷ past) l
  linked_still l is = subst (λ (x : Event). links.IsKnown (x ∷ past) l) (sym are.0.1) (links.known_still rules past are.0.0 l is)

  linked_here : (l : Link) → e.link ≡ Some l → links.IsKnown (e ∷ past) l
  linked_here l is =
      subst (λ (x : Event). links.IsKnown (x ∷ past) l) (sym are.0.1)
      (links.event_known rules past are.0.0 l (judged-stands rules past are.1) (subst (λ (x : Event). x.link ≡ Some l) are.0.1 is))

  -- ---- one that this event is no part of goes on as before

  other_part : (l : Link) (j : Outgoing) → in_progress l past ≡ Some j → (k : Outgoing) → (k.link.number == l.number) ≡ false → IsPartOf e past k → (b : Bool) → (k.number == j.number) ≡ b → b ≡ false
  other_part l j is k apart of false same = refl
  other_part l j is k apart (inr new) true same =
      let below = (going l j is).1.below in absurd (omega (arith, eqb-true k.number j.number same, new.0, below))
  other_part l j is k apart (inl (m, on, goes)) true same =
      let mine = going l j is in
      let found : outgoing_at j.number past ≡ Some k = sym (ap (λ n. outgoing_at n past) (eqb-true k.number j.number same)) ∙ (going m k goes).1.at in
      let one : k ≡ j = same_some k j (sym found ∙ mine.1.at) in
      let yes : (k.link.number == l.number) ≡ true = eq-eqb k.link.number l.number (ap (λ (x : Outgoing). x.link.number) one ∙ mine.0) in
      absurd cc

  others : (l : Link) (j : Outgoing) → in_progress l past ≡ Some j → (o : Option Outgoing) → is_some_and o (λ k. k.link.number == l.number) ≡ false → IfSome o (IsPartOf e past)
      → is_some_and o (λ k. k.number == j.number) ≡ false
  others l j is None apart of = refl
  others l j is (Some k) apart of = other_part l j is k apart of (k.number == j.number) refl

  goes_on : (l : Link) (j : Outgoing) → is_some_and e.outgoing (λ k. k.link.number == l.number) ≡ false → in_progress l past ≡ Some j → (j.link.number ≡ l.number) × IsCarrying (e ∷ past) j
  goes_on l j apart is =
      let mine = going l j is in
      let c = mine.1 in
      let none : is_part j e ≡ false = others l j is e.outgoing apart part in
      let same : outgoing.payload j (e ∷ past) ≡ outgoing.payload j past = ap (λ b. cond b (outgoing.payload j past ++ part_payload (out_spoken e)) (outgoing.payload j past)) none in
      let whole : incoming.payload c.delivery (e ∷ past) ≡ incoming.payload c.delivery past = complete-payload rules e past are c.delivery c.complete in (
        mine.0,
        record {
          below = omega (arith, c.below);
          at = outgoing_at-step j.number c.below ∙ c.at;
          linked = linked_still j.link c.linked;
          delivery = c.delivery;
          named = c.named;
          before = omega (arith, c.before);
          found = incoming_at-step c.delivery.number c.before ∙ c.found;
          complete = complete-stays c.delivery e past c.complete;
          paired = is_paired-stays c.delivery e past c.paired;
          address = c.address ∙ sym (address_stays rules e past are c.delivery c.complete);
          carried = subst (λ xs. AreFirst xs (incoming.payload c.delivery (e ∷ past))) (sym same) (subst (λ xs. AreFirst (outgoing.payload j past) xs) (sym whole) c.carried);
        },
      )

  -- ---- one that this event is a part of

  transfer : (j : Outgoing) → e.outgoing ≡ Some j → IsTransfer e.moment
  transfer j is = known (λ (k : Outgoing). IsTransfer e.moment) e.outgoing j is (judged-transfer rules e past are)

  fields_of : (t : IsTransfer e.moment) → out_transfer e ≡ Some t.fields
  fields_of t =
      let said : out_spoken e ≡ Some t.spoken = ap (λ m. option_and_then (λ (f : Frame). spoken_in f.body) (out_frame m)) t.written ∙ t.says in
      ap (λ o. option_and_then as_transfer (option_map (λ (spoken : Spoken). spoken.meaning) o)) said ∙ ap as_transfer t.means

  -- what the clauses say of it, by the delivery that its note names
  record IsCarried (j : Outgoing) : Type 0 where
    delivery : Incoming
    is : noted e.note past ≡ Some delivery
    complete : is_complete delivery past ≡ true
    first : AreFirst (outgoing.payload j (e ∷ past)) (incoming.payload delivery past)
    address : (l : Link) → e.link ≡ Some l → l.address ≡ address_of delivery past

  is_carried : (j : Outgoing) → e.outgoing ≡ Some j → IsCarried j
  is_carried j is =
      let t = transfer j is in
      let keeps = judged-keeps rules (e ∷ past) are lawful in
      let d = some_such _ (noted e.note past) (known _ (out_transfer e) t.fields (fields_of t) keeps.carried.0) in
      let all = known_and _ e.outgoing j is d.2 in
      let on = known_and _ (noted e.note past) d.0 d.1 (known _ (out_transfer e) t.fields (fields_of t) keeps.addressed.0) in
      record { delivery = d.0; is = d.1; complete = all.0; first = all.1; address = λ l named. known_and (λ (m : Link). m.address ≡ address_of d.0 past) e.link l named on }

  six : (j : Outgoing) (is : e.outgoing ≡ Some j) → begins_outgoing e || is_some_and e.outgoing (λ k. goes_on_with k e.note (transfer j is).fields) ≡ true
  six j is =
      let t = transfer j is in
      sym (ap (λ m. meaning_meets rules e t.spoken past m L6) t.means) ∙ met rules e past lawful t.frame t.written t.spoken t.says L6

  -- of one that goes on the note is the same
  later_note : (j : Outgoing) → e.outgoing ≡ Some j → j.number < length past → (n : ℕ) → j.note ≡ notes.Pair n → e.note ≡ notes.Pair n
  later_note j is below n named =
      let later : (j.number == e.number) ≡ false = ne_eqb j.number e.number (λ same. absurd (omega (arith, same, number, below))) in
      let none : begins_outgoing e ≡ false = ap (λ (o : Option Outgoing). is_some_and o (λ k. k.number == e.number)) is ∙ later in
      let goes : is_some_and e.outgoing (λ k. goes_on_with k e.note (transfer j is).fields) ≡ true = or_other (begins_outgoing e) _ none (six j is) in
      let here : goes_on_with j e.note (transfer j is).fields ≡ true = sym (ap (λ (o : Option Outgoing). is_some_and o (λ k. goes_on_with k e.note (transfer j is).fields)) is) ∙ goes in
      let same : is_same_note e.note j.note ≡ true = and_last _ (is_same_note e.note j.note) here in
      same_note e.note n (sym (ap (λ note. is_same_note e.note note) named) ∙ same)

  self_is : (n : ℕ) → (n == n) ≡ true
  self_is n = eq-eqb n n refl

  continued_here : (j : Outgoing) → e.outgoing ≡ Some j → (l : Link) → e.link ≡ Some l → in_progress l past ≡ Some j → IsCarrying (e ∷ past) j
  continued_here j is l on goes =
      let c = (going l j goes).1 in
      let k = is_carried j is in
      let note : e.note ≡ notes.Pair c.delivery.number = later_note j is c.below c.delivery.number c.named in
      let found : noted e.note past ≡ Some c.delivery = ap (λ note. noted note past) note ∙ c.found in
      let one : k.delivery ≡ c.delivery = same_some k.delivery c.delivery (sym k.is ∙ found) in
      let whole : incoming.payload c.delivery (e ∷ past) ≡ incoming.payload c.delivery past = complete-payload rules e past are c.delivery c.complete in
      let first : AreFirst (outgoing.payload j (e ∷ past)) (incoming.payload c.delivery past) = subst (λ (d : Incoming). AreFirst (outgoing.payload j (e ∷ past)) (incoming.payload d past)) one k.first in
      record {
        below = omega (arith, c.below);
        at = outgoing_at-step j.number c.below ∙ c.at;
        linked = linked_still j.link c.linked;
        delivery = c.delivery;
        named = c.named;
        before = omega (arith, c.before);
        found = incoming_at-step c.delivery.number c.before ∙ c.found;
        complete = complete-stays c.delivery e past c.complete;
        paired = is_paired-stays c.delivery e past c.paired;
        address = c.address ∙ sym (address_stays rules e past are c.delivery c.complete);
        carried = subst (λ xs. AreFirst (outgoing.payload j (e ∷ past)) xs) (sym whole) first;
      }

  begun_here : (j : Outgoing) → e.outgoing ≡ Some j → j.number ≡ length past → j.note ≡ e.note → e.link ≡ Some j.link → IsCarrying (e ∷ past) j
  begun_here j is new note on =
      let k = is_carried j is in
      let d = k.delivery in
      let pair = noted_pair rules past are.1 e.note d k.is in
      let begun : outgoing_begun e ≡ Some j =
      ap (λ (o : Option Outgoing). where_passes (λ x. x.number == e.number) o) is ∙ ap (λ b. if b then Some j else None) (eq-eqb j.number e.number (new ∙ sym number)) in
      let named : j.note ≡ notes.Pair d.number = note ∙ pair.0 in
      let whole : incoming.payload d (e ∷ past) ≡ incoming.payload d past = complete-payload rules e past are d k.complete in
      let names_it : names d.number j.note ≡ true = ap (names d.number) named ∙ self_is d.number in
      record {
        below = omega (arith, new);
        at = ap (λ (o : Option Outgoing). find (λ x. x.number == j.number) (cons_option o (outgoing_deliveries past))) begun
            ∙ ap (λ b. cond b (Some j) (outgoing_at j.number past)) (self_is j.number);
        linked = linked_here j.link on;
        delivery = d;
        named = named;
        before = let lt = pair.1 in omega (arith, lt);
        found = incoming_at-step d.number pair.1 ∙ pair.2;
        complete = complete-stays d e past k.complete;
        paired = ap (λ (o : Option Outgoing). is_some (find (λ x. names d.number x.note) (cons_option o (outgoing_deliveries past)))) begun
            ∙ ap (λ b. is_some (cond b (Some j) (outgoing.pairing d past))) names_it;
        address = k.address j.link on ∙ sym (address_stays rules e past are d k.complete);
        carried = subst (λ xs. AreFirst (outgoing.payload j (e ∷ past)) xs) (sym whole) k.first;
      }

  part_here : (j : Outgoing) → e.outgoing ≡ Some j → IsPartOf e past j → IsCarrying (e ∷ past) j
  part_here j is (inl (l, on, goes)) = continued_here j is l on goes
  part_here j is (inr (new, note, on)) = begun_here j is new note on

  step_by : (l : Link) (j : Outgoing) (b : Bool) → is_some_and e.outgoing (λ k. k.link.number == l.number) ≡ b → (more : Bool)
      → cond b (cond more e.outgoing None) (in_progress l past) ≡ Some j → (j.link.number ≡ l.number) × IsCarrying (e ∷ past) j
  step_by l j true on true is =
      let linked : is_some_and (Some j) (λ (k : Outgoing). k.link.number == l.number) ≡ true = sym (ap (λ o. is_some_and o (λ (k : Outgoing). k.link.number == l.number)) is) ∙ on in
      (eqb-true j.link.number l.number linked, part_here j is (known (IsPartOf e past) e.outgoing j is part))
  step_by l j true on false is = absurd cc
  step_by l j false on more is = goes_on l j on is

  carrying_step : AreCarrying (e ∷ past)
  carrying_step l j is = step_by l j _ refl _ is

pub judged-carrying : (rules : RuleSet) (past : List Event) → AreJudged rules past → first_broken rules past ≡ None → AreCarrying past
judged-carrying rules [] are lawful l j is = absurd cc
judged-carrying rules (e ∷ past) are lawful l j is = carrying_step rules e past are lawful (judged-carrying rules past are.1 (lawful-past rules e past lawful)) l j is

-- ---- so it may go on

-- the note names the delivery that it carries
pub carrying-noted : (past : List Event) (j : Outgoing) (c : IsCarrying past j) → noted j.note past ≡ Some c.delivery
carrying-noted past j c = ap (λ note. noted note past) c.named ∙ c.found

-- which is not gone
pub carrying-not_gone : (rules : RuleSet) (past : List Event) (j : Outgoing) (c : IsCarrying past j) → is_gone rules c.delivery past ≡ false
carrying-not_gone rules past j c = paired-not_gone rules c.delivery past c.paired

-- on a link that is known it is a delivery of that link
pub carrying-link : (rules : RuleSet) (past : List Event) (l : Link) (j : Outgoing) → AreJudged rules past → first_broken rules past ≡ None → link_at l.number past ≡ Some l → in_progress l past ≡ Some j
    → j.link ≡ l
carrying-link rules past l j are lawful at is =
    let h = judged-carrying rules past are lawful l j is in
    same_some j.link l (sym h.1.linked.at ∙ (ap (λ n. link_at n past) h.0 ∙ at))
