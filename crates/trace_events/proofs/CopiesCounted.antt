-- In a lawful history the copies that are to be sent on a link are as many as were due to it, less the deliveries that began
-- there: so whether another comes due can be told by their list.
use Rattle.std.proofs.Common.{◌≡◌, refl, sym, ap, subst, ◌∙◌, ℕ, suc, ◌+◌, ◌-◌, ◌≤◌, ◌⊎◌, inl, inr, List, [], ◌∷◌, length, get_or, Bool, true, false, cond, not, ◌&&◌, ◌||◌, ◌==◌, Option, Some, None, IfSome, is_some, filter, reverse, option_and_then, option_map, if◌then◌else◌, arith, eqb-true, eq-eqb, ne_eqb}
use Rattle.std.specs.Prelude.{Contains, AllPairs, nat_lt}
use Rattle.std.specs.Str.{bytes_eq}
use Rattle.std.specs.List.{cons_option, list_any}
use Rattle.std.proofs.lemmas.List.{length-append}
use Rattle.std.proofs.lemmas.Slice.Eq.{bytes_eq-Decides}
use Rattle.amqp_perf.specs.Meaning.{Meaning, AnOpen, ABegin, AnAttach, AFlow, ATransfer, ADisposition, ADetach, AnEnd, AClose, TransferFields}
use Rattle.pairing_cert.specs.declared.note.Note.TheVariants as notes
use Rattle.capture_form.specs.declared.records.Record.{Record}
use Rattle.capture_form.specs.Rules.{RuleSet}
use Rattle.flow_counts.specs.GivenCredit as given
use Rattle.flow_counts.specs.Credit.{LinkEvent, TheirFlow, OurFlow, Begun}
use Rattle.trace_events.specs.declared.clause.Clause.TheVariants.{L6, L9}
use Rattle.trace_events.specs.Words.{is_some_and, where_passes}
use Rattle.trace_events.specs.Frame.{Frame, Spoken, spoken_in}
use Rattle.trace_events.specs.Event.{Event, Link, Incoming, Outgoing, Moment, Opened, In, Out, Lost, Broken, out_frame, is_on_link}
use Rattle.trace_events.specs.declared.session.Session.{Session}
use Rattle.trace_events.specs.Said.{as_transfer, out_meaning, out_transfer}
use Rattle.trace_events.specs.Connection.{is_over}
use Rattle.trace_events.specs.Session.{live_session, last_session}
use Rattle.trace_events.specs.Link.{is_producer, is_consumer, is_live, live_link, session_link, link_at}
use Rattle.trace_events.specs.Address.{has_multicast, is_consumer_of}
use Rattle.trace_events.specs.Credit.{begins_incoming, begins_outgoing, link_event, link_credit, begun_count}
use Rattle.trace_events.specs.Incoming.{address_of, completed_by, completes, completed_before, incoming_deliveries}
use Rattle.trace_events.specs.Outgoing.{in_progress, outgoing_begun, is_on, names, noted, is_named_on, is_paired}
use Rattle.trace_events.specs.Queue.{completed_deliveries}
use Rattle.trace_events.specs.Due.{is_copied_to, due_count, is_due, is_unsent}
use Rattle.trace_events.specs.Waiting.{is_of_multicast}
use Rattle.trace_events.specs.Work.{unsent_copies, comes_due}
use Rattle.trace_events.specs.History.{judge, judge_unopened, moment_of}
use Rattle.trace_events.specs.Clauses.{first_broken, meaning_meets}
use Rattle.trace_events.specs.TransferClause.{goes_on_with, is_same_note, goes_once_and_in_order, to_carry, goes_to_one_or_is_due, is_in_order}
use Rattle.trace_events.proofs.Along.{standing, and_first, and_last, and_then_some, some_passes}
use Rattle.trace_events.proofs.CountSteps.{begun_count-same, begun_count-elsewhere, begun_count-begun, begun_count-their_flow, begun_count-our_flow}
use Rattle.trace_events.proofs.EventKinds.{link_event-out, out_link_event-begun}
use Rattle.trace_events.proofs.Judged.{AreJudged, IsTransfer, judged-number, judged-transfer}
use Rattle.trace_events.proofs.LinkLives.{judged-stands}
use Rattle.trace_events.proofs.LinkNumbers.{judged-found}
use Rattle.trace_events.proofs.Links as links
use Rattle.trace_events.proofs.Opens.{opened-link}
use Rattle.trace_events.proofs.OutgoingSteps.{names_on}
use Rattle.trace_events.proofs.SessionNumbers.{last_session-known}
use Rattle.trace_events.proofs.StepWords.{and-false, filter-by}
use Rattle.trace_events.proofs.BegunDeliveries.{begun-own, begun-on_link, begun-carries, begun-names, found-begun}
use Rattle.trace_events.proofs.ClausesMet.{met, lawful-past}
use Rattle.trace_events.proofs.CompletionOrder.{before-not_itself, before-numbers}
use Rattle.trace_events.proofs.IncomingProgress.{judged-kept}
use Rattle.trace_events.proofs.LinkOrder.{link-cases}
use Rattle.trace_events.proofs.OneConsumer.{some-and, passes-some, or-right}
use Rattle.trace_events.proofs.OutgoingProgress.{IsPartOf, judged-outgoing_part, judged-carrying, same_note}
use Rattle.trace_events.proofs.UnsentCopies.{listed_unsent, unsent_listed, unsent_in_order, unsent_copies_move}
use Rattle.trace_events.proofs.WaitingQueue.{find_has, contains_first, contains_later, contains_none, contains_cases}
use Rattle.trace_events.proofs.WithinCredit.{AreUnused, begun_by, comes_from, comes_in, not_both, same_link, opens_still, unused_step}

-- ---- on lists

same_some : {A : Type 0} (a b : A) → Some a ≡ Some b → a ≡ b
same_some a b is = cc

filter-whole : {A : Type 0} (p : A → Bool) (xs : List A) → ((x : A) → Contains xs x → p x ≡ true) → filter p xs ≡ xs
filter-whole p [] each = refl
filter-whole p (x ∷ xs) each =
    ap (λ b. if b then x ∷ filter p xs else filter p xs) (each x (contains_first x xs)) ∙ ap (λ rest. x ∷ rest) (filter-whole p xs (λ y there. each y (contains_later x xs y there)))

-- each number is another's
abbrev pub HaveOwnNumbers : List Incoming → Type 0
HaveOwnNumbers ds = AllPairs (λ a b. (a.number == b.number) ≡ false) ds

apart-first : (d : Incoming) (ds : List Incoming) (x : Incoming) → HaveOwnNumbers (d ∷ ds) → Contains ds x → (d.number == x.number) ≡ false
apart-first d ds x apart there = let lt = there.1 in subst (λ (y : Incoming). (d.number == y.number) ≡ false) there.2 (apart 0 (suc there.0) x (omega (arith, lt)) (omega (arith, lt)))

apart-rest : (d : Incoming) (ds : List Incoming) → HaveOwnNumbers (d ∷ ds) → HaveOwnNumbers ds
apart-rest d ds apart = λ i j x lt within. apart (suc i) (suc j) x (omega (arith, lt)) (omega (arith, within))

-- without the one of a number there is one less
one-less : (n : ℕ) (ds : List Incoming) (d : Incoming) → HaveOwnNumbers ds → Contains ds d → d.number ≡ n → suc (length (filter (λ (x : Incoming). not (n == x.number)) ds)) ≡ length ds
one-less n [] d apart there same = contains_none d there
one-less n (x ∷ xs) d apart there same = elim (contains_cases x xs d there) [
  | inl here ↦
      let is : (n == x.number) ≡ true = eq-eqb n x.number (sym same ∙ ap (λ (y : Incoming). y.number) (sym here)) in
      ap (λ b. suc (length (if not b then x ∷ filter (λ (x : Incoming). not (n == x.number)) xs else filter (λ (x : Incoming). not (n == x.number)) xs))) is
      ∙ ap (λ ys. suc (length ys)) (filter-whole (λ (x : Incoming). not (n == x.number)) xs (λ y later. ap not (ap (λ m. m == y.number) (sym same ∙ ap (λ (y : Incoming). y.number) (sym here)) ∙ apart-first x xs y apart later)))
  | inr later ↦
      let other : (n == x.number) ≡ false = ne_eqb n x.number (λ is.
      let no : (x.number == d.number) ≡ false = apart-first x xs d apart later in
      let yes : (x.number == d.number) ≡ true = eq-eqb x.number d.number (sym is ∙ sym same) in absurd cc) in
      ap (λ b. suc (length (if not b then x ∷ filter (λ (x : Incoming). not (n == x.number)) xs else filter (λ (x : Incoming). not (n == x.number)) xs))) other
      ∙ ap suc (one-less n xs d (apart-rest x xs apart) later same)
]

-- copies to send are of different deliveries
pub unsent_apart : (rules : RuleSet) (l : Link) (past : List Event) → AreJudged rules past → HaveOwnNumbers (unsent_copies rules l past)
unsent_apart rules l past are = λ i j x lt within.
    let ds = unsent_copies rules l past in
    let before = unsent_in_order rules l past are i j x lt within in
    differ past (get_or ds i x) (get_or ds j x) before
  where
    differ : (past : List Event) (a b : Incoming) → completed_before a b past ≡ true → (a.number == b.number) ≡ false
    differ past a b before = by (a.number == b.number) refl
      where
        by : (c : Bool) → (a.number == b.number) ≡ c → c ≡ false
        by false is = refl
        by true is =
            let none : completed_before a b past ≡ false = before-numbers past a b a a refl (sym (eqb-true a.number b.number is)) ∙ before-not_itself past a in
            absurd cc

-- ---- a link before it is opened

module _ (rules : RuleSet) (past : List Event) (are : AreJudged rules past) (l : Link) (later : length past ≤ l.number) where
  unborn_by : (b : Bool) → is_live past l ≡ b → b ≡ false
  unborn_by false is = refl
  unborn_by true is =
      let found = some_passes (λ (m : Link). m.number == l.number) (live_link l.session.connection l.session.channel l.handle past) is in
      let on = and_then_some (λ (s : Session). session_link s l.handle past) (live_session l.session.connection l.session.channel past) found.0 found.1 in
      let known = last_session-known rules past are l.session.connection l.session.channel on.0
      (last_of (is_over l.session.connection past) (last_session l.session.connection l.session.channel past) on.0 on.1) in
      let lt = ((judged-stands rules past are).known on.0 l.handle found.0 known on.2).before in
      absurd (omega (arith, lt, later, eqb-true found.0.number l.number found.2))
    where
      last_of : (over : Bool) (last : Option Session) (s : Session) → (if over then None else last) ≡ Some s → last ≡ Some s
      last_of true last s is = absurd cc
      last_of false last s is = is

  unborn : is_live past l ≡ false
  unborn = unborn_by (is_live past l) refl

not_copied : (rules : RuleSet) (l : Link) (e : Event) (past : List Event) (o : Option Incoming) → is_live past l ≡ false → is_some_and o (λ d. is_of_multicast rules d (e ∷ past) && is_consumer_of (address_of d (e ∷ past)) past l) ≡ false
not_copied rules l e past None over = refl
not_copied rules l e past (Some d) over =
    ap (λ b. is_of_multicast rules d (e ∷ past) && (is_consumer l && bytes_eq l.address (address_of d (e ∷ past)) && b)) over
    ∙ (ap (λ b. is_of_multicast rules d (e ∷ past) && b) (and-false (is_consumer l && bytes_eq l.address (address_of d (e ∷ past)))) ∙ and-false (is_of_multicast rules d (e ∷ past)))

-- nothing was due to it
none_due : (rules : RuleSet) (past : List Event) → AreJudged rules past → (l : Link) → length past ≤ suc l.number → (due_count rules l past ≡ 0) × ((d : Incoming) → is_due rules d l past ≡ false)
none_due rules [] are l later = (refl, λ d. refl)
none_due rules (e ∷ past) are l later =
    let before = none_due rules past are.1 l (omega (arith, later)) in
    let over : is_live past l ≡ false = unborn rules past are.1 l (omega (arith, later)) in
    let none : comes_due rules l e past ≡ false =
    ap (λ b. b && nat_lt (due_count rules l past - begun_count l past) (link_credit l past)) (not_copied rules l e past (completed_by e) over) in (
      ap (λ b. if b then suc (due_count rules l past) else due_count rules l past) none ∙ before.0,
      λ d. ap (λ b. if completes d e then b else is_due rules d l past) none ∙ (ap (λ b. if completes d e then false else b) (before.1 d) ∙ both-off (completes d e)),
    )
  where
    both-off : (b : Bool) → (if b then false else false) ≡ false
    both-off true = refl
    both-off false = refl

judged-unused : (rules : RuleSet) (past : List Event) → AreJudged rules past → AreUnused past
judged-unused rules [] are = λ l after. refl
judged-unused rules (e ∷ past) ((r, is), are) = subst (λ (x : Event). AreUnused (x ∷ past)) (sym is) (unused_step rules past r (judged-stands rules past are) (judged-unused rules past are))

-- ---- an event that begins a delivery on the link

-- of the client's, none does on a consumer's link
module _ (rules : RuleSet) (past : List Event) (r : Record) (are : AreJudged rules past) (l : Link) (known : links.IsKnown past l) (consumer : is_consumer l ≡ true)
    (on : is_on_link l (judge rules past r) ≡ true) where
  none_comes : begins_incoming (judge rules past r) ≡ true → ⊥
  none_comes comes =
      let e = judge rules past r in
      let d = some_passes (λ (d : Incoming). d.number == e.number) e.incoming comes in
      let from = comes_from (standing rules past r) (moment_of r.what) past d.0 d.1 in
      let unopened : e.link ≡ (standing rules past r).link =
      opened-link (judge_unopened rules past r.connection (moment_of r.what) r.note) past (comes_in (standing rules past r) (moment_of r.what) past d.0 d.1) in
      let one = same_link rules past r l from.0 (judged-stands rules past are) known (unopened ∙ from.1) on in
      not_both l (subst (λ (m : Link). is_producer m ≡ true) one from.2) consumer

module _ (rules : RuleSet) (e : Event) (past : List Event) (are : AreJudged rules (e ∷ past)) (lawful : first_broken rules (e ∷ past) ≡ None)
    (l : Link) (known : links.IsKnown past l) (consumer : is_consumer l ≡ true) where
  -- a link of its number is the link
  same_of : (m : Link) → links.IsKnown past m → (m.number == l.number) ≡ true → m ≡ l
  same_of m is same = same_some m l (sym is.at ∙ (ap (λ n. link_at n past) (eqb-true m.number l.number same) ∙ known.at))

  known_link : (m : Link) → e.link ≡ Some m → (m.number == l.number) ≡ true → m ≡ l
  known_link m is same =
      let now = subst (λ (x : Event). links.IsKnown (x ∷ past) m) (sym are.0.1)
      (links.event_known rules past are.0.0 m (judged-stands rules past are.1) (subst (λ (x : Event). x.link ≡ Some m) are.0.1 is)) in
      let still = subst (λ (x : Event). links.IsKnown (x ∷ past) l) (sym are.0.1) (links.known_still rules past are.0.0 l known) in
      same_some m l (sym now.at ∙ (ap (λ n. link_at n (e ∷ past)) (eqb-true m.number l.number same) ∙ still.at))

  on_number : (m : Link) → e.link ≡ Some m → is_on_link l e ≡ true → (m.number == l.number) ≡ true
  on_number m is on =
      sym (ap (λ o. is_some_and o (λ (m : Link). m.number == l.number)) is) ∙ and_first (is_some_and e.link (λ (m : Link). m.number == l.number)) (e.connection == l.session.connection) on

  abbrev starts : Bool
  starts = is_some_and (outgoing_begun e) (is_on l)

  begun-is : (j : Outgoing) → e.outgoing ≡ Some j → (j.number == e.number) ≡ true → outgoing_begun e ≡ Some j
  begun-is j is same = ap (where_passes (λ (x : Outgoing). x.number == e.number)) is ∙ ap (λ b. if b then Some j else None) same

  starts-is : (j : Outgoing) → outgoing_begun e ≡ Some j → (j.link.number == l.number) ≡ true → starts ≡ true
  starts-is j is same = ap (λ o. is_some_and o (is_on l)) is ∙ same

  -- one on which nothing starts doesn't count one more
  begins_none : starts ≡ false → is_on_link l e ≡ true → link_event e e.moment ≡ Some Begun → ⊥
  begins_none none on begun = elim (begun_by e e.moment refl begun) [
    | inl comes ↦
        none_comes rules past are.0.0 are.1 l known consumer (subst (λ (x : Event). is_on_link l x ≡ true) are.0.1 on) (subst (λ (x : Event). begins_incoming x ≡ true) are.0.1 comes)
    | inr goes ↦
        let j = some_passes (λ (j : Outgoing). j.number == e.number) e.outgoing goes.begins in
        let begun = begun-is j.0 j.1 j.2 in
        let own = begun-own rules e past are lawful j.0 begun in
        let yes : starts ≡ true = starts-is j.0 begun (on_number j.0.link own.1 on) in
        cc
  ]

  begun-same : starts ≡ false → begun_count l (e ∷ past) ≡ begun_count l past
  begun-same none = by (is_on_link l e) refl (link_event e e.moment) refl
    where
      by : (b : Bool) → is_on_link l e ≡ b → (o : Option LinkEvent) → link_event e e.moment ≡ o → begun_count l (e ∷ past) ≡ begun_count l past
      by false off o is = begun_count-elsewhere l e past off
      by true on None is = begun_count-same l e past is
      by true on (Some Begun) is = absurd (begins_none none on is)
      by true on (Some (TheirFlow count credit drain)) is = begun_count-their_flow l e past count credit drain on is
      by true on (Some (OurFlow count credit drain)) is = begun_count-our_flow l e past count credit drain on is

  -- one that starts does
  module _ (j : Outgoing) (begun : outgoing_begun e ≡ Some j) (here : (j.link.number == l.number) ≡ true) where
    own_link_is : j.link ≡ l
    own_link_is = known_link j.link (begun-own rules e past are lawful j begun).1 here

    begun-more : begun_count l (e ∷ past) ≡ suc (begun_count l past)
    begun-more =
        let own = passes-some (λ (x : Outgoing). x.number == e.number) e.outgoing j begun in
        let t : IsTransfer e.moment = subst (λ (o : Option Outgoing). IfSome o (λ k. IsTransfer e.moment)) own.0 (judged-transfer rules e past are) in
        let says : out_meaning e ≡ Some (ATransfer t.fields) =
        ap (λ m. option_map (λ (spoken : Spoken). spoken.meaning) (option_and_then (λ (f : Frame). spoken_in f.body) (out_frame m))) t.written
        ∙ (ap (option_map (λ (spoken : Spoken). spoken.meaning)) t.says ∙ ap Some t.means) in
        let begins : begins_outgoing e ≡ true = ap (λ (o : Option Outgoing). is_some_and o (λ k. k.number == e.number)) own.0 ∙ own.1 in
        begun_count-begun l e past (subst (λ (m : Link). is_on_link m e ≡ true) own_link_is (begun-on_link rules e past are lawful j begun))
        (link_event-out e (ATransfer t.fields) says (Some Begun) (out_link_event-begun e t.fields begins))

    -- the copy that it carries was unsent
    unsent_here : has_multicast rules l.address ≡ true → is_unsent rules (begun-carries rules e past are lawful j begun).delivery l past ≡ true
    unsent_here many =
        let own = passes-some (λ (x : Outgoing). x.number == e.number) e.outgoing j begun in
        let t : IsTransfer e.moment = subst (λ (o : Option Outgoing). IfSome o (λ k. IsTransfer e.moment)) own.0 (judged-transfer rules e past are) in
        let begins : begins_outgoing e ≡ true = ap (λ (o : Option Outgoing). is_some_and o (λ k. k.number == e.number)) own.0 ∙ own.1 in
        let goes : is_some_and e.link (goes_once_and_in_order rules e past) ≡ true =
        or-right (begins_outgoing e) (is_some_and e.link (goes_once_and_in_order rules e past)) begins (sym (ap (λ m. meaning_meets rules e t.spoken past m L9) t.means) ∙ met rules e past lawful t.frame t.written t.spoken t.says L9) in
        let may : goes_once_and_in_order rules e past l ≡ true = sym (ap (λ o. is_some_and o (goes_once_and_in_order rules e past)) ((begun-own rules e past are lawful j begun).1 ∙ ap Some own_link_is)) ∙ goes in
        let d = some-and (to_carry rules e.note past) (λ x. goes_to_one_or_is_due rules l past x && is_in_order l past x) may in
        let c = begun-carries rules e past are lawful j begun in
        let one : d.0 ≡ c.delivery = same_some d.0 c.delivery (sym (passes-some _ (noted e.note past) d.0 d.1).0 ∙ c.is) in
        let first : goes_to_one_or_is_due rules l past c.delivery ≡ true = subst (λ (x : Incoming). goes_to_one_or_is_due rules l past x ≡ true) one (and_first (goes_to_one_or_is_due rules l past d.0) (is_in_order l past d.0) d.2) in
        let multicast : is_of_multicast rules c.delivery past ≡ true = ap (has_multicast rules) (sym c.address ∙ ap (λ (m : Link). m.address) own_link_is) ∙ many in
        turned (is_of_multicast rules c.delivery past) (is_named_on c.delivery l past) (is_due rules c.delivery l past) (not (is_paired c.delivery past)) multicast first
      where
        turned : (many named due alone : Bool) → many ≡ true → (if many then not named && due else alone) ≡ true → due && not named ≡ true
        turned true false true alone is first = refl
        turned true false false alone is first = absurd cc
        turned true true due alone is first = absurd cc
        turned false named due alone is first = absurd cc

    -- it is named now, and no other that is unsent
    pub one_leaves : has_multicast rules l.address ≡ true → suc (length (filter (λ d. not (names_on d l e)) (unsent_copies rules l past))) ≡ length (unsent_copies rules l past)
    one_leaves many =
        let c = begun-carries rules e past are lawful j begun in
        let there : Contains (incoming_deliveries past) c.delivery = find_has (λ (x : Incoming). x.number == c.delivery.number) (incoming_deliveries past) c.delivery c.kept.at in
        let listed = unsent_listed rules l past (judged-kept rules past are.1) c.delivery there (unsent_here many) in
        ap (λ ds. suc (length ds)) (filter-by (λ d. not (names_on d l e)) (λ d. not (c.delivery.number == d.number))
        (λ d. ap not (ap (λ m. names_on d m e) (sym own_link_is) ∙ begun-names rules e past are lawful j begun d)) (unsent_copies rules l past))
        ∙ one-less c.delivery.number (unsent_copies rules l past) c.delivery (unsent_apart rules l past are.1) listed refl

  -- ---- where nothing starts, nothing is named that was unsent

  -- a transfer that is written
  record IsWritten : Type 0 where
    frame : Frame
    spoken : Spoken
    fields : TransferFields
    written : e.moment ≡ Out frame
    said : spoken_in frame.body ≡ Some spoken
    means : spoken.meaning ≡ ATransfer fields

  is_written : is_some (out_transfer e) ≡ true → IsWritten
  is_written is = by_moment e.moment refl is
    where
      as_written : (m : Meaning) → is_some (as_transfer m) ≡ true → (fields : TransferFields) × (m ≡ ATransfer fields)
      as_written (ATransfer fields) is = (fields, refl)
      as_written (AnOpen x) is = absurd cc
      as_written (ABegin x) is = absurd cc
      as_written (AnAttach x) is = absurd cc
      as_written (AFlow x) is = absurd cc
      as_written (ADisposition x) is = absurd cc
      as_written (ADetach x) is = absurd cc
      as_written (AnEnd x) is = absurd cc
      as_written (AClose x) is = absurd cc

      by_spoken : (frame : Frame) → e.moment ≡ Out frame → (o : Option Spoken) → spoken_in frame.body ≡ o → is_some (option_and_then as_transfer (option_map (λ (spoken : Spoken). spoken.meaning) o)) ≡ true → IsWritten
      by_spoken frame at None said is = absurd cc
      by_spoken frame at (Some spoken) said is =
          let t = as_written spoken.meaning is in
          record { frame = frame; spoken = spoken; fields = t.0; written = at; said = said; means = t.1 }

      by_moment : (m : Moment) → e.moment ≡ m → is_some (option_and_then as_transfer (option_map (λ (spoken : Spoken). spoken.meaning) (option_and_then (λ (frame : Frame). spoken_in frame.body) (out_frame m)))) ≡ true → IsWritten
      by_moment (Out frame) at is = by_spoken frame at (spoken_in frame.body) refl is
      by_moment (In frame) at is = absurd cc
      by_moment Opened at is = absurd cc
      by_moment Lost at is = absurd cc
      by_moment Broken at is = absurd cc

  six : (w : IsWritten) → begins_outgoing e || is_some_and e.outgoing (λ k. goes_on_with k e.note w.fields) ≡ true
  six w = sym (ap (λ m. meaning_meets rules e w.spoken past m L6) w.means) ∙ met rules e past lawful w.frame w.written w.spoken w.said L6

  -- a later part names what its delivery carries, which was named before
  later_part : (w : IsWritten) → (j : Outgoing) → e.outgoing ≡ Some j → (m : Link) → e.link ≡ Some m → in_progress m past ≡ Some j → (m.number == l.number) ≡ true
      → (d : Incoming) → names d.number e.note ≡ true → is_named_on d l past ≡ true
  later_part w j is m on goes same d named =
      let going = judged-carrying rules past are.1 (lawful-past rules e past lawful) m j goes in
      let lt = going.1.below in
      let number = judged-number rules e past are in
      let b = found-begun rules past are.1 (lawful-past rules e past lawful) (λ (x : Outgoing). x.number == j.number) j going.1.at in
      let linked : j.link ≡ l = same_of j.link b.linked (eq-eqb j.link.number l.number (going.0 ∙ eqb-true m.number l.number same)) in
      let older : begins_outgoing e ≡ false = ap (λ (o : Option Outgoing). is_some_and o (λ k. k.number == e.number)) is ∙ ne_eqb j.number e.number (λ same. omega (arith, same, lt, number)) in
      let goes_on : is_some_and e.outgoing (λ k. goes_on_with k e.note w.fields) ≡ true = or_other (begins_outgoing e) (is_some_and e.outgoing (λ k. goes_on_with k e.note w.fields)) older (six w) in
      let here : goes_on_with j e.note w.fields ≡ true = sym (ap (λ (o : Option Outgoing). is_some_and o (λ k. goes_on_with k e.note w.fields)) is) ∙ goes_on in
      let note : e.note ≡ notes.Pair b.delivery.number =
      same_note e.note b.delivery.number (sym (ap (is_same_note e.note) b.named) ∙ and_last _ (is_same_note e.note j.note) here) in
      let number_is : (b.delivery.number == d.number) ≡ true = sym (ap (names d.number) note) ∙ named in
      ap (λ (n : ℕ). list_any (λ (x : Event). is_some (out_transfer x) && names n x.note && is_on_link l x) past) (sym (eqb-true b.delivery.number d.number number_is))
      ∙ (ap (λ (k : Link). is_named_on b.delivery k past) (sym linked) ∙ b.named_on)
    where
      or_other : (b c : Bool) → b ≡ false → b || c ≡ true → c ≡ true
      or_other true c none is = absurd cc
      or_other false c none is = is

  part_named : (w : IsWritten) → starts ≡ false → is_on_link l e ≡ true → (j : Outgoing) → e.outgoing ≡ Some j → IsPartOf e past j → (d : Incoming) → names d.number e.note ≡ true → is_named_on d l past ≡ true
  part_named w none on j is (inl (m, linked, goes)) d named = later_part w j is m linked goes (on_number m linked on) d named
  part_named w none on j is (inr (new, note, linked)) d named =
      let begun = begun-is j is (eq-eqb j.number e.number (new ∙ sym (judged-number rules e past are))) in
      let yes : starts ≡ true = starts-is j begun (on_number j.link linked on) in
      absurd cc

  some_part : (w : IsWritten) → starts ≡ false → is_on_link l e ≡ true → (o : Option Outgoing) → e.outgoing ≡ o → IfSome o (IsPartOf e past) → (d : Incoming) → names d.number e.note ≡ true → is_named_on d l past ≡ true
  some_part w none on (Some j) is part d named = part_named w none on j is part d named
  some_part w none on None is part d named =
      let no : begins_outgoing e || is_some_and e.outgoing (λ k. goes_on_with k e.note w.fields) ≡ false =
      ap (λ (o : Option Outgoing). is_some_and o (λ k. k.number == e.number) || is_some_and o (λ k. goes_on_with k e.note w.fields)) is in
      let yes = six w in
      absurd cc

  unnamed : starts ≡ false → (d : Incoming) → is_unsent rules d l past ≡ true → names_on d l e ≡ false
  unnamed none d unsent = by (names_on d l e) refl
    where
      by : (b : Bool) → names_on d l e ≡ b → b ≡ false
      by false is = refl
      by true is =
          let on = and_last (is_some (out_transfer e) && names d.number e.note) (is_on_link l e) is in
          let both = and_first (is_some (out_transfer e) && names d.number e.note) (is_on_link l e) is in
          let w = is_written (and_first (is_some (out_transfer e)) (names d.number e.note) both) in
          let before = some_part w none on e.outgoing refl (judged-outgoing_part rules e past are) d (and_last (is_some (out_transfer e)) (names d.number e.note) both) in
          let never : not (is_named_on d l past) ≡ true = and_last (is_due rules d l past) (not (is_named_on d l past)) unsent in
          let no : not (is_named_on d l past) ≡ false = ap not before in
          absurd cc

  none_leaves : starts ≡ false → filter (λ d. not (names_on d l e)) (unsent_copies rules l past) ≡ unsent_copies rules l past
  none_leaves none =
      filter-whole (λ d. not (names_on d l e)) (unsent_copies rules l past) (λ d there. ap not (unnamed none d (listed_unsent rules l past (judged-kept rules past are.1) d there).1))

-- ---- a step

if-more : (b : Bool) (n : ℕ) → (if b then suc n else n) ≡ cond b 1 0 + n
if-more true n = omega arith
if-more false n = omega arith

sums-more : (due begun left unsent now c : ℕ) → due ≡ begun + unsent → suc left ≡ unsent → now ≡ left + c → c + due ≡ suc begun + now
sums-more due begun left unsent now c was less is = omega (arith, was, less, is)

sums-same : (due begun left unsent now c : ℕ) → due ≡ begun + unsent → left ≡ unsent → now ≡ left + c → c + due ≡ begun + now
sums-same due begun left unsent now c was same is = omega (arith, was, same, is)

module _ (rules : RuleSet) (e : Event) (past : List Event) (are : AreJudged rules (e ∷ past)) (lawful : first_broken rules (e ∷ past) ≡ None)
    (l : Link) (known : links.IsKnown past l) (consumer : is_consumer l ≡ true) (many : has_multicast rules l.address ≡ true) where
  one-added : (o : Option Incoming) → completed_by e ≡ o → length (if comes_due rules l e past then cons_option o [] else []) ≡ cond (comes_due rules l e past) 1 0
  one-added None is = none-added (comes_due rules l e past)
      (ap (λ o. is_some_and o (λ d. is_of_multicast rules d (e ∷ past) && is_consumer_of (address_of d (e ∷ past)) past l) && nat_lt (due_count rules l past - begun_count l past) (link_credit l past)) is)
    where
      empty : List Incoming
      empty = []

      none-added : (b : Bool) → b ≡ false → length (if b then empty else empty) ≡ cond b 1 0
      none-added true off = absurd cc
      none-added false off = refl
  one-added (Some d) is = by (comes_due rules l e past)
    where
      by : (b : Bool) → length (if b then d ∷ [] else []) ≡ cond b 1 0
      by true = refl
      by false = refl

  unsent-length : length (unsent_copies rules l (e ∷ past)) ≡ length (filter (λ d. not (names_on d l e)) (unsent_copies rules l past)) + cond (comes_due rules l e past) 1 0
  unsent-length =
      ap length (unsent_copies_move rules l e past are (lawful-past rules e past lawful))
      ∙ (length-append (filter (λ d. not (names_on d l e)) (unsent_copies rules l past)) (if comes_due rules l e past then cons_option (completed_by e) [] else [])
      ∙ ap (λ n. length (filter (λ d. not (names_on d l e)) (unsent_copies rules l past)) + n) (one-added (completed_by e) refl))

  count_step : due_count rules l past ≡ begun_count l past + length (unsent_copies rules l past) → due_count rules l (e ∷ past) ≡ begun_count l (e ∷ past) + length (unsent_copies rules l (e ∷ past))
  count_step was =
      if-more (comes_due rules l e past) (due_count rules l past) ∙ by (outgoing_begun e) refl
    where
      none : is_some_and (outgoing_begun e) (is_on l) ≡ false → cond (comes_due rules l e past) 1 0 + due_count rules l past ≡ begun_count l (e ∷ past) + length (unsent_copies rules l (e ∷ past))
      none is =
          sums-same (due_count rules l past) (begun_count l past) (length (filter (λ d. not (names_on d l e)) (unsent_copies rules l past))) (length (unsent_copies rules l past)) (length (unsent_copies rules l (e ∷ past)))
          (cond (comes_due rules l e past) 1 0) was (ap length (none_leaves rules e past are lawful l known consumer is)) unsent-length
          ∙ ap (λ n. n + length (unsent_copies rules l (e ∷ past))) (sym (begun-same rules e past are lawful l known consumer is))

      one : (j : Outgoing) → outgoing_begun e ≡ Some j → (b : Bool) → is_on l j ≡ b → cond (comes_due rules l e past) 1 0 + due_count rules l past ≡ begun_count l (e ∷ past) + length (unsent_copies rules l (e ∷ past))
      one j begun true on =
          sums-more (due_count rules l past) (begun_count l past) (length (filter (λ d. not (names_on d l e)) (unsent_copies rules l past))) (length (unsent_copies rules l past)) (length (unsent_copies rules l (e ∷ past)))
          (cond (comes_due rules l e past) 1 0) was (one_leaves rules e past are lawful l known consumer j begun on many) unsent-length
          ∙ ap (λ n. n + length (unsent_copies rules l (e ∷ past))) (sym (begun-more rules e past are lawful l known consumer j begun on))
      one j begun false off = none (ap (λ o. is_some_and o (is_on l)) begun ∙ off)

      by : (o : Option Outgoing) → outgoing_begun e ≡ o → cond (comes_due rules l e past) 1 0 + due_count rules l past ≡ begun_count l (e ∷ past) + length (unsent_copies rules l (e ∷ past))
      by None is = none (ap (λ o. is_some_and o (is_on l)) is)
      by (Some j) is = one j is (is_on l j) refl

-- ---- a link that opens with the event

module _ (rules : RuleSet) (e : Event) (past : List Event) (are : AreJudged rules (e ∷ past)) (l : Link) (new : l.number ≡ length past) where
  unmoved : is_on_link l e ≡ true → link_event e e.moment ≡ None
  unmoved on =
      let m = some_passes (λ (m : Link). m.number == l.number) e.link (and_first (is_some_and e.link (λ (m : Link). m.number == l.number)) (e.connection == l.session.connection) on) in
      let same = eqb-true m.0.number l.number m.2 in
      elim (links.of_kind rules past are.0.0 m.0 (subst (λ (x : Event). x.link ≡ Some m.0) are.0.1 m.1)) [
        | inl opens ↦ subst (λ (x : Event). link_event x x.moment ≡ None) (sym are.0.1) (opens_still (judge rules past are.0.0) (moment_of are.0.0.what) opens)
        | inr named ↦ let lt = (links.named_known rules past are.0.0 m.0 (judged-stands rules past are.1) named.0 named.1 named.2).1 in absurd (omega (arith, lt, same, new))
      ]

  none_begun : begun_count l (e ∷ past) ≡ 0
  none_begun = by (is_on_link l e) refl
    where
      before : begun_count l past ≡ 0
      before = ap given.begun_count (judged-unused rules past are.1 l (omega (arith, new)))

      by : (b : Bool) → is_on_link l e ≡ b → begun_count l (e ∷ past) ≡ 0
      by false off = begun_count-elsewhere l e past off ∙ before
      by true on = begun_count-same l e past (unmoved on) ∙ before

  new_counted : due_count rules l (e ∷ past) ≡ begun_count l (e ∷ past) + length (unsent_copies rules l (e ∷ past))
  new_counted =
      let none = none_due rules (e ∷ past) are l (omega (arith, new)) in
      let empty : filter (λ d. is_unsent rules d l (e ∷ past)) (completed_deliveries (e ∷ past)) ≡ [] =
      filter-nothing (λ d. is_unsent rules d l (e ∷ past)) (completed_deliveries (e ∷ past)) (λ d. ap (λ b. b && not (is_named_on d l (e ∷ past))) (none.1 d)) in
      none.0 ∙ sym (ap (λ n. n + length (unsent_copies rules l (e ∷ past))) none_begun ∙ ap (λ ds. 0 + length (reverse ds)) empty)
    where
      filter-nothing : (p : Incoming → Bool) (xs : List Incoming) → ((x : Incoming) → p x ≡ false) → filter p xs ≡ []
      filter-nothing p [] off = refl
      filter-nothing p (x ∷ xs) off = ap (λ b. if b then x ∷ filter p xs else filter p xs) (off x) ∙ filter-nothing p xs off

-- ---- along a history

-- what was due to a consumer's link of a multicast address has begun there, or is unsent
pub copies_counted : (rules : RuleSet) (past : List Event) → AreJudged rules past → first_broken rules past ≡ None → (l : Link) → link_at l.number past ≡ Some l → is_consumer l ≡ true → has_multicast rules l.address ≡ true
    → due_count rules l past ≡ begun_count l past + length (unsent_copies rules l past)
copies_counted rules [] are lawful l at consumer many = absurd cc
copies_counted rules (e ∷ past) are lawful l at consumer many =
    by (link-cases rules e past are l at) (λ old. copies_counted rules past are.1 (lawful-past rules e past lawful) l old consumer many)
  where
    by : (link_at l.number past ≡ Some l) ⊎ (l.number ≡ length past) → (link_at l.number past ≡ Some l → due_count rules l past ≡ begun_count l past + length (unsent_copies rules l past))
        → due_count rules l (e ∷ past) ≡ begun_count l (e ∷ past) + length (unsent_copies rules l (e ∷ past))
    by (inl old) earlier = count_step rules e past are lawful l (record { at = old; before = (judged-found rules past are.1 l.number l old).1 }) consumer many (earlier old)
    by (inr new) earlier = new_counted rules e past are l new

-- a copy comes due to a link where it has more credit than copies that are unsent
pub comes_due_listed : (rules : RuleSet) (e : Event) (past : List Event) → AreJudged rules past → first_broken rules past ≡ None → (l : Link) → link_at l.number past ≡ Some l
    → comes_due rules l e past ≡ is_copied_to rules l e past && nat_lt (length (unsent_copies rules l past)) (link_credit l past)
comes_due_listed rules e past are lawful l at = by (is_copied_to rules l e past) refl
  where
    rest : (begun unsent : ℕ) → (begun + unsent) - begun ≡ unsent
    rest begun unsent = omega arith

    by : (b : Bool) → is_copied_to rules l e past ≡ b
        → is_copied_to rules l e past && nat_lt (due_count rules l past - begun_count l past) (link_credit l past) ≡ is_copied_to rules l e past && nat_lt (length (unsent_copies rules l past)) (link_credit l past)
    by false is =
        ap (λ b. b && nat_lt (due_count rules l past - begun_count l past) (link_credit l past)) is ∙ sym (ap (λ b. b && nat_lt (length (unsent_copies rules l past)) (link_credit l past)) is)
    by true is =
        let d = some-and (completed_by e) (λ d. is_of_multicast rules d (e ∷ past) && is_consumer_of (address_of d (e ∷ past)) past l) is in
        let of = and_last (is_of_multicast rules d.0 (e ∷ past)) (is_consumer_of (address_of d.0 (e ∷ past)) past l) d.2 in
        let both = and_first (is_consumer l && bytes_eq l.address (address_of d.0 (e ∷ past))) (is_live past l) of in
        let same : l.address ≡ address_of d.0 (e ∷ past) = (bytes_eq-Decides l.address (address_of d.0 (e ∷ past))).0 (and_last (is_consumer l) (bytes_eq l.address (address_of d.0 (e ∷ past))) both) in
        let many : has_multicast rules l.address ≡ true = ap (has_multicast rules) same ∙ and_first (is_of_multicast rules d.0 (e ∷ past)) (is_consumer_of (address_of d.0 (e ∷ past)) past l) d.2 in
        ap (λ n. is_copied_to rules l e past && nat_lt n (link_credit l past))
        (ap (λ n. n - begun_count l past) (copies_counted rules past are lawful l at (and_first (is_consumer l) (bytes_eq l.address (address_of d.0 (e ∷ past))) both) many)
        ∙ rest (begun_count l past) (length (unsent_copies rules l past)))
