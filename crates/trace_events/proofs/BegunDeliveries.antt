-- In a lawful capture each delivery to a client, in progress or not, is of a link that was opened before it, and carries a
-- complete delivery of that link's address, which its note names, and which is named on the link from then on.
use Rattle.std.proofs.Common.{◌≡◌, refl, sym, ap, subst, ◌∙◌, ◌<◌, Bool, true, false, List, [], ◌∷◌, length, Option, Some, None, IfSome, IsSomeAnd, find, option_and_then, option_map, is_some, if◌then◌else◌, ◌&&◌, ◌==◌, inl, inr, arith, eqb-true, eq-eqb}
use Rattle.std.specs.List.{cons_option, AllByRecursion}
use Rattle.pairing_cert.specs.declared.note.Note.TheVariants as notes
use Rattle.capture_form.specs.Rules.{RuleSet}
use Rattle.trace_events.specs.Words.{is_some_and}
use Rattle.trace_events.specs.Frame.{Frame, Spoken, spoken_in}
use Rattle.trace_events.specs.Event.{Event, Link, Incoming, Outgoing, out_frame, is_on_link}
use Rattle.trace_events.specs.declared.session.Session.{Session}
use Rattle.trace_events.specs.Said.{as_attach, as_transfer, out_spoken, out_transfer}
use Rattle.trace_events.specs.Link as all
use Rattle.trace_events.specs.Link.{own_link, link_at, session_link, is_live, IsLiveLink}
use Rattle.trace_events.specs.Incoming.{address_of, is_complete}
use Rattle.trace_events.specs.Outgoing.{outgoing_begun, outgoing_deliveries, names, noted, is_named_on}
use Rattle.trace_events.specs.History.{judge, judge_unopened, moment_of}
use Rattle.trace_events.specs.Clauses.{first_broken}
use Rattle.trace_events.proofs.Along.{standing, some_such}
use Rattle.trace_events.proofs.Fates.{complete-stays}
use Rattle.trace_events.proofs.Judged.{AreJudged, IsTransfer, judged-number, judged-transfer}
use Rattle.trace_events.proofs.Links as links
use Rattle.trace_events.proofs.Links.{attach_in, passing}
use Rattle.trace_events.proofs.LinkLives.{judged-stands}
use Rattle.trace_events.proofs.LinkNumbers.{own_link-number}
use Rattle.trace_events.proofs.Opens.{opened-link}
use Rattle.trace_events.proofs.OutgoingLinks.{IsOnEarlier, judged-on_earlier}
use Rattle.trace_events.proofs.OutgoingSteps.{names_on, is_named_on-here, is_named_on-stays}
use Rattle.trace_events.proofs.SessionPlaces.{session-connection}
use Rattle.trace_events.proofs.ClausesMet.{lawful-past}
use Rattle.trace_events.proofs.IncomingProgress.{judged-kept}
use Rattle.trace_events.proofs.JudgedHistories.{judged-keeps}
use Rattle.trace_events.proofs.LiveLinks.{placed-names}
use Rattle.trace_events.proofs.OutgoingProgress.{IsPartOf, judged-outgoing_part, judged-carrying, noted_pair}
use Rattle.trace_events.proofs.Parts.{IsKept, all_such, found_holds, kept_still, delivery_kept}
use Rattle.trace_events.proofs.Undecided.{link_of_session}
use Rattle.trace_events.proofs.WaitingQueue.{address_stays}

pub record IsBegun (past : List Event) (j : Outgoing) : Type 0 where
  pub below : j.number < length past
  pub linked : links.IsKnown past j.link
  pub delivery : Incoming
  pub named : j.note ≡ notes.Pair delivery.number
  pub kept : IsKept past delivery
  pub complete : is_complete delivery past ≡ true
  pub address : j.link.address ≡ address_of delivery past
  pub named_on : is_named_on delivery j.link past ≡ true

-- its note names the delivery that it carries
pub begun-noted : (past : List Event) (j : Outgoing) (b : IsBegun past j) → noted j.note past ≡ Some b.delivery
begun-noted past j b = ap (λ note. noted note past) b.named ∙ b.kept.at

known : {A : Type 0} (P : A → Type 0) (o : Option A) (x : A) → o ≡ Some x → IfSome o P → P x
known P o x is h = subst (λ (p : Option _). IfSome p P) is h

known_and : {A : Type 0} (P : A → Type 0) (o : Option A) (x : A) → o ≡ Some x → IsSomeAnd o P → P x
known_and P o x is h = subst (λ (p : Option _). IsSomeAnd p P) is h

module _ (rules : RuleSet) (e : Event) (past : List Event) (are : AreJudged rules (e ∷ past)) where
  linked_still : (l : Link) → links.IsKnown past l → links.IsKnown (e ∷ past) l
  linked_still l is = subst (λ (x : Event). links.IsKnown (x ∷ past) l) (sym are.0.1) (links.known_still rules past are.0.0 l is)

  pub kept-later : (d : Incoming) → IsKept past d → IsKept (e ∷ past) d
  kept-later d is = subst (λ (x : Event). IsKept (x ∷ past) d) (sym are.0.1) (kept_still rules past are.0.0 d (judged-kept rules past are.1) is)

  pub begun-later : (j : Outgoing) → IsBegun past j → IsBegun (e ∷ past) j
  begun-later j b =
      let lt = b.below in
      record {
        below = omega (arith, lt);
        linked = linked_still j.link b.linked;
        delivery = b.delivery;
        named = b.named;
        kept = kept-later b.delivery b.kept;
        complete = complete-stays b.delivery e past b.complete;
        address = b.address ∙ sym (address_stays rules e past are b.delivery b.complete);
        named_on = is_named_on-stays e past b.delivery j.link b.named_on;
      }

  -- and its note names the same
  pub begun-noted_later : (j : Outgoing) (b : IsBegun past j) → noted j.note (e ∷ past) ≡ Some b.delivery
  begun-noted_later j b = ap (λ note. noted note (e ∷ past)) b.named ∙ (kept-later b.delivery b.kept).at

  -- ---- one that begins with the event

  module _ (lawful : first_broken rules (e ∷ past) ≡ None) (j : Outgoing) (begun : outgoing_begun e ≡ Some j) where
    own : (e.outgoing ≡ Some j) × ((j.number == e.number) ≡ true)
    own = passing (λ (x : Outgoing). x.number == e.number) e.outgoing j begun

    number : j.number ≡ length past
    number = eqb-true j.number e.number own.1 ∙ judged-number rules e past are

    -- it has the event's note and link
    new-by : IsPartOf e past j → (j.note ≡ e.note) × (e.link ≡ Some j.link)
    new-by (inl (l, on, goes)) =
        let lt = (judged-carrying rules past are.1 (lawful-past rules e past lawful) l j goes).1.below in
        absurd (omega (arith, lt, number))
    new-by (inr (new, note, on)) = (note, on)

    pub begun-own : (j.note ≡ e.note) × (e.link ≡ Some j.link)
    begun-own = new-by (known (IsPartOf e past) e.outgoing j own.0 (judged-outgoing_part rules e past are))

    transfer : IsTransfer e.moment
    transfer = known (λ (k : Outgoing). IsTransfer e.moment) e.outgoing j own.0 (judged-transfer rules e past are)

    fields_of : (t : IsTransfer e.moment) → out_transfer e ≡ Some t.fields
    fields_of t =
        let said : out_spoken e ≡ Some t.spoken = ap (λ m. option_and_then (λ (f : Frame). spoken_in f.body) (out_frame m)) t.written ∙ t.says in
        ap (λ o. option_and_then as_transfer (option_map (λ (spoken : Spoken). spoken.meaning) o)) said ∙ ap as_transfer t.means

    -- the event is a transfer on that link
    pub begun-written : is_some (out_transfer e) ≡ true
    begun-written = ap is_some (fields_of transfer)

    said_no_attach : (t : IsTransfer e.moment) → attach_in (moment_of are.0.0.what) ≡ None
    said_no_attach t =
        let same : moment_of are.0.0.what ≡ e.moment = sym (ap (λ (x : Event). x.moment) are.0.1) in
        ap attach_in same
        ∙ (ap attach_in t.written
        ∙ (ap (λ o. option_and_then as_attach (option_map (λ (spoken : Spoken). spoken.meaning) o)) t.says ∙ ap as_attach t.means))

    on_connection : j.link.session.connection ≡ e.connection
    on_connection =
        elim (links.of_kind rules past are.0.0 j.link (subst (λ (x : Event). x.link ≡ Some j.link) are.0.1 begun-own.1)) [
          | inl opens ↦ let never : is_some (attach_in (moment_of are.0.0.what)) ≡ false = ap is_some (said_no_attach transfer) in absurd cc
          | inr named ↦
              ap (λ (s : Session). s.connection) (link_of_session named.0 named.2.0 past j.link named.2.1).0
              ∙ (session-connection rules past are.0.0 named.0 named.1 ∙ sym (ap (λ (x : Event). x.connection) are.0.1))
        ]

    pub begun-on_link : is_on_link j.link e ≡ true
    begun-on_link =
        ap (λ o. is_some_and o (λ (m : Link). m.number == j.link.number) && (e.connection == j.link.session.connection)) begun-own.1
        ∙ (ap (λ b. b && (e.connection == j.link.session.connection)) (eq-eqb j.link.number j.link.number refl)
        ∙ eq-eqb e.connection j.link.session.connection (sym on_connection))

    -- which was opened before, and lives
    pub begun-linked : links.IsKnown past j.link
    begun-linked =
        let now = subst (λ (x : Event). links.IsKnown (x ∷ past) j.link) (sym are.0.1)
        (links.event_known rules past are.0.0 j.link (judged-stands rules past are.1) (subst (λ (x : Event). x.link ≡ Some j.link) are.0.1 begun-own.1)) in
        let lt = known (IsOnEarlier (length past)) e.outgoing j own.0 (judged-on_earlier rules (e ∷ past) are).0 in
        record { at = older now.at lt; before = lt }
      where
        by : (m : Link) → own_link e ≡ Some m → (b : Bool) → (m.number == j.link.number) ≡ b → j.link.number < length past → (if b then Some m else link_at j.link.number past) ≡ Some j.link → link_at j.link.number past ≡ Some j.link
        by m opened true same lt at =
            let number = own_link-number rules e past m are opened in
            absurd (omega (arith, eqb-true m.number j.link.number same, number, lt))
        by m opened false same lt at = at

        among : (o : Option Link) → own_link e ≡ o → j.link.number < length past → find (λ (m : Link). m.number == j.link.number) (cons_option o (all.links past)) ≡ Some j.link → link_at j.link.number past ≡ Some j.link
        among None none lt at = at
        among (Some m) opened lt at = by m opened (m.number == j.link.number) refl lt at

        older : link_at j.link.number (e ∷ past) ≡ Some j.link → j.link.number < length past → link_at j.link.number past ≡ Some j.link
        older at lt = among (own_link e) refl lt at

    pub begun-live : is_live past j.link ≡ true
    begun-live =
        let r = are.0.0 in
        let unopened : (judge rules past r).link ≡ (standing rules past r).link =
        opened-link (judge_unopened rules past r.connection (moment_of r.what) r.note) past (said_no_attach transfer) in
        let here : (judge rules past r).link ≡ Some j.link = subst (λ (x : Event). x.link ≡ Some j.link) are.0.1 begun-own.1 in
        let live : IsLiveLink j.link past =
        known (λ (l : Link). IsLiveLink l past) (standing rules past r).link j.link (sym unopened ∙ here) (placed-names past r.connection (moment_of r.what) r.note) in
        ap (λ o. is_some_and (option_and_then (λ (s : Session). session_link s j.link.handle past) o) (λ (m : Link). m.number == j.link.number)) live.0
        ∙ (ap (λ o. is_some_and o (λ (m : Link). m.number == j.link.number)) live.1 ∙ eq-eqb j.link.number j.link.number refl)

    -- the delivery that it carries
    pub record Carries : Type 0 where
      pub delivery : Incoming
      pub is : noted e.note past ≡ Some delivery
      pub named : e.note ≡ notes.Pair delivery.number
      pub kept : IsKept past delivery
      pub complete : is_complete delivery past ≡ true
      pub address : j.link.address ≡ address_of delivery past

    pub begun-carries : Carries
    begun-carries =
        let t = transfer in
        let keeps = judged-keeps rules (e ∷ past) are lawful in
        let d = some_such _ (noted e.note past) (known _ (out_transfer e) t.fields (fields_of t) keeps.carried.0) in
        let all = known_and _ e.outgoing j own.0 d.2 in
        let on = known_and _ (noted e.note past) d.0 d.1 (known _ (out_transfer e) t.fields (fields_of t) keeps.addressed.0) in
        let pair = noted_pair rules past are.1 e.note d.0 d.1 in
        record {
          delivery = d.0;
          is = d.1;
          named = pair.0;
          kept = delivery_kept rules past d.0.number d.0 (judged-kept rules past are.1) pair.2;
          complete = all.0;
          address = known_and (λ (m : Link). m.address ≡ address_of d.0 past) e.link j.link begun-own.1 on;
        }

    pub begun-noted_now : noted j.note (e ∷ past) ≡ Some begun-carries.delivery
    begun-noted_now =
        let c = begun-carries in
        ap (λ note. noted note (e ∷ past)) (begun-own.0 ∙ c.named) ∙ (kept-later c.delivery c.kept).at

    -- on the link the event names it and no other
    pub begun-names : (d : Incoming) → names_on d j.link e ≡ (begun-carries.delivery.number == d.number)
    begun-names d =
        let n = begun-carries.delivery.number in
        ap (λ b. b && names d.number e.note && is_on_link j.link e) begun-written
        ∙ (ap (λ note. names d.number note && is_on_link j.link e) begun-carries.named ∙ (ap (λ b. (n == d.number) && b) begun-on_link ∙ and_true (n == d.number)))
      where
        and_true : (b : Bool) → b && true ≡ b
        and_true true = refl
        and_true false = refl

    pub begun-here : IsBegun (e ∷ past) j
    begun-here =
        let c = begun-carries in
        let n = number in
        record {
          below = omega (arith, n);
          linked = subst (λ (x : Event). links.IsKnown (x ∷ past) j.link) (sym are.0.1)
              (links.event_known rules past are.0.0 j.link (judged-stands rules past are.1) (subst (λ (x : Event). x.link ≡ Some j.link) are.0.1 begun-own.1));
          delivery = c.delivery;
          named = begun-own.0 ∙ c.named;
          kept = kept-later c.delivery c.kept;
          complete = complete-stays c.delivery e past c.complete;
          address = c.address ∙ sym (address_stays rules e past are c.delivery c.complete);
          named_on = is_named_on-here e past c.delivery j.link (begun-names c.delivery ∙ eq-eqb c.delivery.number c.delivery.number refl);
        }

-- ---- all of them

pub judged-begun : (rules : RuleSet) (past : List Event) → AreJudged rules past → first_broken rules past ≡ None → AllByRecursion (IsBegun past) (outgoing_deliveries past)
judged-begun rules [] are lawful = tt
judged-begun rules (e ∷ past) are lawful =
    by (outgoing_begun e) refl
    (all_such (IsBegun past) (IsBegun (e ∷ past)) (outgoing_deliveries past) (begun-later rules e past are) (judged-begun rules past are.1 (lawful-past rules e past lawful)))
  where
    by : (o : Option Outgoing) → outgoing_begun e ≡ o → AllByRecursion (IsBegun (e ∷ past)) (outgoing_deliveries past) → AllByRecursion (IsBegun (e ∷ past)) (cons_option o (outgoing_deliveries past))
    by None is earlier = earlier
    by (Some j) is earlier = (begun-here rules e past are lawful j is, earlier)

-- one that is found among them
pub found-begun : (rules : RuleSet) (past : List Event) → AreJudged rules past → first_broken rules past ≡ None → (test : Outgoing → Bool) (j : Outgoing)
    → find test (outgoing_deliveries past) ≡ Some j → IsBegun past j
found-begun rules past are lawful test j found = found_holds (IsBegun past) test (outgoing_deliveries past) j (judged-begun rules past are lawful) found
