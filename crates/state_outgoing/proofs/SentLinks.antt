-- A delivery to a client begins on a link that was opened before and lives, in every history that is judged.
use Rattle.std.proofs.Common.{◌≡◌, refl, sym, ap, subst, ◌∙◌, ℕ, suc, ◌<◌, Bool, true, false, List, [], ◌∷◌, length, Option, Some, None, IfSome, option_and_then, option_map, find, if◌then◌else◌, ◌&&◌, ◌==◌, not, inl, inr, arith, eqb-true, eq-eqb}
use Rattle.std.specs.List.{cons_option, AllByRecursion}
use Rattle.amqp_perf.specs.Meaning.{flag}
use Rattle.capture_form.specs.Rules.{RuleSet}
use Rattle.pairing_cert.specs.declared.note.Note.{Note}
use Rattle.trace_events.specs.Words.{is_some_and}
use Rattle.trace_events.specs.Frame.{Spoken}
use Rattle.trace_events.specs.Event.{Event, Link, Outgoing}
use Rattle.trace_events.specs.declared.session.Session.{Session}
use Rattle.trace_events.specs.Said.{as_attach, out_transfer}
use Rattle.trace_events.specs.Link as all
use Rattle.trace_events.specs.Link.{own_link, link_at, session_link, is_live, IsLiveLink}
use Rattle.trace_events.specs.Ends.{ends_link}
use Rattle.trace_events.specs.Outgoing.{in_progress, outgoing_begun, outgoing_deliveries, outgoing_at}
use Rattle.trace_events.specs.History.{judge, judge_unopened, moment_of}
use Rattle.trace_events.proofs.Along.{standing}
use Rattle.trace_events.proofs.Elsewhere.{if-some}
use Rattle.trace_events.proofs.Judged.{AreJudged, AreBorn, IsBorn, IsTransfer, judged-born, judged-number, judged-transfer}
use Rattle.trace_events.proofs.Links as links
use Rattle.trace_events.proofs.Links.{attach_in, passing}
use Rattle.trace_events.proofs.LinkLives.{judged-stands}
use Rattle.trace_events.proofs.LinkNumbers.{own_link-number}
use Rattle.trace_events.proofs.Opens.{opened-link}
use Rattle.trace_events.proofs.OutgoingLinks.{IsOnEarlier, judged-on_earlier}
use Rattle.trace_events.proofs.LinkEnds.{is_live-next}
use Rattle.trace_events.proofs.LiveLinks.{placed-names}
use Rattle.trace_events.proofs.OutgoingProgress.{IsPartOf, judged-outgoing_part}
use Rattle.trace_events.proofs.Parts.{all_such, found_holds}

known : {A : Type 0} (P : A → Type 0) (o : Option A) (x : A) → o ≡ Some x → IfSome o P → P x
known P o x is h = subst (λ (p : Option _). IfSome p P) is h

-- ---- what is in progress began before

abbrev IsBelow : ℕ → Outgoing → Type 0
IsBelow n j = j.number < n

born-below : (n : ℕ) (note : Note) (o : Option Outgoing) → IfSome o (IsBorn n note) → IfSome o (IsBelow (suc n))
born-below n own None born = tt
born-below n own (Some j) (inl lt) = omega (arith, lt)
born-below n own (Some j) (inr (at, same)) = omega (arith, at)

later-below : (n : ℕ) (o : Option Outgoing) → IfSome o (IsBelow n) → IfSome o (IsBelow (suc n))
later-below n None below = tt
later-below n (Some j) below = omega (arith, below)

progress-below : (l : Link) (past : List Event) → AreBorn past → IfSome (in_progress l past) (IsBelow (length past))
progress-below l [] are = tt
progress-below l (e ∷ past) are =
    let Now : Outgoing → Type 0 = IsBelow (suc (length past)) in
    if-some Now (is_some_and e.outgoing (λ j. j.link.number == l.number)) (if is_some_and (out_transfer e) (λ fields. flag fields.more) then e.outgoing else None) (in_progress l past)
    (if-some Now (is_some_and (out_transfer e) (λ fields. flag fields.more)) e.outgoing None (born-below (length past) e.note e.outgoing are.0) tt)
    (later-below (length past) (in_progress l past) (progress-below l past are.1))

-- ---- one that begins

module _ (rules : RuleSet) (e : Event) (past : List Event) (are : AreJudged rules (e ∷ past)) where
  linked_still : (l : Link) → links.IsKnown past l → links.IsKnown (e ∷ past) l
  linked_still l is = subst (λ (x : Event). links.IsKnown (x ∷ past) l) (sym are.0.1) (links.known_still rules past are.0.0 l is)

  module _ (j : Outgoing) (begun : outgoing_begun e ≡ Some j) where
    own : (e.outgoing ≡ Some j) × ((j.number == e.number) ≡ true)
    own = passing (λ (x : Outgoing). x.number == e.number) e.outgoing j begun

    pub begun-number : j.number ≡ length past
    begun-number = eqb-true j.number e.number own.1 ∙ judged-number rules e past are

    -- of the event's link: what goes on there began before
    on-by : IsPartOf e past j → e.link ≡ Some j.link
    on-by (inl (l, on, goes)) =
        let lt = known (IsBelow (length past)) (in_progress l past) j goes (progress-below l past (judged-born rules past are.1)) in
        let number = begun-number in
        absurd (omega (arith, lt, number))
    on-by (inr (new, note, on)) = on

    on : e.link ≡ Some j.link
    on = on-by (known (IsPartOf e past) e.outgoing j own.0 (judged-outgoing_part rules e past are))

    on-judged : (judge rules past are.0.0).link ≡ Some j.link
    on-judged = subst (λ (x : Event). x.link ≡ Some j.link) are.0.1 on

    no_attach : (t : IsTransfer e.moment) → attach_in (moment_of are.0.0.what) ≡ None
    no_attach t =
        let same : moment_of are.0.0.what ≡ e.moment = sym (ap (λ (x : Event). x.moment) are.0.1) in
        ap attach_in same
        ∙ (ap attach_in t.written
        ∙ (ap (λ o. option_and_then as_attach (option_map (λ (spoken : Spoken). spoken.meaning) o)) t.says ∙ ap as_attach t.means))

    transfer : IsTransfer e.moment
    transfer = known (λ (k : Outgoing). IsTransfer e.moment) e.outgoing j own.0 (judged-transfer rules e past are)

    linked-now : links.IsKnown (e ∷ past) j.link
    linked-now = subst (λ (x : Event). links.IsKnown (x ∷ past) j.link) (sym are.0.1) (links.event_known rules past are.0.0 j.link (judged-stands rules past are.1) on-judged)

    pub begun-linked : links.IsKnown past j.link
    begun-linked =
        let lt = known (IsOnEarlier (length past)) e.outgoing j own.0 (judged-on_earlier rules (e ∷ past) are).0 in
        record { at = among (own_link e) refl lt linked-now.at; before = lt }
      where
        by : (m : Link) → own_link e ≡ Some m → (b : Bool) → (m.number == j.link.number) ≡ b → j.link.number < length past → (if b then Some m else link_at j.link.number past) ≡ Some j.link → link_at j.link.number past ≡ Some j.link
        by m opened true same lt at =
            let number = own_link-number rules e past m are opened in
            absurd (omega (arith, eqb-true m.number j.link.number same, number, lt))
        by m opened false same lt at = at

        among : (o : Option Link) → own_link e ≡ o → j.link.number < length past → find (λ (m : Link). m.number == j.link.number) (cons_option o (all.links past)) ≡ Some j.link → link_at j.link.number past ≡ Some j.link
        among None none lt at = at
        among (Some m) opened lt at = by m opened (m.number == j.link.number) refl lt at

    pub begun-live : is_live past j.link ≡ true
    begun-live =
        let r = are.0.0 in
        let unopened : (judge rules past r).link ≡ (standing rules past r).link =
        opened-link (judge_unopened rules past r.connection (moment_of r.what) r.note) past (no_attach transfer) in
        let live : IsLiveLink j.link past =
        known (λ (l : Link). IsLiveLink l past) (standing rules past r).link j.link (sym unopened ∙ on-judged) (placed-names past r.connection (moment_of r.what) r.note) in
        ap (λ o. is_some_and (option_and_then (λ (s : Session). session_link s j.link.handle past) o) (λ (m : Link). m.number == j.link.number)) live.0
        ∙ (ap (λ o. is_some_and o (λ (m : Link). m.number == j.link.number)) live.1 ∙ eq-eqb j.link.number j.link.number refl)

-- ---- all of them

abbrev IsLinked : List Event → Outgoing → Type 0
IsLinked past j = links.IsKnown past j.link

pub all-linked : (rules : RuleSet) (past : List Event) → AreJudged rules past → AllByRecursion (IsLinked past) (outgoing_deliveries past)
all-linked rules [] are = tt
all-linked rules (e ∷ past) are =
    by (outgoing_begun e) refl (all_such (IsLinked past) (IsLinked (e ∷ past)) (outgoing_deliveries past) (λ j is. linked_still rules e past are j.link is) (all-linked rules past are.1))
  where
    by : (o : Option Outgoing) → outgoing_begun e ≡ o → AllByRecursion (IsLinked (e ∷ past)) (outgoing_deliveries past) → AllByRecursion (IsLinked (e ∷ past)) (cons_option o (outgoing_deliveries past))
    by None none earlier = earlier
    by (Some j) begun earlier = (linked-now rules e past are j begun, earlier)

pub found-linked : (rules : RuleSet) (past : List Event) → AreJudged rules past → (n : ℕ) (j : Outgoing) → outgoing_at n past ≡ Some j → links.IsKnown past j.link
found-linked rules past are n j found = found_holds (IsLinked past) (λ (x : Outgoing). x.number == n) (outgoing_deliveries past) j (all-linked rules past are) found

-- its link lives on unless the event ends it
module _ (rules : RuleSet) (e : Event) (past : List Event) (are : AreJudged rules (e ∷ past)) where
  pub found-lives : (n : ℕ) (j : Outgoing) → outgoing_at n past ≡ Some j → is_live (e ∷ past) j.link ≡ is_live past j.link && not (ends_link j.link e)
  found-lives n j found = is_live-next rules e past are j.link (found-linked rules past are.1 n j found).at

  pub begun-lives : (j : Outgoing) → outgoing_begun e ≡ Some j → is_live (e ∷ past) j.link ≡ is_live past j.link && not (ends_link j.link e)
  begun-lives j begun = is_live-next rules e past are j.link (begun-linked rules e past are j begun).at
