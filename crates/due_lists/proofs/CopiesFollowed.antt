-- The list of unsent copies behind one more event.
use Rattle.std.proofs.Common.{◌≡◌, refl, sym, ap, ◌∙◌, ◌↔◌, ℕ, ◌<◌, Bool, true, false, ◌&&◌, inl, inr, List, ◌∷◌, length, Some, None, nat_lt, if◌then◌else◌, ◌==◌, eq-eqb, eqb-true, arith}
use Rattle.std.specs.Prelude.{Contains, is_none}
use Rattle.std.specs.List.{cons_option}
use Rattle.flow_counts.specs.Credit as counts
use Rattle.capture_form.specs.Rules.{RuleSet}
use Rattle.trace_events.specs.Words.{is_some_and}
use Rattle.trace_events.specs.Said.{out_transfer}
use Rattle.amqp_perf.specs.Meaning.{flag}
use Rattle.trace_events.specs.Event.{Event, Link, Incoming, is_on_link}
use Rattle.trace_events.specs.declared.session.Session.{Session}
use Rattle.trace_events.specs.Credit.{link_credit, link_event, link_events}
use Rattle.trace_events.specs.Ends.{ends_link}
use Rattle.trace_events.specs.Incoming.{completed_by, completes, completion}
use Rattle.trace_events.specs.Link.{IsLiveLink}
use Rattle.trace_events.specs.Session.{IsLiveOn}
use Rattle.trace_events.specs.Outgoing.{in_progress}
use Rattle.trace_events.specs.Window.{session_window}
use Rattle.trace_events.proofs.Along.{and_first, and_last}
use Rattle.trace_events.proofs.IncomingSteps.{completion-same, completion-here}
use Rattle.trace_events.proofs.OutgoingSteps.{is_part_on}
use Rattle.trace_events.proofs.Judged.{AreJudged, judged-number}
use Rattle.trace_events.specs.Clauses.{first_broken}
use Rattle.trace_events.proofs.UnsentCopies.{unsent_complete}
use Rattle.trace_events.proofs.WaitingQueue.{completed_below, completed_once, completion_complete}
use Rattle.trace_events.specs.TransferClause.{may_take}
use Rattle.state_tables.specs.Addressed.{IsAddressed}
use Rattle.state_tables.specs.ConsumerLinks.{has_link, consumer_at}
use Rattle.state_tables.specs.Copies.{AreReceivers, names_at}
use Rattle.state_tables.specs.declared.copies.Receiver.{Receiver}
use Rattle.due_lists.specs.Standing.{grants_window, has_window}
use Rattle.due_lists.proofs.DrainingLinks.{on-link}
use Rattle.due_lists.proofs.PartsFollowed.{not-ended}
use Rattle.due_lists.proofs.StandingParts.{window-before}
use Rattle.due_lists.specs.UnsentNumbers.{IsCompletion, IsIn, IsKept, IsKeptBut, IsOfBoth, Waits, copy_on, receives, stands, waits}
use Rattle.due_lists.specs.declared.unsent_numbers.UnsentNumbers.{UnsentNumbers}
use Rattle.due_lists.specs.Copies.{IsUnsentOn}
use Rattle.due_lists.proofs.UnsentSteps.{IsComing, coming, was, not-named, unlinked}

-- what is listed is listed under the record that completed it; each unsent copy is, its link stands with its session, and is a
-- candidate where it may be sent a delivery
pub record Have (rules : RuleSet) (all : UnsentNumbers) (past : List Event) : Type 0 where
  pub ranked : (link c n : ℕ) → copy_on all link c ≡ Some n → (d : Incoming) → d.number ≡ n → completion d past ≡ Some c
  pub listed : (l : Link) (d : Incoming) → IsUnsentOn rules l d past → (c : ℕ) → completion d past ≡ Some c → copy_on all l.number c ≡ Some d.number
  pub stands : (l : Link) (d : Incoming) → IsUnsentOn rules l d past → stands all l.session.number l.number ≡ true
  pub waits : (l : Link) (d : Incoming) → IsUnsentOn rules l d past → may_take past l ≡ true → Waits all l.number

same_some : {A : Type 0} (a b : A) → Some a ≡ Some b → a ≡ b
same_some a b is = cc

lower-not : (m n : ℕ) → m < n → (m == n) ≡ false
lower-not m n lt = by (m == n) refl
  where
    by : (b : Bool) → (m == n) ≡ b → b ≡ false
    by false is = refl
    by true is = let same = eqb-true m n is in absurd (omega (arith, lt, same))

all-three : (a b c : Bool) → a ≡ true → b ≡ true → c ≡ true → a && b && c ≡ true
all-three true true true p q r = refl
all-three true true false p q r = absurd cc
all-three true false c p q r = absurd cc
all-three false b c p q r = absurd cc

module _ (rules : RuleSet) (e : Event) (past : List Event) (are : AreJudged rules (e ∷ past)) (lawful : first_broken rules (e ∷ past) ≡ None)
    (ended : List Link) (all : (l : Link) → Contains ended l ↔ IsLiveLink l past × (ends_link l e ≡ true))
    (address : List ℕ) (addressed : IsAddressed e past address) (receivers : List Receiver) (given : AreReceivers rules address e past receivers)
    (old l₁ l₂ l₃ l₄ new : UnsentNumbers)
    (listed₁ : (link c : ℕ) → has_link ended link ≡ false → copy_on l₁ link c ≡ copy_on old link c)
    (only₁ : (link c n : ℕ) → copy_on l₁ link c ≡ Some n → copy_on old link c ≡ Some n)
    (stood₁ : (session n : ℕ) → has_link ended n ≡ false → stands old session n ≡ true → stands l₁ session n ≡ true)
    (waited₁ : (c n : ℕ) → waits l₁ c n ≡ waits old c n)
    (listed₂ : (link c n : ℕ) → names_at link n e ≡ false → copy_on l₁ link c ≡ Some n → copy_on l₂ link c ≡ Some n)
    (only₂ : (link c n : ℕ) → copy_on l₂ link c ≡ Some n → copy_on l₁ link c ≡ Some n)
    (stood₂ : (session n : ℕ) → stands l₂ session n ≡ stands l₁ session n)
    (waited₂ : (c n : ℕ) → is_some_and e.link (λ l. l.number == n) ≡ false → waits l₁ c n ≡ true → waits l₂ c n ≡ true)
    (came : (l : Link) (d : Incoming) → e.incoming ≡ Some d → completes d e ≡ true → receives receivers l.number ≡ true → consumer_at l.number past ≡ Some l → IsUnsentOn rules l d (e ∷ past) → IsIn l₃ l.session.number l.number e.number d.number)
    (only₃ : IsOfBoth e l₂ l₃)
    (kept₃ : IsKeptBut e.number l₂ l₃)
    (own : (link c n : ℕ) → is_some_and e.link (λ l. l.number == link) ≡ true → copy_on l₄ link c ≡ Some n → Waits l₄ link)
    (carrying : (link c n : ℕ) → is_some_and e.outgoing (λ j. j.link.number == link) ≡ true → copy_on l₄ link c ≡ Some n → Waits l₄ link)
    (kept₄ : IsKept l₃ l₄)
    (woken : (s : Session) → e.session ≡ Some s → grants_window e ≡ true → IsLiveOn s past → has_window s past ≡ false → (link c n : ℕ) → stands l₄ s.number link ≡ true → copy_on new link c ≡ Some n → Waits new link)
    (kept₅ : IsKept l₄ new)
    (has : Have rules old past) where
  waits-later : (n : ℕ) → Waits l₄ n → Waits new n
  waits-later n (c, is) = (c, kept₅.waited c n is)

  -- ---- what is listed

  module _ (link c n : ℕ) (d : Incoming) (number : d.number ≡ n) where
    ranked-before : copy_on l₂ link c ≡ Some n → completion d (e ∷ past) ≡ Some c
    ranked-before is =
        let was = has.ranked link c n (only₁ link c n (only₂ link c n is)) d number in
        completion-same e past d (completed_once rules e past are d (completion_complete past d c was)) ∙ was

    ranked-now : IsCompletion e c n → completion d (e ∷ past) ≡ Some c
    ranked-now (here, other, same, is) =
        completion-here e past d (ap (λ k. is_some_and (completed_by e) (λ (x : Incoming). x.number == k)) (number ∙ sym same) ∙ is) ∙ ap Some (sym here)

    ranked-by : copy_on new link c ≡ Some n → completion d (e ∷ past) ≡ Some c
    ranked-by is = elim (only₃ link c n (sym (kept₅.listed link c ∙ kept₄.listed link c) ∙ is)) [
      | inl before ↦ ranked-before before
      | inr now ↦ ranked-now now
    ]

  module _ (l : Link) (d : Incoming) (h : IsUnsentOn rules l d (e ∷ past)) where
    below : (m : ℕ) × (completion d (e ∷ past) ≡ Some m) × (m < length (e ∷ past))
    below = completed_below rules (e ∷ past) are d (unsent_complete rules (e ∷ past) d l h.unsent)

    -- ---- it comes due with the event

    module _ (here : completes d e ≡ true) where
      coming-is : IsComing e receivers past l d
      coming-is = coming rules e past are lawful l d h address addressed receivers given here

      there : IsIn l₃ l.session.number l.number e.number d.number
      there = came l d coming-is.part here coming-is.receives coming-is.at h

      listed-now : (c : ℕ) → completion d (e ∷ past) ≡ Some c → copy_on new l.number c ≡ Some d.number
      listed-now c is =
          let same : c ≡ e.number = same_some c e.number (sym is ∙ completion-here e past d here) in
          ap (copy_on new l.number) same ∙ (kept₅.listed l.number e.number ∙ (kept₄.listed l.number e.number ∙ there.listed))

      stands-now : stands new l.session.number l.number ≡ true
      stands-now = kept₅.stood l.session.number l.number ∙ (kept₄.stood l.session.number l.number ∙ there.stands)

      waits-now : Waits new l.number
      waits-now = waits-later l.number (there.waits.0, kept₄.waited there.waits.0 l.number there.waits.1)

    -- ---- it was unsent before

    module _ (none : completes d e ≡ false) where
      before : IsUnsentOn rules l d past
      before = was rules e past are lawful l d h none

      going : has_link ended l.number ≡ false
      going = not-ended rules e past are ended all l before.live h.live

      listed₄ : (c : ℕ) → completion d past ≡ Some c → copy_on l₄ l.number c ≡ Some d.number
      listed₄ c is =
          let old_below = completed_below rules past are.1 d (completion_complete past d c is) in
          let lt = old_below.2 in
          let same : old_below.0 ≡ c = same_some old_below.0 c (sym old_below.1 ∙ is) in
          let number = judged-number rules e past are in
          kept₄.listed l.number c ∙ (kept₃.listed l.number c (lower-not c e.number (omega (arith, lt, same, number)))
          ∙ listed₂ l.number c d.number (not-named rules e past are lawful l d h none) (listed₁ l.number c going ∙ has.listed l d before c is))

      stands₄ : stands l₄ l.session.number l.number ≡ true
      stands₄ =
          kept₄.stood l.session.number l.number
          ∙ kept₃.stood l.session.number l.number (stood₂ l.session.number l.number ∙ stood₁ l.session.number l.number going (has.stands l d before))

      was_below : (m : ℕ) × (completion d past ≡ Some m) × (m < length past)
      was_below = completed_below rules past are.1 d (unsent_complete rules past d l before.unsent)

      there₄ : copy_on l₄ l.number was_below.0 ≡ Some d.number
      there₄ = listed₄ was_below.0 was_below.1

      waits-on : is_on_link l e ≡ false → may_take past l ≡ true → Waits new l.number
      waits-on off takes =
          let was_waiting = has.waits l d before takes in
          let c = was_waiting.0 in
          waits-later l.number (
            c,
            kept₄.waited c l.number (kept₃.waited c l.number
                (waited₂ c l.number (unlinked rules e past are lawful l d h none off) (waited₁ c l.number ∙ was_waiting.1))),
          )

      module _ (takes : may_take (e ∷ past) l ≡ true) where
        counts-now : nat_lt 0 (link_credit l (e ∷ past)) && nat_lt 0 (session_window l.session (e ∷ past)) ≡ true
        counts-now = and_first (nat_lt 0 (link_credit l (e ∷ past)) && nat_lt 0 (session_window l.session (e ∷ past))) (is_none (in_progress l (e ∷ past))) takes

        idle : is_none (in_progress l (e ∷ past)) ≡ true
        idle = and_last (nat_lt 0 (link_credit l (e ∷ past)) && nat_lt 0 (session_window l.session (e ∷ past))) (is_none (in_progress l (e ∷ past))) takes

        by-window : is_on_link l e ≡ false → is_part_on l e ≡ false → Waits new l.number
        by-window off apart =
            let credit = and_first (nat_lt 0 (link_credit l (e ∷ past))) (nat_lt 0 (session_window l.session (e ∷ past))) counts-now in
            let window = and_last (nat_lt 0 (link_credit l (e ∷ past))) (nat_lt 0 (session_window l.session (e ∷ past))) counts-now in
            let credit_was : nat_lt 0 (link_credit l past) ≡ true =
            sym (ap (λ b. nat_lt 0 (counts.credit l.our_first_count (cons_option (if b then link_event e e.moment else None) (link_events l past)))) off) ∙ credit in
            let idle_was : is_none (in_progress l past) ≡ true =
            sym (ap (λ b. is_none (if b then (if is_some_and (out_transfer e) (λ fields. flag fields.more) then e.outgoing else None) else in_progress l past)) apart) ∙ idle in
            by-before (has_window l.session past) refl window
            (λ had. waits-on off (all-three (nat_lt 0 (link_credit l past)) (nat_lt 0 (session_window l.session past)) (is_none (in_progress l past)) credit_was had idle_was))
          where
            by-before : (b : Bool) → has_window l.session past ≡ b → has_window l.session (e ∷ past) ≡ true → (has_window l.session past ≡ true → Waits new l.number) → Waits new l.number
            by-before true had window waited = waited had
            by-before false shut window waited = elim (window-before rules e past are l.session h.live.0 window) [
              | inl flow ↦ woken l.session flow.0 flow.1 before.live.0 shut l.number was_below.0 d.number stands₄ (kept₅.listed l.number was_below.0 ∙ there₄)
              | inr had ↦ waited had
            ]

        by-part : is_on_link l e ≡ false → (b : Bool) → is_part_on l e ≡ b → Waits new l.number
        by-part off true part = waits-later l.number (carrying l.number was_below.0 d.number part there₄)
        by-part off false apart = by-window off apart

        by-link : (b : Bool) → is_on_link l e ≡ b → Waits new l.number
        by-link true on =
            waits-later l.number (own l.number was_below.0 d.number
            (ap (λ o. is_some_and o (λ (m : Link). m.number == l.number)) (on-link rules e past are l h.live on) ∙ eq-eqb l.number l.number refl) there₄)
        by-link false off = by-part off (is_part_on l e) refl

    listed-by : (c : ℕ) → completion d (e ∷ past) ≡ Some c → (b : Bool) → completes d e ≡ b → copy_on new l.number c ≡ Some d.number
    listed-by c is true here = listed-now here c is
    listed-by c is false none = kept₅.listed l.number c ∙ listed₄ none c (sym (completion-same e past d none) ∙ is)

    stands-by : (b : Bool) → completes d e ≡ b → stands new l.session.number l.number ≡ true
    stands-by true here = stands-now here
    stands-by false none = kept₅.stood l.session.number l.number ∙ stands₄ none

    waits-by : may_take (e ∷ past) l ≡ true → (b : Bool) → completes d e ≡ b → Waits new l.number
    waits-by takes true here = waits-now here
    waits-by takes false none = by-link none takes (is_on_link l e) refl

  pub have-copies : Have rules new (e ∷ past)
  have-copies = record {
    ranked = λ link c n is d number. ranked-by link c n d number is;
    listed = λ l d h c is. listed-by l d h c is (completes d e) refl;
    stands = λ l d h. stands-by l d h (completes d e) refl;
    waits = λ l d h takes. waits-by l d h takes (completes d e) refl;
  }
