-- A delivery that may begin behind one more event: it might before, or the event does what brings its address among those to
-- look at.
use Rattle.std.proofs.Common.{◌≡◌, refl, sym, ap, subst, ◌∙◌, ℕ, ◌-◌, Bool, true, false, not, ◌&&◌, ◌⊎◌, inl, inr, List, ◌∷◌, Option, Some, None, IfSome, option_and_then, nat_lt, if◌then◌else◌, ◌==◌, bytes_eq, eqb-true, ltb-true, lt-ltb, arith}
use Rattle.std.specs.Prelude.{is_none}
use Rattle.std.specs.List.{cons_option}
use Rattle.std.proofs.lemmas.Slice.Eq.{bytes_eq-Decides}
use Rattle.amqp_perf.specs.Meaning.{Meaning, AnOpen, ABegin, AnAttach, AFlow, ATransfer, ADisposition, ADetach, AnEnd, AClose}
use Rattle.capture_form.specs.Rules.{RuleSet}
use Rattle.flow_counts.specs.Credit as counts
use Rattle.flow_counts.specs.Credit.{LinkEvent, TheirFlow, OurFlow, Begun}
use Rattle.trace_events.specs.Words.{is_some_and}
use Rattle.trace_events.specs.Frame.{Spoken, spoken_in}
use Rattle.trace_events.specs.Event.{Event, Link, Incoming, Outgoing, Moment, Opened, In, Out, Lost, Broken, is_on_link}
use Rattle.trace_events.specs.Said.{in_transfer}
use Rattle.trace_events.specs.Link.{IsLiveLink, link_at}
use Rattle.trace_events.specs.Credit.{link_credit, link_event, link_events, in_link_event, out_link_event, begins_incoming, begins_outgoing}
use Rattle.trace_events.specs.Window.{session_window, window_event, in_window_event}
use Rattle.trace_events.specs.Incoming.{address_of, completed_by, completes, is_complete, is_last_part, incoming_at, incoming_begun, incoming_deliveries}
use Rattle.trace_events.specs.Outgoing.{in_progress, is_paired}
use Rattle.trace_events.specs.Queue.{stays}
use Rattle.trace_events.specs.Waiting.{has_waiting, is_waiting, is_of_multicast, always_had_consumer}
use Rattle.trace_events.specs.TransferClause.{may_take}
use Rattle.trace_events.proofs.Along.{and_first, and_last, some_passes}
use Rattle.trace_events.proofs.IncomingSteps.{address_of-same}
use Rattle.trace_events.proofs.OutgoingSteps.{is_part_on}
use Rattle.trace_events.proofs.Judged.{AreJudged}
use Rattle.trace_events.proofs.LinkNumbers.{own_link-number}
use Rattle.trace_events.proofs.QueueSteps.{is_waiting-stays}
use Rattle.trace_events.specs.Clauses.{first_broken}
use Rattle.trace_events.proofs.ClausesMet.{lawful-past}
use Rattle.trace_events.proofs.Incomings.{judged-sound}
use Rattle.trace_events.proofs.IncomingProgress.{judged-kept}
use Rattle.trace_events.proofs.OneConsumer.{found-at}
use Rattle.trace_events.proofs.OutgoingProgress.{IsPartOf, judged-outgoing_part, judged-carrying}
use Rattle.trace_events.proofs.Parts.{IsKept, holds_some}
use Rattle.due_lists.specs.Standing.{goes_on, has_window, is_their_flow}
use Rattle.due_lists.proofs.DrainingLinks.{event-link, link-unused, on-link}
use Rattle.due_lists.proofs.LiveOnes.{link-before, link-found}
use Rattle.due_lists.proofs.StandingParts.{window-before}
use Rattle.due_lists.proofs.CopiesDue.{found-of}
use Rattle.due_lists.proofs.Members.{some-passes}
use Rattle.due_lists.specs.Waking.{MayBegin, IsCredited, IsFreed, IsGranted}

same_some : {A : Type 0} (a b : A) → Some a ≡ Some b → a ≡ b
same_some a b is = cc

all-three : (a b c : Bool) → a ≡ true → b ≡ true → c ≡ true → a && b && c ≡ true
all-three true true true p q r = refl
all-three true true false p q r = absurd cc
all-three true false c p q r = absurd cc
all-three false b c p q r = absurd cc

known : {A : Type 0} (P : A → Type 0) (o : Option A) (x : A) → o ≡ Some x → IfSome o P → P x
known P o x is h = subst (λ (p : Option _). IfSome p P) is h

-- ---- credit

-- a flow of the client
abbrev gives : Option LinkEvent → Bool
gives (Some (TheirFlow count credit drain)) = true
gives (Some (OurFlow count credit drain)) = false
gives (Some Begun) = false
gives None = false

answered : (b : Bool) (granted begun : ℕ) → nat_lt 0 ((if b then 0 else granted) - (if b then 0 else begun)) ≡ true → nat_lt 0 (granted - begun) ≡ true
answered true granted begun has = absurd cc
answered false granted begun has = has

-- nothing else gives a link credit
gains : (first : ℕ) (o : Option LinkEvent) (own : List LinkEvent) → nat_lt 0 (counts.credit first (cons_option o own)) ≡ true
    → (gives o ≡ true) ⊎ (nat_lt 0 (counts.credit first own) ≡ true)
gains first None own has = inr has
gains first (Some (TheirFlow count credit drain)) own has = inl refl
gains first (Some (OurFlow count credit drain)) own has =
    inr (answered (counts.is_drain_answer credit drain) (counts.granted_credit first own) (counts.begun_since_grant own) has)
gains first (Some Begun) own has =
    let lt = ltb-true 0 (counts.credit first (Begun ∷ own)) has in
    inr (lt-ltb 0 (counts.credit first own) (omega (arith, lt)))

began : (b : Bool) → gives (if b then Some Begun else None) ≡ true → ⊥
began true is = cc
began false is = cc

said-gives : (e : Event) (meaning : Meaning) → gives (in_link_event e meaning) ≡ true → is_their_flow (in_window_event meaning) ≡ true
said-gives e (AFlow flow) is = refl
said-gives e (ATransfer fields) is = absurd (began (begins_incoming e) is)
said-gives e (AnOpen o) is = absurd cc
said-gives e (ABegin b) is = absurd cc
said-gives e (AnAttach a) is = absurd cc
said-gives e (ADisposition d) is = absurd cc
said-gives e (ADetach d) is = absurd cc
said-gives e (AnEnd x) is = absurd cc
said-gives e (AClose x) is = absurd cc

written-gives : (e : Event) (meaning : Meaning) → gives (out_link_event e meaning) ≡ true → ⊥
written-gives e (AFlow flow) is = cc
written-gives e (ATransfer fields) is = began (begins_outgoing e) is
written-gives e (AnOpen o) is = cc
written-gives e (ABegin b) is = cc
written-gives e (AnAttach a) is = cc
written-gives e (ADisposition d) is = cc
written-gives e (ADetach d) is = cc
written-gives e (AnEnd x) is = cc
written-gives e (AClose x) is = cc

moment-gives : (e : Event) (m : Moment) → gives (link_event e m) ≡ true → is_their_flow (window_event m) ≡ true
moment-gives e (In frame) is = by (spoken_in frame.body) is
  where
    by : (o : Option Spoken) → gives (option_and_then (λ (spoken : Spoken). in_link_event e spoken.meaning) o) ≡ true
        → is_their_flow (option_and_then (λ (spoken : Spoken). in_window_event spoken.meaning) o) ≡ true
    by None is = absurd cc
    by (Some spoken) is = said-gives e spoken.meaning is
moment-gives e (Out frame) is = absurd (by (spoken_in frame.body) is)
  where
    by : (o : Option Spoken) → gives (option_and_then (λ (spoken : Spoken). out_link_event e spoken.meaning) o) ≡ true → ⊥
    by None is = cc
    by (Some spoken) is = written-gives e spoken.meaning is
moment-gives e Opened is = absurd cc
moment-gives e Lost is = absurd cc
moment-gives e Broken is = absurd cc

-- ---- what waits is complete

pub complete-of : (m c p a : Bool) → (not m && c && not p) && a ≡ true → c ≡ true
complete-of false true p a is = refl
complete-of false false p a is = absurd cc
complete-of true c p a is = absurd cc

-- ---- one more event

module _ (rules : RuleSet) (e : Event) (past : List Event) (are : AreJudged rules (e ∷ past)) (lawful : first_broken rules (e ∷ past) ≡ None)
    (d : Incoming) (l : Link) (h : MayBegin rules (e ∷ past) d l) where
  -- ---- the delivery

  completed_part : (b : Bool) (o : Option Incoming) (x : Incoming) → (if b then o else None) ≡ Some x → o ≡ Some x
  completed_part true o x is = is
  completed_part false o x is = absurd cc

  pub completed-now : completes d e ≡ true → completed_by e ≡ Some d
  completed-now here =
      let x = some_passes (λ (other : Incoming). other.number == d.number) (completed_by e) here in
      let part = completed_part (is_some_and (in_transfer e) is_last_part) e.incoming x.0 x.1 in
      let kept = holds_some (IsKept (e ∷ past)) e.incoming x.0 part (judged-kept rules (e ∷ past) are).each.0 in
      let one : x.0 ≡ d = same_some x.0 d (sym kept.at ∙ (ap (λ n. incoming_at n (e ∷ past)) (eqb-true x.0.number d.number x.2) ∙ h.found)) in
      x.1 ∙ ap Some one

  waited : completes d e ≡ false → is_waiting rules d past ≡ true
  waited none = and_first (is_waiting rules d past) (stays e past d) (sym (is_waiting-stays rules d e past none) ∙ h.waits)

  found : is_waiting rules d past ≡ true → incoming_at d.number past ≡ Some d
  found waits = elim (found-at rules e past are d.number d (incoming_begun e) refl h.found) [
    | inl before ↦ before
    | inr new ↦
        let complete : is_complete d past ≡ true = complete-of (is_of_multicast rules d past) (is_complete d past) (is_paired d past) (always_had_consumer d past) waits in
        let fresh : is_complete d past ≡ false = (judged-sound rules past are.1).fresh d (omega (arith, new)) in
        absurd cc
  ]

  -- ---- the link

  counts-now : nat_lt 0 (link_credit l (e ∷ past)) && nat_lt 0 (session_window l.session (e ∷ past)) ≡ true
  counts-now = and_first (nat_lt 0 (link_credit l (e ∷ past)) && nat_lt 0 (session_window l.session (e ∷ past))) (is_none (in_progress l (e ∷ past))) h.takes

  credit-before : IsCredited e l ⊎ (nat_lt 0 (link_credit l past) ≡ true)
  credit-before = by (is_on_link l e) refl (and_first (nat_lt 0 (link_credit l (e ∷ past))) (nat_lt 0 (session_window l.session (e ∷ past))) counts-now)
    where
      by : (b : Bool) → is_on_link l e ≡ b → nat_lt 0 (counts.credit l.our_first_count (cons_option (if b then link_event e e.moment else None) (link_events l past))) ≡ true
          → IsCredited e l ⊎ (nat_lt 0 (link_credit l past) ≡ true)
      by false off has = inr has
      by true on has = elim (gains l.our_first_count (link_event e e.moment) (link_events l past) has) [
        | inl flow ↦ inl (record { link = on-link rules e past are l h.live on; flow = moment-gives e e.moment flow })
        | inr had ↦ inr had
      ]

  -- one with credit lived before
  lived : nat_lt 0 (link_credit l past) ≡ true → IsLiveLink l past
  lived had = elim (link-before rules e past are l h.live) [
    | inl own ↦
        let none = link-unused rules past l are.1 (omega (arith, own_link-number rules e past l are own)) in
        let never : false ≡ true = ap (λ own. nat_lt 0 (counts.credit l.our_first_count own)) (sym none) ∙ had in
        absurd cc
    | inr live ↦ live
  ]

  module _ (was : IsLiveLink l past) where
    part-link : (j : Outgoing) → e.outgoing ≡ Some j → (j.link.number == l.number) ≡ true → j.link ≡ l
    part-link j is same = by (known (IsPartOf e past) e.outgoing j is (judged-outgoing_part rules e past are))
      where
        by : IsPartOf e past j → j.link ≡ l
        by (inl (m, on, goes)) =
            let c = judged-carrying rules past are.1 (lawful-past rules e past lawful) m j goes in
            same_some j.link l (sym c.1.linked.at ∙ (ap (λ n. link_at n past) (eqb-true j.link.number l.number same) ∙ link-found rules past are.1 l was))
        by (inr (new, note, on)) = event-link rules e past are l j.link h.live on same

    idle-before : IsFreed e l ⊎ (is_none (in_progress l past) ≡ true)
    idle-before =
        by (is_part_on l e) refl (goes_on e) refl
        (and_last (nat_lt 0 (link_credit l (e ∷ past)) && nat_lt 0 (session_window l.session (e ∷ past))) (is_none (in_progress l (e ∷ past))) h.takes)
      where
        part : is_part_on l e ≡ true → (j : Outgoing) × (e.outgoing ≡ Some j) × ((j.link.number == l.number) ≡ true)
        part on = some_passes (λ (j : Outgoing). j.link.number == l.number) e.outgoing on

        by : (b : Bool) → is_part_on l e ≡ b → (m : Bool) → goes_on e ≡ m → is_none (if b then (if m then e.outgoing else None) else in_progress l past) ≡ true
            → IsFreed e l ⊎ (is_none (in_progress l past) ≡ true)
        by false apart m more idle = inr idle
        by true on true more idle = let never : false ≡ true = ap is_none (sym (part on).1) ∙ idle in absurd cc
        by true on false last idle = let j = part on in inl (record { delivery = j.0; is = j.1; link = part-link j.0 j.1 j.2; last = last })

    shut-by : (b : Bool) → has_window l.session past ≡ b → IsGranted e past l ⊎ (has_window l.session past ≡ true)
    shut-by true had = inr had
    shut-by false shut =
        elim (window-before rules e past are l.session h.live.0 (and_last (nat_lt 0 (link_credit l (e ∷ past))) (nat_lt 0 (session_window l.session (e ∷ past))) counts-now)) [
          | inl flow ↦ inl (record { session = flow.0; live = was; flow = flow.1; shut = shut })
          | inr had ↦ inr had
        ]

  -- what wakes the address
  abbrev pub IsWoken : Type 0
  IsWoken = IsCredited e l ⊎ (IsFreed e l ⊎ IsGranted e past l)

  -- the link might be sent one before, or the address is woken by what the event does to the link
  might-by-window : (was : IsLiveLink l past) → nat_lt 0 (link_credit l past) ≡ true → is_none (in_progress l past) ≡ true → IsWoken ⊎ (IsLiveLink l past × (may_take past l ≡ true))
  might-by-window was credit idle = elim (shut-by was (has_window l.session past) refl) [
    | inl granted ↦ inl (inr (inr granted))
    | inr window ↦ inr (was, all-three (nat_lt 0 (link_credit l past)) (nat_lt 0 (session_window l.session past)) (is_none (in_progress l past)) credit window idle)
  ]

  might-by-part : (was : IsLiveLink l past) → nat_lt 0 (link_credit l past) ≡ true → IsWoken ⊎ (IsLiveLink l past × (may_take past l ≡ true))
  might-by-part was credit = elim (idle-before was) [
    | inl freed ↦ inl (inr (inl freed))
    | inr idle ↦ might-by-window was credit idle
  ]

  link-might : IsWoken ⊎ (IsLiveLink l past × (may_take past l ≡ true))
  link-might = elim credit-before [
    | inl credited ↦ inl (inl credited)
    | inr credit ↦ might-by-part (lived credit) credit
  ]

  -- it might begin before, or its address is woken
  pub might-before : completes d e ≡ false → IsWoken ⊎ MayBegin rules past d l
  might-before none = elim link-might [
    | inl woken ↦ inl woken
    | inr might ↦ inr (record {
      found = found (waited none);
      waits = waited none;
      live = might.0;
      consumer = h.consumer;
      address = h.address ∙ address_of-same e past d none;
      takes = might.1;
    })
  ]

  -- where one waits at its address already, that one might begin before, or the address is woken
  pub other-before : has_waiting rules (address_of d (e ∷ past)) past ≡ true
      → IsWoken ⊎ ((other : Incoming) × (MayBegin rules past other l × (address_of other past ≡ address_of d (e ∷ past))))
  other-before waits = elim link-might [
    | inl woken ↦ inl woken
    | inr might ↦
        let address = address_of d (e ∷ past) in
        let there = some-passes (λ (x : Incoming). bytes_eq (address_of x past) address && is_waiting rules x past) (incoming_deliveries past) waits in
        let same : address_of there.0 past ≡ address =
        (bytes_eq-Decides (address_of there.0 past) address).0 (and_first (bytes_eq (address_of there.0 past) address) (is_waiting rules there.0 past) there.1.1) in
        inr (
          there.0,
          (
            record {
              found = found-of rules past are.1 there.0 there.1.0;
              waits = and_last (bytes_eq (address_of there.0 past) address) (is_waiting rules there.0 past) there.1.1;
              live = might.0;
              consumer = h.consumer;
              address = h.address ∙ sym same;
              takes = might.1;
            },
            same,
          ),
        )
  ]
