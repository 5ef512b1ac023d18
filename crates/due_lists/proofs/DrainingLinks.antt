-- The links that drain behind one more event, and what waits for them.
use Rattle.std.proofs.Common.{◌≡◌, refl, sym, ap, subst, ◌∙◌, ℕ, ◌<◌, ◌≤◌, ◌-◌, Bool, true, false, not, ◌&&◌, ◌||◌, ◌⊎◌, inl, inr, List, [], ◌∷◌, length, Option, Some, None, is_some, option_map, option_and_then, nat_lt, bytes_eq, if◌then◌else◌, ◌==◌, eqb-true, ltb-true, lt-ltb, arith}
use Rattle.std.specs.Prelude.{Contains}
use Rattle.std.specs.List.{cons_option}
use Rattle.std.proofs.lemmas.Slice.Eq.{bytes_eq-Decides}
use Rattle.amqp_perf.specs.Meaning.{Meaning, AnOpen, ABegin, AnAttach, AFlow, ATransfer, ADisposition, ADetach, AnEnd, AClose}
use Rattle.capture_form.specs.Rules.{RuleSet}
use Rattle.flow_counts.specs.Credit as counts
use Rattle.flow_counts.specs.Credit.{LinkEvent, TheirFlow, OurFlow, Begun}
use Rattle.trace_events.specs.Words.{is_some_and}
use Rattle.trace_events.specs.Frame.{Frame, Spoken, spoken_in}
use Rattle.trace_events.specs.Event.{Event, Link, Incoming, Outgoing, Moment, Opened, In, Out, Lost, Broken, in_frame, is_on_link}
use Rattle.trace_events.specs.Said.{out_transfer}
use Rattle.trace_events.specs.Address.{has_consumer, is_consumer_of}
use Rattle.trace_events.specs.Link.{IsLiveLink, is_consumer, is_live, links, link_at}
use Rattle.trace_events.specs.Credit.{link_event, link_events, in_link_event, out_link_event, begins_incoming, begins_outgoing, link_credit}
use Rattle.trace_events.specs.Incoming.{address_of, completes, is_complete, incoming_at, incoming_begun, incoming_deliveries}
use Rattle.trace_events.specs.Outgoing.{outgoing_begun, names, is_paired, is_named_on}
use Rattle.trace_events.specs.Queue.{pairs}
use Rattle.trace_events.specs.Due.{is_due, is_unsent, has_unsent, makes_due, due_count}
use Rattle.trace_events.specs.Waiting.{is_of_multicast, is_waiting, always_had_consumer, has_waiting}
use Rattle.trace_events.specs.Clauses.{first_broken}
use Rattle.trace_events.specs.FlowClause.{nothing_waits}
use Rattle.trace_events.proofs.Along.{and_first, and_last, some_passes}
use Rattle.trace_events.proofs.DueSteps.{is_unsent-stays}
use Rattle.trace_events.proofs.EveryStep.{is_paired-step}
use Rattle.trace_events.proofs.Fates.{complete-stays}
use Rattle.trace_events.proofs.Judged.{AreJudged}
use Rattle.trace_events.proofs.LinkLives.{judged-stands}
use Rattle.trace_events.proofs.LinkNumbers.{own_link-number}
use Rattle.trace_events.proofs.Links as known
use Rattle.trace_events.proofs.OutgoingSteps.{names_on}
use Rattle.trace_events.proofs.BegunDeliveries.{begun-own, begun-written, begun-carries}
use Rattle.trace_events.proofs.IncomingProgress.{judged-kept}
use Rattle.trace_events.proofs.Parts.{IsKept, each_delivery}
use Rattle.trace_events.proofs.WaitingQueue.{address_stays, all_contained, completed_once, multicast_stays}
use Rattle.due_lists.specs.Draining.{IsDraining, is_drain, asks_drain, writes_part}
use Rattle.due_lists.proofs.LiveOnes.{link-before, link-found, link-lives}
use Rattle.due_lists.proofs.Members.{some-passes, none-passes, found-contained, contains-more}

-- ---- a flow that asks to drain

said-asks : (e : Event) (meaning : Meaning) (k : Option ℕ) (c : ℕ) → in_link_event e meaning ≡ Some (TheirFlow k (Some c) true) → is_drain meaning ≡ true
said-asks e (AFlow flow) k c is = cc
said-asks e (ATransfer fields) k c is = absurd (by (begins_incoming e) is)
  where
    by : (b : Bool) → (if b then Some Begun else None) ≡ Some (TheirFlow k (Some c) true) → ⊥
    by true is = cc
    by false is = cc
said-asks e (AnOpen o) k c is = absurd cc
said-asks e (ABegin b) k c is = absurd cc
said-asks e (AnAttach a) k c is = absurd cc
said-asks e (ADisposition d) k c is = absurd cc
said-asks e (ADetach d) k c is = absurd cc
said-asks e (AnEnd x) k c is = absurd cc
said-asks e (AClose x) k c is = absurd cc

written-asks : (e : Event) (meaning : Meaning) (k : Option ℕ) (c : ℕ) → out_link_event e meaning ≡ Some (TheirFlow k (Some c) true) → ⊥
written-asks e (AFlow flow) k c is = cc
written-asks e (ATransfer fields) k c is = by (begins_outgoing e) is
  where
    by : (b : Bool) → (if b then Some Begun else None) ≡ Some (TheirFlow k (Some c) true) → ⊥
    by true is = cc
    by false is = cc
written-asks e (AnOpen o) k c is = cc
written-asks e (ABegin b) k c is = cc
written-asks e (AnAttach a) k c is = cc
written-asks e (ADisposition d) k c is = cc
written-asks e (ADetach d) k c is = cc
written-asks e (AnEnd x) k c is = cc
written-asks e (AClose x) k c is = cc

moment-asks : (e : Event) (m : Moment) (k : Option ℕ) (c : ℕ) → link_event e m ≡ Some (TheirFlow k (Some c) true)
    → is_some_and (option_map (λ (spoken : Spoken). spoken.meaning) (option_and_then (λ (frame : Frame). spoken_in frame.body) (in_frame m))) is_drain ≡ true
moment-asks e (In frame) k c is = by (spoken_in frame.body) is
  where
    by : (o : Option Spoken) → option_and_then (λ (spoken : Spoken). in_link_event e spoken.meaning) o ≡ Some (TheirFlow k (Some c) true)
        → is_some_and (option_map (λ (spoken : Spoken). spoken.meaning) o) is_drain ≡ true
    by None is = absurd cc
    by (Some spoken) is = said-asks e spoken.meaning k c is
moment-asks e (Out frame) k c is = absurd (by (spoken_in frame.body) is)
  where
    by : (o : Option Spoken) → option_and_then (λ (spoken : Spoken). out_link_event e spoken.meaning) o ≡ Some (TheirFlow k (Some c) true) → ⊥
    by None is = cc
    by (Some spoken) is = written-asks e spoken.meaning k c is
moment-asks e Opened k c is = absurd cc
moment-asks e Lost k c is = absurd cc
moment-asks e Broken k c is = absurd cc

-- ---- the link of an event

not-on : (l : Link) (o : Option Link) → ((m : Link) → o ≡ Some m → m.number < l.number) → is_some_and o (λ m. m.number == l.number) ≡ false
not-on l None below = refl
not-on l (Some m) below = by (m.number == l.number) refl
  where
    by : (b : Bool) → (m.number == l.number) ≡ b → b ≡ false
    by true same = absurd (omega (arith, eqb-true m.number l.number same, below m refl))
    by false other = refl

pub event-link-known : (rules : RuleSet) (e : Event) (past : List Event) → AreJudged rules (e ∷ past) → (m : Link) → e.link ≡ Some m → known.IsKnown (e ∷ past) m
event-link-known rules e past ((r, is), are) m on =
    subst (λ (x : Event). known.IsKnown (x ∷ past) m) (sym is) (known.event_known rules past r m (judged-stands rules past are) (subst (λ (x : Event). x.link ≡ Some m) is on))

-- nothing stands on a link before its record
pub link-unused : (rules : RuleSet) (past : List Event) (l : Link) → AreJudged rules past → length past ≤ l.number → link_events l past ≡ []
link-unused rules [] l are after = refl
link-unused rules (e ∷ past) l are after =
    let off : is_on_link l e ≡ false =
    ap (λ b. b && (e.connection == l.session.connection)) (not-on l e.link (λ m is. omega (arith, after, (event-link-known rules e past are m is).before))) in
    ap (λ b. cons_option (if b then link_event e e.moment else None) (link_events l past)) off ∙ link-unused rules past l are.1 (omega (arith, after))

same_some : {A : Type 0} (a b : A) → Some a ≡ Some b → a ≡ b
same_some a b is = cc

-- the link of an event that has a live one's number is that one
pub event-link : (rules : RuleSet) (e : Event) (past : List Event) → AreJudged rules (e ∷ past) → (l m : Link) → IsLiveLink l (e ∷ past) → e.link ≡ Some m → (m.number == l.number) ≡ true → m ≡ l
event-link rules e past are l m live on same =
    same_some m l (sym (event-link-known rules e past are m on).at ∙ (ap (λ n. link_at n (e ∷ past)) (eqb-true m.number l.number same) ∙ link-found rules (e ∷ past) are l live))

pub on-link : (rules : RuleSet) (e : Event) (past : List Event) → AreJudged rules (e ∷ past) → (l : Link) → IsLiveLink l (e ∷ past) → is_on_link l e ≡ true → e.link ≡ Some l
on-link rules e past are l live on =
    let m = some_passes (λ (m : Link). m.number == l.number) e.link (and_first (is_some_and e.link (λ m. m.number == l.number)) (e.connection == l.session.connection) on) in
    m.1 ∙ ap Some (event-link rules e past are l m.0 live m.1 m.2)

-- ---- drain and credit, with one more event

-- it drained before, and has credit only if it had some
abbrev DrainedBefore : ℕ → Option LinkEvent → List LinkEvent → Type 0
DrainedBefore first o own = (counts.is_draining own ≡ true) × (nat_lt 0 (counts.credit first (cons_option o own)) ≡ true → nat_lt 0 (counts.credit first own) ≡ true)

answered-credit : (b : Bool) (granted begun : ℕ) → nat_lt 0 ((if b then 0 else granted) - (if b then 0 else begun)) ≡ true → nat_lt 0 (granted - begun) ≡ true
answered-credit true granted begun has = absurd cc
answered-credit false granted begun has = has

drain-kinds : (first : ℕ) (o : Option LinkEvent) (own : List LinkEvent) → counts.is_draining (cons_option o own) ≡ true
    → ((k : Option ℕ) × ((c : ℕ) × (o ≡ Some (TheirFlow k (Some c) true)))) ⊎ DrainedBefore first o own
drain-kinds first None own is = inr (is, λ has. has)
drain-kinds first (Some Begun) own is = inr (is, λ has. lt-ltb 0 (counts.credit first own) (let lt = ltb-true 0 (counts.credit first (Begun ∷ own)) has in omega (arith, lt)))
drain-kinds first (Some (OurFlow count credit drain)) own is =
    inr (is, answered-credit (counts.is_drain_answer credit drain) (counts.granted_credit first own) (counts.begun_since_grant own))
drain-kinds first (Some (TheirFlow k None drain)) own is = inr (is, λ has. has)
drain-kinds first (Some (TheirFlow k (Some c) drain)) own is = inl (k, (c, ap (λ b. Some (TheirFlow k (Some c) b)) is))

module _ (rules : RuleSet) (e : Event) (past : List Event) (are : AreJudged rules (e ∷ past)) (l : Link) (h : IsDraining l (e ∷ past)) where
  drained : counts.is_draining (link_events l past) ≡ true → IsDraining l past
  drained was = elim (link-before rules e past are l h.live) [
    | inl own ↦
        let never : false ≡ true = ap counts.is_draining (sym (link-unused rules past l are.1 (omega (arith, own_link-number rules e past l are own)))) ∙ was in
        absurd cc
    | inr live ↦ record { live = live; consumer = h.consumer; draining = was }
  ]

  -- one that drains did so before, or a flow of its client asks for it
  pub draining-before : ((e.link ≡ Some l) × (asks_drain e ≡ true)) ⊎ (IsDraining l past × (nat_lt 0 (link_credit l (e ∷ past)) ≡ true → nat_lt 0 (link_credit l past) ≡ true))
  draining-before = by (is_on_link l e) refl h.draining
    where
      by : (b : Bool) → is_on_link l e ≡ b → counts.is_draining (cons_option (if b then link_event e e.moment else None) (link_events l past)) ≡ true
          → ((e.link ≡ Some l) × (asks_drain e ≡ true)) ⊎ (IsDraining l past × (nat_lt 0 (link_credit l (e ∷ past)) ≡ true → nat_lt 0 (link_credit l past) ≡ true))
      by false off is =
          inr (drained is, λ has. ap (λ b. nat_lt 0 (counts.credit l.our_first_count (cons_option (if b then link_event e e.moment else None) (link_events l past)))) (sym off) ∙ has)
      by true on is = elim (drain-kinds l.our_first_count (link_event e e.moment) (link_events l past) is) [
        | inl flow ↦ inl (on-link rules e past are l h.live on, moment-asks e e.moment flow.0 flow.1.0 flow.1.1)
        | inr was ↦ inr (drained was.0, λ has. was.1 (ap (λ b. nat_lt 0 (counts.credit l.our_first_count (cons_option (if b then link_event e e.moment else None) (link_events l past)))) (sym on) ∙ has))
      ]

-- ---- what waits for it

-- a part is written on a link of its address
pub record IsWrittenFor (e : Event) (l : Link) : Type 0 where
  pub link : Link
  pub on : e.link ≡ Some link
  pub address : link.address ≡ l.address
  pub written : writes_part e ≡ true

pub due-complete : (rules : RuleSet) (d : Incoming) (l : Link) (past : List Event) → is_due rules d l past ≡ true → is_complete d past ≡ true
due-complete rules d l [] is = absurd cc
due-complete rules d l (e ∷ past) is = by (completes d e) is (due-complete rules d l past)
  where
    by : (b : Bool) → (if b then makes_due rules l e past (due_count rules l past) else is_due rules d l past) ≡ true → (is_due rules d l past ≡ true → is_complete d past ≡ true) → b || is_complete d past ≡ true
    by true is rest = refl
    by false is rest = rest is

stops : (b c : Bool) → b ≡ true → b && not c ≡ false → c ≡ true
stops true true is none = refl
stops true false is none = absurd cc
stops false c is none = absurd cc

-- what waited was complete, not paired, and not of multicast, and its address had a consumer all along
waits-bits : (m c p a : Bool) → (not m && c && not p) && a ≡ true → (m ≡ false) × (c ≡ true) × (p ≡ false) × (a ≡ true)
waits-bits false true false true is = (refl, refl, refl, refl)
waits-bits false true false false is = absurd cc
waits-bits false true true a is = absurd cc
waits-bits false false p a is = absurd cc
waits-bits true c p a is = absurd cc

-- where it waits no more, and its address has a consumer still, it is paired
paired-bits : (m c p a : Bool) → m ≡ false → c ≡ true → a ≡ true → (not m && c && not p) && a ≡ false → p ≡ true
paired-bits false true true true is complete always none = refl
paired-bits false true false true is complete always none = absurd cc
paired-bits false true p false is complete always none = absurd cc
paired-bits false false p a is complete always none = absurd cc
paired-bits true c p a is complete always none = absurd cc

or-second : (b c : Bool) → c ≡ false → b || c ≡ true → b ≡ true
or-second true c none is = refl
or-second false c none is = sym none ∙ is

or-right : (b c : Bool) → c ≡ true → b || c ≡ true
or-right true c is = refl
or-right false c is = is

module _ (rules : RuleSet) (e : Event) (past : List Event) (are : AreJudged rules (e ∷ past)) (lawful : first_broken rules (e ∷ past) ≡ None) where
  kept : (d : Incoming) → Contains (incoming_deliveries past) d → IsKept past d
  kept d there = all_contained (IsKept past) (incoming_deliveries past) d (each_delivery (IsKept past) past (judged-kept rules past are.1).each) there

  -- a delivery is paired by a part that is written on a link of its address
  pub pairs-written : (l : Link) (d : Incoming) → Contains (incoming_deliveries past) d → pairs d e ≡ true → address_of d past ≡ l.address → IsWrittenFor e l
  pairs-written l d there is address =
      let j = some_passes (λ (j : Outgoing). names d.number j.note) (outgoing_begun e) is in
      let own = begun-own rules e past are lawful j.0 j.1 in
      let c = begun-carries rules e past are lawful j.0 j.1 in
      let named : (c.delivery.number == d.number) ≡ true = sym (ap (names d.number) (own.0 ∙ c.named)) ∙ j.2 in
      let one : c.delivery ≡ d = same_some c.delivery d (sym c.kept.at ∙ (ap (λ n. incoming_at n past) (eqb-true c.delivery.number d.number named) ∙ (kept d there).at)) in
      record { link = j.0.link; on = own.1; address = c.address ∙ (ap (λ (x : Incoming). address_of x past) one ∙ address); written = begun-written rules e past are lawful j.0 j.1 }

  module _ (l : Link) (live : IsLiveLink l (e ∷ past)) where
    -- a delivery that waited at an address with a consumer waits on, or is paired
    pub waits-on : (d : Incoming) → Contains (incoming_deliveries past) d → has_consumer (address_of d past) (e ∷ past) ≡ true → is_waiting rules d past ≡ true → is_waiting rules d (e ∷ past) ≡ false → pairs d e ≡ true
    waits-on d there has was none =
        let w = waits-bits (is_of_multicast rules d past) (is_complete d past) (is_paired d past) (always_had_consumer d past) was in
        let always : always_had_consumer d (e ∷ past) ≡ true =
        ap (λ a. has_consumer a (e ∷ past) && (completes d e || always_had_consumer d past)) (address_stays rules e past are d w.1)
        ∙ (ap (λ b. b && (completes d e || always_had_consumer d past)) has ∙ or-right (completes d e) (always_had_consumer d past) w.3) in
        let paired : is_paired d (e ∷ past) ≡ true =
        paired-bits (is_of_multicast rules d (e ∷ past)) (is_complete d (e ∷ past)) (is_paired d (e ∷ past)) (always_had_consumer d (e ∷ past))
        (multicast_stays rules e past are d w.1 ∙ w.0) (complete-stays d e past w.1) always none in
        or-second (pairs d e) (is_paired d past) w.2 (sym (is_paired-step e past d) ∙ paired)

    served : is_consumer l ≡ true → has_consumer l.address (e ∷ past) ≡ true
    served consumer = by (has_consumer l.address (e ∷ past)) refl
      where
        passes : is_consumer_of l.address (e ∷ past) l ≡ true
        passes =
            ap (λ b. b && bytes_eq l.address l.address && is_live (e ∷ past) l) consumer
            ∙ (ap (λ b. b && is_live (e ∷ past) l) ((bytes_eq-Decides l.address l.address).1 refl) ∙ link-lives (e ∷ past) l live)

        by : (b : Bool) → has_consumer l.address (e ∷ past) ≡ b → b ≡ true
        by true is = refl
        by false is =
            sym (none-passes (is_consumer_of l.address (e ∷ past)) (links (e ∷ past)) is l (found-contained (λ (k : Link). k.number == l.number) (links (e ∷ past)) l (link-found rules (e ∷ past) are l live)))
            ∙ passes

    waited : is_consumer l ≡ true → has_waiting rules l.address past ≡ true → has_waiting rules l.address (e ∷ past) ≡ false → IsWrittenFor e l
    waited consumer was none =
        let test = λ (d : Incoming). bytes_eq (address_of d past) l.address && is_waiting rules d past in
        let d = some-passes test (incoming_deliveries past) was in
        let at : address_of d.0 past ≡ l.address = (bytes_eq-Decides (address_of d.0 past) l.address).0 (and_first (bytes_eq (address_of d.0 past) l.address) (is_waiting rules d.0 past) d.1.1) in
        let waits : is_waiting rules d.0 past ≡ true = and_last (bytes_eq (address_of d.0 past) l.address) (is_waiting rules d.0 past) d.1.1 in
        let w = waits-bits (is_of_multicast rules d.0 past) (is_complete d.0 past) (is_paired d.0 past) (always_had_consumer d.0 past) waits in
        let still : address_of d.0 (e ∷ past) ≡ l.address = address_stays rules e past are d.0 w.1 ∙ at in
        let now : bytes_eq (address_of d.0 (e ∷ past)) l.address && is_waiting rules d.0 (e ∷ past) ≡ false =
        none-passes (λ (x : Incoming). bytes_eq (address_of x (e ∷ past)) l.address && is_waiting rules x (e ∷ past)) (incoming_deliveries (e ∷ past)) none d.0
        (contains-more (incoming_begun e) (incoming_deliveries past) d.0 d.1.0) in
        let stopped : is_waiting rules d.0 (e ∷ past) ≡ false =
        sym (ap (λ b. b && is_waiting rules d.0 (e ∷ past)) ((bytes_eq-Decides (address_of d.0 (e ∷ past)) l.address).1 still)) ∙ now in
        pairs-written l d.0 d.1.0 (waits-on d.0 d.1.0 (ap (λ a. has_consumer a (e ∷ past)) at ∙ served consumer) waits stopped) at

    unsent : has_unsent rules l past ≡ true → has_unsent rules l (e ∷ past) ≡ false → IsWrittenFor e l
    unsent was none =
        let d = some-passes (λ (d : Incoming). is_unsent rules d l past) (incoming_deliveries past) was in
        let due = and_first (is_due rules d.0 l past) (not (is_named_on d.0 l past)) d.1.1 in
        let step = is_unsent-stays rules l e past d.0 (completed_once rules e past are d.0 (due-complete rules d.0 l past due)) in
        let now : is_unsent rules d.0 l (e ∷ past) ≡ false =
        none-passes (λ (x : Incoming). is_unsent rules x l (e ∷ past)) (incoming_deliveries (e ∷ past)) none d.0 (contains-more (incoming_begun e) (incoming_deliveries past) d.0 d.1.0) in
        let named : names_on d.0 l e ≡ true = stops (is_unsent rules d.0 l past) (names_on d.0 l e) d.1.1 (sym step ∙ now) in
        let first = and_first (is_some (out_transfer e) && names d.0.number e.note) (is_on_link l e) named in
        record {
          link = l;
          on = on-link rules e past are l live (and_last (is_some (out_transfer e) && names d.0.number e.note) (is_on_link l e) named);
          address = refl;
          written = and_first (is_some (out_transfer e)) (names d.0.number e.note) first;
        }

    -- where nothing waits for it, nothing waited before, or a part is written on a link of its address
    pub nothing-before : is_consumer l ≡ true → nothing_waits rules (e ∷ past) l ≡ true → IsWrittenFor e l ⊎ (nothing_waits rules past l ≡ true)
    nothing-before consumer none = by (has_waiting rules l.address past) (has_unsent rules l past) refl refl (off (has_waiting rules l.address (e ∷ past)) (has_unsent rules l (e ∷ past)) none)
      where
        off : (b c : Bool) → not b && not c ≡ true → (b ≡ false) × (c ≡ false)
        off false false is = (refl, refl)
        off false true is = absurd cc
        off true c is = absurd cc

        by : (b c : Bool) → has_waiting rules l.address past ≡ b → has_unsent rules l past ≡ c → (has_waiting rules l.address (e ∷ past) ≡ false) × (has_unsent rules l (e ∷ past) ≡ false)
            → IsWrittenFor e l ⊎ (not b && not c ≡ true)
        by true c waits unsents now = inl (waited consumer waits now.0)
        by false true waits unsents now = inl (unsent unsents now.1)
        by false false waits unsents now = inr refl
