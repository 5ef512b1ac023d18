-- No more deliveries begin on a consumer's link than its client's last credit allows.
use Rattle.std.proofs.Common.{◌≡◌, refl, sym, ap, subst, ◌∙◌, ℕ, ◌<◌, ◌≤◌, Bool, true, false, ◌&&◌, List, [], ◌∷◌, length, Option, Some, None, is_some, is_none, option_and_then, option_map, find, if◌then◌else◌, ◌==◌, inl, inr, ◌⊎◌, arith}
use Rattle.std.specs.List.{cons_option}
use Rattle.std.proofs.lemmas.Bool.{eqb-true}
use Rattle.amqp_perf.specs.declared.attach.Role.{Role}
use Rattle.amqp_perf.specs.declared.attach.Role.TheVariants.{Sender, Receiver}
use Rattle.amqp_perf.specs.Meaning.{Meaning, AnOpen, ABegin, AnAttach, AFlow, ATransfer, ADisposition, ADetach, AnEnd, AClose, TransferFields}
use Rattle.capture_form.specs.declared.records.Record.{Record}
use Rattle.capture_form.specs.Rules.{RuleSet}
use Rattle.flow_counts.specs.Credit.{LinkEvent, TheirFlow, OurFlow, Begun, begun_since_grant, granted_credit, credit, is_drain_answer}
use Rattle.trace_events.specs.Words.{is_some_and, or_else, where_passes}
use Rattle.trace_events.specs.Frame.{Frame, Spoken, spoken_in}
use Rattle.trace_events.specs.Said.{as_attach}
use Rattle.trace_events.specs.Event.{Event, Link, Incoming, Moment, Opened, In, Out, Lost, Broken, is_on_link}
use Rattle.trace_events.specs.Link.{is_sender, is_receiver, is_consumer, is_producer, own_link, links, link_at}
use Rattle.trace_events.specs.Incoming as incoming
use Rattle.trace_events.specs.Credit.{begins_incoming, begins_outgoing, in_link_event, out_link_event, link_event, link_events, link_credit}
use Rattle.trace_events.specs.History.{judge, judge_unopened, history, moment_of, incoming_part, incoming_by, new_incoming}
use Rattle.trace_events.specs.Clauses.{first_broken}
use Rattle.trace_events.specs.Laws.{IsWithinCredit}
use Rattle.trace_events.proofs.ClausesMet.{lawful-past}
use Rattle.trace_events.proofs.Within.{in_credit}
use Rattle.trace_events.proofs.Along.{some_such, along, and_first, and_then_some, if_some, some_passes, standing}
use Rattle.trace_events.proofs.Opens.{opened-link}
use Rattle.trace_events.proofs.Links.{IsKnown, known_still, event_known, named_known, Stands, stands_step, none_stands, AreFound, found_step, none_found, link_opened_number, passing, attach_in, of_kind}

-- ---- nothing stands on a link before its record

abbrev pub AreUnused : List Event → Type 0
AreUnused past = (l : Link) → length past ≤ l.number → link_events l past ≡ []

on_none : (l : Link) (o : Option Link) → ((m : Link) → o ≡ Some m → m.number < l.number) → is_some_and o (λ m. m.number == l.number) ≡ false
on_none l None below = refl
on_none l (Some m) below = by (m.number == l.number) refl
  where
    by : (b : Bool) → (m.number == l.number) ≡ b → b ≡ false
    by true same = absurd (omega (arith, eqb-true m.number l.number same, below m refl))
    by false other = refl

pub unused_step : (rules : RuleSet) (past : List Event) (r : Record) → Stands past → AreUnused past → AreUnused (judge rules past r ∷ past)
unused_step rules past r known unused l after =
    let e = judge rules past r in
    let off : is_on_link l e ≡ false =
    ap (λ (b : Bool). b && (e.connection == l.session.connection)) (on_none l e.link (λ m is. omega (arith, after, (event_known rules past r m known is).before))) in
    rw (off, unused l (omega (arith, after))) refl

-- ---- an event on which a delivery begins

in_begun : (e : Event) (meaning : Meaning) → in_link_event e meaning ≡ Some Begun → begins_incoming e ≡ true
in_begun e (ATransfer fields) is = (if_some (begins_incoming e) (Some Begun) Begun is).0
in_begun e (AFlow f) is = absurd cc
in_begun e (AnOpen o) is = absurd cc
in_begun e (ABegin b) is = absurd cc
in_begun e (AnAttach a) is = absurd cc
in_begun e (ADisposition f) is = absurd cc
in_begun e (ADetach f) is = absurd cc
in_begun e (AnEnd x) is = absurd cc
in_begun e (AClose x) is = absurd cc

out_begun : (e : Event) (meaning : Meaning) → out_link_event e meaning ≡ Some Begun → (fields : TransferFields) × (meaning ≡ ATransfer fields) × (begins_outgoing e ≡ true)
out_begun e (ATransfer fields) is = (fields, refl, (if_some (begins_outgoing e) (Some Begun) Begun is).0)
out_begun e (AFlow f) is = absurd cc
out_begun e (AnOpen o) is = absurd cc
out_begun e (ABegin b) is = absurd cc
out_begun e (AnAttach a) is = absurd cc
out_begun e (ADisposition f) is = absurd cc
out_begun e (ADetach f) is = absurd cc
out_begun e (AnEnd x) is = absurd cc
out_begun e (AClose x) is = absurd cc

-- a transfer that begins a delivery to a client
pub record Begins (e : Event) : Type 0 where
  pub frame : Frame
  pub spoken : Spoken
  pub fields : TransferFields
  pub moment_is : e.moment ≡ Out frame
  pub says : spoken_in frame.body ≡ Some spoken
  pub transfer : spoken.meaning ≡ ATransfer fields
  pub begins : begins_outgoing e ≡ true

-- it begins from the client or to it
pub begun_by : (e : Event) (m : Moment) → e.moment ≡ m → link_event e m ≡ Some Begun → (begins_incoming e ≡ true) ⊎ Begins e
begun_by e (Out frame) same is =
    let step = and_then_some (λ (spoken : Spoken). out_link_event e spoken.meaning) (spoken_in frame.body) Begun is in
    let out = out_begun e step.0.meaning step.2 in
    inr (record { frame = frame; spoken = step.0; fields = out.0; moment_is = same; says = step.1; transfer = out.1; begins = out.2 })
begun_by e (In frame) same is =
    let step = and_then_some (λ (spoken : Spoken). in_link_event e spoken.meaning) (spoken_in frame.body) Begun is in inl (in_begun e step.0.meaning step.2)
begun_by e Opened same is = absurd cc
begun_by e Lost same is = absurd cc
begun_by e Broken same is = absurd cc

-- ---- a delivery from a client stands on a producer's link

part_from : (e : Event) (meaning : Meaning) (past : List Event) (d : Incoming) → incoming_part e meaning past ≡ Some d → (l : Link) × (e.link ≡ Some l) × (is_producer l ≡ true)
part_from e (ATransfer fields) past d is =
    let step = and_then_some (λ (l : Link). or_else (incoming.in_progress l past) (Some (new_incoming e.number fields l))) (where_passes is_producer e.link) d is in
    let on = passing is_producer e.link step.0 step.1 in
    (step.0, on.0, on.1)
part_from e (AnOpen o) past d is = absurd cc
part_from e (ABegin b) past d is = absurd cc
part_from e (AnAttach a) past d is = absurd cc
part_from e (AFlow f) past d is = absurd cc
part_from e (ADisposition f) past d is = absurd cc
part_from e (ADetach f) past d is = absurd cc
part_from e (AnEnd x) past d is = absurd cc
part_from e (AClose x) past d is = absurd cc

pub comes_from : (e : Event) (m : Moment) (past : List Event) (d : Incoming) → incoming_by e m past ≡ Some d → (l : Link) × (e.link ≡ Some l) × (is_producer l ≡ true)
comes_from e (In frame) past d is =
    let heard = if_some (e.is_heard && is_none e.fault) (option_and_then (λ (spoken : Spoken). incoming_part e spoken.meaning past) (spoken_in frame.body)) d is in
    let step = and_then_some (λ (spoken : Spoken). incoming_part e spoken.meaning past) (spoken_in frame.body) d heard.1 in
    part_from e step.0.meaning past d step.2
comes_from e (Out frame) past d is = absurd cc
comes_from e Opened past d is = absurd cc
comes_from e Lost past d is = absurd cc
comes_from e Broken past d is = absurd cc

-- and is no attach that the router writes
pub comes_in : (e : Event) (m : Moment) (past : List Event) (d : Incoming) → incoming_by e m past ≡ Some d → attach_in m ≡ None
comes_in e (In frame) past d is = refl
comes_in e (Out frame) past d is = absurd cc
comes_in e Opened past d is = absurd cc
comes_in e Lost past d is = absurd cc
comes_in e Broken past d is = absurd cc

pub not_both : (l : Link) → is_producer l ≡ true → is_consumer l ≡ true → ⊥
not_both l p c = by l.role p c
  where
    by : (role : Role) → is_receiver role ≡ true → is_sender role ≡ true → ⊥
    by Sender p c = cc
    by Receiver p c = cc

-- ---- a delivery that begins had credit

had_credit : (rules : RuleSet) (e : Event) (past : List Event) → first_broken rules (e ∷ past) ≡ None → Begins e → (m : Link) × (e.link ≡ Some m) × (1 ≤ link_credit m past)
had_credit rules e past lawful b =
    let on = some_such (λ l. begins_outgoing e ≡ true → 1 ≤ link_credit l past) e.link (in_credit rules e past lawful b.frame b.spoken b.moment_is b.says b.fields b.transfer) in
    (on.0, on.1, on.2 b.begins)

-- ---- one more event of a link's own

answered : (first : ℕ) (own : List LinkEvent) (b : Bool) → begun_since_grant own ≤ granted_credit first own → (if b then 0 else begun_since_grant own) ≤ (if b then 0 else granted_credit first own)
answered first own true h = omega arith
answered first own false h = h

moves : (first : ℕ) (own : List LinkEvent) (o : Option LinkEvent) → (o ≡ Some Begun → 0 < credit first own)
    → begun_since_grant own ≤ granted_credit first own → begun_since_grant (cons_option o own) ≤ granted_credit first (cons_option o own)
moves first own None room h = h
moves first own (Some (TheirFlow count (Some given) drain)) room h = omega arith
moves first own (Some (TheirFlow count None drain)) room h = h
moves first own (Some (OurFlow count given drain)) room h = answered first own (is_drain_answer given drain) h
moves first own (Some Begun) room h = omega (arith, room refl)

-- ---- one more record

pub same_link : (rules : RuleSet) (past : List Event) (r : Record) (l m : Link) → Stands past → IsKnown past l → (judge rules past r).link ≡ Some m → is_on_link l (judge rules past r) ≡ true → m ≡ l
same_link rules past r l m known is there on =
    let e = judge rules past r in
    let same_number : (m.number == l.number) ≡ true = ap (λ (o : Option Link). is_some_and o (λ (m : Link). m.number == l.number)) (sym there) ∙ and_first (is_some_and e.link (λ (m : Link). m.number == l.number)) (e.connection == l.session.connection) on in
    let own = event_known rules past r m known there in
    let other = known_still rules past r l is in
    let same : ◌≡◌ {A = Option Link} (Some m) (Some l) = sym own.at ∙ ap (λ (n : ℕ). link_at n (e ∷ past)) (eqb-true m.number l.number same_number) ∙ other.at in
    cc

older : (rules : RuleSet) (past : List Event) (r : Record) (l : Link) → Stands past → IsKnown past l → first_broken rules (judge rules past r ∷ past) ≡ None → IsWithinCredit past (Some l)
    → IsWithinCredit (judge rules past r ∷ past) (Some l)
older rules past r l known is kept h consumer =
    let e = judge rules past r in
    moves l.our_first_count (link_events l past) (if is_on_link l e then link_event e e.moment else None) room (h consumer)
  where
    room : (if is_on_link l (judge rules past r) then link_event (judge rules past r) (judge rules past r).moment else None) ≡ Some Begun → 0 < link_credit l past
    room begun =
        let e = judge rules past r in
        let on = if_some (is_on_link l e) (link_event e e.moment) Begun begun in
        elim (begun_by e e.moment refl on.1) [
          | inl comes ↦
              let d = some_passes (λ (d : Incoming). d.number == e.number) e.incoming comes in
              let from = comes_from (standing rules past r) (moment_of r.what) past d.0 d.1 in
              let unopened : e.link ≡ (standing rules past r).link =
              opened-link (judge_unopened rules past r.connection (moment_of r.what) r.note) past (comes_in (standing rules past r) (moment_of r.what) past d.0 d.1) in
              let one = same_link rules past r l from.0 known is (unopened ∙ from.1) on.0 in
              absurd (not_both l (subst (λ (m : Link). is_producer m ≡ true) one from.2) consumer)
          | inr goes ↦
              let there = had_credit rules e past kept goes in
              let one = same_link rules past r l there.0 known is there.1 on.0 in
              subst (λ (m : Link). 0 < link_credit m past) one there.2
        ]

-- an attach moves no credit
attach_moves : (e : Event) (meaning : Meaning) → is_some (as_attach meaning) ≡ true → out_link_event e meaning ≡ None
attach_moves e (AnAttach a) is = refl
attach_moves e (ABegin b) is = absurd cc
attach_moves e (ATransfer fields) is = absurd cc
attach_moves e (AFlow f) is = absurd cc
attach_moves e (AnOpen o) is = absurd cc
attach_moves e (ADisposition f) is = absurd cc
attach_moves e (ADetach f) is = absurd cc
attach_moves e (AnEnd x) is = absurd cc
attach_moves e (AClose x) is = absurd cc

attach_moves_none : (e : Event) (o : Option Spoken) → is_some (option_and_then as_attach (option_map (λ (spoken : Spoken). spoken.meaning) o)) ≡ true → option_and_then (λ (spoken : Spoken). out_link_event e spoken.meaning) o ≡ None
attach_moves_none e None is = absurd cc
attach_moves_none e (Some spoken) is = attach_moves e spoken.meaning is

pub opens_still : (e : Event) (m : Moment) → is_some (attach_in m) ≡ true → link_event e m ≡ None
opens_still e (Out frame) is = attach_moves_none e (spoken_in frame.body) is
opens_still e (In frame) is = absurd cc
opens_still e Opened is = absurd cc
opens_still e Lost is = absurd cc
opens_still e Broken is = absurd cc

newer : (rules : RuleSet) (past : List Event) (r : Record) (l : Link) → Stands past → AreUnused past → own_link (judge rules past r) ≡ Some l → IsWithinCredit (judge rules past r ∷ past) (Some l)
newer rules past r l known unused is consumer =
    let e = judge rules past r in
    let opened = link_opened_number e l is in
    let none : link_events l past ≡ [] = unused l (omega (arith, opened.1)) in
    let still : link_event e e.moment ≡ None = elim (of_kind rules past r l opened.0) [
      | inl opens ↦ opens_still e e.moment opens
      | inr named ↦ absurd (omega (arith, opened.1, (named_known rules past r l known named.0 named.1 named.2).1))
    ] in
    by (is_on_link l e) (link_event e e.moment) still (link_events l past) none
  where
    by : (b : Bool) (o : Option LinkEvent) → o ≡ None → (own : List LinkEvent) → own ≡ [] → begun_since_grant (cons_option (if b then o else None) own) ≤ granted_credit l.our_first_count (cons_option (if b then o else None) own)
    by true o still own none = rw (still, none) (omega arith)
    by false o still own none = rw none (omega arith)

within_by : (rules : RuleSet) (past : List Event) (r : Record) (n : ℕ) (o : Option Link) → own_link (judge rules past r) ≡ o → Stands past → AreUnused past
    → ((l : Link) → link_at n past ≡ Some l → IsKnown past l) → first_broken rules (judge rules past r ∷ past) ≡ None → IsWithinCredit past (link_at n past)
    → IsWithinCredit (judge rules past r ∷ past) (find (λ (m : Link). m.number == n) (cons_option o (links past)))
within_by rules past r n None is known unused found kept h = at (link_at n past) refl h
  where
    at : (o : Option Link) → link_at n past ≡ o → IsWithinCredit past o → IsWithinCredit (judge rules past r ∷ past) o
    at None is h = tt
    at (Some l) is h = older rules past r l known (found l is) kept h
within_by rules past r n (Some m) is known unused found kept h = by (m.number == n)
  where
    at : (o : Option Link) → link_at n past ≡ o → IsWithinCredit past o → IsWithinCredit (judge rules past r ∷ past) o
    at None is h = tt
    at (Some l) is h = older rules past r l known (found l is) kept h

    by : (b : Bool) → IsWithinCredit (judge rules past r ∷ past) (if b then Some m else link_at n past)
    by true = newer rules past r m known unused is
    by false = at (link_at n past) refl h

pub record Keeps (rules : RuleSet) (past : List Event) : Type 0 where
  pub known : Stands past
  pub unused : AreUnused past
  pub found : AreFound past
  pub within : first_broken rules past ≡ None → (n : ℕ) → IsWithinCredit past (link_at n past)

found_known : (past : List Event) → AreFound past → (n : ℕ) (l : Link) → link_at n past ≡ Some l → IsKnown past l
found_known past found n l is =
    let h = found n l is in
    record { at = ap (λ (k : ℕ). link_at k past) h.0 ∙ is; before = omega (arith, h.0, h.1) }

keeps_step : (rules : RuleSet) (past : List Event) (r : Record) → Keeps rules past → Keeps rules (judge rules past r ∷ past)
keeps_step rules past r h = record {
  known = stands_step rules past r h.known;
  unused = unused_step rules past r h.known h.unused;
  found = found_step rules past r h.found;
  within = λ lawful n.
      within_by rules past r n (own_link (judge rules past r)) refl h.known h.unused (found_known past h.found n) lawful
      (h.within (lawful-past rules (judge rules past r) past lawful) n);
}

-- of a lawful capture
pub within_credit : (rules : RuleSet) (rs : List Record) → first_broken rules (history rules rs) ≡ None → (n : ℕ) → IsWithinCredit (history rules rs) (link_at n (history rules rs))
within_credit rules rs = (along rules (Keeps rules) (record { known = none_stands; unused = λ l after. refl; found = none_found; within = λ lawful n. tt }) (keeps_step rules) rs).within
