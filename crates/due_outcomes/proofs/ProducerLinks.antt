-- Each delivery from a client is of a producer's link.
use Rattle.std.proofs.Common.{◌≡◌, refl, sym, ap, subst, ◌∙◌, inl, inr, Bool, true, false, ◌∷◌, List, [], Option, Some, None, find, if◌then◌else◌, ◌==◌}
use Rattle.std.specs.List.{cons_option}
use Rattle.capture_form.specs.Rules.{RuleSet}
use Rattle.capture_form.specs.declared.records.Record.{Record}
use Rattle.trace_events.specs.Event.{Event, Incoming, Link}
use Rattle.trace_events.specs.History.{judge, judge_unopened, moment_of}
use Rattle.trace_events.specs.Incoming.{incoming_at, incoming_begun, incoming_deliveries}
use Rattle.trace_events.specs.Link.{is_producer}
use Rattle.trace_events.proofs.Along.{standing}
use Rattle.trace_events.proofs.Judged.{AreJudged}
use Rattle.trace_events.proofs.Links.{passing}
use Rattle.trace_events.proofs.Opens.{opened-link}
use Rattle.trace_events.proofs.Incomings.{judged-sound}
use Rattle.trace_events.proofs.Parts.{judged_is_part}
use Rattle.trace_events.proofs.WithinCredit.{comes_from, comes_in}

same_some : {A : Type 0} (a b : A) → Some a ≡ Some b → a ≡ b
same_some a b is = cc

-- a part comes on one
abbrev ComesFrom : Event → Type 0
ComesFrom e = (l : Link) × (e.link ≡ Some l) × (is_producer l ≡ true)

part-from : (rules : RuleSet) (past : List Event) (r : Record) (d : Incoming) → (judge rules past r).incoming ≡ Some d → ComesFrom (judge rules past r)
part-from rules past r d is =
    let from = comes_from (standing rules past r) (moment_of r.what) past d is in
    let unopened : (judge rules past r).link ≡ (standing rules past r).link =
    opened-link (judge_unopened rules past r.connection (moment_of r.what) r.note) past (comes_in (standing rules past r) (moment_of r.what) past d is) in
    (from.0, unopened ∙ from.1, from.2)

judged-from : (rules : RuleSet) (e : Event) (past : List Event) → AreJudged rules (e ∷ past) → (d : Incoming) → e.incoming ≡ Some d → ComesFrom e
judged-from rules e past ((r, is), are) d here = subst ComesFrom (sym is) (part-from rules past r d (sym (ap (λ (x : Event). x.incoming) is) ∙ here))

pub judged-producer : (rules : RuleSet) (past : List Event) → AreJudged rules past → (d : Incoming) → incoming_at d.number past ≡ Some d → is_producer d.link ≡ true
judged-producer rules [] are d at = absurd cc
judged-producer rules (e ∷ past) are d at = by (incoming_begun e) refl at (judged-producer rules past are.1)
  where
    new : e.incoming ≡ Some d → ((x : Incoming) → incoming_at x.number past ≡ Some x → is_producer x.link ≡ true) → is_producer d.link ≡ true
    new here earlier =
        let from = judged-from rules e past are d here in
        let part = (judged_is_part rules e past are d here).part in
        let one : from.0 ≡ part.link = same_some from.0 part.link (sym from.1 ∙ part.on) in
        elim part.kind [
          | inl goes ↦ earlier d ((judged-sound rules past are.1).known part.link d goes)
          | inr begins ↦ ap (λ (x : Incoming). is_producer x.link) begins.1 ∙ (sym (ap is_producer one) ∙ from.2)
        ]

    among : (x : Incoming) → incoming_begun e ≡ Some x → (b : Bool) → (x.number == d.number) ≡ b → (if b then Some x else incoming_at d.number past) ≡ Some d
        → ((x : Incoming) → incoming_at x.number past ≡ Some x → is_producer x.link ≡ true) → is_producer d.link ≡ true
    among x begun true same found earlier = new ((passing (λ (y : Incoming). y.number == e.number) e.incoming x begun).0 ∙ found) earlier
    among x begun false other found earlier = earlier d found

    by : (o : Option Incoming) → incoming_begun e ≡ o → find (λ (x : Incoming). x.number == d.number) (cons_option o (incoming_deliveries past)) ≡ Some d
        → ((x : Incoming) → incoming_at x.number past ≡ Some x → is_producer x.link ≡ true) → is_producer d.link ≡ true
    by None none found earlier = earlier d found
    by (Some x) begun found earlier = among x begun (x.number == d.number) refl found earlier
