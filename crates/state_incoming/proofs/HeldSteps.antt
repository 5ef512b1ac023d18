-- What an event makes of a delivery from a client that is kept, in a lawful capture.
use Rattle.std.proofs.Common.{◌≡◌, refl, sym, ap, subst, ◌∙◌, ℕ, Bool, true, false, not, ◌&&◌, ◌||◌, ◌==◌, List, [], ◌∷◌, length, Option, Some, None, IfSome, option_map, option_and_then, unwrap_or, is_some, if◌then◌else◌, find, arith, eqb-true, eq-eqb}
use Rattle.std.specs.List.{list_any}
use Rattle.amqp_perf.specs.Message.{to_of}
use Rattle.capture_form.specs.Rules.{RuleSet}
use Rattle.trace_events.specs.Words.{is_some_and, where_passes}
use Rattle.trace_events.specs.Event.{Event, Incoming, Outgoing}
use Rattle.trace_events.specs.Said.{in_transfer}
use Rattle.trace_events.specs.Link.{is_live, is_anonymous, link_at}
use Rattle.trace_events.specs.Ends.{ends_link}
use Rattle.trace_events.specs.Address.{has_consumer}
use Rattle.trace_events.specs.Incoming.{address_of, message, message_address, payload, is_last_part, completed_by, completes, is_complete, is_aborted, completion, incoming_begun, incoming_at, is_settled, is_told, aborts}
use Rattle.trace_events.specs.Outgoing.{outgoing_begun, outgoing_deliveries, names, is_paired}
use Rattle.trace_events.specs.Waiting.{is_of_multicast, always_had_consumer, is_unpaired, is_waiting, is_gone, is_undecided}
use Rattle.trace_events.specs.Queue.{pairs}
use Rattle.trace_events.specs.Settling.{is_closed}
use Rattle.trace_events.specs.Work.{closes_incoming}
use Rattle.trace_events.specs.Clauses.{first_broken}
use Rattle.trace_events.proofs.Along.{some_passes}
use Rattle.trace_events.proofs.EveryStep.{completion-step, is_paired-step}
use Rattle.trace_events.proofs.IncomingSteps.{address_of-same, incoming_at-begun, incoming_at-older, incoming_at-same}
use Rattle.trace_events.proofs.Judged.{AreJudged, judged-number}
use Rattle.trace_events.proofs.Links.{passing}
use Rattle.trace_events.proofs.SettlingSteps.{is_closed-step}
use Rattle.trace_events.proofs.BegunDeliveries.{begun-own, begun-carries, found-begun, kept-later}
use Rattle.trace_events.proofs.ClausesMet.{lawful-past}
use Rattle.trace_events.proofs.Decided.{told-known}
use Rattle.trace_events.proofs.IncomingProgress.{judged-kept}
use Rattle.trace_events.proofs.LinkEnds.{is_live-next}
use Rattle.trace_events.proofs.OutcomesToTell.{carries_first}
use Rattle.trace_events.proofs.Parts.{EachPart, IsKept, delivery_kept}
use Rattle.trace_events.proofs.PartsGoOn.{MayGoOn, part-goes_on, unbegun-payload, incomplete-completion, unbegun-settled}
use Rattle.trace_events.proofs.Undecided.{all_before}
use Rattle.trace_events.proofs.WaitingQueue.{completed_once}
use Rattle.state_tables.specs.Addressed.{IsAddressed}
use Rattle.state_incoming.specs.Held.{fate_of, fate_next, says_arriving, Held, held, is_held, held_at, address_behind, moved, stays_with, stays, held_next, held_on, first_address, unbegun, held_behind, undecided_next}
use Rattle.state_incoming.specs.declared.held.Fate.{Fate}
use Rattle.state_incoming.specs.declared.held.Fate.TheVariants.{Arriving, Waiting, Gone, Paired, Copied}
use Rattle.state_incoming.proofs.FateSteps.{fate_by, arriving-fate, unpaired-same, multicast-same, fate-moves}
use Rattle.state_incoming.proofs.UndecidedSteps.{undecided-moves}

-- ---- what a step rests on

-- of one delivery: its link lives on unless the event ends it; only while it is incomplete, whole and of a live link a part
-- of it comes; what completes it tells this address; and what carries it begins when it is complete and not gone
pub record Steps (rules : RuleSet) (e : Event) (past : List Event) (to : List ℕ) (d : Incoming) : Type 0 where
  pub live : is_live (e ∷ past) d.link ≡ is_live past d.link && not (ends_link d.link e)
  pub once : is_complete d past ≡ true → completes d e ≡ false
  pub part : completes d e ≡ true → MayGoOn past d
  pub addressed : completes d e ≡ true → address_of d (e ∷ past) ≡ to
  pub paired : is_paired d past ≡ true → is_complete d past ≡ true
  pub pairing : pairs d e ≡ true → is_complete d past ≡ true
  pub whole : pairs d e ≡ true → is_gone rules d past ≡ false

-- ---- field by field

abbrev made : Incoming → List ℕ → List ℕ → Option ℕ → Bool → Bool → Fate → Held
made d address payload completion closed undecided fate =
    record { delivery = d; address = address; payload = payload; completion = completion; is_closed = closed; is_undecided = undecided; fate = fate }

made-same : (d : Incoming) (a a' p p' : List ℕ) (c c' : Option ℕ) (o o' u u' : Bool) (f f' : Fate) → a ≡ a' → p ≡ p' → c ≡ c' → o ≡ o' → u ≡ u' → f ≡ f'
    → made d a p c o u f ≡ made d a' p' c' o' u' f'
made-same d a a' p p' c c' o o' u u' f f' b q r v w x = rw (b, q, r, v, w, x) refl

-- n: its link has no address, k: the event completes it, c: it was complete before
address-bits : (n arriving k c : Bool) (before behind to : List ℕ) → arriving ≡ not c → (c ≡ true → k ≡ false) → (k ≡ false → behind ≡ before) → (k ≡ true → behind ≡ to)
    → (n ≡ false → behind ≡ before) → behind ≡ (if n && (arriving && k) then to else before)
address-bits false arriving k c before behind to arrives once same told own = own refl
address-bits true false false c before behind to arrives once same told own = same refl
address-bits true true false c before behind to arrives once same told own = same refl
address-bits true true true c before behind to arrives once same told own = told refl
address-bits true false true true before behind to arrives once same told own = let never : true ≡ false = once refl in absurd cc
address-bits true false true false before behind to arrives once same told own = absurd cc

module _ (rules : RuleSet) (e : Event) (past : List Event) (to : List ℕ) (d : Incoming) (step : Steps rules e past to d) where
  address-moves : address_of d (e ∷ past) ≡ address_behind e to (held rules past d)
  address-moves =
      address-bits (is_anonymous d.link) (says_arriving (fate_of rules d past)) (completes d e) (is_complete d past) (address_of d past) (address_of d (e ∷ past)) to
      (arriving-fate rules d past) step.once (address_of-same e past d) step.addressed
      (λ own. ap (λ b. if b then message_address d (e ∷ past) else d.link.address) own ∙ sym (ap (λ b. if b then message_address d past else d.link.address) own))

  abbrev has : Bool
  has = has_consumer (address_behind e to (held rules past d)) (e ∷ past)

  pub held-moves : held rules (e ∷ past) d ≡ moved rules e to has (held rules past d)
  held-moves =
      let address = address_behind e to (held rules past d) in
      let fate = fate-moves rules d e past step.once step.paired step.pairing step.whole
      ∙ ap (λ (a : List ℕ). fate_next rules e a (has_consumer a (e ∷ past)) d (fate_of rules d past)) address-moves in
      let closed = is_closed-step e past d step.live in
      let undecided = λ (f : Fate) (c : Bool). undecided_next e d f c (is_undecided rules d past) in
      made-same d _ _ _ _ _ _ _ _ _ _ _ _ address-moves refl (completion-step e past d) closed
      (undecided-moves rules e past d step.live step.once
      ∙ (ap (λ f. undecided f (is_closed (e ∷ past) d)) fate ∙ ap (λ c. undecided (fate_next rules e address has d (fate_of rules d past)) c) closed))
      fate

-- ---- what is kept

abbrev stays_by : Bool → Bool → Bool → Fate → Bool
stays_by up ended closed Arriving = not up && not ended
stays_by up ended closed Gone = not closed
stays_by up ended closed Waiting = true
stays_by up ended closed Paired = true
stays_by up ended closed Copied = true

stays-is : (e : Event) (d : Incoming) (closed : Bool) (fate : Fate) → stays_with e d closed fate ≡ stays_by (aborts d e) (ends_link d.link e) closed fate
stays-is e d closed Arriving = refl
stays-is e d closed Gone = refl
stays-is e d closed Waiting = refl
stays-is e d closed Paired = refl
stays-is e d closed Copied = refl

done-bits : (up ended closed m p a : Bool) → not (((not m && true && not p) && not a) && closed) ≡ stays_by up ended closed (fate_by true m p a)
done-bits up ended closed true p a = refl
done-bits up ended closed false true a = refl
done-bits up ended closed false false true = refl
done-bits up ended closed false false false = refl

open-bits : (up aborted live ended : Bool) → not aborted && live ≡ true → not (up || aborted) && (live && not ended) ≡ not up && not ended
open-bits up true live ended was = absurd cc
open-bits up false false ended was = absurd cc
open-bits true false true ended was = refl
open-bits false false true ended was = refl

-- k: the event completes it, c: it was complete before; m, p and a behind the event
keep-bits : (k c m p a closed up aborted live ended gone : Bool) → (if c then gone else not aborted && live) ≡ true
    → (if k || c then not (((not m && (k || c) && not p) && not a) && closed) else not (up || aborted) && (live && not ended)) ≡ stays_by up ended closed (fate_by (k || c) m p a)
keep-bits true c m p a closed up aborted live ended gone was = done-bits up ended closed m p a
keep-bits false true m p a closed up aborted live ended gone was = done-bits up ended closed m p a
keep-bits false false m p a closed up aborted live ended gone was = open-bits up aborted live ended was

and-false : (b : Bool) → b && false ≡ false
and-false true = refl
and-false false = refl

gone-unpaired : (m c p a : Bool) → (not m && c && not p) && not a ≡ true → p ≡ false
gone-unpaired m c false a is = refl
gone-unpaired true c true a is = absurd cc
gone-unpaired false false true a is = absurd cc
gone-unpaired false true true a is = absurd cc

gone-lost : (u a : Bool) → u && not a ≡ true → a ≡ false
gone-lost true true is = absurd cc
gone-lost true false is = refl
gone-lost false a is = absurd cc

never-both : (b : Bool) → b ≡ true → b ≡ false → false ≡ true
never-both b is off = sym off ∙ is

off-first : (up aborted live ended : Bool) → not aborted && live ≡ false → not (up || aborted) && (live && not ended) ≡ false
off-first true aborted live ended was = refl
off-first false true live ended was = refl
off-first false false false ended was = refl
off-first false false true ended was = absurd cc

-- what is forgotten stays so: m, p, a and closed before, the others behind the event
forget-bits : (k c m p a closed p' a' closed' up aborted live ended : Bool) → (c ≡ true → k ≡ false) → (k ≡ true → not aborted && live ≡ true)
    → (c ≡ true → (not m && c && not p) && not a ≡ true → (p' ≡ false) × (a' ≡ false)) → (closed ≡ true → closed' ≡ true)
    → (if c then not (((not m && c && not p) && not a) && closed) else not aborted && live) ≡ false
    → (if k || c then not (((not m && (k || c) && not p') && not a') && closed') else not (up || aborted) && (live && not ended)) ≡ false
forget-bits true true m p a closed p' a' closed' up aborted live ended once part gone stays was = let never : true ≡ false = once refl in absurd cc
forget-bits true false m p a closed p' a' closed' up aborted live ended once part gone stays was = let never = never-both (not aborted && live) (part refl) was in absurd cc
forget-bits false false m p a closed p' a' closed' up aborted live ended once part gone stays was = off-first up aborted live ended was
forget-bits false true true p a closed p' a' closed' up aborted live ended once part gone stays was = absurd cc
forget-bits false true false true a closed p' a' closed' up aborted live ended once part gone stays was = absurd cc
forget-bits false true false false true closed p' a' closed' up aborted live ended once part gone stays was = absurd cc
forget-bits false true false false false false p' a' closed' up aborted live ended once part gone stays was = absurd cc
forget-bits false true false false false true p' a' closed' up aborted live ended once part gone stays was =
    let still = gone refl refl in rw (still.0, still.1, stays refl) refl

module _ (rules : RuleSet) (e : Event) (past : List Event) (to : List ℕ) (d : Incoming) (step : Steps rules e past to d) where
  -- what is kept is kept on or not
  pub held-stays : is_held rules past d ≡ true → is_held rules (e ∷ past) d ≡ stays e (held rules (e ∷ past) d)
  held-stays was =
      ap (λ b. if is_complete d (e ∷ past) then not (is_gone rules d (e ∷ past) && is_closed (e ∷ past) d) else not (is_aborted d (e ∷ past)) && b) step.live
      ∙ (keep-bits (completes d e) (is_complete d past) (is_of_multicast rules d (e ∷ past)) (is_paired d (e ∷ past)) (always_had_consumer d (e ∷ past)) (is_closed (e ∷ past) d)
      (aborts d e) (is_aborted d past) (is_live past d.link) (ends_link d.link e) (not (is_gone rules d past && is_closed past d)) was
      ∙ sym (stays-is e d (is_closed (e ∷ past) d) (fate_of rules d (e ∷ past))))

  gone_before : is_complete d past ≡ true → is_gone rules d past ≡ true → (is_paired d (e ∷ past) ≡ false) × (always_had_consumer d (e ∷ past) ≡ false)
  gone_before done gone = (
    is_paired-step e past d ∙ ap (λ b. b || is_paired d past) (off (pairs d e) refl) ∙ unpaired,
    ap (λ b. served && (b || always_had_consumer d past)) (step.once done) ∙ (ap (λ b. served && b) lost ∙ and-false served),
  )
    where
      served : Bool
      served = has_consumer (address_of d (e ∷ past)) (e ∷ past)

      off : (b : Bool) → pairs d e ≡ b → pairs d e ≡ false
      off false is = is
      off true is = let never = never-both (is_gone rules d past) gone (step.whole is) in absurd cc

      unpaired : is_paired d past ≡ false
      unpaired = gone-unpaired (is_of_multicast rules d past) (is_complete d past) (is_paired d past) (always_had_consumer d past) gone

      lost : always_had_consumer d past ≡ false
      lost = gone-lost (is_unpaired rules d past) (always_had_consumer d past) gone

  closed_stays : is_closed past d ≡ true → is_closed (e ∷ past) d ≡ true
  closed_stays is = is_closed-step e past d step.live ∙ ap (λ b. b || closes_incoming e d) is

  -- what is forgotten stays so
  pub held-forgotten : is_held rules past d ≡ false → is_held rules (e ∷ past) d ≡ false
  held-forgotten was =
      ap (λ b. if is_complete d (e ∷ past) then not (is_gone rules d (e ∷ past) && is_closed (e ∷ past) d) else not (is_aborted d (e ∷ past)) && b) step.live
      ∙ forget-bits (completes d e) (is_complete d past) (is_of_multicast rules d (e ∷ past)) (is_paired d past) (always_had_consumer d past) (is_closed past d)
      (is_paired d (e ∷ past)) (always_had_consumer d (e ∷ past)) (is_closed (e ∷ past) d) (aborts d e) (is_aborted d past) (is_live past d.link) (ends_link d.link e)
      step.once (λ completed. may-come (step.part completed)) (λ done gone. gone_before done (sym (ap (λ u. u && not (always_had_consumer d past)) same) ∙ gone)) closed_stays
      (ap (λ u. if is_complete d past then not ((u && not (always_had_consumer d past)) && is_closed past d) else not (is_aborted d past) && is_live past d.link) same ∙ was)
    where
      may-come : MayGoOn past d → not (is_aborted d past) && is_live past d.link ≡ true
      may-come may = ap (λ b. not b && is_live past d.link) may.whole ∙ may.live

      same : not (is_of_multicast rules d (e ∷ past)) && is_complete d past && not (is_paired d past) ≡ is_unpaired rules d past
      same = unpaired-same (is_complete d past) (is_of_multicast rules d past) (is_of_multicast rules d (e ∷ past)) (is_paired d past) (multicast-same rules d e past step.once)

  abbrev law : List ℕ → Bool
  law address = has_consumer address (e ∷ past)

  -- so of what is kept one step makes what is kept behind the event
  pub kept-moves : option_map (held rules (e ∷ past)) (where_passes (is_held rules (e ∷ past)) (Some d))
      ≡ option_and_then (held_on rules e to law) (option_map (held rules past) (where_passes (is_held rules past) (Some d)))
  kept-moves = by (is_held rules past d) refl
    where
      some-if : (b : Bool) → option_map (held rules (e ∷ past)) (if b then Some d else None) ≡ (if b then Some (held rules (e ∷ past) d) else None)
      some-if true = refl
      some-if false = refl

      by : (b : Bool) → is_held rules past d ≡ b → option_map (held rules (e ∷ past)) (if is_held rules (e ∷ past) d then Some d else None)
          ≡ option_and_then (held_on rules e to law) (option_map (held rules past) (if b then Some d else None))
      by true was =
          ap (λ b. option_map (held rules (e ∷ past)) (if b then Some d else None)) (held-stays was)
          ∙ (some-if (stays e (held rules (e ∷ past) d)) ∙ ap (λ x. if stays e x then Some x else None) (held-moves rules e past to d step))
      by false was = ap (λ b. option_map (held rules (e ∷ past)) (if b then Some d else None)) (held-forgotten was)

-- ---- in a lawful capture

same_some : {A : Type 0} (a b : A) → Some a ≡ Some b → a ≡ b
same_some a b is = cc

found_some : {A : Type 0} (o : Option A) → is_some o ≡ true → (x : A) × (o ≡ Some x)
found_some None is = absurd cc
found_some (Some x) is = (x, refl)

found-passes : {A : Type 0} (test : A → Bool) (xs : List A) (x : A) → find test xs ≡ Some x → test x ≡ true
found-passes test [] x found = absurd cc
found-passes test (y ∷ ys) x found = by (test y) refl (found-passes test ys x) found
  where
    by : (b : Bool) → test y ≡ b → (find test ys ≡ Some x → test x ≡ true) → (if b then Some y else find test ys) ≡ Some x → test x ≡ true
    by true is later found = let same : y ≡ x = cc in ap test (sym same) ∙ is
    by false is later found = later found

if-known : {A : Type 0} (P : A → Type 0) (o : Option A) (x : A) → o ≡ Some x → IfSome o P → P x
if-known P o x is h = subst (λ (p : Option _). IfSome p P) is h

part-of : (b : Bool) (o : Option Incoming) (n : ℕ) → is_some_and (if b then o else None) (λ x. x.number == n) ≡ true → (x : Incoming) × (o ≡ Some x) × (x.number ≡ n) × ((if b then o else None) ≡ Some x)
part-of true None n is = absurd cc
part-of true (Some x) n is = (x, refl, eqb-true x.number n is, refl)
part-of false o n is = absurd cc

by-number : (past : List Event) (c d : Incoming) → c.number ≡ d.number → is_complete c past ≡ true → is_complete d past ≡ true
by-number past c d same done = ap (λ (n : ℕ). list_any (λ (y : Event). is_some_and (completed_by y) (λ other. other.number == n)) past) (sym same) ∙ done

-- one that is incomplete has no address but its link's
message-none : (d : Incoming) (past : List Event) → is_complete d past ≡ false → message_address d past ≡ []
unfolding message_address
message-none d [] off = refl
message-none d (e ∷ past) off = by (completes d e) refl off (message-none d past)
  where
    by : (k : Bool) → completes d e ≡ k → k || is_complete d past ≡ false → (is_complete d past ≡ false → message_address d past ≡ []) → message_address d (e ∷ past) ≡ []
    by true is off earlier = absurd cc
    by false is off earlier = ap (λ b. if b then unwrap_or (to_of (message d (e ∷ past))) [] else message_address d past) is ∙ earlier off

address-none : (d : Incoming) (past : List Event) → is_complete d past ≡ false → address_of d past ≡ first_address d.link
address-none d past off = ap (λ xs. if is_anonymous d.link then xs else d.link.address) (message-none d past off)

-- what is paired is complete
pub paired-complete : (rules : RuleSet) (past : List Event) → AreJudged rules past → first_broken rules past ≡ None → (d : Incoming) → is_paired d past ≡ true → is_complete d past ≡ true
paired-complete rules past are lawful d is =
    let carries = λ (x : Outgoing). names d.number x.note in
    let j = found_some (find carries (outgoing_deliveries past)) is in
    let b = found-begun rules past are lawful carries j.0 j.1 in
    let named : (b.delivery.number == d.number) ≡ true = sym (ap (names d.number) b.named) ∙ found-passes carries (outgoing_deliveries past) j.0 j.1 in
    by-number past b.delivery d (eqb-true b.delivery.number d.number named) b.complete

module _ (rules : RuleSet) (e : Event) (past : List Event) (are : AreJudged rules (e ∷ past)) (lawful : first_broken rules (e ∷ past) ≡ None)
    (to : List ℕ) (addressed : IsAddressed e past to) (d : Incoming) where
  -- one of a number is this delivery, as far as those before the event go, and what is a part with the event
  module _ (at : link_at d.link.number past ≡ Some d.link) (one : (c : Incoming) → IsKept past c → c.number ≡ d.number → c ≡ d) (own : (c : Incoming) → e.incoming ≡ Some c → c.number ≡ d.number → c ≡ d) where
    part_goes : completes d e ≡ true → MayGoOn past d
    part_goes is =
        let p = part-of (is_some_and (in_transfer e) is_last_part) e.incoming d.number is in
        subst (MayGoOn past) (own p.0 p.1 p.2) (part-goes_on rules e past are p.0 p.1)

    told_goes : completes d e ≡ true → address_of d (e ∷ past) ≡ to
    told_goes is =
        let p = part-of (is_some_and (in_transfer e) is_last_part) e.incoming d.number is in
        subst (λ x. address_of x (e ∷ past) ≡ to) (own p.0 p.1 p.2) (if-known (λ x. address_of x (e ∷ past) ≡ to) (completed_by e) p.0 p.3 addressed)

    -- what the event pairs
    record Pairing : Type 0 where
      complete : is_complete d past ≡ true
      whole : is_gone rules d past ≡ false

    pairing_is : pairs d e ≡ true → Pairing
    pairing_is is =
        let j = some_passes (λ (x : Outgoing). names d.number x.note) (outgoing_begun e) is in
        let c = begun-carries rules e past are lawful j.0 j.1 in
        let note = begun-own rules e past are lawful j.0 j.1 in
        let number : c.delivery.number ≡ d.number = eqb-true c.delivery.number d.number (sym (ap (names d.number) (note.0 ∙ c.named)) ∙ j.2) in
        let first = carries_first rules e past are lawful j.0 j.1 in
        record { complete = by-number past c.delivery d number c.complete; whole = subst (λ x. is_gone rules x past ≡ false) (one c.delivery c.kept number) first.whole }

    steps : Steps rules e past to d
    steps = record {
      live = is_live-next rules e past are d.link at;
      once = completed_once rules e past are d;
      part = part_goes;
      addressed = told_goes;
      paired = paired-complete rules past are.1 (lawful-past rules e past lawful) d;
      pairing = λ is. (pairing_is is).complete;
      whole = λ is. (pairing_is is).whole;
    }

  -- of a delivery that began before
  pub kept-steps : IsKept past d → Steps rules e past to d
  kept-steps kept = steps kept.link.at one own
    where
      one : (c : Incoming) → IsKept past c → c.number ≡ d.number → c ≡ d
      one c is same = same_some c d (sym is.at ∙ (ap (λ n. incoming_at n past) same ∙ kept.at))

      own : (c : Incoming) → e.incoming ≡ Some c → c.number ≡ d.number → c ≡ d
      own c is same =
          let later = kept-later rules e past are d kept in
          let now : IsKept (e ∷ past) c = if-known (IsKept (e ∷ past)) e.incoming c is (judged-kept rules (e ∷ past) are).each.0 in
          same_some c d (sym now.at ∙ (ap (λ n. incoming_at n (e ∷ past)) same ∙ later.at))

  -- of one that begins with the event
  module _ (begun : incoming_begun e ≡ Some d) where
    here : (e.incoming ≡ Some d) × ((d.number == e.number) ≡ true)
    here = passing (λ (x : Incoming). x.number == e.number) e.incoming d begun

    number : d.number ≡ length past
    number = eqb-true d.number e.number here.1 ∙ judged-number rules e past are

    comes : MayGoOn past d
    comes = part-goes_on rules e past are d here.0

    pub begun-steps : Steps rules e past to d
    begun-steps = steps comes.linked.at one (λ c is same. same_some c d (sym is ∙ here.0))
      where
        one : (c : Incoming) → IsKept past c → c.number ≡ d.number → c ≡ d
        one c kept same = let lt = kept.before in absurd (omega (arith, lt, same, number))

    apart : EachPart (λ x. (x.number == d.number) ≡ false) past
    apart = subst (λ n. EachPart (λ x. (x.number == n) ≡ false) past) (sym number) (all_before past (judged-kept rules past are.1).each)

    untold : (b : Bool) → is_told d past ≡ b → b ≡ false
    untold false is = refl
    untold true is = let lt = told-known rules past are.1 (lawful-past rules e past lawful) d.number is in absurd (omega (arith, lt, number))

    -- nothing is known of it before
    pub begun-held : held rules past d ≡ unbegun d
    begun-held = made-same d _ _ _ _ _ _ _ _ _ _ _ _ (address-none d past comes.incomplete) (unbegun-payload past d apart) (incomplete-completion past d comes.incomplete) unclosed undecided still
      where
        settled : is_settled d past ≡ false
        settled = unbegun-settled rules past d are.1 apart (omega (arith, number))

        unclosed : is_closed past d ≡ false
        unclosed = ap (λ b. b || is_settled d past || not (is_live past d.link)) (untold (is_told d past) refl) ∙ (ap (λ b. b || not (is_live past d.link)) settled ∙ ap not comes.live)

        undecided : is_undecided rules d past ≡ true
        undecided =
            ap (λ b. b && not (is_aborted d past) && (not (is_complete d past) || is_waiting rules d past || not (is_settled d past || is_told d past))) comes.live
            ∙ (ap (λ b. not b && (not (is_complete d past) || is_waiting rules d past || not (is_settled d past || is_told d past))) comes.whole
            ∙ ap (λ b. not b || is_waiting rules d past || not (is_settled d past || is_told d past)) comes.incomplete)

        still : fate_of rules d past ≡ Arriving
        still = ap (λ b. fate_by b (is_of_multicast rules d past) (is_paired d past) (always_had_consumer d past)) comes.incomplete

    pub begun-kept : is_held rules past d ≡ true
    begun-kept =
        ap (λ b. if b then not (is_gone rules d past && is_closed past d) else not (is_aborted d past) && is_live past d.link) comes.incomplete
        ∙ (ap (λ b. not b && is_live past d.link) comes.whole ∙ comes.live)

    pub begun-next : held_at rules d.number (e ∷ past) ≡ held_on rules e to (λ address. has_consumer address (e ∷ past)) (unbegun d)
    begun-next =
        let on = held_on rules e to (λ address. has_consumer address (e ∷ past)) in
        ap (λ o. option_map (held rules (e ∷ past)) (where_passes (is_held rules (e ∷ past)) o)) (incoming_at-begun e past d.number d begun (eq-eqb d.number d.number refl))
        ∙ (kept-moves rules e past to d begun-steps
        ∙ (ap (λ b. option_and_then on (option_map (held rules past) (if b then Some d else None))) begun-kept ∙ ap on begun-held))

-- ---- of any number

module _ (rules : RuleSet) (e : Event) (past : List Event) (are : AreJudged rules (e ∷ past)) (lawful : first_broken rules (e ∷ past) ≡ None)
    (to : List ℕ) (addressed : IsAddressed e past to) (n : ℕ) where
  abbrev pub on : Held → Option Held
  on x = held_on rules e to (λ address. has_consumer address (e ∷ past)) x

  -- one that the event doesn't begin
  pub older : incoming_at n (e ∷ past) ≡ incoming_at n past → held_at rules n (e ∷ past) ≡ option_and_then on (held_at rules n past)
  older still = ap (λ o. option_map (held rules (e ∷ past)) (where_passes (is_held rules (e ∷ past)) o)) still ∙ by (incoming_at n past) refl
    where
      by : (o : Option Incoming) → incoming_at n past ≡ o → option_map (held rules (e ∷ past)) (where_passes (is_held rules (e ∷ past)) o)
          ≡ option_and_then on (option_map (held rules past) (where_passes (is_held rules past) o))
      by None is = refl
      by (Some d) is =
          kept-moves rules e past to d (kept-steps rules e past are lawful to addressed d (delivery_kept rules past n d (judged-kept rules past are.1) is))

  abbrev new : Option Incoming → Option Held
  new o = option_and_then (λ d. held_next rules e to (is_some_and o (λ d. has_consumer (address_behind e to (unbegun d)) (e ∷ past))) (unbegun d)) o

  abbrev next : Option Incoming → Option Held
  next o = if is_some_and o (λ d. d.number == n) then new o else option_and_then on (held_at rules n past)

  -- what one event makes of what is kept of a number
  pub held-behind : held_at rules n (e ∷ past) ≡ held_behind rules e to (λ address. has_consumer address (e ∷ past)) n (held_at rules n past)
  held-behind = by (incoming_begun e) refl
    where
      named : (d : Incoming) → incoming_begun e ≡ Some d → (b : Bool) → (d.number == n) ≡ b
          → held_at rules n (e ∷ past) ≡ (if b then on (unbegun d) else option_and_then on (held_at rules n past))
      named d begun true same = ap (λ m. held_at rules m (e ∷ past)) (sym (eqb-true d.number n same)) ∙ begun-next rules e past are lawful to addressed d begun
      named d begun false other = older (incoming_at-older e past n d begun other)

      by : (o : Option Incoming) → incoming_begun e ≡ o → held_at rules n (e ∷ past) ≡ held_behind rules e to (λ address. has_consumer address (e ∷ past)) n (held_at rules n past)
      by None none = older (incoming_at-same e past n none) ∙ sym (ap next none)
      by (Some d) begun = named d begun (d.number == n) refl ∙ sym (ap next begun)
