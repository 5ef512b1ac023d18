-- Whether a delivery from a client is undecided behind one event.
use Rattle.std.proofs.Common.{◌≡◌, refl, sym, ap, ◌∙◌, Bool, true, false, not, ◌&&◌, ◌||◌, List, ◌∷◌}
use Rattle.capture_form.specs.Rules.{RuleSet}
use Rattle.trace_events.specs.Words.{is_number}
use Rattle.trace_events.specs.Event.{Event, Incoming}
use Rattle.trace_events.specs.Ends.{ends_link}
use Rattle.trace_events.specs.Link.{is_live}
use Rattle.trace_events.specs.Address.{has_consumer}
use Rattle.trace_events.specs.Incoming.{address_of, completes, is_complete, is_aborted, is_settled, is_told, settles_part, settles_id, aborts}
use Rattle.trace_events.specs.Outgoing.{is_paired}
use Rattle.trace_events.specs.Queue.{pairs}
use Rattle.trace_events.specs.Settling.{is_closed}
use Rattle.trace_events.specs.Waiting.{is_of_multicast, always_had_consumer, is_waiting, is_undecided}
use Rattle.trace_events.proofs.EveryStep.{is_paired-step}
use Rattle.state_incoming.specs.Held.{fate_of, says_arriving, undecided_next}
use Rattle.state_incoming.proofs.FateSteps.{arriving-fate, waiting-fate, unpaired-same, multicast-same}

-- k: the event completes it, b: it pairs it; c: it was complete, p: paired, a: its address always had a consumer; h: it has one
waits-bits : (c k m p b a h : Bool) → (c ≡ true → k ≡ false) → (not m && (k || c) && not (b || p)) && (h && (k || a)) ≡ true → not c || (not m && c && not p) && a ≡ true
waits-bits false k m p b a h once is = refl
waits-bits true true m p b a h once is = let never : true ≡ false = once refl in absurd cc
waits-bits true false true p b a h once is = absurd cc
waits-bits true false false p true a h once is = absurd cc
waits-bits true false false true false a h once is = absurd cc
waits-bits true false false false false a false once is = absurd cc
waits-bits true false false false false false true once is = absurd cc
waits-bits true false false false false true true once is = refl

-- one that waits behind the event was incomplete before it, or waited
waited : (rules : RuleSet) (e : Event) (past : List Event) (d : Incoming) → (is_complete d past ≡ true → completes d e ≡ false) → is_waiting rules d (e ∷ past) ≡ true
    → not (is_complete d past) || is_waiting rules d past ≡ true
waited rules e past d once is =
    let now = is_of_multicast rules d (e ∷ past) in
    ap (λ u. not (is_complete d past) || u && always_had_consumer d past)
    (sym (unpaired-same (is_complete d past) (is_of_multicast rules d past) now (is_paired d past) (multicast-same rules d e past once)))
    ∙ waits-bits (is_complete d past) (completes d e) now (is_paired d past) (pairs d e) (always_had_consumer d past) (has_consumer (address_of d (e ∷ past)) (e ∷ past)) once
    (sym (ap (λ p. (not now && is_complete d (e ∷ past) && not p) && always_had_consumer d (e ∷ past)) (is_paired-step e past d)) ∙ is)

either-bits : (x y : Bool) → not (x || y) ≡ not (y || x || false)
either-bits true true = refl
either-bits true false = refl
either-bits false true = refl
either-bits false false = refl

-- s: settled before, t: told before; now by the event
quiet-bits : (s t settles tells : Bool) → not ((settles || s) || (tells || t)) ≡ not (s || t) && not ((tells || t) || (settles || s) || false)
quiet-bits true t true true = refl
quiet-bits true t true false = refl
quiet-bits true t false true = refl
quiet-bits true t false false = refl
quiet-bits false true true true = refl
quiet-bits false true true false = refl
quiet-bits false true false true = refl
quiet-bits false true false false = refl
quiet-bits false false true true = refl
quiet-bits false false true false = refl
quiet-bits false false false true = refl
quiet-bits false false false false = refl

-- w: it waited, v: it waits behind the event
open-bits : (c k w v s t settles tells : Bool) → (c ≡ true → k ≡ false) → (v ≡ true → not c || w ≡ true)
    → not (k || c) || v || not ((settles || s) || (tells || t))
    ≡ (not c || w || not (s || t)) && (not (k || c) || v || not ((tells || t) || (settles || s) || false))
open-bits false true w true s t settles tells once waits = refl
open-bits false true w false s t settles tells once waits = either-bits (settles || s) (tells || t)
open-bits false false w v s t settles tells once waits = refl
open-bits true true w v s t settles tells once waits = let never : true ≡ false = once refl in absurd cc
open-bits true false true true s t settles tells once waits = refl
open-bits true false true false s t settles tells once waits = either-bits (settles || s) (tells || t)
open-bits true false false true s t settles tells once waits = let never : false ≡ true = waits refl in absurd cc
open-bits true false false false s t settles tells once waits = quiet-bits s t settles tells

undecided-bits : (live ended up aborted c k w v s t settles tells : Bool) → (c ≡ true → k ≡ false) → (v ≡ true → not c || w ≡ true)
    → (live && not ended) && not (up || aborted) && (not (k || c) || v || not ((settles || s) || (tells || t)))
    ≡ not ended && not up && (live && not aborted && (not c || w || not (s || t))) && (not (k || c) || v || not ((tells || t) || (settles || s) || not (live && not ended)))
undecided-bits false true up aborted c k w v s t settles tells once waits = refl
undecided-bits false false true aborted c k w v s t settles tells once waits = refl
undecided-bits false false false aborted c k w v s t settles tells once waits = refl
undecided-bits true true up aborted c k w v s t settles tells once waits = refl
undecided-bits true false true aborted c k w v s t settles tells once waits = refl
undecided-bits true false false true c k w v s t settles tells once waits = refl
undecided-bits true false false false c k w v s t settles tells once waits = open-bits c k w v s t settles tells once waits

-- of one that is completed once, whose link lives on unless the event ends it
pub undecided-moves : (rules : RuleSet) (e : Event) (past : List Event) (d : Incoming) → is_live (e ∷ past) d.link ≡ is_live past d.link && not (ends_link d.link e)
    → (is_complete d past ≡ true → completes d e ≡ false)
    → is_undecided rules d (e ∷ past) ≡ undecided_next e d (fate_of rules d (e ∷ past)) (is_closed (e ∷ past) d) (is_undecided rules d past)
undecided-moves rules e past d live once =
    let later = is_told d (e ∷ past) || is_settled d (e ∷ past) in
    let on = not (ends_link d.link e) && not (aborts d e) && is_undecided rules d past in
    ap (λ b. b && not (is_aborted d (e ∷ past)) && (not (is_complete d (e ∷ past)) || is_waiting rules d (e ∷ past) || not (is_settled d (e ∷ past) || is_told d (e ∷ past)))) live
    ∙ (undecided-bits (is_live past d.link) (ends_link d.link e) (aborts d e) (is_aborted d past) (is_complete d past) (completes d e) (is_waiting rules d past) (is_waiting rules d (e ∷ past))
    (is_settled d past) (is_told d past) (settles_part d e || settles_id d e) (is_number e.told d.number) once (waited rules e past d once)
    ∙ (ap (λ b. on && (not (is_complete d (e ∷ past)) || is_waiting rules d (e ∷ past) || not (later || not b))) (sym live)
    ∙ (ap (λ b. on && (b || is_waiting rules d (e ∷ past) || not (is_closed (e ∷ past) d))) (sym (arriving-fate rules d (e ∷ past)))
    ∙ ap (λ b. on && (says_arriving (fate_of rules d (e ∷ past)) || b || not (is_closed (e ∷ past) d))) (waiting-fate rules d (e ∷ past)))))
