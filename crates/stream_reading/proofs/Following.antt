-- One step more of a stream.
use Rattle.std.proofs.Common.{◌≡◌, ℕ, ◌+◌, List, [], ◌∷◌, ◌++◌, take, drop, refl, sym, ap, ◌∙◌, subst, append_assoc}
use Rattle.std.proofs.lemmas.List.{append-nil, take-append-drop, drop-drop}
use Rattle.std.proofs.lemmas.List.Concat.{flat_map-cons}
use Rattle.std.proofs.lemmas.Grind.{flat_map-append}
use Rattle.stream_reading.specs.declared.step.Phase.{Phase}
use Rattle.stream_reading.specs.declared.step.Event.{Event}
use Rattle.stream_reading.specs.Stream.{MayStand, phase_after}
use Rattle.stream_reading.specs.Steps.{StepText, MayFollow, octets_of, Ahead, IsAfter, and_step}

-- a step may follow where it may stand
follow_on : (phase mid : Phase) (steps : List StepText) (event : Event) (octets : List ℕ) → MayFollow phase steps mid → MayStand mid event octets → MayFollow phase (and_step steps event octets) (phase_after event)
follow_on phase mid [] event octets at stands = (subst (λ (p : Phase). MayStand p event octets) at stands, refl)
follow_on phase mid (step ∷ steps) event octets at stands = (at.0, follow_on (phase_after step.event) mid steps event octets at.1 stands)

octets_on : (steps : List StepText) (event : Event) (octets : List ℕ) → octets_of (and_step steps event octets) ≡ octets_of steps ++ octets
octets_on steps event octets =
    let step : StepText = record { event = event; octets = octets } in
    flat_map-append (λ (s : StepText). s.octets) steps (step ∷ []) ∙ ap (λ (t : List ℕ). octets_of steps ++ t) (flat_map-cons (λ (s : StepText). s.octets) step [] ∙ append-nil octets)

-- a step was taken from the front of what was ahead
pub took_step : (stream : List ℕ) (steps : List StepText) (ahead : Ahead) (event : Event) (n : ℕ) → IsAfter stream steps ahead → MayStand ahead.phase event (take n ahead.octets)
    → IsAfter stream (and_step steps event (take n ahead.octets)) (record { phase = phase_after event; octets = drop n ahead.octets })
took_step stream steps ahead event n after stands = record {
  parts =
      after.parts ∙ ap (λ (t : List ℕ). octets_of steps ++ t) (sym (take-append-drop n ahead.octets)) ∙ sym (append_assoc (octets_of steps) (take n ahead.octets) (drop n ahead.octets))
      ∙ ap (λ (t : List ℕ). t ++ drop n ahead.octets) (sym (octets_on steps event (take n ahead.octets)));
  follow = follow_on _ ahead.phase steps event (take n ahead.octets) after.follow stands;
}

-- a piece was fed
pub fed_piece : (stream piece : List ℕ) (steps : List StepText) (ahead : Ahead) → IsAfter stream steps ahead → IsAfter (stream ++ piece) steps (record { phase = ahead.phase; octets = ahead.octets ++ piece })
fed_piece stream piece steps ahead after = record {
  parts = ap (λ (t : List ℕ). t ++ piece) after.parts ∙ append_assoc (octets_of steps) ahead.octets piece;
  follow = after.follow;
}

-- what is ahead then, by what is kept
pub took_ahead : (phase next : Phase) (items : List ℕ) (taken n : ℕ) (event : Event) (ahead : Ahead) → next ≡ phase_after event → ◌≡◌ {A = Ahead} (record { phase = phase; octets = drop taken items }) ahead
    → ◌≡◌ {A = Ahead} (record { phase = next; octets = drop (taken + n) items }) (record { phase = phase_after event; octets = drop n ahead.octets })
took_ahead phase next items taken n event ahead is view =
    ap (λ (p : Phase). record { phase = p; octets = drop (taken + n) items }) is
    ∙ ap (λ (t : List ℕ). record { phase = phase_after event; octets = t }) (sym (drop-drop n taken items) ∙ ap (λ (a : Ahead). drop n a.octets) view)
