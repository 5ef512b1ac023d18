-- The frame that tells an outcome fits its producer's limit: row C asks for that, and all other states are short.
use Rattle.std.proofs.Common.{◌≡◌, refl, sym, subst, ℕ, ◌+◌, ◌≤◌, ◌<◌, ◌^◌, Bool, true, false, ◌||◌, List, length, Option, Some, None, option_map, option_and_then, unwrap_or, ◌==◌, le-leb, arith, if◌then◌else◌}
use Rattle.flow_counts.specs.declared.profile.TheConstants.{MAX_FRAME_SIZE}
use Rattle.amqp_perf.specs.Meaning.{ADisposition, DispositionFields}
use Rattle.amqp_perf.specs.Router.{outcome_told, delivery_failed, FitsFrame}
use Rattle.amqp_perf.specs.Writing.{IfThere}
use Rattle.trace_events.specs.Written.{spoken_octets, says, written_outcome}
use Rattle.route_dues.specs.Outcomes.{octets_in}
use Rattle.amqp_types.specs.Writing.{fits_octet}
use Rattle.amqp_perf.specs.declared.descriptor.Outcome.{Outcome}
use Rattle.amqp_perf.specs.declared.descriptor.Outcome.TheVariants.{Accepted, Rejected, Released, Modified}
use Rattle.amqp_perf.specs.Nested.{StateFields}
use Rattle.pairing_cert.specs.declared.note.Why.{Why}
use Rattle.pairing_cert.specs.declared.note.Why.TheVariants.{C, Z, S, L, N, M}
use Rattle.capture_form.specs.Rules.{RuleSet}
use Rattle.trace_events.specs.Event.{Event, Incoming, Outgoing}
use Rattle.trace_events.specs.Link.{is_live}
use Rattle.trace_events.specs.Disposition.{terminal_state}
use Rattle.trace_events.specs.Outgoing.{pairing, decision}
use Rattle.trace_events.specs.Waiting.{is_gone, is_of_multicast}
use Rattle.trace_events.specs.BestVerdict.{told_octets, whole_verdict}
use Rattle.trace_events.specs.Outcome.{row, anycast_row, paired_row, fits_producer, outcome_octets, bare_outcome, bare_octets, is_sent_settled}
use Rattle.trace_judge.specs.OutcomeSize.{state_size, uint_size}
use Rattle.trace_judge.proofs.OutcomeSizes.{outcome_long}
use Rattle.route_dues.proofs.Lengths.{limit_least}

-- in the octets of a state nothing is said of its outcome
pub outcome_said : (channel id : ℕ) (state : Option StateFields) → spoken_octets (says channel (ADisposition (outcome_told id state))) ≡ spoken_octets (written_outcome channel id (octets_in state))
unfolding spoken_octets
outcome_said channel id None = refl
outcome_said channel id (Some state) = refl

-- a state of seven octets at most
abbrev IsSmall : Option (List ℕ) → Type 0
IsSmall state = state_size state ≤ 7

bare_small : (outcome : Option Outcome) → IsSmall (option_map bare_octets outcome)
bare_small None = omega arith
bare_small (Some outcome) = omega arith

abbrev Fits : Incoming → List Event → Option (List ℕ) → Type 0
Fits d past state = fits_producer d state past ≡ true

list_small : (one : Bool) (n : ℕ) → (if one then 3 + n else 9 + n) ≤ 9 + n
list_small true n = omega arith
list_small false n = omega arith

uint_small : (zero one : Bool) → (if zero then 1 else if one then 2 else 5) ≤ 5
uint_small true one = omega arith
uint_small false true = omega arith
uint_small false false = omega arith

small_fits : (d : Incoming) (past : List Event) (state : Option (List ℕ)) → IsSmall state → Fits d past state
small_fits d past state small =
    let id = unwrap_or d.id 0 in
    let body = 3 + uint_size id + state_size state in
    le-leb _ _ (omega (arith, outcome_long d.link.session.channel id state, list_small (fits_octet (body + 1)) body, uint_small (id == 0) (fits_octet id), limit_least d.link.session.connection past, small))

-- the frame of a state that came in one frame can be counted
state_most : (state : Option StateFields) → IfThere FitsFrame state → state_size (octets_in state) ≤ MAX_FRAME_SIZE
state_most None short = omega arith
state_most (Some state) short = short

pub outcome_counted : (channel id : ℕ) (state : Option StateFields) → IfThere FitsFrame state → length (spoken_octets (says channel (ADisposition (outcome_told id state)))) < 2 ^ 32
outcome_counted channel id state short =
    let body = 3 + uint_size id + state_size (octets_in state) in
    subst (λ octets. length octets < 2 ^ 32) (sym (outcome_said channel id state))
    (omega (arith, outcome_long channel id (octets_in state), list_small (fits_octet (body + 1)) body, uint_small (id == 0) (fits_octet id), state_most state short))

where_true : {A : Type 0} (b : Bool) (x y : A) → (if b then Some x else None) ≡ Some y → (b ≡ true) × (x ≡ y)
where_true true x y is = (refl, cc)
where_true false x y is = absurd cc

where_false : {A : Type 0} (b : Bool) (x y : A) → (if b then None else Some x) ≡ Some y → x ≡ y
where_false true x y is = absurd cc
where_false false x y is = cc

module _ (d : Incoming) (past : List Event) (state : Option (List ℕ)) where
  small_one : (b : Bool) (small : Option (List ℕ)) → IsSmall small → (if b then Some small else None) ≡ Some state → Fits d past state
  small_one b small is h = subst (Fits d past) (where_true b small state h).1 (small_fits d past small is)

  told_small : (b : Bool) (verdict : Option Outcome) → (if b then option_map (λ outcome. Some (told_octets outcome)) verdict else None) ≡ Some state → Fits d past state
  told_small true (Some Accepted) h = small_one true (Some (bare_octets Accepted)) (omega arith) h
  told_small true (Some Rejected) h = small_one true (Some (bare_octets Rejected)) (omega arith) h
  told_small true (Some Released) h = small_one true (Some (bare_octets Released)) (omega arith) h
  told_small true (Some Modified) h = small_one true (Some delivery_failed.octets) (omega arith) h
  told_small true None h = absurd cc
  told_small false verdict h = absurd cc

  paired_fits : (j : Outgoing) (decided : Option DispositionFields) (why : Why) → paired_row d j past decided why ≡ Some state → Fits d past state
  paired_fits j (Some fields) C h = let t = where_true (fits_producer d (outcome_octets fields) past) (outcome_octets fields) state h in subst (Fits d past) t.1 t.0
  paired_fits j (Some fields) Z h =
      subst (Fits d past) (where_false (fits_producer d (outcome_octets fields) past) (bare_outcome fields) state h)
      (small_fits d past (bare_outcome fields) (bare_small (option_and_then (λ (s : StateFields). s.outcome) (terminal_state fields))))
  paired_fits j (Some fields) S h = small_one (is_sent_settled j past) (Some (bare_octets Accepted)) (omega arith) h
  paired_fits j None S h = small_one (is_sent_settled j past) (Some (bare_octets Accepted)) (omega arith) h
  paired_fits j None L h =
      subst (Fits d past) (where_false (is_live past j.link || is_sent_settled j past) (Some delivery_failed.octets) state h) (small_fits d past (Some delivery_failed.octets) (omega arith))
  paired_fits j None C h = absurd cc
  paired_fits j None Z h = absurd cc
  paired_fits j (Some fields) L h = absurd cc
  paired_fits j None N h = absurd cc
  paired_fits j None M h = absurd cc
  paired_fits j (Some fields) N h = absurd cc
  paired_fits j (Some fields) M h = absurd cc

  anycast_fits : (many : Bool) (o : Option Outgoing) (why : Why) → (if many then None else anycast_row d past why o) ≡ Some state → Fits d past state
  anycast_fits true o why h = absurd cc
  anycast_fits false None why h = absurd cc
  anycast_fits false (Some j) why h = paired_fits j (decision j past) why h

pub row_fits : (rules : RuleSet) (d : Incoming) (past : List Event) (why : Why) (state : Option (List ℕ)) → row rules d past why ≡ Some state → Fits d past state
row_fits rules d past N state is = small_one d past state (is_gone rules d past) (Some (bare_octets Released)) (omega arith) is
row_fits rules d past M state is = told_small d past state (is_of_multicast rules d past) (whole_verdict rules d past) is
row_fits rules d past C state is = anycast_fits d past state (is_of_multicast rules d past) (pairing d past) C is
row_fits rules d past Z state is = anycast_fits d past state (is_of_multicast rules d past) (pairing d past) Z is
row_fits rules d past S state is = anycast_fits d past state (is_of_multicast rules d past) (pairing d past) S is
row_fits rules d past L state is = anycast_fits d past state (is_of_multicast rules d past) (pairing d past) L is
