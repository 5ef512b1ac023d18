-- The state that a row tells can be written: where it is a consumer's own, it was read.
use Rattle.std.proofs.Common.{◌≡◌, refl, sym, ap, subst, ◌∙◌, ℕ, ◌+◌, ◌≤◌, Bool, true, false, ◌||◌, List, [], ◌∷◌, length, Option, Some, None, Result, Ok, Err, is_some, option_map, option_and_then, unwrap_or, arith, if◌then◌else◌}
use Rattle.std.proofs.lemmas.Bool.{leb-true}
use Rattle.flow_counts.specs.declared.profile.TheConstants.{MAX_FRAME_SIZE}
use Rattle.amqp_types.specs.Writing.{fits_octet}
use Rattle.amqp_frames.specs.declared.frame.FrameKind.{FrameKind}
use Rattle.amqp_frames.specs.declared.frame.FrameKind.TheVariants as kinds
use Rattle.amqp_frames.specs.Frame as frames
use Rattle.amqp_frames.specs.Reading.{whole_frame}
use Rattle.amqp_perf.specs.declared.fault.PerfFault.{PerfFault}
use Rattle.amqp_perf.specs.declared.descriptor.Outcome.{Outcome}
use Rattle.amqp_perf.specs.declared.descriptor.Outcome.TheVariants.{Accepted, Rejected, Released, Modified}
use Rattle.amqp_perf.specs.Nested.{StateFields}
use Rattle.amqp_perf.specs.Meaning.{Meaning, AnOpen, ABegin, AnAttach, AFlow, ATransfer, ADisposition, ADetach, AnEnd, AClose, DispositionFields, state_told}
use Rattle.amqp_perf.specs.Reading.{performative_at}
use Rattle.amqp_perf.specs.Router.{bare_state, delivery_failed}
use Rattle.amqp_perf.specs.Writing.{IfThere, IsWritableState}
use Rattle.amqp_perf.proofs.Spoken.{performative_found}
use Rattle.amqp_perf.proofs.Within.{read_state_writable}
use Rattle.amqp_perf.proofs.Writable.{bare_state_writable, delivery_failed_writable}
use Rattle.pairing_cert.specs.declared.note.Why.{Why}
use Rattle.pairing_cert.specs.declared.note.Why.TheVariants.{C, Z, S, L, N, M}
use Rattle.capture_form.specs.declared.records.What.{What}
use Rattle.capture_form.specs.declared.records.What.TheVariants as whats
use Rattle.capture_form.specs.Rules.{RuleSet}
use Rattle.trace_events.specs.Words.{or_else, where_passes}
use Rattle.trace_events.specs.Frame.{Spoken, spoken_in, body_in, body_by, body_on, said_on, frame_read}
use Rattle.trace_events.specs.Event.{Event, Incoming, Outgoing, in_frame}
use Rattle.trace_events.specs.Said.{as_disposition, in_disposition}
use Rattle.trace_events.specs.Connection.{frame_limit}
use Rattle.trace_events.specs.Link.{is_live}
use Rattle.trace_events.specs.Disposition.{terminal_state, is_decisive}
use Rattle.trace_events.specs.Outgoing.{answering, deciding, first_deciding, decision, pairing}
use Rattle.trace_events.specs.Waiting.{is_gone, is_of_multicast}
use Rattle.trace_events.specs.History.{moment_of}
use Rattle.trace_events.proofs.Along.{if_some}
use Rattle.trace_events.proofs.Judged.{AreJudged}
use Rattle.trace_events.proofs.Links.{passing}
use Rattle.trace_events.specs.BestVerdict.{told_octets, whole_verdict}
use Rattle.trace_events.specs.Outcome.{row, anycast_row, paired_row, fits_producer, outcome_octets, bare_outcome, bare_octets, is_sent_settled}
use Rattle.trace_events.specs.Written.{spoken_octets, written_outcome}
use Rattle.trace_judge.specs.OutcomeSize.{uint_size}
use Rattle.trace_judge.proofs.OutcomeSizes.{outcome_long}
use Rattle.route_dues.specs.Writing.{IsLawful}
use Rattle.route_dues.specs.Outcomes.{HasState}
use Rattle.route_dues.proofs.Connections.{lawful_judged}
use Rattle.route_dues.proofs.Lengths.{within}
use Rattle.route_dues.proofs.OutcomeFits.{row_fits}

same_some : {A : Type 0} (a b : A) → Some a ≡ Some b → a ≡ b
same_some a b is = cc

-- ---- the state of a disposition that was read

abbrev CanTell : Meaning → Type 0
CanTell meaning = IfThere IsWritableState (state_told meaning)

by_read : (channel : ℕ) (body : List ℕ) (read : Result (Meaning × List ℕ) PerfFault) → performative_at body ≡ read → (spoken : Spoken) → spoken_in (said_on channel read) ≡ Some spoken → CanTell spoken.meaning
by_read channel body (Ok x) at spoken is =
    let found = performative_found body x at in
    subst (λ (s : Spoken). CanTell s.meaning) (same_some (record { channel = channel; meaning = x.0; payload = x.1 }) spoken is) (read_state_writable found.front x.0 found.is)
by_read channel body (Err fault) at spoken is = absurd cc

by_body : (channel : ℕ) (body : List ℕ) (spoken : Spoken) → spoken_in (body_on channel body) ≡ Some spoken → CanTell spoken.meaning
by_body channel [] spoken is = absurd cc
by_body channel (octet ∷ rest) spoken is = by_read channel (octet ∷ rest) (performative_at (octet ∷ rest)) refl spoken is

by_kind : (kind : FrameKind) (channel : ℕ) (body : List ℕ) (spoken : Spoken) → spoken_in (body_by kind channel body) ≡ Some spoken → CanTell spoken.meaning
by_kind kinds.Amqp channel body spoken is = by_body channel body spoken is
by_kind kinds.Sasl channel body spoken is = absurd cc

by_frame : (o : Option frames.Frame) (spoken : Spoken) → spoken_in (body_in o) ≡ Some spoken → CanTell spoken.meaning
by_frame None spoken is = absurd cc
by_frame (Some frame) spoken is = by_kind frame.kind frame.channel frame.body spoken is

said_writable : (octets : List ℕ) (spoken : Spoken) → spoken_in (frame_read octets).body ≡ Some spoken → CanTell spoken.meaning
unfolding frame_read
said_writable octets spoken is = by_frame (whole_frame MAX_FRAME_SIZE octets) spoken is

by_meaning : (meaning : Meaning) (fields : DispositionFields) → CanTell meaning → as_disposition meaning ≡ Some fields → IfThere IsWritableState fields.state
by_meaning (ADisposition x) fields can is = subst (λ (y : DispositionFields). IfThere IsWritableState y.state) (same_some x fields is) can
by_meaning (AnOpen x) fields can is = absurd cc
by_meaning (ABegin x) fields can is = absurd cc
by_meaning (AnAttach x) fields can is = absurd cc
by_meaning (AFlow x) fields can is = absurd cc
by_meaning (ATransfer x) fields can is = absurd cc
by_meaning (ADetach x) fields can is = absurd cc
by_meaning (AnEnd x) fields can is = absurd cc
by_meaning (AClose x) fields can is = absurd cc

abbrev said : Option Spoken → Option DispositionFields
said o = option_and_then as_disposition (option_map (λ (spoken : Spoken). spoken.meaning) o)

by_spoken : (octets : List ℕ) (o : Option Spoken) (fields : DispositionFields) → spoken_in (frame_read octets).body ≡ o → said o ≡ Some fields → IfThere IsWritableState fields.state
by_spoken octets None fields at is = absurd cc
by_spoken octets (Some spoken) fields at is = by_meaning spoken.meaning fields (said_writable octets spoken at) is

what_writable : (what : What) (fields : DispositionFields) → said (option_and_then (λ frame. spoken_in frame.body) (in_frame (moment_of what))) ≡ Some fields → IfThere IsWritableState fields.state
what_writable (whats.In octets) fields is = by_spoken octets (spoken_in (frame_read octets).body) fields refl is
what_writable whats.Opened fields is = absurd cc
what_writable (whats.Out octets) fields is = absurd cc
what_writable whats.Lost fields is = absurd cc
what_writable whats.Broken fields is = absurd cc

-- ---- of a decision

module _ (rules : RuleSet) (e : Event) (past : List Event) (are : AreJudged rules (e ∷ past)) (j : Outgoing) (fields : DispositionFields) where
  said_here : in_disposition e ≡ Some fields → IfThere IsWritableState fields.state
  said_here is = what_writable are.0.0.what fields (sym (ap in_disposition are.0.1) ∙ is)

  deciding_here : deciding j e past ≡ Some fields → IfThere IsWritableState fields.state
  deciding_here is =
      let one = passing is_decisive (answering j e) fields (if_some (is_live past j.link) (where_passes is_decisive (answering j e)) fields is).1 in
      said_here (passing _ (in_disposition e) fields (if_some _ _ fields one.0).1).0

decided_writable : (rules : RuleSet) (past : List Event) (j : Outgoing) (fields : DispositionFields) → AreJudged rules past → first_deciding j past ≡ Some fields → IfThere IsWritableState fields.state
decided_writable rules [] j fields are is = absurd cc
decided_writable rules (e ∷ past) j fields are is = by (first_deciding j past) refl is (decided_writable rules past j fields are.1)
  where
    by : (o : Option DispositionFields) → first_deciding j past ≡ o → or_else o (deciding j e past) ≡ Some fields → (first_deciding j past ≡ Some fields → IfThere IsWritableState fields.state) → IfThere IsWritableState fields.state
    by None none is earlier = deciding_here rules e past are j fields is
    by (Some x) at is earlier = earlier (at ∙ is)

decision_writable : (rules : RuleSet) (past : List Event) (j : Outgoing) (fields : DispositionFields) → AreJudged rules past → decision j past ≡ Some fields → IfThere IsWritableState fields.state
decision_writable rules past j fields are is = by j.link.is_pre_settled is
  where
    by : (b : Bool) → (if b then None else first_deciding j past) ≡ Some fields → IfThere IsWritableState fields.state
    by true is = absurd cc
    by false is = decided_writable rules past j fields are is

-- ---- of a row

abbrev Made : List ℕ → Type 0
Made octets = (state : StateFields) × (state.octets ≡ octets) × IsWritableState state

bare_made : (outcome : Outcome) (octets : List ℕ) → bare_octets outcome ≡ octets → Made octets
bare_made outcome octets is = (bare_state outcome, is, bare_state_writable outcome)

own_made : (o : Option StateFields) (octets : List ℕ) → IfThere IsWritableState o → option_map (λ (s : StateFields). s.octets) (where_passes (λ (s : StateFields). is_some s.outcome) o) ≡ Some octets → Made octets
own_made None octets can is = absurd cc
own_made (Some state) octets can is = by (is_some state.outcome) is
  where
    by : (b : Bool) → option_map (λ (s : StateFields). s.octets) (if b then Some state else None) ≡ Some octets → Made octets
    by true is = (state, same_some state.octets octets is, can)
    by false is = absurd cc

outcome_made : (o : Option Outcome) (octets : List ℕ) → option_map bare_octets o ≡ Some octets → Made octets
outcome_made None octets is = absurd cc
outcome_made (Some outcome) octets is = bare_made outcome octets (same_some (bare_octets outcome) octets is)

where_true : {A : Type 0} (b : Bool) (x y : A) → (if b then Some x else None) ≡ Some y → x ≡ y
where_true true x y is = cc
where_true false x y is = absurd cc

where_false : {A : Type 0} (b : Bool) (x y : A) → (if b then None else Some x) ≡ Some y → x ≡ y
where_false true x y is = absurd cc
where_false false x y is = cc

module _ (rules : RuleSet) (d : Incoming) (past : List Event) (are : AreJudged rules past) (octets : List ℕ) where
  bare_if : (b : Bool) (outcome : Outcome) → (if b then Some (Some (bare_octets outcome)) else None) ≡ Some (Some octets) → Made octets
  bare_if b outcome is = bare_made outcome octets (same_some (bare_octets outcome) octets (where_true b (Some (bare_octets outcome)) (Some octets) is))

  verdict_made : (b : Bool) (verdict : Option Outcome) → (if b then option_map (λ outcome. Some (told_octets outcome)) verdict else None) ≡ Some (Some octets) → Made octets
  verdict_made true (Some Accepted) is = bare_if true Accepted is
  verdict_made true (Some Rejected) is = bare_if true Rejected is
  verdict_made true (Some Released) is = bare_if true Released is
  verdict_made true (Some Modified) is =
      (delivery_failed, same_some delivery_failed.octets octets (where_true true (Some delivery_failed.octets) (Some octets) is), delivery_failed_writable)
  verdict_made true None is = absurd cc
  verdict_made false verdict is = absurd cc

  paired_made : (j : Outgoing) (decided : Option DispositionFields) (why : Why) → decision j past ≡ decided → paired_row d j past decided why ≡ Some (Some octets) → Made octets
  paired_made j (Some fields) C at is =
      own_made fields.state octets (decision_writable rules past j fields are at) (where_true (fits_producer d (outcome_octets fields) past) (outcome_octets fields) (Some octets) is)
  paired_made j (Some fields) Z at is =
      outcome_made (option_and_then (λ (s : StateFields). s.outcome) (terminal_state fields)) octets (where_false (fits_producer d (outcome_octets fields) past) (bare_outcome fields) (Some octets) is)
  paired_made j (Some fields) S at is = bare_if (is_sent_settled j past) Accepted is
  paired_made j None S at is = bare_if (is_sent_settled j past) Accepted is
  paired_made j None L at is =
      (delivery_failed, same_some delivery_failed.octets octets (where_false (is_live past j.link || is_sent_settled j past) (Some delivery_failed.octets) (Some octets) is), delivery_failed_writable)
  paired_made j None C at is = absurd cc
  paired_made j None Z at is = absurd cc
  paired_made j (Some fields) L at is = absurd cc
  paired_made j None N at is = absurd cc
  paired_made j None M at is = absurd cc
  paired_made j (Some fields) N at is = absurd cc
  paired_made j (Some fields) M at is = absurd cc

  anycast_made : (many : Bool) (o : Option Outgoing) (why : Why) → (if many then None else anycast_row d past why o) ≡ Some (Some octets) → Made octets
  anycast_made true o why is = absurd cc
  anycast_made false None why is = absurd cc
  anycast_made false (Some j) why is = paired_made j (decision j past) why refl is

  row_made : (why : Why) → row rules d past why ≡ Some (Some octets) → Made octets
  row_made N is = bare_if (is_gone rules d past) Released is
  row_made M is = verdict_made (is_of_multicast rules d past) (whole_verdict rules d past) is
  row_made C is = anycast_made (is_of_multicast rules d past) (pairing d past) C is
  row_made Z is = anycast_made (is_of_multicast rules d past) (pairing d past) Z is
  row_made S is = anycast_made (is_of_multicast rules d past) (pairing d past) S is
  row_made L is = anycast_made (is_of_multicast rules d past) (pairing d past) L is

-- ---- and it came in one frame

list_least : (one : Bool) (n : ℕ) → n ≤ (if one then 3 + n else 9 + n)
list_least true n = omega arith
list_least false n = omega arith

told_short : (d : Incoming) (past : List Event) (octets : List ℕ) → fits_producer d (Some octets) past ≡ true → length octets ≤ MAX_FRAME_SIZE
told_short d past octets fits =
    let id = unwrap_or d.id 0 in
    let frame = spoken_octets (written_outcome d.link.session.channel id (Some octets)) in
    let limit = frame_limit d.link.session.connection past in
    let short = within frame d.link.session.connection past (leb-true (length frame) limit fits) in
    let body = 3 + uint_size id + length octets in
    omega (arith, short, outcome_long d.link.session.channel id (Some octets), list_least (fits_octet (body + 1)) body)

-- the state that a row tells can be written
pub row_state : (rules : RuleSet) (past : List Event) (d : Incoming) (why : Why) (octets : List ℕ) → IsLawful rules past → row rules d past why ≡ Some (Some octets) → HasState octets
row_state rules past d why octets lawful is =
    let made = row_made rules d past (lawful_judged rules past lawful) octets why is in
    let short = told_short d past octets (row_fits rules d past why (Some octets) is) in
    record {
      state = made.0;
      same = made.1;
      writable = made.2;
      short = subst (λ xs. length xs ≤ MAX_FRAME_SIZE) (sym made.1) short;
    }
