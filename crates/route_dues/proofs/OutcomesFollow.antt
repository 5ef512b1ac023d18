-- An outcome that is to be told breaks no clause and keeps the duties.
use Rattle.std.proofs.Common.{◌≡◌, refl, sym, ap, subst, ◌∙◌, ℕ, Bool, true, false, ◌&&◌, ◌||◌, not, List, [], ◌∷◌, length, Option, Some, None, is_some, option_map, option_and_then, unwrap_or, nat_le, ◌==◌, eq-eqb, if◌then◌else◌}
use Rattle.std.specs.Prelude.{find}
use Rattle.std.specs.List.{list_any}
use lib.Pointwise.{bytes_decides}
use Rattle.amqp_perf.specs.declared.attach.Role.TheVariants.{Receiver}
use Rattle.amqp_perf.specs.Nested.{StateFields}
use Rattle.amqp_perf.specs.Meaning.{ADisposition, DispositionFields}
use Rattle.amqp_perf.specs.Router.{outcome_told}
use Rattle.pairing_cert.specs.declared.note.Note.TheVariants as notes
use Rattle.pairing_cert.specs.declared.note.Why.{Why}
use Rattle.capture_form.specs.Rules.{RuleSet}
use Rattle.trace_events.specs.Frame.{Spoken}
use Rattle.trace_events.specs.Words.{is_some_and, is_number, are_same_octets}
use Rattle.trace_events.specs.Event.{Event, Incoming}
use Rattle.trace_events.specs.Connection.{frame_limit}
use Rattle.trace_events.specs.Session.{IsLiveOn}
use Rattle.trace_events.specs.Link.{is_live}
use Rattle.trace_events.specs.Incoming.{incoming_at, incoming_deliveries, is_complete, is_aborted, is_settled, is_told}
use Rattle.trace_events.specs.Waiting.{is_undecided, is_undecided_of, is_waiting}
use Rattle.trace_events.specs.Settling.{to_tell}
use Rattle.trace_events.specs.History.{told_by_role}
use Rattle.trace_events.proofs.Along.{and_first, and_last}
use Rattle.trace_events.proofs.Judged.{AreJudged}
use Rattle.trace_events.specs.declared.clause.Clause.{Clause}
use Rattle.trace_events.specs.declared.clause.Clause.TheVariants.{L1, L2, L3, L4, L5, L6, L7, L8, L9, L10, L11, L12, L13, L14}
use Rattle.trace_events.specs.Clauses.{spoken_meets, clauses}
use Rattle.trace_events.specs.DispositionClause.{is_outcome_of, tells_by}
use Rattle.trace_events.specs.Outcome.{may_be_told, row}
use Rattle.trace_events.specs.Written.{spoken_octets, says, written_outcome}
use Rattle.trace_events.proofs.IdsApart.{AreApart, history_apart, found_any, one_found}
use Rattle.trace_events.proofs.IncomingProgress.{judged-kept}
use Rattle.trace_events.proofs.LinkEnds.{lives-live}
use Rattle.trace_events.proofs.OneConsumer.{not-true}
use Rattle.trace_events.proofs.Parts.{delivery_kept}
use Rattle.trace_events.proofs.PartsGoOn.{complete-whole}
use Rattle.trace_duties.specs.Diligent.{is_of_answer}
use Rattle.route_answers.specs.Writing.{frame_of}
use Rattle.route_dues.specs.Writing.{writing, IsLawful, MayFollow}
use Rattle.route_dues.specs.Outcomes.{octets_in, outcome_frame}
use Rattle.route_answers.proofs.Words.{or_right, both}
use Rattle.route_answers.proofs.Words.{none_broken}
use Rattle.route_dues.proofs.Connections.{lawful_judged, may_write}
use Rattle.route_dues.proofs.OutcomeFits.{outcome_said, row_fits}

-- ---- the delivery that its id names

found_one : {A : Type 0} (test : A → Bool) (xs : List A) → list_any test xs ≡ true → (x : A) × (find test xs ≡ Some x) × (test x ≡ true)
found_one test [] any = absurd cc
found_one test (x ∷ xs) any = by (test x) refl any (found_one test xs)
  where
    by : (b : Bool) → test x ≡ b → b || list_any test xs ≡ true → (list_any test xs ≡ true → (y : _) × (find test xs ≡ Some y) × (test y ≡ true))
        → (y : _) × ((if b then Some x else find test xs) ≡ Some y) × (test y ≡ true)
    by true is any later = (x, refl, is)
    by false is any later = later any

undecided_by : (live aborted complete waiting settled told : Bool) → live ≡ true → aborted ≡ false → settled ≡ false → told ≡ false
    → live && not aborted && (not complete || waiting || not (settled || told)) ≡ true
undecided_by true false complete waiting false false a b c d = or_right (not complete || waiting) true refl
undecided_by false aborted complete waiting settled told a b c d = absurd cc
undecided_by true true complete waiting settled told a b c d = absurd cc
undecided_by true false complete waiting true told a b c d = absurd cc
undecided_by true false complete waiting false true a b c d = absurd cc

some_of : {A : Type 0} (o : Option A) → is_some o ≡ true → (x : A) × (o ≡ Some x)
some_of None is = absurd cc
some_of (Some x) is = (x, refl)

module _ (rules : RuleSet) (past : List Event) (d : Incoming) (lawful : IsLawful rules past) (found : incoming_at d.number past ≡ Some d) (may : may_be_told d past ≡ true) where
  are : AreJudged rules past
  are = lawful_judged rules past lawful

  lives : is_live past d.link ≡ true
  lives = and_last (is_complete d past && not (is_settled d past) && not (is_told d past)) (is_live past d.link) may

  open_yet : is_complete d past && not (is_settled d past) && not (is_told d past) ≡ true
  open_yet = and_first (is_complete d past && not (is_settled d past) && not (is_told d past)) (is_live past d.link) may

  unsettled : is_complete d past && not (is_settled d past) ≡ true
  unsettled = and_first (is_complete d past && not (is_settled d past)) (not (is_told d past)) open_yet

  pub session_lives : IsLiveOn d.link.session past
  session_lives = (lives-live rules past are d.link (delivery_kept rules past d.number d (judged-kept rules past are) found).link.at lives).0

  pub id_is : (id : ℕ) × (d.id ≡ Some id)
  id_is = some_of d.id (delivery_kept rules past d.number d (judged-kept rules past are) found).given

  undecided : is_undecided_of rules d.link.session id_is.0 past d ≡ true
  undecided =
      both (d.link.session.number == d.link.session.number && is_number d.id id_is.0) (is_undecided rules d past)
      (both (d.link.session.number == d.link.session.number) (is_number d.id id_is.0) (eq-eqb d.link.session.number d.link.session.number refl)
      (ap (λ o. is_number o id_is.0) id_is.1 ∙ eq-eqb id_is.0 id_is.0 refl))
      (undecided_by (is_live past d.link) (is_aborted d past) (is_complete d past) (is_waiting rules d past) (is_settled d past) (is_told d past)
      lives (complete-whole rules past are d (and_first (is_complete d past) (not (is_settled d past)) unsettled))
      (not-true (is_settled d past) (and_last (is_complete d past) (not (is_settled d past)) unsettled))
      (not-true (is_told d past) (and_last (is_complete d past && not (is_settled d past)) (not (is_told d past)) open_yet)))

  pub named_by_id : to_tell rules d.link.session id_is.0 past ≡ Some d
  named_by_id =
      let test = is_undecided_of rules d.link.session id_is.0 past in
      let xs = incoming_deliveries past in
      let one = found_one test xs (found_any test (λ x. x.number == d.number) xs d found undecided) in
      let apart : AreApart rules past = subst (λ (events : List Event). AreApart rules events) (sym lawful.is) (history_apart rules lawful.records) in
      one.1 ∙ ap Some (one_found test test (λ x. x.number == d.number) xs one.0 d (apart d.link.session id_is.0) one.1 found one.2 undecided)

-- ---- the event

same_state : (state : Option (List ℕ)) → are_same_octets state state ≡ true
same_state None = refl
same_state (Some octets) = (bytes_decides octets octets).1 refl

module _ (rules : RuleSet) (past : List Event) (d : Incoming) (why : Why) (state : Option StateFields) (id : ℕ) (lawful : IsLawful rules past)
    (live : IsLiveOn d.link.session past) (given : d.id ≡ Some id) (names : to_tell rules d.link.session id past ≡ Some d) (found : incoming_at d.number past ≡ Some d)
    (may : may_be_told d past ≡ true) (is : row rules d past why ≡ Some (octets_in state)) where
  abbrev fields : DispositionFields
  fields = outcome_told id state

  abbrev frame : Spoken
  frame = says d.link.session.channel (ADisposition fields)

  abbrev e : Event
  e = writing rules past d.link.session.connection (notes.Told why) frame

  told_is : e.told ≡ Some d.number
  told_is = ap (option_and_then (λ s. told_by_role rules s id Receiver past)) live ∙ ap (option_map (λ (x : Incoming). x.number)) names

  fits : nat_le (length (spoken_octets frame)) (frame_limit d.link.session.connection past) ≡ true
  fits =
      ap (λ octets. nat_le (length octets) (frame_limit d.link.session.connection past)) (outcome_said d.link.session.channel id state)
      ∙ (sym (ap (λ o. nat_le (length (spoken_octets (written_outcome d.link.session.channel (unwrap_or o 0) (octets_in state)))) (frame_limit d.link.session.connection past)) given)
      ∙ row_fits rules d past why (octets_in state) is)

  eleven : is_some_and (option_and_then (λ n. incoming_at n past) e.told) (is_outcome_of rules e fields past) ≡ true
  eleven =
      ap (λ o. is_some_and (option_and_then (λ n. incoming_at n past) o) (is_outcome_of rules e fields past)) told_is
      ∙ (ap (λ o. is_some_and o (is_outcome_of rules e fields past)) found
      ∙ both (may_be_told d past) (tells_by rules d (notes.Told why) (octets_in state) past) may
      (ap (λ o. is_some_and o (are_same_octets (octets_in state))) is ∙ same_state (octets_in state)))

  told_meets : (clause : Clause) → spoken_meets rules e (frame_of frame) past frame clause ≡ true
  told_meets L1 =
      both _ (nat_le (length (spoken_octets frame)) (frame_limit d.link.session.connection past))
      (may_write rules past d.link.session lawful live (ADisposition fields) refl) fits
  told_meets L11 = both (id == id) (is_some_and (option_and_then (λ n. incoming_at n past) e.told) (is_outcome_of rules e fields past)) (eq-eqb id id refl) eleven
  told_meets L2 = refl
  told_meets L3 = refl
  told_meets L4 = refl
  told_meets L5 = refl
  told_meets L6 = refl
  told_meets L7 = refl
  told_meets L8 = refl
  told_meets L9 = refl
  told_meets L10 = refl
  told_meets L12 = refl
  told_meets L13 = refl
  told_meets L14 = refl

  told_follows : MayFollow rules past d.link.session.connection (notes.Told why) frame
  told_follows = record {
    lawful = none_broken (spoken_meets rules e (frame_of frame) past frame) told_meets clauses;
    keeps = or_right (is_of_answer rules past) _
        ((bytes_decides (spoken_octets frame) (spoken_octets (written_outcome d.link.session.channel id (octets_in state)))).1 (outcome_said d.link.session.channel id state));
    earliest = refl;
  }

-- where a row applies to a delivery that may be told, its state may be told
pub outcome_follows : (rules : RuleSet) (past : List Event) (d : Incoming) (why : Why) (state : Option StateFields) → IsLawful rules past → incoming_at d.number past ≡ Some d
    → may_be_told d past ≡ true → row rules d past why ≡ Some (octets_in state)
    → MayFollow rules past d.link.session.connection (notes.Told why) (outcome_frame d state)
outcome_follows rules past d why state lawful found may is =
    let id = id_is rules past d lawful found may in
    subst (λ o. MayFollow rules past d.link.session.connection (notes.Told why) (says d.link.session.channel (ADisposition (outcome_told (unwrap_or o 0) state)))) (sym id.1)
    (told_follows rules past d why state id.0 lawful (session_lives rules past d lawful found may) id.1 (named_by_id rules past d lawful found may) found may is)
