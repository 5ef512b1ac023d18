-- A settling that is due breaks no clause and keeps the duties.
use Rattle.std.proofs.Common.{◌≡◌, refl, sym, ap, ◌∙◌, ℕ, Bool, true, false, ◌&&◌, not, List, [], ◌∷◌, length, Option, Some, None, inl, inr, is_some, option_map, option_and_then, unwrap_or, nat_le, nat_lt, ◌==◌, eq-eqb, le-leb, if◌then◌else◌}
use Rattle.std.specs.Prelude.{Contains, find, reverse}
use Rattle.amqp_perf.specs.declared.attach.Role.TheVariants.{Sender}
use Rattle.amqp_perf.specs.Meaning.{ADisposition, DispositionFields}
use Rattle.amqp_perf.specs.Router.{settling}
use Rattle.pairing_cert.specs.declared.note.Note.TheVariants as notes
use Rattle.capture_form.specs.Rules.{RuleSet}
use Rattle.trace_events.specs.declared.session.Session.{Session}
use Rattle.trace_events.specs.Words.{is_some_and, is_number, or_else, where_passes}
use Rattle.trace_events.specs.Event.{Event, Outgoing, is_on_session}
use Rattle.trace_events.specs.Said.{in_disposition}
use Rattle.trace_events.specs.Connection.{frame_limit}
use Rattle.trace_events.specs.Session.{IsLiveOn}
use Rattle.trace_events.specs.Link.{is_live, is_receiver}
use Rattle.trace_events.specs.Disposition.{covers_id, is_decisive}
use Rattle.trace_events.specs.Outgoing.{outgoing_deliveries, noted, answering, deciding, first_deciding, decision, is_settled_by_consumer, is_settled_by_router}
use Rattle.trace_events.specs.Settling.{is_closed, is_to_settle, to_settle}
use Rattle.trace_events.specs.History.{settled_by_role}
use Rattle.trace_events.proofs.Along.{and_first, and_last}
use Rattle.trace_events.specs.declared.clause.Clause.{Clause}
use Rattle.trace_events.specs.declared.clause.Clause.TheVariants.{L1, L2, L3, L4, L5, L6, L7, L8, L9, L10, L11, L12, L13, L14}
use Rattle.trace_events.specs.Clauses.{spoken_meets, clauses}
use Rattle.trace_events.specs.Written.{spoken_octets, written_settling}
use Rattle.trace_events.proofs.BegunDeliveries.{IsBegun, judged-begun}
use Rattle.trace_events.proofs.LinkEnds.{lives-live}
use Rattle.trace_events.proofs.WaitingQueue.{all_contained, reverse_has, contains_none, contains_cases}
use Rattle.trace_duties.specs.Diligent.{is_of_answer}
use Rattle.route_answers.specs.Writing.{frame_of}
use Rattle.route_dues.specs.Writing.{writing, IsLawful, MayFollow}
use Rattle.route_answers.proofs.Words.{or_right, both, same_octets, none_broken}
use Rattle.route_dues.proofs.Connections.{lawful_judged, may_write}
use Rattle.route_dues.proofs.Lengths.{settling_short, short_fits}

-- ---- what is decided has an id

none_passes : (fields : Option DispositionFields) (role : DispositionFields → Bool) → where_passes (λ x. role x && false) fields ≡ None
none_passes None role = refl
none_passes (Some fields) role = by (role fields)
  where
    by : (b : Bool) → (if b && false then Some fields else None) ≡ None
    by true = refl
    by false = refl

if_none : {A : Type 0} (b : Bool) (o : Option A) → o ≡ None → (if b then o else None) ≡ None
if_none true o is = is
if_none false o is = refl

unanswered : (j : Outgoing) (e : Event) → j.id ≡ None → answering j e ≡ None
unanswered j e none =
    if_none (e.is_heard && is_on_session j.link.session e && nat_lt j.number e.number) _
    (ap (λ id. where_passes (λ fields. is_receiver fields.role && covers_id fields id) (in_disposition e)) none ∙ none_passes (in_disposition e) (λ fields. is_receiver fields.role))

undecided : (j : Outgoing) (past : List Event) → j.id ≡ None → first_deciding j past ≡ None
undecided j [] none = refl
undecided j (e ∷ past) none =
    ap (λ o. or_else o (deciding j e past)) (undecided j past none)
    ∙ if_none (is_live past j.link) (where_passes is_decisive (answering j e)) (ap (where_passes is_decisive) (unanswered j e none))

-- ---- a settling

contained_found : {A : Type 0} (test : A → Bool) (xs : List A) (x : A) → Contains xs x → test x ≡ true → (y : A) × (find test xs ≡ Some y)
contained_found test [] x there is = contains_none x there
contained_found test (y ∷ ys) x there is = by (test y) refl (λ later. contained_found test ys x later is)
  where
    by : (b : Bool) → test y ≡ b → (Contains ys x → (z : _) × (find test ys ≡ Some z)) → (z : _) × ((if b then Some y else find test ys) ≡ Some z)
    by true passes later = (y, refl)
    by false fails later = elim (contains_cases y ys x there) [
      | inl same ↦ let never : true ≡ false = sym is ∙ (ap test (sym same) ∙ fails) in absurd cc
      | inr below ↦ later below
    ]

module _ (rules : RuleSet) (past : List Event) (s : Session) (id : ℕ) (j : Outgoing) (lawful : IsLawful rules past) (live : IsLiveOn s past) (settles : to_settle s id past ≡ Some j) where
  abbrev e : Event
  e = writing rules past s.connection notes.None (written_settling s.channel id)

  settled_is : e.settled ≡ Some j.number
  settled_is = ap (option_and_then (λ t. settled_by_role t id Sender past)) live ∙ ap (option_map (λ (x : Outgoing). x.number)) settles

  settling_meets : (clause : Clause) → (let spoken = written_settling s.channel id in spoken_meets rules e (frame_of spoken) past spoken clause) ≡ true
  settling_meets L1 =
      both _ (nat_le (length (spoken_octets (written_settling s.channel id))) (frame_limit s.connection past))
      (may_write rules past s lawful live (ADisposition (settling id)) refl) (le-leb _ _ (short_fits s.connection past s.channel (ADisposition (settling id)) (settling_short id)))
  settling_meets L12 = both (id == id) (is_some e.settled) (eq-eqb id id refl) (ap is_some settled_is)
  settling_meets L2 = refl
  settling_meets L3 = refl
  settling_meets L4 = refl
  settling_meets L5 = refl
  settling_meets L6 = refl
  settling_meets L7 = refl
  settling_meets L8 = refl
  settling_meets L9 = refl
  settling_meets L10 = refl
  settling_meets L11 = refl
  settling_meets L13 = refl
  settling_meets L14 = refl

  settling_by : MayFollow rules past s.connection notes.None (written_settling s.channel id)
  settling_by = record {
    lawful = none_broken (let spoken = written_settling s.channel id in spoken_meets rules e (frame_of spoken) past spoken) settling_meets clauses;
    keeps = or_right (is_of_answer rules past) _ (same_octets (spoken_octets (written_settling s.channel id)));
    earliest = refl;
  }

module _ (rules : RuleSet) (past : List Event) (j : Outgoing) (lawful : IsLawful rules past) (there : Contains (outgoing_deliveries past) j) (is : is_to_settle past j ≡ true) where
  abbrev parts : Bool
  parts = is_live past j.link && is_some (decision j past)

  decided : parts ≡ true
  decided =
      and_first parts (not (is_settled_by_consumer j past))
      (and_first (parts && not (is_settled_by_consumer j past)) (not (is_settled_by_router j past))
      (and_first (parts && not (is_settled_by_consumer j past) && not (is_settled_by_router j past)) (is_some_and (noted j.note past) (is_closed past)) is))

  live : IsLiveOn j.link.session past
  live =
      let are = lawful_judged rules past lawful in
      let begun = all_contained (IsBegun past) (outgoing_deliveries past) j (judged-begun rules past are lawful.unbroken) there in
      (lives-live rules past are j.link begun.linked.at (and_first (is_live past j.link) (is_some (decision j past)) decided)).0

  never : j.id ≡ None → decision j past ≡ None
  never none = by j.link.is_pre_settled
    where
      by : (b : Bool) → (if b then None else first_deciding j past) ≡ None
      by true = refl
      by false = undecided j past none

  settling_of : (o : Option ℕ) → j.id ≡ o → MayFollow rules past j.link.session.connection notes.None (written_settling j.link.session.channel (unwrap_or o 0))
  settling_of None none =
      let said : is_some (decision j past) ≡ true = and_last (is_live past j.link) (is_some (decision j past)) decided in
      let unsaid : is_some (decision j past) ≡ false = ap is_some (never none) in
      absurd cc
  settling_of (Some id) given =
      let s = j.link.session in
      let test = λ (x : Outgoing). x.link.session.number == s.number && is_number x.id id && is_to_settle past x in
      let passes : test j ≡ true =
      both (s.number == s.number && is_number j.id id) (is_to_settle past j)
      (both (s.number == s.number) (is_number j.id id) (eq-eqb s.number s.number refl) (ap (λ o. is_number o id) given ∙ eq-eqb id id refl)) is in
      let first = contained_found test (reverse (outgoing_deliveries past)) j (reverse_has (outgoing_deliveries past) j there) passes in
      settling_by rules past s id first.0 lawful live first.1

  -- the earliest delivery of its id that is to be settled may be settled
  pub settling_follows : MayFollow rules past j.link.session.connection notes.None (written_settling j.link.session.channel (unwrap_or j.id 0))
  settling_follows = settling_of j.id refl
