-- What the judge says of an event's deliveries.
use Rattle.std.proofs.Common.{◌≡◌, refl, sym, ap, subst, ℕ, suc, ◌<◌, ◌⊎◌, inl, inr, List, [], ◌∷◌, length, Option, Some, None, IfSome, option_and_then, arith, ◌==◌}
use Rattle.std.specs.Prelude.{if◌then◌else◌}
use Rattle.amqp_perf.specs.Meaning.{Meaning, AnOpen, ABegin, AnAttach, AFlow, ATransfer, ADisposition, ADetach, AnEnd, AClose, TransferFields, flag}
use Rattle.pairing_cert.specs.declared.note.Note.{Note}
use Rattle.capture_form.specs.declared.records.Record.{Record}
use Rattle.capture_form.specs.Rules.{RuleSet}
use Rattle.trace_events.specs.Words.{is_some_and, or_else}
use Rattle.trace_events.specs.Said.{out_transfer}
use Rattle.trace_events.specs.Frame.{Frame, Spoken, spoken_in}
use Rattle.trace_events.specs.Event.{Event, Link, Outgoing, Moment, Opened, In, Out, Lost, Broken}
use Rattle.trace_events.specs.Outgoing.{in_progress}
use Rattle.trace_events.specs.History.{judge, placed, heard, faulted, moment_of, continued, history, outgoing_by, outgoing_part, new_outgoing}
use Rattle.trace_events.proofs.Elsewhere.{if-some}

-- each event is a record in its place
abbrev pub AreJudged : RuleSet → List Event → Type 0
AreJudged rules [] = Unit {0}
AreJudged rules (e ∷ past) = ((r : Record) × (e ≡ judge rules past r)) × AreJudged rules past

pub continued-judged : (rules : RuleSet) (past : List Event) (rs : List Record) → AreJudged rules past → AreJudged rules (continued rules past rs)
continued-judged rules past [] are = are
continued-judged rules past (r ∷ rs) are = continued-judged rules (judge rules past r ∷ past) rs ((r, refl), are)

pub history-judged : (rules : RuleSet) (rs : List Record) → AreJudged rules (history rules rs)
history-judged rules rs = continued-judged rules [] rs tt

-- a delivery was begun before, or begins here and has the note
abbrev pub IsBorn : ℕ → Note → Outgoing → Type 0
IsBorn n note j = (j.number < n) ⊎ ((j.number ≡ n) × (j.note ≡ note))

abbrev pub AreBorn : List Event → Type 0
AreBorn [] = Unit {0}
AreBorn (e ∷ past) = IfSome e.outgoing (IsBorn (length past) e.note) × AreBorn past

born-below : (n : ℕ) (note : Note) (j : Outgoing) → IsBorn n note j → j.number < suc n
born-below n note j (inl lt) = omega (arith, lt)
born-below n note j (inr (e, same)) = omega (arith, e)

if-some-map : {A : Type 0} (P Q : A → Type 0) (o : Option A) → ((a : A) → P a → Q a) → IfSome o P → IfSome o Q
if-some-map P Q None f h = tt
if-some-map P Q (Some a) f h = f a h

in_progress-below : (l : Link) (past : List Event) → AreBorn past → IfSome (in_progress l past) (λ j. j.number < length past)
in_progress-below l [] are = tt
in_progress-below l (e ∷ past) are =
    let Below : Outgoing → Type 0 = λ j. j.number < suc (length past) in
    let last : IfSome e.outgoing Below = if-some-map (IsBorn (length past) e.note) Below e.outgoing (born-below (length past) e.note) are.0 in
    let before : IfSome (in_progress l past) Below =
    if-some-map (λ (j : Outgoing). j.number < length past) Below (in_progress l past) (λ j lt. omega (arith, lt)) (in_progress-below l past are.1) in
    if-some Below (is_some_and e.outgoing (λ j. j.link.number == l.number))
    (if is_some_and (out_transfer e) (λ fields. flag fields.more) then e.outgoing else None) (in_progress l past)
    (if-some Below (is_some_and (out_transfer e) (λ fields. flag fields.more)) e.outgoing None last tt) before

pub and_then-some : {A B : Type 0} (P : B → Type 0) (f : A → Option B) (o : Option A) → ((a : A) → IfSome (f a) P) → IfSome (option_and_then f o) P
and_then-some P f None h = tt
and_then-some P f (Some a) h = h a

or_else-born : (n : ℕ) (note : Note) (o : Option Outgoing) (j : Outgoing) → IfSome o (λ k. k.number < n) → IsBorn n note j → IfSome (or_else o (Some j)) (IsBorn n note)
or_else-born n note None j before now = now
or_else-born n note (Some k) j before now = inl before

outgoing_part-born : (e : Event) (meaning : Meaning) (past : List Event) → e.number ≡ length past → AreBorn past → IfSome (outgoing_part e meaning past) (IsBorn (length past) e.note)
outgoing_part-born e (ATransfer fields) past number are =
    and_then-some (IsBorn (length past) e.note) _ _ (λ l. or_else-born (length past) e.note (in_progress l past) (new_outgoing e.number e.note fields l) (in_progress-below l past are) (inr (number, refl)))
outgoing_part-born e (AnOpen fields) past number are = tt
outgoing_part-born e (ABegin fields) past number are = tt
outgoing_part-born e (AnAttach fields) past number are = tt
outgoing_part-born e (AFlow fields) past number are = tt
outgoing_part-born e (ADisposition fields) past number are = tt
outgoing_part-born e (ADetach fields) past number are = tt
outgoing_part-born e (AnEnd error) past number are = tt
outgoing_part-born e (AClose error) past number are = tt

outgoing_by-born : (e : Event) (m : Moment) (past : List Event) → e.number ≡ length past → AreBorn past → IfSome (outgoing_by e m past) (IsBorn (length past) e.note)
outgoing_by-born e (Out frame) past number are =
    and_then-some (IsBorn (length past) e.note) _ (spoken_in frame.body) (λ spoken. outgoing_part-born e spoken.meaning past number are)
outgoing_by-born e (In frame) past number are = tt
outgoing_by-born e Opened past number are = tt
outgoing_by-born e Lost past number are = tt
outgoing_by-born e Broken past number are = tt

pub judged-born : (rules : RuleSet) (past : List Event) → AreJudged rules past → AreBorn past
judged-born rules [] are = tt
judged-born rules (e ∷ past) ((r, is), are) = (
  subst (λ (x : Event). IfSome x.outgoing (IsBorn (length past) x.note)) (sym is)
      (outgoing_by-born (faulted rules past (heard past (placed past r.connection (moment_of r.what) r.note))) (moment_of r.what) past refl (judged-born rules past are)),
  judged-born rules past are,
)

-- an event has the number of events before it
pub judged-number : (rules : RuleSet) (e : Event) (past : List Event) → AreJudged rules (e ∷ past) → e.number ≡ length past
judged-number rules e past ((r, is), are) = ap (λ (x : Event). x.number) is

-- ---- only transfers that are written are of deliveries to clients

pub record IsTransfer (m : Moment) : Type 0 where
  pub frame : Frame
  pub spoken : Spoken
  pub fields : TransferFields
  pub written : m ≡ Out frame
  pub says : spoken_in frame.body ≡ Some spoken
  pub means : spoken.meaning ≡ ATransfer fields

pub if-some-each : {A : Type 0} (T : Type 0) (o : Option A) → T → IfSome o (λ x. T)
if-some-each T None t = tt
if-some-each T (Some a) t = t

module _ (e : Event) (past : List Event) (frame : Frame) where
  meaning-transfer : (spoken : Spoken) (meaning : Meaning) → spoken_in frame.body ≡ Some spoken → spoken.meaning ≡ meaning
      → IfSome (outgoing_part e meaning past) (λ j. IsTransfer (Out frame))
  meaning-transfer spoken (ATransfer fields) says means =
      if-some-each (IsTransfer (Out frame)) (outgoing_part e (ATransfer fields) past)
      (record { frame = frame; spoken = spoken; fields = fields; written = refl; says = says; means = means })
  meaning-transfer spoken (AnOpen fields) says means = tt
  meaning-transfer spoken (ABegin fields) says means = tt
  meaning-transfer spoken (AnAttach fields) says means = tt
  meaning-transfer spoken (AFlow fields) says means = tt
  meaning-transfer spoken (ADisposition fields) says means = tt
  meaning-transfer spoken (ADetach fields) says means = tt
  meaning-transfer spoken (AnEnd error) says means = tt
  meaning-transfer spoken (AClose error) says means = tt

  spoken-transfer : (o : Option Spoken) → spoken_in frame.body ≡ o
      → IfSome (option_and_then (λ (spoken : Spoken). outgoing_part e spoken.meaning past) o) (λ j. IsTransfer (Out frame))
  spoken-transfer None is = tt
  spoken-transfer (Some spoken) is = meaning-transfer spoken spoken.meaning is refl

outgoing_by-transfer : (e : Event) (m : Moment) (past : List Event) → IfSome (outgoing_by e m past) (λ j. IsTransfer m)
outgoing_by-transfer e (Out frame) past = spoken-transfer e past frame (spoken_in frame.body) refl
outgoing_by-transfer e (In frame) past = tt
outgoing_by-transfer e Opened past = tt
outgoing_by-transfer e Lost past = tt
outgoing_by-transfer e Broken past = tt

pub judged-transfer : (rules : RuleSet) (e : Event) (past : List Event) → AreJudged rules (e ∷ past) → IfSome e.outgoing (λ j. IsTransfer e.moment)
judged-transfer rules e past ((r, is), are) =
    subst (λ (x : Event). IfSome x.outgoing (λ j. IsTransfer x.moment)) (sym is)
    (outgoing_by-transfer (faulted rules past (heard past (placed past r.connection (moment_of r.what) r.note))) (moment_of r.what) past)
