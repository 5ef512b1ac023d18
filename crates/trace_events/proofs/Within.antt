-- In a lawful capture each transfer stood within window and credit, and each outcome is that of its row.
use Rattle.std.proofs.Common.{◌≡◌, refl, sym, ap, ◌∙◌, ℕ, ◌≤◌, List, ◌∷◌, Bool, true, not, ◌&&◌, ◌||◌, Option, Some, None, IfSome, IsSomeAnd, option_and_then, nat_lt, arith, ltb-true}
use Rattle.amqp_perf.specs.declared.attach.Role.{Role}
use Rattle.amqp_perf.specs.declared.attach.Role.TheVariants.{Sender, Receiver}
use Rattle.amqp_perf.specs.Meaning.{DispositionFields, ATransfer, ADisposition, TransferFields, flag}
use Rattle.pairing_cert.specs.declared.note.Note.{Note}
use Rattle.pairing_cert.specs.declared.note.Note.TheVariants as notes
use Rattle.capture_form.specs.declared.records.Record.{Record}
use Rattle.capture_form.specs.Rules.{RuleSet}
use Rattle.trace_events.specs.declared.clause.Clause.TheVariants.{L4, L5, L11}
use Rattle.trace_events.specs.Words.{is_some_and, are_same_octets}
use Rattle.trace_events.specs.Frame.{Frame, Spoken, spoken_in}
use Rattle.trace_events.specs.Event.{Event, Incoming, Out}
use Rattle.trace_events.specs.Said.{as_transfer, as_disposition}
use Rattle.trace_events.specs.Link.{is_consumer, is_receiver}
use Rattle.trace_events.specs.Window.{session_window}
use Rattle.trace_events.specs.Credit.{link_credit, begins_outgoing}
use Rattle.trace_events.specs.Incoming.{incoming_at}
use Rattle.trace_events.specs.Outcome.{may_be_told, row}
use Rattle.trace_events.specs.TransferClause.{has_window, has_link_and_window, has_credit_and_next_id}
use Rattle.trace_events.specs.Clauses.{first_broken, meaning_meets, disposition_meets}
use Rattle.trace_events.specs.DispositionClause.{is_outcome, settles_one, is_outcome_of, tells_by}
use Rattle.trace_events.specs.History.{history}
use Rattle.trace_events.specs.Kept.{StoodWithin, IsOfRow, AtEach, why_of, told_state}
use Rattle.trace_events.proofs.ClausesMet.{met}
use Rattle.trace_events.proofs.WrittenFrames.{of_written, where_some, at_each, transfer-is, disposition-is}
use Rattle.trace_events.proofs.OneConsumer.{and-left, or-right}
use Rattle.trace_events.proofs.OneOutcome.{and-right}

pub some-such : {A : Type 0} (o : Option A) (test : A → Bool) (P : A → Type 0) → is_some_and o test ≡ true → ((x : A) → test x ≡ true → P x) → IsSomeAnd o P
some-such None test P e each = absurd cc
some-such (Some x) test P e each = each x e

pub some-each : {A : Type 0} (o : Option A) (test : A → Bool) (P : A → Type 0) → is_some_and o test ≡ true → ((x : A) → o ≡ Some x → P x) → IsSomeAnd o P
some-each None test P e each = absurd cc
some-each (Some x) test P e each = each x refl

module _ (rules : RuleSet) (e : Event) (past : List Event) (lawful : first_broken rules (e ∷ past) ≡ None) (frame : Frame) (spoken : Spoken)
    (written : e.moment ≡ Out frame) (says : spoken_in frame.body ≡ Some spoken) (fields : TransferFields) (means : spoken.meaning ≡ ATransfer fields) where
  four : has_link_and_window e fields past ≡ true
  four = sym (ap (λ m. meaning_meets rules e spoken past m L4) means) ∙ met rules e past lawful frame written spoken says L4

  five : not (begins_outgoing e) || is_some_and e.link (λ l. has_credit_and_next_id l fields past) ≡ true
  five = sym (ap (λ m. meaning_meets rules e spoken past m L5) means) ∙ met rules e past lawful frame written spoken says L5

  consumers : is_some_and e.link is_consumer && is_some_and e.session (has_window past) ≡ true
  consumers = and-left _ (not (flag fields.resume)) (and-left _ (not (flag fields.aborted)) four)

  pub in_window : IsSomeAnd e.session (λ s. 1 ≤ session_window s past)
  in_window =
      some-such e.session (has_window past) (λ s. 1 ≤ session_window s past) (and-right (is_some_and e.link is_consumer) _ consumers)
      (λ s is. let lt = ltb-true 0 (session_window s past) is in omega (arith, lt))

  pub in_credit : IsSomeAnd e.link (λ l. begins_outgoing e ≡ true → 1 ≤ link_credit l past)
  in_credit =
      some-each e.link is_consumer (λ l. begins_outgoing e ≡ true → 1 ≤ link_credit l past) (and-left _ (is_some_and e.session (has_window past)) consumers)
      (λ l is begins.
      let begun : is_some_and e.link (λ m. has_credit_and_next_id m fields past) ≡ true = or-right (begins_outgoing e) _ begins five in
      let here : has_credit_and_next_id l fields past ≡ true = sym (ap (λ o. is_some_and o (λ m. has_credit_and_next_id m fields past)) is) ∙ begun in
      let lt = ltb-true 0 (link_credit l past) (and-left (nat_lt 0 (link_credit l past)) _ here) in omega (arith, lt))

module _ (rules : RuleSet) (e : Event) (past : List Event) (lawful : first_broken rules (e ∷ past) ≡ None) where
  abbrev Within : TransferFields → Type 0
  Within fields = IsSomeAnd e.session (λ s. 1 ≤ session_window s past) × IsSomeAnd e.link (λ l. begins_outgoing e ≡ true → 1 ≤ link_credit l past)

  means-within : (frame : Frame) (spoken : Spoken) → e.moment ≡ Out frame → spoken_in frame.body ≡ Some spoken → IfSome (as_transfer spoken.meaning) Within
  means-within frame spoken written says =
      where_some (as_transfer spoken.meaning) Within (λ fields is.
      let means = transfer-is spoken.meaning fields is in
      (in_window rules e past lawful frame spoken written says fields means, in_credit rules e past lawful frame spoken written says fields means))

  stood-within : StoodWithin e past
  stood-within = of_written as_transfer e Within means-within

-- the law of a capture
pub lawful-stood-within : (rules : RuleSet) (rs : List Record) → first_broken rules (history rules rs) ≡ None → AtEach StoodWithin (history rules rs)
lawful-stood-within rules rs lawful = at_each rules StoodWithin (stood-within rules) (history rules rs) lawful

-- ---- outcomes

row-of : (rules : RuleSet) (d : Incoming) (past : List Event) (state : Option (List ℕ)) (note : Note) → tells_by rules d note state past ≡ true
    → IsSomeAnd (why_of note) (λ why. IsSomeAnd (row rules d past why) (λ said. are_same_octets state said ≡ true))
row-of rules d past state (notes.Told why) e = some-such (row rules d past why) (are_same_octets state) (λ said. are_same_octets state said ≡ true) e (λ said is. is)
row-of rules d past state notes.None e = absurd cc
row-of rules d past state (notes.Pair n) e = absurd cc

receiver-is : (role : Role) → is_receiver role ≡ true → role ≡ Receiver
receiver-is Receiver e = refl
receiver-is Sender e = absurd cc

module _ (rules : RuleSet) (e : Event) (past : List Event) (lawful : first_broken rules (e ∷ past) ≡ None) where
  abbrev Row : DispositionFields → ℕ → Type 0
  Row fields n = IsSomeAnd (incoming_at n past) (λ d. IsSomeAnd (why_of e.note) (λ why.
      IsSomeAnd (row rules d past why) (λ state. are_same_octets (told_state fields) state ≡ true)))

  abbrev OfRow : DispositionFields → Type 0
  OfRow fields = is_receiver fields.role ≡ true → IsSomeAnd e.told (Row fields)

  row-told : (fields : DispositionFields) (o : Option ℕ)
      → is_some_and (option_and_then (λ n. incoming_at n past) o) (is_outcome_of rules e fields past) ≡ true → IsSomeAnd o (Row fields)
  row-told fields None tells = absurd cc
  row-told fields (Some n) tells =
      some-such (incoming_at n past) (is_outcome_of rules e fields past) _ tells
      (λ d is. row-of rules d past (told_state fields) e.note (and-right (may_be_told d past) _ is))

  disposition-row : (frame : Frame) (spoken : Spoken) → e.moment ≡ Out frame → spoken_in frame.body ≡ Some spoken → (fields : DispositionFields)
      → spoken.meaning ≡ ADisposition fields → OfRow fields
  disposition-row frame spoken written says fields means receives =
      let same : meaning_meets rules e spoken past spoken.meaning L11 ≡ disposition_meets rules e fields past fields.role L11 =
      ap (λ m. meaning_meets rules e spoken past m L11) means in
      let role : disposition_meets rules e fields past fields.role L11 ≡ is_outcome rules e fields past =
      ap (λ r. disposition_meets rules e fields past r L11) (receiver-is fields.role receives) in
      let outcome : is_outcome rules e fields past ≡ true = sym (same ∙ role) ∙ met rules e past lawful frame written spoken says L11 in
      row-told fields e.told (and-right (settles_one fields) _ outcome)

  means-row : (frame : Frame) (spoken : Spoken) → e.moment ≡ Out frame → spoken_in frame.body ≡ Some spoken → IfSome (as_disposition spoken.meaning) OfRow
  means-row frame spoken written says =
      where_some (as_disposition spoken.meaning) OfRow (λ fields is.
      disposition-row frame spoken written says fields (disposition-is spoken.meaning fields is))

  of-row : IsOfRow rules e past
  of-row = of_written as_disposition e OfRow means-row

-- the law of a capture
pub lawful-of-row : (rules : RuleSet) (rs : List Record) → first_broken rules (history rules rs) ≡ None → AtEach (IsOfRow rules) (history rules rs)
lawful-of-row rules rs lawful = at_each rules (IsOfRow rules) (of-row rules) (history rules rs) lawful
