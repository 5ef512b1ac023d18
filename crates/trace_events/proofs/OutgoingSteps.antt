-- What one more event does to deliveries to clients.
use Rattle.std.proofs.Common.{◌≡◌, refl, sym, ap, ◌∙◌, ℕ, suc, ◌%◌, ◌^◌, Bool, true, false, not, ◌&&◌, ◌||◌, List, ◌∷◌, ◌++◌, Option, Some, None, is_some, find, if◌then◌else◌, ◌==◌, arith}
use Rattle.std.specs.List.{cons_option, count_by}
use Rattle.amqp_perf.specs.Meaning.{TransferFields, DispositionFields, flag}
use Rattle.flow_counts.specs.Serial.{serial_add}
use Rattle.pairing_cert.specs.declared.note.Note.{Note}
use Rattle.pairing_cert.specs.declared.note.Note.TheVariants as notes
use Rattle.trace_events.specs.Words.{is_some_and, is_number, or_else, where_passes}
use Rattle.trace_events.specs.Event.{Event, Link, Incoming, Outgoing, is_on_link}
use Rattle.trace_events.specs.declared.session.Session.{Session}
use Rattle.trace_events.specs.Said.{out_spoken, out_transfer}
use Rattle.trace_events.specs.Link.{is_live}
use Rattle.trace_events.specs.Disposition.{is_decisive}
use Rattle.trace_events.specs.Incoming.{part_payload, incoming_begun}
use Rattle.trace_events.specs.Outgoing.{in_progress, is_part, payload, is_sent, outgoing_begun, outgoing_deliveries, next_delivery_id, names, noted, pairing, is_paired, is_named_on, answering, deciding, first_deciding, decision, is_settled_by_consumer, is_settled_by_router}
use Rattle.trace_events.proofs.StepWords.{and-false, or-true, if-none, or_else-none, count-passes, count-fails}
use Rattle.trace_events.proofs.IncomingSteps.{incoming_at-same}

-- the event is a part of a delivery of the link; it is the delivery's last part; it names the delivery on the link
abbrev pub is_part_on : Link → Event → Bool
is_part_on l e = is_some_and e.outgoing (λ j. j.link.number == l.number)

abbrev pub ends_delivery : Outgoing → Event → Bool
ends_delivery j e = is_part j e && is_some_and (out_transfer e) (λ fields. not (flag fields.more))

abbrev pub names_on : Incoming → Link → Event → Bool
names_on d l e = is_some (out_transfer e) && names d.number e.note && is_on_link l e

-- the consumer settles with this event
abbrev pub settles_answering : Outgoing → Event → Bool
settles_answering j e = is_some_and (answering j e) (λ fields. flag fields.settled)

serial-next : (n : ℕ) → suc n % 2 ^ 32 ≡ serial_add (n % 2 ^ 32) 1
serial-next n = omega arith

pub ends_delivery-is : (j : Outgoing) (e : Event) (fields : TransferFields) → is_part j e ≡ true → out_transfer e ≡ Some fields → (b : Bool) → not (flag fields.more) ≡ b → ends_delivery j e ≡ b
ends_delivery-is j e fields part says b last =
    ap (λ b. b && is_some_and (out_transfer e) (λ fields. not (flag fields.more))) part ∙ (ap (λ o. is_some_and o (λ (fields : TransferFields). not (flag fields.more))) says ∙ last)

pub names_on-is : (d : Incoming) (l : Link) (e : Event) (fields : TransferFields) → out_transfer e ≡ Some fields → names d.number e.note ≡ true → is_on_link l e ≡ true → names_on d l e ≡ true
names_on-is d l e fields says named on =
    ap (λ o. is_some o && names d.number e.note && is_on_link l e) says ∙ (ap (λ b. b && is_on_link l e) named ∙ on)

pub settles_answering-is : (j : Outgoing) (e : Event) (fields : DispositionFields) → answering j e ≡ Some fields → (b : Bool) → flag fields.settled ≡ b → settles_answering j e ≡ b
settles_answering-is j e fields answers b settles = ap (λ o. is_some_and o (λ (fields : DispositionFields). flag fields.settled)) answers ∙ settles

module _ (e : Event) (past : List Event) where
  -- ---- the delivery in progress

  pub in_progress-same : (l : Link) → is_part_on l e ≡ false → in_progress l (e ∷ past) ≡ in_progress l past
  in_progress-same l none = rw none refl

  pub in_progress-none : (l : Link) → e.outgoing ≡ None → in_progress l (e ∷ past) ≡ in_progress l past
  in_progress-none l none =
      ap (λ o. if is_some_and o (λ (j : Outgoing). j.link.number == l.number) then (if is_some_and (out_transfer e) (λ fields. flag fields.more) then o else None) else in_progress l past) none

  pub in_progress-goes_on : (l : Link) (j : Outgoing) → e.outgoing ≡ Some j → (j.link.number == l.number) ≡ true → is_some_and (out_transfer e) (λ fields. flag fields.more) ≡ true
      → in_progress l (e ∷ past) ≡ Some j
  in_progress-goes_on l j is on more = rw (is, on, more) refl

  pub in_progress-ends : (l : Link) → is_part_on l e ≡ true → is_some_and (out_transfer e) (λ fields. flag fields.more) ≡ false → in_progress l (e ∷ past) ≡ None
  in_progress-ends l on last = rw (on, last) refl

  -- ---- parts

  pub payload-same : (j : Outgoing) → is_part j e ≡ false → payload j (e ∷ past) ≡ payload j past
  payload-same j none = ap (λ b. if b then payload j past ++ part_payload (out_spoken e) else payload j past) none

  pub payload-more : (j : Outgoing) → is_part j e ≡ true → payload j (e ∷ past) ≡ payload j past ++ part_payload (out_spoken e)
  payload-more j part = ap (λ b. if b then payload j past ++ part_payload (out_spoken e) else payload j past) part

  pub is_sent-same : (j : Outgoing) → ends_delivery j e ≡ false → is_sent j (e ∷ past) ≡ is_sent j past
  is_sent-same j none = ap (λ b. b || is_sent j past) none

  pub is_sent-no_part : (j : Outgoing) → is_part j e ≡ false → is_sent j (e ∷ past) ≡ is_sent j past
  is_sent-no_part j none = is_sent-same j (ap (λ b. b && is_some_and (out_transfer e) (λ fields. not (flag fields.more))) none)

  pub is_sent-here : (j : Outgoing) → ends_delivery j e ≡ true → is_sent j (e ∷ past) ≡ true
  is_sent-here j here = ap (λ b. b || is_sent j past) here

  pub is_sent-stays : (j : Outgoing) → is_sent j past ≡ true → is_sent j (e ∷ past) ≡ true
  is_sent-stays j before = ap (λ b. ends_delivery j e || b) before ∙ or-true (ends_delivery j e)

  -- ---- the deliveries of a capture

  pub outgoing_deliveries-same : outgoing_begun e ≡ None → outgoing_deliveries (e ∷ past) ≡ outgoing_deliveries past
  outgoing_deliveries-same none = ap (λ o. cons_option o (outgoing_deliveries past)) none

  pub outgoing_deliveries-begun : (j : Outgoing) → outgoing_begun e ≡ Some j → outgoing_deliveries (e ∷ past) ≡ j ∷ outgoing_deliveries past
  outgoing_deliveries-begun j new = ap (λ o. cons_option o (outgoing_deliveries past)) new

  pub next_delivery_id-same : (s : Session) → outgoing_begun e ≡ None → next_delivery_id s (e ∷ past) ≡ next_delivery_id s past
  next_delivery_id-same s none = ap (λ js. count_by (λ (j : Outgoing). j.link.session.number == s.number) js % 2 ^ 32) (outgoing_deliveries-same none)

  pub next_delivery_id-elsewhere : (s : Session) (j : Outgoing) → outgoing_begun e ≡ Some j → (j.link.session.number == s.number) ≡ false
      → next_delivery_id s (e ∷ past) ≡ next_delivery_id s past
  next_delivery_id-elsewhere s j new other =
      ap (λ js. count_by (λ (j : Outgoing). j.link.session.number == s.number) js % 2 ^ 32) (outgoing_deliveries-begun j new) ∙ ap (λ n. n % 2 ^ 32) (count-fails (λ (j : Outgoing). j.link.session.number == s.number) j (outgoing_deliveries past) other)

  pub next_delivery_id-begun : (s : Session) (j : Outgoing) → outgoing_begun e ≡ Some j → (j.link.session.number == s.number) ≡ true
      → next_delivery_id s (e ∷ past) ≡ serial_add (next_delivery_id s past) 1
  next_delivery_id-begun s j new same =
      ap (λ js. count_by (λ (j : Outgoing). j.link.session.number == s.number) js % 2 ^ 32) (outgoing_deliveries-begun j new)
      ∙ (ap (λ n. n % 2 ^ 32) (count-passes (λ (j : Outgoing). j.link.session.number == s.number) j (outgoing_deliveries past) same)
      ∙ serial-next (count_by (λ (j : Outgoing). j.link.session.number == s.number) (outgoing_deliveries past)))

  -- ---- pairs

  pub noted-same : (note : Note) → incoming_begun e ≡ None → noted note (e ∷ past) ≡ noted note past
  noted-same (notes.Pair n) none = incoming_at-same e past n none
  noted-same notes.None none = refl
  noted-same (notes.Told why) none = refl

  pub pairing-same : (d : Incoming) → outgoing_begun e ≡ None → pairing d (e ∷ past) ≡ pairing d past
  pairing-same d none = ap (find (λ (j : Outgoing). names d.number j.note)) (outgoing_deliveries-same none)

  pub pairing-another : (d : Incoming) (j : Outgoing) → outgoing_begun e ≡ Some j → names d.number j.note ≡ false → pairing d (e ∷ past) ≡ pairing d past
  pairing-another d j new other =
      ap (find (λ (j : Outgoing). names d.number j.note)) (outgoing_deliveries-begun j new) ∙ ap (λ b. if b then Some j else pairing d past) other

  pub pairing-begun : (d : Incoming) (j : Outgoing) → outgoing_begun e ≡ Some j → names d.number j.note ≡ true → pairing d (e ∷ past) ≡ Some j
  pairing-begun d j new named =
      ap (find (λ (j : Outgoing). names d.number j.note)) (outgoing_deliveries-begun j new) ∙ ap (λ b. if b then Some j else pairing d past) named

  pub is_paired-same : (d : Incoming) → outgoing_begun e ≡ None → is_paired d (e ∷ past) ≡ is_paired d past
  is_paired-same d none = ap is_some (pairing-same d none)

  pub is_paired-another : (d : Incoming) (j : Outgoing) → outgoing_begun e ≡ Some j → names d.number j.note ≡ false → is_paired d (e ∷ past) ≡ is_paired d past
  is_paired-another d j new other = ap is_some (pairing-another d j new other)

  pub is_paired-begun : (d : Incoming) (j : Outgoing) → outgoing_begun e ≡ Some j → names d.number j.note ≡ true → is_paired d (e ∷ past) ≡ true
  is_paired-begun d j new named = ap is_some (pairing-begun d j new named)

  pub is_named_on-same : (d : Incoming) (l : Link) → names_on d l e ≡ false → is_named_on d l (e ∷ past) ≡ is_named_on d l past
  is_named_on-same d l none = ap (λ b. b || is_named_on d l past) none

  pub is_named_on-no_transfer : (d : Incoming) (l : Link) → out_transfer e ≡ None → is_named_on d l (e ∷ past) ≡ is_named_on d l past
  is_named_on-no_transfer d l none = ap (λ o. is_some o && names d.number e.note && is_on_link l e || is_named_on d l past) none

  pub is_named_on-another : (d : Incoming) (l : Link) → names d.number e.note ≡ false → is_named_on d l (e ∷ past) ≡ is_named_on d l past
  is_named_on-another d l other = rw other (simp and-false)

  pub is_named_on-elsewhere : (d : Incoming) (l : Link) → is_on_link l e ≡ false → is_named_on d l (e ∷ past) ≡ is_named_on d l past
  is_named_on-elsewhere d l off = rw off (simp and-false)

  pub is_named_on-here : (d : Incoming) (l : Link) → names_on d l e ≡ true → is_named_on d l (e ∷ past) ≡ true
  is_named_on-here d l here = ap (λ b. b || is_named_on d l past) here

  pub is_named_on-stays : (d : Incoming) (l : Link) → is_named_on d l past ≡ true → is_named_on d l (e ∷ past) ≡ true
  is_named_on-stays d l before = ap (λ b. names_on d l e || b) before ∙ or-true (names_on d l e)

  -- ---- what the consumer decides

  pub deciding-none : (j : Outgoing) → answering j e ≡ None → deciding j e past ≡ None
  deciding-none j none = ap (λ o. if is_live past j.link then where_passes is_decisive o else None) none ∙ if-none (is_live past j.link)

  pub deciding-over : (j : Outgoing) → is_live past j.link ≡ false → deciding j e past ≡ None
  deciding-over j over = ap (λ b. if b then where_passes is_decisive (answering j e) else None) over

  pub deciding-is : (j : Outgoing) (fields : DispositionFields) → is_live past j.link ≡ true → answering j e ≡ Some fields → is_decisive fields ≡ true → deciding j e past ≡ Some fields
  deciding-is j fields live is decides =
      ap (λ b. if b then where_passes is_decisive (answering j e) else None) live
      ∙ (ap (where_passes is_decisive) is ∙ ap (λ b. if b then Some fields else None) decides)

  pub deciding-not : (j : Outgoing) (fields : DispositionFields) → answering j e ≡ Some fields → is_decisive fields ≡ false → deciding j e past ≡ None
  deciding-not j fields is not_yet =
      ap (λ o. if is_live past j.link then where_passes is_decisive o else None) is
      ∙ (ap (λ b. if is_live past j.link then (if b then Some fields else None) else None) not_yet ∙ if-none (is_live past j.link))

  pub first_deciding-same : (j : Outgoing) → deciding j e past ≡ None → first_deciding j (e ∷ past) ≡ first_deciding j past
  first_deciding-same j none = ap (or_else (first_deciding j past)) none ∙ or_else-none (first_deciding j past)

  pub first_deciding-first : (j : Outgoing) → first_deciding j past ≡ None → first_deciding j (e ∷ past) ≡ deciding j e past
  first_deciding-first j none = ap (λ o. or_else o (deciding j e past)) none

  pub first_deciding-later : (j : Outgoing) (fields : DispositionFields) → first_deciding j past ≡ Some fields → first_deciding j (e ∷ past) ≡ Some fields
  first_deciding-later j fields is = ap (λ o. or_else o (deciding j e past)) is

  pub decision-same : (j : Outgoing) → deciding j e past ≡ None → decision j (e ∷ past) ≡ decision j past
  decision-same j none = ap (λ o. if j.link.is_pre_settled then None else o) (first_deciding-same j none)

  pub decision-unanswered : (j : Outgoing) → answering j e ≡ None → decision j (e ∷ past) ≡ decision j past
  decision-unanswered j none = decision-same j (deciding-none j none)

  pub decision-pre_settled : (j : Outgoing) → j.link.is_pre_settled ≡ true → decision j (e ∷ past) ≡ None
  decision-pre_settled j settled = ap (λ b. if b then None else first_deciding j (e ∷ past)) settled

  pub decision-first : (j : Outgoing) → j.link.is_pre_settled ≡ false → decision j past ≡ None → decision j (e ∷ past) ≡ deciding j e past
  decision-first j unsettled none =
      ap (λ b. if b then None else first_deciding j (e ∷ past)) unsettled
      ∙ first_deciding-first j (sym (ap (λ b. if b then None else first_deciding j past) unsettled) ∙ none)

  pub decision-later : (j : Outgoing) (fields : DispositionFields) → decision j past ≡ Some fields → decision j (e ∷ past) ≡ Some fields
  decision-later j fields is = by j.link.is_pre_settled (first_deciding j past) is
    where
      by : (b : Bool) (o : Option DispositionFields) → (if b then None else o) ≡ Some fields → (if b then None else or_else o (deciding j e past)) ≡ Some fields
      by true o is = is
      by false o is = ap (λ o. or_else o (deciding j e past)) is

  pub is_settled_by_consumer-same : (j : Outgoing) → settles_answering j e ≡ false → is_settled_by_consumer j (e ∷ past) ≡ is_settled_by_consumer j past
  is_settled_by_consumer-same j none =
      ap (λ b. is_live past j.link && b || is_settled_by_consumer j past) none ∙ ap (λ b. b || is_settled_by_consumer j past) (and-false (is_live past j.link))

  pub is_settled_by_consumer-unanswered : (j : Outgoing) → answering j e ≡ None → is_settled_by_consumer j (e ∷ past) ≡ is_settled_by_consumer j past
  is_settled_by_consumer-unanswered j none = is_settled_by_consumer-same j (ap (λ o. is_some_and o (λ (fields : DispositionFields). flag fields.settled)) none)

  pub is_settled_by_consumer-over : (j : Outgoing) → is_live past j.link ≡ false → is_settled_by_consumer j (e ∷ past) ≡ is_settled_by_consumer j past
  is_settled_by_consumer-over j over = ap (λ b. b && settles_answering j e || is_settled_by_consumer j past) over

  pub is_settled_by_consumer-here : (j : Outgoing) → is_live past j.link ≡ true → settles_answering j e ≡ true → is_settled_by_consumer j (e ∷ past) ≡ true
  is_settled_by_consumer-here j live settles =
      ap (λ b. b && settles_answering j e || is_settled_by_consumer j past) live ∙ ap (λ b. b || is_settled_by_consumer j past) settles

  pub is_settled_by_consumer-stays : (j : Outgoing) → is_settled_by_consumer j past ≡ true → is_settled_by_consumer j (e ∷ past) ≡ true
  is_settled_by_consumer-stays j before =
      ap (λ b. is_live past j.link && settles_answering j e || b) before ∙ or-true (is_live past j.link && settles_answering j e)

  pub is_settled_by_router-same : (j : Outgoing) → is_number e.settled j.number ≡ false → is_settled_by_router j (e ∷ past) ≡ is_settled_by_router j past
  is_settled_by_router-same j none = ap (λ b. b || is_settled_by_router j past) none

  pub is_settled_by_router-none : (j : Outgoing) → e.settled ≡ None → is_settled_by_router j (e ∷ past) ≡ is_settled_by_router j past
  is_settled_by_router-none j none = ap (λ o. is_number o j.number || is_settled_by_router j past) none

  pub is_settled_by_router-here : (j : Outgoing) → is_number e.settled j.number ≡ true → is_settled_by_router j (e ∷ past) ≡ true
  is_settled_by_router-here j here = ap (λ b. b || is_settled_by_router j past) here

  pub is_settled_by_router-stays : (j : Outgoing) → is_settled_by_router j past ≡ true → is_settled_by_router j (e ∷ past) ≡ true
  is_settled_by_router-stays j before = ap (λ b. is_number e.settled j.number || b) before ∙ or-true (is_number e.settled j.number)

pub ruleset outgoing_steps = (
  ends_delivery-is,
  names_on-is,
  settles_answering-is,
  in_progress-same,
  in_progress-none,
  in_progress-goes_on,
  in_progress-ends,
  payload-same,
  payload-more,
  is_sent-same,
  is_sent-no_part,
  is_sent-here,
  is_sent-stays,
  outgoing_deliveries-same,
  outgoing_deliveries-begun,
  next_delivery_id-same,
  next_delivery_id-elsewhere,
  next_delivery_id-begun,
  noted-same,
  pairing-same,
  pairing-another,
  pairing-begun,
  is_paired-same,
  is_paired-another,
  is_paired-begun,
  is_named_on-same,
  is_named_on-no_transfer,
  is_named_on-another,
  is_named_on-elsewhere,
  is_named_on-here,
  is_named_on-stays,
  deciding-none,
  deciding-over,
  deciding-is,
  deciding-not,
  first_deciding-same,
  first_deciding-first,
  first_deciding-later,
  decision-same,
  decision-unanswered,
  decision-pre_settled,
  decision-first,
  decision-later,
  is_settled_by_consumer-same,
  is_settled_by_consumer-unanswered,
  is_settled_by_consumer-over,
  is_settled_by_consumer-here,
  is_settled_by_consumer-stays,
  is_settled_by_router-same,
  is_settled_by_router-none,
  is_settled_by_router-here,
  is_settled_by_router-stays,
)
