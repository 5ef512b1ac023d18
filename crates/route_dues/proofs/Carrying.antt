-- A transfer on a consumer's live link: what the clauses ask of it, one by one, of an event of which these things are known.
use Rattle.std.proofs.Common.{◌≡◌, refl, ap, ◌∙◌, ℕ, Bool, true, false, ◌&&◌, ◌||◌, not, List, [], ◌++◌, Some, None, nat_lt, ◌==◌, eq-eqb, if◌then◌else◌}
use Rattle.std.specs.Prelude.{bytes_eq}
use Rattle.std.specs.Bool.{beq}
use lib.Pointwise.{bytes_decides}
use Rattle.amqp_perf.specs.Meaning.{TransferFields, flag}
use Rattle.pairing_cert.specs.declared.note.Note.TheVariants as notes
use Rattle.capture_form.specs.Rules.{RuleSet}
use Rattle.trace_events.specs.Words.{is_some_and, is_none_or, where_passes}
use Rattle.trace_events.specs.Event.{Event, Link, Incoming, Outgoing}
use Rattle.trace_events.specs.Link.{is_consumer, IsLiveLink}
use Rattle.trace_events.specs.Window.{session_window}
use Rattle.trace_events.specs.Credit.{begins_outgoing, link_credit}
use Rattle.trace_events.specs.Incoming as incoming
use Rattle.trace_events.specs.Incoming.{address_of, incoming_at, is_complete}
use Rattle.trace_events.specs.Outgoing as outgoing
use Rattle.trace_events.specs.Outgoing.{noted, next_delivery_id}
use Rattle.trace_events.specs.Waiting.{is_of_multicast, is_gone}
use Rattle.trace_events.specs.declared.clause.Clause.{Clause}
use Rattle.trace_events.specs.declared.clause.Clause.TheVariants.{L1, L2, L3, L4, L5, L6, L7, L8, L9, L10, L11, L12, L13, L14}
use Rattle.trace_events.specs.Clauses.{transfer_meets}
use Rattle.trace_events.specs.TransferClause.{has_window, has_link_and_window, has_credit_and_next_id, goes_on_with, is_same_note, to_carry, has_form, has_address_and_form, names_what_may_go, carries, carries_its_octets, goes_to_one_or_is_due, is_in_order, goes_once_and_in_order, is_payload_so_far}
use Rattle.trace_events.specs.Written.{first_part, next_part}
use Rattle.trace_duties.specs.Quiet.{has_earlier_unsent}
use Rattle.trace_duties.specs.Order.{is_earliest}
use Rattle.trace_duties.proofs.CopyOrder.{earliest-none, earliest-sent}
use Rattle.trace_duties.specs.Diligent.{is_picked, is_next_waiting, is_picked_link, is_filled, is_filled_transfer}
use Rattle.route_answers.proofs.Words.{or_right, both}
use Rattle.route_dues.proofs.Words.{same_bool}

-- the delivery may go to the link, whose session has window
pub record MayCarry (rules : RuleSet) (past : List Event) (l : Link) (d : Incoming) : Type 0 where
  pub live : IsLiveLink l past
  pub consumes : is_consumer l ≡ true
  pub window : nat_lt 0 (session_window l.session past) ≡ true
  pub known : incoming_at d.number past ≡ Some d
  pub complete : is_complete d past ≡ true
  pub stays : is_gone rules d past ≡ false
  pub address : address_of d past ≡ l.address

-- it may begin there
pub record MayBegin (rules : RuleSet) (past : List Event) (l : Link) (d : Incoming) : Type 0 where
  pub carries : MayCarry rules past l d
  pub none : outgoing.in_progress l past ≡ None
  pub credit : nat_lt 0 (link_credit l past) ≡ true
  pub first : goes_to_one_or_is_due rules l past d ≡ true
  pub order : is_in_order l past d ≡ true
  pub earliest : has_earlier_unsent rules past l d ≡ false
  pub picked : is_of_multicast rules d past || is_next_waiting rules past d && is_picked_link rules past d l ≡ true

abbrev Passes : RuleSet → List Event → Incoming → Bool
Passes rules past d = is_complete d past && not (is_gone rules d past)

module _ (rules : RuleSet) (past : List Event) (l : Link) (d : Incoming) (may : MayCarry rules past l d)
    (e : Event) (on : e.session ≡ Some l.session) (at : e.link ≡ Some l) (note : e.note ≡ notes.Pair d.number) where
  is_noted : noted e.note past ≡ Some d
  is_noted = ap (λ n. noted n past) note ∙ may.known

  is_carried : to_carry rules e.note past ≡ Some d
  is_carried =
      ap (where_passes (Passes rules past)) is_noted
      ∙ ap (λ b. if b then Some d else None) (both (is_complete d past) (not (is_gone rules d past)) may.complete (ap not may.stays))

  four : (fields : TransferFields) → not (flag fields.resume) ≡ true → not (flag fields.aborted) ≡ true → has_link_and_window e fields past ≡ true
  four fields resume aborted =
      both (is_some_and e.link is_consumer && is_some_and e.session (has_window past) && not (flag fields.resume)) (not (flag fields.aborted))
      (both (is_some_and e.link is_consumer && is_some_and e.session (has_window past)) (not (flag fields.resume))
      (both (is_some_and e.link is_consumer) (is_some_and e.session (has_window past))
      (ap (λ o. is_some_and o is_consumer) at ∙ may.consumes) (ap (λ o. is_some_and o (has_window past)) on ∙ may.window)) resume) aborted

  seven : (fields : TransferFields) → not (begins_outgoing e) || has_form d l fields ≡ true → is_some_and e.link (names_what_may_go rules e fields past) ≡ true
  seven fields form =
      ap (λ o. is_some_and o (names_what_may_go rules e fields past)) at
      ∙ (ap (λ o. is_some_and o (has_address_and_form e l fields past)) is_carried
      ∙ both (bytes_eq (address_of d past) l.address) (not (begins_outgoing e) || has_form d l fields) ((bytes_decides (address_of d past) l.address).1 may.address) form)

  eight : (j : Outgoing) → e.outgoing ≡ Some j → (fields : TransferFields) (octets : List ℕ) → is_payload_so_far (flag fields.more) (incoming.payload d past) (outgoing.payload j past ++ octets) ≡ true
      → carries_its_octets rules e fields octets past ≡ true
  eight j goes fields octets carried =
      ap (λ o. is_some_and o (λ x. is_some_and e.outgoing (λ i. carries i fields octets past x))) is_carried
      ∙ (ap (λ o. is_some_and o (λ i. carries i fields octets past d)) goes ∙ carried)

  -- as much of the rest as it may is what a frame that is due carries
  pub filled_of : (j : Outgoing) → e.outgoing ≡ Some j → noted j.note past ≡ Some d → is_filled e past j d l ≡ true → is_filled_transfer e past ≡ true
  filled_of j goes carried is =
      ap (λ o. is_some_and o (λ i. is_some_and (noted i.note past) (λ x. is_some_and e.link (is_filled e past i x)))) goes
      ∙ (ap (λ o. is_some_and o (λ x. is_some_and e.link (is_filled e past j x))) carried
      ∙ (ap (λ o. is_some_and o (is_filled e past j d)) at ∙ is))

-- ---- one that begins a delivery

module _ (rules : RuleSet) (past : List Event) (l : Link) (d : Incoming) (may : MayBegin rules past l d)
    (e : Event) (on : e.session ≡ Some l.session) (at : e.link ≡ Some l) (note : e.note ≡ notes.Pair d.number)
    (j : Outgoing) (goes : e.outgoing ≡ Some j) (begun : j.number ≡ e.number) where
  pub begins : begins_outgoing e ≡ true
  begins = ap (λ o. is_some_and o (λ i. i.number == e.number)) goes ∙ eq-eqb j.number e.number begun

  module _ (more : Bool) (octets : List ℕ) (none : outgoing.payload j past ≡ []) (carried : is_payload_so_far more (incoming.payload d past) octets ≡ true) where
    abbrev fields : TransferFields
    fields = first_part l (next_delivery_id l.session past) d.format more

    pub first_meets : (clause : Clause) → transfer_meets rules e fields octets past clause ≡ true
    first_meets L4 = four rules past l d may.carries e on at note fields refl refl
    first_meets L5 =
        or_right (not (begins_outgoing e)) _
        (ap (λ o. is_some_and o (λ l. has_credit_and_next_id l fields past)) at
        ∙ both (nat_lt 0 (link_credit l past)) (next_delivery_id l.session past == next_delivery_id l.session past) may.credit (eq-eqb (next_delivery_id l.session past) (next_delivery_id l.session past) refl))
    first_meets L6 = ap (λ b. b || is_some_and e.outgoing (λ i. goes_on_with i e.note fields)) begins
    first_meets L7 =
        seven rules past l d may.carries e on at note fields
        (or_right (not (begins_outgoing e)) _ (both (d.format == d.format) (beq l.is_pre_settled l.is_pre_settled) (eq-eqb d.format d.format refl) (same_bool l.is_pre_settled)))
    first_meets L8 = eight rules past l d may.carries e on at note j goes fields octets (ap (λ xs. is_payload_so_far more (incoming.payload d past) (xs ++ octets)) none ∙ carried)
    first_meets L9 =
        or_right (not (begins_outgoing e)) _
        (ap (λ o. is_some_and o (goes_once_and_in_order rules e past)) at
        ∙ (ap (λ o. is_some_and o (λ x. goes_to_one_or_is_due rules l past x && is_in_order l past x)) (is_carried rules past l d may.carries e on at note)
        ∙ both (goes_to_one_or_is_due rules l past d) (is_in_order l past d) may.first may.order))
    first_meets L1 = refl
    first_meets L2 = refl
    first_meets L3 = refl
    first_meets L10 = refl
    first_meets L11 = refl
    first_meets L12 = refl
    first_meets L13 = refl
    first_meets L14 = refl

  pub first_picked : is_picked rules e past ≡ true
  first_picked =
      or_right (not (begins_outgoing e)) _
      (ap (λ o. is_none_or o (λ x. is_of_multicast rules x past || is_next_waiting rules past x && is_some_and e.link (is_picked_link rules past x))) (is_noted rules past l d may.carries e on at note)
      ∙ (ap (λ o. is_of_multicast rules d past || is_next_waiting rules past d && is_some_and o (is_picked_link rules past d)) at ∙ may.picked))

  pub first_earliest : is_earliest rules e past ≡ true
  first_earliest = earliest-sent rules e past l d at (is_noted rules past l d may.carries e on at note) may.earliest

-- ---- one that goes on with a delivery

module _ (rules : RuleSet) (past : List Event) (l : Link) (d : Incoming) (may : MayCarry rules past l d)
    (e : Event) (on : e.session ≡ Some l.session) (at : e.link ≡ Some l) (note : e.note ≡ notes.Pair d.number)
    (j : Outgoing) (goes : e.outgoing ≡ Some j) (older : (j.number == e.number) ≡ false) where
  pub later : begins_outgoing e ≡ false
  later = ap (λ o. is_some_and o (λ i. i.number == e.number)) goes ∙ older

  module _ (named : j.note ≡ notes.Pair d.number) (more : Bool) (octets : List ℕ) (carried : is_payload_so_far more (incoming.payload d past) (outgoing.payload j past ++ octets) ≡ true) where
    pub next_meets : (clause : Clause) → transfer_meets rules e (next_part l more) octets past clause ≡ true
    next_meets L4 = four rules past l d may e on at note (next_part l more) refl refl
    next_meets L5 = ap (λ b. not b || is_some_and e.link (λ l. has_credit_and_next_id l (next_part l more) past)) later
    next_meets L6 =
        or_right (begins_outgoing e) _
        (ap (λ o. is_some_and o (λ i. goes_on_with i e.note (next_part l more))) goes
        ∙ (ap (λ n. is_same_note n j.note) note ∙ (ap (is_same_note (notes.Pair d.number)) named ∙ eq-eqb d.number d.number refl)))
    next_meets L7 = seven rules past l d may e on at note (next_part l more) (ap (λ b. not b || has_form d l (next_part l more)) later)
    next_meets L8 = eight rules past l d may e on at note j goes (next_part l more) octets carried
    next_meets L9 = ap (λ b. not b || is_some_and e.link (goes_once_and_in_order rules e past)) later
    next_meets L1 = refl
    next_meets L2 = refl
    next_meets L3 = refl
    next_meets L10 = refl
    next_meets L11 = refl
    next_meets L12 = refl
    next_meets L13 = refl
    next_meets L14 = refl

  pub next_picked : is_picked rules e past ≡ true
  next_picked = ap (λ b. not b || is_none_or (noted e.note past) (λ x. is_of_multicast rules x past || is_next_waiting rules past x && is_some_and e.link (is_picked_link rules past x))) later

  pub next_earliest : is_earliest rules e past ≡ true
  next_earliest = earliest-none rules e past later
