-- Transfers that are due break no clause and keep the duties.
use Rattle.std.proofs.Common.{◌≡◌, refl, sym, ap, ◌∙◌, ℕ, ◌<◌, ◌≤◌, Bool, true, false, List, [], ◌∷◌, length, take, drop, Option, Some, None, IfSome, option_and_then, nat_lt, nat_le, ◌==◌, ne_eqb, arith, le-leb, le_refl, inl, inr, if◌then◌else◌}
use lib.Pointwise.{bytes_decides}
use Rattle.amqp_perf.specs.Meaning.{ATransfer, TransferFields}
use Rattle.pairing_cert.specs.declared.note.Note.{Note}
use Rattle.pairing_cert.specs.declared.note.Note.TheVariants as notes
use Rattle.capture_form.specs.Rules.{RuleSet}
use Rattle.trace_events.specs.Words.{is_some_and, or_else, where_passes}
use Rattle.trace_events.specs.Frame.{Spoken}
use Rattle.trace_events.specs.Event.{Event, Link, Incoming, Outgoing, Out}
use Rattle.trace_events.specs.Connection.{frame_limit}
use Rattle.trace_events.specs.Link.{session_link, is_consumer, IsLiveLink}
use Rattle.trace_events.specs.Incoming as incoming
use Rattle.trace_events.specs.Outgoing as outgoing
use Rattle.trace_events.specs.Outgoing.{next_delivery_id, noted}
use Rattle.trace_events.specs.History.{link_of, new_outgoing}
use Rattle.trace_events.proofs.Judged.{AreBorn, IsBorn}
use Rattle.trace_events.proofs.OutgoingSteps.{payload-same}
use Rattle.trace_events.specs.declared.clause.Clause.{Clause}
use Rattle.trace_events.specs.declared.clause.Clause.TheVariants.{L1, L2, L3, L4, L5, L6, L7, L8, L9, L10, L11, L12, L13, L14}
use Rattle.trace_events.specs.Clauses.{transfer_meets, spoken_meets, broken_clause, clauses}
use Rattle.trace_events.specs.Written.{spoken_octets, written_transfer, first_part, next_part}
use Rattle.trace_duties.specs.Diligent.{is_picked, is_due_frame, is_of_answer, is_filled_transfer, filled, transfer_fields, rest, moment_keeps}
use Rattle.route_answers.specs.Writing.{frame_of}
use Rattle.route_dues.specs.Writing.{writing, IsLawful, MayFollow}
use Rattle.route_dues.specs.Transfers.{room_on, first_frame, next_frame}
use Rattle.route_answers.proofs.Words.{or_right, both, none_broken}
use Rattle.route_dues.proofs.Connections.{may_write}
use Rattle.route_dues.proofs.Filled.{filled_carries}
use Rattle.route_dues.proofs.TransferLengths.{filled_fits, first_same, first_short, next_same, next_short}
use Rattle.route_dues.proofs.Carrying as carrying
use Rattle.route_dues.proofs.Carrying.{MayCarry, MayBegin, filled_of, first_meets, first_picked, first_earliest, next_meets, next_picked, next_earliest}

-- ---- what the event is

module _ (rules : RuleSet) (past : List Event) (l : Link) (note : Note) (fields : TransferFields) (octets : List ℕ)
    (live : IsLiveLink l past) (consumes : is_consumer l ≡ true) (names : fields.handle ≡ l.handle) where
  abbrev e : Event
  e = writing rules past l.session.connection note (written_transfer l fields octets)

  transfer_session : e.session ≡ Some l.session
  transfer_session = live.0

  transfer_link : e.link ≡ Some l
  transfer_link =
      ap (link_of (Out (frame_of (written_transfer l fields octets))) past) live.0
      ∙ (ap (λ handle. session_link l.session handle past) names ∙ live.1)

  transfer_outgoing : e.outgoing ≡ or_else (outgoing.in_progress l past) (Some (new_outgoing (length past) note fields l))
  transfer_outgoing =
      let of : Link → Option Outgoing = λ k. or_else (outgoing.in_progress k past) (Some (new_outgoing (length past) note fields k)) in
      ap (λ o. option_and_then of (where_passes is_consumer o)) transfer_link ∙ ap (λ b. option_and_then of (if b then Some l else None)) consumes

  transfer_unbroken : IsLawful rules past → length (spoken_octets (written_transfer l fields octets)) ≤ frame_limit l.session.connection past
      → ((clause : Clause) → transfer_meets rules e fields octets past clause ≡ true) → broken_clause rules e past ≡ None
  transfer_unbroken lawful fits meets = none_broken (let spoken = written_transfer l fields octets in spoken_meets rules e (frame_of spoken) past spoken) each clauses
    where
      each : (clause : Clause) → (let spoken = written_transfer l fields octets in spoken_meets rules e (frame_of spoken) past spoken clause) ≡ true
      each L1 =
          both _ (nat_le (length (spoken_octets (written_transfer l fields octets))) (frame_limit l.session.connection past))
          (may_write rules past l.session lawful live.0 (ATransfer fields) refl) (le-leb _ _ fits)
      each L2 = meets L2
      each L3 = meets L3
      each L4 = meets L4
      each L5 = meets L5
      each L6 = meets L6
      each L7 = meets L7
      each L8 = meets L8
      each L9 = meets L9
      each L10 = meets L10
      each L11 = meets L11
      each L12 = meets L12
      each L13 = meets L13
      each L14 = meets L14

  transfer_keeps : is_picked rules e past ≡ true → is_filled_transfer e past ≡ true → moment_keeps rules e past (Out (frame_of (written_transfer l fields octets))) ≡ true
  transfer_keeps picked filled =
      both (is_picked rules e past) (is_due_frame rules e (frame_of (written_transfer l fields octets)) past) picked
      (or_right (is_of_answer rules past) (is_filled_transfer e past) filled)

-- ---- of a delivery that is not begun nothing is sent

born_not : (n : ℕ) (said : Note) (o : Option Outgoing) (m : ℕ) → m < n → IfSome o (IsBorn m said) → is_some_and o (λ j. j.number == n) ≡ false
born_not n said None m lt born = refl
born_not n said (Some j) m lt (inl below) = ne_eqb j.number n (λ same. absurd (omega (arith, same, below, lt)))
born_not n said (Some j) m lt (inr own) = let here = own.0 in ne_eqb j.number n (λ same. absurd (omega (arith, same, here, lt)))

pub unsent_yet : (j : Outgoing) (past : List Event) → AreBorn past → length past ≤ j.number → outgoing.payload j past ≡ []
unsent_yet j [] are after = refl
unsent_yet j (e ∷ past) are after =
    payload-same e past j (born_not j.number e.note e.outgoing (length past) (omega (arith, after)) are.0) ∙ unsent_yet j past are.1 (omega (arith, after))

-- ---- a delivery begins

module _ (rules : RuleSet) (past : List Event) (l : Link) (d : Incoming) (lawful : IsLawful rules past) (born : AreBorn past) (may : MayBegin rules past l d) where
  abbrev of : Bool → TransferFields
  of more = first_part l (next_delivery_id l.session past) d.format more

  abbrev whole : List ℕ
  whole = incoming.payload d past

  abbrev more : Bool
  more = nat_lt (room_on past l of) (length whole)

  abbrev octets : List ℕ
  octets = take (room_on past l of) whole

  abbrev f : Event
  f = writing rules past l.session.connection (notes.Pair d.number) (first_frame past l d)

  abbrev j : Outgoing
  j = new_outgoing (length past) (notes.Pair d.number) (of more) l

  on : f.session ≡ Some l.session
  on = transfer_session rules past l (notes.Pair d.number) (of more) octets may.carries.live may.carries.consumes refl

  at : f.link ≡ Some l
  at = transfer_link rules past l (notes.Pair d.number) (of more) octets may.carries.live may.carries.consumes refl

  goes : f.outgoing ≡ Some j
  goes =
      transfer_outgoing rules past l (notes.Pair d.number) (of more) octets may.carries.live may.carries.consumes refl
      ∙ ap (λ o. or_else o (Some j)) may.none

  none_yet : outgoing.payload j past ≡ []
  none_yet = unsent_yet j past born (le_refl (length past))

  same : filled f l (transfer_fields f l d past) (rest j d past) past ≡ first_frame past l d
  same =
      let Filled : Bool → List ℕ → Spoken = λ b xs. filled f l (λ more. if b then first_part l (next_delivery_id l.session past) d.format more else next_part l more) xs past in
      ap (λ b. Filled b (rest j d past)) (carrying.begins rules past l d may f on at refl j goes refl)
      ∙ ap (λ xs. Filled true (drop (length xs) whole)) none_yet

  first_within : length (spoken_octets (first_frame past l d)) ≤ frame_limit l.session.connection past
  first_within = filled_fits past l of whole (first_same l (next_delivery_id l.session past) d.format) (first_short l (next_delivery_id l.session past) d.format)

  pub first_follows : MayFollow rules past l.session.connection (notes.Pair d.number) (first_frame past l d)
  first_follows = record {
    lawful = transfer_unbroken rules past l (notes.Pair d.number) (of more) octets may.carries.live may.carries.consumes refl lawful first_within
        (first_meets rules past l d may f on at refl j goes refl more octets none_yet (filled_carries (room_on past l of) whole [] refl));
    keeps = transfer_keeps rules past l (notes.Pair d.number) (of more) octets may.carries.live may.carries.consumes refl
        (first_picked rules past l d may f on at refl j goes refl)
        (filled_of rules past l d may.carries f on at refl j goes may.carries.known ((bytes_decides (spoken_octets (first_frame past l d)) _).1 (ap spoken_octets (sym same))));
    earliest = first_earliest rules past l d may f on at refl j goes refl;
  }

-- ---- a delivery goes on

module _ (rules : RuleSet) (past : List Event) (l : Link) (d : Incoming) (lawful : IsLawful rules past) (may : MayCarry rules past l d)
    (j : Outgoing) (going : outgoing.in_progress l past ≡ Some j) (older : (j.number == length past) ≡ false) (named : j.note ≡ notes.Pair d.number)
    (so_far : outgoing.payload j past ≡ take (length (outgoing.payload j past)) (incoming.payload d past)) where
  abbrev left : List ℕ
  left = drop (length (outgoing.payload j past)) (incoming.payload d past)

  abbrev follows : Bool
  follows = nat_lt (room_on past l (next_part l)) (length left)

  abbrev part : List ℕ
  part = take (room_on past l (next_part l)) left

  abbrev g : Event
  g = writing rules past l.session.connection (notes.Pair d.number) (next_frame past l d j)

  on' : g.session ≡ Some l.session
  on' = transfer_session rules past l (notes.Pair d.number) (next_part l follows) part may.live may.consumes refl

  at' : g.link ≡ Some l
  at' = transfer_link rules past l (notes.Pair d.number) (next_part l follows) part may.live may.consumes refl

  goes' : g.outgoing ≡ Some j
  goes' =
      transfer_outgoing rules past l (notes.Pair d.number) (next_part l follows) part may.live may.consumes refl
      ∙ ap (λ o. or_else o (Some (new_outgoing (length past) (notes.Pair d.number) (next_part l follows) l))) going

  same' : filled g l (transfer_fields g l d past) (rest j d past) past ≡ next_frame past l d j
  same' =
      let Filled : Bool → Spoken = λ b. filled g l (λ more. if b then first_part l (next_delivery_id l.session past) d.format more else next_part l more) (rest j d past) past in
      ap Filled (carrying.later rules past l d may g on' at' refl j goes' older)

  next_within : length (spoken_octets (next_frame past l d j)) ≤ frame_limit l.session.connection past
  next_within = filled_fits past l (next_part l) left (next_same l) (next_short l)

  pub next_follows : MayFollow rules past l.session.connection (notes.Pair d.number) (next_frame past l d j)
  next_follows = record {
    lawful = transfer_unbroken rules past l (notes.Pair d.number) (next_part l follows) part may.live may.consumes refl lawful next_within
        (next_meets rules past l d may g on' at' refl j goes' older named follows part (filled_carries (room_on past l (next_part l)) (incoming.payload d past) (outgoing.payload j past) so_far));
    keeps = transfer_keeps rules past l (notes.Pair d.number) (next_part l follows) part may.live may.consumes refl
        (next_picked rules past l d may g on' at' refl j goes' older)
        (filled_of rules past l d may g on' at' refl j goes' (ap (λ n. noted n past) named ∙ may.known) ((bytes_decides (spoken_octets (next_frame past l d j)) _).1 (ap spoken_octets (sym same'))));
    earliest = next_earliest rules past l d may g on' at' refl j goes' older;
  }
