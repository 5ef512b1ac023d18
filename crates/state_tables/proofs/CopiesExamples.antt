-- What known receivers, links, deliveries and events say of copies.
use Rattle.std.proofs.Common.{◌≡◌, refl, ap, ◌∙◌, ℕ, true, false, ◌&&◌, List, [], ◌∷◌, Option, Some, None, is_some, ◌==◌}
use Rattle.amqp_perf.specs.Meaning.{TransferFields}
use Rattle.amqp_perf.specs.declared.attach.Role.TheVariants.{Sender}
use Rattle.pairing_cert.specs.declared.note.Note.{Note}
use Rattle.pairing_cert.specs.declared.note.Note.TheVariants as notes
use Rattle.trace_events.specs.declared.session.Session.{Session}
use Rattle.trace_events.specs.Event.{Event, Link, Incoming}
use Rattle.trace_events.specs.Outgoing.{names}
use Rattle.trace_events.specs.Said.{out_transfer}
use Rattle.trace_events.specs.Words.{is_some_and}
use Rattle.state_tables.specs.ConsumerLinks.{has_link}
use Rattle.state_tables.specs.Copies.{has_delivery, has_room, names_at}
use Rattle.state_tables.specs.Receivers.{receiver_on}
use Rattle.state_tables.specs.declared.copies.Receiver.{Receiver}

-- ---- receivers: the links 6 and 8, which have credit for one copy and for two

abbrev receivers : List Receiver
receivers = record { link = 6; credit = 1 } ∷ record { link = 8; credit = 2 } ∷ []

room : has_room receivers 8 1 ≡ true
room = refl

no_room : has_room receivers 6 1 ≡ false
no_room = refl

no_receiver : has_room receivers 7 0 ≡ false
no_receiver = refl

-- ---- links and deliveries

abbrev session : Session
session = record { number = 4; connection = 0; channel = 0; our_first_id = 0; their_first_id = 0; their_window = 100 }

abbrev link_six : Link
link_six = record { number = 6; session = session; handle = 0; role = Sender; address = []; is_pre_settled = true; our_first_count = 0; their_first_count = 0 }

abbrev twenty : Incoming
twenty = record { number = 20; link = link_six; id = None; format = 0 }

numbered : has_delivery 20 (twenty ∷ []) ≡ true
numbered = refl

other_number : has_delivery 21 (twenty ∷ []) ≡ false
other_number = refl

ended : has_link (link_six ∷ []) 6 ≡ true
ended = refl

another_ended : has_link (link_six ∷ []) 8 ≡ false
another_ended = refl

-- before its first flow a link has no credit (part 2 of the standard, section 2.6.7)

receives : receiver_on [] link_six ≡ record { link = 6; credit = 0 }
receives = refl

-- ---- an event of the link 6 whose note names the delivery 20

module _ (e : Event) (on : e.link ≡ Some link_six) (note : e.note ≡ notes.Pair 20) where
  said : (o : Option TransferFields) (link n : ℕ) → out_transfer e ≡ o → names_at link n e ≡ is_some o && (6 == link) && names n (notes.Pair 20)
  said o link n is =
      ap (λ (p : Option TransferFields). is_some p && is_some_and e.link (λ l. l.number == link) && names n e.note) is
      ∙ (ap (λ (p : Option Link). is_some o && is_some_and p (λ l. l.number == link) && names n e.note) on
      ∙ ap (λ (x : Note). is_some o && (6 == link) && names n x) note)

  module _ (fields : TransferFields) (written : out_transfer e ≡ Some fields) where
    named : names_at 6 20 e ≡ true
    named = said (Some fields) 6 20 written

    named_elsewhere : names_at 8 20 e ≡ false
    named_elsewhere = said (Some fields) 8 20 written

    another_named : names_at 6 21 e ≡ false
    another_named = said (Some fields) 6 21 written

  no_transfer : out_transfer e ≡ None → names_at 6 20 e ≡ false
  no_transfer is = said None 6 20 is
