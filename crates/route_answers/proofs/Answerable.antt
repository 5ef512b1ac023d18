-- What a client may do can be answered: a flow names what lives, and the texts of attaches are short.
use Rattle.std.proofs.Common.{◌≡◌, refl, ℕ, Bool, true, false, List, ◌∷◌, length, Option, Some, None, IsTrue}
use Rattle.amqp_perf.specs.Meaning.{Meaning, AnOpen, ABegin, AnAttach, AFlow, ATransfer, ADisposition, ADetach, AnEnd, AClose, AttachFields}
use Rattle.pairing_cert.specs.declared.note.Note.TheVariants as notes
use Rattle.capture_form.specs.Rules.{RuleSet}
use Rattle.trace_events.specs.declared.fault.Fault.{Fault}
use Rattle.trace_events.specs.declared.fault.Fault.TheVariants.{Close, End, Refuse, Detach}
use Rattle.trace_events.specs.Frame.{Body, NoFrame, Empty, NoPerformative, Says}
use Rattle.trace_events.specs.Event.{Event, Moment, Opened, In, Out, Lost, Broken, is_out}
use Rattle.trace_events.specs.Connection.{was_opened}
use Rattle.trace_events.specs.Said.{as_attach}
use Rattle.trace_events.specs.History.{judge_moment}
use Rattle.trace_events.proofs.Standing.{placed-stands}
use Rattle.trace_events.proofs.LiveLinks.{placed-names}
use Rattle.route_answers.specs.Answering.{IsReady, may_happen, was_lost}
use Rattle.route_answers.specs.Replies.{EchoesLive, AreShortTexts, IsHeardShort, IsAnswerableBody, IsAnswerableAt, IsAnswerable}
use Rattle.route_answers.proofs.Connections.{finished_closed}
use Rattle.route_answers.proofs.Said.{spoken_on, said, unfaulted, found}
use Rattle.route_answers.proofs.Faults.{on_session, attach_named}
use Rattle.route_answers.proofs.Attaches.{address_short}
use Rattle.route_answers.proofs.Inputs.{lawful_at, allowed}

-- what is no attach repeats no text
textless : (m : Meaning) → as_attach m ≡ None → (number : ℕ) (fault : Option Fault) → AreShortTexts number fault m
textless (AnAttach fields) other number fault = absurd cc
textless (AnOpen x) other number None = tt
textless (AnOpen x) other number (Some (Refuse condition)) = tt
textless (AnOpen x) other number (Some (Close condition)) = tt
textless (AnOpen x) other number (Some (End condition)) = tt
textless (AnOpen x) other number (Some (Detach condition)) = tt
textless (ABegin x) other number None = tt
textless (ABegin x) other number (Some (Refuse condition)) = tt
textless (ABegin x) other number (Some (Close condition)) = tt
textless (ABegin x) other number (Some (End condition)) = tt
textless (ABegin x) other number (Some (Detach condition)) = tt
textless (AFlow x) other number None = tt
textless (AFlow x) other number (Some (Refuse condition)) = tt
textless (AFlow x) other number (Some (Close condition)) = tt
textless (AFlow x) other number (Some (End condition)) = tt
textless (AFlow x) other number (Some (Detach condition)) = tt
textless (ATransfer x) other number None = tt
textless (ATransfer x) other number (Some (Refuse condition)) = tt
textless (ATransfer x) other number (Some (Close condition)) = tt
textless (ATransfer x) other number (Some (End condition)) = tt
textless (ATransfer x) other number (Some (Detach condition)) = tt
textless (ADisposition x) other number None = tt
textless (ADisposition x) other number (Some (Refuse condition)) = tt
textless (ADisposition x) other number (Some (Close condition)) = tt
textless (ADisposition x) other number (Some (End condition)) = tt
textless (ADisposition x) other number (Some (Detach condition)) = tt
textless (ADetach x) other number None = tt
textless (ADetach x) other number (Some (Refuse condition)) = tt
textless (ADetach x) other number (Some (Close condition)) = tt
textless (ADetach x) other number (Some (End condition)) = tt
textless (ADetach x) other number (Some (Detach condition)) = tt
textless (AnEnd x) other number None = tt
textless (AnEnd x) other number (Some (Refuse condition)) = tt
textless (AnEnd x) other number (Some (Close condition)) = tt
textless (AnEnd x) other number (Some (End condition)) = tt
textless (AnEnd x) other number (Some (Detach condition)) = tt
textless (AClose x) other number None = tt
textless (AClose x) other number (Some (Refuse condition)) = tt
textless (AClose x) other number (Some (Close condition)) = tt
textless (AClose x) other number (Some (End condition)) = tt
textless (AClose x) other number (Some (Detach condition)) = tt

module _ (rules : RuleSet) (c : ℕ) (past : List Event) (ready : IsReady rules past) where
  abbrev at : Moment → Event
  at m = judge_moment rules past c m notes.None

  module _ (channel : ℕ) (octets payload : List ℕ) where
    abbrev e : Meaning → Event
    e m = said rules c past octets (spoken_on channel payload m)

    -- what a flow names lives on
    echoes : (m : Meaning) → EchoesLive (e m) (e m ∷ past) m
    echoes (AFlow flow) =
        let moment = In (record { octets = octets; body = Says (spoken_on channel payload (AFlow flow)) }) in
        (placed-stands past c moment notes.None, placed-names past c moment notes.None)
    echoes (AnOpen x) = tt
    echoes (ABegin x) = tt
    echoes (AnAttach x) = tt
    echoes (ATransfer x) = tt
    echoes (ADisposition x) = tt
    echoes (ADetach x) = tt
    echoes (AnEnd x) = tt
    echoes (AClose x) = tt

    -- an attach that is heard has short texts where it is accepted, and a short name where it is refused
    module _ (fields : AttachFields) (heard : (e (AnAttach fields)).is_heard ≡ true) where
      attach_short : (fault : Option Fault) → (e (AnAttach fields)).fault ≡ fault → AreShortTexts (length past) fault (AnAttach fields)
      attach_short None is =
          let spoken = spoken_on channel payload (AnAttach fields) in
          let on = on_session rules (unfaulted c past octets spoken) spoken past None refl (found rules c past octets spoken None heard is) in
          let named = attach_named rules on.session fields past None refl refl on.fault in
          (named.0, address_short rules (length past) ready.short fields fields.role refl named.1)
      attach_short (Some (Refuse condition)) is =
          let spoken = spoken_on channel payload (AnAttach fields) in
          let on = on_session rules (unfaulted c past octets spoken) spoken past (Some (Refuse condition)) refl (found rules c past octets spoken (Some (Refuse condition)) heard is) in
          (attach_named rules on.session fields past (Some (Refuse condition)) refl refl on.fault).0
      attach_short (Some (Close condition)) is = tt
      attach_short (Some (End condition)) is = tt
      attach_short (Some (Detach condition)) is = tt

    texts : (m : Meaning) → (e m).is_heard ≡ true → AreShortTexts (length past) (e m).fault m
    texts (AnAttach fields) heard = attach_short fields heard (e (AnAttach fields)).fault refl
    texts (AnOpen x) heard = textless (AnOpen x) refl (length past) (e (AnOpen x)).fault
    texts (ABegin x) heard = textless (ABegin x) refl (length past) (e (ABegin x)).fault
    texts (AFlow x) heard = textless (AFlow x) refl (length past) (e (AFlow x)).fault
    texts (ATransfer x) heard = textless (ATransfer x) refl (length past) (e (ATransfer x)).fault
    texts (ADisposition x) heard = textless (ADisposition x) refl (length past) (e (ADisposition x)).fault
    texts (ADetach x) heard = textless (ADetach x) refl (length past) (e (ADetach x)).fault
    texts (AnEnd x) heard = textless (AnEnd x) refl (length past) (e (AnEnd x)).fault
    texts (AClose x) heard = textless (AClose x) refl (length past) (e (AClose x)).fault

    heard_texts : (m : Meaning) (heard : Bool) → (e m).is_heard ≡ heard → IsHeardShort heard (length past) (e m).fault m
    heard_texts m true is = texts m is
    heard_texts m false is = tt

  body_answerable : (octets : List ℕ) (body : Body) → (let x = at (In (record { octets = octets; body = body })) in IsAnswerableBody x (x ∷ past) body)
  body_answerable octets (Says spoken) =
      let m = spoken.meaning in
      (echoes spoken.channel octets spoken.payload m, heard_texts spoken.channel octets spoken.payload m (e spoken.channel octets spoken.payload m).is_heard refl)
  body_answerable octets NoFrame = tt
  body_answerable octets (Empty channel) = tt
  body_answerable octets (NoPerformative channel) = tt

  answerable_at : (m : Moment) → may_happen c m past ≡ true → IsAnswerableAt (at m) (at m ∷ past) m
  answerable_at (In frame) may = body_answerable frame.octets frame.body
  answerable_at (Out frame) may = tt
  answerable_at Opened may = tt
  answerable_at Lost may = tt
  answerable_at Broken may = finished_closed c past (allowed rules c past ready (was_opened c past) (was_lost c past) may).1

  input : (m : Moment) → may_happen c m past ≡ true → is_out m ≡ false
  input (Out frame) may = absurd cc
  input (In frame) may = refl
  input Opened may = refl
  input Lost may = refl
  input Broken may = refl

  pub answerable : (m : Moment) → IsTrue (may_happen c m past) → IsAnswerable rules (at m) (at m ∷ past)
  answerable m may = record { lawful = lawful_at rules c past ready m (input m may); at = answerable_at m may }
