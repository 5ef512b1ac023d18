-- What is kept of an event, and what judging a next record answers.
use Rattle.std.proofs.Common.{◌≡◌, refl, sym, ap, ◌∙◌, ℕ, List, true, false, [], Some, None, Ok, Err}
use Rattle.amqp_frames.specs.Writing.{frame_octets}
use Rattle.amqp_frames.specs.Reading.{whole_frame, frame_at, sized_frame, headed_frame}
use Rattle.amqp_perf.proofs.Opened.{read, written}
use Rattle.trace_events.specs.Frame.{frame_read}
use Rattle.trace_events.specs.Event.{Event, Link, Incoming, Outgoing}
use Rattle.trace_events.specs.History.{judge}
use Rattle.capture_form.specs.declared.records.Record.{Record}
use Rattle.capture_form.specs.Rules.{no_rules}
use Rattle.trace_events.specs.Clauses.{broken_clause}
use Rattle.trace_events.specs.declared.clause.Clause.TheVariants.{L1, L2}
use Rattle.trace_events.specs.Written.{spoken_octets, written_open}
use Rattle.trace_events.proofs.Captures.{opened}
use Rattle.trace_events.proofs.Made.{write}
use Rattle.state_ledger.specs.HeldEvents.{has_parts, facts_of, parts_of, event_of}
use Rattle.state_ledger.specs.NextEvents.{IsAnswer, IsHeldAnswer}
use Rattle.state_ledger.specs.declared.not_entered.NotEntered.TheVariants.{Broken, Memory}

-- ---- memory is asked for the link alone, for either delivery alone, and for nothing else

module _ (l : Link) (d : Incoming) (j : Outgoing) where
  link_alone : has_parts (record { link = Some l; incoming = None; outgoing = None }) ≡ true
  link_alone = refl

  incoming_alone : has_parts (record { link = None; incoming = Some d; outgoing = None }) ≡ true
  incoming_alone = refl

  outgoing_alone : has_parts (record { link = None; incoming = None; outgoing = Some j }) ≡ true
  outgoing_alone = refl

no_part : has_parts (record { link = None; incoming = None; outgoing = None }) ≡ false
no_part = refl

-- an event is its facts, its parts and its moment
whole_again : (e : Event) → event_of (facts_of e) (parts_of e) e.moment ≡ e
whole_again e = refl

-- ---- the answer to a first record

unbroken : IsAnswer no_rules [] (opened 0) (Ok (judge no_rules [] (opened 0)))
unbroken = (refl, refl)

refused_unbroken : IsAnswer no_rules [] (opened 0) (Err L1) → ⊥
refused_unbroken h = let never : None ≡ Some L1 = h in absurd cc

under_another_number : IsAnswer no_rules [] (opened 0) (Ok (record (judge no_rules [] (opened 0)) { number = 1 })) → ⊥
under_another_number h = let never : ◌≡◌ {A = ℕ} 1 0 = ap (λ (e : Event). e.number) h.0 in absurd cc

-- a frame on a connection that was not opened
broken_first : IsAnswer no_rules [] (write 0 written_open) (Err L1)
unfolding frame_read whole_frame frame_at sized_frame headed_frame read spoken_octets frame_octets written
broken_first = refl

broken_otherwise : IsAnswer no_rules [] (write 0 written_open) (Err L2) → ⊥
broken_otherwise h = let never : Some L1 ≡ Some L2 = sym broken_first ∙ h in absurd cc

broken_and_taken : IsAnswer no_rules [] (write 0 written_open) (Ok (judge no_rules [] (write 0 written_open))) → ⊥
broken_and_taken h = let never : Some L1 ≡ None = sym broken_first ∙ h.1 in absurd cc

-- ---- what is held of it, and why nothing is

held_unbroken : IsHeldAnswer no_rules [] (opened 0) (judge no_rules [] (opened 0)) (Ok tt)
held_unbroken = unbroken

another_is_held : IsHeldAnswer no_rules [] (opened 0) (record (judge no_rules [] (opened 0)) { number = 1 }) (Ok tt) → ⊥
another_is_held = under_another_number

refused_by_its_clause : (held : Event) → IsHeldAnswer no_rules [] (write 0 written_open) held (Err (Broken L1))
refused_by_its_clause held = broken_first

refused_by_another : (held : Event) → IsHeldAnswer no_rules [] (write 0 written_open) held (Err (Broken L2)) → ⊥
refused_by_another held = broken_otherwise

-- memory is asked for a link's address, behind a record that breaks no clause
module _ (past : List Event) (r : Record) (l : Link) (held : Event) (has : (judge no_rules past r).link ≡ Some l) where
  refused_for_memory : broken_clause no_rules (judge no_rules past r) past ≡ None → IsHeldAnswer no_rules past r held (Err Memory)
  refused_for_memory met = (rw (has) refl, met)

  refused_for_memory_and_broken : broken_clause no_rules (judge no_rules past r) past ≡ Some L1 → IsHeldAnswer no_rules past r held (Err Memory) → ⊥
  refused_for_memory_and_broken broken h = let never : Some L1 ≡ None = sym broken ∙ h.1 in absurd cc

no_memory_is_asked : (held : Event) → IsHeldAnswer no_rules [] (opened 0) held (Err Memory) → ⊥
no_memory_is_asked held h = let never : false ≡ true = h.0 in absurd cc
