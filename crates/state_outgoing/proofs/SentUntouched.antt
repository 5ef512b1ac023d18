-- A delivery to a client that an event doesn't touch stays as it was.
use Rattle.std.proofs.Common.{◌≡◌, refl, ap, ◌+◌, ◌%◌, ◌^◌, Bool, true, false, ◌&&◌, ◌||◌, not, length, Option, Some, None, is_some, option_map, if◌then◌else◌}
use Rattle.amqp_perf.specs.Nested.{StateFields}
use Rattle.amqp_perf.specs.Meaning.{DispositionFields, TransferFields, flag}
use Rattle.trace_events.specs.Words.{is_some_and, is_number, or_else, where_passes}
use Rattle.trace_events.specs.Event.{Event}
use Rattle.trace_events.specs.Said.{out_spoken, out_transfer}
use Rattle.trace_events.specs.Ends.{ends_link}
use Rattle.trace_events.specs.Disposition.{is_decisive, terminal_state}
use Rattle.trace_events.specs.Incoming.{part_payload}
use Rattle.trace_events.specs.Outgoing.{is_part, answering}
use Rattle.state_outgoing.specs.Sent.{Sent, sent_next}
use Rattle.state_outgoing.specs.SentTouched.{touches}
use Rattle.state_outgoing.proofs.SentSteps.{made-same}

or_none : (a b : Bool) → a || b ≡ false → (a ≡ false) × (b ≡ false)
or_none false b is = (refl, is)
or_none true b is = absurd cc

-- one that is settled, or of which the event says nothing
kept-decision : (u ends settles : Bool) (o : Option DispositionFields) (d : Option (Option StateFields)) → u && (is_some o || ends || settles) ≡ false
    → or_else d (if u then option_map terminal_state (where_passes is_decisive o) else None) ≡ d
kept-decision u ends settles o (Some state) off = refl
kept-decision true ends settles (Some fields) None off = absurd cc
kept-decision true ends settles None None off = refl
kept-decision false ends settles o None off = refl

kept-unsettled : (u ends settles : Bool) (o : Option DispositionFields) → u && (is_some o || ends || settles) ≡ false
    → u && (not ends && not (is_some_and o (λ fields. flag fields.settled)) && not settles) ≡ u
kept-unsettled false ends settles o off = refl
kept-unsettled true ends settles (Some fields) off = absurd cc
kept-unsettled true true settles None off = absurd cc
kept-unsettled true false true None off = absurd cc
kept-unsettled true false false None off = refl

pub untouched : (e : Event) (x : Sent) → touches e x ≡ false → sent_next e x ≡ x
untouched e x off =
    let j = x.delivery in
    let ends = ends_link j.link e in
    let settles = is_number e.settled j.number in
    let both = or_none (is_part j e) (x.is_unsettled && (is_some (answering j e) || ends || settles)) off in
    made-same j _ _ _ _ _ _ _ _
    (ap (λ b. if b then (x.sent_count + length (part_payload (out_spoken e))) % 2 ^ 64 else x.sent_count) both.0)
    (ap (λ b. b && is_some_and (out_transfer e) (λ (fields : TransferFields). not (flag fields.more)) || x.is_sent) both.0)
    (kept-decision x.is_unsettled ends settles (answering j e) x.decision both.1)
    (kept-unsettled x.is_unsettled ends settles (answering j e) both.1)
