-- What L8 compares: the octets of a delivery to a client with those of the delivery that it carries.
use Rattle.std.specs.Prelude.{◌≡◌, ◌≢◌, ◌<◌, ◌≤◌, ℕ, ◌+◌, ◌-◌, ◌%◌, ◌^◌, Bool, false, List, length, drop, slice_get, Some, option_map}
use Rattle.amqp_perf.specs.Meaning.{flag}
use Rattle.capture_form.specs.Rules.{RuleSet}
use Rattle.trace_events.specs.Event.{Event}
use Rattle.trace_events.specs.Incoming as received
use Rattle.trace_events.specs.Outgoing as told
use Rattle.trace_events.specs.Said.{out_spoken, out_transfer}
use Rattle.trace_events.specs.TransferClause.{to_carry}
use Rattle.trace_events.specs.View.{incoming_view, outgoing_view}
use Rattle.refusal_facts.specs.declared.payload.Difference.{Difference}
use Rattle.refusal_facts.specs.declared.payload.Difference.TheVariants.{Octet, TooMany, Missing, Nothing}
use Rattle.refusal_facts.specs.declared.payload.PayloadFacts.{PayloadFacts}

-- the octets are alike below this place
abbrev pub AreAlikeBelow : ℕ → List ℕ → List ℕ → Type 0
AreAlikeBelow place due said = (k : ℕ) → k < place → slice_get due k ≡ slice_get said k

-- how the octets said differ from those due, of which so many stand before them in the payload
abbrev pub IsDifferenceFrom : ℕ → List ℕ → List ℕ → Bool → Difference → Type 0
IsDifferenceFrom sent due said more (Octet offset one other) =
    (sent ≤ offset) × (slice_get due (offset - sent) ≡ Some one) × (slice_get said (offset - sent) ≡ Some other) × (one ≢ other)
    × AreAlikeBelow (offset - sent) due said
IsDifferenceFrom sent due said more (TooMany count) =
    (length said ≡ length due + count) × (0 < count) × AreAlikeBelow (length due) due said
IsDifferenceFrom sent due said more (Missing count) =
    (length due ≡ length said + count) × (0 < count) × (more ≡ false) × AreAlikeBelow (length said) due said
IsDifferenceFrom sent due said more Nothing =
    (length said ≤ length due) × AreAlikeBelow (length said) due said × (more ≡ false → length said ≡ length due)

-- L8: the delivery that is carried, the one that carries it, how many octets were sent of that before, counted in 64 bits, and
-- how the octets differ, behind so many
abbrev pub ArePayload : RuleSet → Event → List Event → PayloadFacts → Type 0
ArePayload rules e past facts =
    (to_carry rules e.note past ≡ Some (incoming_view facts.delivery)) × (e.outgoing ≡ Some (outgoing_view facts.outgoing))
    × (facts.whole ≡ length (received.payload (incoming_view facts.delivery) past))
    × (facts.sent ≡ length (told.payload (outgoing_view facts.outgoing) past) % 2 ^ 64)
    × (option_map (λ fields. flag fields.more) (out_transfer e) ≡ Some facts.has_more)
    × (option_map (λ spoken. length spoken.payload) (out_spoken e) ≡ Some facts.said)
    × ((octets : List ℕ) → option_map (λ spoken. spoken.payload) (out_spoken e) ≡ Some octets →
    IsDifferenceFrom facts.sent (drop facts.sent (received.payload (incoming_view facts.delivery) past)) octets facts.has_more facts.difference)
