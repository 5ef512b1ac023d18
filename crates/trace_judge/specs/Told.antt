-- What is decided and told, as the code has it.
use Rattle.std.specs.Prelude.{ℕ, Bool, true, false, List, Option, Some, None}
use Rattle.amqp_perf.specs.declared.attach.Role.TheVariants.{Receiver}
use Rattle.amqp_perf.specs.Meaning.{DispositionFields}
use Rattle.amqp_perf.specs.Router.{delivery_failed}
use Rattle.pairing_cert.specs.declared.note.Why.{Why}
use Rattle.pairing_cert.specs.declared.note.Why.TheVariants.{C, Z, S, L, N, M}
use Rattle.trace_events.specs.declared.disposition.Decision.{Decision}
use Rattle.trace_judge.specs.declared.outcome.Told.{Told}
use Rattle.trace_judge.specs.declared.outcome.Told.TheVariants as told
use Rattle.trace_events.specs.Outcome.{bare_octets}
use Rattle.trace_events.specs.View.{decision_view}

-- a disposition that decides so, and says no more
abbrev pub decided_view : Decision → DispositionFields
decided_view decision = record { role = Receiver; first = 0; last = None; settled = Some true; state = decision_view decision }

-- the state that is told: its octets, or that there is none
abbrev pub told_view : Told → Option (List ℕ)
told_view told.Nothing = None
told_view (told.Bare outcome) = Some (bare_octets outcome)
told_view told.DeliveryFailed = Some delivery_failed.octets
told_view (told.Octets octets) = Some octets.now

-- the rows that ask what carried an anycast delivery to its consumer
abbrev pub asks_pairing : Why → Bool
asks_pairing C = true
asks_pairing Z = true
asks_pairing S = true
asks_pairing L = true
asks_pairing N = false
asks_pairing M = false
