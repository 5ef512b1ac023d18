-- What a delivery to a client says of the copy that it is.
use Rattle.std.specs.Prelude.{ℕ, Bool, ◌&&◌, Option, ◌==◌}
use Rattle.amqp_perf.specs.declared.descriptor.Outcome.{Outcome}
use Rattle.trace_events.specs.Words.{is_some_and}
use Rattle.trace_events.specs.Outgoing.{names}
use Rattle.trace_events.specs.BestVerdict.{is_same_outcome}
use Rattle.state_verdicts.specs.Verdicts.{is_verdict_of}
use Rattle.state_verdicts.specs.declared.verdicts.CopyVerdict.{CopyVerdict}
use Rattle.state_outgoing.specs.Sent.{Sent, verdict_of}

-- it is on the link of this number, carries the delivery from a client of number n, and this came of it
abbrev pub gives : ℕ → ℕ → Outcome → Option Sent → Bool
gives link n outcome o =
    is_some_and o (λ x. x.delivery.link.number == link && (names n x.delivery.note && is_some_and (verdict_of x) (is_same_outcome outcome)))

-- the same, told of it
abbrev pub says : ℕ → ℕ → Outcome → CopyVerdict → Bool
says link n outcome v = v.link == link && is_verdict_of n outcome v
