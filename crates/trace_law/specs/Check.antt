-- What is asked of a capture at one of its records: by the records below it.
use Rattle.std.specs.Prelude.{ℕ, Bool, List, [], ◌∷◌, take, drop, Option, Some, None, Result, Ok, Err, option_map, option_and_then, ◌&&◌, if◌then◌else◌}
use Rattle.amqp_perf.specs.declared.descriptor.Outcome.{Outcome}
use Rattle.capture_form.specs.declared.records.Record.{Record}
use Rattle.capture_form.specs.Rules.{RuleSet}
use Rattle.capture_form.specs.Text.{Trace}
use Rattle.trace_events.specs.declared.clause.Clause.{Clause}
use Rattle.trace_events.specs.Words.{is_some_and, where_passes}
use Rattle.trace_events.specs.Event.{Event, Incoming}
use Rattle.trace_events.specs.Session.{live_session}
use Rattle.trace_events.specs.Link.{live_link, is_consumer}
use Rattle.trace_events.specs.Window.{session_window}
use Rattle.trace_events.specs.Credit.{link_credit}
use Rattle.trace_events.specs.Incoming.{incoming_at, is_complete}
use Rattle.trace_events.specs.Waiting.{is_of_multicast, is_waiting}
use Rattle.trace_events.specs.History.{judge, history}
use Rattle.trace_events.specs.Clauses.{broken_clause}
use Rattle.trace_events.specs.BestVerdict.{whole_verdict}

-- the events of the records below this number
abbrev pub events_below : ℕ → Trace → List Event
events_below i capture = history capture.rules (take i capture.records)

-- ---- the law

-- the first clause that the first of some records breaks
abbrev pub broken_by_first : RuleSet → List Event → List Record → Option Clause
broken_by_first rules past [] = None
broken_by_first rules past (r ∷ rs) = broken_clause rules (judge rules past r) past

-- the first clause that the record of this number breaks
abbrev pub clause_broken_by : ℕ → Trace → Option Clause
clause_broken_by i capture = broken_by_first capture.rules (events_below i capture) (drop i capture.records)

-- it meets the law, or breaks this clause first
abbrev pub as_checked : Option Clause → Result (Unit {0}) Clause
as_checked None = Ok tt
as_checked (Some clause) = Err clause

-- ---- counts

-- the window of the live session of a channel
abbrev pub window_on : ℕ → ℕ → List Event → Option ℕ
window_on c channel past = option_map (λ s. session_window s past) (live_session c channel past)

-- the credit of the live consumer's link of a handle
abbrev pub credit_on : ℕ → ℕ → ℕ → List Event → Option ℕ
credit_on c channel handle past = option_map (λ l. link_credit l past) (where_passes is_consumer (live_link c channel handle past))

-- the delivery that begins in the record of this number waits
abbrev pub waits : RuleSet → ℕ → List Event → Bool
waits rules n past = is_some_and (incoming_at n past) (λ d. is_waiting rules d past)

-- what the producer of a multicast delivery is told: once it is complete and each copy has its verdict, the best
abbrev pub told_of : RuleSet → List Event → Incoming → Option Outcome
told_of rules past d =
    if is_of_multicast rules d past && is_complete d past then whole_verdict rules d past else None

-- of the delivery that begins in the record of this number
abbrev pub best_at : RuleSet → ℕ → List Event → Option Outcome
best_at rules n past = option_and_then (told_of rules past) (incoming_at n past)
