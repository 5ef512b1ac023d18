-- What the counts of a live link's credit stand for (part 2 of the standard, section 2.6.7).
use Rattle.std.specs.Prelude.{ℕ, ◌-◌, List, [], Option, Some, None, option_and_then, option_map, unwrap_or, if◌then◌else◌}
use Rattle.flow_counts.specs.Credit.{LinkEvent, TheirFlow, OurFlow, Begun, credit_lag, is_drain_answer}
use Rattle.flow_counts.specs.Serial.{serial_add}
use Rattle.trace_events.specs.Event.{Event, Link, spoken_of}
use Rattle.trace_events.specs.Said.{handle_in}
use Rattle.trace_events.specs.Credit as credits
use Rattle.state_counts.specs.declared.link_counts.LinkCounts.{LinkCounts}

-- what the law says of them
abbrev pub link_counts : Link → List Event → LinkCounts
link_counts l past = record {
  link_credit = credits.link_credit l past;
  delivery_count = credits.delivery_count l past;
  is_draining = credits.is_draining l past;
  given_credit = credits.given_credit l past;
  received_count = credits.received_count l past;
}

-- before the link's first event
abbrev pub unmoved : Link → LinkCounts
unmoved l = link_counts l []

-- with one more of its events; the first count is that of the attach which the client was told
abbrev pub moved : ℕ → LinkCounts → Option LinkEvent → LinkCounts
moved first x None = x
moved first x (Some Begun) = record x {
  link_credit = x.link_credit - 1;
  delivery_count = serial_add x.delivery_count 1;
  given_credit = x.given_credit - 1;
  received_count = serial_add x.received_count 1;
}
moved first x (Some (TheirFlow known None drain)) = x
moved first x (Some (TheirFlow known (Some credit) drain)) = record x {
  link_credit = credit - credit_lag first x.delivery_count known;
  is_draining = drain;
}
moved first x (Some (OurFlow count credit drain)) = record x {
  link_credit = if is_drain_answer credit drain then 0 else x.link_credit;
  delivery_count = unwrap_or (option_map (λ n. serial_add n 0) count) x.delivery_count;
  given_credit = unwrap_or credit x.given_credit;
}

-- the handle that a flow, a transfer or a detach names
abbrev pub named_handle : Event → Option ℕ
named_handle e = option_and_then (λ spoken. handle_in spoken.meaning) (spoken_of e.moment)
