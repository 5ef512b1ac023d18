-- What the table of consumers' links stands for.
use Rattle.std.specs.Prelude.{◌≡◌, ℕ, Bool, ◌&&◌, List, Option, None, option_map, nat_eq, if◌then◌else◌, ◌==◌}
use Rattle.std.specs.List.{list_any}
use Rattle.indexmap.specs.IndexMap.{get}
use Rattle.trace_events.specs.Words.{or_else, where_passes}
use Rattle.trace_events.specs.Event.{Event, Link}
use Rattle.trace_events.specs.Link.{is_consumer, is_live, link_at, opened_consumer}
use Rattle.state_tables.specs.HeldViews.{held_link_view}
use Rattle.state_tables.specs.declared.consumer_links.ConsumerLinks.{ConsumerLinks}

-- what the table has under the number
abbrev pub link_in : ConsumerLinks → ℕ → Option Link
link_in table n = option_map held_link_view (get nat_eq table.entries n)

-- a consumer's link that lives
abbrev pub is_live_consumer : List Event → Link → Bool
is_live_consumer past l = is_consumer l && is_live past l

-- the one that opened in the record of this number
abbrev pub consumer_at : ℕ → List Event → Option Link
consumer_at n past = where_passes (is_live_consumer past) (link_at n past)

-- the table has just these behind these events, each under its number
abbrev pub AreConsumerLinks : ConsumerLinks → List Event → Type 0
AreConsumerLinks table past = (n : ℕ) → link_in table n ≡ consumer_at n past

-- two tables say the same
abbrev pub AreSameLinks : ConsumerLinks → ConsumerLinks → Type 0
AreSameLinks earlier later = (n : ℕ) → link_in later n ≡ link_in earlier n

-- the consumer's link of this number that the event opens
abbrev pub opened_at : ℕ → Event → Option Link
opened_at n e = where_passes (λ l. l.number == n) (opened_consumer e)

-- the event puts this under the number, where the other stood
abbrev pub with_opened : ℕ → Event → Option Link → Option Link
with_opened n e earlier = or_else (opened_at n e) earlier

-- one of these links has the number
abbrev pub has_link : List Link → ℕ → Bool
has_link links n = list_any (λ l. l.number == n) links

-- what stood under the number, unless one of these links has it
abbrev pub without : List Link → ℕ → Option Link → Option Link
without links n earlier = if has_link links n then None else earlier
