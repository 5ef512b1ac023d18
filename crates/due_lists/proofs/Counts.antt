-- Counts that come to the same: the ends, decisions and beginnings of one event, in whichever order they were counted.
use Rattle.std.proofs.Common.{◌≡◌, sym, ap, ◌∙◌, ℕ, not, List, ◌∷◌, ◌++◌, None, filter, map, if◌then◌else◌, ◌==◌}
use Rattle.std.specs.List.{list_any, count_by}
use Rattle.std.specs.Option.{option_map}
use Rattle.flow_counts.specs.Picks.{AddressEvent, Decided, consumer, consumers}
use Rattle.address_table.specs.Links.{IsCount}
use Rattle.address_table.specs.declared.table.Table.{Table}
use Rattle.trace_events.specs.Event.{Event, Link, Outgoing}
use Rattle.trace_events.specs.Link.{is_consumer, links, own_link}
use Rattle.trace_events.specs.Outgoing.{outgoing_deliveries}
use Rattle.trace_events.proofs.StepWords.{filter-by}
use Rattle.trace_duties.specs.Consumers.{detaches_consumer, decides_outgoing, decided_by, begun_by, attached_as, address_events}
use Rattle.trace_duties.proofs.ConsumerCounts.{consumers-all_detached, consumers-all_decided, consumer-all_detached, consumer-all_decided, fewer}
use Rattle.trace_duties.proofs.ConsumersCounted.{decided_count}
use Rattle.due_lists.specs.AddressCounts.{detached_all}

-- the same links end, and as many deliveries of each link are decided
module _ (e : Event) (past : List Event) (ended : List Link) (links-decided : List ℕ)
    (same : (n : ℕ) → list_any (λ l. n == l.number) (filter is_consumer ended) ≡ list_any (λ l. n == l.number) (filter (detaches_consumer e past) (links past)))
    (as_many : (n : ℕ) → count_by (λ x. n == x) links-decided ≡ decided_count n e past) where
  abbrev before : List AddressEvent
  before = begun_by e ++ (attached_as (own_link e) ++ address_events past)

  abbrev given : List AddressEvent
  given = detached_all ended ++ (map (λ x. Decided x) links-decided ++ before)

  consumer-same : (n : ℕ) → consumer n given ≡ consumer n (address_events (e ∷ past))
  consumer-same n =
      consumer-all_detached (λ (l : Link). l.number) n (filter is_consumer ended) (map (λ x. Decided x) links-decided ++ before)
      ∙ (ap (λ b. if b then None else consumer n (map (λ x. Decided x) links-decided ++ before)) (same n)
      ∙ (ap (λ o. if list_any (λ (l : Link). n == l.number) (filter (detaches_consumer e past) (links past)) then None else o)
      (consumer-all_decided (λ (x : ℕ). x) n links-decided before
      ∙ (ap (λ m. option_map (fewer m) (consumer n before)) (as_many n)
      ∙ sym (consumer-all_decided (λ (j : Outgoing). j.link.number) n (filter (decides_outgoing e past) (outgoing_deliveries past)) before)))
      ∙ sym (consumer-all_detached (λ (l : Link). l.number) n (filter (detaches_consumer e past) (links past)) (decided_by e past ++ before))))

  consumers-same : (address : List ℕ) → consumers address given ≡ consumers address (address_events (e ∷ past))
  consumers-same address =
      consumers-all_detached (λ (l : Link). l.number) address (filter is_consumer ended) (map (λ x. Decided x) links-decided ++ before)
      ∙ (filter-by (λ n. not (list_any (λ (l : Link). n == l.number) (filter is_consumer ended))) (λ n. not (list_any (λ (l : Link). n == l.number) (filter (detaches_consumer e past) (links past))))
      (λ n. ap not (same n)) (consumers address (map (λ x. Decided x) links-decided ++ before))
      ∙ (ap (filter (λ n. not (list_any (λ (l : Link). n == l.number) (filter (detaches_consumer e past) (links past)))))
      (consumers-all_decided (λ (x : ℕ). x) address links-decided before
      ∙ sym (consumers-all_decided (λ (j : Outgoing). j.link.number) address (filter (decides_outgoing e past) (outgoing_deliveries past)) before))
      ∙ sym (consumers-all_detached (λ (l : Link). l.number) address (filter (detaches_consumer e past) (links past)) (decided_by e past ++ before))))

  pub counted-same : (table : Table) → IsCount table given → IsCount table (address_events (e ∷ past))
  counted-same table count = record {
    links = λ n. count.links n ∙ consumer-same n;
    lists = λ address. count.lists address ∙ consumers-same address;
  }
