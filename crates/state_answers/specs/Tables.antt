-- What the tables stand for, all of them.
use Rattle.std.specs.Prelude.{◌≡◌, ◌⊎◌, ℕ, Bool, ◌+◌, true, false, List, [], ◌∷◌, ◌++◌, Some, None, is_some, nat_eq, nat_lt, if◌then◌else◌}
use Rattle.std.specs.List.{list_all, list_any}
use Rattle.capture_form.specs.Rules.{RuleSet}
use Rattle.number_groups.specs.Groups.{is_member}
use Rattle.trace_events.specs.Words.{is_some_and}
use Rattle.trace_events.specs.Event.{Event}
use Rattle.trace_events.specs.Incoming.{completed_by}
use Rattle.trace_events.specs.History.{IsHistory}
use Rattle.trace_events.specs.Clauses.{first_broken}
use Rattle.state_tables.specs.Connections.{AreKept}
use Rattle.state_tables.specs.Entries.{capped, entries_of_connections, entries_of_links}
use Rattle.state_tables.specs.LinkTables.{AreLinked}
use Rattle.state_tables.specs.declared.connections.Connections.{Connections}
use Rattle.state_tables.specs.declared.links.Links.{Links}
use Rattle.state_tables.specs.Consumers.{AreConsumers}
use Rattle.state_tables.specs.declared.consumers.Consumers.{Consumers}
use Rattle.state_tables.specs.ConsumerLinks.{AreConsumerLinks, consumer_at}
use Rattle.state_tables.specs.declared.consumer_links.ConsumerLinks.{ConsumerLinks}
use Rattle.state_incoming.specs.HeldTables.{IsTable, count_of, held_in, number_at}
use Rattle.state_incoming.specs.LetGo.{is_spent}
use Rattle.state_incoming.specs.declared.deliveries.Deliveries.{Deliveries}
use Rattle.state_tables.specs.Copies.{AreCopies}
use Rattle.state_tables.specs.declared.copies.Copies.{Copies}
use Rattle.state_outgoing.specs.Carriers.{carriers_in}
use Rattle.state_outgoing.specs.LastBegun.{is_last_let_go}
use Rattle.state_outgoing.specs.SentTables as sent_tables
use Rattle.state_outgoing.specs.SentTables.{is_done_in, is_last_in}
use Rattle.state_outgoing.specs.declared.deliveries.SentDeliveries.{SentDeliveries}
use Rattle.state_verdicts.specs.Verdicts.{AreVerdicts}
use Rattle.state_verdicts.specs.declared.verdicts.Verdicts.{Verdicts}
use Rattle.state_answers.specs.declared.lent_tables.LentTables.{LentTables}
use Rattle.state_answers.specs.declared.tables.Tables.{Tables}

-- both tables of deliveries, and that of verdicts, let the same deliveries from clients go
abbrev pub AreLetGoAlike : Deliveries → SentDeliveries → Verdicts → Type 0
AreLetGoAlike deliveries sent verdicts = (sent.let_go.items ≡ deliveries.let_go.items) × (verdicts.let_go.items ≡ deliveries.let_go.items)

-- no delivery was let go
abbrev pub IsWhole : Deliveries → Type 0
IsWhole deliveries = deliveries.let_go.items ≡ []

abbrev pub AreWhole : Tables → Type 0
AreWhole tables = IsWhole tables.deliveries

-- each has what the law says of these events, but for deliveries that were let go; the events are those of some records judged by
-- these rules, each of which meets the clauses
abbrev pub StandFor : RuleSet → Connections → Links → Consumers → Deliveries → ConsumerLinks → Copies → SentDeliveries → Verdicts → List Event → Type 0
StandFor rules connections links consumers deliveries consumer_links copies sent verdicts past =
    IsHistory rules past × (AreKept connections past × (AreLinked links past × (AreConsumers consumers past × (IsTable rules deliveries past
    × (AreConsumerLinks consumer_links past × (AreCopies rules copies past × ((first_broken rules past ≡ None) × (sent_tables.IsTable sent past × (AreVerdicts rules verdicts past × AreLetGoAlike deliveries sent verdicts)))))))))

abbrev pub AreTables : RuleSet → Tables → List Event → Type 0
AreTables rules tables past =
    StandFor rules tables.connections tables.links tables.consumers tables.deliveries tables.consumer_links tables.copies tables.sent tables.verdicts past

-- the tables that are lent tell of these events
abbrev pub TellsOf : RuleSet → LentTables → List Event → Type 0
TellsOf rules tables past =
    StandFor rules tables.connections.now tables.links.now tables.consumers.now tables.deliveries.now tables.consumer_links.now tables.copies.now tables.sent.now tables.verdicts.now past

-- nothing can come of the delivery of this number any more, as the tables tell
pub record IsReady (tables : Tables) (n : ℕ) : Type 0 where
  pub spent : is_some_and (held_in tables.deliveries n) is_spent ≡ true
  pub copied : (link : ℕ) → is_member nat_eq tables.verdicts.of_delivery n link ≡ false
  pub finished : list_all (is_done_in tables.sent) (carriers_in tables.sent.begun n) ≡ true

-- one of those that carry the delivery of this number is the last on a live link of a consumer
abbrev pub is_carried_last : Tables → ℕ → Bool
is_carried_last tables n = list_any (is_last_in tables.sent tables.consumer_links) (carriers_in tables.sent.begun n)

-- of no live link of a consumer the last delivery carries one that was let go
abbrev pub KeepsLast : List (ℕ × Unit {0}) → List Event → Type 0
KeepsLast gone past = (link : ℕ) → is_some (consumer_at link past) ≡ true → is_last_let_go gone link past ≡ false

-- from one moment to the other nothing is let go but the delivery that has its turn, where it is spent
abbrev pub LetsGoAtMost : Tables → Tables → Type 0
LetsGoAtMost earlier later =
    (later.deliveries.let_go.items ≡ earlier.deliveries.let_go.items)
    ⊎ ((n : ℕ) × ((number_at earlier.deliveries earlier.turn ≡ Some n)
    × ((is_some_and (held_in earlier.deliveries n) is_spent ≡ true) × (later.deliveries.let_go.items ≡ earlier.deliveries.let_go.items ++ (n, tt) ∷ []))))

-- the delivery that has its turn is carried last on a live link of a consumer; where this is not said of one that is spent, it is not so
abbrev pub IsTurnOfLast : Tables → Bool → Type 0
IsTurnOfLast tables result =
    (result ≡ true → (n : ℕ) × ((number_at tables.deliveries tables.turn ≡ Some n) × (is_carried_last tables n ≡ true)))
    × (result ≡ false → (n : ℕ) → number_at tables.deliveries tables.turn ≡ Some n → is_some_and (held_in tables.deliveries n) is_spent ≡ true → is_carried_last tables n ≡ false)

-- nothing can come of it any more, and it is carried last on no live link of a consumer
abbrev pub IsToGo : Tables → ℕ → Type 0
IsToGo tables n = IsReady tables n × (is_carried_last tables n ≡ false)

-- the place that has its turn behind the one that has it now
abbrev pub turn_behind : Tables → ℕ
turn_behind tables = if nat_lt tables.turn (count_of tables.deliveries) then tables.turn + 1 else 0

-- how many deliveries from clients were completed, with one event more
abbrev pub completed_with : Event → ℕ → ℕ
completed_with e n = if is_some (completed_by e) then capped (n + 1) else n

-- and by all of these
abbrev pub completed_by_all : List Event → ℕ
completed_by_all [] = 0
completed_by_all (e ∷ past) = let earlier = completed_by_all past in completed_with e earlier

-- how many are kept
abbrev pub kept_in : Tables → ℕ
kept_in tables = count_of tables.deliveries

-- how many entries they have; a delivery to a client, and what is known of an address, is no entry of its own
abbrev pub entries_of : Tables → ℕ
entries_of tables = capped (entries_of_connections tables.connections + entries_of_links tables.links + count_of tables.deliveries)
