-- What the table of deliveries to clients stands for.
use Rattle.std.specs.Prelude.{◌≡◌, ℕ, Bool, true, ◌&&◌, List, [], Contains, Option, None, is_some, option_map, unwrap_or, nat_eq, ◌==◌, if◌then◌else◌}
use Rattle.indexmap.specs.IndexMap.{get}
use Rattle.trace_events.specs.Words.{is_number, is_some_and}
use Rattle.trace_events.specs.Event.{Event, Outgoing}
use Rattle.trace_events.specs.Outgoing.{outgoing_deliveries}
use Rattle.state_tables.specs.ConsumerLinks.{link_in}
use Rattle.state_tables.specs.LetGo.{is_let_go, names_let_go}
use Rattle.state_tables.specs.declared.consumer_links.ConsumerLinks.{ConsumerLinks}
use Rattle.state_outgoing.specs.Sent.{Sent, sent_next}
use Rattle.state_outgoing.specs.Carriers.{carriers_in}
use Rattle.state_outgoing.specs.LastBegun.{last_number, carrier_numbers}
use Rattle.state_outgoing.specs.LetGo.{kept_at, is_done, is_finished}
use Rattle.state_outgoing.specs.SentGrouped.{AreGrouped, is_of_link}
use Rattle.state_outgoing.specs.SentViews.{sent_view}
use Rattle.state_outgoing.specs.declared.begun.LastNumbers.{LastNumbers}
use Rattle.state_outgoing.specs.declared.deliveries.SentDeliveries.{SentDeliveries}

-- what the table has of the delivery of this number
abbrev pub sent_in : SentDeliveries → ℕ → Option Sent
sent_in table n = option_map sent_view (get nat_eq table.entries n)

-- how many octets of it were sent; 0 where the table has none
abbrev pub sent_count_in : SentDeliveries → ℕ → ℕ
sent_count_in table n = unwrap_or (option_map (λ x. x.sent_count) (sent_in table n)) 0

-- it has an entry of this number, whose delivery is finished
abbrev pub is_done_in : SentDeliveries → ℕ → Bool
is_done_in table n = is_some_and (sent_in table n) is_done

-- it has an entry of this number, whose delivery began last on its link, and the link is one of these
abbrev pub is_last_in : SentDeliveries → ConsumerLinks → ℕ → Bool
is_last_in table links n =
    is_some_and (sent_in table n) (λ x. is_some (link_in links x.delivery.link.number) && is_number (get nat_eq table.begun.on_link x.delivery.link.number) n)

-- of all whose delivery from a client was not let go, the table has what the law says of these events
abbrev pub AreSent : SentDeliveries → List Event → Type 0
AreSent table past = (n : ℕ) → sent_in table n ≡ kept_at table.let_go.items n past

-- these are the deliveries that began last on each link, and those that carry each delivery from a client, without the carriers
-- of what was let go
pub record AreBegun (gone : List (ℕ × Unit {0})) (begun : LastNumbers) (past : List Event) : Type 0 where
  pub on_link : (n : ℕ) → get nat_eq begun.on_link n ≡ last_number gone n past
  pub carriers : (n : ℕ) → carriers_in begun n ≡ (if is_let_go gone n then [] else carrier_numbers n past)

-- what carries one that was let go is finished
abbrev pub AreFinished : SentDeliveries → List Event → Type 0
AreFinished table past = (j : Outgoing) → Contains (outgoing_deliveries past) j → names_let_go table.let_go.items j.note ≡ true → is_finished past j ≡ true

-- all that the table has is what the law says
pub record IsTable (table : SentDeliveries) (past : List Event) : Type 0 where
  pub entries : AreSent table past
  pub groups : AreGrouped table.groups (sent_in table)
  pub begun : AreBegun table.let_go.items table.begun past
  pub finished : AreFinished table past

-- this is made of the delivery of this number, and nothing of any other
abbrev pub MovesAt : ℕ → (Option Sent → Option Sent) → SentDeliveries → SentDeliveries → Type 0
MovesAt n step earlier later = (m : ℕ) → sent_in later m ≡ (if n == m then step (sent_in earlier m) else sent_in earlier m)

-- the number of a link's last delivery, but where that has such a number and an entry on the link
abbrev pub last_without : (ℕ → Option Sent) → (ℕ → Bool) → ℕ → Option ℕ → Option ℕ
last_without kept passes link last = if is_some_and last (λ n. passes n && is_some_and (kept n) (λ x. is_of_link link x.delivery)) then None else last

-- of the numbers that pass, the event moves the deliveries, and no other
abbrev pub AreMovedBy : (ℕ → Bool) → Event → SentDeliveries → SentDeliveries → Type 0
AreMovedBy passes e earlier later = (n : ℕ) → sent_in later n ≡ (if passes n then option_map (sent_next e) (sent_in earlier n) else sent_in earlier n)
