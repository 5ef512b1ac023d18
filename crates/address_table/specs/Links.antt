-- What the links of consumers come to.
use Rattle.std.specs.Prelude.{ℕ, ◌≡◌, List, ◌∷◌, Option, nat_eq}
use Rattle.std.specs.HashMap.{get_by_text}
use Rattle.indexmap.specs.IndexMap.{get}
use Rattle.flow_counts.specs.Picks.{AddressEvent, Consumer, balanced_rank, consumer, consumers}
use Rattle.address_table.specs.AddressLinks.{line_of}
use Rattle.address_table.specs.declared.address_links.AddressLinks.{AddressLinks}
use Rattle.address_table.specs.declared.table.Table.{Table}

-- the link, while it is attached
abbrev pub consumer_of : Table → ℕ → Option Consumer
consumer_of table link = get nat_eq table.links link

-- how many of its deliveries are not decided
abbrev pub undecided_on : Table → ℕ → ℕ
undecided_on table link = balanced_rank (consumer_of table link)

-- its links, in the order of their attaches
abbrev pub listed : Option AddressLinks → List ℕ
listed lineup = (line_of lineup).0

-- the links of an address
abbrev pub consumers_at : Table → List ℕ → List ℕ
consumers_at table address = listed (get_by_text table.addresses address)

-- it has come to what these events left
pub record IsCount (table : Table) (past : List AddressEvent) : Type 0 where
  pub links : (link : ℕ) → consumer_of table link ≡ consumer link past
  pub lists : (address : List ℕ) → consumers_at table address ≡ consumers address past

-- Whichever events came before: where the earlier table is what they left, the later one is what they left with this
-- event in front.
abbrev pub CountsOneMore : Table → Table → AddressEvent → Type 0
CountsOneMore earlier later event = (past : List AddressEvent) → IsCount earlier past → IsCount later (event ∷ past)

-- the links and those of each address are the same
pub record IsSame (earlier later : Table) : Type 0 where
  pub links : (link : ℕ) → consumer_of later link ≡ consumer_of earlier link
  pub lists : (address : List ℕ) → consumers_at later address ≡ consumers_at earlier address
