-- What the list of links that may be given more credit has, and what an event makes of it.
use Rattle.std.specs.Prelude.{◌≡◌, ◌&&◌, ℕ, Bool, true, false, List, [], Option, Some, option_map, nat_eq, ◌==◌}
use Rattle.std.specs.List.{list_any}
use Rattle.number_groups.specs.Ascending.{has}
use Rattle.number_groups.specs.Groups.{is_member}
use Rattle.number_groups.specs.OctetGroups as octets
use Rattle.capture_form.specs.Rules.{RuleSet}
use Rattle.trace_events.specs.declared.session.Session.{Session}
use Rattle.trace_events.specs.Words.{is_some_and, where_passes}
use Rattle.trace_events.specs.Event.{Event, Link, Incoming}
use Rattle.trace_events.specs.Address.{has_consumer}
use Rattle.trace_events.specs.Link.{is_consumer, is_producer, own_link, opened_consumer}
use Rattle.trace_events.specs.Outgoing.{carried_number}
use Rattle.trace_events.specs.Waiting.{has_waiting}
use Rattle.trace_events.specs.FlowClause.{may_be_topped_up}
use Rattle.state_incoming.specs.EntryAnswers.{Knows}
use Rattle.state_tables.specs.ConsumerLinks.{has_link}
use Rattle.state_answers.specs.declared.lent_tables.LentTables.{LentTables}
use Rattle.state_answers.specs.Tables.{TellsOf}
use Rattle.due_lists.specs.Candidates.{value_of}
use Rattle.due_lists.specs.Topping.{IsProducing, settles}
use Rattle.due_lists.specs.declared.credits.Credits.{Credits}
use Rattle.due_lists.specs.declared.credits.LinkKey.{LinkKey}

abbrev pub key_of : Link → LinkKey
key_of l = record { connection = l.session.connection; channel = l.session.channel; handle = l.handle }

-- where the link of this number is found
abbrev pub place_in : Credits → ℕ → Option LinkKey
place_in credits n = value_of credits.places n

-- it stands among those of the session, and of the address
abbrev pub on_session : Credits → ℕ → ℕ → Bool
on_session credits session n = is_member nat_eq credits.of_session session n

abbrev pub at_address : Credits → List ℕ → ℕ → Bool
at_address credits address n = octets.is_member credits.of_address address n

-- it is a candidate
abbrev pub waits : Credits → ℕ → Bool
waits credits n = has credits.links n

-- the link is found there, and stands with its session and its address
pub record IsIn (credits : Credits) (l : Link) : Type 0 where
  pub place : place_in credits l.number ≡ Some (key_of l)
  pub session : on_session credits l.session.number l.number ≡ true
  pub address : at_address credits l.address l.number ≡ true

-- each producer's live link is, and is a candidate where it may be given more credit
abbrev pub HasCredits : RuleSet → Credits → List Event → Type 0
HasCredits rules credits past = (l : Link) → IsProducing l past → IsIn credits l × (may_be_topped_up rules past l ≡ true → waits credits l.number ≡ true)

-- ---- what an event makes of it

-- of all but these links nothing has changed
pub record AreEndedIn (ended : List Link) (earlier later : Credits) : Type 0 where
  pub places : (n : ℕ) → has_link ended n ≡ false → place_in later n ≡ place_in earlier n
  pub sessions : (session n : ℕ) → has_link ended n ≡ false → on_session earlier session n ≡ true → on_session later session n ≡ true
  pub addresses : (address : List ℕ) (n : ℕ) → has_link ended n ≡ false → at_address earlier address n ≡ true → at_address later address n ≡ true
  pub waiting : (n : ℕ) → waits later n ≡ waits earlier n

-- the producer's link that the event opens has come in
pub record AreOpenedIn (e : Event) (earlier later : Credits) : Type 0 where
  pub opened : (l : Link) → where_passes is_producer (own_link e) ≡ Some l → IsIn later l
  pub places : (n : ℕ) → is_some_and (own_link e) (λ l. l.number == n) ≡ false → place_in later n ≡ place_in earlier n
  pub sessions : (session n : ℕ) → on_session earlier session n ≡ true → on_session later session n ≡ true
  pub addresses : (address : List ℕ) (n : ℕ) → at_address earlier address n ≡ true → at_address later address n ≡ true
  pub waiting : (n : ℕ) → waits later n ≡ waits earlier n

-- nothing has changed but that there may be more candidates
pub record HasMore (earlier later : Credits) : Type 0 where
  pub places : (n : ℕ) → place_in later n ≡ place_in earlier n
  pub sessions : (session n : ℕ) → on_session later session n ≡ on_session earlier session n
  pub addresses : (address : List ℕ) (n : ℕ) → at_address later address n ≡ at_address earlier address n
  pub waiting : (n : ℕ) → waits earlier n ≡ true → waits later n ≡ true

-- the producer's link that the event names is a candidate, and so are those of the deliveries that it tells and carries
pub record AreTouchedIn (e : Event) (before : LentTables) (earlier later : Credits) : Type 0 where
  pub more : HasMore earlier later
  pub names : (l : Link) → e.link ≡ Some l → is_producer l ≡ true → waits later l.number ≡ true
  pub tells : (rules : RuleSet) (past : List Event) → TellsOf rules before past → (d : Incoming) → e.told ≡ Some d.number → Knows before.deliveries.now d → waits later d.link.number ≡ true
  pub carries : (rules : RuleSet) (past : List Event) → TellsOf rules before past → (d : Incoming) → carried_number e ≡ Some d.number → Knows before.deliveries.now d → waits later d.link.number ≡ true

-- so are those of the session on which a producer's disposition stands, and of the address that has its first consumer
pub record AreWokenIn (e : Event) (before : LentTables) (earlier later : Credits) : Type 0 where
  pub more : HasMore earlier later
  pub settled : (session : ℕ) → settles e ≡ true → option_map (λ (s : Session). s.number) e.session ≡ Some session → (n : ℕ) → on_session earlier session n ≡ true → waits later n ≡ true
  pub served : (rules : RuleSet) (past : List Event) → TellsOf rules before past → (l : Link) → opened_consumer e ≡ Some l → has_consumer l.address past ≡ false
      → (n : ℕ) → at_address earlier l.address n ≡ true → waits later n ≡ true

-- one of these links is a consumer's at whose address deliveries wait
abbrev pub has_waited : RuleSet → List Event → List Link → Bool
has_waited rules past ended = list_any (λ l. is_consumer l && has_waiting rules l.address past) ended

-- where such a link ends, all links without address are candidates
pub record AreFreedIn (ended : List Link) (before : LentTables) (earlier later : Credits) : Type 0 where
  pub more : HasMore earlier later
  pub freed : (rules : RuleSet) (past : List Event) → TellsOf rules before past → has_waited rules past ended ≡ true → (n : ℕ) → at_address earlier [] n ≡ true → waits later n ≡ true
