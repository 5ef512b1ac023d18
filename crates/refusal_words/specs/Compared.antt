-- The records that an explanation names, which the refused one is compared with (own format).
use Rattle.std.specs.Prelude.{ℕ, nat_lt, List, [], ◌∷◌, ◌++◌, map, Option, Some, None, if◌then◌else◌, option_map}
use Rattle.pairing_cert.specs.declared.note.Note.{Note}
use Rattle.trace_events.specs.declared.session.Session.{Session}
use Rattle.trace_events.specs.Outgoing.{noted_number}
use Rattle.trace_events.specs.declared.event.Link.{Link}
use Rattle.trace_events.specs.declared.event.Incoming.{Incoming}
use Rattle.trace_events.specs.declared.event.Outgoing.{Outgoing}
use Rattle.refusal_facts.specs.declared.flow.FlowLink.{FlowLink}
use Rattle.refusal_facts.specs.declared.flow.FlowLink.TheVariants as links
use Rattle.refusal_facts.specs.declared.flow.SessionNumbers.{SessionNumbers}
use Rattle.refusal_facts.specs.declared.outcome.Carrier.{Carrier}
use Rattle.refusal_facts.specs.declared.outcome.ToldDelivery.{ToldDelivery}
use Rattle.refusal_facts.specs.declared.reason.Facts.{Facts}
use Rattle.refusal_facts.specs.declared.reason.Facts.TheVariants as kinds
use Rattle.refusal_facts.specs.declared.transfer.Named.{Named}
use Rattle.refusal_facts.specs.declared.transfer.Named.TheVariants as names
use Rattle.refusal_facts.specs.declared.transfer.OrderFacts.{OrderFacts}
use Rattle.refusal_words.specs.declared.compared.Compared.{Compared}
use Rattle.refusal_words.specs.declared.compared.Granting.{Granting}

-- the numbers, in no order
abbrev pub numbers_of : Compared → List ℕ
numbers_of compared = compared.numbers

-- the number of a record in front of the refused one; that of the refused one where there is none
abbrev pub in_front : ℕ → Option ℕ → ℕ
in_front refused None = refused
in_front refused (Some number) = if nat_lt number refused then number else refused

-- the numbers of these records, and behind them of those from which a window or a credit comes
abbrev pub in_places : ℕ → Granting → List (Option ℕ) → List ℕ
in_places refused granting named = map (in_front refused) (named ++ granting.granted ∷ granting.answered ∷ [])

-- ---- one thing

-- the record of the router's begin
abbrev pub session_number : Option Session → Option ℕ
session_number session = option_map (λ (s : Session). s.number) session

abbrev pub flow_session : Option SessionNumbers → Option ℕ
flow_session numbers = option_map (λ (n : SessionNumbers). n.session.number) numbers

-- the record of the router's attach
abbrev pub link_number : Option Link → Option ℕ
link_number link = option_map (λ (l : Link). l.number) link

abbrev pub flow_link : FlowLink → Option ℕ
flow_link links.Nothing = None
flow_link (links.NotLive handle) = None
flow_link (links.Producer numbers) = Some numbers.link.number
flow_link (links.Consumer numbers) = Some numbers.link.number

-- the first transfer of a delivery to a client
abbrev pub sent_before : Option Outgoing → Option ℕ
sent_before carrier = option_map (λ (o : Outgoing). o.number) carrier

-- the first transfer of a delivery from a client
abbrev pub incoming_number : Option Incoming → Option ℕ
incoming_number delivery = option_map (λ (d : Incoming). d.number) delivery

abbrev pub carrier_number : Option Carrier → Option ℕ
carrier_number carrier = option_map (λ (c : Carrier). c.outgoing.number) carrier

-- the number of the delivery that a note names
abbrev pub named_number : Named → Option ℕ
named_number names.Nothing = None
named_number (names.Carried delivery) = Some delivery.number
named_number (names.Kept delivery complete gone) = Some delivery.number
named_number (names.Unknown number) = Some number

-- ---- of all that a clause compares

abbrev pub two : Option ℕ → Option ℕ → List (Option ℕ)
two one other = one ∷ other ∷ None ∷ None ∷ None ∷ None ∷ []

abbrev pub six : Option ℕ × Option ℕ × Option ℕ × Option ℕ × Option ℕ × Option ℕ → List (Option ℕ)
six (one, two, three, four, five, last) = one ∷ two ∷ three ∷ four ∷ five ∷ last ∷ []

abbrev pub going_on : Option Outgoing → Note → List (Option ℕ)
going_on None said = two None None
going_on (Some first) said = Some first.number ∷ noted_number said ∷ noted_number first.note ∷ None ∷ None ∷ None ∷ []

abbrev pub order : OrderFacts → List (Option ℕ)
order facts =
    Some facts.link.number ∷ Some facts.delivery.number ∷ facts.completion ∷ sent_before facts.carrier ∷ incoming_number facts.before ∷ facts.before_completion ∷ []

abbrev pub told : Option ToldDelivery → List (Option ℕ)
told None = two None None
told (Some delivery) = two (Some delivery.delivery.number) (carrier_number delivery.carrier)

-- the records of the session, the link and the deliveries that the clause compares
abbrev pub named_in : Facts → List (Option ℕ)
named_in (kinds.Frame facts) = two None None
named_in (kinds.Writing facts) = two None None
named_in (kinds.Begin facts) = two None None
named_in (kinds.Attach facts) = two (session_number facts.session) None
named_in (kinds.Sending facts) = two (session_number facts.session) (link_number facts.link)
named_in (kinds.Beginning facts) = two (Some facts.link.number) None
named_in (kinds.GoingOn facts) = going_on facts.first facts.note
named_in (kinds.Carrying facts) = two (Some facts.link.number) (named_number facts.named)
named_in (kinds.Payload facts) = two (Some facts.delivery.number) None
named_in (kinds.Order facts) = order facts
named_in (kinds.Flow facts) = two (flow_session facts.session) (flow_link facts.link)
named_in (kinds.Outcome facts) = told facts.told
named_in (kinds.Settling facts) = two facts.to_settle None
named_in (kinds.Detach facts) = two (session_number facts.session) (link_number facts.link)
named_in (kinds.End facts) = two (session_number facts.session) None
named_in (kinds.Noted note) = two (noted_number note) None
named_in kinds.Nothing = two None None
