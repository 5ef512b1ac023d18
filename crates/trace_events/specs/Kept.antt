-- What a lawful capture keeps, in plain words: laws above the clauses.
use Rattle.std.specs.Prelude.{◌≡◌, ℕ, ◌≤◌, true, false, List, [], ◌∷◌, length, filter, take, Option, Some, None, IfSome, IsSomeAnd, option_map}
use Rattle.amqp_perf.specs.Meaning.{DispositionFields, flag}
use Rattle.pairing_cert.specs.declared.note.Note.{Note}
use Rattle.pairing_cert.specs.declared.note.Note.TheVariants as notes
use Rattle.pairing_cert.specs.declared.note.Why.{Why}
use Rattle.capture_form.specs.Rules.{RuleSet}
use Rattle.trace_events.specs.Words.{is_number, are_same_octets}
use Rattle.trace_events.specs.Event.{Event, Incoming, Outgoing}
use Rattle.trace_events.specs.Said.{out_transfer, out_disposition}
use Rattle.trace_events.specs.Window.{session_window}
use Rattle.trace_events.specs.Credit.{link_credit, begins_outgoing}
use Rattle.trace_events.specs.Incoming.{address_of, incoming_at, is_complete}
use Rattle.trace_events.specs.Incoming as incoming
use Rattle.trace_events.specs.Link.{is_receiver}
use Rattle.trace_events.specs.Outcome.{row}
use Rattle.trace_events.specs.Outgoing.{outgoing_deliveries, names, noted}
use Rattle.trace_events.specs.Outgoing as outgoing
use Rattle.trace_events.specs.Waiting.{is_of_multicast}

-- the row that a note names
abbrev pub why_of : Note → Option Why
why_of (notes.Told why) = Some why
why_of notes.None = None
why_of (notes.Pair n) = None

-- the octets of a disposition's state
abbrev pub told_state : DispositionFields → Option (List ℕ)
told_state fields = option_map (λ state. state.octets) fields.state

-- the deliveries to clients that carry the incoming one of this number, the last one first
abbrev pub carriers : ℕ → List Event → List Outgoing
carriers n past = filter (λ j. names n j.note) (outgoing_deliveries past)

-- each anycast delivery reached at most one consumer
abbrev pub ReachesOne : RuleSet → List Event → Type 0
ReachesOne rules past =
    (n : ℕ) (d : Incoming) → incoming_at n past ≡ Some d → is_of_multicast rules d past ≡ false → length (carriers n past) ≤ 1

-- what told the outcome of the delivery of this number
abbrev pub tellings : ℕ → List Event → List Event
tellings n past = filter (λ e. is_number e.told n) past

-- of each delivery at most one outcome was told
abbrev pub ToldOnce : List Event → Type 0
ToldOnce past = (n : ℕ) → length (tellings n past) ≤ 1

-- a transfer stood within its session's window, and where it began a delivery, within its link's credit
abbrev pub StoodWithin : Event → List Event → Type 0
StoodWithin e past =
    IfSome (out_transfer e) (λ fields.
    IsSomeAnd e.session (λ s. 1 ≤ session_window s past)
    × IsSomeAnd e.link (λ l. begins_outgoing e ≡ true → 1 ≤ link_credit l past))

-- a transfer went to a link of the address of the delivery that its note names
abbrev pub WentToAddress : Event → List Event → Type 0
WentToAddress e past =
    IfSome (out_transfer e) (λ fields. IsSomeAnd (noted e.note past) (λ d. IsSomeAnd e.link (λ l. l.address ≡ address_of d past)))

-- some are the first ones of all
abbrev pub AreFirst : {A : Type 0} → List A → List A → Type 0
AreFirst some all = some ≡ take (length some) all

-- what a delivery to a client has carried with this transfer are the first octets of the payload of the complete delivery
-- that the transfer's note names, and with the last part all of them
abbrev pub HasCarried : Event → List Event → Type 0
HasCarried e past =
    IfSome (out_transfer e) (λ fields. IsSomeAnd (noted e.note past) (λ d. IsSomeAnd e.outgoing (λ j.
    (is_complete d past ≡ true)
    × AreFirst (outgoing.payload j (e ∷ past)) (incoming.payload d past)
    × (flag fields.more ≡ false → outgoing.payload j (e ∷ past) ≡ incoming.payload d past))))

-- each outcome tells of a delivery the state that the row of its note has for it
abbrev pub IsOfRow : RuleSet → Event → List Event → Type 0
IsOfRow rules e past =
    IfSome (out_disposition e) (λ fields. is_receiver fields.role ≡ true →
    IsSomeAnd e.told (λ n. IsSomeAnd (incoming_at n past) (λ d. IsSomeAnd (why_of e.note) (λ why.
    IsSomeAnd (row rules d past why) (λ state. are_same_octets (told_state fields) state ≡ true)))))

-- at each event
abbrev pub AtEach : (Event → List Event → Type 0) → List Event → Type 0
AtEach P [] = Unit {0}
AtEach P (e ∷ past) = P e past × AtEach P past

-- What every lawful history keeps: each transfer stood within its session's window and its link's credit, went to a link
-- of the address of the delivery that its note names, and carried that delivery's octets; each anycast delivery reached
-- at most one consumer; each outcome is that of the row of its note, and at most one was told of each delivery.
pub record Keeps (rules : RuleSet) (past : List Event) : Type 0 where
  pub within : AtEach StoodWithin past
  pub addressed : AtEach WentToAddress past
  pub carried : AtEach HasCarried past
  pub one : ReachesOne rules past
  pub outcomes : AtEach (IsOfRow rules) past
  pub once : ToldOnce past
