-- The copies of a multicast delivery: to whose links one is due, and which of them are sent (own rules).
use Rattle.std.specs.Prelude.{ℕ, suc, ◌-◌, Bool, false, ◌&&◌, not, List, [], ◌∷◌, nat_lt, if◌then◌else◌}
use Rattle.std.specs.List.{list_any}
use Rattle.capture_form.specs.Rules.{RuleSet}
use Rattle.trace_events.specs.Words.{is_some_and}
use Rattle.trace_events.specs.Event.{Event, Link, Incoming}
use Rattle.trace_events.specs.Address.{is_consumer_of}
use Rattle.trace_events.specs.Credit.{link_credit, begun_count}
use Rattle.trace_events.specs.Incoming.{address_of, completed_by, completes, incoming_deliveries}
use Rattle.trace_events.specs.Outgoing.{is_named_on}
use Rattle.trace_events.specs.Waiting.{is_of_multicast}

-- the multicast delivery that this event completes is for the link: a consumer's of its address, live until then
abbrev pub is_copied_to : RuleSet → Link → Event → List Event → Bool
is_copied_to rules l e past =
    is_some_and (completed_by e) (λ d. is_of_multicast rules d (e ∷ past) && is_consumer_of (address_of d (e ∷ past)) past l)

-- it is due where the link's credit exceeds the copies that are still to be sent, of `due` that were due before
abbrev pub makes_due : RuleSet → Link → Event → List Event → ℕ → Bool
makes_due rules l e past due = is_copied_to rules l e past && nat_lt (due - begun_count l past) (link_credit l past)

-- how many copies were due to the link
abbrev pub due_count : RuleSet → Link → List Event → ℕ
due_count rules l [] = 0
due_count rules l (e ∷ past) =
    let earlier = due_count rules l past in if makes_due rules l e past earlier then suc earlier else earlier

-- a copy of the delivery is due to the link
abbrev pub is_due : RuleSet → Incoming → Link → List Event → Bool
is_due rules d l [] = false
is_due rules d l (e ∷ past) =
    let earlier = is_due rules d l past in
    if completes d e then makes_due rules l e past (due_count rules l past) else earlier

-- and no transfer on the link has named the delivery
abbrev pub is_unsent : RuleSet → Incoming → Link → List Event → Bool
is_unsent rules d l past = is_due rules d l past && not (is_named_on d l past)

abbrev pub has_unsent : RuleSet → Link → List Event → Bool
has_unsent rules l past = list_any (λ d. is_unsent rules d l past) (incoming_deliveries past)
