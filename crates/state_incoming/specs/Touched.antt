-- The deliveries that an event may touch, found by the groups.
use Rattle.std.specs.Prelude.{◌≡◌, ℕ, Bool, true, ◌&&◌, ◌||◌, not, List, Option, None, IfSome, option_map, bytes_eq, nat_eq, if◌then◌else◌, ◌==◌}
use Rattle.std.specs.List.{list_any}
use Rattle.number_groups.specs.Groups.{is_member}
use Rattle.number_groups.specs.OctetGroups as octets
use Rattle.trace_events.specs.Words.{is_number, is_some_and}
use Rattle.trace_events.specs.Event.{Event, Link}
use Rattle.trace_events.specs.Said.{in_disposition}
use Rattle.trace_events.specs.Link.{is_sender}
use Rattle.trace_events.specs.Ends.{ends_link}
use Rattle.trace_events.specs.Outgoing.{carried_number}
use Rattle.state_incoming.specs.Held.{Held, says_waiting}
use Rattle.state_incoming.specs.declared.groups.HeldGroups.{HeldGroups}

-- the delivery that the event is a part of
abbrev pub part_number : Event → Option ℕ
part_number e = option_map (λ d. d.number) e.incoming

-- the session on which a disposition of a producer stands
abbrev pub settled_session : Event → Option ℕ
settled_session e =
    if is_some_and (in_disposition e) (λ fields. is_sender fields.role) then option_map (λ s. s.number) e.session else None

-- a link that ended leaves its undecided deliveries, and those that wait at its address where that has no consumer any more
abbrev pub is_left : HeldGroups → (List ℕ → Bool) → ℕ → Link → Bool
is_left groups has n l = is_member nat_eq groups.undecided l.number n || not (has l.address) && octets.is_member groups.waiting l.address n

abbrev pub may_touch : HeldGroups → (List ℕ → Bool) → List Link → Event → ℕ → Bool
may_touch groups has ended e n =
    is_number (part_number e) n || is_number e.told n || is_number (carried_number e) n
    || is_some_and (settled_session e) (λ session. is_member nat_eq groups.of_session session n) || list_any (is_left groups has n) ended

-- these are the links that the event ends, as far as deliveries go that are kept: each undecided one whose link ends stands on
-- one of them, and each that waits without a consumer is for the address of one
pub record AreEnded (e : Event) (has : List ℕ → Bool) (ended : List Link) (kept : ℕ → Option Held) : Type 0 where
  pub producers : (n : ℕ) → IfSome (kept n) (λ x. x.is_undecided && ends_link x.delivery.link e ≡ true → list_any (λ l. l.number == x.delivery.link.number) ended ≡ true)
  pub consumers : (n : ℕ) → IfSome (kept n) (λ x. says_waiting x.fate && not (has x.address) ≡ true
      → list_any (λ l. bytes_eq l.address x.address) ended ≡ true)
