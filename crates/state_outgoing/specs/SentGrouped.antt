-- Which of the deliveries to clients stand in which group.
use Rattle.std.specs.Prelude.{◌≡◌, ◌<◌, ◌^◌, ℕ, Bool, ◌&&◌, Option, IfSome, nat_eq, if◌then◌else◌, ◌==◌}
use Rattle.number_groups.specs.Groups.{is_member}
use Rattle.trace_events.specs.Words.{is_number, is_some_and}
use Rattle.trace_events.specs.Event.{Outgoing}
use Rattle.state_outgoing.specs.Sent.{Sent}
use Rattle.number_groups.specs.Ids.{same_id}
use Rattle.state_outgoing.specs.declared.groups.SentGroups.{SentGroups}
use Rattle.number_groups.specs.declared.id_on.IdOn.{IdOn}

-- the keys of a delivery: its link, its session, its id there
abbrev pub is_of_link : ℕ → Outgoing → Bool
is_of_link link j = j.link.number == link

abbrev pub is_of_session : ℕ → Outgoing → Bool
is_of_session session j = j.link.session.number == session

abbrev pub has_id : ℕ → ℕ → Outgoing → Bool
has_id session id j = j.link.session.number == session && is_number j.id id

-- the groups have just those that are unsettled; each stands under its number, and its id is one of 32 bits
pub record AreGrouped (groups : SentGroups) (kept : ℕ → Option Sent) : Type 0 where
  pub of_link : (link n : ℕ) → is_member nat_eq groups.of_link link n ≡ is_some_and (kept n) (λ x. is_of_link link x.delivery && x.is_unsettled)
  pub of_session : (session n : ℕ) → is_member nat_eq groups.of_session session n ≡ is_some_and (kept n) (λ x. is_of_session session x.delivery && x.is_unsettled)
  pub of_id : (at : IdOn) (n : ℕ) → is_member same_id groups.of_id at n ≡ is_some_and (kept n) (λ x. has_id at.session at.id x.delivery && x.is_unsettled)
  pub numbered : (n : ℕ) → IfSome (kept n) (λ x. x.delivery.number ≡ n)
  pub counted : (n : ℕ) → IfSome (kept n) (λ x. IfSome x.delivery.id (λ id. id < 2 ^ 32))

-- the delivery is put among those that are unsettled, or not, and no other moves
pub record IsPut (j : Outgoing) (unsettled : Bool) (earlier later : SentGroups) : Type 0 where
  pub of_link : (link n : ℕ) → is_member nat_eq later.of_link link n ≡ (if is_of_link link j && (j.number == n) then unsettled else is_member nat_eq earlier.of_link link n)
  pub of_session : (session n : ℕ) → is_member nat_eq later.of_session session n ≡ (if is_of_session session j && (j.number == n) then unsettled else is_member nat_eq earlier.of_session session n)
  pub of_id : (at : IdOn) (n : ℕ) → is_member same_id later.of_id at n ≡ (if has_id at.session at.id j && (j.number == n) then unsettled else is_member same_id earlier.of_id at n)
