-- Which of the deliveries that are kept stand in which group.
use Rattle.std.specs.Prelude.{◌≡◌, ℕ, Bool, true, false, ◌&&◌, List, Option, IfSome, bytes_eq, nat_eq, if◌then◌else◌, ◌==◌}
use Rattle.number_groups.specs.Groups.{is_member}
use Rattle.number_groups.specs.OctetGroups as octets
use Rattle.trace_events.specs.Words.{is_number, is_some_and}
use Rattle.trace_events.specs.Event.{Incoming}
use Rattle.state_incoming.specs.Held.{Held, says_arriving, says_waiting}
use Rattle.number_groups.specs.Ids.{same_id}
use Rattle.state_incoming.specs.declared.groups.HeldGroups.{HeldGroups}
use Rattle.number_groups.specs.declared.id_on.IdOn.{IdOn}
use Rattle.state_incoming.specs.declared.groups.GroupMarks.{GroupMarks}

-- what a delivery is found by: none where it is not kept
abbrev pub unmarked : GroupMarks
unmarked = record { is_arriving = false; is_undecided = false; is_waiting = false }

abbrev pub marks_of : Held → GroupMarks
marks_of x = record { is_arriving = says_arriving x.fate; is_undecided = x.is_undecided; is_waiting = says_waiting x.fate }

-- the keys of a delivery: its link, its session, its id there; and the address that it is for
abbrev pub is_of_link : ℕ → Incoming → Bool
is_of_link link d = d.link.number == link

abbrev pub is_of_session : ℕ → Incoming → Bool
is_of_session session d = d.link.session.number == session

abbrev pub has_id : ℕ → ℕ → Incoming → Bool
has_id session id d = d.link.session.number == session && is_number d.id id

abbrev pub is_for : List ℕ → Held → Bool
is_for address x = bytes_eq x.address address

-- the groups have just the deliveries that are kept
pub record AreGrouped (groups : HeldGroups) (kept : ℕ → Option Held) : Type 0 where
  pub arriving : (link n : ℕ) → is_member nat_eq groups.arriving link n ≡ is_some_and (kept n) (λ x. is_of_link link x.delivery && says_arriving x.fate)
  pub undecided : (link n : ℕ) → is_member nat_eq groups.undecided link n ≡ is_some_and (kept n) (λ x. is_of_link link x.delivery && x.is_undecided)
  pub of_session : (session n : ℕ) → is_member nat_eq groups.of_session session n ≡ is_some_and (kept n) (λ x. is_of_session session x.delivery && x.is_undecided)
  pub in_use : (at : IdOn) (n : ℕ) → is_member same_id groups.in_use at n ≡ is_some_and (kept n) (λ x. has_id at.session at.id x.delivery && x.is_undecided)
  pub waiting : (address : List ℕ) (n : ℕ) → octets.is_member groups.waiting address n ≡ is_some_and (kept n) (λ x. is_for address x && says_waiting x.fate)
  pub numbered : (n : ℕ) → IfSome (kept n) (λ x. x.delivery.number ≡ n)

-- the delivery, which is for this address, stands where the marks say
pub record IsMarked (d : Incoming) (own : List ℕ) (marks : GroupMarks) (groups : HeldGroups) : Type 0 where
  pub arriving : (link : ℕ) → is_of_link link d ≡ true → is_member nat_eq groups.arriving link d.number ≡ marks.is_arriving
  pub undecided : (link : ℕ) → is_of_link link d ≡ true → is_member nat_eq groups.undecided link d.number ≡ marks.is_undecided
  pub of_session : (session : ℕ) → is_of_session session d ≡ true → is_member nat_eq groups.of_session session d.number ≡ marks.is_undecided
  pub in_use : (at : IdOn) → has_id at.session at.id d ≡ true → is_member same_id groups.in_use at d.number ≡ marks.is_undecided
  pub waiting : (address : List ℕ) → bytes_eq own address ≡ true → octets.is_member groups.waiting address d.number ≡ marks.is_waiting

-- the delivery, which is for this address, is put where the marks say, and no other moves
pub record IsPut (d : Incoming) (own : List ℕ) (marks : GroupMarks) (earlier later : HeldGroups) : Type 0 where
  pub arriving : (link n : ℕ) → is_member nat_eq later.arriving link n ≡ (if is_of_link link d && (d.number == n) then marks.is_arriving else is_member nat_eq earlier.arriving link n)
  pub undecided : (link n : ℕ) → is_member nat_eq later.undecided link n ≡ (if is_of_link link d && (d.number == n) then marks.is_undecided else is_member nat_eq earlier.undecided link n)
  pub of_session : (session n : ℕ) → is_member nat_eq later.of_session session n ≡ (if is_of_session session d && (d.number == n) then marks.is_undecided else is_member nat_eq earlier.of_session session n)
  pub in_use : (at : IdOn) (n : ℕ) → is_member same_id later.in_use at n ≡ (if has_id at.session at.id d && (d.number == n) then marks.is_undecided else is_member same_id earlier.in_use at n)
  pub waiting : (address : List ℕ) (n : ℕ) → octets.is_member later.waiting address n ≡ (if bytes_eq own address && (d.number == n) then marks.is_waiting else octets.is_member earlier.waiting address n)
