-- The numbers of the copies that may be unsent, and of the links on which they are.
use Rattle.std.specs.Prelude.{◌≡◌, ◌⊎◌, ℕ, Bool, ◌==◌, true, false, List, Option, Some, nat_eq}
use Rattle.std.specs.List.{list_any}
use Rattle.number_groups.specs.Groups.{is_member}
use Rattle.trace_events.specs.Event.{Event, Incoming}
use Rattle.trace_events.specs.Incoming.{completes}
use Rattle.state_tables.specs.declared.copies.Receiver.{Receiver}
use Rattle.due_lists.specs.ByLink.{copy_at}
use Rattle.due_lists.specs.CopyCandidates.{has}
use Rattle.due_lists.specs.declared.unsent_numbers.UnsentNumbers.{UnsentNumbers}

-- the delivery that this record completed, where a copy of it may be unsent on the link of this number
abbrev pub copy_on : UnsentNumbers → ℕ → ℕ → Option ℕ
copy_on all link completion = copy_at all.copies link completion

-- the link of this number stands among those of the session
abbrev pub stands : UnsentNumbers → ℕ → ℕ → Bool
stands all session n = is_member nat_eq all.of_session session n

-- the link of this number is a candidate with this completion
abbrev pub waits : UnsentNumbers → ℕ → ℕ → Bool
waits all completion link = has all.links completion link

-- the link is a candidate
abbrev pub Waits : UnsentNumbers → ℕ → Type 0
Waits all link = (completion : ℕ) × (waits all completion link ≡ true)

-- nothing went, but a copy under this completion
pub record IsKeptBut (completion : ℕ) (earlier later : UnsentNumbers) : Type 0 where
  pub listed : (link c : ℕ) → (c == completion) ≡ false → copy_on later link c ≡ copy_on earlier link c
  pub stood : (session n : ℕ) → stands earlier session n ≡ true → stands later session n ≡ true
  pub waited : (c n : ℕ) → waits earlier c n ≡ true → waits later c n ≡ true

-- candidates came in alone
pub record IsKept (earlier later : UnsentNumbers) : Type 0 where
  pub listed : (link c : ℕ) → copy_on later link c ≡ copy_on earlier link c
  pub stood : (session n : ℕ) → stands later session n ≡ stands earlier session n
  pub waited : (c n : ℕ) → waits earlier c n ≡ true → waits later c n ≡ true

-- what has this number under this completion keeps it
abbrev pub Stays : ℕ → ℕ → UnsentNumbers → UnsentNumbers → Type 0
Stays completion n earlier later = (link : ℕ) → copy_on earlier link completion ≡ Some n → copy_on later link completion ≡ Some n

-- a copy is in all of them
pub record IsIn (all : UnsentNumbers) (session link completion n : ℕ) : Type 0 where
  pub listed : copy_on all link completion ≡ Some n
  pub stands : stands all session link ≡ true
  pub waits : Waits all link

-- the event completes a delivery of this number, in the record of this one
abbrev pub IsCompletion : Event → ℕ → ℕ → Type 0
IsCompletion e completion n = (completion ≡ e.number) × (d : Incoming) × (d.number ≡ n) × (completes d e ≡ true)

-- what is there was there, or came with the event
abbrev pub IsOfBoth : Event → UnsentNumbers → UnsentNumbers → Type 0
IsOfBoth e earlier later = (link completion n : ℕ) → copy_on later link completion ≡ Some n → (copy_on earlier link completion ≡ Some n) ⊎ IsCompletion e completion n

-- what is there was there, or is the delivery of this number under this completion
abbrev pub AreWith : ℕ → ℕ → UnsentNumbers → UnsentNumbers → Type 0
AreWith completion number earlier later =
    (link c n : ℕ) → copy_on later link c ≡ Some n → (copy_on earlier link c ≡ Some n) ⊎ ((c ≡ completion) × (n ≡ number))

-- the link of this number is one of the receivers
abbrev pub receives : List Receiver → ℕ → Bool
receives receivers link = list_any (λ x. x.link == link) receivers
