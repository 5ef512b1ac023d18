-- Windows and credit, with one more event of the router's own.
use Rattle.std.proofs.Common.{◌≡◌, ℕ, ◌-◌, ◌+◌, ◌≤◌, ◌<◌, Bool, true, false, cond, List, Option, Some, None, nat_le, if◌then◌else◌, arith}
use Rattle.std.specs.List.{cons_option}
use Rattle.flow_counts.specs.declared.profile.TheConstants.{RENEWAL_MARK, CAPACITY, LOW_MARK}
use Rattle.flow_counts.specs.declared.events.WindowEvent.{WindowEvent}
use Rattle.flow_counts.specs.declared.events.WindowEvent.TheVariants as windows
use Rattle.flow_counts.specs.Window.{window}
use Rattle.flow_counts.specs.GivenWindow.{given_window}
use Rattle.flow_counts.specs.Credit.{LinkEvent, TheirFlow, OurFlow, Begun, credit, granted_credit, begun_since_grant, is_drain_answer}
use Rattle.flow_counts.specs.GivenCredit.{given_credit}
use Rattle.route_dues.proofs.Sums.{no_more}

-- ---- a session's windows

-- what the router writes, and nothing of the client
abbrev pub IsOurs : Option WindowEvent → Type 0
IsOurs None = Unit {0}
IsOurs (Some windows.Sent) = Unit {0}
IsOurs (Some windows.OurFlow) = Unit {0}
IsOurs (Some (windows.TheirFlow expected window)) = ⊥
IsOurs (Some windows.Received) = ⊥

pub window-most : (first begun : ℕ) (o : Option WindowEvent) (own : List WindowEvent) → IsOurs o → (b : Bool)
    → window first begun (cons_option (if b then o else None) own) ≤ window first begun own
window-most first begun o own ours false = no_more (window first begun own)
window-most first begun None own ours true = no_more (window first begun own)
window-most first begun (Some windows.Sent) own ours true = omega arith
window-most first begun (Some windows.OurFlow) own ours true = no_more (window first begun own)
window-most first begun (Some (windows.TheirFlow expected left)) own ours true = absurd ours
window-most first begun (Some windows.Received) own ours true = absurd ours

-- a transfer takes one
pub window-less : (first begun : ℕ) (own : List WindowEvent) (b : Bool) → b ≡ true → 1 ≤ window first begun own
    → window first begun (cons_option (if b then Some windows.Sent else None) own) < window first begun own
window-less first begun own true is has = omega (arith, has)
window-less first begun own false is has = absurd cc

abbrev pub lacks : List WindowEvent → Bool
lacks own = nat_le (given_window own) RENEWAL_MARK

pub lacks-most : (o : Option WindowEvent) (own : List WindowEvent) → IsOurs o → (b : Bool)
    → cond (lacks (cons_option (if b then o else None) own)) 1 0 ≤ cond (lacks own) 1 0
lacks-most o own ours false = no_more (cond (lacks own) 1 0)
lacks-most None own ours true = no_more (cond (lacks own) 1 0)
lacks-most (Some windows.Sent) own ours true = no_more (cond (lacks own) 1 0)
lacks-most (Some windows.OurFlow) own ours true = omega arith
lacks-most (Some (windows.TheirFlow expected left)) own ours true = absurd ours
lacks-most (Some windows.Received) own ours true = absurd ours

-- a flow gives it anew
pub lacks-less : (own : List WindowEvent) (b : Bool) → b ≡ true → lacks own ≡ true
    → cond (lacks (cons_option (if b then Some windows.OurFlow else None) own)) 1 0 < cond (lacks own) 1 0
lacks-less own true is low = rw low (omega arith)
lacks-less own false is low = absurd cc

-- ---- a link's credit

abbrev pub IsOurCredit : Option LinkEvent → Type 0
IsOurCredit None = Unit {0}
IsOurCredit (Some Begun) = Unit {0}
IsOurCredit (Some (OurFlow count left drain)) = Unit {0}
IsOurCredit (Some (TheirFlow count left drain)) = ⊥

answered-most : (b : Bool) (granted begun : ℕ) → (if b then 0 else granted) - (if b then 0 else begun) ≤ granted - begun
answered-most true granted begun = omega arith
answered-most false granted begun = no_more (granted - begun)

pub credit-most : (first : ℕ) (o : Option LinkEvent) (own : List LinkEvent) → IsOurCredit o → (b : Bool)
    → credit first (cons_option (if b then o else None) own) ≤ credit first own
credit-most first o own ours false = no_more (credit first own)
credit-most first None own ours true = no_more (credit first own)
credit-most first (Some Begun) own ours true = omega arith
credit-most first (Some (OurFlow count left drain)) own ours true = answered-most (is_drain_answer left drain) (granted_credit first own) (begun_since_grant own)
credit-most first (Some (TheirFlow count left drain)) own ours true = absurd ours

-- a drain answer uses it up
pub credit-less : (first : ℕ) (count left : Option ℕ) (drain : Bool) (own : List LinkEvent) → left ≡ Some 0 → drain ≡ true → (b : Bool) → b ≡ true → 1 ≤ credit first own
    → credit first (cons_option (if b then Some (OurFlow count left drain) else None) own) < credit first own
credit-less first count left drain own used drains true is has = rw (used, drains) (omega (arith, has))
credit-less first count left drain own used drains false is has = absurd cc

-- credit that fills a link up is more than it had
pub given-more : (count left : Option ℕ) (drain : Bool) (own : List LinkEvent) (undecided : ℕ) → left ≡ Some (CAPACITY - undecided) → given_credit own + undecided ≤ LOW_MARK
    → (b : Bool) → b ≡ true → given_credit own < given_credit (cons_option (if b then Some (OurFlow count left drain) else None) own)
given-more count (Some n) drain own undecided is low true on = let same : n ≡ CAPACITY - undecided = cc in omega (arith, same, low)
given-more count None drain own undecided is low true on = absurd cc
given-more count left drain own undecided is low false on = absurd cc

pub short-less : (before now : ℕ) → before < now → before < CAPACITY → CAPACITY - now < CAPACITY - before
short-less before now more few = omega (arith, more, few)

pub short-most : (before now : ℕ) → before ≤ now → CAPACITY - now ≤ CAPACITY - before
short-most before now more = omega (arith, more)
