use Rattle.std.proofs.Common.{ℕ, ◌≡◌, ◌<◌, ◌^◌, Bool, drop, find}
use Rattle.address_table.specs.AddressLinks.{MayAsk}
use Rattle.address_table.proofs.address_links.first_of.Given as goal

abbrev pub invariant-loop-standing : goal.invariant-loop-standing
invariant-loop-standing g l =
    MayAsk (λ link. goal.F-pre g l.eligible link) (λ link answer. goal.F-post g l.eligible link answer) (drop l.standing-index l.order)
    × ((test : ℕ → Bool) → ((link : ℕ) (answer : Bool) → link < 2 ^ 64 → goal.F-post g l.eligible link answer → answer ≡ test link)
    → find (λ one. test one.link) l.order ≡ find (λ one. test one.link) (drop l.standing-index l.order))
