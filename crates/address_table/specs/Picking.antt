-- Which consumer a delivery goes to. Own rules, after the message routing of the Qpid Dispatch Router.
use Rattle.std.specs.Prelude.{ℕ, Bool, List, Option, None, nat_lt}
use Rattle.capture_form.specs.declared.rules.Distribution.{Distribution}
use Rattle.capture_form.specs.declared.rules.Distribution.TheVariants.{Closest, Balanced, Multicast}
use Rattle.flow_counts.specs.Picks.{AddressEvent, Consumer, closest_rank, balanced_rank, pick_by}

-- how late a link comes for a distribution
abbrev pub rank_of : Distribution → Option Consumer → ℕ
rank_of Closest consumer = closest_rank consumer
rank_of Balanced consumer = balanced_rank consumer
rank_of Multicast consumer = 0

-- the link comes before the other
abbrev pub ranks_below : Distribution → (ℕ → Option Consumer) → ℕ → ℕ → Bool
ranks_below distribution consumer link other = nat_lt (rank_of distribution (consumer link)) (rank_of distribution (consumer other))

-- the link that a delivery of the address goes to; one of a multicast address goes to all
abbrev pub pick_of : Distribution → (ℕ → Bool) → List ℕ → List AddressEvent → Option ℕ
pick_of Closest is_eligible address past = pick_by closest_rank is_eligible address past
pick_of Balanced is_eligible address past = pick_by balanced_rank is_eligible address past
pick_of Multicast is_eligible address past = None
