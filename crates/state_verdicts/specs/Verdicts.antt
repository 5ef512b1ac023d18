-- What the table of verdicts stands for, by the numbers of links and of deliveries from clients.
use Rattle.std.specs.Prelude.{◌≡◌, ◌<◌, ◌⊎◌, ℕ, Bool, true, false, ◌&&◌, List, ◌∷◌, Some, is_some, length, nat_eq, if◌then◌else◌, ◌==◌}
use Rattle.std.specs.List.{list_any}
use Rattle.indexmap.specs.IndexMap.{get}
use Rattle.amqp_perf.specs.declared.descriptor.Outcome.{Outcome}
use Rattle.amqp_perf.specs.declared.descriptor.Outcome.TheVariants.{Accepted, Rejected, Released, Modified}
use Rattle.capture_form.specs.Rules.{RuleSet}
use Rattle.number_groups.specs.Groups.{is_member}
use Rattle.trace_events.specs.Words.{is_some_and}
use Rattle.trace_events.specs.Event.{Event, Link, Incoming}
use Rattle.trace_events.specs.Incoming.{completed_by, incoming_at}
use Rattle.trace_events.specs.Link.{link_at}
use Rattle.trace_events.specs.CopyVerdict.{awaits_verdict, awaits_now, begun_verdict}
use Rattle.trace_events.specs.BestVerdict.{is_same_outcome, has_verdict}
use Rattle.state_tables.specs.LetGo.{is_let_go}
use Rattle.state_verdicts.specs.declared.had.Had.{Had}
use Rattle.state_verdicts.specs.declared.verdicts.Verdicts.{Verdicts}
use Rattle.state_verdicts.specs.declared.verdicts.CopyVerdict.{CopyVerdict}

-- ---- the table

-- some copy has the outcome as its verdict
abbrev pub says : Had → Outcome → Bool
says x Accepted = x.accepted
says x Modified = x.modified
says x Rejected = x.rejected
says x Released = x.released

-- the best of the verdicts that there are, and accepted where there is none
abbrev pub best_of : (Outcome → Bool) → Outcome
best_of has =
    if has Accepted then Accepted else if has Modified then Modified
    else if has Rejected then Rejected else if has Released then Released else Accepted

-- the copy of the delivery of number n on the link of this number awaits its verdict, as the table has it
abbrev pub awaits_in : Verdicts → ℕ → ℕ → Bool
awaits_in table link n = is_member nat_eq table.on_link link n

-- and some copy of that delivery has this one
abbrev pub had_in : Verdicts → ℕ → Outcome → Bool
had_in table n outcome = is_some_and (get nat_eq table.had n) (λ x. says x outcome)

-- ---- what the law says of the numbers

abbrev pub awaits_at : RuleSet → List Event → ℕ → ℕ → Bool
awaits_at rules past link n = is_some_and (link_at link past) (λ l. is_some_and (incoming_at n past) (λ d. awaits_verdict rules d past l))

abbrev pub verdict_at : RuleSet → List Event → ℕ → Outcome → Bool
verdict_at rules past n outcome = is_some_and (incoming_at n past) (λ d. has_verdict rules d past outcome)

-- by the link and by the delivery the table says the same
abbrev pub AreMirrored : Verdicts → Type 0
AreMirrored table = (link n : ℕ) → is_member nat_eq table.of_delivery n link ≡ awaits_in table link n

-- which copies await their verdict it says of every delivery, and which verdicts there are of those that were not let go
pub record AreVerdicts (rules : RuleSet) (table : Verdicts) (past : List Event) : Type 0 where
  pub awaits : (link n : ℕ) → awaits_in table link n ≡ awaits_at rules past link n
  pub mirrored : AreMirrored table
  pub had : (n : ℕ) (outcome : Outcome) → is_let_go table.let_go.items n ≡ false → had_in table n outcome ≡ verdict_at rules past n outcome

-- ---- what an event does to it

-- the event completes the delivery of number n, and this link is one of those that its copies come due to
abbrev pub comes_now : Event → List ℕ → ℕ → ℕ → Bool
comes_now e due link n = is_some_and (completed_by e) (λ d. d.number == n) && list_any (λ m. m == link) due

-- a verdict is of the delivery of number n, and says this
abbrev pub is_verdict_of : ℕ → Outcome → CopyVerdict → Bool
is_verdict_of n outcome v = v.delivery == n && is_same_outcome outcome v.outcome

-- it is of the delivery of number n, says this, and its copy awaits one in the table
abbrev pub is_taken : Verdicts → ℕ → Outcome → CopyVerdict → Bool
is_taken table n outcome v = awaits_in table v.link v.delivery && is_verdict_of n outcome v

-- it is of the copy of that delivery on the link of this number
abbrev pub is_of_copy : ℕ → ℕ → CopyVerdict → Bool
is_of_copy link n v = v.link == link && (v.delivery == n)

abbrev pub is_given : List CopyVerdict → ℕ → ℕ → Bool
is_given given link n = list_any (is_of_copy link n) given

-- of each copy that awaits its verdict with the event these say the verdict that it has behind it, as one that was begun;
-- of other copies they say anything
abbrev pub AreGiven : RuleSet → Event → List Event → List CopyVerdict → Type 0
AreGiven rules e past given = (link n : ℕ) (l : Link) (d : Incoming) → link_at link past ≡ Some l → incoming_at n (e ∷ past) ≡ Some d → awaits_now rules e past d l ≡ true →
    (outcome : Outcome) → list_any (λ v. v.link == link && is_verdict_of n outcome v) given ≡ is_some_and (begun_verdict d l (e ∷ past)) (is_same_outcome outcome)

-- ---- what it needs memory for

-- a copy on the link of this number awaits its verdict
abbrev pub IsAwaited : Verdicts → ℕ → Type 0
IsAwaited table link = (n : ℕ) × (awaits_in table link n ≡ true)

-- the event completes what comes due to a link, or a verdict is given, or one of these links ends with a copy that awaits
abbrev pub MayGrow : Verdicts → Event → List ℕ → List CopyVerdict → List Link → Type 0
MayGrow table e due given ended =
    ((is_some (completed_by e) ≡ true) × (0 < length due)) ⊎ ((0 < length given) ⊎ ((n : ℕ) × (list_any (λ l. awaits_in table l.number n) ended ≡ true)))
