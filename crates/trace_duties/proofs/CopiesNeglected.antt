-- Captures of multicast: those whose router does not tell an outcome once each copy has its verdict, with the record where it
-- should have; and those whose records stand out of the order of a step, which no duty forbids.
use Rattle.std.specs.Prelude.{◌≡◌, ℕ, List, [], ◌∷◌, ◌++◌, codes, true, false, Some, None, refl}
use Rattle.pairing_cert.specs.declared.note.Why.TheVariants.{M}
use Rattle.capture_form.specs.declared.records.Record.{Record}
use Rattle.capture_form.specs.declared.rules.Distribution.TheVariants.{Multicast}
use Rattle.capture_form.specs.Rules.{RuleText}
use Rattle.trace_events.proofs.Captures.{rule, client, opened, paired, router, told}
use Rattle.trace_duties.proofs.Duties.{Outcome}
use Rattle.trace_duties.proofs.FirstNeglected.{duties_of, hex}
use Rattle.trace_duties.proofs.SharedFrames.{accepted, accepted_unsettled, carried, client_begin, closed, consumer_open, credit_of_1, delivery, news_consumer_attach, news_consumer_attached, news_producer, router_begin, router_open, second_carried, settles}

-- ---- frames

-- a consumer's attach: name r, handle 0, source news
abbrev consumer_attach_to_news : List ℕ
consumer_attach_to_news = hex (codes "0000002102000000005312C01406A1017243414040005328C00701A1046E657773")

-- the router's answer
abbrev consumer_attached_to_news : List ℕ
consumer_attached_to_news = hex (codes "0000002A02000000005312C01D0AA10172434250025000005328C00701A1046E65777300532945404043")

-- a transfer of the producer: delivery-id 0, the message hi, not settled, more left out
abbrev unsettled_delivery : List ℕ
unsettled_delivery = hex (codes "0000001B02000000005314C007044343A0013143005377A1026869")

-- the same of delivery-id 1
abbrev second_unsettled_delivery : List ℕ
second_unsettled_delivery = hex (codes "0000001C02000000005314C00804435201A0013143005377A1026869")

-- the transfer that carries it settled, delivery-id 0
abbrev carried_settled : List ℕ
carried_settled = hex (codes "0000002002000000005314C00C064343A00400000000434142005377A1026869")

-- the same of delivery-id 1
abbrev second_carried_settled : List ℕ
second_carried_settled = hex (codes "0000002102000000005314C00D06435201A00400000001434142005377A1026869")

-- a disposition of role receiver of id 0, not settled: rejected
abbrev rejected_unsettled : List ℕ
rejected_unsettled = hex (codes "0000001602000000005315C009054143404000532545")

-- the same of ids 0 and 1: accepted
abbrev both_accepted_unsettled : List ℕ
both_accepted_unsettled = hex (codes "0000001702000000005315C00A05414352014000532445")

-- the same of id 1, settled
abbrev second_accepted : List ℕ
second_accepted = hex (codes "0000001702000000005315C00A05415201404100532445")

-- a disposition of role sender of id 1, settled
abbrev settles_second : List ℕ
settles_second = hex (codes "0000001302000000005315C006044252014041")

-- the consumer's flow that gives 1 credit, with incoming-window 0
abbrev credit_of_1_without_window : List ℕ
credit_of_1_without_window = hex (codes "0000001702000000005313C00A07434343526443435201")

-- the same of 2
abbrev credit_of_2_without_window : List ℕ
credit_of_2_without_window = hex (codes "0000001702000000005313C00A07434343526443435202")

-- the same of 2, with incoming-window 100
abbrev credit_of_2 : List ℕ
credit_of_2 = hex (codes "0000001802000000005313C00B0743526443526443435202")

-- a session's flow that gives an incoming-window of 100
abbrev window_of_100 : List ℕ
window_of_100 = hex (codes "0000001402000000005313C00704435264435264")

-- the same of 2
abbrev window_of_2 : List ℕ
window_of_2 = hex (codes "0000001402000000005313C00704435202435264")

-- the same, settled: released
abbrev released : List ℕ
released = hex (codes "0000001602000000005315C009054143404100532645")

-- ---- openings

abbrev news : List RuleText
news = rule Multicast (codes "news") ∷ []

-- a consumer of the address news with these frames of its attach and of the answer
abbrev attached_by : List ℕ → List ℕ → ℕ → List Record
attached_by attach answer c =
    opened c
    ∷ client c consumer_open
    ∷ router c router_open
    ∷ client c client_begin
    ∷ router c router_begin
    ∷ client c attach
    ∷ router c answer
    ∷ []

-- one that asks for deliveries as they come, and one that asks for settled ones
abbrev asks_as_it_comes : ℕ → List Record
asks_as_it_comes c = attached_by consumer_attach_to_news consumer_attached_to_news c

abbrev asks_for_settled : ℕ → List Record
asks_for_settled c = attached_by news_consumer_attach news_consumer_attached c

-- ---- the captures

-- two copies, one released and the other's link over: the outcome is not told
never_told_behind_an_end : duties_of news (news_producer ++ asks_as_it_comes 1 ++ asks_as_it_comes 2 ++ asks_as_it_comes 3 ++ (
    client 1 credit_of_1
    ∷ client 2 credit_of_1
    ∷ client 0 delivery
    ∷ paired 1 31 carried
    ∷ paired 2 31 carried
    ∷ client 1 released
    ∷ client 2 closed
    ∷ router 2 closed
    ∷ [])) ≡ (Some (Outcome, 37), false)
unfolding duties_of
never_told_behind_an_end = refl

-- no copy is due, since no consumer gave credit: the outcome is not told at once
none_due_left : duties_of news (news_producer ++ asks_as_it_comes 1 ++ (
    client 0 unsettled_delivery
    ∷ [])) ≡ (Some (Outcome, 16), false)
unfolding duties_of
none_due_left = refl

-- the last verdict stands, and the outcome is not told
last_verdict_left : duties_of news (news_producer ++ asks_as_it_comes 1 ++ asks_as_it_comes 2 ++ (
    client 1 credit_of_1
    ∷ client 2 credit_of_1
    ∷ client 0 unsettled_delivery
    ∷ paired 1 24 carried
    ∷ paired 2 24 carried
    ∷ client 1 accepted_unsettled
    ∷ client 2 accepted_unsettled
    ∷ [])) ≡ (Some (Outcome, 29), false)
unfolding duties_of
last_verdict_left = refl

-- the settlings that an outcome frees, by order of attach
freed_settlings_by_attach : duties_of news (news_producer ++ asks_as_it_comes 1 ++ asks_as_it_comes 2 ++ asks_for_settled 3 ++ (
    client 1 credit_of_1_without_window
    ∷ client 2 credit_of_1
    ∷ client 3 credit_of_1_without_window
    ∷ client 0 unsettled_delivery
    ∷ paired 2 32 carried
    ∷ client 2 rejected_unsettled
    ∷ client 1 window_of_100
    ∷ paired 1 32 carried
    ∷ client 1 rejected_unsettled
    ∷ client 3 window_of_100
    ∷ paired 3 32 carried_settled
    ∷ told 0 M accepted
    ∷ router 1 settles
    ∷ router 2 settles
    ∷ [])) ≡ (None, true)
unfolding duties_of
freed_settlings_by_attach = refl

-- a settling behind all transfers, of an outcome that one of them caused
settlings_behind_all_transfers : duties_of news (news_producer ++ asks_as_it_comes 1 ++ asks_for_settled 2 ++ (
    client 1 credit_of_2
    ∷ client 2 credit_of_2_without_window
    ∷ client 0 unsettled_delivery
    ∷ paired 1 24 carried
    ∷ client 0 second_unsettled_delivery
    ∷ paired 1 26 second_carried
    ∷ client 1 both_accepted_unsettled
    ∷ client 2 window_of_2
    ∷ paired 2 24 carried_settled
    ∷ told 0 M accepted
    ∷ paired 2 26 second_carried_settled
    ∷ told 0 M second_accepted
    ∷ router 1 settles
    ∷ router 1 settles_second
    ∷ [])) ≡ (None, true)
unfolding duties_of
settlings_behind_all_transfers = refl

-- an outcome behind all transfers, one of which caused it
told_behind_all_transfers : duties_of news (news_producer ++ asks_as_it_comes 1 ++ asks_for_settled 2 ++ (
    client 1 credit_of_2
    ∷ client 2 credit_of_2_without_window
    ∷ client 0 unsettled_delivery
    ∷ paired 1 24 carried
    ∷ client 0 second_unsettled_delivery
    ∷ paired 1 26 second_carried
    ∷ client 1 both_accepted_unsettled
    ∷ client 2 window_of_2
    ∷ paired 2 24 carried_settled
    ∷ paired 2 26 second_carried_settled
    ∷ told 0 M accepted
    ∷ told 0 M second_accepted
    ∷ router 1 settles
    ∷ router 1 settles_second
    ∷ [])) ≡ (None, true)
unfolding duties_of
told_behind_all_transfers = refl
