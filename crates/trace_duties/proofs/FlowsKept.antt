-- Captures in which windows, credit, drains and copies are as a router owes them.
use Rattle.std.specs.Prelude.{◌≡◌, [], ◌∷◌, ◌++◌, replicate, codes, true, None, refl}
use Rattle.pairing_cert.specs.declared.note.Why.TheVariants.{M}
use Rattle.capture_form.specs.declared.rules.Distribution.TheVariants.{Multicast}
use Rattle.trace_events.proofs.Captures.{rule, opened, client, router, paired, told}
use Rattle.trace_duties.proofs.FirstNeglected.{duties_of, hex}
use Rattle.trace_duties.proofs.SharedFrames.{router_open, client_begin, router_begin, producer_attached, consumer_open, consumer_attach, consumer_attached, credit_given, news_consumer_attach, news_consumer_attached, credit_of_1, delivery, second_delivery, carried, second_carried, accepted, closed, producer_and_consumer_with_credit, news_producer_and_consumer, news_producer, producer_attached_alone, producer_begun}

-- an abort ends its delivery though more is true; the next transfer begins another
incoming_aborted_with_more_then_another : duties_of [] (producer_and_consumer_with_credit ++ (
    client 1 credit_of_1
    ∷ client 0 (hex (codes "0000002102000000005314C00D0A4343A0013143424140404041005377A1026869"))
    ∷ client 0 second_delivery
    ∷ paired 1 17 carried
    ∷ [])) ≡ (None, true)
unfolding duties_of
incoming_aborted_with_more_then_another = refl

-- a due copy waits where the link's credit was taken back
copy_held_back_without_credit : duties_of (rule Multicast (codes "news") ∷ []) (news_producer_and_consumer ++ (
    client 1 (hex (codes "0000001702000000005313C00A07434343526443435201"))
    ∷ client 0 delivery
    ∷ client 1 (hex (codes "0000001702000000005313C00A07435264435264434343"))
    ∷ [])) ≡ (None, true)
unfolding duties_of
copy_held_back_without_credit = refl

-- a due copy waits where the session has no window
copy_held_back_without_window : duties_of (rule Multicast (codes "news") ∷ []) (news_producer_and_consumer ++ (
    client 1 (hex (codes "0000001702000000005313C00A07434343526443435201"))
    ∷ client 0 delivery
    ∷ [])) ≡ (None, true)
unfolding duties_of
copy_held_back_without_window = refl

-- a due copy waits behind a delivery in progress
copy_held_back_by_delivery_in_progress : duties_of (rule Multicast (codes "news") ∷ []) (news_producer ++ (
    opened 1
    ∷ client 1 (hex (codes "0000001702000000005310C00A03A10163407000000200"))
    ∷ router 1 router_open
    ∷ client 1 (hex (codes "0000001402000000005311C00704404352015264"))
    ∷ router 1 router_begin
    ∷ client 1 news_consumer_attach
    ∷ router 1 news_consumer_attached
    ∷ client 1 (hex (codes "0000001802000000005313C00B0743520143526443435205"))
    ∷ client 0 (hex (codes "0000039902000000005314C008054343A001314342") ++ replicate 900 120)
    ∷ paired 1 16 (hex (codes "0000020002000000005314C00C064343A00400000000434141") ++ replicate 487 120)
    ∷ client 0 second_delivery
    ∷ [])) ≡ (None, true)
unfolding duties_of
copy_held_back_by_delivery_in_progress = refl

-- a producer of a multicast address gets credit though there is no consumer
credit_given_multicast_without_consumer : duties_of (rule Multicast (codes "news") ∷ []) news_producer ≡ (None, true)
unfolding duties_of
credit_given_multicast_without_consumer = refl

-- a drain answer takes the delivery-count ahead by the credit that is left, and the credit to 0
drain_answered : duties_of [] (producer_and_consumer_with_credit ++ (
    client 1 (hex (codes "0000001A02000000005313C00D09435264435264434352054041"))
    ∷ router 1 (hex (codes "0000002002000000005313C0130943700000080043707FFFFFFF435205434041"))
    ∷ [])) ≡ (None, true)
unfolding duties_of
drain_answered = refl

-- a drain of no credit needs no answer
drain_without_credit : duties_of [] (producer_and_consumer_with_credit ++ (
    client 1 (hex (codes "0000001902000000005313C00C094352644352644343434041"))
    ∷ [])) ≡ (None, true)
unfolding duties_of
drain_without_credit = refl

-- a flow without link-credit changes no credit
credit_unchanged_by_flow_without_it : duties_of [] (producer_and_consumer_with_credit ++ (
    client 1 credit_of_1
    ∷ client 1 (hex (codes "0000001602000000005313C009064352644352644343"))
    ∷ client 0 delivery
    ∷ paired 1 17 carried
    ∷ [])) ≡ (None, true)
unfolding duties_of
credit_unchanged_by_flow_without_it = refl

-- the message-format is that of the first part
format_of_first_part : duties_of [] (producer_and_consumer_with_credit ++ (
    client 1 credit_of_1
    ∷ client 0 (hex (codes "0000001D02000000005314C009064343A00052074041005377A1026869"))
    ∷ client 0 (hex (codes "0000001302000000005314C006044340405209"))
    ∷ paired 1 16 (hex (codes "0000002102000000005314C00D064343A0040000000052074242005377A1026869"))
    ∷ [])) ≡ (None, true)
unfolding duties_of
format_of_first_part = refl

-- a multicast delivery without consumers is accepted, not gone
outcome_multicast_without_consumer : duties_of (rule Multicast (codes "news") ∷ []) (news_producer ++ (
    client 0 delivery
    ∷ told 0 M accepted
    ∷ [])) ≡ (None, true)
unfolding duties_of
outcome_multicast_without_consumer = refl

-- the delivery-count of a producer's link starts at its initial-delivery-count
flow_producer_count_from_5 : duties_of [] (producer_begun ++ (
    client 0 (hex (codes "0000002302000000005312C0160AA101734342404040005329C00401A1017140405205"))
    ∷ router 0 producer_attached
    ∷ opened 1
    ∷ client 1 consumer_open
    ∷ router 1 router_open
    ∷ client 1 client_begin
    ∷ router 1 router_begin
    ∷ client 1 consumer_attach
    ∷ router 1 consumer_attached
    ∷ router 0 (hex (codes "0000001F02000000005313C0120743700000080043707FFFFFFF43520552FA"))
    ∷ [])) ≡ (None, true)
unfolding duties_of
flow_producer_count_from_5 = refl

-- the initial-delivery-count is that of the link's own attach
flow_producer_count_of_last_attach : duties_of [] (producer_and_consumer_with_credit ++ (
    client 0 closed
    ∷ router 0 closed
    ∷ client 0 (hex (codes "0000002302000000005312C0160AA101734342404040005329C00401A1017140405209"))
    ∷ router 0 producer_attached
    ∷ router 0 (hex (codes "0000001F02000000005313C0120743700000080043707FFFFFFF43520952FA"))
    ∷ [])) ≡ (None, true)
unfolding duties_of
flow_producer_count_of_last_attach = refl

-- one transfer is sent where the window is 1
window_of_1 : duties_of [] (producer_and_consumer_with_credit ++ (
    client 1 (hex (codes "0000001802000000005313C00B0743520143526443435205"))
    ∷ client 0 delivery
    ∷ paired 1 16 carried
    ∷ [])) ≡ (None, true)
unfolding duties_of
window_of_1 = refl

-- a flow of another session sets no window
window_by_flow_of_other_session : duties_of [] (producer_and_consumer_with_credit ++ (
    client 1 (hex (codes "0000001402000001005311C00704404352645264"))
    ∷ router 1 (hex (codes "0000002102000001005311C01405600001437000000800707FFFFFFF70000003FF"))
    ∷ client 1 credit_of_1
    ∷ client 1 (hex (codes "0000001302000001005313C006044343435264"))
    ∷ client 0 delivery
    ∷ paired 1 19 carried
    ∷ [])) ≡ (None, true)
unfolding duties_of
window_by_flow_of_other_session = refl

-- a flow without handle sets the window
window_by_flow_without_handle : duties_of [] (producer_and_consumer_with_credit ++ (
    client 1 (hex (codes "0000001702000000005313C00A07434343526443435205"))
    ∷ client 1 (hex (codes "0000001402000000005313C00704435201435264"))
    ∷ client 0 delivery
    ∷ paired 1 17 carried
    ∷ [])) ≡ (None, true)
unfolding duties_of
window_by_flow_without_handle = refl

-- a flow without next-incoming-id lags by all that was sent: a window of 2 leaves 1
window_without_next_incoming_id_of_2 : duties_of [] (producer_and_consumer_with_credit ++ (
    client 1 (hex (codes "0000001802000000005313C00B0743520543526443435205"))
    ∷ client 0 delivery
    ∷ paired 1 16 carried
    ∷ client 1 (hex (codes "0000001802000000005313C00B0740520243526443435205"))
    ∷ client 0 second_delivery
    ∷ paired 1 19 second_carried
    ∷ [])) ≡ (None, true)
unfolding duties_of
window_without_next_incoming_id_of_2 = refl

-- a transfer fills its frame to the limit, and says that no more follows
transfer_of_whole_limit : duties_of [] (producer_attached_alone ++ (
    opened 1
    ∷ client 1 (hex (codes "0000001702000000005310C00A03A10163407000000200"))
    ∷ router 1 router_open
    ∷ client 1 client_begin
    ∷ router 1 router_begin
    ∷ client 1 consumer_attach
    ∷ router 1 consumer_attached
    ∷ router 0 credit_given
    ∷ client 1 (hex (codes "0000001802000000005313C00B0743520143526443435201"))
    ∷ client 0 (hex (codes "000001FC02000000005314C008054343A001314342") ++ replicate 487 120)
    ∷ paired 1 16 (hex (codes "0000020002000000005314C00C064343A00400000000434242") ++ replicate 487 120)
    ∷ [])) ≡ (None, true)
unfolding duties_of
transfer_of_whole_limit = refl
