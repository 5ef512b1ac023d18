-- For each duty of a router lawful captures that neglect it: the first duty that is neglected, with the record where it is,
-- and that the router is not diligent.
use Rattle.std.specs.Prelude.{◌≡◌, [], ◌∷◌, ◌++◌, replicate, codes, false, Some, refl}
use Rattle.pairing_cert.specs.declared.note.Why.TheVariants.{C}
use Rattle.capture_form.specs.declared.rules.Distribution.TheVariants.{Multicast}
use Rattle.trace_events.proofs.Captures.{rule, opened, client, router, paired, told}
use Rattle.trace_duties.proofs.Duties.{Answer, Waiting, Progress, Outcome, Credit, Drain, Copies, Settling, Pick, NothingElse}
use Rattle.trace_duties.proofs.FirstNeglected.{duties_of, hex}
use Rattle.trace_duties.proofs.SharedFrames.{producer_open, router_open, client_begin, router_begin, producer_attach, producer_attached, consumer_open, consumer_attach, consumer_attached, credit_given, credit_of_1, credit_of_10, delivery, second_delivery, carried, accepted, accepted_unsettled, closed, ended, shut, producer_and_consumer_with_credit, news_producer_and_consumer, producer_and_consumer, news_producer, producer_attached_alone, producer_begun, producer_opened}

-- an open is answered by one with another container-id
answer_open_spelled_otherwise : duties_of [] (
    opened 0
    ∷ client 0 producer_open
    ∷ router 0 (hex (codes "0000003C02000000005310C02F03A1267272727272727272727272727272727272727272727272727272727272727272727272727272407000004000"))
    ∷ []) ≡ (Some (Answer, 2), false)
unfolding duties_of
answer_open_spelled_otherwise = refl

-- a refused attach is answered by an attach, and the detach behind it is missing
answer_refusal_without_detach : duties_of [] (producer_begun ++ (
    client 0 (hex (codes "0000002102000000005312C0140AA101734342404040005329C00301A100404043"))
    ∷ router 0 (hex (codes "0000001302000000005312C00603A101734341"))
    ∷ [])) ≡ (Some (Answer, 7), false)
unfolding duties_of
answer_refusal_without_detach = refl

-- an open is not answered
answer_open_left_out : duties_of [] (
    opened 0
    ∷ client 0 producer_open
    ∷ []) ≡ (Some (Answer, 2), false)
unfolding duties_of
answer_open_left_out = refl

-- an open is answered on another connection
answer_open_on_other_connection : duties_of [] (
    opened 0
    ∷ opened 1
    ∷ client 0 producer_open
    ∷ router 1 router_open
    ∷ []) ≡ (Some (Answer, 3), false)
unfolding duties_of
answer_open_on_other_connection = refl

-- of two deliveries that wait the later could go, at its own address
waiting_second_left : duties_of [] (producer_and_consumer_with_credit ++ (
    client 1 (hex (codes "0000001F02000000005312C01206A101755201414040005328C00401A10172"))
    ∷ router 1 (hex (codes "0000002802000000005312C01B0AA1017552014250025000005328C00401A1017200532945404043"))
    ∷ client 0 (hex (codes "0000002302000000005312C0160AA10174520142404040005329C00401A10172404043"))
    ∷ router 0 (hex (codes "0000003102000000005312C0240BA101745201415002500000532845005329C00401A10172404040800000000001000000"))
    ∷ router 0 (hex (codes "0000001F02000000005313C0120743700000080043707FFFFFFF52014352FA"))
    ∷ client 0 delivery
    ∷ client 0 (hex (codes "0000001E02000000005314C00A0552015201A001314342005377A1026869"))
    ∷ client 1 (hex (codes "0000001902000000005313C00C074352644352645201435201"))
    ∷ [])) ≡ (Some (Waiting, 23), false)
unfolding duties_of
waiting_second_left = refl

-- a delivery waits though it could go
waiting_left : duties_of [] (producer_and_consumer_with_credit ++ (
    client 1 credit_of_1
    ∷ client 0 delivery
    ∷ [])) ≡ (Some (Waiting, 17), false)
unfolding duties_of
waiting_left = refl

-- a delivery waits though it could go, and is sent behind another input
waiting_left_before_input : duties_of [] (producer_and_consumer_with_credit ++ (
    client 1 credit_of_1
    ∷ client 0 delivery
    ∷ client 1 (hex (codes "0000001402000000005313C00704435201435264"))
    ∷ paired 1 16 carried
    ∷ [])) ≡ (Some (Waiting, 17), false)
unfolding duties_of
waiting_left_before_input = refl

-- a delivery in progress does not go on, while another waits that may not be picked
progress_left_while_another_waits : duties_of [] (producer_attached_alone ++ (
    opened 1
    ∷ client 1 (hex (codes "0000001702000000005310C00A03A10163407000000200"))
    ∷ router 1 router_open
    ∷ client 1 client_begin
    ∷ router 1 router_begin
    ∷ client 1 consumer_attach
    ∷ router 1 consumer_attached
    ∷ router 0 credit_given
    ∷ client 1 (hex (codes "0000001802000000005313C00B0743520143526443435205"))
    ∷ client 0 (hex (codes "0000039902000000005314C008054343A001314342") ++ replicate 900 120)
    ∷ paired 1 16 (hex (codes "0000020002000000005314C00C064343A00400000000434241") ++ replicate 487 120)
    ∷ client 0 second_delivery
    ∷ client 1 (hex (codes "0000001502000000005313C0080452015201435264"))
    ∷ [])) ≡ (Some (Progress, 20), false)
unfolding duties_of
progress_left_while_another_waits = refl

-- a delivery in progress does not go on, though its consumer has decided it
progress_left_though_decided : duties_of [] (producer_attached_alone ++ (
    opened 1
    ∷ client 1 (hex (codes "0000001702000000005310C00A03A10163407000000200"))
    ∷ router 1 router_open
    ∷ client 1 client_begin
    ∷ router 1 router_begin
    ∷ client 1 consumer_attach
    ∷ router 1 consumer_attached
    ∷ router 0 credit_given
    ∷ client 1 (hex (codes "0000001802000000005313C00B0743520143526443435201"))
    ∷ client 0 (hex (codes "0000039902000000005314C008054343A001314342") ++ replicate 900 120)
    ∷ paired 1 16 (hex (codes "0000020002000000005314C00C064343A00400000000434241") ++ replicate 487 120)
    ∷ client 1 accepted
    ∷ told 0 C accepted
    ∷ client 1 (hex (codes "0000001502000000005313C0080452015201435264"))
    ∷ [])) ≡ (Some (Progress, 21), false)
unfolding duties_of
progress_left_though_decided = refl

-- a delivery in progress does not go on though there is window
progress_left : duties_of [] (producer_attached_alone ++ (
    opened 1
    ∷ client 1 (hex (codes "0000001702000000005310C00A03A10163407000000200"))
    ∷ router 1 router_open
    ∷ client 1 client_begin
    ∷ router 1 router_begin
    ∷ client 1 consumer_attach
    ∷ router 1 consumer_attached
    ∷ router 0 credit_given
    ∷ client 1 (hex (codes "0000001802000000005313C00B0743520143526443435201"))
    ∷ client 0 (hex (codes "0000039902000000005314C008054343A001314342") ++ replicate 900 120)
    ∷ paired 1 16 (hex (codes "0000020002000000005314C00C064343A00400000000434241") ++ replicate 487 120)
    ∷ client 1 (hex (codes "0000001502000000005313C0080452015201435264"))
    ∷ [])) ≡ (Some (Progress, 19), false)
unfolding duties_of
progress_left = refl

-- what a consumer decided is not told
outcome_left_decided : duties_of [] (producer_and_consumer_with_credit ++ (
    client 1 credit_of_10
    ∷ client 0 delivery
    ∷ paired 1 16 carried
    ∷ client 1 accepted
    ∷ [])) ≡ (Some (Outcome, 19), false)
unfolding duties_of
outcome_left_decided = refl

-- that a delivery failed with its consumer's link is not told
outcome_left_failed : duties_of [] (producer_and_consumer_with_credit ++ (
    client 1 credit_of_10
    ∷ client 0 delivery
    ∷ paired 1 16 carried
    ∷ client 1 closed
    ∷ router 1 closed
    ∷ [])) ≡ (Some (Outcome, 20), false)
unfolding duties_of
outcome_left_failed = refl

-- that a multicast delivery is accepted is not told
outcome_left_multicast : duties_of (rule Multicast (codes "news") ∷ []) (news_producer ++ (
    client 0 delivery
    ∷ [])) ≡ (Some (Outcome, 9), false)
unfolding duties_of
outcome_left_multicast = refl

-- that a delivery is gone is not told
outcome_left_gone : duties_of [] (producer_and_consumer_with_credit ++ (
    client 0 delivery
    ∷ client 1 closed
    ∷ router 1 closed
    ∷ [])) ≡ (Some (Outcome, 18), false)
unfolding duties_of
outcome_left_gone = refl

-- that a delivery on a pre-settled link is accepted is not told
outcome_left_pre_settled : duties_of [] (producer_attached_alone ++ (
    opened 1
    ∷ client 1 consumer_open
    ∷ router 1 router_open
    ∷ client 1 client_begin
    ∷ router 1 router_begin
    ∷ client 1 (hex (codes "0000001F02000000005312C01206A101724341500140005328C00401A10171"))
    ∷ router 1 (hex (codes "0000002702000000005312C01A0AA10172434250015000005328C00401A1017100532945404043"))
    ∷ router 0 credit_given
    ∷ client 1 credit_of_1
    ∷ client 0 delivery
    ∷ paired 1 16 (hex (codes "0000002002000000005314C00C064343A00400000000434142005377A1026869"))
    ∷ [])) ≡ (Some (Outcome, 18), false)
unfolding duties_of
outcome_left_pre_settled = refl

-- an outcome that has to be shortened is not told
outcome_left_shortened : duties_of [] (
    opened 0
    ∷ client 0 (hex (codes "0000001702000000005310C00A03A10170407000000200"))
    ∷ router 0 router_open
    ∷ client 0 client_begin
    ∷ router 0 router_begin
    ∷ client 0 producer_attach
    ∷ router 0 producer_attached
    ∷ opened 1
    ∷ client 1 consumer_open
    ∷ router 1 router_open
    ∷ client 1 client_begin
    ∷ router 1 router_begin
    ∷ client 1 consumer_attach
    ∷ router 1 consumer_attached
    ∷ router 0 credit_given
    ∷ client 1 credit_of_1
    ∷ client 0 delivery
    ∷ paired 1 16 carried
    ∷ client 1 (hex (codes "0000029002000000005315D0000002800000000541434041005325D0000002700000000100531DD00000026400000002A30178B100000258") ++ replicate 600 121)
    ∷ []) ≡ (Some (Outcome, 19), false)
unfolding duties_of
outcome_left_shortened = refl

-- a producer is not given credit though there is a consumer
credit_given_left_out : duties_of [] producer_and_consumer ≡ (Some (Credit, 14), false)
unfolding duties_of
credit_given_left_out = refl

-- a drain is not answered
drain_answer_left_out : duties_of [] (producer_and_consumer_with_credit ++ (
    client 1 (hex (codes "0000001A02000000005313C00D09435264435264434352054041"))
    ∷ [])) ≡ (Some (Drain, 16), false)
unfolding duties_of
drain_answer_left_out = refl

-- a drain is not answered, on a session without window
drain_without_window : duties_of [] (producer_and_consumer_with_credit ++ (
    client 1 (hex (codes "0000001902000000005313C00C094343435264434352054041"))
    ∷ [])) ≡ (Some (Drain, 16), false)
unfolding duties_of
drain_without_window = refl

-- a drain is not answered, with a delivery in progress
drain_in_progress : duties_of [] (producer_attached_alone ++ (
    opened 1
    ∷ client 1 (hex (codes "0000001702000000005310C00A03A10163407000000200"))
    ∷ router 1 router_open
    ∷ client 1 client_begin
    ∷ router 1 router_begin
    ∷ client 1 consumer_attach
    ∷ router 1 consumer_attached
    ∷ router 0 credit_given
    ∷ client 1 (hex (codes "0000001802000000005313C00B0743520143526443435201"))
    ∷ client 0 (hex (codes "0000039902000000005314C008054343A001314342") ++ replicate 900 120)
    ∷ paired 1 16 (hex (codes "0000020002000000005314C00C064343A00400000000434241") ++ replicate 487 120)
    ∷ client 1 (hex (codes "0000001B02000000005313C00E0952014343526443520152024041"))
    ∷ [])) ≡ (Some (Drain, 19), false)
unfolding duties_of
drain_in_progress = refl

-- a due copy is not sent
copy_left_unsent : duties_of (rule Multicast (codes "news") ∷ []) (news_producer_and_consumer ++ (
    client 1 credit_of_1
    ∷ client 0 delivery
    ∷ [])) ≡ (Some (Copies, 17), false)
unfolding duties_of
copy_left_unsent = refl

-- a due copy is not sent, with credit to spare
copy_left_with_credit_2 : duties_of (rule Multicast (codes "news") ∷ []) (news_producer_and_consumer ++ (
    client 1 (hex (codes "0000001802000000005313C00B0743526443526443435202"))
    ∷ client 0 delivery
    ∷ [])) ≡ (Some (Copies, 17), false)
unfolding duties_of
copy_left_with_credit_2 = refl

-- what a consumer decided is not settled with it
settling_left : duties_of [] (producer_and_consumer_with_credit ++ (
    client 1 credit_of_10
    ∷ client 0 delivery
    ∷ paired 1 16 carried
    ∷ client 1 accepted_unsettled
    ∷ told 0 C accepted
    ∷ [])) ≡ (Some (Settling, 20), false)
unfolding duties_of
settling_left = refl

-- what a consumer decided is not settled with it, where nothing is told
settling_left_of_settled : duties_of [] (producer_and_consumer_with_credit ++ (
    client 1 credit_of_1
    ∷ client 0 (hex (codes "0000001C02000000005314C008054343A001314341005377A1026869"))
    ∷ paired 1 16 carried
    ∷ client 1 accepted_unsettled
    ∷ [])) ≡ (Some (Settling, 19), false)
unfolding duties_of
settling_left_of_settled = refl

-- a delivery is sent while another that waits was completed before it
pick_not_earliest : duties_of [] (producer_and_consumer_with_credit ++ (
    client 0 delivery
    ∷ client 0 second_delivery
    ∷ client 1 credit_of_1
    ∷ paired 1 16 carried
    ∷ [])) ≡ (Some (Pick, 18), false)
unfolding duties_of
pick_not_earliest = refl

-- a delivery is sent on another link than the picked one
pick_other_link : duties_of [] (producer_and_consumer_with_credit ++ (
    opened 2
    ∷ client 2 consumer_open
    ∷ router 2 router_open
    ∷ client 2 client_begin
    ∷ router 2 router_begin
    ∷ client 2 consumer_attach
    ∷ router 2 consumer_attached
    ∷ client 1 credit_of_1
    ∷ client 2 credit_of_1
    ∷ client 0 delivery
    ∷ paired 2 24 carried
    ∷ [])) ≡ (Some (Pick, 25), false)
unfolding duties_of
pick_other_link = refl

-- a close for nothing
close_for_nothing : duties_of [] (producer_opened ++ (
    router 0 shut
    ∷ [])) ≡ (Some (NothingElse, 3), false)
unfolding duties_of
close_for_nothing = refl

-- credit is given by a flow that spells drain false out
credit_given_spelled_otherwise : duties_of [] (producer_and_consumer ++ (
    router 0 (hex (codes "0000002002000000005313C0130943700000080043707FFFFFFF434352FA4042"))
    ∷ [])) ≡ (Some (NothingElse, 14), false)
unfolding duties_of
credit_given_spelled_otherwise = refl

-- credit is told again for nothing
credit_told_for_nothing : duties_of [] (producer_and_consumer_with_credit ++ (
    router 0 credit_given
    ∷ [])) ≡ (Some (NothingElse, 15), false)
unfolding duties_of
credit_told_for_nothing = refl

-- a drain is answered where no credit is left
drain_answer_without_credit : duties_of [] (producer_and_consumer_with_credit ++ (
    client 1 (hex (codes "0000001902000000005313C00C094352644352644343434041"))
    ∷ router 1 (hex (codes "0000001F02000000005313C0120943700000080043707FFFFFFF4343434041"))
    ∷ [])) ≡ (Some (NothingElse, 16), false)
unfolding duties_of
drain_answer_without_credit = refl

-- a drain is answered by a flow that spells echo false out
drain_answer_spelled_otherwise : duties_of [] (producer_and_consumer_with_credit ++ (
    client 1 (hex (codes "0000001A02000000005313C00D09435264435264434352054041"))
    ∷ router 1 (hex (codes "0000002102000000005313C0140A43700000080043707FFFFFFF43520543404142"))
    ∷ [])) ≡ (Some (NothingElse, 16), false)
unfolding duties_of
drain_answer_spelled_otherwise = refl

-- a consumer's numbers are told for nothing
consumer_flow_for_nothing : duties_of [] (producer_and_consumer_with_credit ++ (
    client 1 (hex (codes "0000001802000000005313C00B0743526443526443435205"))
    ∷ router 1 (hex (codes "0000001E02000000005313C0110743700000080043707FFFFFFF43435205"))
    ∷ [])) ≡ (Some (NothingElse, 16), false)
unfolding duties_of
consumer_flow_for_nothing = refl

-- an end for nothing
end_for_nothing : duties_of [] (producer_begun ++ (
    router 0 ended
    ∷ [])) ≡ (Some (NothingElse, 5), false)
unfolding duties_of
end_for_nothing = refl

-- an outcome that repeats its id as last
outcome_with_last : duties_of [] (producer_and_consumer_with_credit ++ (
    client 1 credit_of_10
    ∷ client 0 delivery
    ∷ paired 1 16 carried
    ∷ client 1 accepted
    ∷ told 0 C (hex (codes "0000001602000000005315C009054143434100532445"))
    ∷ [])) ≡ (Some (NothingElse, 19), false)
unfolding duties_of
outcome_with_last = refl

-- a session's numbers are told for nothing
session_flow_for_nothing : duties_of [] (producer_begun ++ (
    router 0 (hex (codes "0000001A02000000005313C00D0443700000080043707FFFFFFF"))
    ∷ [])) ≡ (Some (NothingElse, 5), false)
unfolding duties_of
session_flow_for_nothing = refl

-- a settling that repeats its id as last
settling_with_last : duties_of [] (producer_and_consumer_with_credit ++ (
    client 1 credit_of_10
    ∷ client 0 delivery
    ∷ paired 1 16 carried
    ∷ client 1 accepted_unsettled
    ∷ told 0 C accepted
    ∷ router 1 (hex (codes "0000001202000000005315C0050442434341"))
    ∷ [])) ≡ (Some (NothingElse, 20), false)
unfolding duties_of
settling_with_last = refl

-- the whole payload goes with more true
transfer_more_left_open : duties_of [] (producer_and_consumer_with_credit ++ (
    client 1 credit_of_1
    ∷ client 0 delivery
    ∷ paired 1 16 (hex (codes "0000001C02000000005314C008064343A000434241005377A1026869"))
    ∷ [])) ≡ (Some (NothingElse, 17), false)
unfolding duties_of
transfer_more_left_open = refl

-- a transfer carries one octet less than fits its frame
transfer_smaller_than_limit : duties_of [] (producer_attached_alone ++ (
    opened 1
    ∷ client 1 (hex (codes "0000001702000000005310C00A03A10163407000000200"))
    ∷ router 1 router_open
    ∷ client 1 client_begin
    ∷ router 1 router_begin
    ∷ client 1 consumer_attach
    ∷ router 1 consumer_attached
    ∷ router 0 credit_given
    ∷ client 1 (hex (codes "0000001802000000005313C00B0743520143526443435201"))
    ∷ client 0 (hex (codes "0000039902000000005314C008054343A001314342") ++ replicate 900 120)
    ∷ paired 1 16 (hex (codes "000001FF02000000005314C00C064343A00400000000434241") ++ replicate 486 120)
    ∷ [])) ≡ (Some (NothingElse, 17), false)
unfolding duties_of
transfer_smaller_than_limit = refl

-- a transfer without settled and more
transfer_without_flags : duties_of [] (producer_and_consumer_with_credit ++ (
    client 1 credit_of_1
    ∷ client 0 delivery
    ∷ paired 1 16 (hex (codes "0000001A02000000005314C006044343A00043005377A1026869"))
    ∷ [])) ≡ (Some (NothingElse, 17), false)
unfolding duties_of
transfer_without_flags = refl
