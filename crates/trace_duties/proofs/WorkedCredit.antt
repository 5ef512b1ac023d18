-- Captures worked by hand: windows, credit and drain.
use Rattle.std.specs.Prelude.{◌≡◌, List, [], ◌∷◌, ◌++◌, true, Ok, Err, refl}
use Rattle.capture_form.specs.declared.records.Record.{Record}
use Rattle.trace_events.specs.declared.clause.Clause.TheVariants.{L4, L5}
use Rattle.trace_events.proofs.Captures.{client, router, paired, verdict_of}
use Rattle.trace_duties.proofs.Captures.{diligence_of}
use Rattle.trace_duties.proofs.Openings.{between}
use Rattle.trace_duties.proofs.WorkedFrames.{open_c, begin_100, begin_2, begin_3, router_to_consumer_of_q, router_to_consumer_of_q_from_4294967295, flow_2_0_10, flow_3_0_10, flow_100_1_10, flow_100_4294967295_2, flow_100_4294967295_3_behind_two, flow_100_0_5_drain, router_drained_5, transfer_0, transfer_1, transfer_2, transfer_3, transfer_abc, copy_0, copy_1, copy_2, copy_3, copy_a, copy_b, copy_c}

-- a producer and a consumer of q
abbrev attached : List Record
attached =
    between open_c begin_100 router_to_consumer_of_q

attached_verdict : verdict_of [] attached ≡ Ok (record { records = 15; deliveries = 0; outcomes = 0 })
unfolding verdict_of
attached_verdict = refl

attached_kept : diligence_of [] attached ≡ true
unfolding diligence_of
attached_kept = refl

-- a delivery of three transfers on a window of two
abbrev window_of_two : List Record
window_of_two =
    between open_c begin_2 router_to_consumer_of_q ++ (client 1 flow_2_0_10 ∷ client 0 transfer_abc ∷ paired 1 16 copy_a ∷
    paired 1 16 copy_b ∷ paired 1 16 copy_c ∷ [])

window_of_two_verdict : verdict_of [] window_of_two ≡ Err (19, L4)
unfolding verdict_of
window_of_two_verdict = refl

-- and of three
abbrev window_of_three : List Record
window_of_three =
    between open_c begin_3 router_to_consumer_of_q ++ (client 1 flow_3_0_10 ∷ client 0 transfer_abc ∷ paired 1 16 copy_a ∷
    paired 1 16 copy_b ∷ paired 1 16 copy_c ∷ [])

window_of_three_verdict : verdict_of [] window_of_three ≡ Ok (record { records = 20; deliveries = 1; outcomes = 0 })
unfolding verdict_of
window_of_three_verdict = refl

-- credit that was given before two deliveries came, which wraps, is used up by the third
abbrev stale_credit_passed : List Record
stale_credit_passed =
    between open_c begin_100 router_to_consumer_of_q_from_4294967295 ++ (client 1 flow_100_4294967295_2 ∷
    client 0 transfer_0 ∷ client 0 transfer_1 ∷ client 0 transfer_2 ∷ client 0 transfer_3 ∷ paired 1 16 copy_0 ∷
    paired 1 17 copy_1 ∷ client 1 flow_100_4294967295_3_behind_two ∷ paired 1 18 copy_2 ∷ paired 1 19 copy_3 ∷ [])

stale_credit_passed_verdict : verdict_of [] stale_credit_passed ≡ Err (24, L5)
unfolding verdict_of
stale_credit_passed_verdict = refl

-- the same without the delivery behind it
abbrev stale_credit : List Record
stale_credit =
    between open_c begin_100 router_to_consumer_of_q_from_4294967295 ++ (client 1 flow_100_4294967295_2 ∷
    client 0 transfer_0 ∷ client 0 transfer_1 ∷ client 0 transfer_2 ∷ client 0 transfer_3 ∷ paired 1 16 copy_0 ∷
    paired 1 17 copy_1 ∷ client 1 flow_100_4294967295_3_behind_two ∷ paired 1 18 copy_2 ∷ [])

stale_credit_verdict : verdict_of [] stale_credit ≡ Ok (record { records = 24; deliveries = 3; outcomes = 0 })
unfolding verdict_of
stale_credit_verdict = refl

-- a flow that knows of a delivery which was never sent gives no credit
abbrev credit_from_the_future : List Record
credit_from_the_future =
    between open_c begin_100 router_to_consumer_of_q ++ (client 1 flow_100_1_10 ∷ client 0 transfer_0 ∷ paired 1 16 copy_0 ∷ [])

credit_from_the_future_verdict : verdict_of [] credit_from_the_future ≡ Err (17, L5)
unfolding verdict_of
credit_from_the_future_verdict = refl

-- credit that is given back as drain asks
abbrev drained : List Record
drained =
    between open_c begin_100 router_to_consumer_of_q ++ (client 1 flow_100_0_5_drain ∷ router 1 router_drained_5 ∷ [])

drained_verdict : verdict_of [] drained ≡ Ok (record { records = 17; deliveries = 0; outcomes = 0 })
unfolding verdict_of
drained_verdict = refl

drained_kept : diligence_of [] drained ≡ true
unfolding diligence_of
drained_kept = refl

-- and none is left behind it
abbrev drained_and_sent : List Record
drained_and_sent =
    between open_c begin_100 router_to_consumer_of_q ++ (client 1 flow_100_0_5_drain ∷ router 1 router_drained_5 ∷ client 0 transfer_0 ∷
    paired 1 17 copy_0 ∷ [])

drained_and_sent_verdict : verdict_of [] drained_and_sent ≡ Err (18, L5)
unfolding verdict_of
drained_and_sent_verdict = refl
