-- Captures worked by hand: deliveries that are cut, wait, are told and copied.
use Rattle.std.specs.Prelude.{◌≡◌, ℕ, zero, suc, ◌+◌, List, [], ◌∷◌, ◌++◌, true, Ok, Err, codes, refl}
use Rattle.capture_form.specs.declared.records.Record.{Record}
use Rattle.capture_form.specs.declared.rules.Distribution.TheVariants.{Multicast}
use Rattle.pairing_cert.specs.declared.note.Why.TheVariants.{C, L, N, M}
use Rattle.trace_events.specs.declared.clause.Clause.TheVariants.{L8, L11}
use Rattle.trace_events.proofs.Captures.{opened, client, router, paired, told, rule, verdict_of}
use Rattle.trace_duties.proofs.Captures.{diligence_of}
use Rattle.trace_duties.proofs.Openings.{between, joined}
use Rattle.trace_duties.proofs.WorkedFrames.{open_p, open_c, open_c_of_512, router_open, begin_100, router_begin, consumer_of_q, router_to_consumer_of_q, producer_of_news, router_to_producer_of_news, consumer_of_news, router_to_consumer_of_news, detach, router_flow_250, flow_100_0_10, flow_100_0_1, flow_100_0_1_behind_one, transfer_0, transfer_1, transfer_2, copy_0, copy_1, settled_copy_0, accept_0, accept_0_unsettled, failed_0, release_0, release_1, settle_0, first_half, second_half, first_cut, next_cut, last_cut}

-- the transfers between the first and the last
abbrev cuts : ℕ → ℕ → List Record
cuts zero k = []
cuts (suc n) k = paired 1 16 (next_cut k) ∷ cuts n (k + 492)

-- a delivery of two transfers, cut into frames of 512 octets
abbrev cut : List Record
cut =
    between open_c_of_512 begin_100 router_to_consumer_of_q ++ (client 1 flow_100_0_10 ∷ client 0 first_half ∷
    client 0 second_half ∷ paired 1 16 first_cut ∷ [])
    ++ cuts 39 487 ++ (paired 1 16 (last_cut 210) ∷ [])

cut_verdict : verdict_of [] cut ≡ Ok (record { records = 59; deliveries = 1; outcomes = 0 })
unfolding verdict_of
cut_verdict = refl

cut_kept : diligence_of [] cut ≡ true
unfolding diligence_of
cut_kept = refl

-- the same with the last octet changed
abbrev cut_changed : List Record
cut_changed =
    between open_c_of_512 begin_100 router_to_consumer_of_q ++ (client 1 flow_100_0_10 ∷ client 0 first_half ∷
    client 0 second_half ∷ paired 1 16 first_cut ∷ [])
    ++ cuts 39 487 ++ (paired 1 16 (last_cut 211) ∷ [])

cut_changed_verdict : verdict_of [] cut_changed ≡ Err (58, L8)
unfolding verdict_of
cut_changed_verdict = refl

-- balanced deliveries, the third of which waits for credit
abbrev waiting : List Record
waiting =
    between open_c begin_100 router_to_consumer_of_q ++ joined 2 open_c begin_100 consumer_of_q router_to_consumer_of_q ++ (client 1 flow_100_0_1 ∷
    client 2 flow_100_0_1 ∷ client 0 transfer_0 ∷ paired 1 24 copy_0 ∷ client 0 transfer_1 ∷ paired 2 26 copy_0 ∷
    client 0 transfer_2 ∷ client 2 flow_100_0_1_behind_one ∷ paired 2 28 copy_1 ∷ [])

waiting_verdict : verdict_of [] waiting ≡ Ok (record { records = 31; deliveries = 3; outcomes = 0 })
unfolding verdict_of
waiting_verdict = refl

waiting_kept : diligence_of [] waiting ≡ true
unfolding diligence_of
waiting_kept = refl

-- a consumer that detaches before it decides
abbrev link_end : List Record
link_end =
    between open_c begin_100 router_to_consumer_of_q ++ (client 1 flow_100_0_10 ∷ client 0 transfer_0 ∷ paired 1 16 copy_0 ∷ client 1 detach ∷
    router 1 detach ∷ told 0 L failed_0 ∷ [])

link_end_verdict : verdict_of [] link_end ≡ Ok (record { records = 21; deliveries = 1; outcomes = 1 })
unfolding verdict_of
link_end_verdict = refl

link_end_kept : diligence_of [] link_end ≡ true
unfolding diligence_of
link_end_kept = refl

-- the same outcome told again
abbrev link_end_told_twice : List Record
link_end_told_twice =
    between open_c begin_100 router_to_consumer_of_q ++ (client 1 flow_100_0_10 ∷ client 0 transfer_0 ∷ paired 1 16 copy_0 ∷ client 1 detach ∷
    router 1 detach ∷ told 0 L failed_0 ∷ told 0 L failed_0 ∷ [])

link_end_told_twice_verdict : verdict_of [] link_end_told_twice ≡ Err (21, L11)
unfolding verdict_of
link_end_told_twice_verdict = refl

-- deliveries whose address loses its last consumer
abbrev gone : List Record
gone =
    between open_c begin_100 router_to_consumer_of_q ++ (client 0 transfer_0 ∷ client 0 transfer_1 ∷ client 1 detach ∷ router 1 detach ∷
    told 0 N release_0 ∷ told 0 N release_1 ∷ [])

gone_verdict : verdict_of [] gone ≡ Ok (record { records = 21; deliveries = 0; outcomes = 2 })
unfolding verdict_of
gone_verdict = refl

gone_kept : diligence_of [] gone ≡ true
unfolding diligence_of
gone_kept = refl

-- a consumer that comes afterwards gets neither
abbrev gone_for_good : List Record
gone_for_good =
    between open_c begin_100 router_to_consumer_of_q ++ (client 0 transfer_0 ∷ client 0 transfer_1 ∷ client 1 detach ∷ router 1 detach ∷
    told 0 N release_0 ∷ told 0 N release_1 ∷ opened 2 ∷ client 2 open_c ∷ router 2 router_open ∷ client 2 begin_100 ∷
    router 2 router_begin ∷ client 2 consumer_of_q ∷ router 2 router_to_consumer_of_q ∷ client 2 flow_100_0_10 ∷ [])

gone_for_good_verdict : verdict_of [] gone_for_good ≡ Ok (record { records = 29; deliveries = 0; outcomes = 2 })
unfolding verdict_of
gone_for_good_verdict = refl

gone_for_good_kept : diligence_of [] gone_for_good ≡ true
unfolding diligence_of
gone_for_good_kept = refl

-- a multicast delivery to two of three consumers, of which one has no credit
abbrev copied : List Record
copied =
    joined 0 open_p begin_100 producer_of_news router_to_producer_of_news ++ (router 0 router_flow_250 ∷ opened 1 ∷
    client 1 open_c ∷ router 1 router_open ∷ client 1 begin_100 ∷ router 1 router_begin ∷ client 1 consumer_of_news ∷
    router 1 router_to_consumer_of_news ∷ opened 2 ∷ client 2 open_c ∷ router 2 router_open ∷ client 2 begin_100 ∷
    router 2 router_begin ∷ client 2 consumer_of_news ∷ router 2 router_to_consumer_of_news ∷ opened 3 ∷
    client 3 open_c ∷ router 3 router_open ∷ client 3 begin_100 ∷ router 3 router_begin ∷ client 3 consumer_of_news ∷
    router 3 router_to_consumer_of_news ∷ client 1 flow_100_0_1 ∷ client 2 flow_100_0_1 ∷ client 0 transfer_0 ∷
    paired 1 31 settled_copy_0 ∷ paired 2 31 settled_copy_0 ∷ told 0 M accept_0 ∷ [])

copied_verdict : verdict_of (rule Multicast (codes "news") ∷ []) copied ≡ Ok (record { records = 35; deliveries = 2; outcomes = 1 })
unfolding verdict_of
copied_verdict = refl

copied_kept : diligence_of (rule Multicast (codes "news") ∷ []) copied ≡ true
unfolding diligence_of
copied_kept = refl

-- an outcome of the consumer, settled by it
abbrev decided : List Record
decided =
    between open_c begin_100 router_to_consumer_of_q ++ (client 1 flow_100_0_10 ∷ client 0 transfer_0 ∷ paired 1 16 copy_0 ∷ client 1 accept_0 ∷
    told 0 C accept_0 ∷ [])

decided_verdict : verdict_of [] decided ≡ Ok (record { records = 20; deliveries = 1; outcomes = 1 })
unfolding verdict_of
decided_verdict = refl

decided_kept : diligence_of [] decided ≡ true
unfolding diligence_of
decided_kept = refl

-- the same, settled by the router
abbrev decided_unsettled : List Record
decided_unsettled =
    between open_c begin_100 router_to_consumer_of_q ++ (client 1 flow_100_0_10 ∷ client 0 transfer_0 ∷ paired 1 16 copy_0 ∷
    client 1 accept_0_unsettled ∷ told 0 C accept_0 ∷ router 1 settle_0 ∷ [])

decided_unsettled_verdict : verdict_of [] decided_unsettled ≡ Ok (record { records = 21; deliveries = 1; outcomes = 1 })
unfolding verdict_of
decided_unsettled_verdict = refl

decided_unsettled_kept : diligence_of [] decided_unsettled ≡ true
unfolding diligence_of
decided_unsettled_kept = refl
