-- Captures worked by hand: opens and attaches.
use Rattle.std.specs.Prelude.{◌≡◌, List, [], ◌∷◌, ◌++◌, true, Ok, refl}
use Rattle.capture_form.specs.declared.records.Record.{Record}
use Rattle.pairing_cert.specs.declared.note.Why.TheVariants.{C}
use Rattle.trace_events.proofs.Captures.{opened, client, router, paired, told, lost, verdict_of}
use Rattle.trace_duties.proofs.Captures.{diligence_of}
use Rattle.trace_duties.proofs.Openings.{joined}
use Rattle.trace_duties.proofs.WorkedFrames.{open_p, open_c, open_a_of_511, router_open, close, close_invalid_field, begin_100, router_begin, producer_of_q, producer_of_q_with_unsettled, router_to_producer_of_q, consumer_of_q, router_to_consumer_of_q, consumer_of_any, router_to_consumer_of_dyn_12, router_flow_250, flow_100_0_1, transfer_0, copy_0, accept_0}

-- a whole exchange, with closes
abbrev closed : List Record
closed =
    (opened 0 ∷ opened 1 ∷ client 0 open_p ∷ router 0 router_open ∷ client 1 open_c ∷ router 1 router_open ∷
    client 0 begin_100 ∷ router 0 router_begin ∷ client 1 begin_100 ∷ router 1 router_begin ∷ client 0 producer_of_q ∷
    router 0 router_to_producer_of_q ∷ client 1 consumer_of_q ∷ router 1 router_to_consumer_of_q ∷
    router 0 router_flow_250 ∷ client 1 flow_100_0_1 ∷ client 0 transfer_0 ∷ paired 1 16 copy_0 ∷ client 1 accept_0 ∷
    told 0 C accept_0 ∷ client 1 close ∷ router 1 close ∷ client 0 close ∷ router 0 close ∷ lost 1 ∷ lost 0 ∷ [])

closed_verdict : verdict_of [] closed ≡ Ok (record { records = 26; deliveries = 1; outcomes = 1 })
unfolding verdict_of
closed_verdict = refl

closed_kept : diligence_of [] closed ≡ true
unfolding diligence_of
closed_kept = refl

-- an open whose frames are too small
abbrev refused_open : List Record
refused_open =
    (opened 0 ∷ client 0 open_a_of_511 ∷ router 0 router_open ∷ router 0 close_invalid_field ∷ [])

refused_open_verdict : verdict_of [] refused_open ≡ Ok (record { records = 4; deliveries = 0; outcomes = 0 })
unfolding verdict_of
refused_open_verdict = refl

refused_open_kept : diligence_of [] refused_open ≡ true
unfolding diligence_of
refused_open_kept = refl

-- an attach with an unsettled map and capabilities
abbrev passed_over_fields : List Record
passed_over_fields =
    joined 0 open_p begin_100 producer_of_q_with_unsettled router_to_producer_of_q ++ joined 1 open_c begin_100 consumer_of_q router_to_consumer_of_q ++ (router 0 router_flow_250 ∷ [])

passed_over_fields_verdict : verdict_of [] passed_over_fields ≡ Ok (record { records = 15; deliveries = 0; outcomes = 0 })
unfolding verdict_of
passed_over_fields_verdict = refl

passed_over_fields_kept : diligence_of [] passed_over_fields ≡ true
unfolding diligence_of
passed_over_fields_kept = refl

-- a consumer that asks for an address of its own
abbrev dynamic_source : List Record
dynamic_source =
    joined 0 open_p begin_100 producer_of_q router_to_producer_of_q ++ joined 1 open_c begin_100 consumer_of_any router_to_consumer_of_dyn_12

dynamic_source_verdict : verdict_of [] dynamic_source ≡ Ok (record { records = 14; deliveries = 0; outcomes = 0 })
unfolding verdict_of
dynamic_source_verdict = refl

dynamic_source_kept : diligence_of [] dynamic_source ≡ true
unfolding diligence_of
dynamic_source_kept = refl
