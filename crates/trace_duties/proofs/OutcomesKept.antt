-- Captures in which outcomes are told and settled as a router owes them.
use Rattle.std.specs.Prelude.{◌≡◌, [], ◌∷◌, ◌++◌, replicate, codes, true, None, refl}
use Rattle.pairing_cert.specs.declared.note.Why.TheVariants.{C, Z, L}
use Rattle.trace_events.proofs.Captures.{opened, client, router, paired, told}
use Rattle.trace_duties.proofs.FirstNeglected.{duties_of, hex}
use Rattle.trace_duties.proofs.SharedFrames.{router_open, client_begin, router_begin, producer_attach, producer_attached, consumer_open, consumer_attach, consumer_attached, credit_given, credit_of_1, credit_of_10, delivery, second_delivery, carried, second_carried, accepted, accepted_unsettled, settles, closed, ended, producer_and_consumer_with_credit, producer_attached_alone}

-- a range from 4294967295 to 0 covers 0
covers_over_wrap : duties_of [] (producer_and_consumer_with_credit ++ (
    client 1 credit_of_10
    ∷ client 0 delivery
    ∷ paired 1 16 carried
    ∷ client 1 (hex (codes "0000001A02000000005315C00D054170FFFFFFFF434100532445"))
    ∷ told 0 C accepted
    ∷ [])) ≡ (None, true)
unfolding duties_of
covers_over_wrap = refl

-- a range of 2147483648 ids, whose ends are 2147483647 apart, covers
covers_0_to_2147483647 : duties_of [] (producer_and_consumer_with_credit ++ (
    client 1 credit_of_10
    ∷ client 0 delivery
    ∷ paired 1 16 carried
    ∷ client 1 (hex (codes "0000001A02000000005315C00D054143707FFFFFFF4100532445"))
    ∷ told 0 C accepted
    ∷ [])) ≡ (None, true)
unfolding duties_of
covers_0_to_2147483647 = refl

-- the id of a delivery that was told may be used again
incoming_id_free_when_told : duties_of [] (producer_and_consumer_with_credit ++ (
    client 1 credit_of_10
    ∷ client 0 delivery
    ∷ paired 1 16 carried
    ∷ client 1 accepted
    ∷ told 0 C accepted
    ∷ client 0 delivery
    ∷ paired 1 20 second_carried
    ∷ [])) ≡ (None, true)
unfolding duties_of
incoming_id_free_when_told = refl

-- the id of a delivery whose link is over may be used again
incoming_id_free_with_dead_link : duties_of [] (producer_and_consumer_with_credit ++ (
    client 0 delivery
    ∷ client 0 closed
    ∷ router 0 closed
    ∷ client 0 producer_attach
    ∷ router 0 producer_attached
    ∷ router 0 (hex (codes "0000001F02000000005313C012075201700000080043707FFFFFFF434352FA"))
    ∷ client 0 delivery
    ∷ client 1 (hex (codes "0000001802000000005313C00B0743526443526443435202"))
    ∷ paired 1 15 carried
    ∷ paired 1 21 second_carried
    ∷ [])) ≡ (None, true)
unfolding duties_of
incoming_id_free_with_dead_link = refl

-- the id of a settled delivery that was sent may be used again
incoming_id_free_when_settled : duties_of [] (producer_and_consumer_with_credit ++ (
    client 1 (hex (codes "0000001802000000005313C00B0743526443526443435202"))
    ∷ client 0 (hex (codes "0000001C02000000005314C008054343A001314341005377A1026869"))
    ∷ paired 1 16 carried
    ∷ client 0 delivery
    ∷ paired 1 18 second_carried
    ∷ [])) ≡ (None, true)
unfolding duties_of
incoming_id_free_when_settled = refl

-- the id of an aborted delivery may be used again
incoming_id_free_when_aborted : duties_of [] (producer_and_consumer_with_credit ++ (
    client 1 credit_of_1
    ∷ client 0 (hex (codes "0000002102000000005314C00D0A4343A0013143424040404041005377A1026869"))
    ∷ client 0 delivery
    ∷ paired 1 17 carried
    ∷ [])) ≡ (None, true)
unfolding duties_of
incoming_id_free_when_aborted = refl

-- an outcome is told of the undecided delivery of its id, not of an earlier settled one
outcome_of_id_used_again_behind_settled : duties_of [] (producer_and_consumer_with_credit ++ (
    client 1 (hex (codes "0000001802000000005313C00B0743526443526443435202"))
    ∷ client 0 (hex (codes "0000001C02000000005314C008054343A001314341005377A1026869"))
    ∷ paired 1 16 carried
    ∷ client 0 delivery
    ∷ paired 1 18 second_carried
    ∷ client 1 (hex (codes "0000001702000000005315C00A05414352014100532445"))
    ∷ told 0 C accepted
    ∷ [])) ≡ (None, true)
unfolding duties_of
outcome_of_id_used_again_behind_settled = refl

-- an outcome is told of the undecided delivery of its id, not again of one that was told
outcome_of_id_used_again_behind_told : duties_of [] (producer_and_consumer_with_credit ++ (
    client 1 credit_of_10
    ∷ client 0 delivery
    ∷ paired 1 16 carried
    ∷ client 1 accepted
    ∷ told 0 C accepted
    ∷ client 0 delivery
    ∷ paired 1 20 second_carried
    ∷ client 1 (hex (codes "0000001702000000005315C00A05415201404100532445"))
    ∷ told 0 C accepted
    ∷ [])) ≡ (None, true)
unfolding duties_of
outcome_of_id_used_again_behind_told = refl

-- each session has its own delivery-ids
outgoing_ids_of_two_sessions : duties_of [] (producer_and_consumer_with_credit ++ (
    client 1 credit_of_1
    ∷ client 0 delivery
    ∷ paired 1 16 carried
    ∷ client 1 (hex (codes "0000001402000001005311C00704404352645264"))
    ∷ router 1 (hex (codes "0000002102000001005311C01405600001437000000800707FFFFFFF70000003FF"))
    ∷ client 1 (hex (codes "0000001E02000001005312C01106A1017543414040005328C00401A10171"))
    ∷ router 1 (hex (codes "0000002702000001005312C01A0AA10175434250025000005328C00401A1017100532945404043"))
    ∷ client 1 (hex (codes "0000001802000001005313C00B0743526443526443435201"))
    ∷ client 0 second_delivery
    ∷ paired 1 23 (hex (codes "0000002002000001005314C00C064343A00400000000434242005377A1026869"))
    ∷ [])) ≡ (None, true)
unfolding duties_of
outgoing_ids_of_two_sessions = refl

-- a producer's disposition that came before the delivery settles nothing
settled_before_delivery : duties_of [] (producer_and_consumer_with_credit ++ (
    client 1 credit_of_1
    ∷ client 0 settles
    ∷ client 0 delivery
    ∷ paired 1 17 carried
    ∷ client 1 accepted
    ∷ told 0 C accepted
    ∷ [])) ≡ (None, true)
unfolding duties_of
settled_before_delivery = refl

-- a settled disposition whose state is not terminal decides without state
decision_by_settled_received : duties_of [] (producer_and_consumer_with_credit ++ (
    client 1 credit_of_10
    ∷ client 0 delivery
    ∷ paired 1 16 carried
    ∷ client 1 (hex (codes "0000001602000000005315C009054143404100532345"))
    ∷ told 0 C (hex (codes "0000001202000000005315C0050441434041"))
    ∷ [])) ≡ (None, true)
unfolding duties_of
decision_by_settled_received = refl

-- whether an outcome is too long goes by the producer's frame limit, not the consumer's
outcome_length_by_producers_limit : duties_of [] (producer_attached_alone ++ (
    opened 1
    ∷ client 1 (hex (codes "0000001702000000005310C00A03A10163407000000200"))
    ∷ router 1 router_open
    ∷ client 1 client_begin
    ∷ router 1 router_begin
    ∷ client 1 consumer_attach
    ∷ router 1 consumer_attached
    ∷ router 0 credit_given
    ∷ client 1 credit_of_1
    ∷ client 0 delivery
    ∷ paired 1 16 carried
    ∷ client 1 (hex (codes "0000025802000000005315D0000002480000000541434041005325D0000002380000000100531DD00000022C00000002A30178B100000220") ++ replicate 544 121)
    ∷ told 0 C (hex (codes "0000025802000000005315D0000002480000000541434041005325D0000002380000000100531DD00000022C00000002A30178B100000220") ++ replicate 544 121)
    ∷ [])) ≡ (None, true)
unfolding duties_of
outcome_length_by_producers_limit = refl

-- a delivery whose consumer's link ended undecided is told as modified, delivery-failed
outcome_failed : duties_of [] (producer_and_consumer_with_credit ++ (
    client 1 credit_of_10
    ∷ client 0 delivery
    ∷ paired 1 16 carried
    ∷ client 1 closed
    ∷ router 1 closed
    ∷ told 0 L (hex (codes "0000001902000000005315C00C0541434041005327C0020141"))
    ∷ [])) ≡ (None, true)
unfolding duties_of
outcome_failed = refl

-- an outcome whose frame is one octet past the producer's limit is shortened
outcome_shortened_at_513 : duties_of [] (
    opened 0
    ∷ client 0 (hex (codes "0000001702000000005310C00A03A10170407000000200"))
    ∷ router 0 router_open
    ∷ client 0 client_begin
    ∷ router 0 router_begin
    ∷ client 0 producer_attach
    ∷ router 0 producer_attached
    ∷ opened 1
    ∷ client 1 consumer_open
    ∷ router 1 router_open
    ∷ client 1 client_begin
    ∷ router 1 router_begin
    ∷ client 1 consumer_attach
    ∷ router 1 consumer_attached
    ∷ router 0 credit_given
    ∷ client 1 credit_of_1
    ∷ client 0 delivery
    ∷ paired 1 16 carried
    ∷ client 1 (hex (codes "0000020102000000005315D0000001F10000000541434041005325D0000001E10000000100531DD0000001D500000002A30178B1000001C9") ++ replicate 457 121)
    ∷ told 0 Z (hex (codes "0000001602000000005315C009054143404100532545"))
    ∷ []) ≡ (None, true)
unfolding duties_of
outcome_shortened_at_513 = refl

-- a settled disposition decides without state
decision_without_state : duties_of [] (producer_and_consumer_with_credit ++ (
    client 1 credit_of_10
    ∷ client 0 delivery
    ∷ paired 1 16 carried
    ∷ client 1 (hex (codes "0000001202000000005315C0050441434041"))
    ∷ told 0 C (hex (codes "0000001202000000005315C0050441434041"))
    ∷ [])) ≡ (None, true)
unfolding duties_of
decision_without_state = refl

-- a delivery that was decided and told is settled with its consumer
settling : duties_of [] (producer_and_consumer_with_credit ++ (
    client 1 credit_of_10
    ∷ client 0 delivery
    ∷ paired 1 16 carried
    ∷ client 1 accepted_unsettled
    ∷ told 0 C accepted
    ∷ router 1 settles
    ∷ [])) ≡ (None, true)
unfolding duties_of
settling = refl

-- what a settled delivery became is settled with its consumer though nothing is told
settling_of_settled : duties_of [] (producer_and_consumer_with_credit ++ (
    client 1 credit_of_1
    ∷ client 0 (hex (codes "0000001C02000000005314C008054343A001314341005377A1026869"))
    ∷ paired 1 16 carried
    ∷ client 1 accepted_unsettled
    ∷ router 1 settles
    ∷ [])) ≡ (None, true)
unfolding duties_of
settling_of_settled = refl

-- a delivery is settled with its consumer where the producer's link is over
settling_behind_producer : duties_of [] (producer_and_consumer_with_credit ++ (
    client 1 credit_of_10
    ∷ client 0 delivery
    ∷ paired 1 16 carried
    ∷ client 0 closed
    ∷ router 0 closed
    ∷ client 1 accepted_unsettled
    ∷ router 1 settles
    ∷ [])) ≡ (None, true)
unfolding duties_of
settling_behind_producer = refl

-- an outcome of the same number on the same session settles nothing
settling_beside_outcome : duties_of [] (producer_and_consumer_with_credit ++ (
    client 0 (hex (codes "0000001F02000000005312C01206A101755201414040005328C00401A10171"))
    ∷ router 0 (hex (codes "0000002802000000005312C01B0AA1017552014250025000005328C00401A1017100532945404043"))
    ∷ client 0 (hex (codes "0000001902000000005313C00C074352644352645201435201"))
    ∷ client 0 delivery
    ∷ paired 0 18 (hex (codes "0000002102000000005314C00D06520143A00400000000434242005377A1026869"))
    ∷ client 0 accepted_unsettled
    ∷ told 0 C accepted
    ∷ router 0 settles
    ∷ [])) ≡ (None, true)
unfolding duties_of
settling_beside_outcome = refl

-- what a consumer settled before the delivery came does not count
settling_consumer_settled_before : duties_of [] (producer_and_consumer_with_credit ++ (
    client 1 credit_of_1
    ∷ client 1 accepted
    ∷ client 0 delivery
    ∷ paired 1 17 carried
    ∷ client 1 accepted_unsettled
    ∷ told 0 C accepted
    ∷ router 1 settles
    ∷ [])) ≡ (None, true)
unfolding duties_of
settling_consumer_settled_before = refl

-- a settling of an earlier session of the channel does not count in the next
settling_in_second_session : duties_of [] (producer_and_consumer_with_credit ++ (
    client 1 credit_of_10
    ∷ client 0 delivery
    ∷ paired 1 16 carried
    ∷ client 1 accepted_unsettled
    ∷ told 0 C accepted
    ∷ router 1 settles
    ∷ client 1 ended
    ∷ router 1 ended
    ∷ client 1 client_begin
    ∷ router 1 router_begin
    ∷ client 1 consumer_attach
    ∷ router 1 consumer_attached
    ∷ client 1 credit_of_1
    ∷ client 0 second_delivery
    ∷ paired 1 28 carried
    ∷ client 1 accepted_unsettled
    ∷ told 0 C (hex (codes "0000001702000000005315C00A05415201404100532445"))
    ∷ router 1 settles
    ∷ [])) ≡ (None, true)
unfolding duties_of
settling_in_second_session = refl
