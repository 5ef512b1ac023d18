-- Captures in which a router answers clients as it owes, and keeps all its other duties.
use Rattle.std.specs.Prelude.{◌≡◌, [], ◌∷◌, ◌++◌, replicate, codes, true, None, refl}
use Rattle.pairing_cert.specs.declared.note.Why.TheVariants.{C}
use Rattle.capture_form.specs.declared.rules.Distribution.TheVariants.{Closest, Balanced, Multicast}
use Rattle.trace_events.proofs.Captures.{rule, opened, broken, client, router, paired, told}
use Rattle.trace_duties.proofs.FirstNeglected.{duties_of, hex}
use Rattle.trace_duties.proofs.SharedFrames.{producer_open, router_open, client_begin, router_begin, producer_attach, producer_attached, consumer_open, consumer_attach, consumer_attached, credit_given, delivery, second_delivery, carried, second_carried, accepted, closed, ended, shut, producer_and_consumer_with_credit, producer_attached_alone, producer_begun, producer_opened}

-- behind detaches in both directions a handle awaits nothing and is attached again
attach_behind_detaches : duties_of [] (producer_attached_alone ++ (
    client 0 closed
    ∷ router 0 closed
    ∷ client 0 producer_attach
    ∷ router 0 producer_attached
    ∷ [])) ≡ (None, true)
unfolding duties_of
attach_behind_detaches = refl

-- an end of an earlier session leaves the new one of its channel free
attach_in_second_session : duties_of [] (producer_begun ++ (
    client 0 ended
    ∷ router 0 ended
    ∷ client 0 client_begin
    ∷ router 0 router_begin
    ∷ client 0 producer_attach
    ∷ router 0 producer_attached
    ∷ [])) ≡ (None, true)
unfolding duties_of
attach_in_second_session = refl

-- an attach of a handle that awaits its detach is heard, and closes the connection
attach_of_awaiting_handle : duties_of [] (producer_attached_alone ++ (
    client 0 (hex (codes "0000001702000000005314C00A09434340404040404041"))
    ∷ router 0 (hex (codes "0000002C02000000005316C01F03434100531DC01701A314616D71703A6E6F742D696D706C656D656E746564"))
    ∷ client 0 producer_attach
    ∷ router 0 (hex (codes "0000003002000000005318C0230100531DC01D01A31A616D71703A73657373696F6E3A68616E646C652D696E2D757365"))
    ∷ [])) ≡ (None, true)
unfolding duties_of
attach_of_awaiting_handle = refl

-- behind ends in both directions a channel awaits nothing and begins again
begin_behind_ends : duties_of [] (producer_begun ++ (
    client 0 ended
    ∷ router 0 ended
    ∷ client 0 client_begin
    ∷ router 0 router_begin
    ∷ [])) ≡ (None, true)
unfolding duties_of
begin_behind_ends = refl

-- broken octets are answered by a close with framing-error
answer_broken : duties_of [] (producer_opened ++ (
    broken 0
    ∷ router 0 (hex (codes "0000003302000000005318C0260100531DC02001A31D616D71703A636F6E6E656374696F6E3A6672616D696E672D6572726F72"))
    ∷ [])) ≡ (None, true)
unfolding duties_of
answer_broken = refl

-- broken octets before the open are answered by an open and a close
answer_broken_before_open : duties_of [] (
    opened 0
    ∷ broken 0
    ∷ router 0 router_open
    ∷ router 0 (hex (codes "0000003302000000005318C0260100531DC02001A31D616D71703A636F6E6E656374696F6E3A6672616D696E672D6572726F72"))
    ∷ []) ≡ (None, true)
unfolding duties_of
answer_broken_before_open = refl

-- broken octets behind the router's close are not answered
answer_broken_behind_close : duties_of [] (producer_opened ++ (
    client 0 (hex (codes "78"))
    ∷ router 0 (hex (codes "0000003302000000005318C0260100531DC02001A31D616D71703A636F6E6E656374696F6E3A6672616D696E672D6572726F72"))
    ∷ broken 0
    ∷ [])) ≡ (None, true)
unfolding duties_of
answer_broken_behind_close = refl

-- a close is heard on a channel that awaits its end
heard_close_on_awaiting_channel : duties_of [] (producer_begun ++ (
    client 0 (hex (codes "0000001602000000005313C009054352644352645205"))
    ∷ router 0 (hex (codes "0000003402000000005317C0270100531DC02101A31E616D71703A73657373696F6E3A756E61747461636865642D68616E646C65"))
    ∷ client 0 shut
    ∷ router 0 shut
    ∷ [])) ≡ (None, true)
unfolding duties_of
heard_close_on_awaiting_channel = refl

-- closest: the number of the transfer that began a link's last delivery counts, not that of a later part
pick_closest_by_first_part : duties_of (rule Closest (codes "q") ∷ []) (producer_attached_alone ++ (
    opened 1
    ∷ client 1 (hex (codes "0000001702000000005310C00A03A10163407000000200"))
    ∷ router 1 router_open
    ∷ client 1 (hex (codes "0000001402000000005311C00704404352015264"))
    ∷ router 1 router_begin
    ∷ client 1 consumer_attach
    ∷ router 1 consumer_attached
    ∷ router 0 credit_given
    ∷ opened 2
    ∷ client 2 consumer_open
    ∷ router 2 router_open
    ∷ client 2 client_begin
    ∷ router 2 router_begin
    ∷ client 2 consumer_attach
    ∷ router 2 consumer_attached
    ∷ client 1 (hex (codes "0000001802000000005313C00B0743520143526443435205"))
    ∷ client 0 (hex (codes "0000039902000000005314C008054343A001314342") ++ replicate 900 120)
    ∷ paired 1 23 (hex (codes "0000020002000000005314C00C064343A00400000000434241") ++ replicate 487 120)
    ∷ client 2 (hex (codes "0000001802000000005313C00B0743526443526443435205"))
    ∷ client 0 second_delivery
    ∷ paired 2 26 carried
    ∷ client 1 (hex (codes "0000001502000000005313C0080452015201435264"))
    ∷ paired 1 23 (hex (codes "000001B102000000005314C00706434040404042") ++ replicate 413 120)
    ∷ client 1 (hex (codes "0000001502000000005313C0080452025205435264"))
    ∷ client 0 (hex (codes "0000001D02000000005314C00905435202A001314342005377A1026869"))
    ∷ paired 1 31 second_carried
    ∷ [])) ≡ (None, true)
unfolding duties_of
pick_closest_by_first_part = refl

-- closest: of a link's deliveries the last counts
pick_closest_by_last_delivery : duties_of (rule Closest (codes "q") ∷ []) (producer_and_consumer_with_credit ++ (
    opened 2
    ∷ client 2 consumer_open
    ∷ router 2 router_open
    ∷ client 2 client_begin
    ∷ router 2 router_begin
    ∷ client 2 consumer_attach
    ∷ router 2 consumer_attached
    ∷ client 1 (hex (codes "0000001802000000005313C00B0743526443526443435209"))
    ∷ client 0 delivery
    ∷ paired 1 23 carried
    ∷ client 2 (hex (codes "0000001802000000005313C00B0743526443526443435209"))
    ∷ client 0 second_delivery
    ∷ paired 2 26 carried
    ∷ client 2 (hex (codes "0000001702000000005313C00A07435264435264434343"))
    ∷ client 0 (hex (codes "0000001D02000000005314C00905435202A001314342005377A1026869"))
    ∷ paired 1 29 second_carried
    ∷ client 2 (hex (codes "0000001802000000005313C00B0743526443526443435209"))
    ∷ client 0 (hex (codes "0000001D02000000005314C00905435203A001314342005377A1026869"))
    ∷ paired 2 32 second_carried
    ∷ [])) ≡ (None, true)
unfolding duties_of
pick_closest_by_last_delivery = refl

-- closest: the link that got its last delivery longest ago gets the next
pick_closest_least_recent : duties_of (rule Closest (codes "q") ∷ []) (producer_and_consumer_with_credit ++ (
    opened 2
    ∷ client 2 consumer_open
    ∷ router 2 router_open
    ∷ client 2 client_begin
    ∷ router 2 router_begin
    ∷ client 2 consumer_attach
    ∷ router 2 consumer_attached
    ∷ client 1 (hex (codes "0000001802000000005313C00B0743526443526443435209"))
    ∷ client 2 (hex (codes "0000001802000000005313C00B0743526443526443435209"))
    ∷ client 0 delivery
    ∷ paired 1 24 carried
    ∷ client 0 second_delivery
    ∷ paired 2 26 carried
    ∷ client 2 accepted
    ∷ told 0 C (hex (codes "0000001702000000005315C00A05415201404100532445"))
    ∷ client 0 (hex (codes "0000001D02000000005314C00905435202A001314342005377A1026869"))
    ∷ paired 1 30 second_carried
    ∷ [])) ≡ (None, true)
unfolding duties_of
pick_closest_least_recent = refl

-- closest: a link that never got a delivery comes first
pick_closest_new_link_first : duties_of (rule Closest (codes "q") ∷ []) (producer_and_consumer_with_credit ++ (
    opened 2
    ∷ client 2 consumer_open
    ∷ router 2 router_open
    ∷ client 2 client_begin
    ∷ router 2 router_begin
    ∷ client 2 consumer_attach
    ∷ router 2 consumer_attached
    ∷ client 1 (hex (codes "0000001802000000005313C00B0743526443526443435209"))
    ∷ client 0 delivery
    ∷ paired 1 23 carried
    ∷ client 2 (hex (codes "0000001802000000005313C00B0743526443526443435209"))
    ∷ client 0 second_delivery
    ∷ paired 2 26 carried
    ∷ [])) ≡ (None, true)
unfolding duties_of
pick_closest_new_link_first = refl

-- a fault on a link is answered by a detach, closed, with its condition
answer_fault_of_link : duties_of [] (producer_and_consumer_with_credit ++ (
    client 0 (hex (codes "0000002002000000005314C00C094343A00131434240404041005377A1026869"))
    ∷ router 0 (hex (codes "0000002C02000000005316C01F03434100531DC01701A314616D71703A6E6F742D696D706C656D656E746564"))
    ∷ [])) ≡ (None, true)
unfolding duties_of
answer_fault_of_link = refl

-- the client's detach of a handle that awaits it is not answered
heard_detach_of_awaiting_handle : duties_of [] (producer_attached_alone ++ (
    client 0 (hex (codes "0000001702000000005314C00A09434340404040404041"))
    ∷ router 0 (hex (codes "0000002C02000000005316C01F03434100531DC01701A314616D71703A6E6F742D696D706C656D656E746564"))
    ∷ client 0 (hex (codes "0000000F02000000005316C0020143"))
    ∷ [])) ≡ (None, true)
unfolding duties_of
heard_detach_of_awaiting_handle = refl

-- a detach is answered by one with the same closed flag, here false
detach_answered_open : duties_of [] (producer_attached_alone ++ (
    client 0 (hex (codes "0000001002000000005316C003024342"))
    ∷ router 0 (hex (codes "0000001002000000005316C003024342"))
    ∷ [])) ≡ (None, true)
unfolding duties_of
detach_answered_open = refl

-- a consumer that asks for an address of its own gets dyn/ and the number of its attach
dynamic_source : duties_of [] (producer_begun ++ (
    client 0 (hex (codes "0000002002000000005312C01306A1017243414040005328C006054040404041"))
    ∷ router 0 (hex (codes "0000002F02000000005312C0220AA10172434250025000005328C00C05A10564796E2F354040404100532945404043"))
    ∷ [])) ≡ (None, true)
unfolding duties_of
dynamic_source = refl

-- a dynamic source whose address is no text gets a made-up one
dynamic_source_beside_number : duties_of [] (producer_begun ++ (
    client 0 (hex (codes "0000002102000000005312C01406A1017243414040005328C00705520140404041"))
    ∷ router 0 (hex (codes "0000002F02000000005312C0220AA10172434250025000005328C00C05A10564796E2F354040404100532945404043"))
    ∷ [])) ≡ (None, true)
unfolding duties_of
dynamic_source_beside_number = refl

-- where the rules make it multicast, the consumer gets the mode that it asks for, too
dynamic_source_multicast : duties_of (rule Multicast (codes "dyn") ∷ []) (producer_begun ++ (
    client 0 (hex (codes "0000002002000000005312C01306A1017243414040005328C006054040404041"))
    ∷ router 0 (hex (codes "0000002F02000000005312C0220AA10172434250025000005328C00C05A10564796E2F354040404100532945404043"))
    ∷ [])) ≡ (None, true)
unfolding duties_of
dynamic_source_multicast = refl

-- a flow with echo is answered by the numbers of the consumer's link
answer_echo_of_consumer : duties_of [] (producer_and_consumer_with_credit ++ (
    client 1 (hex (codes "0000001B02000000005313C00E0A43526443526443435205404041"))
    ∷ router 1 (hex (codes "0000001E02000000005313C0110743700000080043707FFFFFFF43435205"))
    ∷ [])) ≡ (None, true)
unfolding duties_of
answer_echo_of_consumer = refl

-- a flow with echo is answered by the numbers of the producer's link
answer_echo_of_producer : duties_of [] (producer_and_consumer_with_credit ++ (
    client 0 delivery
    ∷ client 0 (hex (codes "0000001B02000000005313C00E0A43526452015264434040404041"))
    ∷ router 0 (hex (codes "0000002002000000005313C013075201700000080043707FFFFFFF43520152F9"))
    ∷ [])) ≡ (None, true)
unfolding duties_of
answer_echo_of_producer = refl

-- on a channel that awaits its end an echo is not answered
answer_echo_on_awaiting_channel : duties_of [] (producer_begun ++ (
    client 0 (hex (codes "0000001602000000005313C009054352644352645205"))
    ∷ router 0 (hex (codes "0000003402000000005317C0270100531DC02101A31E616D71703A73657373696F6E3A756E61747461636865642D68616E646C65"))
    ∷ client 0 (hex (codes "0000001A02000000005313C00D0A435264435264434040404041"))
    ∷ [])) ≡ (None, true)
unfolding duties_of
answer_echo_on_awaiting_channel = refl

-- a flow with drain and echo is answered by the numbers and then by the drain answer
answer_echo_while_draining : duties_of [] (producer_and_consumer_with_credit ++ (
    client 1 (hex (codes "0000001B02000000005313C00E0A43526443526443435205404141"))
    ∷ router 1 (hex (codes "0000002002000000005313C0130943700000080043707FFFFFFF434352054041"))
    ∷ router 1 (hex (codes "0000002002000000005313C0130943700000080043707FFFFFFF435205434041"))
    ∷ [])) ≡ (None, true)
unfolding duties_of
answer_echo_while_draining = refl

-- a flow with echo but no handle is answered by the session's numbers
answer_echo_of_session : duties_of [] (producer_begun ++ (
    client 0 (hex (codes "0000001A02000000005313C00D0A435264435264404040404041"))
    ∷ router 0 (hex (codes "0000001A02000000005313C00D0443700000080043707FFFFFFF"))
    ∷ [])) ≡ (None, true)
unfolding duties_of
answer_echo_of_session = refl

-- an end is answered by an end
end_answered : duties_of [] (producer_begun ++ (
    client 0 ended
    ∷ router 0 ended
    ∷ [])) ≡ (None, true)
unfolding duties_of
end_answered = refl

-- a flow of a handle that awaits its detach is passed over
heard_flow_of_awaiting_handle : duties_of [] (producer_attached_alone ++ (
    client 0 (hex (codes "0000001702000000005314C00A09434340404040404041"))
    ∷ router 0 (hex (codes "0000002C02000000005316C01F03434100531DC01701A314616D71703A6E6F742D696D706C656D656E746564"))
    ∷ client 0 (hex (codes "0000001502000000005313C0080543526443526443"))
    ∷ [])) ≡ (None, true)
unfolding duties_of
heard_flow_of_awaiting_handle = refl

-- a frame without body is passed over
heard_empty_frame : duties_of [] (producer_opened ++ (
    client 0 (hex (codes "0000000802000000"))
    ∷ [])) ≡ (None, true)
unfolding duties_of
heard_empty_frame = refl

-- octets that are no performative are passed over on a channel that awaits its end
heard_garbage_on_awaiting_channel : duties_of [] (producer_begun ++ (
    client 0 (hex (codes "0000001602000000005313C009054352644352645205"))
    ∷ router 0 (hex (codes "0000003402000000005317C0270100531DC02101A31E616D71703A73657373696F6E3A756E61747461636865642D68616E646C65"))
    ∷ client 0 (hex (codes "00000009020000003F"))
    ∷ [])) ≡ (None, true)
unfolding duties_of
heard_garbage_on_awaiting_channel = refl

-- the longest rule that fits counts, where it stands first: a producer of multicast gets credit though there is no consumer
rule_longest_first : duties_of (rule Multicast (codes "q/a") ∷ rule Balanced (codes "q") ∷ []) (
    opened 0
    ∷ client 0 producer_open
    ∷ router 0 router_open
    ∷ client 0 client_begin
    ∷ router 0 router_begin
    ∷ client 0 (hex (codes "0000002402000000005312C0170AA101734342404040005329C00601A103712F61404043"))
    ∷ router 0 (hex (codes "0000003202000000005312C0250BA1017343415002500000532845005329C00601A103712F61404040800000000001000000"))
    ∷ router 0 credit_given
    ∷ []) ≡ (None, true)
unfolding duties_of
rule_longest_first = refl

-- octets that are no frame are heard though a channel awaits its end
heard_octets_on_awaiting_channel : duties_of [] (producer_begun ++ (
    client 0 (hex (codes "0000001602000000005313C009054352644352645205"))
    ∷ router 0 (hex (codes "0000003402000000005317C0270100531DC02101A31E616D71703A73657373696F6E3A756E61747461636865642D68616E646C65"))
    ∷ client 0 (hex (codes "78"))
    ∷ router 0 (hex (codes "0000003302000000005318C0260100531DC02001A31D616D71703A636F6E6E656374696F6E3A6672616D696E672D6572726F72"))
    ∷ [])) ≡ (None, true)
unfolding duties_of
heard_octets_on_awaiting_channel = refl

-- an open is heard on a channel that awaits its end
heard_open_on_awaiting_channel : duties_of [] (producer_begun ++ (
    client 0 (hex (codes "0000001602000000005313C009054352644352645205"))
    ∷ router 0 (hex (codes "0000003402000000005317C0270100531DC02101A31E616D71703A73657373696F6E3A756E61747461636865642D68616E646C65"))
    ∷ client 0 producer_open
    ∷ router 0 (hex (codes "0000002602000000005318C0190100531DC01301A310616D71703A6E6F742D616C6C6F776564"))
    ∷ [])) ≡ (None, true)
unfolding duties_of
heard_open_on_awaiting_channel = refl

-- a flow of a handle that awaits its detach is not answered where it asks for no echo
heard_flow_behind_detach : duties_of [] (producer_and_consumer_with_credit ++ (
    client 0 (hex (codes "0000002002000000005314C00C094343A00131434240404041005377A1026869"))
    ∷ router 0 (hex (codes "0000002C02000000005316C01F03434100531DC01701A314616D71703A6E6F742D696D706C656D656E746564"))
    ∷ client 0 (hex (codes "0000001602000000005313C009054352645201526443"))
    ∷ [])) ≡ (None, true)
unfolding duties_of
heard_flow_behind_detach = refl

-- the rule q fits the address q.a
rule_fits_with_dot : duties_of (rule Multicast (codes "q") ∷ []) (
    opened 0
    ∷ client 0 producer_open
    ∷ router 0 router_open
    ∷ client 0 client_begin
    ∷ router 0 router_begin
    ∷ client 0 (hex (codes "0000002402000000005312C0170AA101734342404040005329C00601A103712E61404043"))
    ∷ router 0 (hex (codes "0000003202000000005312C0250BA1017343415002500000532845005329C00601A103712E61404040800000000001000000"))
    ∷ router 0 credit_given
    ∷ []) ≡ (None, true)
unfolding duties_of
rule_fits_with_dot = refl

-- a flow with echo of a handle that awaits its detach is answered by the session's numbers
answer_echo_of_awaiting_handle : duties_of [] (producer_attached_alone ++ (
    client 0 (hex (codes "0000001702000000005314C00A09434340404040404041"))
    ∷ router 0 (hex (codes "0000002C02000000005316C01F03434100531DC01701A314616D71703A6E6F742D696D706C656D656E746564"))
    ∷ client 0 (hex (codes "0000001A02000000005313C00D0A435264435264434040404041"))
    ∷ router 0 (hex (codes "0000001B02000000005313C00E045201700000080043707FFFFFFF"))
    ∷ [])) ≡ (None, true)
unfolding duties_of
answer_echo_of_awaiting_handle = refl

-- a transfer of a handle that awaits its detach is passed over
heard_transfer_of_awaiting_handle : duties_of [] (producer_attached_alone ++ (
    client 0 (hex (codes "0000001702000000005314C00A09434340404040404041"))
    ∷ router 0 (hex (codes "0000002C02000000005316C01F03434100531DC01701A314616D71703A6E6F742D696D706C656D656E746564"))
    ∷ client 0 (hex (codes "0000001102000000005314C00402435201"))
    ∷ [])) ≡ (None, true)
unfolding duties_of
heard_transfer_of_awaiting_handle = refl
