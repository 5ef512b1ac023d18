-- Captures with a fault of a client's frame, each answered as it is to be.
use Rattle.std.specs.Prelude.{◌≡◌, [], ◌∷◌, ◌++◌, replicate, codes, true, None, refl}
use Rattle.trace_events.proofs.Captures.{opened, client, router}
use Rattle.trace_duties.proofs.FirstNeglected.{duties_of, hex}
use Rattle.trace_duties.proofs.SharedFrames.{producer_open, router_open, client_begin, router_begin, consumer_open, consumer_attach, consumer_attached, delivery, ended, shut, producer_and_consumer_with_credit, producer_attached_alone, producer_begun, producer_opened}

-- an address that is a symbol is refused as an invalid field
fault_address_is_symbol : duties_of [] (producer_begun ++ (
    client 0 (hex (codes "0000001E02000000005312C01106A1017343414040005328C00401A30171"))
    ∷ router 0 (hex (codes "0000001A02000000005312C00D0AA10173434240404040404043"))
    ∷ router 0 (hex (codes "0000002A02000000005316C01D03434100531DC01501A312616D71703A696E76616C69642D6669656C64"))
    ∷ [])) ≡ (None, true)
unfolding duties_of
fault_address_is_symbol = refl

-- a begin on channel 256 with a remote-channel: the channel is tested first
fault_channel_before_remote_channel : duties_of [] (producer_opened ++ (
    client 0 (hex (codes "0000001602000100005311C009046000004352645264"))
    ∷ router 0 (hex (codes "0000003302000000005318C0260100531DC02001A31D616D71703A636F6E6E656374696F6E3A6672616D696E672D6572726F72"))
    ∷ [])) ≡ (None, true)
unfolding duties_of
fault_channel_before_remote_channel = refl

-- a close may come before the open: an open and a close answer it
fault_close_before_open : duties_of [] (
    opened 0
    ∷ client 0 shut
    ∷ router 0 router_open
    ∷ router 0 shut
    ∷ []) ≡ (None, true)
unfolding duties_of
fault_close_before_open = refl

-- a coordinator is refused as not implemented
fault_coordinator : duties_of [] (producer_begun ++ (
    client 0 (hex (codes "0000001D02000000005312C0100AA10173434240404000533045404043"))
    ∷ router 0 (hex (codes "0000001302000000005312C00603A101734341"))
    ∷ router 0 (hex (codes "0000002C02000000005316C01F03434100531DC01701A314616D71703A6E6F742D696D706C656D656E746564"))
    ∷ [])) ≡ (None, true)
unfolding duties_of
fault_coordinator = refl

-- a coordinator without initial-delivery-count: the count is tested first
fault_count_before_coordinator : duties_of [] (producer_begun ++ (
    client 0 (hex (codes "0000001A02000000005312C00D07A10173434240404000533045"))
    ∷ router 0 (hex (codes "0000001302000000005312C00603A101734341"))
    ∷ router 0 (hex (codes "0000002A02000000005316C01D03434100531DC01501A312616D71703A696E76616C69642D6669656C64"))
    ∷ [])) ≡ (None, true)
unfolding duties_of
fault_count_before_coordinator = refl

-- a first transfer without delivery-id detaches the link
fault_first_transfer_without_id : duties_of [] (producer_and_consumer_with_credit ++ (
    client 0 (hex (codes "0000000F02000000005314C0020143"))
    ∷ router 0 (hex (codes "0000002A02000000005316C01D03434100531DC01501A312616D71703A696E76616C69642D6669656C64"))
    ∷ [])) ≡ (None, true)
unfolding duties_of
fault_first_transfer_without_id = refl

-- a flow before the open closes the connection
fault_flow_before_open : duties_of [] (
    opened 0
    ∷ client 0 (hex (codes "0000001402000000005313C00704435264435264"))
    ∷ router 0 router_open
    ∷ router 0 (hex (codes "0000002602000000005318C0190100531DC01301A310616D71703A6E6F742D616C6C6F776564"))
    ∷ []) ≡ (None, true)
unfolding duties_of
fault_flow_before_open = refl

-- octets that are no performative are a decode-error also before the open
fault_garbage_before_open : duties_of [] (
    opened 0
    ∷ client 0 (hex (codes "00000009020000003F"))
    ∷ router 0 router_open
    ∷ router 0 (hex (codes "0000002702000000005318C01A0100531DC01401A311616D71703A6465636F64652D6572726F72"))
    ∷ []) ≡ (None, true)
unfolding duties_of
fault_garbage_before_open = refl

-- an attach of handle 1024 without session: the session is tested first
fault_session_before_handle : duties_of [] (producer_opened ++ (
    client 0 (hex (codes "0000002602000000005312C0190AA10173700000040042404040005329C00401A10171404043"))
    ∷ router 0 (hex (codes "0000002602000000005318C0190100531DC01301A310616D71703A6E6F742D616C6C6F776564"))
    ∷ [])) ≡ (None, true)
unfolding duties_of
fault_session_before_handle = refl

-- a delivery whose id is in use, without credit: the id is tested first
fault_id_before_credit : duties_of [] (producer_and_consumer_with_credit ++ (
    client 0 (hex (codes "0000002702000000005312C01A0AA10174520142404040005329C00801A1056F74686572404043"))
    ∷ router 0 (hex (codes "0000003502000000005312C0280BA101745201415002500000532845005329C00801A1056F74686572404040800000000001000000"))
    ∷ client 0 delivery
    ∷ client 0 (hex (codes "0000001D02000000005314C00905520143A001314342005377A1026869"))
    ∷ router 0 (hex (codes "0000002902000000005316C01C0352014100531DC01301A310616D71703A6E6F742D616C6C6F776564"))
    ∷ [])) ≡ (None, true)
unfolding duties_of
fault_id_before_credit = refl

-- an attach with a long name on a live handle: the handle is tested first
fault_handle_before_name : duties_of [] (producer_attached_alone ++ (
    client 0 (hex (codes "0000012A02000000005312D00000011A0000000AB100000100") ++ replicate 256 115 ++ hex (codes "4342404040005329C00401A10171404043"))
    ∷ router 0 (hex (codes "0000003002000000005318C0230100531DC01D01A31A616D71703A73657373696F6E3A68616E646C652D696E2D757365"))
    ∷ [])) ≡ (None, true)
unfolding duties_of
fault_handle_before_name = refl

-- an attach with a long name and no initial-delivery-count: the name is tested first
fault_name_before_count : duties_of [] (producer_begun ++ (
    client 0 (hex (codes "0000012702000000005312D00000011700000007B100000100") ++ replicate 256 115 ++ hex (codes "4342404040005329C00401A10171"))
    ∷ router 0 (hex (codes "0000003202000000005317C0250100531DC01F01A31C616D71703A7265736F757263652D6C696D69742D6578636565646564"))
    ∷ [])) ≡ (None, true)
unfolding duties_of
fault_name_before_count = refl

-- an address that is a long symbol: its type is tested first
fault_type_of_address_before_length : duties_of [] (producer_begun ++ (
    client 0 (hex (codes "000000BE02000000005312C0B106A1017343414040005328C0A401A3A1") ++ replicate 161 113)
    ∷ router 0 (hex (codes "0000001A02000000005312C00D0AA10173434240404040404043"))
    ∷ router 0 (hex (codes "0000002A02000000005316C01D03434100531DC01501A312616D71703A696E76616C69642D6669656C64"))
    ∷ [])) ≡ (None, true)
unfolding duties_of
fault_type_of_address_before_length = refl

-- a sender without initial-delivery-count is refused
fault_no_count : duties_of [] (producer_begun ++ (
    client 0 (hex (codes "0000001F02000000005312C01207A101734342404040005329C00401A10171"))
    ∷ router 0 (hex (codes "0000001302000000005312C00603A101734341"))
    ∷ router 0 (hex (codes "0000002A02000000005316C01D03434100531DC01501A312616D71703A696E76616C69642D6669656C64"))
    ∷ [])) ≡ (None, true)
unfolding duties_of
fault_no_count = refl

-- a detach of a handle without link ends the session
fault_no_link : duties_of [] (producer_begun ++ (
    client 0 (hex (codes "0000000F02000000005316C0020143"))
    ∷ router 0 (hex (codes "0000003402000000005317C0270100531DC02101A31E616D71703A73657373696F6E3A756E61747461636865642D68616E646C65"))
    ∷ [])) ≡ (None, true)
unfolding duties_of
fault_no_link = refl

-- an end without session closes the connection
fault_no_session : duties_of [] (producer_opened ++ (
    client 0 ended
    ∷ router 0 (hex (codes "0000002602000000005318C0190100531DC01301A310616D71703A6E6F742D616C6C6F776564"))
    ∷ [])) ≡ (None, true)
unfolding duties_of
fault_no_session = refl

-- a sender without target is refused as an invalid field
fault_no_target : duties_of [] (producer_begun ++ (
    client 0 (hex (codes "0000001A02000000005312C00D0AA10173434240404040404043"))
    ∷ router 0 (hex (codes "0000001302000000005312C00603A101734341"))
    ∷ router 0 (hex (codes "0000002A02000000005316C01D03434100531DC01501A312616D71703A696E76616C69642D6669656C64"))
    ∷ [])) ≡ (None, true)
unfolding duties_of
fault_no_target = refl

-- a described list that is no performative is a decode-error
fault_no_performative : duties_of [] (producer_opened ++ (
    client 0 (hex (codes "0000000C0200000000531D45"))
    ∷ router 0 (hex (codes "0000002702000000005318C01A0100531DC01401A311616D71703A6465636F64652D6572726F72"))
    ∷ [])) ≡ (None, true)
unfolding duties_of
fault_no_performative = refl

-- octets that are no whole frame are a framing-error
fault_no_frame : duties_of [] (producer_opened ++ (
    client 0 (hex (codes "78"))
    ∷ router 0 (hex (codes "0000003302000000005318C0260100531DC02001A31D616D71703A636F6E6E656374696F6E3A6672616D696E672D6572726F72"))
    ∷ [])) ≡ (None, true)
unfolding duties_of
fault_no_frame = refl

-- an open that takes only 511 octets closes the connection
fault_open_of_511 : duties_of [] (
    opened 0
    ∷ client 0 (hex (codes "0000001702000000005310C00A03A101704070000001FF"))
    ∷ router 0 router_open
    ∷ router 0 (hex (codes "0000002802000000005318C01B0100531DC01501A312616D71703A696E76616C69642D6669656C64"))
    ∷ []) ≡ (None, true)
unfolding duties_of
fault_open_of_511 = refl

-- an open that takes 512 octets is good
fault_open_of_512 : duties_of [] (
    opened 0
    ∷ client 0 (hex (codes "0000001702000000005310C00A03A10170407000000200"))
    ∷ router 0 router_open
    ∷ []) ≡ (None, true)
unfolding duties_of
fault_open_of_512 = refl

-- a resumed transfer on a consumer's link: the link's role is tested first
fault_role_before_resume : duties_of [] (
    opened 0
    ∷ client 0 consumer_open
    ∷ router 0 router_open
    ∷ client 0 client_begin
    ∷ router 0 router_begin
    ∷ client 0 consumer_attach
    ∷ router 0 consumer_attached
    ∷ client 0 (hex (codes "0000001702000000005314C00A09434340404040404041"))
    ∷ router 0 (hex (codes "0000002602000000005317C0190100531DC01301A310616D71703A6E6F742D616C6C6F776564"))
    ∷ []) ≡ (None, true)
unfolding duties_of
fault_role_before_resume = refl

-- a resumed transfer with a long tag: resume is tested first
fault_resume_before_tag : duties_of [] (producer_and_consumer_with_credit ++ (
    client 0 (hex (codes "0000003902000000005314C02C094343A021787878787878787878787878787878787878787878787878787878787878787878404040404041"))
    ∷ router 0 (hex (codes "0000002C02000000005316C01F03434100531DC01701A314616D71703A6E6F742D696D706C656D656E746564"))
    ∷ [])) ≡ (None, true)
unfolding duties_of
fault_resume_before_tag = refl

-- a second open closes the connection
fault_second_open : duties_of [] (producer_opened ++ (
    client 0 producer_open
    ∷ router 0 (hex (codes "0000002602000000005318C0190100531DC01301A310616D71703A6E6F742D616C6C6F776564"))
    ∷ [])) ≡ (None, true)
unfolding duties_of
fault_second_open = refl

-- a second open that takes only 100 octets: that it is a second one is tested first
fault_second_open_before_its_limit : duties_of [] (producer_opened ++ (
    client 0 (hex (codes "0000001402000000005310C00703A10170405264"))
    ∷ router 0 (hex (codes "0000002602000000005318C0190100531DC01301A310616D71703A6E6F742D616C6C6F776564"))
    ∷ [])) ≡ (None, true)
unfolding duties_of
fault_second_open_before_its_limit = refl

-- a source with neither an address nor dynamic true is refused
fault_source_without_address : duties_of [] (producer_begun ++ (
    client 0 (hex (codes "0000002002000000005312C01306A1017343414040005328C006054040404042"))
    ∷ router 0 (hex (codes "0000001A02000000005312C00D0AA10173434240404040404043"))
    ∷ router 0 (hex (codes "0000002A02000000005316C01D03434100531DC01501A312616D71703A696E76616C69642D6669656C64"))
    ∷ [])) ≡ (None, true)
unfolding duties_of
fault_source_without_address = refl

-- a target without address is refused as not implemented
fault_target_without_address : duties_of [] (producer_begun ++ (
    client 0 (hex (codes "0000001D02000000005312C0100AA10173434240404000532945404043"))
    ∷ router 0 (hex (codes "0000001302000000005312C00603A101734341"))
    ∷ router 0 (hex (codes "0000002C02000000005316C01F03434100531DC01701A314616D71703A6E6F742D696D706C656D656E746564"))
    ∷ [])) ≡ (None, true)
unfolding duties_of
fault_target_without_address = refl

-- a transfer on a consumer's link ends the session
fault_transfer_of_consumer : duties_of [] (
    opened 0
    ∷ client 0 consumer_open
    ∷ router 0 router_open
    ∷ client 0 client_begin
    ∷ router 0 router_begin
    ∷ client 0 consumer_attach
    ∷ router 0 consumer_attached
    ∷ client 0 (hex (codes "0000001002000000005314C003024343"))
    ∷ router 0 (hex (codes "0000002602000000005317C0190100531DC01301A310616D71703A6E6F742D616C6C6F776564"))
    ∷ []) ≡ (None, true)
unfolding duties_of
fault_transfer_of_consumer = refl
