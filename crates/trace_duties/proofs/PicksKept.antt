-- Captures in which each delivery that waits goes to the consumer that is picked, and all other duties are kept.
use Rattle.std.specs.Prelude.{◌≡◌, [], ◌∷◌, ◌++◌, replicate, codes, true, None, refl}
use Rattle.pairing_cert.specs.declared.note.Why.TheVariants.{C, S, N}
use Rattle.trace_events.proofs.Captures.{opened, lost, client, router, paired, told}
use Rattle.trace_duties.proofs.FirstNeglected.{duties_of, hex}
use Rattle.trace_duties.proofs.SharedFrames.{router_open, client_begin, router_begin, producer_attach, producer_attached, consumer_open, consumer_attach, consumer_attached, credit_given, credit_of_1, credit_of_10, delivery, second_delivery, carried, second_carried, accepted, accepted_unsettled, settles, closed, producer_and_consumer_with_credit, producer_attached_alone, producer_begun}

-- balanced: a delivery that its consumer decided counts no more, though it did not settle it
pick_balanced_decided_counts_none : duties_of [] (producer_and_consumer_with_credit ++ (
    opened 2
    ∷ client 2 consumer_open
    ∷ router 2 router_open
    ∷ client 2 client_begin
    ∷ router 2 router_begin
    ∷ client 2 consumer_attach
    ∷ router 2 consumer_attached
    ∷ client 1 (hex (codes "0000001802000000005313C00B0743526443526443435209"))
    ∷ client 0 delivery
    ∷ paired 1 23 carried
    ∷ client 1 accepted_unsettled
    ∷ told 0 C accepted
    ∷ router 1 settles
    ∷ client 2 (hex (codes "0000001802000000005313C00B0743526443526443435209"))
    ∷ client 0 second_delivery
    ∷ paired 1 29 second_carried
    ∷ [])) ≡ (None, true)
unfolding duties_of
pick_balanced_decided_counts_none = refl

-- balanced: the link with the fewest undecided deliveries gets the next
pick_balanced_fewest_undecided : duties_of [] (producer_and_consumer_with_credit ++ (
    opened 2
    ∷ client 2 consumer_open
    ∷ router 2 router_open
    ∷ client 2 client_begin
    ∷ router 2 router_begin
    ∷ client 2 consumer_attach
    ∷ router 2 consumer_attached
    ∷ client 1 (hex (codes "0000001802000000005313C00B0743526443526443435209"))
    ∷ client 0 delivery
    ∷ paired 1 23 carried
    ∷ client 2 (hex (codes "0000001802000000005313C00B0743526443526443435209"))
    ∷ client 1 accepted_unsettled
    ∷ told 0 C accepted
    ∷ router 1 settles
    ∷ client 0 second_delivery
    ∷ paired 1 29 second_carried
    ∷ client 1 (hex (codes "0000001702000000005315C00A05415201404100532445"))
    ∷ told 0 C (hex (codes "0000001702000000005315C00A05415201404100532445"))
    ∷ client 0 (hex (codes "0000001D02000000005314C00905435202A001314342005377A1026869"))
    ∷ paired 1 33 (hex (codes "0000002102000000005314C00D06435202A00400000002434242005377A1026869"))
    ∷ [])) ≡ (None, true)
unfolding duties_of
pick_balanced_fewest_undecided = refl

-- balanced: undecided deliveries count, not how long ago a link got its last
pick_balanced_not_least_recent : duties_of [] (producer_and_consumer_with_credit ++ (
    opened 2
    ∷ client 2 consumer_open
    ∷ router 2 router_open
    ∷ client 2 client_begin
    ∷ router 2 router_begin
    ∷ client 2 consumer_attach
    ∷ router 2 consumer_attached
    ∷ client 1 (hex (codes "0000001802000000005313C00B0743526443526443435209"))
    ∷ client 2 (hex (codes "0000001802000000005313C00B0743526443526443435209"))
    ∷ client 0 delivery
    ∷ paired 1 24 carried
    ∷ client 0 second_delivery
    ∷ paired 2 26 carried
    ∷ client 2 accepted
    ∷ told 0 C (hex (codes "0000001702000000005315C00A05415201404100532445"))
    ∷ client 0 (hex (codes "0000001D02000000005314C00905435202A001314342005377A1026869"))
    ∷ paired 2 30 second_carried
    ∷ client 2 (hex (codes "0000001702000000005315C00A05415201404100532445"))
    ∷ told 0 C (hex (codes "0000001702000000005315C00A05415202404100532445"))
    ∷ client 0 (hex (codes "0000001D02000000005314C00905435203A001314342005377A1026869"))
    ∷ paired 2 34 (hex (codes "0000002102000000005314C00D06435202A00400000002434242005377A1026869"))
    ∷ [])) ≡ (None, true)
unfolding duties_of
pick_balanced_not_least_recent = refl

-- balanced: a pre-settled link has no undecided deliveries
pick_balanced_pre_settled_counts_none : duties_of [] (producer_attached_alone ++ (
    opened 1
    ∷ client 1 consumer_open
    ∷ router 1 router_open
    ∷ client 1 client_begin
    ∷ router 1 router_begin
    ∷ client 1 (hex (codes "0000001F02000000005312C01206A101724341500140005328C00401A10171"))
    ∷ router 1 (hex (codes "0000002702000000005312C01A0AA10172434250015000005328C00401A1017100532945404043"))
    ∷ router 0 credit_given
    ∷ opened 2
    ∷ client 2 consumer_open
    ∷ router 2 router_open
    ∷ client 2 client_begin
    ∷ router 2 router_begin
    ∷ client 2 consumer_attach
    ∷ router 2 consumer_attached
    ∷ client 1 (hex (codes "0000001802000000005313C00B0743526443526443435209"))
    ∷ client 0 delivery
    ∷ paired 1 23 (hex (codes "0000002002000000005314C00C064343A00400000000434142005377A1026869"))
    ∷ told 0 S accepted
    ∷ client 2 (hex (codes "0000001802000000005313C00B0743526443526443435209"))
    ∷ client 0 second_delivery
    ∷ paired 1 27 (hex (codes "0000002102000000005314C00D06435201A00400000001434142005377A1026869"))
    ∷ told 0 S (hex (codes "0000001702000000005315C00A05415201404100532445"))
    ∷ [])) ≡ (None, true)
unfolding duties_of
pick_balanced_pre_settled_counts_none = refl

-- a consumer that comes before the last part counts, so that the delivery waits for it
waiting_consumer_came_before_completion : duties_of [] (producer_and_consumer_with_credit ++ (
    client 0 (hex (codes "0000001D02000000005314C009064343A00131434241005377A1026869"))
    ∷ client 1 closed
    ∷ router 1 closed
    ∷ client 1 consumer_attach
    ∷ router 1 consumer_attached
    ∷ client 1 credit_of_1
    ∷ client 0 (hex (codes "0000000F02000000005314C0020143"))
    ∷ paired 1 15 carried
    ∷ [])) ≡ (None, true)
unfolding duties_of
waiting_consumer_came_before_completion = refl

-- a consumer that detached is none, so that a delivery is gone at once
gone_consumer_detached : duties_of [] (producer_and_consumer_with_credit ++ (
    client 1 closed
    ∷ router 1 closed
    ∷ client 0 delivery
    ∷ told 0 N (hex (codes "0000001602000000005315C009054143404100532645"))
    ∷ [])) ≡ (None, true)
unfolding duties_of
gone_consumer_detached = refl

-- a connection that is lost ends its links, so that a delivery has no consumer
gone_consumer_lost : duties_of [] (producer_and_consumer_with_credit ++ (
    lost 1
    ∷ client 0 delivery
    ∷ told 0 N (hex (codes "0000001602000000005315C009054143404100532645"))
    ∷ [])) ≡ (None, true)
unfolding duties_of
gone_consumer_lost = refl

-- a dynamic source is a consumer of the address that was made up for it
consumer_of_dynamic_address : duties_of [] (producer_begun ++ (
    client 0 (hex (codes "0000002002000000005312C01306A1017243414040005328C006054040404041"))
    ∷ router 0 (hex (codes "0000002F02000000005312C0220AA10172434250025000005328C00C05A10564796E2F354040404100532945404043"))
    ∷ client 0 (hex (codes "0000002702000000005312C01A0AA10173520142404040005329C00801A10564796E2F35404043"))
    ∷ router 0 (hex (codes "0000003502000000005312C0280BA101735201415002500000532845005329C00801A10564796E2F35404040800000000001000000"))
    ∷ router 0 (hex (codes "0000001F02000000005313C0120743700000080043707FFFFFFF52014352FA"))
    ∷ [])) ≡ (None, true)
unfolding duties_of
consumer_of_dynamic_address = refl

-- a consumer of another address keeps no delivery waiting
gone_consumer_elsewhere : duties_of [] (producer_and_consumer_with_credit ++ (
    client 1 (hex (codes "0000001F02000000005312C01206A101755201414040005328C00401A10172"))
    ∷ router 1 (hex (codes "0000002802000000005312C01B0AA1017552014250025000005328C00401A1017200532945404043"))
    ∷ client 0 (hex (codes "0000002302000000005312C0160AA10174520142404040005329C00401A10172404043"))
    ∷ router 0 (hex (codes "0000003102000000005312C0240BA101745201415002500000532845005329C00401A10172404040800000000001000000"))
    ∷ router 0 (hex (codes "0000001F02000000005313C0120743700000080043707FFFFFFF52014352FA"))
    ∷ client 1 (hex (codes "0000001102000000005316C00402520141"))
    ∷ router 1 (hex (codes "0000001102000000005316C00402520141"))
    ∷ client 0 (hex (codes "0000001D02000000005314C00905520143A001314342005377A1026869"))
    ∷ told 0 N (hex (codes "0000001602000000005315C009054143404100532645"))
    ∷ [])) ≡ (None, true)
unfolding duties_of
gone_consumer_elsewhere = refl

-- of two that wait the one that was completed first is sent, though it began second
pick_earliest_completed : duties_of [] (producer_and_consumer_with_credit ++ (
    client 0 (hex (codes "0000002302000000005312C0160AA10174520142404040005329C00401A10171404043"))
    ∷ router 0 (hex (codes "0000003102000000005312C0240BA101745201415002500000532845005329C00401A10171404040800000000001000000"))
    ∷ router 0 (hex (codes "0000001F02000000005313C0120743700000080043707FFFFFFF52014352FA"))
    ∷ client 0 (hex (codes "0000001D02000000005314C009064343A00131434241005377A1026869"))
    ∷ client 0 (hex (codes "0000001E02000000005314C00A0552015201A001314342005377A1026869"))
    ∷ client 0 (hex (codes "0000000F02000000005314C0020143"))
    ∷ client 1 credit_of_1
    ∷ paired 1 19 carried
    ∷ [])) ≡ (None, true)
unfolding duties_of
pick_earliest_completed = refl

-- an earlier delivery of another address does not come first
pick_earliest_of_address : duties_of [] (producer_and_consumer_with_credit ++ (
    client 1 (hex (codes "0000001F02000000005312C01206A101755201414040005328C00401A10172"))
    ∷ router 1 (hex (codes "0000002802000000005312C01B0AA1017552014250025000005328C00401A1017200532945404043"))
    ∷ client 0 (hex (codes "0000002302000000005312C0160AA10174520142404040005329C00401A10172404043"))
    ∷ router 0 (hex (codes "0000003102000000005312C0240BA101745201415002500000532845005329C00401A10172404040800000000001000000"))
    ∷ router 0 (hex (codes "0000001F02000000005313C0120743700000080043707FFFFFFF52014352FA"))
    ∷ client 0 delivery
    ∷ client 0 (hex (codes "0000001E02000000005314C00A0552015201A001314342005377A1026869"))
    ∷ client 1 (hex (codes "0000001902000000005313C00C074352644352645201435201"))
    ∷ paired 1 21 (hex (codes "0000002102000000005314C00D06520143A00400000000434242005377A1026869"))
    ∷ client 1 credit_of_1
    ∷ paired 1 20 second_carried
    ∷ [])) ≡ (None, true)
unfolding duties_of
pick_earliest_of_address = refl

-- a delivery in progress stands still where no window is left
progress_without_window : duties_of [] (producer_attached_alone ++ (
    opened 1
    ∷ client 1 (hex (codes "0000001702000000005310C00A03A10163407000000200"))
    ∷ router 1 router_open
    ∷ client 1 client_begin
    ∷ router 1 router_begin
    ∷ client 1 consumer_attach
    ∷ router 1 consumer_attached
    ∷ router 0 credit_given
    ∷ client 1 (hex (codes "0000001802000000005313C00B0743520143526443435201"))
    ∷ client 0 (hex (codes "0000039902000000005314C008054343A001314342") ++ replicate 900 120)
    ∷ paired 1 16 (hex (codes "0000020002000000005314C00C064343A00400000000434241") ++ replicate 487 120)
    ∷ [])) ≡ (None, true)
unfolding duties_of
progress_without_window = refl

-- a delivery in progress goes on without credit
progress_without_credit : duties_of [] (producer_attached_alone ++ (
    opened 1
    ∷ client 1 (hex (codes "0000001702000000005310C00A03A10163407000000200"))
    ∷ router 1 router_open
    ∷ client 1 client_begin
    ∷ router 1 router_begin
    ∷ client 1 consumer_attach
    ∷ router 1 consumer_attached
    ∷ router 0 credit_given
    ∷ client 1 (hex (codes "0000001802000000005313C00B0743520143526443435201"))
    ∷ client 0 (hex (codes "0000039902000000005314C008054343A001314342") ++ replicate 900 120)
    ∷ paired 1 16 (hex (codes "0000020002000000005314C00C064343A00400000000434241") ++ replicate 487 120)
    ∷ client 1 (hex (codes "0000001502000000005313C0080452015201435264"))
    ∷ paired 1 16 (hex (codes "000001B102000000005314C00706434040404042") ++ replicate 413 120)
    ∷ [])) ≡ (None, true)
unfolding duties_of
progress_without_credit = refl

-- the parts of a delivery are those of one link
incoming_parts_of_interleaved_links : duties_of [] (producer_and_consumer_with_credit ++ (
    client 0 (hex (codes "0000002302000000005312C0160AA10174520142404040005329C00401A10171404043"))
    ∷ router 0 (hex (codes "0000003102000000005312C0240BA101745201415002500000532845005329C00401A10171404040800000000001000000"))
    ∷ router 0 (hex (codes "0000001F02000000005313C0120743700000080043707FFFFFFF52014352FA"))
    ∷ client 1 (hex (codes "0000001802000000005313C00B0743526443526443435202"))
    ∷ client 0 (hex (codes "0000001702000000005314C009064343A0013143424161"))
    ∷ client 0 (hex (codes "0000001902000000005314C00B0652015201A0013143424162"))
    ∷ client 0 (hex (codes "0000001102000000005314C00301520163"))
    ∷ paired 1 20 (hex (codes "0000001B02000000005314C00C064343A004000000004342426263"))
    ∷ [])) ≡ (None, true)
unfolding duties_of
incoming_parts_of_interleaved_links = refl

-- a delivery in progress dies with its link
incoming_parts_end_with_link : duties_of [] (producer_and_consumer_with_credit ++ (
    client 1 credit_of_1
    ∷ client 0 (hex (codes "0000001702000000005314C009064343A0013143424161"))
    ∷ client 0 closed
    ∷ router 0 closed
    ∷ client 0 producer_attach
    ∷ router 0 producer_attached
    ∷ router 0 (hex (codes "0000001F02000000005313C012075201700000080043707FFFFFFF434352FA"))
    ∷ client 0 (hex (codes "0000001702000000005314C00905435201A00131434262"))
    ∷ paired 1 22 (hex (codes "0000001A02000000005314C00C064343A0040000000043424262"))
    ∷ [])) ≡ (None, true)
unfolding duties_of
incoming_parts_end_with_link = refl

-- a link whose session has a window of 1 is picked
pick_with_window_1 : duties_of [] (producer_and_consumer_with_credit ++ (
    opened 2
    ∷ client 2 consumer_open
    ∷ router 2 router_open
    ∷ client 2 client_begin
    ∷ router 2 router_begin
    ∷ client 2 consumer_attach
    ∷ router 2 consumer_attached
    ∷ client 1 (hex (codes "0000001802000000005313C00B0743520143526443435201"))
    ∷ client 2 credit_of_1
    ∷ client 0 delivery
    ∷ paired 1 24 carried
    ∷ [])) ≡ (None, true)
unfolding duties_of
pick_with_window_1 = refl

-- a link without credit is not picked
pick_needs_credit : duties_of [] (producer_and_consumer_with_credit ++ (
    opened 2
    ∷ client 2 consumer_open
    ∷ router 2 router_open
    ∷ client 2 client_begin
    ∷ router 2 router_begin
    ∷ client 2 consumer_attach
    ∷ router 2 consumer_attached
    ∷ client 2 credit_of_1
    ∷ client 0 delivery
    ∷ paired 2 23 carried
    ∷ [])) ≡ (None, true)
unfolding duties_of
pick_needs_credit = refl

-- a link whose session has no window is not picked
pick_needs_window : duties_of [] (producer_and_consumer_with_credit ++ (
    opened 2
    ∷ client 2 consumer_open
    ∷ router 2 router_open
    ∷ client 2 client_begin
    ∷ router 2 router_begin
    ∷ client 2 consumer_attach
    ∷ router 2 consumer_attached
    ∷ client 1 (hex (codes "0000001702000000005313C00A07434343526443435201"))
    ∷ client 2 credit_of_1
    ∷ client 0 delivery
    ∷ paired 2 24 carried
    ∷ [])) ≡ (None, true)
unfolding duties_of
pick_needs_window = refl

-- a link with a delivery in progress is not picked
pick_needs_nothing_in_progress : duties_of [] (producer_attached_alone ++ (
    opened 1
    ∷ client 1 (hex (codes "0000001702000000005310C00A03A10163407000000200"))
    ∷ router 1 router_open
    ∷ client 1 (hex (codes "0000001402000000005311C00704404352015264"))
    ∷ router 1 router_begin
    ∷ client 1 consumer_attach
    ∷ router 1 consumer_attached
    ∷ router 0 credit_given
    ∷ opened 2
    ∷ client 2 consumer_open
    ∷ router 2 router_open
    ∷ client 2 client_begin
    ∷ router 2 router_begin
    ∷ client 2 consumer_attach
    ∷ router 2 consumer_attached
    ∷ client 1 (hex (codes "0000001802000000005313C00B0743520143526443435205"))
    ∷ client 0 (hex (codes "0000039902000000005314C008054343A001314342") ++ replicate 900 120)
    ∷ paired 1 23 (hex (codes "0000020002000000005314C00C064343A00400000000434241") ++ replicate 487 120)
    ∷ client 2 credit_of_1
    ∷ client 0 second_delivery
    ∷ paired 2 26 carried
    ∷ [])) ≡ (None, true)
unfolding duties_of
pick_needs_nothing_in_progress = refl

-- of equal links the one that was attached first is picked
pick_tie : duties_of [] (producer_and_consumer_with_credit ++ (
    opened 2
    ∷ client 2 consumer_open
    ∷ router 2 router_open
    ∷ client 2 client_begin
    ∷ router 2 router_begin
    ∷ client 2 consumer_attach
    ∷ router 2 consumer_attached
    ∷ client 1 credit_of_1
    ∷ client 2 credit_of_1
    ∷ client 0 delivery
    ∷ paired 1 24 carried
    ∷ [])) ≡ (None, true)
unfolding duties_of
pick_tie = refl

-- a delivery that was sent does not hold a drain answer back
drain_answer_behind_delivery : duties_of [] (producer_and_consumer_with_credit ++ (
    client 1 credit_of_10
    ∷ client 0 delivery
    ∷ paired 1 16 carried
    ∷ client 1 (hex (codes "0000001C02000000005313C00F095201526443526443520152054041"))
    ∷ router 1 (hex (codes "0000002102000000005313C014094370000008005201707FFFFFFF435206434041"))
    ∷ [])) ≡ (None, true)
unfolding duties_of
drain_answer_behind_delivery = refl

-- a delivery that waits at another address does not hold a drain answer back
drain_answer_waiting_elsewhere : duties_of [] (producer_and_consumer_with_credit ++ (
    client 1 (hex (codes "0000001F02000000005312C01206A101755201414040005328C00401A10172"))
    ∷ router 1 (hex (codes "0000002802000000005312C01B0AA1017552014250025000005328C00401A1017200532945404043"))
    ∷ client 0 delivery
    ∷ client 1 (hex (codes "0000001B02000000005313C00E0943526443526452014352054041"))
    ∷ router 1 (hex (codes "0000002102000000005313C0140943700000080043707FFFFFFF52015205434041"))
    ∷ [])) ≡ (None, true)
unfolding duties_of
drain_answer_waiting_elsewhere = refl

-- a delivery does not go to a consumer of another address
waiting_elsewhere : duties_of [] (producer_and_consumer_with_credit ++ (
    client 1 (hex (codes "0000001F02000000005312C01206A101755201414040005328C00401A10172"))
    ∷ router 1 (hex (codes "0000002802000000005312C01B0AA1017552014250025000005328C00401A1017200532945404043"))
    ∷ client 0 delivery
    ∷ client 1 (hex (codes "0000001902000000005313C00C074352644352645201435201"))
    ∷ [])) ≡ (None, true)
unfolding duties_of
waiting_elsewhere = refl

-- a link with a delivery in progress is not picked, though its session has window
pick_needs_nothing_in_progress_with_window : duties_of [] (producer_attached_alone ++ (
    opened 1
    ∷ client 1 (hex (codes "0000001702000000005310C00A03A10163407000000200"))
    ∷ router 1 router_open
    ∷ client 1 client_begin
    ∷ router 1 router_begin
    ∷ client 1 consumer_attach
    ∷ router 1 consumer_attached
    ∷ router 0 credit_given
    ∷ client 1 (hex (codes "0000001F02000000005312C01206A101755201414040005328C00401A10171"))
    ∷ router 1 (hex (codes "0000002802000000005312C01B0AA1017552014250025000005328C00401A1017100532945404043"))
    ∷ client 1 (hex (codes "0000001902000000005313C00C074352014352645201435205"))
    ∷ client 0 delivery
    ∷ paired 1 18 (hex (codes "0000002102000000005314C00D06520143A00400000000434242005377A1026869"))
    ∷ client 1 (hex (codes "0000001902000000005313C00C075201520143526443435205"))
    ∷ client 0 (hex (codes "0000039A02000000005314C00905435201A001314342") ++ replicate 900 120)
    ∷ paired 1 21 (hex (codes "0000020002000000005314C00D06435201A00400000001434241") ++ replicate 486 120)
    ∷ client 0 (hex (codes "0000001D02000000005314C00905435202A001314342005377A1026869"))
    ∷ client 1 (hex (codes "0000001502000000005313C0080452025205435264"))
    ∷ paired 1 23 (hex (codes "0000002202000000005314C00E0652015202A00400000002434242005377A1026869"))
    ∷ paired 1 21 (hex (codes "000001B202000000005314C00706434040404042") ++ replicate 414 120)
    ∷ [])) ≡ (None, true)
unfolding duties_of
pick_needs_nothing_in_progress_with_window = refl
