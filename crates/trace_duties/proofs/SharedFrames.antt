-- The frames and the openings that the captures of duties share.
use Rattle.std.specs.Prelude.{ℕ, List, [], ◌∷◌, codes}
use Rattle.capture_form.specs.declared.records.Record.{Record}
use Rattle.trace_events.proofs.Captures.{opened, client, router}
use Rattle.trace_duties.proofs.FirstNeglected.{hex}

-- ---- frames

-- a producer's open, of container p
abbrev pub producer_open : List ℕ
producer_open = hex (codes "0000001102000000005310C00401A10170")

-- the router's
abbrev pub router_open : List ℕ
router_open = hex (codes "0000002402000000005310C01704A10B616D71702D726F757465724070000040006000FF")

-- a client's begin: next-outgoing-id 0, windows 100 and 100
abbrev pub client_begin : List ℕ
client_begin = hex (codes "0000001402000000005311C00704404352645264")

-- the router's: next-outgoing-id 0, windows 2048 and 2147483647
abbrev pub router_begin : List ℕ
router_begin = hex (codes "0000002102000000005311C01405600000437000000800707FFFFFFF70000003FF")

-- a producer's attach: name s, handle 0, target q
abbrev pub producer_attach : List ℕ
producer_attach = hex (codes "0000002202000000005312C0150AA101734342404040005329C00401A10171404043")

-- the router's answer
abbrev pub producer_attached : List ℕ
producer_attached = hex (codes "0000003002000000005312C0230BA1017343415002500000532845005329C00401A10171404040800000000001000000")

-- a consumer's open, of container c
abbrev pub consumer_open : List ℕ
consumer_open = hex (codes "0000001102000000005310C00401A10163")

-- a consumer's attach: name r, handle 0, source q
abbrev pub consumer_attach : List ℕ
consumer_attach = hex (codes "0000001E02000000005312C01106A1017243414040005328C00401A10171")

-- the router's answer
abbrev pub consumer_attached : List ℕ
consumer_attached = hex (codes "0000002702000000005312C01A0AA10172434250025000005328C00401A1017100532945404043")

-- the router's flow that gives the producer 250 credits
abbrev pub credit_given : List ℕ
credit_given = hex (codes "0000001E02000000005313C0110743700000080043707FFFFFFF434352FA")

-- the same of the address news
abbrev pub news_producer_attach : List ℕ
news_producer_attach = hex (codes "0000002502000000005312C0180AA101734342404040005329C00701A1046E657773404043")

-- the same of the address news
abbrev pub news_producer_attached : List ℕ
news_producer_attached = hex (codes "0000003302000000005312C0260BA1017343415002500000532845005329C00701A1046E657773404040800000000001000000")

-- the same of the address news, by a consumer that asks for settled deliveries
abbrev pub news_consumer_attach : List ℕ
news_consumer_attach = hex (codes "0000002202000000005312C01506A101724341500140005328C00701A1046E657773")

-- the same of the address news
abbrev pub news_consumer_attached : List ℕ
news_consumer_attached = hex (codes "0000002A02000000005312C01D0AA10172434250015000005328C00701A1046E65777300532945404043")

-- the consumer's flow that gives 1 credit
abbrev pub credit_of_1 : List ℕ
credit_of_1 = hex (codes "0000001802000000005313C00B0743526443526443435201")

-- the same of 10
abbrev pub credit_of_10 : List ℕ
credit_of_10 = hex (codes "0000001802000000005313C00B074352644352644343520A")

-- a transfer of the producer: delivery-id 0, the message hi
abbrev pub delivery : List ℕ
delivery = hex (codes "0000001C02000000005314C008054343A001314342005377A1026869")

-- the same of delivery-id 1
abbrev pub second_delivery : List ℕ
second_delivery = hex (codes "0000001D02000000005314C00905435201A001314342005377A1026869")

-- the transfer that carries it to the consumer, delivery-id 0
abbrev pub carried : List ℕ
carried = hex (codes "0000002002000000005314C00C064343A00400000000434242005377A1026869")

-- the same of delivery-id 1
abbrev pub second_carried : List ℕ
second_carried = hex (codes "0000002102000000005314C00D06435201A00400000001434242005377A1026869")

-- a disposition of role receiver of id 0, settled: accepted
abbrev pub accepted : List ℕ
accepted = hex (codes "0000001602000000005315C009054143404100532445")

-- the same, not settled
abbrev pub accepted_unsettled : List ℕ
accepted_unsettled = hex (codes "0000001602000000005315C009054143404000532445")

-- a disposition of role sender of id 0, settled
abbrev pub settles : List ℕ
settles = hex (codes "0000001202000000005315C0050442434041")

-- a detach of handle 0, closed
abbrev pub closed : List ℕ
closed = hex (codes "0000001002000000005316C003024341")

-- an end
abbrev pub ended : List ℕ
ended = hex (codes "0000000C0200000000531745")

-- a close
abbrev pub shut : List ℕ
shut = hex (codes "0000000C0200000000531845")

-- ---- openings

-- a producer that is opened
abbrev pub producer_opened : List Record
producer_opened =
    opened 0
    ∷ client 0 producer_open
    ∷ router 0 router_open
    ∷ []

-- and has a session
abbrev pub producer_begun : List Record
producer_begun =
    opened 0
    ∷ client 0 producer_open
    ∷ router 0 router_open
    ∷ client 0 client_begin
    ∷ router 0 router_begin
    ∷ []

-- and is attached
abbrev pub producer_attached_alone : List Record
producer_attached_alone =
    opened 0
    ∷ client 0 producer_open
    ∷ router 0 router_open
    ∷ client 0 client_begin
    ∷ router 0 router_begin
    ∷ client 0 producer_attach
    ∷ router 0 producer_attached
    ∷ []

-- a producer of the address news, with credit
abbrev pub news_producer : List Record
news_producer =
    opened 0
    ∷ client 0 producer_open
    ∷ router 0 router_open
    ∷ client 0 client_begin
    ∷ router 0 router_begin
    ∷ client 0 news_producer_attach
    ∷ router 0 news_producer_attached
    ∷ router 0 credit_given
    ∷ []

-- a producer and a consumer of the address q
abbrev pub producer_and_consumer : List Record
producer_and_consumer =
    opened 0
    ∷ client 0 producer_open
    ∷ router 0 router_open
    ∷ client 0 client_begin
    ∷ router 0 router_begin
    ∷ client 0 producer_attach
    ∷ router 0 producer_attached
    ∷ opened 1
    ∷ client 1 consumer_open
    ∷ router 1 router_open
    ∷ client 1 client_begin
    ∷ router 1 router_begin
    ∷ client 1 consumer_attach
    ∷ router 1 consumer_attached
    ∷ []

-- with credit for the producer
abbrev pub producer_and_consumer_with_credit : List Record
producer_and_consumer_with_credit =
    opened 0
    ∷ client 0 producer_open
    ∷ router 0 router_open
    ∷ client 0 client_begin
    ∷ router 0 router_begin
    ∷ client 0 producer_attach
    ∷ router 0 producer_attached
    ∷ opened 1
    ∷ client 1 consumer_open
    ∷ router 1 router_open
    ∷ client 1 client_begin
    ∷ router 1 router_begin
    ∷ client 1 consumer_attach
    ∷ router 1 consumer_attached
    ∷ router 0 credit_given
    ∷ []

-- and a consumer of it
abbrev pub news_producer_and_consumer : List Record
news_producer_and_consumer =
    opened 0
    ∷ client 0 producer_open
    ∷ router 0 router_open
    ∷ client 0 client_begin
    ∷ router 0 router_begin
    ∷ client 0 news_producer_attach
    ∷ router 0 news_producer_attached
    ∷ router 0 credit_given
    ∷ opened 1
    ∷ client 1 consumer_open
    ∷ router 1 router_open
    ∷ client 1 client_begin
    ∷ router 1 router_begin
    ∷ client 1 news_consumer_attach
    ∷ router 1 news_consumer_attached
    ∷ []
