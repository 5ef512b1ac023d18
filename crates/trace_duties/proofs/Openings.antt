-- The openings that the worked captures share.
use Rattle.std.specs.Prelude.{ℕ, List, [], ◌∷◌, ◌++◌}
use Rattle.capture_form.specs.declared.records.Record.{Record}
use Rattle.trace_events.proofs.Captures.{opened, client, router}
use Rattle.trace_duties.proofs.WorkedFrames.{open_p, router_open, begin_100, router_begin, producer_of_q, router_to_producer_of_q, consumer_of_q, router_flow_250}

-- a client with a session and a link, each answered: its open, begin and attach, and the answer to the attach
abbrev pub joined : ℕ → List ℕ → List ℕ → List ℕ → List ℕ → List Record
joined c opening begin attach answer =
    opened c ∷ client c opening ∷ router c router_open ∷ client c begin ∷ router c router_begin ∷ client c attach ∷ router c answer ∷ []

-- a producer of q, with credit, and a consumer of q with this open, begin and answer to its attach: records 0 to 14
abbrev pub between : List ℕ → List ℕ → List ℕ → List Record
between opening begin answer =
    joined 0 open_p begin_100 producer_of_q router_to_producer_of_q ++ joined 1 opening begin consumer_of_q answer
    ++ (router 0 router_flow_250 ∷ [])
