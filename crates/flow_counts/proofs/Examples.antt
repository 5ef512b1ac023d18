-- Windows and credits with known answers.
use Rattle.std.specs.Prelude.{◌≡◌, [], ◌∷◌, Some, None, true, false, refl}
use Rattle.flow_counts.specs.declared.events.WindowEvent.TheVariants.{TheirFlow, Sent, OurFlow, Received}
use Rattle.flow_counts.specs.Window.{next_id, window}
use Rattle.flow_counts.specs.GivenWindow.{given_window, next_incoming_id}
use Rattle.flow_counts.specs.Credit as credits
use Rattle.flow_counts.specs.Credit.{delivery_count, credit, is_draining}
use Rattle.flow_counts.specs.GivenCredit.{given_credit, received_delivery_count}

-- two transfers into a window of two, each as an own step
used_up : window 0 2 (Sent ∷ Sent ∷ []) ≡ 0
used_up = refl

-- a flow that has seen neither of the two transfers leaves nothing of a window of two
stale_flow : window 0 2 (TheirFlow (Some 0) 2 ∷ Sent ∷ Sent ∷ []) ≡ 0
stale_flow = refl

-- one that has seen the first of them leaves one
late_flow : window 0 2 (TheirFlow (Some 1) 2 ∷ TheirFlow (Some 0) 2 ∷ Sent ∷ Sent ∷ []) ≡ 1
late_flow = refl

-- one without next-incoming-id was sent before the first transfer came
first_flow : window 0 2 (TheirFlow None 5 ∷ Sent ∷ Sent ∷ []) ≡ 3
first_flow = refl

-- one that has seen a transfer which was never sent leaves nothing
flow_from_the_future : window 0 2 (TheirFlow (Some 3) 5 ∷ Sent ∷ Sent ∷ []) ≡ 0
flow_from_the_future = refl

-- ids wrap
wrapped : window 4294967295 9 (Sent ∷ TheirFlow (Some 4294967295) 4 ∷ Sent ∷ Sent ∷ []) ≡ 1
wrapped = refl

-- what comes from the client, and what it is told, moves neither its window nor the ids of what is sent to it
other_way : window 0 2 (OurFlow ∷ Received ∷ Sent ∷ Received ∷ []) ≡ 1
other_way = refl

wrapped_id : next_id 4294967295 (Sent ∷ Received ∷ Sent ∷ []) ≡ 1
wrapped_id = refl

-- two transfers take two of the window that a session begins with, and a flow to the client gives it anew
received_two : given_window (Received ∷ Sent ∷ Received ∷ []) ≡ 2046
received_two = refl

given_anew : given_window (Received ∷ TheirFlow (Some 0) 7 ∷ OurFlow ∷ Received ∷ Received ∷ []) ≡ 2047
given_anew = refl

wrapped_incoming_id : next_incoming_id 4294967294 (Received ∷ OurFlow ∷ Received ∷ Received ∷ []) ≡ 1
wrapped_incoming_id = refl

-- no flow, no credit
no_flow : credit 0 [] ≡ 0
no_flow = refl

-- a flow from before two deliveries, which wrapped the delivery-count, leaves one of three; the next delivery takes it
wrapped_credit :
    credit 4294967295 (credits.TheirFlow (Some 4294967295) (Some 3) false ∷ credits.Begun ∷ credits.Begun ∷ credits.TheirFlow (Some 4294967295) (Some 2) false ∷ []) ≡ 1
wrapped_credit = refl

wrapped_count : delivery_count 4294967295 (credits.Begun ∷ credits.Begun ∷ credits.TheirFlow (Some 4294967295) (Some 2) false ∷ []) ≡ 1
wrapped_count = refl

-- a flow that knows of a delivery which never began leaves nothing
credit_from_the_future : credit 0 (credits.TheirFlow (Some 1) (Some 10) false ∷ []) ≡ 0
credit_from_the_future = refl

-- a flow without delivery-count counts from the attach
first_credit : credit 4294967295 (credits.TheirFlow None (Some 3) false ∷ credits.Begun ∷ []) ≡ 2
first_credit = refl

-- a flow without link-credit changes no credit, and asks for nothing
no_link_credit : credit 0 (credits.TheirFlow (Some 0) None true ∷ credits.Begun ∷ credits.TheirFlow (Some 0) (Some 5) false ∷ []) ≡ 4
no_link_credit = refl

not_draining : is_draining (credits.TheirFlow (Some 0) None true ∷ credits.TheirFlow (Some 0) (Some 5) false ∷ []) ≡ false
not_draining = refl

-- the answer to a drain takes the delivery-count to where the credit would have taken it
drained : credit 0 (credits.OurFlow (Some 5) (Some 0) true ∷ credits.TheirFlow (Some 0) (Some 5) true ∷ []) ≡ 0
drained = refl

drained_count : delivery_count 0 (credits.OurFlow (Some 5) (Some 0) true ∷ credits.TheirFlow (Some 0) (Some 5) true ∷ []) ≡ 5
drained_count = refl

still_draining : is_draining (credits.OurFlow (Some 5) (Some 0) true ∷ credits.TheirFlow (Some 0) (Some 5) true ∷ []) ≡ true
still_draining = refl

-- credit that is given behind the answer counts from the delivery-count that the answer told
after_drain : credit 0 (credits.TheirFlow (Some 5) (Some 2) false ∷ credits.OurFlow (Some 5) (Some 0) true ∷ credits.TheirFlow (Some 0) (Some 5) true ∷ []) ≡ 2
after_drain = refl

-- the credit given is what the last flow says, less the deliveries since; the client's own flows do not change it
given : given_credit (credits.Begun ∷ credits.TheirFlow (Some 0) (Some 9) false ∷ credits.Begun ∷ credits.OurFlow (Some 0) (Some 250) false ∷ []) ≡ 248
given = refl

given_nothing : given_credit (credits.Begun ∷ []) ≡ 0
given_nothing = refl

wrapped_received_count : received_delivery_count 4294967295 (credits.Begun ∷ credits.OurFlow (Some 0) (Some 250) false ∷ credits.Begun ∷ []) ≡ 1
wrapped_received_count = refl
