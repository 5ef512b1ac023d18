-- Which link is picked of a small capture, and what stands behind its records.
use Rattle.std.specs.Prelude.{◌≡◌, ℕ, Bool, true, false, List, [], ◌∷◌, ◌++◌, Option, Some, None, codes, refl}
use Rattle.std.specs.Borrow.{Bor}
use Rattle.std.specs.Fmt.{digits}
use Rattle.amqp_perf.proofs.Opened.{read, written}
use Rattle.amqp_perf.specs.declared.attach.Role.TheVariants.{Receiver}
use Rattle.amqp_perf.specs.Meaning.{ADisposition, AFlow, AnAttach, ATransfer, DispositionFields}
use Rattle.amqp_frames.specs.Writing.{frame_octets}
use Rattle.amqp_frames.specs.Reading.{whole_frame, frame_at, sized_frame, headed_frame}
use Rattle.capture_form.specs.declared.records.Record.{Record}
use Rattle.capture_form.specs.Rules.{no_rules}
use Rattle.trace_events.specs.Frame.{frame_read}
use Rattle.trace_events.specs.History.{history}
use Rattle.trace_events.specs.Written.{spoken_octets}
use Rattle.trace_events.proofs.Made.{accepted, carry, detach_of, disposes, draining, first, from, from_with, gives, hi, q, receives_from, sent}
use Rattle.credit_chart.specs.declared.level.Level.{Level}
use Rattle.credit_levels.specs.declared.pick.Pick.{Pick}
use Rattle.credit_levels.specs.declared.pick.PickedLink.{PickedLink}
use Rattle.credit_levels.specs.Pick.{attached_at, picks}
use Rattle.credit_levels.specs.Levels.{chosen, levels_of}

-- ---- which link

text : List ℕ → Bor (List ℕ)
text octets = record { ref_ptr = (0, 0); now = octets }

any : Pick
any = record { connection = None; name = None }

on_one : Pick
on_one = record { connection = Some 1; name = None }

named : List ℕ → Pick
named name = record { connection = None; name = Some (text name) }

picked : (picks any 3 (codes "l") ≡ true) × (picks on_one 1 (codes "l") ≡ true) × (picks (named (codes "l")) 3 (codes "l") ≡ true)
unfolding any on_one named text
picked = (refl, refl, refl)

another_connection : picks on_one 3 (codes "l") ≡ false
unfolding on_one
another_connection = refl

another_name : picks (named (codes "k")) 3 (codes "l") ≡ false
unfolding named text
another_name = refl

an_attach : attached_at any 5 3 0 (AnAttach (receives_from q)) ≡ Some (record { number = 5; connection = 3; channel = 0; handle = 0 })
unfolding any
an_attach = refl

no_attach : attached_at any 5 3 0 (AFlow (gives 0 0 10)) ≡ None
no_attach = refl

-- ---- of a capture: the reading and the writing of octets are opened here, once

unfoldable levels_in : Pick → List Record → List (Option Level)
unfolding frame_read whole_frame frame_at sized_frame headed_frame read digits spoken_octets frame_octets written
levels_in pick records = levels_of pick no_rules (history no_rules records)

unfoldable place_in : Pick → List Record → Option PickedLink
unfolding frame_read whole_frame frame_at sized_frame headed_frame read digits spoken_octets frame_octets written
place_in pick records = chosen pick (history no_rules records)

-- behind the last of some records
abbrev last : List (Option Level) → Option Level
last [] = None
last (level ∷ []) = level
last (level ∷ more ∷ rest) = last (more ∷ rest)

level : ℕ → ℕ → ℕ → ℕ → Bool → Option Level
level credit window waiting unsettled is_draining = Some (record { credit = credit; window = window; waiting = waiting; unsettled = unsettled; is_draining = is_draining })

-- a producer's link opens in record 6, a consumer's in record 13
of_consumer : place_in any sent ≡ Some (record { number = 13; connection = 1; channel = 0; handle = 0 })
unfolding place_in any
of_consumer = refl

-- the producer's link is none of a consumer
of_producer : place_in (record { connection = Some 0; name = None }) sent ≡ None
unfolding place_in
of_producer = refl

not_so_named : place_in (named (codes "k")) sent ≡ None
unfolding place_in named text
not_so_named = refl

-- behind each record: the link opens without credit, its client gives 10, and a delivery waits
behind_each : levels_in any sent
    ≡ None ∷ None ∷ None ∷ None ∷ None ∷ None ∷ None ∷ None ∷ None ∷ None ∷ None ∷ None ∷ None
    ∷ level 0 100 0 0 false ∷ level 0 100 0 0 false ∷ level 10 100 0 0 false ∷ level 10 100 1 0 false ∷ []
unfolding levels_in any level
behind_each = refl

-- the delivery goes to the client, unsettled
behind_transfer : last (levels_in any (sent ++ carry 1 16 (first 0) hi ∷ [])) ≡ level 9 99 0 1 false
unfolding levels_in any level
behind_transfer = refl

-- the client drains the link
behind_drain : last (levels_in any (sent ++ from 1 (AFlow (draining (gives 0 0 10))) ∷ [])) ≡ level 10 100 1 0 true
unfolding levels_in any level
behind_drain = refl

-- the link ends
behind_detach : last (levels_in any (sent ++ from 1 (detach_of true) ∷ [])) ≡ None
unfolding levels_in any
behind_detach = refl

-- three wait, two of them go to the client, which then settles both
abbrev two_gone : List Record
two_gone =
    sent
    ++ (from_with 0 (ATransfer (first 1)) hi ∷ from_with 0 (ATransfer (first 2)) hi ∷ carry 1 16 (first 0) hi ∷ carry 1 17 (first 1) hi ∷ [])

settles_both : DispositionFields
settles_both = let fields = disposes Receiver 0 true accepted in record fields { last = Some 1 }

behind_two : last (levels_in any two_gone) ≡ level 8 98 1 2 false
unfolding levels_in any level
behind_two = refl

behind_both : last (levels_in any (two_gone ++ from 1 (ADisposition settles_both) ∷ [])) ≡ level 8 98 1 0 false
unfolding levels_in any level settles_both
behind_both = refl
