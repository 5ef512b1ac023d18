-- How long frames are: those that are due fit the shortest limit that a client may set.
use Rattle.std.proofs.Common.{◌≡◌, ℕ, ◌+◌, ◌≤◌, ◌<◌, ◌^◌, true, false, List, ◌∷◌, ◌++◌, length, Option, Some, None, option_map, unwrap_or, arith}
use Rattle.std.proofs.lemmas.List.{length-append}
use Rattle.amqp_types.specs.Part.{Seen}
use Rattle.amqp_types.proofs.Shortest.{list_long, uint_long}
use Rattle.amqp_perf.specs.declared.flow.Flow.{Flow}
use Rattle.amqp_perf.specs.Meaning.{Meaning, AFlow, ADisposition, OpenFields}
use Rattle.amqp_perf.specs.Router.{settling}
use Rattle.amqp_perf.specs.Slots.{values_of, octets_of, fields_octets}
use Rattle.amqp_perf.specs.Writing.{performative_octets, flow_slots, disposition_slots}
use Rattle.amqp_perf.proofs.Lengths.{fields_long, flag_long, flag_most, uint_most}
use Rattle.amqp_frames.specs.Writing.{frame_size}
use Rattle.flow_counts.specs.declared.profile.TheConstants.{MAX_FRAME_SIZE}
use Rattle.trace_events.specs.Frame.{Spoken}
use Rattle.trace_events.specs.Event.{Event}
use Rattle.trace_events.specs.Connection.{frame_limit, first_open, bounded_limit}
use Rattle.trace_events.specs.Written.{spoken_octets, says}
use Rattle.route_answers.proofs.Lengths.{spoken_long}

-- ---- the limit

limit_by : (opening : Option OpenFields) → (512 ≤ unwrap_or (option_map bounded_limit opening) 512) × (unwrap_or (option_map bounded_limit opening) 512 ≤ MAX_FRAME_SIZE)
limit_by None = (omega arith, omega arith)
limit_by (Some fields) = (omega arith, omega arith)

pub limit_least : (c : ℕ) (past : List Event) → 512 ≤ frame_limit c past
limit_least c past = (limit_by (first_open c past)).0

pub limit_most : (c : ℕ) (past : List Event) → frame_limit c past ≤ MAX_FRAME_SIZE
limit_most c past = (limit_by (first_open c past)).1

-- what fits a client's limit is no longer than frames may be
pub within : (octets : List ℕ) (c : ℕ) (past : List Event) → length octets ≤ frame_limit c past → length octets ≤ MAX_FRAME_SIZE
within octets c past fits = omega (arith, fits, limit_most c past)

-- ---- performatives

pub fields_short : (code : ℕ) (slots : List (Option Seen)) → length (fields_octets code slots) ≤ 12 + length (octets_of (values_of slots))
fields_short code slots = omega (arith, list_long (length (values_of slots)) (octets_of (values_of slots)))

pub flow_short : (flow : Flow) → length (performative_octets (AFlow flow)) ≤ 100
flow_short flow =
    omega (
      arith,
      fields_short 0x13 (flow_slots flow),
      fields_long 5 (flow_slots flow) (omega arith) (
        uint_most flow.next_incoming_id,
        (
          uint_long flow.incoming_window,
          (
            uint_long flow.next_outgoing_id,
            (
              uint_long flow.outgoing_window,
              (uint_most flow.handle, (uint_most flow.delivery_count, (uint_most flow.link_credit, (tt, (flag_most flow.drain, (flag_most flow.echo, tt)))))),
            ),
          ),
        ),
      ),
    )

pub settling_short : (id : ℕ) → length (performative_octets (ADisposition (settling id))) ≤ 100
settling_short id =
    omega (
      arith,
      fields_short 0x15 (disposition_slots (settling id)),
      fields_long 5 (disposition_slots (settling id)) (omega arith) (flag_long false, (uint_long id, (tt, (flag_long true, (tt, tt))))),
    )

-- a short performative without payload fits, whatever the client's limit
pub short_fits : (c : ℕ) (past : List Event) (channel : ℕ) (meaning : Meaning) → length (performative_octets meaning) ≤ 100 → length (spoken_octets (says channel meaning)) ≤ frame_limit c past
short_fits c past channel meaning short = omega (arith, short, spoken_long (says channel meaning), limit_least c past)

-- nor is it longer than frames may be
pub short_within : (channel : ℕ) (meaning : Meaning) → length (performative_octets meaning) ≤ 100 → length (spoken_octets (says channel meaning)) ≤ MAX_FRAME_SIZE
short_within channel meaning short = omega (arith, short, spoken_long (says channel meaning))

-- a frame whose octets can be counted in four has a body that can be written
pub body_counted : (spoken : Spoken) → length (spoken_octets spoken) < 2 ^ 32 → frame_size (performative_octets spoken.meaning ++ spoken.payload) < 2 ^ 32
body_counted spoken counted = omega (arith, counted, spoken_long spoken, length-append (performative_octets spoken.meaning) spoken.payload)

pub body_within : (spoken : Spoken) → length (spoken_octets spoken) ≤ MAX_FRAME_SIZE → frame_size (performative_octets spoken.meaning ++ spoken.payload) ≤ MAX_FRAME_SIZE
body_within spoken fits = omega (arith, fits, spoken_long spoken, length-append (performative_octets spoken.meaning) spoken.payload)

-- a flow can always be counted
pub flow_bounded : (channel : ℕ) (flow : Flow) → length (spoken_octets (says channel (AFlow flow))) ≤ MAX_FRAME_SIZE
flow_bounded channel flow = short_within channel (AFlow flow) (flow_short flow)
