-- What stands at the front of octets, by what reads it.
use Rattle.std.proofs.Common.{◌≡◌, ℕ, List, take, drop, sym, ap, ◌∙◌, slice_index, Result, Ok, Err, inr, arith}
use Rattle.std.proofs.lemmas.List.{take-append-drop}
use Rattle.amqp_frames.specs.declared.frame.FrameKind.TheVariants as kinds
use Rattle.amqp_frames.specs.declared.header.ProtocolHeader.{ProtocolHeader}
use Rattle.amqp_frames.specs.declared.header.ProtocolHeader.TheVariants as headers
use Rattle.amqp_perf.specs.declared.fault.PerfFault.{PerfFault}
use Rattle.amqp_frames.specs.Frame.{Frame}
use Rattle.amqp_frames.specs.Sasl.{Saying, AMechanisms, AnInit, AnOutcome, InitFields}
use Rattle.amqp_frames.specs.Header.{header_octets}
use Rattle.stream_reading.specs.declared.step.Phase.TheVariants.{FirstHeader}
use Rattle.stream_reading.specs.declared.step.StreamFault.{StreamFault}
use Rattle.stream_reading.specs.declared.step.StreamFault.TheVariants.{HeaderRefused, BadFrame, SaslRefused}
use Rattle.stream_reading.specs.Stream.{BeginsWith, MayStand, event_of, AnswersBody, AnswersInit}

-- octets begin with the first ones of them
pub begins : (n : ℕ) (octets : List ℕ) → BeginsWith octets (take n octets)
begins n octets = (drop n octets, sym (take-append-drop n octets))

-- a header may stand first
pub header_first : (header : ProtocolHeader) (octets : List ℕ) → octets ≡ header_octets header → MayStand FirstHeader (event_of header) octets
header_first headers.Amqp octets is = is
header_first headers.Sasl octets is = is

-- no octets are both headers
pub one_header : (octets : List ℕ) → octets ≡ header_octets headers.Sasl → ¬ (octets ≡ header_octets headers.Amqp)
one_header octets sasl amqp = omega (arith, ap (λ (t : List ℕ). slice_index t 4) (sym sasl ∙ amqp))

-- what the body says is what the frame does
pub of_body : (frame : Frame) (result : Result Unit StreamFault) → frame.kind ≡ kinds.Sasl → AnswersBody frame.body result → AnswersInit frame result
of_body frame (Ok done) kind is = (kind, is)
of_body frame (Err BadFrame) kind is = inr is
of_body frame (Err SaslRefused) kind is = (kind, is)
of_body frame (Err HeaderRefused) kind is = is

-- an init is told by 0, anything else by 1
abbrev pub init_number : Result Saying PerfFault → ℕ
init_number (Ok (AnInit init)) = 0
init_number (Ok (AMechanisms anonymous)) = 1
init_number (Ok (AnOutcome code)) = 1
init_number (Err fault) = 1

-- what says something else is no init
pub no_init : (init : InitFields) (saying : Saying) → init_number (Ok saying) ≡ 1 → ¬ (◌≡◌ {A = Result Saying PerfFault} (Ok (AnInit init)) (Ok saying))
no_init init saying other is = omega (arith, other, ap init_number is)

pub no_init_fault : (init : InitFields) (fault : PerfFault) → ¬ (◌≡◌ {A = Result Saying PerfFault} (Ok (AnInit init)) (Err fault))
no_init_fault init fault is = omega (arith, ap init_number is)
