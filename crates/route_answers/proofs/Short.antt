-- What replies say is short and can be written, in whatever words.
use Rattle.std.proofs.Common.{◌≡◌, sym, subst, ℕ, ◌≤◌, Bool, List, length, Option}
use Rattle.flow_counts.specs.declared.profile.TheConstants.{MAX_LINK_NAME, MAX_ADDRESS}
use Rattle.amqp_perf.specs.declared.attach.SenderSettleMode.{SenderSettleMode}
use Rattle.amqp_perf.specs.declared.begin.Begin.{Begin}
use Rattle.amqp_perf.specs.declared.condition.ErrorCondition.{ErrorCondition}
use Rattle.amqp_perf.specs.Meaning.{AnOpen, ABegin, AnAttach, ADetach, AnEnd, AClose, OpenFields, AttachFields, DetachFields}
use Rattle.amqp_perf.specs.Router.{router_open, begin_answer, attach_to_producer, attach_to_consumer, attach_refused, detach_with}
use Rattle.amqp_perf.specs.Writing.{IsWritable}
use Rattle.trace_events.specs.Written.{spoken_octets, says, error_of}
use Rattle.trace_duties.specs.Answer.{attach_to_anonymous}
use Rattle.route_answers.proofs.Closing.{open_fits, close_fits, end_fits, detach_fits}
use Rattle.route_answers.proofs.Begins.{begin_fits}
use Rattle.route_answers.proofs.Attaches.{producer_fits, anonymous_fits, consumer_fits, refused_fits}
use Rattle.route_answers.proofs.Again as again

module _ (channel : ℕ) where
  pub open_short : (ours : OpenFields) → ours ≡ router_open → length (spoken_octets (says channel (AnOpen ours))) ≤ 512
  open_short ours is = subst (λ o. length (spoken_octets (says channel (AnOpen o))) ≤ 512) (sym is) (open_fits channel)

  pub begin_short : (ours : Begin) → ours ≡ begin_answer channel → length (spoken_octets (says channel (ABegin ours))) ≤ 512
  begin_short ours is = subst (λ b. length (spoken_octets (says channel (ABegin b))) ≤ 512) (sym is) (begin_fits channel)

  pub close_short : (error : Option (List ℕ)) (condition : Option ErrorCondition) → error ≡ error_of condition → length (spoken_octets (says channel (AClose error))) ≤ 512
  close_short error condition is = subst (λ e. length (spoken_octets (says channel (AClose e))) ≤ 512) (sym is) (close_fits channel condition)

  pub end_short : (error : Option (List ℕ)) (condition : Option ErrorCondition) → error ≡ error_of condition → length (spoken_octets (says channel (AnEnd error))) ≤ 512
  end_short error condition is = subst (λ e. length (spoken_octets (says channel (AnEnd e))) ≤ 512) (sym is) (end_fits channel condition)

  pub detach_short : (ours : DetachFields) (handle : ℕ) (closed : Bool) (condition : Option ErrorCondition) → ours ≡ detach_with handle closed condition
      → length (spoken_octets (says channel (ADetach ours))) ≤ 512
  detach_short ours handle closed condition is = subst (λ d. length (spoken_octets (says channel (ADetach d))) ≤ 512) (sym is) (detach_fits channel handle closed condition)

  module _ (ours theirs : AttachFields) where
    pub producer_short : (address : List ℕ) → ours ≡ attach_to_producer theirs address → length theirs.name ≤ MAX_LINK_NAME → length address ≤ MAX_ADDRESS
        → length (spoken_octets (says channel (AnAttach ours))) ≤ 512
    producer_short address is named short = subst (λ a. length (spoken_octets (says channel (AnAttach a))) ≤ 512) (sym is) (producer_fits channel theirs named address short)

    pub anonymous_short : ours ≡ attach_to_anonymous theirs → length theirs.name ≤ MAX_LINK_NAME → length (spoken_octets (says channel (AnAttach ours))) ≤ 512
    anonymous_short is named = subst (λ a. length (spoken_octets (says channel (AnAttach a))) ≤ 512) (sym is) (anonymous_fits channel theirs named)

    pub consumer_short : (address : List ℕ) (made : Bool) (mode : SenderSettleMode) → ours ≡ attach_to_consumer theirs address made mode → length theirs.name ≤ MAX_LINK_NAME
        → length address ≤ MAX_ADDRESS → length (spoken_octets (says channel (AnAttach ours))) ≤ 512
    consumer_short address made mode is named short =
        subst (λ a. length (spoken_octets (says channel (AnAttach a))) ≤ 512) (sym is) (consumer_fits channel theirs named address short made mode)

    pub refused_short : ours ≡ attach_refused theirs → length theirs.name ≤ MAX_LINK_NAME → length (spoken_octets (says channel (AnAttach ours))) ≤ 512
    refused_short is named = subst (λ a. length (spoken_octets (says channel (AnAttach a))) ≤ 512) (sym is) (refused_fits channel theirs named)

pub close_can : (error : Option (List ℕ)) (condition : Option ErrorCondition) → error ≡ error_of condition → IsWritable (AClose error)
close_can error condition is = subst (λ e. IsWritable (AClose e)) (sym is) (again.close_writable condition)

pub end_can : (error : Option (List ℕ)) (condition : Option ErrorCondition) → error ≡ error_of condition → IsWritable (AnEnd error)
end_can error condition is = subst (λ e. IsWritable (AnEnd e)) (sym is) (again.end_writable condition)
