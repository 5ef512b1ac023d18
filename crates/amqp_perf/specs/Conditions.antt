-- The names of the conditions of errors (part 2 of the standard, sections 2.8.15 to 2.8.18).
use Rattle.std.specs.Prelude.{ℕ, List, codes}
use Rattle.amqp_perf.specs.declared.condition.ErrorCondition.{ErrorCondition}
use Rattle.amqp_perf.specs.declared.condition.ErrorCondition.TheVariants.{FramingError, DecodeError, NotAllowed, InvalidField, HandleInUse, ResourceLimitExceeded, NotImplemented, WindowViolation, UnattachedHandle, TransferLimitExceeded, MessageSizeExceeded}

-- the name of a condition
abbrev pub condition_name : ErrorCondition → List ℕ
condition_name FramingError = codes "amqp:connection:framing-error"
condition_name DecodeError = codes "amqp:decode-error"
condition_name NotAllowed = codes "amqp:not-allowed"
condition_name InvalidField = codes "amqp:invalid-field"
condition_name HandleInUse = codes "amqp:session:handle-in-use"
condition_name ResourceLimitExceeded = codes "amqp:resource-limit-exceeded"
condition_name NotImplemented = codes "amqp:not-implemented"
condition_name WindowViolation = codes "amqp:session:window-violation"
condition_name UnattachedHandle = codes "amqp:session:unattached-handle"
condition_name TransferLimitExceeded = codes "amqp:link:transfer-limit-exceeded"
condition_name MessageSizeExceeded = codes "amqp:link:message-size-exceeded"
