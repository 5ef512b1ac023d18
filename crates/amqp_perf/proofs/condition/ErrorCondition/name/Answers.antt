use Rattle.amqp_perf.specs.declared.condition.ErrorCondition.TheVariants.{FramingError, DecodeError, NotAllowed, InvalidField, HandleInUse, ResourceLimitExceeded, NotImplemented, WindowViolation, UnattachedHandle, TransferLimitExceeded, MessageSizeExceeded}
use Rattle.amqp_perf.proofs.Conditions.{condition_writable}
use Rattle.amqp_perf.proofs.condition.ErrorCondition.name.Goals as goal

pub returns-in-FramingError-clause-writable : goal.returns-in-FramingError-clause-writable
returns-in-FramingError-clause-writable c = condition_writable FramingError

pub returns-in-DecodeError-clause-writable : goal.returns-in-DecodeError-clause-writable
returns-in-DecodeError-clause-writable c = condition_writable DecodeError

pub returns-in-NotAllowed-clause-writable : goal.returns-in-NotAllowed-clause-writable
returns-in-NotAllowed-clause-writable c = condition_writable NotAllowed

pub returns-in-InvalidField-clause-writable : goal.returns-in-InvalidField-clause-writable
returns-in-InvalidField-clause-writable c = condition_writable InvalidField

pub returns-in-HandleInUse-clause-writable : goal.returns-in-HandleInUse-clause-writable
returns-in-HandleInUse-clause-writable c = condition_writable HandleInUse

pub returns-in-ResourceLimitExceeded-clause-writable : goal.returns-in-ResourceLimitExceeded-clause-writable
returns-in-ResourceLimitExceeded-clause-writable c = condition_writable ResourceLimitExceeded

pub returns-in-NotImplemented-clause-writable : goal.returns-in-NotImplemented-clause-writable
returns-in-NotImplemented-clause-writable c = condition_writable NotImplemented

pub returns-in-WindowViolation-clause-writable : goal.returns-in-WindowViolation-clause-writable
returns-in-WindowViolation-clause-writable c = condition_writable WindowViolation

pub returns-in-UnattachedHandle-clause-writable : goal.returns-in-UnattachedHandle-clause-writable
returns-in-UnattachedHandle-clause-writable c = condition_writable UnattachedHandle

pub returns-in-TransferLimitExceeded-clause-writable : goal.returns-in-TransferLimitExceeded-clause-writable
returns-in-TransferLimitExceeded-clause-writable c = condition_writable TransferLimitExceeded

pub returns-in-MessageSizeExceeded-clause-writable : goal.returns-in-MessageSizeExceeded-clause-writable
returns-in-MessageSizeExceeded-clause-writable c = condition_writable MessageSizeExceeded
