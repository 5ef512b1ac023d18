-- The values of fields may stand at any depth.
use Rattle.std.proofs.Common.{ℕ, suc, ◌<◌, ◌^◌, List, Bool, Option, Some, None, option_map, IsUtf8, true, false}
use Rattle.amqp_types.specs.declared.code.Text.TheVariants as texts
use Rattle.amqp_types.specs.Part.{Seen}
use Rattle.amqp_types.proofs.Written.{boolean_written, ubyte_written, ushort_written, uint_written, ulong_written, text_written}
use Rattle.amqp_perf.specs.declared.attach.Role.{Role}
use Rattle.amqp_perf.specs.declared.attach.Role.TheVariants.{Sender, Receiver}
use Rattle.amqp_perf.specs.declared.attach.SenderSettleMode.{SenderSettleMode}
use Rattle.amqp_perf.specs.declared.attach.SenderSettleMode.TheVariants.{Unsettled, Settled, Mixed}
use Rattle.amqp_perf.specs.declared.attach.ReceiverSettleMode.{ReceiverSettleMode}
use Rattle.amqp_perf.specs.declared.attach.ReceiverSettleMode.TheVariants.{First, Second}
use Rattle.amqp_perf.specs.Slots.{boolean_value, ushort_value, uint_value, ulong_value, text_value, IsShort, CanStand}
use Rattle.amqp_perf.specs.Writing.{role_value, sender_mode_value, receiver_mode_value, IfThere}

-- a field that can be written, however deep
abbrev CanStandAnywhere : Option Seen → Type 0
CanStandAnywhere field = (levels : ℕ) → CanStand (suc levels) field

pub uint_can : (n : ℕ) → n < 2 ^ 32 → CanStandAnywhere (Some (uint_value n))
uint_can n fits = λ levels. ((uint_written n fits).is levels, tt)

pub ushort_can : (n : ℕ) → n < 2 ^ 16 → CanStandAnywhere (Some (ushort_value n))
ushort_can n fits = λ levels. ((ushort_written n fits).is levels, tt)

pub ulong_can : (n : ℕ) → n < 2 ^ 64 → CanStandAnywhere (Some (ulong_value n))
ulong_can n fits = λ levels. ((ulong_written n fits).is levels, tt)

pub flag_can : (value : Option Bool) → CanStandAnywhere (option_map boolean_value value)
flag_can None = λ levels. tt
flag_can (Some truth) = λ levels. ((boolean_written truth).is levels, tt)

pub role_can : (role : Role) → CanStandAnywhere (Some (role_value role))
role_can Sender = λ levels. ((boolean_written false).is levels, tt)
role_can Receiver = λ levels. ((boolean_written true).is levels, tt)

pub sender_mode_can : (mode : Option SenderSettleMode) → CanStandAnywhere (option_map sender_mode_value mode)
sender_mode_can None = λ levels. tt
sender_mode_can (Some Unsettled) = λ levels. ((ubyte_written 0).is levels, tt)
sender_mode_can (Some Settled) = λ levels. ((ubyte_written 1).is levels, tt)
sender_mode_can (Some Mixed) = λ levels. ((ubyte_written 2).is levels, tt)

pub receiver_mode_can : (mode : Option ReceiverSettleMode) → CanStandAnywhere (option_map receiver_mode_value mode)
receiver_mode_can None = λ levels. tt
receiver_mode_can (Some First) = λ levels. ((ubyte_written 0).is levels, tt)
receiver_mode_can (Some Second) = λ levels. ((ubyte_written 1).is levels, tt)

pub binary_can : (octets : Option (List ℕ)) → IfThere IsShort octets → CanStandAnywhere (option_map (text_value texts.Binary) octets)
binary_can None few = λ levels. tt
binary_can (Some content) few = λ levels. ((text_written texts.Binary content few tt).is levels, (few, tt))

pub text_can : (content : List ℕ) → IsShort content → IsUtf8 content → CanStandAnywhere (Some (text_value texts.Str content))
text_can content few is = λ levels. ((text_written texts.Str content few is).is levels, (few, is))
