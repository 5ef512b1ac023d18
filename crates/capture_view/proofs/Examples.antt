-- What octets say that are known, and what they do not say.
use Rattle.std.proofs.Common.{◌≡◌, ℕ, true, false, List, [], ◌∷◌, None, Some, Ok, Err, codes, refl}
use Rattle.amqp_frames.specs.declared.fault.FrameFault.TheVariants.{TooSmall, TooLarge, BadOffset, WrongType}
use Rattle.amqp_frames.specs.declared.frame.FrameKind.{FrameKind}
use Rattle.amqp_frames.specs.declared.frame.FrameKind.TheVariants.{Amqp, Sasl}
use Rattle.amqp_frames.specs.Frame.{Frame}
use Rattle.amqp_types.specs.Part.{Part, Null, Boolean, Uint, Seen}
use Rattle.amqp_perf.specs.Meaning.{Meaning}
use Rattle.amqp_perf.specs.declared.descriptor.Outcome.TheVariants.{Accepted, Rejected, Released, Modified}
use Rattle.amqp_perf.specs.declared.fault.PerfFault.TheVariants.{NotPerformative}
use Rattle.capture_form.specs.declared.records.What.TheVariants as whats
use Rattle.capture_view.specs.declared.said.FrameFlaw.TheVariants as flaws
use Rattle.capture_view.specs.Saying.{NoFrame, NoBody, NoPerformative, Says, fault_place, said_as, said_of, said_read}
use Rattle.capture_view.specs.State.{condition_by, condition_of, describes_error, modified_by, modified_of, names_error, says_true}
use Rattle.capture_view.specs.Viewed.{Opened, Lost, Broken, happened_in}

-- ---- frames

-- an empty frame of eight octets on channel 3
abbrev whole : List ℕ
whole = 0 ∷ 0 ∷ 0 ∷ 8 ∷ 2 ∷ 0 ∷ 0 ∷ 3 ∷ []

abbrev empty : FrameKind → Frame
empty kind = record { kind = kind; channel = 3; body = []; octets = whole }

is_empty : said_of whole (empty Amqp) ≡ NoBody 3
is_empty = refl

-- an octet behind the frame is a flaw, where it stands
is_long : said_of (0 ∷ 0 ∷ 0 ∷ 8 ∷ 2 ∷ 0 ∷ 0 ∷ 3 ∷ 0 ∷ []) (empty Amqp) ≡ NoFrame flaws.Long 8
is_long = refl

of_sasl : said_of whole (empty Sasl) ≡ NoFrame flaws.Sasl 5
of_sasl = refl

is_short : said_read (0 ∷ 0 ∷ 0 ∷ 8 ∷ []) (Ok None) ≡ NoFrame flaws.Short 4
is_short = refl

is_none : said_read whole (Err BadOffset) ≡ NoFrame (flaws.Fault BadOffset) 4
is_none = refl

places : fault_place TooSmall ∷ fault_place TooLarge ∷ fault_place BadOffset ∷ fault_place WrongType ∷ [] ≡ 0 ∷ 0 ∷ 4 ∷ 5 ∷ []
places = refl

-- ---- performatives

abbrev with_body : Frame
with_body = record { kind = Amqp; channel = 3; body = 64 ∷ []; octets = 0 ∷ 0 ∷ 0 ∷ 9 ∷ 2 ∷ 0 ∷ 0 ∷ 3 ∷ 64 ∷ [] }

-- a body that is no performative is one from its first octet on
no_performative : said_as with_body (Err NotPerformative) ≡ NoPerformative 3 NotPerformative 8
no_performative = refl

says : (meaning : Meaning) (rest : List ℕ) → said_as with_body (Ok (meaning, rest)) ≡ Says 3 meaning rest
says meaning rest = refl

-- ---- states

of_code : describes_error (Some 0x1D) None ≡ true
of_code = refl

of_another_code : describes_error (Some 0x1E) (Some (codes "amqp:error:list")) ≡ false
of_another_code = refl

of_name : describes_error None (Some (codes "amqp:error:list")) ≡ true
of_name = refl

of_another_name : names_error (Some (codes "amqp:error")) ≡ false
of_another_name = refl

of_no_name : names_error None ≡ false
of_no_name = refl

-- only a rejected state tells a condition
told_by_none : (octets : List ℕ) → (condition_by (Some Accepted) octets ≡ None) × (condition_by (Some Released) octets ≡ None)
    × (condition_by (Some Modified) octets ≡ None) × (condition_by None octets ≡ None)
told_by_none octets = (refl, refl, refl, refl)

no_list : condition_of None ≡ None
no_list = refl

-- ---- modified states

-- a field, apart from its octets
abbrev field : Part → Seen
field part = record { octets = []; part = part }

is_true : says_true (field (Boolean true)) ≡ true
is_true = refl

is_false : says_true (field (Boolean false)) ≡ false
is_false = refl

-- null says nothing, nor does a number
is_null : says_true (field Null) ≡ false
is_null = refl

is_a_number : says_true (field (Uint 1)) ≡ false
is_a_number = refl

-- the first field is of the delivery, the second of this consumer
failed : modified_of (Some (field Null, field (Boolean true) ∷ [])) ≡ Some (record { delivery_failed = true; undeliverable_here = false })
failed = refl

undeliverable : modified_of (Some (field Null, field Null ∷ field (Boolean true) ∷ []))
    ≡ Some (record { delivery_failed = false; undeliverable_here = true })
undeliverable = refl

says_nothing : modified_of (Some (field Null, [])) ≡ Some (record { delivery_failed = false; undeliverable_here = false })
says_nothing = refl

-- only a modified state says it
said_by_none : (octets : List ℕ) → (modified_by (Some Accepted) octets ≡ None) × (modified_by (Some Released) octets ≡ None)
    × (modified_by (Some Rejected) octets ≡ None) × (modified_by None octets ≡ None)
said_by_none octets = (refl, refl, refl, refl)

-- ---- records

opened : happened_in whats.Opened ≡ Opened
opened = refl

lost : happened_in whats.Lost ≡ Lost
lost = refl

broken : happened_in whats.Broken ≡ Broken
broken = refl
