-- A delivery to a client of which a next record is a part begins there, or is in progress on a live link.
use Rattle.std.proofs.Common.{◌≡◌, refl, ℕ, Bool, true, false, List, length, Option, Some, None, IfSome, option_and_then, ◌⊎◌, inl, inr, if◌then◌else◌}
use Rattle.amqp_perf.specs.Meaning.{Meaning, ATransfer, TransferFields}
use Rattle.pairing_cert.specs.declared.note.Note.{Note}
use Rattle.capture_form.specs.Rules.{RuleSet}
use Rattle.trace_events.specs.Words.{or_else, where_passes}
use Rattle.trace_events.specs.Frame.{Spoken, spoken_in}
use Rattle.trace_events.specs.Event.{Event, Link, Outgoing, Moment, Out}
use Rattle.trace_events.specs.Link.{is_consumer, IsLiveLink, NamesLive}
use Rattle.trace_events.specs.Outgoing.{in_progress}
use Rattle.trace_events.specs.History.{judge_unopened, placed, heard, faulted, outgoing_by, outgoing_part, new_outgoing}
use Rattle.trace_events.proofs.LiveLinks.{placed-names}

-- it begins behind these events, or is in progress on a live link
abbrev pub BeginsOrGoesOn : List Event → Outgoing → Type 0
BeginsOrGoesOn past j = (j.number ≡ length past) ⊎ ((l : Link) × IsLiveLink l past × (in_progress l past ≡ Some j))

module _ (e : Event) (past : List Event) (number : e.number ≡ length past) where
  on-link : (fields : TransferFields) (l : Link) → IsLiveLink l past → (o : Option Outgoing) → in_progress l past ≡ o
      → IfSome (or_else o (Some (new_outgoing e.number e.note fields l))) (BeginsOrGoesOn past)
  on-link fields l live None is = inl number
  on-link fields l live (Some j) is = inr (l, live, is)

  abbrev part_on : TransferFields → Option Link → Option Outgoing
  part_on fields o = option_and_then (λ (l : Link). or_else (in_progress l past) (Some (new_outgoing e.number e.note fields l))) o

  if-consumer : (fields : TransferFields) (l : Link) → IsLiveLink l past → (b : Bool) → IfSome (part_on fields (if b then Some l else None)) (BeginsOrGoesOn past)
  if-consumer fields l live true = on-link fields l live (in_progress l past) refl
  if-consumer fields l live false = tt

  on-named : (fields : TransferFields) (o : Option Link) → IfSome o (λ l. IsLiveLink l past) → IfSome (part_on fields (where_passes is_consumer o)) (BeginsOrGoesOn past)
  on-named fields None live = tt
  on-named fields (Some l) live = if-consumer fields l live (is_consumer l)

  by-meaning : NamesLive e past → (meaning : Meaning) → IfSome (outgoing_part e meaning past) (BeginsOrGoesOn past)
  by-meaning live (ATransfer fields) = on-named fields e.link live
  by-meaning live _ = tt

  by-spoken : NamesLive e past → (o : Option Spoken) → IfSome (option_and_then (λ (spoken : Spoken). outgoing_part e spoken.meaning past) o) (BeginsOrGoesOn past)
  by-spoken live None = tt
  by-spoken live (Some spoken) = by-meaning live spoken.meaning

  by-moment : NamesLive e past → (m : Moment) → IfSome (outgoing_by e m past) (BeginsOrGoesOn past)
  by-moment live (Out frame) = by-spoken live (spoken_in frame.body)
  by-moment live _ = tt

-- of a next record, before what it opens is filled in
pub outgoing-known : (rules : RuleSet) (past : List Event) (c : ℕ) (moment : Moment) (note : Note) → IfSome (judge_unopened rules past c moment note).outgoing (BeginsOrGoesOn past)
outgoing-known rules past c moment note =
    by-moment (faulted rules past (heard past (placed past c moment note))) past refl (placed-names past c moment note) moment
