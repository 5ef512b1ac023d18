-- What the code writes as a part of a delivery is the frame that is due.
use Rattle.std.proofs.Common.{◌≡◌, sym, ap, subst, ◌∙◌, ℕ, ◌-◌, ◌≤◌, ◌<◌, ◌^◌, Bool, true, List, [], length, take, min, nat_lt, arith, Result, Ok, Err}
use Rattle.std.specs.Prelude.{OnOk}
use Rattle.std.proofs.lemmas.List.{take_min, length-take}
use Rattle.std.specs.Int.{w32, to_be_bytes}
use Rattle.flow_counts.specs.declared.profile.TheConstants.{MAX_FRAME_SIZE}
use Rattle.amqp_perf.specs.Meaning.{ATransfer, TransferFields}
use Rattle.amqp_perf.specs.Router.{first_transfer}
use Rattle.amqp_perf.specs.Writing.{performative_octets}
use Rattle.trace_events.specs.Event.{Event, Link}
use Rattle.trace_events.specs.Connection.{frame_limit}
use Rattle.trace_events.specs.Frame.{Spoken}
use Rattle.trace_events.specs.Written.{spoken_octets, first_part}
use Rattle.route_dues.specs.Writing.{spoken_with, IsReadAgain}
use Rattle.route_dues.specs.Transfers.{filled_on}
use Rattle.route_answers.proofs.Lengths.{spoken_long}
use Rattle.route_dues.proofs.Lengths.{within}
use Rattle.route_dues.proofs.TransferLengths.{filled_fits}

module _ (l : Link) (of : Bool → TransferFields) (bare fields : TransferFields) (room m : ℕ) (rest : List ℕ)
    (least : m ≡ min room (length rest)) (first : bare ≡ of true) (second : fields ≡ of (nat_lt room (length rest))) where
  -- as long as its octets can be counted in four
  pub part_counted : ((more : Bool) → length (performative_octets (ATransfer (of more))) ≡ length (performative_octets (ATransfer (of true))))
      → length (performative_octets (ATransfer (of true))) ≤ 100 → (limit : ℕ) → limit < 2 ^ 32
      → room ≡ limit - length (spoken_octets (spoken_with l.session.channel (ATransfer bare) [])) → length (spoken_octets (spoken_with l.session.channel (ATransfer fields) (take m rest))) < 2 ^ 32
  part_counted same short limit low rooms =
      let more = nat_lt room (length rest) in
      let left : room ≡ limit - length (spoken_octets (spoken_with l.session.channel (ATransfer (of true)) [])) =
      rooms ∙ ap (λ x. limit - length (spoken_octets (spoken_with l.session.channel (ATransfer x) []))) first in
      subst (λ x. length (spoken_octets (spoken_with l.session.channel (ATransfer x) (take m rest))) < 2 ^ 32) (sym second)
      (omega (
        arith,
        left,
        low,
        short,
        same more,
        least,
        length-take m rest,
        spoken_long (spoken_with l.session.channel (ATransfer (of true)) []),
        spoken_long (spoken_with l.session.channel (ATransfer (of more)) (take m rest)),
      ))

  module _ (past : List Event) (rooms : room ≡ frame_limit l.session.connection past - length (spoken_octets (spoken_with l.session.channel (ATransfer bare) []))) where
    abbrev Of : ℕ → Spoken
    Of n = spoken_with l.session.channel (ATransfer (of (nat_lt n (length rest)))) (take n rest)

    pub part_written : spoken_with l.session.channel (ATransfer fields) (take m rest) ≡ filled_on past l of rest
    part_written =
        ap (λ x. spoken_with l.session.channel (ATransfer x) (take m rest)) second
        ∙ (ap (λ xs. spoken_with l.session.channel (ATransfer (of (nat_lt room (length rest)))) xs) (ap (λ n. take n rest) least ∙ take_min room rest)
        ∙ ap Of (rooms ∙ ap (λ x. frame_limit l.session.connection past - length (spoken_octets (spoken_with l.session.channel (ATransfer x) []))) first))

    pub part_again : (all : List ℕ) → rest ≡ all → ((more : Bool) → length (performative_octets (ATransfer (of more))) ≡ length (performative_octets (ATransfer (of true))))
        → length (performative_octets (ATransfer (of true))) ≤ 100
        → (length (spoken_octets (spoken_with l.session.channel (ATransfer fields) (take m rest))) ≤ MAX_FRAME_SIZE → IsReadAgain (spoken_with l.session.channel (ATransfer fields) (take m rest)))
        → IsReadAgain (filled_on past l of all)
    part_again all is same short read =
        let fits : length (spoken_octets (filled_on past l of rest)) ≤ MAX_FRAME_SIZE = within (spoken_octets (filled_on past l of rest)) l.session.connection past (filled_fits past l of rest same short) in
        subst (λ xs. IsReadAgain (filled_on past l of xs)) is
        (subst (λ (x : Spoken). IsReadAgain x) part_written
        (read (subst (λ (x : Spoken). length (spoken_octets x) ≤ MAX_FRAME_SIZE) (sym part_written) fits)))

-- what holds anyway holds where a call was answered
pub if_ok : {T E P : Type 0} (result : Result T E) → P → OnOk result P
if_ok (Ok x) is = is
if_ok (Err fault) is = tt

-- the room, by the client's limit
pub room_by : (room limit other bare : ℕ) → room ≡ limit - bare → limit ≡ other → room ≡ other - bare
room_by room limit other bare is same = is ∙ ap (λ n. n - bare) same

-- the tag of a first part is its id in four octets
pub tagged : (l : Link) (id : ℕ) (tag : List ℕ) (format : ℕ) (fields : TransferFields) (more : Bool) → fields ≡ first_transfer l.handle id tag format l.is_pre_settled more → tag ≡ to_be_bytes w32 id
    → fields ≡ first_part l id format more
tagged l id tag format fields more is same = is ∙ ap (λ octets. first_transfer l.handle id octets format l.is_pre_settled more) same
