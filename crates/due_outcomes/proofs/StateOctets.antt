-- A disposition with a state in given octets, as it is written and read.
use Rattle.std.proofs.Common.{◌≡◌, sym, ap, subst, ◌∙◌, ℕ, true, List, [], ◌∷◌, Option, Some, None, arith}
use Rattle.amqp_types.specs.Part.{Seen}
use Rattle.amqp_types.specs.Writing.{levels_in_described}
use Rattle.amqp_perf.specs.Grammar.{IsPerformative}
use Rattle.amqp_perf.specs.Meaning.{ADisposition, DispositionFields}
use Rattle.amqp_perf.specs.Nested.{StateFields}
use Rattle.amqp_perf.specs.Router.{FitsFrame, outcome_told}
use Rattle.amqp_perf.specs.Slots.{AllCanStand, AreShort, CanStand, boolean_value, fields_octets, kept_value, uint_value}
use Rattle.amqp_perf.specs.Writing.{IfThere, IsWritableState, disposition_slots, performative_octets}
use Rattle.amqp_perf.proofs.NestedAgain.{disposition_again, state_can}
use Rattle.amqp_perf.proofs.SlotValues.{flag_can, uint_can}
use Rattle.amqp_perf.proofs.Writable.{outcome_writable}
use Rattle.route_dues.specs.Outcomes.{HasState, octets_in}

abbrev pub slots_with : List ℕ → List (Option Seen)
slots_with octets = Some (boolean_value true) ∷ Some (uint_value 0) ∷ None ∷ Some (boolean_value true) ∷ Some (kept_value octets) ∷ []

module _ (octets : List ℕ) (has : HasState octets) where
  abbrev pub told : DispositionFields
  told = outcome_told 0 (Some has.state)

  same-slots : slots_with octets ≡ disposition_slots told
  same-slots = ap slots_with (sym has.same)

  pub slots-can : AllCanStand levels_in_described (slots_with octets)
  slots-can = (
    flag_can (Some true) 29,
    (uint_can 0 (omega arith) 29, (tt, (flag_can (Some true) 29, (subst (λ xs. CanStand levels_in_described (Some (kept_value xs))) has.same (state_can (Some has.state) has.writable), tt)))),
  )

  pub slots-few : AreShort (slots_with octets)
  slots-few = subst AreShort (sym same-slots) (outcome_writable 0 (Some has.state) has.writable has.short).few

  pub slots-octets : fields_octets 0x15 (slots_with octets) ≡ performative_octets (ADisposition told)
  slots-octets = ap (fields_octets 0x15) same-slots

  -- what is written is such a disposition
  pub told-again : IsPerformative (performative_octets (ADisposition told)) (ADisposition told)
  told-again = disposition_again told (subst (AllCanStand levels_in_described) same-slots slots-can) (outcome_writable 0 (Some has.state) has.writable has.short)

  -- the state that it tells
  pub told-octets : (state : Option StateFields) → state ≡ Some has.state → octets_in state ≡ Some octets
  told-octets state is = ap octets_in is ∙ ap Some has.same

  pub told-writable : (state : Option StateFields) → state ≡ Some has.state → IfThere IsWritableState state
  told-writable state is = subst (IfThere IsWritableState) (sym is) has.writable

  pub told-short : (state : Option StateFields) → state ≡ Some has.state → IfThere FitsFrame state
  told-short state is = subst (IfThere FitsFrame) (sym is) has.short
