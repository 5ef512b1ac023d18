-- In a lawful capture each delivery to a client carries the octets of the delivery that its note names, to a link of
-- that delivery's address.
use Rattle.std.proofs.Common.{◌≡◌, refl, sym, ap, ◌∙◌, subst, ℕ, List, ◌∷◌, ◌++◌, length, take, cond, Bool, true, false, Option, Some, None, IfSome, IsSomeAnd, option_and_then, eq-eqb, take_all, ◌==◌, le_refl}
use lib.Pointwise.{bytes_decides}
use Rattle.amqp_perf.specs.Meaning.{ATransfer, TransferFields, flag}
use Rattle.capture_form.specs.declared.records.Record.{Record}
use Rattle.capture_form.specs.Rules.{RuleSet}
use Rattle.trace_events.specs.declared.clause.Clause.TheVariants.{L7, L8}
use Rattle.trace_events.specs.Words.{is_some_and}
use Rattle.trace_events.specs.Frame.{Frame, Spoken, spoken_in}
use Rattle.trace_events.specs.Event.{Event, Link, Incoming, Outgoing, Out, out_frame}
use Rattle.trace_events.specs.Said.{as_transfer, out_spoken}
use Rattle.trace_events.specs.Incoming.{address_of, is_complete, part_payload}
use Rattle.trace_events.specs.Incoming as incoming
use Rattle.trace_events.specs.Outgoing.{noted}
use Rattle.trace_events.specs.Outgoing as outgoing
use Rattle.trace_events.specs.TransferClause.{carries, carries_its_octets, names_what_may_go, to_carry, has_address_and_form, is_payload_so_far}
use Rattle.trace_events.specs.Clauses.{first_broken, meaning_meets}
use Rattle.trace_events.specs.History.{history}
use Rattle.trace_events.specs.Kept.{HasCarried, WentToAddress, AreFirst, AtEach}
use Rattle.trace_events.proofs.ClausesMet.{met}
use Rattle.trace_events.proofs.WrittenFrames.{of_written, where_some, at_each, transfer-is}
use Rattle.trace_events.proofs.OneConsumer.{some-and, and-left, passes-some}
use Rattle.trace_events.proofs.Within.{some-each}

so-far : (more : Bool) (whole so_far : List ℕ) → is_payload_so_far more whole so_far ≡ true
    → AreFirst so_far whole × (more ≡ false → so_far ≡ whole)
so-far true whole so_far e = ((bytes_decides so_far (take (length so_far) whole)).0 e, λ no. absurd cc)
so-far false whole so_far e =
    let same : so_far ≡ whole = sym ((bytes_decides whole so_far).0 e) in
    (same ∙ sym (ap (λ xs. take (length xs) whole) same ∙ take_all (length whole) whole (le_refl (length whole))), λ no. same)

module _ (rules : RuleSet) (e : Event) (past : List Event) (lawful : first_broken rules (e ∷ past) ≡ None) (frame : Frame) (spoken : Spoken)
    (written : e.moment ≡ Out frame) (says : spoken_in frame.body ≡ Some spoken) (fields : TransferFields) (means : spoken.meaning ≡ ATransfer fields) where
  seven : is_some_and e.link (names_what_may_go rules e fields past) ≡ true
  seven = sym (ap (λ m. meaning_meets rules e spoken past m L7) means) ∙ met rules e past lawful frame written spoken says L7

  eight : carries_its_octets rules e fields spoken.payload past ≡ true
  eight = sym (ap (λ m. meaning_meets rules e spoken past m L8) means) ∙ met rules e past lawful frame written spoken says L8

  -- the link that the transfer names has the address of the delivery
  addressed : IsSomeAnd (noted e.note past) (λ d. IsSomeAnd e.link (λ l. l.address ≡ address_of d past))
  addressed =
      let l = some-and e.link (names_what_may_go rules e fields past) seven in
      let d = some-and (to_carry rules e.note past) (has_address_and_form e l.0 fields past) l.2 in
      let is = passes-some _ (noted e.note past) d.0 d.1 in
      let here : l.0.address ≡ address_of d.0 past = sym ((bytes_decides (address_of d.0 past) l.0.address).0 (and-left _ _ d.2)) in
      subst (λ o. IsSomeAnd o (λ (d : Incoming). IsSomeAnd e.link (λ l. l.address ≡ address_of d past))) (sym is.0)
      (subst (λ o. IsSomeAnd o (λ (m : Link). m.address ≡ address_of d.0 past)) (sym l.1) here)

  joined : (j : Outgoing) → e.outgoing ≡ Some j → outgoing.payload j (e ∷ past) ≡ outgoing.payload j past ++ spoken.payload
  joined j is =
      let part : outgoing.is_part j e ≡ true = ap (λ (o : Option Outgoing). is_some_and o (λ other. other.number == j.number)) is ∙ eq-eqb j.number j.number refl in
      let said : out_spoken e ≡ Some spoken = ap (λ m. option_and_then (λ (f : Frame). spoken_in f.body) (out_frame m)) written ∙ says in
      ap (λ b. cond b (outgoing.payload j past ++ part_payload (out_spoken e)) (outgoing.payload j past)) part
      ∙ ap (λ o. outgoing.payload j past ++ part_payload o) said

  carried : IsSomeAnd (noted e.note past) (λ d. IsSomeAnd e.outgoing (λ j.
      (is_complete d past ≡ true) × AreFirst (outgoing.payload j (e ∷ past)) (incoming.payload d past)
      × (flag fields.more ≡ false → outgoing.payload j (e ∷ past) ≡ incoming.payload d past)))
  carried =
      let d = some-and (to_carry rules e.note past) (λ d. is_some_and e.outgoing (λ j. carries j fields spoken.payload past d)) eight in
      let is = passes-some _ (noted e.note past) d.0 d.1 in
      subst (λ o. IsSomeAnd o (λ (d : Incoming). IsSomeAnd e.outgoing (λ j.
      (is_complete d past ≡ true) × AreFirst (outgoing.payload j (e ∷ past)) (incoming.payload d past)
      × (flag fields.more ≡ false → outgoing.payload j (e ∷ past) ≡ incoming.payload d past)))) (sym is.0)
      (some-each e.outgoing (λ j. carries j fields spoken.payload past d.0) _ d.2 (λ j is_j.
      let here : carries j fields spoken.payload past d.0 ≡ true = sym (ap (λ o. is_some_and o (λ k. carries k fields spoken.payload past d.0)) is_j) ∙ d.2 in
      let h = so-far (flag fields.more) (incoming.payload d.0 past) (outgoing.payload j past ++ spoken.payload) here in
      let all = joined j is_j in
      (and-left _ _ is.1, subst (λ xs. AreFirst xs (incoming.payload d.0 past)) (sym all) h.0, λ last. all ∙ h.1 last)))

module _ (rules : RuleSet) (e : Event) (past : List Event) (lawful : first_broken rules (e ∷ past) ≡ None) where
  abbrev Carried : TransferFields → Type 0
  Carried fields = IsSomeAnd (noted e.note past) (λ d. IsSomeAnd e.outgoing (λ j.
      (is_complete d past ≡ true) × AreFirst (outgoing.payload j (e ∷ past)) (incoming.payload d past)
      × (flag fields.more ≡ false → outgoing.payload j (e ∷ past) ≡ incoming.payload d past)))

  means-carried : (frame : Frame) (spoken : Spoken) → e.moment ≡ Out frame → spoken_in frame.body ≡ Some spoken → IfSome (as_transfer spoken.meaning) Carried
  means-carried frame spoken written says =
      where_some (as_transfer spoken.meaning) Carried (λ fields is.
      carried rules e past lawful frame spoken written says fields (transfer-is spoken.meaning fields is))

  has-carried : HasCarried e past
  has-carried = of_written as_transfer e Carried means-carried

  abbrev Addressed : TransferFields → Type 0
  Addressed fields = IsSomeAnd (noted e.note past) (λ d. IsSomeAnd e.link (λ l. l.address ≡ address_of d past))

  means-addressed : (frame : Frame) (spoken : Spoken) → e.moment ≡ Out frame → spoken_in frame.body ≡ Some spoken → IfSome (as_transfer spoken.meaning) Addressed
  means-addressed frame spoken written says =
      where_some (as_transfer spoken.meaning) Addressed (λ fields is.
      addressed rules e past lawful frame spoken written says fields (transfer-is spoken.meaning fields is))

  went-to-address : WentToAddress e past
  went-to-address = of_written as_transfer e Addressed means-addressed

-- the laws of a capture
pub lawful-addressed : (rules : RuleSet) (rs : List Record) → first_broken rules (history rules rs) ≡ None → AtEach WentToAddress (history rules rs)
lawful-addressed rules rs lawful = at_each rules WentToAddress (went-to-address rules) (history rules rs) lawful

pub lawful-carried : (rules : RuleSet) (rs : List Record) → first_broken rules (history rules rs) ≡ None → AtEach HasCarried (history rules rs)
lawful-carried rules rs lawful = at_each rules HasCarried (has-carried rules) (history rules rs) lawful
