use Rattle.std.proofs.Common.{◌≡◌, ap, sym, ◌∙◌, ◌==◌, ◌++◌, ◌∷◌, [], ℕ, true, false, get_or, rules}
use Rattle.std.specs.List.{list_any}
use Rattle.state_tables.specs.declared.copies.Receiver.{Receiver}
use Rattle.state_tables.proofs.CopyNumbers.{or_false}
use Rattle.state_tables.proofs.TableSteps.{joined-any, room-more}
use Rattle.state_tables.proofs.copies.Copies.with_room.Goals as goal
use Rattle.state_tables.proofs.copies.Copies.with_room.Goals.{then-has_room+in_ok-push, else-has_room}

abbrev any_one : Receiver
any_one = record { link = 0; credit = 0 }

pub loop-receiver-preserved : goal.loop-receiver-preserved
loop-receiver-preserved c = λ counts are link.
    let i = c.loop-receiver.receiver-index in
    let r = get_or c.args.receivers.now i any_one in
    let was = c.loop-receiver.invariant counts are link in
    elim c.if-has_room.branch [
      | then-has_room+in_ok-push w ↦
          let pushed : c.if-has_room.due.items ≡ c.loop-receiver.due.items ++ (r.link ∷ []) = search rules in
          room-more c.args.receivers.now i any_one c.loop-receiver-test.true counts link (list_any (λ m. m == link) c.loop-receiver.due.items) _ true was
          (sym w.if-has_room.true ∙ c.has_room.ensures (counts r.link) (λ ns each among. are r.link ns each among))
          (ap (λ ns. list_any (λ (m : ℕ). m == link) ns) pushed ∙ joined-any link r.link c.loop-receiver.due.items)
      | else-has_room w ↦
          let same : c.if-has_room.due.items ≡ c.loop-receiver.due.items = search rules in
          room-more c.args.receivers.now i any_one c.loop-receiver-test.true counts link (list_any (λ m. m == link) c.loop-receiver.due.items) _ false was
          (sym w.if-has_room.false ∙ c.has_room.ensures (counts r.link) (λ ns each among. are r.link ns each among))
          (ap (λ ns. list_any (λ (m : ℕ). m == link) ns) same ∙ sym (or_false (list_any (λ m. m == link) c.loop-receiver.due.items)))
    ]
