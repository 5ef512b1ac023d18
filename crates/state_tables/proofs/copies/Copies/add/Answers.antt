use Rattle.std.proofs.Common.{ap, sym, ◌∙◌, ◌&&◌, ◌||◌, ◌==◌, true, false}
use Rattle.std.proofs.lemmas.List.{take_all}
use Rattle.state_tables.specs.Copies.{has_room, stands}
use Rattle.state_tables.proofs.CopyNumbers.{and_false}
use Rattle.state_tables.proofs.TableSteps.{one-more}
use Rattle.state_tables.proofs.copies.Copies.add.Goals as goal
use Rattle.state_tables.proofs.copies.Copies.add.Goals.{then-has_room+in_ok-insert, else-has_room}

pub loop-receiver-init : goal.loop-receiver-init
loop-receiver-init c = λ counts are link n. sym (ap (λ b. b || stands c.args.self.now link n) (and_false (n == c.args.number)))

pub loop-receiver-preserved : goal.loop-receiver-preserved
loop-receiver-preserved c = λ counts are.
    elim c.if-has_room.branch [
      | then-has_room+in_ok-insert w ↦
          one-more c.args.receivers.now c.loop-receiver.receiver-index (record { link = 0; credit = 0 }) c.loop-receiver-test.true c.args.number counts (stands c.args.self.now) (stands c.loop-receiver.self) (stands c.if-has_room.self) true
          (c.loop-receiver.invariant counts are)
          (λ same. sym w.if-has_room.true ∙ c.has_room.ensures (counts _) (λ ns each among. are _ ns each (λ m. among m ∙ same m)))
          (λ link n. ap (λ t. stands t link n) w.self-is ∙ w.in_ok-insert.ensures.joined link n)
      | else-has_room w ↦
          one-more c.args.receivers.now c.loop-receiver.receiver-index (record { link = 0; credit = 0 }) c.loop-receiver-test.true c.args.number counts (stands c.args.self.now) (stands c.loop-receiver.self) (stands c.if-has_room.self) false
          (c.loop-receiver.invariant counts are)
          (λ same. sym w.if-has_room.false ∙ c.has_room.ensures (counts _) (λ ns each among. are _ ns each (λ m. among m ∙ same m)))
          (λ link n. ap (λ t. stands t link n) w.self-is)
    ]

pub returns : goal.returns
returns c = λ counts are link n.
    c.loop-receiver.invariant counts are link n
    ∙ ap (λ rs. n == c.args.number && has_room rs link (counts link) || stands c.args.self.now link n) (take_all c.loop-receiver.receiver-index c.args.receivers.now c.loop-receiver-test.false)
