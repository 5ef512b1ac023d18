use Rattle.capture_packets.proofs.Joining.{joined}
use Rattle.capture_packets.proofs.comment.push_note.Goals as goal

pub returns-in_ok-push_number-in-Pair-clause-text : goal.returns-in_ok-push_number-in-Pair-clause-text
returns-in_ok-push_number-in-Pair-clause-text c =
    rw c.in-Pair.is (joined _ _ _ _ _ c.in_ok-extend_from_slice-in-Pair.ensures.items c.in_ok-push_number-in-Pair.ensures.text)

pub returns-in_ok-extend_from_slice-in-Told-2-clause-text : goal.returns-in_ok-extend_from_slice-in-Told-2-clause-text
returns-in_ok-extend_from_slice-in-Told-2-clause-text c =
    rw (c.in-Told.is, ← c.why_words.ensures) (joined _ _ _ _ _ c.in_ok-extend_from_slice-in-Told.ensures.items c.in_ok-extend_from_slice-in-Told-2.ensures.items)
