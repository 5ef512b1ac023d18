use Rattle.std.proofs.Common.{◌≡◌, sym, ap, subst, ◌∙◌, ◌<◌, inl, inr, ℕ, Some, length, nat_eq, slice_get}
use Rattle.number_groups.specs.Groups.{numbers}
use Rattle.trace_events.proofs.Parts.{holds_some}
use Rattle.due_lists.specs.UnsentNumbers.{Waits, copy_on}
use Rattle.due_lists.proofs.Listed.{among-more, kept-later}
use Rattle.due_lists.proofs.unsent_numbers.UnsentNumbers.touch_session.Goals as goal

pub loop-index-preserved : goal.loop-index-preserved
loop-index-preserved c =
    let all = numbers nat_eq c.args.self.now.of_session c.args.session in
    let i = c.loop-index.index in
    let new = c.touch_one.new.self in
    let touched = c.in_ok-touch_one.ensures in
    let below : i < length all = subst (λ k. i < k) c.count-index-end.ensures.count c.loop-index-test.true in (
      λ link k n among listed. elim (among-more all i link below among) [
        | inl before ↦
            let waits = c.loop-index.invariant.0 link k n before (sym (touched.kept.listed link k) ∙ listed) in
            (waits.0, touched.kept.waited waits.0 link waits.1)
        | inr here ↦
            let found : c.link_of-link.result ≡ Some link =
            c.link_of-link.ensures ∙ (ap (λ groups. slice_get (numbers nat_eq groups c.args.session) i) c.loop-index.invariant.1 ∙ here) in
            holds_some (λ number. (k n : ℕ) → copy_on new number k ≡ Some n → Waits new number) c.link_of-link.result link found touched.touched k n listed
      ],
      touched.sessions ∙ c.loop-index.invariant.1,
      kept-later c.args.self.now c.loop-index.self new c.loop-index.invariant.2 touched.kept,
    )
