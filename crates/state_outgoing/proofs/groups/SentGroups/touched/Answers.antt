use Rattle.std.proofs.Common.{◌≡◌, refl, ap, Bool, false, ◌||◌, nat_eq, subst, IfSome}
use Rattle.std.specs.List.{list_any}
use Rattle.number_groups.specs.Groups.{is_member}
use Rattle.trace_events.specs.Words.{is_number, is_some_and}
use Rattle.trace_events.specs.View.{link_view}
use Rattle.state_tables.proofs.GroupLists.{any-map}
use Rattle.state_outgoing.specs.IdRanges.{IsCounted}
use Rattle.state_outgoing.specs.SentTouched.{finds}
use Rattle.state_outgoing.proofs.groups.SentGroups.touched.Goals as goal

-- four sets of numbers, one after the other
four-in : (none one two three four p q r s p' r' s' : Bool) → none ≡ false → one ≡ none || p → two ≡ one || q → three ≡ two || r → four ≡ three || s
    → p ≡ p' → r ≡ r' → s ≡ s' → four ≡ p' || q || r' || s'
four-in none one two three four p q r s p' r' s' a b c d e f g h = rw (e, d, c, b, a, f, g, h) refl

pub returns-clause-touched : goal.returns-clause-touched
returns-clause-touched c = λ n.
    four-in _ _ _ _ _ _ _ _ _ _ _ _ (ap (list_any (nat_eq n)) c.new-touched.ensures) (c.in_ok-add_number.ensures.added n) (c.in_ok-add_number-2.ensures.added n) (c.in_ok-add_spoken.ensures n) (c.in_ok-add_all_of.ensures n)
    (ap (λ o. is_number o n) c.part_number.ensures) (ap (λ o. is_some_and o (λ ids. finds c.args.self.now ids n)) c.spoken_ids.ensures.ids)
    (any-map link_view (λ l. is_member nat_eq c.args.self.now.of_link l.number n) c.args.ended.now)

pub returns-clause-counted : goal.returns-clause-counted
returns-clause-counted c = subst (λ o. IfSome o IsCounted) c.spoken_ids.ensures.ids c.spoken_ids.ensures.counted
