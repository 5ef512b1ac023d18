use Rattle.std.proofs.Common.{◌≡◌, ◌∙◌, ◌||◌, ◌<◌, ◌+◌, ℕ, Bool, List, ap, get_or, length, take, true}
use Rattle.std.specs.List.{list_any}
use Rattle.state_tables.proofs.GroupLists.{nothing-yet, each-more, each-in}
use Rattle.due_lists.specs.AddressesToTry.{is_consumer_to, is_to_try}
use Rattle.due_lists.proofs.AwakeMoves.{or-swapped}
use Rattle.due_lists.proofs.addresses_to_try.AddressesToTry.add_ended.Goals as goal

-- one more passes, told in front of those before it
each-first : {A : Type 0} (p : A → Bool) (xs : List A) (i : ℕ) (d : A) (first now next : Bool) → i < length xs → now ≡ first || list_any p (take i xs) → next ≡ p (get_or xs i d) || now
    → next ≡ first || list_any p (take (i + 1) xs)
each-first p xs i d first now next lt was added = each-more p xs i d first now next lt was (added ∙ or-swapped (p (get_or xs i d)) now)

pub loop-link-init : goal.loop-link-init
loop-link-init c = λ at. nothing-yet (is_consumer_to at) c.args.ended.now (is_to_try c.args.self.now at)

pub loop-link-preserved : goal.loop-link-preserved
loop-link-preserved c = λ at.
    each-first (is_consumer_to at) c.args.ended.now c.loop-link.link-index _ (is_to_try c.args.self.now at) _ _ c.loop-link-test.true (c.loop-link.invariant at)
    (c.in_ok-add.ensures at ∙ ap (λ b. b || is_to_try c.loop-link.self at) (c.served.ensures at))

pub returns-clause-ended : goal.returns-clause-ended
returns-clause-ended c = λ at. each-in (is_consumer_to at) c.args.ended.now c.loop-link.link-index (is_to_try c.args.self.now at) _ c.loop-link-test.false (c.loop-link.invariant at)

pub returns-clause-kept : goal.returns-clause-kept
returns-clause-kept c = λ at was. returns-clause-ended c at ∙ ap (λ b. b || list_any (is_consumer_to at) c.args.ended.now) was
