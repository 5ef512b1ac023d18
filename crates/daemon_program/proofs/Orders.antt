-- Lines that are `quit`, and that are not.
use Rattle.std.proofs.Common.{◌≡◌, true, false, [], ◌∷◌, ◌++◌, codes, refl}
use Rattle.daemon_program.specs.declared.order.Order.TheVariants.{Begun, Qui}
use Rattle.daemon_program.specs.Orders.{has_quit}

alone : has_quit Begun (codes "quit" ++ 10 ∷ []) ≡ true
alone = refl

behind_others : has_quit Begun (codes "status" ++ 10 ∷ codes "quit" ++ 13 ∷ 10 ∷ []) ≡ true
behind_others = refl

-- in two reads
in_parts : has_quit Qui (codes "t" ++ 10 ∷ []) ≡ true
in_parts = refl

without_its_end : has_quit Begun (codes "quit") ≡ false
without_its_end = refl

in_a_longer_line : has_quit Begun (codes "quitting" ++ 10 ∷ codes "quit it" ++ 10 ∷ codes " quit" ++ 10 ∷ 10 ∷ []) ≡ false
in_a_longer_line = refl
