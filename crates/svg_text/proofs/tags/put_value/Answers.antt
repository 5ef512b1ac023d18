use Rattle.std.proofs.Common.{refl}
use Rattle.std.specs.Str.{chars}
use Rattle.svg_text.proofs.Octets.{area_octets}
use Rattle.svg_text.proofs.Puts.{behind_others, joined}
use Rattle.svg_text.proofs.tags.put_value.Goals as goal

pub returns-in_ok-put_text-in-Area-2 : goal.returns-in_ok-put_text-in-Area-2
unfolding chars
returns-in_ok-put_text-in-Area-2 c =
    rw c.in-Area.is
    (behind_others _ _ _ _ _ _ _
    (joined _ _ _ _ _ _ (joined _ _ _ _ _ _ c.in_ok-put_text-in-Area.ensures c.in_ok-put_number-in-Area.ensures refl) c.in_ok-put_text-in-Area-2.ensures refl)
    c.put_number-in-Area-2.ensures (area_octets c.in-Area.width c.in-Area.height _ _ refl refl))
