-- The id of a delivery, on its session (part 2 of the standard, section 2.8.8).
use Rattle.std.specs.Prelude.{Bool, ◌&&◌, ◌==◌}
use Rattle.number_groups.specs.declared.id_on.IdOn.{IdOn}

abbrev pub same_id : IdOn → IdOn → Bool
same_id a b = (a.session == b.session) && (a.id == b.id)
