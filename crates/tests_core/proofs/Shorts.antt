-- Lists of short items.
use Rattle.std.specs.Prelude.{◌++◌, ◌∷◌, [], List}
use Rattle.std.specs.List.{AllByRecursion}
use Rattle.std.proofs.SliceLists.{all_by_recursion_push}
use Rattle.route_items.specs.declared.item.Item.{Item}
use Rattle.route_items.specs.Items.{IsShort}

pub short_push : (items : List Item) (item : Item) → AllByRecursion IsShort items → IsShort item → AllByRecursion IsShort (items ++ item ∷ [])
short_push items item all one = all_by_recursion_push IsShort items item all one
