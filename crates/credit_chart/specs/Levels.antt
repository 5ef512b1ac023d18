-- What stood at a record, of a consumer's link.
use Rattle.std.specs.Prelude.{ℕ, Bool, true, false, List, codes}
use Rattle.credit_chart.specs.declared.level.Level.{Level}
use Rattle.credit_chart.specs.declared.level.Quantity.{Quantity}
use Rattle.credit_chart.specs.declared.level.Quantity.TheVariants.{Credit, Window, Waiting, Unsettled, Draining}

-- whether something was so, as a number
abbrev pub as_number : Bool → ℕ
as_number true = 1
as_number false = 0

-- the value of a quantity at a level
abbrev pub value_of : Quantity → Level → ℕ
value_of Credit level = level.credit
value_of Window level = level.window
value_of Waiting level = level.waiting
value_of Unsettled level = level.unsettled
value_of Draining level = as_number level.is_draining

-- ---- in words

abbrev pub name_of : Quantity → List ℕ
name_of Credit = codes "link credit"
name_of Window = codes "session window"
name_of Waiting = codes "deliveries waiting at the address"
name_of Unsettled = codes "deliveries unsettled on the link"
name_of Draining = codes "the client drains the link"

abbrev pub class_of : Quantity → List ℕ
class_of Credit = codes "credit"
class_of Window = codes "window"
class_of Waiting = codes "waiting"
class_of Unsettled = codes "unsettled"
class_of Draining = codes "draining"
