-- What a record is to the reason of a refusal.
use Rattle.std.specs.Prelude.{ℕ, ◌==◌, Bool, true, false, List, [], codes, Option, Some, None}
use Rattle.std.specs.List.{list_any}
use Rattle.capture_chart.specs.declared.marks.Mark.{Mark}
use Rattle.capture_chart.specs.declared.marks.Mark.TheVariants.{Compared, Plain, Refused}
use Rattle.capture_chart.specs.declared.marks.Marks.{Marks}

-- the record that is refused, if one is, and those that it is compared with
pub record Marking : Type 0 where
  pub refused : Option ℕ
  pub compared : List ℕ

-- a value of the code, apart from where it lies in memory
abbrev pub marking : Marks → Marking
marking marks = record { refused = marks.refused; compared = marks.compared.now }

abbrev pub is_refused : Option ℕ → ℕ → Bool
is_refused None number = false
is_refused (Some refused) number = refused == number

abbrev pub mark_by : Bool → Bool → Mark
mark_by true compared = Refused
mark_by false true = Compared
mark_by false false = Plain

-- the mark of a record, by its number
abbrev pub mark_of : Marking → ℕ → Mark
mark_of marks number = mark_by (is_refused marks.refused number) (list_any (λ other. other == number) marks.compared)

-- ---- in words

abbrev pub class_of : Mark → List ℕ
class_of Plain = codes "arrow"
class_of Refused = codes "arrow refused"
class_of Compared = codes "arrow compared"

abbrev pub mark_words : Mark → List ℕ
mark_words Plain = []
mark_words Refused = codes ", refused"
mark_words Compared = codes ", compared"
