-- What is known behind the records of an audit, for the one that is refused (own rules).
use Rattle.std.specs.Prelude.{◌≡◌, ℕ, ◌<◌, ◌^◌, List, ◌∷◌, length}
use Rattle.capture_form.specs.declared.records.Record.{Record}
use Rattle.capture_form.specs.Rules.{RuleSet}
use Rattle.capture_view.specs.Viewed.{Viewed, view_of}
use Rattle.capture_view.specs.Tables.{StandsFor as NamesStand}
use Rattle.capture_words.specs.Taken.{views_of}
use Rattle.refusal_words.specs.Tables.{StandsFor as OriginsStand}
use Rattle.refusal_showing.specs.declared.explaining.Explaining.{Explaining}

-- the links by name, and where windows and credits come from, are those of these records
abbrev pub Knows : Explaining → List Viewed → Type 0
Knows explaining past = NamesStand explaining.names past × OriginsStand explaining.origins past

-- the same of records, the oldest first, of which there are as many as were counted, unless they are too many to count
abbrev pub HasSeen : Explaining → List Record → Type 0
HasSeen explaining records = length records < 2 ^ 64 → (explaining.taken ≡ length records) × Knows explaining (views_of records)

-- where one is refused behind these, its own attach is known by name, and windows and credits are those in front of it
abbrev pub HasExplained : Explaining → RuleSet → List Record → Record → Type 0
HasExplained explaining rules records entry =
    length records < 2 ^ 64 → NamesStand explaining.names (view_of (length records) entry ∷ views_of records) × OriginsStand explaining.origins (views_of records)
