-- What a view was handed.
use Rattle.std.specs.Prelude.{ℕ, suc, List, [], ◌∷◌, ⊤}
use Rattle.capture_form.specs.declared.records.Record.{Record}
use Rattle.capture_view.specs.Viewed.{Viewed, view_of}
use Rattle.capture_words.specs.declared.ending.Ending.{Ending}
use Rattle.capture_words.specs.declared.ending.Ending.TheVariants.{Whole, Malformed, NoMemory, Unreadable}

-- these records, the oldest first and numbered from here on, are looked at in front of those before: the newest first
abbrev pub views_on : List Viewed → ℕ → List Record → List Viewed
views_on past number [] = past
views_on past number (entry ∷ entries) = views_on (view_of number entry ∷ past) (suc number) entries

-- the records of a text, looked at, the newest first
abbrev pub views_of : List Record → List Viewed
views_of entries = views_on [] 0 entries

module _ {S : Type 0} (agrees : S → List Viewed → Type 0) where
  -- Whichever records came before: what agrees with them agrees with this one in front.
  abbrev pub TakesOneMore : S → S → Viewed → Type 0
  TakesOneMore earlier later view = (past : List Viewed) → agrees earlier past → agrees later (view ∷ past)

  -- what agreed with no record agrees with all of these, unless the reading was given up
  abbrev pub TakesAll : List Record → Ending → S → S → Type 0
  TakesAll entries Whole before after = agrees before [] → agrees after (views_of entries)
  TakesAll entries (Malformed offset) before after = agrees before [] → agrees after (views_of entries)
  TakesAll entries NoMemory before after = ⊤
  TakesAll entries (Unreadable offset) before after = ⊤
