-- What a server is between two rounds, and what it is not.
use Rattle.std.proofs.Common.{◌≡◌, ℕ, Bool, true, false, List, [], ◌∷◌, Some, nat_eq, Contains, ◌⊎◌, inl, inr, sym, ◌∙◌, arith}
use Rattle.indexmap.specs.IndexMap.{get}
use Rattle.capture_form.specs.declared.records.Record.{Record}
use Rattle.daemon_server.specs.Recordings.{Recording}
use Rattle.daemon_server.specs.declared.line.Line.{Line}
use Rattle.daemon_server.specs.declared.table.Table.{Table}
use Rattle.daemon_server.specs.Lines.{Serves}
use Rattle.daemon_server.specs.Servers.{IsServing}

module _ {G : Type 0} (Delivered Took : G → List ℕ → Type 0) (ended : G → Bool) (core : Recording) (table : Table G) where
  -- nothing waits for the writer, which has passed on all that it took, and every frame is laid out
  serving : core.journal.waiting ≡ [] → core.journal.passed_on ≡ true → Serves Delivered Took ended core.journal.records [] [] table → IsServing Delivered Took ended core table
  serving handed passed_on serves = record { passed = record { handed = handed; passed = passed_on }; serves = serves }

  -- not while an octet waits
  not_ahead_of_the_file : (octet : ℕ) (octets : List ℕ) → core.journal.waiting ≡ octet ∷ octets → IsServing Delivered Took ended core table → ⊥
  not_ahead_of_the_file octet octets waits is = let never : ◌≡◌ {A = List ℕ} (octet ∷ octets) [] = sym waits ∙ is.passed.handed in cc

  -- nor while the writer was not told to pass on what it took
  not_ahead_of_the_disk : core.journal.passed_on ≡ false → IsServing Delivered Took ended core table → ⊥
  not_ahead_of_the_disk kept is = let never : ◌≡◌ {A = Bool} false true = sym kept ∙ is.passed.passed in cc

  -- nor while the table does not serve these records
  not_without_its_lines : (Serves Delivered Took ended core.journal.records [] [] table → ⊥) → IsServing Delivered Took ended core table → ⊥
  not_without_its_lines never is = never is.serves

  -- then nothing lies in the inbox of a connection that is open: what its engine told of its gate's octets is what the core took
  nothing_lies : (number : ℕ) (line : Line G) → get nat_eq table.lines number ≡ Some line → IsServing Delivered Took ended core table → line.inbox.items ≡ []
  nothing_lies number line at is = by (is.serves.taken number line at)
    where
      by : Contains [] number ⊎ (line.inbox.items ≡ []) → line.inbox.items ≡ []
      by (inr none) = none
      by (inl never) = let less = never.1 in absurd (omega (arith, less))

  not_with_an_item : (number : ℕ) (line : Line G) (entry : Record) → get nat_eq table.lines number ≡ Some line → line.inbox.items ≡ entry ∷ [] → IsServing Delivered Took ended core table → ⊥
  not_with_an_item number line entry at lies is = let never : ◌≡◌ {A = List Record} (entry ∷ []) [] = sym lies ∙ nothing_lies number line at is in cc
