-- Steps one after the other.
use Rattle.std.proofs.Common.{◌≡◌, sym, ap, ◌∙◌, ℕ, List, [], ◌∷◌, ◌++◌, append_assoc, append-nil}
use Rattle.std.proofs.lemmas.Grind.{flat_map-append}
use Rattle.capture_form.specs.declared.records.Record.{Record}
use Rattle.capture_form.specs.Text.{record_text, records_text}
use Rattle.capture_journal.specs.Journals.{Journaled, noted}
use Rattle.route_items.specs.Inputs.{inputs}
use Rattle.daemon_server.specs.Recordings.{Recording}
use Rattle.daemon_server.specs.Stepping.{HasStepped}

abbrev with_both : Journaled → List Record → List ℕ → Journaled
with_both journal records waiting = record journal { records = records; waiting = waiting }

noted-none : (journal : Journaled) → noted journal [] ≡ journal
noted-none journal = ap (λ xs. with_both journal xs (journal.waiting ++ [])) (append-nil journal.records) ∙ ap (λ xs. with_both journal journal.records xs) (append-nil journal.waiting)

noted-both : (journal : Journaled) (given more : List Record) → noted (noted journal given) more ≡ noted journal (given ++ more)
noted-both journal given more =
    ap (λ xs. with_both journal xs ((journal.waiting ++ records_text given) ++ records_text more)) (append_assoc journal.records given more)
    ∙ ap (λ xs. with_both journal (journal.records ++ (given ++ more)) xs)
    (append_assoc journal.waiting (records_text given) (records_text more) ∙ ap (λ xs. journal.waiting ++ xs) (sym (flat_map-append record_text given more)))

pub none-stepped : (core : Recording) → HasStepped [] core core []
none-stepped core = record { inputs_now = sym (append-nil (inputs core.journal.records)); noted_now = sym (noted-none core.journal) }

pub one-stepped : (inbox given more : List Record) (entry : Record) (first middle last : Recording) → HasStepped inbox first middle given → HasStepped (entry ∷ []) middle last more
    → HasStepped (inbox ++ entry ∷ []) first last (given ++ more)
one-stepped inbox given more entry first middle last before stepped = record {
  inputs_now =
      stepped.inputs_now ∙ (ap (λ xs. xs ++ entry ∷ []) before.inputs_now ∙ append_assoc (inputs first.journal.records) inbox (entry ∷ []));
  noted_now = stepped.noted_now ∙ (ap (λ (j : Journaled). noted j more) before.noted_now ∙ noted-both first.journal given more);
}
