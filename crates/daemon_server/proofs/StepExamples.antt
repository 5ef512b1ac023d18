-- What steps are, and what they are not.
use Rattle.std.proofs.Common.{◌≡◌, Bool, true, false, List, [], ◌∷◌, Some, refl, ap, arith}
use Rattle.pairing_cert.specs.declared.note.Note.{Note}
use Rattle.pairing_cert.specs.declared.note.Note.TheVariants as notes
use Rattle.capture_form.specs.declared.records.Record.{Record}
use Rattle.capture_form.specs.declared.records.What.TheVariants as happened
use Rattle.capture_form.specs.declared.rules.Form.TheVariants as forms
use Rattle.capture_form.specs.Text.{IsRecord}
use Rattle.capture_journal.specs.Journals.{Journaled, begun, noted}
use Rattle.daemon_server.specs.Recordings.{Recording}
use Rattle.daemon_server.specs.Stepping.{HasStepped, IsInput}

abbrev opened : Record
opened = record { connection = 3; what = happened.Opened; note = notes.None }

abbrev written : Record
written = record { connection = 3; what = happened.Out []; note = notes.None }

opened_fits : IsRecord opened
opened_fits = record { connection = omega arith; what = tt; note = refl }

an_input : IsInput opened
an_input = record { input = refl; bare = refl; bounds = opened_fits }

not_an_output : IsInput written → ⊥
not_an_output is = let wrong : ◌≡◌ {A = Bool} true false = is.input in cc

not_with_a_note : IsInput (record { connection = 3; what = happened.Opened; note = notes.Pair 0 }) → ⊥
not_with_a_note is = let wrong : ◌≡◌ {A = Note} (notes.Pair 0) notes.None = is.bare in cc

not_beyond_bounds : IsInput (record { connection = 4294967296; what = happened.Opened; note = notes.None }) → ⊥
not_beyond_bounds is = absurd (omega (arith, is.bounds.connection))

-- a core that has written nothing, and one behind some records
abbrev journal : Journaled
journal = begun (record { form = forms.Two false; list = [] }) (Some [])

abbrev core : Journaled → Recording
core it = record { journal = it; limit = 9; has_failed = false }

one_step : HasStepped (opened ∷ []) (core journal) (core (noted journal (opened ∷ written ∷ []))) (opened ∷ written ∷ [])
one_step = record { inputs_now = refl; noted_now = refl }

-- not where an input is left out
not_left_out : HasStepped (opened ∷ []) (core journal) (core journal) [] → ⊥
not_left_out steps = let wrong : ◌≡◌ {A = List Record} [] (opened ∷ []) = steps.inputs_now in cc

-- nor where a record that stands there is not given
not_kept_back : HasStepped (opened ∷ []) (core journal) (core (noted journal (opened ∷ written ∷ []))) (opened ∷ []) → ⊥
not_kept_back steps =
    let wrong : ◌≡◌ {A = List Record} (opened ∷ written ∷ []) (opened ∷ []) = ap (λ (j : Journaled). j.records) steps.noted_now in cc
