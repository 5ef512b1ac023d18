-- What a delivery to a client carries, of which its consumer speaks, is among what those carry of which one speaks.
use Rattle.std.proofs.Common.{◌≡◌, refl, sym, ap, ◌∙◌, ℕ, Bool, true, false, ◌||◌, List, [], ◌∷◌, Option, Some, None, nat_eq, eqb-true}
use Rattle.std.specs.Prelude.{Contains, option_and_then}
use Rattle.std.specs.List.{list_any}
use Rattle.pairing_cert.specs.declared.note.Note.{Note}
use Rattle.pairing_cert.specs.declared.note.Note.TheVariants as notes
use Rattle.capture_form.specs.Rules.{RuleSet}
use Rattle.number_groups.specs.Numbers.{is_among}
use Rattle.trace_events.specs.Words.{is_number, is_some_and}
use Rattle.trace_events.specs.Event.{Event, Outgoing}
use Rattle.trace_events.specs.Outgoing.{names, noted_number, outgoing_deliveries}
use Rattle.trace_events.proofs.Judged.{AreJudged}
use Rattle.state_outgoing.specs.Sent.{is_left_unsettled}
use Rattle.state_outgoing.specs.SentAnswers.{carried}
use Rattle.state_outgoing.specs.SentTables.{IsTable, sent_in}
use Rattle.state_outgoing.specs.declared.deliveries.SentDeliveries.{SentDeliveries}
use Rattle.state_outgoing.proofs.SentKept.{contained-at, unfinished-entry, unsettled-unfinished}
use Rattle.due_outcomes.proofs.UnderKeys.{or-first, or-last}

any-at : (test : ℕ → Bool) (k : ℕ) → test k ≡ true → (ms : List ℕ) → is_among ms k ≡ true → list_any test ms ≡ true
any-at test k passes [] is = absurd cc
any-at test k passes (m ∷ ms) is = by (nat_eq k m) refl (any-at test k passes ms) is
  where
    by : (b : Bool) → nat_eq k m ≡ b → (is_among ms k ≡ true → list_any test ms ≡ true) → b || is_among ms k ≡ true → test m || list_any test ms ≡ true
    by true same later is = or-first (test m) (list_any test ms) (ap test (sym (eqb-true k m same)) ∙ passes)
    by false other later is = or-last (test m) (list_any test ms) (later is)

named-number : (note : Note) (n : ℕ) → names n note ≡ true → is_number (noted_number note) n ≡ true
named-number (notes.Pair m) n is = is
named-number notes.None n is = absurd cc
named-number (notes.Told why) n is = absurd cc

pub carried-names : (o : Option Outgoing) (n : ℕ) → is_number (option_and_then (λ (j : Outgoing). noted_number j.note) o) n
    ≡ is_some_and o (λ (j : Outgoing). names n j.note)
carried-names None n = refl
carried-names (Some j) n = by j.note
  where
    by : (note : Note) → is_number (noted_number note) n ≡ names n note
    by (notes.Pair m) = refl
    by notes.None = refl
    by (notes.Told why) = refl

pub spoken-carried : (rules : RuleSet) (past : List Event) → AreJudged rules past → (table : SentDeliveries) → IsTable table past → (spoken : List ℕ) (j : Outgoing) → Contains (outgoing_deliveries past) j
    → is_left_unsettled past j ≡ true → is_among spoken j.number ≡ true → (n : ℕ) → names n j.note ≡ true → list_any (λ m. is_number (carried (sent_in table m)) n) spoken ≡ true
spoken-carried rules past are table is_table spoken j has opens among n named =
    let entry = unfinished-entry table past is_table j.number j (contained-at rules past are j has) (unsettled-unfinished past j opens) in
    any-at (λ m. is_number (carried (sent_in table m)) n) j.number (ap (λ o. is_number (carried o) n) entry ∙ named-number j.note n named) spoken among
