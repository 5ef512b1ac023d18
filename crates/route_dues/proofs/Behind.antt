-- Behind a frame that may follow, records are in order as they were before.
use Rattle.std.proofs.Common.{◌≡◌, refl, sym, ap, ◌∙◌, ℕ, ◌≤◌, List, [], ◌∷◌, ◌++◌, length, None}
use Rattle.std.proofs.lemmas.Bool.{leb-true}
use Rattle.flow_counts.specs.declared.profile.TheConstants.{MAX_FRAME_SIZE}
use Rattle.trace_events.specs.Connection.{frame_limit}
use Rattle.trace_events.proofs.Along.{and_last}
use Rattle.trace_events.specs.declared.clause.Clause.TheVariants.{L1}
use Rattle.trace_events.specs.ConnectionClause.{may_be_written, fits_limit}
use Rattle.trace_events.proofs.ClausesMet.{met}
use Rattle.route_dues.proofs.Lengths.{within}
use Rattle.std.specs.Prelude.{option_map}
use Rattle.pairing_cert.specs.declared.note.Note.{Note}
use Rattle.capture_form.specs.declared.records.Record.{Record}
use Rattle.capture_form.specs.declared.records.What.TheVariants as whats
use Rattle.capture_form.specs.Rules.{RuleSet}
use Rattle.trace_events.specs.Words.{or_else}
use Rattle.trace_events.specs.Frame.{Spoken}
use Rattle.trace_events.specs.Event.{Event, Out}
use Rattle.trace_events.specs.History.{judge, judge_moment}
use Rattle.trace_events.specs.declared.clause.Clause.{Clause}
use Rattle.trace_events.specs.Clauses.{first_broken, broken_clause}
use Rattle.trace_events.specs.Written.{spoken_octets}
use Rattle.trace_events.proofs.Lawful.{history-push}
use Rattle.trace_duties.specs.Diligent.{moment_keeps, all_keep}
use Rattle.trace_duties.proofs.CopyOrder.{copies_in_order-step}
use Rattle.route_answers.specs.Writing.{frame_of}
use Rattle.route_dues.specs.Writing.{writing, IsReadAgain, IsLawful, IsInOrder, MayFollow}
use Rattle.route_answers.proofs.Words.{both}
use Rattle.route_dues.proofs.Connections.{lawful_judged}

abbrev pub written : ℕ → Note → Spoken → Record
written c note spoken = record { connection = c; what = whats.Out (spoken_octets spoken); note = note }

-- the record of a frame that is read again is the event of writing it
pub judged_writing : (rules : RuleSet) (past : List Event) (c : ℕ) (note : Note) (spoken : Spoken) → IsReadAgain spoken → judge rules past (written c note spoken) ≡ writing rules past c note spoken
judged_writing rules past c note spoken again = ap (λ frame. judge_moment rules past c (Out frame) note) again

-- it breaks nothing behind lawful records
unbroken_behind : (rules : RuleSet) (past : List Event) (c : ℕ) (note : Note) (spoken : Spoken) → IsLawful rules past → MayFollow rules past c note spoken → first_broken rules (writing rules past c note spoken ∷ past) ≡ None
unbroken_behind rules past c note spoken lawful may =
    let e = writing rules past c note spoken in
    ap (λ o. or_else o (option_map (λ (clause : Clause). (e.number, clause)) (broken_clause rules e past))) lawful.unbroken
    ∙ ap (option_map (λ (clause : Clause). (e.number, clause))) may.lawful

-- nor is it longer than frames may be
pub follows_within : (rules : RuleSet) (past : List Event) (c : ℕ) (note : Note) (spoken : Spoken) → IsLawful rules past → MayFollow rules past c note spoken → length (spoken_octets spoken) ≤ MAX_FRAME_SIZE
follows_within rules past c note spoken lawful may =
    let e = writing rules past c note spoken in
    let one = met rules e past (unbroken_behind rules past c note spoken lawful may) (frame_of spoken) refl spoken refl L1 in
    within (spoken_octets spoken) c past (leb-true (length (spoken_octets spoken)) (frame_limit c past) (and_last (may_be_written c spoken.meaning past) (fits_limit c (frame_of spoken) past) one))

module _ (rules : RuleSet) (past : List Event) (c : ℕ) (note : Note) (spoken : Spoken) (order : IsInOrder rules past) (may : MayFollow rules past c note spoken) (again : IsReadAgain spoken) where
  abbrev e : Event
  e = writing rules past c note spoken

  lawful : IsLawful rules (e ∷ past)
  lawful =
      let r = written c note spoken in
      let h = order.lawful in
      record {
        records = h.records ++ r ∷ [];
        is = ap (λ (x : Event). x ∷ past) (sym (judged_writing rules past c note spoken again))
            ∙ (ap (λ (xs : List Event). judge rules xs r ∷ xs) h.is ∙ sym (history-push rules h.records r));
        unbroken = unbroken_behind rules past c note spoken order.lawful may;
      }

  pub stays_in_order : IsInOrder rules (e ∷ past)
  stays_in_order = record {
    lawful = lawful;
    keeps = both (moment_keeps rules e past e.moment) (all_keep rules past) may.keeps order.keeps;
    copies = copies_in_order-step rules e past (lawful_judged rules (e ∷ past) lawful) lawful.unbroken may.earliest order.copies;
  }
