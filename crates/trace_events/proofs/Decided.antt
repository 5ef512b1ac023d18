-- A delivery that was told is not undecided: it is complete, and does not wait.
use Rattle.std.proofs.Common.{◌≡◌, refl, sym, ap, ◌∙◌, subst, ℕ, suc, ◌<◌, List, [], ◌∷◌, length, Bool, true, false, cond, not, ◌&&◌, ◌||◌, Option, Some, None, IfSome, is_some, inl, inr, ◌⊎◌, arith}
use Rattle.std.specs.Prelude.{option_and_then, find, if◌then◌else◌}
use Rattle.std.specs.List.{cons_option, list_any}
use Rattle.pairing_cert.specs.declared.note.Note.{Note}
use Rattle.pairing_cert.specs.declared.note.Note.TheVariants as notes
use Rattle.pairing_cert.specs.declared.note.Why.{Why}
use Rattle.pairing_cert.specs.declared.note.Why.TheVariants.{C, Z, S, L, N, M}
use Rattle.capture_form.specs.declared.records.Record.{Record}
use Rattle.capture_form.specs.Rules.{RuleSet}
use Rattle.trace_events.specs.Words.{is_number, is_some_and, are_same_octets}
use Rattle.trace_events.specs.Event.{Event, Incoming, Outgoing}
use Rattle.trace_events.specs.Link.{is_live}
use Rattle.trace_events.specs.Incoming.{completes, incoming_at, incoming_begun, is_complete, is_told, is_settled, is_aborted}
use Rattle.trace_events.specs.Outgoing.{outgoing_begun, outgoing_deliveries, names, pairing, is_paired}
use Rattle.trace_events.specs.Waiting.{is_of_multicast, is_unpaired, is_waiting, is_gone, is_undecided, always_had_consumer}
use Rattle.trace_events.specs.Outcome.{row, anycast_row, may_be_told}
use Rattle.trace_events.specs.Clauses.{first_broken}
use Rattle.trace_events.specs.DispositionClause.{tells_by, is_outcome_of, settles_one}
use Rattle.trace_events.specs.History.{history}
use Rattle.trace_events.proofs.ClausesMet.{lawful-past}
use Rattle.trace_events.proofs.Judged.{AreJudged, judged-number, history-judged}
use Rattle.trace_events.proofs.OneConsumer.{some-and, and-left, incoming_at-is, found-at}
use Rattle.trace_events.proofs.OneOutcome.{outcome, eleven, and-right, number-some}
use Rattle.trace_events.proofs.WaitingSteps.{is_of_multicast-same}
use Rattle.trace_events.proofs.Incomings.{judged-part, judged-sound, not-again, lost-stays}
use Rattle.trace_events.proofs.Fates.{not_both, complete-stays}

-- ---- what is told does not wait

unpaired-off : (multicast complete paired : Bool) → (multicast ≡ true) ⊎ (paired ≡ true) → not multicast && complete && not paired ≡ false
unpaired-off true complete paired h = refl
unpaired-off false true true h = refl
unpaired-off false false true h = refl
unpaired-off false complete false (inl h) = absurd cc
unpaired-off false complete false (inr h) = absurd cc

-- of multicast, or paired, it does not wait
not-waiting : (rules : RuleSet) (d : Incoming) (past : List Event) → (is_of_multicast rules d past ≡ true) ⊎ (is_paired d past ≡ true) → is_waiting rules d past ≡ false
not-waiting rules d past h = ap (λ b. b && always_had_consumer d past) (unpaired-off (is_of_multicast rules d past) (is_complete d past) (is_paired d past) h)

and-not : (a b : Bool) → a && b ≡ false → b ≡ true → a ≡ false
and-not true true e is = e
and-not false true e is = refl
and-not a false e is = absurd cc

gone-apart : (rules : RuleSet) (d : Incoming) (past : List Event) → is_gone rules d past ≡ true → is_waiting rules d past ≡ false
gone-apart rules d past gone = and-not (is_waiting rules d past) (is_gone rules d past) (not_both rules d past) gone

if-then : {A : Type 0} (b : Bool) (x : A) (test : A → Bool) → is_some_and (if b then Some x else None) test ≡ true → b ≡ true
if-then true x test e = refl
if-then false x test e = absurd cc

if-some : {A : Type 0} (b : Bool) (o : Option A) (test : A → Bool) → is_some_and (if b then o else None) test ≡ true → b ≡ true
if-some true o test e = refl
if-some false o test e = absurd cc

anycast-paired : {A : Type 0} (multicast : Bool) (o : Option A) (test : A → Bool) (paired : Bool) → (is_some_and o test ≡ true → paired ≡ true) → is_some_and (if multicast then None else o) test ≡ true → paired ≡ true
anycast-paired true o test paired h e = absurd cc
anycast-paired false o test paired h e = h e

row-paired : (d : Incoming) (past : List Event) (why : Why) (o : Option Outgoing) (test : Option (List ℕ) → Bool) → is_some_and (anycast_row d past why o) test ≡ true → is_some o ≡ true
row-paired d past why None test e = absurd cc
row-paired d past why (Some j) test e = refl

paired-by : (rules : RuleSet) (d : Incoming) (past : List Event) (why : Why) (test : Option (List ℕ) → Bool)
    → is_some_and (if is_of_multicast rules d past then None else anycast_row d past why (pairing d past)) test ≡ true → is_waiting rules d past ≡ false
paired-by rules d past why test e =
    not-waiting rules d past (inr (anycast-paired (is_of_multicast rules d past) (anycast_row d past why (pairing d past)) test (is_paired d past) (row-paired d past why (pairing d past) test) e))

by-row : (rules : RuleSet) (d : Incoming) (past : List Event) (why : Why) (test : Option (List ℕ) → Bool) → is_some_and (row rules d past why) test ≡ true → is_waiting rules d past ≡ false
by-row rules d past N test e = gone-apart rules d past (if-then (is_gone rules d past) _ test e)
by-row rules d past M test e = not-waiting rules d past (inl (if-some (is_of_multicast rules d past) _ test e))
by-row rules d past C test e = paired-by rules d past C test e
by-row rules d past Z test e = paired-by rules d past Z test e
by-row rules d past S test e = paired-by rules d past S test e
by-row rules d past L test e = paired-by rules d past L test e

by-note : (rules : RuleSet) (d : Incoming) (note : Note) (state : Option (List ℕ)) (past : List Event) → tells_by rules d note state past ≡ true → is_waiting rules d past ≡ false
by-note rules d (notes.Told why) state past e = by-row rules d past why (are_same_octets state) e
by-note rules d notes.None state past e = absurd cc
by-note rules d (notes.Pair n) state past e = absurd cc

-- ---- and does not wait later

pub record IsDone (rules : RuleSet) (d : Incoming) (past : List Event) : Type 0 where
  pub complete : is_complete d past ≡ true
  pub quiet : is_waiting rules d past ≡ false

some-stays : {A : Type 0} (p : A → Bool) (o : Option A) (xs : List A) → is_some (find p xs) ≡ true → is_some (find p (cons_option o xs)) ≡ true
some-stays p None xs e = e
some-stays p (Some x) xs e = by (p x)
  where
    by : (b : Bool) → is_some (cond b (Some x) (find p xs)) ≡ true
    by true = refl
    by false = e

paired-stays : (d : Incoming) (e : Event) (past : List Event) → is_paired d past ≡ true → is_paired d (e ∷ past) ≡ true
paired-stays d e past is = some-stays (λ (j : Outgoing). names d.number j.note) (outgoing_begun e) (outgoing_deliveries past) is

and-off : (b c : Bool) → c ≡ false → b && c ≡ false
and-off true c e = e
and-off false c e = refl

module _ (rules : RuleSet) (e : Event) (past : List Event) (are : AreJudged rules (e ∷ past)) (d : Incoming) where
  quiet-by : (multicast paired always : Bool) → is_of_multicast rules d past ≡ multicast → is_paired d past ≡ paired → always_had_consumer d past ≡ always
      → is_complete d past ≡ true → not multicast && true && not paired && always ≡ false → is_waiting rules d (e ∷ past) ≡ false
  quiet-by true paired always m p a done h =
      let none : completes d e ≡ false = not-again e past (judged-number rules e past are) (judged-part rules e past are) (judged-sound rules past are.1) d done in
      not-waiting rules d (e ∷ past) (inl (is_of_multicast-same d e past rules none ∙ m))
  quiet-by false true always m p a done h = not-waiting rules d (e ∷ past) (inr (paired-stays d e past p))
  quiet-by false false true m p a done h = absurd cc
  quiet-by false false false m p a done h =
      and-off (is_unpaired rules d (e ∷ past)) (always_had_consumer d (e ∷ past))
      (lost-stays e past (judged-number rules e past are) (judged-part rules e past are) (judged-sound rules past are.1) d done a)

  pub done-stays : IsDone rules d past → IsDone rules d (e ∷ past)
  done-stays is =
      let same : not (is_of_multicast rules d past) && true && not (is_paired d past) && always_had_consumer d past ≡ false =
      ap (λ c. not (is_of_multicast rules d past) && c && not (is_paired d past) && always_had_consumer d past) (sym is.complete) ∙ is.quiet in
      record {
        complete = complete-stays d e past is.complete;
        quiet = quiet-by (is_of_multicast rules d past) (is_paired d past) (always_had_consumer d past) refl refl refl is.complete same;
      }

-- ---- the event that tells

module _ (rules : RuleSet) (e : Event) (past : List Event) (are : AreJudged rules (e ∷ past)) (lawful : first_broken rules (e ∷ past) ≡ None)
    (n : ℕ) (tells : e.told ≡ Some n) where
  told-one : (d : Incoming) × (incoming_at n past ≡ Some d) × IsDone rules d past
  told-one =
      let fields = (outcome rules e past are lawful n tells).fields in
      let h = some-and (option_and_then (λ m. incoming_at m past) e.told) (is_outcome_of rules e fields past) (and-right (settles_one fields) _ (eleven rules e past are lawful n tells)) in
      let found : incoming_at n past ≡ Some h.0 = sym (ap (option_and_then (λ m. incoming_at m past)) tells) ∙ h.1 in
      let may : may_be_told h.0 past ≡ true = and-left (may_be_told h.0 past) _ h.2 in (
        h.0,
        found,
        record {
          complete = and-left _ _ (and-left _ _ (and-left _ _ may));
          quiet = by-note rules h.0 e.note _ past (and-right (may_be_told h.0 past) _ h.2);
        },
      )

-- ---- along a history

-- what was told began before
known-by : (rules : RuleSet) (e : Event) (past : List Event) (are : AreJudged rules (e ∷ past)) (lawful : first_broken rules (e ∷ past) ≡ None) (n : ℕ) (here : Bool)
    → is_number e.told n ≡ here → (list_any (λ x. is_number x.told n) past ≡ true → n < length past) → here || list_any (λ x. is_number x.told n) past ≡ true → n < suc (length past)
known-by rules e past are lawful n true is earlier told =
    let one = told-one rules e past are lawful n (number-some e.told n is) in
    let at = subst (λ (o : Option Incoming). IfSome o (λ d. (n < length past) × (d.number ≡ n))) one.1 (incoming_at-is rules past n are.1) in
    omega (arith, at.0)
known-by rules e past are lawful n false is earlier told = omega (arith, earlier told)

pub told-known : (rules : RuleSet) (past : List Event) → AreJudged rules past → first_broken rules past ≡ None → (n : ℕ) → list_any (λ e. is_number e.told n) past ≡ true → n < length past
told-known rules [] are lawful n told = absurd cc
told-known rules (e ∷ past) are lawful n told =
    known-by rules e past are lawful n (is_number e.told n) refl (told-known rules past are.1 (lawful-past rules e past lawful) n) told

-- the delivery of this number, if it was told, is done
abbrev IsDoneAt : RuleSet → ℕ → Incoming → List Event → Type 0
IsDoneAt rules n d past = incoming_at n past ≡ Some d → list_any (λ e. is_number e.told n) past ≡ true → IsDone rules d past

module _ (rules : RuleSet) (e : Event) (past : List Event) (are : AreJudged rules (e ∷ past)) (lawful : first_broken rules (e ∷ past) ≡ None) (n : ℕ) (d : Incoming)
    (earlier : IsDoneAt rules n d past) where
  before : incoming_at n past ≡ Some d → (here : Bool) → is_number e.told n ≡ here → here || list_any (λ x. is_number x.told n) past ≡ true → IsDone rules d (e ∷ past)
  before found true is told =
      let one = told-one rules e past are lawful n (number-some e.told n is) in
      let both : ◌≡◌ {A = Option Incoming} (Some one.0) (Some d) = sym one.1 ∙ found in
      let same : one.0 ≡ d = cc in
      done-stays rules e past are d (subst (λ (x : Incoming). IsDone rules x past) same one.2)
  before found false is told = done-stays rules e past are d (earlier found told)

  own : n ≡ length past → (here : Bool) → is_number e.told n ≡ here → here || list_any (λ x. is_number x.told n) past ≡ true → IsDone rules d (e ∷ past)
  own new true is told =
      let one = told-one rules e past are lawful n (number-some e.told n is) in
      let at = subst (λ (o : Option Incoming). IfSome o (λ d. (n < length past) × (d.number ≡ n))) one.1 (incoming_at-is rules past n are.1) in
      absurd (omega (arith, new, at.0))
  own new false is told = absurd (omega (arith, new, told-known rules past are.1 (lawful-past rules e past lawful) n told))

  done-next : IsDoneAt rules n d (e ∷ past)
  done-next found told = elim (found-at rules e past are n d (incoming_begun e) refl found) [
    | inl there ↦ before there (is_number e.told n) refl told
    | inr new ↦ own new (is_number e.told n) refl told
  ]

done-at : (rules : RuleSet) (past : List Event) → AreJudged rules past → first_broken rules past ≡ None → (n : ℕ) (d : Incoming) → IsDoneAt rules n d past
done-at rules [] are lawful n d found told = absurd cc
done-at rules (e ∷ past) are lawful n d found told =
    done-next rules e past are lawful n d (done-at rules past are.1 (lawful-past rules e past lawful) n d) found told

-- ---- so it is decided

decided-by : (live aborted complete waiting settled told : Bool) → complete ≡ true → waiting ≡ false → told ≡ true → live && not aborted && (not complete || waiting || not (settled || told)) ≡ false
decided-by true true true false settled true c w t = refl
decided-by true false true false true true c w t = refl
decided-by true false true false false true c w t = refl
decided-by false aborted true false true true c w t = refl
decided-by false aborted true false false true c w t = refl
decided-by live aborted false waiting settled told c w t = absurd cc
decided-by live aborted complete true settled told c w t = absurd cc
decided-by live aborted complete waiting settled false c w t = absurd cc

-- of a lawful capture
pub told-decided : (rules : RuleSet) (rs : List Record) → first_broken rules (history rules rs) ≡ None → (n : ℕ) (d : Incoming) → incoming_at n (history rules rs) ≡ Some d
    → is_told d (history rules rs) ≡ true → is_undecided rules d (history rules rs) ≡ false
told-decided rules rs lawful n d found told =
    let past = history rules rs in
    let at = subst (λ (o : Option Incoming). IfSome o (λ d. (n < length past) × (d.number ≡ n))) found (incoming_at-is rules past n (history-judged rules rs)) in
    let own : list_any (λ e. is_number e.told n) past ≡ true = sym (ap (λ m. list_any (λ (e : Event). is_number e.told m) past) at.1) ∙ told in
    let done = done-at rules past (history-judged rules rs) lawful n d found own in
    decided-by (is_live past d.link) (is_aborted d past) (is_complete d past) (is_waiting rules d past) (is_settled d past) (is_told d past) done.complete done.quiet told
