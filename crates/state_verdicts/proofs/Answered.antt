-- What the numbers of the table answer of a delivery.
use Rattle.std.proofs.Common.{◌≡◌, refl, sym, ap, ◌∙◌, ◌↔◌, ℕ, ◌<◌, Bool, true, false, ◌&&◌, ◌||◌, not, IsTrue, List, [], ◌∷◌, length, Option, Some, None, is_none, if◌then◌else◌, ◌==◌}
use Rattle.std.specs.List.{AllByRecursion, list_any}
use Rattle.amqp_perf.specs.declared.descriptor.Outcome.{Outcome}
use Rattle.amqp_perf.specs.declared.descriptor.Outcome.TheVariants.{Accepted, Rejected, Released, Modified}
use Rattle.capture_form.specs.Rules.{RuleSet}
use Rattle.trace_events.specs.Words.{is_some_and}
use Rattle.trace_events.specs.Event.{Event, Link, Incoming}
use Rattle.trace_events.specs.Due.{is_due}
use Rattle.trace_events.specs.Incoming.{incoming_at}
use Rattle.trace_events.specs.Link.{link_at, links}
use Rattle.trace_events.proofs.Along.{and_first}
use Rattle.trace_events.proofs.Judged.{AreJudged}
use Rattle.trace_events.proofs.LinkNumbers.{links-found}
use Rattle.trace_events.proofs.WaitingQueue.{find_has}
use Rattle.trace_events.specs.CopyVerdict.{copy_verdict, awaits_verdict}
use Rattle.trace_events.specs.BestVerdict.{is_same_outcome, is_verdict, has_verdict, is_due_to_some, has_all_verdicts, best_verdict}
use Rattle.state_verdicts.specs.Verdicts.{awaits_at, verdict_at, best_of}
use Rattle.state_verdicts.proofs.TableSteps.{any-gives, any-from}
use Rattle.state_verdicts.proofs.VerdictsNext.{same-self}

none_any : (test : Link → Bool) (ls : List Link) → AllByRecursion (λ l. test l ≡ false) ls → list_any test ls ≡ false
none_any test [] all = refl
none_any test (l ∷ ls) all = ap (λ b. b || list_any test ls) all.0 ∙ none_any test ls all.1

each_by : (P Q : Link → Type 0) → ((l : Link) → P l → Q l) → (ls : List Link) → AllByRecursion P ls → AllByRecursion Q ls
each_by P Q f [] all = tt
each_by P Q f (l ∷ ls) all = (f l all.0, each_by P Q f ls all.1)

module _ (rules : RuleSet) (past : List Event) (are : AreJudged rules past) (d : Incoming) (found : incoming_at d.number past ≡ Some d) where
  -- ---- every copy has its verdict where no number says that one awaits it

  pub all-is : (empty : Bool) → IsTrue empty ↔ ((link : ℕ) → awaits_at rules past link d.number ≡ false) → empty ≡ has_all_verdicts rules d past
  all-is true says = sym (ap not (none_any (awaits_verdict rules d past) (links past) (each_by (λ l. (link_at l.number past ≡ Some l) × (l.number < length past)) (λ l. awaits_verdict rules d past l ≡ false) off (links past) (links-found rules past are))))
    where
      off : (l : Link) → (link_at l.number past ≡ Some l) × (l.number < length past) → awaits_verdict rules d past l ≡ false
      off l known =
          sym (ap (λ o. is_some_and o (λ m. is_some_and (incoming_at d.number past) (λ x. awaits_verdict rules x past m))) known.0 ∙ ap (λ o. is_some_and o (λ x. awaits_verdict rules x past l)) found)
          ∙ says.0 refl l.number
  all-is false says = by (list_any (awaits_verdict rules d past) (links past)) refl
    where
      of_link : list_any (awaits_verdict rules d past) (links past) ≡ false → (link : ℕ) (l : Link) → link_at link past ≡ Some l → (b : Bool) → awaits_verdict rules d past l ≡ b → b ≡ false
      of_link none link l at false is = refl
      of_link none link l at true is =
          let some = any-gives (awaits_verdict rules d past) (links past) l (find_has (λ (m : Link). m.number == link) (links past) l at) is in
          absurd cc

      each : list_any (awaits_verdict rules d past) (links past) ≡ false → (link : ℕ) → (o : Option Link) → link_at link past ≡ o
          → is_some_and o (λ m. is_some_and (incoming_at d.number past) (λ x. awaits_verdict rules x past m)) ≡ false
      each none link None at = refl
      each none link (Some l) at = ap (λ o. is_some_and o (λ x. awaits_verdict rules x past l)) found ∙ of_link none link l at (awaits_verdict rules d past l) refl

      by : (b : Bool) → list_any (awaits_verdict rules d past) (links past) ≡ b → false ≡ not b
      by true is = refl
      by false is = let never : false ≡ true = says.1 (λ link. each is link (link_at link past) refl) in never

  -- ---- the best of the verdicts

  undue-none : is_due_to_some rules d past ≡ false → (outcome : Outcome) → has_verdict rules d past outcome ≡ false
  undue-none none outcome = by (has_verdict rules d past outcome) refl
    where
      by : (b : Bool) → has_verdict rules d past outcome ≡ b → b ≡ false
      by false is = refl
      by true is =
          let l = any-from (is_verdict rules d past outcome) (links past) is in
          let due = any-gives (λ (m : Link). is_due rules d m past) (links past) l.0 l.1.0 (and_first (is_due rules d l.0 past) (is_some_and (copy_verdict d l.0 past) (is_same_outcome outcome)) l.1.1) in
          absurd cc

  due-some : has_all_verdicts rules d past ≡ true → is_due_to_some rules d past ≡ true → (outcome : Outcome) × (has_verdict rules d past outcome ≡ true)
  due-some each some =
      let l = any-from (λ (m : Link). is_due rules d m past) (links past) some in
      by l.0 l.1.1 (copy_verdict d l.0 past) refl (λ (outcome : Outcome) is. any-gives (is_verdict rules d past outcome) (links past) l.0 l.1.0 is)
      (awaited l.0 (awaits_verdict rules d past l.0) refl (λ is. any-gives (awaits_verdict rules d past) (links past) l.0 l.1.0 is) each)
    where
      awaited : (l : Link) (b : Bool) → awaits_verdict rules d past l ≡ b → (awaits_verdict rules d past l ≡ true → list_any (awaits_verdict rules d past) (links past) ≡ true) → has_all_verdicts rules d past ≡ true
          → awaits_verdict rules d past l ≡ false
      awaited l false is any all = is
      awaited l true is any all = let there = any is in absurd cc

      by : (l : Link) → is_due rules d l past ≡ true → (o : Option Outcome) → copy_verdict d l past ≡ o → ((outcome : Outcome) → is_verdict rules d past outcome l ≡ true → has_verdict rules d past outcome ≡ true)
          → awaits_verdict rules d past l ≡ false → (outcome : Outcome) × (has_verdict rules d past outcome ≡ true)
      by l due None is has none =
          let waits : awaits_verdict rules d past l ≡ true = ap (λ b. b && is_none (copy_verdict d l past)) due ∙ ap (λ (o : Option Outcome). is_none o) is in
          absurd cc
      by l due (Some x) is has none = (x, has x (ap (λ b. b && is_some_and (copy_verdict d l past) (is_same_outcome x)) due ∙ (ap (λ o. is_some_and o (is_same_outcome x)) is ∙ same-self x)))

  -- in words of answers: D: a copy is due, A, M, R, L: some copy was accepted, modified, rejected, released
  best_bits : (D A M R L : Bool) → (D ≡ false → (A ≡ false) × (M ≡ false) × (R ≡ false) × (L ≡ false)) → (D ≡ true → A || (M || (R || L)) ≡ true)
      → ◌≡◌ {A = Outcome} (if A then Accepted else if M then Modified else if R then Rejected else if L then Released else Accepted)
      (if not D || A then Accepted else if M then Modified else if R then Rejected else Released)
  best_bits true true M R L none some = refl
  best_bits true false true R L none some = refl
  best_bits true false false true L none some = refl
  best_bits true false false false true none some = refl
  best_bits true false false false false none some = absurd (let never : false ≡ true = some refl in cc)
  best_bits false true M R L none some = refl
  best_bits false false M R L none some = let off = none refl in rw (off.1, off.2, off.3) refl

  one_of : (outcome : Outcome) → has_verdict rules d past outcome ≡ true
      → has_verdict rules d past Accepted || (has_verdict rules d past Modified || (has_verdict rules d past Rejected || has_verdict rules d past Released)) ≡ true
  one_of Accepted is = first (has_verdict rules d past Accepted) _ is
    where
      first : (a b : Bool) → a ≡ true → a || b ≡ true
      first true b is = refl
      first false b is = absurd cc
  one_of Modified is = second (has_verdict rules d past Accepted) (has_verdict rules d past Modified) _ is
    where
      second : (a b c : Bool) → b ≡ true → a || (b || c) ≡ true
      second true b c is = refl
      second false true c is = refl
      second false false c is = absurd cc
  one_of Rejected is = third (has_verdict rules d past Accepted) (has_verdict rules d past Modified) (has_verdict rules d past Rejected) (has_verdict rules d past Released) is
    where
      third : (a b c e : Bool) → c ≡ true → a || (b || (c || e)) ≡ true
      third true b c e is = refl
      third false true c e is = refl
      third false false true e is = refl
      third false false false e is = absurd cc
  one_of Released is = last (has_verdict rules d past Accepted) (has_verdict rules d past Modified) (has_verdict rules d past Rejected) (has_verdict rules d past Released) is
    where
      last : (a b c e : Bool) → e ≡ true → a || (b || (c || e)) ≡ true
      last true b c e is = refl
      last false true c e is = refl
      last false false true e is = refl
      last false false false e is = is

  pub best-is : has_all_verdicts rules d past ≡ true → best_of (has_verdict rules d past) ≡ best_verdict rules d past
  best-is each =
      best_bits (is_due_to_some rules d past) (has_verdict rules d past Accepted) (has_verdict rules d past Modified) (has_verdict rules d past Rejected) (has_verdict rules d past Released)
      (λ none. (undue-none none Accepted, undue-none none Modified, undue-none none Rejected, undue-none none Released))
      (λ some. let one = due-some each some in one_of one.0 one.1)

  -- what the numbers say of each outcome
  pub best-by : (has : Outcome → Bool) → ((outcome : Outcome) → has outcome ≡ verdict_at rules past d.number outcome) → best_of has ≡ best_of (has_verdict rules d past)
  best-by has says = by (has Accepted) (has Modified) (has Rejected) (has Released) (one Accepted) (one Modified) (one Rejected) (one Released)
    where
      one : (outcome : Outcome) → has outcome ≡ has_verdict rules d past outcome
      one outcome = says outcome ∙ ap (λ o. is_some_and o (λ x. has_verdict rules x past outcome)) found

      by : (a m r l : Bool) → a ≡ has_verdict rules d past Accepted → m ≡ has_verdict rules d past Modified → r ≡ has_verdict rules d past Rejected → l ≡ has_verdict rules d past Released
          → ◌≡◌ {A = Outcome} (if a then Accepted else if m then Modified else if r then Rejected else if l then Released else Accepted) (best_of (has_verdict rules d past))
      by a m r l is_a is_m is_r is_l = rw (is_a, is_m, is_r, is_l) refl
