-- The list of sessions that lack window, behind one more event, and where it is empty.
use Rattle.std.proofs.Common.{◌≡◌, refl, sym, ap, ◌∙◌, ℕ, Bool, true, false, not, inl, inr, List, ◌∷◌, Option, Some, None, Result, Ok, Err, OnOk, if◌then◌else◌, ◌==◌, eq-eqb}
use Rattle.capture_form.specs.Rules.{RuleSet}
use Rattle.trace_events.specs.Event.{Event}
use Rattle.trace_events.specs.declared.session.Session.{Session}
use Rattle.trace_events.specs.Session.{IsLiveOn, live_sessions}
use Rattle.trace_events.proofs.Judged.{AreJudged}
use Rattle.trace_duties.specs.Quiet.{lacks_window, none_lacks_window}
use Rattle.trace_duties.proofs.QuietLists.{all-each}
use Rattle.due_lists.specs.Lacking.{IsLacking, HasLowered}
use Rattle.due_lists.proofs.LiveOnes.{live_sessions-live, event-session}

pub on_ok : {A E : Type 0} {P Q : Type 0} (r : Result A E) → (P → Q) → OnOk r P → OnOk r Q
on_ok (Ok x) f p = f p
on_ok (Err e) f p = tt

-- each session that lacks window stands under its number
abbrev pub Have : (ℕ → Option Session) → List Event → Type 0
Have at past = (s : Session) → IsLacking s past → at s.number ≡ Some s

module _ (rules : RuleSet) (e : Event) (past : List Event) (are : AreJudged rules (e ∷ past)) (old new : ℕ → Option Session) (t : Session)
    (stands : e.session ≡ Some t) (put : (n : ℕ) → new n ≡ (if t.number == n then Some t else old n)) where
  pub have-lowered : HasLowered (Some t) e past → Have old past → Have new (e ∷ past)
  have-lowered lowered has s lacking = put s.number ∙ elim (lowered s lacking) [
    | inl same ↦ let one : t ≡ s = cc in ap (λ b. if b then Some t else old s.number) (eq-eqb t.number s.number (ap (λ (x : Session). x.number) one)) ∙ same
    | inr earlier ↦ by (t.number == s.number) refl (has s earlier)
  ]
    where
      by : (b : Bool) → (t.number == s.number) ≡ b → old s.number ≡ Some s → (if b then Some t else old s.number) ≡ Some s
      by true same was = ap Some (event-session rules e past are s t lacking.0 stands same)
      by false other was = was

-- nothing under any number
pub none-lacking : (rules : RuleSet) (past : List Event) → AreJudged rules past → (at : ℕ → Option Session) → Have at past → ((n : ℕ) → at n ≡ None) → none_lacks_window past ≡ true
none-lacking rules past are at has none =
    all-each (λ s. not (lacks_window past s)) (live_sessions past) (λ s there. by s (live_sessions-live rules past are s there) (lacks_window past s) refl)
  where
    by : (s : Session) → IsLiveOn s past → (b : Bool) → lacks_window past s ≡ b → not b ≡ true
    by s live true is = let never : ◌≡◌ {A = Option Session} None (Some s) = sym (none s.number) ∙ has s (live, is) in absurd cc
    by s live false is = refl
