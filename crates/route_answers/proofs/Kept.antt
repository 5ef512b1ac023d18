-- Opens stay answered: none are to be answered at the start, and what is written and is no open changes nothing.
use Rattle.std.proofs.Common.{◌≡◌, refl, sym, ap, subst, ◌∙◌, ℕ, Bool, true, false, ◌&&◌, ◌||◌, List, [], ◌∷◌, Option, Some, None, is_some, option_and_then, option_map, if◌then◌else◌, ◌==◌, eqb-true}
use Rattle.std.specs.Prelude.{is_none}
use Rattle.amqp_perf.specs.Meaning.{OpenFields}
use Rattle.capture_form.specs.Rules.{RuleSet}
use Rattle.trace_events.specs.Frame.{Frame, Spoken, spoken_in}
use Rattle.trace_events.specs.Event.{Event, Moment, Opened, In, Out, Lost, Broken, out_frame, is_out}
use Rattle.trace_events.specs.Said.{as_open, out_spoken, in_open, out_open}
use Rattle.trace_events.specs.Connection.{is_final, is_over, has_out_frame, has_in_open}
use Rattle.trace_events.proofs.EventKinds.{in_said}
use Rattle.trace_events.proofs.OverConnections.{has_event-other}
use Rattle.trace_events.specs.Clauses.{first_broken}
use Rattle.trace_events.proofs.OpenedConnections.{IsInPlace, written-in_place}
use Rattle.route_answers.specs.Answering.{AreOpensAnswered}
use Rattle.route_answers.proofs.Words.{or_left, neither, both}

pub none_answered : AreOpensAnswered []
none_answered c over = refl

-- what is written is no open of a client
unsaid : (m : Moment) → is_out m ≡ true → is_some (option_and_then as_open (in_said m)) ≡ false
unsaid (Out frame) out = refl
unsaid (In frame) out = absurd cc
unsaid Opened out = absurd cc
unsaid Lost out = absurd cc
unsaid Broken out = absurd cc

open_in : (e : Event) (frame : Frame) (spoken : Spoken) → e.moment ≡ Out frame → spoken_in frame.body ≡ Some spoken → out_open e ≡ as_open spoken.meaning
open_in e frame spoken written says =
    let said : out_spoken e ≡ Some spoken = ap (λ m. option_and_then (λ (f : Frame). spoken_in f.body) (out_frame m)) written ∙ says in
    ap (λ o. option_and_then as_open (option_map (λ (spoken : Spoken). spoken.meaning) o)) said

-- only an open comes first
behind_first : (b : Bool) (opening : Option OpenFields) → is_some opening ≡ false → (if b then is_none opening else is_some opening) ≡ true → b ≡ true
behind_first true opening none is = refl
behind_first false opening none is = let never : true ≡ false = sym is ∙ none in absurd cc

module _ (rules : RuleSet) (e : Event) (past : List Event) (lawful : first_broken rules (e ∷ past) ≡ None) (out : is_out e.moment ≡ true) (other : is_some (out_open e) ≡ false)
    (opens : AreOpensAnswered past) where
  framed_before : has_out_frame e.connection past ≡ true
  framed_before =
      let place = written-in_place rules e past lawful out in
      behind_first (has_out_frame e.connection past) (as_open place.spoken.meaning)
      (ap is_some (sym (open_in e place.frame place.spoken place.written place.says)) ∙ other) place.in_place

  not_asked : (c : ℕ) → has_in_open c (e ∷ past) ≡ has_in_open c past
  not_asked c = ap (λ b. b && (e.connection == c) || has_in_open c past) (unsaid e.moment out)

  at : (c : ℕ) (b : Bool) → (e.connection == c) ≡ b → is_over c (e ∷ past) ≡ false → has_out_frame c (e ∷ past) ≡ has_in_open c (e ∷ past)
  at c false elsewhere over =
      has_event-other c (λ e. is_out e.moment) e past elsewhere
      ∙ (opens c (sym (has_event-other c (λ e. is_final e.moment) e past elsewhere) ∙ over) ∙ sym (not_asked c))
  at c true here over =
      let before : is_over c past ≡ false = (neither (is_final e.moment && (e.connection == c)) (is_over c past) over).1 in
      let framed : has_out_frame c past ≡ true = ap (λ n. has_out_frame n past) (sym (eqb-true e.connection c here)) ∙ framed_before in
      or_left (is_out e.moment && (e.connection == c)) (has_out_frame c past) (both (is_out e.moment) (e.connection == c) out here)
      ∙ (sym framed ∙ (opens c before ∙ sym (not_asked c)))

  pub opens_stay : AreOpensAnswered (e ∷ past)
  opens_stay c over = at c (e.connection == c) refl over
