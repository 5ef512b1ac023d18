-- What one more event does to a connection's opening and end.
use Rattle.std.proofs.Common.{◌≡◌, refl, ℕ, true, false, ◌||◌, List, ◌∷◌, Some, None, is_some, ◌==◌}
use Rattle.amqp_perf.specs.Meaning.{OpenFields}
use Rattle.trace_events.specs.Event.{Event, is_opened, is_lost, is_broken, is_out}
use Rattle.trace_events.specs.Said.{in_open, out_open, is_in_close, is_out_close}
use Rattle.trace_events.specs.Connection.{is_final, is_over, was_opened, has_in_open, has_out_open, has_out_close, first_open, frame_limit, was_finished, was_stopped, has_out_frame}
use Rattle.trace_events.proofs.StepWords.{and-false, or-true, if-none, or_else-none}
use Rattle.trace_events.proofs.Elsewhere.{is_over-other}

module _ (c : ℕ) (e : Event) (past : List Event) where
  pub is_over-same : is_final e.moment ≡ false → is_over c (e ∷ past) ≡ is_over c past
  is_over-same none = rw none refl

  pub is_over-here : is_final e.moment ≡ true → (e.connection == c) ≡ true → is_over c (e ∷ past) ≡ true
  is_over-here passes own = rw (passes, own) refl

  pub is_over-stays : is_over c past ≡ true → is_over c (e ∷ past) ≡ true
  is_over-stays before = rw before (simp or-true)

  pub was_opened-same : is_opened e.moment ≡ false → was_opened c (e ∷ past) ≡ was_opened c past
  was_opened-same none = rw none refl

  pub was_opened-here : is_opened e.moment ≡ true → (e.connection == c) ≡ true → was_opened c (e ∷ past) ≡ true
  was_opened-here passes own = rw (passes, own) refl

  pub was_opened-stays : was_opened c past ≡ true → was_opened c (e ∷ past) ≡ true
  was_opened-stays before = rw before (simp or-true)

  pub was_opened-other : (e.connection == c) ≡ false → was_opened c (e ∷ past) ≡ was_opened c past
  was_opened-other other = rw other (simp and-false)

  pub has_in_open-same : is_some (in_open e) ≡ false → has_in_open c (e ∷ past) ≡ has_in_open c past
  has_in_open-same none = rw none refl

  pub has_in_open-here : is_some (in_open e) ≡ true → (e.connection == c) ≡ true → has_in_open c (e ∷ past) ≡ true
  has_in_open-here passes own = rw (passes, own) refl

  pub has_in_open-stays : has_in_open c past ≡ true → has_in_open c (e ∷ past) ≡ true
  has_in_open-stays before = rw before (simp or-true)

  pub has_in_open-other : (e.connection == c) ≡ false → has_in_open c (e ∷ past) ≡ has_in_open c past
  has_in_open-other other = rw other (simp and-false)

  pub has_out_open-same : is_some (out_open e) ≡ false → has_out_open c (e ∷ past) ≡ has_out_open c past
  has_out_open-same none = rw none refl

  pub has_out_open-here : is_some (out_open e) ≡ true → (e.connection == c) ≡ true → has_out_open c (e ∷ past) ≡ true
  has_out_open-here passes own = rw (passes, own) refl

  pub has_out_open-stays : has_out_open c past ≡ true → has_out_open c (e ∷ past) ≡ true
  has_out_open-stays before = rw before (simp or-true)

  pub has_out_open-other : (e.connection == c) ≡ false → has_out_open c (e ∷ past) ≡ has_out_open c past
  has_out_open-other other = rw other (simp and-false)

  pub has_out_close-same : is_out_close e ≡ false → has_out_close c (e ∷ past) ≡ has_out_close c past
  has_out_close-same none = rw none refl

  pub has_out_close-here : is_out_close e ≡ true → (e.connection == c) ≡ true → has_out_close c (e ∷ past) ≡ true
  has_out_close-here passes own = rw (passes, own) refl

  pub has_out_close-stays : has_out_close c past ≡ true → has_out_close c (e ∷ past) ≡ true
  has_out_close-stays before = rw before (simp or-true)

  pub has_out_close-other : (e.connection == c) ≡ false → has_out_close c (e ∷ past) ≡ has_out_close c past
  has_out_close-other other = rw other (simp and-false)

  pub was_finished-same : (is_lost e.moment || is_out_close e) ≡ false → was_finished c (e ∷ past) ≡ was_finished c past
  was_finished-same none = rw none refl

  pub was_finished-here : (is_lost e.moment || is_out_close e) ≡ true → (e.connection == c) ≡ true → was_finished c (e ∷ past) ≡ true
  was_finished-here passes own = rw (passes, own) refl

  pub was_finished-stays : was_finished c past ≡ true → was_finished c (e ∷ past) ≡ true
  was_finished-stays before = rw before (simp or-true)

  pub was_finished-other : (e.connection == c) ≡ false → was_finished c (e ∷ past) ≡ was_finished c past
  was_finished-other other = rw other (simp and-false)

  pub was_stopped-same : (is_broken e.moment || is_in_close e) ≡ false → was_stopped c (e ∷ past) ≡ was_stopped c past
  was_stopped-same none = rw none refl

  pub was_stopped-here : (is_broken e.moment || is_in_close e) ≡ true → (e.connection == c) ≡ true → was_stopped c (e ∷ past) ≡ true
  was_stopped-here passes own = rw (passes, own) refl

  pub was_stopped-stays : was_stopped c past ≡ true → was_stopped c (e ∷ past) ≡ true
  was_stopped-stays before = rw before (simp or-true)

  pub was_stopped-other : (e.connection == c) ≡ false → was_stopped c (e ∷ past) ≡ was_stopped c past
  was_stopped-other other = rw other (simp and-false)

  pub has_out_frame-same : is_out e.moment ≡ false → has_out_frame c (e ∷ past) ≡ has_out_frame c past
  has_out_frame-same none = rw none refl

  pub has_out_frame-here : is_out e.moment ≡ true → (e.connection == c) ≡ true → has_out_frame c (e ∷ past) ≡ true
  has_out_frame-here passes own = rw (passes, own) refl

  pub has_out_frame-stays : has_out_frame c past ≡ true → has_out_frame c (e ∷ past) ≡ true
  has_out_frame-stays before = rw before (simp or-true)

  pub has_out_frame-other : (e.connection == c) ≡ false → has_out_frame c (e ∷ past) ≡ has_out_frame c past
  has_out_frame-other other = rw other (simp and-false)

  pub first_open-same : in_open e ≡ None → first_open c (e ∷ past) ≡ first_open c past
  first_open-same none = rw none (simp (if-none, or_else-none))

  pub first_open-other : (e.connection == c) ≡ false → first_open c (e ∷ past) ≡ first_open c past
  first_open-other other = rw other (simp or_else-none)

  pub first_open-first : (e.connection == c) ≡ true → first_open c past ≡ None → first_open c (e ∷ past) ≡ in_open e
  first_open-first own none = rw (own, none) refl

  pub first_open-later : (fields : OpenFields) → first_open c past ≡ Some fields → first_open c (e ∷ past) ≡ Some fields
  first_open-later fields is = rw is refl

  pub frame_limit-same : in_open e ≡ None → frame_limit c (e ∷ past) ≡ frame_limit c past
  frame_limit-same none = rw (first_open-same none) refl

  pub frame_limit-other : (e.connection == c) ≡ false → frame_limit c (e ∷ past) ≡ frame_limit c past
  frame_limit-other other = rw (first_open-other other) refl

  pub frame_limit-later : (fields : OpenFields) → first_open c past ≡ Some fields → frame_limit c (e ∷ past) ≡ frame_limit c past
  frame_limit-later fields is = rw (first_open-later fields is, is) refl

pub ruleset connection_steps = (
  is_over-other,
  is_over-same,
  is_over-here,
  is_over-stays,
  was_opened-same,
  was_opened-here,
  was_opened-stays,
  was_opened-other,
  has_in_open-same,
  has_in_open-here,
  has_in_open-stays,
  has_in_open-other,
  has_out_open-same,
  has_out_open-here,
  has_out_open-stays,
  has_out_open-other,
  has_out_close-same,
  has_out_close-here,
  has_out_close-stays,
  has_out_close-other,
  was_finished-same,
  was_finished-here,
  was_finished-stays,
  was_finished-other,
  was_stopped-same,
  was_stopped-here,
  was_stopped-stays,
  was_stopped-other,
  has_out_frame-same,
  has_out_frame-here,
  has_out_frame-stays,
  has_out_frame-other,
  first_open-same,
  first_open-other,
  first_open-first,
  first_open-later,
  frame_limit-same,
  frame_limit-other,
  frame_limit-later,
)
