-- What a connection that is not over allows, and what stays of it.
use Rattle.std.proofs.Common.{◌≡◌, refl, sym, ap, ◌∙◌, ℕ, Bool, true, false, ◌&&◌, ◌||◌, List, [], ◌∷◌, Option, Some, None, is_some, option_map, option_and_then, ◌==◌}
use Rattle.std.specs.Prelude.{is_none}
use Rattle.amqp_perf.specs.Meaning.{Meaning, AClose}
use Rattle.capture_form.specs.Rules.{RuleSet}
use Rattle.trace_events.specs.Words.{is_some_and}
use Rattle.trace_events.specs.Frame.{Spoken, spoken_in}
use Rattle.trace_events.specs.Event.{Event, Moment, Opened, In, Out, Lost, Broken, is_out, is_lost, is_broken}
use Rattle.trace_events.specs.Said.{as_open, is_close, out_open, is_in_close, is_out_close}
use Rattle.trace_events.specs.Connection.{has_event, is_final, is_over, was_opened, was_finished, was_stopped, has_out_frame, has_out_open, has_out_close}
use Rattle.trace_events.specs.Heard.{is_of_connection}
use Rattle.trace_events.proofs.EventKinds.{in_said, out_said}
use Rattle.trace_events.proofs.StepWords.{or-true}
use Rattle.trace_events.specs.ConnectionClause.{may_be_written}
use Rattle.trace_events.specs.Clauses.{first_broken}
use Rattle.trace_events.proofs.OpenedConnections.{lawful-framed}
use Rattle.route_answers.specs.Answering.{was_lost}
use Rattle.route_answers.proofs.Words.{neither}

-- ---- tests of a connection's events

weaker_by : (p q own rest : Bool) → (p ≡ true → q ≡ true) → q && own || rest ≡ false → (p && own ≡ false) × (rest ≡ false)
weaker_by true false own rest sub none = absurd (let never = sub refl in cc)
weaker_by true true own rest sub none = neither own rest none
weaker_by false q own rest sub none = (refl, (neither (q && own) rest none).1)

none_here : (a b : Bool) → a ≡ false → b ≡ false → a || b ≡ false
none_here a b one other = ap (λ x. x || b) one ∙ other

-- where no event passes, none passes what is stronger
pub none_stronger : (c : ℕ) (p q : Event → Bool) → ((e : Event) → p e ≡ true → q e ≡ true) → (past : List Event) → has_event c q past ≡ false → has_event c p past ≡ false
none_stronger c p q sub [] none = refl
none_stronger c p q sub (e ∷ past) none =
    let h = weaker_by (p e) (q e) (e.connection == c) (has_event c q past) (sub e) none in
    none_here (p e && (e.connection == c)) (has_event c p past) h.0 (none_stronger c p q sub past h.1)

close_by : (o : Option Spoken) → is_some_and (option_map (λ (spoken : Spoken). spoken.meaning) o) is_close ≡ true → is_some_and o (λ spoken. is_close spoken.meaning) ≡ true
close_by None is = absurd cc
close_by (Some spoken) is = is

finished_final : (m : Moment) → is_lost m || is_some_and (out_said m) is_close ≡ true → is_final m ≡ true
finished_final (Out frame) is = close_by (spoken_in frame.body) is
finished_final (In frame) is = absurd cc
finished_final Opened is = absurd cc
finished_final Lost is = refl
finished_final Broken is = refl

stopped_final : (m : Moment) → is_broken m || is_some_and (in_said m) is_close ≡ true → is_final m ≡ true
stopped_final (In frame) is = close_by (spoken_in frame.body) is
stopped_final (Out frame) is = absurd cc
stopped_final Opened is = absurd cc
stopped_final Lost is = refl
stopped_final Broken is = refl

module _ (c : ℕ) (past : List Event) where
  pub not_finished : is_over c past ≡ false → was_finished c past ≡ false
  not_finished = none_stronger c (λ e. is_lost e.moment || is_out_close e) (λ e. is_final e.moment) (λ e. finished_final e.moment) past

  pub not_stopped : is_over c past ≡ false → was_stopped c past ≡ false
  not_stopped = none_stronger c (λ e. is_broken e.moment || is_in_close e) (λ e. is_final e.moment) (λ e. stopped_final e.moment) past

-- a connection that is neither lost nor closed by the router is not finished
both_by : (p q own rest more : Bool) → p && own || rest ≡ false → q && own || more ≡ false → (p || q) && own ≡ false
both_by true q true rest more one other = absurd cc
both_by true q false rest more one other = refl
both_by false q own rest more one other = (neither (q && own) more other).0

pub unfinished : (c : ℕ) (past : List Event) → was_lost c past ≡ false → has_out_close c past ≡ false → was_finished c past ≡ false
unfinished c [] lost closed = refl
unfinished c (e ∷ past) lost closed =
    none_here ((is_lost e.moment || is_out_close e) && (e.connection == c)) (was_finished c past)
    (both_by (is_lost e.moment) (is_out_close e) (e.connection == c) (was_lost c past) (has_out_close c past) lost closed)
    (unfinished c past (neither (is_lost e.moment && (e.connection == c)) (was_lost c past) lost).1 (neither (is_out_close e && (e.connection == c)) (has_out_close c past) closed).1)

-- ---- opens

open_out : (m : Moment) → is_some (option_and_then as_open (out_said m)) ≡ true → is_out m ≡ true
open_out (Out frame) is = refl
open_out (In frame) is = absurd cc
open_out Opened is = absurd cc
open_out Lost is = absurd cc
open_out Broken is = absurd cc

some_there : (p q own a b : Bool) → (p ≡ true → q ≡ true) → (a ≡ true → b ≡ true) → p && own || a ≡ true → q && own || b ≡ true
some_there true q own a b sub more is = by q own (sub refl) is
  where
    by : (q own : Bool) → q ≡ true → own || a ≡ true → q && own || b ≡ true
    by true true one is = refl
    by true false one is = more is
    by false own one is = absurd cc
some_there false q own a b sub more is = by (q && own) (more is)
  where
    by : (x : Bool) → b ≡ true → x || b ≡ true
    by true is = refl
    by false is = is

-- where the router has written an open it has written a frame
pub open_framed : (c : ℕ) (past : List Event) → has_out_open c past ≡ true → has_out_frame c past ≡ true
open_framed c [] is = absurd cc
open_framed c (e ∷ past) is =
    some_there (is_some (out_open e)) (is_out e.moment) (e.connection == c) (has_out_open c past) (has_out_frame c past) (open_out e.moment) (open_framed c past) is

-- where it has written none, no frame
pub unopened_unframed : (rules : RuleSet) (c : ℕ) (past : List Event) → first_broken rules past ≡ None → has_out_open c past ≡ false → has_out_frame c past ≡ false
unopened_unframed rules c past lawful none = by (has_out_frame c past) refl
  where
    by : (b : Bool) → has_out_frame c past ≡ b → b ≡ false
    by true framed = let never : true ≡ false = sym (lawful-framed rules c past lawful framed).1 ∙ none in absurd cc
    by false framed = refl

-- ---- what may be written

-- a connection on which the router has spoken, and that is not over
pub record Speaks (past : List Event) (c : ℕ) : Type 0 where
  pub opened : was_opened c past ≡ true
  pub running : is_over c past ≡ false
  pub framed : has_out_frame c past ≡ true

module _ (c : ℕ) (past : List Event) where
  pub speaks_written : Speaks past c → (m : Meaning) → is_none (as_open m) ≡ true → may_be_written c m past ≡ true
  speaks_written speaks m other = rw (speaks.opened, not_finished c past speaks.running, speaks.framed, not_stopped c past speaks.running, other) (or-true (is_of_connection m))

  pub close_written : was_opened c past ≡ true → was_finished c past ≡ false → has_out_frame c past ≡ true → (error : Option (List ℕ)) → may_be_written c (AClose error) past ≡ true
  close_written opened running framed error = rw (opened, running, framed) refl

-- in a lawful history it has written a frame just where it has written an open
pub framed_opened : (rules : RuleSet) (c : ℕ) (past : List Event) → first_broken rules past ≡ None → has_out_frame c past ≡ has_out_open c past
framed_opened rules c past lawful = by (has_out_open c past) refl
  where
    by : (b : Bool) → has_out_open c past ≡ b → has_out_frame c past ≡ b
    by true is = open_framed c past is
    by false is = unopened_unframed rules c past lawful is

-- a connection that is not lost is finished just where the router has closed it
finished_by : (lost closed own rest more last : Bool) → lost && own || last ≡ false → (last ≡ false → rest ≡ more) → (lost || closed) && own || rest ≡ closed && own || more
finished_by true closed true rest more last none same = absurd cc
finished_by true true false rest more last none same = same none
finished_by true false false rest more last none same = same none
finished_by false closed own rest more last none same = ap (λ b. closed && own || b) (same (neither (false && own) last none).1)

pub finished_closed : (c : ℕ) (past : List Event) → was_lost c past ≡ false → was_finished c past ≡ has_out_close c past
finished_closed c [] none = refl
finished_closed c (e ∷ past) none =
    finished_by (is_lost e.moment) (is_out_close e) (e.connection == c) (was_finished c past) (has_out_close c past) (was_lost c past) none (finished_closed c past)
