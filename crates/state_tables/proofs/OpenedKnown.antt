-- What a record opens that breaks no clause is known: a begin of the router answers one of the client's, and so does an attach.
use Rattle.std.proofs.Common.{◌≡◌, refl, ap, ◌∙◌, Bool, true, List, ◌∷◌, Option, Some, None, IfSome, is_some, option_and_then, option_map}
use Rattle.amqp_perf.specs.declared.begin.Begin.{Begin}
use Rattle.amqp_perf.specs.Meaning.{Meaning, AnOpen, ABegin, AnAttach, AFlow, ATransfer, ADisposition, ADetach, AnEnd, AClose, AttachFields}
use Rattle.capture_form.specs.Rules.{RuleSet}
use Rattle.trace_events.specs.declared.clause.Clause.TheVariants.{L2, L3}
use Rattle.trace_events.specs.Clauses.{first_broken, broken_clause, meaning_meets}
use Rattle.trace_events.specs.LinkClause.{asking, answers_attach, answers_one}
use Rattle.trace_events.proofs.ClausesMet.{met}
use Rattle.trace_events.specs.Words.{is_some_and, or_else}
use Rattle.trace_events.specs.Frame.{Frame, Spoken, spoken_in}
use Rattle.trace_events.specs.Event.{Event, Moment, Opened, In, Out, Lost, Broken, out_frame}
use Rattle.trace_events.specs.declared.session.Session.{Session}
use Rattle.trace_events.specs.Said.{as_begin, as_attach}
use Rattle.trace_events.specs.Session.{has_unanswered_begin}
use Rattle.trace_events.proofs.Along.{and_first}
use Rattle.trace_events.specs.Known.{OpensKnown}

some_of : {A : Type 0} (o : Option A) (test : A → Bool) → is_some_and o test ≡ true → is_some o ≡ true
some_of None test is = absurd cc
some_of (Some x) test is = refl

passing : {A : Type 0} (P : A → Type 0) (test : A → Bool) (o : Option A) → ((x : A) → test x ≡ true → P x) → is_some_and o test ≡ true → IfSome o P
passing P test None each is = tt
passing P test (Some x) each is = each x is

module _ (rules : RuleSet) (e : Event) (past : List Event) (lawful : first_broken rules past ≡ None) (unbroken : broken_clause rules e past ≡ None) where
  whole : first_broken rules (e ∷ past) ≡ None
  whole = ap (λ o. or_else o (option_map (λ clause. (e.number, clause)) (broken_clause rules e past))) lawful ∙ ap (λ o. option_map (λ clause. (e.number, clause)) o) unbroken

  abbrev AreBegun : Option Meaning → Option Spoken → Type 0
  AreBegun m o = IfSome (option_and_then as_begin m) (λ (ours : Begin). IfSome o (λ (spoken : Spoken). has_unanswered_begin e.connection spoken.channel past ≡ true))

  abbrev AreAsked : Option Meaning → Type 0
  AreAsked m = IfSome (option_and_then as_attach m) (λ (ours : AttachFields). IfSome e.session (λ (s : Session). is_some (asking s ours.handle past) ≡ true))

  said : (spoken : Spoken) (m : Meaning) → meaning_meets rules e spoken past m L2 ≡ true → meaning_meets rules e spoken past m L3 ≡ true → AreBegun (Some m) (Some spoken) × AreAsked (Some m)
  said spoken (ABegin begin) begins attaches = (and_first (has_unanswered_begin e.connection spoken.channel past) _ (and_first _ _ begins), tt)
  said spoken (AnAttach fields) begins attaches = (
    tt,
    passing (λ (s : Session). is_some (asking s fields.handle past) ≡ true) (answers_attach fields past) e.session
        (λ s answers. some_of (asking s fields.handle past) (answers_one fields) answers) attaches,
  )
  said spoken (AnOpen fields) begins attaches = (tt, tt)
  said spoken (AFlow flow) begins attaches = (tt, tt)
  said spoken (ATransfer fields) begins attaches = (tt, tt)
  said spoken (ADisposition fields) begins attaches = (tt, tt)
  said spoken (ADetach fields) begins attaches = (tt, tt)
  said spoken (AnEnd error) begins attaches = (tt, tt)
  said spoken (AClose error) begins attaches = (tt, tt)

  abbrev spoken_at : Moment → Option Spoken
  spoken_at m = option_and_then (λ (frame : Frame). spoken_in frame.body) (out_frame m)

  abbrev meant : Option Spoken → Option Meaning
  meant o = option_map (λ (spoken : Spoken). spoken.meaning) o

  by_spoken : (frame : Frame) → e.moment ≡ Out frame → (o : Option Spoken) → spoken_in frame.body ≡ o → AreBegun (meant o) o × AreAsked (meant o)
  by_spoken frame written None says = (tt, tt)
  by_spoken frame written (Some spoken) says =
      said spoken spoken.meaning (met rules e past whole frame written spoken says L2) (met rules e past whole frame written spoken says L3)

  by_moment : (m : Moment) → e.moment ≡ m → AreBegun (meant (spoken_at m)) (spoken_at m) × AreAsked (meant (spoken_at m))
  by_moment (Out frame) written = by_spoken frame written (spoken_in frame.body) refl
  by_moment (In frame) written = (tt, tt)
  by_moment Opened written = (tt, tt)
  by_moment Lost written = (tt, tt)
  by_moment Broken written = (tt, tt)

  pub opens-known : OpensKnown (λ c channel. has_unanswered_begin c channel past ≡ true) (λ s handle. is_some (asking s handle past) ≡ true) e
  opens-known = by_moment e.moment refl
