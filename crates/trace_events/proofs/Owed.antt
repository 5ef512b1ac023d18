-- What one more event does to the answers that are owed, as one equation for every event.
use Rattle.std.proofs.Common.{◌≡◌, refl, ℕ, Bool, true, false, not, ◌&&◌, ◌||◌, List, ◌∷◌, Some, None, is_some, is_none, if◌then◌else◌}
use Rattle.trace_events.specs.Event.{Event}
use Rattle.trace_events.specs.declared.session.Session.{Session}
use Rattle.trace_events.specs.Said.{in_begin}
use Rattle.trace_events.specs.Session.{begins_in, begins_out, ends_in, ends_out, last_in_begin, has_unanswered_begin, owes_end}
use Rattle.trace_events.specs.Link.{attaches_in, attaches_out, detaches_in, detaches_out, unanswered_attach, owes_detach}

-- "unless it is answered here, it is owed by this event or was before"
unless : (answered here before : Bool) → (if answered then false else here || before) ≡ not answered && (here || before)
unless true here before = refl
unless false here before = refl

module _ (c channel : ℕ) (e : Event) (past : List Event) where
  pub last_in_begin-next : last_in_begin c channel (e ∷ past) ≡ (if begins_in c channel e then in_begin e else last_in_begin c channel past)
  last_in_begin-next = refl

  pub has_unanswered_begin-next : has_unanswered_begin c channel (e ∷ past)
      ≡ not (begins_out c channel e) && (begins_in c channel e && e.is_heard && is_none e.fault || has_unanswered_begin c channel past)
  has_unanswered_begin-next = unless (begins_out c channel e) (begins_in c channel e && e.is_heard && is_none e.fault) (has_unanswered_begin c channel past)

  pub owes_end-next : owes_end c channel (e ∷ past) ≡ not (ends_out c channel e) && (ends_in c channel e && is_some e.session || owes_end c channel past)
  owes_end-next = unless (ends_out c channel e) (ends_in c channel e && is_some e.session) (owes_end c channel past)

  -- an end of the client on a channel without a live session is owed no answer
  pub owes_end-sessionless : ends_out c channel e ≡ false → is_some e.session ≡ false → owes_end c channel (e ∷ past) ≡ owes_end c channel past
  owes_end-sessionless ours none = by (ends_out c channel e) (ends_in c channel e) (is_some e.session) (owes_end c channel past) ours none
    where
      by : (ours theirs on before : Bool) → ours ≡ false → on ≡ false → (if ours then false else theirs && on || before) ≡ before
      by false true false before a b = refl
      by false false false before a b = refl
      by true theirs on before a b = absurd cc
      by false true true before a b = absurd cc
      by false false true before a b = absurd cc

module _ (s : Session) (handle : ℕ) (e : Event) (past : List Event) where
  pub unanswered_attach-next : unanswered_attach s handle (e ∷ past)
      ≡ (if attaches_out s handle e then None else if attaches_in s handle e && e.is_heard then Some e else unanswered_attach s handle past)
  unanswered_attach-next = refl

  pub owes_detach-next : owes_detach s handle (e ∷ past)
      ≡ not (detaches_out s handle e) && ((detaches_in s handle e && is_some e.link || attaches_out s handle e && is_none e.link) || owes_detach s handle past)
  owes_detach-next = by (detaches_out s handle e) (detaches_in s handle e && is_some e.link) (attaches_out s handle e && is_none e.link) (owes_detach s handle past)
    where
      by : (answered a b before : Bool) → (if answered then false else a || b || before) ≡ not answered && ((a || b) || before)
      by true a b before = refl
      by false true b before = refl
      by false false b before = refl

  -- a detach of a handle without a live link is owed no answer, nor an attach that opens one
  pub owes_detach-linkless : detaches_out s handle e ≡ false → attaches_out s handle e ≡ false → is_some e.link ≡ false → owes_detach s handle (e ∷ past) ≡ owes_detach s handle past
  owes_detach-linkless ours attaches none = by (detaches_out s handle e) (detaches_in s handle e) (is_some e.link) (attaches_out s handle e) (is_none e.link) (owes_detach s handle past) ours attaches none
    where
      by : (ours theirs on attaches none before : Bool) → ours ≡ false → attaches ≡ false → on ≡ false → (if ours then false else theirs && on || attaches && none || before) ≡ before
      by false true false false none before a b c = refl
      by false false false false none before a b c = refl
      by true theirs on attaches none before a b c = absurd cc
      by false theirs on true none before a b c = absurd cc
      by false true true false none before a b c = absurd cc
      by false false true false none before a b c = absurd cc

  pub owes_detach-opened : detaches_out s handle e ≡ false → detaches_in s handle e ≡ false → is_none e.link ≡ false → owes_detach s handle (e ∷ past) ≡ owes_detach s handle past
  owes_detach-opened ours theirs on = by (detaches_out s handle e) (detaches_in s handle e) (is_some e.link) (attaches_out s handle e) (is_none e.link) (owes_detach s handle past) ours theirs on
    where
      by : (ours theirs some attaches none before : Bool) → ours ≡ false → theirs ≡ false → none ≡ false → (if ours then false else theirs && some || attaches && none || before) ≡ before
      by false false some true false before a b c = refl
      by false false some false false before a b c = refl
      by true theirs some attaches none before a b c = absurd cc
      by false true some attaches none before a b c = absurd cc
      by false false some attaches true before a b c = absurd cc
