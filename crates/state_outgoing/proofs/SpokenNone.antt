-- Where an event is no client's disposition, no consumer speaks of a delivery with it.
use Rattle.std.proofs.Common.{◌≡◌, ap, sym, ℕ, false, None, option_map, option_and_then, IfSome, if◌then◌else◌, subst}
use Rattle.amqp_perf.specs.Meaning.{DispositionFields, last_id}
use Rattle.trace_events.specs.Words.{is_some_and}
use Rattle.trace_events.specs.Event.{Event}
use Rattle.trace_events.specs.Link.{is_receiver}
use Rattle.trace_events.specs.Said.{in_disposition}
use Rattle.state_outgoing.specs.IdRanges.{IsCounted}
use Rattle.state_outgoing.specs.SentTouched.{finds, is_spoken_of, spoken_ids}
use Rattle.state_outgoing.specs.declared.groups.SentGroups.{SentGroups}

module _ (e : Event) (none : in_disposition e ≡ None) where
  no-ids : spoken_ids e ≡ None
  no-ids =
      ap
      (option_and_then (λ (f : DispositionFields). if is_receiver f.role then option_map (λ s. record { session = s.number; first = f.first; last = last_id f }) e.session else None))
      none

  pub none-spoken : (groups : SentGroups) (n : ℕ) → false ≡ is_spoken_of groups e n
  none-spoken groups n = sym (ap (λ o. is_some_and o (λ ids. finds groups ids n)) no-ids)

  pub no-count : IfSome (spoken_ids e) IsCounted
  no-count = subst (λ o. IfSome o IsCounted) (sym no-ids) tt
