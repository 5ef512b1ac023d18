-- What the router opens is filled in last: an event that begins no session keeps its session, and one that attaches none
-- its link.
use Rattle.std.proofs.Common.{◌≡◌, refl, ap, ◌∙◌, List, Option, Some, None, option_and_then, option_map}
use Rattle.amqp_perf.specs.declared.begin.Begin.{Begin}
use Rattle.amqp_perf.specs.Meaning.{AttachFields}
use Rattle.trace_events.specs.Words.{or_else, where_passes}
use Rattle.trace_events.specs.Frame.{Spoken}
use Rattle.trace_events.specs.Event.{Event, Link}
use Rattle.trace_events.specs.declared.session.Session.{Session}
use Rattle.trace_events.specs.Said.{out_spoken, out_begin, out_attach}
use Rattle.trace_events.specs.Session.{last_in_begin, new_session}
use Rattle.trace_events.specs.Link.{last_in_attach, opens_link, new_link}
use Rattle.trace_events.specs.History.{opened}

module _ (e : Event) (past : List Event) where
  session_by : (o : Option Spoken) (begin : Option Begin) → begin ≡ None
      → or_else (option_and_then (λ (spoken : Spoken). option_map (λ (ours : Begin). new_session e.number e.connection spoken.channel ours (last_in_begin e.connection spoken.channel past)) begin) o) e.session ≡ e.session
  session_by None begin none = refl
  session_by (Some spoken) begin none =
      ap (λ (b : Option Begin). or_else (option_map (λ (ours : Begin). new_session e.number e.connection spoken.channel ours (last_in_begin e.connection spoken.channel past)) b) e.session) none

  pub opened-session : out_begin e ≡ None → (opened past e).session ≡ e.session
  opened-session none = session_by (out_spoken e) (out_begin e) none

  link_by : (attach : Option AttachFields) → attach ≡ None
      → or_else (option_and_then (λ (fields : AttachFields). option_and_then (λ (s : Session). option_map (λ (ours : AttachFields). new_link e.number s ours (last_in_attach s fields.handle past)) (where_passes opens_link attach)) e.session) attach) e.link ≡ e.link
  link_by None none = refl
  link_by (Some fields) none = absurd cc

  pub opened-link : out_attach e ≡ None → (opened past e).link ≡ e.link
  opened-link none = link_by (out_attach e) none

  -- one that opens nothing stays as it was
  pub opened-other : out_begin e ≡ None → out_attach e ≡ None → opened past e ≡ e
  opened-other no_begin no_attach =
      ap (λ (s : Option Session). record e { session = s; link = (opened past e).link }) (opened-session no_begin)
      ∙ ap (λ (l : Option Link). record e { link = l }) (opened-link no_attach)
