-- What stands of a handle on a live session: its link with the counts of its credit, and what is still to be answered
-- (part 2 of the standard, sections 2.6.3 to 2.6.7).
use Rattle.std.specs.Prelude.{ℕ, Bool, true, false, ◌&&◌, ◌||◌, not, List, [], Option, Some, None, is_some, is_none, option_and_then, option_map, unwrap_or, if◌then◌else◌, ◌==◌}
use Rattle.amqp_perf.specs.Meaning.{Meaning, AnAttach, AttachFields}
use Rattle.trace_events.specs.Words.{is_some_and, is_number, or_else}
use Rattle.trace_events.specs.Event.{Event, Link, channel_of, spoken_of}
use Rattle.trace_events.specs.declared.session.Session.{Session}
use Rattle.trace_events.specs.Said.{handle_in, in_attach, out_attach, in_detach, out_detach, out_begin, is_in_end, is_out_end}
use Rattle.trace_events.specs.Connection.{is_final}
use Rattle.trace_events.specs.Session.{live_session}
use Rattle.trace_events.specs.Link as law
use Rattle.trace_events.specs.Link.{first_count, session_link, unanswered_attach}
use Rattle.trace_events.specs.Credit.{link_event}
use Rattle.trace_events.specs.LinkClause.{Asking, asked_by}
use Rattle.state_counts.specs.LinkCounts.{link_counts, moved, named_handle, unmoved}
use Rattle.state_counts.specs.declared.link_counts.LinkCounts.{LinkCounts}

-- ---- a handle

-- a link with its counts
pub record Counted : Type 0 where
  pub link : Link
  pub counts : LinkCounts

-- what an attach asks for, with its initial-delivery-count
pub record Asked : Type 0 where
  pub asking : Asking
  pub first_count : ℕ

-- what stands of a handle: its link; the client's attach, a detach that the router owes, and one that it awaits; and
-- whether the client has detached the handle since the router's last attach of it
pub record HandleState : Type 0 where
  pub link : Option Counted
  pub asked : Option Asked
  pub owes_detach : Bool
  pub awaits_detach : Bool
  pub is_undetached : Bool

abbrev pub nothing : HandleState
nothing = record { link = None; asked = None; owes_detach = false; awaits_detach = false; is_undetached = false }

abbrev pub is_nothing : HandleState → Bool
is_nothing x = is_none x.link && is_none x.asked && not x.owes_detach && not x.awaits_detach && not x.is_undetached

abbrev pub counted : Link → List Event → Counted
counted l past = record { link = l; counts = link_counts l past }

-- the parts of what stands
abbrev pub link_of : HandleState → Option Link
link_of x = option_map (λ l. l.link) x.link

abbrev pub counts_of : HandleState → Option LinkCounts
counts_of x = option_map (λ l. l.counts) x.link

abbrev pub asking_of : HandleState → Option Asking
asking_of x = option_map (λ a. a.asking) x.asked

abbrev pub first_count_of : HandleState → ℕ
first_count_of x = unwrap_or (option_map (λ a. a.first_count) x.asked) 0

abbrev pub asks : Event → AttachFields → Asked
asks e fields = record { asking = asked_by e fields; first_count = first_count fields }

-- what an attach of the client asks for
abbrev pub asked_in : Event → Option Asked
asked_in e = option_map (asks e) (in_attach e)

-- what the law says of a handle of a session
abbrev pub standing : Session → ℕ → List Event → HandleState
standing s handle past = record {
  link = option_map (λ l. counted l past) (session_link s handle past);
  asked = option_and_then asked_in (unanswered_attach s handle past);
  owes_detach = law.owes_detach s handle past;
  awaits_detach = law.awaits_detach s handle past;
  is_undetached = law.is_undetached s handle past;
}

-- of a handle of a channel: where no session lives, nothing stands
abbrev pub standing_at : ℕ → ℕ → ℕ → List Event → HandleState
standing_at c channel handle past = unwrap_or (option_map (λ s. standing s handle past) (live_session c channel past)) nothing

-- ---- with one more event

-- the event says this of the handle
abbrev pub attaches_in : ℕ → Event → Bool
attaches_in handle e = is_some_and (in_attach e) (λ fields. fields.handle == handle)

abbrev pub attaches_out : ℕ → Event → Bool
attaches_out handle e = is_some_and (out_attach e) (λ fields. fields.handle == handle)

abbrev pub detaches_in : ℕ → Event → Bool
detaches_in handle e = is_some_and (in_detach e) (λ fields. fields.handle == handle)

abbrev pub detaches_out : ℕ → Event → Bool
detaches_out handle e = is_some_and (out_detach e) (λ fields. fields.handle == handle)

-- a link that the event names
abbrev pub counted_next : Event → Counted → Counted
counted_next e x = record x { counts = moved x.link.our_first_count x.counts (link_event e e.moment) }

abbrev pub begun : Link → Counted
begun l = record { link = l; counts = unmoved l }

-- a detach leaves no link, and an attach of the router the one that it opens, if any
abbrev pub link_next : ℕ → Event → Option Counted → Option Counted
link_next handle e earlier =
    if detaches_in handle e || detaches_out handle e then None
    else if attaches_out handle e then or_else (option_map begun e.link) earlier
    else if is_number (named_handle e) handle then option_map (counted_next e) earlier else earlier

abbrev pub asked_next : ℕ → Event → Option Asked → Option Asked
asked_next handle e earlier =
    if attaches_out handle e then None else if attaches_in handle e && e.is_heard then asked_in e else earlier

abbrev pub owes_next : ℕ → Event → Bool → Bool
owes_next handle e earlier =
    if detaches_out handle e then false
    else detaches_in handle e && is_some e.link || attaches_out handle e && is_none e.link || earlier

abbrev pub awaits_next : ℕ → Event → Bool → Bool → Bool
awaits_next handle e undetached earlier =
    if attaches_out handle e || detaches_in handle e then false else if detaches_out handle e then undetached else earlier

abbrev pub undetached_next : ℕ → Event → Bool → Bool
undetached_next handle e earlier = if attaches_out handle e then true else if detaches_in handle e then false else earlier

-- of an event on the session
abbrev pub standing_next : ℕ → Event → HandleState → HandleState
standing_next handle e x = record {
  link = link_next handle e x.link;
  asked = asked_next handle e x.asked;
  owes_detach = owes_next handle e x.owes_detach;
  awaits_detach = awaits_next handle e x.is_undetached x.awaits_detach;
  is_undetached = undetached_next handle e x.is_undetached;
}

-- of an event of the channel: nothing outlives the session
abbrev pub standing_here : ℕ → Event → HandleState → HandleState
standing_here handle e earlier =
    if is_in_end e || is_out_end e || is_some (out_begin e) then nothing
    else if is_some e.session then standing_next handle e earlier else earlier

-- of an event of the connection, for a channel: nor does anything outlive the connection
abbrev pub standing_behind : ℕ → ℕ → Event → HandleState → HandleState
standing_behind channel handle e earlier =
    if is_final e.moment then nothing else if is_number (channel_of e.moment) channel then standing_here handle e earlier else earlier

-- ---- the tables

-- the handle of which a performative says something
abbrev pub handle_about : Meaning → Option ℕ
handle_about (AnAttach fields) = Some fields.handle
handle_about meaning = handle_in meaning

abbrev pub handle_of : Event → Option ℕ
handle_of e = option_and_then (λ spoken. handle_about spoken.meaning) (spoken_of e.moment)

-- the event says something of a handle on a live session
abbrev pub says_of_handle : Event → Bool
says_of_handle e = is_some e.session && is_some (handle_of e)
