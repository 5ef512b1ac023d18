-- What the entry of a handle on a live session says.
use Rattle.std.proofs.Common.{◌≡◌, refl, sym, ap, ◌∙◌, ℕ, Bool, true, false, ◌&&◌, List, [], ◌∷◌, Option, Some, None, is_some, option_and_then, option_map, unwrap_or, if◌then◌else◌, ◌==◌}
use Rattle.amqp_perf.specs.Meaning.{AttachFields}
use Rattle.trace_events.specs.Words.{is_some_and}
use Rattle.trace_events.specs.Event.{Event, Link}
use Rattle.trace_events.specs.declared.session.Session.{Session}
use Rattle.trace_events.specs.Said.{in_attach}
use Rattle.trace_events.specs.Session.{live_session}
use Rattle.trace_events.specs.Link.{session_link, is_live, unanswered_attach, last_in_attach, attaches_in, attaches_out, first_count}
use Rattle.trace_events.specs.LinkClause.{asked_by, asking}
use Rattle.trace_events.specs.Answering.{their_first_count}
use Rattle.state_tables.specs.Links.{HandleState, nothing, link_of, counts_of, asking_of, first_count_of, counted, asks, asked_in, standing, standing_at}
use Rattle.state_counts.specs.LinkCounts.{link_counts}

-- of a live session
pub standing_live : (past : List Event) (s : Session) (handle : ℕ) (found : HandleState) → found ≡ standing_at s.connection s.channel handle past → live_session s.connection s.channel past ≡ Some s
    → found ≡ standing s handle past
standing_live past s handle found is live = is ∙ ap (λ o. unwrap_or (option_map (λ s. standing s handle past) o) nothing) live

linked_by : (past : List Event) (o : Option Link) → option_map (λ x. x.link) (option_map (λ l. counted l past) o) ≡ o
linked_by past None = refl
linked_by past (Some l) = refl

pub linked : (past : List Event) (s : Session) (handle : ℕ) → link_of (standing s handle past) ≡ session_link s handle past
linked past s handle = linked_by past (session_link s handle past)

-- the live link of a handle
at_live : (past : List Event) (handle : ℕ) (o : Option Session) → link_of (unwrap_or (option_map (λ s. standing s handle past) o) nothing) ≡ option_and_then (λ s. session_link s handle past) o
at_live past handle None = refl
at_live past handle (Some s) = linked past s handle

pub live_linked : (past : List Event) (l : Link) (found : HandleState) → found ≡ standing_at l.session.connection l.session.channel l.handle past
    → is_some_and (link_of found) (λ m. m.number == l.number) ≡ is_live past l
live_linked past l found is =
    ap (λ x. is_some_and (link_of x) (λ m. m.number == l.number)) is
    ∙ ap (λ o. is_some_and o (λ (m : Link). m.number == l.number)) (at_live past l.handle (live_session l.session.connection l.session.channel past))

-- its counts
pub counted_live : (past : List Event) (l : Link) (found : HandleState) → found ≡ standing l.session l.handle past → session_link l.session l.handle past ≡ Some l → counts_of found ≡ Some (link_counts l past)
counted_live past l found is live =
    ap counts_of is ∙ ap (λ o. option_map (λ x. x.counts) (option_map (λ l. counted l past) o)) live

-- what is asked
asked_by_event : (o : Option Event) → option_map (λ a. a.asking) (option_and_then asked_in o) ≡ option_and_then (λ (e : Event). option_map (asked_by e) (in_attach e)) o
asked_by_event None = refl
asked_by_event (Some e) = by (in_attach e)
  where
    by : (o : Option AttachFields) → option_map (λ a. a.asking) (option_map (asks e) o) ≡ option_map (asked_by e) o
    by None = refl
    by (Some fields) = refl

pub asked : (past : List Event) (s : Session) (handle : ℕ) → asking_of (standing s handle past) ≡ asking s handle past
asked past s handle = asked_by_event (unanswered_attach s handle past)

-- the attach that is to be answered is the client's last
last_by : (ours theirs heard : Bool) (e a : Event) (unanswered last : Option Event) → (unanswered ≡ Some a → last ≡ Some a)
    → (if ours then None else if theirs && heard then Some e else unanswered) ≡ Some a → (if theirs && heard then Some e else last) ≡ Some a
last_by true theirs heard e a unanswered last before is = absurd cc
last_by false true true e a unanswered last before is = is
last_by false true false e a unanswered last before is = before is
last_by false false heard e a unanswered last before is = before is

unanswered-last : (s : Session) (handle : ℕ) (past : List Event) (a : Event) → unanswered_attach s handle past ≡ Some a → last_in_attach s handle past ≡ Some a
unanswered-last s handle [] a is = absurd cc
unanswered-last s handle (e ∷ past) a is =
    last_by (attaches_out s handle e) (attaches_in s handle e) e.is_heard e a (unanswered_attach s handle past) (last_in_attach s handle past) (unanswered-last s handle past a) is

first_by : (s : Session) (handle : ℕ) (past : List Event) (o : Option Event) → unanswered_attach s handle past ≡ o → is_some (option_and_then (λ (e : Event). option_map (asked_by e) (in_attach e)) o) ≡ true
    → unwrap_or (option_map (λ a. a.first_count) (option_and_then asked_in o)) 0 ≡ their_first_count (last_in_attach s handle past)
first_by s handle past None waits is = absurd cc
first_by s handle past (Some e) waits is = by (in_attach e) ∙ ap their_first_count (sym (unanswered-last s handle past e waits))
  where
    by : (o : Option AttachFields) → unwrap_or (option_map (λ a. a.first_count) (option_map (asks e) o)) 0 ≡ unwrap_or (option_map first_count o) 0
    by None = refl
    by (Some fields) = refl

pub first_asked : (past : List Event) (s : Session) (handle : ℕ) → is_some (asking s handle past) ≡ true → first_count_of (standing s handle past) ≡ their_first_count (last_in_attach s handle past)
first_asked past s handle is = first_by s handle past (unanswered_attach s handle past) refl is
