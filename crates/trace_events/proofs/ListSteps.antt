-- Which sessions, links and consumers are left when some end, and which there are when one more begins.
use Rattle.std.proofs.Common.{◌≡◌, refl, sym, ap, ◌∙◌, ℕ, Bool, true, false, not, ◌&&◌, ◌||◌, List, [], ◌∷◌, Option, Some, None, option_and_then, option_map, filter, reverse, if◌then◌else◌, ◌==◌}
use Rattle.std.specs.List.{filter_map, list_any}
use Rattle.std.specs.Str.{bytes_eq}
use Rattle.amqp_perf.specs.declared.begin.Begin.{Begin}
use Rattle.amqp_perf.specs.Meaning.{AttachFields}
use Rattle.trace_events.specs.Words.{is_some_and, or_else, where_passes}
use Rattle.trace_events.specs.Event.{Event, Link}
use Rattle.trace_events.specs.declared.session.Session.{Session}
use Rattle.trace_events.specs.Said.{is_in_end, is_out_end, out_begin, out_attach, in_detach, out_detach}
use Rattle.trace_events.specs.Connection.{is_final, is_over}
use Rattle.trace_events.specs.Session.{last_in_begin, new_session, session_begun, last_session, live_session, is_live_session, live_sessions, own_session, begins_out, ends_in, ends_out}
use Rattle.trace_events.specs.Link.{attaches_out, detaches_in, detaches_out, opens_link, last_in_attach, new_link, link_opened, session_link, is_live, own_link, links, live_links, is_consumer}
use Rattle.trace_events.specs.Address.{is_consumer_of, consumers}
use Rattle.trace_events.proofs.StepWords.{and-false}
use Rattle.trace_events.proofs.Elsewhere.{live_session-other, is_live-other}
use Rattle.trace_events.proofs.SessionSteps.{live_session-same, live_session-over, live_sessions-fewer, live_sessions-begun}
use Rattle.trace_events.proofs.LinkSteps.{session_link-same, is_live-over, is_live-none, live_link-none, is_live-by_links, live_links-fewer, live_links-opened, consumers-fewer, consumers-opened, consumers-apart}

and-true : (b : Bool) → b && true ≡ b
and-true true = refl
and-true false = refl

-- it stays so unless the test passes
unless : (b now before : Bool) → (b ≡ true → now ≡ false) → (b ≡ false → now ≡ before) → now ≡ before && not b
unless true now before ends stays = ends refl ∙ sym (and-false before)
unless false now before ends stays = stays refl ∙ sym (and-true before)

same-number : (n : ℕ) (o : Option Session) → o ≡ None → is_some_and o (λ t. t.number == n) ≡ false
same-number n o none = ap (λ o. is_some_and o (λ (t : Session). t.number == n)) none

consumer-by : (e : Event) (past : List Event) (address : List ℕ) (test : Link → Bool) → ((l : Link) → is_live (e ∷ past) l ≡ is_live past l && test l)
    → (l : Link) → is_consumer_of address (e ∷ past) l ≡ is_consumer_of address past l && test l
consumer-by e past address test left l =
    ap (λ b. is_consumer l && bytes_eq l.address address && b) (left l) ∙ regroup (is_consumer l) (bytes_eq l.address address) (is_live past l) (test l)
  where
    regroup : (a b c d : Bool) → (a && b && (c && d)) ≡ ((a && b && c) && d)
    regroup true true c d = refl
    regroup true false c d = refl
    regroup false b c d = refl

or-parts : (a b : Bool) → a || b ≡ false → (a ≡ false) × (b ≡ false)
or-parts true b is = absurd cc
or-parts false b is = (refl, is)

if-either : (b : Bool) → ◌≡◌ {A = Option Session} (if b then None else None) None
if-either true = refl
if-either false = refl

-- ---- the end of a connection

module _ (e : Event) (past : List Event) (final : is_final e.moment ≡ true) where
  pub is_live_session-final : (s : Session) → is_live_session (e ∷ past) s ≡ is_live_session past s && not (e.connection == s.connection)
  is_live_session-final s =
      unless (e.connection == s.connection) (is_live_session (e ∷ past) s) (is_live_session past s)
      (λ own. same-number s.number (live_session s.connection s.channel (e ∷ past)) (live_session-over s.connection s.channel e past final own))
      (λ other. ap (λ o. is_some_and o (λ (t : Session). t.number == s.number)) (live_session-other s.connection e past other s.channel))

  pub live_sessions-final : own_session e ≡ None → live_sessions (e ∷ past) ≡ filter (λ s. not (e.connection == s.connection)) (live_sessions past)
  live_sessions-final none = live_sessions-fewer e past (λ s. not (e.connection == s.connection)) none is_live_session-final

  pub is_live-final : (l : Link) → is_live (e ∷ past) l ≡ is_live past l && not (e.connection == l.session.connection)
  is_live-final l =
      unless (e.connection == l.session.connection) (is_live (e ∷ past) l) (is_live past l) (λ own. is_live-over l e past final own) (λ other. is_live-other l e past other)

  pub live_links-final : own_link e ≡ None → live_links (e ∷ past) ≡ filter (λ l. not (e.connection == l.session.connection)) (live_links past)
  live_links-final none = live_links-fewer e past (λ l. not (e.connection == l.session.connection)) none is_live-final

  pub consumers-final : (address : List ℕ) → own_link e ≡ None
      → consumers address (e ∷ past) ≡ reverse (filter (λ l. not (e.connection == l.session.connection)) (filter (is_consumer_of address past) (links past)))
  consumers-final address none = consumers-fewer e past address (λ l. not (e.connection == l.session.connection)) none (consumer-by e past address (λ l. not (e.connection == l.session.connection)) is_live-final)

-- ---- the end of a session

module _ (e : Event) (past : List Event) (final : is_final e.moment ≡ false) (begins : out_begin e ≡ None) where
  begins-not : (c channel : ℕ) → begins_out c channel e ≡ false
  begins-not c channel = rw begins refl

  live_session-ended : (c channel : ℕ) → ends_in c channel e || ends_out c channel e ≡ true → live_session c channel (e ∷ past) ≡ None
  live_session-ended c channel ends =
      ap (λ b. if is_over c (e ∷ past) then None else (if b then None else (if begins_out c channel e then session_begun c channel e past else last_session c channel past))) ends
      ∙ if-either (is_over c (e ∷ past))

  live_session-left : (c channel : ℕ) → ends_in c channel e || ends_out c channel e ≡ false → live_session c channel (e ∷ past) ≡ live_session c channel past
  live_session-left c channel stays =
      let parts = or-parts (ends_in c channel e) (ends_out c channel e) stays in
      live_session-same c channel e past final parts.0 parts.1 (begins-not c channel)

  pub is_live_session-ended : (s : Session) → is_live_session (e ∷ past) s ≡ is_live_session past s && not (ends_in s.connection s.channel e || ends_out s.connection s.channel e)
  is_live_session-ended s =
      unless (ends_in s.connection s.channel e || ends_out s.connection s.channel e) (is_live_session (e ∷ past) s) (is_live_session past s)
      (λ ends. same-number s.number (live_session s.connection s.channel (e ∷ past)) (live_session-ended s.connection s.channel ends))
      (λ stays. ap (λ o. is_some_and o (λ (t : Session). t.number == s.number)) (live_session-left s.connection s.channel stays))

  pub live_sessions-ended : own_session e ≡ None
      → live_sessions (e ∷ past) ≡ filter (λ s. not (ends_in s.connection s.channel e || ends_out s.connection s.channel e)) (live_sessions past)
  live_sessions-ended none = live_sessions-fewer e past (λ s. not (ends_in s.connection s.channel e || ends_out s.connection s.channel e)) none is_live_session-ended

  module _ (attaches : out_attach e ≡ None) (theirs : in_detach e ≡ None) (ours : out_detach e ≡ None) where
    link-left : (s : Session) (handle : ℕ) → session_link s handle (e ∷ past) ≡ session_link s handle past
    link-left s handle = rw (theirs, ours, attaches) refl

    pub is_live-ended : (l : Link)
        → is_live (e ∷ past) l ≡ is_live past l && not (ends_in l.session.connection l.session.channel e || ends_out l.session.connection l.session.channel e)
    is_live-ended l =
        unless (ends_in l.session.connection l.session.channel e || ends_out l.session.connection l.session.channel e) (is_live (e ∷ past) l) (is_live past l)
        (λ ends. is_live-none l e past (live_link-none l.session.connection l.session.channel l.handle e past (live_session-ended l.session.connection l.session.channel ends)))
        (λ stays. is_live-by_links l e past (live_session-left l.session.connection l.session.channel stays) (λ s. link-left s l.handle))

    pub live_links-ended : own_link e ≡ None
        → live_links (e ∷ past) ≡ filter (λ l. not (ends_in l.session.connection l.session.channel e || ends_out l.session.connection l.session.channel e)) (live_links past)
    live_links-ended none =
        live_links-fewer e past (λ l. not (ends_in l.session.connection l.session.channel e || ends_out l.session.connection l.session.channel e)) none is_live-ended

    pub consumers-ended : (address : List ℕ) → own_link e ≡ None
        → consumers address (e ∷ past)
        ≡ reverse (filter (λ l. not (ends_in l.session.connection l.session.channel e || ends_out l.session.connection l.session.channel e)) (filter (is_consumer_of address past) (links past)))
    consumers-ended address none =
        consumers-fewer e past address (λ l. not (ends_in l.session.connection l.session.channel e || ends_out l.session.connection l.session.channel e)) none
        (consumer-by e past address (λ l. not (ends_in l.session.connection l.session.channel e || ends_out l.session.connection l.session.channel e)) is_live-ended)

-- ---- the end of a link

-- the event detaches the handle on the channel's live session
abbrev pub detaches : List Event → Event → Link → Bool
detaches past e l = is_some_and (live_session l.session.connection l.session.channel past) (λ s. detaches_in s l.handle e || detaches_out s l.handle e)

module _ (e : Event) (past : List Event) (final : is_final e.moment ≡ false) (begins : out_begin e ≡ None) (in_ends : is_in_end e ≡ false) (out_ends : is_out_end e ≡ false)
    (attaches : out_attach e ≡ None) where
  session-left : (c channel : ℕ) → live_session c channel (e ∷ past) ≡ live_session c channel past
  session-left c channel = rw (final, in_ends, out_ends, begins) refl

  attaches-not : (s : Session) (handle : ℕ) → attaches_out s handle e ≡ false
  attaches-not s handle = rw attaches refl

  link-detached : (s : Session) (handle n : ℕ) (b : Bool) → detaches_in s handle e || detaches_out s handle e ≡ b
      → is_some_and (session_link s handle (e ∷ past)) (λ m. m.number == n) ≡ is_some_and (session_link s handle past) (λ m. m.number == n) && not b
  link-detached s handle n true is =
      ap (λ b. is_some_and (if b then None else (if attaches_out s handle e then or_else (link_opened s handle e past) (session_link s handle past) else session_link s handle past)) (λ (m : Link). m.number == n)) is
      ∙ sym (and-false (is_some_and (session_link s handle past) (λ m. m.number == n)))
  link-detached s handle n false is =
      let parts = or-parts (detaches_in s handle e) (detaches_out s handle e) is in
      ap (λ o. is_some_and o (λ (m : Link). m.number == n)) (session_link-same s handle e past parts.0 parts.1 (attaches-not s handle))
      ∙ sym (and-true (is_some_and (session_link s handle past) (λ m. m.number == n)))

  detached-by : (handle n : ℕ) (o : Option Session)
      → is_some_and (option_and_then (λ s. session_link s handle (e ∷ past)) o) (λ m. m.number == n)
      ≡ is_some_and (option_and_then (λ s. session_link s handle past) o) (λ m. m.number == n) && not (is_some_and o (λ s. detaches_in s handle e || detaches_out s handle e))
  detached-by handle n None = refl
  detached-by handle n (Some s) = link-detached s handle n (detaches_in s handle e || detaches_out s handle e) refl

  pub is_live-detached : (l : Link) → is_live (e ∷ past) l ≡ is_live past l && not (detaches past e l)
  is_live-detached l =
      ap (λ o. is_some_and (option_and_then (λ s. session_link s l.handle (e ∷ past)) o) (λ (m : Link). m.number == l.number)) (session-left l.session.connection l.session.channel)
      ∙ detached-by l.handle l.number (live_session l.session.connection l.session.channel past)

  pub live_links-detached : own_link e ≡ None → live_links (e ∷ past) ≡ filter (λ l. not (detaches past e l)) (live_links past)
  live_links-detached none = live_links-fewer e past (λ l. not (detaches past e l)) none is_live-detached

  pub consumers-detached : (address : List ℕ) → own_link e ≡ None
      → consumers address (e ∷ past) ≡ reverse (filter (λ l. not (detaches past e l)) (filter (is_consumer_of address past) (links past)))
  consumers-detached address none =
      consumers-fewer e past address (λ l. not (detaches past e l)) none (consumer-by e past address (λ l. not (detaches past e l)) is_live-detached)

-- ---- one more session, on a channel that is free

filter-unless : {A : Type 0} (p q r : A → Bool) → ((x : A) → r x ≡ false → p x ≡ q x) → (xs : List A) → list_any r xs ≡ false → filter p xs ≡ filter q xs
filter-unless p q r same [] none = refl
filter-unless p q r same (x ∷ xs) none =
    let parts = or-parts (r x) (list_any r xs) none in
    ap (λ b. if b then x ∷ filter p xs else filter p xs) (same x parts.0) ∙ ap (λ rest. if q x then x ∷ rest else rest) (filter-unless p q r same xs parts.1)

new_number : (number c channel : ℕ) (ours : Begin) (theirs : Option Begin) → (new_session number c channel ours theirs).number ≡ number
new_number number c channel ours (Some theirs) = refl
new_number number c channel ours None = refl

begun_apart : (number c channel n : ℕ) (ours : Option Begin) (theirs : Option Begin) → (number == n) ≡ false
    → is_some_and (option_map (λ ours. new_session number c channel ours theirs) ours) (λ t. t.number == n) ≡ false
begun_apart number c channel n None theirs other = refl
begun_apart number c channel n (Some ours) theirs other = ap (λ m. m == n) (new_number number c channel ours theirs) ∙ other

module _ (e : Event) (past : List Event) (final : is_final e.moment ≡ false) (in_ends : is_in_end e ≡ false) (out_ends : is_out_end e ≡ false)
    (free : (c channel : ℕ) → begins_out c channel e ≡ true → live_session c channel past ≡ None) where
  session-now : (c channel n : ℕ) (b : Bool) → begins_out c channel e ≡ b → (e.number == n) ≡ false
      → is_some_and (live_session c channel (e ∷ past)) (λ t. t.number == n) ≡ is_some_and (live_session c channel past) (λ t. t.number == n)
  session-now c channel n true is other =
      rw (final, in_ends, out_ends, is) (by (is_over c past) (live_session c channel past) (free c channel is))
    where
      by : (b : Bool) (o : Option Session) → o ≡ None → is_some_and (if b then None else session_begun c channel e past) (λ t. t.number == n) ≡ is_some_and o (λ t. t.number == n)
      by true o none = sym (same-number n o none)
      by false o none = begun_apart e.number c channel n (out_begin e) (last_in_begin c channel past) other ∙ sym (same-number n o none)
  session-now c channel n false is other = rw (final, in_ends, out_ends, is) refl

  pub is_live_session-begun : (s : Session) → (e.number == s.number) ≡ false → is_live_session (e ∷ past) s ≡ is_live_session past s
  is_live_session-begun s other = session-now s.connection s.channel s.number (begins_out s.connection s.channel e) refl other

  pub live_sessions-more : (s : Session) → own_session e ≡ Some s → is_live_session (e ∷ past) s ≡ true
      → list_any (λ t. e.number == t.number) (filter_map own_session past) ≡ false → live_sessions (e ∷ past) ≡ s ∷ live_sessions past
  live_sessions-more s own live fresh =
      live_sessions-begun e past s own live
      (filter-unless (is_live_session (e ∷ past)) (is_live_session past) (λ t. e.number == t.number) is_live_session-begun (filter_map own_session past) fresh)

-- ---- one more link, on a handle that is free

opened_apart : (number n : ℕ) (s : Session) (ours : Option AttachFields) (theirs : Option Event) → (number == n) ≡ false
    → is_some_and (option_map (λ ours. new_link number s ours theirs) ours) (λ m. m.number == n) ≡ false
opened_apart number n s None theirs other = refl
opened_apart number n s (Some ours) theirs other = other

or_else-apart : (n : ℕ) (o p : Option Link) → is_some_and o (λ m. m.number == n) ≡ false → p ≡ None
    → is_some_and (or_else o p) (λ m. m.number == n) ≡ is_some_and p (λ m. m.number == n)
or_else-apart n None p apart none = refl
or_else-apart n (Some m) p apart none = apart ∙ sym (ap (λ o. is_some_and o (λ (m : Link). m.number == n)) none)

module _ (e : Event) (past : List Event) (final : is_final e.moment ≡ false) (begins : out_begin e ≡ None) (in_ends : is_in_end e ≡ false) (out_ends : is_out_end e ≡ false)
    (theirs : in_detach e ≡ None) (ours : out_detach e ≡ None) (free : (s : Session) (handle : ℕ) → attaches_out s handle e ≡ true → session_link s handle past ≡ None) where
  link-now : (s : Session) (handle n : ℕ) (b : Bool) → attaches_out s handle e ≡ b → (e.number == n) ≡ false
      → is_some_and (session_link s handle (e ∷ past)) (λ m. m.number == n) ≡ is_some_and (session_link s handle past) (λ m. m.number == n)
  link-now s handle n true is other =
      rw (theirs, ours, is)
      (or_else-apart n (link_opened s handle e past) (session_link s handle past)
      (opened_apart e.number n s (where_passes opens_link (out_attach e)) (last_in_attach s handle past) other) (free s handle is))
  link-now s handle n false is other = rw (theirs, ours, is) refl

  links-now : (handle n : ℕ) (o : Option Session) → (e.number == n) ≡ false
      → is_some_and (option_and_then (λ s. session_link s handle (e ∷ past)) o) (λ m. m.number == n) ≡ is_some_and (option_and_then (λ s. session_link s handle past) o) (λ m. m.number == n)
  links-now handle n None other = refl
  links-now handle n (Some s) other = link-now s handle n (attaches_out s handle e) refl other

  session-kept : (c channel : ℕ) → live_session c channel (e ∷ past) ≡ live_session c channel past
  session-kept c channel = rw (final, in_ends, out_ends, begins) refl

  pub is_live-opened : (l : Link) → (e.number == l.number) ≡ false → is_live (e ∷ past) l ≡ is_live past l
  is_live-opened l other =
      ap (λ o. is_some_and (option_and_then (λ s. session_link s l.handle (e ∷ past)) o) (λ (m : Link). m.number == l.number)) (session-kept l.session.connection l.session.channel)
      ∙ links-now l.handle l.number (live_session l.session.connection l.session.channel past) other

  pub live_links-more : (l : Link) → own_link e ≡ Some l → is_live (e ∷ past) l ≡ true → list_any (λ m. e.number == m.number) (links past) ≡ false
      → live_links (e ∷ past) ≡ l ∷ live_links past
  live_links-more l own live fresh =
      live_links-opened e past l own live (filter-unless (is_live (e ∷ past)) (is_live past) (λ m. e.number == m.number) is_live-opened (links past) fresh)

  consumers-kept : (address : List ℕ) → list_any (λ m. e.number == m.number) (links past) ≡ false
      → filter (is_consumer_of address (e ∷ past)) (links past) ≡ filter (is_consumer_of address past) (links past)
  consumers-kept address fresh =
      filter-unless (is_consumer_of address (e ∷ past)) (is_consumer_of address past) (λ m. e.number == m.number)
      (λ m other. ap (λ b. is_consumer m && bytes_eq m.address address && b) (is_live-opened m other)) (links past) fresh

  pub consumers-more : (address : List ℕ) (l : Link) → own_link e ≡ Some l → is_consumer_of address (e ∷ past) l ≡ true → list_any (λ m. e.number == m.number) (links past) ≡ false
      → consumers address (e ∷ past) ≡ reverse (l ∷ filter (is_consumer_of address past) (links past))
  consumers-more address l own is fresh = consumers-opened e past address l own is (consumers-kept address fresh)

  pub consumers-of_another : (address : List ℕ) (l : Link) → own_link e ≡ Some l → is_consumer_of address (e ∷ past) l ≡ false → list_any (λ m. e.number == m.number) (links past) ≡ false
      → consumers address (e ∷ past) ≡ consumers address past
  consumers-of_another address l own is fresh = consumers-apart e past address l own is (consumers-kept address fresh)

pub ruleset list_steps = (
  is_live_session-final,
  live_sessions-final,
  is_live-final,
  live_links-final,
  consumers-final,
  is_live_session-ended,
  live_sessions-ended,
  is_live-ended,
  live_links-ended,
  consumers-ended,
  is_live-detached,
  live_links-detached,
  consumers-detached,
  is_live_session-begun,
  live_sessions-more,
  is_live-opened,
  live_links-more,
  consumers-more,
  consumers-of_another,
)
