-- What one more event does to the links of handles, and to the consumers of addresses.
use Rattle.std.proofs.Common.{◌≡◌, refl, sym, ap, ◌∙◌, ℕ, Bool, true, false, ◌&&◌, ◌||◌, List, ◌∷◌, Option, Some, None, IfSome, is_some, is_none, option_map, option_and_then, filter, reverse, if◌then◌else◌, ◌==◌}
use Rattle.std.specs.List.{cons_option, list_any}
use Rattle.std.specs.Str.{bytes_eq}
use Rattle.amqp_perf.specs.Meaning.{Meaning, AnOpen, ABegin, AnAttach, AFlow, ATransfer, ADisposition, ADetach, AnEnd, AClose}
use Rattle.trace_events.specs.Words.{is_some_and, or_else, where_passes}
use Rattle.trace_events.specs.Event.{Event, Link, is_on_session}
use Rattle.trace_events.specs.declared.session.Session.{Session}
use Rattle.trace_events.specs.Said.{as_begin, as_attach, as_detach, is_end, is_close, in_meaning, out_meaning, in_detach, out_begin, out_attach, out_detach, is_in_end, is_out_end}
use Rattle.trace_events.specs.Connection.{is_final, is_over}
use Rattle.trace_events.specs.Session.{live_session, last_session, is_live_session, live_sessions, own_session, ends_in, ends_out, begins_out}
use Rattle.trace_events.specs.Link.{attaches_in, attaches_out, detaches_in, detaches_out, opens_link, link_opened, last_in_attach, session_link, live_link, is_live, is_undetached, awaits_detach, own_link, links, live_links, is_consumer, unanswered_attach, owes_detach}
use Rattle.trace_events.specs.Address.{is_consumer_of, consumers, has_consumer}
use Rattle.trace_events.proofs.StepWords.{and-false, or-true, filter-by, filter-both, any-by}
use Rattle.trace_events.proofs.EventKinds as kinds
use Rattle.trace_events.proofs.EventKinds.{IsSilent}
use Rattle.trace_events.proofs.Elsewhere.{session_link-other, awaits_detach-other, live_link-other, is_live-other}
use Rattle.trace_events.proofs.SessionSteps.{live_session-same, live_session-over, live_session-was_over, live_sessions-same}

module _ (s : Session) (handle : ℕ) (e : Event) (past : List Event) where
  -- ---- the client's last attach

  pub last_in_attach-same : attaches_in s handle e ≡ false → last_in_attach s handle (e ∷ past) ≡ last_in_attach s handle past
  last_in_attach-same none = rw none refl

  pub last_in_attach-unheard : e.is_heard ≡ false → last_in_attach s handle (e ∷ past) ≡ last_in_attach s handle past
  last_in_attach-unheard unheard = rw unheard (simp and-false)

  pub last_in_attach-here : attaches_in s handle e ≡ true → e.is_heard ≡ true → last_in_attach s handle (e ∷ past) ≡ Some e
  last_in_attach-here attaches heard = rw (attaches, heard) refl

  -- ---- the link

  pub session_link-same : detaches_in s handle e ≡ false → detaches_out s handle e ≡ false → attaches_out s handle e ≡ false
      → session_link s handle (e ∷ past) ≡ session_link s handle past
  session_link-same theirs ours attaches = rw (theirs, ours, attaches) refl

  pub session_link-detached_in : detaches_in s handle e ≡ true → session_link s handle (e ∷ past) ≡ None
  session_link-detached_in theirs = rw theirs refl

  pub session_link-detached_out : detaches_out s handle e ≡ true → session_link s handle (e ∷ past) ≡ None
  session_link-detached_out ours = rw ours (simp or-true)

  pub session_link-opened : detaches_in s handle e ≡ false → detaches_out s handle e ≡ false → attaches_out s handle e ≡ true
      → (l : Link) → link_opened s handle e past ≡ Some l → session_link s handle (e ∷ past) ≡ Some l
  session_link-opened theirs ours attaches l opened =
      ap (λ b. if b || detaches_out s handle e then None else if attaches_out s handle e then or_else (link_opened s handle e past) (session_link s handle past) else session_link s handle past) theirs
      ∙ (ap (λ b. if b then None else if attaches_out s handle e then or_else (link_opened s handle e past) (session_link s handle past) else session_link s handle past) ours
      ∙ (ap (λ b. if b then or_else (link_opened s handle e past) (session_link s handle past) else session_link s handle past) attaches
      ∙ ap (λ o. or_else o (session_link s handle past)) opened))

  -- an attach that refuses
  pub session_link-refused : detaches_in s handle e ≡ false → detaches_out s handle e ≡ false → where_passes opens_link (out_attach e) ≡ None
      → session_link s handle (e ∷ past) ≡ session_link s handle past
  session_link-refused theirs ours refuses =
      ap (λ b. if b || detaches_out s handle e then None else if attaches_out s handle e then or_else (link_opened s handle e past) (session_link s handle past) else session_link s handle past) theirs
      ∙ (ap (λ b. if b then None else if attaches_out s handle e then or_else (link_opened s handle e past) (session_link s handle past) else session_link s handle past) ours
      ∙ by (attaches_out s handle e) (link_opened s handle e past) (ap (option_map _) refuses))
    where
      by : (b : Bool) (o : Option Link) → o ≡ None → (if b then or_else o (session_link s handle past) else session_link s handle past) ≡ session_link s handle past
      by true o is = ap (λ o. or_else o (session_link s handle past)) is
      by false o is = refl

  pub session_link-elsewhere : is_on_session s e ≡ false → session_link s handle (e ∷ past) ≡ session_link s handle past
  session_link-elsewhere off = rw off (simp and-false)

  -- ---- detaches that are awaited

  pub is_undetached-same : attaches_out s handle e ≡ false → detaches_in s handle e ≡ false → is_undetached s handle (e ∷ past) ≡ is_undetached s handle past
  is_undetached-same attaches theirs = rw (attaches, theirs) refl

  pub is_undetached-attached : attaches_out s handle e ≡ true → is_undetached s handle (e ∷ past) ≡ true
  is_undetached-attached attaches = rw attaches refl

  pub is_undetached-detached : attaches_out s handle e ≡ false → detaches_in s handle e ≡ true → is_undetached s handle (e ∷ past) ≡ false
  is_undetached-detached attaches theirs = rw (attaches, theirs) refl

  pub is_undetached-elsewhere : is_on_session s e ≡ false → is_undetached s handle (e ∷ past) ≡ is_undetached s handle past
  is_undetached-elsewhere off = rw off (simp and-false)

  pub awaits_detach-same : attaches_out s handle e ≡ false → detaches_in s handle e ≡ false → detaches_out s handle e ≡ false
      → awaits_detach s handle (e ∷ past) ≡ awaits_detach s handle past
  awaits_detach-same attaches theirs ours = rw (attaches, theirs, ours) refl

  pub awaits_detach-attached : attaches_out s handle e ≡ true → awaits_detach s handle (e ∷ past) ≡ false
  awaits_detach-attached attaches = rw attaches refl

  pub awaits_detach-detached_in : detaches_in s handle e ≡ true → awaits_detach s handle (e ∷ past) ≡ false
  awaits_detach-detached_in theirs = rw theirs (simp or-true)

  pub awaits_detach-detached_out : attaches_out s handle e ≡ false → detaches_in s handle e ≡ false → detaches_out s handle e ≡ true
      → awaits_detach s handle (e ∷ past) ≡ is_undetached s handle past
  awaits_detach-detached_out attaches theirs ours = rw (attaches, theirs, ours) refl

  pub awaits_detach-elsewhere : is_on_session s e ≡ false → awaits_detach s handle (e ∷ past) ≡ awaits_detach s handle past
  awaits_detach-elsewhere off = rw off (simp and-false)

  -- ---- attaches and detaches that are to be answered

  pub unanswered_attach-same : attaches_out s handle e ≡ false → attaches_in s handle e ≡ false → unanswered_attach s handle (e ∷ past) ≡ unanswered_attach s handle past
  unanswered_attach-same ours theirs = rw (ours, theirs) refl

  pub unanswered_attach-unheard : attaches_out s handle e ≡ false → e.is_heard ≡ false → unanswered_attach s handle (e ∷ past) ≡ unanswered_attach s handle past
  unanswered_attach-unheard ours unheard = rw (ours, unheard) (simp and-false)

  pub unanswered_attach-answered : attaches_out s handle e ≡ true → unanswered_attach s handle (e ∷ past) ≡ None
  unanswered_attach-answered ours = rw ours refl

  pub unanswered_attach-asked : attaches_out s handle e ≡ false → attaches_in s handle e ≡ true → e.is_heard ≡ true → unanswered_attach s handle (e ∷ past) ≡ Some e
  unanswered_attach-asked ours theirs heard = rw (ours, theirs, heard) refl

  pub unanswered_attach-elsewhere : is_on_session s e ≡ false → unanswered_attach s handle (e ∷ past) ≡ unanswered_attach s handle past
  unanswered_attach-elsewhere off = rw off (simp and-false)

  pub owes_detach-same : detaches_out s handle e ≡ false → detaches_in s handle e ≡ false → attaches_out s handle e ≡ false
      → owes_detach s handle (e ∷ past) ≡ owes_detach s handle past
  owes_detach-same ours theirs attaches = rw (ours, theirs, attaches) refl

  pub owes_detach-answered : detaches_out s handle e ≡ true → owes_detach s handle (e ∷ past) ≡ false
  owes_detach-answered ours = rw ours refl

  pub owes_detach-detached : detaches_out s handle e ≡ false → detaches_in s handle e ≡ true → is_some e.link ≡ true → owes_detach s handle (e ∷ past) ≡ true
  owes_detach-detached ours theirs live = rw (ours, theirs, live) refl

  pub owes_detach-refused : detaches_out s handle e ≡ false → detaches_in s handle e ≡ false → attaches_out s handle e ≡ true → is_none e.link ≡ true
      → owes_detach s handle (e ∷ past) ≡ true
  owes_detach-refused ours theirs attaches none = rw (ours, theirs, attaches, none) refl

  pub owes_detach-elsewhere : is_on_session s e ≡ false → owes_detach s handle (e ∷ past) ≡ owes_detach s handle past
  owes_detach-elsewhere off = rw off (simp and-false)

-- ---- the live link of a handle

and_then-same : {A B : Type 0} (f g : A → Option B) (o : Option A) → IfSome o (λ a. f a ≡ g a) → option_and_then f o ≡ option_and_then g o
and_then-same f g None same = refl
and_then-same f g (Some a) same = same

module _ (c channel handle : ℕ) (e : Event) (past : List Event) where
  -- as the session and its link are
  pub live_link-same : live_session c channel (e ∷ past) ≡ live_session c channel past
      → IfSome (live_session c channel past) (λ s. session_link s handle (e ∷ past) ≡ session_link s handle past)
      → live_link c channel handle (e ∷ past) ≡ live_link c channel handle past
  live_link-same session link =
      ap (option_and_then (λ s. session_link s handle (e ∷ past))) session
      ∙ and_then-same (λ s. session_link s handle (e ∷ past)) (λ s. session_link s handle past) (live_session c channel past) link

  pub live_link-none : live_session c channel (e ∷ past) ≡ None → live_link c channel handle (e ∷ past) ≡ None
  live_link-none none = ap (option_and_then (λ s. session_link s handle (e ∷ past))) none

  pub live_link-of : (s : Session) → live_session c channel (e ∷ past) ≡ Some s → live_link c channel handle (e ∷ past) ≡ session_link s handle (e ∷ past)
  live_link-of s is = ap (option_and_then (λ s. session_link s handle (e ∷ past))) is

module _ (l : Link) (e : Event) (past : List Event) where
  pub is_live-same : live_link l.session.connection l.session.channel l.handle (e ∷ past) ≡ live_link l.session.connection l.session.channel l.handle past
      → is_live (e ∷ past) l ≡ is_live past l
  is_live-same same = ap (λ o. is_some_and o (λ (m : Link). m.number == l.number)) same

  pub is_live-none : live_link l.session.connection l.session.channel l.handle (e ∷ past) ≡ None → is_live (e ∷ past) l ≡ false
  is_live-none none = ap (λ o. is_some_and o (λ (m : Link). m.number == l.number)) none

  pub is_live-is : (m : Link) → live_link l.session.connection l.session.channel l.handle (e ∷ past) ≡ Some m → is_live (e ∷ past) l ≡ (m.number == l.number)
  is_live-is m is = ap (λ o. is_some_and o (λ (m : Link). m.number == l.number)) is

  pub is_live-over : is_final e.moment ≡ true → (e.connection == l.session.connection) ≡ true → is_live (e ∷ past) l ≡ false
  is_live-over final own =
      is_live-none (live_link-none l.session.connection l.session.channel l.handle e past (live_session-over l.session.connection l.session.channel e past final own))

  pub is_live-was_over : is_over l.session.connection past ≡ true → is_live (e ∷ past) l ≡ false
  is_live-was_over over =
      is_live-none (live_link-none l.session.connection l.session.channel l.handle e past (live_session-was_over l.session.connection l.session.channel e past over))

  -- unless it is final for the connection, begins or ends a session on the channel, or attaches or detaches the handle
  pub is_live-stays : is_final e.moment ≡ false → ends_in l.session.connection l.session.channel e ≡ false → ends_out l.session.connection l.session.channel e ≡ false
      → begins_out l.session.connection l.session.channel e ≡ false
      → IfSome (live_session l.session.connection l.session.channel past) (λ s. session_link s l.handle (e ∷ past) ≡ session_link s l.handle past)
      → is_live (e ∷ past) l ≡ is_live past l
  is_live-stays final theirs ours begins link =
      is_live-same (live_link-same l.session.connection l.session.channel l.handle e past
      (live_session-same l.session.connection l.session.channel e past final theirs ours begins) link)

  -- by the live session of its channel, or whatever that is
  pub is_live-of : (s : Session) → live_session l.session.connection l.session.channel (e ∷ past) ≡ Some s → live_session l.session.connection l.session.channel past ≡ Some s
      → session_link s l.handle (e ∷ past) ≡ session_link s l.handle past → is_live (e ∷ past) l ≡ is_live past l
  is_live-of s now before link =
      is_live-same (ap (option_and_then (λ s. session_link s l.handle (e ∷ past))) now ∙ (link ∙ sym (ap (option_and_then (λ s. session_link s l.handle past)) before)))

  pub is_live-by_links : live_session l.session.connection l.session.channel (e ∷ past) ≡ live_session l.session.connection l.session.channel past
      → ((s : Session) → session_link s l.handle (e ∷ past) ≡ session_link s l.handle past) → is_live (e ∷ past) l ≡ is_live past l
  is_live-by_links session link = is_live-same (live_link-same l.session.connection l.session.channel l.handle e past session (by (live_session l.session.connection l.session.channel past)))
    where
      by : (o : Option Session) → IfSome o (λ s. session_link s l.handle (e ∷ past) ≡ session_link s l.handle past)
      by None = tt
      by (Some s) = link s

-- ---- the links of a capture, and those that live

module _ (e : Event) (past : List Event) where
  pub links-same : own_link e ≡ None → links (e ∷ past) ≡ links past
  links-same none = ap (λ o. cons_option o (links past)) none

  pub links-opened : (l : Link) → own_link e ≡ Some l → links (e ∷ past) ≡ l ∷ links past
  links-opened l new = ap (λ o. cons_option o (links past)) new

  pub live_links-same : own_link e ≡ None → ((l : Link) → is_live (e ∷ past) l ≡ is_live past l) → live_links (e ∷ past) ≡ live_links past
  live_links-same none same = ap (filter (is_live (e ∷ past))) (links-same none) ∙ filter-by (is_live (e ∷ past)) (is_live past) same (links past)

  -- those that pass, where it opens none
  pub live_links-fewer : (test : Link → Bool) → own_link e ≡ None → ((l : Link) → is_live (e ∷ past) l ≡ is_live past l && test l)
      → live_links (e ∷ past) ≡ filter test (live_links past)
  live_links-fewer test none fewer =
      ap (filter (is_live (e ∷ past))) (links-same none) ∙ filter-both (is_live (e ∷ past)) (is_live past) test fewer (links past)

  -- one more, where it leaves those before it
  pub live_links-opened : (l : Link) → own_link e ≡ Some l → is_live (e ∷ past) l ≡ true → filter (is_live (e ∷ past)) (links past) ≡ live_links past
      → live_links (e ∷ past) ≡ l ∷ live_links past
  live_links-opened l new live same =
      ap (filter (is_live (e ∷ past))) (links-opened l new)
      ∙ (ap (λ b. if b then l ∷ filter (is_live (e ∷ past)) (links past) else filter (is_live (e ∷ past)) (links past)) live ∙ ap (λ rest. l ∷ rest) same)

  -- ---- the consumers of an address

  pub is_consumer_of-same : (address : List ℕ) (l : Link) → is_live (e ∷ past) l ≡ is_live past l → is_consumer_of address (e ∷ past) l ≡ is_consumer_of address past l
  is_consumer_of-same address l same = ap (λ b. is_consumer l && bytes_eq l.address address && b) same

  pub consumers-same : (address : List ℕ) → own_link e ≡ None → ((l : Link) → is_live (e ∷ past) l ≡ is_live past l) → consumers address (e ∷ past) ≡ consumers address past
  consumers-same address none same =
      ap (λ xs. reverse (filter (is_consumer_of address (e ∷ past)) xs)) (links-same none)
      ∙ ap reverse (filter-by (is_consumer_of address (e ∷ past)) (is_consumer_of address past) (λ l. is_consumer_of-same address l (same l)) (links past))

  -- those that were, and the one that opens
  pub consumers-opened : (address : List ℕ) (l : Link) → own_link e ≡ Some l → is_consumer_of address (e ∷ past) l ≡ true
      → filter (is_consumer_of address (e ∷ past)) (links past) ≡ filter (is_consumer_of address past) (links past)
      → consumers address (e ∷ past) ≡ reverse (l ∷ filter (is_consumer_of address past) (links past))
  consumers-opened address l new is same =
      ap (λ xs. reverse (filter (is_consumer_of address (e ∷ past)) xs)) (links-opened l new)
      ∙ (ap (λ b. reverse (if b then l ∷ filter (is_consumer_of address (e ∷ past)) (links past) else filter (is_consumer_of address (e ∷ past)) (links past))) is
      ∙ ap (λ rest. reverse (l ∷ rest)) same)

  -- a link of another address, or of a producer
  pub consumers-apart : (address : List ℕ) (l : Link) → own_link e ≡ Some l → is_consumer_of address (e ∷ past) l ≡ false
      → filter (is_consumer_of address (e ∷ past)) (links past) ≡ filter (is_consumer_of address past) (links past)
      → consumers address (e ∷ past) ≡ consumers address past
  consumers-apart address l new apart same =
      ap (λ xs. reverse (filter (is_consumer_of address (e ∷ past)) xs)) (links-opened l new)
      ∙ (ap (λ b. reverse (if b then l ∷ filter (is_consumer_of address (e ∷ past)) (links past) else filter (is_consumer_of address (e ∷ past)) (links past))) apart
      ∙ ap reverse same)

  pub consumers-fewer : (address : List ℕ) (test : Link → Bool) → own_link e ≡ None → ((l : Link) → is_consumer_of address (e ∷ past) l ≡ is_consumer_of address past l && test l)
      → consumers address (e ∷ past) ≡ reverse (filter test (filter (is_consumer_of address past) (links past)))
  consumers-fewer address test none fewer =
      ap (λ xs. reverse (filter (is_consumer_of address (e ∷ past)) xs)) (links-same none)
      ∙ ap reverse (filter-both (is_consumer_of address (e ∷ past)) (is_consumer_of address past) test fewer (links past))

  pub has_consumer-same : (address : List ℕ) → own_link e ≡ None → ((l : Link) → is_live (e ∷ past) l ≡ is_live past l) → has_consumer address (e ∷ past) ≡ has_consumer address past
  has_consumer-same address none same =
      ap (list_any (is_consumer_of address (e ∷ past))) (links-same none)
      ∙ any-by (is_consumer_of address (e ∷ past)) (is_consumer_of address past) (λ l. is_consumer_of-same address l (same l)) (links past)

  pub has_consumer-opened : (address : List ℕ) (l : Link) → own_link e ≡ Some l → is_consumer_of address (e ∷ past) l ≡ true → has_consumer address (e ∷ past) ≡ true
  has_consumer-opened address l new is =
      ap (list_any (is_consumer_of address (e ∷ past))) (links-opened l new) ∙ ap (λ b. b || list_any (is_consumer_of address (e ∷ past)) (links past)) is

-- ---- events that leave all sessions and links

-- neither the end of a connection or session, nor an Out begin or attach, nor a detach
pub record IsSteady (e : Event) : Type 0 where
  pub final : is_final e.moment ≡ false
  pub in_end : is_in_end e ≡ false
  pub out_end : is_out_end e ≡ false
  pub begins : out_begin e ≡ None
  pub attaches : out_attach e ≡ None
  pub theirs : in_detach e ≡ None
  pub ours : out_detach e ≡ None

abbrev pub is_steady_in : Meaning → Bool
is_steady_in (ADetach fields) = false
is_steady_in (AnEnd error) = false
is_steady_in (AClose error) = false
is_steady_in _ = true

abbrev pub is_steady_out : Meaning → Bool
is_steady_out (AnOpen fields) = true
is_steady_out (AFlow flow) = true
is_steady_out (ATransfer fields) = true
is_steady_out (ADisposition fields) = true
is_steady_out _ = false

steady_in-parts : (m : Meaning) → is_steady_in m ≡ true → (is_close m ≡ false) × (is_end m ≡ false) × (as_detach m ≡ None)
steady_in-parts (AnOpen x) is = (refl, refl, refl)
steady_in-parts (ABegin x) is = (refl, refl, refl)
steady_in-parts (AnAttach x) is = (refl, refl, refl)
steady_in-parts (AFlow x) is = (refl, refl, refl)
steady_in-parts (ATransfer x) is = (refl, refl, refl)
steady_in-parts (ADisposition x) is = (refl, refl, refl)
steady_in-parts (ADetach x) is = absurd cc
steady_in-parts (AnEnd x) is = absurd cc
steady_in-parts (AClose x) is = absurd cc

steady_out-parts : (m : Meaning) → is_steady_out m ≡ true → (is_close m ≡ false) × (is_end m ≡ false) × (as_begin m ≡ None) × (as_attach m ≡ None) × (as_detach m ≡ None)
steady_out-parts (AnOpen x) is = (refl, refl, refl, refl, refl)
steady_out-parts (AFlow x) is = (refl, refl, refl, refl, refl)
steady_out-parts (ATransfer x) is = (refl, refl, refl, refl, refl)
steady_out-parts (ADisposition x) is = (refl, refl, refl, refl, refl)
steady_out-parts (ABegin x) is = absurd cc
steady_out-parts (AnAttach x) is = absurd cc
steady_out-parts (ADetach x) is = absurd cc
steady_out-parts (AnEnd x) is = absurd cc
steady_out-parts (AClose x) is = absurd cc

module _ (e : Event) where
  pub steady-in : (m : Meaning) → in_meaning e ≡ Some m → is_steady_in m ≡ true → IsSteady e
  steady-in m is steady =
      let parts = steady_in-parts m steady in
      let none : out_meaning e ≡ None = kinds.out_meaning-in e m is in
      record {
        final = kinds.is_final-in e m is false parts.0;
        in_end = kinds.is_in_end-is e m is false parts.1;
        out_end = kinds.is_out_end-none e none;
        begins = kinds.out_begin-none e none;
        attaches = kinds.out_attach-none e none;
        theirs = kinds.in_detach-is e m is None parts.2;
        ours = kinds.out_detach-none e none;
      }

  pub steady-out : (m : Meaning) → out_meaning e ≡ Some m → is_steady_out m ≡ true → IsSteady e
  steady-out m is steady =
      let parts = steady_out-parts m steady in
      let none : in_meaning e ≡ None = kinds.in_meaning-out e m is in
      record {
        final = kinds.is_final-out e m is false parts.0;
        in_end = kinds.is_in_end-none e none;
        out_end = kinds.is_out_end-is e m is false parts.1;
        begins = kinds.out_begin-is e m is None parts.2;
        attaches = kinds.out_attach-is e m is None parts.3;
        theirs = kinds.in_detach-none e none;
        ours = kinds.out_detach-is e m is None parts.4;
      }

  pub steady-silent : IsSilent e → is_final e.moment ≡ false → IsSteady e
  steady-silent silent final = record {
    final = final;
    in_end = kinds.is_in_end-none e silent.says_in;
    out_end = kinds.is_out_end-none e silent.says_out;
    begins = kinds.out_begin-none e silent.says_out;
    attaches = kinds.out_attach-none e silent.says_out;
    theirs = kinds.in_detach-none e silent.says_in;
    ours = kinds.out_detach-none e silent.says_out;
  }

module _ (e : Event) (past : List Event) (steady : IsSteady e) where
  pub is_over-steady : (c : ℕ) → is_over c (e ∷ past) ≡ is_over c past
  is_over-steady c = rw steady.final refl

  pub last_session-steady : (c channel : ℕ) → last_session c channel (e ∷ past) ≡ last_session c channel past
  last_session-steady c channel = rw (steady.in_end, steady.out_end, steady.begins) refl

  pub live_session-steady : (c channel : ℕ) → live_session c channel (e ∷ past) ≡ live_session c channel past
  live_session-steady c channel = rw (is_over-steady c, last_session-steady c channel) refl

  pub is_live_session-steady : (s : Session) → is_live_session (e ∷ past) s ≡ is_live_session past s
  is_live_session-steady s = rw (live_session-steady s.connection s.channel) refl

  pub own_session-steady : own_session e ≡ None
  own_session-steady = rw steady.begins refl

  pub live_sessions-steady : live_sessions (e ∷ past) ≡ live_sessions past
  live_sessions-steady = live_sessions-same e past own_session-steady is_live_session-steady

  pub session_link-steady : (s : Session) (handle : ℕ) → session_link s handle (e ∷ past) ≡ session_link s handle past
  session_link-steady s handle = rw (steady.theirs, steady.ours, steady.attaches) refl

  pub live_link-steady : (c channel handle : ℕ) → live_link c channel handle (e ∷ past) ≡ live_link c channel handle past
  live_link-steady c channel handle = live_link-same c channel handle e past (live_session-steady c channel) (by (live_session c channel past))
    where
      by : (o : Option Session) → IfSome o (λ s. session_link s handle (e ∷ past) ≡ session_link s handle past)
      by None = tt
      by (Some s) = session_link-steady s handle

  pub is_live-steady : (l : Link) → is_live (e ∷ past) l ≡ is_live past l
  is_live-steady l = is_live-same l e past (live_link-steady l.session.connection l.session.channel l.handle)

  pub live_links-steady : own_link e ≡ None → live_links (e ∷ past) ≡ live_links past
  live_links-steady none = live_links-same e past none is_live-steady

  pub consumers-steady : (address : List ℕ) → own_link e ≡ None → consumers address (e ∷ past) ≡ consumers address past
  consumers-steady address none = consumers-same e past address none is_live-steady

  pub has_consumer-steady : (address : List ℕ) → own_link e ≡ None → has_consumer address (e ∷ past) ≡ has_consumer address past
  has_consumer-steady address none = has_consumer-same e past address none is_live-steady

pub ruleset link_steps = (
  last_in_attach-same,
  last_in_attach-unheard,
  last_in_attach-here,
  session_link-same,
  session_link-detached_in,
  session_link-detached_out,
  session_link-opened,
  session_link-refused,
  session_link-elsewhere,
  is_undetached-same,
  is_undetached-attached,
  is_undetached-detached,
  is_undetached-elsewhere,
  awaits_detach-same,
  awaits_detach-attached,
  awaits_detach-detached_in,
  awaits_detach-detached_out,
  awaits_detach-elsewhere,
  unanswered_attach-same,
  unanswered_attach-unheard,
  unanswered_attach-answered,
  unanswered_attach-asked,
  unanswered_attach-elsewhere,
  owes_detach-same,
  owes_detach-answered,
  owes_detach-detached,
  owes_detach-refused,
  owes_detach-elsewhere,
  live_link-same,
  live_link-none,
  live_link-of,
  is_live-same,
  is_live-none,
  is_live-is,
  is_live-over,
  is_live-was_over,
  is_live-stays,
  is_live-of,
  is_live-by_links,
  links-same,
  links-opened,
  live_links-same,
  live_links-fewer,
  live_links-opened,
  is_consumer_of-same,
  consumers-same,
  consumers-opened,
  consumers-apart,
  consumers-fewer,
  has_consumer-same,
  has_consumer-opened,
  steady-in,
  steady-out,
  steady-silent,
  is_over-steady,
  last_session-steady,
  live_session-steady,
  is_live_session-steady,
  own_session-steady,
  live_sessions-steady,
  session_link-steady,
  live_link-steady,
  is_live-steady,
  live_links-steady,
  consumers-steady,
  has_consumer-steady,
  session_link-other,
  awaits_detach-other,
  live_link-other,
  is_live-other,
)
