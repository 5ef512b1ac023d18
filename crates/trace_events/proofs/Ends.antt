-- Whether a session or a link that stands lives after one more event, as one equation for every event.
use Rattle.std.proofs.Common.{◌≡◌, refl, sym, ap, ◌∙◌, ℕ, ◌<◌, Bool, true, false, not, ◌&&◌, ◌||◌, List, ◌∷◌, length, Option, Some, None, is_some, option_and_then, option_map, if◌then◌else◌, ◌==◌, arith}
use Rattle.std.proofs.lemmas.Bool.{eq-eqb, ne_eqb}
use Rattle.amqp_perf.specs.declared.begin.Begin.{Begin}
use Rattle.amqp_perf.specs.Meaning.{AttachFields}
use Rattle.trace_events.specs.Words.{is_some_and, or_else, where_passes}
use Rattle.trace_events.specs.Event.{Event, Link}
use Rattle.trace_events.specs.declared.session.Session.{Session}
use Rattle.trace_events.specs.Said.{out_begin, out_attach}
use Rattle.trace_events.specs.Connection.{is_final, is_over}
use Rattle.trace_events.specs.Session.{last_session, last_in_begin, new_session, session_begun, is_live_session, begins_out, ends_in, ends_out}
use Rattle.trace_events.specs.Link.{opens_link, new_link, link_opened, last_in_attach, session_link, is_live, attaches_out, detaches_in, detaches_out, IsLiveLink}
use Rattle.trace_events.specs.Ends.{ends_session, ends_link}
use Rattle.trace_events.proofs.Links.{HaveNoLink}
use Rattle.trace_events.proofs.LinkLives.{is_live-before}

and_false : (b : Bool) → b && false ≡ false
and_false true = refl
and_false false = refl

and_true : (b : Bool) → b && true ≡ b
and_true true = refl
and_true false = refl

-- ---- sessions

abbrev is_session : ℕ → Option Session → Bool
is_session n o = is_some_and o (λ (t : Session). t.number == n)

session_by : (n : ℕ) (final over ended begun : Bool) (new last : Option Session) → is_session n new ≡ false
    → is_session n (if final || over then None else (if ended then None else (if begun then new else last))) ≡ is_session n (if over then None else last) && not (final || ended || begun)
session_by n true over ended begun new last other = sym (and_false (is_session n (if over then None else last)))
session_by n false true ended begun new last other = refl
session_by n false false true begun new last other = sym (and_false (is_session n last))
session_by n false false false true new last other = other ∙ sym (and_false (is_session n last))
session_by n false false false false new last other = sym (and_true (is_session n last))

begun_apart : (number c channel n : ℕ) (ours : Option Begin) (theirs : Option Begin) → (number == n) ≡ false → is_session n (option_map (λ ours. new_session number c channel ours theirs) ours) ≡ false
begun_apart number c channel n None theirs other = refl
begun_apart number c channel n (Some ours) None other = other
begun_apart number c channel n (Some ours) (Some theirs) other = other

begun_own : (number c channel : ℕ) (ours : Option Begin) (theirs : Option Begin) (t : Session) → option_map (λ ours. new_session number c channel ours theirs) ours ≡ Some t → t.number ≡ number
begun_own number c channel None theirs t is = absurd cc
begun_own number c channel (Some ours) None t is = let same : new_session number c channel ours None ≡ t = cc in ap (λ (s : Session). s.number) (sym same)
begun_own number c channel (Some ours) (Some theirs) t is = let same : new_session number c channel ours (Some theirs) ≡ t = cc in ap (λ (s : Session). s.number) (sym same)

-- of a session that began before
pub is_live_session-next : (e : Event) (past : List Event) → e.number ≡ length past → (s : Session) → s.number < length past → is_live_session (e ∷ past) s ≡ is_live_session past s && not (ends_session s e)
is_live_session-next e past number s below =
    let other : (e.number == s.number) ≡ false = ne_eqb e.number s.number (λ same. omega (arith, same, number, below)) in
    session_by s.number (is_final e.moment && (e.connection == s.connection)) (is_over s.connection past) (ends_in s.connection s.channel e || ends_out s.connection s.channel e) (begins_out s.connection s.channel e)
    (session_begun s.connection s.channel e past) (last_session s.connection s.channel past) (begun_apart e.number s.connection s.channel s.number (out_begin e) (last_in_begin s.connection s.channel past) other)

-- ---- links

abbrev is_link : ℕ → Option Link → Bool
is_link n o = is_some_and o (λ (m : Link). m.number == n)

link_by : (n : ℕ) (l : Link) (now : Session → Option Link) (final ended begun detached attached : Bool) (new : Option Session) (s : Session) (opened : Option Link)
    → (l.number == n) ≡ true → ((t : Session) → new ≡ Some t → is_link n (now t) ≡ false) → is_link n opened ≡ false
    → now s ≡ (if detached then None else (if attached then or_else opened (Some l) else Some l))
    → is_link n (option_and_then now (if final then None else (if ended then None else (if begun then new else Some s)))) ≡ not ((final || ended || begun) || detached || attached && is_some opened)
link_by n l now true ended begun detached attached new s opened own fresh apart is = refl
link_by n l now false true begun detached attached new s opened own fresh apart is = refl
link_by n l now false false true detached attached None s opened own fresh apart is = refl
link_by n l now false false true detached attached (Some t) s opened own fresh apart is = fresh t refl
link_by n l now false false false true attached new s opened own fresh apart is = ap (is_link n) is
link_by n l now false false false false false new s opened own fresh apart is = ap (is_link n) is ∙ own
link_by n l now false false false false true new s None own fresh apart is = ap (is_link n) is ∙ own
link_by n l now false false false false true new s (Some k) own fresh apart is = ap (is_link n) is ∙ apart

opened_apart : (number n : ℕ) (s : Session) (ours : Option AttachFields) (theirs : Option Event) → (number == n) ≡ false
    → is_link n (option_map (λ ours. new_link number s ours theirs) ours) ≡ false
opened_apart number n s None theirs other = refl
opened_apart number n s (Some ours) theirs other = other

opened_some : (number : ℕ) (s : Session) (ours : Option AttachFields) (theirs : Option Event) → is_some (option_map (λ ours. new_link number s ours theirs) ours) ≡ is_some ours
opened_some number s None theirs = refl
opened_some number s (Some ours) theirs = refl

none_linked : (n : ℕ) (detached attached : Bool) (opened earlier : Option Link) → is_link n opened ≡ false → earlier ≡ None → is_link n (if detached then None else (if attached then or_else opened earlier else earlier)) ≡ false
none_linked n true attached opened earlier apart none = refl
none_linked n false false opened earlier apart none = ap (is_link n) none
none_linked n false true None earlier apart none = ap (is_link n) none
none_linked n false true (Some k) earlier apart none = apart

last_of : (over : Bool) (last : Option Session) (s : Session) → (if over then None else last) ≡ Some s → (over ≡ false) × (last ≡ Some s)
last_of true last s is = absurd cc
last_of false last s is = (refl, is)

module _ (e : Event) (past : List Event) (none : HaveNoLink past) (number : e.number ≡ length past) (l : Link) (below : l.number < length past) where
  abbrev c : ℕ
  c = l.session.connection

  abbrev channel : ℕ
  channel = l.session.channel

  other : (e.number == l.number) ≡ false
  other = ne_eqb e.number l.number (λ same. omega (arith, same, number, below))

  apart_here : (t : Session) → is_link l.number (link_opened t l.handle e past) ≡ false
  apart_here t = opened_apart e.number l.number t (where_passes opens_link (out_attach e)) (last_in_attach t l.handle past) other

  fresh : (t : Session) → session_begun c channel e past ≡ Some t → is_link l.number (session_link t l.handle (e ∷ past)) ≡ false
  fresh t begun =
      let own : t.number ≡ e.number = begun_own e.number c channel (out_begin e) (last_in_begin c channel past) t begun in
      none_linked l.number (detaches_in t l.handle e || detaches_out t l.handle e) (attaches_out t l.handle e) (link_opened t l.handle e past) (session_link t l.handle past) (apart_here t)
      (none t l.handle (omega (arith, own, number)))

  -- of one that lives
  pub is_live-going : IsLiveLink l past → is_live (e ∷ past) l ≡ not (ends_link l e)
  is_live-going live =
      let s = l.session in
      let at = last_of (is_over c past) (last_session c channel past) s live.0 in
      let by = link_by l.number l (λ t. session_link t l.handle (e ∷ past)) (is_final e.moment && (e.connection == c)) (ends_in c channel e || ends_out c channel e) (begins_out c channel e)
      (detaches_in s l.handle e || detaches_out s l.handle e) (attaches_out s l.handle e) (session_begun c channel e past) s (link_opened s l.handle e past) (eq-eqb l.number l.number refl) fresh (apart_here s)
      (ap (λ o. if detaches_in s l.handle e || detaches_out s l.handle e then None else (if attaches_out s l.handle e then or_else (link_opened s l.handle e past) o else o)) live.1) in
      now_is at.0 at.1
      ∙ (by ∙ ap (λ b. not (ends_session s e || (detaches_in s l.handle e || detaches_out s l.handle e) || attaches_out s l.handle e && b))
      (opened_some e.number s (where_passes opens_link (out_attach e)) (last_in_attach s l.handle past)))
    where
      now_by : (final over ended begun : Bool) (new last : Option Session) (s : Session) → over ≡ false → last ≡ Some s
          → is_link l.number (option_and_then (λ t. session_link t l.handle (e ∷ past)) (if final || over then None else (if ended then None else (if begun then new else last))))
          ≡ is_link l.number (option_and_then (λ t. session_link t l.handle (e ∷ past)) (if final then None else (if ended then None else (if begun then new else Some s))))
      now_by true over ended begun new last s alive is = refl
      now_by false true ended begun new last s alive is = absurd cc
      now_by false false ended begun new last s alive is =
          ap (λ o. is_link l.number (option_and_then (λ t. session_link t l.handle (e ∷ past)) (if ended then None else (if begun then new else o)))) is

      now_is : is_over c past ≡ false → last_session c channel past ≡ Some l.session
          → is_live (e ∷ past) l ≡ is_link l.number (option_and_then (λ t. session_link t l.handle (e ∷ past))
          (if is_final e.moment && (e.connection == c) then None else (if ends_in c channel e || ends_out c channel e then None else (if begins_out c channel e then session_begun c channel e past else Some l.session))))
      now_is alive is =
          now_by (is_final e.moment && (e.connection == c)) (is_over c past) (ends_in c channel e || ends_out c channel e) (begins_out c channel e) (session_begun c channel e past) (last_session c channel past) l.session alive is

  -- of any
  pub is_live-next_by : (is_live past l ≡ true → IsLiveLink l past) → is_live (e ∷ past) l ≡ is_live past l && not (ends_link l e)
  is_live-next_by live = by (is_live past l) refl
    where
      stays : (now before : Bool) → before ≡ false → (now ≡ true → before ≡ true) → now ≡ false
      stays true before none was = sym (was refl) ∙ none
      stays false before none was = refl

      by : (b : Bool) → is_live past l ≡ b → is_live (e ∷ past) l ≡ b && not (ends_link l e)
      by true is = is_live-going (live is)
      by false is = stays (is_live (e ∷ past) l) (is_live past l) is (is_live-before e past none number l below)
