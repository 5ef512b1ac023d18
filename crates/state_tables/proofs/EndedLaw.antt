-- The links that the tables end are those that the law ends.
use Rattle.std.proofs.Common.{◌≡◌, refl, sym, ap, subst, ◌∙◌, ◌↔◌, ℕ, Bool, true, false, not, ◌&&◌, ◌||◌, List, [], ◌∷◌, Option, Some, None, is_some, nat_eq, option_map, unwrap_or, eqb-true, if◌then◌else◌, ◌==◌}
use Rattle.std.proofs.lemmas.Bool.{eq-eqb}
use Rattle.std.specs.List.{Contains}
use Rattle.indexmap.specs.IndexMap.{get}
use Rattle.amqp_perf.specs.Meaning.{AttachFields, DetachFields}
use Rattle.capture_form.specs.Rules.{RuleSet}
use Rattle.trace_events.specs.Words.{is_number, is_some_and, or_else}
use Rattle.trace_events.specs.Event.{Event, Link, channel_of}
use Rattle.trace_events.specs.declared.session.Session.{Session}
use Rattle.trace_events.specs.Connection.{is_final, is_over}
use Rattle.trace_events.specs.Ends.{ends_link}
use Rattle.trace_events.specs.Link.{session_link, IsLiveLink}
use Rattle.trace_events.specs.Said.{in_detach, out_attach, out_detach}
use Rattle.trace_events.specs.Session.{last_session, live_session}
use Rattle.trace_events.proofs.Ends.{is_live-going}
use Rattle.trace_events.proofs.Judged.{AreJudged, judged-number}
use Rattle.trace_events.proofs.LinkLives.{judged-stands, live_session-at}
use Rattle.trace_events.proofs.Links.{IsKnown}
use Rattle.trace_events.proofs.SessionNumbers.{last_session-known}
use Rattle.trace_events.proofs.Standing.{live-on}
use Rattle.trace_events.proofs.LiveLinks.{live-link}
use Rattle.trace_events.proofs.Undecided.{link_of_session}
use Rattle.state_tables.specs.EndedLinks.{AreEnded, IsEndedOf, ends_at, ends_channel, ends_handle, ends_named, may_end}
use Rattle.state_tables.specs.Links.{Counted, HandleState, attaches_out, begun, counted_next, detaches_in, detaches_out, link_of, nothing, standing, standing_at, standing_behind, standing_next}
use Rattle.state_counts.specs.LinkCounts.{named_handle}
use Rattle.state_tables.specs.LinkTables.{AreLinked, standing_in, standing_of}
use Rattle.state_tables.specs.declared.channels.Channels.{Channels}
use Rattle.state_tables.specs.declared.links.Links.{Links}
use Rattle.state_tables.proofs.EndedMembers.{none_in}
use Rattle.state_tables.proofs.HandlesOfChannels.{standing-behind, standing-other}
use Rattle.state_counts.proofs.LinkSteps.{attach-apart}
use Rattle.state_tables.proofs.LiveHandles.{linked, live_linked}

last_of : (over : Bool) (last : Option Session) (s : Session) → (if over then None else last) ≡ Some s → last ≡ Some s
last_of true last s is = absurd cc
last_of false last s is = is

-- ---- a link that stands, behind an event

abbrev is_it : Link → Option Link → Bool
is_it l o = is_some_and o (λ m. m.number == l.number)

itself : (l : Link) → is_it l (Some l) ≡ true
itself l = eq-eqb l.number l.number refl

next-link : (l : Link) (e : Event) (detached attached named : Bool) (opened : Option Link) (earlier : Option Counted) → option_map (λ x. x.link) earlier ≡ Some l
    → (attached ≡ true → is_it l opened ≡ false)
    → is_it l (option_map (λ x. x.link) (if detached then None else if attached then or_else (option_map begun opened) earlier else if named then option_map (counted_next e) earlier else earlier))
    ≡ not (detached || attached && is_some opened)
next-link l e detached attached named opened None is apart = absurd cc
next-link l e true attached named opened (Some x) is apart = refl
next-link l e false true named None (Some x) is apart = ap (is_it l) is ∙ itself l
next-link l e false true named (Some k) (Some x) is apart = apart refl
next-link l e false false true opened (Some x) is apart = ap (is_it l) is ∙ itself l
next-link l e false false false opened (Some x) is apart = ap (is_it l) is ∙ itself l

some_of : {A : Type 0} (o : Option A) (test : A → Bool) → is_some_and o test ≡ true → is_some o ≡ true
some_of None test is = absurd cc
some_of (Some x) test is = refl

quiet_handle : {A B C : Type 0} (entering : Option A) (leaving : Option B) (attached : Option C) (p : A → Bool) (q : B → Bool) (r : C → Bool) (link : Bool)
    → is_some entering || is_some leaving || is_some attached && link ≡ false → is_some_and entering p || is_some_and leaving q || is_some_and attached r && link ≡ false
quiet_handle None None None p q r link is = refl
quiet_handle None None (Some z) p q r true is = absurd cc
quiet_handle None None (Some z) p q r false is = by (r z)
  where
    by : (b : Bool) → b && false ≡ false
    by true = refl
    by false = refl
quiet_handle None (Some y) attached p q r link is = absurd cc
quiet_handle (Some x) leaving attached p q r link is = absurd cc

module _ (rules : RuleSet) (e : Event) (past : List Event) (are : AreJudged rules (e ∷ past)) where
  known : (l : Link) → IsLiveLink l past → IsKnown past l
  known l live =
      let s = l.session in
      let session = last_session-known rules past are.1 s.connection s.channel s (last_of (is_over s.connection past) (last_session s.connection s.channel past) s live.0) in
      (judged-stands rules past are.1).known s l.handle l session live.1

  live-stands : (l : Link) → IsLiveLink l past → link_of (standing_at l.session.connection l.session.channel l.handle past) ≡ Some l
  live-stands l live =
      ap (λ o. link_of (unwrap_or (option_map (λ s. standing s l.handle past) o) nothing)) live.0 ∙ (linked past l.session l.handle ∙ live.1)

  behind-link : (channel handle : ℕ) (l : Link) → IsKnown past l → (x : HandleState) → link_of x ≡ Some l → is_it l (link_of (standing_behind channel handle e x)) ≡ not (ends_at channel handle e)
  behind-link channel handle l is_known x stands = by (is_final e.moment) (is_number (channel_of e.moment) channel) (ends_channel e) (is_some e.session)
    where
      by : (final on ended session : Bool)
          → is_it l (link_of (if final then nothing else if on then (if ended then nothing else if session then standing_next handle e x else x) else x))
          ≡ not (final || on && (ended || session && ends_handle handle e))
      by true on ended session = refl
      by false false ended session = ap (is_it l) stands ∙ itself l
      by false true true session = refl
      by false true false false = ap (is_it l) stands ∙ itself l
      by false true false true =
          next-link l e (detaches_in handle e || detaches_out handle e) (attaches_out handle e) (is_number (named_handle e) handle) e.link x.link stands
          (λ attaches. attach-apart rules e past are (some_of (out_attach e) (λ (fields : AttachFields). fields.handle == handle) attaches) l is_known)

  not_same : (a b : Bool) → not a ≡ not b → a ≡ b
  not_same true true is = refl
  not_same false false is = refl
  not_same true false is = sym is
  not_same false true is = sym is

  link-ends : (l : Link) → IsLiveLink l past → ends_link l e ≡ (e.connection == l.session.connection) && ends_at l.session.channel l.handle e
  link-ends l live = by (e.connection == l.session.connection) refl
    where
      lives : is_it l (link_of (standing_at l.session.connection l.session.channel l.handle (e ∷ past))) ≡ not (ends_link l e)
      lives =
          live_linked (e ∷ past) l (standing_at l.session.connection l.session.channel l.handle (e ∷ past)) refl
          ∙ is_live-going e past (judged-stands rules past are.1).no_link (judged-number rules e past are) l (known l live).before live

      by : (b : Bool) → (e.connection == l.session.connection) ≡ b → ends_link l e ≡ b && ends_at l.session.channel l.handle e
      by false other =
          not_same (ends_link l e) false
          (sym lives ∙ (ap (λ x. is_it l (link_of x)) (standing-other rules e past are l.session.connection l.session.channel l.handle other) ∙ (ap (is_it l) (live-stands l live) ∙ itself l)))
      by true own =
          let same : e.connection ≡ l.session.connection = eqb-true e.connection l.session.connection own in
          let behind : standing_at l.session.connection l.session.channel l.handle (e ∷ past) ≡ standing_behind l.session.channel l.handle e (standing_at l.session.connection l.session.channel l.handle past) =
          subst (λ n. standing_at n l.session.channel l.handle (e ∷ past) ≡ standing_behind l.session.channel l.handle e (standing_at n l.session.channel l.handle past)) same (standing-behind rules e past are l.session.channel l.handle) in
          not_same (ends_link l e) (ends_at l.session.channel l.handle e)
          (sym lives ∙ (ap (λ x. is_it l (link_of x)) behind ∙ behind-link l.session.channel l.handle l (known l live) (standing_at l.session.connection l.session.channel l.handle past) (live-stands l live)))

  -- what the tables have of a handle is the live link of it
  stands-live : (c channel handle : ℕ) (l : Link) → link_of (standing_at c channel handle past) ≡ Some l
      → IsLiveLink l past × (l.session.connection ≡ c) × (l.session.channel ≡ channel) × (l.handle ≡ handle)
  stands-live c channel handle l is = by (live_session c channel past) refl is
    where
      by : (o : Option Session) → live_session c channel past ≡ o → link_of (unwrap_or (option_map (λ s. standing s handle past) o) nothing) ≡ Some l
          → IsLiveLink l past × (l.session.connection ≡ c) × (l.session.channel ≡ channel) × (l.handle ≡ handle)
      by None live is = absurd cc
      by (Some s) live is =
          let found : session_link s handle past ≡ Some l = sym (linked past s handle) ∙ is in
          let of = link_of_session s handle past l found in
          let at = live_session-at c channel past s live in (
            live-link s handle past l (live-on c channel past s live) found,
            ap (λ (t : Session). t.connection) of.0 ∙ at.0,
            ap (λ (t : Session). t.channel) of.0 ∙ at.1,
            of.1,
          )

  and_both : (a b : Bool) → a && b ≡ true → (a ≡ true) × (b ≡ true)
  and_both true b is = (refl, is)
  and_both false b is = absurd cc

  -- of an event that may end none
  ends-never : (channel handle : ℕ) → may_end e ≡ false → ends_at channel handle e ≡ false
  ends-never channel handle quiet =
      by (is_final e.moment) (is_number (channel_of e.moment) channel) (ends_channel e) (is_some e.session) quiet
    where
      by : (final on ended session : Bool) → final || ended || ends_named e ≡ false → final || on && (ended || session && ends_handle handle e) ≡ false
      by true on ended session is = absurd cc
      by false on true session is = absurd cc
      by false false false session is = refl
      by false true false false is = refl
      by false true false true is =
          quiet_handle (in_detach e) (out_detach e) (out_attach e) (λ (fields : DetachFields). fields.handle == handle) (λ (fields : DetachFields). fields.handle == handle)
          (λ (fields : AttachFields). fields.handle == handle) (is_some e.link) is

  pub none-ending : (links : List Link) → may_end e ≡ false → links ≡ [] → AreEnded e past links
  none-ending links quiet is l = ((λ in_it. none_in l (subst (λ xs. Contains xs l) is in_it)), (λ on. ours on.0 on.1))
    where
      ours : IsLiveLink l past → ends_link l e ≡ true → Contains links l
      ours live ends =
          let both = and_both (e.connection == l.session.connection) (ends_at l.session.channel l.handle e) (sym (link-ends l live) ∙ ends) in
          let never : false ≡ true = sym (ends-never l.session.channel l.handle quiet) ∙ both.1 in
          absurd cc

  module _ (table : Links) (linked_to : AreLinked table past) (links : List Link) where
    pub found-ended : (x : Channels) → get nat_eq table.entries e.connection ≡ Some x → ((l : Link) → Contains links l ↔ IsEndedOf e x l) → AreEnded e past links
    found-ended x found ended l = ((λ in_it. theirs ((ended l).0 in_it)), (λ is. (ended l).1 (ours is.0 is.1)))
      where
        at : (channel handle : ℕ) → standing_in table e.connection channel handle ≡ standing_of x channel handle
        at channel handle = ap (λ o. unwrap_or (option_map (λ (y : Channels). standing_of y channel handle) o) nothing) found

        theirs : IsEndedOf e x l → IsLiveLink l past × (ends_link l e ≡ true)
        theirs (channel, (handle, (is, ends))) =
            let live = stands-live e.connection channel handle l (ap link_of (sym (linked_to e.connection channel handle) ∙ at channel handle) ∙ is) in (
              live.0,
              link-ends l live.0
                  ∙ (ap (λ b. b && ends_at l.session.channel l.handle e) (eq-eqb e.connection l.session.connection (sym live.1))
                  ∙ (ap (λ n. ends_at n l.handle e) live.2 ∙ (ap (λ n. ends_at channel n e) live.3 ∙ ends))),
            )

        ours : IsLiveLink l past → ends_link l e ≡ true → IsEndedOf e x l
        ours live ends =
            let both = and_both (e.connection == l.session.connection) (ends_at l.session.channel l.handle e) (sym (link-ends l live) ∙ ends) in
            let same : e.connection ≡ l.session.connection = eqb-true e.connection l.session.connection both.0 in (
              l.session.channel,
              (
                l.handle,
                (
                  ap link_of (sym (at l.session.channel l.handle) ∙ (linked_to e.connection l.session.channel l.handle ∙ ap (λ n. standing_at n l.session.channel l.handle past) same)) ∙ live-stands l live,
                  both.1,
                ),
              ),
            )

    pub none-ended : get nat_eq table.entries e.connection ≡ None → links ≡ [] → AreEnded e past links
    none-ended absent is l = ((λ in_it. none_in l (subst (λ xs. Contains xs l) is in_it)), (λ on. ours on.0 on.1))
      where
        ours : IsLiveLink l past → ends_link l e ≡ true → Contains links l
        ours live ends =
            let both = and_both (e.connection == l.session.connection) (ends_at l.session.channel l.handle e) (sym (link-ends l live) ∙ ends) in
            let same : e.connection ≡ l.session.connection = eqb-true e.connection l.session.connection both.0 in
            let never : ◌≡◌ {A = Option Link} None (Some l) =
            ap (λ o. link_of (unwrap_or (option_map (λ (y : Channels). standing_of y l.session.channel l.handle) o) nothing)) (sym absent)
            ∙ (ap link_of (linked_to e.connection l.session.channel l.handle ∙ ap (λ n. standing_at n l.session.channel l.handle past) same) ∙ live-stands l live) in
            absurd cc
