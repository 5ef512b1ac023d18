-- What an event does to what stands of the handles of a channel.
use Rattle.std.proofs.Common.{◌≡◌, refl, sym, ap, ◌∙◌, ℕ, Bool, true, false, ◌&&◌, ◌||◌, List, ◌∷◌, Option, Some, None, is_some, option_map, unwrap_or, if◌then◌else◌, ◌==◌, eqb-true}
use Rattle.std.proofs.lemmas.Bool.{eq-eqb}
use Rattle.amqp_perf.specs.declared.begin.Begin.{Begin}
use Rattle.capture_form.specs.Rules.{RuleSet}
use Rattle.trace_events.specs.Words.{is_some_and, is_number}
use Rattle.trace_events.specs.Frame.{Spoken}
use Rattle.trace_events.specs.Event.{Event, channel_of, spoken_of, is_on_channel, is_on_session}
use Rattle.trace_events.specs.declared.session.Session.{Session}
use Rattle.trace_events.specs.Said.{out_begin, is_in_end, is_out_end}
use Rattle.trace_events.specs.Connection.{is_final, is_over}
use Rattle.trace_events.specs.Session.{live_session, last_session, session_begun, begins_out, ends_in, ends_out}
use Rattle.trace_events.proofs.Elsewhere.{live_session-other}
use Rattle.trace_events.proofs.EventSessions.{spoken-channel, session-begun, session-live, said-live, unsaid-nowhere}
use Rattle.trace_events.proofs.Judged.{AreJudged}
use Rattle.trace_events.proofs.LinkLives.{judged-stands, live_session-at}
use Rattle.trace_events.proofs.SessionSteps.{live_session-same, live_session-over, live_session-was_over, live_session-ended, live_session-begun}
use Rattle.state_tables.specs.Links.{HandleState, nothing, standing, standing_at, standing_next, standing_here, standing_behind}
use Rattle.state_tables.proofs.HandleSteps.{standing-elsewhere, standing-here, nothing-begun}
use Rattle.state_counts.proofs.SessionSteps.{live-known, live-same, off_session}

and_all : (a b : Bool) → b ≡ true → a && b ≡ a
and_all true b is = is
and_all false b is = refl

and_none : (a b : Bool) → b ≡ false → a && b ≡ false
and_none true b is = is
and_none false b is = refl

module _ (rules : RuleSet) (e : Event) (past : List Event) (are : AreJudged rules (e ∷ past)) where
  abbrev c : ℕ
  c = e.connection

  at-same : (f g : Session → HandleState) (o : Option Session) → ((s : Session) → o ≡ Some s → f s ≡ g s) → unwrap_or (option_map f o) nothing ≡ unwrap_or (option_map g o) nothing
  at-same f g None same = refl
  at-same f g (Some s) same = same s refl

  none-at : (f : Session → HandleState) (o : Option Session) → ((s : Session) → o ≡ Some s → f s ≡ nothing) → unwrap_or (option_map f o) nothing ≡ nothing
  none-at f None same = refl
  none-at f (Some s) same = same s refl

  standing-final : (channel handle : ℕ) → is_final e.moment ≡ true → standing_at c channel handle (e ∷ past) ≡ nothing
  standing-final channel handle final =
      ap (λ o. unwrap_or (option_map (λ s. standing s handle (e ∷ past)) o) nothing) (live_session-over c channel e past final (eq-eqb c c refl))

  standing-off : (channel handle : ℕ) → is_final e.moment ≡ false → is_number (channel_of e.moment) channel ≡ false
      → standing_at c channel handle (e ∷ past) ≡ standing_at c channel handle past
  standing-off channel handle going off =
      ap (λ o. unwrap_or (option_map (λ s. standing s handle (e ∷ past)) o) nothing) (live-same rules e past are channel going off)
      ∙ at-same (λ s. standing s handle (e ∷ past)) (λ s. standing s handle past) (live_session c channel past)
      (λ s live. standing-elsewhere rules e past are s (live-known rules e past are channel s live) handle
      (ap (λ b. b && (c == s.connection)) (off_session rules e past are channel going off s live e.session refl)))

  module _ (channel handle : ℕ) (going : is_final e.moment ≡ false) (at : is_number (channel_of e.moment) channel ≡ true) where
    on_it : is_on_channel c channel e ≡ true
    on_it = ap (λ b. b && (c == c)) at ∙ eq-eqb c c refl

    theirs : ends_in c channel e ≡ is_in_end e
    theirs = and_all (is_in_end e) (is_on_channel c channel e) on_it

    ours : ends_out c channel e ≡ is_out_end e
    ours = and_all (is_out_end e) (is_on_channel c channel e) on_it

    begins : begins_out c channel e ≡ is_some (out_begin e)
    begins = and_all (is_some (out_begin e)) (is_on_channel c channel e) on_it

    abbrev now : Option Session → HandleState
    now o = unwrap_or (option_map (λ s. standing s handle (e ∷ past)) o) nothing

    -- an end
    standing-ended : is_in_end e || is_out_end e ≡ true → standing_at c channel handle (e ∷ past) ≡ nothing
    standing-ended ends =
        ap now
        (live_session-ended c channel e past
        (ap (λ b. if b || ends_out c channel e then None else if begins_out c channel e then session_begun c channel e past else last_session c channel past) theirs
        ∙ (ap (λ b. if is_in_end e || b then None else if begins_out c channel e then session_begun c channel e past else last_session c channel past) ours
        ∙ ap (λ b. if b then None else if begins_out c channel e then session_begun c channel e past else last_session c channel past) ends)))

    -- a begin of the router
    begun-session : is_in_end e ≡ false → is_out_end e ≡ false → is_some (out_begin e) ≡ true → (s : Session) → live_session c channel (e ∷ past) ≡ Some s → e.session ≡ Some s
    begun-session not_in not_out is s live = by (is_over c past) refl
      where
        by : (b : Bool) → is_over c past ≡ b → e.session ≡ Some s
        by true over = let never : ◌≡◌ {A = Option Session} None (Some s) = sym (live_session-was_over c channel e past over) ∙ live in absurd cc
        by false alive =
            session-begun rules e past are c channel is on_it
            ∙ (sym (live_session-begun c channel e past alive going (theirs ∙ not_in) (ours ∙ not_out) (begins ∙ is)) ∙ live)

    -- any other
    module _ (not_in : is_in_end e ≡ false) (not_out : is_out_end e ≡ false) (none : out_begin e ≡ None) where
      same : live_session c channel (e ∷ past) ≡ live_session c channel past
      same = live_session-same c channel e past going (theirs ∙ not_in) (ours ∙ not_out) (begins ∙ ap is_some none)

      silent : spoken_of e.moment ≡ None → e.session ≡ None
      silent said = session-live rules e past are none ∙ unsaid-nowhere c e.moment past said

      nowhere : e.session ≡ None → (s : Session) → is_on_session s e ≡ false
      nowhere off s = ap (λ o. is_some_and o (λ (t : Session). t.number == s.number) && (c == s.connection)) off

      spoken_here : (spoken : Spoken) → spoken_of e.moment ≡ Some spoken → e.session ≡ live_session c channel past
      spoken_here spoken said =
          let there : spoken.channel ≡ channel = eqb-true spoken.channel channel (sym (ap (λ o. is_number o channel) (spoken-channel e.moment spoken said)) ∙ at) in
          session-live rules e past are none ∙ (said-live c e.moment past spoken said ∙ ap (λ n. live_session c n past) there)

      abbrev next : Option Session → HandleState → HandleState
      next o x = if is_some o then standing_next handle e x else x

      by_live : (o : Option Session) → live_session c channel past ≡ o → e.session ≡ o → now o ≡ next o (unwrap_or (option_map (λ s. standing s handle past) o) nothing)
      by_live None live on = refl
      by_live (Some s) live on =
          standing-here rules e past are s (live-known rules e past are channel s live) handle none on (eq-eqb c s.connection (sym (live_session-at c channel past s live).0))

      by_spoken : (o : Option Spoken) → spoken_of e.moment ≡ o → now (live_session c channel past) ≡ next e.session (standing_at c channel handle past)
      by_spoken None said =
          at-same (λ s. standing s handle (e ∷ past)) (λ s. standing s handle past) (live_session c channel past)
          (λ s live. standing-elsewhere rules e past are s (live-known rules e past are channel s live) handle (nowhere (silent said) s))
          ∙ ap (λ o. next o (standing_at c channel handle past)) (sym (silent said))
      by_spoken (Some spoken) said =
          by_live (live_session c channel past) refl (spoken_here spoken said)
          ∙ ap (λ o. next o (standing_at c channel handle past)) (sym (spoken_here spoken said))

      standing-going : standing_at c channel handle (e ∷ past) ≡ next e.session (standing_at c channel handle past)
      standing-going = ap now same ∙ by_spoken (spoken_of e.moment) refl

    standing-here-at : standing_at c channel handle (e ∷ past)
        ≡ standing_here handle e (standing_at c channel handle past)
    standing-here-at = by (is_in_end e) (is_out_end e) (out_begin e) refl refl refl
      where
        by : (a b : Bool) (o : Option Begin) → is_in_end e ≡ a → is_out_end e ≡ b → out_begin e ≡ o
            → standing_at c channel handle (e ∷ past)
            ≡ (if a || b || is_some o then nothing else if is_some e.session then standing_next handle e (standing_at c channel handle past) else standing_at c channel handle past)
        by true b o p q r = standing-ended (ap (λ x. x || is_out_end e) p)
        by false true o p q r = standing-ended (ap (λ x. x || is_out_end e) p ∙ q)
        by false false (Some begin) p q r =
            none-at (λ s. standing s handle (e ∷ past)) (live_session c channel (e ∷ past))
            (λ s live. nothing-begun rules e past are s handle (ap is_some r) (begun-session p q (ap is_some r) s live))
        by false false None p q r = standing-going p q r

  -- of any event of the connection
  pub standing-behind : (channel handle : ℕ) → standing_at c channel handle (e ∷ past) ≡ standing_behind channel handle e (standing_at c channel handle past)
  standing-behind channel handle = by (is_final e.moment) (is_number (channel_of e.moment) channel) refl refl
    where
      by : (final on : Bool) → is_final e.moment ≡ final → is_number (channel_of e.moment) channel ≡ on
          → standing_at c channel handle (e ∷ past)
          ≡ (if final then nothing
          else if on then standing_here handle e (standing_at c channel handle past)
          else standing_at c channel handle past)
      by true on is at = standing-final channel handle is
      by false true is at = standing-here-at channel handle is at
      by false false is off = standing-off channel handle is off

  -- of one of another connection
  pub standing-other : (other channel handle : ℕ) → (e.connection == other) ≡ false → standing_at other channel handle (e ∷ past) ≡ standing_at other channel handle past
  standing-other other channel handle apart =
      ap (λ o. unwrap_or (option_map (λ s. standing s handle (e ∷ past)) o) nothing) (live_session-other other e past apart channel)
      ∙ at-same (λ s. standing s handle (e ∷ past)) (λ s. standing s handle past) (live_session other channel past)
      (λ s live. standing-elsewhere rules e past are s ((judged-stands rules past are.1).sessions_known other channel s (last_of (is_over other past) (last_session other channel past) s live)) handle
      (and_none (is_some_and e.session (λ (t : Session). t.number == s.number)) (e.connection == s.connection) (ap (λ n. e.connection == n) (live_session-at other channel past s live).0 ∙ apart)))
    where
      last_of : (over : Bool) (last : Option Session) (s : Session) → (if over then None else last) ≡ Some s → last ≡ Some s
      last_of true last s is = absurd cc
      last_of false last s is = is
