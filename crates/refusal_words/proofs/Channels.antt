-- An event of one channel, and the tables of all.
use Rattle.std.proofs.Common.{◌≡◌, refl, sym, ap, ◌∙◌, subst, ℕ, Bool, true, false, ◌&&◌, List, Option, Some, None, is_some, nat_eq, eqb-true, Bor}
use Rattle.std.specs.List.{cons_option}
use Rattle.std.specs.Option.{IsSome}
use Rattle.std.specs.HashMap.{WritesThrough, get}
use Rattle.amqp_perf.specs.declared.begin.Begin.{Begin}
use Rattle.amqp_perf.specs.declared.performative.Performative.{Performative}
use Rattle.amqp_perf.specs.declared.performative.Performative.TheVariants as performatives
use Rattle.amqp_perf.specs.View.{view}
use Rattle.capture_view.specs.declared.names.ChannelKey.{ChannelKey}
use Rattle.capture_view.specs.Named.{is_channel}
use Rattle.refusal_words.specs.declared.session.Opened.{Opened}
use Rattle.refusal_words.specs.declared.session.SessionOrigin.{SessionOrigin}
use Rattle.refusal_words.specs.declared.origins.Origins.{Origins}
use Rattle.refusal_words.specs.Session.{SessionChange, SessionEvent, heard, heard_change, if_here, written, written_change}
use Rattle.refusal_words.specs.Link.{LinkEvent, heard_of_link, heard_of_handle, link_of, written_of_link, written_of_handle}
use Rattle.refusal_words.specs.Tables.{ChannelStands, MovesChannel, SessionMoves, SessionStands}
use Rattle.refusal_words.proofs.Sessions.{changing, entry-moved}

both-true : (a b : Bool) → (a && b) ≡ true → (a ≡ true) × (b ≡ true)
both-true true true e = (refl, refl)
both-true true false e = (refl, e)
both-true false b e = (e, cc)

abbrev key_of : ℕ → ℕ → ChannelKey
key_of connection channel = record { connection = connection; channel = channel }

made-same : (a a' b b' : ℕ) → a ≡ a' → b ≡ b' → key_of a b ≡ key_of a' b'
made-same a a' b b' p q = rw (p, q) refl

-- channels of which the test says that they are one
is-same : (a b : ChannelKey) → is_channel a b ≡ true → a ≡ b
is-same a b e =
    let both = both-true (nat_eq a.connection b.connection) (nat_eq a.channel b.channel) e in
    made-same a.connection b.connection a.channel b.channel (eqb-true a.connection b.connection both.0) (eqb-true a.channel b.channel both.1)

here-true : {A : Type 0} (o : Option A) → if_here true o ≡ o
here-true None = refl
here-true (Some x) = refl

here-false : {A : Type 0} (o : Option A) → if_here false o ≡ None
here-false None = refl
here-false (Some x) = refl

session-same : (entry : Option SessionOrigin) (events : List SessionEvent) (links links' : ℕ → List LinkEvent) → ((handle : ℕ) → links' handle ≡ links handle)
    → SessionStands entry events links → SessionStands entry events links'
session-same None events links links' same stands = stands
session-same (Some session) events links links' same stands = record {
  is_live = stands.is_live;
  told_of = stands.told_of;
  links = λ handle. stands.links handle ∙ sym (ap link_of (same handle));
}

stands-same : (opening : Option Opened) (entry : Option SessionOrigin) (events events' : List SessionEvent) (links links' : ℕ → List LinkEvent)
    → events' ≡ events → ((handle : ℕ) → links' handle ≡ links handle)
    → ChannelStands opening entry events links → ChannelStands opening entry events' links'
stands-same opening entry events events' links links' p same stands =
    let At : List SessionEvent → Type 0 = λ xs. ChannelStands opening entry xs links' in
    let here : ChannelStands opening entry events links' = record { begin = stands.begin; session = session-same entry events links links' same stands.session } in
    subst At (sym p) here

module _ (key : ChannelKey) (event : Option SessionEvent) (said : ℕ → Option LinkEvent) (begins : ChannelKey → Option Opened) (f g : ChannelKey → Option SessionOrigin) where
  abbrev Here : ChannelKey → Type 0
  Here q = (events : List SessionEvent) (links : ℕ → List LinkEvent) → ChannelStands (begins q) (f q) events links
      → ChannelStands (begins q) (g q) (cons_option event events) (λ handle. cons_option (said handle) (links handle))

  -- where the event is what happens on the channel, and the other channels keep their entries, it is so for each channel
  pub at-channel : Here key → ((q : ChannelKey) → is_channel key q ≡ false → g q ≡ f q)
      → (q : ChannelKey) (events : List SessionEvent) (links : ℕ → List LinkEvent) → ChannelStands (begins q) (f q) events links
      → ChannelStands (begins q) (g q) (cons_option (if_here (is_channel key q) event) events) (λ handle. cons_option (if_here (is_channel key q) (said handle)) (links handle))
  at-channel here others q events links stands = by (is_channel key q) refl
    where
      by : (b : Bool) → is_channel key q ≡ b
          → ChannelStands (begins q) (g q) (cons_option (if_here b event) events) (λ handle. cons_option (if_here b (said handle)) (links handle))
      by true is =
          let there : Here q = subst Here (is-same key q is) here in
          stands-same (begins q) (g q) (cons_option event events) (cons_option (if_here true event) events)
          (λ handle. cons_option (said handle) (links handle)) (λ handle. cons_option (if_here true (said handle)) (links handle))
          (ap (λ o. cons_option o events) (here-true event)) (λ handle. ap (λ o. cons_option o (links handle)) (here-true (said handle)))
          (there events links stands)
      by false is =
          let At : Option SessionOrigin → Type 0 = λ o. ChannelStands (begins q) o events links in
          stands-same (begins q) (g q) events (cons_option (if_here false event) events)
          links (λ handle. cons_option (if_here false (said handle)) (links handle))
          (ap (λ o. cons_option o events) (here-false event)) (λ handle. ap (λ o. cons_option o (links handle)) (here-false (said handle)))
          (subst At (sym (others q is)) stands)

-- ---- a change on the session that lives on a channel

is-some : {A : Type 0} (o : Option A) (x : A) → o ≡ Some x → IsSome o
is-some o x e = ap is_some e

pub changed-there : (key : ChannelKey) (change : Option SessionChange) (said : ℕ → Option LinkEvent) (old new : Origins) (s t : SessionOrigin)
    → get is_channel old.sessions key ≡ Some s → WritesThrough is_channel (is_channel key) old.sessions t new.sessions → new.begins ≡ old.begins
    → SessionMoves change said s t → MovesChannel key (changing change) said old new
changed-there key change said old new s t was through same moves =
    let updates = through.3 (is-some (get is_channel old.sessions key) s was) in
    let begins : ChannelKey → Option Opened = λ q. get is_channel new.begins q in
    let f : ChannelKey → Option SessionOrigin = λ q. get is_channel old.sessions q in
    let g : ChannelKey → Option SessionOrigin = λ q. get is_channel new.sessions q in
    record {
      channels = λ q events links stands.
          at-channel key (changing change) said begins f g
          (entry-moved change said s t moves (begins key) (f key) (g key) was updates.1) updates.2 q events links
          (let At : Option Opened → Type 0 = λ o. ChannelStands o (f q) events links in subst At (ap (λ m. get is_channel m q) (sym same)) stands);
    }

module _ (key : ChannelKey) (number : ℕ) (old new : Origins) where
  -- what is neither a begin nor an end is such a change
  pub heard-there : (p : Performative) → ((x : Begin) → p ≡ performatives.Begin x → ⊥) → ((x : Option (Bor (List ℕ))) → p ≡ performatives.End x → ⊥)
      → MovesChannel key (changing (heard_change number (view p))) (λ handle. heard_of_handle handle number (view p)) old new
      → MovesChannel key (heard number (view p)) (λ handle. heard_of_link handle number (view p)) old new
  heard-there (performatives.Open x) not-begin not-end moves = moves
  heard-there (performatives.Begin x) not-begin not-end moves = absurd (not-begin x refl)
  heard-there (performatives.Attach x) not-begin not-end moves = moves
  heard-there (performatives.Flow x) not-begin not-end moves = moves
  heard-there (performatives.Transfer x) not-begin not-end moves = moves
  heard-there (performatives.Disposition x) not-begin not-end moves = moves
  heard-there (performatives.Detach x) not-begin not-end moves = moves
  heard-there (performatives.End x) not-begin not-end moves = absurd (not-end x refl)
  heard-there (performatives.Close x) not-begin not-end moves = moves

  pub written-there : (p : Performative) → ((x : Begin) → p ≡ performatives.Begin x → ⊥) → ((x : Option (Bor (List ℕ))) → p ≡ performatives.End x → ⊥)
      → MovesChannel key (changing (written_change (view p))) (λ handle. written_of_handle handle number (view p)) old new
      → MovesChannel key (written number (view p)) (λ handle. written_of_link handle number (view p)) old new
  written-there (performatives.Open x) not-begin not-end moves = moves
  written-there (performatives.Begin x) not-begin not-end moves = absurd (not-begin x refl)
  written-there (performatives.Attach x) not-begin not-end moves = moves
  written-there (performatives.Flow x) not-begin not-end moves = moves
  written-there (performatives.Transfer x) not-begin not-end moves = moves
  written-there (performatives.Disposition x) not-begin not-end moves = moves
  written-there (performatives.Detach x) not-begin not-end moves = moves
  written-there (performatives.End x) not-begin not-end moves = absurd (not-end x refl)
  written-there (performatives.Close x) not-begin not-end moves = moves
