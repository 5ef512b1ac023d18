-- What the tables keep, and what a record does to them.
use Rattle.std.specs.Prelude.{◌≡◌, ℕ, ◌+◌, false, true, List, ◌∷◌, Option, Some, None, option_map, nat_eq, if◌then◌else◌}
use Rattle.std.specs.List.{cons_option}
use Rattle.std.specs.HashMap.{get}
use Rattle.std.specs.String.{string_bytes}
use Rattle.capture_view.specs.declared.names.ChannelKey.{ChannelKey}
use Rattle.capture_view.specs.Named.{is_channel}
use Rattle.capture_view.specs.Numbers.{most}
use Rattle.capture_view.specs.Viewed.{Viewed}
use Rattle.refusal_words.specs.declared.link.Change.{Change}
use Rattle.refusal_words.specs.declared.link.Change.TheVariants.{Credit, Transfer, Drain}
use Rattle.refusal_words.specs.declared.link.LinkOrigin.{LinkOrigin}
use Rattle.refusal_words.specs.declared.session.Opened.{Opened}
use Rattle.refusal_words.specs.declared.session.SessionOrigin.{SessionOrigin}
use Rattle.refusal_words.specs.declared.origins.Origins.{Origins}
use Rattle.refusal_words.specs.Session.{SessionChange, SessionEvent, SessionTold, OurTransfer, TheirFlow, if_here, last_begin, lives, session_events, told}
use Rattle.refusal_words.specs.Link.{LinkEvent, LinkTold, Changes, OurAttach, Over, fresh_link, link_events, link_of}

-- ---- values of the code

abbrev pub link_told : LinkOrigin → LinkTold
link_told link = record { number = link.number; name = string_bytes link.name; credit = link.credit; begun = link.begun; drained = link.drained; in_progress = link.is_in_progress }

abbrev pub session_told : SessionOrigin → SessionTold
session_told session = record { number = session.number; opened = session.opened; window = session.window; sent = session.sent }

-- what is kept of a handle
abbrev pub link_on : SessionOrigin → ℕ → Option LinkTold
link_on session handle = option_map link_told (get nat_eq session.links handle)

-- ---- one event more

-- a link's credit is granted; a transfer is sent; a drain is answered
abbrev pub changed : Change → LinkTold → LinkTold
changed (Credit credited) link = record link { credit = Some credited; begun = 0; drained = None }
changed (Transfer more) link =
    record link { begun = (if link.in_progress then link.begun else most (link.begun + 1)); in_progress = more }
changed (Drain number) link = record link { drained = Some number }

abbrev pub link_next : Option LinkEvent → Option LinkTold → Option LinkTold
link_next None link = link
link_next (Some (OurAttach number given)) link = Some (fresh_link number given)
link_next (Some (Changes change)) link = option_map (changed change) link
link_next (Some Over) link = None

abbrev pub told_next : Option SessionChange → SessionTold → SessionTold
told_next None session = session
told_next (Some (TheirFlow number flow)) session =
    record session { window = Some (record { number = number; next_incoming_id = flow.next_incoming_id; incoming_window = flow.incoming_window }); sent = 0 }
told_next (Some OurTransfer) session = record session { sent = most (session.sent + 1) }

-- a session with this change of its window, and these events of its links
pub record SessionMoves (change : Option SessionChange) (said : ℕ → Option LinkEvent) (earlier later : SessionOrigin) : Type 0 where
  pub told : session_told later ≡ told_next change (session_told earlier)
  pub links : (handle : ℕ) → link_on later handle ≡ link_next (said handle) (link_on earlier handle)

-- ---- the tables and the events of a channel

-- a session and its links are what these events come to
pub record Stands (session : SessionOrigin) (events : List SessionEvent) (said : ℕ → List LinkEvent) : Type 0 where
  pub is_live : lives events ≡ true
  pub told_of : session_told session ≡ told events
  pub links : (handle : ℕ) → link_on session handle ≡ link_of (said handle)

-- there is one exactly where one lives
abbrev pub SessionStands : Option SessionOrigin → List SessionEvent → (ℕ → List LinkEvent) → Type 0
SessionStands None events said = lives events ≡ false
SessionStands (Some session) events said = Stands session events said

-- the entries of a channel, the client's last begin and the session, are what these events come to
pub record ChannelStands (opening : Option Opened) (entry : Option SessionOrigin) (events : List SessionEvent) (said : ℕ → List LinkEvent) : Type 0 where
  pub begin : opening ≡ last_begin events
  pub session : SessionStands entry events said

abbrev pub StandsAt : Origins → ChannelKey → List SessionEvent → (ℕ → List LinkEvent) → Type 0
StandsAt origins key events said =
    ChannelStands (get is_channel origins.begins key) (get is_channel origins.sessions key) events said

-- the tables are what these records come to, on each channel
pub record StandsFor (origins : Origins) (past : List Viewed) : Type 0 where
  pub channels : (key : ChannelKey) → StandsAt origins key (session_events key past) (λ handle. link_events key handle past)

-- Whichever events came before: where the earlier tables stand for them, the later ones stand for one more of each channel
-- and handle of which there is one.
pub record MovesTo (event : ChannelKey → Option SessionEvent) (said : ChannelKey → ℕ → Option LinkEvent) (earlier later : Origins) : Type 0 where
  pub channels : (key : ChannelKey) (events : List SessionEvent) (links : ℕ → List LinkEvent) → StandsAt earlier key events links
      → StandsAt later key (cons_option (event key) events) (λ handle. cons_option (said key handle) (links handle))

-- the same, for an event of this channel
abbrev pub MovesChannel : ChannelKey → Option SessionEvent → (ℕ → Option LinkEvent) → Origins → Origins → Type 0
MovesChannel key event said earlier later =
    MovesTo (λ q. if_here (is_channel key q) event) (λ q handle. if_here (is_channel key q) (said handle)) earlier later

-- Whichever records came before: where the earlier tables stand for them, the later ones stand for this record in front.
abbrev pub TakesOneMore : Origins → Origins → Viewed → Type 0
TakesOneMore earlier later view = (past : List Viewed) → StandsFor earlier past → StandsFor later (view ∷ past)
