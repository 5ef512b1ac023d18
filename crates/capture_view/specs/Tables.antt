-- What the tables of names keep.
use Rattle.std.specs.Prelude.{◌≡◌, ℕ, List, ◌∷◌, option_map}
use Rattle.std.specs.HashMap.{get}
use Rattle.capture_view.specs.Saying.{Saying}
use Rattle.capture_view.specs.Viewed.{Viewed}
use Rattle.capture_view.specs.declared.told.Writer.{Writer}
use Rattle.capture_view.specs.declared.names.LinkKey.{LinkKey}
use Rattle.capture_view.specs.declared.names.ChannelKey.{ChannelKey}
use Rattle.capture_view.specs.declared.names.Attached.{Attached}
use Rattle.capture_view.specs.declared.names.Names.{Names}
use Rattle.capture_view.specs.Named.{Attachment, attach_on, attached_or, begin_on, begun_or, is_channel, is_link, last_attach, last_begin, link_text}

abbrev pub attachment : Attached → Attachment
attachment attached = record { number = attached.number; link = link_text attached.link }

-- the tables have the last attach of each handle, and the last begin of each channel, of these records
pub record StandsFor (names : Names) (past : List Viewed) : Type 0 where
  pub attached : (key : LinkKey) → option_map attachment (get is_link names.attached key) ≡ last_attach past key
  pub begun : (channel : ChannelKey) → get is_channel names.begun channel ≡ last_begin past channel

-- the tables have what a frame says besides what they had, in a record of this number
pub record TakesSaid (earlier later : Names) (number connection : ℕ) (writer : Writer) (saying : Saying) : Type 0 where
  pub attached : (key : LinkKey) → option_map attachment (get is_link later.attached key)
      ≡ attached_or (attach_on writer connection saying) number key (option_map attachment (get is_link earlier.attached key))
  pub begun : (channel : ChannelKey) → get is_channel later.begun channel
      ≡ begun_or (begin_on connection saying) number channel (get is_channel earlier.begun channel)

-- Whichever records came before: where the earlier tables stand for them, the later ones stand for this record in front.
abbrev pub TakesOneMore : Names → Names → Viewed → Type 0
TakesOneMore earlier later view = (past : List Viewed) → StandsFor earlier past → StandsFor later (view ∷ past)
