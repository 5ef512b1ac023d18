-- The records that answer an input (own rules).
use Rattle.std.specs.Prelude.{◌≡◌, ℕ, List, [], ◌∷◌, IsTrue}
use Rattle.pairing_cert.specs.declared.note.Note.TheVariants as notes
use Rattle.capture_form.specs.declared.records.Record.{Record}
use Rattle.capture_form.specs.declared.records.What.TheVariants as whats
use Rattle.capture_form.specs.Rules.{RuleSet}
use Rattle.capture_form.specs.Text.{IsRecord}
use Rattle.trace_events.specs.Frame.{Spoken}
use Rattle.trace_events.specs.Event.{Event, Moment}
use Rattle.trace_events.specs.History.{judge_moment}
use Rattle.trace_events.specs.Written.{spoken_octets}
use Rattle.state_answers.specs.Tables.{TellsOf}
use Rattle.route_answers.specs.Answering.{IsReady, may_happen}
use Rattle.trace_duties.specs.Answer.{answer}
use Rattle.state_answers.specs.declared.lent_tables.LentTables.{LentTables}
use Rattle.route_dues.specs.Writing.{IsReadAgain}
use Rattle.route_core.specs.declared.replies.Replies.{Replies}
use Rattle.route_core.specs.declared.replies.Replies.TheVariants.{Nothing, One, Two}

-- the record writes this frame on the connection, without a note, and it is read again
pub record IsReply (c : ℕ) (spoken : Spoken) (r : Record) : Type 0 where
  pub on : r.connection ≡ c
  pub unnoted : r.note ≡ notes.None
  pub what : r.what ≡ whats.Out (spoken_octets spoken)
  pub again : IsReadAgain spoken
  pub bounds : IsRecord r

-- they write these frames, one each
abbrev pub AreReplies : ℕ → List Spoken → List Record → Type 0
AreReplies c [] [] = Unit {0}
AreReplies c (spoken ∷ frames) (r ∷ records) = IsReply c spoken r × AreReplies c frames records
AreReplies c _ _ = ⊥

abbrev pub replies_of : Replies → List Record
replies_of Nothing = []
replies_of (One first) = first ∷ []
replies_of (Two first second) = first ∷ second ∷ []

-- a client may have done this behind some events of a router
pub record IsAnswerable (rules : RuleSet) (e : Event) : Type 0 where
  pub past : List Event
  pub connection : ℕ
  pub moment : Moment
  pub ready : IsReady rules past
  pub may : IsTrue (may_happen connection moment past)
  pub judged : e ≡ judge_moment rules past connection moment notes.None

-- these frames are the answer to an event, behind whatever history of a router it is
pub record IsAnswerOf (rules : RuleSet) (tables : LentTables) (e : Event) (frames : List Spoken) : Type 0 where
  pub says : (past : List Event) (c : ℕ) (m : Moment) → IsReady rules past → IsTrue (may_happen c m past)
      → e ≡ judge_moment rules past c m notes.None → TellsOf rules tables (e ∷ past) → frames ≡ answer rules e (e ∷ past)

-- these records write such frames
pub record AreAnswers (rules : RuleSet) (tables : LentTables) (e : Event) (records : List Record) : Type 0 where
  pub frames : List Spoken
  pub answers : IsAnswerOf rules tables e frames
  pub written : AreReplies e.connection frames records
