-- What an arrow of a chart shows of its record.
use Rattle.std.specs.Prelude.{ℕ, List, ◌++◌, codes, decimal, map, Option, Some, None}
use Rattle.std.specs.String.{string_bytes}
use Rattle.pairing_cert.specs.declared.note.Note.{Note}
use Rattle.pairing_cert.specs.declared.note.Note.TheVariants as notes
use Rattle.amqp_perf.specs.Meaning.{Meaning, AnOpen, ABegin, AnAttach, AFlow, ATransfer, ADisposition, ADetach, AnEnd, AClose}
use Rattle.capture_view.specs.Saying.{Saying}
use Rattle.capture_view.specs.Saying as sayings
use Rattle.capture_view.specs.Viewed.{Happening, Viewed}
use Rattle.capture_view.specs.Viewed as happenings
use Rattle.capture_chart.specs.declared.topic.Course.{Course}
use Rattle.capture_chart.specs.declared.topic.Course.TheVariants.{ToRouter, ToClient, Beside}
use Rattle.capture_chart.specs.declared.topic.Topic.{Topic}
use Rattle.capture_chart.specs.declared.topic.Topic.TheVariants as topics
use Rattle.capture_chart.specs.declared.marks.Mark.{Mark}
use Rattle.capture_chart.specs.Marks.{mark_words}
use Rattle.capture_chart.specs.declared.arrow.Arrow.{Arrow}
use Rattle.capture_chart.specs.declared.chart.Chart.{Chart}

-- ---- of a record

-- which performative it is (part 2, 2.7)
abbrev pub topic_in : Meaning → Topic
topic_in (AnOpen fields) = topics.Open
topic_in (ABegin fields) = topics.Begin
topic_in (AnAttach fields) = topics.Attach
topic_in (AFlow fields) = topics.Flow
topic_in (ATransfer fields) = topics.Transfer
topic_in (ADisposition fields) = topics.Disposition
topic_in (ADetach fields) = topics.Detach
topic_in (AnEnd error) = topics.End
topic_in (AClose error) = topics.Close

-- what octets say, or that they say nothing
abbrev pub topic_said : Saying → Topic
topic_said (sayings.NoFrame flaw place) = topics.NoFrame
topic_said (sayings.NoBody channel) = topics.EmptyFrame
topic_said (sayings.NoPerformative channel fault place) = topics.NoPerformative
topic_said (sayings.Says channel meaning rest) = topic_in meaning

abbrev pub topic_of : Happening → Topic
topic_of happenings.Opened = topics.Opened
topic_of (happenings.In said) = topic_said said
topic_of (happenings.Out said) = topic_said said
topic_of happenings.Lost = topics.Lost
topic_of happenings.Broken = topics.Broken

-- where a frame goes; without one it goes nowhere
abbrev pub course_of : Happening → Course
course_of happenings.Opened = Beside
course_of (happenings.In said) = ToRouter
course_of (happenings.Out said) = ToClient
course_of happenings.Lost = Beside
course_of happenings.Broken = Beside

-- the record whose delivery a transfer carries, by the note
abbrev pub carried_by : Note → Option ℕ
carried_by notes.None = None
carried_by (notes.Pair number) = Some number
carried_by (notes.Told why) = None

pub record Shown : Type 0 where
  pub number : ℕ
  pub connection : ℕ
  pub course : Course
  pub topic : Topic
  pub carried : Option ℕ
  pub told : Option ℕ

-- what is shown of a record that tells the outcome of the delivery of this record, if of one
abbrev pub shown_of : Viewed → Option ℕ → Shown
shown_of view told = record {
  number = view.number;
  connection = view.connection;
  course = course_of view.happened;
  topic = topic_of view.happened;
  carried = carried_by view.note;
  told = told;
}

-- what is shown of records, each with the delivery whose outcome it tells
abbrev pub shown_all : List (Viewed × Option ℕ) → List Shown
shown_all views = map (λ (view : Viewed × Option ℕ). shown_of view.0 view.1) views

-- ---- values of the code

-- what an arrow shows
abbrev pub shown : Arrow → Shown
shown arrow = record { number = arrow.number; connection = arrow.connection; course = arrow.course; topic = arrow.topic; carried = arrow.carried; told = arrow.told }

-- the arrows of a chart, in order
abbrev pub arrows_of : Chart → List Shown
arrows_of chart = map shown chart.arrows.items

-- an arrow with its words, which describe it, and what stands beside it
pub record Worded : Type 0 where
  pub shows : Shown
  pub words : List ℕ
  pub label : List ℕ

abbrev pub worded : Arrow → Worded
worded arrow = record { shows = shown arrow; words = string_bytes arrow.words; label = string_bytes arrow.label }

-- the arrows of a chart with their words, in order
abbrev pub worded_of : Chart → List Worded
worded_of chart = map worded chart.arrows.items

abbrev pub shown_in : List Worded → List Shown
shown_in arrows = map (λ (arrow : Worded). arrow.shows) arrows

-- ---- in words

abbrev pub topic_words : Topic → List ℕ
topic_words topics.Open = codes "open"
topic_words topics.Begin = codes "begin"
topic_words topics.Attach = codes "attach"
topic_words topics.Flow = codes "flow"
topic_words topics.Transfer = codes "transfer"
topic_words topics.Disposition = codes "disposition"
topic_words topics.Detach = codes "detach"
topic_words topics.End = codes "end"
topic_words topics.Close = codes "close"
topic_words topics.EmptyFrame = codes "empty frame"
topic_words topics.NoPerformative = codes "no performative"
topic_words topics.NoFrame = codes "no frame"
topic_words topics.Opened = codes "opened"
topic_words topics.Lost = codes "lost"
topic_words topics.Broken = codes "broken"

abbrev pub course_words : Course → List ℕ
course_words ToRouter = codes " to router: "
course_words ToClient = codes " from router: "
course_words Beside = codes ": "

-- the title of an arrow with this mark
unfoldable pub title_text : Mark → Shown → List ℕ
title_text mark shown =
    decimal shown.number ++ (codes " connection " ++ (decimal shown.connection ++ (course_words shown.course ++ (topic_words shown.topic ++ mark_words mark))))

-- the title of the line to an arrow from the delivery of this record
unfoldable pub told_text : ℕ → Shown → List ℕ
told_text number shown = decimal shown.number ++ (codes " tells the outcome of " ++ decimal number)
