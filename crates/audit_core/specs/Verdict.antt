-- What an auditor may say of octets.
use Rattle.std.specs.Prelude.{◌≡◌, ℕ, Bool, true, not, ◌+◌, ◌<◌, List, ◌++◌, length, take, Option, Some, None, Result, Ok, Err, ◌⊎◌}
use Rattle.capture_form.specs.declared.fault.FormKind.{FormKind}
use Rattle.capture_form.specs.declared.fault.FormKind.TheVariants as kinds
use Rattle.capture_form.specs.Text.{Trace, IsCapture, text}
use Rattle.capture_form.specs.Reading.{reading}
use Rattle.capture_form.specs.Laws.{BeginsWith, trace_of}
use Rattle.capture_form.specs.Gives.{IsRefusedRule, IsRefusedRecord}
use Rattle.capture_form.specs.Reader.{IsPartStart}
use Rattle.trace_events.specs.declared.clause.Clause.{Clause}
use Rattle.trace_events.specs.declared.tally.Tally.{Tally}
use Rattle.trace_events.specs.History.{history}
use Rattle.trace_events.specs.Clauses.{first_broken}
use Rattle.trace_events.specs.Verdict.{tally_of, verdict}
use Rattle.trace_events.specs.Kept.{Keeps}
use Rattle.audit_core.specs.declared.verdict.Verdict.{Verdict}
use Rattle.audit_core.specs.declared.verdict.Verdict.TheVariants.{Accepted, Refused, Malformed, NoMemory, Unreadable}
use Rattle.audit_core.specs.declared.verdict.Refusal.{Refusal}
use Rattle.audit_core.specs.declared.verdict.Refusal.TheVariants.{Broken, Memory}

-- ---- captures

-- the first record of a capture that breaks a clause, with the first clause that it breaks
abbrev pub broken_in : Trace → Option (ℕ × Clause)
broken_in capture = first_broken capture.rules (history capture.rules capture.records)

-- what it holds
abbrev pub tally_in : Trace → Tally
tally_in capture = tally_of (history capture.rules capture.records)

-- a judgement as an answer
abbrev pub as_answer : Result Tally (ℕ × Clause) → Result Tally Refusal
as_answer (Ok tally) = Ok tally
as_answer (Err broken) = Err (Broken broken.0 broken.1)

-- what is to be answered of a capture
abbrev pub answer_of : Trace → Result Tally Refusal
answer_of capture = as_answer (verdict capture.rules capture.records)

-- its rules and so many of its records, the first ones
abbrev pub first_of : ℕ → Trace → Trace
first_of n capture = record { rules = capture.rules; records = take n capture.records }

-- memory was refused for the rules, or for a record behind those that meet the clauses
abbrev pub WantsMemory : Trace → Type 0
WantsMemory capture = (0 < length capture.rules.list) ⊎ ((number : ℕ) × (number < length capture.records) × (broken_in (first_of number capture) ≡ None))

-- an answer is the one that is to be given, unless memory was refused
abbrev pub AnswersCapture : Trace → Result Tally Refusal → Type 0
AnswersCapture capture (Ok tally) = answer_of capture ≡ Ok tally
AnswersCapture capture (Err (Broken number clause)) = answer_of capture ≡ Err (Broken number clause)
AnswersCapture capture (Err Memory) = WantsMemory capture

-- a refusal of the record that stands at an offset, as a verdict
abbrev pub verdict_of_refusal : ℕ → Refusal → Verdict
verdict_of_refusal offset (Broken number clause) = Refused number clause
verdict_of_refusal offset Memory = NoMemory offset

-- what stops the reading of a text, as a verdict
abbrev pub verdict_of_fault : FormKind → ℕ → Verdict
verdict_of_fault kinds.Magic offset = Malformed offset kinds.Magic
verdict_of_fault kinds.Rules offset = Malformed offset kinds.Rules
verdict_of_fault kinds.Kind offset = Malformed offset kinds.Kind
verdict_of_fault kinds.Note offset = Malformed offset kinds.Note
verdict_of_fault kinds.Length offset = Malformed offset kinds.Length
verdict_of_fault kinds.Truncated offset = Malformed offset kinds.Truncated
verdict_of_fault kinds.Memory offset = NoMemory offset
verdict_of_fault kinds.Read offset = Unreadable offset

-- ---- octets

-- the octets are the text of a capture each of whose records meets the clauses
pub record Accepts (octets : List ℕ) (tally : Tally) : Type 0 where
  pub trace : Trace
  pub bounds : IsCapture trace
  pub whole : octets ≡ text trace
  pub lawful : broken_in trace ≡ None
  pub counted : tally ≡ tally_in trace

-- the octets begin with the text of a capture whose last record is the first that breaks a clause
pub record Refuses (octets : List ℕ) (number : ℕ) (clause : Clause) : Type 0 where
  pub trace : Trace
  pub rest : List ℕ
  pub bounds : IsCapture trace
  pub begins : octets ≡ text trace ++ rest
  pub last : length trace.records ≡ number + 1
  pub broken : broken_in trace ≡ Some (number, clause)

-- the first fault of the octets stands there, and the whole records before it meet the clauses
pub record IsMalformed (octets : List ℕ) (offset : ℕ) (kind : FormKind) : Type 0 where
  pub fault : (reading octets).fault ≡ Some (record { offset = offset; kind = kind })
  pub lawful : broken_in (trace_of (reading octets)) ≡ None

-- memory was refused for a rule, or for a record, that stands there and can be read, and the records before it meet the
-- clauses
pub record IsRefusedAt (octets : List ℕ) (offset : ℕ) : Type 0 where
  pub trace : Trace
  pub place : IsRefusedRule octets trace offset ⊎ IsRefusedRecord octets trace offset
  pub lawful : broken_in trace ≡ None

-- what a verdict says of the octets; want of memory says nothing of them, and octets that are there were read
abbrev pub Holds : List ℕ → Verdict → Type 0
Holds octets (Accepted tally) = Accepts octets tally
Holds octets (Refused number clause) = Refuses octets number clause
Holds octets (Malformed offset form_kind) = IsMalformed octets offset form_kind
Holds octets (NoMemory offset) = ⊥
Holds octets (Unreadable offset) = ⊥

-- an answer is the verdict that holds, unless memory was refused
abbrev pub Answers : List ℕ → Verdict → Type 0
Answers octets (Accepted tally) = Accepts octets tally
Answers octets (Refused number clause) = Refuses octets number clause
Answers octets (Malformed offset form_kind) = IsMalformed octets offset form_kind
Answers octets (NoMemory offset) = IsRefusedAt octets offset
Answers octets (Unreadable offset) = ⊥

-- a verdict is acceptance with this tally, or memory was refused
abbrev pub AcceptsUnlessRefused : Tally → Verdict → Type 0
AcceptsUnlessRefused tally (Accepted other) = other ≡ tally
AcceptsUnlessRefused tally (Refused number clause) = ⊥
AcceptsUnlessRefused tally (Malformed offset form_kind) = ⊥
AcceptsUnlessRefused tally (NoMemory offset) = Unit {0}
AcceptsUnlessRefused tally (Unreadable offset) = ⊥

-- ---- octets that a reader gives

-- no more was read from the start of a record on, behind those that meet the clauses
pub record IsUnreadRecord (octets : List ℕ) (offset : ℕ) : Type 0 where
  pub trace : Trace
  pub bounds : IsCapture trace
  pub front : BeginsWith octets (text trace)
  pub place : offset ≡ length (text trace)
  pub lawful : broken_in trace ≡ None

-- no more was read from there on: the start of the magic, the mark, the number of rules, a rule, or such a record
abbrev pub IsUnreadAt : List ℕ → ℕ → Type 0
IsUnreadAt octets offset = IsPartStart octets offset ⊎ IsUnreadRecord octets offset

-- an answer on octets that a reader gives: as on octets that are there, but that memory may be refused for the room into
-- which is read, at 0, and a read may fail
abbrev pub AnswersRead : List ℕ → Verdict → Type 0
AnswersRead octets (Accepted tally) = Accepts octets tally
AnswersRead octets (Refused number clause) = Refuses octets number clause
AnswersRead octets (Malformed offset form_kind) = IsMalformed octets offset form_kind
AnswersRead octets (NoMemory offset) = (offset ≡ 0) ⊎ IsRefusedAt octets offset
AnswersRead octets (Unreadable offset) = IsUnreadAt octets offset

-- a verdict that an auditor is sure of, whether it forgets or not: one that forgets cannot tell what a record breaks
abbrev pub is_sure : Bool → Verdict → Bool
is_sure forgets (Accepted tally) = true
is_sure forgets (Refused number clause) = not forgets
is_sure forgets (Malformed offset form_kind) = true
is_sure forgets (NoMemory offset) = true
is_sure forgets (Unreadable offset) = true

-- octets that are refused: a record of them breaks a clause
abbrev pub AreRefused : List ℕ → Type 0
AreRefused octets = (number : ℕ) × ((clause : Clause) × Refuses octets number clause)

-- ---- what acceptance is worth

-- The octets are the text of a capture in which every transfer that was sent stood within its link's credit and its
-- session's window, went to a link of the address of the delivery that its note names, and carried that delivery's
-- octets; each anycast delivery reached at most one consumer; and each outcome that was told is that of the row of its
-- note, at most one of each delivery.
pub record IsKept (octets : List ℕ) : Type 0 where
  pub trace : Trace
  pub bounds : IsCapture trace
  pub whole : octets ≡ text trace
  pub keeps : Keeps trace.rules (history trace.rules trace.records)
