-- What a watcher of an audit has seen (own rules).
use Rattle.std.specs.Prelude.{◌≡◌, ℕ, List, ◌∷◌, [], ◌++◌, length, ⊤}
use Rattle.capture_form.specs.declared.records.Record.{Record}
use Rattle.capture_form.specs.Rules.{RuleSet}
use Rattle.capture_form.specs.Text.{Trace, IsCapture, text}
use Rattle.capture_form.specs.Reading.{reading}
use Rattle.state_ledger.specs.declared.ledger.Ledger.{Ledger}
use Rattle.state_ledger.specs.Ledger.{Stands, StandsWhole}
use Rattle.audit_core.specs.declared.verdict.Verdict.{Verdict}
use Rattle.audit_core.specs.declared.verdict.Verdict.TheVariants.{Accepted, Refused, Malformed, NoMemory, Unreadable}

-- What is known of a watcher is said of what it was at first and of what it is: so that it may say what stays.

-- one record more was taken, whichever were before, judged by these rules: the ledger's with this one, of which it keeps enough
abbrev pub TakesOneMore : {W : Type 0} → (W → W → RuleSet → List Record → Type 0) → RuleSet → Ledger → W → W → Record → Type 0
TakesOneMore {W = W} saw rules ledger before after entry =
    (first : W) (records : List Record) → Stands rules ledger (records ++ entry ∷ []) → saw first before rules records → saw first after rules (records ++ entry ∷ [])

-- a record was refused behind those of the ledger, which keeps all, judged by these rules
abbrev pub RefusesOneMore : {W : Type 0} → (W → W → RuleSet → List Record → Type 0) → (W → W → RuleSet → List Record → Record → Type 0)
    → RuleSet → Ledger → W → W → Record → Type 0
RefusesOneMore {W = W} saw refuses rules ledger before after entry =
    (first : W) (records : List Record) → StandsWhole rules ledger records → saw first before rules records → refuses first after rules records entry

-- the octets are the text of a capture, of which the watcher saw each record
pub record SawAll {W : Type 0} (saw : W → RuleSet → List Record → Type 0) (watcher : W) (octets : List ℕ) : Type 0 where
  pub trace : Trace
  pub bounds : IsCapture trace
  pub whole : octets ≡ text trace
  pub seen : saw watcher trace.rules trace.records

-- the octets begin with the text of a capture whose last record has this number, and the watcher saw it refused behind the
-- others
pub record SawRefused {W : Type 0} (refuses : W → RuleSet → List Record → Record → Type 0) (watcher : W) (octets : List ℕ) (number : ℕ) : Type 0 where
  pub rules : RuleSet
  pub before : List Record
  pub entry : Record
  pub rest : List ℕ
  pub bounds : IsCapture (record { rules = rules; records = before ++ entry ∷ [] })
  pub begins : octets ≡ text (record { rules = rules; records = before ++ entry ∷ [] }) ++ rest
  pub place : number ≡ length before
  pub seen : refuses watcher rules before entry

-- what a watcher has seen at a verdict: all records of what is accepted, the refused one behind those in front of it, and the
-- records in front of the first fault of a text; nothing is said where memory was refused or a read failed
abbrev pub Watched : {W : Type 0} → (W → RuleSet → List Record → Type 0) → (W → RuleSet → List Record → Record → Type 0) → W → List ℕ → Verdict → Type 0
Watched saw refuses watcher octets (Accepted tally) = SawAll saw watcher octets
Watched saw refuses watcher octets (Refused number clause) = SawRefused refuses watcher octets number
Watched saw refuses watcher octets (Malformed offset form_kind) = saw watcher (reading octets).rules (reading octets).records
Watched saw refuses watcher octets (NoMemory offset) = ⊤
Watched saw refuses watcher octets (Unreadable offset) = ⊤
