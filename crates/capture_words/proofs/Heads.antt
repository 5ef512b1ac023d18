-- What is read behind the head of a text, as what is read of the text.
use Rattle.std.proofs.Common.{◌≡◌, sym, ap, subst, ◌∙◌, ℕ, ◌+◌, List, [], ◌++◌, length, Option, None, Some, Result, Ok, Err, arith}
use Rattle.std.specs.Prelude.{IfSome}
use Rattle.std.proofs.lemmas.List.{length-append}
use Rattle.capture_form.specs.declared.fault.FormKind.{FormKind}
use Rattle.capture_form.specs.declared.fault.FormKind.TheVariants as kinds
use Rattle.capture_form.specs.declared.fault.FormFault.{FormFault}
use Rattle.capture_form.specs.Rules.{RuleSet}
use Rattle.capture_form.specs.Text.{head_text}
use Rattle.capture_form.specs.Reading.{Reads, head_at, reading, reads_behind, records_at}
use Rattle.capture_form.specs.Laws.{records_behind}
use Rattle.capture_form.specs.Reader.{IsHead, StopsHead}
use Rattle.capture_words.specs.declared.ending.Ending.{Ending}
use Rattle.capture_words.specs.declared.ending.Ending.TheVariants.{Malformed}
use Rattle.capture_view.specs.Viewed.{Viewed}
use Rattle.capture_words.specs.Taken.{TakesAll, views_of}
use Rattle.capture_form.specs.declared.records.Record.{Record}
use Rattle.capture_words.specs.Ending.{ending_at}
use Rattle.capture_words.specs.Shown.{EndsBy, EndsRecords, EndsText}

-- what is read of a text, by its head
reads_by : (octets : List ℕ) (head : Result (RuleSet × List ℕ) FormFault) → head_at octets ≡ head
    → reading octets ≡ reads_behind (length octets) head
unfolding reading
reads_by octets head is = ap (reads_behind (length octets)) is

pub behind_head : (octets : List ℕ) (rules : RuleSet) (rest : List ℕ) (place : ℕ) → head_at octets ≡ Ok (rules, rest)
    → octets ≡ head_text rules ++ rest → place ≡ length (head_text rules)
    → ((records_behind place rest).fault ≡ (reading octets).fault) × ((records_behind place rest).records ≡ (reading octets).records)
behind_head octets rules rest place read spelled at_is =
    let lengths : length octets ≡ length (head_text rules) + length rest = ap length spelled ∙ length-append (head_text rules) rest in
    let whole : place + length rest ≡ length octets = omega arith in
    let by = reads_by octets (Ok (rules, rest)) read in (
      ap (λ w. (records_at (length rest) w rest).fault) whole ∙ sym (ap (λ (r : Reads). r.fault) by),
      ap (λ w. (records_at (length rest) w rest).records) whole ∙ sym (ap (λ (r : Reads). r.records) by),
    )

pub ends_behind_head : (known left : Option (List ℕ)) (rules : RuleSet) (place : ℕ) (ending : Ending)
    → IfSome known (λ octets. IsHead octets left rules) → place ≡ length (head_text rules)
    → IfSome left (λ rest. EndsRecords place rest ending) → IfSome known (λ octets. EndsText octets ending)
ends_behind_head None left rules place ending head at_is ends = tt
ends_behind_head (Some octets) left rules place ending head at_is ends =
    let here : EndsRecords place head.0 ending = subst (λ (l : Option (List ℕ)). IfSome l (λ rest. EndsRecords place rest ending)) head.2 ends in
    subst (λ (f : Option FormFault). EndsBy f ending) (behind_head octets rules head.0 place head.1.read head.1.spelled at_is).0 here

pub taken_behind_head : {S : Type 0} (agrees : S → List Viewed → Type 0) (first now : S) (known left : Option (List ℕ)) (rules : RuleSet) (place : ℕ) (ending : Ending)
    → IfSome known (λ octets. IsHead octets left rules) → place ≡ length (head_text rules)
    → IfSome left (λ rest. TakesAll agrees (records_behind place rest).records ending first now) → IfSome known (λ octets. TakesAll agrees (reading octets).records ending first now)
taken_behind_head agrees first now None left rules place ending head at_is takes = tt
taken_behind_head agrees first now (Some octets) left rules place ending head at_is takes =
    let here : TakesAll agrees (records_behind place head.0).records ending first now =
    subst (λ (l : Option (List ℕ)). IfSome l (λ rest. TakesAll agrees (records_behind place rest).records ending first now)) head.2 takes in
    subst (λ (rs : List Record). TakesAll agrees rs ending first now) (behind_head octets rules head.0 place head.1.read head.1.spelled at_is).1 here

-- a fault in the head, behind which nothing is read
abbrev pub HeadFault : List ℕ → ℕ → Type 0
HeadFault octets place = ((k : FormKind) × ((reading octets).fault ≡ Some (record { offset = place; kind = k }))) × ((reading octets).records ≡ [])

pub head_fault : (octets : List ℕ) (kind : FormKind) (place : ℕ) → head_at octets ≡ Err (record { offset = place; kind = kind }) → HeadFault octets place
head_fault octets kind place is =
    let by = reads_by octets (Err (record { offset = place; kind = kind })) is in
    ((kind, ap (λ (r : Reads). r.fault) by), ap (λ (r : Reads). r.records) by)

module _ {S : Type 0} (agrees : S → List Viewed → Type 0) (same : S) where
  -- how the text ends, and that a view which took nothing took all
  abbrev pub EndsAtHead : List ℕ → Ending → Type 0
  EndsAtHead octets ending = EndsText octets ending × TakesAll agrees (reading octets).records ending same same

  nothing_taken : (records : List Record) → records ≡ [] → agrees same [] → agrees same (views_of records)
  nothing_taken records none begins = subst (λ rs. agrees same (views_of rs)) (sym none) begins

  malformed : (octets : List ℕ) (place : ℕ) → HeadFault octets place → EndsAtHead octets (Malformed place)
  malformed octets place fault = (fault.0, λ begins. nothing_taken (reading octets).records fault.1 begins)

  ends_at_head : (octets : List ℕ) (kind : FormKind) (place : ℕ) → StopsHead kind place octets → EndsAtHead octets (ending_at kind place)
  ends_at_head octets kinds.Magic place stops = malformed octets place (head_fault octets kinds.Magic place stops)
  ends_at_head octets kinds.Rules place stops = malformed octets place (head_fault octets kinds.Rules place stops)
  ends_at_head octets kinds.Kind place stops = malformed octets place (head_fault octets kinds.Kind place stops)
  ends_at_head octets kinds.Note place stops = malformed octets place (head_fault octets kinds.Note place stops)
  ends_at_head octets kinds.Length place stops = malformed octets place (head_fault octets kinds.Length place stops)
  ends_at_head octets kinds.Truncated place stops = malformed octets place (head_fault octets kinds.Truncated place stops)
  ends_at_head octets kinds.Memory place stops = (tt, tt)
  ends_at_head octets kinds.Read place stops = (tt, tt)

  pub ends_in_head : (known : Option (List ℕ)) (fault : FormFault) → IfSome known (StopsHead fault.kind fault.offset)
      → IfSome known (λ octets. EndsText octets (ending_at fault.kind fault.offset))
  ends_in_head None fault stops = tt
  ends_in_head (Some octets) fault stops = (ends_at_head octets fault.kind fault.offset stops).0

  pub taken_in_head : (known : Option (List ℕ)) (fault : FormFault) → IfSome known (StopsHead fault.kind fault.offset)
      → IfSome known (λ octets. TakesAll agrees (reading octets).records (ending_at fault.kind fault.offset) same same)
  taken_in_head None fault stops = tt
  taken_in_head (Some octets) fault stops = (ends_at_head octets fault.kind fault.offset stops).1
