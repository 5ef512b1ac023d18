-- How far the records of a text were read, and what its first fault is then.
use Rattle.std.proofs.Common.{◌≡◌, refl, sym, ap, subst, ◌∙◌, ℕ, zero, suc, ◌+◌, ◌-◌, ◌<◌, ◌≤◌, List, [], ◌∷◌, ◌++◌, length, Option, None, Some, Result, Ok, Err, arith, append_assoc, append-nil}
use Rattle.std.specs.Prelude.{IfSome, ⊤}
use Rattle.std.proofs.lemmas.List.{length-append}
use Rattle.capture_form.specs.declared.records.Record.{Record}
use Rattle.capture_form.specs.declared.reader.Reader.{Reader}
use Rattle.capture_form.specs.declared.fault.FormKind.{FormKind}
use Rattle.capture_form.specs.declared.fault.FormKind.TheVariants as kinds
use Rattle.capture_form.specs.declared.fault.FormFault.{FormFault}
use Rattle.capture_form.specs.Text.{record_text}
use Rattle.capture_form.specs.Reading.{Records, record_at, records_at, then_more}
use Rattle.capture_form.specs.Laws.{records_behind}
use Rattle.capture_form.specs.Reader.{IsNext, StopsNext, fault_of, left_of, offset_of, text_of_next}
use Rattle.capture_form.proofs.TextLemmas.{long_record}
use Rattle.capture_words.specs.declared.ending.Ending.{Ending}
use Rattle.capture_words.specs.declared.ending.Ending.TheVariants.{Whole, Malformed, NoMemory, Unreadable}
use Rattle.capture_words.specs.Ending.{ending_at}
use Rattle.capture_words.specs.Shown.{EndsRecords}
use Rattle.capture_view.specs.Viewed.{Viewed, view_of}
use Rattle.capture_words.specs.Taken.{TakesAll, TakesOneMore, views_of, views_on}

-- the records that were read, and those that are read from here on, are all there are, with their fault
pub record FollowsOn (offset : ℕ) (all : List ℕ) (place : ℕ) (rest : List ℕ) (read : List Record) : Type 0 where
  pub fuel : ℕ
  pub enough : length rest ≤ fuel
  pub fault : (records_behind offset all).fault ≡ (records_at fuel (place + length rest) rest).fault
  pub records : (records_behind offset all).records ≡ read ++ (records_at fuel (place + length rest) rest).records

-- the same of what is known of the octets
abbrev pub Follows : ℕ → Option (List ℕ) → ℕ → Option (List ℕ) → List Record → Type 0
Follows offset None place left read = ⊤
Follows offset (Some all) place None read = ⊥
Follows offset (Some all) place (Some rest) read = FollowsOn offset all place rest read

pub follows_start : (offset : ℕ) (left : Option (List ℕ)) → Follows offset left offset left []
follows_start offset None = tt
follows_start offset (Some all) = record { fuel = length all; enough = omega arith; fault = refl; records = refl }

some_fuel : (n : ℕ) → 0 < n → (m : ℕ) × (n ≡ suc m)
some_fuel zero h = absurd (omega arith)
some_fuel (suc n) h = (n, refl)

-- one record, or a fault in its place
one_more : (fuel whole : ℕ) (rest : List ℕ) → 0 < length rest
    → records_at (suc fuel) whole rest ≡ then_more (whole - length rest) (record_at rest) (λ behind. records_at fuel whole behind)
unfolding records_at
one_more fuel whole [] some = absurd (omega arith)
one_more fuel whole (octet ∷ octets) some = refl

-- what stands in the place of the next record
read_next : (fuel whole : ℕ) (rest : List ℕ) (read : Result (Record × List ℕ) FormKind) → length rest ≤ fuel → 0 < length rest → record_at rest ≡ read
    → (f : ℕ) × (fuel ≡ suc f) × (records_at fuel whole rest ≡ then_more (whole - length rest) read (λ behind. records_at f whole behind))
read_next fuel whole rest read enough some is =
    let f = some_fuel fuel (omega arith) in (
      f.0,
      f.1,
      ap (λ n. records_at n whole rest) f.1 ∙ one_more f.0 whole rest some
          ∙ ap (λ (r : Result (Record × List ℕ) FormKind). then_more (whole - length rest) r (λ behind. records_at f.0 whole behind)) is,
    )

next_on : (offset : ℕ) (all : List ℕ) (place : ℕ) (rest : List ℕ) (before : List Record) (later : ℕ) (behind : List ℕ) (entry : Record)
    → FollowsOn offset all place rest before → record_at rest ≡ Ok (entry, behind) → rest ≡ record_text entry ++ behind
    → later ≡ place + length (record_text entry) → FollowsOn offset all later behind (before ++ entry ∷ [])
next_on offset all place rest before later behind entry follows read spelled moved =
    let long = long_record entry in
    let lengths : length rest ≡ length (record_text entry) + length behind = ap length spelled ∙ length-append (record_text entry) behind in
    let enough = follows.enough in
    let whole : place + length rest ≡ later + length behind = omega arith in
    let next = read_next follows.fuel (place + length rest) rest (Ok (entry, behind)) enough (omega arith) read in
    let fuel_is = next.1 in
    record {
      fuel = next.0;
      enough = omega arith;
      fault = follows.fault ∙ ap (λ (r : Records). r.fault) next.2 ∙ ap (λ w. (records_at next.0 w behind).fault) whole;
      records = follows.records ∙ ap (λ (r : Records). before ++ r.records) next.2
          ∙ ap (λ w. before ++ (entry ∷ (records_at next.0 w behind).records)) whole
          ∙ sym (append_assoc before (entry ∷ []) (records_at next.0 (later + length behind) behind).records);
    }

pub follows_next : (offset : ℕ) (first : Option (List ℕ)) (place : ℕ) (left : Option (List ℕ)) (before : List Record) (later : ℕ) (behind : Option (List ℕ)) (entry : Record)
    → Follows offset first place left before → IfSome left (λ octets. IsNext octets behind (Some entry))
    → later ≡ place + length (record_text entry) → Follows offset first later behind (before ++ entry ∷ [])
follows_next offset None place left before later behind entry follows next moved = tt
follows_next offset (Some all) place None before later behind entry follows next moved = absurd follows
follows_next offset (Some all) place (Some rest) before later behind entry follows next moved =
    subst (λ l. Follows offset (Some all) later l (before ++ entry ∷ [])) (sym next.2)
    (next_on offset all place rest before later next.0 entry follows next.1.read next.1.spelled moved)

-- nothing is read of nothing
none_left : (fuel whole : ℕ) (rest : List ℕ) → rest ≡ [] → records_at fuel whole rest ≡ record { records = []; fault = None }
unfolding records_at
none_left zero whole rest e = refl
none_left (suc fuel) whole [] e = refl
none_left (suc fuel) whole (octet ∷ octets) e = absurd cc

-- the records that were read are all, unless the reading was given up
abbrev pub IsAllOf : List Record → List Record → Ending → Type 0
IsAllOf all read Whole = all ≡ read
IsAllOf all read (Malformed offset) = all ≡ read
IsAllOf all read NoMemory = ⊤
IsAllOf all read (Unreadable offset) = ⊤

-- how the text ends, and that the records that were read are all
abbrev pub EndsWith : ℕ → Option (List ℕ) → List Record → Ending → Type 0
EndsWith offset first read ending = IfSome first (λ all. EndsRecords offset all ending × IsAllOf (records_behind offset all).records read ending)

pub follows_end : (offset : ℕ) (first : Option (List ℕ)) (place : ℕ) (left : Option (List ℕ)) (read : List Record) (behind : Option (List ℕ))
    → Follows offset first place left read → IfSome left (λ octets. IsNext octets behind None)
    → EndsWith offset first read Whole
follows_end offset None place left read behind follows next = tt
follows_end offset (Some all) place None read behind follows next = absurd follows
follows_end offset (Some all) place (Some rest) read behind follows next =
    let none = none_left follows.fuel (place + length rest) rest next.0 in
    (follows.fault ∙ ap (λ (r : Records). r.fault) none, follows.records ∙ ap (λ (r : Records). read ++ r.records) none ∙ append-nil read)

-- the first fault of all is the one that stands here, and all records were read
fault_on : (offset : ℕ) (all : List ℕ) (place : ℕ) (rest : List ℕ) (read : List Record) (kind : FormKind) → FollowsOn offset all place rest read
    → 0 < length rest → record_at rest ≡ Err kind
    → ((k : FormKind) × ((records_behind offset all).fault ≡ Some (record { offset = place; kind = k }))) × ((records_behind offset all).records ≡ read)
fault_on offset all place rest read kind follows some is =
    let next = read_next follows.fuel (place + length rest) rest (Err kind) follows.enough some is in
    let here : place + length rest - length rest ≡ place = omega arith in (
      (kind, follows.fault ∙ ap (λ (r : Records). r.fault) next.2 ∙ ap (λ p. let f : FormFault = record { offset = p; kind = kind } in Some f) here),
      follows.records ∙ ap (λ (r : Records). read ++ r.records) next.2 ∙ append-nil read,
    )

ends_on : (offset : ℕ) (all : List ℕ) (place : ℕ) (rest : List ℕ) (read : List Record) (kind : FormKind) → FollowsOn offset all place rest read
    → StopsNext kind rest → EndsWith offset (Some all) read (ending_at kind place)
ends_on offset all place rest read kinds.Magic follows stops = fault_on offset all place rest read kinds.Magic follows stops.0 stops.1
ends_on offset all place rest read kinds.Rules follows stops = fault_on offset all place rest read kinds.Rules follows stops.0 stops.1
ends_on offset all place rest read kinds.Kind follows stops = fault_on offset all place rest read kinds.Kind follows stops.0 stops.1
ends_on offset all place rest read kinds.Note follows stops = fault_on offset all place rest read kinds.Note follows stops.0 stops.1
ends_on offset all place rest read kinds.Length follows stops = fault_on offset all place rest read kinds.Length follows stops.0 stops.1
ends_on offset all place rest read kinds.Truncated follows stops = fault_on offset all place rest read kinds.Truncated follows stops.0 stops.1
ends_on offset all place rest read kinds.Memory follows stops = (tt, tt)
ends_on offset all place rest read kinds.Read follows stops = (tt, tt)

pub follows_fault : (offset : ℕ) (first : Option (List ℕ)) (place : ℕ) (left : Option (List ℕ)) (read : List Record) (fault : FormFault)
    → Follows offset first place left read → fault.offset ≡ place → IfSome left (StopsNext fault.kind)
    → EndsWith offset first read (ending_at fault.kind fault.offset)
follows_fault offset None place left read fault follows at_is stops = tt
follows_fault offset (Some all) place None read fault follows at_is stops = absurd follows
follows_fault offset (Some all) place (Some rest) read fault follows at_is stops =
    subst (λ p. EndsWith offset (Some all) read (ending_at fault.kind p)) (sym at_is) (ends_on offset all place rest read fault.kind follows stops)

pub given_up : (offset : ℕ) (first : Option (List ℕ)) (read : List Record) → EndsWith offset first read NoMemory
given_up offset None read = tt
given_up offset (Some all) read = (tt, tt)

pub unread : (offset : ℕ) (first : Option (List ℕ)) (read : List Record) (place : ℕ) → EndsWith offset first read (Unreadable place)
unread offset None read place = tt
unread offset (Some all) read place = (tt, tt)

-- the two things that an ending says
pub ends_of : (offset : ℕ) (first : Option (List ℕ)) (read : List Record) (ending : Ending) → EndsWith offset first read ending
    → IfSome first (λ all. EndsRecords offset all ending)
ends_of offset None read ending ends = tt
ends_of offset (Some all) read ending ends = ends.0

pub views_push : (past : List Viewed) (number : ℕ) (read : List Record) (entry : Record) (place : ℕ) → place ≡ number + length read
    → views_on past number (read ++ entry ∷ []) ≡ view_of place entry ∷ views_on past number read
views_push past number [] entry place is = ap (λ n. view_of n entry ∷ past) (let e : number ≡ place = omega arith in e)
views_push past number (first ∷ read) entry place is =
    views_push (view_of number first ∷ past) (suc number) read entry place (let e : place ≡ suc number + length read = omega arith in e)

module _ {S : Type 0} (agrees : S → List Viewed → Type 0) where
  -- the view took these records
  abbrev pub TookThese : S → S → List Record → Type 0
  TookThese first now read = agrees first [] → agrees now (views_of read)

  pub took_more : (first now later : S) (read : List Record) (entry : Record) (number : ℕ) → number ≡ length read
      → TookThese first now read → TakesOneMore agrees now later (view_of number entry) → TookThese first later (read ++ entry ∷ [])
  took_more first now later read entry number many took takes begins =
      subst (agrees later) (sym (views_push [] 0 read entry number (let e : number ≡ 0 + length read = omega arith in e))) (takes (views_of read) (took begins))

  all_by : (records read : List Record) (ending : Ending) (first now : S) → IsAllOf records read ending → TookThese first now read → TakesAll agrees records ending first now
  all_by records read Whole first now is took = λ begins. subst (λ rs. agrees now (views_of rs)) (sym is) (took begins)
  all_by records read (Malformed offset) first now is took = λ begins. subst (λ rs. agrees now (views_of rs)) (sym is) (took begins)
  all_by records read NoMemory first now is took = tt
  all_by records read (Unreadable offset) first now is took = tt

  pub took_all : (offset : ℕ) (known : Option (List ℕ)) (read : List Record) (ending : Ending) (first now : S) → EndsWith offset known read ending → TookThese first now read
      → IfSome known (λ all. TakesAll agrees (records_behind offset all).records ending first now)
  took_all offset None read ending first now ends took = tt
  took_all offset (Some all) read ending first now ends took = all_by (records_behind offset all).records read ending first now ends.1 took

  -- a view that took nothing, where the reading was given up
  pub gave_up : (offset : ℕ) (known : Option (List ℕ)) (first now : S) → IfSome known (λ all. TakesAll agrees (records_behind offset all).records NoMemory first now)
  gave_up offset None first now = tt
  gave_up offset (Some all) first now = tt

  -- what holds of a reader and a view that came so far
  pub record StreamsOn {R : Type 0} (remaining : R → Option (List ℕ)) (first now : Reader R) (begun view : S) (number : ℕ) : Type 0 where
    pub runs : fault_of now ≡ None
    pub read : List Record
    pub many : number ≡ length read
    pub follows : Follows (offset_of first) (left_of remaining first) (offset_of now) (left_of remaining now) read
    pub took : TookThese begun view read

pub found_so : (left later : Option (List ℕ)) (found other : Option Record) → found ≡ other
    → IfSome left (λ octets. IsNext octets later found) → IfSome left (λ octets. IsNext octets later other)
found_so left later found other is next = subst (λ f. IfSome left (λ octets. IsNext octets later f)) is next

pub moved_so : (before after : ℕ) (found : Option Record) (entry : Record) → found ≡ Some entry
    → after ≡ before + length (text_of_next found) → after ≡ before + length (record_text entry)
moved_so before after found entry is moved = moved ∙ ap (λ f. before + length (text_of_next f)) is
