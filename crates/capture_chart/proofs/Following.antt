-- Deliveries whose outcomes are still to be told, followed from record to record.
use Rattle.std.proofs.Common.{◌≡◌, ◌∙◌, ◌&&◌, ℕ, Bool, true, false, List, [], ◌∷◌, None, Option, Some, ap, not, refl, subst, sym}
use Rattle.std.specs.Prelude.{if◌then◌else◌, IfSome, option_and_then, option_map}
use Rattle.std.specs.HashMap.{get}
use Rattle.std.specs.HashSet.{contains}
use Rattle.capture_view.specs.Viewed.{Happening, Opened, In, Out, Lost, Broken, Viewed}
use Rattle.capture_view.specs.Named.{is_link}
use Rattle.capture_view.specs.declared.names.LinkKey.{LinkKey}
use Rattle.capture_chart.specs.declared.outcomes.DeliveryKey.{DeliveryKey}
use Rattle.capture_chart.specs.declared.outcomes.Sent.{Sent}
use Rattle.capture_chart.specs.declared.outcomes.Change.{Change}
use Rattle.capture_chart.specs.declared.outcomes.Going.{Going}
use Rattle.capture_chart.specs.declared.outcomes.Ended.{Ended}
use Rattle.capture_chart.specs.declared.outcomes.Outcomes.{Outcomes}
use Rattle.capture_chart.specs.Outcomes.{IsBegun, IsOutcomeOf, StandsFor, TakesOneMore, begun_by, begun_in, change_by, change_of, changed_or, ended_by, goes_by, goes_or, id_told, in_progress, is_delivery, is_ended, key_of, outcome_told, sent_by, sent_on, settled_by, told_by, told_on, undecided}
use Rattle.capture_chart.proofs.DeliveryKeys.{delivery_laws, same_delivery}

-- ---- what a record says of a delivery

nothing_is : {A : Type 0} (x : A) → None ≡ Some x → ⊥
nothing_is x h = cc

-- an outcome that is told is a change
told_changes : (past : List Viewed) (number connection : ℕ) (happened : Happening) (key : DeliveryKey) → told_by connection happened ≡ Some key
    → change_by past number connection happened ≡ Some (record { key = key; begun = None })
told_changes past number connection Opened key is = absurd (nothing_is key is)
told_changes past number connection (In said) key is = absurd (nothing_is key is)
told_changes past number connection (Out said) key is = ap settled_by is
told_changes past number connection Lost key is = absurd (nothing_is key is)
told_changes past number connection Broken key is = absurd (nothing_is key is)

begun_so : (number n : ℕ) (sent : Sent) (in_it : Bool) (change : Change) → begun_in number sent in_it ≡ Some change → change.begun ≡ Some n → (number ≡ n) × (key_of sent ≡ change.key)
begun_so number n sent true change is begins = absurd (nothing_is change is)
begun_so number n sent false change is begins = by sent.is_settled refl
  where
    same : (let c : Change = record { key = key_of sent; begun = if sent.is_settled then None else Some number } in c) ≡ change
    same = let f : Some (let c : Change = record { key = key_of sent; begun = if sent.is_settled then None else Some number } in c) ≡ Some change = is in cc

    by : (b : Bool) → sent.is_settled ≡ b → (number ≡ n) × (key_of sent ≡ change.key)
    by true settled = absurd (nothing_is n (sym (ap (λ (b : Bool). if b then None else Some number) settled) ∙ ap (λ (c : Change). c.begun) same ∙ begins))
    by false settled =
        let numbers : Some number ≡ Some n = sym (ap (λ (b : Bool). if b then None else Some number) settled) ∙ ap (λ (c : Change). c.begun) same ∙ begins in
        ((let e : number ≡ n = cc numbers in e), ap (λ (c : Change). c.key) same)

sent_so : (past : List Viewed) (number n : ℕ) (sent : Option Sent) (change : Change) → begun_by past number sent ≡ Some change → change.begun ≡ Some n
    → (number ≡ n) × (option_map key_of sent ≡ Some change.key)
sent_so past number n None change is begins = absurd (nothing_is change is)
sent_so past number n (Some sent) change is begins =
    let so = begun_so number n sent (in_progress past sent.link) change is begins in
    (so.0, ap Some so.1)

settles : (told : Option DeliveryKey) (change : Change) (n : ℕ) → settled_by told ≡ Some change → change.begun ≡ Some n → ⊥
settles None change n is begins = nothing_is change is
settles (Some key) change n is begins =
    let same : (let c : Change = record { key = key; begun = None } in c) ≡ change = let f : Some (let c : Change = record { key = key; begun = None } in c) ≡ Some change = is in cc in
    nothing_is n (ap (λ (c : Change). c.begun) same ∙ begins)

-- a delivery begins in a transfer of a client
begins_so : (past : List Viewed) (number connection n : ℕ) (happened : Happening) (change : Change) → change_by past number connection happened ≡ Some change → change.begun ≡ Some n
    → (number ≡ n) × (option_map key_of (sent_by connection happened) ≡ Some change.key)
begins_so past number connection n Opened change is begins = absurd (nothing_is change is)
begins_so past number connection n (In said) change is begins = sent_so past number n (sent_on connection said) change is begins
begins_so past number connection n (Out said) change is begins = absurd (settles (told_on connection said) change n is begins)
begins_so past number connection n Lost change is begins = absurd (nothing_is change is)
begins_so past number connection n Broken change is begins = absurd (nothing_is change is)

-- ---- the records so far

unless : (b : Bool) (before : Option ℕ) (number : ℕ) → (if b then None else before) ≡ Some number → before ≡ Some number
unless true before number is = absurd (nothing_is number is)
unless false before number is = is

behind : (view : Viewed) (past : List Viewed) (key : DeliveryKey) (number : ℕ) → (id_told view ≡ Some key → ⊥) → IsBegun past key number → IsBegun (view ∷ past) key number
behind view past key number other h = record {
  since = view ∷ h.since;
  first = h.first;
  before = h.before;
  parts = ap (λ (t : List Viewed). view ∷ t) h.parts;
  same = h.same;
  sent = h.sent;
  untold = (other, h.untold);
}

-- what is to be told under an id began in a transfer of a client, behind which nothing is told under it
pub begun_so_far : (past : List Viewed) (key : DeliveryKey) (number : ℕ) → undecided past key ≡ Some number → IsBegun past key number
begun_so_far [] key number is = absurd (nothing_is number is)
begun_so_far (view ∷ past) key number is = by (change_of past view) refl is (begun_so_far past key number)
  where
    before : Option ℕ
    before = if is_ended (ended_by view.connection view.happened) key.connection key.channel then None else undecided past key

    at : (change : Change) → change_of past view ≡ Some change → (b : Bool) → is_delivery change.key key ≡ b → (if b then change.begun else before) ≡ Some number
        → (undecided past key ≡ Some number → IsBegun past key number) → IsBegun (view ∷ past) key number
    at change is-change true here begins earlier =
        let so = begins_so past view.number view.connection number view.happened change is-change begins in
        record { since = []; first = view; before = past; parts = refl; same = so.0; sent = so.1 ∙ ap Some (same_delivery change.key key here); untold = tt }
    at change is-change false here begins earlier =
        behind view past key number
        (λ told. let both : Some change ≡ Some (let c : Change = record { key = key; begun = None } in c) = sym is-change ∙ told_changes past view.number view.connection view.happened key told in
        let keys : change.key ≡ key = ap (λ (c : Change). c.key) (let e : change ≡ (let c : Change = record { key = key; begun = None } in c) = cc both in e) in
        let same : is_delivery change.key key ≡ true = ap (λ (k : DeliveryKey). is_delivery k key) keys ∙ delivery_laws.refl key in
        let f : false ≡ true = sym here ∙ same in cc)
        (earlier (unless _ (undecided past key) number begins))

    by : (change : Option Change) → change_of past view ≡ change → changed_or change key before ≡ Some number
        → (undecided past key ≡ Some number → IsBegun past key number) → IsBegun (view ∷ past) key number
    by None is-change begins earlier =
        behind view past key number (λ told. nothing_is _ (sym is-change ∙ told_changes past view.number view.connection view.happened key told))
        (earlier (unless _ (undecided past key) number begins))
    by (Some change) is-change begins earlier = at change is-change (is_delivery change.key key) refl begins earlier

told_so : (past : List Viewed) (view : Viewed) (told : Option DeliveryKey) → id_told view ≡ told → IfSome (option_and_then (undecided past) told) (IsOutcomeOf past view)
told_so past view None is = tt
told_so past view (Some key) is = by (undecided past key) refl
  where
    by : (number : Option ℕ) → undecided past key ≡ number → IfSome number (IsOutcomeOf past view)
    by None h = tt
    by (Some number) h = record { key = key; told = is; begun = begun_so_far past key number h }

-- the outcome that a record tells is that of such a delivery
pub outcome_so : (past : List Viewed) (view : Viewed) (told : Option ℕ) → told ≡ outcome_told past view → IfSome told (IsOutcomeOf past view)
outcome_so past view told is = subst (λ (t : Option ℕ). IfSome t (IsOutcomeOf past view)) (sym is) (told_so past view (id_told view) refl)

-- ---- tables

pub takes_one : (old ended changed new : Outcomes) (view : Viewed) (over : Option Ended) (change : Option Change) (going : Option Going)
    → over ≡ ended_by view.connection view.happened → going ≡ goes_by view.connection view.happened → ((past : List Viewed) → StandsFor old past → change ≡ change_of past view)
    → ((key : DeliveryKey) → get is_delivery ended.begun key ≡ (if is_ended over key.connection key.channel then None else get is_delivery old.begun key))
    → ((link : LinkKey) → contains is_link ended.going link ≡ (contains is_link old.going link && not (is_ended over link.connection link.channel)))
    → ((key : DeliveryKey) → get is_delivery changed.begun key ≡ changed_or change key (get is_delivery ended.begun key)) → changed.going ≡ ended.going
    → new.begun ≡ changed.begun → ((link : LinkKey) → contains is_link new.going link ≡ goes_or going link (contains is_link changed.going link))
    → TakesOneMore old new view
takes_one old ended changed new view over change going over_is going_is change_is ended_begun ended_going changed_begun changed_going new_begun new_going = λ past stands. record {
  begun = λ key.
      ap (λ m. get is_delivery m key) new_begun
      ∙ changed_begun key
      ∙ ap (λ (c : Option Change). changed_or c key (get is_delivery ended.begun key)) (change_is past stands)
      ∙ ap (changed_or (change_of past view) key)
      (ended_begun key
      ∙ ap (λ (o : Option Ended). if is_ended o key.connection key.channel then None else get is_delivery old.begun key) over_is
      ∙ ap (λ (x : Option ℕ). if is_ended (ended_by view.connection view.happened) key.connection key.channel then None else x) (stands.begun key));
  going = λ link.
      new_going link
      ∙ ap (λ (g : Option Going). goes_or g link (contains is_link changed.going link)) going_is
      ∙ ap (goes_or (goes_by view.connection view.happened) link)
      (ap (λ s. contains is_link s link) changed_going
      ∙ ended_going link
      ∙ ap (λ (o : Option Ended). contains is_link old.going link && not (is_ended o link.connection link.channel)) over_is
      ∙ ap (λ (b : Bool). b && not (is_ended (ended_by view.connection view.happened) link.connection link.channel)) (stands.going link));
}
