-- The records of an answer, one after the other: none breaks a clause, and behind the last one the step is under way.
use Rattle.std.proofs.Common.{◌≡◌, sym, ap, subst, append_assoc, ℕ, ◌<◌, true, List, [], ◌∷◌, ◌++◌, Option, Some, IfSome}
use Rattle.std.specs.List.{AllByRecursion}
use Rattle.capture_form.specs.declared.records.Record.{Record}
use Rattle.capture_form.specs.declared.records.What.{What}
use Rattle.capture_form.specs.declared.records.What.TheVariants as whats
use Rattle.capture_form.specs.Rules.{RuleSet}
use Rattle.capture_form.specs.Text.{IsRecord, Trace}
use Rattle.trace_events.specs.Frame.{Spoken}
use Rattle.trace_events.specs.Event.{Event}
use Rattle.trace_events.specs.History.{history}
use Rattle.trace_events.specs.Written.{spoken_octets}
use Rattle.route_work.specs.Dues.{IsNextFrame}
use Rattle.route_work.specs.declared.router_state.RouterState.{RouterState}
use Rattle.route_work.specs.RouterState.{IsRouterState, AreInOrder, IsUnbroken}
use Rattle.route_dues.specs.Writing.{IsInOrder}
use Rattle.route_dues.specs.Steps.{IsAnswering, IsUnderWay}
use Rattle.route_dues.proofs.Steps as steps
use Rattle.route_dues.specs.Work.{work_left}
use Rattle.route_items.specs.Inputs.{is_output}
use Rattle.route_core.specs.Replies.{AreReplies}
use Rattle.route_core.specs.Outputs.{AddsOutputs}
use Rattle.route_core.specs.Drafts.{IsRouterStateOf, IsAnswered, IsDraft}
use Rattle.route_core.proofs.Drafts.{due-less, due-unbroken, due-under_way, reply-unbroken, reply-answering}
use Rattle.route_core.proofs.Outputs.{one-added}

-- ---- lists

pub all-more : {A : Type 0} (P : A → Type 0) (xs : List A) (x : A) → AllByRecursion P xs → P x → AllByRecursion P (xs ++ x ∷ [])
all-more P [] x all one = (one, tt)
all-more P (y ∷ xs) x all one = (all.0, all-more P xs x all.1 one)

-- a frame that is written is an output
output_is : (w : What) (octets : List ℕ) → w ≡ whats.Out octets → is_output w ≡ true
output_is w octets is = ap is_output is

module _ {D : Type 0} (HasAll : D → RuleSet → List Event → Type 0) (capture : Trace) where
  abbrev so_far : List Record → List Record
  so_far group = capture.records ++ group

  longer : (group : List Record) (r : Record) → (so_far group) ++ r ∷ [] ≡ so_far (group ++ r ∷ [])
  longer group r = append_assoc capture.records group (r ∷ [])

  -- ---- an answer

  pub nothing-left : (state : RouterState D) (group : List Record) → IsAnswered HasAll capture state group [] → IsDraft HasAll capture state group
  nothing-left state group answered = by answered.frames answered.replies answered.answering
    where
      by : (frames : List Spoken) → AreReplies answered.connection frames [] → IsAnswering capture.rules answered.connection (history capture.rules (so_far group)) frames
          → IsDraft HasAll capture state group
      by [] replies answering = record {
        stand = answered.stand;
        under_way = steps.answered capture.rules (history capture.rules (so_far group)) answered.connection answering;
        bounds = answered.bounds;
      }
      by (s ∷ frames) replies answering = absurd replies

  pub reply-fits : (state : RouterState D) (group left : List Record) (r : Record) → IsAnswered HasAll capture state group (r ∷ left) → IsUnbroken capture.rules (so_far group) r
  reply-fits state group left r answered = by answered.frames answered.replies answered.answering
    where
      by : (frames : List Spoken) → AreReplies answered.connection frames (r ∷ left) → IsAnswering capture.rules answered.connection (history capture.rules (so_far group)) frames
          → IsUnbroken capture.rules (so_far group) r
      by [] replies answering = absurd replies
      by (s ∷ frames) replies answering = reply-unbroken capture.rules (so_far group) answered.connection s frames r answering replies.0

  pub reply-output : (state : RouterState D) (group left : List Record) (r : Record) → IsAnswered HasAll capture state group (r ∷ left) → is_output r.what ≡ true
  reply-output state group left r answered = by answered.frames answered.replies
    where
      by : (frames : List Spoken) → AreReplies answered.connection frames (r ∷ left) → is_output r.what ≡ true
      by [] replies = absurd replies
      by (s ∷ frames) replies = output_is r.what (spoken_octets s) replies.0.what

  pub reply-entered : (state later : RouterState D) (group left : List Record) (r : Record) → IsAnswered HasAll capture state group (r ∷ left) → IsRouterStateOf HasAll capture later (group ++ r ∷ [])
      → IsAnswered HasAll capture later (group ++ r ∷ []) left
  reply-entered state later group left r answered stand = by answered.frames answered.replies answered.answering
    where
      by : (frames : List Spoken) → AreReplies answered.connection frames (r ∷ left) → IsAnswering capture.rules answered.connection (history capture.rules (so_far group)) frames
          → IsAnswered HasAll capture later (group ++ r ∷ []) left
      by [] replies answering = absurd replies
      by (s ∷ frames) replies answering = record {
        connection = answered.connection;
        frames = frames;
        stand = stand;
        answering =
            subst (λ (rs : List Record). IsAnswering capture.rules answered.connection (history capture.rules rs) frames) (longer group r)
            (reply-answering capture.rules (so_far group) answered.connection s frames r answering replies.0);
        replies = replies.1;
        bounds = all-more IsRecord group r answered.bounds replies.0.bounds;
      }

  -- a reply that was entered
  pub reply-follows : (state later : RouterState D) (group after left : List Record) (r : Record) → after ≡ group ++ r ∷ []
      → (IsRouterStateOf HasAll capture state group → IsUnbroken capture.rules (so_far group) r → IsRouterStateOf HasAll capture later (group ++ r ∷ []))
      → IsAnswered HasAll capture state group (r ∷ left) → IsAnswered HasAll capture later after left
  reply-follows state later group after left r is entered answered =
      subst (λ (rs : List Record). IsAnswered HasAll capture later rs left) (sym is)
      (reply-entered state later group left r answered (entered answered.stand (reply-fits state group left r answered)))

  pub reply-adds : (state : RouterState D) (group after left : List Record) (r : Record) → after ≡ group ++ r ∷ [] → IsAnswered HasAll capture state group (r ∷ left) → AddsOutputs group after
  reply-adds state group after left r is answered = one-added group after r is (reply-output state group left r answered)

  -- ---- a frame that is due

  pub known : (given : RuleSet) → given ≡ capture.rules → (state : RouterState D) (group : List Record) → IsDraft HasAll capture state group → AreInOrder HasAll given state
  known given same state group draft =
      subst (λ (xs : RuleSet). AreInOrder HasAll xs state) (sym same)
      (record { records = so_far group; stand = draft.stand; order = draft.under_way.order })

  pub due-fits : (state : RouterState D) (group : List Record) (r : Record) → IsDraft HasAll capture state group → IsNextFrame capture.rules (history capture.rules (so_far group)) r
      → IsUnbroken capture.rules (so_far group) r
  due-fits state group r draft next = due-unbroken capture.rules (so_far group) r draft.under_way next

  pub due-entered : (state later : RouterState D) (group : List Record) (r : Record) → IsDraft HasAll capture state group → IsNextFrame capture.rules (history capture.rules (so_far group)) r → IsRecord r
      → IsRouterStateOf HasAll capture later (group ++ r ∷ []) → IsDraft HasAll capture later (group ++ r ∷ [])
  due-entered state later group r draft next bounds stand = record {
    stand = stand;
    under_way =
        subst (λ (rs : List Record). IsUnderWay capture.rules (history capture.rules rs)) (longer group r)
        (due-under_way capture.rules (so_far group) r draft.under_way next);
    bounds = all-more IsRecord group r draft.bounds bounds;
  }

pub due-leaves-less : {D : Type 0} (HasAll : D → RuleSet → List Event → Type 0) (capture : Trace) (state : RouterState D) (group : List Record) (r : Record) → IsDraft HasAll capture state group
    → IsNextFrame capture.rules (history capture.rules (capture.records ++ group)) r
    → work_left (history capture.rules (capture.records ++ (group ++ r ∷ []))) < work_left (history capture.rules (capture.records ++ group))
due-leaves-less HasAll capture state group r draft next =
    subst (λ (rs : List Record). work_left (history capture.rules rs) < work_left (history capture.rules (capture.records ++ group))) (append_assoc capture.records group (r ∷ []))
    (due-less capture.rules (capture.records ++ group) r draft.under_way next)

pub due-output : (rules : RuleSet) (past : List Event) (r : Record) → IsNextFrame rules past r → is_output r.what ≡ true
due-output rules past r next = output_is r.what (spoken_octets next.spoken) next.what

-- a frame that is due, by rules that were lent, once it was entered
module _ {D : Type 0} (HasAll : D → RuleSet → List Event → Type 0) (capture : Trace) (given : RuleSet) (same : given ≡ capture.rules) (state between later : RouterState D) (group after : List Record) (next : Option Record) (r : Record) (is : next ≡ Some r)
    (asked : (rs : List Record) → IsRouterState HasAll given state rs → IsInOrder given (history given rs) → IfSome next (IsNextFrame given (history given rs)))
    (bounds : IfSome next IsRecord)
    (draft : IsDraft HasAll capture state group) where
  abbrev past : List Event
  past = history capture.rules (capture.records ++ group)

  is_next : IsNextFrame capture.rules past r
  is_next =
      subst (λ (o : Option Record). IfSome o (IsNextFrame capture.rules past)) is
      (subst (λ (xs : RuleSet). (rs : List Record) → IsRouterState HasAll xs state rs → IsInOrder xs (history xs rs) → IfSome next (IsNextFrame xs (history xs rs))) same asked
      (capture.records ++ group) draft.stand draft.under_way.order)

  pub due-adds : after ≡ group ++ r ∷ [] → AddsOutputs group after
  due-adds grown = one-added group after r grown (due-output capture.rules past r is_next)

  pub due-lessens : after ≡ group ++ r ∷ [] → work_left (history capture.rules (capture.records ++ after)) < work_left past
  due-lessens grown =
      subst (λ (rs : List Record). work_left (history capture.rules (capture.records ++ rs)) < work_left past) (sym grown)
      (due-leaves-less HasAll capture state group r draft is_next)

  pub due-follows : ((rs : List Record) → IsRouterState HasAll given state rs → IsRouterState HasAll given between rs)
      → (IsRouterStateOf HasAll capture between group → IsUnbroken capture.rules (capture.records ++ group) r → IsRouterStateOf HasAll capture later (group ++ r ∷ []))
      → after ≡ group ++ r ∷ [] → IsDraft HasAll capture later after
  due-follows kept entered grown =
      let stood = subst (λ (xs : RuleSet). (rs : List Record) → IsRouterState HasAll xs state rs → IsRouterState HasAll xs between rs) same kept (capture.records ++ group) draft.stand in
      subst (λ (rs : List Record). IsDraft HasAll capture later rs) (sym grown)
      (due-entered HasAll capture state later group r draft is_next (subst (λ (o : Option Record). IfSome o IsRecord) is bounds) (entered stood (due-fits HasAll capture state group r draft is_next)))
