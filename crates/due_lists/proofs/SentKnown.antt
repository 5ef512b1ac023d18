-- What the table of deliveries to clients says of a number: what the law says, or nothing, where the delivery is finished and so
-- no event decides it any more.
use Rattle.std.proofs.Common.{◌≡◌, refl, sym, ap, subst, ◌∙◌, ◌⊎◌, inl, inr, ℕ, Bool, true, false, ◌&&◌, ◌||◌, not, List, Option, Some, None, IfSome, is_some, is_none, option_map, if◌then◌else◌}
use Rattle.capture_form.specs.Rules.{RuleSet}
use Rattle.trace_events.specs.Words.{is_some_and}
use Rattle.trace_events.specs.Event.{Event, Outgoing}
use Rattle.trace_events.specs.Disposition.{is_decisive, terminal_state}
use Rattle.trace_events.specs.Link.{is_live}
use Rattle.trace_events.specs.Outgoing.{answering, decision, is_settled_by_consumer, is_settled_by_router, outgoing_at}
use Rattle.trace_events.proofs.Judged.{AreJudged}
use Rattle.state_tables.specs.LetGo.{names_let_go}
use Rattle.state_outgoing.specs.LetGo.{is_finished, where_kept}
use Rattle.state_outgoing.specs.Sent.{Sent, sent, sent_at, is_left_unsettled}
use Rattle.state_outgoing.specs.SentTables.{IsTable, sent_in}
use Rattle.state_outgoing.specs.declared.deliveries.SentDeliveries.{SentDeliveries}
use Rattle.state_outgoing.proofs.SentDecided.{judged-decided}
use Rattle.state_outgoing.proofs.SentKept.{found-contained, found-kept, none-kept, unsettled-unfinished}
use Rattle.due_lists.specs.Picks.{decides, decided_link}

-- what is kept of a number
abbrev pub IsKnown : List Event → (ℕ → Option Sent) → ℕ → Type 0
IsKnown past kept n = (kept n ≡ sent_at n past) ⊎ ((kept n ≡ None) × IfSome (outgoing_at n past) (λ j. is_finished past j ≡ true))

pub known-in : (table : SentDeliveries) (past : List Event) → IsTable table past → (n : ℕ) → IsKnown past (sent_in table) n
known-in table past is n = by (outgoing_at n past) refl
  where
    gone : List (ℕ × Unit {0})
    gone = table.let_go.items

    entry : (o : Option Outgoing) → outgoing_at n past ≡ o → sent_in table n ≡ where_kept gone (option_map (sent past) o)
    entry o at = is.entries n ∙ ap (λ k. where_kept gone (option_map (sent past) k)) at

    named : (j : Outgoing) → outgoing_at n past ≡ Some j → (b : Bool) → names_let_go gone j.note ≡ b → IsKnown past (sent_in table) n
    named j at false other = inl (found-kept table past is.entries n j at other ∙ sym (ap (option_map (sent past)) at))
    named j at true over =
        inr (
          entry (Some j) at ∙ none-kept gone (sent past j) over,
          subst (λ o. IfSome o (λ (k : Outgoing). is_finished past k ≡ true)) (sym at) (is.finished j (found-contained past n j at) over),
        )

    by : (o : Option Outgoing) → outgoing_at n past ≡ o → IsKnown past (sent_in table) n
    by None at = inl (entry None at ∙ sym (ap (option_map (sent past)) at))
    by (Some j) at = named j at (names_let_go gone j.note) refl

-- s: it was sent settled; c and r: either side has settled it; what either side has settled is decided
undecided-bits : {A B : Type 0} (f : A → B) (s live c r answers : Bool) (o : Option A) → (s ≡ false → live ≡ true → c || r ≡ true → is_some o ≡ true)
    → is_none (option_map f o) && (live && (not s && answers)) ≡ true → (not s && (live && not c && not r) ≡ true) × (answers ≡ true)
undecided-bits f s live c r answers (Some x) known is = absurd cc
undecided-bits f s false c r answers None known is = absurd cc
undecided-bits f true true c r answers None known is = absurd cc
undecided-bits f false true true r answers None known is = let never : false ≡ true = known refl refl refl in absurd cc
undecided-bits f false true false true answers None known is = let never : false ≡ true = known refl refl refl in absurd cc
undecided-bits f false true false false answers None known is = (refl, is)

-- what the event decides is left unsettled before it, and its consumer speaks of it
pub decides-unsettled : (rules : RuleSet) (e : Event) (past : List Event) → AreJudged rules past → (n : ℕ) (j : Outgoing) → outgoing_at n past ≡ Some j → decides e past (sent past j) ≡ true
    → (is_left_unsettled past j ≡ true) × (is_some_and (answering j e) is_decisive ≡ true)
decides-unsettled rules e past are n j at is =
    undecided-bits terminal_state j.link.is_pre_settled (is_live past j.link) (is_settled_by_consumer j past) (is_settled_by_router j past) (is_some_and (answering j e) is_decisive)
    (decision j past) (judged-decided rules past are n j at) is

-- so it decides nothing that is finished
finished-decides : (rules : RuleSet) (e : Event) (past : List Event) → AreJudged rules past → (n : ℕ) (j : Outgoing) → outgoing_at n past ≡ Some j → is_finished past j ≡ true
    → decides e past (sent past j) ≡ false
finished-decides rules e past are n j at is = by (decides e past (sent past j)) refl
  where
    by : (b : Bool) → decides e past (sent past j) ≡ b → decides e past (sent past j) ≡ false
    by false none = none
    by true now =
        let never : true ≡ false = sym is ∙ unsettled-unfinished past j (decides-unsettled rules e past are n j at now).0 in
        absurd cc

-- and what is kept of the number says what the law says
pub decided-known : (rules : RuleSet) (e : Event) (past : List Event) → AreJudged rules past → (kept : ℕ → Option Sent) (n : ℕ) → IsKnown past kept n
    → decided_link e past (kept n) ≡ decided_link e past (sent_at n past)
decided-known rules e past are kept n known = elim known [
  | inl is ↦ ap (decided_link e past) is
  | inr over ↦ ap (decided_link e past) over.0 ∙ by (outgoing_at n past) refl over.1
]
  where
    by : (o : Option Outgoing) → outgoing_at n past ≡ o → IfSome o (λ j. is_finished past j ≡ true) → None ≡ decided_link e past (option_map (sent past) o)
    by None at over = refl
    by (Some j) at over = sym (ap (λ b. if b then Some j.link.number else None) (finished-decides rules e past are n j at over))
