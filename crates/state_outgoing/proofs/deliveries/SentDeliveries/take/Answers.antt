use Rattle.std.proofs.Common.{◌≡◌, sym, ap, ◌∙◌, ℕ, ◌||◌, List, map, Some, nat_eq, false, [], ◌∷◌, if◌then◌else◌}
use Rattle.std.specs.List.{list_any}
use Rattle.indexmap.specs.IndexMap.{get}
use Rattle.number_groups.specs.Numbers.{is_among}
use Rattle.trace_events.specs.History.{history}
use Rattle.trace_events.specs.Incoming.{incoming_at}
use Rattle.trace_events.proofs.Judged.{AreJudged, history-judged}
use Rattle.trace_events.specs.View.{event_view, link_view}
use Rattle.state_tables.specs.LetGo.{is_let_go, names_let_go}
use Rattle.state_outgoing.specs.Carriers.{carriers_in}
use Rattle.state_outgoing.specs.Given.{gives, says}
use Rattle.state_outgoing.specs.LastBegun.{carrier_numbers, last_number}
use Rattle.state_outgoing.specs.LetGo.{kept_at}
use Rattle.state_outgoing.specs.Sent.{Sent, sent_begun}
use Rattle.state_outgoing.specs.SentTouched.{touches}
use Rattle.state_outgoing.specs.SentTables.{sent_in}
use Rattle.state_outgoing.specs.declared.begun.LastNumbers.{LastNumbers}
use Rattle.state_outgoing.proofs.CarriersKnown.{carriers-kept}
use Rattle.state_outgoing.proofs.LastBegun.{last-moved}
use Rattle.state_outgoing.proofs.SentFound.{ended-among, found}
use Rattle.state_outgoing.proofs.SentKept.{entry-law, over-next}
use Rattle.state_outgoing.proofs.SentTaken.{mid-none, on, taken}
use Rattle.state_outgoing.proofs.VerdictsGiven.{given-stands, incoming-number, link-number, told-both}
use Rattle.state_outgoing.proofs.deliveries.SentDeliveries.take.Goals as goal

pub returns-clause-kept : goal.returns-clause-kept
returns-clause-kept c = λ rules records r next table ends apart.
    let e = event_view c.args.event.now in
    let past = history rules records in
    let were : AreJudged rules past = history-judged rules records in
    let are : AreJudged rules (e ∷ past) = ((r, next), were) in
    let ended = map link_view c.args.ended.now in
    let old = sent_in c.args.self.now in
    let mid = sent_in c.touch_all.new.self in
    let all = is_among c.in_ok-touched.touched in
    let groups = c.args.self.now.groups in
    let gone = c.args.self.now.let_go.items in
    let same = c.in_ok-begin.ensures.same ∙ c.in_ok-given.ensures.same in
    let still : (n : ℕ) → (get nat_eq c.begin.new.self.begun.on_link n ≡ get nat_eq c.args.self.now.begun.on_link n) × (carriers_in c.begin.new.self.begun n ≡ carriers_in c.args.self.now.begun n) =
    λ n. (ap (λ (b : LastNumbers). get nat_eq b.on_link n) same, ap (λ (b : LastNumbers). carriers_in b n) same) in
    let let_go : c.begin.new.self.let_go.items ≡ gone = c.in_ok-begin.ensures.gone ∙ c.in_ok-given.ensures.gone in
    let off : (n : ℕ) (x : Sent) → old n ≡ Some x → all n ≡ false → touches e x ≡ false = λ n x at none.
    found groups old table.groups n x at e ended c.in_ok-touched.ensures.counted
    (ended-among rules past were groups old table.groups (entry-law c.args.self.now past table.entries) e ended (λ l live over. (ends l).1 (live, over)) n x at)
    (sym (c.in_ok-touched.ensures.touched n) ∙ none) in
    record {
      entries = λ n. taken rules e past are gone apart old mid (sent_in c.begin.new.self) all table.entries off c.in_ok-given.ensures.touched c.in_ok-begin.ensures.begun n
          ∙ ap (λ (g : List (ℕ × Unit {0})). kept_at g n (e ∷ past)) (sym let_go);
      groups = c.in_ok-begin.ensures.grouped (c.in_ok-given.ensures.grouped table.groups)
          (mid-none rules e past are gone apart old mid (sent_in c.begin.new.self) all table.entries off c.in_ok-given.ensures.touched c.in_ok-begin.ensures.begun);
      begun = record {
        on_link = λ n. last-moved gone e past apart n _ _ ((still n).0 ∙ table.begun.on_link n) (c.in_ok-take.ensures.on_link n)
            ∙ ap (λ (g : List (ℕ × Unit {0})). last_number g n (e ∷ past)) (sym let_go);
        carriers = λ n. carriers-kept gone n e apart past _ _ ((still n).1 ∙ table.begun.carriers n) (c.in_ok-take.ensures.carriers n)
            ∙ ap (λ (g : List (ℕ × Unit {0})). if is_let_go g n then [] else carrier_numbers n (e ∷ past)) (sym let_go);
      };
      finished = λ j has named. over-next gone rules e past are apart table.finished j has (sym (ap (λ (g : List (ℕ × Unit {0})). names_let_go g j.note) let_go) ∙ named);
    }

pub returns-clause-given : goal.returns-clause-given
returns-clause-given c = λ rules records r next table ends link n l d at is awaits outcome.
    let e = event_view c.args.event.now in
    let past = history rules records in
    let were : AreJudged rules past = history-judged rules records in
    let are : AreJudged rules (e ∷ past) = ((r, next.0), were) in
    let ended = map link_view c.args.ended.now in
    let old = sent_in c.args.self.now in
    let touched = c.in_ok-touched.touched in
    let groups = c.args.self.now.groups in
    let off : (m : ℕ) (x : Sent) → old m ≡ Some x → is_among touched m ≡ false → touches e x ≡ false = λ m x has none.
    found groups old table.groups m x has e ended c.in_ok-touched.ensures.counted
    (ended-among rules past were groups old table.groups (entry-law c.args.self.now past table.entries) e ended (λ k live over. (ends k).1 (live, over)) m x has)
    (sym (c.in_ok-touched.ensures.touched m) ∙ none) in
    let here : l.number ≡ link = link-number past link l at in
    let named : d.number ≡ n = incoming-number (e ∷ past) n d is in
    let own : incoming_at d.number (e ∷ past) ≡ Some d = ap (λ m. incoming_at m (e ∷ past)) named ∙ is in
    told-both _ _ _ _ _ (c.in_ok-push_some.ensures (says link n outcome)) (c.in_ok-given.ensures.given link n outcome) (c.in_ok-begin.ensures.given link n outcome)
    ∙ (sym (ap (λ (m : ℕ). list_any (λ k. gives m n outcome (on e (old k))) touched || gives m n outcome (sent_begun e)) here)
    ∙ (sym (ap (λ (m : ℕ). list_any (λ k. gives l.number m outcome (on e (old k))) touched || gives l.number m outcome (sent_begun e)) named)
    ∙ given-stands rules e past are next.1 d own l awaits outcome c.args.self.now.let_go.items table.finished old table.entries touched off))
