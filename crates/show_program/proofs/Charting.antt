-- Records that are asked for, one by one, and the chart that has their arrows.
use Rattle.std.proofs.Common.{◌≡◌, ◌∙◌, ap, sym, subst, refl, ℕ, Bool, false, Bor, List, [], ◌∷◌, ◌++◌, Option, None, Some}
use Rattle.std.specs.Prelude.{◌↔◌, IfSome, IsTrue, if◌then◌else◌, option_map}
use Rattle.capture_form.specs.declared.records.Record.{Record}
use Rattle.capture_form.specs.Reading.{reading}
use Rattle.capture_view.specs.declared.choice.Choice.{Choice}
use Rattle.capture_view.specs.declared.choice.Traits.{Traits}
use Rattle.capture_view.specs.declared.told.LinkTold.{LinkTold}
use Rattle.capture_view.specs.Choice.{IsAskedFor, IsInRange, IsNamed, IsOnConnection}
use Rattle.capture_view.specs.Told.{LinkText, told_text}
use Rattle.capture_view.specs.Viewed.{Viewed}
use Rattle.capture_view.specs.Tables.{StandsFor}
use Rattle.capture_view.specs.Tables as tables
use Rattle.capture_words.specs.declared.ending.Ending.{Ending}
use Rattle.capture_words.specs.declared.ending.Ending.TheVariants.{Whole, Malformed, NoMemory, Unreadable}
use Rattle.capture_words.specs.Taken.{TakesAll, TakesOneMore}
use Rattle.capture_chart.specs.declared.outcomes.Outcomes.{Outcomes}
use Rattle.capture_chart.specs.Outcomes as outcomes
use Rattle.capture_chart.specs.Outcomes.{outcome_told}
use Rattle.capture_chart.specs.Shown.{Shown, arrows_of, shown_of}
use Rattle.show_program.specs.declared.asked.Asked.{Asked}
use Rattle.show_program.specs.declared.charted.Charted.{Charted}
use Rattle.show_program.specs.Asked.{IsAnswer, is_drawn, link_name}
use Rattle.show_program.specs.Charts.{AreAskedOf, HasAsked}

-- ---- tests

pub name_same : (named : Option LinkTold) → option_map (λ (told : LinkTold). told.name.now) named ≡ option_map (λ (link : LinkText). link.name) (option_map told_text named)
name_same None = refl
name_same (Some told) = refl

to_name : (asked link : Option (Bor (List ℕ))) (name : Option (List ℕ)) → option_map (λ (b : Bor (List ℕ)). b.now) link ≡ name
    → IfSome asked (λ a. IsNamed a.now link) → IfSome asked (λ a. name ≡ Some a.now)
to_name None link name is h = tt
to_name (Some a) None name is h = absurd h
to_name (Some a) (Some b) name is h = sym is ∙ ap Some (sym h)

of_name : (asked link : Option (Bor (List ℕ))) (name : Option (List ℕ)) → option_map (λ (b : Bor (List ℕ)). b.now) link ≡ name
    → IfSome asked (λ a. name ≡ Some a.now) → IfSome asked (λ a. IsNamed a.now link)
of_name None link name is h = tt
of_name (Some a) None name is h = absurd (let f : None ≡ Some a.now = is ∙ h in cc)
of_name (Some a) (Some b) name is h = let f : Some b.now ≡ Some a.now = is ∙ h in cc

-- what the tests say of what is known of a record
pub answered : (choice : Choice) (now : List Viewed) (view : Viewed) (traits : Traits) (is_asked : Bool) → traits.number ≡ view.number → traits.connection ≡ view.connection
    → option_map (λ (b : Bor (List ℕ)). b.now) traits.link ≡ link_name now view → (IsTrue is_asked ↔ IsAskedFor choice traits) → IsAnswer choice now view is_asked
answered choice now view traits is_asked number connection link shows = record {
  met = λ is. let h = shows.0 is in record {
    range = subst (IsInRange choice) number h.range;
    connection = subst (IsOnConnection choice) connection h.connection;
    link = to_name choice.link traits.link (link_name now view) link h.link;
  };
  all = λ none m. shows.1 (record {
    range = subst (IsInRange choice) (sym number) m.range;
    connection = subst (IsOnConnection choice) (sym connection) m.connection;
    link = of_name choice.link traits.link (link_name now view) link m.link;
    delivery = subst (λ (d : Option ℕ). IfSome d (λ delivery. IsTrue traits.is_of_delivery)) (sym none) tt;
  });
}

-- ---- one record more

pub takes_asked : (choice : Choice) (also : List ℕ) (old new : Charted) (asked : Asked) (following : Outcomes) (view : Viewed) (told : Option ℕ) (is_asked : Bool) → new.asked ≡ asked → new.also ≡ old.also → new.outcomes ≡ following
    → tables.TakesOneMore old.asked.names asked.names view → outcomes.TakesOneMore old.outcomes following view
    → ((past : List Viewed) → outcomes.StandsFor old.outcomes past → told ≡ outcome_told past view)
    → asked.choice ≡ old.asked.choice
    → ((past : List Viewed) → StandsFor old.asked.names past → IsAnswer old.asked.choice (view ∷ past) view is_asked)
    → (new.is_full ≡ false → old.is_full ≡ false)
    → (new.is_full ≡ false → arrows_of new.chart ≡ (if is_drawn old.also.now view.number is_asked then arrows_of old.chart ++ shown_of view told ∷ [] else arrows_of old.chart))
    → TakesOneMore (HasAsked choice also) old new view
takes_asked choice also old new asked following view told is_asked kept drawn follows names followed told_is same answers few arrows = λ past has. record {
  names = subst (λ (a : Asked). StandsFor a.names (view ∷ past)) (sym kept) (names past has.names);
  outcomes = subst (λ (o : Outcomes). outcomes.StandsFor o (view ∷ past)) (sym follows) (followed past has.outcomes);
  asks = ap (λ (a : Asked). a.choice) kept ∙ same ∙ has.asks;
  draws = ap (λ (b : Bor (List ℕ)). b.now) drawn ∙ has.draws;
  arrows = λ enough. (
    is_asked,
    arrows_of old.chart,
    subst (λ (ch : Choice). IsAnswer ch (view ∷ past) view is_asked) has.asks (answers past has.names),
    has.arrows (few enough),
    subst (λ (numbers : List ℕ). arrows_of new.chart ≡ (if is_drawn numbers view.number is_asked then arrows_of old.chart ++ shown_of view (outcome_told past view) ∷ [] else arrows_of old.chart)) has.draws
        (subst (λ (t : Option ℕ). arrows_of new.chart ≡ (if is_drawn old.also.now view.number is_asked then arrows_of old.chart ++ shown_of view t ∷ [] else arrows_of old.chart)) (told_is past has.outcomes) (arrows enough)),
  );
}

-- ---- all records

-- what took all of them has the arrows, unless there were too many
asked_by : (choice : Choice) (also : List ℕ) (entries : List Record) (ending : Ending) (first now : Charted) → now.is_full ≡ false → HasAsked choice also first [] → TakesAll (HasAsked choice also) entries ending first now
    → AreAskedOf choice also entries ending (arrows_of now.chart)
asked_by choice also entries Whole first now few begins takes = (takes begins).arrows few
asked_by choice also entries (Malformed offset) first now few begins takes = (takes begins).arrows few
asked_by choice also entries NoMemory first now few begins takes = tt
asked_by choice also entries (Unreadable offset) first now few begins takes = tt

pub asked_all : (choice : Choice) (also : List ℕ) (known : Option (List ℕ)) (ending : Ending) (first now : Charted) → now.is_full ≡ false → HasAsked choice also first []
    → IfSome known (λ text. TakesAll (HasAsked choice also) (reading text).records ending first now) → IfSome known (λ text. AreAskedOf choice also (reading text).records ending (arrows_of now.chart))
asked_all choice also None ending first now few begins takes = tt
asked_all choice also (Some text) ending first now few begins takes = asked_by choice also (reading text).records ending first now few begins takes
