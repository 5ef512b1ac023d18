use Rattle.std.proofs.Common.{rules, refl, sym, ap, subst, ◌∙◌, ◌≡◌, Some, Bool, true, false, option_map, eq-eqb, if◌then◌else◌, ◌||◌, ◌&&◌}
use Rattle.std.proofs.lemmas.Slice.Eq.{bytes_eq-Decides}
use Rattle.trace_events.specs.Event.{Link}
use Rattle.trace_events.specs.View.{link_view}
use Rattle.due_lists.specs.Credits.{IsIn, place_in}
use Rattle.due_lists.proofs.credits.Credits.open.Goals as goal

same_some : (a b : Link) → Some a ≡ Some b → a ≡ b
same_some a b is = cc

there : (a b other : Bool) → a ≡ true → b ≡ true → a && b || other ≡ true
there true true other is same = refl
there true false other is same = absurd cc
there false b other is same = absurd cc

pub returns : goal.returns
returns c =
    let m = link_view c.in-Some.link in record {
      opened = λ l is.
          let some : Some m ≡ Some l = sym (ap (option_map link_view) c.in-Some.is) ∙ (c.producer_opened.ensures ∙ is) in
          subst (λ (k : Link). IsIn (record { places = c.insert.new.self; of_session = c.insert-2.new.self; of_address = c.insert-3.new.self; links = c.args.self.now.links }) k) (same_some m l some)
          (record {
            place = c.in_ok-insert.ensures m.number ∙ (ap (λ b. if b then Some c.key_of.result else place_in c.args.self.now m.number) (eq-eqb m.number m.number refl) ∙ ap Some c.key_of.ensures);
            session = c.in_ok-insert-2.ensures.joined m.session.number m.number ∙ there _ _ _ (eq-eqb m.session.number m.session.number refl) (eq-eqb m.number m.number refl);
            address = c.in_ok-insert-3.ensures.joined m.address m.number ∙ there _ _ _ ((bytes_eq-Decides m.address m.address).1 refl) (eq-eqb m.number m.number refl);
          });
      places = search rules;
      sessions = search rules;
      addresses = search rules;
      waiting = λ n. refl;
    }
