use Rattle.std.proofs.Common.{◌≡◌, refl, ◌∙◌, ℕ, true}
use Rattle.trace_events.specs.View.{event_view}
use Rattle.number_groups.specs.Ascending.{has}
use Rattle.due_lists.proofs.CreditsTouched.{put-more, put-here, named-producer}
use Rattle.due_lists.proofs.credits.Credits.touch.Goals as goal

pub returns : goal.returns
returns c =
    let e = event_view c.args.event.now in
    let second : (n : ℕ) → has c.add.new.candidates n ≡ true → has c.add-2.new.candidates n ≡ true = λ n. put-more (has c.add.new.candidates n) (has c.add-2.new.candidates n) _ (c.in_ok-add-2.ensures.joined n) in
    let third : (n : ℕ) → has c.add-2.new.candidates n ≡ true → has c.add-3.new.candidates n ≡ true = λ n. put-more (has c.add-2.new.candidates n) (has c.add-3.new.candidates n) _ (c.in_ok-add-3.ensures.joined n) in
    record {
      more = record {
        places = λ n. refl;
        sessions = λ session n. refl;
        addresses = λ address n. refl;
        waiting = λ n had. third n (second n (put-more (has c.args.self.now.links n) (has c.add.new.candidates n) _ (c.in_ok-add.ensures.joined n) had));
      };
      names = λ l on producer.
          third l.number (second l.number (put-here l.number c.producer_named.result (has c.args.self.now.links l.number) (has c.add.new.candidates l.number) (c.in_ok-add.ensures.joined l.number)
          (c.producer_named.ensures ∙ named-producer e.link l on producer)));
      tells = λ rules past are d is knows.
          third d.link.number (put-here d.link.number c.producer_of.result (has c.add.new.candidates d.link.number) (has c.add-2.new.candidates d.link.number) (c.in_ok-add-2.ensures.joined d.link.number)
          (c.producer_of.ensures rules past are d is knows));
      carries = λ rules past are d is knows.
          put-here d.link.number c.producer_of-2.result (has c.add-2.new.candidates d.link.number) (has c.add-3.new.candidates d.link.number) (c.in_ok-add-3.ensures.joined d.link.number)
          (c.producer_of-2.ensures rules past are d (c.carried_number.ensures ∙ is) knows);
    }
