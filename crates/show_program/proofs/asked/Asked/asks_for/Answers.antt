use Rattle.std.proofs.Common.{ap, refl, ◌∙◌}
use Rattle.std.specs.Prelude.{option_map}
use Rattle.capture_view.specs.Told.{LinkText}
use Rattle.capture_view.specs.Viewed.{viewed}
use Rattle.show_program.proofs.Charting.{answered, name_same}
use Rattle.show_program.proofs.asked.Asked.asks_for.Goals as goal

pub returns : goal.returns
returns c = λ now stands.
    answered c.args.self.now.choice now (viewed c.args.view.now) _ c.shows.result refl refl
    (c.name_of.ensures ∙ name_same c.link_of.result ∙ ap (option_map (λ (link : LinkText). link.name)) (c.link_of.ensures now stands)) c.shows.ensures
