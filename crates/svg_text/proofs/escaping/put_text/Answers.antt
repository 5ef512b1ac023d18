use Rattle.std.proofs.Common.{List, ℕ, ◌++◌, ap, sym, ◌∙◌}
use Rattle.std.proofs.lemmas.Iterator.{YieldsList-from_chars}
use Rattle.std.proofs.lemmas.Iterator.Consumers.{YieldsList-end}
use Rattle.std.specs.String.{string_bytes}
use Rattle.svg_text.specs.Drawn.{text_octets}
use Rattle.svg_text.proofs.Octets.{map_same, text_octets-push}
use Rattle.svg_text.proofs.Puts.{joined}
use Rattle.svg_text.proofs.escaping.put_text.Goals as goal

pub loop-character-preserved : goal.loop-character-preserved
loop-character-preserved c =
    joined _ _ _ _ _ _ c.loop-character.invariant c.in_ok-put_character.ensures (sym (text_octets-push c.loop-character.yielded c.in-Some.character))

pub returns : goal.returns
returns c =
    let t = YieldsList-end (YieldsList-from_chars c.args.text.now c.utf8.text cc) c.loop-character.yielded _ c.loop-character.yielded_by _ _ c.in-None.is c.next.ensures.steps in
    c.loop-character.invariant ∙ ap (λ (t : List ℕ). string_bytes c.args.out.now ++ text_octets t) (sym (map_same c.loop-character.yielded) ∙ t.0)
