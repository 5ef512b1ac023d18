use Rattle.std.proofs.Common.{◌≡◌, ◌++◌, map, take}
use Rattle.std.specs.Prelude.{codes}
use Rattle.std.specs.Str.{encode_utf8_all}
use Rattle.std.specs.String.{string_bytes}
use Rattle.svg_text.specs.Grammar.{attributes_text}
use Rattle.svg_text.specs.Drawn.{attribute_of}
use Rattle.svg_text.proofs.tags.put_tag.Given as goal

abbrev pub invariant-loop-attribute : goal.invariant-loop-attribute
invariant-loop-attribute l =
    string_bytes l.out ≡ string_bytes l.fn.out ++ (codes "<" ++ (l.name ++ encode_utf8_all (attributes_text (map attribute_of (take l.attribute-index l.attributes)))))
