use Rattle.svg_text.proofs.Puts.{line_octets, put_as, return_octets, tab_octets}
use Rattle.svg_text.proofs.escaping.put_character.Goals as goal

pub returns-in-9 : goal.returns-in-9
returns-in-9 c = put_as _ _ _ _ _ c.push_str-in-9.ensures.bytes (tab_octets c.args.character c.in-9.is)

pub returns-in-10 : goal.returns-in-10
returns-in-10 c = put_as _ _ _ _ _ c.push_str-in-10.ensures.bytes (line_octets c.args.character c.in-10.is)

pub returns-in-13 : goal.returns-in-13
returns-in-13 c = put_as _ _ _ _ _ c.push_str-in-13.ensures.bytes (return_octets c.args.character c.in-13.is)
