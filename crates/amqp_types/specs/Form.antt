-- What a constructor of the code stands for.
use Rattle.std.specs.Prelude.{Option, Some, None, option_map}
use Rattle.amqp_types.specs.declared.constructor.Tag as code_tag
use Rattle.amqp_types.specs.declared.constructor.Constructor as code_constructor
use Rattle.amqp_types.specs.declared.constructor.Form as code_form
use Rattle.amqp_types.specs.Part.{Tag, Constructor}
use Rattle.amqp_types.specs.Items.{constructor_in}

-- a descriptor in front of a constructor, apart from where they lie in memory
abbrev pub tag_of : code_tag.Tag → Tag
tag_of tag = record { descriptor = tag.descriptor.now; constructor = tag.constructor.now }

-- the constructor of an array's elements, apart from where it lies in memory
abbrev pub constructor_of : code_constructor.Constructor → Constructor
constructor_of c = record { octets = c.octets.now; tags = c.tags; code = c.code; tag = option_map tag_of c.tag }

-- a constructor that may be there
abbrev pub form : Option code_constructor.Constructor → Option Constructor
form c = option_map constructor_of c

-- the constructor that is kept as its octets, if there is one
abbrev pub kept_form : Option code_form.Form → Option Constructor
kept_form None = None
kept_form (Some kept) = constructor_in kept.octets.now
