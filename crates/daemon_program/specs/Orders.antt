-- What standard input orders: a line `quit` has the router end. Own format.
use Rattle.std.specs.Prelude.{ℕ, ◌==◌, Bool, true, false, ◌&&◌, ◌||◌, List, [], ◌∷◌, if◌then◌else◌}
use Rattle.daemon_program.specs.declared.order.Order.{Order}
use Rattle.daemon_program.specs.declared.order.Order.TheVariants.{Begun, Q, Qu, Qui, Quit, Other}

-- a line behind one octet more, of which no line goes on: q (113), u (117), i (105), t (116), or a carriage return (13) behind all
abbrev pub gone_on : Order → ℕ → Order
gone_on Begun octet = if octet == 113 then Q else Other
gone_on Q octet = if octet == 117 then Qu else Other
gone_on Qu octet = if octet == 105 then Qui else Other
gone_on Qui octet = if octet == 116 then Quit else Other
gone_on Quit octet = if octet == 13 then Quit else Other
gone_on Other octet = Other

-- and where a newline (10) ends it
abbrev pub behind : Order → ℕ → Order
behind order octet = if octet == 10 then Begun else gone_on order octet

abbrev pub is_quit : Order → Bool
is_quit Begun = false
is_quit Q = false
is_quit Qu = false
is_quit Qui = false
is_quit Quit = true
is_quit Other = false

-- whether a line that ends among these octets is the word, the first of them behind what there is of it
abbrev pub has_quit : Order → List ℕ → Bool
has_quit order [] = false
has_quit order (octet ∷ octets) = ((octet == 10) && is_quit order) || has_quit (behind order octet) octets
