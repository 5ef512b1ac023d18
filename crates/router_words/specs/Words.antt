-- The command line, as the parser reads it.
use Rattle.std.specs.Prelude.{ℕ, List, pos, true, Some, codes}
use Rattle.clap.specs.Words.{App, Rule, new_app, new_rule, with_rule}
use Rattle.clap.specs.declared.builder.ArgAction.TheVariants.{Set, Append}
use Rattle.clap.specs.declared.builder.value_parser.ValueParser.{ValueParser}
use Rattle.clap.specs.declared.builder.value_parser.ValueParser.TheVariants.{Signed, String}

-- a word that has to be there
abbrev pub word_argument : List ℕ → ValueParser → Rule
word_argument id parser = record (new_rule id) { required = true; action = Some Set; parser = Some parser }

-- the four words, in their order, and the rules behind them (own format)
abbrev pub listen_argument : Rule
listen_argument = word_argument (codes "LISTEN") String

abbrev pub capture_argument : Rule
capture_argument = word_argument (codes "CAPTURE") String

abbrev pub workers_argument : Rule
workers_argument = word_argument (codes "WORKERS") (Signed (pos 1) (pos 64))

abbrev pub connections_argument : Rule
connections_argument = word_argument (codes "CONNECTIONS") (Signed (pos 0) (pos 65535))

abbrev pub rule_argument : Rule
rule_argument = record (new_rule (codes "RULE")) { action = Some Append }

-- the name alone, and no word for the program's name
abbrev pub bare_command : App
bare_command =
    let named = new_app (codes "amqp_router") in
    record named { top = record named.top { no_binary_name = true } }

-- the command line (own format)
abbrev pub command_line : App
command_line =
    with_rule (with_rule (with_rule (with_rule (with_rule bare_command listen_argument) capture_argument) workers_argument) connections_argument)
    rule_argument
