use Rattle.std.proofs.Common.{ap, ap₂, codes, ◌≡◌, ◌∙◌}
use Rattle.std.proofs.lemmas.Result.{IfOk-weaker}
use Rattle.std.specs.Prelude.{Bool}
use Rattle.clap.specs.Words.{rule_of, with_rule}
use Rattle.clap.specs.declared.builder.arg.Arg.{Arg}
use Rattle.clap.specs.declared.builder.value_parser.ValueParser.TheVariants.{String}
use Rattle.program_ends.specs.Arguments.{asking_argument}
use Rattle.daemon_program.specs.Words.{rule_argument}
use Rattle.daemon_program.proofs.words.placing_command.Goals as goal

abbrev is_global : Arg → Bool
is_global argument = argument.global

pub returns : goal.returns
returns c =
    let listen_is : rule_of c.help.result ≡ asking_argument (codes "listen") String =
    ap rule_of c.help.ensures ∙ (c.asking.ensures.rule ∙ ap (asking_argument (codes "listen")) c.string.ensures) in
    let capture_is : rule_of c.help-2.result ≡ asking_argument (codes "capture") String =
    ap rule_of c.help-2.ensures ∙ (c.asking-2.ensures.rule ∙ ap (asking_argument (codes "capture")) c.string-2.ensures) in
    let rules_is : rule_of c.help-3.result ≡ rule_argument = ap rule_of c.help-3.ensures ∙ c.rules.ensures.rule in
    let with_listen = c.in_ok-arg.ensures.shape (ap is_global c.help.ensures ∙ c.asking.ensures.local) ∙ ap₂ with_rule c.bare_command.ensures listen_is in
    let with_capture = c.in_ok-arg-2.ensures.shape (ap is_global c.help-2.ensures ∙ c.asking-2.ensures.local) ∙ ap₂ with_rule with_listen capture_is in
    IfOk-weaker c.arg-3.result _ _ (λ command adds. adds.shape (ap is_global c.help-3.ensures ∙ c.rules.ensures.local) ∙ ap₂ with_rule with_capture rules_is) c.arg-3.ensures
