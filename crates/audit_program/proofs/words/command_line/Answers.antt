use Rattle.std.proofs.Common.{ap, ap₂, codes, ◌≡◌, ◌∙◌}
use Rattle.std.proofs.lemmas.Result.{IfOk-weaker}
use Rattle.std.specs.Prelude.{Bool}
use Rattle.clap.specs.Words.{rule_of, with_rule}
use Rattle.clap.specs.declared.builder.arg.Arg.{Arg}
use Rattle.program_ends.specs.Arguments.{asking_argument, file_argument, flag_argument}
use Rattle.audit_program.specs.Words.{idle_argument}
use Rattle.audit_program.proofs.words.command_line.Goals as goal

abbrev is_global : Arg → Bool
is_global argument = argument.global

pub returns : goal.returns
returns c =
    let file_is : rule_of c.help.result ≡ file_argument = ap rule_of c.help.ensures ∙ c.file.ensures.rule in
    let follow_is : rule_of c.help-2.result ≡ flag_argument (codes "follow") = ap rule_of c.help-2.ensures ∙ c.flag.ensures.rule in
    let idle_is : rule_of c.help-3.result ≡ idle_argument =
    ap rule_of c.help-3.ensures ∙ (c.asking.ensures.rule ∙ ap (asking_argument (codes "idle")) c.value_parser.ensures) in
    let with_file = c.in_ok-arg.ensures.shape (ap is_global c.help.ensures ∙ c.file.ensures.local) ∙ ap₂ with_rule c.bare_command.ensures file_is in
    let with_follow = c.in_ok-arg-2.ensures.shape (ap is_global c.help-2.ensures ∙ c.flag.ensures.local) ∙ ap₂ with_rule with_file follow_is in
    IfOk-weaker c.arg-3.result _ _ (λ command adds. adds.shape (ap is_global c.help-3.ensures ∙ c.asking.ensures.local) ∙ ap₂ with_rule with_follow idle_is) c.arg-3.ensures
