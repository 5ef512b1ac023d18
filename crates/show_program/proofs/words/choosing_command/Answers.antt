use Rattle.std.proofs.Common.{ap, ap₂, codes, ◌≡◌, ◌∙◌}
use Rattle.std.proofs.lemmas.Result.{IfOk-weaker}
use Rattle.std.specs.Prelude.{Bool}
use Rattle.clap.specs.Words.{rule_of, with_rule}
use Rattle.clap.specs.declared.builder.arg.Arg.{Arg}
use Rattle.program_ends.specs.Arguments.{asking_argument, file_argument}
use Rattle.show_program.specs.Words.{connection_argument, link_argument, number_argument}
use Rattle.show_program.proofs.words.choosing_command.Goals as goal

abbrev is_global : Arg → Bool
is_global argument = argument.global

pub returns : goal.returns
returns c =
    let file_is : rule_of c.help.result ≡ file_argument = ap rule_of c.help.ensures ∙ c.file.ensures.rule in
    let from_is : rule_of c.help-2.result ≡ number_argument (codes "from") =
    ap rule_of c.help-2.ensures ∙ (c.asking.ensures.rule ∙ ap (asking_argument (codes "from")) c.value_parser.ensures) in
    let to_is : rule_of c.help-3.result ≡ number_argument (codes "to") =
    ap rule_of c.help-3.ensures ∙ (c.asking-2.ensures.rule ∙ ap (asking_argument (codes "to")) c.value_parser-2.ensures) in
    let connection_is : rule_of c.help-4.result ≡ connection_argument =
    ap rule_of c.help-4.ensures ∙ (c.asking-3.ensures.rule ∙ ap (asking_argument (codes "connection")) c.value_parser-3.ensures) in
    let link_is : rule_of c.help-5.result ≡ link_argument =
    ap rule_of c.help-5.ensures ∙ (c.asking-4.ensures.rule ∙ ap (asking_argument (codes "link")) c.string.ensures) in
    let delivery_is : rule_of c.help-6.result ≡ number_argument (codes "delivery") =
    ap rule_of c.help-6.ensures ∙ (c.asking-5.ensures.rule ∙ ap (asking_argument (codes "delivery")) c.value_parser-4.ensures) in
    let with_file = c.in_ok-arg.ensures.shape (ap is_global c.help.ensures ∙ c.file.ensures.local) ∙ ap₂ with_rule c.bare_command.ensures file_is in
    let with_from = c.in_ok-arg-2.ensures.shape (ap is_global c.help-2.ensures ∙ c.asking.ensures.local) ∙ ap₂ with_rule with_file from_is in
    let with_to = c.in_ok-arg-3.ensures.shape (ap is_global c.help-3.ensures ∙ c.asking-2.ensures.local) ∙ ap₂ with_rule with_from to_is in
    let with_connection = c.in_ok-arg-4.ensures.shape (ap is_global c.help-4.ensures ∙ c.asking-3.ensures.local) ∙ ap₂ with_rule with_to connection_is in
    let with_link = c.in_ok-arg-5.ensures.shape (ap is_global c.help-5.ensures ∙ c.asking-4.ensures.local) ∙ ap₂ with_rule with_connection link_is in
    IfOk-weaker c.arg-6.result _ _ (λ command adds. adds.shape (ap is_global c.help-6.ensures ∙ c.asking-5.ensures.local) ∙ ap₂ with_rule with_link delivery_is) c.arg-6.ensures
