use Rattle.std.proofs.Common.{ap, ap₂, codes, ◌≡◌, ◌∙◌}
use Rattle.std.proofs.lemmas.Result.{IfOk-weaker}
use Rattle.std.specs.Prelude.{Bool, pos}
use Rattle.clap.specs.Words.{rule_of, with_rule}
use Rattle.clap.specs.declared.builder.arg.Arg.{Arg}
use Rattle.clap.specs.declared.builder.value_parser.ValueParser.TheVariants.{Signed}
use Rattle.program_ends.specs.Arguments.{asking_argument, flag_argument}
use Rattle.daemon_program.specs.Words.{buffer_argument, most_argument, stats_argument, until_argument}
use Rattle.daemon_program.proofs.words.command_line.Goals as goal

abbrev is_global : Arg → Bool
is_global argument = argument.global

pub returns : goal.returns
returns c =
    let anonymous_is : rule_of c.help.result ≡ flag_argument (codes "anonymous") = ap rule_of c.help.ensures ∙ c.flag.ensures.rule in
    let few : c.range.result ≡ Signed (pos 1) (pos 1000000) = rw c.value_parser.ensures at c.range.ensures in
    let most_is : rule_of c.help-2.result ≡ most_argument =
    ap rule_of c.help-2.ensures ∙ (c.asking.ensures.rule ∙ ap (asking_argument (codes "max-connections")) few) in
    let until_is : rule_of c.help-3.result ≡ until_argument =
    ap rule_of c.help-3.ensures ∙ (c.asking-2.ensures.rule ∙ ap (asking_argument (codes "until-connections")) c.value_parser-2.ensures) in
    let buffer_is : rule_of c.help-4.result ≡ buffer_argument =
    ap rule_of c.help-4.ensures ∙ (c.asking-3.ensures.rule ∙ ap (asking_argument (codes "buffer")) c.value_parser-3.ensures) in
    let sync_is : rule_of c.help-5.result ≡ flag_argument (codes "sync") = ap rule_of c.help-5.ensures ∙ c.flag-2.ensures.rule in
    let a_day : c.range-2.result ≡ Signed (pos 1) (pos 86400) = rw c.value_parser-4.ensures at c.range-2.ensures in
    let stats_is : rule_of c.help-6.result ≡ stats_argument =
    ap rule_of c.help-6.ensures ∙ (c.asking-4.ensures.rule ∙ ap (asking_argument (codes "stats")) a_day) in
    let with_anonymous = c.in_ok-arg.ensures.shape (ap is_global c.help.ensures ∙ c.flag.ensures.local) ∙ ap₂ with_rule c.in_ok-placing_command.ensures anonymous_is in
    let with_most = c.in_ok-arg-2.ensures.shape (ap is_global c.help-2.ensures ∙ c.asking.ensures.local) ∙ ap₂ with_rule with_anonymous most_is in
    let with_until = c.in_ok-arg-3.ensures.shape (ap is_global c.help-3.ensures ∙ c.asking-2.ensures.local) ∙ ap₂ with_rule with_most until_is in
    let with_buffer = c.in_ok-arg-4.ensures.shape (ap is_global c.help-4.ensures ∙ c.asking-3.ensures.local) ∙ ap₂ with_rule with_until buffer_is in
    let with_sync = c.in_ok-arg-5.ensures.shape (ap is_global c.help-5.ensures ∙ c.flag-2.ensures.local) ∙ ap₂ with_rule with_buffer sync_is in
    IfOk-weaker c.arg-6.result _ _ (λ command adds. adds.shape (ap is_global c.help-6.ensures ∙ c.asking-4.ensures.local) ∙ ap₂ with_rule with_sync stats_is) c.arg-6.ensures
