use Rattle.std.proofs.Common.{ap, ap₂, codes, ◌≡◌, ◌∙◌}
use Rattle.std.proofs.lemmas.Result.{IfOk-weaker}
use Rattle.std.specs.Prelude.{Bool}
use Rattle.clap.specs.Words.{rule_of, with_rule}
use Rattle.clap.specs.declared.builder.arg.Arg.{Arg}
use Rattle.program_ends.specs.Arguments.{asking_argument, flag_argument}
use Rattle.show_program.specs.Words.{chart_argument, credit_argument, packets_argument}
use Rattle.show_program.proofs.words.command_line.Goals as goal

abbrev is_global : Arg → Bool
is_global argument = argument.global

pub returns : goal.returns
returns c =
    let wide_is : rule_of c.help.result ≡ flag_argument (codes "wide") = ap rule_of c.help.ensures ∙ c.flag.ensures.rule in
    let summary_is : rule_of c.help-2.result ≡ flag_argument (codes "summary") = ap rule_of c.help-2.ensures ∙ c.flag-2.ensures.rule in
    let why_is : rule_of c.help-3.result ≡ flag_argument (codes "why") = ap rule_of c.help-3.ensures ∙ c.flag-3.ensures.rule in
    let packets_is : rule_of c.help-4.result ≡ packets_argument =
    ap rule_of c.help-4.ensures ∙ (c.asking.ensures.rule ∙ ap (asking_argument (codes "pcapng")) c.string.ensures) in
    let chart_is : rule_of c.help-5.result ≡ chart_argument =
    ap rule_of c.help-5.ensures ∙ (c.asking-2.ensures.rule ∙ ap (asking_argument (codes "chart")) c.string-2.ensures) in
    let credit_is : rule_of c.help-6.result ≡ credit_argument =
    ap rule_of c.help-6.ensures ∙ (c.asking-3.ensures.rule ∙ ap (asking_argument (codes "credit")) c.string-3.ensures) in
    let with_wide = c.in_ok-arg.ensures.shape (ap is_global c.help.ensures ∙ c.flag.ensures.local) ∙ ap₂ with_rule c.in_ok-choosing_command.ensures wide_is in
    let with_summary = c.in_ok-arg-2.ensures.shape (ap is_global c.help-2.ensures ∙ c.flag-2.ensures.local) ∙ ap₂ with_rule with_wide summary_is in
    let with_why = c.in_ok-arg-3.ensures.shape (ap is_global c.help-3.ensures ∙ c.flag-3.ensures.local) ∙ ap₂ with_rule with_summary why_is in
    let with_packets = c.in_ok-arg-4.ensures.shape (ap is_global c.help-4.ensures ∙ c.asking.ensures.local) ∙ ap₂ with_rule with_why packets_is in
    let with_chart = c.in_ok-arg-5.ensures.shape (ap is_global c.help-5.ensures ∙ c.asking-2.ensures.local) ∙ ap₂ with_rule with_packets chart_is in
    IfOk-weaker c.arg-6.result _ _ (λ command adds. adds.shape (ap is_global c.help-6.ensures ∙ c.asking-3.ensures.local) ∙ ap₂ with_rule with_chart credit_is) c.arg-6.ensures
