use Rattle.std.proofs.Common.{Bool, ap, ap₂, ◌≡◌, ◌∙◌, codes}
use Rattle.std.proofs.lemmas.Result.{IfOk-weaker}
use Rattle.std.specs.Prelude.{Some, pos}
use Rattle.clap.specs.Words.{Rule, rule_of, with_rule}
use Rattle.clap.specs.declared.builder.arg.Arg.{Arg}
use Rattle.clap.specs.declared.builder.ArgAction.TheVariants.{Append}
use Rattle.clap.specs.declared.builder.value_parser.ValueParser.TheVariants.{Signed}
use Rattle.router_words.specs.Words.{capture_argument, connections_argument, listen_argument, rule_argument, word_argument, workers_argument}
use Rattle.router_words.proofs.words.command_line.Goals as goal

abbrev is_global : Arg → Bool
is_global argument = argument.global

pub returns : goal.returns
returns c =
    let listen_is : rule_of c.help-listen.result ≡ listen_argument =
    ap rule_of c.help-listen.ensures ∙ (c.word.ensures.rule ∙ ap (word_argument (codes "LISTEN")) c.string.ensures) in
    let capture_is : rule_of c.help-capture.result ≡ capture_argument =
    ap rule_of c.help-capture.ensures ∙ (c.word-2.ensures.rule ∙ ap (word_argument (codes "CAPTURE")) c.string-2.ensures) in
    let narrowed : c.range.result ≡ Signed (pos 1) (pos 64) = rw c.value_parser.ensures at c.range.ensures in
    let workers_is : rule_of c.help-workers.result ≡ workers_argument =
    ap rule_of c.help-workers.ensures ∙ (c.word-3.ensures.rule ∙ ap (word_argument (codes "WORKERS")) narrowed) in
    let connections_is : rule_of c.help-connections.result ≡ connections_argument =
    ap rule_of c.help-connections.ensures ∙ (c.word-4.ensures.rule ∙ ap (word_argument (codes "CONNECTIONS")) c.value_parser-2.ensures) in
    let rules_is : rule_of c.help-rules.result ≡ rule_argument =
    ap rule_of c.help-rules.ensures ∙ ap rule_of c.action.ensures ∙ ap (λ (r : Rule). record r { action = Some Append }) c.new.ensures.rule in
    let with_listen = c.in_ok-arg.ensures.shape (ap is_global c.help-listen.ensures ∙ c.word.ensures.local) ∙ ap₂ with_rule c.bare_command.ensures listen_is in
    let with_capture = c.in_ok-arg-2.ensures.shape (ap is_global c.help-capture.ensures ∙ c.word-2.ensures.local) ∙ ap₂ with_rule with_listen capture_is in
    let with_workers = c.in_ok-arg-3.ensures.shape (ap is_global c.help-workers.ensures ∙ c.word-3.ensures.local) ∙ ap₂ with_rule with_capture workers_is in
    let with_connections = c.in_ok-arg-4.ensures.shape (ap is_global c.help-connections.ensures ∙ c.word-4.ensures.local) ∙ ap₂ with_rule with_workers connections_is in
    IfOk-weaker c.arg-5.result _ _ (λ command adds. adds.shape (ap is_global c.help-rules.ensures ∙ ap is_global c.action.ensures ∙ c.new.ensures.optional.1) ∙ ap₂ with_rule with_connections rules_is) c.arg-5.ensures
