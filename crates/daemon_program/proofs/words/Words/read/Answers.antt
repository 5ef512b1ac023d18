use Rattle.std.proofs.Common.{rules, map, subst, sym, [], ap, codes, ◌≡◌, ◌∙◌, Some, None}
use Rattle.std.proofs.lemmas.Result.{err_from_is_err_and}
use Rattle.std.specs.Prelude.{unwrap_or}
use Rattle.clap.specs.Matches.{found_of}
use Rattle.clap.specs.Walk.{all_of, first_of, one_of}
use Rattle.clap.specs.Words.{HasKind, app_of, fault_of, matches_of, rows_of}
use Rattle.clap.proofs.WalkLemmas.{first_value-rows, one_text-rows, raw_values-rows}
use Rattle.program_ends.proofs.Parsing.{faults_of, rows_are}
use Rattle.daemon_program.specs.Words.{AnswersWords, command_line}
use Rattle.daemon_program.proofs.WordLemmas.{anonymous-none, answers_refused, answers_taken, buffer-none, capture-none, command_line-is_free, listen-none, most-none, rules-none, rules_unread, stats-none, sync-none, text_unread, texts_unread, until-none}
use Rattle.daemon_program.proofs.words.Words.read.Goals as goal

pub returns-in_err-matches : goal.returns-in_err-matches
returns-in_err-matches g c =
    let words = map g.S.AsStr.text c.args.words.now in
    let line_is : app_of c.in_ok-command_line.field-0 ≡ command_line = search rules in
    let refused = faults_of _ command_line words (λ kinds. HasKind kinds c.in_err-matches.field-0.0) command_line-is_free line_is c.in_err-matches.ensures.kinds in
    let returned = err_from_is_err_and c.from_residual-in_err-matches.result c.from_residual-in_err-matches.ensures.1 in
    let same_error = subst (HasKind (fault_of command_line words)) (sym returned.2) refused in
    subst (AnswersWords words) (sym returned.1) (answers_refused words returned.0 same_error)

pub returns : goal.returns
returns g c =
    let words = map g.S.AsStr.text c.args.words.now in
    let line_is : app_of c.in_ok-command_line.field-0 ≡ command_line = search rules in
    let found = found_of c.in_ok-matches.matches in
    let are = rows_are _ command_line words c.in_ok-matches.matches command_line-is_free line_is c.in_ok-matches.ensures.matches in
    let none = faults_of _ command_line words (λ kinds. kinds ≡ []) command_line-is_free line_is c.in_ok-matches.ensures.kinds in
    answers_taken words _ none (λ nothing.
    let rows : rows_of found ≡ matches_of command_line [] = are ∙ ap (matches_of command_line) nothing in
    let listen = text_unread c.get_str.result _ c.unwrap_or.result c.unwrap_or.ensures (c.get_str.ensures ∙ first_value-rows found (codes "listen") ∙ ap (first_of (codes "listen")) rows ∙ listen-none) in
    let capture = text_unread c.get_str-2.result _ c.unwrap_or-2.result c.unwrap_or-2.ensures (c.get_str-2.ensures ∙ first_value-rows found (codes "capture") ∙ ap (first_of (codes "capture")) rows ∙ capture-none) in
    let spelled = texts_unread c.get_strs.result _ c.unwrap_or-spelled.result c.unwrap_or-spelled.ensures (c.get_strs.ensures ∙ raw_values-rows found (codes "rule") ∙ ap (all_of (codes "rule")) rows ∙ rules-none) in
    let unasked = c.get_flag-is_anonymous.ensures.other (one_text-rows found (codes "anonymous") ∙ ap (one_of (codes "anonymous")) rows ∙ anonymous-none) in
    record {
      listen = ap (λ s. s.now) listen;
      capture = ap (λ s. s.now) capture;
      rules = rules_unread _ _ _ c.in_ok-rules_of.ensures (ap (λ s. s.now) spelled) unasked;
      most = c.unwrap_or-3.ensures ∙ ap (λ o. unwrap_or o 10000) (c.get_one.ensures.none (one_text-rows found (codes "max-connections") ∙ ap (one_of (codes "max-connections")) rows ∙ most-none));
      until = c.get_one-2.ensures.none (one_text-rows found (codes "until-connections") ∙ ap (one_of (codes "until-connections")) rows ∙ until-none);
      buffer = c.unwrap_or-4.ensures ∙ ap (λ o. unwrap_or o 67108864) (c.get_one-3.ensures.none (one_text-rows found (codes "buffer") ∙ ap (one_of (codes "buffer")) rows ∙ buffer-none));
      sync = c.get_flag.ensures.other (one_text-rows found (codes "sync") ∙ ap (one_of (codes "sync")) rows ∙ sync-none);
      stats = c.get_one-4.ensures.none (one_text-rows found (codes "stats") ∙ ap (one_of (codes "stats")) rows ∙ stats-none);
    })
