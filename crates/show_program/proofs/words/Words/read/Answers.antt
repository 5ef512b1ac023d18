use Rattle.std.proofs.Common.{rules, map, subst, sym, [], ap, codes, ◌≡◌, ◌∙◌}
use Rattle.std.proofs.lemmas.Result.{err_from_is_err_and}
use Rattle.clap.specs.Words.{HasKind, app_of, fault_of}
use Rattle.program_ends.specs.InputSource.{path_asked}
use Rattle.show_program.specs.Words.{AnswersWords, AsksWhy, command_line}
use Rattle.program_ends.proofs.Parsing.{faults_of, flag_of, word_of}
use Rattle.show_program.proofs.WordLemmas.{answers_refused, answers_taken, command_line-is_free, why_refused, why_taken}
use Rattle.show_program.proofs.words.Words.read.Goals as goal

pub returns-in_err-matches-clause-plain : goal.returns-in_err-matches-clause-plain
returns-in_err-matches-clause-plain g c =
    let words = map g.S.AsStr.text c.args.words.now in
    let line_is : app_of c.in_ok-command_line.field-0 ≡ command_line = search rules in
    let refused = faults_of _ command_line words (λ kinds. HasKind kinds c.in_err-matches.field-0.0) command_line-is_free line_is c.in_err-matches.ensures.kinds in
    let returned = err_from_is_err_and c.from_residual-in_err-matches.result c.from_residual-in_err-matches.ensures.1 in
    let same_error = subst (HasKind (fault_of command_line words)) (sym returned.2) refused in
    subst (AnswersWords words) (sym returned.1) (answers_refused words returned.0 same_error)

pub returns-in_err-matches-clause-why : goal.returns-in_err-matches-clause-why
returns-in_err-matches-clause-why g c = λ are.
    let words = map g.S.AsStr.text c.args.words.now in
    let line_is : app_of c.in_ok-command_line.field-0 ≡ command_line = search rules in
    let refused = faults_of _ command_line words (λ kinds. HasKind kinds c.in_err-matches.field-0.0) command_line-is_free line_is c.in_err-matches.ensures.kinds in
    let returned = err_from_is_err_and c.from_residual-in_err-matches.result c.from_residual-in_err-matches.ensures.1 in
    let same_error = subst (HasKind (fault_of command_line words)) (sym returned.2) refused in
    subst AsksWhy (sym returned.1) (why_refused words returned.0 are same_error)

pub returns-clause-plain : goal.returns-clause-plain
returns-clause-plain g c =
    let words = map g.S.AsStr.text c.args.words.now in
    let line_is : app_of c.in_ok-command_line.field-0 ≡ command_line = search rules in
    answers_taken words _ (faults_of _ command_line words (λ kinds. kinds ≡ []) command_line-is_free line_is c.in_ok-matches.ensures.kinds)
    (c.of_word-source.ensures ∙ ap path_asked (c.get_str.ensures ∙ word_of (codes "FILE") _ command_line words c.in_ok-matches.matches command_line-is_free line_is c.in_ok-matches.ensures.matches))
    (λ none uncharted uncredited absent. c.of_words-mode.ensures.plain
    (c.get_str-2.ensures ∙ word_of (codes "pcapng") _ command_line words c.in_ok-matches.matches command_line-is_free line_is c.in_ok-matches.ensures.matches ∙ none)
    (c.get_str-3.ensures ∙ word_of (codes "chart") _ command_line words c.in_ok-matches.matches command_line-is_free line_is c.in_ok-matches.ensures.matches ∙ uncharted)
    (c.get_str-4.ensures ∙ word_of (codes "credit") _ command_line words c.in_ok-matches.matches command_line-is_free line_is c.in_ok-matches.ensures.matches ∙ uncredited)
    (c.get_flag-is_audited.ensures.other (flag_of (codes "why") _ command_line words c.in_ok-matches.matches command_line-is_free line_is c.in_ok-matches.ensures.matches ∙ absent)))

pub returns-clause-why : goal.returns-clause-why
returns-clause-why g c = λ are.
    let words = map g.S.AsStr.text c.args.words.now in
    let line_is : app_of c.in_ok-command_line.field-0 ≡ command_line = search rules in
    why_taken words _ _ are
    (c.of_word-source.ensures ∙ ap path_asked (c.get_str.ensures ∙ word_of (codes "FILE") _ command_line words c.in_ok-matches.matches command_line-is_free line_is c.in_ok-matches.ensures.matches))
    (λ none uncharted uncredited asked absent. c.of_words-mode.ensures.audited
    (c.get_str-2.ensures ∙ word_of (codes "pcapng") _ command_line words c.in_ok-matches.matches command_line-is_free line_is c.in_ok-matches.ensures.matches ∙ none)
    (c.get_str-3.ensures ∙ word_of (codes "chart") _ command_line words c.in_ok-matches.matches command_line-is_free line_is c.in_ok-matches.ensures.matches ∙ uncharted)
    (c.get_str-4.ensures ∙ word_of (codes "credit") _ command_line words c.in_ok-matches.matches command_line-is_free line_is c.in_ok-matches.ensures.matches ∙ uncredited)
    (c.get_flag-is_audited.ensures.value (flag_of (codes "why") _ command_line words c.in_ok-matches.matches command_line-is_free line_is c.in_ok-matches.ensures.matches ∙ asked))
    (c.get_flag-is_summary.ensures.other (flag_of (codes "summary") _ command_line words c.in_ok-matches.matches command_line-is_free line_is c.in_ok-matches.ensures.matches ∙ absent)))
