use Rattle.std.proofs.Common.{rules, ap, ap₂, codes, map, subst, sym, [], ◌≡◌, ◌∙◌}
use Rattle.std.proofs.lemmas.Result.{err_from_is_err_and}
use Rattle.clap.specs.Words.{HasKind, app_of, fault_of}
use Rattle.audit_program.specs.Words.{AnswersWords, AsksToFollow, command_line, end_asked}
use Rattle.program_ends.specs.InputSource.{path_asked}
use Rattle.program_ends.proofs.Parsing.{faults_of, flag_of, word_of}
use Rattle.audit_program.proofs.WordLemmas.{answers_refused, answers_taken, command_line-is_free, following_refused, following_taken}
use Rattle.audit_program.proofs.words.Words.read.Goals as goal

pub returns-in_err-matches-clause-plain : goal.returns-in_err-matches-clause-plain
returns-in_err-matches-clause-plain g c =
    let words = map g.S.AsStr.text c.args.words.now in
    let line_is : app_of c.in_ok-command_line.field-0 ≡ command_line = search rules in
    let refused = faults_of _ command_line words (λ kinds. HasKind kinds c.in_err-matches.field-0.0) command_line-is_free line_is c.in_err-matches.ensures.kinds in
    let returned = err_from_is_err_and c.from_residual-in_err-matches.result c.from_residual-in_err-matches.ensures.1 in
    let same_error = subst (HasKind (fault_of command_line words)) (sym returned.2) refused in
    subst (AnswersWords words) (sym returned.1) (answers_refused words returned.0 same_error)

pub returns-in_err-matches-clause-followed : goal.returns-in_err-matches-clause-followed
returns-in_err-matches-clause-followed g c =
    let words = map g.S.AsStr.text c.args.words.now in
    let line_is : app_of c.in_ok-command_line.field-0 ≡ command_line = search rules in
    let refused = faults_of _ command_line words (λ kinds. HasKind kinds c.in_err-matches.field-0.0) command_line-is_free line_is c.in_err-matches.ensures.kinds in
    let returned = err_from_is_err_and c.from_residual-in_err-matches.result c.from_residual-in_err-matches.ensures.1 in
    let same_error = subst (HasKind (fault_of command_line words)) (sym returned.2) refused in
    subst (AsksToFollow words) (sym returned.1) (following_refused words returned.0 same_error)

pub returns-clause-plain : goal.returns-clause-plain
returns-clause-plain g c =
    let words = map g.S.AsStr.text c.args.words.now in
    let line_is : app_of c.in_ok-command_line.field-0 ≡ command_line = search rules in
    answers_taken words _ (faults_of _ command_line words (λ kinds. kinds ≡ []) command_line-is_free line_is c.in_ok-matches.ensures.kinds)
    (c.of_word-source.ensures ∙ ap path_asked (c.get_str.ensures ∙ word_of (codes "FILE") _ command_line words c.in_ok-matches.matches command_line-is_free line_is c.in_ok-matches.ensures.matches))
    (λ absent idle. c.of_words-end.ensures ∙ ap₂ end_asked
    (c.get_flag-is_followed.ensures.other (flag_of (codes "follow") _ command_line words c.in_ok-matches.matches command_line-is_free line_is c.in_ok-matches.ensures.matches ∙ absent))
    (c.get_one-idle.ensures.none (flag_of (codes "idle") _ command_line words c.in_ok-matches.matches command_line-is_free line_is c.in_ok-matches.ensures.matches ∙ idle)))

pub returns-clause-followed : goal.returns-clause-followed
returns-clause-followed g c =
    let words = map g.S.AsStr.text c.args.words.now in
    let line_is : app_of c.in_ok-command_line.field-0 ≡ command_line = search rules in
    following_taken words _
    (c.of_word-source.ensures ∙ ap path_asked (c.get_str.ensures ∙ word_of (codes "FILE") _ command_line words c.in_ok-matches.matches command_line-is_free line_is c.in_ok-matches.ensures.matches))
    (λ asked idle. c.of_words-end.ensures ∙ ap₂ end_asked
    (c.get_flag-is_followed.ensures.value (flag_of (codes "follow") _ command_line words c.in_ok-matches.matches command_line-is_free line_is c.in_ok-matches.ensures.matches ∙ asked))
    (c.get_one-idle.ensures.none (flag_of (codes "idle") _ command_line words c.in_ok-matches.matches command_line-is_free line_is c.in_ok-matches.ensures.matches ∙ idle)))
