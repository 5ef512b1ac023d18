use Rattle.std.proofs.Common.{rules, map, subst, sym, ap, [], ◌≡◌, ◌∙◌, codes, arith}
use Rattle.std.proofs.lemmas.Result.{err_from_is_err_and}
use Rattle.std.specs.Str.Parse.{ExplainsUnsignedError, HasUnsignedDigitsIfOk, ParsesUnsigned}
use Rattle.clap.specs.Matches.{found_of}
use Rattle.clap.specs.Walk.{one_of, rows_of}
use Rattle.clap.specs.Words.{HasKind, app_of, fault_of}
use Rattle.clap.proofs.WalkLemmas.{first_value-rows, one_text-rows, raw_values-rows}
use Rattle.router_words.specs.Asking.{AnswersWords}
use Rattle.router_words.specs.Words.{command_line}
use Rattle.program_ends.proofs.Parsing.{faults_of, rows_are}
use Rattle.router_words.proofs.Answering.{answers_refused, answers_taken, number_read, text_read, texts_read}
use Rattle.router_words.proofs.WordLemmas.{command_line-is_free}
use Rattle.router_words.proofs.words.Words.read.Goals as goal

pub returns-in_err-matches : goal.returns-in_err-matches
returns-in_err-matches g c =
    let words = map g.S.AsStr.text c.args.words.now in
    let line_is : app_of c.in_ok-command_line.field-0 ≡ command_line = search rules in
    let refused = faults_of _ command_line words (λ kinds. HasKind kinds c.in_err-matches.field-0.0) command_line-is_free line_is c.in_err-matches.ensures.kinds in
    let returned = err_from_is_err_and c.from_residual-in_err-matches.result c.from_residual-in_err-matches.ensures.1 in
    let same_error = subst (HasKind (fault_of command_line words)) (sym returned.2) refused in
    subst (AnswersWords words) (sym returned.1) (λ plain. answers_refused words returned.0 same_error plain)

pub returns : goal.returns
returns g c =
    let words = map g.S.AsStr.text c.args.words.now in
    let line_is : app_of c.in_ok-command_line.field-0 ≡ command_line = search rules in
    let found = found_of c.in_ok-matches.matches in
    let are = rows_are _ command_line words c.in_ok-matches.matches command_line-is_free line_is c.in_ok-matches.ensures.matches in
    let none = faults_of _ command_line words (λ kinds. kinds ≡ []) command_line-is_free line_is c.in_ok-matches.ensures.kinds in
    λ plain. answers_taken words (rows_of found) _ are (record {
      listen = λ word is. text_read c.get_str.result _ c.unwrap_or.result word c.unwrap_or.ensures (c.get_str.ensures ∙ first_value-rows found (codes "LISTEN") ∙ is);
      capture = λ word is. text_read c.get_str-2.result _ c.unwrap_or-2.result word c.unwrap_or-2.ensures (c.get_str-2.ensures ∙ first_value-rows found (codes "CAPTURE") ∙ is);
      workers = number_read _ (λ bs r. ParsesUnsigned 8 10 bs r × ExplainsUnsignedError 10 bs r × HasUnsignedDigitsIfOk bs r) 8 1 64 c.get_one.result 1 c.unwrap_or-3.result (one_of (codes "WORKERS") (rows_of found))
          (λ u x h. h.0) (omega arith) c.unwrap_or-3.ensures (λ word is. c.get_one.ensures.value word (one_text-rows found (codes "WORKERS") ∙ is));
      connections = number_read _ (λ bs r. ParsesUnsigned 16 10 bs r × ExplainsUnsignedError 10 bs r × HasUnsignedDigitsIfOk bs r) 16 0 65535 c.get_one-2.result 0 c.unwrap_or-4.result (one_of (codes "CONNECTIONS") (rows_of found))
          (λ u x h. h.0) (omega arith) c.unwrap_or-4.ensures (λ word is. c.get_one-2.ensures.value word (one_text-rows found (codes "CONNECTIONS") ∙ is));
      rules = ap (map (λ rule. rule.now)) c.in_ok-from_slice.ensures.items
          ∙ texts_read c.get_strs.result _ c.unwrap_or-rules.result _ c.unwrap_or-rules.ensures (search rules) (c.get_strs.ensures ∙ raw_values-rows found (codes "RULE"));
    }) none plain
