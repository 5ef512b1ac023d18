use Rattle.std.proofs.Common.{rules, arith, ◌≡◌, ◌+◌, ◌∙◌, ◌++◌, ◌∷◌, [], append_assoc, ap, sym, subst, List, take, length}
use Rattle.std.proofs.lemmas.List.{take_more, length-append, length-take-le}
use Rattle.capture_form.specs.declared.records.Record.{Record}
use Rattle.route_items.specs.WrittenFrames.{AreWritten, numbers_from}
use Rattle.route_items.proofs.written_frames.WrittenFrames.extend.Goals as goal

pub returns-in_err-push-clause-kept : goal.returns-in_err-push-clause-kept
returns-in_err-push-clause-kept c = λ records is are. record {
  more = take c.loop-entry.entry-index c.args.group.now;
  are = λ at. c.in_err-push.ensures.unchanged at ∙ c.loop-entry.invariant.kept records is are at;
}

pub loop-entry-preserved : goal.loop-entry-preserved
loop-entry-preserved c = record {
  count = omega (arith, c.loop-entry.invariant.count);
  kept = λ records is are at.
      let group = c.args.group.now in
      let i = c.loop-entry.entry-index in
      let item = c.entry-item.result in
      let more : take (i + 1) group ≡ take i group ++ item ∷ [] = take_more group i item c.loop-entry-test.true ∙ ap (λ x. take i group ++ x ∷ []) (sym c.entry-item.is) in
      let len : length (take i group) ≡ i = length-take-le i group (omega (arith, c.loop-entry-test.true)) in
      let number : c.loop-entry.number ≡ length (records ++ take i group) = omega (arith, c.loop-entry.invariant.count, is, len, length-append records (take i group)) in
      c.in_ok-push.ensures.pushed (records ++ take i group) number (c.loop-entry.invariant.kept records is are) at
      ∙ ap (numbers_from at 0) (append_assoc records (take i group) (item ∷ []) ∙ ap (λ xs. records ++ xs) (sym more));
}

pub returns-clause-kept : goal.returns-clause-kept
returns-clause-kept c = λ records is are. record {
  more = take c.loop-entry.entry-index c.args.group.now;
  are = c.loop-entry.invariant.kept records is are;
}
