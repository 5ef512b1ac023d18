use Rattle.std.proofs.Common.{None, Some, refl, subst, sym, [], ◌∷◌, ◌++◌, arith}
use Rattle.std.proofs.lemmas.List.{length-append}
use Rattle.capture_form.specs.Reader.{left_of, offset_of}
use Rattle.capture_words.specs.declared.ending.Ending.TheVariants.{Whole}
use Rattle.capture_words.specs.Taken.{TakesOneMore}
use Rattle.capture_words.proofs.Streaming.{EndsWith, ends_of, follows_end, follows_fault, follows_next, follows_start, found_so, moved_so, took_all, took_more}
use Rattle.show_program.specs.Charts.{HasAsked}
use Rattle.show_program.proofs.charted.take_records.Goals as goal

pub loop-number-init : goal.loop-number-init
loop-number-init g c = record {
  runs = c.requires;
  read = [];
  many = refl;
  follows = follows_start (offset_of c.args.records.now) (left_of g.R.Read.remaining c.args.records.now);
  took = λ begins. begins;
}

pub loop-number-preserved : goal.loop-number-preserved
loop-number-preserved g c =
    let some = c.in-Ok-Some in
    let so = c.loop-number.invariant in
    let also = c.args.charted.now.also.now in
    let agrees = HasAsked c.args.charted.now.asked.choice also in
    let next = found_so _ _ some.field-0 (Some some.entry) some.field-0-is some.ensures.next in
    let moved = moved_so _ _ some.field-0 some.entry some.field-0-is some.ensures.moved in
    record {
      runs = some.ensures.sound refl;
      read = so.read ++ some.entry ∷ [];
      many = omega (arith, so.many, length-append so.read (some.entry ∷ []));
      follows = follows_next _ _ _ _ so.read _ _ some.entry so.follows next moved;
      took = took_more agrees _ _ _ so.read some.entry _ so.many so.took
          (subst (TakesOneMore agrees _ _) c.view_of.ensures (c.in-Ok.ensures c.args.charted.now.asked.choice also));
    }

pub returns-in-Ok-None-clause-ending : goal.returns-in-Ok-None-clause-ending
returns-in-Ok-None-clause-ending g c =
    let so = c.loop-number.invariant in
    let next = found_so _ _ c.in-Ok-None.field-0 None c.in-Ok-None.field-0-is c.in-Ok-None.ensures.next in
    ends_of (offset_of c.args.records.now) _ so.read Whole (follows_end (offset_of c.args.records.now) (left_of g.R.Read.remaining c.args.records.now) _ _ so.read _ so.follows next)

pub returns-in-Ok-None-clause-taken : goal.returns-in-Ok-None-clause-taken
returns-in-Ok-None-clause-taken g c =
    let so = c.loop-number.invariant in
    let next = found_so _ _ c.in-Ok-None.field-0 None c.in-Ok-None.field-0-is c.in-Ok-None.ensures.next in
    took_all (HasAsked c.args.charted.now.asked.choice c.args.charted.now.also.now) (offset_of c.args.records.now) _ so.read Whole _ _
    (follows_end (offset_of c.args.records.now) (left_of g.R.Read.remaining c.args.records.now) _ _ so.read _ so.follows next) so.took

pub returns-in-Err-clause-ending : goal.returns-in-Err-clause-ending
returns-in-Err-clause-ending g c =
    let so = c.loop-number.invariant in
    let first = left_of g.R.Read.remaining c.args.records.now in
    let ends = follows_fault (offset_of c.args.records.now) first _ _ so.read c.in-Err.fault so.follows (c.in-Err.ensures.place so.runs) (c.in-Err.ensures.exact so.runs) in
    ends_of (offset_of c.args.records.now) first so.read c.from.result (subst (λ e. EndsWith (offset_of c.args.records.now) first so.read e) (sym c.from.ensures) ends)

pub returns-in-Err-clause-taken : goal.returns-in-Err-clause-taken
returns-in-Err-clause-taken g c =
    let so = c.loop-number.invariant in
    let first = left_of g.R.Read.remaining c.args.records.now in
    let ends = follows_fault (offset_of c.args.records.now) first _ _ so.read c.in-Err.fault so.follows (c.in-Err.ensures.place so.runs) (c.in-Err.ensures.exact so.runs) in
    took_all (HasAsked c.args.charted.now.asked.choice c.args.charted.now.also.now) (offset_of c.args.records.now) first so.read c.from.result _ _
    (subst (λ e. EndsWith (offset_of c.args.records.now) first so.read e) (sym c.from.ensures) ends) so.took
