use Rattle.std.proofs.Common.{rules, refl, ◌<◌, vec_len}
use Rattle.conn_engine.specs.Silence.{empty_frame}
use Rattle.conn_engine.proofs.Laced.{empty_alone, of_ok, stands_joined, where_ok}
use Rattle.conn_engine.proofs.script.Script.join_empty.Goals as goal

pub returns-in-Some : goal.returns-in-Some
returns-in-Some c =
    let some : 0 < vec_len c.args.self.now.owns = search rules in
    where_ok c.add_empty.result _
    (λ ok framed taken waiting h.
    stands_joined c.args.self.now _ (vec_len c.args.self.now.owns) c.in-Some.last.now c.add_empty.new.self framed taken waiting empty_frame c.args.self.now.owns.ok.0 some
    c.in-Some.ensures.value refl c.add_empty.ensures.place (of_ok c.add_empty.result _ c.add_empty.ensures.more ok) c.requires refl refl h)

pub returns-in-None : goal.returns-in-None
returns-in-None c = where_ok c.begin.result _ (λ ok. of_ok c.begin.result _ c.begin.ensures ok empty_frame empty_alone)
