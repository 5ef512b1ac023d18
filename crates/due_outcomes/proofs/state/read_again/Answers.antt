use Rattle.std.proofs.Common.{◌≡◌, sym, subst, ◌∙◌, ℕ, List, Some, option_map}
use Rattle.amqp_perf.specs.Grammar.{IsPerformative}
use Rattle.amqp_perf.specs.Meaning.{ADisposition}
use Rattle.amqp_perf.specs.NestedViews.{state_view}
use Rattle.due_outcomes.proofs.StateOctets.{told, told-again, told-octets, told-writable, told-short}
use Rattle.due_outcomes.proofs.state.read_again.Goals as goal

pub returns : goal.returns
returns c =
    let octets = c.args.octets.now in
    let has = c.requires in
    let IsTold : List ℕ → Type 0 = λ xs. IsPerformative xs (ADisposition (told octets has)) in
    let is : option_map state_view c.state_told.result ≡ Some has.state =
    c.state_told.ensures (told octets has) (subst IsTold (sym (c.deref.ensures.value ∙ c.in_ok-put_disposition.ensures has)) (told-again octets has)) in
    let state = option_map state_view c.state_told.result in
    record { octets = told-octets octets has state is; writable = told-writable octets has state is; short = told-short octets has state is }
