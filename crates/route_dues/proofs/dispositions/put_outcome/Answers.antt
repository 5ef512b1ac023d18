use Rattle.std.proofs.Common.{refl, option_map, unwrap_or, subst, sym, ap, ◌∙◌, length, ◌≤◌, ◌<◌, ◌^◌, []}
use Rattle.flow_counts.specs.declared.profile.TheConstants.{MAX_FRAME_SIZE}
use Rattle.amqp_perf.specs.declared.attach.Role.TheVariants.{Receiver}
use Rattle.amqp_perf.specs.Meaning.{ADisposition}
use Rattle.amqp_perf.specs.NestedViews.{state_view}
use Rattle.amqp_perf.specs.Router.{outcome_told}
use Rattle.amqp_perf.proofs.Writable.{outcome_writable}
use Rattle.trace_events.specs.Written.{spoken_octets, says, state_of, written_outcome}
use Rattle.route_dues.specs.Outcomes.{octets_in}
use Rattle.route_dues.specs.Short.{decided}
use Rattle.route_dues.specs.Writing.{spoken_with, IsReadAgain}
use Rattle.route_dues.proofs.OutcomeFits.{outcome_said, outcome_counted}
use Rattle.route_dues.proofs.ShortFrames.{puts_same}
use Rattle.route_dues.proofs.dispositions.put_outcome.Goals as goal

pub put_spoken-requires-clause-fits : goal.put_spoken-requires-clause-fits
put_spoken-requires-clause-fits c =
    let channel = c.args.delivery.now.link.session.channel in
    subst (λ f. length (spoken_octets (spoken_with channel (ADisposition f) [])) < 2 ^ 32) (sym c.outcome.ensures.says)
    (outcome_counted channel c.unwrap_or-id.result (option_map state_view c.args.state) c.requires.short)

pub returns-then-octets_if-le-SHORT_STATE-clause-appended : goal.returns-then-octets_if-le-SHORT_STATE-clause-appended
returns-then-octets_if-le-SHORT_STATE-clause-appended c =
    let channel = c.args.delivery.now.link.session.channel in
    let state = option_map state_view c.args.state in
    puts_same c.args.out.now.items c.put_decided.new.out.items c.args.out.now.items _ _ c.put_decided.result refl
    (ap (λ octets. spoken_octets (says channel (ADisposition (decided Receiver c.unwrap_or-id.result (state_of octets))))) c.raw_of-octets.ensures
    ∙ (ap (λ n. spoken_octets (written_outcome channel n (octets_in state))) c.unwrap_or-id.ensures ∙ sym (outcome_said channel (unwrap_or c.args.delivery.now.id 0) state)))
    c.put_decided.ensures.appended

pub returns-then-octets_if-le-SHORT_STATE-clause-octets : goal.returns-then-octets_if-le-SHORT_STATE-clause-octets
returns-then-octets_if-le-SHORT_STATE-clause-octets c = outcome_said c.args.delivery.now.link.session.channel (unwrap_or c.args.delivery.now.id 0) (option_map state_view c.args.state)

pub returns-then-octets_if-le-SHORT_STATE-clause-again : goal.returns-then-octets_if-le-SHORT_STATE-clause-again
returns-then-octets_if-le-SHORT_STATE-clause-again c =
    let channel = c.args.delivery.now.link.session.channel in
    let state = option_map state_view c.args.state in
    subst (λ n. length (spoken_octets (says channel (ADisposition (outcome_told n state)))) ≤ MAX_FRAME_SIZE → IsReadAgain (says channel (ADisposition (outcome_told n state)))) c.unwrap_or-id.ensures
    (c.put_decided.ensures.again state (outcome_writable c.unwrap_or-id.result state c.requires.writable c.requires.short))

pub returns-clause-octets : goal.returns-clause-octets
returns-clause-octets c = outcome_said c.args.delivery.now.link.session.channel (unwrap_or c.args.delivery.now.id 0) (option_map state_view c.args.state)
