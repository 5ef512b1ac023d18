-- A reply that can be said fits a frame.
use Rattle.std.proofs.Common.{◌≡◌, ap, ℕ, ◌≤◌, List, length, arith}
use Rattle.flow_counts.specs.declared.profile.TheConstants.{MAX_FRAME_SIZE}
use Rattle.amqp_perf.specs.View.{attach_fields}
use Rattle.trace_events.specs.Written.{spoken_octets}
use Rattle.route_answers.specs.declared.reply.Saying.{Saying}
use Rattle.route_answers.specs.declared.reply.Saying.TheVariants as sayings
use Rattle.route_answers.specs.declared.reply.Reply.{Reply}
use Rattle.route_answers.specs.Replies.{reply_view, source_text, is_made, CanBeSaid}
use Rattle.route_answers.proofs.Closing.{open_fits, close_fits, end_fits, detach_fits}
use Rattle.route_answers.proofs.Begins.{begin_fits}
use Rattle.route_answers.proofs.Attaches.{producer_fits, anonymous_fits, consumer_fits, refused_fits}
use Rattle.route_answers.proofs.Echoes.{flow_fits}

said_short : (channel : ℕ) (saying : Saying) → CanBeSaid saying → length (spoken_octets (reply_view (record { channel = channel; saying = saying }))) ≤ 512
said_short channel sayings.Open can = open_fits channel
said_short channel (sayings.Close condition) can = close_fits channel condition
said_short channel sayings.Begin can = begin_fits channel
said_short channel (sayings.End condition) can = end_fits channel condition
said_short channel (sayings.ToProducer theirs address) can = producer_fits channel (attach_fields theirs) can.0 address.now can.1
said_short channel (sayings.ToAnonymous theirs) can = anonymous_fits channel (attach_fields theirs) can
said_short channel (sayings.ToConsumer theirs source mode) can = consumer_fits channel (attach_fields theirs) can.0 (source_text source) can.1 (is_made source) mode
said_short channel (sayings.Refused theirs) can = refused_fits channel (attach_fields theirs) can
said_short channel (sayings.Detach handle closed condition) can = detach_fits channel handle closed condition
said_short channel (sayings.Flow flow) can = flow_fits channel flow

pub reply_short : (reply : Reply) → CanBeSaid reply.saying → length (spoken_octets (reply_view reply)) ≤ 512
reply_short reply can = said_short reply.channel reply.saying can

pub within_frame : (reply : Reply) → CanBeSaid reply.saying → (octets : List ℕ) → octets ≡ spoken_octets (reply_view reply) → length octets ≤ MAX_FRAME_SIZE
within_frame reply can octets is = omega (arith, ap length is, reply_short reply can)
