use Rattle.std.proofs.Common.{ap, ◌∙◌, Option, Some}
use Rattle.std.specs.HashMap.{get}
use Rattle.capture_view.specs.declared.names.ChannelKey.{ChannelKey}
use Rattle.capture_view.specs.Named.{is_channel}
use Rattle.refusal_words.specs.declared.session.Opened.{Opened}
use Rattle.refusal_words.specs.declared.session.SessionOrigin.{SessionOrigin}
use Rattle.refusal_words.specs.Session.{OurBegin, fresh_session}
use Rattle.refusal_words.specs.Link.{Over}
use Rattle.refusal_words.proofs.Sessions.{entry-begun}
use Rattle.refusal_words.proofs.Channels.{at-channel}
use Rattle.refusal_words.proofs.origins.Origins.begin.Goals as goal

pub returns : goal.returns
returns c =
    let old = c.args.self.now in
    let key = c.args.key in
    let begins : ChannelKey → Option Opened = λ q. get is_channel old.begins q in
    let f : ChannelKey → Option SessionOrigin = λ q. get is_channel old.sessions q in
    let g : ChannelKey → Option SessionOrigin = λ q. get is_channel c.insert.new.self q in
    let updates = c.in_ok-insert.ensures.updates in
    record {
      channels = at-channel key (Some (OurBegin c.args.number)) (λ handle. Some Over) begins f g
          (entry-begun c.args.number c.new-session.result (begins key) (f key) (g key) updates.1
          (c.new-session.ensures.told ∙ ap (fresh_session c.args.number) (c.copied-opened.ensures ∙ c.get.ensures.value)) c.new-session.ensures.links)
          updates.2;
    }
