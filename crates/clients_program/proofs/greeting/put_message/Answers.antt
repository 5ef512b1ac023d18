use Rattle.std.proofs.Common.{ℕ, List, ◌++◌, ◌∙◌, ap}
use Rattle.clients_program.specs.Greeting.{greeting_text, section_octets}
use Rattle.clients_program.proofs.Greetings.{message_fits}
use Rattle.clients_program.proofs.greeting.put_message.Goals as goal

pub put_frame-requires-clause-fits : goal.put_frame-requires-clause-fits
put_frame-requires-clause-fits c =
    message_fits _ _ _ (greeting_text c.args.number) c.transfer.ensures.says c.transfer.ensures.small
    (
    c.deref-2.ensures.value
    ∙ c.in_ok-put_section.ensures
    ∙ ap (λ (old : List ℕ). old ++ section_octets c.deref.result.now) c.new-section.ensures.items
    ∙ ap section_octets (c.deref.ensures ∙ c.in_ok-text.ensures.text)
    )
    c.in_ok-text.ensures.short
