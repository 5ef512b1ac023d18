use Rattle.capture_words.proofs.Known.{some_then}
use Rattle.capture_words.proofs.stream.show_records.Goals as goal

pub returns-in-Ok-clause-shown : goal.returns-in-Ok-clause-shown
returns-in-Ok-clause-shown g c = some_then _ _ _ _ c.in_ok-ending.ensures.shown c.in_ok-write_page.ensures

pub returns-in-Err-clause-shown : goal.returns-in-Err-clause-shown
returns-in-Err-clause-shown g c = some_then _ _ _ _ c.in_ok-ending.ensures.shown c.in_ok-write_page.ensures
