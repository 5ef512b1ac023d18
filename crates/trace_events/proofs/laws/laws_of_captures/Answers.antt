use Rattle.trace_events.proofs.Lawful.{unbroken-of, lawful-before, broken-stays}
use Rattle.trace_events.proofs.Within.{lawful-stood-within, lawful-of-row}
use Rattle.trace_events.proofs.Carried.{lawful-carried, lawful-addressed}
use Rattle.trace_events.proofs.Incomings.{payload-stays, gone-for-good}
use Rattle.trace_events.proofs.ReachesOne.{lawful-reaches-one}
use Rattle.trace_events.proofs.OneOutcome.{lawful-told-once}
use Rattle.trace_events.proofs.Decided.{told-decided}
use Rattle.trace_events.proofs.Elsewhere.{live_session-other, session_link-other}
use Rattle.trace_events.proofs.Fates.{not_both}
use Rattle.trace_events.proofs.WithinWindow.{within_window}
use Rattle.trace_events.proofs.WithinCredit.{within_credit}
use Rattle.trace_events.proofs.Parts.{delivery_has_id}
use Rattle.trace_events.proofs.Undecided.{decided_stays}
use Rattle.trace_events.proofs.IdsApart.{undecided_one}
use Rattle.trace_events.proofs.PartsCounted.{in_progress_counted}
use Rattle.trace_events.proofs.IdsInUse.{id_in_use_counted}
use Rattle.trace_events.proofs.laws.laws_of_captures.Goals as goal

pub returns-clause-within : goal.returns-clause-within
returns-clause-within c = λ rules records lawful. lawful-stood-within rules records (unbroken-of rules records lawful)

pub returns-clause-addressed : goal.returns-clause-addressed
returns-clause-addressed c = λ rules records lawful. lawful-addressed rules records (unbroken-of rules records lawful)

pub returns-clause-carried : goal.returns-clause-carried
returns-clause-carried c = λ rules records lawful. lawful-carried rules records (unbroken-of rules records lawful)

pub returns-clause-one : goal.returns-clause-one
returns-clause-one c = λ rules records lawful. lawful-reaches-one rules records (unbroken-of rules records lawful)

pub returns-clause-outcomes : goal.returns-clause-outcomes
returns-clause-outcomes c = λ rules records lawful. lawful-of-row rules records (unbroken-of rules records lawful)

pub returns-clause-once : goal.returns-clause-once
returns-clause-once c = λ rules records lawful. lawful-told-once rules records (unbroken-of rules records lawful)

pub returns-clause-before : goal.returns-clause-before
returns-clause-before c = lawful-before

pub returns-clause-stays : goal.returns-clause-stays
returns-clause-stays c = broken-stays

pub returns-clause-apart : goal.returns-clause-apart
returns-clause-apart c = not_both

pub returns-clause-whole : goal.returns-clause-whole
returns-clause-whole c = payload-stays

pub returns-clause-gone : goal.returns-clause-gone
returns-clause-gone c = gone-for-good

pub returns-clause-windows : goal.returns-clause-windows
returns-clause-windows c = λ rules records lawful. within_window rules records (unbroken-of rules records lawful)

pub returns-clause-credits : goal.returns-clause-credits
returns-clause-credits c = λ rules records lawful. within_credit rules records (unbroken-of rules records lawful)

pub returns-clause-sessions : goal.returns-clause-sessions
returns-clause-sessions c = λ connection channel e past other. live_session-other connection e past other channel

pub returns-clause-links : goal.returns-clause-links
returns-clause-links c = λ connection handle s e past other of. session_link-other connection e past other s handle of

pub returns-clause-decided : goal.returns-clause-decided
returns-clause-decided c = λ rules records lawful. told-decided rules records (unbroken-of rules records lawful)

pub returns-clause-identified : goal.returns-clause-identified
returns-clause-identified c = delivery_has_id

pub returns-clause-distinct : goal.returns-clause-distinct
returns-clause-distinct c = undecided_one

pub returns-clause-for_good : goal.returns-clause-for_good
returns-clause-for_good c = decided_stays

pub returns-clause-parts : goal.returns-clause-parts
returns-clause-parts c = in_progress_counted

pub returns-clause-in_use : goal.returns-clause-in_use
returns-clause-in_use c = id_in_use_counted
