pub mod Standing
pub mod StepWords
pub mod EventKinds
pub mod Elsewhere
pub mod ConnectionSteps
pub mod SessionSteps
pub mod LinkSteps
pub mod ListSteps
pub mod CountSteps
pub mod IncomingSteps
pub mod OutgoingSteps
pub mod EveryStep
pub mod QueueSteps
pub mod WaitingSteps
pub mod SettlingSteps
pub mod DueSteps
pub mod IdleSteps
pub mod HistorySteps
pub mod Steps
pub mod Along
pub mod Opens
pub mod Sessions
pub mod Links
pub mod Judged
pub mod Fates
pub mod LinkLives
pub mod LinkNumbers
pub mod OutgoingLinks
pub mod OverConnections
pub mod FirstOpens
pub mod Owed
pub mod SessionNumbers
pub mod SessionPlaces
pub mod EventSessions
pub mod Ends
pub mod Earliest
pub mod Lawful
pub mod ClausesMet
pub mod Unopened
pub mod OneConsumer
pub mod OneOutcome
pub mod WrittenFrames
pub mod Within
pub mod Carried
pub mod Keeping
pub mod LiveLinks
pub mod Incomings
mod ReachesOne
pub mod Parts
pub mod JoinedParts
pub mod PartsCounted
pub mod Decided
pub mod Undecided
pub mod IdsApart
pub mod IdsInUse
pub mod WaitingQueue
pub mod UndecidedCount
pub mod WithinWindow
pub mod WithinCredit
pub mod Captures
pub mod Broken
pub mod SameNotes
pub mod Made
pub mod OpenedConnections
pub mod JudgedHistories
pub mod Pairs
pub mod OutgoingProgress
pub mod BegunDeliveries
pub mod LinkEnds
pub mod EndedSessions
pub mod IncomingProgress
pub mod SettlingList
pub mod CompletionOrder
pub mod UnsentCopies
pub mod LinkOrder
pub mod CopiesCounted
pub mod FirstSent
pub mod OutcomesToTell
pub mod PartsGoOn
pub mod VerdictSteps
pub mod AwaitedSteps
pub mod OneCopy
mod ClauseExamples
mod FaultExamples
mod AnonymousExamples
mod ReadingExamples
mod PartsExamples
mod EndExamples
mod QueueExamples
mod WorkExamples
pub mod Copies
mod VerdictExamples
mod RowExamples
pub mod Decimals
