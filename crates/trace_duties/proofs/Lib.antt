mod Duties
mod Captures
mod DutyExamples
mod OrderExamples
mod TurnExamples
mod FirstNeglected
mod SharedFrames
mod DutiesNeglected
mod CopiesNeglected
mod FaultsAnswered
mod AnswersKept
mod PicksKept
mod FlowsKept
mod OutcomesKept
mod WorkedFrames
mod Openings
mod WorkedCredit
mod WorkedDeliveries
mod WorkedLinks
pub mod ConsumerCounts
pub mod ConsumersCounted
pub mod LinksCounted
pub mod PicksInOrder
pub mod CopyOrder
pub mod QuietLists
pub mod Caused
