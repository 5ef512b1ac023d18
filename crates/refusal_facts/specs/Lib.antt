pub mod OpeningFacts
pub mod TransferFacts
pub mod PayloadFacts
pub mod FlowFacts
pub mod OutcomeFacts
pub mod EndingFacts
pub mod Facts
