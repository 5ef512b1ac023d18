mod HasFacts
mod NamedDeliveries
mod Examples
