mod Telling
mod Seeing
mod Examples
mod FactsKnown
mod Completions
mod SentCounts
