pub mod RuleWordLemmas
mod WordLemmas
mod Numbers
mod Answering
