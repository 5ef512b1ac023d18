mod Examples
mod NamesExamples
mod TotalsExamples
mod ChoiceExamples
