mod Orders
mod WordLemmas
