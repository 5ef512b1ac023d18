-- The names of the clauses.
use Rattle.std.specs.Prelude.{ℕ, List, codes}
use Rattle.trace_events.specs.declared.clause.Clause.{Clause}
use Rattle.trace_events.specs.declared.clause.Clause.TheVariants.{L1, L2, L3, L4, L5, L6, L7, L8, L9, L10, L11, L12, L13, L14}

-- the name of a clause (own format)
abbrev pub clause_name : Clause → List ℕ
clause_name L1 = codes "L1"
clause_name L2 = codes "L2"
clause_name L3 = codes "L3"
clause_name L4 = codes "L4"
clause_name L5 = codes "L5"
clause_name L6 = codes "L6"
clause_name L7 = codes "L7"
clause_name L8 = codes "L8"
clause_name L9 = codes "L9"
clause_name L10 = codes "L10"
clause_name L11 = codes "L11"
clause_name L12 = codes "L12"
clause_name L13 = codes "L13"
clause_name L14 = codes "L14"
