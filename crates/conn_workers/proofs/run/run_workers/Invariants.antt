use Rattle.conn_workers.proofs.run.run_workers.Given as goal

abbrev pub ghosts-run_named : goal.ghosts-run_named
ghosts-run_named g a = record { gates = a.gates.items }
