use Rattle.fut_engine.proofs.run.run.Given as goal

abbrev pub ghosts-run_named : goal.ghosts-run_named
ghosts-run_named g a = record { code = a.code.now; limits = a.options.limits }
