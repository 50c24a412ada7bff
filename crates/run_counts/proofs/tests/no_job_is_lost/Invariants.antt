use Rattle.fut_base.specs.declared.record.Limits.{Limits}
use Rattle.run_names.specs.Names.{no_clock, no_table, no_code}
use Rattle.run_counts.proofs.tests.no_job_is_lost.Given as goal

abbrev pub limits : Limits
limits = record { events = 10; local_steps = 0; futures = 0 }

abbrev pub ghosts-two_workers : goal.ghosts-two_workers
ghosts-two_workers g a = record {
  clock = no_clock;
  orders = no_table;
  code = no_code;
  limits = limits;
  given = a.blanks.0.name;
  taken = a.blanks.1.name;
  paces = a.blanks.2.name;
  hands = 3;
  places = 13;
}
