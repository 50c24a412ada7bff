use Rattle.std.proofs.Common.{refl, inl, inr, lit<, ◌==◌}
use Rattle.std.specs.Prelude.{◌||◌, pos}
use Rattle.fut_base.specs.Events.{Reads, Writes}
use Rattle.fut_base.specs.Dag.{edges_of, AreJoined}
use Rattle.fut_base.specs.Racing.{PlacesRace}
use Rattle.fut_base.specs.Rows.{readers_run, twice_run, ev}
use Rattle.fut_base.proofs.Firsts.{first_write}
use Rattle.fut_base.proofs.Paths.{not_reached}
use Rattle.fut_base.proofs.rows.first_pair_rows.Goals as goal

readers_apart : AreJoined readers_run 5 7 → ⊥
readers_apart (inl r) = not_reached (edges_of readers_run) (λ x. (x == 5) || (x == 9)) 5 7 refl refl refl r
readers_apart (inr r) = not_reached (edges_of readers_run) (λ x. (x == 7) || (x == 9)) 7 5 refl refl refl r

twice_apart : AreJoined twice_run 3 4 → ⊥
twice_apart (inl r) = not_reached (edges_of twice_run) (λ x. (x == 3) || (x == 6)) 3 4 refl refl refl r
twice_apart (inr r) = not_reached (edges_of twice_run) (λ x. (x == 4) || (x == 6)) 4 3 refl refl refl r

readers_race : PlacesRace readers_run 0 7 10
readers_race = record {
  order = lit< tt;
  events = (
    ev 3 5 (Reads 0 (pos 0)),
    ev 4 7 (Writes 0 (pos 1)),
    refl,
    refl,
    record { one = refl; other = refl; write = inr tt; apart = readers_apart },
  );
}

twice_race : PlacesRace twice_run 0 3 6
twice_race = record {
  order = lit< tt;
  events = (
    ev 1 3 (Reads 0 (pos 0)),
    ev 2 4 (Writes 0 (pos 1)),
    refl,
    refl,
    record { one = refl; other = refl; write = inr tt; apart = twice_apart },
  );
}

pub returns : goal.returns
returns c = record {
  readers = first_write readers_run 0 7 10 readers_race refl refl;
  twice = first_write twice_run 0 3 6 twice_race refl refl;
}
