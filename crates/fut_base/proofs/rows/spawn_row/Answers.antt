use Rattle.std.proofs.Common.{[], ◌∷◌, refl, inl, inr, lit<, ◌==◌}
use Rattle.std.specs.Prelude.{◌||◌, pos}
use Rattle.fut_base.specs.Events.{Writes}
use Rattle.fut_base.specs.Dag.{edges_of, AreJoined}
use Rattle.fut_base.specs.Rows.{spawn_run, ev}
use Rattle.fut_base.proofs.Paths.{not_reached}
use Rattle.fut_base.proofs.rows.spawn_row.Goals as goal

apart : AreJoined spawn_run 1 2 → ⊥
apart (inl r) = not_reached (edges_of spawn_run) (λ x. (x == 1) || (x == 3)) 1 2 refl refl refl r
apart (inr r) = not_reached (edges_of spawn_run) (λ x. (x == 2) || (x == 3)) 2 1 refl refl refl r

pub returns : goal.returns
returns c = record {
  edges_are = refl;
  english_is = refl;
  hebrew_is = refl;
  apart = (refl, refl);
  ordered = refl;
  sound = (
    (
      (
        (tt, record { stands = refl; running = refl; acts = (refl, refl, refl, tt) }),
        record { stands = refl; running = refl; acts = (refl, tt) },
      ),
      record { stands = refl; running = refl; acts = (refl, (refl, tt)) },
    ),
    record { stands = refl; running = refl; acts = (refl, tt) },
  );
  reaches = ((1, 3) ∷ [], (inr (inr (inr (inl refl))), refl, refl));
  not_joined = apart;
  races = record {
    order = lit< tt;
    events = (
      ev 1 1 (Writes 0 (pos 1)),
      ev 0 2 (Writes 0 (pos 2)),
      refl,
      refl,
      record { one = refl; other = refl; write = inl tt; apart = apart },
    );
  };
}
