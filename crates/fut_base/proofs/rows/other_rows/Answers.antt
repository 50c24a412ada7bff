use Rattle.std.proofs.Common.{[], ◌∷◌, refl, inl, inr, lit<, ◌==◌}
use Rattle.std.specs.Prelude.{pos}
use Rattle.fut_base.specs.Events.{Writes}
use Rattle.fut_base.specs.Dag.{edges_of, AreJoined}
use Rattle.fut_base.specs.Rows.{future_run, ev}
use Rattle.fut_base.proofs.Paths.{not_reached, joined_no_race}
use Rattle.fut_base.proofs.rows.other_rows.Goals as goal

apart : AreJoined future_run 1 3 → ⊥
apart (inl r) = not_reached (edges_of future_run) (λ x. x == 1) 1 3 refl refl refl r
apart (inr r) = not_reached (edges_of future_run) (λ x. x == 3) 3 1 refl refl refl r

pub returns : goal.returns
returns c = record {
  after_sync = joined_no_race _ 0 1 4 (ev 1 1 (Writes 0 (pos 1))) (ev 0 3 (Writes 0 (pos 2))) refl refl
      (inl ((1, 3) ∷ [], (inr (inr (inr (inl refl))), refl, refl)));
  future = record {
    order = lit< tt;
    events = (
      ev 1 1 (Writes 0 (pos 1)),
      ev 0 3 (Writes 0 (pos 2)),
      refl,
      refl,
      record { one = refl; other = refl; write = inl tt; apart = apart },
    );
  };
  chain_edges = refl;
  chain = ((1, 5) ∷ (5, 6) ∷ [], (inr (inr (inr (inr (inr (inl refl))))), refl, (inr (inr (inr (inr (inr (inr (inr (inl refl))))))), refl, refl)));
  sound = (
    (
      (
        (
          (
            (
              (tt, record { stands = refl; running = refl; acts = (refl, refl, refl, tt) }),
              record { stands = refl; running = refl; acts = (refl, tt) },
            ),
            record { stands = refl; running = refl; acts = (refl, refl, refl, (refl, tt)) },
          ),
          record { stands = refl; running = refl; acts = (refl, refl, refl) },
        ),
        record { stands = refl; running = refl; acts = (refl, tt) },
      ),
      record { stands = refl; running = refl; acts = (refl, refl, refl) },
    ),
    record { stands = refl; running = refl; acts = (refl, tt) },
  );
}
