-- Equal races.
use Rattle.std.proofs.Common.{◌≡◌, Decides, ap}
use Rattle.std.proofs.lemmas.Bool.Decides.{Decides-and, Decides-eqb}
use Rattle.fut_base.specs.declared.record.Race.{Race}
use Rattle.fut_base.specs.contracts.record.RacePartialEq.TheImpl as eq_race
use Rattle.fut_base.proofs.Reports.{same_race}

pub race_decides : (a b : Race) → Decides (eq_race.eq-value.it a b) (a ≡ b)
race_decides a b =
    let d = Decides-and _ _ (Decides-eqb a.cell b.cell) (Decides-and _ _ (Decides-eqb a.first b.first) (Decides-eqb a.second b.second)) in (
      λ h. (let e = d.0 h in same_race a b e.0 e.1.0 e.1.1),
      λ e. d.1 (ap (λ (r : Race). r.cell) e, (ap (λ (r : Race). r.first) e, ap (λ (r : Race). r.second) e)),
    )
