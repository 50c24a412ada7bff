use Rattle.std.proofs.Common.{◌≡◌, ℕ, zero, suc, ◌<◌, Option, refl, sym, subst, inl, inr, arith}
use Rattle.std.specs.Prelude.{Some, None, slice_get, ◌⊎◌}
use Rattle.fut_base.specs.declared.event.Event.{Event}
use Rattle.fut_base.specs.Racing.{IsAccess, PlacesRace}
use Rattle.task_machine.specs.Machine.{opening}
use Rattle.clean_laws.specs.Rows.{apart_program, child_first, main_first}
use Rattle.task_machine.proofs.Worked.{machine_after, leads_all}
use Rattle.clean_laws.proofs.rows.apart_row.Goals as goal

-- an access of this cell, if any event
abbrev Accesses : ℕ → Option Event → Type 0
Accesses c None = ⊥
Accesses c (Some e) = IsAccess c e.action

-- the two accesses of the first run
two_accesses : (c i : ℕ) → Accesses c (slice_get child_first i) → ((i ≡ 1) × (1 ≡ c)) ⊎ ((i ≡ 3) × (0 ≡ c))
two_accesses c zero a = absurd a
two_accesses c (suc zero) a = inl (refl, a)
two_accesses c (suc (suc zero)) a = absurd a
two_accesses c (suc (suc (suc zero))) a = inr (refl, a)
two_accesses c (suc (suc (suc (suc zero)))) a = absurd a
two_accesses c (suc (suc (suc (suc (suc zero))))) a = absurd a
two_accesses c (suc (suc (suc (suc (suc (suc i)))))) a = absurd a

apart : (c i j : ℕ) → i < j → ((i ≡ 1) × (1 ≡ c)) ⊎ ((i ≡ 3) × (0 ≡ c)) → ((j ≡ 1) × (1 ≡ c)) ⊎ ((j ≡ 3) × (0 ≡ c)) → ⊥
apart c i j lt (inl x) (inl y) = omega (arith, lt, x.0, y.0)
apart c i j lt (inl x) (inr y) = omega (arith, x.1, y.1)
apart c i j lt (inr x) (inl y) = omega (arith, x.1, y.1)
apart c i j lt (inr x) (inr y) = omega (arith, lt, x.0, y.0)

none_race : (c i j : ℕ) → PlacesRace child_first c i j → ⊥
none_race c i j r =
    let (a, b, at, on, x) = r.events in
    apart c i j r.order (two_accesses c i (subst (Accesses c) (sym at) x.one)) (two_accesses c j (subst (Accesses c) (sym on) x.other))

pub returns : goal.returns
returns c =
    record {
      first = record {
        machine = machine_after apart_program (opening apart_program) child_first;
        leads = leads_all apart_program (opening apart_program) child_first (
          (refl, refl, refl, refl, refl, (refl, refl, refl)),
          (
            (refl, refl, refl, refl, refl, tt),
            (
              (refl, refl, refl, refl, refl, tt),
              ((refl, refl, refl, refl, refl, tt), ((refl, refl, refl, refl, refl, (refl, (refl, tt))), ((refl, refl, refl, refl, refl, tt), tt))),
            ),
          ),
        );
        ended = (refl, (refl, tt));
        cells_are = refl;
      };
      report = record { each = λ k d lt. absurd (omega (arith, lt)); whole = λ w i j r. absurd (none_race w i j r); order = tt };
      other = record {
        machine = machine_after apart_program (opening apart_program) main_first;
        leads = leads_all apart_program (opening apart_program) main_first (
          (refl, refl, refl, refl, refl, (refl, refl, refl)),
          (
            (refl, refl, refl, refl, refl, tt),
            (
              (refl, refl, refl, refl, refl, tt),
              ((refl, refl, refl, refl, refl, tt), ((refl, refl, refl, refl, refl, (refl, (refl, tt))), ((refl, refl, refl, refl, refl, tt), tt))),
            ),
          ),
        );
        ended = (refl, (refl, tt));
        cells_are = refl;
      };
    }
