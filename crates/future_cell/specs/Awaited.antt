-- What a place for a value shows.
use Rattle.std.specs.Prelude.{List, Option, refl}
use Rattle.std.specs.Coded.{Coded, code_by, coded×, coded_list, coded_option}

-- the value, where it has come, and those who wait
pub record Awaited (T W : Type 0) : Type 0 where
  pub value : Option T
  pub waiters : List W

-- such a cell as data, where its parts are data
abbrev pub awaited_code : {T W : Type 0} → Coded T → Coded W → Coded (Awaited T W)
awaited_code {T} {W} c d =
    code_by (Option T × List W) (coded× (coded_option c) (coded_list d)) (λ v. (v.value, v.waiters)) (λ p. record { value = p.0; waiters = p.1 }) (λ _. refl)
