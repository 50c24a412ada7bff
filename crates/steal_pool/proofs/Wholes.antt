-- A whole run, with the slices through which its steps are made.
use Rattle.std.proofs.Common.{◌≡◌, ℕ, Bool, true, ◌⊎◌, List, [], ◌++◌, length, map, take, drop, All, sym, ap, ◌∙◌, subst}
use Rattle.std.specs.List.{list_any}
use Rattle.std.proofs.lemmas.List.{length-map}
use Rattle.steal_pool.specs.declared.worker.Worker.{Worker}
use Rattle.steal_pool.specs.Workers.{HasNothingLeft}
use Rattle.steal_pool.specs.AllWorkers.{AllMoved, AreStarted, RanAll, IsOver, self_of}
use Rattle.steal_pool.specs.Runs.{TurnedOrLeft}
use Rattle.steal_pool.proofs.Lists.{slice_back}
use Rattle.steal_pool.proofs.Starts.{no_turns, begun}
use Rattle.steal_pool.proofs.Accounts.{whole_run}

module _ {J W : Type 0} where
  -- a list after a step that was made on it as a slice
  abbrev pub after : ℕ → List (Worker J W) → List (Worker J W) → List (Worker J W)
  after n old new = take n (new ++ drop (length new) old)

  same_count : (ms ms' : List (Worker J W)) → map self_of ms' ≡ map self_of ms → length ms' ≡ length ms
  same_count ms ms' selves = sym (length-map ms' self_of) ∙ (ap length selves ∙ length-map ms self_of)

  module _ (turned : ℕ → W → J → List J → Bool → W → Type 0) (n : ℕ) (ms s ms3 : List (Worker J W)) (count : length ms ≡ n) (at : s ≡ ms)
      (ran : RanAll turned s ms3) where
    ran' : RanAll turned ms ms3
    ran' = subst (λ xs. RanAll turned xs ms3) at ran

    count3 : length ms3 ≡ n
    count3 = ran'.4.0 ∙ (same_count ran'.0 ran'.1 ran'.3.selves ∙ (ran'.2.0 ∙ count))

    back3 : after n ms ms3 ≡ ms3
    back3 = slice_back n ms ms3 count count3

    pub over3 : (s3 : List (Worker J W)) → s3 ≡ after n ms ms3 → IsOver ms3 → IsOver s3
    over3 s3 at3 over = subst IsOver (sym (at3 ∙ back3)) over

    module _ (s3 ms4 : List (Worker J W)) (jobs : List J) (at3 : s3 ≡ after n ms ms3) (moved : AllMoved s3 [] ms4 jobs) where
      moved' : AllMoved ms3 [] ms4 jobs
      moved' = subst (λ xs. AllMoved xs [] ms4 jobs) (at3 ∙ back3) moved

      count4 : length ms4 ≡ n
      count4 = same_count ms3 ms4 moved'.selves ∙ count3

      back4 : after n (after n ms ms3) ms4 ≡ ms4
      back4 = slice_back n (after n ms ms3) ms4 (ap length back3 ∙ count3) count4

      pub still_as_many : length (after n (after n ms ms3) ms4) ≡ n
      still_as_many = ap length back4 ∙ count4

      pub turned_or_left : (first : J) (owns owns' : List W) → AreStarted owns first ms → All HasNothingLeft ms4
          → (jobs ≡ []) ⊎ (list_any (λ (m : Worker J W). m.halted) s3 ≡ true)
          → owns' ≡ map (λ (m : Worker J W). m.own) (after n (after n ms ms3) ms4) → TurnedOrLeft turned first owns jobs owns'
      turned_or_left first owns owns' start none halted is =
          whole_run turned first owns (map no_turns ms) ms ms3 ms4 jobs owns' (begun turned owns first ms start) ran' moved' none
          (subst (λ xs. (jobs ≡ []) ⊎ (list_any (λ (m : Worker J W). m.halted) xs ≡ true)) (at3 ∙ back3) halted)
          (is ∙ ap (map (λ (m : Worker J W). m.own)) back4)
