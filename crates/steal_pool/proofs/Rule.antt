-- Each move keeps the rule of a deque, and who has all parts knows the whole.
use Rattle.std.proofs.Common.{◌≡◌, ◌≢◌, ℕ, zero, suc, ◌+◌, ◌-◌, ◌<◌, ◌≤◌, List, [], ◌∷◌, ◌++◌, length, set, sym, refl, ap, ◌∙◌, subst, ⊎_elim, arith}
use mathlib.Core.Option.{some, some-ne-none, some-injective}
use lib.ListN.{get_elem?}
use Rattle.crossbeam_deque.specs.Tasks.{Pushes, Takes, Finds, FindsFew, Forks, Merges}
use Rattle.crossbeam_deque.proofs.Lists.{at_set, at_snoc}
use Rattle.steal_pool.specs.declared.tally.Tally.{Tally}
use Rattle.steal_pool.specs.Balance.{weigh, tally, with_put, with_taken, joined, IdleIsEmpty, Balanced, WasEmpty}

pub weigh-append : {A : Type 0} (h : A → ℕ) (xs ys : List A) → weigh h (xs ++ ys) ≡ weigh h xs + weigh h ys
weigh-append h [] ys = omega arith
weigh-append h (x ∷ xs) ys = omega (arith, weigh-append h xs ys)

-- the total after a change of one
total_set : {A : Type 0} (f : A → ℕ) (views : List A) (port : ℕ) (v w : A) → get_elem? views port ≡ some v
    → weigh f (set views port w) + f v ≡ weigh f views + f w
total_set f [] port v w e = absurd (some-ne-none v (sym e))
total_set f (x ∷ xs) zero v w e = let same : f x ≡ f v = ap f (some-injective _ _ e) in omega arith
total_set f (x ∷ xs) (suc port) v w e = omega (arith, total_set f xs port v w e)

idle_set : {J : Type 0} (views : List (Tally J)) (port : ℕ) (w : Tally J) → (w.parts ≡ 0 → (w.put ≡ []) × (w.taken ≡ [])) → IdleIsEmpty views
    → IdleIsEmpty (set views port w)
idle_set views port w idle old j u e none =
    ⊎_elim (λ (x : (j ≡ port) × (w ≡ u)). subst (λ (y : Tally _). y.parts ≡ 0 → (y.put ≡ []) × (y.taken ≡ [])) x.1 idle none)
    (λ (x : (j ≢ port) × (get_elem? views j ≡ some u)). old j u x.1 none) (at_set views port j w u e)

pub puts : {J : Type 0} (port : ℕ) (v : Tally J) (xs : List J) → 0 < v.parts → Pushes Balanced port v xs (λ w. w ≡ with_put v xs)
puts port v xs some_part items views b at =
    let w = with_put v xs in (
      w,
      (
        (let s = total_set (λ u. u.parts) views port v w at in let p = b.0 in omega arith),
        (λ h.
            let s = total_set (λ u. weigh h u.put) views port v w at in
            let t = total_set (λ u. weigh h u.taken) views port v w at in
            let p = b.1 h in
            omega (arith, weigh-append h v.put xs, weigh-append h items xs)),
        idle_set views port w (λ none. absurd (omega arith)) b.2,
      ),
      refl,
    )

pub takes : {J : Type 0} (port most : ℕ) (v : Tally J) → 0 < v.parts → Takes Balanced port v most (λ xs w. w ≡ with_taken v xs)
takes port most v some_part xs items views _ _ b at =
    let w = with_taken v xs in (
      w,
      (
        (let s = total_set (λ u. u.parts) views port v w at in let p = b.0 in omega arith),
        (λ h.
            let s = total_set (λ u. weigh h u.put) views port v w at in
            let t = total_set (λ u. weigh h u.taken) views port v w at in
            let p = b.1 h in
            omega (arith, weigh-append h v.taken xs, weigh-append h xs items)),
        idle_set views port w (λ none. absurd (omega arith)) b.2,
      ),
      refl,
    )

pub finds : {J : Type 0} (port : ℕ) (v : Tally J) → Finds Balanced port v (WasEmpty v)
finds port v views b at = (views, port, b, at)

pub finds_few : {J : Type 0} (port : ℕ) (v : Tally J) → FindsFew Balanced 0 port v (WasEmpty v)
finds_few {J} port v items views few b at =
    let none : items ≡ [] = empty items few in (views, port, subst (λ (is : List J). Balanced is views) none b, at)
  where
    empty : (is : List J) → length is ≤ 0 → is ≡ []
    empty [] _ = refl
    empty (x ∷ xs) l = absurd (omega arith)

pub forks : {J : Type 0} (port : ℕ) (v : Tally J) → 1 < v.parts → Forks Balanced port v (tally (v.parts - 1) v.put v.taken) (tally 1 [] [])
forks {J} port v two items views b at =
    let l = tally (v.parts - 1) v.put v.taken in
    let r : Tally J = tally 1 [] [] in
    let vs = set views port l in (
      (let s = total_set (λ u. u.parts) views port v l at in let p = b.0 in let a = weigh-append (λ (u : Tally J). u.parts) vs (r ∷ []) in omega arith),
      (λ h.
          let s = total_set (λ u. weigh h u.put) views port v l at in
          let t = total_set (λ u. weigh h u.taken) views port v l at in
          let p = b.1 h in
          omega (arith, weigh-append (λ (u : Tally J). weigh h u.put) vs (r ∷ []), weigh-append (λ (u : Tally J). weigh h u.taken) vs (r ∷ []))),
      λ j u e none. ⊎_elim (λ (x : get_elem? vs j ≡ some u). idle_set views port l (λ z. absurd (omega arith)) b.2 j u x none)
          (λ (x : r ≡ u). let one : 1 ≡ 0 = ap (λ (y : Tally J). y.parts) x ∙ none in absurd (omega arith)) (at_snoc vs r u j e),
    )

pub merges : {J : Type 0} (port : ℕ) (v : Tally J) (other : ℕ) (u : Tally J) → 0 < v.parts → Merges Balanced port v other u (joined v u) (tally 0 [] [])
merges {J} port v other u some_part items views b at two at' =
    let w = joined v u in
    let z : Tally J = tally 0 [] [] in
    let vs = set views port w in (
      (let s = total_set (λ y. y.parts) views port v w at in let t = total_set (λ y. y.parts) vs other u z at' in let p = b.0 in omega arith),
      (λ h.
          let s = total_set (λ y. weigh h y.put) views port v w at in
          let s' = total_set (λ y. weigh h y.put) vs other u z at' in
          let t = total_set (λ y. weigh h y.taken) views port v w at in
          let t' = total_set (λ y. weigh h y.taken) vs other u z at' in
          let p = b.1 h in
          omega (arith, weigh-append h v.put u.put, weigh-append h v.taken u.taken)),
      idle_set vs other z (λ _. (refl, refl)) (idle_set views port w (λ none. absurd (omega arith)) b.2),
    )

-- where the parts add up to 0, so does what each pass has put or taken
none_else : {J : Type 0} (f : Tally J → ℕ) → ((u : Tally J) → u.put ≡ [] → u.taken ≡ [] → f u ≡ 0) → (views : List (Tally J)) → IdleIsEmpty views
    → weigh (λ u. u.parts) views ≡ 0 → weigh f views ≡ 0
none_else f nil [] idle e = refl
none_else f nil (x ∷ xs) idle e =
    let here : x.parts ≡ 0 = omega arith in
    let x_nil = idle 0 x refl here in
    let fx = nil x x_nil.0 x_nil.1 in
    let rest = none_else f nil xs (λ j. idle (suc j)) (omega arith) in omega arith

at_most : {A : Type 0} (f : A → ℕ) (views : List A) (port : ℕ) (v : A) → get_elem? views port ≡ some v → f v ≤ weigh f views
at_most f [] port v e = absurd (some-ne-none v (sym e))
at_most f (x ∷ xs) zero v e = let same : f x ≡ f v = ap f (some-injective _ _ e) in omega arith
at_most f (x ∷ xs) (suc port) v e = omega (arith, at_most f xs port v e)

-- who has all parts is all that has put or taken
alone : {J : Type 0} (f : Tally J → ℕ) → ((u : Tally J) → u.put ≡ [] → u.taken ≡ [] → f u ≡ 0) → (views : List (Tally J)) (port : ℕ) (v : Tally J)
    → IdleIsEmpty views → get_elem? views port ≡ some v → weigh (λ u. u.parts) views ≡ v.parts → weigh f views ≡ f v
alone f nil [] port v idle e all = absurd (some-ne-none v (sym e))
alone f nil (x ∷ xs) zero v idle e all =
    let same : x.parts ≡ v.parts = ap (λ (y : Tally _). y.parts) (some-injective _ _ e) in
    let here : f x ≡ f v = ap f (some-injective _ _ e) in
    let rest = none_else f nil xs (λ j. idle (suc j)) (omega arith) in omega arith
alone f nil (x ∷ xs) (suc port) v idle e all =
    let most = at_most (λ (u : Tally _). u.parts) xs port v e in
    let none : x.parts ≡ 0 = omega arith in
    let x_nil = idle 0 x refl none in
    let fx = nil x x_nil.0 x_nil.1 in
    let rest = alone f nil xs port v (λ j. idle (suc j)) e (omega arith) in omega arith

-- who has all parts and saw the deque empty took all that it had put
pub whole_empty : {J : Type 0} (v : Tally J) → v.parts ≡ 65 → WasEmpty v → (h : J → ℕ) → weigh h v.put ≡ weigh h v.taken
whole_empty v all (views, port, b, at) h =
    let p = b.1 h in
    let parts = b.0 in
    let put = alone (λ u. weigh h u.put) (λ u p t. ap (weigh h) p) views port v b.2 at (omega arith) in
    let taken = alone (λ u. weigh h u.taken) (λ u p t. ap (weigh h) t) views port v b.2 at (omega arith) in omega arith

pub begins : {J : Type 0} → Balanced {J = J} [] (tally 65 [] [] ∷ [])
begins {J} = (refl, (λ h. refl), λ port v e none. absurd (first port v e none))
  where
    first : (port : ℕ) (v : Tally J) → get_elem? (tally 65 [] [] ∷ []) port ≡ some v → v.parts ≡ 0 → ⊥
    first zero v e none = let same : 65 ≡ v.parts = ap (λ (y : Tally J). y.parts) (some-injective _ _ e) in omega arith
    first (suc port) v e none = some-ne-none v (sym e)
