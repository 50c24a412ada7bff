-- The workers of a run are made one after another, and their jobs are taken one after another.
use Rattle.std.proofs.Common.{◌≡◌, ◌≢◌, ℕ, ◌+◌, ◌<◌, ◌≤◌, false, List, [], ◌∷◌, ◌++◌, length, set, get_or, map}
use Rattle.std.proofs.Common.{All, None, inl, inr, sym, refl, ap, ◌∙◌, subst, arith, append_assoc, length-append}
use Rattle.std.proofs.lemmas.Bool.{cases_lt, cases_eq}
use Rattle.std.proofs.lemmas.List.{get_or-set_same, get_or-set_other, length-map, map-append, append-nil, get_or_default}
use Rattle.std.proofs.Math.ListN.{get_or-append}
use Rattle.std.proofs.Math.Seq.{map-set_same, get_or-append_seam}
use Rattle.steal_pool.specs.declared.thief.Thief.{Thief}
use Rattle.steal_pool.specs.declared.worker.Worker.{Worker}
use Rattle.steal_pool.specs.Thieves.{frame, put_weight, taken_weight, AreNew}
use Rattle.steal_pool.specs.Workers.{held_weight, Moved}
use Rattle.steal_pool.specs.AllWorkers.{self_of, AllMoved, AreNewWorkers}
use Rattle.steal_pool.proofs.Rule.{weigh-append}
use Rattle.steal_pool.proofs.Lists.{weigh-set, All-snoc}

module _ {J W : Type 0} where
  abbrev pub IsFree : Worker J W → Type 0
  IsFree m = (m.next ≡ None) × (m.left.items ≡ []) × (m.halted ≡ false)

  -- the first workers were made
  pub record Enrolled (owns0 : List W) (thieves0 : List (Thief J)) (ms : List (Worker J W)) (owns : List W) (thieves : List (Thief J)) : Type 0 where
    pub values : map (λ (m : Worker J W). m.own) ms ++ owns ≡ owns0
    pub passes : map (λ (m : Worker J W). m.thief) ms ++ thieves ≡ thieves0
    pub numbers : (i : ℕ) (d : Worker J W) → i < length ms → (get_or ms i d).number ≡ i
    pub free : All IsFree ms

  pub none_enrolled : (owns : List W) (thieves : List (Thief J)) → Enrolled owns thieves [] owns thieves
  none_enrolled owns thieves = record { values = refl; passes = refl; numbers = λ i d l. absurd (omega arith); free = λ i d l. absurd (omega arith) }

  pub one_enrolled : (owns0 : List W) (thieves0 : List (Thief J)) (ms : List (Worker J W)) (owns owns' : List W) (thieves thieves' : List (Thief J))
      (m : Worker J W)
      → owns ≡ m.own ∷ owns' → thieves ≡ m.thief ∷ thieves' → m.number ≡ length ms → IsFree m → Enrolled owns0 thieves0 ms owns thieves
      → Enrolled owns0 thieves0 (ms ++ m ∷ []) owns' thieves'
  one_enrolled owns0 thieves0 ms owns owns' thieves thieves' m is is' number free e =
      let f : Worker J W → W = λ m. m.own in
      let t : Worker J W → Thief J = λ m. m.thief in
      record {
        values = (λ i. map-append f ms (m ∷ []) i ++ owns') ∙ (append_assoc (map f ms) (m.own ∷ []) owns' ∙ (ap (λ xs. map f ms ++ xs) (sym is) ∙ e.values));
        passes = (λ i. map-append t ms (m ∷ []) i ++ thieves')
            ∙ (append_assoc (map t ms) (m.thief ∷ []) thieves' ∙ (ap (λ xs. map t ms ++ xs) (sym is') ∙ e.passes));
        numbers = λ i d l. elim (cases_eq i (length ms)) [
          | inl s ↦ subst (λ j. (get_or (ms ++ m ∷ []) j d).number ≡ j) (sym s) (ap (λ (x : Worker J W). x.number) (get_or-append_seam ms m [] d) ∙ number)
          | inr n ↦ let b : i < length ms = let a =
              length-append ms (m ∷ []) in omega arith in ap (λ (x : Worker J W). x.number) (get_or-append ms (m ∷ []) d i b) ∙ e.numbers i d b
        ];
        free = All-snoc IsFree ms m e.free free;
      }

  pub enrolled_counts : (owns0 : List W) (thieves0 : List (Thief J)) (ms : List (Worker J W)) (owns : List W) (thieves : List (Thief J))
      → Enrolled owns0 thieves0 ms owns thieves
      → (length ms + length owns ≡ length owns0) × (length ms + length thieves ≡ length thieves0)
  enrolled_counts owns0 thieves0 ms owns thieves e =
      let f : Worker J W → W = λ m. m.own in
      let t : Worker J W → Thief J = λ m. m.thief in (
        (let a = ap length e.values in omega (arith, length-append (map f ms) owns, length-map ms f)),
        (let a = ap length e.passes in omega (arith, length-append (map t ms) thieves, length-map ms t)),
      )

  pub all_enrolled : (owns0 : List W) (thieves0 : List (Thief J)) (ms : List (Worker J W)) (owns : List W) (thieves : List (Thief J)) → owns ≡ []
      → thieves ≡ [] → length ms ≤ 64 → 0 < length ms → AreNew thieves0
      → Enrolled owns0 thieves0 ms owns thieves → AreNewWorkers owns0 ms
  all_enrolled owns0 thieves0 ms owns thieves none none' few some new e =
      let f : Worker J W → W = λ m. m.own in
      let t : Worker J W → Thief J = λ m. m.thief in
      record {
        values = sym (append-nil (map f ms)) ∙ (ap (λ xs. map f ms ++ xs) (sym none) ∙ e.values);
        thieves = subst AreNew (sym (sym (append-nil (map t ms)) ∙ (ap (λ xs. map t ms ++ xs) (sym none') ∙ e.passes))) new;
        workers = e.numbers;
        free = e.free;
        few = few;
        some = some;
      }

  -- a worker's jobs were taken
  pub no_group : (ms : List (Worker J W)) (xs : List J) → AllMoved ms xs ms xs
  no_group ms xs = record { selves = refl; frames = refl; balance = λ h. refl }

  pub drained_one : (ms0 ms : List (Worker J W)) (xs ys zs : List J) (k : ℕ) (m : Worker J W) → k < length ms → AllMoved ms0 xs ms ys
      → Moved (get_or ms k m) ys m zs → AllMoved ms0 xs (set ms k m) zs
  drained_one ms0 ms xs ys zs k m l g p = record {
    selves = map-set_same self_of ms k m m (λ i. (p.number i, p.own i, p.halted i)) ∙ g.selves;
    frames = map-set_same (λ (x : Worker J W). frame x.thief) ms k m m p.frames ∙ g.frames;
    balance = λ h.
        let a = p.balance h in
        let b = g.balance h in
        let s = weigh-set (held_weight h) ms k m m l in
        let t = weigh-set (λ (x : Worker J W). taken_weight h x.thief) ms k m m l in
        let u = weigh-set (λ (x : Worker J W). put_weight h x.thief) ms k m m l in
        omega arith;
  }

  pub bare_more : (P : Worker J W → Type 0) (ms : List (Worker J W)) (k : ℕ) (m : Worker J W) → k < length ms → P m
      → ((i : ℕ) (d : Worker J W) → i < k → P (get_or ms i d))
      → (i : ℕ) (d : Worker J W) → i < k + 1 → P (get_or (set ms k m) i d)
  bare_more P ms k m l here below i d b = elim (cases_eq i k) [
    | inl e ↦ subst (λ j. P (get_or (set ms k m) j d)) (sym e) (subst P (sym (get_or-set_same ms k m d l)) here)
    | inr n ↦ subst P (sym (get_or-set_other ms k i m d n)) (below i d (omega arith))
  ]

  -- what came out of a worker's tallies joins what came before
  pub joins : (m m' : Worker J W) (xs ys : List J) → Moved m [] m' ys → Moved m xs m' (xs ++ ys)
  joins m m' xs ys p =
      record { frames = p.frames; number = p.number; own = p.own; halted = p.halted; balance = λ h. let a = p.balance h in omega (arith, weigh-append h xs ys) }

  pub passes : (m m' : Worker J W) (xs : List J) → Moved m [] m' [] → Moved m xs m' xs
  passes m m' xs p = record { frames = p.frames; number = p.number; own = p.own; halted = p.halted; balance = λ h. let a = p.balance h in omega arith }

  pub drained_one_at : (ms0 ms : List (Worker J W)) (xs ys zs : List J) (k : ℕ) (e m : Worker J W) → k < length ms → AllMoved ms0 xs ms ys
      → Moved (get_or ms k e) ys m zs → AllMoved ms0 xs (set ms k m) zs
  drained_one_at ms0 ms xs ys zs k e m l g p = drained_one ms0 ms xs ys zs k m l g (subst (λ x. Moved x ys m zs) (get_or_default ms k e m l) p)

  -- one element after the other was changed
  pub done_more : (R : Worker J W → Worker J W → Type 0) (old ms : List (Worker J W)) (k : ℕ) (e m : Worker J W) → k < length ms → R (get_or ms k e) m
      → ((i : ℕ) (d : Worker J W) → k ≤ i → get_or ms i d ≡ get_or old i d)
      → ((i : ℕ) (d : Worker J W) → i < k → i < length old → R (get_or old i d) (get_or ms i d))
      → (i : ℕ) (d : Worker J W) → i < k + 1 → i < length old → R (get_or old i d) (get_or (set ms k m) i d)
  done_more R old ms k e m l here rest done i d b b' = elim (cases_eq i k) [
    | inl s ↦ subst (λ j. R (get_or old j d) (get_or (set ms k m) j d)) (sym s)
        (subst (R (get_or old k d)) (sym (get_or-set_same ms k m d l)) (subst (λ x. R x m) (get_or_default ms k e d l ∙ rest k d (omega arith)) here))
    | inr n ↦ subst (R (get_or old i d)) (sym (get_or-set_other ms k i m d n)) (done i d (omega arith) b')
  ]

  pub rest_more : (old ms : List (Worker J W)) (k : ℕ) (m : Worker J W) → ((i : ℕ) (d : Worker J W) → k ≤ i → get_or ms i d ≡ get_or old i d)
      → (i : ℕ) (d : Worker J W) → k + 1 ≤ i → get_or (set ms k m) i d ≡ get_or old i d
  rest_more old ms k m rest i d b = let n : i ≢ k = λ e. absurd (omega arith) in get_or-set_other ms k i m d n ∙ rest i d (omega arith)

  -- one element after the other was changed, and the others stand
  pub done_or_same : (R : Worker J W → Worker J W → Type 0) (old ms : List (Worker J W)) (k : ℕ) → ((m : Worker J W) → R m m)
      → ((i : ℕ) (d : Worker J W) → k ≤ i → get_or ms i d ≡ get_or old i d)
      → ((i : ℕ) (d : Worker J W) → i < k → i < length old → R (get_or old i d) (get_or ms i d)) → (i : ℕ) (d : Worker J W) → i < length old
      → R (get_or old i d) (get_or ms i d)
  done_or_same R old ms k same rest done i d l =
      elim (cases_lt i k) [ inl b ↦ done i d b l | inr b ↦ subst (R (get_or old i d)) (sym (rest i d b)) (same (get_or old i d)) ]
