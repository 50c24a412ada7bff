-- The jobs of a run, from its start to its end.
use Rattle.std.proofs.Common.{◌≡◌, ℕ, zero, suc, ◌+◌, ◌<◌, Bool, true, false, ◌||◌, ◌⊎◌, List, [], ◌∷◌}
use Rattle.std.proofs.Common.{◌++◌, length, get_or, map, All, inl, inr, sym, refl, ap, ◌∙◌, subst, arith}
use Rattle.std.proofs.lemmas.List.Elements.{All-cons, All-tail}
use Rattle.std.specs.List.{list_any}
use Rattle.std.specs.Option.{option_to_list}
use Rattle.std.proofs.lemmas.List.{get_or-map, length-map}
use Rattle.std.proofs.lemmas.Bool.{or_cases, or_left, or_right, or_parts}
use Rattle.steal_pool.specs.declared.deque.Victim.{Victim}
use Rattle.steal_pool.specs.declared.worker.Worker.{Worker}
use Rattle.steal_pool.specs.Balance.{weigh}
use Rattle.steal_pool.specs.Deques.{own_tally, victim_tally}
use Rattle.steal_pool.specs.Thieves.{Id, victim_frame, frame, put_weight, taken_weight}
use Rattle.steal_pool.specs.Turns.{Turn, Chain, StopsAtHalt, turned_weight, given_weight}
use Rattle.steal_pool.specs.Workers.{held_weight, Worked, IsStopped, LeavesOnlyIfStopped, HasNothingLeft}
use Rattle.steal_pool.specs.AllWorkers.{AllWorked, IsWhole, AreGathered, AllMoved, RanAll, IsOver, self_of}
use Rattle.steal_pool.specs.Runs.{SomeHalts, TurnedOrLeft}
use Rattle.steal_pool.proofs.Rule.{weigh-append, whole_empty}
use Rattle.steal_pool.proofs.Lists.{map_nil, at_same, weigh_none}
use Rattle.steal_pool.proofs.Shifting.{some_of}
use Rattle.steal_pool.proofs.Working.{chain_append, stops_append, halts_of, ends_of, halts_left, halts_right}

any_map : {A B : Type 0} (f : A → B) (p : B → Bool) (xs : List A) → list_any (λ x. p (f x)) xs ≡ list_any p (map f xs)
any_map f p [] = refl
any_map f p (x ∷ xs) = ap (λ b. p (f x) || b) (any_map f p xs)

pub any_same : {A B : Type 0} (f : A → B) (p : B → Bool) (xs ys : List A) → map f xs ≡ map f ys → list_any (λ x. p (f x)) xs ≡ list_any (λ x. p (f x)) ys
any_same f p xs ys e = any_map f p xs ∙ (ap (list_any p) e ∙ sym (any_map f p ys))

none_of : {A : Type 0} (p : A → Bool) (xs : List A) → list_any p xs ≡ false → (k : ℕ) (d : A) → k < length xs → p (get_or xs k d) ≡ false
none_of p [] e k d l = absurd (omega arith)
none_of p (x ∷ xs) e zero d l = (or_parts (p x) (list_any p xs) e).0
none_of p (x ∷ xs) e (suc k) d l = none_of p xs (or_parts (p x) (list_any p xs) e).1 k d (omega arith)

-- two weights that agree on each element
weigh_alike : {A : Type 0} (f g : A → ℕ) (xs : List A) → ((k : ℕ) (d : A) → k < length xs → f (get_or xs k d) ≡ g (get_or xs k d)) → weigh f xs ≡ weigh g xs
weigh_alike f g [] same = refl
weigh_alike f g (x ∷ xs) same =
    let here : f x ≡ g x = same 0 x (omega arith) in
    let there = weigh_alike f g xs (λ k d l. same (suc k) d (omega arith)) in omega arith

module _ {J W : Type 0} (turned : ℕ → W → J → List J → Bool → W → Type 0) where
  -- what stands between the start of a run and now: turns of each worker, and where all jobs are
  pub record Account (first : J) (owns : List W) (runs : List (List (Turn J))) (ms : List (Worker J W)) (out : List J) : Type 0 where
    pub workers : length runs ≡ length ms
    pub count : length owns ≡ length ms
    pub numbers : (i : ℕ) (d : Worker J W) → i < length ms → (get_or ms i d).number ≡ i
    pub chains : (i : ℕ) (o : W) (e : List (Turn J)) (d : Worker J W) → i < length ms → Chain (turned i) (get_or owns i o) (get_or runs i e) (get_or ms i d).own
    pub stops : (i : ℕ) (e : List (Turn J)) (d : Worker J W) → i < length ms → StopsAtHalt false (get_or runs i e) (get_or ms i d).halted
    pub halted : list_any (λ (m : Worker J W). m.halted) ms ≡ true → SomeHalts runs
    pub balance : (h : J → ℕ) → h first + weigh (given_weight h) runs + weigh (λ m. taken_weight h m.thief) ms
        ≡ weigh (turned_weight h) runs + weigh (λ m. put_weight h m.thief) ms + weigh (held_weight h) ms + weigh h out

  -- the turns of each worker with those that it then did
  pub record Extended (ms ms' : List (Worker J W)) (runs runs' : List (List (Turn J))) : Type 0 where
    pub count : length runs' ≡ length ms
    pub numbers : (i : ℕ) (d : Worker J W) → i < length ms → (get_or ms' i d).number ≡ (get_or ms i d).number
    pub more : (i : ℕ) (d : Worker J W) (e : List (Turn J)) → i < length ms
        → (ts : List (Turn J)) × (get_or runs' i e ≡ get_or runs i e ++ ts) × Chain (turned (get_or ms i d).number) (get_or ms i d).own ts (get_or ms' i d).own
        × StopsAtHalt (get_or ms i d).halted ts (get_or ms' i d).halted
    pub halted : list_any (λ (m : Worker J W). m.halted) ms' ≡ true → (list_any (λ (m : Worker J W). m.halted) ms ≡ true) ⊎ SomeHalts runs'
    pub still_halted : SomeHalts runs → SomeHalts runs'
    pub balance : (h : J → ℕ) → weigh (held_weight h) ms + weigh (given_weight h) runs' + weigh (λ m. taken_weight h m.thief) ms' + weigh
        (λ m. put_weight h m.thief) ms + weigh (turned_weight h) runs
        ≡ weigh (given_weight h) runs + weigh (turned_weight h) runs' + weigh (held_weight h) ms' + weigh (λ m. taken_weight h m.thief) ms + weigh
        (λ m. put_weight h m.thief) ms'

  pub extend : (ms ms' : List (Worker J W)) (runs : List (List (Turn J))) → length ms' ≡ length ms → length runs ≡ length ms
      → ((i : ℕ) (d : Worker J W) → i < length ms → Worked turned (get_or ms i d) [] (get_or ms' i d) [])
      → (runs' : List (List (Turn J))) × Extended ms ms' runs runs'
  extend [] [] [] len len' each = (
    [],
    record {
      count = refl;
      numbers = λ i d l. absurd (omega arith);
      more = λ i d e l. absurd (omega arith);
      halted = λ e. inl e;
      still_halted = λ s. s;
      balance = λ h. refl;
    },
  )
  extend [] (m' ∷ ms') runs len len' each = absurd (omega arith)
  extend (m ∷ ms) [] runs len len' each = absurd (omega arith)
  extend [] [] (r ∷ runs) len len' each = absurd (omega arith)
  extend (m ∷ ms) (m' ∷ ms') [] len len' each = absurd (omega arith)
  extend (m ∷ ms) (m' ∷ ms') (r ∷ runs) len len' each =
      let w = each 0 m (omega arith) in
      let rec = extend ms ms' runs (omega arith) (omega arith) (λ i d l. each (suc i) d (omega arith)) in
      let x = rec.1 in
      let r' = r ++ w.turns in (
        r' ∷ rec.0,
        record {
          count = let c = x.count in omega arith;
          numbers = λ i d l. number m m' ms ms' w.number x.numbers i d l;
          more = λ i d e l. at_more m m' ms ms' r runs w.turns rec.0 w.chain w.stops x.more i d e l;
          halted = λ e. elim (or_cases m'.halted (list_any (λ (m : Worker J W). m.halted) ms') e) [
            | inl here ↦
                elim (halts_of m.halted m'.halted w.turns w.stops here) [
                  | inl f ↦
                      inl (or_left m.halted (list_any (λ (m : Worker J W). m.halted) ms) f)
                  | inr s ↦ inr (inl (halts_right r w.turns s))
                ]
            | inr there ↦ elim (x.halted there) [ inl f ↦ inl (or_right m.halted (list_any (λ (m : Worker J W). m.halted) ms) f) | inr s ↦ inr (inr s) ]
          ];
          still_halted = λ s. elim s [ inl here ↦ inl (halts_left r w.turns here) | inr there ↦ inr (x.still_halted there) ];
          balance = λ h.
              let a = w.balance h in
              let b = x.balance h in
              omega (arith, a, b, weigh-append (λ (t : Turn J). h t.job) r w.turns, weigh-append (λ (t : Turn J). weigh h t.more) r w.turns);
        },
      )
    where
      number : (m m' : Worker J W) (ms ms' : List (Worker J W)) → m'.number ≡ m.number
          → ((i : ℕ) (d : Worker J W) → i < length ms → (get_or ms' i d).number ≡ (get_or ms i d).number)
          → (i : ℕ) (d : Worker J W) → i < length (m ∷ ms) → (get_or (m' ∷ ms') i d).number ≡ (get_or (m ∷ ms) i d).number
      number m m' ms ms' here there zero d l = here
      number m m' ms ms' here there (suc i) d l = there i d (omega arith)

      at_more : (m m' : Worker J W) (ms ms' : List (Worker J W)) (r : List (Turn J)) (runs : List (List (Turn J))) (ts : List (Turn J))
          (runs' : List (List (Turn J)))
          → Chain (turned m.number) m.own ts m'.own → StopsAtHalt m.halted ts m'.halted
          → ((i : ℕ) (d : Worker J W) (e : List (Turn J)) → i < length ms
          → (ts : List (Turn J)) × (get_or runs' i e ≡ get_or runs i e ++ ts)
          × Chain (turned (get_or ms i d).number) (get_or ms i d).own ts (get_or ms' i d).own
          × StopsAtHalt (get_or ms i d).halted ts (get_or ms' i d).halted)
          → (i : ℕ) (d : Worker J W) (e : List (Turn J)) → i < length (m ∷ ms)
          → (us : List (Turn J)) × (get_or ((r ++ ts) ∷ runs') i e ≡ get_or (r ∷ runs) i e ++ us)
          × Chain (turned (get_or (m ∷ ms) i d).number) (get_or (m ∷ ms) i d).own us (get_or (m' ∷ ms') i d).own
          × StopsAtHalt (get_or (m ∷ ms) i d).halted us (get_or (m' ∷ ms') i d).halted
      at_more m m' ms ms' r runs ts runs' here stops there zero d e l = (ts, refl, here, stops)
      at_more m m' ms ms' r runs ts runs' here stops there (suc i) d e l = there i d e (omega arith)

  -- the workers did turns
  pub worked_on : (first : J) (owns : List W) (runs : List (List (Turn J))) (ms ms' : List (Worker J W)) (out : List J) → AllWorked turned ms ms'
      → Account first owns runs ms out
      → (runs' : List (List (Turn J))) × Account first owns runs' ms' out
  worked_on first owns runs ms ms' out (len, each) acc =
      let ext = extend ms ms' runs len acc.workers each in
      let x = ext.1 in (
        ext.0,
        record {
          workers = x.count ∙ sym len;
          count = acc.count ∙ sym len;
          numbers = λ i d l. let b : i < length ms = omega arith in x.numbers i d b ∙ acc.numbers i d b;
          chains = λ i o e d l.
              let b : i < length ms = omega arith in
              let m = x.more i d e b in
              subst (λ ts. Chain (turned i) (get_or owns i o) ts (get_or ms' i d).own) (sym m.1)
              (chain_append (turned i) (get_or owns i o) (get_or ms i d).own (get_or ms' i d).own (get_or runs i e) m.0 (acc.chains i o e d b)
              (subst (λ n. Chain (turned n) (get_or ms i d).own m.0 (get_or ms' i d).own) (acc.numbers i d b) m.2));
          stops = λ i e d l.
              let b : i < length ms = omega arith in
              let m = x.more i d e b in
              subst (λ ts. StopsAtHalt false ts (get_or ms' i d).halted) (sym m.1)
              (stops_append false (get_or ms i d).halted (get_or ms' i d).halted (get_or runs i e) m.0 (acc.stops i e d b) m.3);
          halted = λ e. elim (x.halted e) [ inl f ↦ x.still_halted (acc.halted f) | inr s ↦ s ];
          balance = λ h. let a = acc.balance h in let b = x.balance h in omega arith;
        },
      )

  -- the same turns, with the workers as they are after what turned no job
  selves_kept : (first : J) (owns : List W) (runs : List (List (Turn J))) (ms ms' : List (Worker J W)) (out out' : List J) → map self_of ms' ≡ map self_of ms
      → ((h : J → ℕ) → weigh h out + weigh (held_weight h) ms + weigh (λ m. taken_weight h m.thief) ms' + weigh (λ m. put_weight h m.thief) ms
      ≡ weigh h out' + weigh (held_weight h) ms' + weigh (λ m. taken_weight h m.thief) ms + weigh (λ m. put_weight h m.thief) ms')
      → Account first owns runs ms out → Account first owns runs ms' out'
  selves_kept first owns runs ms ms' out out' selves moved acc =
      let len : length ms' ≡ length ms = sym (length-map ms' self_of) ∙ (ap length selves ∙ length-map ms self_of) in
      record {
        workers = acc.workers ∙ sym len;
        count = acc.count ∙ sym len;
        numbers = λ i d l. let b : i < length ms = omega arith in ap (λ (x : ℕ × W × Bool). x.0) (at_same self_of ms' ms i d d l selves) ∙ acc.numbers i d b;
        chains = λ i o e d l. let b : i < length ms = omega arith in
            subst (λ v. Chain (turned i) (get_or owns i o) (get_or runs i e) v) (sym (ap (λ (x : ℕ × W × Bool). x.1) (at_same self_of ms' ms i d d l selves)))
            (acc.chains i o e d b);
        stops = λ i e d l. let b : i < length ms = omega arith in
            subst (λ v. StopsAtHalt false (get_or runs i e) v) (sym (ap (λ (x : ℕ × W × Bool). x.2) (at_same self_of ms' ms i d d l selves)))
            (acc.stops i e d b);
        halted = λ e. acc.halted (sym (any_same self_of (λ (x : ℕ × W × Bool). x.2) ms' ms selves) ∙ e);
        balance = λ h. let a = acc.balance h in let b = moved h in omega arith;
      }

  pub gathered_on : (first : J) (owns : List W) (runs : List (List (Turn J))) (ms ms' : List (Worker J W)) (out : List J) → AreGathered ms ms'
      → Account first owns runs ms out → Account first owns runs ms' out
  gathered_on first owns runs ms ms' out g =
      selves_kept first owns runs ms ms' out out g.selves (λ h. let a = g.held h in let b = g.put h in let c = g.taken h in omega arith)

  pub drained_on : (first : J) (owns : List W) (runs : List (List (Turn J))) (ms ms' : List (Worker J W)) (out out' : List J) → AllMoved ms out ms' out'
      → Account first owns runs ms out → Account first owns runs ms' out'
  drained_on first owns runs ms ms' out out' g = selves_kept first owns runs ms ms' out out' g.selves g.balance

  -- the end: nothing is left but what was drained
  pub settles : (first : J) (owns : List W) (runs : List (List (Turn J))) (ms : List (Worker J W)) (out : List J) (owns' : List W) → All HasNothingLeft ms
      → All IsWhole ms
      → owns' ≡ map (λ (m : Worker J W). m.own) ms → (out ≡ []) ⊎ (list_any (λ (m : Worker J W). m.halted) ms ≡ true) → Account first owns runs ms out
      → TurnedOrLeft turned first owns out owns'
  settles first owns runs ms out owns' bare whole is halted acc = record {
    runs = runs;
    workers = acc.workers ∙ sym acc.count;
    same_count = ap length is ∙ (length-map ms (λ (m : Worker J W). m.own) ∙ sym acc.count);
    chains = λ w d e l.
        let b : w < length ms = let c = acc.count in omega arith in
        let m = some_of ms w b in
        subst (λ v. Chain (turned w) (get_or owns w d) (get_or runs w e) v)
        (sym (ap (λ os. get_or os w d) is ∙ get_or-map (λ (m : Worker J W). m.own) ms w m d b)) (acc.chains w d e m b);
    each_once = λ h.
        let a = acc.balance h in
        let p = weigh_alike (λ (m : Worker J W). put_weight h m.thief) (λ (m : Worker J W). taken_weight h m.thief) ms
        (λ k d l. same_weight h (get_or ms k d) (bare k d l) (whole k d l)) in
        let z = weigh_none (held_weight h) ms (λ k d l. not_held h (get_or ms k d) (bare k d l)) in
        omega arith;
    ends = λ w e l. let b : w < length ms = let c = acc.workers in omega arith in let m =
        some_of ms w b in ends_of false (get_or ms w m).halted (get_or runs w e) (acc.stops w e m b);
    halted = elim halted [ inl none ↦ inl none | inr any ↦ inr (acc.halted any) ];
  }
    where
      same_weight : (h : J → ℕ) (m : Worker J W) → HasNothingLeft m → IsWhole m → put_weight h m.thief ≡ taken_weight h m.thief
      same_weight h m b w =
          let e = whole_empty (own_tally m.thief.own) w.0 b.2 h in
          let p = ap (weigh (λ (r : Victim J). weigh h (victim_tally r).put)) w.1 in
          let t = ap (weigh (λ (r : Victim J). weigh h (victim_tally r).taken)) w.1 in omega arith

      not_held : (h : J → ℕ) (m : Worker J W) → HasNothingLeft m → held_weight h m ≡ 0
      not_held h m b = let a = ap (λ o. weigh h (option_to_list o)) b.0 in let c = ap (weigh h) b.1 in omega arith

module _ {J W : Type 0} where
  -- whole workers stay whole while their passes stay
  pub whole_by_frames : (ms ms' : List (Worker J W)) → map (λ (m : Worker J W). frame m.thief) ms' ≡ map (λ (m : Worker J W). frame m.thief) ms
      → All IsWhole ms → All IsWhole ms'
  whole_by_frames ms ms' same whole k d l =
      let f : Worker J W → Id × ℕ × List (Id × ℕ) = λ m. frame m.thief in
      let len : length ms' ≡ length ms = sym (length-map ms' f) ∙ (ap length same ∙ length-map ms f) in
      let b : k < length ms = omega arith in
      let e = at_same f ms' ms k d d l same in
      let w = whole k d b in (
        ap (λ (x : Id × ℕ × List (Id × ℕ)). x.1) e ∙ w.0,
        map_nil victim_frame (get_or ms' k d).thief.victims.items
            (ap (λ (x : Id × ℕ × List (Id × ℕ)). x.2) e ∙ ap (map victim_frame) w.1),
      )

  pub whole_by_work : (turned : ℕ → W → J → List J → Bool → W → Type 0) (ms ms' : List (Worker J W)) → AllWorked turned ms ms' → All IsWhole ms
      → All IsWhole ms'
  whole_by_work turned ms ms' (len, each) whole k d l =
      let b : k < length ms = omega arith in
      let e = (each k d b).frames in
      let w = whole k d b in (
        ap (λ (x : Id × ℕ × List (Id × ℕ)). x.1) e ∙ w.0,
        map_nil victim_frame (get_or ms' k d).thief.victims.items
            (ap (λ (x : Id × ℕ × List (Id × ℕ)). x.2) e ∙ ap (map victim_frame) w.1),
      )

  pub still_pushed : (ms ms' : List (Worker J W)) → AreGathered ms ms' → All LeavesOnlyIfStopped ms → All LeavesOnlyIfStopped ms'
  still_pushed ms ms' g pushed k d l =
      let len : length ms' ≡ length ms = sym (length-map ms' self_of) ∙ (ap length g.selves ∙ length-map ms self_of) in
      let b : k < length ms = omega arith in
      let p = g.pushed k d b in
      let h = ap (λ (x : ℕ × W × Bool). x.2) (at_same self_of ms' ms k d d l g.selves) in
      elim (pushed k d b) [
        | inl none ↦ inl (ap (λ x. x.items) p.0 ∙ none)
        | inr stopped ↦ inr (elim stopped [ inl e ↦ inl (h ∙ e) | inr e ↦ inr (p.1 ∙ e) ])
      ]

  -- where nobody has stopped, nothing is left
  pub nothing_left : (ms : List (Worker J W)) → list_any (λ (m : Worker J W). m.halted) ms ≡ false → list_any (λ (m : Worker J W). m.refused) ms ≡ false
      → IsOver ms → All HasNothingLeft ms
  nothing_left ms no_halt no_refusal over =
      elim over [ inl stopped ↦ elim stopped [ inl e ↦ absurd (true_or_false _ e no_halt) | inr e ↦ absurd (true_or_false _ e no_refusal) ] | inr none ↦ none ]
    where
      true_or_false : (x : Bool) → x ≡ true → x ≡ false → ⊥
      true_or_false x e f = cc

  -- each worker has stopped or has nothing left
  pub over_of : (ms : List (Worker J W)) → All (λ (m : Worker J W). IsStopped m ⊎ HasNothingLeft m) ms → IsOver ms
  over_of [] all = inr (λ k d l. absurd (omega arith))
  over_of (m ∷ ms) all = elim (over_of ms (All-tail (λ (m : Worker J W). IsStopped m ⊎ HasNothingLeft m) m ms all)) [
    | inl stopped ↦
        inl
        (elim stopped [
          | inl e ↦ inl (or_right m.halted (list_any (λ (m : Worker J W). m.halted) ms) e)
          | inr e ↦
              inr (or_right m.refused (list_any (λ (m : Worker J W). m.refused) ms) e)
        ])
    | inr rest ↦ elim (all 0 m (omega arith)) [
      | inl stops ↦
          inl
          (elim stops [
            | inl e ↦ inl (or_left m.halted (list_any (λ (m : Worker J W). m.halted) ms) e)
            | inr e ↦
                inr (or_left m.refused (list_any (λ (m : Worker J W). m.refused) ms) e)
          ])
      | inr here ↦ inr (All-cons HasNothingLeft m ms here rest)
    ]
  ]

  -- what was done on all workers, and then the jobs that are left taken
  pub whole_run : (turned : ℕ → W → J → List J → Bool → W → Type 0) (first : J) (owns : List W) (runs : List (List (Turn J))) (ms ms3 ms4 : List (Worker J W))
      (out : List J) (owns' : List W)
      → Account turned first owns runs ms [] → RanAll turned ms ms3 → AllMoved ms3 [] ms4 out → All HasNothingLeft ms4
      → (out ≡ []) ⊎ (list_any (λ (m : Worker J W). m.halted) ms3 ≡ true)
      → owns' ≡ map (λ (m : Worker J W). m.own) ms4 → TurnedOrLeft turned first owns out owns'
  whole_run turned first owns runs ms ms3 ms4 out owns' begun (ms1, ms2, worked, gathered, rest) moved none halted is =
      let a = worked_on turned first owns runs ms ms1 [] worked begun in
      let b = gathered_on turned first owns a.0 ms1 ms2 [] gathered a.1 in
      let c = worked_on turned first owns a.0 ms2 ms3 [] rest b in
      let whole = whole_by_work turned ms2 ms3 rest gathered.whole in
      settles turned first owns c.0 ms4 out owns' none (whole_by_frames ms3 ms4 moved.frames whole) is
      (elim halted [ inl e ↦ inl e | inr e ↦ inr (any_same self_of (λ (x : ℕ × W × Bool). x.2) ms4 ms3 moved.selves ∙ e) ])
      (drained_on turned first owns c.0 ms3 ms4 [] out moved c.1)
