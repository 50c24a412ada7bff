-- How a run starts.
use Rattle.std.proofs.Common.{◌≡◌, ℕ, zero, suc, ◌<◌, Bool, true, false, List, [], ◌∷◌, length, set}
use Rattle.std.proofs.Common.{get_or, map, All, Vec, Global, inl, sym, refl, ap, ◌∙◌, subst, arith}
use Rattle.std.proofs.lemmas.List.Folds.{list_any_none}
use Rattle.std.specs.Option.{option_to_list}
use Rattle.std.proofs.lemmas.List.{get_or-map, length-set, length-map}
use Rattle.std.proofs.Math.Seq.{map-set_same}
use Rattle.steal_pool.specs.declared.tally.Tally.{Tally}
use Rattle.steal_pool.specs.declared.deque.Victim.{Victim}
use Rattle.steal_pool.specs.declared.thief.Thief.{Thief}
use Rattle.steal_pool.specs.declared.worker.Worker.{Worker}
use Rattle.steal_pool.specs.Balance.{weigh, tally, with_put}
use Rattle.steal_pool.specs.Deques.{own_tally, own_id, victim_tally, victim_id}
use Rattle.steal_pool.specs.Thieves.{Id, victim_frame, frame, put_weight, taken_weight, HasMade, IsRow}
use Rattle.steal_pool.specs.Turns.{Turn, Chain, StopsAtHalt, turned_weight, given_weight}
use Rattle.steal_pool.specs.Workers.{held_weight, LeavesOnlyIfStopped}
use Rattle.steal_pool.specs.AllWorkers.{id_of, AllWorked, AreNewWorkers, AreStarted, HaveAllPasses}
use Rattle.steal_pool.proofs.Rule.{weigh-append}
use Rattle.steal_pool.proofs.Lists.{weigh-set, map_map, at_same, weigh_none, map_pointwise}
use Rattle.steal_pool.proofs.Gathering.{mark_of}
use Rattle.steal_pool.proofs.Accounts.{Account}

module _ {J : Type 0} where
  -- a new worker has put and taken nothing
  pub nothing_put : (h : J → ℕ) (n : ℕ) (ids : List Id) (t : Thief J) → HasMade n t.own × IsRow ids t.victims.items → put_weight h t ≡ 0
  nothing_put h n ids t new =
      let a = ap (λ (v : Tally J). weigh h v.put) new.0.0 in
      let b = weigh_none (λ (r : Victim J). weigh h (victim_tally r).put) t.victims.items (λ k d l. ap (λ (v : Tally J). weigh h v.put) (new.1.1 k d l).0) in
      omega arith

  pub nothing_taken : (h : J → ℕ) (n : ℕ) (ids : List Id) (t : Thief J) → HasMade n t.own × IsRow ids t.victims.items → taken_weight h t ≡ 0
  nothing_taken h n ids t new =
      let a = ap (λ (v : Tally J). weigh h v.taken) new.0.0 in
      let b = weigh_none (λ (r : Victim J). weigh h (victim_tally r).taken) t.victims.items
      (λ k d l. ap (λ (v : Tally J). weigh h v.taken) (new.1.1 k d l).0) in omega arith

  pub frames_of_row : (row : List (Victim J))
      → ((k : ℕ) (d : Victim J) → k < length row → (victim_tally (get_or row k d) ≡ tally 1 [] []) × ((get_or row k d).found_empty ≡ 0))
      → map victim_frame row ≡ map (λ (i : Id). (i, 1)) (map victim_id row)
  frames_of_row [] all = refl
  frames_of_row (r ∷ row) all =
      let one : (victim_tally r).parts ≡ 1 = ap (λ (v : Tally J). v.parts) (all 0 r (omega arith)).0 in
      let rest = frames_of_row row (λ k d l. all (suc k) d (omega arith)) in
      (λ i. (victim_id r, one i) ∷ rest i)

module _ {J W : Type 0} where
  thief_at : (owns : List W) (ms : List (Worker J W)) (start : AreNewWorkers owns ms) (k : ℕ) (d : Worker J W) → k < length ms
      → HasMade (length ms) (get_or ms k d).thief.own × IsRow start.thieves.0 (get_or ms k d).thief.victims.items
  thief_at owns ms start k d l =
      let f : Worker J W → Thief J = λ m. m.thief in
      let len = length-map ms f in
      let l' : k < length (map f ms) = omega (arith, len) in
      let P : ℕ → Thief J → Type 0 = λ n t. HasMade n t.own × IsRow start.thieves.0 t.victims.items in
      subst (λ t. P (length ms) t) (get_or-map f ms k d d.thief l) (subst (λ n. P n (get_or (map f ms) k d.thief)) len (start.thieves.2 k d.thief l'))

  -- no worker has done a turn
  abbrev pub no_turns : Worker J W → List (Turn J)
  no_turns m = []

  nil_at : (xs : List (Worker J W)) (k : ℕ) (d : List (Turn J)) → k < length (map no_turns xs) → get_or (map no_turns xs) k d ≡ []
  nil_at [] k d l = absurd (omega arith)
  nil_at (x ∷ xs) zero d l = refl
  nil_at (x ∷ xs) (suc k) d l = nil_at xs k d (omega arith)

  module _ (owns : List W) (ms : List (Worker J W)) (m : Worker J W) (first : J) (start : AreNewWorkers owns ms)
      (victims : m.thief.victims ≡ (get_or ms 0 m).thief.victims) (id : own_id m.thief.own ≡ own_id (get_or ms 0 m).thief.own)
      (put : own_tally m.thief.own ≡ with_put (own_tally (get_or ms 0 m).thief.own) (first ∷ []))
      (number : m.number ≡ (get_or ms 0 m).number) (own : m.own ≡ (get_or ms 0 m).own) (next' : m.next ≡ (get_or ms 0 m).next)
      (left : m.left ≡ (get_or ms 0 m).left) (halted : m.halted ≡ (get_or ms 0 m).halted) where
    passes_kept : HaveAllPasses (set ms 0 m)
    passes_kept =
        let ms1 = set ms 0 m in
        let len = length-set ms 0 m in
        let few = start.few in
        let frames_same : map (λ (x : Worker J W). frame x.thief) ms1 ≡ map (λ (x : Worker J W). frame x.thief) ms =
        map-set_same (λ (x : Worker J W). frame x.thief) ms 0 m m (λ i. (id i, (put i).parts, map victim_frame (victims i).items)) in
        let marks : map mark_of ms1 ≡ map mark_of ms = map-set_same mark_of ms 0 m m (λ i. (id i, 1)) in
        let ids : map id_of ms ≡ start.thieves.0 = map_map (λ (x : Worker J W). x.thief) (λ (t : Thief J). own_id t.own) ms ∙ start.thieves.1 in
        let mark_ids : map mark_of ms ≡ map (λ (i : Id). (i, 1)) start.thieves.0 =
        map_map id_of (λ (i : Id). (i, 1)) ms ∙ ap (map (λ (i : Id). (i, 1))) ids in (
          (omega arith),
          λ k d l.
              let b : k < length ms = omega arith in
              let new = thief_at owns ms start k d b in
              let e = at_same (λ (x : Worker J W). frame x.thief) ms1 ms k d d l frames_same in
              let parts = ap (λ (x : Id × ℕ × List (Id × ℕ)). x.1) e ∙ ap (λ (v : Tally J). v.parts) new.0.0 in (
                omega arith,
                ap (λ (x : Id × ℕ × List (Id × ℕ)). x.2) e
                    ∙ (frames_of_row (get_or ms k d).thief.victims.items new.1.1 ∙ (ap (map (λ (i : Id). (i, 1))) new.1.0 ∙ (sym mark_ids ∙ sym marks))),
              ),
        )

    pub started : AreStarted owns first (set ms 0 m)
    started =
        let now = get_or ms 0 m in
        let ms1 = set ms 0 m in
        let len = length-set ms 0 m in
        let p0 = λ (h : J → ℕ). weigh_none (λ (x : Worker J W). put_weight h x.thief) ms
        (λ k d l. nothing_put h (length ms) start.thieves.0 (get_or ms k d).thief (thief_at owns ms start k d l)) in
        let t0 = λ (h : J → ℕ). weigh_none (λ (x : Worker J W). taken_weight h x.thief) ms
        (λ k d l. nothing_taken h (length ms) start.thieves.0 (get_or ms k d).thief (thief_at owns ms start k d l)) in
        let h0 = λ (h : J → ℕ). weigh_none (held_weight h) ms
        (λ k d l. let f = start.free k d l in let a = ap (λ o. weigh h (option_to_list o)) f.0 in let b = ap (weigh h) f.1 in omega arith) in
        record {
          values = map-set_same (λ (x : Worker J W). x.own) ms 0 m m own ∙ start.values;
          numbers = λ i d l. at_same (λ (x : Worker J W). x.number) ms1 ms i d d l (map-set_same (λ (x : Worker J W). x.number) ms 0 m m number)
              ∙ start.workers i d (omega (arith, len));
          free = λ k d l.
              let f = start.free k d (omega (arith, len)) in (
                ap (λ x. x.items) (at_same (λ (x : Worker J W). x.left) ms1 ms k d d l (map-set_same (λ (x : Worker J W). x.left) ms 0 m m left)) ∙ f.1,
                at_same (λ (x : Worker J W). x.halted) ms1 ms k d d l (map-set_same (λ (x : Worker J W). x.halted) ms 0 m m halted) ∙ f.2,
              );
          passes = passes_kept;
          put = λ h.
              let s = weigh-set (λ (x : Worker J W). put_weight h x.thief) ms 0 m m start.some in
              let a = ap (λ (v : Tally J). weigh h v.put) put in
              let r = ap (λ (v : Vec (Victim J) Global). weigh (λ x. weigh h (victim_tally x).put) v.items) victims in
              omega (arith, p0 h, weigh-append h (own_tally now.thief.own).put (first ∷ []));
          taken = λ h.
              let s = weigh-set (λ (x : Worker J W). taken_weight h x.thief) ms 0 m m start.some in
              let a = ap (λ (v : Tally J). weigh h v.taken) put in
              let r = ap (λ (v : Vec (Victim J) Global). weigh (λ x. weigh h (victim_tally x).taken) v.items) victims in
              omega (arith, t0 h);
          held = λ h.
              let s = weigh-set (held_weight h) ms 0 m m start.some in
              let y = ap (λ o. weigh h (option_to_list o)) next' in
              let z = ap (λ l. weigh h l.items) left in
              omega (arith, h0 h);
        }

  -- the account of a run that has started
  pub begun : (turned : ℕ → W → J → List J → Bool → W → Type 0) (owns : List W) (first : J) (ms : List (Worker J W)) → AreStarted owns first ms
      → Account turned first owns (map no_turns ms) ms []
  begun turned owns first ms start =
      let none : Worker J W → List (Turn J) = no_turns in
      let values = start.values in
      record {
        workers = length-map ms none;
        count = sym (ap length values) ∙ length-map ms (λ (x : Worker J W). x.own);
        numbers = start.numbers;
        chains = λ i o e d l.
            subst (λ ts. Chain (turned i) (get_or owns i o) ts (get_or ms i d).own) (sym (get_or-map none ms i d e l))
            (ap (λ os. get_or os i o) (sym values) ∙ get_or-map (λ (x : Worker J W). x.own) ms i d o l);
        stops = λ i e d l. subst (λ ts. StopsAtHalt false ts (get_or ms i d).halted) (sym (get_or-map none ms i d e l)) (start.free i d l).1;
        halted = λ e. absurd (true_or_false _ e (list_any_none (λ (x : Worker J W). x.halted) ms (λ k d l. (start.free k d l).1)));
        balance = λ h.
            let given = weigh_none (given_weight h) (map none ms) (λ k d l. ap (given_weight h) (nil_at ms k d l)) in
            let turned' = weigh_none (turned_weight h) (map none ms) (λ k d l. ap (turned_weight h) (nil_at ms k d l)) in
            omega (arith, start.put h, start.taken h, start.held h);
      }
    where
      true_or_false : (x : Bool) → x ≡ true → x ≡ false → ⊥
      true_or_false x e f = cc

  pub none_stopped : (owns : List W) (first : J) (ms : List (Worker J W)) → AreStarted owns first ms → All LeavesOnlyIfStopped ms
  none_stopped owns first ms start k d l = inl (start.free k d l).0

  -- the passes stay where turns are made
  pub still_tied : (turned : ℕ → W → J → List J → Bool → W → Type 0) (ms ms' : List (Worker J W)) → AllWorked turned ms ms' → HaveAllPasses ms
      → HaveAllPasses ms'
  still_tied turned ms ms' (len, each) tied =
      let few = tied.0 in
      let marks : map mark_of ms' ≡ map mark_of ms = map_pointwise mark_of ms ms' len (λ k d l. (λ i. (((each k d l).frames i).0, 1))) in (
        omega arith,
        λ k d l.
            let b : k < length ms = omega arith in
            let e = (each k d b).frames in
            let was = tied.1 k d b in
            let parts = ap (λ (x : Id × ℕ × List (Id × ℕ)). x.1) e in
            let p = was.0 in
            (omega arith, ap (λ (x : Id × ℕ × List (Id × ℕ)). x.2) e ∙ (was.1 ∙ sym marks)),
      )
