-- The passes come back, one after another.
use Rattle.std.proofs.Common.{◌≡◌, ◌≢◌, ℕ, ◌+◌, ◌<◌, ◌≤◌, Bool, List, [], ◌∷◌, ◌++◌, length, set, get_or}
use Rattle.std.proofs.Common.{map, Vec, Global, inl, inr, sym, refl, ap, ◌∙◌, subst, arith, length-append}
use Rattle.std.proofs.lemmas.Bool.{cases_eq}
use Rattle.std.proofs.lemmas.List.{get_or-set_same, get_or-set_other, get_or-map, length-set, length-map, get_or_default}
use Rattle.std.proofs.Math.ListN.{get_or-append}
use Rattle.std.proofs.Math.Seq.{map-set_same, get_or-append_seam}
use Rattle.std.specs.Option.{option_to_list}
use Rattle.steal_pool.specs.declared.tally.Tally.{Tally}
use Rattle.steal_pool.specs.declared.deque.OwnDeque.{OwnDeque}
use Rattle.steal_pool.specs.declared.deque.Victim.{Victim}
use Rattle.steal_pool.specs.declared.worker.Worker.{Worker}
use Rattle.steal_pool.specs.Balance.{weigh, joined}
use Rattle.steal_pool.specs.Deques.{own_tally, own_id, victim_tally, victim_id}
use Rattle.steal_pool.specs.Thieves.{Id, victim_frame, put_weight, taken_weight}
use Rattle.steal_pool.specs.Workers.{held_weight}
use Rattle.steal_pool.specs.AllWorkers.{id_of, parts_of, self_of, rest_of, HaveAllPasses, AreGathered, IsReturned, Absorbs}
use Rattle.steal_pool.proofs.Rule.{weigh-append}
use Rattle.steal_pool.proofs.Lists.{weigh-set, map_through, at_same, weigh_same}

module _ {J W : Type 0} where
  -- a worker's own deque, as a pass to it with one part would show it
  abbrev pub mark_of : Worker J W → Id × ℕ
  mark_of m = (id_of m, 1)

  -- what a returned pass leaves as it is
  abbrev pub TookBack : Worker J W → Worker J W → Type 0
  TookBack old new = (new.thief.victims ≡ old.thief.victims) × (new.next ≡ old.next) × (new.left ≡ old.left) × (parts_of new ≡ parts_of old + 1)

  -- the passes behind `rest` came back
  pub record SoFar (old : List (Worker J W)) (row : List (Victim J)) (ms : List (Worker J W)) (rest : List (Victim J)) : Type 0 where
    pub count : length ms ≡ length old
    pub rests : map rest_of ms ≡ map rest_of old
    pub front : (k : ℕ) (r : Victim J) (d : Worker J W) → k < length rest → victim_frame (get_or rest k r) ≡ mark_of (get_or old k d)
    pub inside : length rest ≤ length old
    pub low : (k : ℕ) (d : Worker J W) → k < length rest → get_or ms k d ≡ get_or old k d
    pub high : (k : ℕ) (d : Worker J W) → length rest ≤ k → k < length old → TookBack (get_or old k d) (get_or ms k d)
    pub put : (h : J → ℕ) → weigh (λ m. put_weight h m.thief) ms + weigh (λ r. weigh h (victim_tally r).put) rest
        ≡ weigh (λ m. put_weight h m.thief) old + weigh (λ r. weigh h (victim_tally r).put) row
    pub taken : (h : J → ℕ) → weigh (λ m. taken_weight h m.thief) ms + weigh (λ r. weigh h (victim_tally r).taken) rest
        ≡ weigh (λ m. taken_weight h m.thief) old + weigh (λ r. weigh h (victim_tally r).taken) row

  pub starts : (old : List (Worker J W)) (row : List (Victim J)) → IsReturned old row → SoFar old row old row
  starts old row returned =
      let len : length row ≡ length old = sym (length-map row victim_frame) ∙ (ap length returned ∙ length-map old mark_of) in record {
        count = refl;
        rests = refl;
        front = λ k r d l. let e = mark_of d in let l' : k < length old = omega arith in
            sym (get_or-map victim_frame row k r e l) ∙ (ap (λ xs. get_or xs k e) returned ∙ get_or-map mark_of old k d e l');
        inside = omega arith;
        low = λ k d l. refl;
        high = λ k d a b. absurd (omega arith);
        put = λ h. refl;
        taken = λ h. refl;
      }

  -- the pass that comes back is to the deque of its place
  pub to_its_place : (old ms : List (Worker J W)) (row rest rest' : List (Victim J)) (r : Victim J) (d : Worker J W) → rest ≡ rest' ++ r ∷ []
      → SoFar old row ms rest → victim_id r ≡ id_of (get_or ms (length rest') d)
  to_its_place old ms row rest rest' r d is so =
      let n = length rest' in
      let l : n < length rest = let a = ap length is in omega (arith, a, length-append rest' (r ∷ [])) in
      let here : get_or rest n r ≡ r = ap (λ xs. get_or xs n r) is ∙ get_or-append_seam rest' r [] r in
      ap (λ x. victim_id x) (sym here) ∙ (ap (λ (x : Id × ℕ). x.0) (so.front n r d l) ∙ ap (λ m. id_of m) (sym (so.low n d l)))

  pub one_back : (old ms : List (Worker J W)) (row rest rest' : List (Victim J)) (r : Victim J) (m : Worker J W) → rest ≡ rest' ++ r ∷ []
      → SoFar old row ms rest
      → let now = get_or ms (length rest') m in
      m.thief.victims ≡ now.thief.victims → id_of m ≡ id_of now → own_tally m.thief.own ≡ joined (own_tally now.thief.own) (victim_tally r)
      → m.number ≡ now.number → m.own ≡ now.own → m.next ≡ now.next → m.left ≡ now.left → m.halted ≡ now.halted → m.refused ≡ now.refused
      → SoFar old row (set ms (length rest') m) rest'
  one_back old ms row rest rest' r m is so victims id tallies number own next' left halted refused =
      let n = length rest' in
      let now = get_or ms n m in
      let len = let a = ap length is in let b : length rest ≡ n + 1 = omega (arith, a, length-append rest' (r ∷ [])) in b in
      let l : n < length rest = omega arith in
      let inside : n < length ms = omega (arith, so.count, so.inside) in
      let one : (victim_tally r).parts ≡ 1 =
      ap (λ (x : Id × ℕ). x.1) (ap victim_frame (sym (ap (λ xs. get_or xs n r) is ∙ get_or-append_seam rest' r [] r)) ∙ so.front n r m l) in
      let more_parts : parts_of m ≡ parts_of now + 1 = ap (λ (v : Tally J). v.parts) tallies ∙ ap (λ p. parts_of now + p) one in
      let was : (d : Worker J W) → get_or ms n d ≡ get_or old n d = λ d. so.low n d l in
      let now_is : (d : Worker J W) → now ≡ get_or old n d = λ d. get_or_default ms n m d inside ∙ was d in
      record {
        count = length-set ms n m ∙ so.count;
        rests = map-set_same rest_of ms n m m (λ i. (id i, number i, own i, halted i, refused i)) ∙ so.rests;
        front = λ k x d b. ap victim_frame (sym (ap (λ xs. get_or xs k x) is ∙ get_or-append rest' (r ∷ []) x k b)) ∙ so.front k x d (omega arith);
        inside = omega (arith, so.inside);
        low = λ k d b. let other : k ≢ n = λ e. absurd (omega arith) in get_or-set_other ms n k m d other ∙ so.low k d (omega arith);
        high = λ k d from b. elim (cases_eq k n) [
          | inl e ↦ subst (λ j. TookBack (get_or old j d) (get_or (set ms n m) j d)) (sym e)
              (subst (TookBack (get_or old n d)) (sym (get_or-set_same ms n m d inside))
              (subst (λ z. TookBack z m) (now_is d) (victims, next', left, more_parts)))
          | inr other ↦ subst (TookBack (get_or old k d)) (sym (get_or-set_other ms n k m d other)) (so.high k d (omega arith) b)
        ];
        put = λ h. let w = weigh-set (λ x. put_weight h x.thief) ms n m m inside in let e = ap (weigh (λ x. weigh h (victim_tally x).put)) is in
            let a = ap (λ (v : Tally J). weigh h v.put) tallies in let b =
            ap (λ (v : Vec (Victim J) Global). weigh (λ x. weigh h (victim_tally x).put) v.items) victims in
            omega (
              arith,
              so.put h,
              w,
              e,
              a,
              b,
              weigh-append h (own_tally now.thief.own).put (victim_tally r).put,
              weigh-append (λ (x : Victim J). weigh h (victim_tally x).put) rest' (r ∷ []),
            );
        taken = λ h. let w = weigh-set (λ x. taken_weight h x.thief) ms n m m inside in let e = ap (weigh (λ x. weigh h (victim_tally x).taken)) is in
            let a = ap (λ (v : Tally J). weigh h v.taken) tallies in let b =
            ap (λ (v : Vec (Victim J) Global). weigh (λ x. weigh h (victim_tally x).taken) v.items) victims in
            omega (
              arith,
              so.taken h,
              w,
              e,
              a,
              b,
              weigh-append h (own_tally now.thief.own).taken (victim_tally r).taken,
              weigh-append (λ (x : Victim J). weigh h (victim_tally x).taken) rest' (r ∷ []),
            );
      }

  -- the same, with the worker as it was read
  pub one_back_at : (old ms : List (Worker J W)) (row rest rest' : List (Victim J)) (r : Victim J) (e m : Worker J W) (n : ℕ) → length rest' ≡ n
      → rest ≡ rest' ++ r ∷ [] → SoFar old row ms rest
      → let now = get_or ms n e in
      m.thief.victims ≡ now.thief.victims → id_of m ≡ id_of now → own_tally m.thief.own ≡ joined (own_tally now.thief.own) (victim_tally r)
      → m.number ≡ now.number → m.own ≡ now.own → m.next ≡ now.next → m.left ≡ now.left → m.halted ≡ now.halted → m.refused ≡ now.refused
      → SoFar old row (set ms n m) rest'
  one_back_at old ms row rest rest' r e m n at is so victims id tallies number own next' left halted refused =
      let inside : length rest' < length ms = let a = ap length is in let b = so.count in let c = so.inside in omega (arith, length-append rest' (r ∷ [])) in
      let same : get_or ms n e ≡ get_or ms (length rest') m = ap (λ k. get_or ms k e) (sym at) ∙ get_or_default ms (length rest') e m inside in
      subst (λ k. SoFar old row (set ms k m) rest') at (one_back old ms row rest rest' r m is so
      (victims ∙ ap (λ (x : Worker J W). x.thief.victims) same) (id ∙ ap id_of same)
      (tallies ∙ ap (λ (x : Worker J W). joined (own_tally x.thief.own) (victim_tally r)) same)
      (number ∙ ap (λ (x : Worker J W). x.number) same) (own ∙ ap (λ (x : Worker J W). x.own) same) (next' ∙ ap (λ (x : Worker J W). x.next) same)
      (left ∙ ap (λ (x : Worker J W). x.left) same) (halted ∙ ap (λ (x : Worker J W). x.halted) same) (refused ∙ ap (λ (x : Worker J W). x.refused) same))

  pub all_back : (old ms : List (Worker J W)) (row rest : List (Victim J)) → rest ≡ [] → SoFar old row ms rest → Absorbs old row ms
  all_back old ms row rest none so = record {
    rests = so.rests;
    others = λ k d l. let a = ap length none in so.high k d (omega arith) l;
    put = λ h. let e = ap (weigh (λ (r : Victim J). weigh h (victim_tally r).put)) none in omega (arith, so.put h, e);
    taken = λ h. let e = ap (weigh (λ (r : Victim J). weigh h (victim_tally r).taken)) none in omega (arith, so.taken h, e);
  }

  -- the passes of the first w workers came back
  pub record GatherSoFar (old ms : List (Worker J W)) (w : ℕ) : Type 0 where
    pub count : length ms ≡ length old
    pub few : length old ≤ 64
    pub selves : map self_of ms ≡ map self_of old
    pub marks : map mark_of ms ≡ map mark_of old
    pub kept : (k : ℕ) (d : Worker J W) → k < length old → let a = get_or old k d in let b =
        get_or ms k d in (b.next ≡ a.next) × (b.left ≡ a.left) × (b.refused ≡ a.refused)
    pub parts : (k : ℕ) (d : Worker J W) → k < length old → parts_of (get_or ms k d) + length old ≡ 65 + w
    pub rows : (k : ℕ) (d : Worker J W) → w ≤ k → k < length old → map victim_frame (get_or ms k d).thief.victims.items ≡ map mark_of old
    pub gone : (k : ℕ) (d : Worker J W) → k < w → k < length old → (get_or ms k d).thief.victims.items ≡ []
    pub put : (h : J → ℕ) → weigh (λ m. put_weight h m.thief) ms ≡ weigh (λ m. put_weight h m.thief) old
    pub taken : (h : J → ℕ) → weigh (λ m. taken_weight h m.thief) ms ≡ weigh (λ m. taken_weight h m.thief) old

  pub none_gathered : (old : List (Worker J W)) → HaveAllPasses old → GatherSoFar old old 0
  none_gathered old tied = record {
    count = refl;
    few = tied.0;
    selves = refl;
    marks = refl;
    kept = λ k d l. (refl, refl, refl);
    parts = λ k d l. (tied.1 k d l).0;
    rows = λ k d a l. (tied.1 k d l).1;
    gone = λ k d a l. absurd (omega arith);
    put = λ h. refl;
    taken = λ h. refl;
  }

  -- the passes of worker w are taken out of it
  pub is_returned : (old ms : List (Worker J W)) (w : ℕ) (m : Worker J W) → w < length old → GatherSoFar old ms w → id_of m ≡ id_of (get_or ms w m)
      → IsReturned (set ms w m) (get_or ms w m).thief.victims.items
  is_returned old ms w m l so id = so.rows w m (omega arith) l ∙ (sym so.marks ∙ sym (map-set_same mark_of ms w m m (λ i. (id i, 1))))

  pub row_back : (old ms ms2 : List (Worker J W)) (w : ℕ) (m : Worker J W) → w < length old → length ms2 ≡ length old → GatherSoFar old ms w
      → let now = get_or ms w m in
      m.thief.victims.items ≡ [] → m.thief.own ≡ now.thief.own → m.number ≡ now.number → m.own ≡ now.own → m.next ≡ now.next → m.left ≡ now.left
      → m.halted ≡ now.halted → m.refused ≡ now.refused
      → Absorbs (set ms w m) now.thief.victims.items ms2 → GatherSoFar old ms2 (w + 1)
  row_back old ms ms2 w m l len so none own_thief number own next' left halted refused ab =
      let now = get_or ms w m in
      let inside : w < length ms = omega (arith, so.count) in
      let ms1 = set ms w m in
      let len1 = length-set ms w m in
      let rest1 : map rest_of ms1 ≡ map rest_of ms = map-set_same rest_of ms w m m (λ i. (own_id (own_thief i), number i, own i, halted i, refused i)) in
      let rests = ab.rests ∙ rest1 in
      let there : (k : ℕ) (d : Worker J W) → k < length ms → (k ≢ w) → get_or ms1 k d ≡ get_or ms k d = λ k d b n. get_or-set_other ms w k m d n in
      let here : (d : Worker J W) → get_or ms1 w d ≡ m = λ d. get_or-set_same ms w m d inside in
      let now_is : (d : Worker J W) → now ≡ get_or ms w d = λ d. get_or_default ms w m d inside in
      record {
        count = len;
        few = so.few;
        selves = map_through rest_of (λ (x : Id × ℕ × W × Bool × Bool). (x.1, x.2, x.3)) ms2 ms rests ∙ so.selves;
        marks = map_through rest_of (λ (x : Id × ℕ × W × Bool × Bool). (x.0, 1)) ms2 ms rests ∙ so.marks;
        kept = λ k d b.
            let k1 : k < length ms1 = omega (arith, so.count, len1) in
            let km : k < length ms = omega (arith, so.count) in
            let k2 : k < length ms2 = omega (arith, len) in
            let o = ab.others k d k1 in
            let was = so.kept k d b in
            let f = ap (λ (x : Id × ℕ × W × Bool × Bool). x.4) (at_same rest_of ms2 ms k d d k2 rests) in
            elim (cases_eq k w) [
              | inl e ↦
                  let hm = ap (λ (x : Worker J W). x.next) (ap (λ j. get_or ms1 j d) e ∙ here d)
                  ∙ (next' ∙ (ap (λ (x : Worker J W). x.next) (now_is d) ∙ ap (λ j. (get_or ms j d).next) (sym e))) in
                  let lm = ap (λ (x : Worker J W). x.left) (ap (λ j. get_or ms1 j d) e ∙ here d)
                  ∙ (left ∙ (ap (λ (x : Worker J W). x.left) (now_is d) ∙ ap (λ j. (get_or ms j d).left) (sym e))) in
                  (o.1 ∙ (hm ∙ was.0), o.2 ∙ (lm ∙ was.1), f ∙ was.2)
              | inr n ↦ (
                o.1 ∙ (ap (λ (x : Worker J W). x.next) (there k d km n) ∙ was.0),
                o.2 ∙ (ap (λ (x : Worker J W). x.left) (there k d km n) ∙ was.1),
                f
                    ∙ was.2,
              )
            ];
        parts = λ k d b.
            let k1 : k < length ms1 = omega (arith, so.count, len1) in
            let km : k < length ms = omega (arith, so.count) in
            let o = ab.others k d k1 in
            let was = so.parts k d b in
            elim (cases_eq k w) [
              | inl e ↦ let same = ap parts_of (ap (λ j. get_or ms1 j d) e ∙ here d)
                  ∙ (ap (λ (t : OwnDeque J). (own_tally t).parts) own_thief ∙ (ap parts_of (now_is d) ∙ ap (λ j. parts_of (get_or ms j d)) (sym e))) in omega
                  (arith, o.3, was, same)
              | inr n ↦ let same = ap parts_of (there k d km n) in omega (arith, o.3, was, same)
            ];
        rows = λ k d a b.
            let k1 : k < length ms1 = omega (arith, so.count, len1) in
            let km : k < length ms = omega (arith, so.count) in
            let n : k ≢ w = λ e. absurd (omega arith) in
            ap (λ (v : Vec (Victim J) Global). map victim_frame v.items) ((ab.others k d k1).0 ∙ ap (λ (x : Worker J W). x.thief.victims) (there k d km n))
            ∙ so.rows k d (omega arith) b;
        gone = λ k d a b.
            let k1 : k < length ms1 = omega (arith, so.count, len1) in
            let km : k < length ms = omega (arith, so.count) in
            let o = ap (λ (v : Vec (Victim J) Global). v.items) (ab.others k d k1).0 in
            elim (cases_eq k w) [
              | inl e ↦ o ∙ (ap (λ (x : Worker J W). x.thief.victims.items) (ap (λ j. get_or ms1 j d) e ∙ here d) ∙ none)
              | inr n ↦ o ∙ (ap (λ (x : Worker J W). x.thief.victims.items) (there k d km n) ∙ so.gone k d (omega arith) b)
            ];
        put = λ h. let s = weigh-set (λ x. put_weight h x.thief) ms w m m inside in let z = ap (weigh (λ (x : Victim J). weigh h (victim_tally x).put)) none in
            let o = ap (λ (t : OwnDeque J). weigh h (own_tally t).put) own_thief in omega (arith, ab.put h, so.put h, s, z, o);
        taken = λ h. let s = weigh-set (λ x. taken_weight h x.thief) ms w m m inside in let z =
            ap (weigh (λ (x : Victim J). weigh h (victim_tally x).taken)) none in
            let o = ap (λ (t : OwnDeque J). weigh h (own_tally t).taken) own_thief in omega (arith, ab.taken h, so.taken h, s, z, o);
      }

  pub all_gathered : (old ms : List (Worker J W)) (w : ℕ) → length old ≤ w → w ≤ length old → GatherSoFar old ms w → AreGathered old ms
  all_gathered old ms w all most so = record {
    selves = so.selves;
    pushed = λ k d l. let was = so.kept k d l in (was.1, was.2);
    whole = λ k d l. let b : k < length old = omega (arith, so.count) in
        ((let p = so.parts k d b in omega (arith, p)), so.gone k d (omega arith) b);
    held = λ h. weigh_same (held_weight h) old ms so.count (λ k d l. let was = so.kept k d l in
        let a = ap (λ o. weigh h (option_to_list o)) was.0 in let b = ap (λ x. weigh h x.items) was.1 in omega (arith, a, b));
    put = so.put;
    taken = so.taken;
  }

  pub is_returned_at : (old ms : List (Worker J W)) (w : ℕ) (e m : Worker J W) (row : List (Victim J)) → w < length ms → GatherSoFar old ms w
      → id_of m ≡ id_of (get_or ms w e)
      → row ≡ (get_or ms w e).thief.victims.items → IsReturned (set ms w m) row
  is_returned_at old ms w e m row l so id is =
      let b : w < length old = let c = so.count in omega arith in
      ap (map victim_frame) is ∙ (so.rows w e (omega arith) b ∙ (sym so.marks ∙ sym (map-set_same mark_of ms w m e (λ i. (id i, 1)))))

  pub row_back_at : (old ms ms2 : List (Worker J W)) (w : ℕ) (e m : Worker J W) (row : List (Victim J)) → w < length ms → GatherSoFar old ms w
      → let now = get_or ms w e in
      m.thief.victims.items ≡ [] → m.thief.own ≡ now.thief.own → m.number ≡ now.number → m.own ≡ now.own → m.next ≡ now.next → m.left ≡ now.left
      → m.halted ≡ now.halted → m.refused ≡ now.refused
      → row ≡ now.thief.victims.items → Absorbs (set ms w m) row ms2 → GatherSoFar old ms2 (w + 1)
  row_back_at old ms ms2 w e m row l so none own_thief number own next' left halted refused is ab =
      let b : w < length old = let c = so.count in omega arith in
      let same : get_or ms w e ≡ get_or ms w m = get_or_default ms w e m l in
      let len : length ms2 ≡ length old =
      sym (length-map ms2 rest_of) ∙ (ap length ab.rests ∙ (length-map (set ms w m) rest_of ∙ (length-set ms w m ∙ so.count))) in
      row_back old ms ms2 w m b len so none (own_thief ∙ ap (λ (x : Worker J W). x.thief.own) same) (number ∙ ap (λ (x : Worker J W). x.number) same)
      (own ∙ ap (λ (x : Worker J W). x.own) same)
      (next' ∙ ap (λ (x : Worker J W). x.next) same) (left ∙ ap (λ (x : Worker J W). x.left) same) (halted ∙ ap (λ (x : Worker J W). x.halted) same)
      (refused ∙ ap (λ (x : Worker J W). x.refused) same)
      (subst (λ rs. Absorbs (set ms w m) rs ms2) (is ∙ ap (λ (x : Worker J W). x.thief.victims.items) same) ab)
