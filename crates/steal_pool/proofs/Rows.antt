-- The passes of the workers are made one after another.
use Rattle.std.proofs.Common.{◌≡◌, ◌≢◌, ℕ, ◌+◌, ◌-◌, ◌<◌, ◌≤◌, List, [], ◌∷◌, ◌++◌, length, set, get_or, map, take, All}
use Rattle.std.proofs.Common.{Vec, Global, inl, inr, sym, refl, ap, ◌∙◌, subst, arith, append_assoc, length-append}
use Rattle.std.proofs.lemmas.Bool.{cases_eq}
use Rattle.std.proofs.lemmas.List.Elements.{All-tail}
use Rattle.std.proofs.lemmas.List.{get_or-set_same, get_or-set_other, get_or-map, map_more, map-append, length-set, append-nil, get_or_default}
use Rattle.std.proofs.Math.Seq.{map-set_same}
use Rattle.steal_pool.specs.declared.deque.OwnDeque.{OwnDeque}
use Rattle.steal_pool.specs.declared.deque.Victim.{Victim}
use Rattle.steal_pool.specs.declared.thief.Thief.{Thief}
use Rattle.steal_pool.specs.Balance.{tally, cut_off}
use Rattle.steal_pool.specs.Deques.{own_tally, own_id, victim_tally, victim_id}
use Rattle.steal_pool.specs.Thieves.{Id, IsRow, HasMade, AreNew}
use Rattle.steal_pool.proofs.Lists.{All-snoc, All-init, All-last}

module _ {J : Type 0} where
  -- the passes to the first k deques were made
  pub record RowSoFar (made : ℕ) (old owns : List (OwnDeque J)) (k : ℕ) (row : List (Victim J)) : Type 0 where
    pub ids : map own_id owns ≡ map own_id old
    pub done : (i : ℕ) (d : OwnDeque J) → i < k → HasMade (made + 1) (get_or owns i d)
    pub rest : (i : ℕ) (d : OwnDeque J) → k ≤ i → i < length owns → HasMade made (get_or owns i d)
    pub row_ids : map victim_id row ≡ map own_id (take k old)
    pub fresh : All (λ (r : Victim J). (victim_tally r ≡ tally 1 [] []) × (r.found_empty ≡ 0)) row

  pub none_yet : (made : ℕ) (old : List (OwnDeque J)) → All (HasMade made) old → RowSoFar made old old 0 []
  none_yet made old all = record {
    ids = refl;
    done = λ i d l. absurd (omega arith);
    rest = λ i d _ l. all i d l;
    row_ids = refl;
    fresh = λ k d l. absurd (omega arith);
  }

  pub one_more : (made : ℕ) (old owns : List (OwnDeque J)) (k : ℕ) (row : List (Victim J)) (o : OwnDeque J) (r : Victim J) → k < length owns
      → length owns ≡ length old → RowSoFar made old owns k row
      → own_id o ≡ own_id (get_or owns k o) → own_tally o ≡ cut_off (own_tally (get_or owns k o)) → o.found_empty ≡ (get_or owns k o).found_empty
      → victim_id r ≡ own_id (get_or owns k o) → victim_tally r ≡ tally 1 [] [] → r.found_empty ≡ 0 → RowSoFar made old (set owns k o) (k + 1) (row ++ r ∷ [])
  one_more made old owns k row o r l len so id is found_empty rid rhand rfound =
      let here = so.rest k o (omega arith) l in
      let fewer : 65 - made - 1 ≡ 65 - (made + 1) = omega arith in
      let tallies : own_tally o ≡ tally (65 - (made + 1)) [] [] = is ∙ (ap cut_off here.0 ∙ ap (λ n. tally n [] []) fewer) in
      let now : HasMade (made + 1) o = (tallies, found_empty ∙ here.1) in
      let inside : k < length old = omega arith in
      let e = own_id o in
      let there : own_id (get_or owns k o) ≡ own_id (get_or old k o) =
      sym (get_or-map own_id owns k o e l) ∙ (ap (λ xs. get_or xs k e) so.ids ∙ get_or-map own_id old k o e inside) in
      record {
        ids = map-set_same own_id owns k o o id ∙ so.ids;
        done = λ i d below. elim (cases_eq i k) [
          | inl s ↦ subst (λ j. HasMade (made + 1) (get_or (set owns k o) j d)) (sym s) (subst (HasMade (made + 1)) (sym (get_or-set_same owns k o d l)) now)
          | inr n ↦ subst (HasMade (made + 1)) (sym (get_or-set_other owns k i o d n)) (so.done i d (omega arith))
        ];
        rest = λ i d from inside'. let n : i ≢ k = λ s. absurd (omega arith) in
            subst (HasMade made) (sym (get_or-set_other owns k i o d n)) (so.rest i d (omega arith) (subst (λ m. i < m) (length-set owns k o) inside'));
        row_ids = map-append victim_id row (r ∷ []) ∙ ((λ i. so.row_ids i ++ (rid ∙ there) i ∷ []) ∙ sym (map_more own_id old k o inside));
        fresh = All-snoc (λ (r : Victim J). (victim_tally r ≡ tally 1 [] []) × (r.found_empty ≡ 0)) row r so.fresh (rhand, rfound);
      }

  -- the same, with the deque as it was read
  pub one_more_at : (made : ℕ) (old owns : List (OwnDeque J)) (k : ℕ) (row : List (Victim J)) (e o : OwnDeque J) (r : Victim J) → k < length owns
      → length owns ≡ length old → RowSoFar made old owns k row
      → e ≡ get_or owns k e → own_id o ≡ own_id e → own_tally o ≡ cut_off (own_tally e) → o.found_empty ≡ e.found_empty → victim_id r ≡ own_id e
      → victim_tally r ≡ tally 1 [] [] → r.found_empty ≡ 0
      → RowSoFar made old (set owns k o) (k + 1) (row ++ r ∷ [])
  one_more_at made old owns k row e o r l len so is id tallies found_empty rid rhand rfound =
      let at : e ≡ get_or owns k o = is ∙ get_or_default owns k e o l in
      one_more made old owns k row o r l len so (id ∙ ap own_id at) (tallies ∙ ap (λ x. cut_off (own_tally x)) at)
      (found_empty ∙ ap (λ (x : OwnDeque J). x.found_empty) at) (rid ∙ ap own_id at) rhand rfound

  pub whole_row : (made : ℕ) (old owns : List (OwnDeque J)) (k : ℕ) (row : List (Victim J)) → length owns ≤ k → length owns ≡ length old → take k old ≡ old
      → RowSoFar made old owns k row
      → (map own_id owns ≡ map own_id old) × All (HasMade (made + 1)) owns × IsRow (map own_id old) row
  whole_row made old owns k row all len full so = (so.ids, (λ i d l. so.done i d (omega arith)), (so.row_ids ∙ ap (map own_id) full, so.fresh))

  pub rows_more : (owns owns' : List (OwnDeque J)) (rows : List (Vec (Victim J) Global)) (row : Vec (Victim J) Global) → map own_id owns' ≡ map own_id owns
      → All (λ (v : Vec (Victim J) Global). IsRow (map own_id owns) v.items) rows → IsRow (map own_id owns) row.items
      → All (λ (v : Vec (Victim J) Global). IsRow (map own_id owns') v.items) (rows ++ row ∷ [])
  rows_more owns owns' rows row same all one =
      subst (λ ids. All (λ (v : Vec (Victim J) Global). IsRow ids v.items) (rows ++ row ∷ [])) (sym same)
      (All-snoc (λ (v : Vec (Victim J) Global). IsRow (map own_id owns) v.items) rows row all one)

  -- the first workers were made
  pub record Making (n : ℕ) (ids : List Id) (all : List (Thief J)) (rest : List (OwnDeque J)) (rows : List (Vec (Victim J) Global)) : Type 0 where
    pub in_order : map (λ (t : Thief J). own_id t.own) all ++ map own_id rest ≡ ids
    pub done : All (λ (t : Thief J). HasMade n t.own × IsRow ids t.victims.items) all
    pub rest_made : All (HasMade n) rest
    pub are_rows : All (λ (v : Vec (Victim J) Global). IsRow ids v.items) rows
    pub count : length rows ≡ length rest
    pub total : length all + length rest ≡ n

  pub none_made : (n w : ℕ) (owns rest : List (OwnDeque J)) (all : List (Thief J)) (rows : List (Vec (Victim J) Global)) → all ≡ [] → rest ≡ owns → w ≡ n
      → All (HasMade w) owns
      → All (λ (v : Vec (Victim J) Global). IsRow (map own_id owns) v.items) rows → length rows ≡ w → length owns ≡ n → Making n (map own_id owns) all rest rows
  none_made n w owns rest all rows none is same made are len len' =
      let f : Thief J → Id = λ t. own_id t.own in
      record {
        in_order = (λ i. map f (none i) ++ map own_id (is i));
        done = subst (All (λ (t : Thief J). HasMade n t.own × IsRow (map own_id owns) t.victims.items)) (sym none) (λ k d l. absurd (omega arith));
        rest_made = subst (All (HasMade n)) (sym is) (subst (λ k. All (HasMade k) owns) same made);
        are_rows = are;
        count = let a = ap length is in omega arith;
        total = let a = ap length is in let b = ap length none in omega arith;
      }

  pub made_more : (n : ℕ) (ids : List Id) (all : List (Thief J)) (rest rest' : List (OwnDeque J)) (rows rows' : List (Vec (Victim J) Global)) (o : OwnDeque J)
      (row : Vec (Victim J) Global) (t : Thief J)
      → rest ≡ o ∷ rest' → rows ≡ rows' ++ row ∷ [] → t.own ≡ o → t.victims ≡ row → Making n ids all rest rows → Making n ids (all ++ t ∷ []) rest' rows'
  made_more n ids all rest rest' rows rows' o row t is is' own victims m =
      let have : All (HasMade n) (o ∷ rest') = subst (All (HasMade n)) is m.rest_made in
      let given = subst (All (λ (v : Vec (Victim J) Global). IsRow ids v.items)) is' m.are_rows in
      let f : Thief J → Id = λ t. own_id t.own in
      record {
        in_order = (λ i. map-append f all (t ∷ []) i ++ map own_id rest') ∙ (append_assoc (map f all) (own_id t.own ∷ []) (map own_id rest')
            ∙ (ap (λ (w : OwnDeque J). map f all ++ (own_id w ∷ map own_id rest')) own ∙ (ap (λ r. map f all ++ map own_id r) (sym is) ∙ m.in_order)));
        done = All-snoc (λ (t : Thief J). HasMade n t.own × IsRow ids t.victims.items) all t m.done (
          subst (HasMade n) (sym own) (have 0 o (omega arith)),
          subst (λ (v : Vec (Victim J) Global). IsRow ids v.items) (sym victims)
              (All-last (λ (v : Vec (Victim J) Global). IsRow ids v.items) rows' row given),
        );
        rest_made = All-tail (HasMade n) o rest' have;
        are_rows = All-init (λ (v : Vec (Victim J) Global). IsRow ids v.items) rows' row given;
        count = let a = ap length is in let b = ap length is' in omega (arith, a, b, m.count, length-append rows' (row ∷ []));
        total = let a = ap length is in omega (arith, a, m.total, length-append all (t ∷ []));
      }

  pub all_made : (n : ℕ) (ids : List Id) (all : List (Thief J)) (rest : List (OwnDeque J)) (rows : List (Vec (Victim J) Global)) → rest ≡ []
      → Making n ids all rest rows → (length all ≡ n) × AreNew all
  all_made n ids all rest rows none m =
      let len : length all ≡ n = let a = ap length none in omega (arith, a, m.total) in
      let f : Thief J → Id = λ t. own_id t.own in
      let same : map f all ≡ ids = sym (append-none (map f all)) ∙ (ap (λ r. map f all ++ map own_id r) (sym none) ∙ m.in_order) in
      (len, (ids, same, subst (λ k. All (λ (t : Thief J). HasMade k t.own × IsRow ids t.victims.items) all) (sym len) m.done))
    where
      append-none : (xs : List Id) → xs ++ [] ≡ xs
      append-none xs = append-nil xs
