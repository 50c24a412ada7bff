-- A worker's passes after a push, a pop or a steal.
use Rattle.std.proofs.Common.{◌≡◌, ℕ, ◌+◌, ◌<◌, List, [], ◌∷◌, ◌++◌, length, get_or, map, Option, Some, None, sym, refl, ap, ◌∙◌, subst, arith}
use Rattle.std.specs.Option.{option_to_list}
use Rattle.std.proofs.lemmas.List.{length-map}
use Rattle.std.proofs.Math.Seq.{map-set_same}
use Rattle.steal_pool.specs.declared.tally.Tally.{Tally}
use Rattle.steal_pool.specs.declared.deque.Victim.{Victim}
use Rattle.steal_pool.specs.declared.thief.Thief.{Thief}
use Rattle.steal_pool.specs.Balance.{weigh, with_put}
use Rattle.steal_pool.specs.Deques.{own_tally, own_id, victim_tally, TookFirst}
use Rattle.steal_pool.specs.Thieves.{Id, victim_frame, Transfers, StoleFrom}
use Rattle.steal_pool.proofs.Rule.{weigh-append}
use Rattle.steal_pool.proofs.Lists.{weigh-set}

pub some_of : {X : Type 0} (xs : List X) (i : ℕ) → i < length xs → X
some_of [] i l = absurd (omega arith)
some_of (x ∷ xs) i l = x

module _ {J : Type 0} where
  pub stays : (t : Thief J) → Transfers t t [] []
  stays t = record { frames = refl; put = λ h. omega arith; taken = λ h. omega arith }

  pub then : (t u v : Thief J) (puts takes puts' takes' : List J) → Transfers t u puts takes → Transfers u v puts' takes'
      → Transfers t v (puts ++ puts') (takes ++ takes')
  then t u v ps xs ps' xs' a b = record {
    frames = b.frames ∙ a.frames;
    put = λ h. omega (arith, a.put h, b.put h, weigh-append h ps ps');
    taken = λ h. omega (arith, a.taken h, b.taken h, weigh-append h xs xs');
  }

  pub count_same : (t u : Thief J) (puts takes : List J) → Transfers t u puts takes → length u.victims.items ≡ length t.victims.items
  count_same t u ps xs s = sym (length-map u.victims.items victim_frame) ∙ ap (λ (f : Id × ℕ × List (Id × ℕ)). length f.2) s.frames
      ∙ length-map t.victims.items victim_frame

  pub pushed : (t t' : Thief J) (job : J) → t'.victims ≡ t.victims → own_id t'.own ≡ own_id t.own → own_tally t'.own ≡ with_put (own_tally t.own) (job ∷ [])
      → Transfers t t' (job ∷ []) []
  pushed t t' job victims id is = record {
    frames = λ i. (id i, (is i).parts, map victim_frame (victims i).items);
    put = λ h. let a = ap (λ (v : Tally J). weigh h v.put) is in let b = ap (λ rs. weigh (λ r. weigh h (victim_tally r).put) rs.items) victims in
        omega (arith, a, b, weigh-append h (own_tally t.own).put (job ∷ []));
    taken = λ h. let a = ap (λ (v : Tally J). weigh h v.taken) is in let b =
        ap (λ rs. weigh (λ r. weigh h (victim_tally r).taken) rs.items) victims in omega (arith, a, b);
  }

  pub kept : (t t' : Thief J) → t'.victims ≡ t.victims → own_id t'.own ≡ own_id t.own → own_tally t'.own ≡ own_tally t.own → Transfers t t' [] []
  kept t t' victims id is = record {
    frames = λ i. (id i, (is i).parts, map victim_frame (victims i).items);
    put = λ h. let a = ap (λ (v : Tally J). weigh h v.put) is in let b =
        ap (λ rs. weigh (λ r. weigh h (victim_tally r).put) rs.items) victims in omega (arith, a, b);
    taken = λ h. let a = ap (λ (v : Tally J). weigh h v.taken) is in let b =
        ap (λ rs. weigh (λ r. weigh h (victim_tally r).taken) rs.items) victims in omega (arith, a, b);
  }

  pub popped : (t t' : Thief J) (found_empty found_empty' : ℕ) (result : Option J) → t'.victims ≡ t.victims → own_id t'.own ≡ own_id t.own
      → TookFirst (own_tally t.own) found_empty (own_tally t'.own) found_empty' result → Transfers t t' [] (option_to_list result)
  popped t t' f f' None victims id took = kept t t' victims id took.0
  popped t t' f f' (Some x) victims id took = let is = took.0 in record {
    frames = λ i. (id i, (is i).parts, map victim_frame (victims i).items);
    put = λ h. let a = ap (λ (v : Tally J). weigh h v.put) is in let b =
        ap (λ rs. weigh (λ r. weigh h (victim_tally r).put) rs.items) victims in omega (arith, a, b);
    taken = λ h. let a = ap (λ (v : Tally J). weigh h v.taken) is in let b = ap (λ rs. weigh (λ r. weigh h (victim_tally r).taken) rs.items) victims in
        omega (arith, a, b, weigh-append h (own_tally t.own).taken (x ∷ []));
  }

  parts_same : (v w : Tally J) (found_empty found_empty' : ℕ) (result : Option J) → TookFirst v found_empty w found_empty' result → w.parts ≡ v.parts
  parts_same v w f f' None took = ap (λ (u : Tally J). u.parts) took.0
  parts_same v w f f' (Some x) took = ap (λ (u : Tally J). u.parts) took.0

  put_same : (h : J → ℕ) (v w : Tally J) (found_empty found_empty' : ℕ) (result : Option J) → TookFirst v found_empty w found_empty' result
      → weigh h w.put ≡ weigh h v.put
  put_same h v w f f' None took = ap (λ (u : Tally J). weigh h u.put) took.0
  put_same h v w f f' (Some x) took = ap (λ (u : Tally J). weigh h u.put) took.0

  taken_more : (h : J → ℕ) (v w : Tally J) (found_empty found_empty' : ℕ) (result : Option J) → TookFirst v found_empty w found_empty' result
      → weigh h w.taken ≡ weigh h v.taken + weigh h (option_to_list result)
  taken_more h v w f f' None took = let a = ap (λ (u : Tally J). weigh h u.taken) took.0 in omega (arith, a)
  taken_more h v w f f' (Some x) took = ap (λ (u : Tally J). weigh h u.taken) took.0 ∙ weigh-append h v.taken (x ∷ [])

  pub stolen_at : (t t' : Thief J) (from : ℕ) (result : Option J) (d : Victim J) → from < length t.victims.items → t'.own ≡ t.own → StoleFrom t from t' result
      → Transfers t t' [] (option_to_list result)
  stolen_at t t' from result d inside own stole =
      let xs = t.victims.items in
      let s = stole d in
      let old = get_or xs from d in
      let new = get_or t'.victims.items from d in
      let parts = parts_same (victim_tally old) (victim_tally new) old.found_empty new.found_empty result s.2 in
      let same : map victim_frame t'.victims.items ≡ map victim_frame xs =
      ap (map victim_frame) s.0 ∙ map-set_same victim_frame xs from new d (λ i. (s.1 i, parts i)) in
      record {
        frames = λ i. (own_id (own i), (own_tally (own i)).parts, same i);
        put = λ h. let o = ap (λ o. weigh h (own_tally o).put) own in let w = weigh-set (λ r. weigh h (victim_tally r).put) xs from new d inside in
            let e = ap (weigh (λ r. weigh h (victim_tally r).put)) s.0 in let p =
            put_same h (victim_tally old) (victim_tally new) old.found_empty new.found_empty result s.2 in omega (arith, o, w, e, p);
        taken = λ h. let o = ap (λ o. weigh h (own_tally o).taken) own in let w = weigh-set (λ r. weigh h (victim_tally r).taken) xs from new d inside in
            let e = ap (weigh (λ r. weigh h (victim_tally r).taken)) s.0 in let p =
            taken_more h (victim_tally old) (victim_tally new) old.found_empty new.found_empty result s.2 in omega (arith, o, w, e, p);
      }

  pub stolen : (t t' : Thief J) (from : ℕ) (result : Option J) → from < length t.victims.items → t'.own ≡ t.own → StoleFrom t from t' result
      → Transfers t t' [] (option_to_list result)
  stolen t t' from result inside own stole = stolen_at t t' from result (some_of t.victims.items from inside) inside own stole

  pub stolen_as : (t t' : Thief J) (from : ℕ) (result is : Option J) → result ≡ is → from < length t.victims.items → t'.own ≡ t.own
      → StoleFrom t from t' result → Transfers t t' [] (option_to_list is)
  stolen_as t t' from result is e inside own stole = subst (λ o. Transfers t t' [] (option_to_list o)) e (stolen t t' from result inside own stole)
