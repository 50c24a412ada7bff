-- Items put into two lists once more.
use Rattle.std.proofs.Common.{◌≡◌, ℕ, suc, ◌+◌, ◌<◌, List, [], ◌∷◌, ◌++◌, length, get_or, drop, refl, sym, ◌∙◌, subst, ap, arith, length-append}
use Rattle.std.proofs.Math.Seq.{drop-cons}
use Rattle.order_list.specs.Ordered.{put_after}
use Rattle.order_list.specs.Sides.{Lists, AreKept}
use Rattle.order_list.specs.Labels.{HasInserted}
use Rattle.order_list.proofs.Inserting.{grown_by_one}
use Rattle.race_finder.specs.declared.places.Pair.{Pair}
use Rattle.race_finder.specs.Places.{AreWithin, english_from, hebrew_from, IsPlaced}

pub english_more : (xs : List ℕ) (ps : List Pair) (p : Pair)
    → english_from xs (ps ++ p ∷ []) ≡ put_after p.english.0 (length (english_from xs ps) ∷ []) (english_from xs ps)
english_more xs [] p = refl
english_more xs (q ∷ ps) p = english_more (put_after q.english.0 (length xs ∷ []) xs) ps p

pub hebrew_more : (xs : List ℕ) (ps : List Pair) (p : Pair)
    → hebrew_from xs (ps ++ p ∷ []) ≡ put_after p.hebrew.0 (length (hebrew_from xs ps) ∷ []) (hebrew_from xs ps)
hebrew_more xs [] p = refl
hebrew_more xs (q ∷ ps) p = hebrew_more (put_after q.hebrew.0 (length xs ∷ []) xs) ps p

pub within_more : (n m : ℕ) (ps : List Pair) (p : Pair) → m ≡ n + length ps → AreWithin n ps → p.english.0 < m → p.hebrew.0 < m → AreWithin n (ps ++ p ∷ [])
within_more n m [] p is w e h = (omega (arith, is, e), omega (arith, is, h), tt)
within_more n m (q ∷ ps) p is w e h = (w.0, w.1, within_more (n + 1) m ps p (omega (arith, is)) w.2 e h)

-- the first i pairs are put in
pub record ArePut (lists : Lists) (placed : List Pair) (capacity i : ℕ) : Type 0 where
  pub within : AreWithin (i + 1) (drop i placed)
  pub english_is : english_from lists.english.order (drop i placed) ≡ english_from (0 ∷ []) placed
  pub hebrew_is : hebrew_from lists.hebrew.order (drop i placed) ≡ hebrew_from (0 ∷ []) placed
  pub first : length lists.english.order ≡ i + 1
  pub second : length lists.hebrew.order ≡ i + 1
  pub room : lists.english.room + i + 1 ≡ capacity

-- one more item was put into both lists
pub record IsPut (old : Lists) (p : Pair) (item : ℕ) (new : Lists) : Type 0 where
  pub english : HasInserted old.english p.english.0 item new.english
  pub hebrew : HasInserted old.hebrew p.hebrew.0 item new.hebrew
  pub was : AreKept old
  pub now : AreKept new

item_of_hebrew : (old new : Lists) (p : Pair) (item : ℕ) → IsPut old p item new
    → new.hebrew.order ≡ put_after p.hebrew.0 (length old.hebrew.order ∷ []) old.hebrew.order
item_of_hebrew old new p item k = k.hebrew.order_is ∙ ap (λ i. put_after p.hebrew.0 (i ∷ []) old.hebrew.order) k.hebrew.number

item_of_english : (old new : Lists) (p : Pair) (item : ℕ) → IsPut old p item new
    → new.english.order ≡ put_after p.english.0 (length old.english.order ∷ []) old.english.order
item_of_english old new p item k = k.english.order_is ∙ ap (λ i. put_after p.english.0 (i ∷ []) old.english.order) k.english.number

rest_of : (placed : List Pair) (i : ℕ) (d : Pair) → i < length placed → drop i placed ≡ get_or placed i d ∷ drop (i + 1) placed
rest_of placed i d lt = drop-cons placed i d lt ∙ (let e : suc i ≡ i + 1 = omega arith in ap (λ n. get_or placed i d ∷ drop n placed) e)

pub next_within : (placed : List Pair) (i : ℕ) (d : Pair) → i < length placed → AreWithin (i + 1) (drop i placed)
    → ((get_or placed i d).english.0 < i + 1) × ((get_or placed i d).hebrew.0 < i + 1) × AreWithin (i + 1 + 1) (drop (i + 1) placed)
next_within placed i d lt w = subst (AreWithin (i + 1)) (rest_of placed i d lt) w

pub next_put : (old new : Lists) (placed : List Pair) (capacity i item : ℕ) (d : Pair) → i < length placed → ArePut old placed capacity i
    → IsPut old (get_or placed i d) item new → ArePut new placed capacity (i + 1)
next_put old new placed capacity i item d lt a k =
    let w = next_within placed i d lt a.within in
    let p = get_or placed i d in
    let e = grown_by_one _ _ _ _ k.was.first.numbered (omega (arith, w.0, a.first)) k.english.order_is in
    let h = grown_by_one _ _ _ _ k.was.second.numbered (omega (arith, w.1, a.second)) k.hebrew.order_is in
    record {
      within = w.2;
      english_is = ap (λ l. english_from l (drop (i + 1) placed)) (item_of_english old new p item k)
          ∙ sym (ap (english_from old.english.order) (rest_of placed i d lt)) ∙ a.english_is;
      hebrew_is = ap (λ l. hebrew_from l (drop (i + 1) placed)) (item_of_hebrew old new p item k)
          ∙ sym (ap (hebrew_from old.hebrew.order) (rest_of placed i d lt)) ∙ a.hebrew_is;
      first = omega (arith, e, a.first);
      second = omega (arith, h, a.second);
      room = omega (arith, a.room, k.english.room_is);
    }

-- one more item in the lists, and one more pair
pub placed_more : (old new : Lists) (placed placed' : List Pair) (room room' capacity item : ℕ) (p : Pair) → IsPlaced old placed room capacity
    → p.english.0 < length old.english.order → p.hebrew.0 < length old.english.order
    → IsPut old p item new → placed' ≡ placed ++ p ∷ [] → room' ≡ room → IsPlaced new placed' room' capacity
placed_more old new placed placed' room room' capacity item p a e h k is room_is =
    let longer = grown_by_one _ _ _ _ k.was.first.numbered e k.english.order_is in
    let one : length placed' ≡ length placed + 1 = ap (length {A = Pair}) is ∙ length-append placed (p ∷ []) in
    record {
      within = subst (AreWithin 1) (sym is) (within_more 1 (length old.english.order) placed p (omega (arith, a.count)) a.within e h);
      english_is = item_of_english old new p item k ∙ ap (λ l. put_after p.english.0 (length l ∷ []) l) a.english_is ∙ sym (english_more (0 ∷ []) placed p)
          ∙ ap (english_from (0 ∷ [])) (sym is);
      hebrew_is = item_of_hebrew old new p item k ∙ ap (λ l. put_after p.hebrew.0 (length l ∷ []) l) a.hebrew_is ∙ sym (hebrew_more (0 ∷ []) placed p)
          ∙ ap (hebrew_from (0 ∷ [])) (sym is);
      count = omega (arith, longer, one, a.count);
      whole = omega (arith, one, a.whole, k.english.room_is);
      spare = omega (arith, one, a.spare, k.english.room_is, room_is);
    }
