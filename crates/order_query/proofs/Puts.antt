-- Labels of a window that are put into the words.
use Rattle.std.proofs.Common.{◌≡◌, ◌≢◌, ℕ, ◌+◌, ◌*◌, ◌^◌, ◌<◌, ◌≤◌, true, false, List, [], ◌∷◌, ◌++◌, ◌⊎◌, inl, inr, length, length-append, append_assoc, sym}
use Rattle.std.proofs.Common.{◌∙◌, subst, refl, ap, arith, get_or-set_same, get_or-set_other, length-set}
use Rattle.std.specs.Prelude.{◌==◌, Option, Some, None, slice_index, slice_set, unwrap_or}
use Rattle.std.specs.Option.{option_map}
use Rattle.order_list.specs.declared.item.Item.{Item}
use Rattle.order_list.specs.declared.place.Window.{Window}
use Rattle.order_list.specs.declared.place.Place.TheVariants.{Relabel}
use Rattle.order_list.specs.Ordered.{Ordered, Rises, IsKept, AllBelow, is_in, head_of, next_of}
use Rattle.order_list.specs.Labels.{place_of, members, SpacedBy, IsSegment, HasMadeSpace}
use Rattle.order_list.specs.Sides.{Lists}
use Rattle.order_list.proofs.Chains.{tested, eq_of}
use Rattle.order_list.proofs.Inserting.{apart, below_in, head_in, in_rest, not_later}
use Rattle.order_list.proofs.Spans.{below_append}
use Rattle.atomic_table.specs.Table.{Me}
use Rattle.order_query.specs.declared.view.Insert.{Insert}
use Rattle.order_query.specs.declared.view.View.{View}
use Rattle.order_query.specs.Logs.{english_of, hebrew_of, english_word, hebrew_word}
use Rattle.order_query.specs.Reading.{Shows, ShowBoth}
use Rattle.order_query.specs.Showing.{word_of, set_labels, with_words, AreItemsOf, ChangesSide}

pub put_size : (words : List ℕ) (side : ℕ) (labels ys : List ℕ) → length (set_labels words side labels ys) ≡ length words
put_size words side labels [] = refl
put_size words side labels (y ∷ ys) = put_size (slice_set words (2 * y + side) (slice_index labels y)) side labels ys
    ∙ length-set words (2 * y + side) (slice_index labels y)

pub put_other : (words : List ℕ) (side : ℕ) (labels ys : List ℕ) (i : ℕ) → ((y : ℕ) → i ≢ 2 * y + side)
    → slice_index (set_labels words side labels ys) i ≡ slice_index words i
put_other words side labels [] i ne = refl
put_other words side labels (y ∷ ys) i ne =
    put_other (slice_set words (2 * y + side) (slice_index labels y)) side labels ys i ne
    ∙ get_or-set_other words (2 * y + side) i (slice_index labels y) 0 (ne y)

pub put_label : (words : List ℕ) (side : ℕ) (labels ys : List ℕ) (n y : ℕ) → AllBelow n ys → 2 * n + 2 ≤ length words → side ≤ 3
    → (slice_index words (2 * y + side) ≡ slice_index labels y) ⊎ (is_in y ys ≡ true)
    → slice_index (set_labels words side labels ys) (2 * y + side) ≡ slice_index labels y
put_label words side labels [] n y b fits few (inl e) = e
put_label words side labels [] n y b fits few (inr h) = cc
put_label words side labels (z ∷ zs) n y b fits few h =
    let next = slice_set words (2 * z + side) (slice_index labels z) in
    let fits' : 2 * n + 2 ≤ length next = omega (arith, fits, length-set words (2 * z + side) (slice_index labels z)) in
    elim (tested (z == y)) [
      | inl e ↦ (
          let same = eq_of z y e in
          let set : slice_index next (2 * z + side) ≡ slice_index labels z = get_or-set_same words (2 * z + side) (slice_index labels
          z) 0 (omega (arith, b.0, fits, few)) in
          put_label next side labels zs n y b.1 fits' few (inl (subst (λ (k : ℕ). slice_index next (2 * k + side) ≡ slice_index labels k) same set)))
      | inr e ↦ (
          let kept : slice_index next (2 * y + side) ≡ slice_index words (2 * y + side) = get_or-set_other words (2 * z + side) (2 * y + side) (slice_index
          labels z) 0 (λ s. apart z y e (omega (arith, s))) in
          put_label next side labels zs n y b.1 fits' few (elim h [ inl old ↦ inl (kept ∙ old) | inr later ↦ inr (rw e at later) ]))
    ]

in_right : (y : ℕ) (b c : List ℕ) → is_in y c ≡ true → is_in y (b ++ c) ≡ true
in_right y [] c h = h
in_right y (z ∷ zs) c h = in_rest y z (zs ++ c) (in_right y zs c h)

next_at : (pre : List ℕ) (y : ℕ) (zs : List ℕ) → is_in y pre ≡ false → next_of y (pre ++ y ∷ zs) ≡ head_of zs
next_at [] y zs out = elim (tested (y == y)) [ inl e ↦ rw e refl | inr e ↦ absurd (apart y y e refl) ]
next_at (p ∷ ps) y zs out =
    elim (tested (p == y)) [
      | inl e ↦ (let no = rw e at out in cc)
      | inr e ↦ rw e (next_at ps y zs (rw e at out))
    ]

not_behind : (labels pre : List ℕ) (low high y : ℕ) (zs : List ℕ) → Rises labels low high (pre ++ y ∷ zs) → is_in y pre ≡ false
not_behind labels [] low high y zs r = refl
not_behind labels (p ∷ ps) low high y zs r =
    elim (tested (p == y)) [
      | inl e ↦ absurd (
          let same = eq_of p y e in
          let there : is_in y (ps ++ y ∷ zs) ≡ true = in_right y ps (y ∷ zs) (head_in y zs) in
          let out : is_in p (ps ++ y ∷ zs) ≡ false = not_later labels (ps ++ y ∷ zs) low high p r in
          let out' : is_in y (ps ++ y ∷ zs) ≡ false = subst (λ (k : ℕ). is_in k (ps ++ y ∷ zs) ≡ false) same out in
          cc)
      | inr e ↦ rw e (not_behind labels ps (slice_index labels p + 1) high y zs r.2)
    ]

-- the next item to come is the first of these
abbrev pub HeadIs : List ℕ → Option Item → Type 0
HeadIs [] at = Unit {0}
HeadIs (y ∷ ys) at = option_map (λ (i : Item). i.0) at ≡ Some y

-- how far the labels of a window are put
pub record IsPutting (words : List ℕ) (side : ℕ) (labels items : List ℕ) (after : List ℕ) (k : ℕ) (at : Option Item) : Type 0 where
  pub done : List ℕ
  pub left : List ℕ
  pub parts : items ≡ done ++ left
  pub count : length done ≡ k
  pub words_are : set_labels after side labels left ≡ set_labels words side labels items
  pub size : length after ≡ length words
  pub version : slice_index after 0 ≡ slice_index words 0
  pub at_is : HeadIs left at

module _ (words : List ℕ) (side : ℕ) (l : Ordered) (w : Window) (items : List ℕ) (kept : IsKept l) (are : AreItemsOf l.order w items) where
  pub put_none : IsPutting words side l.labels items words 0 (Some w.first)
  put_none = record {
    done = [];
    left = items;
    parts = refl;
    count = refl;
    words_are = refl;
    size = refl;
    version = refl;
    at_is = head_is items are.first;
  }
    where
      head_is : (xs : List ℕ) → w.first.0 ≡ unwrap_or (head_of xs) 0 → HeadIs xs (Some w.first)
      head_is [] e = tt
      head_is (x ∷ xs) e = ap (λ (n : ℕ). Some n) e

  module _ (after : List ℕ) (k : ℕ) (at : Option Item) (lt : k < w.items) (putting : IsPutting words side l.labels items after k at) where
    some_left : 0 < length putting.left
    some_left =
        let all : length items ≡ length putting.done + length putting.left = ap (length {A = ℕ}) putting.parts ∙ length-append putting.done putting.left in
        omega (arith, all, putting.count, are.count, lt)

    pub put_no_end : at ≡ None → ⊥
    put_no_end none = no_head putting.left some_left (subst (HeadIs putting.left) none putting.at_is)
      where
        no_head : (xs : List ℕ) → 0 < length xs → HeadIs xs None → ⊥
        no_head [] lt' e = absurd (omega arith)
        no_head (x ∷ xs) lt' e = cc

    pub record Turn (y : ℕ) : Type 0 where
      pub rest : List ℕ
      pub left_is : putting.left ≡ y ∷ rest
      pub y_in : y < length l.order
      pub next : next_of y l.order ≡ head_of (rest ++ are.segment.ahead)

    pub put_turn : (y : Item) → at ≡ Some y → Turn y.0
    put_turn y is =
        let behind = are.segment.behind in
        let ahead = are.segment.ahead in
        let f = first_left putting.left some_left (subst (HeadIs putting.left) is putting.at_is) in
        let pre = behind ++ putting.done in
        let order : l.order ≡ pre ++ y.0 ∷ (f.0 ++ ahead) =
        are.segment.parts ∙ ap (λ (t : List ℕ). behind ++ (t ++ ahead)) (putting.parts ∙ ap (λ (t : List ℕ). putting.done ++ t) f.1)
        ∙ ap (λ (t : List ℕ). behind ++ t) (append_assoc putting.done (y.0 ∷ f.0) ahead)
        ∙ sym (append_assoc behind putting.done (y.0 ∷ (f.0 ++ ahead))) in
        let out : is_in y.0 pre ≡ false = not_behind l.labels pre 0 (2 ^ 62) y.0 (f.0 ++ ahead) (subst (Rises l.labels 0 (2 ^ 62)) order kept.rises) in
        let there : is_in y.0 l.order ≡ true = subst (λ (t : List ℕ). is_in y.0 t ≡ true) (sym order) (in_right y.0 pre (y.0 ∷ (f.0 ++ ahead))
        (head_in y.0 (f.0 ++ ahead))) in
        record {
          rest = f.0;
          left_is = f.1;
          y_in = below_in (length l.order) y.0 l.order kept.numbered.below there;
          next = ap (next_of y.0) order ∙ next_at pre y.0 (f.0 ++ ahead) out;
        }
      where
        first_left : (xs : List ℕ) → 0 < length xs → HeadIs xs (Some y) → (rest : List ℕ) × (xs ≡ y.0 ∷ rest)
        first_left [] lt' e = absurd (omega arith)
        first_left (x ∷ xs) lt' e = (xs, (let same : y.0 ≡ x = cc in ap (λ (t : ℕ). t ∷ xs) (sym same)))

    pub put_more : (y : Item) (next : Option Item) → at ≡ Some y → 2 ≤ side → option_map (λ (i : Item). i.0) next ≡ next_of y.0 l.order
        → IsPutting words side l.labels items (slice_set after (word_of side y.0) (slice_index l.labels y.0)) (k + 1) next
    put_more y next is low next_is =
        let t = put_turn y is in
        record {
          done = putting.done ++ y.0 ∷ [];
          left = t.rest;
          parts = putting.parts ∙ ap (λ (ys : List ℕ). putting.done ++ ys) t.left_is ∙ sym (append_assoc putting.done (y.0 ∷ []) t.rest);
          count = length-append putting.done (y.0 ∷ []) ∙ ap (λ (n : ℕ). n + 1) putting.count;
          words_are = sym (ap (set_labels after side l.labels) t.left_is) ∙ putting.words_are;
          size = length-set after (word_of side y.0) (slice_index l.labels y.0) ∙ putting.size;
          version = get_or-set_other after (word_of side y.0) 0 (slice_index l.labels y.0) 0 (λ e. omega (arith, e, low)) ∙ putting.version;
          at_is = head_next t.rest (next_is ∙ t.next);
        }
      where
        head_next : (xs : List ℕ) → option_map (λ (i : Item). i.0) next ≡ head_of (xs ++ are.segment.ahead) → HeadIs xs next
        head_next [] e = tt
        head_next (x ∷ xs) e = e

  pub put_all : (after : List ℕ) (k : ℕ) (at : Option Item) → w.items ≤ k → IsPutting words side l.labels items after k at
      → after ≡ set_labels words side l.labels items
  put_all after k at le putting =
      let all : length items ≡ length putting.done + length putting.left = ap (length {A = ℕ}) putting.parts ∙ length-append putting.done putting.left in
      ended putting.left (omega (arith, all, putting.count, are.count, le)) putting.words_are
    where
      ended : (left : List ℕ) → length left ≡ 0 → set_labels after side l.labels left ≡ set_labels words side l.labels items
          → after ≡ set_labels words side l.labels items
      ended [] e is = is
      ended (y ∷ ys) e is = absurd (omega arith)

-- the items of a window in which labels were made anew
abbrev pub items_of : (old new : Ordered) (x : ℕ) (w : Window) → HasMadeSpace old x (Some w) new → (items : List ℕ) × AreItemsOf new.order w items
items_of old new x w m =
    let window = m.labels_are.1.window in (
      members old.labels old.order x window.size,
      record {
        segment = subst (λ (o : List ℕ). IsSegment o (members old.labels old.order x window.size)) (sym m.order_is) window.segment;
        first = ap (λ (v : Window). v.first.0) window.is;
        count = ap (λ (v : Window). v.items) window.is;
      },
    )

-- only labels of one side change where labels are put
pub changes_side : (words : List ℕ) (side : ℕ) (labels items : List ℕ) → ChangesSide words side (set_labels words side labels items)
changes_side words side labels items = record { size = put_size words side labels items; others = λ i ne. put_other words side labels items i ne }

pub changes_none : (words : List ℕ) (side : ℕ) → ChangesSide words side words
changes_none words side = record { size = refl; others = λ i ne. refl }

-- the words that had the labels from before have the new ones once those of the window are put
pub shows_window : (words : List ℕ) (side : ℕ) (order : List ℕ) (old new : Ordered) (x : ℕ) (w : Window) → side ≤ 3 → 2 * length new.order + 2 ≤ length words
    → IsKept new → (m : HasMadeSpace old x (Some w) new) → Shows words (word_of side) order old
    → Shows (set_labels words side new.labels (items_of old new x w m).0) (word_of side) order new
shows_window words side order old new x w few fits kept m s =
    let are = items_of old new x w m in
    let n = length new.order in
    let below = below_append n are.0 are.1.segment.ahead (below_append n are.1.segment.behind (are.0 ++ are.1.segment.ahead)
    (subst (AllBelow n) are.1.segment.parts kept.numbered.below)).1 in
    record {
      order_is = m.order_is ∙ s.order_is;
      labels_are = λ y lt. put_label words side new.labels are.0 n y below.0 fits few (elim (tested (is_in y are.0)) [
        | inl e ↦ inr e
        | inr e ↦ inl (s.labels_are y (subst (λ (o : List ℕ). y < length o) m.order_is lt) ∙ sym (m.labels_are.1.others y e))
      ]);
    }

-- and where no label was made anew they have them
pub shows_none : (words : List ℕ) (word : ℕ → ℕ) (order : List ℕ) (old new : Ordered) (x : ℕ) → HasMadeSpace old x None new → Shows words word order old
    → Shows words word order new
shows_none words word order old new x m s = record {
  order_is = m.order_is ∙ s.order_is;
  labels_are = λ y lt. s.labels_are y (subst (λ (o : List ℕ). y < length o) m.order_is lt) ∙ ap (λ (ls : List ℕ). slice_index ls y) (sym m.labels_are.1);
}

-- a list whose words did not change
pub shows_on : (words after : List ℕ) (word : ℕ → ℕ) (order : List ℕ) (l : Ordered) → ((x : ℕ) → slice_index after (word x) ≡ slice_index words (word x))
    → Shows words word order l → Shows after word order l
shows_on words after word order l same s = record { order_is = s.order_is; labels_are = λ x lt. same x ∙ s.labels_are x lt }

-- the same for both lists, where a word changed that is no label
pub both_on : (words : List ℕ) (i n : ℕ) (log : List Insert) (lists : Lists) → i < 2 → ShowBoth words log lists → ShowBoth (slice_set words i n) log lists
both_on words i n log lists lt s = record {
  english = shows_on words (slice_set words i n) english_word (english_of log) lists.english
      (λ x. get_or-set_other words i (english_word x) n 0 (λ e. omega (arith, e, lt))) s.english;
  hebrew = shows_on words (slice_set words i n) hebrew_word (hebrew_of log) lists.hebrew
      (λ x. get_or-set_other words i (hebrew_word x) n 0 (λ e. omega (arith, e, lt))) s.hebrew;
}

-- the words have the new labels of both lists once those of either are put
pub both_shown : (w1 w2 w3 : List ℕ) (log : List Insert) (old new : Lists) → ShowBoth w1 log old
    → (Shows w1 english_word (english_of log) old.english → Shows w2 english_word (english_of log) new.english) → ChangesSide w1 2 w2
    → (Shows w2 hebrew_word (hebrew_of log) old.hebrew → Shows w3 hebrew_word (hebrew_of log) new.hebrew) → ChangesSide w2 3 w3 → ShowBoth w3 log new
both_shown w1 w2 w3 log old new s english c2 hebrew c3 = record {
  english = shows_on w2 w3 english_word (english_of log) new.english (λ x. c3.others (english_word x) (λ y e. omega (arith, e))) (english s.english);
  hebrew = hebrew (shows_on w1 w2 hebrew_word (hebrew_of log) old.hebrew (λ x. c2.others (hebrew_word x) (λ y e. omega (arith, e))) s.hebrew);
}

-- no window is told where there was a label between
pub no_window : (old : Ordered) (x : ℕ) (labels : List ℕ) (w : Option Window) → SpacedBy old x labels w → place_of old x ≢ Relabel → w ≡ None
no_window old x labels None s ne = refl
no_window old x labels (Some w) s ne = absurd (ne s.0)

-- words that were stored after others
pub words_now : (a b : Me (Unit {0}) View) (ws : List ℕ) → b ≡ (with_words a.0 ws, []) → b.0.words ≡ ws
words_now a b ws e = ap (λ (m : Me (Unit {0}) View). m.0.words) e

pub more_words : (v : View) (a b : Me (Unit {0}) View) (ws : List ℕ) → a ≡ (with_words v a.0.words, []) → b ≡ (with_words a.0 ws, [])
    → b ≡ (with_words v b.0.words, [])
more_words v a b ws e f =
    let next : List ℕ → Me (Unit {0}) View → Me (Unit {0}) View = λ l m. (with_words m.0 l, []) in
    f ∙ ap (next ws) e ∙ ap (λ (l : List ℕ). next l (v, [])) (sym (words_now a b ws f))
