-- The words after an insert.
use Rattle.std.proofs.Common.{◌≡◌, ◌≢◌, ℕ, ◌+◌, ◌<◌, List, [], ◌∷◌, ◌++◌, inl, inr, length, map, sym, ◌∙◌, subst, ap, arith, get_or-set_same, get_or-set_other}
use Rattle.std.proofs.Common.{length-set}
use Rattle.std.specs.Prelude.{slice_index, slice_set}
use Rattle.std.proofs.lemmas.List.{map-append, length-map}
use Rattle.std.proofs.Math.ListN.{get_or-append}
use Rattle.atomic_table.specs.Table.{Me}
use Rattle.atomic_table.specs.Seated.{TableId}
use Rattle.order_list.specs.Ordered.{Ordered, IsKept, put_after}
use Rattle.order_list.specs.Labels.{HasSpace, HasInserted}
use Rattle.order_list.specs.Sides.{Lists}
use Rattle.order_list.proofs.Inserting.{grown_by_one}
use Rattle.order_list.proofs.Relabelling.{gets_middle}
use Rattle.order_query.specs.declared.view.Insert.{Insert}
use Rattle.order_query.specs.declared.view.View.{View}
use Rattle.order_query.specs.Logs.{order_of, AreRising, english_word, hebrew_word}
use Rattle.order_query.specs.Reading.{Shows, ShowBoth}
use Rattle.order_query.specs.Showing.{with_words, MayCount}
use Rattle.order_query.proofs.Growing.{grown_append, below_or}
use Rattle.order_query.proofs.Writing.{shown_rise}

-- the list with a new item is that of the grown log
grown_list : (f : Insert → ℕ) (old new : Ordered) (log : List Insert) (insert : Insert) (item : ℕ) → item ≡ length log + 1 → HasInserted old (f insert) item new
    → old.order ≡ order_of (map f log) → new.order ≡ order_of (map f (log ++ insert ∷ []))
grown_list f old new log insert item item_is i was =
    let afters = map f log in
    let x = f insert in
    let number : item ≡ 1 + length afters = omega (arith, item_is, length-map log f) in
    i.order_is ∙ ap (λ (n : ℕ). put_after x (n ∷ []) old.order) number ∙ ap (put_after x ((1 + length afters) ∷ [])) was
    ∙ sym (grown_append 1 (0 ∷ []) afters (x ∷ [])) ∙ ap order_of (sym (map-append f log (insert ∷ [])))

-- an insert where there is a label between leaves the labels of the others
label_stays : (old new : Ordered) (x item y : ℕ) → IsKept old → HasSpace old x → HasInserted old x item new → y < length old.order
    → slice_index new.labels y ≡ slice_index old.labels y
label_stays old new x item y kept space i lt =
    ap (λ (ls : List ℕ). slice_index ls y) (gets_middle old x new.labels space i.labels_are) ∙ get_or-append old.labels _ 0 y (omega (arith, lt, kept.counted))

-- words that have the labels of the old list and that of the new item have those of the new list
shows_inserted : (words after : List ℕ) (word : ℕ → ℕ) (f : Insert → ℕ) (old new : Ordered) (log : List Insert) (insert : Insert) (item : ℕ)
    → item ≡ length log + 1 → IsKept old → HasSpace old (f insert) → HasInserted old (f insert) item new → f insert < length old.order
    → ((y : ℕ) → y < item → slice_index after (word y) ≡ slice_index words (word y)) → slice_index after (word item) ≡ slice_index new.labels item
    → Shows words word (order_of (map f log)) old → Shows after word (order_of (map f (log ++ insert ∷ []))) new
shows_inserted words after word f old new log insert item item_is kept space i x_in others at_item s = record {
  order_is = grown_list f old new log insert item item_is i s.order_is;
  labels_are = λ y lt. elim (below_or y item (omega (arith, lt, grown_by_one (f insert) item old.order new.order kept.numbered x_in i.order_is, i.number))) [
    | inl less ↦ (
        let in_old : y < length old.order = omega (arith, less, i.number) in
        others y less ∙ s.labels_are y in_old ∙ sym (label_stays old new (f insert) item y kept space i in_old))
    | inr same ↦ subst (λ (k : ℕ). slice_index after (word k) ≡ slice_index new.labels k) same at_item
  ];
}

-- what the writer knows after two stores
pub stored_twice : (me s1 s2 : Me (Unit {0}) View) (i j a b : ℕ) → s1 ≡ (with_words me.0 (slice_set me.0.words i a), [])
    → s2 ≡ (with_words s1.0 (slice_set s1.0.words j b), []) → s2 ≡ (with_words me.0 (slice_set (slice_set me.0.words i a) j b), [])
stored_twice me s1 s2 i j a b e1 e2 =
    let store : Me (Unit {0}) View → Me (Unit {0}) View = λ m. (with_words m.0 (slice_set m.0.words j b), []) in
    e2 ∙ ap store e1

module _ (home : TableId) (me : Me (Unit {0}) View) (lists : Lists) (item : ℕ) (insert : Insert) (old : Lists) (c : MayCount home me lists item insert old)
    (a b : ℕ) (a_is : a ≡ slice_index lists.english.labels item) (b_is : b ≡ slice_index lists.hebrew.labels item) where
  abbrev first : List ℕ
  first = slice_set me.0.words (english_word item) a

  abbrev pub words_labelled : List ℕ
  words_labelled = slice_set first (hebrew_word item) b

  first_size : length first ≡ length me.0.words
  first_size = length-set me.0.words (english_word item) a

  pub labelled_size : length words_labelled ≡ length me.0.words
  labelled_size = length-set first (hebrew_word item) b ∙ first_size

  pub labelled_else : (i : ℕ) → i ≢ english_word item → i ≢ hebrew_word item → slice_index words_labelled i ≡ slice_index me.0.words i
  labelled_else i ne nh = get_or-set_other first (hebrew_word item) i b 0 nh ∙ get_or-set_other me.0.words (english_word item) i a 0 ne

  english_at : slice_index words_labelled (english_word item) ≡ a
  english_at =
      get_or-set_other first (hebrew_word item) (english_word item) b 0 (λ e. omega (arith, e))
      ∙ get_or-set_same me.0.words (english_word item) a 0 (omega (arith, c.fits, c.size))

  hebrew_at : slice_index words_labelled (hebrew_word item) ≡ b
  hebrew_at = get_or-set_same first (hebrew_word item) b 0 (omega (arith, c.fits, c.size, first_size))

  pub shows_both : ShowBoth words_labelled (me.0.log ++ insert ∷ []) lists
  shows_both = record {
    english = shows_inserted me.0.words words_labelled english_word (λ (i : Insert). i.english) old.english lists.english me.0.log insert item c.item_is
        c.kept_old.first c.space_english c.english c.in_english
        (λ y lt. labelled_else (english_word y) (λ e. omega (arith, e, lt)) (λ e. omega (arith, e, lt))) (english_at ∙ a_is) c.shown.english;
    hebrew = shows_inserted me.0.words words_labelled hebrew_word (λ (i : Insert). i.hebrew) old.hebrew lists.hebrew me.0.log insert item c.item_is
        c.kept_old.second c.space_hebrew c.hebrew c.in_hebrew
        (λ y lt. labelled_else (hebrew_word y) (λ e. omega (arith, e, lt)) (λ e. omega (arith, e, lt))) (hebrew_at ∙ b_is) c.shown.hebrew;
  }

  pub labelled_rise : AreRising words_labelled (me.0.log ++ insert ∷ [])
  labelled_rise = shown_rise words_labelled (me.0.log ++ insert ∷ []) lists c.kept shows_both
