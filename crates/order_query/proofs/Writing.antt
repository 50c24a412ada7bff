-- The stores of the writer that keep the rule, told from its own view.
use Rattle.std.proofs.Common.{◌≡◌, ℕ, ◌+◌, ◌*◌, ◌%◌, ◌^◌, ◌<◌, ◌≤◌, true, List, [], ◌∷◌, ◌++◌, length, length-append, sym, ◌∙◌, subst, ap, arith}
use Rattle.std.proofs.Common.{get_or-set_same, get_or-set_other, length-set}
use Rattle.std.specs.Prelude.{slice_index, slice_set}
use Rattle.order_list.specs.Ordered.{Ordered, is_in, IsKept, Rises}
use Rattle.order_list.specs.Sides.{Lists, AreKept}
use Rattle.order_list.proofs.Inserting.{below_in, head_in, in_rest}
use Rattle.order_query.specs.declared.view.Insert.{Insert}
use Rattle.order_query.specs.Logs.{StrictlyRise, AreRising, english_of, hebrew_of, english_word, hebrew_word, afters_english, afters_hebrew}
use Rattle.order_query.specs.Reading.{ShowBoth}
use Rattle.order_query.specs.Rule.{IsPublished, MayWrite}
use Rattle.order_query.proofs.Growing.{order_below}
use Rattle.std.proofs.lemmas.List.{length-map}
use Rattle.order_query.proofs.Starts.{starts_self, starts_more}

pub rise_on : (f g : ℕ → ℕ) (order : List ℕ) → ((x : ℕ) → is_in x order ≡ true → g x ≡ f x) → StrictlyRise f order → StrictlyRise g order
rise_on f g [] same r = tt
rise_on f g (x ∷ []) same r = tt
rise_on f g (x ∷ y ∷ ys) same r = (
  omega (arith, r.0, same x (head_in x (y ∷ ys)), same y (in_rest y x (y ∷ ys) (head_in y ys))),
  rise_on f g (y ∷ ys) (λ z h. same z (in_rest z x (y ∷ ys) h)) r.1,
)

strictly : (labels : List ℕ) (low high : ℕ) (xs : List ℕ) → Rises labels low high xs → StrictlyRise (slice_index labels) xs
strictly labels low high [] r = tt
strictly labels low high (x ∷ []) r = tt
strictly labels low high (x ∷ y ∷ ys) r = (omega (arith, r.2.0), strictly labels (slice_index labels x + 1) high (y ∷ ys) r.2)

-- labels of a list that keeps its invariant strictly rise along it
rising_by : (l : Ordered) (f : ℕ → ℕ) → IsKept l → ((x : ℕ) → x < length l.order → f x ≡ slice_index l.labels x) → StrictlyRise f l.order
rising_by l f k same = rise_on (slice_index l.labels) f l.order (λ x ix. same x (below_in (length l.order) x l.order k.numbered.below ix))
    (strictly l.labels 0 (2 ^ 62) l.order k.rises)

-- so do those of words that have the labels of both lists
pub shown_rise : (words : List ℕ) (log : List Insert) (lists : Lists) → AreKept lists → ShowBoth words log lists → AreRising words log
shown_rise words log lists k s = record {
  english = subst (StrictlyRise (λ x. slice_index words (english_word x))) s.english.order_is
      (rising_by lists.english (λ x. slice_index words (english_word x)) k.first s.english.labels_are);
  hebrew = subst (StrictlyRise (λ x. slice_index words (hebrew_word x))) s.hebrew.order_is
      (rising_by lists.hebrew (λ x. slice_index words (hebrew_word x)) k.second s.hebrew.labels_are);
}

-- an item of the lists of a log is one of the log
english_below : (log : List Insert) (x : ℕ) → is_in x (english_of log) ≡ true → x < length log + 1
english_below log x h = let r = order_below (afters_english log) x h in omega (arith, r, length-map log (λ (p : Insert). p.english))

hebrew_below : (log : List Insert) (x : ℕ) → is_in x (hebrew_of log) ≡ true → x < length log + 1
hebrew_below log x h = let r = order_below (afters_hebrew log) x h in omega (arith, r, length-map log (λ (p : Insert). p.hebrew))

-- labels that stay rise as before
rising_on : (words after : List ℕ) (log : List Insert) → ((w : ℕ) → 2 ≤ w → w < 2 * length log + 4 → slice_index after w ≡ slice_index words w)
    → AreRising words log → AreRising after log
rising_on words after log same r = record {
  english = rise_on (λ x. slice_index words (english_word x)) (λ x. slice_index after (english_word x)) (english_of log)
      (λ x ix. same (english_word x) (omega arith) (omega (arith, english_below log x ix))) r.english;
  hebrew = rise_on (λ x. slice_index words (hebrew_word x)) (λ x. slice_index after (hebrew_word x)) (hebrew_of log)
      (λ x ix. same (hebrew_word x) (omega arith) (omega (arith, hebrew_below log x ix))) r.hebrew;
}

-- a label, while the version is odd
pub label_while_odd : (words : List ℕ) (log : List Insert) (w n : ℕ) → 2 ≤ w → slice_index words 0 % 2 ≡ 1 → IsPublished words log
    → MayWrite words log (slice_set words w n) log
label_while_odd words log w n low odd p =
    let version : slice_index (slice_set words w n) 0 ≡ slice_index words 0 = get_or-set_other words w 0 n 0 (λ e. omega (arith, e, low)) in
    let count : slice_index (slice_set words w n) 1 ≡ slice_index words 1 = get_or-set_other words w 1 n 0 (λ e. omega (arith, e, low)) in
    record {
      published = record {
        capacity = p.capacity;
        size = length-set words w n ∙ p.size;
        counted = count ∙ p.counted;
        few = p.few;
        bounded = omega (arith, version, p.bounded);
        rising = λ even. absurd (let even' : slice_index words 0 % 2 ≡ 0 = ap (λ (k : ℕ). k % 2) (sym version) ∙ even in omega (arith, odd, even'));
      };
      starts = starts_self log;
      version = omega (arith, version);
      steady = λ e even. absurd (omega (arith, odd, even));
    }

-- a label of the item that is not counted yet
pub label_uncounted : (words : List ℕ) (log : List Insert) (w n : ℕ) → 2 * length log + 4 ≤ w → IsPublished words log
    → MayWrite words log (slice_set words w n) log
label_uncounted words log w n high p =
    let version : slice_index (slice_set words w n) 0 ≡ slice_index words 0 = get_or-set_other words w 0 n 0 (λ e. omega (arith, e, high)) in
    let count : slice_index (slice_set words w n) 1 ≡ slice_index words 1 = get_or-set_other words w 1 n 0 (λ e. omega (arith, e, high)) in
    let same : (x : ℕ) → 2 ≤ x → x < 2 * length log + 4 → slice_index (slice_set words w n) x ≡ slice_index words x = λ x low lt. get_or-set_other words w x n 0
    (λ e. omega (arith, e, high, lt)) in
    record {
      published = record {
        capacity = p.capacity;
        size = length-set words w n ∙ p.size;
        counted = count ∙ p.counted;
        few = p.few;
        bounded = omega (arith, version, p.bounded);
        rising = λ even. rising_on words (slice_set words w n) log same (p.rising (ap (λ (k : ℕ). k % 2) (sym version) ∙ even));
      };
      starts = starts_self log;
      version = omega (arith, version);
      steady = λ _ _. same;
    }

-- the next version, if labels rise wherever it is even
pub next_version : (words : List ℕ) (log : List Insert) (n : ℕ) → n ≡ slice_index words 0 + 1 → n ≤ 2 * (length log + 1) → (n % 2 ≡ 0 → AreRising words log)
    → IsPublished words log → MayWrite words log (slice_set words 0 n) log
next_version words log n next most rising p =
    let there : 0 < length words = omega (arith, p.size) in
    let version : slice_index (slice_set words 0 n) 0 ≡ n = get_or-set_same words 0 n 0 there in
    let same : (x : ℕ) → 2 ≤ x → x < 2 * length log + 4 → slice_index (slice_set words 0 n) x ≡ slice_index words x = λ x low lt. get_or-set_other words 0 x n 0
    (λ e. omega (arith, e, low)) in
    let count : slice_index (slice_set words 0 n) 1 ≡ slice_index words 1 = get_or-set_other words 0 1 n 0 (λ e. omega (arith, e)) in
    record {
      published = record {
        capacity = p.capacity;
        size = length-set words 0 n ∙ p.size;
        counted = count ∙ p.counted;
        few = p.few;
        bounded = omega (arith, version, most);
        rising = λ even. rising_on words (slice_set words 0 n) log same (rising (ap (λ (k : ℕ). k % 2) (sym version) ∙ even));
      };
      starts = starts_self log;
      version = omega (arith, version, next);
      steady = λ e even. absurd (omega (arith, version, next, e));
    }

-- the count
pub next_count : (words : List ℕ) (log : List Insert) (insert : Insert) (n : ℕ) → n ≡ length log + 2 → 2 * length log + 6 ≤ length words
    → (slice_index words 0 % 2 ≡ 0 → AreRising words (log ++ insert ∷ [])) → IsPublished words log
    → MayWrite words log (slice_set words 1 n) (log ++ insert ∷ [])
next_count words log insert n next room rising p =
    let longer = log ++ insert ∷ [] in
    let len : length longer ≡ length log + 1 = length-append log (insert ∷ []) in
    let there : 1 < length words = omega (arith, room) in
    let count : slice_index (slice_set words 1 n) 1 ≡ n = get_or-set_same words 1 n 0 there in
    let version : slice_index (slice_set words 1 n) 0 ≡ slice_index words 0 = get_or-set_other words 1 0 n 0 (λ e. omega (arith, e)) in
    let same : (x : ℕ) → 2 ≤ x → slice_index (slice_set words 1 n) x ≡ slice_index words x = λ x low. get_or-set_other words 1 x n 0
    (λ e. omega (arith, e, low)) in
    record {
      published = record {
        capacity = p.capacity;
        size = length-set words 1 n ∙ p.size;
        counted = omega (arith, count, next, len);
        few = omega (arith, len, room, p.size);
        bounded = omega (arith, version, p.bounded, len);
        rising = λ even. rising_on words (slice_set words 1 n) longer (λ x low lt. same x low) (rising (ap (λ (k : ℕ). k % 2) (sym version) ∙ even));
      };
      starts = starts_more log (insert ∷ []);
      version = omega (arith, version);
      steady = λ _ _ x low lt. same x low;
    }
