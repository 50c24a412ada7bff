-- What the labels of one moment say.
use Rattle.std.proofs.Common.{◌≡◌, ℕ, ◌%◌, ◌<◌, true, List, [], ◌++◌, inl, inr, map, sym, ◌∙◌, subst, refl, ap, arith, append_assoc}
use Rattle.std.specs.Prelude.{◌==◌, nat_lt, slice_index}
use Rattle.std.proofs.lemmas.Bool.Decides.{nat_tests}
use Rattle.std.proofs.lemmas.List.{map-append, length-map}
use Rattle.atomic_table.specs.Table.{Me}
use Rattle.order_list.specs.Ordered.{stands_before}
use Rattle.order_list.specs.declared.judge.Sides.{Sides}
use Rattle.order_list.specs.Sides.{AreSides}
use Rattle.order_list.proofs.Chains.{tested, eq_of}
use Rattle.order_query.specs.declared.view.Insert.{Insert}
use Rattle.order_query.specs.declared.view.Snapshot.{Snapshot}
use Rattle.order_query.specs.declared.view.View.{View}
use Rattle.order_query.specs.Logs.{IsLog, AreEarlier, StartsWith, StrictlyRise, english_of, hebrew_of, order_of, english_word, hebrew_word, count_of}
use Rattle.order_query.specs.Plays.{snapshot_after, after_version, after_label, IsMoment}
use Rattle.order_query.specs.Reading.{Reading, HasOnlyLoaded, AreSidesFrom}
use Rattle.order_query.proofs.Growing.{TellOrder, told, orders_stay}
use Rattle.order_query.proofs.Rising.{rising_tell}

-- a reader that was asked again
pub loaded_again : {r s t : Reading} → HasOnlyLoaded r s → HasOnlyLoaded s t → HasOnlyLoaded r t
loaded_again {r = r} a b =
    record {
      loads = (a.loads.0 ++ b.loads.0, b.loads.1 ∙ ap (λ l. l ++ b.loads.0) a.loads.1 ∙ append_assoc r.loaded a.loads.0 b.loads.0);
      log = b.log ∙ a.log;
      home = b.home ∙ a.home;
    }

pub version_taken : (snapshot : Snapshot) (n : ℕ) → n % 2 ≡ 0 → (snapshot_after snapshot n).version ≡ n
version_taken snapshot n even =
    let test : (n % 2 == 0) ≡ true = grind (arith, nat_tests) in
    elim (tested (n == snapshot.version)) [ inl e ↦ rw e (sym (eq_of n snapshot.version e)) | inr e ↦ rw (e, test) refl ]

-- what is told of a longer log is told of the items of one that begins it
told_by_start : (label : ℕ → ℕ) (f : Insert → ℕ) (log start : List Insert) (x y : ℕ) → StartsWith log start → AreEarlier 1 (map f start) → x < count_of start
    → y < count_of start → StrictlyRise label (order_of (map f log)) → nat_lt (label x) (label y) ≡ stands_before x y (order_of (map f start))
told_by_start label f log start x y s e lx ly r =
    let t = rising_tell label (map f log) r in
    let more = map f s.0 in
    let parts : map f log ≡ map f start ++ more = ap (map f) s.1 ∙ map-append f start s.0 in
    let len = length-map start f in
    told label (map f start) more x y e (omega (arith, lx, len)) (omega (arith, ly, len)) (subst (λ (as' : List ℕ). TellOrder label (order_of as')) parts t)

-- the view after a version and four labels were loaded
abbrev pub asked : View → ℕ → ℕ → ℕ → ℕ → ℕ → ℕ → ℕ → View
asked v n x y a b c d = after_label (after_label (after_label (after_label (after_version v n) (english_word x) a) (english_word y) b)
    (hebrew_word x) c) (hebrew_word y) d

pub sides_are : (v : View) (n m x y a b c d : ℕ) → n % 2 ≡ 0 → n ≡ m → (m ≡ (asked v n x y a b c d).snapshot.version → IsMoment (asked v n x y a b c d))
    → IsLog v.log → x < count_of v.log → y < count_of v.log
    → AreSides (record { english = nat_lt a b; hebrew = nat_lt c d }) x y (english_of v.log) (hebrew_of v.log)
sides_are v n m x y a b c d even same moment log lx ly =
    let at = moment (sym same ∙ sym (version_taken v.snapshot n even)) in
    let words = at.words in
    let w = at.labels in
    let e = told_by_start (λ i. slice_index words (english_word i)) (λ (p : Insert). p.english) at.log v.log x y at.starts log.0 lx ly at.rises.english in
    let h = told_by_start (λ i. slice_index words (hebrew_word i)) (λ (p : Insert). p.hebrew) at.log v.log x y at.starts log.1 lx ly at.rises.hebrew in
    record {
      first = ap (λ i. nat_lt i b) (sym w.1.1.1.0) ∙ ap (λ i. nat_lt (slice_index words (english_word x)) i) (sym w.1.1.0) ∙ e;
      second = ap (λ i. nat_lt i d) (sym w.1.0) ∙ ap (λ i. nat_lt (slice_index words (hebrew_word x)) i) (sym w.0) ∙ h;
    }

-- and they stay
pub sides_stay : (sides : Sides) (x y : ℕ) (log : List Insert) → x < count_of log → y < count_of log → AreSides sides x y (english_of log) (hebrew_of log)
    → AreSidesFrom sides x y log
sides_stay sides x y log lx ly a = λ longer starts. let same = orders_stay longer log starts x y lx ly in record {
  first = a.first ∙ sym same.0;
  second = a.second ∙ sym same.1;
}

-- the same in the steps of a question: a version, four labels, and the version again
pub asked_sides : (v : View) (log : List Insert) (n m x y a b p q : ℕ) (s1 s2 s3 s4 s5 : Me (Unit {0}) View)
    → s1 ≡ (after_version v n, []) → s2 ≡ (after_label s1.0 (english_word x) a, []) → s3 ≡ (after_label s2.0 (english_word y) b, [])
    → s4 ≡ (after_label s3.0 (hebrew_word x) p, []) → s5 ≡ (after_label s4.0 (hebrew_word y) q, [])
    → n % 2 ≡ 0 → n ≡ m → (m ≡ s5.0.snapshot.version → IsMoment s5.0) → v.log ≡ log → IsLog v.log → x < count_of log → y < count_of log
    → AreSidesFrom (record { english = nat_lt a b; hebrew = nat_lt p q }) x y log
asked_sides v log n m x y a b p q s1 s2 s3 s4 s5 e1 e2 e3 e4 e5 even same moment log_is earlier lx ly =
    let after : ℕ → ℕ → Me (Unit {0}) View → Me (Unit {0}) View = λ w k e. (after_label e.0 w k, []) in
    let all : s5 ≡ (asked v n x y a b p q, []) = e5 ∙ ap (after (hebrew_word y) q) (e4
    ∙ ap (after (hebrew_word x) p) (e3 ∙ ap (after (english_word y) b) (e2 ∙ ap (after (english_word x) a) e1))) in
    let moment' = subst (λ (e : Me (Unit {0}) View). m ≡ e.0.snapshot.version → IsMoment e.0) all moment in
    let lx' = subst (λ (l : List Insert). x < count_of l) (sym log_is) lx in
    let ly' = subst (λ (l : List Insert). y < count_of l) (sym log_is) ly in
    let sides : Sides = record { english = nat_lt a b; hebrew = nat_lt p q } in
    subst (λ (l : List Insert). AreSidesFrom sides x y l) log_is
    (sides_stay sides x y v.log lx' ly' (sides_are v n m x y a b p q even same moment' earlier lx' ly'))
