-- Lists of lines of which one is changed, and the jobs that wait there.
use Rattle.std.proofs.Common.{◌≡◌, ◌≢◌, ℕ, zero, suc, ◌+◌, ◌<◌, List, [], ◌∷◌, ◌++◌, length, get_or, ◌⊎◌, inl, inr, subst, ap, sym, refl, ◌∙◌, arith}
use Rattle.std.specs.Prelude.{◌↔◌, Option, Some, slice_get, slice_set}
use Rattle.std.proofs.lemmas.List.{length-append}
use Rattle.std.proofs.lemmas.Option.{same_Some, get_or_from_slice_get}
use Rattle.fut_base.specs.Dag.{Among}
use Rattle.fut_base.proofs.Members.{among_left, among_right, among_split}
use Rattle.run_book.specs.Jobs.{JobNow}
use Rattle.run_book.specs.Lines.{LineNow, new_line}
use Rattle.run_book.specs.Turns.{change_at, AreSameLines}
use Rattle.run_book.specs.Books.{waiting_at, jobs_in, waiting_in}

-- ---- one line

pub get_changed : (t : ℕ) (f : LineNow → LineNow) (ls : List LineNow) (l : LineNow) → slice_get ls t ≡ Some l → slice_get (change_at t f ls) t ≡ Some (f l)
get_changed t f [] l e = cc
get_changed zero f (m ∷ ls) l e = ap (λ (x : LineNow). Some (f x)) (same_Some m l e)
get_changed (suc t) f (m ∷ ls) l e = get_changed t f ls l e

pub get_kept : (t u : ℕ) (f : LineNow → LineNow) (ls : List LineNow) → u ≢ t → slice_get (change_at t f ls) u ≡ slice_get ls u
get_kept t u f [] other = refl
get_kept zero zero f (m ∷ ls) other = absurd (other refl)
get_kept zero (suc u) f (m ∷ ls) other = refl
get_kept (suc t) zero f (m ∷ ls) other = refl
get_kept (suc t) (suc u) f (m ∷ ls) other = get_kept t u f ls (λ e. other (ap suc e))

pub length_changed : (t : ℕ) (f : LineNow → LineNow) (ls : List LineNow) → length (change_at t f ls) ≡ length ls
length_changed t f [] = refl
length_changed zero f (m ∷ ls) = refl
length_changed (suc t) f (m ∷ ls) = ap suc (length_changed t f ls)

pub set_changed : (t : ℕ) (f : LineNow → LineNow) (ls : List LineNow) (l : LineNow) → slice_get ls t ≡ Some l → slice_set ls t (f l) ≡ change_at t f ls
set_changed t f [] l e = cc
set_changed zero f (m ∷ ls) l e = ap (λ (x : LineNow). f x ∷ ls) (sym (same_Some m l e))
set_changed (suc t) f (m ∷ ls) l e = ap (λ xs. m ∷ xs) (set_changed t f ls l e)

-- so it is where a line was looked up by its place, and changed there
pub set_indexed : (t : ℕ) (f : LineNow → LineNow) (ls : List LineNow) (l d y : LineNow) → slice_get ls t ≡ Some l → y ≡ f (get_or ls t d)
    → slice_set ls t y ≡ change_at t f ls
set_indexed t f ls l d y at new = ap (λ (z : LineNow). slice_set ls t z) (new ∙ ap f (get_or_from_slice_get ls t l d at)) ∙ set_changed t f ls l at

-- a line of the changed lines is the changed one, or an old one
pub changed_line : (t u : ℕ) (f : LineNow → LineNow) (ls : List LineNow) (m : LineNow) → slice_get (change_at t f ls) u ≡ Some m
    → ((u ≡ t) × ((l : LineNow) × (slice_get ls t ≡ Some l) × (f l ≡ m))) ⊎ ((u ≢ t) × (slice_get ls u ≡ Some m))
changed_line t u f [] m e = cc
changed_line zero zero f (l ∷ ls) m e = inl (refl, (l, refl, same_Some (f l) m e))
changed_line zero (suc u) f (l ∷ ls) m e = inr ((λ h. omega (arith, h)), e)
changed_line (suc t) zero f (l ∷ ls) m e = inr ((λ h. omega (arith, h)), e)
changed_line (suc t) (suc u) f (l ∷ ls) m e = elim (changed_line t u f ls m e) [
  | inl own ↦ inl (ap suc own.0, own.1)
  | inr old ↦ inr ((λ h. old.0 (omega (arith, h))), old.1)
]

-- a line of the lines with one more is an old one, or the new one
pub pushed_line : (ls : List LineNow) (x : LineNow) (u : ℕ) (m : LineNow) → slice_get (ls ++ x ∷ []) u ≡ Some m
    → (slice_get ls u ≡ Some m) ⊎ ((u ≡ length ls) × (x ≡ m))
pushed_line [] x zero m e = inr (refl, same_Some x m e)
pushed_line [] x (suc u) m e = cc
pushed_line (l ∷ ls) x zero m e = inl e
pushed_line (l ∷ ls) x (suc u) m e = elim (pushed_line ls x u m e) [
  | inl old ↦ inl old
  | inr new ↦ inr (ap suc new.0, new.1)
]

pub length_pushed : (ls : List LineNow) (x : LineNow) → length (ls ++ x ∷ []) ≡ length ls + 1
length_pushed ls x = length-append ls (x ∷ [])

pub get_in : (ls : List LineNow) (t : ℕ) → t < length ls → (l : LineNow) × (slice_get ls t ≡ Some l)
get_in [] t low = absurd (omega (arith, low))
get_in (m ∷ ls) zero low = (m, refl)
get_in (m ∷ ls) (suc t) low = get_in ls t (omega (arith, low))

-- ---- the same lines with other room

pub same_lines : (ls : List LineNow) → AreSameLines ls ls
same_lines [] = tt
same_lines (l ∷ ls) = (refl, same_lines ls)

pub same_with_room : (t : ℕ) (ls : List LineNow) (l m : LineNow) → slice_get ls t ≡ Some l → m ≡ record l { room = m.room } → AreSameLines ls (slice_set ls t m)
same_with_room t [] l m e same = cc
same_with_room zero (x ∷ ls) l m e same = (subst (λ (y : LineNow). m ≡ record y { room = m.room }) (sym (same_Some x l e)) same, same_lines ls)
same_with_room (suc t) (x ∷ ls) l m e same = (refl, same_with_room t ls l m e same)

-- a line, but for its room
pub same_line : (ls ms : List LineNow) (t : ℕ) (m : LineNow) → AreSameLines ls ms → slice_get ms t ≡ Some m
    → (l : LineNow) × (slice_get ls t ≡ Some l) × (m ≡ record l { room = m.room })
same_line [] [] t m same e = cc
same_line [] (y ∷ ms) t m same e = absurd same
same_line (x ∷ ls) [] t m same e = absurd same
same_line (x ∷ ls) (y ∷ ms) zero m same e = (x, refl, subst (λ (z : LineNow). z ≡ record x { room = z.room }) (same_Some y m e) same.0)
same_line (x ∷ ls) (y ∷ ms) (suc t) m same e = same_line ls ms t m same.1 e

pub same_length : (ls ms : List LineNow) → AreSameLines ls ms → length ms ≡ length ls
same_length [] [] same = refl
same_length [] (y ∷ ms) same = absurd same
same_length (x ∷ ls) [] same = absurd same
same_length (x ∷ ls) (y ∷ ms) same = ap suc (same_length ls ms same.1)

pub same_waiting : (ls ms : List LineNow) → AreSameLines ls ms → waiting_in ms ≡ waiting_in ls
same_waiting [] [] same = refl
same_waiting [] (y ∷ ms) same = absurd same
same_waiting (x ∷ ls) [] same = absurd same
same_waiting (x ∷ ls) (y ∷ ms) same =
    let here : length (waiting_at y) ≡ length (waiting_at x) = ap (λ (z : LineNow). length (waiting_at z)) same.0 in
    let rest = same_waiting ls ms same.1 in
    omega (arith, here, rest)

pub same_jobs : (ls ms : List LineNow) → AreSameLines ls ms → jobs_in ms ≡ jobs_in ls
same_jobs [] [] same = refl
same_jobs [] (y ∷ ms) same = absurd same
same_jobs (x ∷ ls) [] same = absurd same
same_jobs (x ∷ ls) (y ∷ ms) same =
    ap (λ js. js ++ jobs_in ms) (ap (λ (z : LineNow). waiting_at z) same.0) ∙ ap (λ js. waiting_at x ++ js) (same_jobs ls ms same.1)

-- ---- the jobs that wait

pub waiting_changed : (t : ℕ) (f : LineNow → LineNow) (ls : List LineNow) (l : LineNow) → slice_get ls t ≡ Some l
    → waiting_in (change_at t f ls) + length (waiting_at l) ≡ waiting_in ls + length (waiting_at (f l))
waiting_changed t f [] l e = cc
waiting_changed zero f (m ∷ ls) l e =
    let same = same_Some m l e in
    let here : length (waiting_at m) ≡ length (waiting_at l) = ap (λ (z : LineNow). length (waiting_at z)) same in
    let there : length (waiting_at (f m)) ≡ length (waiting_at (f l)) = ap (λ (z : LineNow). length (waiting_at (f z))) same in
    omega (arith, here, there)
waiting_changed (suc t) f (m ∷ ls) l e = let rest = waiting_changed t f ls l e in omega (arith, rest)

pub waiting_pushed : (ls : List LineNow) (parent : Option ℕ) → waiting_in (ls ++ new_line parent ∷ []) ≡ waiting_in ls
waiting_pushed [] parent = refl
waiting_pushed (l ∷ ls) parent = ap (λ n. length (waiting_at l) + n) (waiting_pushed ls parent)

-- one more job waits at a line
pub jobs_changed : (t : ℕ) (f : LineNow → LineNow) (ls : List LineNow) (l : LineNow) (j : JobNow) → slice_get ls t ≡ Some l
    → ((k : JobNow) → Among k (waiting_at (f l)) ↔ (Among k (waiting_at l) ⊎ (k ≡ j))) → (k : JobNow)
    → Among k (jobs_in (change_at t f ls)) ↔ (Among k (jobs_in ls) ⊎ (k ≡ j))
jobs_changed t f [] l j e here k = cc
jobs_changed zero f (m ∷ ls) l j e here k =
    let same = same_Some m l e in
    let at = subst (λ (z : LineNow). Among k (waiting_at (f z)) ↔ (Among k (waiting_at z) ⊎ (k ≡ j))) (sym same) (here k) in (
      (λ a. elim (among_split k (waiting_at (f m)) (jobs_in ls) a) [
        | inl new ↦ elim (at.0 new) [ inl old ↦ inl (among_left k (waiting_at m) (jobs_in ls) old) | inr own ↦ inr own ]
        | inr rest ↦ inl (among_right k (waiting_at m) (jobs_in ls) rest)
      ]),
      (λ a. elim a [
        | inl old ↦ elim (among_split k (waiting_at m) (jobs_in ls) old) [
          | inl first ↦ among_left k (waiting_at (f m)) (jobs_in ls) (at.1 (inl first))
          | inr rest ↦ among_right k (waiting_at (f m)) (jobs_in ls) rest
        ]
        | inr own ↦ among_left k (waiting_at (f m)) (jobs_in ls) (at.1 (inr own))
      ]),
    )
jobs_changed (suc t) f (m ∷ ls) l j e here k =
    let rest = jobs_changed t f ls l j e here k in (
      (λ a. elim (among_split k (waiting_at m) (jobs_in (change_at t f ls)) a) [
        | inl first ↦ inl (among_left k (waiting_at m) (jobs_in ls) first)
        | inr more ↦ elim (rest.0 more) [ inl old ↦ inl (among_right k (waiting_at m) (jobs_in ls) old) | inr own ↦ inr own ]
      ]),
      (λ a. elim a [
        | inl old ↦ elim (among_split k (waiting_at m) (jobs_in ls) old) [
          | inl first ↦ among_left k (waiting_at m) (jobs_in (change_at t f ls)) first
          | inr more ↦ among_right k (waiting_at m) (jobs_in (change_at t f ls)) (rest.1 (inl more))
        ]
        | inr own ↦ among_right k (waiting_at m) (jobs_in (change_at t f ls)) (rest.1 (inr own))
      ]),
    )
