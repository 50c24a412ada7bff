-- Values that lie in one list, variable behind variable.
use Rattle.std.proofs.Common.{◌≡◌, ℕ, zero, suc, ◌+◌, ◌-◌, ◌<◌, ◌≤◌, inl, inr, min, List, [], ◌∷◌, ◌++◌, length}
use Rattle.std.proofs.Common.{map, take, drop, get_or, replicate, refl, sym, ap, ◌∙◌, subst, arith, append_assoc}
use Rattle.std.specs.Prelude.{Some, None, slice_get, slice_set, slice_index, max}
use Rattle.std.proofs.lemmas.List.{map-set, get_or-set_same, get_or-set_other, take-set-le, drop-set-lt, drop-set-add, set-set, set-get_or, set_past}
use Rattle.std.proofs.lemmas.List.{append-nil, length-take-le, take_more, length-replicate, length-drop, take_min, take-append-le, drop-append-le, map-append}
use Rattle.std.proofs.Math.Seq.{take-length, set-append_seam, take-set-lt}
use Rattle.std.proofs.Math.ListN.{get_or-append}
use Rattle.std.proofs.lemmas.Option.{same_Some}
use Rattle.std.proofs.lemmas.Bool.{cases_lt}
use Rattle.fut_base.specs.declared.record.Value.{Value}
use Rattle.task_machine.specs.Variables.{Slot, One, Many, refilled}
use Rattle.task_frame.specs.declared.frame.Shape.{Shape}
use Rattle.task_frame.specs.declared.frame.Shape.TheVariants as shape
use Rattle.task_frame.specs.declared.frame.Extent.{Extent}
use Rattle.task_frame.specs.declared.names.Name.{Name}
use Rattle.task_frame.specs.Frames.{zero_value, zero_slot, shaped, slot_of, slots_of, rooms_of, shape_size, with_element, shape_of, AreLaid}

pub laid_end : (ps : List Extent) (n end : ℕ) → AreLaid n ps end → n ≤ end
laid_end [] n end h = omega (arith, h)
laid_end (p ∷ ps) n end h = let rest = laid_end ps (n + p.room) end h.3 in omega (arith, rest)

-- where a place of the list lies
pub record LiesIn (n end : ℕ) (p : Extent) : Type 0 where
  pub from : n ≤ p.first
  pub to : p.first + p.room ≤ end
  pub room : 1 ≤ p.room
  pub fits : shape_size p.shape ≤ p.room

pub any_default : (values : List Value) (i : ℕ) (d e : Value) → i < length values → get_or values i d ≡ get_or values i e
any_default [] i d e h = absurd (omega arith)
any_default (v ∷ vs) zero d e h = refl
any_default (v ∷ vs) (suc i) d e h = any_default vs i d e (omega arith)

pub lies_in : (ps : List Extent) (n end i : ℕ) (p : Extent) → AreLaid n ps end → slice_get ps i ≡ Some p → LiesIn n end p
lies_in [] n end i p h g = absurd (cc)
lies_in (q ∷ ps) n end zero p h g =
    let rest = laid_end ps (n + q.room) end h.3 in
    subst (LiesIn n end) (same_Some q p g) (record { from = omega (arith, h.0); to = omega (arith, h.0, rest); room = h.1; fits = h.2 })
lies_in (q ∷ ps) n end (suc i) p h g =
    let rest = lies_in ps (n + q.room) end i p h.3 g in
    record { from = omega (arith, rest.from); to = rest.to; room = rest.room; fits = rest.fits }

-- ---- a value is set

-- a slot whose values begin behind it is as it was
shaped_behind : (values : List Value) (first at : ℕ) (s : Shape) (v : Value) → at < first → shaped (slice_set values at v) first s ≡ shaped values first s
shaped_behind values first at shape.One v h = ap One (get_or-set_other values at first v zero_value (λ e. omega (arith, e, h)))
shaped_behind values first at (shape.Many n) v h = ap (λ xs. Many (take n xs)) (drop-set-lt first values at v h)

at_least : (a b : ℕ) → a ≤ b → (k : ℕ) × (b ≡ a + k)
at_least zero b h = (b, omega arith)
at_least (suc a) zero h = absurd (omega arith)
at_least (suc a) (suc b) h = let rest = at_least a b (omega arith) in (rest.0, omega (arith, rest.1))

-- a slot whose values end before it is as it was
shaped_before : (values : List Value) (first at : ℕ) (s : Shape) (v : Value) → first + shape_size s ≤ at
    → shaped (slice_set values at v) first s ≡ shaped values first s
shaped_before values first at shape.One v h = ap One (get_or-set_other values at first v zero_value (λ e. omega (arith, e, h)))
shaped_before values first at (shape.Many n) v h =
    let k = at_least first at (omega arith) in
    subst (λ m. shaped (slice_set values m v) first (shape.Many n) ≡ shaped values first (shape.Many n)) (sym k.1)
    (ap (λ xs. Many (take n xs)) (drop-set-add first values k.0 v) ∙ ap Many (take-set-le n (drop first values) k.0 v (omega (arith, k.1))))

set_behind : (values : List Value) (ps : List Extent) (n end at : ℕ) (v : Value) → AreLaid n ps end → at < n
    → slots_of (slice_set values at v) ps ≡ slots_of values ps
set_behind values [] n end at v h below = refl
set_behind values (p ∷ ps) n end at v h below =
    let head = shaped_behind values p.first at p.shape v (omega (arith, h.0)) in
    let rest = set_behind values ps (n + p.room) end at v h.3 (omega arith) in
    ap (λ s. s ∷ slots_of (slice_set values at v) ps) head ∙ ap (λ ss. slot_of values p ∷ ss) rest

-- a value is set in the room of one variable
pub set_in : (values : List Value) (ps : List Extent) (n end i : ℕ) (p : Extent) (k : ℕ) (v : Value) → AreLaid n ps end → slice_get ps i ≡ Some p → k < p.room
    → slots_of (slice_set values (p.first + k) v) ps ≡ slice_set (slots_of values ps) i (slot_of (slice_set values (p.first + k) v) p)
set_in values [] n end i p k v h g below = absurd (cc)
set_in values (q ∷ ps) n end zero p k v h g below =
    subst
    (λ (r : Extent). slots_of (slice_set values (r.first + k) v) (q ∷ ps)
    ≡ slice_set (slots_of values (q ∷ ps)) zero (slot_of (slice_set values (r.first + k) v) r)) (same_Some q p g)
    (ap (λ ss. slot_of (slice_set values (q.first + k) v) q ∷ ss)
    (set_behind values ps (n + q.room) end (q.first + k) v h.3 (omega (arith, h.0, ap (λ (r : Extent). r.room) (same_Some q p g)))))
set_in values (q ∷ ps) n end (suc i) p k v h g below =
    let inside = lies_in ps (n + q.room) end i p h.3 g in
    let head = shaped_before values q.first (p.first + k) q.shape v (omega (arith, h.0, h.2, inside.from)) in
    let rest = set_in values ps (n + q.room) end i p k v h.3 g below in
    ap (λ s. s ∷ slots_of (slice_set values (p.first + k) v) ps) head ∙ ap (λ ss. slot_of values q ∷ ss) rest

-- ---- a place is changed

pub laid_reshaped : (ps : List Extent) (n end i : ℕ) (p q : Extent) → AreLaid n ps end → slice_get ps i ≡ Some p → q.first ≡ p.first → q.room ≡ p.room
    → shape_size q.shape ≤ q.room → AreLaid n (slice_set ps i q) end
laid_reshaped [] n end i p q h g first room fits = absurd (cc)
laid_reshaped (r ∷ ps) n end zero p q h g first room fits =
    let same = same_Some r p g in
    let room' : q.room ≡ r.room = room ∙ sym (ap (λ (x : Extent). x.room) same) in
    (first ∙ sym (ap (λ (x : Extent). x.first) same) ∙ h.0, omega (arith, h.1, room'), fits, subst (λ m. AreLaid (n + m) ps end) (sym room') h.3)
laid_reshaped (r ∷ ps) n end (suc i) p q h g first room fits = (h.0, h.1, h.2, laid_reshaped ps (n + r.room) end i p q h.3 g first room fits)

pub rooms_reshaped : (ps : List Extent) (i : ℕ) (p q : Extent) → slice_get ps i ≡ Some p → q.room ≡ p.room → rooms_of (slice_set ps i q) ≡ rooms_of ps
rooms_reshaped [] i p q g room = refl
rooms_reshaped (r ∷ ps) zero p q g room = ap (λ m. m ∷ rooms_of ps) (room ∙ sym (ap (λ (x : Extent). x.room) (same_Some r p g)))
rooms_reshaped (r ∷ ps) (suc i) p q g room = ap (λ ms. r.room ∷ ms) (rooms_reshaped ps i p q g room)

pub slots_reshaped : (values : List Value) (ps : List Extent) (i : ℕ) (q : Extent)
    → slots_of values (slice_set ps i q) ≡ slice_set (slots_of values ps) i (slot_of values q)
slots_reshaped values ps i q = map-set (slot_of values) ps i q

-- a variable is set to one value
pub one_is_set : (values : List Value) (ps : List Extent) (i : ℕ) (p q : Extent) (v : Value) → AreLaid 0 ps (length values) → slice_get ps i ≡ Some p
    → q.first ≡ p.first → q.shape ≡ shape.One → slots_of (slice_set values p.first v) (slice_set ps i q) ≡ slice_set (slots_of values ps) i (One v)
one_is_set values ps i p q v h g first one =
    let inside = lies_in ps 0 (length values) i p h g in
    let zeroth : p.first + 0 ≡ p.first = omega arith in
    let set : slots_of (slice_set values p.first v) ps ≡ slice_set (slots_of values ps) i (slot_of (slice_set values p.first v) p) =
    subst (λ m. slots_of (slice_set values m v) ps ≡ slice_set (slots_of values ps) i (slot_of (slice_set values m v) p)) zeroth
    (set_in values ps 0 (length values) i p 0 v h g (omega (arith, inside.room))) in
    let new : slot_of (slice_set values p.first v) q ≡ One v =
    ap (λ s. shaped (slice_set values p.first v) q.first s) one ∙ ap (λ m. One (get_or (slice_set values p.first v) m zero_value)) first
    ∙ ap One (get_or-set_same values p.first v zero_value (omega (arith, inside.to, inside.room))) in
    slots_reshaped (slice_set values p.first v) ps i q ∙ ap (λ ss. slice_set ss i (slot_of (slice_set values p.first v) q)) set
    ∙ set-set (slots_of values ps) i _ _ ∙ ap (λ s. slice_set (slots_of values ps) i s) new

-- an element is set
pub element_is_set : (values : List Value) (ps : List Extent) (i : ℕ) (p : Extent) (n k : ℕ) (v : Value) → AreLaid 0 ps (length values)
    → slice_get ps i ≡ Some p → p.shape ≡ shape.Many n → k < n → slots_of (slice_set values (p.first + k) v) ps
    ≡ slice_set (slots_of values ps) i (Many (slice_set (take n (drop p.first values)) k v))
element_is_set values ps i p n k v h g many below =
    let inside = lies_in ps 0 (length values) i p h g in
    let size : shape_size p.shape ≡ n = ap shape_size many in
    let new : slot_of (slice_set values (p.first + k) v) p ≡ Many (slice_set (take n (drop p.first values)) k v) =
    ap (λ s. shaped (slice_set values (p.first + k) v) p.first s) many ∙ ap (λ xs. Many (take n xs)) (drop-set-add p.first values k v)
    ∙ ap Many (take-set-lt n (drop p.first values) k v below) in
    set_in values ps 0 (length values) i p k v h g (omega (arith, inside.fits, size)) ∙ ap (λ s. slice_set (slots_of values ps) i s) new

-- what a place of the list says of the slots
pub slot_there : (values : List Value) (ps : List Extent) (i : ℕ) (p : Extent) → slice_get ps i ≡ Some p
    → get_or (slots_of values ps) i zero_slot ≡ slot_of values p
slot_there values [] i p g = absurd (cc)
slot_there values (q ∷ ps) zero p g = ap (slot_of values) (same_Some q p g)
slot_there values (q ∷ ps) (suc i) p g = slot_there values ps i p g

pub slot_past : (values : List Value) (ps : List Extent) (i : ℕ) → slice_get ps i ≡ None → get_or (slots_of values ps) i zero_slot ≡ zero_slot
slot_past values [] zero g = refl
slot_past values [] (suc i) g = refl
slot_past values (q ∷ ps) zero g = absurd (cc)
slot_past values (q ∷ ps) (suc i) g = slot_past values ps i g

pub set_nothing : (values : List Value) (ps : List Extent) (i : ℕ) (s : Slot) → slice_get ps i ≡ None → slots_of values ps ≡ slice_set (slots_of values ps) i s
set_nothing values [] zero s g = refl
set_nothing values [] (suc i) s g = refl
set_nothing values (q ∷ ps) zero s g = absurd (cc)
set_nothing values (q ∷ ps) (suc i) s g = ap (λ ss. slot_of values q ∷ ss) (set_nothing values ps i s g)

-- what is read there
pub read_there : (values : List Value) (ps : List Extent) (i : ℕ) (p : Extent) (v : Value) → AreLaid 0 ps (length values) → slice_get ps i ≡ Some p
    → p.shape ≡ shape.One → v ≡ get_or values p.first v → get_or (slots_of values ps) i zero_slot ≡ One v
read_there values ps i p v h g one read =
    let inside = lies_in ps 0 (length values) i p h g in
    slot_there values ps i p g ∙ ap (shaped values p.first) one ∙ ap One
    (sym (read ∙ any_default values p.first v zero_value (omega (arith, inside.to, inside.room))))

pub elements_there : (values : List Value) (ps : List Extent) (i : ℕ) (p : Extent) (n : ℕ) → slice_get ps i ≡ Some p → p.shape ≡ shape.Many n
    → get_or (slots_of values ps) i zero_slot ≡ Many (take n (drop p.first values))
elements_there values ps i p n g many = slot_there values ps i p g ∙ ap (shaped values p.first) many

pub one_there : (values : List Value) (ps : List Extent) (i : ℕ) (p : Extent) → slice_get ps i ≡ Some p → p.shape ≡ shape.One
    → get_or (slots_of values ps) i zero_slot ≡ One (get_or values p.first zero_value)
one_there values ps i p g one = slot_there values ps i p g ∙ ap (shaped values p.first) one

-- ---- nothing is set

kept : (slots : List Slot) (i : ℕ) (s : Slot) → s ≡ get_or slots i zero_slot → slots ≡ slice_set slots i s
kept slots i s e = sym (ap (slice_set slots i) e ∙ set-get_or slots i zero_slot)

few_taken : (n : ℕ) (xs : List Value) → length (take n xs) ≤ n
few_taken zero xs = omega arith
few_taken (suc n) [] = omega arith
few_taken (suc n) (x ∷ xs) = omega (arith, few_taken n xs)

-- a variable that holds one value has no element
pub one_is_kept : (values : List Value) (ps : List Extent) (i : ℕ) (p : Extent) (k : ℕ) (v : Value) → slice_get ps i ≡ Some p → p.shape ≡ shape.One
    → slots_of values ps ≡ slice_set (slots_of values ps) i (with_element (get_or (slots_of values ps) i zero_slot) k v)
one_is_kept values ps i p k v g one =
    let e = one_there values ps i p g one in
    kept (slots_of values ps) i _ (ap (λ s. with_element s k v) e ∙ sym e)

-- and an array none behind its last one
pub many_is_kept : (values : List Value) (ps : List Extent) (i : ℕ) (p : Extent) (n k : ℕ) (v : Value) → slice_get ps i ≡ Some p → p.shape ≡ shape.Many n
    → n ≤ k → slots_of values ps ≡ slice_set (slots_of values ps) i (with_element (get_or (slots_of values ps) i zero_slot) k v)
many_is_kept values ps i p n k v g many past =
    let e = elements_there values ps i p n g many in
    kept (slots_of values ps) i _
    (ap (λ s. with_element s k v) e ∙ ap Many (set_past (take n (drop p.first values)) k v (omega (arith, few_taken n (drop p.first values)))) ∙ sym e)

-- ---- a variable becomes an array

pub room_there : (ps : List Extent) (i : ℕ) (p : Extent) → slice_get ps i ≡ Some p → slice_index (rooms_of ps) i ≡ p.room
room_there [] i p g = absurd (cc)
room_there (q ∷ ps) zero p g = ap (λ (x : Extent). x.room) (same_Some q p g)
room_there (q ∷ ps) (suc i) p g = room_there ps i p g

pub room_past : (ps : List Extent) (i : ℕ) → slice_get ps i ≡ None → slice_index (rooms_of ps) i ≡ 0
room_past [] zero g = refl
room_past [] (suc i) g = refl
room_past (q ∷ ps) zero g = absurd (cc)
room_past (q ∷ ps) (suc i) g = room_past ps i g

taken_length : (n : ℕ) (xs : List Value) → n ≤ length xs → length (take n xs) ≡ n
taken_length n xs h = length-take-le n xs h

dropped_length : (n : ℕ) (xs : List Value) → length (drop n xs) ≡ length xs - n
dropped_length n xs = length-drop n xs

pub is_opened : (values : List Value) (ps : List Extent) (i n : ℕ) (p q : Extent) → AreLaid 0 ps (length values) → slice_get ps i ≡ Some p → q.first ≡ p.first
    → q.shape ≡ shape.Many (min n p.room)
    → (vs : List Value) × (length vs ≡ min n (slice_index (rooms_of ps) i)) × (slots_of values (slice_set ps i q) ≡ slice_set (slots_of values ps) i (Many vs))
is_opened values ps i n p q h g first many =
    let inside = lies_in ps 0 (length values) i p h g in
    let room = room_there ps i p g in
    let enough = dropped_length p.first values in
    let size : length (take (min n p.room) (drop p.first values)) ≡ min n p.room =
    taken_length (min n p.room) (drop p.first values) (omega (arith, inside.to, enough)) in (
      take (min n p.room) (drop p.first values),
      size ∙ ap (min n) (sym room),
      slots_reshaped values ps i q ∙ ap (slice_set (slots_of values ps) i)
          (ap (shaped values q.first) many ∙ ap (λ m. Many (take (min n p.room) (drop m values))) first),
    )

pub none_opened : (values : List Value) (ps : List Extent) (i n : ℕ) → slice_get ps i ≡ None
    → (vs : List Value) × (length vs ≡ min n (slice_index (rooms_of ps) i)) × (slots_of values ps ≡ slice_set (slots_of values ps) i (Many vs))
none_opened values ps i n g = ([], omega (arith, room_past ps i g), set_nothing values ps i (Many []) g)

-- ---- elements are set one after the other

-- the next element is set
pub next_is_set : (old now : List Slot) (i k : ℕ) (done left : List Value) (x v : Value) → now ≡ slice_set old i (Many (done ++ x ∷ left)) → length done ≡ k
    → slice_set now i (with_element (get_or now i zero_slot) k v) ≡ slice_set old i (Many (done ++ v ∷ left))
next_is_set old now i k done left x v is long =
    elim (cases_lt i (length old)) [
      | inl below ↦ (
          let there : get_or now i zero_slot ≡ Many (done ++ x ∷ left) =
          ap (λ ss. get_or ss i zero_slot) is ∙ get_or-set_same old i (Many (done ++ x ∷ left)) zero_slot below in
          let seam : slice_set (done ++ x ∷ left) k v ≡ done ++ v ∷ left =
          ap (λ n. slice_set (done ++ x ∷ left) n v) (sym long) ∙ set-append_seam done x left v in
          ap (λ s. slice_set now i (with_element s k v)) there ∙ ap (λ xs. slice_set now i (Many xs)) seam
          ∙ ap (λ ss. slice_set ss i (Many (done ++ v ∷ left))) is ∙ set-set old i _ _)
      | inr past ↦ (
          let same : now ≡ old = is ∙ set_past old i _ past in
          ap (λ ss. slice_set ss i (with_element (get_or now i zero_slot) k v)) same ∙ set_past old i _ past
          ∙ sym (set_past old i (Many (done ++ v ∷ left)) past))
    ]

-- a list that is not empty
pub record HasFirst (xs : List Value) : Type 0 where
  pub first : Value
  pub rest : List Value
  pub is : xs ≡ first ∷ rest

pub has_first : (xs : List Value) → 0 < length xs → HasFirst xs
has_first [] h = absurd (omega arith)
has_first (x ∷ xs) h = record { first = x; rest = xs; is = refl }

pub one_more : {X : Type 0} (k : ℕ) (v : X) (left : List X) → replicate k v ++ v ∷ left ≡ replicate (k + 1) v ++ left
one_more zero v left = refl
one_more (suc k) v left = ap (λ xs. v ∷ xs) (one_more k v left) ∙ ap (λ n. replicate n v ++ left) (let e : suc (k + 1) ≡ suc k + 1 = omega arith in e)

pub each_step : (old now new : List Slot) (i k n : ℕ) (v : Value) (vs : List Value) → k < n → length vs + k ≡ n
    → now ≡ slice_set old i (Many (replicate k v ++ vs)) → new ≡ slice_set now i (with_element (get_or now i zero_slot) k v)
    → (ws : List Value) × (length ws + (k + 1) ≡ n) × (new ≡ slice_set old i (Many (replicate (k + 1) v ++ ws)))
each_step old now new i k n v vs below long is set =
    let some = has_first vs (omega arith) in (
      some.rest,
      omega (arith, ap length some.is),
      set ∙ next_is_set old now i k (replicate k v) some.rest some.first v (is ∙ ap (λ xs. slice_set old i (Many (replicate k v ++ xs))) some.is)
          (length-replicate k v) ∙ ap (λ xs. slice_set old i (Many xs)) (one_more k v some.rest),
    )

pub copy_step : (old now new : List Slot) (i k : ℕ) (values vs : List Value) (v : Value) → k < length values → v ≡ get_or values k v
    → length vs + k ≡ length values → now ≡ slice_set old i (Many (take k values ++ vs)) → new ≡ slice_set now i (with_element (get_or now i zero_slot) k v)
    → (ws : List Value) × (length ws + (k + 1) ≡ length values) × (new ≡ slice_set old i (Many (take (k + 1) values ++ ws)))
copy_step old now new i k values vs v below read long is set =
    let some = has_first vs (omega arith) in
    let more : take k values ++ v ∷ some.rest ≡ take (k + 1) values ++ some.rest =
    ap (λ x. take k values ++ x ∷ some.rest) read ∙ sym (append_assoc (take k values) (get_or values k v ∷ []) some.rest)
    ∙ ap (λ xs. xs ++ some.rest) (sym (take_more values k v below)) in (
      some.rest,
      omega (arith, ap length some.is),
      set ∙ next_is_set old now i k (take k values) some.rest some.first v (is ∙ ap (λ xs. slice_set old i (Many (take k values ++ xs))) some.is)
          (length-take-le k values (omega arith)) ∙ ap (λ xs. slice_set old i (Many xs)) more,
    )

none_left : (vs : List Value) (k n : ℕ) → length vs + k ≡ n → n ≤ k → vs ≡ []
none_left [] k n h le = refl
none_left (v ∷ vs) k n h le = absurd (omega arith)

pub each_done : (old now : List Slot) (i k n : ℕ) (v : Value) (vs : List Value) → n ≤ k → length vs + k ≡ n
    → now ≡ slice_set old i (Many (replicate k v ++ vs)) → now ≡ slice_set old i (Many (replicate n v))
each_done old now i k n v vs le long is =
    let none = none_left vs k n long le in
    let same : k ≡ n = omega (arith, ap length none) in
    is ∙ ap (λ xs. slice_set old i (Many (replicate k v ++ xs))) none ∙ ap (λ xs. slice_set old i (Many xs)) (append-nil (replicate k v))
    ∙ ap (λ m. slice_set old i (Many (replicate m v))) same

pub copy_done : (old now : List Slot) (i k : ℕ) (values vs : List Value) → length values ≤ k → length vs + k ≡ length values
    → now ≡ slice_set old i (Many (take k values ++ vs)) → now ≡ slice_set old i (Many values)
copy_done old now i k values vs le long is =
    let none = none_left vs k (length values) long le in
    let same : k ≡ length values = omega (arith, ap length none) in
    is ∙ ap (λ xs. slice_set old i (Many (take k values ++ xs))) none ∙ ap (λ xs. slice_set old i (Many xs))
    (append-nil (take k values) ∙ ap (λ m. take m values) same ∙ take-length values)

-- ---- the beginning of a loop

array_of : (s : Slot) (n : ℕ) → shape_of s ≡ shape.Many n → (vs : List Value) × (length vs ≡ n) × (s ≡ Many vs)
array_of (One w) n h = absurd (cc)
array_of (Many vs) n h = (vs, cc, refl)

pub same_shape : (slots : List Slot) (i n : ℕ) → shape_of (get_or slots i zero_slot) ≡ shape.Many n
    → (vs : List Value) × (length vs ≡ n) × (slots ≡ slice_set slots i (Many vs))
same_shape slots i n h =
    let split = array_of (get_or slots i zero_slot) n h in
    (split.0, split.1, kept slots i (Many split.0) (sym split.2))

-- ---- what an opened variable is filled with

pub filled_after : (old : List Slot) (i n : ℕ) (vs : List Value) (v : Value) → length vs ≡ n
    → slice_set (slice_set old i (Many vs)) i (refilled (get_or (slice_set old i (Many vs)) i zero_slot) v) ≡ slice_set old i (Many (replicate n v))
filled_after old i n vs v long =
    elim (cases_lt i (length old)) [
      | inl below ↦ (
          let there : get_or (slice_set old i (Many vs)) i zero_slot ≡ Many vs = get_or-set_same old i (Many vs) zero_slot below in
          set-set old i _ _ ∙ ap (λ s. slice_set old i (refilled s v)) there ∙ ap (λ m. slice_set old i (Many (replicate m v))) long)
      | inr past ↦ set-set old i _ _ ∙ set_past old i _ past ∙ sym (set_past old i (Many (replicate n v)) past)
    ]

-- ---- a variable more

pub laid_more : (ps : List Extent) (n end room : ℕ) → AreLaid n ps end → 1 ≤ room
    → AreLaid n (ps ++ record { first = end; room = room; shape = shape.One } ∷ []) (end + room)
laid_more [] n end room h some = (sym h, some, some, ap (λ m. m + room) h)
laid_more (p ∷ ps) n end room h some = (h.0, h.1, h.2, laid_more ps (n + p.room) end room h.3 some)

shaped_same : (values more : List Value) (first : ℕ) (s : Shape) → first + shape_size s ≤ length values
    → shaped (values ++ more) first s ≡ shaped values first s
shaped_same values more first shape.One h = ap One (get_or-append values more zero_value first (omega arith))
shaped_same values more first (shape.Many n) h =
    ap (λ xs. Many (take n xs)) (drop-append-le first values more (omega arith))
    ∙ ap Many (take-append-le n (drop first values) more (omega (arith, dropped_length first values)))

slots_same : (values more : List Value) (ps : List Extent) (n : ℕ) → AreLaid n ps (length values) → slots_of (values ++ more) ps ≡ slots_of values ps
slots_same values more [] n h = refl
slots_same values more (p ∷ ps) n h =
    let end = laid_end ps (n + p.room) (length values) h.3 in
    let head = shaped_same values more p.first p.shape (omega (arith, h.0, h.2, end)) in
    ap (λ s. s ∷ slots_of (values ++ more) ps) head ∙ ap (λ ss. slot_of values p ∷ ss) (slots_same values more ps (n + p.room) h.3)

first_zero : (room : ℕ) → get_or (replicate room zero_value) 0 zero_value ≡ zero_value
first_zero zero = refl
first_zero (suc room) = refl

seam_read : (values more : List Value) → get_or (values ++ more) (length values) zero_value ≡ get_or more 0 zero_value
seam_read [] more = refl
seam_read (v ∷ values) more = seam_read values more

pub slots_more : (values : List Value) (ps : List Extent) (room k : ℕ) → AreLaid 0 ps (length values) → slots_of values ps ≡ replicate k zero_slot
    → slots_of (values ++ replicate room zero_value) (ps ++ record { first = length values; room = room; shape = shape.One } ∷ []) ≡ replicate (k + 1) zero_slot
slots_more values ps room k h zeros =
    map-append (slot_of (values ++ replicate room zero_value)) ps (record { first = length values; room = room; shape = shape.One } ∷ [])
    ∙ ap (λ ss. ss ++ One (get_or (values ++ replicate room zero_value) (length values) zero_value) ∷ [])
    (slots_same values (replicate room zero_value) ps 0 h ∙ zeros)
    ∙ ap (λ v. replicate k zero_slot ++ One v ∷ []) (seam_read values (replicate room zero_value) ∙ first_zero room) ∙ one_more k zero_slot []
    ∙ append-nil (replicate (k + 1) zero_slot)

pub rooms_more : (ps : List Extent) (first room k : ℕ) (names : List Name) (n : Name) → rooms_of ps ≡ map (λ (x : Name). max 1 x.room) (take k names)
    → k < length names → n ≡ get_or names k n → room ≡ max 1 n.room
    → rooms_of (ps ++ record { first = first; room = room; shape = shape.One } ∷ []) ≡ map (λ (x : Name). max 1 x.room) (take (k + 1) names)
rooms_more ps first room k names n is below read big =
    map-append (λ (x : Extent). x.room) ps (record { first = first; room = room; shape = shape.One } ∷ []) ∙ ap (λ rs. rs ++ room ∷ []) is
    ∙ ap (λ m. map (λ (x : Name). max 1 x.room) (take k names) ++ m ∷ []) (big ∙ ap (λ (x : Name). max 1 x.room) read)
    ∙ sym (map-append (λ (x : Name). max 1 x.room) (take k names) (get_or names k n ∷ []))
    ∙ ap (map (λ (x : Name). max 1 x.room)) (sym (take_more names k n below))

many_not_one : (a : ℕ) → shape.Many a ≡ shape.One → ⊥
many_not_one a h = cc

pub shape_count : (a b : ℕ) → shape.Many a ≡ shape.Many b → a ≡ b
shape_count a b h = cc

pub taken_in : (old opened : List Slot) (i count room : ℕ) (values vs : List Value) → length vs ≡ min (length values) room
    → opened ≡ slice_set old i (Many vs) → shape_of (get_or opened i zero_slot) ≡ shape.Many count
    → slice_set opened i (Many (take count values)) ≡ slice_set old i (Many (take room values))
taken_in old opened i count room values vs long is shape =
    elim (cases_lt i (length old)) [
      | inl below ↦ (
          let there : get_or opened i zero_slot ≡ Many vs = ap (λ ss. get_or ss i zero_slot) is ∙ get_or-set_same old i (Many vs) zero_slot below in
          let same : length vs ≡ count = shape_count (length vs) count (sym (ap shape_of there) ∙ shape) in
          let n : count ≡ min room (length values) = omega (arith, same, long) in
          ap (λ ss. slice_set ss i (Many (take count values))) is ∙ set-set old i _ _ ∙ ap (λ m. slice_set old i (Many (take m values))) n
          ∙ ap (λ xs. slice_set old i (Many xs)) (take_min room values))
      | inr past ↦ ap (λ ss. slice_set ss i (Many (take count values))) is ∙ set-set old i _ _ ∙ set_past old i _ past
          ∙ sym (set_past old i (Many (take room values)) past)
    ]

pub not_taken : (old opened : List Slot) (i room : ℕ) (values vs : List Value) → opened ≡ slice_set old i (Many vs)
    → shape_of (get_or opened i zero_slot) ≡ shape.One → opened ≡ slice_set old i (Many (take room values))
not_taken old opened i room values vs is shape =
    elim (cases_lt i (length old)) [
      | inl below ↦ (
          let there : get_or opened i zero_slot ≡ Many vs = ap (λ ss. get_or ss i zero_slot) is ∙ get_or-set_same old i (Many vs) zero_slot below in
          absurd (many_not_one (length vs) (sym (ap shape_of there) ∙ shape)))
      | inr past ↦ is ∙ set_past old i _ past ∙ sym (set_past old i (Many (take room values)) past)
    ]
