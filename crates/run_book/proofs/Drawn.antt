-- Lists of drawn entries, one more entry, and the entries of a task.
use Rattle.std.proofs.Common.{◌≡◌, ◌≢◌, ℕ, ◌<◌, ◌≤◌, ◌==◌, Bool, true, false, cond, List, [], ◌∷◌, ◌++◌, map, ◌⊎◌, inl, inr, subst, ap, sym, refl, ◌∙◌, arith, true≢false, append_assoc, if◌then◌else◌}
use Rattle.std.specs.Prelude.{nat_lt, reverse, filter}
use Rattle.std.proofs.lemmas.List.{reverse-append, map-append, append-nil}
use Rattle.std.proofs.lemmas.List.Elements.{filter-append}
use Rattle.std.proofs.lemmas.Bool.{lt-ltb, ltb-true, false_from_ne_true}
use Rattle.fut_base.proofs.Cases.{by_bool, by_eq}
use Rattle.fut_base.proofs.Members.{among_left, among_right, among_split}
use Rattle.fut_base.specs.declared.event.Event.{Event}
use Rattle.fut_base.specs.declared.event.Action.{Action}
use Rattle.fut_base.specs.declared.event.Action.TheVariants.{Reads, Writes, Spawns, Creates, Syncs, Gets, Ends}
use Rattle.fut_base.specs.Events.{structural}
use Rattle.strand_laws.proofs.Links.{if_on, if_off}
use Rattle.fut_base.specs.Dag.{Among, block_of, block_after}
use Rattle.run_place.specs.Placed.{events_in}
use Rattle.run_book.specs.Drawn.{of_task, structural_in, past_in, past_below}

-- ---- members

pub reverse_among : {X : Type 0} (x : X) (xs : List X) → Among x (reverse xs) → Among x xs
reverse_among x [] h = absurd h
reverse_among x (y ∷ xs) h = elim (among_split x (reverse xs) (y ∷ []) (subst (Among x) (reverse-append (y ∷ []) xs) h)) [
  | inl l ↦ inr (reverse_among x xs l)
  | inr r ↦ elim r [ inl same ↦ inl same | inr none ↦ absurd none ]
]

pub among_reverse : {X : Type 0} (x : X) (xs : List X) → Among x xs → Among x (reverse xs)
among_reverse x [] h = absurd h
among_reverse x (y ∷ xs) (inl same) = subst (Among x) (sym (reverse-append (y ∷ []) xs)) (among_right x (reverse xs) (y ∷ []) (inl same))
among_reverse x (y ∷ xs) (inr h) = subst (Among x) (sym (reverse-append (y ∷ []) xs)) (among_left x (reverse xs) (y ∷ []) (among_reverse x xs h))

pub among_map : {X Y : Type 0} (f : X → Y) (x : X) (xs : List X) → Among x xs → Among (f x) (map f xs)
among_map f x [] h = absurd h
among_map f x (y ∷ xs) (inl same) = inl (ap f same)
among_map f x (y ∷ xs) (inr h) = inr (among_map f x xs h)

pub map_among : {X Y : Type 0} (f : X → Y) (y : Y) (xs : List X) → Among y (map f xs) → (x : X) × Among x xs × (f x ≡ y)
map_among f y [] h = absurd h
map_among f y (x ∷ xs) (inl same) = (x, inl refl, same)
map_among f y (x ∷ xs) (inr h) = let k = map_among f y xs h in (k.0, inr k.1, k.2)

among_if : {X : Type 0} (x y : X) (xs ys : List X) (b : Bool) → (y ≡ x → b ≡ true) → (Among x xs → Among x ys) → Among x (y ∷ xs) → Among x (cond b (y ∷ ys) ys)
among_if x y xs ys true f ih (inl same) = inl same
among_if x y xs ys true f ih (inr h) = inr (ih h)
among_if x y xs ys false f ih (inl same) = absurd (true≢false (sym (f same)))
among_if x y xs ys false f ih (inr h) = ih h

if_among : {X : Type 0} (x y : X) (ys : List X) (b : Bool) → Among x (cond b (y ∷ ys) ys) → ((y ≡ x) × (b ≡ true)) ⊎ Among x ys
if_among x y ys true (inl same) = inl (same, refl)
if_among x y ys true (inr h) = inr h
if_among x y ys false h = inr h

pub among_filter : {X : Type 0} (p : X → Bool) (x : X) (xs : List X) → Among x xs → p x ≡ true → Among x (filter p xs)
among_filter p x [] h is = absurd h
among_filter p x (y ∷ xs) h is = among_if x y xs (filter p xs) (p y) (λ same. ap p same ∙ is) (λ a. among_filter p x xs a is) h

pub filter_among : {X : Type 0} (p : X → Bool) (x : X) (xs : List X) → Among x (filter p xs) → Among x xs × (p x ≡ true)
filter_among p x [] h = absurd h
filter_among p x (y ∷ xs) h = elim (if_among x y (filter p xs) (p y) h) [
  | inl own ↦ (inl own.0, ap p (sym own.0) ∙ own.1)
  | inr rest ↦ (let k = filter_among p x xs rest in (inr k.0, k.1))
]

-- a member of a list with one more
pub last_or : {X : Type 0} (x y : X) (xs : List X) → Among x (xs ++ y ∷ []) → Among x xs ⊎ (y ≡ x)
last_or x y xs a = elim (among_split x xs (y ∷ []) a) [ inl old ↦ inl old | inr new ↦ elim new [ inl same ↦ inr same | inr none ↦ absurd none ] ]

-- an event of a list of entries has a ticket
pub event_drawn : (e : Event) (drawn : List (ℕ × Event)) → Among e (events_in drawn) → (x : ℕ × Event) × Among x drawn × (x.1 ≡ e)
event_drawn e drawn a = map_among (λ (x : ℕ × Event). x.1) e drawn a

pub drawn_event : (x : ℕ × Event) (drawn : List (ℕ × Event)) → Among x drawn → Among x.1 (events_in drawn)
drawn_event x drawn a = among_map (λ (x : ℕ × Event). x.1) x drawn a

-- the past has the events
pub past_event : (e : Event) (drawn : List (ℕ × Event)) → Among e (events_in drawn) → Among e (past_in drawn)
past_event e drawn a = among_reverse e (events_in drawn) a

-- ---- one more entry

module _ (book : List (ℕ × Event)) (k : ℕ) (e : Event) where
  pub events_one : events_in (book ++ (k, e) ∷ []) ≡ events_in book ++ e ∷ []
  events_one = map-append (λ (x : ℕ × Event). x.1) book ((k, e) ∷ [])

  pub past_one : past_in (book ++ (k, e) ∷ []) ≡ e ∷ past_in book
  past_one = ap reverse events_one ∙ reverse-append (events_in book) (e ∷ [])

  -- the entries of a task, after one of it and after one of another task
  pub own_one : (t : ℕ) → e.task ≡ t → of_task t (book ++ (k, e) ∷ []) ≡ of_task t book ++ (k, e) ∷ []
  own_one t same =
      filter-append (λ (x : ℕ × Event). x.1.task == t) book ((k, e) ∷ [])
      ∙ by_eq (λ b. of_task t book ++ cond b ((k, e) ∷ []) [] ≡ of_task t book ++ (k, e) ∷ []) e.task t (λ _. refl) (λ ne. absurd (ne same))

  pub other_one : (t : ℕ) → e.task ≢ t → of_task t (book ++ (k, e) ∷ []) ≡ of_task t book
  other_one t ne =
      filter-append (λ (x : ℕ × Event). x.1.task == t) book ((k, e) ∷ [])
      ∙ by_eq (λ b. of_task t book ++ cond b ((k, e) ∷ []) [] ≡ of_task t book) e.task t (λ same. absurd (ne same)) (λ _. append-nil (of_task t book))

  pub structural_one : structural e.action ≡ true → structural_in (book ++ (k, e) ∷ []) ≡ structural_in book ++ (k, e) ∷ []
  structural_one st =
      filter-append (λ (x : ℕ × Event). structural x.1.action) book ((k, e) ∷ []) ∙ ap (λ b. structural_in book ++ cond b ((k, e) ∷ []) []) st

  -- below a ticket that is no later there is no more
  pub below_one : (j : ℕ) → j ≤ k → past_below j (book ++ (k, e) ∷ []) ≡ past_below j book
  below_one j le =
      let late : nat_lt k j ≡ false = false_from_ne_true (nat_lt k j) (λ t. (let l = ltb-true k j t in omega (arith, l, le))) in
      ap past_in
      (filter-append (λ (x : ℕ × Event). nat_lt x.0 j) book ((k, e) ∷ [])
      ∙ ap (λ b. filter (λ (x : ℕ × Event). nat_lt x.0 j) book ++ cond b ((k, e) ∷ []) []) late
      ∙ append-nil (filter (λ (x : ℕ × Event). nat_lt x.0 j) book))

all_kept : (k : ℕ) (xs : List (ℕ × Event)) → ((x : ℕ × Event) → Among x xs → x.0 < k) → filter (λ (x : ℕ × Event). nat_lt x.0 k) xs ≡ xs
all_kept k [] f = refl
all_kept k (x ∷ xs) f =
    ap (λ t. cond t (x ∷ filter (λ (x : ℕ × Event). nat_lt x.0 k) xs) (filter (λ (x : ℕ × Event). nat_lt x.0 k) xs)) (lt-ltb x.0 k (f x (inl refl)))
    ∙ ap (λ l. x ∷ l) (all_kept k xs (λ y a. f y (inr a)))

-- where all tickets are below a number, all is
pub all_past : (k : ℕ) (book : List (ℕ × Event)) → ((x : ℕ × Event) → Among x book → x.0 < k) → past_below k book ≡ past_in book
all_past k book f = ap past_in (all_kept k book f)

-- a task of which no entry is has none
pub none_of : (t : ℕ) (book : List (ℕ × Event)) → ((x : ℕ × Event) → Among x book → x.1.task ≢ t) → of_task t book ≡ []
none_of t [] f = refl
none_of t (x ∷ xs) f =
    by_eq (λ b. cond b (x ∷ of_task t xs) (of_task t xs) ≡ []) x.1.task t (λ same. absurd (f x (inl refl) same)) (λ _. none_of t xs (λ y a. f y (inr a)))

-- ---- blocks

-- a block after events of its task, in order
abbrev pub block_by : List ℕ → List (ℕ × Event) → List ℕ
block_by b [] = b
block_by b (x ∷ xs) = block_by (block_after x.1.action b) xs

pub block_by_append : (b : List ℕ) (xs ys : List (ℕ × Event)) → block_by b (xs ++ ys) ≡ block_by (block_by b xs) ys
block_by_append b [] ys = refl
block_by_append b (x ∷ xs) ys = block_by_append (block_after x.1.action b) xs ys

block_from : (t : ℕ) (book : List (ℕ × Event)) (past : List Event) → block_of (reverse (events_in book) ++ past) t ≡ block_by (block_of past t) (of_task t book)
block_from t [] past = refl
block_from t (x ∷ xs) past =
    let turned : reverse (events_in (x ∷ xs)) ++ past ≡ reverse (events_in xs) ++ x.1 ∷ past =
    ap (λ (l : List Event). l ++ past) (reverse-append (x.1 ∷ []) (events_in xs)) ∙ append_assoc (reverse (events_in xs)) (x.1 ∷ []) past in
    let old : List ℕ = block_of past t in
    let now : List ℕ = block_after x.1.action old in
    ap (λ l. block_of l t) turned ∙ block_from t xs (x.1 ∷ past)
    ∙ by_eq (λ b. block_by (if t == x.1.task then now else old) (of_task t xs) ≡ block_by old (cond b (x ∷ of_task t xs) (of_task t xs))) x.1.task t
    (λ same. ap (λ l. block_by l (of_task t xs)) (if_on t x.1.task now old (sym same)))
    (λ ne. ap (λ l. block_by l (of_task t xs)) (if_off t x.1.task now old (λ same. ne (sym same))))

-- the block of a task is that of its entries
pub block_in : (t : ℕ) (book : List (ℕ × Event)) → block_of (past_in book) t ≡ block_by [] (of_task t book)
block_in t book = ap (λ l. block_of l t) (sym (append-nil (past_in book))) ∙ block_from t book []

-- an access leaves it as it is
unmoved : (a : Action) (b : List ℕ) → structural a ≡ false → block_after a b ≡ b
unmoved (Reads _ _) b off = refl
unmoved (Writes _ _) b off = refl
unmoved (Spawns _ _ _ _ _) b off = absurd (true≢false off)
unmoved (Creates _ _ _ _ _) b off = refl
unmoved (Syncs _) b off = absurd (true≢false off)
unmoved (Gets _ _ _) b off = refl
unmoved (Ends _) b off = refl

pub block_structural : (b : List ℕ) (trace : List (ℕ × Event)) → block_by b (structural_in trace) ≡ block_by b trace
block_structural b [] = refl
block_structural b (x ∷ xs) =
    by_bool (λ s. block_by b (cond s (x ∷ structural_in xs) (structural_in xs)) ≡ block_by (block_after x.1.action b) xs) (structural x.1.action)
    (λ on. block_structural (block_after x.1.action b) xs)
    (λ off. block_structural b xs ∙ ap (λ l. block_by l xs) (sym (unmoved x.1.action b off)))
