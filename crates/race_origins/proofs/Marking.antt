-- One more mark.
use Rattle.std.proofs.Common.{◌≡◌, ℕ, ◌+◌, ◌<◌, ◌≤◌, Bool, true, false, List, length, take, drop, get_or, set, map, ◌∙◌, ap}
use Rattle.std.proofs.Common.{sym, subst, arith, inl, inr, refl, ◌⊎◌}
use Rattle.std.specs.Prelude.{All, ◌&&◌, not, if◌then◌else◌, cond}
use Rattle.std.proofs.lemmas.Bool.{and_parts, cases_eq}
use Rattle.std.proofs.lemmas.List.{get_or-set_same, get_or-set_other, drop_more}
use Rattle.std.proofs.lemmas.List.Elements.{All-cons, All-more, All-weaker}
use Rattle.std.proofs.lemmas.List.Sums.{sum_by-set}
use Rattle.fut_base.proofs.Cases.{by_bool}
use Rattle.fut_base.specs.Dag.{ReachesBy}
use Rattle.race_origins.specs.declared.edges.Edge.{Edge}
use Rattle.race_origins.specs.Edges.{ends_of}
use Rattle.race_origins.specs.Marks.{has, adds, unmarked, IsClosed, OnlyReaching}
use Rattle.race_origins.proofs.Ways.{LeadsInside, reaches_back}

set_has : (marks : List Bool) (i v : ℕ) → i < length marks → has marks v ≡ true → has (set marks i true) v ≡ true
set_has marks i v lt h =
    elim (cases_eq v i) [
      | inl same ↦ subst (λ w. has (set marks i true) w ≡ true) (sym same) (get_or-set_same marks i true false lt)
      | inr other ↦ get_or-set_other marks i v true false other ∙ h
    ]

pub has_set : (marks : List Bool) (i v : ℕ) → has (set marks i true) v ≡ true → (v ≡ i) ⊎ (has marks v ≡ true)
has_set marks i v h =
    elim (cases_eq v i) [ inl same ↦ inl same | inr other ↦ inr (sym (get_or-set_other marks i v true false other) ∙ h) ]

set_fewer : (marks : List Bool) (i : ℕ) → i < length marks → has marks i ≡ false → unmarked (set marks i true) + 1 ≡ unmarked marks
set_fewer marks i lt h =
    let f : Bool → ℕ = λ x. cond (not x) 1 0 in
    let sums = subst (λ b. unmarked (set marks i true) + f b ≡ unmarked marks + 0) h (sum_by-set f marks i true false lt) in
    omega (arith, sums)

-- the marks after this edge
abbrev pub marked_by : List Bool → Edge → List Bool
marked_by marks e = if adds marks e then set marks e.from true else marks

pub kept_more : (marks new : List Bool) (e : Edge) → e.from < length marks → new ≡ marked_by marks e → (v : ℕ) → has marks v ≡ true → has new v ≡ true
kept_more marks new e lt is v h =
    subst (λ ms. has ms v ≡ true) (sym is)
    (by_bool (λ b. has (if b then set marks e.from true else marks) v ≡ true) (adds marks e) (λ yes. set_has marks e.from v lt h) (λ no. h))

pub sound_more : (edges : List Edge) (i : ℕ) (d : Edge) (end : ℕ) (marks new : List Bool) → i < length edges → new ≡ marked_by marks (get_or edges i d)
    → OnlyReaching edges end marks → OnlyReaching edges end new
sound_more edges i d end marks new lt is sound v =
    let e = get_or edges i d in
    subst (λ ms. has ms v ≡ true → ReachesBy (map ends_of edges) v end) (sym is)
    (by_bool (λ b. has (if b then set marks e.from true else marks) v ≡ true → ReachesBy (map ends_of edges) v end) (adds marks e)
    (λ yes h. elim (has_set marks e.from v h) [
      | inl same ↦
          subst (λ w. ReachesBy (map ends_of edges) w end) (sym same)
          (reaches_back edges i d end lt (sound e.to (and_parts (has marks e.to) (not (has marks e.from)) yes).0))
      | inr old ↦ sound v old
    ])
    (λ no h. sound v h))

not_true : (b : Bool) → not b ≡ true → b ≡ false
not_true true h = cc
not_true false h = refl

pub fewer : (marks new : List Bool) (e : Edge) (added : Bool) → e.from < length marks → added ≡ adds marks e → new ≡ marked_by marks e
    → unmarked new + (if added then 1 else 0) ≡ unmarked marks
fewer marks new e added lt told is =
    subst (λ ms. unmarked ms + (if added then 1 else 0) ≡ unmarked marks) (sym is)
    (subst (λ b. unmarked (marked_by marks e) + (if b then 1 else 0) ≡ unmarked marks) (sym told)
    (by_bool (λ b. unmarked (if b then set marks e.from true else marks) + (if b then 1 else 0) ≡ unmarked marks) (adds marks e)
    (λ yes. set_fewer marks e.from lt (not_true (has marks e.from) (and_parts (has marks e.to) (not (has marks e.from)) yes).1)) (λ no. omega arith)))

leads : (a b : Bool) → (a && not b) ≡ false → a ≡ true → b ≡ true
leads true true h at = refl
leads true false h at = cc
leads false b h at = cc

-- where nothing was marked, this edge and those behind it begin inside
pub closed_more : (edges : List Edge) (i n : ℕ) (d : Edge) (marks new : List Bool) → n ≡ i + 1 → i < length edges → adds marks (get_or edges i d) ≡ false
    → new ≡ marked_by marks (get_or edges i d) → IsClosed (drop n edges) marks → IsClosed (drop i edges) new
closed_more edges i n d marks new next lt none is closed =
    let e = get_or edges i d in
    let same : new ≡ marks = is ∙ ap (λ b. if b then set marks e.from true else marks) none in
    let behind : IsClosed (drop (i + 1) edges) marks = subst (λ m. IsClosed (drop m edges) marks) next closed in
    subst (λ ms. IsClosed (drop i edges) ms) (sym same)
    (subst (λ es. IsClosed es marks) (sym (drop_more edges i d lt))
    (All-cons (LeadsInside (has marks)) e (drop (i + 1) edges) (leads (has marks e.to) (has marks e.from) none) behind))

-- numbers with room for one more edge
pub room_more : (edges : List Edge) (i old new : ℕ) (d : Edge) → i < length edges → old ≤ new → (get_or edges i d).from < new
    → All (λ (e : Edge). e.from < old) (take i edges) → All (λ (e : Edge). e.from < new) (take (i + 1) edges)
room_more edges i old new d lt le below all =
    All-more (λ (e : Edge). e.from < new) edges i d lt
    (All-weaker (λ (e : Edge). e.from < old) (λ (e : Edge). e.from < new) (λ e h. omega (arith, h, le)) (take i edges) all) below
