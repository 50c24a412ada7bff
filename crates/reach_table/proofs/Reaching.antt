-- What an answer tells of paths.
use Rattle.std.proofs.Common.{◌≡◌, ◌≢◌, ℕ, ◌+◌, ◌<◌, Bool, true, false, ◌&&◌, List, [], ◌∷◌, ◌++◌, length}
use Rattle.std.proofs.Common.{get_or, take, reverse, ◌⊎◌, inl, inr, subst, ap, sym, refl, ◌∙◌, true≢false}
use Rattle.std.specs.Prelude.{◌↔◌}
use Rattle.std.proofs.lemmas.List.{append_assoc}
use Rattle.order_list.specs.declared.judge.Sides.{Sides}
use Rattle.order_list.specs.declared.judge.Judge as judge
use Rattle.order_list.specs.declared.judge.Moved.{Moved}
use Rattle.order_list.specs.Frames.{IsAsBefore}
use Rattle.order_list.specs.Sides.{AreSides}
use Rattle.fut_base.specs.declared.event.Event.{Event}
use Rattle.fut_base.specs.Dag.{Among}
use Rattle.fut_base.specs.Orders.{stands_before, precedes_past}
use Rattle.fut_base.specs.Sound.{home_of}
use Rattle.fut_base.specs.Tables.{table_past}
use Rattle.strand_laws.specs.Laws.{AreStrands, Covers}
use Rattle.strand_laws.proofs.Places.{same_or_not}
use Rattle.strand_laws.proofs.Held.{and_split}
use Rattle.strand_laws.proofs.Ones.{table_means_path, table_has_one}
use Rattle.strand_laws.proofs.Least.{try_means_path}
use Rattle.strand_tree.specs.declared.strand.Strand.{Strand}
use Rattle.strand_tree.specs.Placing.{IsStrandOf}
use Rattle.reach_table.specs.Telling.{HasTable, IsKnownOf, OrdersAgree, AllKnown, TellsReach, IsOrPrecedes, ReachesOne, HasMovedLast}
use Rattle.reach_table.specs.Tabled.{TableTells, OneOfEach}
use Rattle.reach_table.proofs.Members.{of_number, numbered, same_strand, in_more}
use Rattle.reach_table.proofs.Agreeing.{agree}

both_true : (a b : Bool) → a ≡ true → b ≡ true → (a && b) ≡ true
both_true true b h k = k
both_true false b h k = h

-- a strand of the table, of u's future, that is u or that u precedes
abbrev Covering : List Event → Strand → List Strand → Type 0
Covering s u table = (w : Strand) × Among w table × (w.future ≡ u.future) × ((u.number ≡ w.number) ⊎ (precedes_past (reverse s) u.number w.number ≡ true))

module _ (s : List Event) (u : Strand) (v : ℕ) (table : List Strand) (us : IsStrandOf s u) (h : HasTable s v table) where
  covered : Covers (reverse s) (table_past (reverse s) v) u.number → Covering s u table
  covered c =
      let k = of_number c.0 table ((h.same c.0).1 c.1) in (
        k.0,
        k.1,
        (h.homes k.0 k.1).future_is ∙ ap (home_of (reverse s)) k.2 ∙ c.2 ∙ sym us.future_is,
        subst (λ z. (u.number ≡ z) ⊎ (precedes_past (reverse s) u.number z ≡ true)) (sym k.2) c.3,
      )

  covering : Covering s u table → Covers (reverse s) (table_past (reverse s) v) u.number
  covering c = (c.0.number, (h.same c.0.number).0 (numbered c.0 table c.1), sym (h.homes c.0 c.1).future_is ∙ c.2 ∙ us.future_is, c.3)

strands_of : (s : List Event) (u v : Strand) → IsStrandOf s u → IsStrandOf s v → AreStrands (reverse s) u.number v.number
strands_of s u v us vs = record { one = us.there; other = vs.there }

apart : (s : List Event) (u v : Strand) → IsStrandOf s u → IsStrandOf s v → u.future ≢ v.future → home_of (reverse s) u.number ≢ home_of (reverse s) v.number
apart s u v us vs ne e = ne (us.future_is ∙ e ∙ sym vs.future_is)

pub table_tells : TableTells
table_tells s u v table sound us vs ne h =
    let law = table_means_path (reverse s) sound u.number v.number (strands_of s u v us vs) (apart s u v us vs ne) in
    (λ r. covered s u v.number table us h (law.0 r), λ c. law.1 (covering s u v.number table us h c))

pub one_of_each : OneOfEach
one_of_each s v table sound lv h w x a b e =
    let hw = h.homes w a in
    let hx = h.homes x b in
    let same : w.number ≡ x.number =
    table_has_one (reverse s) sound v w.number x.number lv ((h.same w.number).0 (numbered w table a)) ((h.same x.number).0 (numbered x table b))
    (sym hw.future_is ∙ e ∙ hx.future_is) in
    same_strand w x same e

module _ (s : List Event) (known : ℕ) (english hebrew : List ℕ) (orders : OrdersAgree s known english hebrew) where
  to_past : (x y : ℕ) → IsKnownOf s known x → IsKnownOf s known y → IsOrPrecedes english hebrew x y → (x ≡ y) ⊎ (precedes_past (reverse s) x y ≡ true)
  to_past x y kx ky (inl e) = inl e
  to_past x y kx ky (inr p) = elim (same_or_not x y) [
    | inl e ↦ inl e
    | inr ne ↦ inr (sym (agree s known english hebrew orders x y kx ky ne) ∙ both_true _ _ p.0 p.1)
  ]

  of_past : (x y : ℕ) → IsKnownOf s known x → IsKnownOf s known y → (x ≡ y) ⊎ (precedes_past (reverse s) x y ≡ true) → IsOrPrecedes english hebrew x y
  of_past x y kx ky (inl e) = inl e
  of_past x y kx ky (inr p) = elim (same_or_not x y) [
    | inl e ↦ inl e
    | inr ne ↦ inr (and_split _ _ (agree s known english hebrew orders x y kx ky ne ∙ p))
  ]

-- inside one future
pub tells_inside : (table : List Strand) (u v : Strand) (known : ℕ) (english hebrew : List ℕ) (answer : Bool) → u.future ≡ v.future → u.number < known
    → v.number < known → (answer ≡ true) ↔ IsOrPrecedes english hebrew u.number v.number → TellsReach table u v known english hebrew answer
tells_inside table u v known english hebrew answer e ku kv iff s sound us vs has orders =
    let law = try_means_path (reverse s) sound u.number v.number (strands_of s u v us vs) in
    let home : home_of (reverse s) u.number ≡ home_of (reverse s) v.number = sym us.future_is ∙ e ∙ vs.future_is in
    let hu : IsKnownOf s known u.number = record { less = ku; there = us.there } in
    let hv : IsKnownOf s known v.number = record { less = kv; there = vs.there } in (
      λ y. law.1 (inl (home, to_past s known english hebrew orders u.number v.number hu hv (iff.0 y))),
      λ r. elim (law.0 r) [
        | inl k ↦ iff.1 (of_past s known english hebrew orders u.number v.number hu hv k.1)
        | inr k ↦ absurd (k.0 home)
      ],
    )

-- from another future
pub tells_across : (table group : List Strand) (u v : Strand) (known : ℕ) (english hebrew : List ℕ) (answer : Bool) → u.future ≢ v.future → u.number < known
    → AllKnown known table → ((w : Strand) → Among w group ↔ (Among w table × (w.future ≡ u.future))) → (answer ≡ true)
    ↔ ReachesOne english hebrew u.number group → TellsReach table u v known english hebrew answer
tells_across table group u v known english hebrew answer ne ku all mine iff s sound us vs has orders =
    let law = table_tells s u v table sound us vs ne has in
    let hu : IsKnownOf s known u.number = record { less = ku; there = us.there } in
    let at : (w : Strand) → Among w table → IsKnownOf s known w.number = (λ w a. record { less = all w a; there = (has.homes w a).there }) in (
      λ y. (
          let k = iff.0 y in
          let g = (mine k.0).0 k.1 in
          law.1 (k.0, g.0, g.1, to_past s known english hebrew orders u.number k.0.number hu (at k.0 g.0) k.2)),
      λ r. (
          let c = law.0 r in
          iff.1 (c.0, (mine c.0).1 (c.1, c.2), of_past s known english hebrew orders u.number c.0.number hu (at c.0 c.1) c.3)),
    )

-- what the sides of two different strands tell
pub told : (sides : Sides) (a b x y : ℕ) (english hebrew : List ℕ) (answer : Bool) → a ≡ x → b ≡ y → x ≢ y → AreSides sides a b english hebrew
    → (answer ≡ true) ↔ ((sides.english ≡ true) × (sides.hebrew ≡ true)) → (answer ≡ true) ↔ IsOrPrecedes english hebrew x y
told sides a b x y english hebrew answer ax byy ne are both =
    let first : sides.english ≡ stands_before x y english = are.first ∙ ap (λ z. stands_before z b english) ax ∙ ap (λ z. stands_before x z english) byy in
    let second : sides.hebrew ≡ stands_before x y hebrew = are.second ∙ ap (λ z. stands_before z b hebrew) ax ∙ ap (λ z. stands_before x z hebrew) byy in (
      λ h. (let k = both.0 h in inr (sym first ∙ k.0, sym second ∙ k.1)),
      λ o. elim o [ inl e ↦ absurd (ne e) | inr k ↦ both.1 (first ∙ k.0, second ∙ k.1) ],
    )

-- versions that were loaded last after the judge was asked before
pub moved_on : {S H : Type 0} (g : judge.Ghosts S H) {r s t : S} (moved : Moved) → IsAsBefore g r s
    → HasMovedLast moved (g.may_move s) (g.loaded s) (g.loaded t) → HasMovedLast moved (g.may_move r) (g.loaded r) (g.loaded t)
moved_on g {r = r} moved before m =
    let f = before.loads in
    let last = moved.first ∷ moved.second ∷ [] in
    record {
      may = sym before.may_move ∙ m.may;
      loads = (
        f.0 ++ m.loads.0,
        m.loads.1 ∙ ap (λ l. l ++ (m.loads.0 ++ last)) f.1 ∙ append_assoc (g.loaded r) f.0 (m.loads.0 ++ last)
            ∙ ap (λ l. g.loaded r ++ l) (sym (append_assoc f.0 m.loads.0 last)),
      );
      differ = m.differ;
    }

-- a further strand that is not reached
pub one_more : (english hebrew english' hebrew' : List ℕ) (x : ℕ) (ws : List Strand) (i : ℕ) (d : Strand) (answer : Bool) → i < length ws → english' ≡ english
    → hebrew' ≡ hebrew → (ReachesOne english hebrew x (take i ws) → ⊥) → (answer ≡ true) ↔ IsOrPrecedes english' hebrew' x (get_or ws i d).number
    → answer ≡ false → ReachesOne english hebrew x (take (i + 1) ws) → ⊥
one_more english hebrew english' hebrew' x ws i d answer lt en he none iff off r =
    elim (in_more ws i d lt r.0 r.1) [
      | inl a ↦ none (r.0, a, r.2)
      | inr e ↦ (
          let P : List ℕ → Type 0 = λ l. IsOrPrecedes l hebrew' x (get_or ws i d).number in
          let Q : List ℕ → Type 0 = λ l. IsOrPrecedes english l x (get_or ws i d).number in
          let R : Strand → Type 0 = λ w. IsOrPrecedes english hebrew x w.number in
          true≢false (sym (iff.1 (subst P (sym en) (subst Q (sym he) (subst R (sym e) r.2)))) ∙ off))
    ]
