-- The cause that a search over a whole program finds.
use Rattle.std.proofs.Common.{◌≡◌, ℕ, inl, inr, Bool, true, false, cond, List, [], ◌∷◌, Option, Some, None, refl, sym, ap, subst, ◌∙◌}
use Rattle.std.specs.Prelude.{slice_get, nat_eq}
use Rattle.std.proofs.lemmas.Bool.{and_parts, and_from, eqb-true, eq-eqb}
use Rattle.fut_tokens.specs.declared.token.Position.{Position}
use Rattle.fut_syntax.specs.declared.tree.Item as code
use Rattle.fut_syntax.specs.declared.tree.Program as declared
use Rattle.fut_syntax.specs.Trees.{Program, items_of}
use Rattle.fut_syntax.specs.Views.{item_tree, items_tree, program_tree}
use Rattle.fut_rules.specs.Faults.{rule_number}
use Rattle.fut_rules.specs.Widths.{items_width}
use Rattle.fut_check.specs.Checks.{HasPlaces}
use Rattle.fut_causes.specs.declared.cause.Cause.{Cause}
use Rattle.fut_causes.specs.declared.seek.Wanted.{Wanted}
use Rattle.fut_causes.specs.Causes.{Caused, items_causes, causes_of}
use Rattle.fut_causes.specs.Seeking.{is_place, is_wanted, first, Seeking, Sought}
use Rattle.fut_causes.specs.Answers.{IsAmong, IsCauseOf}

-- one of some causes is wanted
record Found (w : Wanted) (c : Cause) (ds : List Caused) : Type 0 where
  caused : Caused
  among : IsAmong caused ds
  wanted : is_wanted w caused ≡ true
  is : caused.cause ≡ c

first_kept : (w : Wanted) (c : Cause) (ds : List Caused) → first w (Some c) ds ≡ Some c
first_kept w c [] = refl
first_kept w c (d ∷ ds) = first_kept w c ds

some_by : (w : Wanted) (c : Cause) (d : Caused) (ds : List Caused) (b : Bool) → is_wanted w d ≡ b
    → first w (cond b (Some d.cause) None) ds ≡ Some c → (first w None ds ≡ Some c → Found w c ds) → Found w c (d ∷ ds)
some_by w c d ds true b h rest =
    let e : Some d.cause ≡ Some c = sym (first_kept w d.cause ds) ∙ h in
    let is : d.cause ≡ c = cc in record { caused = d; among = inl refl; wanted = b; is = is }
some_by w c d ds false b h rest =
    let f = rest h in record { caused = f.caused; among = inr f.among; wanted = f.wanted; is = f.is }

first_some : (w : Wanted) (c : Cause) (ds : List Caused) → first w None ds ≡ Some c → Found w c ds
first_some w c [] h = cc
first_some w c (d ∷ ds) h = some_by w c d ds (is_wanted w d) refl h (first_some w c ds)

none_by : (w : Wanted) (d : Caused) (ds : List Caused) (b : Bool) → is_wanted w d ≡ b → first w (cond b (Some d.cause) None) ds ≡ None
    → (first w None ds ≡ None → (x : Caused) → IsAmong x ds → is_wanted w x ≡ false) → (x : Caused) → IsAmong x (d ∷ ds) → is_wanted w x ≡ false
none_by w d ds true b h rest x m =
    let e : Some d.cause ≡ None = sym (first_kept w d.cause ds) ∙ h in cc
none_by w d ds false b h rest x m = elim m [ inl e ↦ ap (is_wanted w) e ∙ b | inr n ↦ rest h x n ]

first_none : (w : Wanted) (ds : List Caused) → first w None ds ≡ None → (x : Caused) → IsAmong x ds → is_wanted w x ≡ false
first_none w [] h x m = absurd m
first_none w (d ∷ ds) h x m = none_by w d ds (is_wanted w d) refl h (first_none w ds) x m

place_is : (o : Option Position) (p : Position) → is_place o p ≡ true → o ≡ Some p
place_is None p h = cc
place_is (Some q) p h =
    let parts = and_parts (nat_eq q.line p.line) (nat_eq q.column p.column) h in
    let line : q.line ≡ p.line = eqb-true q.line p.line parts.0 in
    let column : q.column ≡ p.column = eqb-true q.column p.column parts.1 in
    ap Some
    (ap (λ (n : ℕ). let r : Position = record { line = n; column = q.column } in r) line
    ∙ ap (λ (n : ℕ). let r : Position = record { line = p.line; column = n } in r) column)

place_same : (p : Position) → is_place (Some p) p ≡ true
place_same p = and_from (nat_eq p.line p.line) (nat_eq p.column p.column) (eq-eqb p.line p.line refl) (eq-eqb p.column p.column refl)

tree_items : (xs : List code.Item) (P : Program) → program_tree xs ≡ Some P → items_tree xs ≡ items_of P
tree_items [] P h = cc
tree_items (x ∷ xs) P h =
    let q : Program = record { first = item_tree x; others = items_tree xs } in
    let e : q ≡ P = cc in ap items_of e

-- what was found in a whole program
pub found_in : (p : declared.Program) (h : HasPlaces p) (xs : List code.Item) (start last : Seeking) (end : ℕ) (w : Wanted) → xs ≡ p.items
    → start ≡ record { at = 0; end = end; wanted = w; found = None }
    → Sought start last (items_width (items_tree xs)) (items_causes (items_tree xs) start.at (items_tree xs)) → last.found ≡ first w None (causes_of h.tree)
found_in p h xs start last end w e s met =
    met.found ∙ ap (λ (q : Seeking). first q.wanted q.found (items_causes (items_tree xs) q.at (items_tree xs))) s
    ∙ ap (λ is. first w None (items_causes is 0 is)) (ap items_tree e ∙ tree_items p.items h.tree h.is)

one_tree : (xs : List code.Item) (P Q : Program) → program_tree xs ≡ Some P → program_tree xs ≡ Some Q → Q ≡ P
one_tree xs P Q h k = cc

pub cause_is : (p : declared.Program) (h : HasPlaces p) (w : Wanted) (o : Option Cause) → w.places.now ≡ p.places → o ≡ first w None (causes_of h.tree)
    → IsCauseOf p w.number w.place o
cause_is p h w (Some c) places is =
    let f = first_some w c (causes_of h.tree) (sym is) in
    let parts = and_parts (is_place (slice_get w.places.now f.caused.fault.token) w.place) (nat_eq (rule_number f.caused.fault.rule) w.number) f.wanted in (
      f.caused,
      record {
        tree = h.tree;
        is = h.is;
        among = f.among;
        stands = ap (λ l. slice_get l f.caused.fault.token) (sym places) ∙ place_is (slice_get w.places.now f.caused.fault.token) w.place parts.0;
        rule = eqb-true (rule_number f.caused.fault.rule) w.number parts.1;
      },
      f.is,
    )
cause_is p h w None places is = λ c at.
    let same : at.tree ≡ h.tree = one_tree p.items h.tree at.tree h.is at.is in
    let not_wanted : is_wanted w c ≡ false =
    first_none w (causes_of h.tree) (sym is) c (subst (λ (P : Program). IsAmong c (causes_of P)) same at.among)
    in
    let here : slice_get w.places.now c.fault.token ≡ Some w.place = ap (λ l. slice_get l c.fault.token) places ∙ at.stands in
    let wanted : is_wanted w c ≡ true =
    and_from (is_place (slice_get w.places.now c.fault.token) w.place) (nat_eq (rule_number c.fault.rule) w.number)
    (ap (λ q. is_place q w.place) here ∙ place_same w.place) (eq-eqb (rule_number c.fault.rule) w.number at.rule)
    in cc
