-- The report that a map of first pairs gives.
use Rattle.std.proofs.Common.{◌≡◌, ℕ, ◌<◌, List, [], ◌∷◌, length, refl, sym, ◌∙◌, ap, subst, arith}
use Rattle.std.specs.Prelude.{slice_get, Option, Some, None, option_map, All, Any}
use Rattle.std.specs.declared.cmp.Ordering.TheVariants.{Less}
use Rattle.std.specs.List.{AllByRecursion}
use Rattle.std.specs.Ordering.{nat_cmp}
use Rattle.std.specs.Cmp.{nat_cmp_total}
use Rattle.std.specs.BTreeMap.{BTreeMap, get, values, IsOrdered, is_at}
use Rattle.std.specs.Map.{keys_of, values_of, lookup}
use Rattle.std.specs.List.Sorted.{IsStrictlySortedBy}
use Rattle.std.proofs.lemmas.Bool.Decides.{nat_tests}
use Rattle.std.proofs.lemmas.List.Elements.{All-head, All-tail, All-cons, All-nil, All-weaker, All-map}
use Rattle.std.proofs.lemmas.Map.Entries.{place_from_lookup}
use Rattle.std.proofs.lemmas.Map.Keys.{sorted_head, sorted_tail}
use Rattle.std.proofs.lemmas.Map.Views.{All-found}
use Rattle.std.proofs.lemmas.Option.{slice_get_within, slice_get-map, get_or_from_slice_get}
use Rattle.fut_base.specs.declared.event.Event.{Event}
use Rattle.fut_base.specs.declared.record.Race.{Race}
use Rattle.fut_base.specs.Racing.{PlacesRace, IsFirstPair, AreRising, IsReport}
use Rattle.race_report.specs.Pairs.{IsFoundBefore}

less : (a b : ℕ) → nat_cmp a b ≡ Less → a < b
less a b h = grind (arith, nat_tests)

-- each pair is kept under its own cell
abbrev pub IsKept : ℕ × Race → Type 0
IsKept e = e.1.cell ≡ e.0

above : (k cell : ℕ) → cell ≡ k → (es : List (ℕ × Race)) → AllByRecursion (λ y. nat_cmp k y ≡ Less) (keys_of es) → All IsKept es
    → All (λ (r : Race). cell < r.cell) (values_of es)
above k cell is [] less_all kept = All-nil (λ (r : Race). cell < r.cell)
above k cell is (e ∷ es) less_all kept =
    All-cons (λ (r : Race). cell < r.cell) e.1 (values_of es) (omega (arith, is, All-head IsKept e es kept, less k e.0 less_all.0))
    (above k cell is es less_all.1 (All-tail IsKept e es kept))

rising : (es : List (ℕ × Race)) → IsStrictlySortedBy nat_cmp (keys_of es) → All IsKept es → AreRising (values_of es)
rising [] sorted kept = tt
rising (e ∷ es) sorted kept = (
  above e.0 e.1.cell (All-head IsKept e es kept) es (sorted_head nat_cmp e.0 (keys_of es) sorted) (All-tail IsKept e es kept),
  rising es (sorted_tail nat_cmp e.0 (keys_of es) sorted) (All-tail IsKept e es kept),
)

pair_of : (h : List Event) (n c : ℕ) (o : Option Race) → IsFoundBefore h n c o → (i j : ℕ) → j < n → PlacesRace h c i j
    → (r : Race) × (o ≡ Some r) × (r.cell ≡ c)
pair_of h n c None before i j lt race = absurd (before i j lt race)
pair_of h n c (Some r) before i j lt race = (r, refl, before.0)

found_value : (P : Race → Type 0) (k : ℕ) (es : List (ℕ × Race)) (r : Race) → lookup (is_at (nat_cmp k)) es ≡ Some r → P r → Any P (values_of es)
found_value P k es r is holds =
    let place = place_from_lookup (is_at (nat_cmp k)) es r is in
    let at : slice_get (values_of es) place.0 ≡ Some r = slice_get-map (λ (e : ℕ × Race). e.1) es place.0 ∙ ap (option_map (λ (e : ℕ × Race). e.1)) place.2 in
    (place.0, r, slice_get_within (values_of es) place.0 r at, get_or_from_slice_get (values_of es) place.0 r r at, holds)

pub report_of : (h : List Event) (m : BTreeMap ℕ Race) → IsOrdered nat_cmp m → ((c : ℕ) → IsFoundBefore h (length h) c (get nat_cmp m c))
    → IsReport h (values m)
report_of h m ordered known =
    let entries = m.entries in
    let found : All (λ (e : ℕ × Race). get nat_cmp m e.0 ≡ Some e.1) entries = All-found nat_cmp_total m ordered in
    let at : (e : ℕ × Race) → get nat_cmp m e.0 ≡ Some e.1 → IsFoundBefore h (length h) e.0 (Some e.1) =
    λ e is. subst (λ o. IsFoundBefore h (length h) e.0 o) is (known e.0) in
    let First : Race → Type 0 = λ r. IsFirstPair h r.cell r.first r.second in
    let kept : All IsKept entries = All-weaker (λ (e : ℕ × Race). get nat_cmp m e.0 ≡ Some e.1) IsKept (λ e is. (at e is).0) entries found in record {
      each = All-map First (λ (e : ℕ × Race). e.1) entries
          (All-weaker (λ (e : ℕ × Race). get nat_cmp m e.0 ≡ Some e.1) (λ (e : ℕ × Race). First e.1)
          (λ e is. subst (λ c. IsFirstPair h c e.1.first e.1.second) (sym (at e is).0) (at e is).1) entries found);
      whole = λ c i j race. (
          let r = pair_of h (length h) c (get nat_cmp m c) (known c) i j (slice_get_within h j race.events.1 race.events.3) race in
          found_value (λ (s : Race). s.cell ≡ c) c entries r.0 r.1 r.2);
      order = rising entries ordered kept;
    }
