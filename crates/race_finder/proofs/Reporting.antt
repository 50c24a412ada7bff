-- The report of the logs of all cells.
use Rattle.std.proofs.Common.{◌≡◌, ℕ, true, suc, ◌+◌, ◌<◌, ◌≤◌, List, [], ◌∷◌, ◌++◌, length, get_or, inl, inr, subst, ap, sym, refl, ◌∙◌, arith, slice_get}
use Rattle.std.proofs.lemmas.Option.{same_Some}
use Rattle.std.proofs.Common.{length-append, Vec, Global}
use Rattle.std.specs.Prelude.{Option, Some, All, Any}
use Rattle.std.proofs.Math.ListN.{get_or-append}
use Rattle.std.proofs.lemmas.Bool.{cases_lt, cases_eq}
use Rattle.std.proofs.lemmas.Option.{slice_get-get_or}
use Rattle.std.proofs.lemmas.List.Elements.{All-push, All-weaker}
use Rattle.std.proofs.lemmas.List.Quantifiers.{Any-push}
use Rattle.fut_base.specs.declared.event.Event.{Event}
use Rattle.fut_base.specs.declared.record.Race.{Race}
use Rattle.fut_base.specs.Dag.{Among}
use Rattle.fut_base.specs.Racing.{PlacesRace, IsFirstPair, AreRising, IsReport}
use Rattle.access_shards.specs.declared.kept.Access.{Access}
use Rattle.access_shards.specs.declared.kept.Kept.{Kept}
use Rattle.access_shards.specs.declared.kept.Kept.TheVariants.{Clean, Found}
use Rattle.access_shards.specs.Logged.{Logged}
use Rattle.access_shards.specs.Laws.{TellsRaces}
use Rattle.access_shards.proofs.Pairs.{kept_tells_races, to_accesses}
use Rattle.race_finder.specs.Finding.{AreLogsOf}

-- a race is what the log of its cell has
abbrev pub IsOfLog : List Logged → Race → Type 0
IsOfLog logs r = (l : Logged) × (slice_get logs r.cell ≡ Some l) × (l.kept ≡ Found r.first r.second)

-- these are the races of the first i logs
pub record IsReportUpTo (logs : List Logged) (i : ℕ) (races : List Race) : Type 0 where
  pub each : All (IsOfLog logs) races
  pub below : All (λ r. r.cell < i) races
  pub whole : (c : ℕ) (l : Logged) (a b : ℕ) → c < i → slice_get logs c ≡ Some l → l.kept ≡ Found a b → Any (λ r. r.cell ≡ c) races
  pub order : AreRising races

pub report_none : (logs : List Logged) (races : List Race) → races ≡ [] → IsReportUpTo logs 0 races
report_none logs races is = subst (IsReportUpTo logs 0) (sym is) (record {
  each = λ k d lt. absurd (omega (arith, lt));
  below = λ k d lt. absurd (omega (arith, lt));
  whole = λ c l a b lt. absurd (omega (arith, lt));
  order = tt;
})

rising_push : (xs : List Race) (y : Race) → AreRising xs → All (λ r. r.cell < y.cell) xs → AreRising (xs ++ y ∷ [])
rising_push [] y h below = ((λ k d lt. absurd (omega (arith, lt))), tt)
rising_push (x ∷ xs) y h below =
    (All-push (λ r. x.cell < r.cell) xs y h.0 (below 0 x (omega arith)), rising_push xs y h.1 (λ k d lt. below (suc k) d (omega (arith, lt))))

any_more : (P : Race → Type 0) (xs : List Race) (y : Race) → Any P xs → Any P (xs ++ y ∷ [])
any_more P xs y (k, x, lt, is, p) = (k, x, (let n = length-append xs (y ∷ []) in omega (arith, n, lt)), get_or-append xs (y ∷ []) x k lt ∙ is, p)

pub report_found : (logs : List Logged) (i : ℕ) (races races' : List Race) (l : Logged) (r : Race) → slice_get logs i ≡ Some l → l.kept ≡ Found r.first r.second
    → r.cell ≡ i → races' ≡ races ++ r ∷ [] → IsReportUpTo logs i races → IsReportUpTo logs (i + 1) races'
report_found logs i races races' l r at is cell_is is' up =
    subst (IsReportUpTo logs (i + 1)) (sym is') (record {
      each = All-push (IsOfLog logs) races r up.each (l, ap (slice_get logs) cell_is ∙ at, is);
      below = All-push (λ q. q.cell < i + 1) races r (λ k d lt. (let b = up.below k d lt in omega (arith, b))) (omega (arith, cell_is));
      whole = λ c m a b lt cm kept. elim (cases_eq c i) [
        | inl e ↦ Any-push (λ q. q.cell ≡ c) races r (cell_is ∙ sym e)
        | inr ne ↦ any_more (λ q. q.cell ≡ c) races r (up.whole c m a b (omega (arith, lt, ne)) cm kept)
      ];
      order = rising_push races r up.order (λ k d lt. (let b = up.below k d lt in omega (arith, b, cell_is)));
    })

clean_found : (w : Option Access) (rs : Vec Access Global) (a b : ℕ) (k : Kept) → k ≡ Clean w rs → k ≡ Found a b → ⊥
clean_found w rs a b k c f = cc

pub report_clean : (logs : List Logged) (i : ℕ) (races : List Race) (l : Logged) (w : Option Access) (rs : Vec Access Global) → slice_get logs i ≡ Some l
    → l.kept ≡ Clean w rs → IsReportUpTo logs i races → IsReportUpTo logs (i + 1) races
report_clean logs i races l w rs at is up =
    record {
      each = up.each;
      below = λ k d lt. (let b = up.below k d lt in omega (arith, b));
      whole = λ c m a b lt cm kept. elim (cases_eq c i) [
        | inl e ↦ absurd (clean_found w rs a b l.kept is (ap (λ (x : Logged). x.kept) (same_Some l m (sym at ∙ ap (slice_get logs) (sym e) ∙ cm)) ∙ kept))
        | inr ne ↦ up.whole c m a b (omega (arith, lt, ne)) cm kept
      ];
      order = up.order;
    }

racing_found : (h : List Event) (c i j : ℕ) (kept : Kept) → TellsRaces h c kept → PlacesRace h c i j → (a : ℕ) × (b : ℕ) × (kept ≡ Found a b)
racing_found h c i j (Clean w rs) t r = absurd (t i j r)
racing_found h c i j (Found a b) t r = (a, b, refl)

pub report_done : (h : List Event) (logs : List Logged) (i : ℕ) (races : List Race) → length logs ≤ i → IsReportUpTo logs i races → AreLogsOf h logs
    → IsReport h races
report_done h logs i races le up logs_of =
    record {
      each = All-weaker (IsOfLog logs) (λ r. IsFirstPair h r.cell r.first r.second)
          (λ r f. subst (TellsRaces h r.cell) f.2 (kept_tells_races h r.cell f.0.kept (logs_of.each r.cell f.0 f.1).kept)) races up.each;
      whole = λ c a b r. elim (cases_lt c (length logs)) [
        | inl lt ↦ (
            let none : Logged = record { kept = Found 0 0; room = 0; rise = true; sorted = [] } in
            let l : Logged = get_or logs c none in
            let at : slice_get logs c ≡ Some l = slice_get-get_or logs c none lt in
            let k = racing_found h c a b l.kept (kept_tells_races h c l.kept (logs_of.each c l at).kept) r in
            up.whole c l k.0 k.1 (omega (arith, lt, le)) at k.2)
        | inr ge ↦ (
            let f = to_accesses h c a b r in
            absurd (subst (λ p. Among f.0 p) (logs_of.rest c ge) f.2.one))
      ];
      order = up.order;
    }
