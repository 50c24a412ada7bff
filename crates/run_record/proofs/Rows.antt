-- Lists that grow at their end, and the lines of them.
use Rattle.std.proofs.Common.{◌≡◌, ℕ, suc, ◌+◌, ◌-◌, ◌<◌, List, [], ◌∷◌, ◌++◌, length, map, refl, sym, ap, ◌∙◌, append_assoc, append-nil, arith}
use Rattle.fut_base.specs.declared.event.Event.{Event}
use Rattle.fut_base.specs.declared.record.Entry.{Entry}
use Rattle.fut_base.specs.declared.record.Race.{Race}
use Rattle.fut_base.specs.declared.record.Value.{Value}
use Rattle.fut_base.specs.Events.{event_of}
use Rattle.run_record.specs.RunText.{entry_line, entry_lines, race_line, race_lines}
use Rattle.run_record.specs.Records.{IsValue, AreValues, IsEvent, AreEvents, IsRace, AreRaces}
use Rattle.run_record.specs.Machine.{Symbol, entry_due, entries_due, race_due, races_due, run}
use Rattle.run_record.specs.Steps.{Steps}

-- a part of what is due is read, and the rest is due
pub first_goes : (p q : List Symbol) {xs m : List ℕ} → Steps p xs [] m → Steps (p ++ q) xs q m
first_goes p q {xs = xs} h = record { goes = λ k. ap (λ s. run s xs) (append_assoc p q k) ∙ h.goes (q ++ k) }

pub races_next : (many i : ℕ) → i < many → races_due (many - i) ≡ race_due ++ races_due (many - (i + 1))
races_next many i lt = let e : many - i ≡ suc (many - (i + 1)) = omega arith in ap races_due e

pub entries_next : (many i : ℕ) → i < many → entries_due i (many - i) ≡ entry_due i ++ entries_due (i + 1) (many - (i + 1))
entries_next many i lt = let e : many - i ≡ suc (many - (i + 1)) = omega arith in ap (λ n. entries_due i n) e

pub race_lines_more : (rs : List Race) (r : Race) → race_lines (rs ++ r ∷ []) ≡ race_lines rs ++ race_line r
race_lines_more [] r = append-nil (race_line r)
race_lines_more (q ∷ rs) r = ap (λ l. race_line q ++ l) (race_lines_more rs r) ∙ sym (append_assoc (race_line q) (race_lines rs) (race_line r))

pub races_more : (rs : List Race) (r : Race) → AreRaces rs → IsRace r → AreRaces (rs ++ r ∷ [])
races_more [] r h g = (g, tt)
races_more (q ∷ rs) r h g = (h.0, races_more rs r h.1 g)

pub entry_lines_more : (i n : ℕ) (es : List Event) (e : Event) → n ≡ i + length es → entry_lines i (es ++ e ∷ []) ≡ entry_lines i es ++ entry_line n e
entry_lines_more i n [] e h = append-nil (entry_line i e) ∙ ap (λ m. entry_line m e) (omega (arith, h))
entry_lines_more i n (q ∷ es) e h =
    ap (λ l. entry_line i q ++ l) (entry_lines_more (i + 1) n es e (omega (arith, h)))
    ∙ sym (append_assoc (entry_line i q) (entry_lines (i + 1) es) (entry_line n e))

pub events_more : (es : List Event) (e : Event) → AreEvents es → IsEvent e → AreEvents (es ++ e ∷ [])
events_more [] e h g = (g, tt)
events_more (q ∷ es) e h g = (h.0, events_more es e h.1 g)

pub map_more : (es : List Entry) (e : Entry) → map event_of (es ++ e ∷ []) ≡ map event_of es ++ event_of e ∷ []
map_more [] e = refl
map_more (q ∷ es) e = ap (λ l. event_of q ∷ l) (map_more es e)

pub length_more : {X : Type 0} (xs : List X) (x : X) → length (xs ++ x ∷ []) ≡ length xs + 1
length_more [] x = refl
length_more (y ∷ xs) x = omega (arith, length_more xs x)

pub values_more : (vs : List Value) (v : Value) → AreValues vs → IsValue v → AreValues (vs ++ v ∷ [])
values_more [] v h g = (g, tt)
values_more (w ∷ vs) v h g = (h.0, values_more vs v h.1 g)
