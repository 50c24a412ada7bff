-- A text is the run text of one value.
use Rattle.std.proofs.Common.{◌≡◌, ℕ, zero, suc, ◌+◌, ◌<◌, ◌≤◌, ◌^◌, cond, nat_eq, List, [], ◌∷◌, ◌++◌, length, take, drop}
use Rattle.std.proofs.Common.{get_or, refl, sym, ap, ◌∙◌, append_assoc, append-nil, arith, decimal, codes, take_at}
use Rattle.run_record.specs.declared.bounds.TheConstants.{MOST_RACES}
use Rattle.fut_base.specs.declared.event.Event.{Event}
use Rattle.fut_base.specs.declared.event.Action.{Action}
use Rattle.fut_base.specs.declared.record.Race.{Race}
use Rattle.fut_base.specs.declared.record.Finish.{Finish}
use Rattle.fut_base.specs.declared.record.Finish.TheVariants as finish
use Rattle.run_record.specs.RunText.{action_line, entry_line, entry_lines, race_line, race_lines, finish_line, last_text, run_text}
use Rattle.run_record.specs.Records.{AreEvents, AreRaces, IsFinish, IsWithin}
use Rattle.run_record.specs.Steps.{program_text, history_text, report_text}
use Rattle.run_record.specs.Laws.{OneValue}
use Rattle.run_record.proofs.Joined.{whole_is}
use Rattle.run_record.proofs.Back.{number_then, number_back, action_then, action_back}

-- so many entries, each behind its place
events_then : {A : Type 0} → ℕ → (List Event → List ℕ → A) → List ℕ → A
events_then zero f xs = f [] xs
events_then (suc n) f xs =
    number_then
    (λ place r. number_then
    (λ task r. number_then
    (λ strand r. action_then (λ a r. events_then n (λ es s. f (record { task = task; strand = strand; action = a } ∷ es) s) r) (drop 1 r)) (drop 2 r))
    (drop 2 r)) xs

entry_joined : (place task strand : ℕ) (a : Action) (more r : List ℕ) → (entry_line place (record { task = task; strand = strand; action = a }) ++ more) ++ r
    ≡ decimal place ++ (32 ∷ (116 ∷ (decimal task ++ (32 ∷ (115 ∷ (decimal strand ++ (32 ∷ (action_line a ++ (more ++ r)))))))))
entry_joined place task strand a more r = simp append_assoc

events_back : {A : Type 0} (es : List Event) (place : ℕ) (f : List Event → List ℕ → A) (r : List ℕ) → place + length es < 2 ^ 64 → AreEvents es
    → events_then (length es) f (entry_lines place es ++ r) ≡ f es r
unfolding events_then
events_back [] place f r small h = refl
events_back (e ∷ es) place f r small h =
    let n = length es in
    let g = λ (task strand : ℕ) (a : Action) (r : List ℕ). events_then n (λ es s. f (record { task = task; strand = strand; action = a } ∷ es) s) r in
    ap
    (λ q. number_then
    (λ place r. number_then (λ task r. number_then (λ strand r. action_then (λ a r. g task strand a r) (drop 1 r)) (drop 2 r)) (drop 2 r)) q)
    (entry_joined place e.task e.strand e.action (entry_lines (place + 1) es) r)
    ∙ number_back
    (λ place r. number_then (λ task r. number_then (λ strand r. action_then (λ a r. g task strand a r) (drop 1 r)) (drop 2 r)) (drop 2 r)) place 32 _
    (omega arith) (omega arith)
    ∙ number_back (λ task r. number_then (λ strand r. action_then (λ a r. g task strand a r) (drop 1 r)) (drop 2 r)) e.task 32 _ (omega (arith, h.0.0))
    (omega arith)
    ∙ number_back (λ strand r. action_then (λ a r. g e.task strand a r) (drop 1 r)) e.strand 32 _ (omega (arith, h.0.1)) (omega arith)
    ∙ action_back (λ a r. g e.task e.strand a r) e.action (entry_lines (place + 1) es ++ r) h.0.2
    ∙ events_back es (place + 1) (λ es s. f (e ∷ es) s) r (omega arith) h.1

races_then : {A : Type 0} → ℕ → (List Race → List ℕ → A) → List ℕ → A
races_then zero f xs = f [] xs
races_then (suc n) f xs =
    number_then
    (λ cell r. number_then
    (λ first r. number_then (λ second r. races_then n (λ rs s. f (record { cell = cell; first = first; second = second } ∷ rs) s) (drop 1 r)) (drop 1 r))
    (drop 1 r)) (drop 5 xs)

race_joined : (cell first second : ℕ) (more r : List ℕ) → (race_line (record { cell = cell; first = first; second = second }) ++ more) ++ r
    ≡ codes "race " ++ (decimal cell ++ (32 ∷ (decimal first ++ (32 ∷ (decimal second ++ (10 ∷ (more ++ r)))))))
race_joined cell first second more r = simp append_assoc

races_back : {A : Type 0} (rs : List Race) (f : List Race → List ℕ → A) (r : List ℕ) → AreRaces rs → races_then (length rs) f (race_lines rs ++ r) ≡ f rs r
unfolding races_then
races_back [] f r h = refl
races_back (q ∷ rs) f r h =
    let n = length rs in
    let g = λ (cell first second : ℕ) (r : List ℕ). races_then n (λ rs s. f (record { cell = cell; first = first; second = second } ∷ rs) s) (drop 1 r) in
    ap (λ l. number_then (λ cell r. number_then (λ first r. number_then (λ second r. g cell first second r) (drop 1 r)) (drop 1 r)) (drop 5 l))
    (race_joined q.cell q.first q.second (race_lines rs) r)
    ∙ number_back (λ cell r. number_then (λ first r. number_then (λ second r. g cell first second r) (drop 1 r)) (drop 1 r)) q.cell 32 _
    (omega (arith, h.0.0)) (omega arith)
    ∙ number_back (λ first r. number_then (λ second r. g q.cell first second r) (drop 1 r)) q.first 32 _ (omega (arith, h.0.1)) (omega arith)
    ∙ number_back (λ second r. g q.cell q.first second r) q.second 10 _ (omega (arith, h.0.2)) (omega arith)
    ∙ races_back rs (λ rs s. f (q ∷ rs) s) r h.1

finish_at : List ℕ → Finish
finish_at xs =
    cond (nat_eq (get_or xs 0 0) 119) finish.Whole
    (cond (nat_eq (get_or xs 0 0) 101) (number_then (λ n r. finish.Events n) (drop 7 xs))
    (cond (nat_eq (get_or xs 0 0) 108) (number_then (λ n r. finish.Local n) (drop 6 xs)) (number_then (λ n r. finish.Futures n) (drop 8 xs))))

numbered_back : (w : ℕ → Finish) (n : ℕ) (r : List ℕ) → n < 2 ^ 32 → number_then (λ n r. w n) ((decimal n ++ codes "\n") ++ r) ≡ w n
numbered_back w n r small =
    ap (λ q. number_then (λ n r. w n) q) (append_assoc (decimal n) (10 ∷ []) r) ∙ number_back (λ n r. w n) n 10 r (omega arith) (omega arith)

finish_back : (f : Finish) (r : List ℕ) → IsFinish f → finish_at (finish_line f ++ r) ≡ f
unfolding finish_at
finish_back finish.Whole r h = refl
finish_back (finish.Events n) r h = numbered_back (λ n. finish.Events n) n r h
finish_back (finish.Local n) r h = numbered_back (λ n. finish.Local n) n r h
finish_back (finish.Futures n) r h = numbered_back (λ n. finish.Futures n) n r h

abbrev Whole : Type 0
Whole = List ℕ × List Event × List Race × Finish

behind_races : List ℕ → List Event → List ℕ → Whole
behind_races p es xs = number_then (λ n r. races_then n (λ rs s. (p, es, rs, finish_at (drop 7 s))) (drop 1 r)) (drop 6 xs)

behind_program : List ℕ → List ℕ → Whole
behind_program p xs = number_then (λ n r. events_then n (λ es s. behind_races p es s) (drop 1 r)) (drop 9 xs)

whole_at : List ℕ → Whole
whole_at xs = number_then (λ n r. behind_program (take n (drop 1 r)) (drop n (drop 1 r))) (drop 17 xs)

drop_front : (p r : List ℕ) → drop (length p) (p ++ r) ≡ r
drop_front [] r = refl
drop_front (x ∷ p) r = drop_front p r

races_part : (p : List ℕ) (es : List Event) (rs : List Race) (f : Finish) → length rs ≤ MOST_RACES → AreRaces rs → IsFinish f
    → behind_races p es (report_text rs ++ last_text f) ≡ (p, es, rs, f)
unfolding behind_races
races_part p es rs f few h end =
    ap (λ q. number_then (λ n r. races_then n (λ rs s. (p, es, rs, finish_at (drop 7 s))) (drop 1 r)) (drop 6 q)) joined
    ∙ number_back (λ n r. races_then n (λ rs s. (p, es, rs, finish_at (drop 7 s))) (drop 1 r)) (length rs) 10 _ (omega arith) (omega arith)
    ∙ races_back rs (λ rs s. (p, es, rs, finish_at (drop 7 s))) (last_text f) h
    ∙ ap (λ q. (p, es, rs, q)) (finish_back f (codes "end\n") end)
  where
    joined : report_text rs ++ last_text f ≡ codes "races " ++ (decimal (length rs) ++ (10 ∷ (race_lines rs ++ last_text f)))
    joined = simp append_assoc

program_part : (p : List ℕ) (es : List Event) (rs : List Race) (f : Finish) → IsWithin p es rs f
    → behind_program p (history_text es ++ (report_text rs ++ last_text f)) ≡ (p, es, rs, f)
unfolding behind_program
program_part p es rs f w =
    let few = w.few in
    ap (λ q. number_then (λ n r. events_then n (λ es s. behind_races p es s) (drop 1 r)) (drop 9 q)) joined
    ∙ number_back (λ n r. events_then n (λ es s. behind_races p es s) (drop 1 r)) (length es) 10 _ (omega (arith, few)) (omega arith)
    ∙ events_back es 0 (λ es s. behind_races p es s) (report_text rs ++ last_text f) (omega (arith, few)) w.numbered
    ∙ races_part p es rs f w.few_races w.raced w.finished
  where
    joined : history_text es ++ (report_text rs ++ last_text f) ≡ codes "\nentries "
        ++ (decimal (length es) ++ (10 ∷ (entry_lines 0 es ++ (report_text rs ++ last_text f))))
    joined = simp append_assoc

whole_back : (p : List ℕ) (es : List Event) (rs : List Race) (f : Finish) → IsWithin p es rs f → whole_at (run_text p es rs f) ≡ (p, es, rs, f)
unfolding whole_at
whole_back p es rs f w =
    let rest = history_text es ++ (report_text rs ++ last_text f) in
    let short = w.short in
    let text : run_text p es rs f ≡ codes "forder 1\nprogram " ++ (decimal (length p) ++ (10 ∷ (p ++ rest))) =
    sym (append-nil (run_text p es rs f)) ∙ sym (whole_is p es rs f []) ∙ ap (λ q. program_text p ++ (history_text es ++ (report_text rs ++ q)))
    (append-nil (last_text f)) ∙ joined rest in
    ap (λ q. number_then (λ n r. behind_program (take n (drop 1 r)) (drop n (drop 1 r))) (drop 17 q)) text
    ∙ number_back (λ n r. behind_program (take n (drop 1 r)) (drop n (drop 1 r))) (length p) 10 (p ++ rest) (omega (arith, short)) (omega arith)
    ∙ ap (λ q. behind_program q (drop (length p) (p ++ rest))) (take_at p rest (length p) refl)
    ∙ ap (λ q. behind_program p q) (drop_front p rest)
    ∙ program_part p es rs f w
  where
    joined : (rest : List ℕ) → program_text p ++ rest ≡ codes "forder 1\nprogram " ++ (decimal (length p) ++ (10 ∷ (p ++ rest)))
    joined rest = simp append_assoc

pub one_value : OneValue
one_value bytes p es rs f p' es' rs' f' a b =
    let same : (p, es, rs, f) ≡ (p', es', rs', f') =
    sym (whole_back p es rs f a.within) ∙ ap whole_at (sym a.text ∙ b.text) ∙ whole_back p' es' rs' f' b.within in
    (ap (λ (w : Whole). w.0) same, ap (λ (w : Whole). w.1) same, ap (λ (w : Whole). w.2) same, ap (λ (w : Whole). w.3) same)
