-- The bytes that a symbol stands for, in front of others.
use Rattle.std.proofs.Common.{◌≡◌, ℕ, zero, suc, ◌+◌, ◌<◌, ◌≤◌, ◌⊎◌, ℤ, List, [], ◌∷◌, ◌++◌, length, refl, sym, ap, ◌∙◌, append_assoc, arith, decimal, codes}
use Rattle.std.specs.Fmt.{signed_decimal}
use Rattle.run_record.specs.declared.bounds.TheConstants.{MOST_RACES}
use Rattle.fut_base.specs.declared.limits.TheConstants.{MOST_PROGRAM_BYTES, MOST_ENTRIES}
use Rattle.fut_base.specs.declared.event.Event.{Event}
use Rattle.fut_base.specs.declared.event.Action.{Action}
use Rattle.fut_base.specs.declared.record.Value.{Value}
use Rattle.fut_base.specs.declared.record.Race.{Race}
use Rattle.fut_base.specs.declared.record.Finish.{Finish}
use Rattle.run_record.specs.declared.digits.Kind.{Kind}
use Rattle.run_record.specs.declared.digits.Kind.TheVariants as kind
use Rattle.run_record.specs.RunText.{value_text, values_line, action_line, entry_line, entry_lines, race_line, race_lines, finish_line, last_text, run_text}
use Rattle.run_record.specs.Records.{IsNumber, IsSigned, IsValue, AreValues, IsAction, IsEvent, AreEvents, IsRace, AreRaces, IsFinish, IsWithin}
use Rattle.run_record.specs.Machine.{Symbol, Byte, Any, Number, Digits, Unsigned, Signed, Datum, Arguments, Act', ActOfS, Finish', due, word_due, entry_due}
use Rattle.run_record.specs.Machine.{entries_due, race_due, races_due, bytes_due, bound, program_due, history_due, report_due, last_due, all_due}
use Rattle.run_record.specs.Steps.{program_text, history_text, report_text}
use Rattle.run_record.proofs.Joined.{whole_is}

-- what stands behind the digits of a number
abbrev pub IsCounted : Kind → ℕ → List ℕ → List ℕ → Type 0
IsCounted kind.Plain n xs r = xs ≡ r
IsCounted kind.Positive n xs r = xs ≡ r
IsCounted kind.Negative n xs r = xs ≡ r
IsCounted kind.Bytes n xs r = (p : List ℕ) × (length p ≡ n) × (xs ≡ 10 ∷ p ++ r)
IsCounted kind.Entries n xs r = (es : List Event) × (length es ≡ n) × AreEvents es × (xs ≡ 10 ∷ entry_lines 0 es ++ r)
IsCounted kind.Races n xs r = (rs : List Race) × (length rs ≡ n) × AreRaces rs × (xs ≡ 10 ∷ race_lines rs ++ r)

-- xs is a phrase of the symbol and then r
abbrev pub Phrase : Symbol → List ℕ → List ℕ → Type 0
Phrase (Byte b) xs r = xs ≡ b ∷ r
Phrase Any xs r = (b : ℕ) × (xs ≡ b ∷ r)
Phrase (Number k) xs r = (n : ℕ) × (m : List ℕ) × (n ≤ bound k) × (xs ≡ decimal n ++ m) × IsCounted k n m r
Phrase (Digits k v) xs r =
    (ds : List ℕ) × (n : ℕ) × (m : List ℕ) × (decimal v ++ ds ≡ decimal n) × ((n ≡ v) ⊎ (n ≤ bound k)) × (xs ≡ ds ++ m) × IsCounted k n m r
Phrase Unsigned xs r = (n : ℕ) × (n < 9223372036854775808) × (xs ≡ decimal (suc n) ++ r)
Phrase Signed xs r = (z : ℤ) × IsSigned z × (xs ≡ signed_decimal z ++ r)
Phrase Datum xs r = (v : Value) × IsValue v × (xs ≡ value_text v ++ r)
Phrase (Arguments left) xs r = (vs : List Value) × (length vs ≤ left) × AreValues vs × (xs ≡ values_line vs ++ r)
Phrase Act' xs r = (a : Action) × IsAction a × (xs ≡ action_line a ++ r)
Phrase ActOfS xs r = (a : Action) × IsAction a × (115 ∷ xs ≡ action_line a ++ r)
Phrase Finish' xs r = (f : Finish) × IsFinish f × (xs ≡ finish_line f ++ r)

-- xs is what the symbols stand for, one after the other
abbrev pub Phrases : List Symbol → List ℕ → List ℕ → Type 0
Phrases [] xs r = xs ≡ r
Phrases (a ∷ k) xs r = (m : List ℕ) × Phrase a xs m × Phrases k m r

pub split : (s k : List Symbol) (xs r : List ℕ) → Phrases (s ++ k) xs r → (m : List ℕ) × Phrases s xs m × Phrases k m r
split [] k xs r h = (xs, refl, h)
split (a ∷ s) k xs r h = let rest = split s k h.0 r h.2 in (rest.0, (h.0, h.1, rest.1), rest.2)

pub word_phrase : (w xs r : List ℕ) → Phrases (due w) xs r → xs ≡ w ++ r
word_phrase [] xs r h = h
word_phrase (b ∷ w) xs r h = h.1 ∙ ap (λ q. b ∷ q) (word_phrase w h.0 r h.2)

-- a word and then other symbols
pub split_word : (w : List ℕ) (k : List Symbol) (xs r : List ℕ) → Phrases (due w ++ k) xs r → (m : List ℕ) × (xs ≡ w ++ m) × Phrases k m r
split_word w k xs r h = let two = split (due w) k xs r h in (two.0, word_phrase w xs two.0 two.1, two.2)

-- a word, a number and then other symbols
pub split_number : (w : List ℕ) (k : List Symbol) (xs r : List ℕ) → Phrases (word_due w ++ k) xs r
    → (n : ℕ) × (m : List ℕ) × IsNumber n × (xs ≡ w ++ (decimal n ++ m)) × Phrases k m r
split_number w k xs r h =
    let two = split (word_due w) k xs r h in
    let number = split_word w (Number kind.Plain ∷ []) xs two.0 two.1 in
    let n = number.2.1 in
    let rest = n.4 ∙ number.2.2 in
    let small = n.2 in
    (n.0, two.0, omega (arith, small), number.1 ∙ ap (λ q. w ++ q) (n.3 ∙ ap (λ q. decimal n.0 ++ q) rest), two.2)

pub entry_phrase : (place : ℕ) (xs r : List ℕ) → Phrases (entry_due place) xs r → (e : Event) × IsEvent e × (xs ≡ entry_line place e ++ r)
entry_phrase place xs r h =
    let front = split_word (decimal place) (word_due (codes " t") ++ (word_due (codes " s") ++ (due (codes " ") ++ (Act' ∷ [])))) xs r h in
    let task = split_number (codes " t") (word_due (codes " s") ++ (due (codes " ") ++ (Act' ∷ []))) front.0 r front.2 in
    let strand = split_number (codes " s") (due (codes " ") ++ (Act' ∷ [])) task.1 r task.4 in
    let space = split_word (codes " ") (Act' ∷ []) strand.1 r strand.4 in
    let act = space.2.1 in
    let line : space.0 ≡ action_line act.0 ++ r = act.2 ∙ ap (λ q. action_line act.0 ++ q) space.2.2 in
    let e : Event = record { task = task.0; strand = strand.0; action = act.0 } in (
      e,
      (task.2, strand.2, act.1),
      front.1 ∙ ap (λ q. decimal place ++ q)
          (task.3 ∙ ap (λ q. codes " t" ++ (decimal task.0 ++ q))
          (strand.3 ∙ ap (λ q. codes " s" ++ (decimal strand.0 ++ q)) (space.1 ∙ ap (λ q. codes " " ++ q) line)))
          ∙ joined place task.0 strand.0 act.0 r,
    )
  where
    joined : (place task strand : ℕ) (a : Action) (r : List ℕ)
        → decimal place ++ (codes " t" ++ (decimal task ++ (codes " s" ++ (decimal strand ++ (codes " " ++ (action_line a ++ r))))))
        ≡ entry_line place (record { task = task; strand = strand; action = a }) ++ r
    joined place task strand a r = simp append_assoc

pub entries_phrase : (n place : ℕ) (xs r : List ℕ) → Phrases (entries_due place n) xs r
    → (es : List Event) × (length es ≡ n) × AreEvents es × (xs ≡ entry_lines place es ++ r)
entries_phrase zero place xs r h = ([], refl, tt, h)
entries_phrase (suc n) place xs r h =
    let two = split (entry_due place) (entries_due (place + 1) n) xs r h in
    let e = entry_phrase place xs two.0 two.1 in
    let es = entries_phrase n (place + 1) two.0 r two.2 in (
      e.0 ∷ es.0,
      ap suc es.1,
      (e.1, es.2),
      e.2 ∙ ap (λ q. entry_line place e.0 ++ q) es.3
          ∙ sym (append_assoc (entry_line place e.0) (entry_lines (place + 1) es.0) r),
    )

pub race_phrase : (xs r : List ℕ) → Phrases race_due xs r → (q : Race) × IsRace q × (xs ≡ race_line q ++ r)
race_phrase xs r h =
    let cell = split_number (codes "race ") (word_due (codes " ") ++ (word_due (codes " ") ++ due (codes "\n"))) xs r h in
    let first = split_number (codes " ") (word_due (codes " ") ++ due (codes "\n")) cell.1 r cell.4 in
    let second = split_number (codes " ") (due (codes "\n")) first.1 r first.4 in
    let end = word_phrase (codes "\n") second.1 r second.4 in (
      record { cell = cell.0; first = first.0; second = second.0 },
      (cell.2, first.2, second.2),
      cell.3 ∙ ap (λ q. codes "race " ++ (decimal cell.0 ++ q))
          (first.3 ∙ ap (λ q. codes " " ++ (decimal first.0 ++ q)) (second.3 ∙ ap (λ q. codes " " ++ (decimal second.0 ++ q)) end))
          ∙ joined cell.0 first.0 second.0 r,
    )
  where
    joined : (cell first second : ℕ) (r : List ℕ)
        → codes "race " ++ (decimal cell ++ (codes " " ++ (decimal first ++ (codes " " ++ (decimal second ++ (codes "\n" ++ r))))))
        ≡ race_line (record { cell = cell; first = first; second = second }) ++ r
    joined cell first second r = simp append_assoc

pub races_phrase : (n : ℕ) (xs r : List ℕ) → Phrases (races_due n) xs r → (rs : List Race) × (length rs ≡ n) × AreRaces rs × (xs ≡ race_lines rs ++ r)
races_phrase zero xs r h = ([], refl, tt, h)
races_phrase (suc n) xs r h =
    let two = split race_due (races_due n) xs r h in
    let q = race_phrase xs two.0 two.1 in
    let rs = races_phrase n two.0 r two.2 in
    (q.0 ∷ rs.0, ap suc rs.1, (q.1, rs.2), q.2 ∙ ap (λ l. race_line q.0 ++ l) rs.3 ∙ sym (append_assoc (race_line q.0) (race_lines rs.0) r))

pub bytes_phrase : (n : ℕ) (xs r : List ℕ) → Phrases (bytes_due n) xs r → (p : List ℕ) × (length p ≡ n) × (xs ≡ p ++ r)
bytes_phrase zero xs r h = ([], refl, h)
bytes_phrase (suc n) xs r h = let p = bytes_phrase n h.0 r h.2 in (h.1.0 ∷ p.0, ap suc p.1, h.1.1 ∙ ap (λ q. h.1.0 ∷ q) p.2)

-- a count behind a word, the end of its line and what was counted
headed : (w : List ℕ) (n k : ℕ) (xs m rest body end r : List ℕ) → xs ≡ w ++ m → m ≡ decimal n ++ rest → rest ≡ 10 ∷ (body ++ end) → end ≡ r → k ≡ n
    → xs ≡ w ++ (decimal k ++ (10 ∷ (body ++ r)))
headed w n k xs m rest body end r a b c d e =
    a ∙ ap (λ q. w ++ q) (b ∙ ap (λ q. decimal n ++ q) (c ∙ ap (λ q. 10 ∷ (body ++ q)) d) ∙ ap (λ j. decimal j ++ (10 ∷ (body ++ r))) (sym e))

pub program_phrase : (xs r : List ℕ) → Phrases program_due xs r → (p : List ℕ) × (length p ≤ MOST_PROGRAM_BYTES) × (xs ≡ program_text p ++ r)
program_phrase xs r h =
    let w = codes "forder 1\nprogram " in
    let front = split_word w (Number kind.Bytes ∷ []) xs r h in
    let n = front.2.1 in
    let p = n.4 in
    let small = n.2 in
    (p.0, omega (arith, small, p.1), headed w n.0 (length p.0) xs front.0 n.1 p.0 front.2.0 r front.1 n.3 p.2 front.2.2 p.1 ∙ joined p.0 r)
  where
    joined : (p r : List ℕ) → codes "forder 1\nprogram " ++ (decimal (length p) ++ (10 ∷ (p ++ r))) ≡ program_text p ++ r
    joined p r = simp append_assoc

pub history_phrase : (xs r : List ℕ) → Phrases history_due xs r → (es : List Event) × (length es ≤ MOST_ENTRIES) × AreEvents es × (xs ≡ history_text es ++ r)
history_phrase xs r h =
    let w = codes "\nentries " in
    let front = split_word w (Number kind.Entries ∷ []) xs r h in
    let n = front.2.1 in
    let es = n.4 in
    let small = n.2 in (
      es.0,
      omega (arith, small, es.1),
      es.2,
      headed w n.0 (length es.0) xs front.0 n.1 (entry_lines 0 es.0) front.2.0 r front.1 n.3 es.3 front.2.2 es.1 ∙ joined es.0 r,
    )
  where
    joined : (es : List Event) (r : List ℕ) → codes "\nentries " ++ (decimal (length es) ++ (10 ∷ (entry_lines 0 es ++ r))) ≡ history_text es ++ r
    joined es r = simp append_assoc

pub report_phrase : (xs r : List ℕ) → Phrases report_due xs r → (rs : List Race) × (length rs ≤ MOST_RACES) × AreRaces rs × (xs ≡ report_text rs ++ r)
report_phrase xs r h =
    let w = codes "races " in
    let front = split_word w (Number kind.Races ∷ []) xs r h in
    let n = front.2.1 in
    let rs = n.4 in
    let small = n.2 in (
      rs.0,
      omega (arith, small, rs.1),
      rs.2,
      headed w n.0 (length rs.0) xs front.0 n.1 (race_lines rs.0) front.2.0 r front.1 n.3 rs.3 front.2.2 rs.1 ∙ joined rs.0 r,
    )
  where
    joined : (rs : List Race) (r : List ℕ) → codes "races " ++ (decimal (length rs) ++ (10 ∷ (race_lines rs ++ r))) ≡ report_text rs ++ r
    joined rs r = simp append_assoc

pub last_phrase : (xs r : List ℕ) → Phrases last_due xs r → (f : Finish) × IsFinish f × (xs ≡ last_text f ++ r)
last_phrase xs r h =
    let front = split_word (codes "finish ") (Finish' ∷ due (codes "end\n")) xs r h in
    let f = front.2.1 in
    let end = word_phrase (codes "end\n") front.2.0 r front.2.2 in
    (f.0, f.1, front.1 ∙ ap (λ q. codes "finish " ++ q) (f.2 ∙ ap (λ q. finish_line f.0 ++ q) end) ∙ joined f.0 r)
  where
    joined : (f : Finish) (r : List ℕ) → codes "finish " ++ (finish_line f ++ (codes "end\n" ++ r)) ≡ last_text f ++ r
    joined f r = simp append_assoc

-- what all is due stands for is a run text
pub whole_phrase : (xs r : List ℕ) → Phrases all_due xs r → (p : List ℕ) × (es : List Event) × (rs : List Race) × (f : Finish) × IsWithin p es rs f
    × (xs ≡ run_text p es rs f ++ r)
whole_phrase xs r h =
    let a = split program_due (history_due ++ (report_due ++ last_due)) xs r h in
    let b = split history_due (report_due ++ last_due) a.0 r a.2 in
    let c = split report_due last_due b.0 r b.2 in
    let p = program_phrase xs a.0 a.1 in
    let es = history_phrase a.0 b.0 b.1 in
    let rs = report_phrase b.0 c.0 c.1 in
    let f = last_phrase c.0 r c.2 in (
      p.0,
      es.0,
      rs.0,
      f.0,
      record { short = p.1; few = es.1; numbered = es.2; few_races = rs.1; raced = rs.2; finished = f.1 },
      p.2 ∙ ap (λ q. program_text p.0 ++ q) (es.3 ∙ ap (λ q. history_text es.0 ++ q) (rs.3 ∙ ap (λ q. report_text rs.0 ++ q) f.2))
          ∙ whole_is p.0 es.0 rs.0 f.0 r,
    )
