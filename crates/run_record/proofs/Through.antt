-- A run text goes through.
use Rattle.std.proofs.Common.{◌≡◌, ℕ, suc, ◌+◌, ◌-◌, ◌%◌, ◌<◌, ◌≤◌, ◌^◌, ℤ, pos, negsuc, true, false, nat_eq, nat_lt, nat_le, ◌&&◌}
use Rattle.std.proofs.Common.{List, [], ◌∷◌, ◌++◌, length, get_or, refl, sym, ap, subst, ◌∙◌, append_assoc, arith, decimal, codes}
use Rattle.std.specs.Fmt.{signed_decimal}
use Rattle.std.proofs.lemmas.Bool.Decides.{nat_tests}
use Rattle.std.proofs.lemmas.Fmt.{decimal_by_steps, first_decimal}
use Rattle.run_record.specs.declared.bounds.TheConstants.{MOST_ARGUMENTS}
use Rattle.fut_base.specs.declared.event.Event.{Event}
use Rattle.fut_base.specs.declared.event.Action.{Action}
use Rattle.fut_base.specs.declared.event.Action.TheVariants.{Reads, Writes, Spawns, Creates, Syncs, Gets, Ends}
use Rattle.fut_base.specs.declared.record.Value.{Value}
use Rattle.fut_base.specs.declared.record.Value.TheVariants.{Int, Fut}
use Rattle.fut_base.specs.declared.record.Race.{Race}
use Rattle.fut_base.specs.declared.record.Finish.{Finish}
use Rattle.fut_base.specs.declared.record.Finish.TheVariants as finish
use Rattle.run_record.specs.declared.digits.Kind.{Kind}
use Rattle.run_record.specs.declared.digits.Kind.TheVariants as kind
use Rattle.run_record.specs.RunText.{value_text, values_line, call_line, action_line, entry_line}
use Rattle.run_record.specs.RunText.{entry_lines, race_line, race_lines, finish_line, last_text, run_text}
use Rattle.run_record.specs.Records.{IsNumber, IsSigned, IsValue, AreValues, IsCall, IsAction, IsEvent, AreEvents, IsRace, AreRaces, IsFinish, IsWithin}
use Rattle.run_record.specs.Machine.{Symbol, Byte, Any, Number, Digits, Unsigned, Signed, Datum, Arguments, Act', ActOfS, Finish'}
use Rattle.run_record.specs.Machine.{Takes, Passes, Refuses, due, word_due, numbered_due, access_due, call_due, get_due, end_due}
use Rattle.run_record.specs.Machine.{bytes_due, entry_due, entries_due, race_due, races_due, program_due, history_due, report_due}
use Rattle.run_record.specs.Machine.{last_due, all_due, bound, is_digit, is_more, behind_rule, number_rule, signed_rule, rule}
use Rattle.run_record.specs.Steps.{Steps, counted, is_count}
use Rattle.run_record.proofs.Numerals.{is_true, is_false, number_runs}
use Rattle.run_record.proofs.Chains.{after, onward, takes}
use Rattle.run_record.proofs.Cursors.{ends_rule, line_rule}
use Rattle.run_record.proofs.Exits.{passes, opens}
use Rattle.run_record.proofs.Joined.{whole_is}

moved : {s t : List Symbol} {xs ys m : List ℕ} → xs ≡ ys → Steps s ys t m → Steps s xs t m
moved {s = s} {t = t} {m = m} e h = subst (λ (q : List ℕ). Steps s q t m) (sym e) h

same_is : (b : ℕ) → nat_eq b b ≡ true
same_is b = grind (arith, nat_tests)

pub text_goes : (w r : List ℕ) → Steps (due w) (w ++ r) [] r
text_goes [] r = record { goes = λ k. refl }
text_goes (b ∷ w) r = after (Byte b ∷ []) (due w) (takes (Byte b) b [] (b ∷ (w ++ r)) (w ++ r) (is_true (nat_eq b b) (Takes []) Refuses (same_is b)) refl)
    (text_goes w r)

no_more : (k : Kind) (n c : ℕ) → c < 48 → is_more k n c ≡ false
no_more k n c h = grind (arith, nat_tests)

-- a number before a byte that is no digit
number_goes : (k : Kind) (n c : ℕ) (r : List ℕ) → n ≤ bound k → c < 48 → behind_rule k n c ≡ Passes → Steps (Number k ∷ []) (decimal n ++ (c ∷ r)) [] (c ∷ r)
number_goes k n c r small low same =
    onward (record { goes = λ s. number_runs k s n small (c ∷ r) })
    (passes (Digits k n) c (c ∷ r) r (ends_rule k n c (c ∷ r) r refl (no_more k n c low) ∙ same) refl)

plain_goes : (n c : ℕ) (r : List ℕ) → IsNumber n → c < 48 → Steps (Number kind.Plain ∷ []) (decimal n ++ (c ∷ r)) [] (c ∷ r)
plain_goes n c r small low = number_goes kind.Plain n c r (omega arith) low refl

-- a count to the end of its line
count_goes : (k : Kind) (n : ℕ) (r : List ℕ) → n ≤ bound k → is_count k ≡ true → Steps (Number k ∷ []) (decimal n ++ (10 ∷ r)) (counted k n) r
count_goes k n r small h =
    onward (record { goes = λ s. number_runs k s n small (10 ∷ r) })
    (takes (Digits k n) 10 (counted k n) (10 ∷ r) r (ends_rule k n 10 (10 ∷ r) r refl (no_more k n 10 (omega arith)) ∙ line_rule k n h) refl)

pub record Headed (ds : List ℕ) : Type 0 where
  pub head : ℕ
  pub tail : List ℕ
  pub is : ds ≡ head ∷ tail
  pub low : 48 ≤ head
  pub high : head ≤ 57

pub headed : (n : ℕ) → n < 2 ^ 64 → Headed (decimal n)
headed n small = decimal_by_steps (λ m ds. Headed ds)
    (λ m l. record { head = 48 + m; tail = []; is = refl; low = omega arith; high = omega arith })
    (λ m ds l h. record { head = h.head; tail = h.tail ++ (48 + m % 10) ∷ []; is = ap (λ q. q ++ (48 + m % 10) ∷ []) h.is; low = h.low; high = h.high })
    n small

pub not_byte : (x b : ℕ) → (x ≡ b → ⊥) → nat_eq x b ≡ false
not_byte x b h = grind (arith, nat_tests)

pub digit_is : (x : ℕ) → 48 ≤ x → x ≤ 57 → is_digit x ≡ true
digit_is x low high = grind (arith, nat_tests)

positive_is : (x : ℕ) → 49 ≤ x → x ≤ 57 → (nat_le 49 x && nat_le x 57) ≡ true
positive_is x low high = grind (arith, nat_tests)

signed_goes : (z : ℤ) (c : ℕ) (r : List ℕ) → IsSigned z → c < 48 → Steps (Signed ∷ []) (signed_decimal z ++ (c ∷ r)) [] (c ∷ r)
signed_goes (pos n) c r small low =
    let h = headed n (omega arith) in
    let top = h.low in
    onward
    (opens Signed (Number kind.Positive) h.head (decimal n ++ (c ∷ r)) (h.tail ++ (c ∷ r))
    (is_false (nat_eq h.head 45) (Takes (Unsigned ∷ [])) (number_rule kind.Positive h.head) (not_byte h.head 45 (λ e. omega (arith, e, top))))
    (ap (λ q. q ++ (c ∷ r)) h.is))
    (number_goes kind.Positive n c r (omega arith) low refl)
signed_goes (negsuc n) c r small low =
    let h = headed (suc n) (omega arith) in
    let first = first_decimal (suc n) (omega arith) (omega arith) in
    let head : get_or (decimal (suc n)) 0 0 ≡ h.head = ap (λ q. get_or q 0 0) h.is in
    let top : 49 ≤ h.head = omega (arith, first, head) in
    let high = h.high in
    let same : rule Unsigned h.head ≡ rule (Number kind.Negative) h.head =
    is_true (nat_le 49 h.head && nat_le h.head 57) (Takes (Digits kind.Negative (h.head - 48) ∷ [])) Refuses (positive_is h.head top high)
    ∙ sym (is_true (is_digit h.head) (Takes (Digits kind.Negative (h.head - 48) ∷ [])) Refuses (digit_is h.head (omega (arith, top)) high)) in
    onward (takes Signed 45 (Unsigned ∷ []) (45 ∷ (decimal (suc n) ++ (c ∷ r))) (decimal (suc n) ++ (c ∷ r)) refl refl)
    (onward (opens Unsigned (Number kind.Negative) h.head (decimal (suc n) ++ (c ∷ r)) (h.tail ++ (c ∷ r)) same (ap (λ q. q ++ (c ∷ r)) h.is))
    (number_goes kind.Negative (suc n) c r (omega arith) low refl))

pub signed_headed : (z : ℤ) → IsSigned z → (x : ℕ) × (ds : List ℕ) × (signed_decimal z ≡ x ∷ ds) × (x < 58)
signed_headed (pos n) small = let h = headed n (omega arith) in let high = h.high in (h.head, h.tail, h.is, omega (arith, high))
signed_headed (negsuc n) small = (45, decimal (suc n), refl, omega arith)

value_goes : (v : Value) (c : ℕ) (r : List ℕ) → IsValue v → c < 48 → Steps (Datum ∷ []) (value_text v ++ (c ∷ r)) [] (c ∷ r)
value_goes (Int z) c r small low =
    let h = signed_headed z small in
    let high = h.3 in
    onward
    (opens Datum Signed h.0 (signed_decimal z ++ (c ∷ r)) (h.1 ++ (c ∷ r))
    (is_false (nat_eq h.0 102) (Takes (Number kind.Plain ∷ [])) (signed_rule h.0) (not_byte h.0 102 (λ e. omega (arith, e, high))))
    (ap (λ q. q ++ (c ∷ r)) h.2))
    (signed_goes z c r small low)
value_goes (Fut f) c r small low =
    onward (takes Datum 102 (Number kind.Plain ∷ []) (102 ∷ (decimal f ++ (c ∷ r))) (decimal f ++ (c ∷ r)) refl refl) (plain_goes f c r small low)

-- the values of a line go through before its rest, whose first byte is no digit
pub record Lined (vs : List Value) (r : List ℕ) : Type 0 where
  pub first : ℕ
  pub others : List ℕ
  pub is : values_line vs ++ r ≡ first ∷ others
  pub low : first < 48

pub lined : (vs : List Value) (r : List ℕ) → Lined vs r
lined [] r = record { first = 10; others = r; is = refl; low = omega arith }
lined (v ∷ vs) r = record { first = 32; others = (value_text v ++ values_line vs) ++ r; is = refl; low = omega arith }

space_rule : (left : ℕ) → 0 < left → rule (Arguments left) 32 ≡ Takes (Datum ∷ Arguments (left - 1) ∷ [])
space_rule left some =
    let test : nat_lt 0 left ≡ true = grind (arith, nat_tests) in
    is_true (nat_lt 0 left) (Takes (Datum ∷ Arguments (left - 1) ∷ [])) Refuses test

arguments_go : (vs : List Value) (left : ℕ) (r : List ℕ) → length vs ≤ left → AreValues vs → Steps (Arguments left ∷ []) (values_line vs ++ r) [] r
arguments_go [] left r few h = takes (Arguments left) 10 [] (10 ∷ r) r refl refl
arguments_go (v ∷ vs) left r few h =
    let l = lined vs r in
    let text = append_assoc (value_text v) (values_line vs) r ∙ ap (λ q. value_text v ++ q) l.is in
    onward
    (takes (Arguments left) 32 (Datum ∷ Arguments (left - 1) ∷ []) (32 ∷ ((value_text v ++ values_line vs) ++ r)) ((value_text v ++ values_line vs) ++ r)
    (space_rule left (omega arith)) refl)
    (after (Datum ∷ []) (Arguments (left - 1) ∷ []) (moved text (value_goes v l.first l.others h.0 l.low))
    (moved (sym l.is) (arguments_go vs (left - 1) r (omega arith) h.1)))

-- a number behind a word, before a byte that is no digit
word_goes : (w : List ℕ) (n c : ℕ) (r : List ℕ) → IsNumber n → c < 48 → Steps (word_due w) (w ++ (decimal n ++ (c ∷ r))) [] (c ∷ r)
word_goes w n c r small low = after (due w) (Number kind.Plain ∷ []) (text_goes w (decimal n ++ (c ∷ r))) (plain_goes n c r small low)

access_goes : (w : List ℕ) (n : ℕ) (z : ℤ) (r : List ℕ) → IsNumber n → IsSigned z
    → Steps (access_due w) ((w ++ (decimal n ++ (codes " " ++ (signed_decimal z ++ codes "\n")))) ++ r) [] r
access_goes w n z r small fits =
    moved (joined w n z r)
    (after (word_due w) (due (codes " ") ++ (Signed ∷ due (codes "\n"))) (word_goes w n 32 (signed_decimal z ++ (10 ∷ r)) small (omega arith))
    (after (due (codes " ")) (Signed ∷ due (codes "\n")) (text_goes (codes " ") (signed_decimal z ++ (10 ∷ r)))
    (after (Signed ∷ []) (due (codes "\n")) (signed_goes z 10 r fits (omega arith)) (text_goes (codes "\n") r))))
  where
    joined : (w : List ℕ) (n : ℕ) (z : ℤ) (r : List ℕ) → (w ++ (decimal n ++ (codes " " ++ (signed_decimal z ++ codes "\n")))) ++ r
        ≡ w ++ (decimal n ++ (32 ∷ (signed_decimal z ++ (10 ∷ r))))
    joined w n z r = simp append_assoc

call_goes : (w : List ℕ) (code child kid cont : ℕ) (args : List Value) (r : List ℕ) → IsCall code child kid cont args
    → Steps (call_due w) ((w ++ call_line code child kid cont args) ++ r) [] r
call_goes w code child kid cont args r h =
    let l = lined args r in
    let tail = values_line args ++ r in
    moved (joined w code child kid cont args r)
    (after (word_due w) (word_due (codes " t") ++ (word_due (codes " s") ++ (word_due (codes " s") ++ (Arguments MOST_ARGUMENTS ∷ []))))
    (word_goes w code 32 _ h.0 (omega arith))
    (after (word_due (codes " t")) (word_due (codes " s") ++ (word_due (codes " s") ++ (Arguments MOST_ARGUMENTS ∷ [])))
    (word_goes (codes " t") child 32 _ h.1 (omega arith))
    (after (word_due (codes " s")) (word_due (codes " s") ++ (Arguments MOST_ARGUMENTS ∷ [])) (word_goes (codes " s") kid 32 _ h.2 (omega arith))
    (after (word_due (codes " s")) (Arguments MOST_ARGUMENTS ∷ [])
    (moved (ap (λ q. codes " s" ++ (decimal cont ++ q)) l.is) (word_goes (codes " s") cont l.first l.others h.3 l.low))
    (moved (sym l.is) (arguments_go args 16 r h.4 h.5))))))
  where
    joined : (w : List ℕ) (code child kid cont : ℕ) (args : List Value) (r : List ℕ) → (w ++ call_line code child kid cont args) ++ r
        ≡ w
        ++
        (decimal code
        ++ (32 ∷ (codes "t" ++ (decimal child ++ (32 ∷ (codes "s" ++ (decimal kid ++ (32 ∷ (codes "s" ++ (decimal cont ++ (values_line args ++ r)))))))))))
    joined w code child kid cont args r = simp append_assoc

numbered_goes : (w : List ℕ) (n : ℕ) (r : List ℕ) → IsNumber n → Steps (numbered_due w) ((w ++ (decimal n ++ codes "\n")) ++ r) [] r
numbered_goes w n r small =
    moved (joined w n r) (after (word_due w) (due (codes "\n")) (word_goes w n 10 r small (omega arith)) (text_goes (codes "\n") r))
  where
    joined : (w : List ℕ) (n : ℕ) (r : List ℕ) → (w ++ (decimal n ++ codes "\n")) ++ r ≡ w ++ (decimal n ++ (10 ∷ r))
    joined w n r = simp append_assoc

get_goes : (f : ℕ) (v : Value) (s : ℕ) (r : List ℕ) → IsNumber f → IsValue v → IsNumber s
    → Steps get_due ((codes "et f" ++ (decimal f ++ (codes " " ++ (value_text v ++ (codes " s" ++ (decimal s ++ codes "\n")))))) ++ r) [] r
get_goes f v s r small fits low =
    moved (joined f v s r)
    (after (word_due (codes "et f")) (due (codes " ") ++ (Datum ∷ numbered_due (codes " s"))) (word_goes (codes "et f") f 32 _ small (omega arith))
    (after (due (codes " ")) (Datum ∷ numbered_due (codes " s")) (text_goes (codes " ") _)
    (after (Datum ∷ []) (numbered_due (codes " s")) (value_goes v 32 _ fits (omega arith)) (numbered_goes (codes " s") s r low))))
  where
    joined : (f : ℕ) (v : Value) (s : ℕ) (r : List ℕ)
        → (codes "et f" ++ (decimal f ++ (codes " " ++ (value_text v ++ (codes " s" ++ (decimal s ++ codes "\n")))))) ++ r
        ≡ codes "et f" ++ (decimal f ++ (32 ∷ (value_text v ++ ((codes " s" ++ (decimal s ++ codes "\n")) ++ r))))
    joined f v s r = simp append_assoc

end_goes : (v : Value) (r : List ℕ) → IsValue v → Steps end_due ((codes "nd " ++ (value_text v ++ codes "\n")) ++ r) [] r
end_goes v r fits =
    moved (joined v r)
    (after (due (codes "nd ")) (Datum ∷ due (codes "\n")) (text_goes (codes "nd ") _)
    (after (Datum ∷ []) (due (codes "\n")) (value_goes v 10 r fits (omega arith)) (text_goes (codes "\n") r)))
  where
    joined : (v : Value) (r : List ℕ) → (codes "nd " ++ (value_text v ++ codes "\n")) ++ r ≡ codes "nd " ++ (value_text v ++ (10 ∷ r))
    joined v r = simp append_assoc

act_goes : (a : Action) (r : List ℕ) → IsAction a → Steps (Act' ∷ []) (action_line a ++ r) [] r
act_goes (Reads n z) r h = onward (takes Act' 114 (access_due (codes "ead ")) _ _ refl refl) (access_goes (codes "ead ") n z r h.0 h.1)
act_goes (Writes n z) r h = onward (takes Act' 119 (access_due (codes "rite ")) _ _ refl refl) (access_goes (codes "rite ") n z r h.0 h.1)
act_goes (Spawns code child kid cont args) r h =
    onward (takes Act' 115 (ActOfS ∷ []) _ _ refl refl)
    (onward (takes ActOfS 112 (call_due (codes "awn ")) _ _ refl refl) (call_goes (codes "awn ") code child kid cont args r h))
act_goes (Creates code child kid cont args) r h =
    onward (takes Act' 99 (call_due (codes "reate ")) _ _ refl refl) (call_goes (codes "reate ") code child kid cont args r h)
act_goes (Syncs s) r h = onward (takes Act' 115 (ActOfS ∷ []) _ _ refl refl)
    (onward (takes ActOfS 121 (numbered_due (codes "nc s")) _ _ refl refl) (numbered_goes (codes "nc s") s r h))
act_goes (Gets f v s) r h = onward (takes Act' 103 get_due _ _ refl refl) (get_goes f v s r h.0 h.1 h.2)
act_goes (Ends v) r h = onward (takes Act' 101 end_due _ _ refl refl) (end_goes v r h)

finish_goes : (f : Finish) (r : List ℕ) → IsFinish f → Steps (Finish' ∷ []) (finish_line f ++ r) [] r
finish_goes finish.Whole r h = onward (takes Finish' 119 (due (codes "hole\n")) _ _ refl refl) (text_goes (codes "hole\n") r)
finish_goes (finish.Events n) r h = onward (takes Finish' 101 (numbered_due (codes "vents ")) _ _ refl refl) (numbered_goes (codes "vents ") n r h)
finish_goes (finish.Local n) r h = onward (takes Finish' 108 (numbered_due (codes "ocal ")) _ _ refl refl) (numbered_goes (codes "ocal ") n r h)
finish_goes (finish.Futures n) r h = onward (takes Finish' 102 (numbered_due (codes "utures ")) _ _ refl refl) (numbered_goes (codes "utures ") n r h)

entry_goes : (place : ℕ) (e : Event) (r : List ℕ) → IsEvent e → Steps (entry_due place) (entry_line place e ++ r) [] r
entry_goes place e r h =
    moved (joined place e.task e.strand e.action r)
    (after (due (decimal place)) (word_due (codes " t") ++ (word_due (codes " s") ++ (due (codes " ") ++ (Act' ∷ [])))) (text_goes (decimal place) _)
    (after (word_due (codes " t")) (word_due (codes " s") ++ (due (codes " ") ++ (Act' ∷ []))) (word_goes (codes " t") e.task 32 _ h.0 (omega arith))
    (after (word_due (codes " s")) (due (codes " ") ++ (Act' ∷ [])) (word_goes (codes " s") e.strand 32 _ h.1 (omega arith))
    (after (due (codes " ")) (Act' ∷ []) (text_goes (codes " ") _) (act_goes e.action r h.2)))))
  where
    joined : (place task strand : ℕ) (a : Action) (r : List ℕ) → entry_line place (record { task = task; strand = strand; action = a }) ++ r
        ≡ decimal place ++ (codes " t" ++ (decimal task ++ (32 ∷ (codes "s" ++ (decimal strand ++ (32 ∷ (action_line a ++ r)))))))
    joined place task strand a r = simp append_assoc

entries_go : (es : List Event) (place : ℕ) (r : List ℕ) → AreEvents es → Steps (entries_due place (length es)) (entry_lines place es ++ r) [] r
entries_go [] place r h = record { goes = λ k. refl }
entries_go (e ∷ es) place r h =
    moved (append_assoc (entry_line place e) (entry_lines (place + 1) es) r)
    (after (entry_due place) (entries_due (place + 1) (length es)) (entry_goes place e _ h.0) (entries_go es (place + 1) r h.1))

race_goes : (q : Race) (r : List ℕ) → IsRace q → Steps race_due (race_line q ++ r) [] r
race_goes q r h =
    moved (joined q.cell q.first q.second r)
    (after (word_due (codes "race ")) (word_due (codes " ") ++ numbered_due (codes " ")) (word_goes (codes "race ") q.cell 32 _ h.0 (omega arith))
    (after (word_due (codes " ")) (numbered_due (codes " ")) (word_goes (codes " ") q.first 32 _ h.1 (omega arith)) (numbered_goes (codes " ") q.second r h.2)))
  where
    joined : (cell first second : ℕ) (r : List ℕ) → race_line (record { cell = cell; first = first; second = second }) ++ r
        ≡ codes "race " ++ (decimal cell ++ (32 ∷ (decimal first ++ ((codes " " ++ (decimal second ++ codes "\n")) ++ r))))
    joined cell first second r = simp append_assoc

races_go : (rs : List Race) (r : List ℕ) → AreRaces rs → Steps (races_due (length rs)) (race_lines rs ++ r) [] r
races_go [] r h = record { goes = λ k. refl }
races_go (q ∷ rs) r h = moved (append_assoc (race_line q) (race_lines rs) r) (after race_due (races_due (length rs)) (race_goes q _ h.0) (races_go rs r h.1))

bytes_go : (p r : List ℕ) → Steps (bytes_due (length p)) (p ++ r) [] r
bytes_go [] r = record { goes = λ k. refl }
bytes_go (b ∷ p) r = after (Any ∷ []) (bytes_due (length p)) (takes Any b [] (b ∷ (p ++ r)) (p ++ r) refl refl) (bytes_go p r)

-- a word, a count and what is counted
counted_goes : (w : List ℕ) (k : Kind) (n : ℕ) (body r : List ℕ) → n ≤ bound k → is_count k ≡ true → Steps (counted k n) (body ++ r) [] r
    → Steps (due w ++ (Number k ∷ [])) ((w ++ (decimal n ++ (codes "\n" ++ body))) ++ r) [] r
counted_goes w k n body r small h body_goes =
    moved (joined w n body r) (after (due w) (Number k ∷ []) (text_goes w _) (onward (count_goes k n (body ++ r) small h) body_goes))
  where
    joined : (w : List ℕ) (n : ℕ) (body r : List ℕ) → (w ++ (decimal n ++ (codes "\n" ++ body))) ++ r ≡ w ++ (decimal n ++ (10 ∷ (body ++ r)))
    joined w n body r = simp append_assoc

last_goes : (f : Finish) (r : List ℕ) → IsFinish f → Steps last_due (last_text f ++ r) [] r
last_goes f r h =
    moved (joined f r)
    (after (due (codes "finish ")) (Finish' ∷ due (codes "end\n")) (text_goes (codes "finish ") _)
    (after (Finish' ∷ []) (due (codes "end\n")) (finish_goes f _ h) (text_goes (codes "end\n") r)))
  where
    joined : (f : Finish) (r : List ℕ) → last_text f ++ r ≡ codes "finish " ++ (finish_line f ++ (codes "end\n" ++ r))
    joined f r = simp append_assoc

-- a run text goes through, whatever stands behind it
pub through : (p : List ℕ) (es : List Event) (rs : List Race) (f : Finish) → IsWithin p es rs f → (r : List ℕ) → Steps all_due (run_text p es rs f ++ r) [] r
through p es rs f w r =
    moved (sym (whole_is p es rs f r))
    (after program_due (history_due ++ (report_due ++ last_due))
    (counted_goes (codes "forder 1\nprogram ") kind.Bytes (length p) p _ w.short refl (bytes_go p _))
    (after history_due (report_due ++ last_due)
    (counted_goes (codes "\nentries ") kind.Entries (length es) (entry_lines 0 es) _ w.few refl (entries_go es 0 _ w.numbered))
    (after report_due last_due (counted_goes (codes "races ") kind.Races (length rs) (race_lines rs) _ w.few_races refl (races_go rs _ w.raced))
    (last_goes f r w.finished))))
