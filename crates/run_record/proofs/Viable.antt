-- What the machine goes through is the beginning of a run text.
use Rattle.std.proofs.Common.{◌≡◌, ℕ, zero, suc, ◌+◌, ◌-◌, ◌*◌, ◌<◌, ◌≤◌, ◌^◌, ◌⊎◌, inl, inr, ℤ, pos, negsuc, Bool, true}
use Rattle.std.proofs.Common.{false, cond, nat_eq, nat_lt, nat_le, ◌&&◌, List, [], ◌∷◌, ◌++◌, length, get_or, refl, sym}
use Rattle.std.proofs.Common.{ap, subst, ◌∙◌, append_assoc, append-nil, arith, decimal, codes, Option, Some, None}
use Rattle.std.specs.Fmt.{signed_decimal}
use Rattle.std.proofs.lemmas.Bool.Decides.{nat_tests}
use Rattle.std.proofs.lemmas.Fmt.{decimal_digit}
use Rattle.std.proofs.lemmas.Bool.{and_parts}
use Rattle.run_record.specs.declared.bounds.TheConstants.{MOST_ARGUMENTS}
use Rattle.fut_base.specs.declared.event.Event.{Event}
use Rattle.fut_base.specs.declared.event.Action.{Action}
use Rattle.fut_base.specs.declared.event.Action.TheVariants.{Reads, Writes, Spawns, Creates, Syncs, Gets, Ends}
use Rattle.fut_base.specs.declared.record.Value.{Value}
use Rattle.fut_base.specs.declared.record.Value.TheVariants.{Int, Fut}
use Rattle.fut_base.specs.declared.record.Race.{Race}
use Rattle.fut_base.specs.declared.record.Finish.TheVariants as finish
use Rattle.run_record.specs.declared.digits.Kind.{Kind}
use Rattle.run_record.specs.declared.digits.Kind.TheVariants as kind
use Rattle.run_record.specs.RunText.{value_text, values_line, call_line, action_line, entry_lines, race_lines, run_text}
use Rattle.run_record.specs.Records.{IsNumber, IsSigned, IsCall, IsAction, AreEvents, AreRaces, Begins}
use Rattle.run_record.specs.Machine.{Symbol, Byte, Any, Number, Digits, Unsigned, Signed, Datum, Arguments, Act', ActOfS, Finish', Answer, Takes}
use Rattle.run_record.specs.Machine.{Passes, Refuses, takes_if, due, word_due, numbered_due, access_due, call_due, get_due, end_due, bytes_due}
use Rattle.run_record.specs.Machine.{entries_due, races_due, all_due, bound, is_digit, is_more, behind_rule, digits_rule, number_rule, unsigned_rule}
use Rattle.run_record.specs.Machine.{signed_rule, datum_rule, arguments_rule, act_rule, act_of_s_rule, finish_rule, rule, by_answer, next, go_on, walk}
use Rattle.run_record.proofs.Numerals.{bound_small, bound_large, decimal_more}
use Rattle.run_record.proofs.Phrases.{IsCounted, Phrase, Phrases, split, word_phrase, split_word, split_number}
use Rattle.run_record.proofs.Phrases.{bytes_phrase, entries_phrase, races_phrase, whole_phrase}

-- a rule's answer makes phrases of the symbol
abbrev Builds : Symbol → ℕ → Answer → Type 0
Builds a x (Takes s) = (xs r : List ℕ) → Phrases s xs r → Phrase a (x ∷ xs) r
Builds a x Passes = (r : List ℕ) → Phrase a r r
Builds a x Refuses = Unit {0}

by_cond : (a : Symbol) (x : ℕ) (b : Bool) (p q : Answer) → (b ≡ true → Builds a x p) → (b ≡ false → Builds a x q) → Builds a x (cond b p q)
by_cond a x true p q f g = f refl
by_cond a x false p q f g = g refl

by_if : (a : Symbol) (x : ℕ) (b : Bool) (s : List Symbol) → (b ≡ true → Builds a x (Takes s)) → Builds a x (takes_if b s)
by_if a x b s f = by_cond a x b (Takes s) Refuses f (λ e. tt)

same_byte : (x b : ℕ) → nat_eq x b ≡ true → x ≡ b
same_byte x b e = grind (arith, nat_tests)

digit_low : (x : ℕ) → is_digit x ≡ true → 48 ≤ x
digit_low x e = grind (arith, nat_tests)

digit_high : (x : ℕ) → is_digit x ≡ true → x ≤ 57
digit_high x e = grind (arith, nat_tests)

low_is : (x : ℕ) → (nat_le 49 x && nat_le x 57) ≡ true → 49 ≤ x
low_is x e = grind (arith, nat_tests)

high_is : (x : ℕ) → (nat_le 49 x && nat_le x 57) ≡ true → x ≤ 57
high_is x e = grind (arith, nat_tests)

byte_builds : (b x : ℕ) → Builds (Byte b) x (rule (Byte b) x)
byte_builds b x = by_if (Byte b) x (nat_eq x b) [] (λ e xs r h. ap (λ q. x ∷ q) h ∙ ap (λ (c : ℕ). c ∷ r) (same_byte x b e))

any_builds : (x : ℕ) → Builds Any x (rule Any x)
any_builds x = λ xs r h. (x, ap (λ q. x ∷ q) h)

at_most : (k : Kind) (v n : ℕ) → v ≤ bound k → (n ≡ v) ⊎ (n ≤ bound k) → n ≤ bound k
at_most k v n small (inl e) = omega (arith, e)
at_most k v n small (inr h) = h

number_builds : (k : Kind) (x : ℕ) → Builds (Number k) x (number_rule k x)
number_builds k x = by_if (Number k) x (is_digit x) (Digits k (x - 48) ∷ []) (λ e xs r h.
    let d = h.1 in
    let low = digit_low x e in
    let high = digit_high x e in
    let large = bound_large k in
    let is : 48 + (x - 48) ≡ x = omega arith in
    let first : decimal (x - 48) ≡ x ∷ [] = decimal_digit (x - 48) (omega arith) ∙ ap (λ (b : ℕ). b ∷ []) is in
    let text : x ∷ d.0 ≡ decimal d.1 = ap (λ q. q ++ d.0) (sym first) ∙ d.3 in
    (d.1, d.2, at_most k (x - 48) d.1 (omega (arith, large)) d.4, ap (λ q. x ∷ q) d.5 ∙ ap (λ q. q ++ d.2) text, subst (λ q. IsCounted k d.1 d.2 q) h.2 d.6))

behind_builds : (k : Kind) (n x : ℕ) → Builds (Digits k n) x (behind_rule k n x)
behind_builds kind.Plain n x = λ r. ([], n, r, append-nil (decimal n), inl refl, refl, refl)
behind_builds kind.Positive n x = λ r. ([], n, r, append-nil (decimal n), inl refl, refl, refl)
behind_builds kind.Negative n x = λ r. ([], n, r, append-nil (decimal n), inl refl, refl, refl)
behind_builds kind.Bytes n x = by_if (Digits kind.Bytes n) x (nat_eq x 10) (bytes_due n) (λ e xs r h.
    let p = bytes_phrase n xs r h in
    ([], n, x ∷ xs, append-nil (decimal n), inl refl, refl, (p.0, p.1, ap (λ q. x ∷ q) p.2 ∙ ap (λ (b : ℕ). b ∷ (p.0 ++ r)) (same_byte x 10 e))))
behind_builds kind.Entries n x = by_if (Digits kind.Entries n) x (nat_eq x 10) (entries_due 0 n) (λ e xs r h.
    let es = entries_phrase n 0 xs r h in (
      [],
      n,
      x ∷ xs,
      append-nil (decimal n),
      inl refl,
      refl,
      (es.0, es.1, es.2, ap (λ q. x ∷ q) es.3 ∙ ap (λ (b : ℕ). b ∷ (entry_lines 0 es.0 ++ r)) (same_byte x 10 e)),
    ))
behind_builds kind.Races n x = by_if (Digits kind.Races n) x (nat_eq x 10) (races_due n) (λ e xs r h.
    let rs = races_phrase n xs r h in (
      [],
      n,
      x ∷ xs,
      append-nil (decimal n),
      inl refl,
      refl,
      (rs.0, rs.1, rs.2, ap (λ q. x ∷ q) rs.3 ∙ ap (λ (b : ℕ). b ∷ (race_lines rs.0 ++ r)) (same_byte x 10 e)),
    ))

digits_builds : (k : Kind) (n x : ℕ) → Builds (Digits k n) x (digits_rule k n x)
digits_builds k n x = by_cond (Digits k n) x (is_more k n x) (Takes (Digits k (n * 10 + (x - 48)) ∷ [])) (behind_rule k n x)
    (λ e xs r h.
    let one = and_parts (nat_lt 0 n) (is_digit x && nat_le (n * 10 + (x - 48)) (bound k)) e in
    let two = and_parts (is_digit x) (nat_le (n * 10 + (x - 48)) (bound k)) one.1 in
    let d = h.1 in
    let low = digit_low x two.0 in
    let high = digit_high x two.0 in
    let small = bound_small k in
    let some : 0 < n = grind (arith, nat_tests) in
    let fits : n * 10 + (x - 48) ≤ bound k = grind (arith, nat_tests) in
    let is : 48 + (x - 48) ≡ x = omega arith in
    let more : decimal (n * 10 + (x - 48)) ≡ decimal n ++ x ∷ [] =
    decimal_more n (x - 48) some (omega arith) (omega (arith, small, fits)) ∙ ap (λ (b : ℕ). decimal n ++ b ∷ []) is in (
      x ∷ d.0,
      d.1,
      d.2,
      sym (append_assoc (decimal n) (x ∷ []) d.0) ∙ ap (λ q. q ++ d.0) (sym more) ∙ d.3,
      inr (at_most k (n * 10 + (x - 48)) d.1 fits d.4),
      ap (λ q. x ∷ q) d.5,
      subst (λ q. IsCounted k d.1 d.2 q) h.2 d.6,
    ))
    (λ e. behind_builds k n x)

unsigned_builds : (x : ℕ) → Builds Unsigned x (unsigned_rule x)
unsigned_builds x = by_if Unsigned x (nat_le 49 x && nat_le x 57) (Digits kind.Negative (x - 48) ∷ []) (λ e xs r h. made x (low_is x e) (high_is x e) xs r h)
  where
    from : (n : ℕ) (ds m r : List ℕ) → 0 < n → n ≤ 9223372036854775808 → ds ≡ decimal n ++ m → m ≡ r → Phrase Unsigned ds r
    from zero ds m r some small e f = absurd (omega arith)
    from (suc n) ds m r some small e f = (n, omega arith, e ∙ ap (λ q. decimal (suc n) ++ q) f)

    positive : (n v : ℕ) (ds : List ℕ) → 0 < v → decimal v ++ ds ≡ decimal n → n < 2 ^ 64 → v ≤ 9 → 0 < n
    positive zero v ds some e small low =
        let whole : (48 + v) ∷ ds ≡ 48 ∷ [] = ap (λ q. q ++ ds) (sym (decimal_digit v (omega arith))) ∙ e ∙ decimal_digit 0 (omega arith) in
        let head : 48 + v ≡ 48 = ap (λ q. get_or q 0 0) whole in
        absurd (omega (arith, head))
    positive (suc n) v ds some e small low = omega arith

    made : (x : ℕ) → 49 ≤ x → x ≤ 57 → (xs r : List ℕ) → Phrases (Digits kind.Negative (x - 48) ∷ []) xs r → Phrase Unsigned (x ∷ xs) r
    made x low high xs r h =
        let d = h.1 in
        let is : 48 + (x - 48) ≡ x = omega arith in
        let first : decimal (x - 48) ≡ x ∷ [] = decimal_digit (x - 48) (omega arith) ∙ ap (λ (b : ℕ). b ∷ []) is in
        let text : x ∷ d.0 ≡ decimal d.1 = ap (λ q. q ++ d.0) (sym first) ∙ d.3 in
        let small = at_most kind.Negative (x - 48) d.1 (omega arith) d.4 in
        from d.1 (x ∷ xs) d.2 r (positive d.1 (x - 48) d.0 (omega arith) d.3 (omega (arith, small)) (omega arith)) small
        (ap (λ q. x ∷ q) d.5 ∙ ap (λ q. q ++ d.2) text) (d.6 ∙ h.2)

signed_builds : (x : ℕ) → Builds Signed x (signed_rule x)
signed_builds x = by_cond Signed x (nat_eq x 45) (Takes (Unsigned ∷ [])) (number_rule kind.Positive x)
    (λ e xs r h.
    (negsuc h.1.0, omega (arith, h.1.1), ap (λ (b : ℕ). b ∷ xs) (same_byte x 45 e) ∙ ap (λ q. 45 ∷ q) (h.1.2 ∙ ap (λ q. decimal (suc h.1.0) ++ q) h.2)))
    (λ e. lift (number_rule kind.Positive x) (number_builds kind.Positive x))
  where
    lift : (a : Answer) → Builds (Number kind.Positive) x a → Builds Signed x a
    lift (Takes s) g = λ xs r h. let n = g xs r h in let small = n.2 in (pos n.0, omega (arith, small), n.3 ∙ ap (λ q. decimal n.0 ++ q) n.4)
    lift Passes g = λ r. let n = g r in let small = n.2 in (pos n.0, omega (arith, small), n.3 ∙ ap (λ q. decimal n.0 ++ q) n.4)
    lift Refuses g = tt

datum_builds : (x : ℕ) → Builds Datum x (datum_rule x)
datum_builds x = by_cond Datum x (nat_eq x 102) (Takes (Number kind.Plain ∷ [])) (signed_rule x)
    (λ e xs r h.
    let n = h.1 in
    let small = n.2 in
    (Fut n.0, omega (arith, small), ap (λ (b : ℕ). b ∷ xs) (same_byte x 102 e) ∙ ap (λ q. 102 ∷ q) (n.3 ∙ ap (λ q. decimal n.0 ++ q) (n.4 ∙ h.2))))
    (λ e. lift (signed_rule x) (signed_builds x))
  where
    lift : (a : Answer) → Builds Signed x a → Builds Datum x a
    lift (Takes s) g = λ xs r h. let z = g xs r h in (Int z.0, z.1, z.2)
    lift Passes g = λ r. let z = g r in (Int z.0, z.1, z.2)
    lift Refuses g = tt

arguments_builds : (left x : ℕ) → Builds (Arguments left) x (arguments_rule left x)
arguments_builds left x = by_cond (Arguments left) x (nat_eq x 10) (Takes []) (takes_if (nat_eq x 32 && nat_lt 0 left) (Datum ∷ Arguments (left - 1) ∷ []))
    (λ e xs r h. ([], omega arith, tt, ap (λ q. x ∷ q) h ∙ ap (λ (b : ℕ). b ∷ r) (same_byte x 10 e)))
    (λ e. by_if (Arguments left) x (nat_eq x 32 && nat_lt 0 left) (Datum ∷ Arguments (left - 1) ∷ []) (λ e xs r h.
    let two = and_parts (nat_eq x 32) (nat_lt 0 left) e in
    let v = h.1 in
    let vs = h.2.1 in
    let some : 0 < left = grind (arith, nat_tests) in
    let few = vs.1 in (
      v.0 ∷ vs.0,
      omega (arith, some, few),
      (v.1, vs.2),
      ap (λ (b : ℕ). b ∷ xs) (same_byte x 32 two.0)
          ∙ ap (λ q. 32 ∷ q)
          (v.2 ∙ ap (λ q. value_text v.0 ++ q) (vs.3 ∙ ap (λ q. values_line vs.0 ++ q) h.2.2) ∙ sym (append_assoc (value_text v.0) (values_line vs.0) r)),
    )))

-- a read or a write behind its first letter
access_phrase : (w xs r : List ℕ) → Phrases (access_due w) xs r → (n : ℕ) × (z : ℤ) × IsNumber n × IsSigned z
    × (xs ≡ w ++ (decimal n ++ (codes " " ++ (signed_decimal z ++ (codes "\n" ++ r)))))
access_phrase w xs r h =
    let cell = split_number w (due (codes " ") ++ (Signed ∷ due (codes "\n"))) xs r h in
    let space = split_word (codes " ") (Signed ∷ due (codes "\n")) cell.1 r cell.4 in
    let z = space.2.1 in
    let end = word_phrase (codes "\n") space.2.0 r space.2.2 in
    (cell.0, z.0, cell.2, z.1, cell.3 ∙ ap (λ q. w ++ (decimal cell.0 ++ q)) (space.1 ∙ ap (λ q. codes " " ++ q) (z.2 ∙ ap (λ q. signed_decimal z.0 ++ q) end)))

record Called (w xs r : List ℕ) : Type 0 where
  code : ℕ
  child : ℕ
  kid : ℕ
  cont : ℕ
  args : List Value
  within : IsCall code child kid cont args
  text : xs ≡ (w ++ call_line code child kid cont args) ++ r

-- a spawn or a create behind its first letters
call_phrase : (w xs r : List ℕ) → Phrases (call_due w) xs r → Called w xs r
call_phrase w xs r h =
    let code = split_number w (word_due (codes " t") ++ (word_due (codes " s") ++ (word_due (codes " s") ++ (Arguments MOST_ARGUMENTS ∷ [])))) xs r h in
    let child = split_number (codes " t") (word_due (codes " s") ++ (word_due (codes " s") ++ (Arguments MOST_ARGUMENTS ∷ []))) code.1 r code.4 in
    let kid = split_number (codes " s") (word_due (codes " s") ++ (Arguments MOST_ARGUMENTS ∷ [])) child.1 r child.4 in
    let cont = split_number (codes " s") (Arguments MOST_ARGUMENTS ∷ []) kid.1 r kid.4 in
    let args = cont.4.1 in
    record {
      code = code.0;
      child = child.0;
      kid = kid.0;
      cont = cont.0;
      args = args.0;
      within = (code.2, child.2, kid.2, cont.2, args.1, args.2);
      text =
          code.3
          ∙ ap (λ q. w ++ (decimal code.0 ++ q))
          (child.3 ∙ ap (λ q. codes " t" ++ (decimal child.0 ++ q))
          (kid.3 ∙ ap (λ q. codes " s" ++ (decimal kid.0 ++ q))
          (cont.3 ∙ ap (λ q. codes " s" ++ (decimal cont.0 ++ q)) (args.3 ∙ ap (λ q. values_line args.0 ++ q) cont.4.2))))
          ∙ joined code.0 child.0 kid.0 cont.0 args.0;
    }
  where
    joined : (code child kid cont : ℕ) (args : List Value)
        → w ++ (decimal code ++ (codes " t" ++ (decimal child ++ (codes " s" ++ (decimal kid ++ (codes " s" ++ (decimal cont ++ (values_line args ++ r))))))))
        ≡ (w ++ call_line code child kid cont args) ++ r
    joined code child kid cont args = simp append_assoc

-- a number behind a word, to the end of the line
numbered_phrase : (w xs r : List ℕ) → Phrases (numbered_due w) xs r → (n : ℕ) × IsNumber n × (xs ≡ (w ++ (decimal n ++ codes "\n")) ++ r)
numbered_phrase w xs r h =
    let n = split_number w (due (codes "\n")) xs r h in
    let end = word_phrase (codes "\n") n.1 r n.4 in
    (n.0, n.2, n.3 ∙ ap (λ q. w ++ (decimal n.0 ++ q)) end ∙ joined n.0)
  where
    joined : (n : ℕ) → w ++ (decimal n ++ (codes "\n" ++ r)) ≡ (w ++ (decimal n ++ codes "\n")) ++ r
    joined n = simp append_assoc

get_phrase : (xs r : List ℕ) → Phrases get_due xs r → (a : Action) × IsAction a × (103 ∷ xs ≡ action_line a ++ r)
get_phrase xs r h =
    let future = split_number (codes "et f") (due (codes " ") ++ (Datum ∷ numbered_due (codes " s"))) xs r h in
    let space = split_word (codes " ") (Datum ∷ numbered_due (codes " s")) future.1 r future.4 in
    let v = space.2.1 in
    let strand = numbered_phrase (codes " s") space.2.0 r space.2.2 in (
      Gets future.0 v.0 strand.0,
      (future.2, v.1, strand.1),
      ap (λ q. 103 ∷ q)
          (future.3 ∙ ap (λ q. codes "et f" ++ (decimal future.0 ++ q)) (space.1 ∙ ap (λ q. codes " " ++ q) (v.2 ∙ ap (λ q. value_text v.0 ++ q) strand.2)))
          ∙ joined future.0 v.0 strand.0,
    )
  where
    joined : (f : ℕ) (v : Value) (s : ℕ) → codes "get f" ++ (decimal f ++ (codes " " ++ (value_text v ++ ((codes " s" ++ (decimal s ++ codes "\n")) ++ r))))
        ≡ action_line (Gets f v s) ++ r
    joined f v s = simp append_assoc

end_phrase : (xs r : List ℕ) → Phrases end_due xs r → (a : Action) × IsAction a × (101 ∷ xs ≡ action_line a ++ r)
end_phrase xs r h =
    let word = split_word (codes "nd ") (Datum ∷ due (codes "\n")) xs r h in
    let v = word.2.1 in
    let end = word_phrase (codes "\n") word.2.0 r word.2.2 in
    (Ends v.0, v.1, ap (λ q. 101 ∷ q) (word.1 ∙ ap (λ q. codes "nd " ++ q) (v.2 ∙ ap (λ q. value_text v.0 ++ q) end)) ∙ joined v.0)
  where
    joined : (v : Value) → codes "end " ++ (value_text v ++ (codes "\n" ++ r)) ≡ action_line (Ends v) ++ r
    joined v = simp append_assoc

act_of_s_builds : (x : ℕ) → Builds ActOfS x (act_of_s_rule x)
act_of_s_builds x = by_cond ActOfS x (nat_eq x 112) (Takes (call_due (codes "awn "))) (takes_if (nat_eq x 121) (numbered_due (codes "nc s")))
    (λ e xs r h.
    let c = call_phrase (codes "awn ") xs r h in
    (Spawns c.code c.child c.kid c.cont c.args, c.within, ap (λ (b : ℕ). 115 ∷ b ∷ xs) (same_byte x 112 e) ∙ ap (λ q. 115 ∷ 112 ∷ q) c.text))
    (λ e. by_if ActOfS x (nat_eq x 121) (numbered_due (codes "nc s")) (λ e xs r h.
    let n = numbered_phrase (codes "nc s") xs r h in
    (Syncs n.0, n.1, ap (λ (b : ℕ). 115 ∷ b ∷ xs) (same_byte x 121 e) ∙ ap (λ q. 115 ∷ 121 ∷ q) n.2)))

accessed : (w : List ℕ) (n : ℕ) (z : ℤ) (r : List ℕ) → w ++ (decimal n ++ (codes " " ++ (signed_decimal z ++ (codes "\n" ++ r))))
    ≡ (w ++ (decimal n ++ (codes " " ++ (signed_decimal z ++ codes "\n")))) ++ r
accessed w n z r = simp append_assoc

act_builds : (x : ℕ) → Builds Act' x (act_rule x)
act_builds x =
    by_cond Act' x (nat_eq x 114) _ _
    (λ e xs r h.
    let a = access_phrase (codes "ead ") xs r h in
    (Reads a.0 a.1, (a.2, a.3), ap (λ (b : ℕ). b ∷ xs) (same_byte x 114 e) ∙ ap (λ q. 114 ∷ q) (a.4 ∙ accessed (codes "ead ") a.0 a.1 r)))
    (λ e. by_cond Act' x (nat_eq x 119) _ _
    (λ e xs r h.
    let a = access_phrase (codes "rite ") xs r h in
    (Writes a.0 a.1, (a.2, a.3), ap (λ (b : ℕ). b ∷ xs) (same_byte x 119 e) ∙ ap (λ q. 119 ∷ q) (a.4 ∙ accessed (codes "rite ") a.0 a.1 r)))
    (λ e. by_cond Act' x (nat_eq x 115) _ _
    (λ e xs r h. let a = h.1 in (a.0, a.1, ap (λ (b : ℕ). b ∷ xs) (same_byte x 115 e) ∙ a.2 ∙ ap (λ q. action_line a.0 ++ q) h.2))
    (λ e. by_cond Act' x (nat_eq x 99) _ _
    (λ e xs r h.
    let c = call_phrase (codes "reate ") xs r h in
    (Creates c.code c.child c.kid c.cont c.args, c.within, ap (λ (b : ℕ). b ∷ xs) (same_byte x 99 e) ∙ ap (λ q. 99 ∷ q) c.text))
    (λ e. by_cond Act' x (nat_eq x 103) _ _
    (λ e xs r h. let a = get_phrase xs r h in (a.0, a.1, ap (λ (b : ℕ). b ∷ xs) (same_byte x 103 e) ∙ a.2))
    (λ e. by_if Act' x (nat_eq x 101) _ (λ e xs r h. let a = end_phrase xs r h in (a.0, a.1, ap (λ (b : ℕ). b ∷ xs) (same_byte x 101 e) ∙ a.2)))))))

finish_builds : (x : ℕ) → Builds Finish' x (finish_rule x)
finish_builds x =
    by_cond Finish' x (nat_eq x 119) _ _
    (λ e xs r h. (finish.Whole, tt, ap (λ (b : ℕ). b ∷ xs) (same_byte x 119 e) ∙ ap (λ q. 119 ∷ q) (word_phrase (codes "hole\n") xs r h)))
    (λ e. by_cond Finish' x (nat_eq x 101) _ _
    (λ e xs r h. let n = numbered_phrase (codes "vents ") xs r h in
    (finish.Events n.0, n.1, ap (λ (b : ℕ). b ∷ xs) (same_byte x 101 e) ∙ ap (λ q. 101 ∷ q) n.2))
    (λ e. by_cond Finish' x (nat_eq x 108) _ _
    (λ e xs r h. let n = numbered_phrase (codes "ocal ") xs r h in (finish.Local n.0, n.1, ap (λ (b : ℕ). b ∷ xs) (same_byte x 108 e) ∙ ap (λ q. 108 ∷ q) n.2))
    (λ e. by_if Finish' x (nat_eq x 102) _ (λ e xs r h.
    let n = numbered_phrase (codes "utures ") xs r h in
    (finish.Futures n.0, n.1, ap (λ (b : ℕ). b ∷ xs) (same_byte x 102 e) ∙ ap (λ q. 102 ∷ q) n.2)))))

builds : (a : Symbol) (x : ℕ) → Builds a x (rule a x)
builds (Byte b) x = byte_builds b x
builds Any x = any_builds x
builds (Number k) x = number_builds k x
builds (Digits k n) x = digits_builds k n x
builds Unsigned x = unsigned_builds x
builds Signed x = signed_builds x
builds Datum x = datum_builds x
builds (Arguments left) x = arguments_builds left x
builds Act' x = act_builds x
builds ActOfS x = act_of_s_builds x
builds Finish' x = finish_builds x

-- what is due after a byte makes what was due before it
abbrev StepsBack : List Symbol → ℕ → List Symbol → Type 0
StepsBack s x s' = (xs r : List ℕ) → Phrases s' xs r → Phrases s (x ∷ xs) r

answer_back : (a : Symbol) (k : List Symbol) (x : ℕ) (answer : Answer) (passed : Option (List Symbol)) → Builds a x answer
    → ((s' : List Symbol) → passed ≡ Some s' → StepsBack k x s') → (s' : List Symbol) → by_answer answer k passed ≡ Some s' → StepsBack (a ∷ k) x s'
answer_back a k x (Takes s) passed h ih s' e = λ xs r ph.
    let same : s' ≡ s ++ k = cc in
    let two = split s k xs r (subst (λ (q : List Symbol). Phrases q xs r) same ph) in
    (two.0, h xs two.0 two.1, two.2)
answer_back a k x Passes passed h ih s' e = λ xs r ph. (x ∷ xs, h (x ∷ xs), ih s' e xs r ph)
answer_back a k x Refuses passed h ih s' e = absurd (cc)

next_back : (s : List Symbol) (x : ℕ) (s' : List Symbol) → next s x ≡ Some s' → StepsBack s x s'
next_back [] x s' e = absurd (cc)
next_back (a ∷ k) x s' e = answer_back a k x (rule a x) (next k x) (builds a x) (next_back k x) s' e

pub walk_some : (xs : List ℕ) (o : Option (List Symbol)) (s' : List Symbol) → go_on o (λ s. walk s xs) ≡ Some s'
    → (m : List Symbol) × (o ≡ Some m) × (walk m xs ≡ Some s')
walk_some xs None s' e = absurd (cc)
walk_some xs (Some m) s' e = (m, refl, e)

-- what is due after some bytes completes them
pub walk_back : (xs : List ℕ) (s s' : List Symbol) → walk s xs ≡ Some s' → (ys r : List ℕ) → Phrases s' ys r → Phrases s (xs ++ ys) r
walk_back [] s s' e ys r h = let same : s ≡ s' = cc in subst (λ (q : List Symbol). Phrases q ys r) (sym same) h
walk_back (x ∷ xs) s s' e ys r h =
    let m = walk_some xs (next s x) s' e in
    next_back s x m.0 m.1 (xs ++ ys) r (walk_back xs m.0 s' m.2 ys r h)

-- some bytes, entries and races, as many as are asked for
bytes_of : (n : ℕ) → (p : List ℕ) × (length p ≡ n)
bytes_of zero = ([], refl)
bytes_of (suc n) = let p = bytes_of n in (0 ∷ p.0, ap suc p.1)

events_of : (n : ℕ) → (es : List Event) × (length es ≡ n) × AreEvents es
events_of zero = ([], refl, tt)
events_of (suc n) =
    let es = events_of n in
    let e : Event = record { task = 0; strand = 0; action = Syncs 0 } in
    (e ∷ es.0, ap suc es.1, ((omega arith, omega arith, omega arith), es.2))

races_of : (n : ℕ) → (rs : List Race) × (length rs ≡ n) × AreRaces rs
races_of zero = ([], refl, tt)
races_of (suc n) = let rs = races_of n in (record { cell = 0; first = 0; second = 0 } ∷ rs.0, ap suc rs.1, ((omega arith, omega arith, omega arith), rs.2))

some_counted : (k : Kind) (n : ℕ) (r : List ℕ) → (m : List ℕ) × IsCounted k n m r
some_counted kind.Plain n r = (r, refl)
some_counted kind.Positive n r = (r, refl)
some_counted kind.Negative n r = (r, refl)
some_counted kind.Bytes n r = let p = bytes_of n in (_, (p.0, p.1, refl))
some_counted kind.Entries n r = let es = events_of n in (_, (es.0, es.1, es.2, refl))
some_counted kind.Races n r = let rs = races_of n in (_, (rs.0, rs.1, rs.2, refl))

-- a phrase of each symbol
shortest : (a : Symbol) (r : List ℕ) → (c : List ℕ) × Phrase a c r
shortest (Byte b) r = (_, refl)
shortest Any r = (_, (0, refl))
shortest (Number k) r = let m = some_counted k 0 r in (_, (0, m.0, omega arith, refl, m.1))
shortest (Digits k n) r = let m = some_counted k n r in (_, ([], n, m.0, append-nil (decimal n), inl refl, refl, m.1))
shortest Unsigned r = (_, (0, omega arith, refl))
shortest Signed r = (_, (pos 0, omega arith, refl))
shortest Datum r = (_, (Int (pos 0), omega arith, refl))
shortest (Arguments left) r = (_, ([], omega arith, tt, refl))
shortest Act' r = (_, (Syncs 0, omega arith, refl))
shortest ActOfS r = (codes "ync s" ++ ((decimal 0 ++ codes "\n") ++ r), (Syncs 0, omega arith, refl))
shortest Finish' r = (_, (finish.Whole, tt, refl))

completion : (s : List Symbol) (r : List ℕ) → (c : List ℕ) × Phrases s c r
completion [] r = (r, refl)
completion (a ∷ k) r =
    let rest = completion k r in
    let front = shortest a rest.0 in
    (front.0, (rest.0, front.1, rest.1))

-- what the machine goes through is begun
pub begins : (xs : List ℕ) (s : List Symbol) → walk all_due xs ≡ Some s → Begins xs
begins xs s e =
    let c = completion s [] in
    let w = whole_phrase (xs ++ c.0) [] (walk_back xs all_due s e c.0 [] c.1) in
    (c.0, (w.0, w.1, w.2, w.3, record { within = w.4; text = w.5 ∙ append-nil (run_text w.0 w.1 w.2 w.3) }))
