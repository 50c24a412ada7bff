-- A token of a text is written as it stands there.
use Rattle.std.proofs.Common.{◌≡◌, ◌≢◌, ℕ, ◌<◌, ◌≤◌, Bool, true, false, List, [], ◌∷◌, length, get_or, refl, sym, ap, ◌∙◌, arith, rules, decimal}
use Rattle.std.specs.Prelude.{Option, Some, None, nat_eq, nat_le, ◌&&◌, if◌then◌else◌}
use Rattle.std.specs.Str.{bytes_eq}
use Rattle.std.proofs.lemmas.Bool.Decides.{nat_tests}
use Rattle.std.proofs.lemmas.Fmt.{decimal-digits_value}
use Rattle.std.proofs.lemmas.Slice.Eq.{bytes_eq-Decides}
use Rattle.std.proofs.lemmas.Str.Parse.{IsNumeralModel, numerals_by_fold}
use Rattle.std.proofs.lemmas.Bool.{and_parts, eqb-true}
use Rattle.fut_tokens.specs.declared.token.Token.{Token}
use Rattle.fut_tokens.specs.declared.token.Token.TheVariants as t
use Rattle.fut_tokens.specs.declared.kind.Mark.{Mark}
use Rattle.fut_tokens.specs.declared.kind.Mark.TheVariants.{Alone, Paired}
use Rattle.fut_tokens.specs.Cut.{keywords, symbols, keyword_of, mark_of, each, is_letter, is_blank, is_word, is_digit, word_or, word_token}
use Rattle.fut_tokens.specs.Cut.{has_leading_zero, value_from, number_token, Letter, Digit, Blank, Other, token_by, token_of}
use Rattle.fut_tokens.specs.Spelling.{spelling, IsReadable}
use Rattle.fut_tokens.proofs.Tables.{found}

abbrev is_spelled : List ℕ → Token → Bool
is_spelled bs x = bytes_eq (spelling x) bs

abbrev are_spelled : ℕ → Mark → Bool
are_spelled b (Alone x) = is_spelled (b ∷ []) x
are_spelled b (Paired x y) = is_spelled (b ∷ []) x && is_spelled (b ∷ 61 ∷ []) y

keyword_spelled : (w : List ℕ) (x : Token) → keyword_of w ≡ Some x → spelling x ≡ w
unfolding keyword_of
keyword_spelled w x e =
    let h = found is_spelled (bytes_eq w) keywords x refl e in
    (bytes_eq-Decides (spelling x) h.0).0 h.2 ∙ sym ((bytes_eq-Decides w h.0).0 h.1)

mark_spelled : (b : ℕ) (x : Mark) → mark_of b ≡ Some x → are_spelled b x ≡ true
unfolding mark_of
mark_spelled b x e =
    let h = found are_spelled (nat_eq b) symbols x refl e in
    ap (λ (q : ℕ). are_spelled q x) (eqb-true b h.0 h.1) ∙ h.2

spelled_is : (bs : List ℕ) (x : Token) → is_spelled bs x ≡ true → spelling x ≡ bs
spelled_is bs x h = (bytes_eq-Decides (spelling x) bs).0 h

plain_spelled : (b : Bool) (w : List ℕ) (x : Token) → (if b then t.Word w else t.Scrap) ≡ x → x ≢ t.Scrap → spelling x ≡ w
plain_spelled true w x e n = ap spelling (sym e)
plain_spelled false w x e n = absurd (n (sym e))

word_spelled : (w : List ℕ) (k : Option Token) (x : Token) → keyword_of w ≡ k → word_or k w ≡ x → x ≢ t.Scrap → spelling x ≡ w
word_spelled w (Some y) x e h n = ap spelling (sym h) ∙ keyword_spelled w y e
word_spelled w None x e h n = plain_spelled (nat_le (length w) 32) w x h n

own : IsNumeralModel (λ ds. each is_digit ds ≡ true) (value_from 0)
own = numerals_by_fold _ (search rules) value_from (search rules)

one_digit : (ds : List ℕ) → has_leading_zero ds ≡ false → get_or ds 0 0 ≡ 48 → 0 < length ds → length ds ≡ 1
one_digit [] h z some = absurd (omega arith)
one_digit (a ∷ []) h z some = refl
one_digit (a ∷ b ∷ ds) h z some = let t : false ≡ true = sym h ∙ ap (λ (q : ℕ). nat_eq q 48) z in absurd (cc)

decimal_is : (ds : List ℕ) → each is_digit ds ≡ true → 0 < length ds → has_leading_zero ds ≡ false → nat_le (value_from 0 ds) 9223372036854775807 ≡ true
    → decimal (value_from 0 ds) ≡ ds
decimal_is ds d some z small =
    let below : value_from 0 ds ≤ 9223372036854775807 = grind (arith, nat_tests) in
    decimal-digits_value own ds d some (λ h. one_digit ds z h some) (omega arith)

number_spelled : (zeros small : Bool) (ds : List ℕ) (x : Token) → each is_digit ds ≡ true → 0 < length ds → has_leading_zero ds ≡ zeros
    → nat_le (value_from 0 ds) 9223372036854775807 ≡ small → (if zeros then t.Scrap else (if small then t.Number (value_from 0 ds) else t.Scrap)) ≡ x
    → x ≢ t.Scrap → spelling x ≡ ds
number_spelled true small ds x d some z s e n = absurd (n (sym e))
number_spelled false true ds x d some z s e n = ap spelling (sym e) ∙ decimal_is ds d some z s
number_spelled false false ds x d some z s e n = absurd (n (sym e))

if_some : (b : Bool) (y x : Token) → (if b then Some y else None) ≡ Some x → (b ≡ true) × (y ≡ x)
if_some true y x e = (refl, cc)
if_some false y x e = absurd (cc)

by_mark : (b : ℕ) (bs : List ℕ) (m : Option Mark) (x : Token) → mark_of b ≡ m → token_by (Other m) b bs ≡ Some x → x ≢ t.Scrap → spelling x ≡ b ∷ bs
by_mark b [] None x e h n = absurd (n (cc))
by_mark b (c ∷ bs) None x e h n = absurd (cc)
by_mark b [] (Some (Alone y)) x e h n = let same : y ≡ x = cc in ap spelling (sym same) ∙ spelled_is (b ∷ []) y (mark_spelled b (Alone y) e)
by_mark b (c ∷ bs) (Some (Alone y)) x e h n = absurd (cc)
by_mark b [] (Some (Paired y z)) x e h n = let same : y ≡ x =
    cc in ap spelling (sym same) ∙ spelled_is (b ∷ []) y ((and_parts (is_spelled (b ∷ []) y) (is_spelled (b ∷ 61 ∷ []) z) (mark_spelled b (Paired y z) e)).0)
by_mark b (c ∷ []) (Some (Paired y z)) x e h n =
    let k = if_some (nat_eq c 61) z x h in
    ap spelling (sym k.1)
    ∙ spelled_is (b ∷ 61 ∷ []) z ((and_parts (is_spelled (b ∷ []) y) (is_spelled (b ∷ 61 ∷ []) z) (mark_spelled b (Paired y z) e)).1)
    ∙ ap (λ (q : ℕ). b ∷ q ∷ []) (sym (eqb-true c 61 k.0))
by_mark b (c ∷ d ∷ bs) (Some (Paired y z)) x e h n = absurd (cc)

by_class : (l d k : Bool) (b : ℕ) (bs : List ℕ) (x : Token) → is_digit b ≡ d
    → token_by (if l then Letter else (if d then Digit else (if k then Blank else Other (mark_of b)))) b bs ≡ Some x → x ≢ t.Scrap → spelling x ≡ b ∷ bs
by_class true d k b bs x e h n = word_spelled (b ∷ bs) (keyword_of (b ∷ bs)) x refl (if_some (each is_word bs) (word_token (b ∷ bs)) x h).1 n
by_class false true k b bs x e h n =
    let m = if_some (each is_digit bs) (number_token (b ∷ bs)) x h in
    number_spelled (has_leading_zero (b ∷ bs)) (nat_le (value_from 0 (b ∷ bs)) 9223372036854775807) (b ∷ bs) x (ap (λ q. q && each is_digit bs) e ∙ m.0)
    (omega arith) refl refl m.1 n
by_class false false true b bs x e h n = absurd (cc)
by_class false false false b bs x e h n = by_mark b bs (mark_of b) x refl h n

-- a token is written as its bytes
pub spelled : (bs : List ℕ) (x : Token) → token_of bs ≡ Some x → x ≢ t.Scrap → spelling x ≡ bs
spelled [] x h n = absurd (cc)
spelled (b ∷ bs) x h n = by_class (is_letter b) (is_digit b) (is_blank b) b bs x refl h n

pub readable : (bs : List ℕ) (x : Token) → token_of bs ≡ Some x → x ≢ t.Scrap → IsReadable x
readable bs x h n = record { reads = ap token_of (spelled bs x h n) ∙ h }
