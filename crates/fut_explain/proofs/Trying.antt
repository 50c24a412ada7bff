-- Whether a token can come behind others, by what the parser answers where it does.
use Rattle.std.proofs.Common.{◌≡◌, ℕ, Bool, cond, ◌-◌, drop, get_or, Vec, Global, true, false}
use Rattle.std.proofs.Common.{◌+◌, ◌<◌, inl, inr, List, [], ◌∷◌, ◌++◌, refl, sym, ap, subst, ◌∙◌, append_assoc, length, length-append, take, nat_lt, arith}
use Rattle.std.specs.Prelude.{Option, Some, None, Result, Ok, Err, IfOk}
use Rattle.std.proofs.lemmas.List.{append-nil, drop_more}
use Rattle.std.proofs.lemmas.Bool.{ltb-true, ltb-false}
use Rattle.fut_tokens.specs.declared.token.Token.{Token}
use Rattle.fut_tokens.specs.declared.token.Position.{Position}
use Rattle.fut_tokens.specs.Lexed.{IsTokensOf}
use Rattle.fut_tokens.proofs.Cuts.{tokens_once}
use Rattle.fut_syntax.proofs.Whole.{no_fault, fault_once}
use Rattle.fut_syntax.specs.Trees.{Program}
use Rattle.fut_syntax.specs.Faults.{IsBad, IsGood, IsFault, IsWhole}
use Rattle.fut_explain.specs.declared.kind.Kind.{Kind}
use Rattle.fut_explain.specs.Kinds.{all_kinds, kind_token, behind_kind}
use Rattle.fut_explain.specs.Standing.{IsBehind, Tells, TellsAll, AreGood, AreStanding, IsTried}
use Rattle.fut_explain.proofs.Cutting.{Cut, Later, Same, Earlier, cuts, take_front}
use Rattle.fut_explain.proofs.Kinding.{behind_simple}

-- a token is not good and bad
pub not_both : (before : List Token) (x : Token) → IsGood before x → IsBad before x → ⊥
not_both before x good (inl none) = none (good.0.0, good.0.1, good.0.2)
not_both before x good (inr full) = absurd (cc)

pub whole_good : (before : List Token) (k : Kind) (p : Program) → IsWhole (before ++ kind_token k ∷ behind_kind k) p → Tells before k true
whole_good before k p whole = (
  (p, behind_kind k, whole.0 ∙ sym (append_assoc before (kind_token k ∷ []) (behind_kind k)), behind_simple k),
  whole.1 before (kind_token k) (behind_kind k) refl,
)

by_cut : (before : List Token) (k : Kind) (left : ℕ) → AreGood before → (f : IsFault (before ++ kind_token k ∷ behind_kind k) left)
    → Cut before (kind_token k) (behind_kind k) f.before f.token f.behind → (b : Bool) → nat_lt left (length (behind_kind k)) ≡ b → Tells before k b
by_cut before k left good f (Later more e g) true t = f.good before (kind_token k) more e
by_cut before k left good f (Later more e g) false t =
    absurd (omega (arith, ltb-false left (length (behind_kind k)) t, f.left_is, ap length g ∙ length-append more (f.token ∷ f.behind)))
by_cut before k left good f (Same e g h) true t = absurd (omega (arith, ltb-true left (length (behind_kind k)) t, f.left_is, ap length h))
by_cut before k left good f (Same e g h) false t =
    subst (λ (xs : List Token). IsBad xs (kind_token k)) (sym e) (subst (λ (x : Token). IsBad f.before x) (sym g) f.bad)
by_cut before k left good f (Earlier more e g) b t = absurd (not_both f.before f.token (good f.before f.token more e) f.bad)

pub fault_tells : (before : List Token) (k : Kind) (left : ℕ) → AreGood before → IsFault (before ++ kind_token k ∷ behind_kind k) left
    → Tells before k (nat_lt left (length (behind_kind k)))
fault_tells before k left good f =
    by_cut before k left good f (cuts before (kind_token k) (behind_kind k) f.before f.token f.behind f.whole) (nat_lt left (length (behind_kind k))) refl

-- the tokens before the fault are the first of the text
pub front_is : (text : List ℕ) (at : ℕ) (before tokens : List Token) (places : List Position) → IsBehind text at before → IsTokensOf text tokens places
    → (take at tokens ≡ before) × (at < length tokens)
front_is text at before tokens places h cut =
    let same = (tokens_once text tokens h.tokens places h.places cut h.cut).0 in
    let whole : tokens ≡ before ++ h.fault.token ∷ h.fault.behind = same ∙ (h.fault.whole ∙ ap (λ l. l ++ h.fault.token ∷ h.fault.behind) (sym h.are)) in (
      ap (λ l. take at l) whole ∙ (ap (λ n. take n (before ++ h.fault.token ∷ h.fault.behind)) h.count ∙ take_front before (h.fault.token ∷ h.fault.behind)),
      omega (arith, h.count, ap length whole ∙ length-append before (h.fault.token ∷ h.fault.behind)),
    )

pub all_good : (text : List ℕ) (at : ℕ) (before : List Token) → IsBehind text at before → AreGood before
all_good text at before h a x b e = h.fault.good a x b (sym h.are ∙ e)

-- the same, where the first tokens of the text stand before
pub tried_is : (text : List ℕ) (at : ℕ) (before tokens : List Token) (places : List Position) (k : Kind) (front : List Token) → IsBehind text at before
    → IsTokensOf text tokens places → front ≡ take at tokens ++ kind_token k ∷ behind_kind k → front ≡ before ++ kind_token k ∷ behind_kind k
tried_is text at before tokens places k front h cut e =
    e ∙ ap (λ l. l ++ kind_token k ∷ behind_kind k) (front_is text at before tokens places h cut).0

pub whole_tells : (k : Kind) (front : List Token) (p : Program) → IsWhole front p → TellsAll front k true
whole_tells k front p whole before good e = whole_good before k p (subst (λ l. IsWhole l p) e whole)

pub stop_tells : (k : Kind) (front : List Token) (left : ℕ) (b : Bool) → IsFault front left → b ≡ nat_lt left (length (behind_kind k)) → TellsAll front k b
stop_tells k front left b fault is before good e =
    subst (λ b. Tells before k b) (sym is) (fault_tells before k left good (subst (λ l. IsFault l left) e fault))

pub short_tells : (text : List ℕ) (at : ℕ) (k : Kind) (o : Option (Vec Token Global)) (before : List Token) → o ≡ None → IsTried text at k o
    → IsBehind text at before → ⊥
short_tells text at k None before e h b = absurd (omega (arith, (front_is text at before h.0 h.1 b h.2).1, h.3))
short_tells text at k (Some front) before e h b = absurd (cc)

pub front_tells : (text : List ℕ) (at : ℕ) (k : Kind) (front before : List Token) (tokens : List Token) (places : List Position) (b : Bool)
    → IsTokensOf text tokens places → front ≡ take at tokens ++ kind_token k ∷ behind_kind k → TellsAll front k b → IsBehind text at before → Tells before k b
front_tells text at k front before tokens places b cut is told h =
    told before (all_good text at before h) (tried_is text at before tokens places k front h cut is)

pub some_tells : {E : Type 0} (text : List ℕ) (at : ℕ) (k : Kind) (o : Option (Vec Token Global)) (front : Vec Token Global) (r : Result Bool E)
    → o ≡ Some front
    → IsTried text at k o → IfOk r (TellsAll front.items k) → IfOk r (λ b. (before : List Token) → IsBehind text at before → Tells before k b)
some_tells text at k o front (Ok b) e h told =
    let t = subst (λ o. IsTried text at k o) e h in
    λ before is. front_tells text at k front.items before t.1.0 t.1.1 b t.1.2 t.1.4 told is
some_tells text at k o front (Err x) e h told = tt

-- the kinds found so far, and whatever is found of the rest
pub record IsSought (before : List Token) (all rest found : List Kind) : Type 0 where
  pub goes : (more : List Kind) → AreStanding before rest more → AreStanding before all (found ++ more)

pub sought_none : (before : List Token) (all : List Kind) → IsSought before all all []
sought_none before all = record { goes = λ more h. h }

pub sought_good : (before : List Token) (all rest found : List Kind) (k : Kind) → IsSought before all (k ∷ rest) found → Tells before k true
    → IsSought before all rest (found ++ k ∷ [])
sought_good before all rest found k h good = record {
  goes = λ more s. subst (λ l. AreStanding before all l) (sym (append_assoc found (k ∷ []) more)) (h.goes (k ∷ more) (inl (more, refl, good, s)));
}

pub sought_bad : (before : List Token) (all rest found : List Kind) (k : Kind) → IsSought before all (k ∷ rest) found → Tells before k false
    → IsSought before all rest found
sought_bad before all rest found k h bad = record { goes = λ more s. h.goes more (inr (bad, s)) }

pub sought_next : (before : List Token) (all rest found : List Kind) (k : Kind) (b : Bool) → IsSought before all (k ∷ rest) found → Tells before k b
    → IsSought before all rest (found ++ cond b (k ∷ []) [])
sought_next before all rest found k true h good = sought_good before all rest found k h good
sought_next before all rest found k false h bad = subst (λ l. IsSought before all rest l) (sym (append-nil found)) (sought_bad before all rest found k h bad)

pub sought_step : (before : List Token) (all found next : List Kind) (i : ℕ) (d : Kind) (b : Bool) → i < length all
    → next ≡ found ++ cond b (get_or all i d ∷ []) [] → IsSought before all (drop i all) found → Tells before (get_or all i d) b
    → IsSought before all (drop (i + 1) all) next
sought_step before all found next i d b less new h told =
    subst (λ l. IsSought before all (drop (i + 1) all) l) (sym new)
    (sought_next before all (drop (i + 1) all) found (get_or all i d) b (subst (λ l. IsSought before all l found) (drop_more all i d less) h) told)

pub sought_all : (before : List Token) (all found : List Kind) → IsSought before all [] found → AreStanding before all found
sought_all before all found h = subst (λ l. AreStanding before all l) (append-nil found) (h.goes [] refl)

-- a text whose tokens are those of a program has no fault
pub whole_none : (text : List ℕ) (at : ℕ) (before tokens : List Token) (places : List Position) (p : Program) → IsTokensOf text tokens places → IsWhole tokens p
    → IsBehind text at before → ⊥
whole_none text at before tokens places p cut whole h =
    no_fault tokens p h.left whole (subst (λ l. IsFault l h.left) ((tokens_once text h.tokens tokens h.places places h.cut cut).0) h.fault)

-- so many tokens stand before the fault behind which so many stand
pub place_is : (text : List ℕ) (before tokens : List Token) (places : List Position) (left n : ℕ) → IsTokensOf text tokens places → IsFault tokens left
    → n ≡ length tokens → IsBehind text (length before) before → IsBehind text (n - 1 - left) before
place_is text before tokens places left n cut fault count h =
    let same = (tokens_once text h.tokens tokens h.places places h.cut cut).0 in
    let once : h.left ≡ left = fault_once tokens h.left left (subst (λ l. IsFault l h.left) same h.fault) fault in
    let size = ap length (sym same ∙ h.fault.whole) ∙ length-append h.fault.before (h.fault.token ∷ h.fault.behind) in
    record {
      tokens = h.tokens;
      places = h.places;
      left = h.left;
      cut = h.cut;
      fault = h.fault;
      are = h.are;
      count = omega (arith, once, size, count, h.fault.left_is, ap length h.are);
    }

-- whatever the fault of a text stands behind, these are the kinds that can stand there
abbrev pub AreExpected : List ℕ → Vec Kind Global → Type 0
AreExpected text found = (before : List Token) → IsBehind text (length before) before → AreStanding before all_kinds found.items

pub expected_whole : {E : Type 0} (text : List ℕ) (tokens : List Token) (places : List Position) (p : Program) (r : Result (Vec Kind Global) E)
    → IsTokensOf text tokens places → IsWhole tokens p → IfOk r (AreExpected text)
expected_whole text tokens places p (Ok found) cut whole = λ before h. absurd (whole_none text (length before) before tokens places p cut whole h)
expected_whole text tokens places p (Err e) cut whole = tt

pub expected_fault : {E : Type 0} (text : List ℕ) (tokens : List Token) (places : List Position) (left n : ℕ) (all : List Kind) (r : Result (Vec Kind Global) E)
    → IsTokensOf text tokens places → IsFault tokens left → n ≡ length tokens → all ≡ all_kinds
    → IfOk r (λ found. (before : List Token) → IsBehind text (n - 1 - left) before → AreStanding before all found.items) → IfOk r (AreExpected text)
expected_fault text tokens places left n all (Ok found) cut fault count is h =
    λ before b. subst (λ l. AreStanding before l found.items) is (h before (place_is text before tokens places left n cut fault count b))
expected_fault text tokens places left n all (Err e) cut fault count is h = tt
