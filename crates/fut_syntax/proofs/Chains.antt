-- How the steps of a part follow from those of its parts.
use Rattle.std.proofs.Common.{◌≡◌, ℕ, ◌+◌, Bool, true, false, List, [], ◌∷◌, ◌++◌, refl, sym, subst}
use Rattle.std.proofs.Common.{ap, ◌∙◌, append_assoc, length, cond, nat_le, ◌<◌, ◌-◌, ◌&&◌, arith}
use Rattle.std.specs.Prelude.{Option, Some}
use Rattle.std.proofs.lemmas.Bool.Decides.{nat_tests}
use Rattle.fut_tokens.specs.declared.token.Token.{Token}
use Rattle.fut_tokens.specs.declared.token.Token.TheVariants as t
use Rattle.fut_syntax.specs.declared.cursor.Stop.{Stop}
use Rattle.fut_syntax.specs.declared.cursor.Stop.TheVariants as stop
use Rattle.fut_syntax.specs.Faults.{is_full, open_by, opens, closes}
use Rattle.fut_syntax.specs.Machine.{Symbol, First, More, Params, ParamsTail, Type', Length, Word', Colon', Expr', ExprTail, Operand', Primary'}
use Rattle.fut_syntax.specs.Machine.{RightParen', InitTail, Init', Args, ArgsTail, then_due, Takes, Passes, rule, next, by_answer, run_on, run64}
use Rattle.fut_syntax.specs.Steps.{Steps, StepsAt, Stops, StopsBy, behind}
use Rattle.fut_syntax.specs.Trees.{Expr, Param}
use Rattle.fut_syntax.specs.Tokens.{expr_before, param_before}
use Rattle.fut_syntax.proofs.Longer.{expr_longer, param_longer}
use Rattle.fut_syntax.proofs.Splits as splits

-- the first that is due goes on
pub after : {s s' s'' : List Symbol} {b : Symbol} {d d' d'' : ℕ} {xs m ys : List Token} → Steps s d xs (b ∷ s') d' m → Steps (b ∷ []) d' m s'' d'' ys
    → Steps s d xs (s'' ++ s') d'' ys
after {s' = s'} {s'' = s''} {d'' = d''} {ys = ys} h g = record {
  goes = λ k. h.goes k ∙ g.goes (s' ++ k) ∙ sym (ap (λ (q : List Symbol). run64 q d'' ys) (append_assoc s'' s' k));
}

stops_by : (s s' : List Symbol) (b : Symbol) (d d' : ℕ) (xs m ys : List Token) → Steps s d xs (b ∷ s') d' m → (e : Stop) → StopsBy (b ∷ []) d' m ys e
    → StopsBy s d xs ys e
stops_by s s' b d d' xs m ys h stop.Fault g = record { stops = λ k. h.goes k ∙ g.stops (s' ++ k) }
stops_by s s' b d d' xs m ys h stop.NoMemory g = tt

-- the first that is due stops
pub stops_after : {s s' : List Symbol} {b : Symbol} {d d' : ℕ} {xs m ys : List Token} {e : Stop} → Steps s d xs (b ∷ s') d' m → Stops (b ∷ []) d' m ys e
    → Stops s d xs ys e
stops_after {s = s} {s' = s'} {b = b} {d = d} {d' = d'} {xs = xs} {m = m} {ys = ys} {e = e} h g = record { by = stops_by s s' b d d' xs m ys h e g.by }

pub no_memory : {s : List Symbol} {d : ℕ} {xs ys : List Token} {e : Stop} → e ≡ stop.NoMemory → Stops s d xs ys e
no_memory {s = s} {d = d} {xs = xs} {ys = ys} h = record { by = subst (λ (q : Stop). StopsBy s d xs ys q) (sym h) tt }

pub expr_opens : (d : ℕ) (xs : List Token) → Steps (Expr' ∷ []) d xs (Operand' ∷ ExprTail ∷ []) d xs
expr_opens d xs = record { goes = λ k. splits.expr_split is_full open_by k d xs }

room : (b : Bool) (x y : Option ℕ) → b ≡ false → cond b x y ≡ y
room true x y e = absurd (cc)
room false x y e = refl

-- A symbol takes the token in view: a plain one, an opening bracket, a closing one.
pub takes : (a : Symbol) (x : Token) (s : List Symbol) (d : ℕ) (xs ys : List Token) → rule a x ≡ Takes s → opens x ≡ false → closes x ≡ false → xs ≡ x ∷ ys
    → Steps (a ∷ []) d xs s d ys
takes a x s d xs ys e o c front = record {
  goes = λ k.
      ap (λ q. run64 (a ∷ k) d q) front
      ∙ ap (λ b. run_on (by_answer b k (next k x)) (is_full d x) (length ys) (λ q. run64 q (open_by x d) ys)) e
      ∙ room (is_full d x) (Some (length ys)) (run64 (s ++ k) (open_by x d) ys) (ap (λ b. b && nat_le 64 d) o)
      ∙ ap (λ (i : ℕ). run64 (s ++ k) i ys) (ap (λ b. cond b (d + 1) (cond (closes x) (d - 1) d)) o ∙ ap (λ b. cond b (d - 1) d) c);
}

pub takes_open : (a : Symbol) (x : Token) (s : List Symbol) (d inner : ℕ) (xs ys : List Token) → rule a x ≡ Takes s → opens x ≡ true → xs ≡ x ∷ behind xs
    → (d < 64) × (inner ≡ d + 1) × (ys ≡ behind xs) → Steps (a ∷ []) d xs s inner ys
takes_open a x s d inner xs ys e o front h = record {
  goes = λ k.
      let full : nat_le 64 d ≡ false = grind (arith, nat_tests) in
      ap (λ q. run64 (a ∷ k) d q) front
      ∙ ap (λ b. run_on (by_answer b k (next k x)) (is_full d x) (length (behind xs)) (λ q. run64 q (open_by x d) (behind xs))) e
      ∙ room (is_full d x) (Some (length (behind xs))) (run64 (s ++ k) (open_by x d) (behind xs)) (ap (λ b. b && nat_le 64 d) o ∙ full)
      ∙ ap (λ (i : ℕ). run64 (s ++ k) i (behind xs)) (ap (λ b. cond b (d + 1) (cond (closes x) (d - 1) d)) o ∙ sym h.1)
      ∙ ap (λ q. run64 (s ++ k) inner q) (sym h.2);
}

pub takes_close : (a : Symbol) (x : Token) (s : List Symbol) (d inner : ℕ) (xs ys : List Token) → rule a x ≡ Takes s → opens x ≡ false → closes x ≡ true
    → inner ≡ d + 1 → xs ≡ x ∷ ys → Steps (a ∷ []) inner xs s d ys
takes_close a x s d inner xs ys e o c same front = record {
  goes = λ k.
      let less : inner - 1 ≡ d = omega arith in
      ap (λ q. run64 (a ∷ k) inner q) front
      ∙ ap (λ b. run_on (by_answer b k (next k x)) (is_full inner x) (length ys) (λ q. run64 q (open_by x inner) ys)) e
      ∙ room (is_full inner x) (Some (length ys)) (run64 (s ++ k) (open_by x inner) ys) (ap (λ b. b && nat_le 64 inner) o)
      ∙ ap (λ (i : ℕ). run64 (s ++ k) i ys) (ap (λ b. cond b (inner + 1) (cond (closes x) (inner - 1) inner)) o ∙ ap (λ b. cond b (inner - 1) inner) c ∙ less);
}

-- a symbol that is nothing here
pub passes : (a : Symbol) (x : Token) (d : ℕ) (xs zs : List Token) → rule a x ≡ Passes → xs ≡ x ∷ zs → Steps (a ∷ []) d xs [] d xs
passes a x d xs zs e front = record {
  goes = λ k. ap (λ q. run64 (a ∷ k) d q) front ∙ splits.passes is_full open_by a k d x zs e ∙ ap (λ q. run64 k d q) (sym front);
}

pub bracket_opens : (d inner : ℕ) (xs ys : List Token) → xs ≡ t.LeftParen ∷ behind xs → (d < 64) × (inner ≡ d + 1) × (ys ≡ behind xs)
    → Steps (Primary' ∷ []) d xs (Expr' ∷ RightParen' ∷ []) inner ys
bracket_opens d inner xs ys e h = takes_open Primary' t.LeftParen (Expr' ∷ RightParen' ∷ []) d inner xs ys refl refl e h

init_tail_rule_as : (x : Token) → (x ≡ t.LeftSquare → ⊥) → rule InitTail x ≡ rule ExprTail x
init_tail_rule_as t.LeftSquare never = absurd (never refl)
init_tail_rule_as _ never = refl

-- after a word that no bracket follows an init goes on as an expression
pub init_tail_as : {s : List Symbol} {d d' : ℕ} {xs ys : List Token} (x : Token) → xs ≡ x ∷ behind xs → (x ≡ t.LeftSquare → ⊥)
    → Steps (ExprTail ∷ []) d xs s d' ys → Steps (InitTail ∷ []) d xs s d' ys
init_tail_as {s = s} {d = d} {d' = d'} {xs = xs} {ys = ys} x front never h = record {
  goes = λ k.
      ap (λ q. run64 (InitTail ∷ k) d q) front
      ∙ splits.same_next is_full open_by (InitTail ∷ k) (ExprTail ∷ k) d x (behind xs) (ap (λ b. by_answer b k (next k x)) (init_tail_rule_as x never))
      ∙ ap (λ q. run64 (ExprTail ∷ k) d q) (sym front) ∙ h.goes k;
}

pub stays : {s : List Symbol} {d : ℕ} {xs : List Token} → Steps s d xs s d xs
stays = record { goes = λ k. refl }

args_rule_as : (x : Token) → (x ≡ t.RightParen → ⊥) → rule Args x ≡ then_due (rule Expr' x) (ArgsTail ∷ [])
args_rule_as t.RightParen never = absurd (never refl)
args_rule_as _ never = refl

pub args_opens : {d : ℕ} {xs : List Token} (x : Token) → xs ≡ x ∷ behind xs → (x ≡ t.RightParen → ⊥) → Steps (Args ∷ []) d xs (Expr' ∷ ArgsTail ∷ []) d xs
args_opens {d = d} {xs = xs} x front never = record {
  goes = λ k.
      ap (λ q. run64 (Args ∷ k) d q) front
      ∙ splits.same_next is_full open_by (Args ∷ k) (Expr' ∷ ArgsTail ∷ k) d x (behind xs)
      (ap (λ b. by_answer b k (next k x)) (args_rule_as x never) ∙ splits.then_split (rule Expr' x) (ArgsTail ∷ []) k (next k x) (next (ArgsTail ∷ k) x)
      (splits.expr_firm x))
      ∙ ap (λ q. run64 (Expr' ∷ ArgsTail ∷ k) d q) (sym front);
}

init_rule_as : (x : Token) → (x ≡ t.Get → ⊥) → (x ≡ t.Create → ⊥) → ((w : List ℕ) → x ≡ t.Word w → ⊥) → rule Init' x ≡ rule Expr' x
init_rule_as t.Get get create word = absurd (get refl)
init_rule_as t.Create get create word = absurd (create refl)
init_rule_as (t.Word w) get create word = absurd (word w refl)
init_rule_as _ get create word = refl

pub init_opens : {d : ℕ} {xs : List Token} (x : Token) → xs ≡ x ∷ behind xs → (x ≡ t.Get → ⊥) → (x ≡ t.Create → ⊥) → ((w : List ℕ) → x ≡ t.Word w → ⊥)
    → Steps (Init' ∷ []) d xs (Expr' ∷ []) d xs
init_opens {d = d} {xs = xs} x front get create word = record {
  goes = λ k.
      ap (λ q. run64 (Init' ∷ k) d q) front
      ∙ splits.same_next is_full open_by (Init' ∷ k) (Expr' ∷ k) d x (behind xs) (ap (λ b. by_answer b k (next k x)) (init_rule_as x get create word))
      ∙ ap (λ q. run64 (Expr' ∷ k) d q) (sym front);
}

-- an expression and the token before it leave fewer tokens
pub fewer : (xs m ys : List Token) (x : Token) (e : Expr) → xs ≡ x ∷ behind xs → m ≡ behind xs → m ≡ expr_before e ys → length ys < length xs
fewer xs m ys x e front behind_is tokens =
    let a = expr_longer e ys in
    omega (arith, a, ap length front, ap length behind_is, ap length tokens)

pub onward : {s s' s'' : List Symbol} {d d' d'' : ℕ} {xs m ys : List Token} → Steps s d xs s' d' m → Steps s' d' m s'' d'' ys → Steps s d xs s'' d'' ys
onward h g = record { goes = λ k. h.goes k ∙ g.goes k }

pub seen : {xs : List Token} {x y : Token} → xs ≡ x ∷ behind xs → x ≡ y → xs ≡ y ∷ behind xs
seen {xs = xs} front same = front ∙ ap (λ (q : Token). q ∷ behind xs) same

-- a step at any count of open brackets
pub anywhere : {a : Symbol} {s : List Symbol} {d : ℕ} {xs ys : List Token} → StepsAt a xs s ys → Steps (a ∷ []) d xs s d ys
anywhere {d = d} h = record { goes = λ k. h.goes d k }

more_rule_as : (x : Token) → (x ≡ t.End → ⊥) → rule More x ≡ rule First x
more_rule_as t.End never = absurd (never refl)
more_rule_as _ never = refl

-- where no end token is in view an item is due
pub more_opens : {d : ℕ} {xs : List Token} (x : Token) → xs ≡ x ∷ behind xs → (x ≡ t.End → ⊥) → Steps (More ∷ []) d xs (First ∷ []) d xs
more_opens {d = d} {xs = xs} x front never = record {
  goes = λ k.
      ap (λ q. run64 (More ∷ k) d q) front
      ∙ splits.same_next is_full open_by (More ∷ k) (First ∷ k) d x (behind xs) (ap (λ b. by_answer b k (next k x)) (more_rule_as x never))
      ∙ ap (λ q. run64 (First ∷ k) d q) (sym front);
}

params_next : (x : Token) (k : List Symbol) → (x ≡ t.RightParen → ⊥) → next (Params ∷ k) x ≡ next (Word' ∷ Colon' ∷ Type' ∷ Length ∷ ParamsTail ∷ k) x
params_next t.RightParen k never = absurd (never refl)
params_next _ k never = refl

-- where no closing bracket is in view a parameter is due
pub params_opens : {d : ℕ} {xs : List Token} (x : Token) → xs ≡ x ∷ behind xs → (x ≡ t.RightParen → ⊥)
    → Steps (Params ∷ []) d xs (Word' ∷ Colon' ∷ Type' ∷ Length ∷ ParamsTail ∷ []) d xs
params_opens {d = d} {xs = xs} x front never = record {
  goes = λ k.
      ap (λ q. run64 (Params ∷ k) d q) front
      ∙ splits.same_next is_full open_by (Params ∷ k) (Word' ∷ Colon' ∷ Type' ∷ Length ∷ ParamsTail ∷ k) d x (behind xs) (params_next x k never)
      ∙ ap (λ q. run64 (Word' ∷ Colon' ∷ Type' ∷ Length ∷ ParamsTail ∷ k) d q) (sym front);
}

within_by : (p k s : List Symbol) (d d' : ℕ) (xs m ys : List Token) → Steps s d xs (p ++ k) d' m → (e : Stop) → StopsBy p d' m ys e → StopsBy s d xs ys e
within_by p k s d d' xs m ys h stop.Fault g = record { stops = λ r. h.goes r ∙ ap (λ (q : List Symbol). run64 q d' m) (append_assoc p k r) ∙ g.stops (k ++ r) }
within_by p k s d d' xs m ys h stop.NoMemory g = tt

-- a part of what is due stops
pub stops_within : (p k : List Symbol) {s : List Symbol} {d d' : ℕ} {xs m ys : List Token} {e : Stop} → Steps s d xs (p ++ k) d' m → Stops p d' m ys e
    → Stops s d xs ys e
stops_within p k {s = s} {d = d} {d' = d'} {xs = xs} {m = m} {ys = ys} {e = e} h g = record { by = within_by p k s d d' xs m ys h e g.by }

-- a parameter and the token before it leave fewer tokens
pub fewer_by_param : (xs m ys : List Token) (x : Token) (p : Param) → xs ≡ x ∷ behind xs → m ≡ behind xs → m ≡ param_before p ys → length ys < length xs
fewer_by_param xs m ys x p front behind_is tokens =
    let a = param_longer p ys in
    omega (arith, a, ap length front, ap length behind_is, ap length tokens)
