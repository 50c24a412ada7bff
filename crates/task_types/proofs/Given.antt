-- What an expression gives has its type.
use Rattle.std.proofs.Common.{◌≡◌, ℕ, zero, suc, ◌+◌, Bool, cond, List, [], ◌∷◌, inl, inr, refl, sym, subst, eqb-true}
use Rattle.std.specs.Prelude.{Some, None, Option, bytes_eq, nat_eq}
use Rattle.std.proofs.lemmas.List.{length-replicate}
use Rattle.fut_base.proofs.Cases.{by_bool}
use Rattle.fut_base.specs.declared.record.Value.{Value}
use Rattle.fut_base.specs.Dag.{Among}
use Rattle.fut_syntax.specs.Trees as tree
use Rattle.fut_rules.specs.declared.kind.Kind.{Kind}
use Rattle.fut_rules.specs.declared.kind.Kind.TheVariants as kind
use Rattle.fut_rules.specs.declared.kind.Need.{Need}
use Rattle.fut_rules.specs.declared.kind.Need.TheVariants as need
use Rattle.fut_rules.specs.declared.names.Variable.{Variable}
use Rattle.fut_rules.specs.Faults.{broken}
use Rattle.fut_rules.specs.Kinds.{plain, kind_of, argument_need, init_need, need_rule, unmet}
use Rattle.fut_rules.specs.Names.{kind_named}
use Rattle.fut_rules.specs.Exprs.{expr_kind, operand_kind, primary_kind, unknown, expr_faults, operand_faults, primary_faults, needed_faults}
use Rattle.task_machine.specs.Variables.{Slot, One, Many, Variables, slot_at, value_of, filled, slot_in, operand_in, primary_in}
use Rattle.task_types.specs.Typed.{Fits, HasKind}
use Rattle.task_types.proofs.Slots.{no_some, nil_left, nil_right, unbroken, word_is, all_replicate}

-- these variables hold what their types say
abbrev pub Holds : (ℕ → ℕ → Bool) → List Variable → Variables → Type 0
Holds gives vis vars = (x : Variable) → Among x vis → HasKind gives x.kind (slot_at vars x.name)

-- a variable of a name
pub record Named (vis : List Variable) (w : List ℕ) (k : Kind) : Type 0 where
  pub variable : Variable
  pub among : Among variable vis
  pub name : variable.name ≡ w
  pub kind : variable.kind ≡ k

pub named : (vis : List Variable) (w : List ℕ) (k : Kind) → kind_named vis w ≡ Some k → Named vis w k
named [] w k h = absurd (let e : None ≡ Some k = h in cc)
named (x ∷ xs) w k h =
    by_bool (λ b. cond b (Some x.kind) (kind_named xs w) ≡ Some k → (bytes_eq x.name w ≡ b) → Named (x ∷ xs) w k) (bytes_eq x.name w)
    (λ t. λ e i. record { variable = x; among = inl refl; name = word_is x.name w t; kind = let q : Some x.kind ≡ Some k = e in cc })
    (λ f. λ e i. (let n = named xs w k e in record { variable = n.variable; among = inr n.among; name = n.name; kind = n.kind }))
    h refl

pub named_holds : (gives : ℕ → ℕ → Bool) (vis : List Variable) (vars : Variables) (w : List ℕ) (k : Kind) → Holds gives vis vars → kind_named vis w ≡ Some k
    → HasKind gives k (slot_at vars w)
named_holds gives vis vars w k h e =
    let n = named vis w k e in
    subst (λ x. HasKind gives k (slot_at vars x)) n.name (subst (λ x. HasKind gives x (slot_at vars n.variable.name)) n.kind (h n.variable n.among))

-- an expression has a type, and what it gives is of it
abbrev pub IsGiven : (ℕ → ℕ → Bool) → Option Kind → Slot → Type 0
IsGiven gives given s = (k : Kind) × (given ≡ Some k) × HasKind gives k s

known_kind : (o : Option Kind) (n : ℕ) → broken (unknown o) n ≡ [] → (k : Kind) × (o ≡ Some k)
known_kind None n h = absurd (no_some _ _ refl (unbroken (unknown None) n h))
known_kind (Some k) n h = (k, refl)

mutual
  pub expr_given : (gives : ℕ → ℕ → Bool) (vis : List Variable) (vars : Variables) (n : ℕ) (e : tree.Expr) → Holds gives vis vars → expr_faults vis n e ≡ []
      → IsGiven gives (expr_kind vis e) (slot_in vars e)
  expr_given gives vis vars n (tree.Alone x) h f = operand_given gives vis vars n x h f
  expr_given gives vis vars n (tree.Pair x o y) h f = (kind.Int, refl, tt)

  pub operand_given : (gives : ℕ → ℕ → Bool) (vis : List Variable) (vars : Variables) (n : ℕ) (x : tree.Operand) → Holds gives vis vars
      → operand_faults vis n x ≡ [] → IsGiven gives (operand_kind vis x) (operand_in vars x)
  operand_given gives vis vars n (tree.Signed tree.NoSign p) h f = primary_given gives vis vars n p h f
  operand_given gives vis vars n (tree.Signed tree.Negative p) h f = (kind.Int, refl, tt)
  operand_given gives vis vars n (tree.Signed tree.Inverted p) h f = (kind.Int, refl, tt)

  pub primary_given : (gives : ℕ → ℕ → Bool) (vis : List Variable) (vars : Variables) (n : ℕ) (p : tree.Primary) → Holds gives vis vars
      → primary_faults vis n p ≡ [] → IsGiven gives (primary_kind vis p) (primary_in vars p)
  primary_given gives vis vars n (tree.Literal m) h f = (kind.Int, refl, tt)
  primary_given gives vis vars n (tree.Name w) h f =
      (let k = known_kind (kind_named vis w) n f in (k.0, k.1, named_holds gives vis vars w k.0 h k.1))
  primary_given gives vis vars n (tree.Bracket e) h f = expr_given gives vis vars (n + 1) e h f

-- ---- needs

pub fits_int : (gives : ℕ → ℕ → Bool) (k : Kind) (s : Slot) → need_rule need.Int k ≡ None → HasKind gives k s → Fits gives 0 (value_of s)
fits_int gives kind.Int (One v) r h = h
fits_int gives kind.Int (Many vs) r h = absurd h
fits_int gives (kind.Handle d) s r h = absurd (no_some _ _ refl r)
fits_int gives (kind.Array d n) s r h = absurd (no_some _ _ refl r)

eq_needed : {X : Type 0} (a b : ℕ) (x : X) (o : Option X) → cond (nat_eq a b) o (Some x) ≡ None → (a ≡ b) × (o ≡ None)
eq_needed {X} a b x o h =
    by_bool (λ c. cond c o (Some x) ≡ None → nat_eq a b ≡ c → (a ≡ b) × (o ≡ None)) (nat_eq a b)
    (λ t. λ e i. (eqb-true a b t, e))
    (λ f. λ e i. absurd (no_some x (Some x) refl e))
    h refl

pub fits_handle : (gives : ℕ → ℕ → Bool) (d : ℕ) (k : Kind) (s : Slot) → need_rule (need.Handle d) k ≡ None → HasKind gives k s
    → Fits gives (suc d) (value_of s)
fits_handle gives d kind.Int s r h = absurd (no_some _ _ refl r)
fits_handle gives d (kind.Handle e) (One v) r h = subst (λ x. Fits gives (suc x) v) (sym (eq_needed d e _ None r).0) h
fits_handle gives d (kind.Handle e) (Many vs) r h = absurd h
fits_handle gives d (kind.Array e m) s r h = absurd (no_some _ _ refl r)

pub fits_plain : (gives : ℕ → ℕ → Bool) (d : ℕ) (k : Kind) (s : Slot) → need_rule (argument_need (plain d)) k ≡ None → HasKind gives k s
    → Fits gives d (value_of s)
fits_plain gives zero k s r h = fits_int gives k s r h
fits_plain gives (suc d) k s r h = fits_handle gives d k s r h

-- the type of one element, or of a variable that is no array
abbrev pub inside : tree.VarType → ℕ
inside (tree.Plain d) = d
inside (tree.Array d n) = d

pub init_fits : (gives : ℕ → ℕ → Bool) (v : tree.VarType) (k : Kind) (s : Slot) → need_rule (init_need (kind_of v)) k ≡ None → HasKind gives k s
    → Fits gives (inside v) (value_of s)
init_fits gives (tree.Plain zero) k s r h = fits_int gives k s r h
init_fits gives (tree.Plain (suc d)) k s r h = fits_handle gives d k s r h
init_fits gives (tree.Array d n) k s r h = fits_plain gives d k s r h

pub filled_has : (gives : ℕ → ℕ → Bool) (v : tree.VarType) (value : Value) → Fits gives (inside v) value → HasKind gives (kind_of v) (filled v value)
filled_has gives (tree.Plain zero) value h = h
filled_has gives (tree.Plain (suc d)) value h = h
filled_has gives (tree.Array d n) value h = (length-replicate n value, all_replicate gives d n value h)

pub plain_has : (gives : ℕ → ℕ → Bool) (d : ℕ) (v : Value) → Fits gives d v → HasKind gives (plain d) (One v)
plain_has gives zero v h = h
plain_has gives (suc d) v h = h

-- an argument has its parameter's type
pub argument_has : (gives : ℕ → ℕ → Bool) (want k : Kind) (s : Slot) → need_rule (argument_need want) k ≡ None → HasKind gives k s → HasKind gives want s
argument_has gives kind.Int kind.Int s r h = h
argument_has gives kind.Int (kind.Handle e) s r h = absurd (no_some _ _ refl r)
argument_has gives kind.Int (kind.Array e m) s r h = absurd (no_some _ _ refl r)
argument_has gives (kind.Handle d) kind.Int s r h = absurd (no_some _ _ refl r)
argument_has gives (kind.Handle d) (kind.Handle e) s r h = subst (λ x. HasKind gives (kind.Handle x) s) (sym (eq_needed d e _ None r).0) h
argument_has gives (kind.Handle d) (kind.Array e m) s r h = absurd (no_some _ _ refl r)
argument_has gives (kind.Array d n) kind.Int s r h = absurd (no_some _ _ refl r)
argument_has gives (kind.Array d n) (kind.Handle e) s r h = absurd (no_some _ _ refl r)
argument_has gives (kind.Array d n) (kind.Array e m) s r h =
    let outer = eq_needed d e _ _ r in
    let inner = eq_needed n m _ None outer.1 in
    subst (λ x. HasKind gives (kind.Array d x) s) (sym inner.0) (subst (λ x. HasKind gives (kind.Array x m) s) (sym outer.0) h)

-- what stands in a place with a need has a type that meets it
pub record Meets (gives : ℕ → ℕ → Bool) (n : Need) (s : Slot) : Type 0 where
  pub kind : Kind
  pub rule : need_rule n kind ≡ None
  pub has : HasKind gives kind s

pub meets_of : (gives : ℕ → ℕ → Bool) (n : Need) (given : Option Kind) (s : Slot) (at : ℕ) → IsGiven gives given s → broken (unmet (Some n) given) at ≡ []
    → Meets gives n s
meets_of gives n given s at g f =
    record { kind = g.0; rule = subst (λ o. unmet (Some n) o ≡ None) g.1 (unbroken (unmet (Some n) given) at f); has = g.2 }

pub expr_meets : (gives : ℕ → ℕ → Bool) (vis : List Variable) (vars : Variables) (at : ℕ) (n : Need) (e : tree.Expr) → Holds gives vis vars
    → needed_faults vis at (Some n) e ≡ [] → Meets gives n (slot_in vars e)
expr_meets gives vis vars at n e h f =
    let here = nil_left (expr_faults vis at e) (broken (unmet (Some n) (expr_kind vis e)) at) f in
    meets_of gives n (expr_kind vis e) (slot_in vars e) at (expr_given gives vis vars at e h here)
    (nil_right (expr_faults vis at e) (broken (unmet (Some n) (expr_kind vis e)) at) f)
