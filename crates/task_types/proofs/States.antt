-- Variables of a typed state, and what local steps make of it.
use Rattle.std.proofs.Common.{◌≡◌, ◌≢◌, ℕ, zero, suc, ◌+◌, ◌-◌, ◌%◌, ◌<◌, Bool, true, false, cond, List, [], ◌∷◌, ◌++◌, append_assoc}
use Rattle.std.proofs.Common.{append-nil, length, length-set, mod-lt, ◌⊎◌, inl, inr, refl, sym, ap, ◌∙◌, subst, arith}
use Rattle.std.specs.Prelude.{Some, None, Option, bytes_eq, ℤ, pos, negsuc, slice_index_or}
use Rattle.std.proofs.lemmas.Bool.{both_ways}
use Rattle.fut_base.proofs.Members.{among_split, among_left, among_right}
use Rattle.fut_base.proofs.Cases.{by_bool}
use Rattle.fut_base.specs.declared.record.Value.{Value}
use Rattle.fut_base.specs.declared.record.Value.TheVariants.{Int}
use Rattle.fut_base.specs.Dag.{Among}
use Rattle.fut_syntax.specs.Trees as tree
use Rattle.fut_rules.specs.declared.kind.Kind.{Kind}
use Rattle.fut_rules.specs.declared.kind.Kind.TheVariants as kind
use Rattle.fut_rules.specs.declared.names.Variable.{Variable}
use Rattle.fut_rules.specs.Faults.{broken}
use Rattle.fut_rules.specs.Kinds.{kind_of, plain, init_need, unmet}
use Rattle.fut_rules.specs.Names.{Scope, declares, declaration, means_cells, kind_named, variable, element, element_rule}
use Rattle.fut_rules.specs.Inits.{init_kind, inner_faults, init_faults}
use Rattle.fut_check.specs.Stmts.{assigned_rule, value_need, shown, is_return}
use Rattle.fut_check.specs.Items.{items_of}
use Rattle.task_machine.specs.Values.{index_of}
use Rattle.task_machine.specs.Variables.{Slot, One, Many, Variables, slot_at, put, value_of, filled, refilled}
use Rattle.task_machine.specs.State.{TaskState}
use Rattle.task_types.specs.Typed.{Text, variables_of, Fits, AllFit, HasKind, AllAmong, BreaksNoRule, AllBreakNone, EndsWithReturn, IsTypedState}
use Rattle.task_types.proofs.Slots.{no_some, nil_right, unbroken, word_is, slot_put_same, slot_put_other, all_at}
use Rattle.task_types.proofs.Given.{Holds, named_holds, IsGiven, inside, init_fits, filled_has, meets_of}
use Rattle.task_types.proofs.Texts.{AreApart}

-- the variables of a task hold what their types say, and none has a global name
pub record Keeps (gives : ℕ → ℕ → Bool) (globals : List tree.Item) (t : Text) (known : List Variable) (vars : Variables) : Type 0 where
  pub declared : AllAmong known (variables_of t)
  pub holds : Holds gives known vars
  pub globals_are : (w : List ℕ) → declares globals w ≡ true → slot_at vars w ≡ One (Int (pos 0))

pub kept : (gives : ℕ → ℕ → Bool) (P : tree.Program) (which : ℕ) (s : TaskState) → (x : IsTypedState gives P which s)
    → Keeps gives (items_of P) x.text x.known s.vars
kept gives P which s x = record { declared = x.declared; holds = x.holds; globals_are = x.globals }

-- one variable is set
pub set_one : (gives : ℕ → ℕ → Bool) (globals : List tree.Item) (t : Text) (known : List Variable) (vars : Variables) (x : Variable) (s : Slot)
    → AreApart globals (variables_of t) → Keeps gives globals t known vars → Among x (variables_of t) → HasKind gives x.kind s
    → Keeps gives globals t (known ++ x ∷ []) (put vars x.name s)
set_one gives globals t known vars x s a k i h =
    let own : HasKind gives x.kind (slot_at (put vars x.name s) x.name) = subst (HasKind gives x.kind) (sym (slot_put_same vars x.name s)) h in
    record {
      declared = λ y j. elim (among_split y known (x ∷ []) j) [
        | inl l ↦ k.declared y l
        | inr r ↦ elim r [ inl e ↦ subst (λ (q : Variable). Among q (variables_of t)) e i | inr none ↦ absurd none ]
      ];
      holds = λ y j. elim (among_split y known (x ∷ []) j) [
        | inl l ↦ by_bool (λ b. bytes_eq x.name y.name ≡ b → HasKind gives y.kind (slot_at (put vars x.name s) y.name)) (bytes_eq x.name y.name)
            (λ tr. λ e. subst (λ (q : Variable). HasKind gives q.kind (slot_at (put vars x.name s) q.name))
            (a.one x y i (k.declared y l) (word_is x.name y.name tr)) own)
            (λ f. λ e. subst (HasKind gives y.kind) (sym (slot_put_other vars x.name s y.name f)) (k.holds y l)) refl
        | inr r ↦ elim r [ inl e ↦ subst (λ (q : Variable). HasKind gives q.kind (slot_at (put vars x.name s) q.name)) e own | inr none ↦ absurd none ]
      ];
      globals_are = λ w d. (
          let other : bytes_eq x.name w ≡ false =
          by_bool (λ b. bytes_eq x.name w ≡ b → b ≡ false) (bytes_eq x.name w)
          (λ tr. λ e. absurd (both_ways (declares globals w) (subst (λ n. declares globals n ≡ false) (word_is x.name w tr) (a.local x i)) d))
          (λ f. λ e. refl) refl
          in
          slot_put_other vars x.name s w other ∙ k.globals_are w d);
    }

-- fewer variables are known
pub fewer : (gives : ℕ → ℕ → Bool) (globals : List tree.Item) (t : Text) (more known : List Variable) (vars : Variables) → AllAmong known more
    → Keeps gives globals t more vars → Keeps gives globals t known vars
fewer gives globals t more known vars a k = record { declared = λ x i. k.declared x (a x i); holds = λ x i. k.holds x (a x i); globals_are = k.globals_are }

-- ---- what is left to do

pub breaks_weak : (globals : List tree.Item) (t : Text) (known more : List Variable) (s : tree.Stmt) → AllAmong known more → BreaksNoRule globals t known s
    → BreaksNoRule globals t more s
breaks_weak globals t known more s a b =
    record { scope = b.scope; at = b.at; returns = b.returns; visible = λ x i. a x (b.visible x i); declared = b.declared; clean = b.clean }

both_grow : (known more xs : List Variable) → AllAmong known more → AllAmong (known ++ xs) (more ++ xs)
both_grow known more xs a x i = elim (among_split x known xs i) [ inl l ↦ among_left x more xs (a x l) | inr r ↦ among_right x more xs r ]

pub all_weak : (globals : List tree.Item) (t : Text) (known more : List Variable) (todo : List tree.Stmt) → AllAmong known more
    → AllBreakNone globals t known todo → AllBreakNone globals t more todo
all_weak globals t known more [] a h = tt
all_weak globals t known more (s ∷ rest) a h =
    (breaks_weak globals t known more s a h.0, all_weak globals t (known ++ shown s) (more ++ shown s) rest (both_grow known more (shown s) a) h.1)

pub all_append : (globals : List tree.Item) (t : Text) (known : List Variable) (xs ys : List tree.Stmt) → AllBreakNone globals t known xs
    → AllBreakNone globals t known ys → AllBreakNone globals t known (xs ++ ys)
all_append globals t known [] ys h g = g
all_append globals t known (s ∷ rest) ys h g =
    (h.0, all_append globals t (known ++ shown s) rest ys h.1 (all_weak globals t known (known ++ shown s) ys (λ x i. among_left x known (shown s) i) g))

pub none_shown : (globals : List tree.Item) (t : Text) (known : List Variable) (todo : List tree.Stmt) → AllBreakNone globals t (known ++ []) todo
    → AllBreakNone globals t known todo
none_shown globals t known todo h = subst (λ k. AllBreakNone globals t k todo) (append-nil known) h

pub returns_after : (s : tree.Stmt) (rest : List tree.Stmt) → is_return s ≡ false → EndsWithReturn (s ∷ rest) → EndsWithReturn rest
returns_after s [] n h = absurd (both_ways (is_return s) n h)
returns_after s (r ∷ rest) n h = h

returns_before : (s : tree.Stmt) (rest : List tree.Stmt) → EndsWithReturn rest → EndsWithReturn (s ∷ rest)
returns_before s [] h = absurd h
returns_before s (r ∷ rest) h = h

pub returns_append : (xs ys : List tree.Stmt) → EndsWithReturn ys → EndsWithReturn (xs ++ ys)
returns_append [] ys h = h
returns_append (x ∷ xs) ys h = returns_before x (xs ++ ys) (returns_append xs ys h)

-- ---- inits

-- what an init gives is of its type
pub record InitGives (gives : ℕ → ℕ → Bool) (given : Option Kind) (v : Value) : Type 0 where
  pub slot : Slot
  pub is_given : IsGiven gives given slot
  pub value : value_of slot ≡ v

-- a declared variable gets what its init gives
pub defined_has : (gives : ℕ → ℕ → Bool) (globals : List tree.Item) (vis : List Variable) (n : ℕ) (type : tree.VarType) (i : tree.Init) (v : Value)
    → init_faults globals vis n (Some (init_need (kind_of type))) i ≡ [] → InitGives gives (init_kind globals vis i) v
    → HasKind gives (kind_of type) (filled type v)
defined_has gives globals vis n type i v f g =
    let m = meets_of gives (init_need (kind_of type)) (init_kind globals vis i) g.slot n g.is_given
    (nil_right (inner_faults globals vis n i) (broken (unmet (Some (init_need (kind_of type))) (init_kind globals vis i)) n) f) in
    filled_has gives type v (subst (Fits gives (inside type)) g.value (init_fits gives type m.kind g.slot m.rule m.has))

-- the variable of a plain assignment is no array
pub record IsAssigned (vis : List Variable) (w : List ℕ) : Type 0 where
  pub depth : ℕ
  pub kind : kind_named vis w ≡ Some (plain depth)

pub assigned : (vis : List Variable) (w : List ℕ) (n : ℕ) (o : Option Kind) → kind_named vis w ≡ o → broken (assigned_rule o) n ≡ [] → IsAssigned vis w
assigned vis w n None e f = absurd (no_some _ _ refl (unbroken (assigned_rule None) n f))
assigned vis w n (Some kind.Int) e f = record { depth = 0; kind = e }
assigned vis w n (Some (kind.Handle d)) e f = record { depth = suc d; kind = e }
assigned vis w n (Some (kind.Array d m)) e f = absurd (no_some _ _ refl (unbroken (assigned_rule (Some (kind.Array d m))) n f))

refilled_plain : (gives : ℕ → ℕ → Bool) (d : ℕ) (s : Slot) (v : Value) → HasKind gives (plain d) s → Fits gives d v → HasKind gives (plain d) (refilled s v)
refilled_plain gives zero (One u) v h f = f
refilled_plain gives zero (Many us) v h f = absurd h
refilled_plain gives (suc d) (One u) v h f = f
refilled_plain gives (suc d) (Many us) v h f = absurd h

kind_plain : (d : ℕ) → kind_of (tree.Plain d) ≡ plain d
kind_plain d = refl

pub assigned_has : (gives : ℕ → ℕ → Bool) (globals : List tree.Item) (vis : List Variable) (vars : Variables) (n : ℕ) (w : List ℕ) (i : tree.Init) (v : Value)
    → (a : IsAssigned vis w) → Holds gives vis vars → init_faults globals vis n (value_need (kind_named vis w)) i ≡ []
    → InitGives gives (init_kind globals vis i) v → HasKind gives (plain a.depth) (refilled (slot_at vars w) v)
assigned_has gives globals vis vars n w i v a h f g =
    let f' : init_faults globals vis n (Some (init_need (kind_of (tree.Plain a.depth)))) i ≡ [] =
    subst (λ o. init_faults globals vis n (value_need o) i ≡ []) a.kind f in
    let m = meets_of gives (init_need (kind_of (tree.Plain a.depth))) (init_kind globals vis i) g.slot n g.is_given
    (nil_right (inner_faults globals vis n i) (broken (unmet (Some (init_need (kind_of (tree.Plain a.depth)))) (init_kind globals vis i)) n) f') in
    refilled_plain gives a.depth (slot_at vars w) v (named_holds gives vis vars w (plain a.depth) h a.kind)
    (subst (Fits gives a.depth) g.value (init_fits gives (tree.Plain a.depth) m.kind g.slot m.rule m.has))

-- ---- elements

pub index_below : (n : ℕ) (z : ℤ) → n ≢ 0 → index_of n z < n
index_below n (pos a) ne = mod-lt a (omega (arith, ne))
index_below n (negsuc a) ne = omega (arith, ne)

-- what a word before `[` is: an array variable, or an array of cells and no variable
pub record IsArrayVariable (vis : List Variable) (w : List ℕ) : Type 0 where
  pub depth : ℕ
  pub size : ℕ
  pub kind : kind_named vis w ≡ Some (kind.Array depth size)

pub record IsCellArray (globals : List tree.Item) (vis : List Variable) (w : List ℕ) : Type 0 where
  pub none : kind_named vis w ≡ None
  pub cells : means_cells (declaration globals w) ≡ true

pub before_bracket : (globals : List tree.Item) (vis : List Variable) (w : List ℕ) (n : ℕ) (o : Option Kind) (b : Bool) → kind_named vis w ≡ o
    → means_cells (declaration globals w) ≡ b → broken (element_rule o b) n ≡ [] → IsArrayVariable vis w ⊎ IsCellArray globals vis w
before_bracket globals vis w n (Some kind.Int) b e m f = absurd (no_some _ _ refl (unbroken (element_rule (Some kind.Int) b) n f))
before_bracket globals vis w n (Some (kind.Handle d)) b e m f = absurd (no_some _ _ refl (unbroken (element_rule (Some (kind.Handle d)) b) n f))
before_bracket globals vis w n (Some (kind.Array d k)) b e m f = inl (record { depth = d; size = k; kind = e })
before_bracket globals vis w n None true e m f = inr (record { none = e; cells = m })
before_bracket globals vis w n None false e m f = absurd (no_some _ _ refl (unbroken (element_rule None false) n f))

-- an array of cells is declared by its name
declared_cells : (items : List tree.Item) (w : List ℕ) → means_cells (declaration items w) ≡ true → declares items w ≡ true
declared_cells [] w h = absurd (let e : false ≡ true = h in cc)
declared_cells (i ∷ rest) w h =
    by_bool (λ b. means_cells (cond b (Some i) (declaration rest w)) ≡ true → Rattle.std.proofs.Common.◌||◌ b (declares rest w) ≡ true)
    (bytes_eq (Rattle.fut_rules.specs.Names.item_name i) w)
    (λ t. λ e. refl) (λ f. λ e. declared_cells rest w e) h

-- a word that is no visible variable and names cells holds 0, as an unknown name
pub cells_are_one : (gives : ℕ → ℕ → Bool) (globals : List tree.Item) (t : Text) (known : List Variable) (vars : Variables) (w : List ℕ)
    → Keeps gives globals t known vars → means_cells (declaration globals w) ≡ true → slot_at vars w ≡ One (Int (pos 0))
cells_are_one gives globals t known vars w k m = k.globals_are w (declared_cells globals w m)

-- an array variable in its slot
pub record ArraySlot (gives : ℕ → ℕ → Bool) (depth size : ℕ) (s : Slot) : Type 0 where
  pub values : List Value
  pub is : s ≡ Many values
  pub count : length values ≡ size
  pub fit : AllFit gives depth values

pub array_slot : (gives : ℕ → ℕ → Bool) (d n : ℕ) (s : Slot) → HasKind gives (kind.Array d n) s → ArraySlot gives d n s
array_slot gives d n (One v) h = absurd h
array_slot gives d n (Many vs) h = record { values = vs; is = refl; count = h.0; fit = h.1 }

pub element_fits : (gives : ℕ → ℕ → Bool) (d n : ℕ) (vs : List Value) (z : ℤ) → length vs ≡ n → n ≢ 0 → AllFit gives d vs
    → Fits gives d (slice_index_or vs (index_of (length vs) z) (Int (pos 0)))
element_fits gives d n vs z e ne a = all_at gives d vs (index_of (length vs) z) (Int (pos 0)) a (index_below (length vs) z (λ q. ne (sym e ∙ q)))
