-- What a typed task wishes, and the state after an action that answers.
use Rattle.std.proofs.Common.{◌≡◌, ℕ, ◌+◌, Bool, true, false, List, [], ◌∷◌, ◌++◌, ◌⊎◌, inl, inr, refl, sym, ap, ap₂, ◌∙◌, subst}
use Rattle.std.specs.Prelude.{Some, None, Option, ℤ, pos}
use Rattle.fut_base.specs.declared.record.Value.{Value}
use Rattle.fut_base.specs.declared.record.Value.TheVariants.{Int, Fut}
use Rattle.fut_base.specs.declared.event.Action.{Action}
use Rattle.fut_base.specs.declared.event.Action.TheVariants.{Reads, Writes, Spawns, Creates, Syncs, Gets, Ends}
use Rattle.fut_base.specs.Dag.{Among, ends}
use Rattle.fut_syntax.specs.Trees as tree
use Rattle.fut_rules.specs.declared.kind.Kind.{Kind}
use Rattle.fut_rules.specs.declared.kind.Kind.TheVariants as kind
use Rattle.fut_rules.specs.declared.names.Variable.{Variable}
use Rattle.fut_rules.specs.Faults.{broken}
use Rattle.fut_rules.specs.Kinds.{plain, unmet, init_need, kind_of}
use Rattle.fut_rules.specs.Names.{declaration, means_cells, kind_named, element, element_rule}
use Rattle.fut_rules.specs.Exprs.{needed_faults, for_int}
use Rattle.fut_rules.specs.Inits.{get_rule, got_of, created, init_kind, inner_faults}
use Rattle.fut_rules.specs.Widths.{expr_width, type_width}
use Rattle.fut_check.specs.Stmts.{value_need, shown, is_return}
use Rattle.fut_check.specs.Items.{items_of, IsWellTyped}
use Rattle.task_machine.specs.Variables.{Slot, One, Many, Variables, slot_at, value_of, value_in, number_in, values_in}
use Rattle.task_machine.specs.Texts.{cell_at}
use Rattle.task_machine.specs.State.{TaskState, Wish, ToRead, ToWrite, ToSpawn, ToCreate, ToSync, ToGet, ToEnd, NoWish, goes_on, local_value}
use Rattle.task_machine.specs.State.{init_step, store_step, step_by, first_step, local_step, read_of, write_of, spawn_of, create_of, get_of}
use Rattle.task_machine.specs.State.{end_of, wish_of_init, wish_by, first_wish, wish_of, Answers, set_by, receives, passes, after_sync, effect_of}
use Rattle.task_types.specs.Typed.{Text, variables_of, Fits, HasKind, AllBreakNone, IsTypedState, got_word, got_by, GetsDepth, ActionFits}
use Rattle.task_types.proofs.Slots.{no_some, nil_left, nil_three, unbroken}
use Rattle.task_types.proofs.Given.{named, named_holds, plain_has}
use Rattle.task_types.proofs.States.{none_shown, returns_after, InitGives, IsCellArray, before_bracket}
use Rattle.task_types.proofs.Stepping.{made, Front, seen, array_here, front, define_init, assign_init, define_set, assign_set}
use Rattle.task_types.proofs.Calling.{cell_found, IsCalled, called}

-- ---- the action that answers a wish

only_reads : (c : ℕ) (a : Action) → Answers (ToRead c) a → (v : ℤ) × (a ≡ Reads c v)
only_reads c (Reads d v) h = (v, let e : ToRead c ≡ ToRead d = h in cc)
only_reads c (Writes d v) h = absurd (let e : ToRead c ≡ ToWrite d v = h in cc)
only_reads c (Spawns code child kid cont args) h = absurd (let e : ToRead c ≡ ToSpawn code args = h in cc)
only_reads c (Creates code child kid cont args) h = absurd (let e : ToRead c ≡ ToCreate code args = h in cc)
only_reads c (Syncs strand) h = absurd (let e : ToRead c ≡ ToSync = h in cc)
only_reads c (Gets f v strand) h = absurd (let e : ToRead c ≡ ToGet f = h in cc)
only_reads c (Ends v) h = absurd (let e : ToRead c ≡ ToEnd v = h in cc)

only_writes : (c : ℕ) (z : ℤ) (a : Action) → Answers (ToWrite c z) a → a ≡ Writes c z
only_writes c z (Reads d v) h = absurd (let e : ToWrite c z ≡ ToRead d = h in cc)
only_writes c z (Writes d v) h = let e : ToWrite c z ≡ ToWrite d v = h in cc
only_writes c z (Spawns code child kid cont args) h = absurd (let e : ToWrite c z ≡ ToSpawn code args = h in cc)
only_writes c z (Creates code child kid cont args) h = absurd (let e : ToWrite c z ≡ ToCreate code args = h in cc)
only_writes c z (Syncs strand) h = absurd (let e : ToWrite c z ≡ ToSync = h in cc)
only_writes c z (Gets f v strand) h = absurd (let e : ToWrite c z ≡ ToGet f = h in cc)
only_writes c z (Ends v) h = absurd (let e : ToWrite c z ≡ ToEnd v = h in cc)

-- an action that spawns this
pub record SpawnsThis (n : ℕ) (args : List Value) (a : Action) : Type 0 where
  pub child : ℕ
  pub kid : ℕ
  pub cont : ℕ
  pub is : a ≡ Spawns n child kid cont args

only_spawns : (n : ℕ) (args : List Value) (a : Action) → Answers (ToSpawn n args) a → SpawnsThis n args a
only_spawns n args (Reads d v) h = absurd (let e : ToSpawn n args ≡ ToRead d = h in cc)
only_spawns n args (Writes d v) h = absurd (let e : ToSpawn n args ≡ ToWrite d v = h in cc)
only_spawns n args (Spawns code child kid cont more) h =
    record { child = child; kid = kid; cont = cont; is = let e : ToSpawn n args ≡ ToSpawn code more = h in cc }
only_spawns n args (Creates code child kid cont more) h = absurd (let e : ToSpawn n args ≡ ToCreate code more = h in cc)
only_spawns n args (Syncs strand) h = absurd (let e : ToSpawn n args ≡ ToSync = h in cc)
only_spawns n args (Gets f v strand) h = absurd (let e : ToSpawn n args ≡ ToGet f = h in cc)
only_spawns n args (Ends v) h = absurd (let e : ToSpawn n args ≡ ToEnd v = h in cc)

-- an action that creates this
pub record CreatesThis (n : ℕ) (args : List Value) (a : Action) : Type 0 where
  pub child : ℕ
  pub kid : ℕ
  pub cont : ℕ
  pub is : a ≡ Creates n child kid cont args

only_creates : (n : ℕ) (args : List Value) (a : Action) → Answers (ToCreate n args) a → CreatesThis n args a
only_creates n args (Reads d v) h = absurd (let e : ToCreate n args ≡ ToRead d = h in cc)
only_creates n args (Writes d v) h = absurd (let e : ToCreate n args ≡ ToWrite d v = h in cc)
only_creates n args (Spawns code child kid cont more) h = absurd (let e : ToCreate n args ≡ ToSpawn code more = h in cc)
only_creates n args (Creates code child kid cont more) h =
    record { child = child; kid = kid; cont = cont; is = let e : ToCreate n args ≡ ToCreate code more = h in cc }
only_creates n args (Syncs strand) h = absurd (let e : ToCreate n args ≡ ToSync = h in cc)
only_creates n args (Gets f v strand) h = absurd (let e : ToCreate n args ≡ ToGet f = h in cc)
only_creates n args (Ends v) h = absurd (let e : ToCreate n args ≡ ToEnd v = h in cc)

only_syncs : (a : Action) → Answers ToSync a → (strand : ℕ) × (a ≡ Syncs strand)
only_syncs (Reads d v) h = absurd (let e : ToSync ≡ ToRead d = h in cc)
only_syncs (Writes d v) h = absurd (let e : ToSync ≡ ToWrite d v = h in cc)
only_syncs (Spawns code child kid cont more) h = absurd (let e : ToSync ≡ ToSpawn code more = h in cc)
only_syncs (Creates code child kid cont more) h = absurd (let e : ToSync ≡ ToCreate code more = h in cc)
only_syncs (Syncs strand) h = (strand, refl)
only_syncs (Gets f v strand) h = absurd (let e : ToSync ≡ ToGet f = h in cc)
only_syncs (Ends v) h = absurd (let e : ToSync ≡ ToEnd v = h in cc)

only_gets : (f : ℕ) (a : Action) → Answers (ToGet f) a → (v : Value) × (strand : ℕ) × (a ≡ Gets f v strand)
only_gets f (Reads d v) h = absurd (let e : ToGet f ≡ ToRead d = h in cc)
only_gets f (Writes d v) h = absurd (let e : ToGet f ≡ ToWrite d v = h in cc)
only_gets f (Spawns code child kid cont more) h = absurd (let e : ToGet f ≡ ToSpawn code more = h in cc)
only_gets f (Creates code child kid cont more) h = absurd (let e : ToGet f ≡ ToCreate code more = h in cc)
only_gets f (Syncs strand) h = absurd (let e : ToGet f ≡ ToSync = h in cc)
only_gets f (Gets g v strand) h = (v, strand, let e : ToGet f ≡ ToGet g = h in cc)
only_gets f (Ends v) h = absurd (let e : ToGet f ≡ ToEnd v = h in cc)

only_ends : (x : Value) (a : Action) → Answers (ToEnd x) a → ends a ≡ false → ⊥
only_ends x (Reads d v) h n = let e : ToEnd x ≡ ToRead d = h in cc
only_ends x (Writes d v) h n = let e : ToEnd x ≡ ToWrite d v = h in cc
only_ends x (Spawns code child kid cont more) h n = let e : ToEnd x ≡ ToSpawn code more = h in cc
only_ends x (Creates code child kid cont more) h n = let e : ToEnd x ≡ ToCreate code more = h in cc
only_ends x (Syncs strand) h n = let e : ToEnd x ≡ ToSync = h in cc
only_ends x (Gets f v strand) h n = let e : ToEnd x ≡ ToGet f = h in cc
only_ends x (Ends v) h n = let e : true ≡ false = n in cc

-- ---- events of inits

-- a `get` on a handle
pub record IsGet (gives : ℕ → ℕ → Bool) (vis : List Variable) (vars : Variables) (i : tree.Init) : Type 0 where
  pub word : List ℕ
  pub init : i ≡ tree.GetOf word
  pub depth : ℕ
  pub kind : kind_named vis word ≡ Some (kind.Handle depth)
  pub future : ℕ
  pub value : value_of (slot_at vars word) ≡ Fut future
  pub fits : gives future depth ≡ true

pub record IsCreate (gives : ℕ → ℕ → Bool) (P : tree.Program) (vars : Variables) (i : tree.Init) : Type 0 where
  pub word : List ℕ
  pub args : List tree.Expr
  pub init : i ≡ tree.CreateOf word args
  pub call : IsCalled gives P vars word args

pub record IsRead (P : tree.Program) (vis : List Variable) (vars : Variables) (i : tree.Init) : Type 0 where
  pub word : List ℕ
  pub index : tree.Expr
  pub init : i ≡ tree.Index word index
  pub array : IsCellArray (items_of P) vis word
  pub cell : ℕ
  pub found : cell_at P word (number_in vars index) ≡ Some cell

handle_slot : (gives : ℕ → ℕ → Bool) (d : ℕ) (s : Slot) → HasKind gives (kind.Handle d) s → (f : ℕ) × (value_of s ≡ Fut f) × (gives f d ≡ true)
handle_slot gives d (One (Int z)) h = absurd h
handle_slot gives d (One (Fut f)) h = (f, refl, h)
handle_slot gives d (Many vs) h = absurd h

got_kind : (o : Option Kind) (n : ℕ) → broken (get_rule o) n ≡ [] → (d : ℕ) × (o ≡ Some (kind.Handle d))
got_kind None n h = absurd (no_some _ _ refl (unbroken (get_rule None) n h))
got_kind (Some kind.Int) n h = absurd (no_some _ _ refl (unbroken (get_rule (Some kind.Int)) n h))
got_kind (Some (kind.Handle d)) n h = (d, refl)
got_kind (Some (kind.Array d m)) n h = absurd (no_some _ _ refl (unbroken (get_rule (Some (kind.Array d m))) n h))

pub init_event : (gives : ℕ → ℕ → Bool) (P : tree.Program) (which : ℕ) (t : Text) (known : List Variable) (vars : Variables) (stmt : tree.Stmt)
    (rest : List tree.Stmt) (n : ℕ) (i : tree.Init) → (f : Front gives P which t known vars stmt rest)
    → inner_faults (items_of P) f.own.scope.visible n i ≡ [] → local_value vars i ≡ None
    → IsGet gives f.own.scope.visible vars i ⊎ (IsCreate gives P vars i ⊎ IsRead P f.own.scope.visible vars i)
init_event gives P which t known vars stmt rest n (tree.GetOf w) f c l =
    let k = got_kind (kind_named f.own.scope.visible w) (n + 1) c in
    let s = handle_slot gives k.0 (slot_at vars w)
    (named_holds gives f.own.scope.visible vars w (kind.Handle k.0) (seen gives P which t known vars stmt rest f) k.1) in
    inl (record { word = w; init = refl; depth = k.0; kind = k.1; future = s.0; value = s.1; fits = s.2 })
init_event gives P which t known vars stmt rest n (tree.CreateOf w es) f c l =
    inr
    (inl
    (record {
      word = w;
      args = es;
      init = refl;
      call = called gives P f.own.scope.visible vars (n + 1) w es
          (seen gives P which t known vars stmt rest f) c;
    }))
init_event gives P which t known vars stmt rest n (tree.Value e) f c l = absurd (no_some _ _ refl l)
init_event gives P which t known vars stmt rest n (tree.Index w e) f c l =
    let vis = f.own.scope.visible in
    let rule_part = nil_left (broken (element_rule (kind_named vis w) (means_cells (declaration (items_of P) w))) n) (needed_faults vis (n + 2) for_int e) c in
    elim (before_bracket (items_of P) vis w n (kind_named vis w) (means_cells (declaration (items_of P) w)) refl refl rule_part) [
      | inl a ↦ absurd (
          let s = array_here gives P which t known vars stmt rest w f a in
          no_some _ _ refl (subst (λ x. Rattle.task_machine.specs.State.element_of x (number_in vars e) ≡ None) s.is l))
      | inr k ↦ inr (inr (
          let c' = cell_found (items_of P) 0 w (number_in vars e) k.cells in
          record { word = w; index = e; init = refl; array = k; cell = c'.0; found = c'.1 }))
    ]

-- what such an init wishes
pub get_wish : (gives : ℕ → ℕ → Bool) (P : tree.Program) (vis : List Variable) (vars : Variables) (i : tree.Init) → (g : IsGet gives vis vars i)
    → wish_of_init P vars i ≡ ToGet g.future
get_wish gives P vis vars i g = ap (wish_of_init P vars) g.init ∙ ap get_of g.value

pub create_wish : (gives : ℕ → ℕ → Bool) (P : tree.Program) (vars : Variables) (i : tree.Init) → (g : IsCreate gives P vars i)
    → wish_of_init P vars i ≡ ToCreate g.call.code (values_in vars g.args)
create_wish gives P vars i g = ap (wish_of_init P vars) g.init ∙ ap (λ o. create_of o (values_in vars g.args)) g.call.number

pub read_wish : (P : tree.Program) (vis : List Variable) (vars : Variables) (i : tree.Init) → (g : IsRead P vis vars i) → wish_of_init P vars i ≡ ToRead g.cell
read_wish P vis vars i g = ap (wish_of_init P vars) g.init ∙ ap read_of g.found

-- what such an init gives
get_gives : (gives : ℕ → ℕ → Bool) (P : tree.Program) (vis : List Variable) (vars : Variables) (i : tree.Init) (v : Value) → (g : IsGet gives vis vars i)
    → Fits gives g.depth v → InitGives gives (init_kind (items_of P) vis i) v
get_gives gives P vis vars i v g f =
    record { slot = One v; is_given = (plain g.depth, ap (init_kind (items_of P) vis) g.init ∙ ap got_of g.kind, plain_has gives g.depth v f); value = refl }

create_gives : (gives : ℕ → ℕ → Bool) (P : tree.Program) (vis : List Variable) (vars : Variables) (i : tree.Init) (child : ℕ) → (g : IsCreate gives P vars i)
    → gives child g.call.text.depth ≡ true → InitGives gives (init_kind (items_of P) vis i) (Fut child)
create_gives gives P vis vars i child g f =
    record {
      slot = One (Fut child);
      is_given = (
        kind.Handle g.call.signature.result,
        ap (init_kind (items_of P) vis) g.init ∙ ap created g.call.means,
        subst (λ d. gives child d ≡ true) g.call.depth f,
      );
      value = refl;
    }

read_gives : (gives : ℕ → ℕ → Bool) (P : tree.Program) (vis : List Variable) (vars : Variables) (i : tree.Init) (z : ℤ) → IsRead P vis vars i
    → InitGives gives (init_kind (items_of P) vis i) (Int z)
read_gives gives P vis vars i z g =
    record {
      slot = One (Int z);
      is_given = (kind.Int, ap (init_kind (items_of P) vis) g.init ∙ ap₂ element g.array.none g.array.cells, tt);
      value = refl;
    }

-- the variable of a got handle is one of the task's
pub got_variable : (gives : ℕ → ℕ → Bool) (P : tree.Program) (which : ℕ) (t : Text) (known : List Variable) (vars : Variables) (stmt : tree.Stmt)
    (rest : List tree.Stmt) (i : tree.Init) → (f : Front gives P which t known vars stmt rest) → (g : IsGet gives f.own.scope.visible vars i)
    → Among (record { name = g.word; kind = kind.Handle g.depth }) (variables_of t)
got_variable gives P which t known vars stmt rest i f g =
    let n = named f.own.scope.visible g.word (kind.Handle g.depth) g.kind in
    let same : n.variable ≡ record { name = g.word; kind = kind.Handle g.depth } = ap₂ (λ a b. record { name = a; kind = b }) n.name n.kind in
    subst (λ x. Among x (variables_of t)) same (f.keeps.declared n.variable (f.own.visible n.variable n.among))

-- ---- an init's event answered

-- what an action gives the init at which a task stands is of its type
given_by : (gives : ℕ → ℕ → Bool) (P : tree.Program) (which : ℕ) (t : Text) (known : List Variable) (s : TaskState) (stmt : tree.Stmt) (rest : List tree.Stmt)
    (i : tree.Init) (a : Action) → s.todo ≡ stmt ∷ rest → got_by (stmt ∷ rest) ≡ got_word i → (f : Front gives P which t known s.vars stmt rest)
    → IsGet gives f.own.scope.visible s.vars i ⊎ (IsCreate gives P s.vars i ⊎ IsRead P f.own.scope.visible s.vars i) → Answers (wish_of_init P s.vars i) a
    → ActionFits gives P which s a → (v : Value) × InitGives gives (init_kind (items_of P) f.own.scope.visible i) v × (effect_of s a ≡ receives s s.todo v)
given_by gives P which t known s stmt rest i a e w f (inl g) h fits =
    let o = only_gets g.future a (subst (λ x. Answers x a) (get_wish gives P f.own.scope.visible s.vars i g) h) in
    let depth : GetsDepth P which s g.depth =
    (t, g.word, f.is, ap got_by e ∙ w ∙ ap got_word g.init, got_variable gives P which t known s.vars stmt rest i f g)
    in
    let value_fits : ActionFits gives P which s (Gets g.future o.0 o.1) = subst (ActionFits gives P which s) o.2 fits in
    (o.0, get_gives gives P f.own.scope.visible s.vars i o.0 g (value_fits g.depth depth), ap (effect_of s) o.2)
given_by gives P which t known s stmt rest i a e w f (inr (inl g)) h fits =
    let o = only_creates g.call.code (values_in s.vars g.args) a (subst (λ x. Answers x a) (create_wish gives P s.vars i g) h) in
    let value_fits : ActionFits gives P which s (Creates g.call.code o.child o.kid o.cont (values_in s.vars g.args)) =
    subst (ActionFits gives P which s) o.is fits in
    (Fut o.child, create_gives gives P f.own.scope.visible s.vars i o.child g (value_fits g.call.text g.call.is), ap (effect_of s) o.is)
given_by gives P which t known s stmt rest i a e w f (inr (inr g)) h fits =
    let o = only_reads g.cell a (subst (λ x. Answers x a) (read_wish P f.own.scope.visible s.vars i g) h) in
    (Int o.0, read_gives gives P f.own.scope.visible s.vars i o.0 g, ap (effect_of s) o.1)

pub no_step : (s : TaskState) (rest : List tree.Stmt) (stmt : tree.Stmt) (o : Option Value) → init_step s rest stmt o ≡ None → o ≡ None
no_step s rest stmt None h = refl
no_step s rest stmt (Some v) h = absurd (no_some _ _ refl h)

-- a statement that is done, and made no variable
passed : (gives : ℕ → ℕ → Bool) (P : tree.Program) (which : ℕ) (t : Text) (known : List Variable) (vars : Variables) (stmt : tree.Stmt)
    (rest : List tree.Stmt) (is_open : Bool) → (f : Front gives P which t known vars stmt rest) → shown stmt ≡ [] → is_return stmt ≡ false
    → IsTypedState gives P which (record { vars = vars; todo = rest; is_open = is_open })
passed gives P which t known vars stmt rest is_open f e n =
    made gives P which t known (record { vars = vars; todo = rest; is_open = is_open }) f.is f.keeps
    (none_shown (items_of P) t known rest (subst (λ xs. AllBreakNone (items_of P) t (known ++ xs) rest) e f.later))
    (λ ne. returns_after stmt rest n (f.returns ne))

-- the same task with its block closed
closed : (gives : ℕ → ℕ → Bool) (P : tree.Program) (which : ℕ) (s : TaskState) → IsTypedState gives P which s
    → IsTypedState gives P which (record { vars = s.vars; todo = s.todo; is_open = false })
closed gives P which s x =
    record { text = x.text; is = x.is; known = x.known; declared = x.declared; holds = x.holds; globals = x.globals; todo = x.todo; returns = x.returns }

-- an end comes after a sync where the block is open
syncs_or_ends : (b : Bool) (v : Value) (a : Action) → Answers (end_of b v) a → ends a ≡ false → (strand : ℕ) × (a ≡ Syncs strand)
syncs_or_ends true v a h n = only_syncs a h
syncs_or_ends false v a h n = absurd (only_ends v a h n)

store_none : (s : TaskState) (rest : List tree.Stmt) (w : List ℕ) (z : ℤ) (v : Value) (vs : List Value) (sl : Slot) → sl ≡ Many vs
    → store_step s rest w sl z v ≡ None → ⊥
store_none s rest w z v vs sl e h = no_some _ _ refl (subst (λ x. store_step s rest w x z v ≡ None) e h)

-- a write of a cell, at a statement that sets no element of a variable
pub store_cell : (gives : ℕ → ℕ → Bool) (P : tree.Program) (which : ℕ) (t : Text) (known : List Variable) (s : TaskState) (rest : List tree.Stmt) (w : List ℕ)
    (e g : tree.Expr) → (f : Front gives P which t known s.vars (tree.Store w e g) rest)
    → store_step s rest w (slot_at s.vars w) (number_in s.vars e) (value_in s.vars g) ≡ None → (c : ℕ) × (cell_at P w (number_in s.vars e) ≡ Some c)
store_cell gives P which t known s rest w e g f h =
    let vis = f.own.scope.visible in
    let parts = nil_three (broken (element_rule (kind_named vis w) (means_cells (declaration (items_of P) w))) f.own.at)
    (needed_faults vis (f.own.at + 2) for_int e)
    (needed_faults vis (f.own.at + 2 + expr_width e + 2)
    (value_need (element (kind_named vis w) (means_cells (declaration (items_of P) w)))) g) f.own.clean in
    elim (before_bracket (items_of P) vis w f.own.at (kind_named vis w) (means_cells (declaration (items_of P) w)) refl refl parts.0) [
      | inl a ↦
          absurd
          (let sl = array_here gives P which t known s.vars (tree.Store w e g) rest w f a in
          store_none s rest w (number_in s.vars e) (value_in s.vars g) sl.values (slot_at s.vars w) sl.is h)
      | inr k ↦ cell_found (items_of P) 0 w (number_in s.vars e) k.cells
    ]

pub spawn_called : (gives : ℕ → ℕ → Bool) (P : tree.Program) (which : ℕ) (t : Text) (known : List Variable) (vars : Variables) (rest : List tree.Stmt)
    (w : List ℕ) (es : List tree.Expr) → Front gives P which t known vars (tree.SpawnOf w es) rest → IsCalled gives P vars w es
spawn_called gives P which t known vars rest w es f =
    called gives P f.own.scope.visible vars (f.own.at + 1) w es (seen gives P which t known vars (tree.SpawnOf w es) rest f) f.own.clean

pub inner_define : (gives : ℕ → ℕ → Bool) (P : tree.Program) (which : ℕ) (t : Text) (known : List Variable) (vars : Variables) (rest : List tree.Stmt)
    (w : List ℕ) (type : tree.VarType) (i : tree.Init) → (f : Front gives P which t known vars (tree.Define w type i) rest)
    → inner_faults (items_of P) f.own.scope.visible (f.own.at + 3 + type_width type + 1) i ≡ []
inner_define gives P which t known vars rest w type i f =
    nil_left (inner_faults (items_of P) f.own.scope.visible (f.own.at + 3 + type_width type + 1) i)
    (broken (unmet (Some (init_need (kind_of type))) (init_kind (items_of P) f.own.scope.visible i)) (f.own.at + 3 + type_width type + 1))
    (define_init P t known w type i f.own)

pub inner_assign : (gives : ℕ → ℕ → Bool) (P : tree.Program) (which : ℕ) (t : Text) (known : List Variable) (vars : Variables) (rest : List tree.Stmt)
    (w : List ℕ) (i : tree.Init) → (f : Front gives P which t known vars (tree.Assign w i) rest)
    → inner_faults (items_of P) f.own.scope.visible (f.own.at + 2) i ≡ []
inner_assign gives P which t known vars rest w i f =
    nil_left (inner_faults (items_of P) f.own.scope.visible (f.own.at + 2) i)
    (broken (unmet (value_need (kind_named f.own.scope.visible w)) (init_kind (items_of P) f.own.scope.visible i)) (f.own.at + 2))
    (assign_init P t known w i f.own)

-- ---- the state after an action

pub effect_typed : (gives : ℕ → ℕ → Bool) (P : tree.Program) (which : ℕ) (s : TaskState) (todo : List tree.Stmt) (a : Action) → IsWellTyped P
    → (x : IsTypedState gives P which s) → s.todo ≡ todo → first_step s todo ≡ None → Answers (first_wish P s todo) a → ends a ≡ false
    → ActionFits gives P which s a → IsTypedState gives P which (effect_of s a)
effect_typed gives P which s [] a w x e l h n fits =
    let o = syncs_or_ends s.is_open (Int (pos 0)) a h n in
    subst (IsTypedState gives P which)
    (ap (λ ys. record { vars = s.vars; todo = ys; is_open = false }) (e ∙ ap after_sync (sym e)) ∙ sym (ap (effect_of s) o.1)) (closed gives P which s x)
effect_typed gives P which s (tree.Declare v type ∷ rest) a w x e l h n fits = absurd (no_some _ _ refl l)
effect_typed gives P which s (tree.Define v type i ∷ rest) a w x e l h n fits =
    let stmt = tree.Define v type i in
    let f = front gives P which s stmt rest w x e in
    let event = init_event gives P which x.text x.known s.vars stmt rest (f.own.at + 3 + type_width type + 1) i f
    (inner_define gives P which x.text x.known s.vars rest v type i f) (no_step s rest stmt (local_value s.vars i) l) in
    let g = given_by gives P which x.text x.known s stmt rest i a e refl f event h fits in
    subst (IsTypedState gives P which) (ap (λ ys. receives s ys g.0) (sym e) ∙ sym g.2) (define_set gives P which x.text x.known s rest v type i g.0 f g.1)
effect_typed gives P which s (tree.Assign v i ∷ rest) a w x e l h n fits =
    let stmt = tree.Assign v i in
    let f = front gives P which s stmt rest w x e in
    let event = init_event gives P which x.text x.known s.vars stmt rest (f.own.at + 2) i f (inner_assign gives P which x.text x.known s.vars rest v i f)
    (no_step s rest stmt (local_value s.vars i) l) in
    let g = given_by gives P which x.text x.known s stmt rest i a e refl f event h fits in
    subst (IsTypedState gives P which) (ap (λ ys. receives s ys g.0) (sym e) ∙ sym g.2) (assign_set gives P which x.text x.known s rest v i g.0 f g.1)
effect_typed gives P which s (tree.Store v i g ∷ rest) a w x e l h n fits =
    let stmt = tree.Store v i g in
    let f = front gives P which s stmt rest w x e in
    let c = store_cell gives P which x.text x.known s rest v i g f l in
    let o = only_writes c.0 (number_in s.vars g) a (subst (λ y. Answers (write_of y (number_in s.vars g)) a) c.1 h) in
    subst (IsTypedState gives P which)
    (ap (λ ys. record { vars = s.vars; todo = Rattle.std.specs.Prelude.drop 1 ys; is_open = s.is_open }) (sym e) ∙ sym (ap (effect_of s) o))
    (passed gives P which x.text x.known s.vars stmt rest s.is_open f refl refl)
effect_typed gives P which s (tree.SpawnOf v es ∷ rest) a w x e l h n fits =
    let stmt = tree.SpawnOf v es in
    let f = front gives P which s stmt rest w x e in
    let c = spawn_called gives P which x.text x.known s.vars rest v es f in
    let o = only_spawns c.code (values_in s.vars es) a (subst (λ y. Answers (spawn_of y (values_in s.vars es)) a) c.number h) in
    subst (IsTypedState gives P which)
    (ap (λ ys. record { vars = s.vars; todo = Rattle.std.specs.Prelude.drop 1 ys; is_open = true }) (sym e) ∙ sym (ap (effect_of s) o.is))
    (passed gives P which x.text x.known s.vars stmt rest true f refl refl)
effect_typed gives P which s (tree.SyncAll ∷ rest) a w x e l h n fits =
    let f = front gives P which s tree.SyncAll rest w x e in
    let o = only_syncs a h in
    subst (IsTypedState gives P which) (ap (λ ys. record { vars = s.vars; todo = after_sync ys; is_open = false }) (sym e) ∙ sym (ap (effect_of s) o.1))
    (passed gives P which x.text x.known s.vars tree.SyncAll rest false f refl refl)
effect_typed gives P which s (tree.If' i b o ∷ rest) a w x e l h n fits = absurd (no_some _ _ refl l)
effect_typed gives P which s (tree.While' i b ∷ rest) a w x e l h n fits = absurd (no_some _ _ refl l)
effect_typed gives P which s (tree.Return' i ∷ rest) a w x e l h n fits =
    let o = syncs_or_ends s.is_open (value_in s.vars i) a h n in
    subst (IsTypedState gives P which)
    (ap (λ ys. record { vars = s.vars; todo = ys; is_open = false }) (e ∙ ap after_sync (sym e)) ∙ sym (ap (effect_of s) o.1)) (closed gives P which s x)

pub effect_stays : (gives : ℕ → ℕ → Bool) (P : tree.Program) (which : ℕ) (s : TaskState) (a : Action) → IsWellTyped P → IsTypedState gives P which s
    → local_step s ≡ None → Answers (wish_of P s) a → ends a ≡ false → ActionFits gives P which s a → IsTypedState gives P which (effect_of s a)
effect_stays gives P which s a w x l h n fits = effect_typed gives P which s s.todo a w x refl l h n fits
