-- A typed task that stands at an event has a wish, and what it passes on fits.
use Rattle.std.proofs.Common.{◌≡◌, ◌≢◌, ℕ, zero, suc, ◌+◌, Bool, true, false, cond, List, [], ◌∷◌, ◌⊎◌, inl, inr, refl, sym, ap, ◌∙◌, subst, eqb-true}
use Rattle.std.specs.Prelude.{Some, None, ℤ, pos, nat_eq}
use Rattle.std.proofs.lemmas.Option.{same_Some}
use Rattle.fut_base.proofs.Cases.{by_bool}
use Rattle.fut_base.specs.declared.record.Value.{Value}
use Rattle.fut_base.specs.declared.record.Value.TheVariants.{Int}
use Rattle.fut_base.specs.Dag.{Among}
use Rattle.fut_syntax.specs.Trees as tree
use Rattle.fut_rules.specs.declared.kind.Kind.{Kind}
use Rattle.fut_rules.specs.declared.kind.Kind.TheVariants as kind
use Rattle.fut_rules.specs.declared.fault.Rule.TheVariants as rule
use Rattle.fut_rules.specs.declared.names.Variable.{Variable}
use Rattle.fut_rules.specs.Faults.{broken}
use Rattle.fut_rules.specs.Kinds.{result_rule}
use Rattle.fut_rules.specs.Exprs.{expr_kind, expr_faults}
use Rattle.fut_check.specs.Items.{IsWellTyped}
use Rattle.fut_rules.specs.Widths.{type_width}
use Rattle.task_machine.specs.Variables.{Slot, One, Many, Variables, value_of, slot_in, value_in, number_in, values_in}
use Rattle.task_machine.specs.State.{TaskState, ToRead, ToWrite, ToSpawn, ToCreate, ToSync, ToGet, ToEnd, NoWish, local_value}
use Rattle.task_machine.specs.State.{first_step, local_step, write_of, spawn_of, end_of, wish_of_init, first_wish, wish_of}
use Rattle.task_types.specs.Typed.{Text, text_at, variables_of, Fits, HasKind, ArgsFit, EndsWithReturn, IsTypedState, got_word, got_by, GetsDepth}
use Rattle.task_types.proofs.Slots.{no_some, nil_left, nil_right, unbroken}
use Rattle.task_types.proofs.Given.{expr_given}
use Rattle.task_types.proofs.Stepping.{Front, seen, front}
use Rattle.task_types.proofs.Texts.{good_text}
use Rattle.task_types.proofs.Wishing.{IsGet, IsCreate, IsRead, init_event, get_wish, create_wish, read_wish}
use Rattle.task_types.proofs.Wishing.{no_step, store_cell, spawn_called, inner_define, inner_assign, got_variable}

-- what a typed task that stands at an event wishes, with what is known of it
pub data Wished (gives : ℕ → ℕ → Bool) (P : tree.Program) (which : ℕ) (s : TaskState) : Type 0 where
  WishesRead : (c : ℕ) → wish_of P s ≡ ToRead c → Wished gives P which s
  WishesWrite : (c : ℕ) → (z : ℤ) → wish_of P s ≡ ToWrite c z → Wished gives P which s
  WishesSpawn : (code : ℕ) → (args : List Value) → wish_of P s ≡ ToSpawn code args → ArgsFit gives P code args → Wished gives P which s
  WishesCreate : (code : ℕ) → (args : List Value) → wish_of P s ≡ ToCreate code args → ArgsFit gives P code args → Wished gives P which s
  WishesSync : wish_of P s ≡ ToSync → Wished gives P which s
  WishesGet : (f d : ℕ) → wish_of P s ≡ ToGet f → gives f d ≡ true → (w : List ℕ) → got_by s.todo ≡ Some w → (t : Text) → text_at P which ≡ Some t
      → Among (record { name = w; kind = kind.Handle d }) (variables_of t) → Wished gives P which s
  WishesEnd : (v : Value) → wish_of P s ≡ ToEnd v → (t : Text) → text_at P which ≡ Some t → Fits gives t.depth v → Wished gives P which s

init_wished : (gives : ℕ → ℕ → Bool) (P : tree.Program) (which : ℕ) (t : Text) (known : List Variable) (s : TaskState) (stmt : tree.Stmt)
    (rest : List tree.Stmt) (i : tree.Init) → wish_of P s ≡ wish_of_init P s.vars i → got_by s.todo ≡ got_word i
    → (f : Front gives P which t known s.vars stmt rest) → IsGet gives f.own.scope.visible s.vars i
    ⊎ (IsCreate gives P s.vars i ⊎ IsRead P f.own.scope.visible s.vars i) → Wished gives P which s
init_wished gives P which t known s stmt rest i w q f (inl g) =
    WishesGet g.future g.depth (w ∙ get_wish gives P f.own.scope.visible s.vars i g) g.fits g.word (q ∙ ap got_word g.init) t f.is
    (got_variable gives P which t known s.vars stmt rest i f g)
init_wished gives P which t known s stmt rest i w q f (inr (inl g)) =
    WishesCreate g.call.code (values_in s.vars g.args) (w ∙ create_wish gives P s.vars i g) (g.call.text, g.call.is, g.call.fit)
init_wished gives P which t known s stmt rest i w q f (inr (inr g)) = WishesRead g.cell (w ∙ read_wish P f.own.scope.visible s.vars i g)

-- the depth of a task is 0 where nothing is left to do
no_return : (d : ℕ) → (d ≢ 0 → EndsWithReturn []) → d ≡ 0
no_return zero h = refl
no_return (suc d) h = absurd (h (λ e. let q : suc d ≡ zero = e in cc))

-- a returned value fits the result
result_fits : (gives : ℕ → ℕ → Bool) (d : ℕ) (k : Kind) (s : Slot) → result_rule d (Some k) ≡ None → HasKind gives k s → Fits gives d (value_of s)
result_fits gives zero kind.Int (One v) r h = h
result_fits gives zero kind.Int (Many vs) r h = absurd h
result_fits gives zero (kind.Handle e) s r h = absurd (no_some _ _ refl r)
result_fits gives zero (kind.Array e n) s r h = absurd (no_some _ _ refl r)
result_fits gives (suc d) kind.Int s r h = absurd (no_some _ _ refl r)
result_fits gives (suc d) (kind.Handle e) (One v) r h =
    by_bool (λ b. nat_eq d e ≡ b → cond b None (Some rule.ResultType) ≡ None → Fits gives (suc d) v) (nat_eq d e)
    (λ t. λ i q. subst (λ x. Fits gives (suc x) v) (sym (eqb-true d e t)) h)
    (λ f. λ i q. absurd (no_some _ _ refl q))
    refl r
result_fits gives (suc d) (kind.Handle e) (Many vs) r h = absurd h
result_fits gives (suc d) (kind.Array e n) s r h = absurd (no_some _ _ refl r)

return_fits : (gives : ℕ → ℕ → Bool) (P : tree.Program) (which : ℕ) (t : Text) (known : List Variable) (vars : Variables) (rest : List tree.Stmt)
    (e : tree.Expr) → Front gives P which t known vars (tree.Return' e) rest → Fits gives t.depth (value_in vars e)
return_fits gives P which t known vars rest e f =
    let vis = f.own.scope.visible in
    let own = nil_left (expr_faults vis (f.own.at + 1) e) (broken (result_rule f.own.scope.returns (expr_kind vis e)) (f.own.at + 1)) f.own.clean in
    let last = unbroken (result_rule f.own.scope.returns (expr_kind vis e)) (f.own.at + 1)
    (nil_right (expr_faults vis (f.own.at + 1) e) (broken (result_rule f.own.scope.returns (expr_kind vis e)) (f.own.at + 1)) f.own.clean) in
    let g = expr_given gives vis vars (f.own.at + 1) e (seen gives P which t known vars (tree.Return' e) rest f) own in
    let r : result_rule t.depth (Some g.0) ≡ None =
    subst (λ d. result_rule d (Some g.0) ≡ None) f.own.returns (subst (λ o. result_rule f.own.scope.returns o ≡ None) g.1 last) in
    result_fits gives t.depth g.0 (slot_in vars e) r g.2

ended : (gives : ℕ → ℕ → Bool) (P : tree.Program) (which : ℕ) (s : TaskState) (b : Bool) (v : Value) (t : Text) → wish_of P s ≡ end_of b v
    → text_at P which ≡ Some t → Fits gives t.depth v → Wished gives P which s
ended gives P which s true v t w is f = WishesSync w
ended gives P which s false v t w is f = WishesEnd v w t is f

wished_by : (gives : ℕ → ℕ → Bool) (P : tree.Program) (which : ℕ) (s : TaskState) (todo : List tree.Stmt) → IsWellTyped P → (x : IsTypedState gives P which s)
    → s.todo ≡ todo → first_step s todo ≡ None → wish_of P s ≡ first_wish P s todo → Wished gives P which s
wished_by gives P which s [] w x e l h =
    let zero_depth : x.text.depth ≡ 0 = no_return x.text.depth (λ ne. subst EndsWithReturn e (x.returns ne)) in
    ended gives P which s s.is_open (Int (pos 0)) x.text h x.is (subst (λ d. Fits gives d (Int (pos 0))) (sym zero_depth) tt)
wished_by gives P which s (tree.Declare v type ∷ rest) w x e l h = absurd (no_some _ _ refl l)
wished_by gives P which s (tree.Define v type i ∷ rest) w x e l h =
    let stmt = tree.Define v type i in
    let f = front gives P which s stmt rest w x e in
    let event = init_event gives P which x.text x.known s.vars stmt rest (f.own.at + 3 + type_width type + 1) i f
    (inner_define gives P which x.text x.known s.vars rest v type i f) (no_step s rest stmt (local_value s.vars i) l) in
    init_wished gives P which x.text x.known s stmt rest i h (ap got_by e) f event
wished_by gives P which s (tree.Assign v i ∷ rest) w x e l h =
    let stmt = tree.Assign v i in
    let f = front gives P which s stmt rest w x e in
    let event = init_event gives P which x.text x.known s.vars stmt rest (f.own.at + 2) i f (inner_assign gives P which x.text x.known s.vars rest v i f)
    (no_step s rest stmt (local_value s.vars i) l) in
    init_wished gives P which x.text x.known s stmt rest i h (ap got_by e) f event
wished_by gives P which s (tree.Store v i g ∷ rest) w x e l h =
    let c = store_cell gives P which x.text x.known s rest v i g (front gives P which s (tree.Store v i g) rest w x e) l in
    WishesWrite c.0 (number_in s.vars g) (h ∙ ap (λ y. write_of y (number_in s.vars g)) c.1)
wished_by gives P which s (tree.SpawnOf v es ∷ rest) w x e l h =
    let c = spawn_called gives P which x.text x.known s.vars rest v es (front gives P which s (tree.SpawnOf v es) rest w x e) in
    WishesSpawn c.code (values_in s.vars es) (h ∙ ap (λ y. spawn_of y (values_in s.vars es)) c.number) (c.text, c.is, c.fit)
wished_by gives P which s (tree.SyncAll ∷ rest) w x e l h = WishesSync h
wished_by gives P which s (tree.If' i b o ∷ rest) w x e l h = absurd (no_some _ _ refl l)
wished_by gives P which s (tree.While' i b ∷ rest) w x e l h = absurd (no_some _ _ refl l)
wished_by gives P which s (tree.Return' i ∷ rest) w x e l h =
    ended gives P which s s.is_open (value_in s.vars i) x.text h x.is
    (return_fits gives P which x.text x.known s.vars rest i (front gives P which s (tree.Return' i) rest w x e))

pub wished : (gives : ℕ → ℕ → Bool) (P : tree.Program) (which : ℕ) (s : TaskState) → IsWellTyped P → IsTypedState gives P which s → local_step s ≡ None
    → Wished gives P which s
wished gives P which s w x l = wished_by gives P which s s.todo w x refl l refl

-- ---- the laws

real : (P : tree.Program) (gives : ℕ → ℕ → Bool) (which : ℕ) (s : TaskState) → Wished gives P which s → wish_of P s ≡ NoWish → ⊥
real P gives which s (WishesRead c w) h = let e : ToRead c ≡ NoWish = sym w ∙ h in cc
real P gives which s (WishesWrite c z w) h = let e : ToWrite c z ≡ NoWish = sym w ∙ h in cc
real P gives which s (WishesSpawn code args w f) h = let e : ToSpawn code args ≡ NoWish = sym w ∙ h in cc
real P gives which s (WishesCreate code args w f) h = let e : ToCreate code args ≡ NoWish = sym w ∙ h in cc
real P gives which s (WishesSync w) h = let e : ToSync ≡ NoWish = sym w ∙ h in cc
real P gives which s (WishesGet f d w fits word q t is a) h = let e : ToGet f ≡ NoWish = sym w ∙ h in cc
real P gives which s (WishesEnd v w t is f) h = let e : ToEnd v ≡ NoWish = sym w ∙ h in cc

pub typed_has_wish : (gives : ℕ → ℕ → Bool) (P : tree.Program) (which : ℕ) (s : TaskState) → IsWellTyped P → IsTypedState gives P which s
    → local_step s ≡ None → wish_of P s ≡ NoWish → ⊥
typed_has_wish gives P which s w x l h = real P gives which s (wished gives P which s w x l) h

args_of : (P : tree.Program) (gives : ℕ → ℕ → Bool) (which : ℕ) (s : TaskState) (code : ℕ) (args : List Value) → Wished gives P which s
    → (wish_of P s ≡ ToSpawn code args) ⊎ (wish_of P s ≡ ToCreate code args) → ArgsFit gives P code args
args_of P gives which s code args (WishesRead c w) (inl h) = absurd (let e : ToRead c ≡ ToSpawn code args = sym w ∙ h in cc)
args_of P gives which s code args (WishesRead c w) (inr h) = absurd (let e : ToRead c ≡ ToCreate code args = sym w ∙ h in cc)
args_of P gives which s code args (WishesWrite c z w) (inl h) = absurd (let e : ToWrite c z ≡ ToSpawn code args = sym w ∙ h in cc)
args_of P gives which s code args (WishesWrite c z w) (inr h) = absurd (let e : ToWrite c z ≡ ToCreate code args = sym w ∙ h in cc)
args_of P gives which s code args (WishesSpawn n more w f) (inl h) =
    let e : ToSpawn n more ≡ ToSpawn code args = sym w ∙ h in
    let same : n ≡ code = cc in
    let list : more ≡ args = cc in
    subst (ArgsFit gives P code) list (subst (λ m. ArgsFit gives P m more) same f)
args_of P gives which s code args (WishesSpawn n more w f) (inr h) = absurd (let e : ToSpawn n more ≡ ToCreate code args = sym w ∙ h in cc)
args_of P gives which s code args (WishesCreate n more w f) (inl h) = absurd (let e : ToCreate n more ≡ ToSpawn code args = sym w ∙ h in cc)
args_of P gives which s code args (WishesCreate n more w f) (inr h) =
    let e : ToCreate n more ≡ ToCreate code args = sym w ∙ h in
    let same : n ≡ code = cc in
    let list : more ≡ args = cc in
    subst (ArgsFit gives P code) list (subst (λ m. ArgsFit gives P m more) same f)
args_of P gives which s code args (WishesSync w) (inl h) = absurd (let e : ToSync ≡ ToSpawn code args = sym w ∙ h in cc)
args_of P gives which s code args (WishesSync w) (inr h) = absurd (let e : ToSync ≡ ToCreate code args = sym w ∙ h in cc)
args_of P gives which s code args (WishesGet f d w fits word q t is a) (inl h) = absurd (let e : ToGet f ≡ ToSpawn code args = sym w ∙ h in cc)
args_of P gives which s code args (WishesGet f d w fits word q t is a) (inr h) = absurd (let e : ToGet f ≡ ToCreate code args = sym w ∙ h in cc)
args_of P gives which s code args (WishesEnd v w t is f) (inl h) = absurd (let e : ToEnd v ≡ ToSpawn code args = sym w ∙ h in cc)
args_of P gives which s code args (WishesEnd v w t is f) (inr h) = absurd (let e : ToEnd v ≡ ToCreate code args = sym w ∙ h in cc)

pub wished_args_fit : (gives : ℕ → ℕ → Bool) (P : tree.Program) (which : ℕ) (s : TaskState) (code : ℕ) (args : List Value) → IsWellTyped P
    → IsTypedState gives P which s → local_step s ≡ None → (wish_of P s ≡ ToSpawn code args) ⊎ (wish_of P s ≡ ToCreate code args) → ArgsFit gives P code args
wished_args_fit gives P which s code args w x l h = args_of P gives which s code args (wished gives P which s w x l) h

end_fits : (P : tree.Program) (gives : ℕ → ℕ → Bool) (which : ℕ) (s : TaskState) (value : Value) (t : Text) → Wished gives P which s
    → wish_of P s ≡ ToEnd value → text_at P which ≡ Some t → Fits gives t.depth value
end_fits P gives which s value t (WishesRead c w) h i = absurd (let e : ToRead c ≡ ToEnd value = sym w ∙ h in cc)
end_fits P gives which s value t (WishesWrite c z w) h i = absurd (let e : ToWrite c z ≡ ToEnd value = sym w ∙ h in cc)
end_fits P gives which s value t (WishesSpawn code args w f) h i = absurd (let e : ToSpawn code args ≡ ToEnd value = sym w ∙ h in cc)
end_fits P gives which s value t (WishesCreate code args w f) h i = absurd (let e : ToCreate code args ≡ ToEnd value = sym w ∙ h in cc)
end_fits P gives which s value t (WishesSync w) h i = absurd (let e : ToSync ≡ ToEnd value = sym w ∙ h in cc)
end_fits P gives which s value t (WishesGet f d w fits word q u is a) h i = absurd (let e : ToGet f ≡ ToEnd value = sym w ∙ h in cc)
end_fits P gives which s value t (WishesEnd v w u is f) h i =
    let e : ToEnd v ≡ ToEnd value = sym w ∙ h in
    let same : v ≡ value = cc in
    let text : u ≡ t = same_Some u t (sym is ∙ i) in
    subst (Fits gives t.depth) same (subst (λ (y : Text). Fits gives y.depth v) text f)

pub wished_end_fits : (gives : ℕ → ℕ → Bool) (P : tree.Program) (which : ℕ) (s : TaskState) (value : Value) (t : Text) → IsWellTyped P
    → IsTypedState gives P which s → local_step s ≡ None → wish_of P s ≡ ToEnd value → text_at P which ≡ Some t → Fits gives t.depth value
wished_end_fits gives P which s value t w x l h i = end_fits P gives which s value t (wished gives P which s w x l) h i

kind_one : (a b : Kind) (c d : ℕ) → a ≡ kind.Handle c → b ≡ kind.Handle d → a ≡ b → c ≡ d
kind_one a b c d e f g = let q : kind.Handle c ≡ kind.Handle d = sym e ∙ g ∙ f in cc

get_fits : (P : tree.Program) (gives : ℕ → ℕ → Bool) (which : ℕ) (s : TaskState) (future d : ℕ) → IsWellTyped P → Wished gives P which s
    → wish_of P s ≡ ToGet future → GetsDepth P which s d → gives future d ≡ true
get_fits P gives which s future d k (WishesRead c w) h g = absurd (let e : ToRead c ≡ ToGet future = sym w ∙ h in cc)
get_fits P gives which s future d k (WishesWrite c z w) h g = absurd (let e : ToWrite c z ≡ ToGet future = sym w ∙ h in cc)
get_fits P gives which s future d k (WishesSpawn code args w f) h g = absurd (let e : ToSpawn code args ≡ ToGet future = sym w ∙ h in cc)
get_fits P gives which s future d k (WishesCreate code args w f) h g = absurd (let e : ToCreate code args ≡ ToGet future = sym w ∙ h in cc)
get_fits P gives which s future d k (WishesSync w) h g = absurd (let e : ToSync ≡ ToGet future = sym w ∙ h in cc)
get_fits P gives which s future d k (WishesGet f c w fits word q t is a) h (u, v, at, got, b) =
    let e : ToGet f ≡ ToGet future = sym w ∙ h in
    let same : f ≡ future = cc in
    let text : u ≡ t = same_Some u t (sym at ∙ is) in
    let names : v ≡ word = same_Some v word (sym got ∙ q) in
    let there : Among (record { name = word; kind = kind.Handle d }) (variables_of t) =
    subst (λ (y : Text). Among (record { name = word; kind = kind.Handle d }) (variables_of y)) text
    (subst (λ y. Among (record { name = y; kind = kind.Handle d }) (variables_of u)) names b)
    in
    let one = (good_text P which t k is).apart.one (record { name = word; kind = kind.Handle c }) (record { name = word; kind = kind.Handle d }) a there refl in
    let depth : c ≡ d = kind_one (kind.Handle c) (kind.Handle d) c d refl refl (ap (λ (x : Variable). x.kind) one) in
    subst (λ y. gives future y ≡ true) depth (subst (λ y. gives y c ≡ true) same fits)
get_fits P gives which s future d k (WishesEnd v w t is f) h g = absurd (let e : ToEnd v ≡ ToGet future = sym w ∙ h in cc)

pub wished_get_fits : (gives : ℕ → ℕ → Bool) (P : tree.Program) (which : ℕ) (s : TaskState) (future d : ℕ) → IsWellTyped P → IsTypedState gives P which s
    → local_step s ≡ None → wish_of P s ≡ ToGet future → GetsDepth P which s d → gives future d ≡ true
wished_get_fits gives P which s future d w x l h g = get_fits P gives which s future d w (wished gives P which s w x l) h g
