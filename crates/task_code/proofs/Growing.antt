-- Code that others are put behind does what it did.
use Rattle.std.proofs.Common.{◌≡◌, ℕ, zero, suc, ◌+◌, ◌-◌, ◌<◌, ◌≤◌, List, [], ◌∷◌, ◌++◌, length, drop, get_or}
use Rattle.std.proofs.Common.{refl, sym, ap, ◌∙◌, subst, arith, append_assoc, length-append, le_refl}
use Rattle.std.specs.Prelude.{Some, slice_get, Result, Ok, Err, IfOk, OnOk}
use Rattle.std.proofs.lemmas.List.{append-nil, drop_all}
use Rattle.fut_rules.proofs.Drops.{dropped}
use Rattle.fut_base.specs.declared.list.NoMemory.{NoMemory}
use Rattle.fut_syntax.specs.declared.tree.Stmt.{Stmt}
use Rattle.fut_syntax.specs.Trees as tree
use Rattle.fut_syntax.specs.Views.{stmt_tree, block_tree}
use Rattle.task_frame.specs.declared.term.Term.{Term}
use Rattle.task_frame.specs.declared.instruction.Instruction.{Instruction}
use Rattle.task_frame.specs.declared.instruction.Instruction.TheVariants.{Branch}
use Rattle.task_code.specs.Serving.{instructions_for, instructions_in}
use Rattle.task_code.specs.Flat.{Context, MeansExpr, Stands, DoesStmt, DoesBlock, DoesTail, Grows}

get_more : (code more : List Instruction) (place : ℕ) (i : Instruction) → slice_get code place ≡ Some i → slice_get (code ++ more) place ≡ Some i
get_more [] more place i h = absurd (cc)
get_more (x ∷ code) more zero i h = h
get_more (x ∷ code) more (suc place) i h = get_more code more place i h

pub get_last : (code : List Instruction) (i : Instruction) → slice_get (code ++ i ∷ []) (length code) ≡ Some i
get_last [] i = refl
get_last (x ∷ code) i = get_last code i

stands_more : (code more : List Instruction) (place : ℕ) (what : Instruction → Type 0) → Stands code place what → Stands (code ++ more) place what
stands_more code more place what (i, there, is) = (i, get_more code more place i there, is)

mutual
  stmt_more : (g : Context) (code more : List Instruction) (s : tree.Stmt) (next entry : ℕ) → DoesStmt g code s next entry
      → DoesStmt g (code ++ more) s next entry
  stmt_more g code more (tree.If' e b t) next entry (test, then, otherwise, means, there, block, tail) =
      (test, then, otherwise, means, get_more code more entry _ there, block_more g code more b next then block, tail_more g code more t next otherwise tail)
  stmt_more g code more (tree.While' e b) next entry (test, then, means, there, block) =
      (test, then, means, get_more code more entry _ there, block_more g code more b entry then block)
  stmt_more g code more (tree.Declare w type) next entry h = stands_more code more entry _ h
  stmt_more g code more (tree.Define w type init) next entry h = stands_more code more entry _ h
  stmt_more g code more (tree.Assign w init) next entry h = stands_more code more entry _ h
  stmt_more g code more (tree.Store w e f) next entry h = stands_more code more entry _ h
  stmt_more g code more (tree.SpawnOf w es) next entry h = stands_more code more entry _ h
  stmt_more g code more tree.SyncAll next entry h = stands_more code more entry _ h
  stmt_more g code more (tree.Return' e) next entry h = stands_more code more entry _ h

  block_more : (g : Context) (code more : List Instruction) (b : tree.Block) (next entry : ℕ) → DoesBlock g code b next entry
      → DoesBlock g (code ++ more) b next entry
  block_more g code more tree.Done next entry h = h
  block_more g code more (tree.Then s rest) next entry (middle, first, others) =
      (middle, stmt_more g code more s middle entry first, block_more g code more rest next middle others)

  tail_more : (g : Context) (code more : List Instruction) (t : tree.Tail) (next entry : ℕ) → DoesTail g code t next entry
      → DoesTail g (code ++ more) t next entry
  tail_more g code more tree.NoElse next entry h = h
  tail_more g code more (tree.ElseOf b) next entry h = block_more g code more b next entry h

pub grows_not : (code : List Instruction) → Grows code code
grows_not code = record { more = []; is = sym (append-nil code) }

pub grows_on : (a b c : List Instruction) → Grows a b → Grows b c → Grows a c
grows_on a b c x y = record { more = x.more ++ y.more; is = y.is ∙ ap (λ xs. xs ++ y.more) x.is ∙ append_assoc a x.more y.more }

pub block_grown : (g : Context) (old new : List Instruction) (b : tree.Block) (next entry : ℕ) → Grows old new → DoesBlock g old b next entry
    → DoesBlock g new b next entry
block_grown g old new b next entry x h = subst (λ c. DoesBlock g c b next entry) (sym x.is) (block_more g old x.more b next entry h)

tail_grown : (g : Context) (old new : List Instruction) (t : tree.Tail) (next entry : ℕ) → Grows old new → DoesTail g old t next entry
    → DoesTail g new t next entry
tail_grown g old new t next entry x h = subst (λ c. DoesTail g c t next entry) (sym x.is) (tail_more g old x.more t next entry h)

-- what the adding of an instruction gives
abbrev pub Pushed : List Instruction → List Instruction → Instruction → ℕ → Type 0
Pushed old new i at = (new ≡ old ++ i ∷ []) × (at ≡ length old)

pushed_there : (old new : List Instruction) (i : Instruction) (at : ℕ) → Pushed old new i at → slice_get new at ≡ Some i
pushed_there old new i at p = ap (λ c. slice_get c at) p.0 ∙ ap (slice_get (old ++ i ∷ [])) p.1 ∙ get_last old i

pub grows_by_one : (old new : List Instruction) (i : Instruction) (at : ℕ) → Pushed old new i at → Grows old new
grows_by_one old new i at p = record { more = i ∷ []; is = p.0 }

pub one_added : (what : Instruction → Type 0) (old new : List Instruction) (i : Instruction) (r : Result ℕ NoMemory) → what i
    → IfOk r (λ at. Pushed old new i at) → IfOk r (λ at. Grows old new × Stands new at what)
one_added what old new i (Ok at) is p = (grows_by_one old new i at p, (i, pushed_there old new i at p, is))
one_added what old new i (Err e) is p = tt

pub if_added : (g : Context) (s : tree.Stmt) (e : tree.Expr) (b : tree.Block) (t : tree.Tail) (test : Term) (next then otherwise : ℕ)
    (c0 c1 c2 c3 : List Instruction) (r : Result ℕ NoMemory) → s ≡ tree.If' e b t → MeansExpr g.names e test
    → Grows c0 c1 × DoesTail g c1 t next otherwise → Grows c1 c2 × DoesBlock g c2 b next then → IfOk r (λ at. Pushed c2 c3 (Branch test then otherwise) at)
    → IfOk r (λ at. Grows c0 c3 × DoesStmt g c3 s next at)
if_added g s e b t test next then otherwise c0 c1 c2 c3 (Ok at) is means x y p =
    let last = grows_by_one c2 c3 _ at p in (
      grows_on c0 c1 c3 x.0 (grows_on c1 c2 c3 y.0 last),
      subst (λ (q : tree.Stmt). DoesStmt g c3 q next at) (sym is) (
        test,
        then,
        otherwise,
        means,
        pushed_there c2 c3 _ at p,
        block_grown g c2 c3 b next then last y.1,
        tail_grown g c1 c3 t next otherwise (grows_on c1 c2 c3 y.0 last) x.1,
      ),
    )
if_added g s e b t test next then otherwise c0 c1 c2 c3 (Err x) is means y z p = tt

pub while_added : (g : Context) (s : tree.Stmt) (e : tree.Expr) (b : tree.Block) (test : Term) (next then entry : ℕ) (c0 c1 c2 : List Instruction)
    (r : Result ℕ NoMemory) → s ≡ tree.While' e b → MeansExpr g.names e test → Grows c0 c1 × DoesBlock g c1 b entry then
    → length c1 ≡ entry → IfOk r (λ at. Pushed c1 c2 (Branch test then next) at) → IfOk r (λ at. Grows c0 c2 × DoesStmt g c2 s next at)
while_added g s e b test next then entry c0 c1 c2 (Ok at) is means x there p =
    let last = grows_by_one c1 c2 _ at p in
    let same : at ≡ entry = p.1 ∙ there in (
      grows_on c0 c1 c2 x.0 last,
      subst (λ (q : tree.Stmt). DoesStmt g c2 q next at) (sym is)
          (test, then, means, pushed_there c1 c2 _ at p, subst (λ m. DoesBlock g c2 b m then) (sym same) (block_grown g c1 c2 b entry then last x.1)),
    )
while_added g s e b test next then entry c0 c1 c2 (Err x) is means y there p = tt

-- ---- the loop over a block

pub block_begun : (g : Context) (code : List Instruction) (stmts : List Stmt) (next : ℕ) → DoesBlock g code (block_tree (drop (length stmts) stmts)) next next
block_begun g code stmts next = subst (λ ss. DoesBlock g code (block_tree ss) next next) (sym (drop_all (length stmts) stmts (le_refl (length stmts)))) refl

pub block_longer : (g : Context) (old new : List Instruction) (stmts : List Stmt) (i : ℕ) (s : Stmt) (next entry at : ℕ) → 0 < i → i ≤ length stmts
    → s ≡ get_or stmts (i - 1) s → Grows old new × DoesStmt g new (stmt_tree s) entry at
    → DoesBlock g old (block_tree (drop i stmts)) next entry → DoesBlock g new (block_tree (drop (i - 1) stmts)) next at
block_longer g old new stmts i s next entry at some le read x h =
    let one : (i - 1) + 1 ≡ i = omega arith in
    let split : drop (i - 1) stmts ≡ s ∷ drop i stmts = dropped stmts (i - 1) s (omega arith) read ∙ ap (λ n. s ∷ drop n stmts) one in
    subst (λ ss. DoesBlock g new (block_tree ss) next at) (sym split) (entry, x.1, block_grown g old new (block_tree (drop i stmts)) next entry x.0 h)

pub block_done : (g : Context) (code : List Instruction) (stmts : List Stmt) (i next entry : ℕ) → i ≡ 0
    → DoesBlock g code (block_tree (drop i stmts)) next entry → DoesBlock g code (block_tree stmts) next entry
block_done g code stmts i next entry none h = subst (λ n. DoesBlock g code (block_tree (drop n stmts)) next entry) none h

-- ---- how many instructions there are

pub block_counted : (stmts : List Stmt) (i : ℕ) (s : Stmt) → 0 < i → i ≤ length stmts → s ≡ get_or stmts (i - 1) s
    → instructions_in (block_tree (drop (i - 1) stmts)) ≡ instructions_for (stmt_tree s) + instructions_in (block_tree (drop i stmts))
block_counted stmts i s some le read =
    let one : (i - 1) + 1 ≡ i = omega arith in
    ap (λ ss. instructions_in (block_tree ss)) (dropped stmts (i - 1) s (omega arith) read ∙ ap (λ n. s ∷ drop n stmts) one)

pub rest_fewer : (stmts : List Stmt) (i : ℕ) → instructions_in (block_tree (drop i stmts)) ≤ instructions_in (block_tree stmts)
rest_fewer [] zero = omega arith
rest_fewer [] (suc i) = omega arith
rest_fewer (s ∷ stmts) zero = omega arith
rest_fewer (s ∷ stmts) (suc i) = let r = rest_fewer stmts i in omega (arith, r)

pub none_begun : (stmts : List Stmt) → instructions_in (block_tree (drop (length stmts) stmts)) ≡ 0
none_begun stmts = ap (λ ss. instructions_in (block_tree ss)) (drop_all (length stmts) stmts (le_refl (length stmts)))

pub pushed_count : (old new : List Instruction) (i : Instruction) (r : Result ℕ NoMemory) (n : ℕ) → length old ≡ n → IfOk r (λ at. Pushed old new i at)
    → OnOk r (length new ≡ n + 1)
pushed_count old new i (Ok at) n is p = ap length p.0 ∙ (length-append old (i ∷ []) ∙ ap (λ k. k + 1) is)
pushed_count old new i (Err e) n is p = tt

pub one_longer : (old new : List Instruction) (i : Instruction) → new ≡ old ++ i ∷ [] → length new ≡ length old + 1
one_longer old new i is = ap length is ∙ length-append old (i ∷ [])
