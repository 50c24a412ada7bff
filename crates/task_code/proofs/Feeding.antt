-- What an entry makes of a task.
use Rattle.std.proofs.Common.{◌≡◌, ℕ, Bool, true, false, List, [], ◌∷◌, drop, refl, sym, ap, ◌∙◌, subst}
use Rattle.std.specs.Prelude.{ℤ, Option, Some, None, slice_get}
use Rattle.task_machine.proofs.Stepping.{receives_open}
use Rattle.fut_base.specs.declared.record.Value.{Value}
use Rattle.fut_base.specs.declared.record.Value.TheVariants.{Int, Fut}
use Rattle.fut_base.specs.declared.event.Action.{Action}
use Rattle.fut_base.specs.declared.event.Action.TheVariants.{Reads, Writes, Spawns, Creates, Syncs, Gets, Ends}
use Rattle.fut_syntax.specs.Trees as tree
use Rattle.task_machine.specs.Variables.{Variables}
use Rattle.task_machine.specs.State.{TaskState, Wish, ToRead, ToWrite, ToSpawn, ToCreate, ToSync, ToGet, set_by, write_of}
use Rattle.task_machine.specs.State.{spawn_of, end_of, wish_by, wish_of, first_wish, receives, after_sync, effect_of, Answers}
use Rattle.task_code.specs.declared.code.TaskCode.{TaskCode}
use Rattle.task_frame.specs.declared.instruction.Instruction.{Instruction}
use Rattle.task_frame.specs.declared.instruction.Fill.TheVariants as fill
use Rattle.task_code.specs.declared.task.Spot.{Spot}
use Rattle.task_frame.specs.Frames.{Held}
use Rattle.task_frame.specs.Names.{Holds, rooms_by}
use Rattle.task_code.specs.Flat.{DoesStmt, fill_of}
use Rattle.task_code.specs.Tasks.{Does, IsEnd, IsIn, where_of, received, received_by, slots_after, place_after, ended_after, spot_after}
use Rattle.task_code.proofs.Simulating.{holds_filled, holds_refilled}

-- ---- kinds of wishes

abbrev IsReceiving : Wish → Type 0
IsReceiving (ToRead _) = Unit {0}
IsReceiving (ToCreate _ _) = Unit {0}
IsReceiving (ToGet _) = Unit {0}
IsReceiving _ = ⊥

abbrev IsPassing : Wish → Type 0
IsPassing (ToWrite _ _) = Unit {0}
IsPassing (ToSpawn _ _) = Unit {0}
IsPassing _ = ⊥

abbrev IsSyncing : Wish → Type 0
IsSyncing ToSync = Unit {0}
IsSyncing _ = ⊥

end_receives_not : (b : Bool) (v : Value) → IsReceiving (end_of b v) → ⊥
end_receives_not true v h = h
end_receives_not false v h = h

write_receives_not : (o : Option ℕ) (z : ℤ) → IsReceiving (write_of o z) → ⊥
write_receives_not None z h = h
write_receives_not (Some c) z h = h

spawn_receives_not : (o : Option ℕ) (args : List Value) → IsReceiving (spawn_of o args) → ⊥
spawn_receives_not None args h = h
spawn_receives_not (Some n) args h = h

end_passes_not : (b : Bool) (v : Value) → IsPassing (end_of b v) → ⊥
end_passes_not true v h = h
end_passes_not false v h = h

-- ---- what is kept

abbrev After : tree.Program → TaskCode → Held → ℕ → Action → Option Instruction → Variables → List tree.Stmt → Type 0
After P t held place a o vars todo = Holds t.names vars (slots_after held o a) × Does (where_of P t) t.instructions (place_after place o) todo

at_code : (P : tree.Program) (t : TaskCode) (held : Held) (place : ℕ) (a : Action) (o p : Option Instruction) (vars : Variables) (todo : List tree.Stmt)
    → p ≡ o → After P t held place a o vars todo → After P t held place a p vars todo
at_code P t held place a o p vars todo e f = subst (λ q. After P t held place a q vars todo) (sym e) f

-- a value was received
received_after : (P : tree.Program) (t : TaskCode) (s : TaskState) (held : Held) (stmt : tree.Stmt) (rest : List tree.Stmt) (place next : ℕ) (a : Action)
    (v : Value) → Holds t.names s.vars held.slots → held.rooms ≡ rooms_by t.names
    → DoesStmt (where_of P t) t.instructions stmt next place → Does (where_of P t) t.instructions next rest → received_by a ≡ Some v
    → IsReceiving (wish_by P s stmt)
    → After P t held place a (slice_get t.instructions place) (set_by stmt s.vars v) rest
received_after P t s held (tree.Declare w type) rest place next a v h rooms d does got wish = absurd wish
received_after P t s held (tree.Define w type init) rest place next a v h rooms (i, there, (n, x, found, room, from, is)) does got wish =
    at_code P t held place a _ (slice_get t.instructions place) (set_by (tree.Define w type init) s.vars v) rest (there ∙ ap Some is) (
      subst (λ o. Holds t.names (set_by (tree.Define w type init) s.vars v) (received held (record { variable = n; fill = fill_of type }) o)) (sym got)
          (holds_filled t.names s.vars held w n type v h rooms found room),
      does,
    )
received_after P t s held (tree.Assign w init) rest place next a v h rooms (i, there, (n, x, found, from, is)) does got wish =
    at_code P t held place a _ (slice_get t.instructions place) (set_by (tree.Assign w init) s.vars v) rest (there ∙ ap Some is) (
      subst (λ o. Holds t.names (set_by (tree.Assign w init) s.vars v) (received held (record { variable = n; fill = fill.Again }) o)) (sym got)
          (holds_refilled t.names s.vars held w n v h found),
      does,
    )
received_after P t s held (tree.Store w e f) rest place next a v h rooms d does got wish = absurd (write_receives_not _ _ wish)
received_after P t s held (tree.SpawnOf w es) rest place next a v h rooms d does got wish = absurd (spawn_receives_not _ _ wish)
received_after P t s held tree.SyncAll rest place next a v h rooms d does got wish = absurd wish
received_after P t s held (tree.Return' e) rest place next a v h rooms d does got wish = absurd (end_receives_not _ _ wish)
received_after P t s held (tree.If' e b o) rest place next a v h rooms d does got wish = absurd wish
received_after P t s held (tree.While' e b) rest place next a v h rooms d does got wish = absurd wish

-- nothing was received, and the statement is done
passed_after : (P : tree.Program) (t : TaskCode) (s : TaskState) (held : Held) (stmt : tree.Stmt) (rest : List tree.Stmt) (place next : ℕ) (a : Action)
    → Holds t.names s.vars held.slots
    → DoesStmt (where_of P t) t.instructions stmt next place → Does (where_of P t) t.instructions next rest → received_by a ≡ None
    → IsPassing (wish_by P s stmt)
    → After P t held place a (slice_get t.instructions place) s.vars rest
passed_after P t s held (tree.Declare w type) rest place next a h d does got wish = absurd wish
passed_after P t s held (tree.Define w type init) rest place next a h (i, there, (n, x, found, room, from, is)) does got wish =
    at_code P t held place a _ (slice_get t.instructions place) s.vars rest (there ∙ ap Some is)
    (subst (λ o. Holds t.names s.vars (received held (record { variable = n; fill = fill_of type }) o)) (sym got) h, does)
passed_after P t s held (tree.Assign w init) rest place next a h (i, there, (n, x, found, from, is)) does got wish =
    at_code P t held place a _ (slice_get t.instructions place) s.vars rest (there ∙ ap Some is)
    (subst (λ o. Holds t.names s.vars (received held (record { variable = n; fill = fill.Again }) o)) (sym got) h, does)
passed_after P t s held (tree.Store w e f) rest place next a h (i, there, (x, y, m, n, is)) does got wish =
    at_code P t held place a _ (slice_get t.instructions place) s.vars rest (there ∙ ap Some is) (h, does)
passed_after P t s held (tree.SpawnOf w es) rest place next a h (i, there, (n, ts, found, m, is)) does got wish =
    at_code P t held place a _ (slice_get t.instructions place) s.vars rest (there ∙ ap Some is) (h, does)
passed_after P t s held tree.SyncAll rest place next a h d does got wish = absurd wish
passed_after P t s held (tree.Return' e) rest place next a h d does got wish = absurd (end_passes_not _ _ wish)
passed_after P t s held (tree.If' e b o) rest place next a h d does got wish = absurd wish
passed_after P t s held (tree.While' e b) rest place next a h d does got wish = absurd wish

-- the block was closed: a `return` stays
synced_after : (P : tree.Program) (t : TaskCode) (s : TaskState) (held : Held) (stmt : tree.Stmt) (rest : List tree.Stmt) (place next : ℕ) (a : Action)
    → Holds t.names s.vars held.slots
    → DoesStmt (where_of P t) t.instructions stmt next place → Does (where_of P t) t.instructions next rest → received_by a ≡ None
    → IsSyncing (wish_by P s stmt)
    → After P t held place a (slice_get t.instructions place) s.vars (after_sync (stmt ∷ rest))
synced_after P t s held (tree.Declare w type) rest place next a h d does got wish = absurd wish
synced_after P t s held (tree.Define w type init) rest place next a h (i, there, (n, x, found, room, from, is)) does got wish =
    at_code P t held place a _ (slice_get t.instructions place) s.vars rest (there ∙ ap Some is)
    (subst (λ o. Holds t.names s.vars (received held (record { variable = n; fill = fill_of type }) o)) (sym got) h, does)
synced_after P t s held (tree.Assign w init) rest place next a h (i, there, (n, x, found, from, is)) does got wish =
    at_code P t held place a _ (slice_get t.instructions place) s.vars rest (there ∙ ap Some is)
    (subst (λ o. Holds t.names s.vars (received held (record { variable = n; fill = fill.Again }) o)) (sym got) h, does)
synced_after P t s held (tree.Store w e f) rest place next a h (i, there, (x, y, m, n, is)) does got wish =
    at_code P t held place a _ (slice_get t.instructions place) s.vars rest (there ∙ ap Some is) (h, does)
synced_after P t s held (tree.SpawnOf w es) rest place next a h (i, there, (n, ts, found, m, is)) does got wish =
    at_code P t held place a _ (slice_get t.instructions place) s.vars rest (there ∙ ap Some is) (h, does)
synced_after P t s held tree.SyncAll rest place next a h (i, there, is) does got wish =
    at_code P t held place a _ (slice_get t.instructions place) s.vars rest (there ∙ ap Some is) (h, does)
synced_after P t s held (tree.Return' e) rest place next a h (i, there, (v, m, is)) does got wish =
    at_code P t held place a _ (slice_get t.instructions place) s.vars (tree.Return' e ∷ rest) (there ∙ ap Some is) (h, (next, (i, there, (v, m, is)), does))
synced_after P t s held (tree.If' e b o) rest place next a h d does got wish = absurd wish
synced_after P t s held (tree.While' e b) rest place next a h d does got wish = absurd wish

-- a body that ends stays where it is
ended_stays : (P : tree.Program) (t : TaskCode) (held : Held) (vars : Variables) (place : ℕ) (a : Action) (o : Option Instruction)
    → Holds t.names vars held.slots → slice_get t.instructions place ≡ o → IsEnd o → After P t held place a o vars []
ended_stays P t held vars place a None h there e = (h, subst IsEnd (sym there) e)
ended_stays P t held vars place a (Some i) h there e =
    at_code P t held place a _ (Some i) vars [] (ap Some e) (h, subst IsEnd (sym there) e)

-- ---- by the action

received_todo : (P : tree.Program) (t : TaskCode) (s : TaskState) (held : Held) (todo : List tree.Stmt) (place : ℕ) (a : Action) (v : Value)
    → Holds t.names s.vars held.slots → held.rooms ≡ rooms_by t.names → Does (where_of P t) t.instructions place todo
    → received_by a ≡ Some v → IsReceiving (first_wish P s todo) → After P t held place a (slice_get t.instructions place) (receives s todo v).vars
    (receives s todo v).todo
received_todo P t s held [] place a v h rooms does got wish = absurd (end_receives_not _ _ wish)
received_todo P t s held (stmt ∷ rest) place a v h rooms (next, first, does) got wish =
    received_after P t s held stmt rest place next a v h rooms first does got wish

passed_todo : (P : tree.Program) (t : TaskCode) (s : TaskState) (held : Held) (todo : List tree.Stmt) (place : ℕ) (a : Action)
    → Holds t.names s.vars held.slots → Does (where_of P t) t.instructions place todo
    → received_by a ≡ None → IsPassing (first_wish P s todo) → After P t held place a (slice_get t.instructions place) s.vars (drop 1 todo)
passed_todo P t s held [] place a h does got wish = absurd (end_passes_not _ _ wish)
passed_todo P t s held (stmt ∷ rest) place a h (next, first, does) got wish = passed_after P t s held stmt rest place next a h first does got wish

synced_todo : (P : tree.Program) (t : TaskCode) (s : TaskState) (held : Held) (todo : List tree.Stmt) (place : ℕ) (a : Action)
    → Holds t.names s.vars held.slots → Does (where_of P t) t.instructions place todo
    → received_by a ≡ None → IsSyncing (first_wish P s todo) → After P t held place a (slice_get t.instructions place) s.vars (after_sync todo)
synced_todo P t s held [] place a h does got wish = ended_stays P t held s.vars place a (slice_get t.instructions place) h refl does
synced_todo P t s held (stmt ∷ rest) place a h (next, first, does) got wish = synced_after P t s held stmt rest place next a h first does got wish

pub fed_in : (P : tree.Program) (t : TaskCode) (spot : Spot) (held : Held) (s : TaskState) (a : Action) → IsIn P t spot held s → Answers (wish_of P s) a
    → ended_after spot.ended a ≡ false
    → IsIn P t (spot_after spot (slice_get t.instructions spot.place) a)
    (record { slots = slots_after held (slice_get t.instructions spot.place) a; rooms = held.rooms }) (effect_of s a)
fed_in P t spot held s (Reads cell value) x answers running =
    let r = received_todo P t s held s.todo spot.place (Reads cell value) (Int value) x.vars x.rooms x.todo refl (subst IsReceiving (sym answers) tt) in
    record { vars = r.0; rooms = x.rooms; is_open = x.is_open ∙ sym (receives_open s s.todo (Int value)); todo = r.1 }
fed_in P t spot held s (Writes cell value) x answers running =
    let r = passed_todo P t s held s.todo spot.place (Writes cell value) x.vars x.todo refl (subst IsPassing (sym answers) tt) in
    record { vars = r.0; rooms = x.rooms; is_open = x.is_open; todo = r.1 }
fed_in P t spot held s (Spawns code child kid cont args) x answers running =
    let r = passed_todo P t s held s.todo spot.place (Spawns code child kid cont args) x.vars x.todo refl (subst IsPassing (sym answers) tt) in
    record { vars = r.0; rooms = x.rooms; is_open = refl; todo = r.1 }
fed_in P t spot held s (Creates code child kid cont args) x answers running =
    let r = received_todo P t s held s.todo spot.place (Creates code child kid cont args) (Fut child) x.vars x.rooms x.todo refl
    (subst IsReceiving (sym answers) tt) in
    record { vars = r.0; rooms = x.rooms; is_open = x.is_open ∙ sym (receives_open s s.todo (Fut child)); todo = r.1 }
fed_in P t spot held s (Syncs strand) x answers running =
    let r = synced_todo P t s held s.todo spot.place (Syncs strand) x.vars x.todo refl (subst IsSyncing (sym answers) tt) in
    record { vars = r.0; rooms = x.rooms; is_open = refl; todo = r.1 }
fed_in P t spot held s (Gets future value strand) x answers running =
    let r = received_todo P t s held s.todo spot.place (Gets future value strand) value x.vars x.rooms x.todo refl (subst IsReceiving (sym answers) tt) in
    record { vars = r.0; rooms = x.rooms; is_open = x.is_open ∙ sym (receives_open s s.todo value); todo = r.1 }
fed_in P t spot held s (Ends value) x answers running = absurd (cc)
