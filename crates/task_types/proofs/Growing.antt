-- What fits goes on to fit where more futures are known.
use Rattle.std.proofs.Common.{ℕ, zero, suc, Bool, List, [], ◌∷◌}
use Rattle.fut_base.specs.declared.record.Value.{Value}
use Rattle.fut_base.specs.declared.record.Value.TheVariants.{Int, Fut}
use Rattle.fut_base.specs.declared.event.Action.{Action}
use Rattle.fut_base.specs.declared.event.Action.TheVariants.{Reads, Writes, Spawns, Creates, Syncs, Gets, Ends}
use Rattle.fut_syntax.specs.Trees as tree
use Rattle.fut_rules.specs.declared.kind.Kind.{Kind}
use Rattle.fut_rules.specs.declared.kind.Kind.TheVariants as kind
use Rattle.fut_rules.specs.Kinds.{kind_of}
use Rattle.task_machine.specs.Variables.{Slot, One, Many}
use Rattle.task_machine.specs.State.{TaskState}
use Rattle.task_types.specs.Typed.{Fits, AllFit, HasKind, ParamsFit, slot_of, ArgsFit, ActionFits, IsTypedState}
use Rattle.task_types.specs.Running.{Grows}

pub fits_on : (old new : ℕ → ℕ → Bool) (d : ℕ) (v : Value) → Grows old new → Fits old d v → Fits new d v
fits_on old new zero (Int z) g h = tt
fits_on old new zero (Fut f) g h = h
fits_on old new (suc d) (Int z) g h = h
fits_on old new (suc d) (Fut f) g h = g f d h

all_on : (old new : ℕ → ℕ → Bool) (d : ℕ) (vs : List Value) → Grows old new → AllFit old d vs → AllFit new d vs
all_on old new d [] g h = tt
all_on old new d (v ∷ vs) g h = (fits_on old new d v g h.0, all_on old new d vs g h.1)

kind_on : (old new : ℕ → ℕ → Bool) (k : Kind) (s : Slot) → Grows old new → HasKind old k s → HasKind new k s
kind_on old new kind.Int (One v) g h = fits_on old new 0 v g h
kind_on old new kind.Int (Many vs) g h = h
kind_on old new (kind.Handle d) (One v) g h = fits_on old new (suc d) v g h
kind_on old new (kind.Handle d) (Many vs) g h = h
kind_on old new (kind.Array d n) (One v) g h = h
kind_on old new (kind.Array d n) (Many vs) g h = (h.0, all_on old new d vs g h.1)

params_on : (old new : ℕ → ℕ → Bool) (ps : List tree.Param) (vs : List Value) → Grows old new → ParamsFit old ps vs → ParamsFit new ps vs
params_on old new [] vs g h = h
params_on old new (p ∷ ps) vs g (own, rest, split, has, count, more) =
    (own, rest, split, kind_on old new (kind_of p.type) (slot_of (kind_of p.type) own) g has, count, params_on old new ps rest g more)

pub args_on : (old new : ℕ → ℕ → Bool) (P : tree.Program) (which : ℕ) (args : List Value) → Grows old new → ArgsFit old P which args → ArgsFit new P which args
args_on old new P which args g (t, is, fit) = (t, is, params_on old new t.params args g fit)

pub typed_on : (old new : ℕ → ℕ → Bool) (P : tree.Program) (which : ℕ) (s : TaskState) → Grows old new → IsTypedState old P which s → IsTypedState new P which s
typed_on old new P which s g x =
    record {
      text = x.text;
      is = x.is;
      known = x.known;
      declared = x.declared;
      holds = λ y i. kind_on old new y.kind _ g (x.holds y i);
      globals = x.globals;
      todo = x.todo;
      returns = x.returns;
    }

pub action_on : (old new : ℕ → ℕ → Bool) (P : tree.Program) (which : ℕ) (s : TaskState) (a : Action) → Grows old new → ActionFits old P which s a
    → ActionFits new P which s a
action_on old new P which s (Reads cell value) g h = tt
action_on old new P which s (Writes cell value) g h = tt
action_on old new P which s (Spawns code child kid cont args) g h = tt
action_on old new P which s (Creates code child kid cont args) g h = λ t is. g child t.depth (h t is)
action_on old new P which s (Syncs strand) g h = tt
action_on old new P which s (Gets future value strand) g h = λ d x. fits_on old new d value g (h d x)
action_on old new P which s (Ends value) g h = tt
