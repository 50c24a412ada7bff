-- How a task begins.
use Rattle.std.proofs.Common.{◌≡◌, ℕ, zero, suc, ◌+◌, ◌-◌, ◌<◌, ◌≤◌, cond, List, [], ◌∷◌, length}
use Rattle.std.proofs.Common.{take, drop, get_or, replicate, refl, sym, ap, ◌∙◌, subst, arith}
use Rattle.std.specs.Prelude.{Option, Some, None, bytes_eq, slice_set, slice_index}
use Rattle.std.proofs.lemmas.List.{get_or-set_same, length-set, length-replicate}
use Rattle.std.proofs.lemmas.Bool.{both_ways}
use Rattle.fut_base.proofs.Cases.{by_bool}
use Rattle.fut_base.specs.declared.record.Value.{Value}
use Rattle.fut_syntax.specs.Trees as tree
use Rattle.fut_syntax.specs.Views.{type_tree}
use Rattle.task_machine.specs.Variables.{Slot, Many, Variables, slot_at, size_of, taken, bound}
use Rattle.task_types.proofs.Slots.{same_word, word_is}
use Rattle.task_frame.specs.declared.names.Name.{Name}
use Rattle.task_code.specs.declared.code.ParamCode.{ParamCode}
use Rattle.task_code.specs.declared.code.TaskCode.{TaskCode}
use Rattle.task_frame.specs.Frames.{slot_for, zero_slot}
use Rattle.task_frame.specs.Names.{find_name, rooms_by, Holds, HasRoom}
use Rattle.task_code.specs.Flat.{AreGiven, code_or_none}
use Rattle.task_code.specs.Starting.{taken_in, offset_of}
use Rattle.task_code.proofs.Simulating.{below_names, one_word, unset}

zeros_read : (n i : ℕ) → get_or (replicate n zero_slot) i zero_slot ≡ zero_slot
zeros_read zero i = refl
zeros_read (suc n) zero = refl
zeros_read (suc n) (suc i) = zeros_read n i

zeros_for : (n : ℕ) (o : Option ℕ) → zero_slot ≡ slot_for (replicate n zero_slot) o
zeros_for n None = refl
zeros_for n (Some i) = sym (zeros_read n i)

holds_nothing : (names : List Name) (slots : List Slot) → slots ≡ replicate (length names) zero_slot → Holds names [] slots
holds_nothing names slots is =
    record {
      each = λ w. zeros_for (length names) (find_name names w) ∙ ap (λ ss. slot_for ss (find_name names w)) (sym is);
      long = ap length is ∙ length-replicate (length names) zero_slot;
    }

as_many : (names : List Name) (at : ℕ) (ps : List tree.Param) (xs : List ParamCode) → AreGiven names at ps xs → length ps ≡ length xs
as_many names at [] [] h = refl
as_many names at [] (x ∷ xs) h = absurd h
as_many names at (p ∷ ps) [] h = absurd h
as_many names at (p ∷ ps) (x ∷ xs) h = ap suc (as_many names (at + size_of p.type) ps xs h.4)

none_left : {X : Type 0} (xs : List X) (i : ℕ) → length xs ≤ i → drop i xs ≡ []
none_left [] zero h = refl
none_left [] (suc i) h = refl
none_left (x ∷ xs) zero h = absurd (omega arith)
none_left (x ∷ xs) (suc i) h = none_left xs i (omega arith)

pub begun : (names : List Name) (ps : List tree.Param) (xs : List ParamCode) (slots : List Slot) (args : List Value)
    → slots ≡ replicate (length names) zero_slot → AreGiven names 0 ps xs → Holds names (bound (drop (length xs) ps) args) slots
begun names ps xs slots args is given =
    subst (λ qs. Holds names (bound qs args) slots) (sym (none_left ps (length xs) (omega (arith, as_many names 0 ps xs given)))) (holds_nothing names slots is)

-- what is known of a parameter
record GivenAt (names : List Name) (at : ℕ) (ps : List tree.Param) (i : ℕ) (x : ParamCode) : Type 0 where
  param : tree.Param
  there : drop i ps ≡ param ∷ drop (suc i) ps
  found : find_name names param.name ≡ Some x.variable
  first : x.first ≡ at + offset_of i ps
  kind : type_tree x.kind ≡ param.type
  room : HasRoom (rooms_by names) x.variable param.type
  next : offset_of (suc i) ps ≡ offset_of i ps + size_of param.type

given_at : (names : List Name) (at : ℕ) (ps : List tree.Param) (xs : List ParamCode) (i : ℕ) (x : ParamCode) → AreGiven names at ps xs → i < length xs
    → x ≡ get_or xs i x → GivenAt names at ps i x
given_at names at [] [] i x h below read = absurd (omega arith)
given_at names at [] (y ∷ xs) i x h below read = absurd h
given_at names at (p ∷ ps) [] i x h below read = absurd h
given_at names at (p ∷ ps) (y ∷ xs) zero x h below read =
    subst (λ (z : ParamCode). GivenAt names at (p ∷ ps) zero z) (sym read)
    (record { param = p; there = refl; found = h.0; first = h.1 ∙ (let e : at ≡ at + 0 = omega arith in e); kind = h.2; room = h.3; next = omega arith })
given_at names at (p ∷ ps) (y ∷ xs) (suc i) x h below read =
    let r = given_at names (at + size_of p.type) ps xs i x h.4 (omega arith) read in
    record { param = r.param; there = r.there; found = r.found; first = omega (arith, r.first); kind = r.kind; room = r.room; next = omega (arith, r.next) }

holds_front : (names : List Name) (vars : Variables) (slots : List Slot) (w : List ℕ) (n : ℕ) (x : Slot) → Holds names vars slots → find_name names w ≡ Some n
    → Holds names ((w, x) ∷ vars) (slice_set slots n x)
holds_front names vars slots w n x h found =
    record {
      each = λ u. by_bool (λ b. cond b x (slot_at vars u) ≡ slot_for (slice_set slots n x) (find_name names u)) (bytes_eq w u)
          (λ yes. (
          let set : x ≡ slot_for (slice_set slots n x) (find_name names w) =
          sym (get_or-set_same slots n x zero_slot (omega (arith, below_names names n w found, h.long))) ∙ ap (slot_for (slice_set slots n x)) (sym found) in
          subst (λ v. x ≡ slot_for (slice_set slots n x) (find_name names v)) (word_is w u yes) set))
          (λ no. h.each u ∙ unset slots n x (find_name names u)
          (λ m e same. both_ways (bytes_eq w u) no (same_word w u (one_word names m n u w e found same))));
      long = length-set slots n x ∙ h.long;
    }

take_none : {X : Type 0} (n : ℕ) → take {A = X} n [] ≡ []
take_none zero = refl
take_none (suc n) = refl

drop_none : {X : Type 0} (n : ℕ) → [] ≡ drop {A = X} n []
drop_none zero = refl
drop_none (suc n) = refl

take_twice : {X : Type 0} (room k : ℕ) (xs : List X) → k ≤ room → take room (take k xs) ≡ take k xs
take_twice room zero xs h = take_none room
take_twice zero (suc k) xs h = absurd (omega arith)
take_twice (suc room) (suc k) [] h = refl
take_twice (suc room) (suc k) (x ∷ xs) h = ap (λ ys. x ∷ ys) (take_twice room k xs (omega arith))

taken_whole : (room : ℕ) (rooms : List ℕ) (n : ℕ) (type : tree.VarType) (vs : List Value) → HasRoom rooms n type → room ≡ slice_index rooms n
    → taken_in room type vs ≡ taken type vs
taken_whole room rooms n (tree.Plain d) vs h is = refl
taken_whole room rooms n (tree.Array d k) vs h is = ap Many (take_twice room k vs (omega (arith, h, is)))

dropped_twice : {X : Type 0} (a b : ℕ) (xs : List X) → drop b (drop a xs) ≡ drop (a + b) xs
dropped_twice zero b xs = ap (λ n. drop n xs) (let e : b ≡ 0 + b = omega arith in e)
dropped_twice (suc a) b [] = sym (drop_none b) ∙ drop_none (suc a + b)
dropped_twice (suc a) b (x ∷ xs) = dropped_twice a b xs ∙ ap (λ n. drop n (x ∷ xs)) (let e : suc (a + b) ≡ suc a + b = omega arith in e)

pub one_given : (names : List Name) (ps : List tree.Param) (xs : List ParamCode) (i : ℕ) (x : ParamCode) (old new : List Slot) (rooms : List ℕ)
    (args : List Value) → 0 < i → i ≤ length xs → x ≡ get_or xs (i - 1) x → rooms ≡ rooms_by names → AreGiven names 0 ps xs
    → new ≡ slice_set old x.variable (taken_in (slice_index rooms x.variable) (type_tree x.kind) (drop x.first args))
    → Holds names (bound (drop i ps) (drop (offset_of i ps) args)) old → Holds names (bound (drop (i - 1) ps) (drop (offset_of (i - 1) ps) args)) new
one_given names ps xs i x old new rooms args some le read same given set h =
    let g = given_at names 0 ps xs (i - 1) x given (omega arith) read in
    let one : suc (i - 1) ≡ i = omega arith in
    let p = g.param in
    let off = offset_of (i - 1) ps in
    let vs = drop off args in
    let next : drop (size_of p.type) vs ≡ drop (offset_of i ps) args =
    dropped_twice off (size_of p.type) args ∙ ap (λ n. drop n args) (sym g.next ∙ ap (λ n. offset_of n ps) one) in
    let slot : taken_in (slice_index rooms x.variable) (type_tree x.kind) (drop x.first args) ≡ taken p.type vs =
    ap (λ k. taken_in (slice_index rooms x.variable) k (drop x.first args)) g.kind
    ∙ ap (λ n. taken_in (slice_index rooms x.variable) p.type (drop n args)) (omega (arith, g.first))
    ∙ taken_whole (slice_index rooms x.variable) (rooms_by names) x.variable p.type vs g.room (ap (λ rs. slice_index rs x.variable) same) in
    subst (λ qs. Holds names (bound qs vs) new) (sym (g.there ∙ ap (λ n. p ∷ drop n ps) one))
    (subst (λ ss. Holds names ((p.name, taken p.type vs) ∷ bound (drop i ps) (drop (size_of p.type) vs)) ss) (sym (set ∙ ap (slice_set old x.variable) slot))
    (subst (λ ws. Holds names ((p.name, taken p.type vs) ∷ bound (drop i ps) ws) (slice_set old x.variable (taken p.type vs))) (sym next)
    (holds_front names (bound (drop i ps) (drop (offset_of i ps) args)) old p.name x.variable (taken p.type vs) h g.found)))

-- a task that is none of the text has no variables
pub none_given : (code : TaskCode) (o : Option TaskCode) (slots : List Slot) (args : List Value) → code ≡ code_or_none o → o ≡ None → slots ≡ []
    → (ps : List tree.Param) → AreGiven code.names 0 ps code.params → Holds code.names (bound ps args) slots
none_given code o slots args is none empty =
    let bare : code ≡ code_or_none None = is ∙ ap code_or_none none in
    subst (λ (c : TaskCode). (ps : List tree.Param) → AreGiven c.names 0 ps c.params → Holds c.names (bound ps args) slots) (sym bare)
    (λ ps given. begun [] ps [] slots args empty given)
