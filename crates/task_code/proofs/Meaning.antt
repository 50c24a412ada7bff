-- Terms that mean what expressions do.
use Rattle.std.proofs.Common.{◌≡◌, ℕ, ◌≤◌, List, [], ◌++◌, length, drop, refl, sym, ap, ◌∙◌, subst}
use Rattle.std.specs.Prelude.{ℤ, pos, Some, None, Result, Ok, Err, IfOk}
use Rattle.std.specs.Int.{w64, int_wrapping_neg}
use Rattle.fut_base.specs.declared.record.Value.TheVariants.{Int}
use Rattle.fut_syntax.specs.declared.tree.Operator.{Operator}
use Rattle.fut_syntax.specs.Trees as tree
use Rattle.fut_syntax.specs.declared.tree.Expr.{Expr}
use Rattle.fut_syntax.specs.Views.{op_tree, args_tree}
use Rattle.fut_base.specs.declared.list.NoMemory.{NoMemory}
use Rattle.std.proofs.lemmas.List.{append-nil, drop_all}
use Rattle.task_machine.specs.Values.{number_of, truth, is_zero, combine}
use Rattle.task_machine.specs.Variables.{Slot, One, value_of, signed, slot_in, operand_in, primary_in}
use Rattle.task_frame.specs.declared.term.Term.{Term, Number, Variable, Negative, Inverted, Pair, Negative', Inverted', Pair'}
use Rattle.task_frame.specs.declared.names.Name.{Name}
use Rattle.task_frame.specs.Frames.{slot_for}
use Rattle.task_frame.specs.Names.{find_name}
use Rattle.task_frame.specs.Terms.{number_by, slot_by, IsSigned}
use Rattle.task_code.specs.Flat.{Means, MeanAll}
use Rattle.task_frame.proofs.Evaluating.{negative_number, inverted_number, pair_number}

negative_slot : (slots : List Slot) (t : Term) → slot_by slots (Negative t) ≡ One (Int (number_by slots (Negative t)))
unfolding Rattle.task_frame.specs.declared.term.Term.TheBlock.hidden-the_row-Term-0 denote.Hole.Carrier.hidden
negative_slot slots t = refl

inverted_slot : (slots : List Slot) (t : Term) → slot_by slots (Inverted t) ≡ One (Int (number_by slots (Inverted t)))
unfolding Rattle.task_frame.specs.declared.term.Term.TheBlock.hidden-the_row-Term-0 denote.Hole.Carrier.hidden
inverted_slot slots t = refl

pair_slot : (slots : List Slot) (a : Term) (op : Operator) (b : Term) → slot_by slots (Pair a op b) ≡ One (Int (number_by slots (Pair a op b)))
unfolding Rattle.task_frame.specs.declared.term.Term.TheBlock.hidden-the_row-Term-0 denote.Hole.Carrier.hidden
pair_slot slots a op b = refl

-- the number of a term is that of its slot
pub number_is : (slots : List Slot) (t : Term) → number_by slots t ≡ number_of (value_of (slot_by slots t))
number_is slots (Number z) = refl
number_is slots (Variable i) = refl
number_is slots (Negative' p r) = refl
number_is slots (Inverted' p r) = refl
number_is slots (Pair' p a op q b) = refl

pub negative_is : (t : Term) → IsSigned tree.Negative t (Negative t)
negative_is t =
    record { same = λ slots. negative_slot slots t ∙ ap (λ z. One (Int z)) (negative_number slots t ∙ ap (int_wrapping_neg w64) (number_is slots t)) }

pub inverted_is : (t : Term) → IsSigned tree.Inverted t (Inverted t)
inverted_is t =
    record { same = λ slots. inverted_slot slots t ∙ ap (λ z. One (Int z)) (inverted_number slots t ∙ ap (λ z. truth (is_zero z)) (number_is slots t)) }

pub means_signed : (names : List Name) (sign : tree.Sign) (p : tree.Primary) (of t : Term) → Means names (λ vars. primary_in vars p) of → IsSigned sign of t
    → Means names (λ vars. operand_in vars (tree.Signed sign p)) t
means_signed names sign p of t m h = record { same = λ vars slots k. h.same slots ∙ ap (signed sign) (m.same vars slots k) }

pub each_signed : (names : List Name) (sign : tree.Sign) (p : tree.Primary) (o : tree.Operand) (of : Term) (r : Result Term NoMemory) → o ≡ tree.Signed sign p
    → Means names (λ vars. primary_in vars p) of → IfOk r (λ t. IsSigned sign of t) → IfOk r (λ t. Means names (λ vars. operand_in vars o) t)
each_signed names sign p o of (Ok t) is m h =
    subst (λ (x : tree.Operand). Means names (λ vars. operand_in vars x) t) (sym is) (means_signed names sign p of t m h)
each_signed names sign p o of (Err e) is m h = tt

pub all_meant : (names : List Name) (args : List Expr) (i : ℕ) (ts out : List Term) → length args ≤ i → out ≡ ts
    → ((more : List Term) → MeanAll names (args_tree (drop i args)) more → MeanAll names (args_tree args) (ts ++ more)) → MeanAll names (args_tree args) out
all_meant names args i ts out le is h =
    subst (λ c. MeanAll names (args_tree args) c) (append-nil ts ∙ sym is) (h [] (subst (λ d. MeanAll names (args_tree d) []) (sym (drop_all i args le)) tt))

pub means_pair : (names : List Name) (x y : tree.Operand) (op : Operator) (a b : Term) → Means names (λ vars. operand_in vars x) a
    → Means names (λ vars. operand_in vars y) b → Means names (λ vars. slot_in vars (tree.Pair x (op_tree op) y)) (Pair a op b)
means_pair names x y op a b m n =
    record {
      same = λ vars slots h. pair_slot slots a op b ∙ ap (λ z. One (Int z)) (pair_number slots a op b
          ∙ ap (λ z. combine (op_tree op) z (number_by slots b)) (number_is slots a ∙ ap (λ s. number_of (value_of s)) (m.same vars slots h))
          ∙ ap (combine (op_tree op) (number_of (value_of (operand_in vars x)))) (number_is slots b ∙ ap (λ s. number_of (value_of s)) (n.same vars slots h)));
    }

pub means_number : (names : List Name) (n : ℕ) (z : ℤ) → z ≡ pos n → Means names (λ vars. primary_in vars (tree.Literal n)) (Number z)
means_number names n z e = record { same = λ vars slots h. ap (λ q. One (Int q)) e }

pub means_variable : (names : List Name) (w : List ℕ) (i : ℕ) → find_name names w ≡ Some i → Means names (λ vars. primary_in vars (tree.Name w)) (Variable i)
means_variable names w i e = record { same = λ vars slots h. sym (h.each w ∙ ap (slot_for slots) e) }

pub means_nothing : (names : List Name) (w : List ℕ) → find_name names w ≡ None → Means names (λ vars. primary_in vars (tree.Name w)) (Number (pos 0))
means_nothing names w e = record { same = λ vars slots h. sym (h.each w ∙ ap (slot_for slots) e) }
