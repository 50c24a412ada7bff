-- Tests, lists and variables that are set.
use Rattle.std.proofs.Common.{◌≡◌, ℕ, zero, suc, ◌<◌, Bool, true, false, cond, List, [], ◌∷◌, ◌++◌, length, refl, sym, ap, ◌∙◌, subst, arith}
use Rattle.std.specs.Prelude.{Some, None, Option, pos, replicate, slice_index_or, bytes_eq, nat_eq}
use Rattle.std.proofs.lemmas.Slice.Eq.{bytes_eq-Decides}
use Rattle.std.proofs.lemmas.Bool.{cond-true, cond-false}
use Rattle.fut_base.proofs.Cases.{by_bool}
use Rattle.fut_base.specs.declared.record.Value.{Value}
use Rattle.fut_base.specs.declared.record.Value.TheVariants.{Int}
use Rattle.fut_rules.specs.declared.fault.Rule.{Rule}
use Rattle.fut_rules.specs.Faults.{broken, fault_if}
use Rattle.task_machine.specs.Variables.{Slot, One, Variables, slot_at, put}
use Rattle.task_types.specs.Typed.{Fits, AllFit}

pub no_some : {X : Type 0} (x : X) (o : Option X) → o ≡ Some x → o ≡ None → ⊥
no_some x o h g = let e : Some x ≡ None = sym h ∙ g in cc

-- ---- lists

pub nil_left : {X : Type 0} (xs ys : List X) → xs ++ ys ≡ [] → xs ≡ []
nil_left [] ys h = refl
nil_left (x ∷ xs) ys h = absurd (let e : x ∷ (xs ++ ys) ≡ [] = h in cc)

pub nil_right : {X : Type 0} (xs ys : List X) → xs ++ ys ≡ [] → ys ≡ []
nil_right [] ys h = h
nil_right (x ∷ xs) ys h = absurd (let e : x ∷ (xs ++ ys) ≡ [] = h in cc)

-- three lists without items
pub nil_three : {X : Type 0} (xs ys zs : List X) → xs ++ ys ++ zs ≡ [] → (xs ≡ []) × (ys ≡ []) × (zs ≡ [])
nil_three xs ys zs h = (nil_left xs ys (nil_left (xs ++ ys) zs h), nil_right xs ys (nil_left (xs ++ ys) zs h), nil_right (xs ++ ys) zs h)

-- ---- faults that are not there

pub unbroken : (o : Option Rule) (n : ℕ) → broken o n ≡ [] → o ≡ None
unbroken None n h = refl
unbroken (Some r) n h = absurd (let e : record { token = n; rule = r } ∷ [] ≡ [] = h in cc)

pub not_found : (b : Bool) (n : ℕ) (r : Rule) → fault_if b n r ≡ [] → b ≡ false
not_found true n r h = absurd (let e : record { token = n; rule = r } ∷ [] ≡ [] = h in cc)
not_found false n r h = refl

-- ---- words

pub same_word : (a b : List ℕ) → a ≡ b → bytes_eq a b ≡ true
same_word a b e = (bytes_eq-Decides a b).1 e

pub word_is : (a b : List ℕ) → bytes_eq a b ≡ true → a ≡ b
word_is a b e = (bytes_eq-Decides a b).0 e

-- ---- variables

pub slot_put_same : (vs : Variables) (w : List ℕ) (s : Slot) → slot_at (put vs w s) w ≡ s
slot_put_same [] w s = cond-true (bytes_eq w w) s (One (Int (pos 0))) (same_word w w refl)
slot_put_same (v ∷ vs) w s =
    by_bool (λ b. slot_at (cond b ((v.0, s) ∷ vs) (v ∷ put vs w s)) w ≡ s) (bytes_eq v.0 w)
    (λ t. cond-true (bytes_eq v.0 w) s (slot_at vs w) t)
    (λ f. cond-false (bytes_eq v.0 w) v.1 (slot_at (put vs w s) w) f ∙ slot_put_same vs w s)

pub slot_put_other : (vs : Variables) (w : List ℕ) (s : Slot) (u : List ℕ) → bytes_eq w u ≡ false → slot_at (put vs w s) u ≡ slot_at vs u
slot_put_other [] w s u h = cond-false (bytes_eq w u) s (One (Int (pos 0))) h
slot_put_other (v ∷ vs) w s u h =
    by_bool (λ b. slot_at (cond b ((v.0, s) ∷ vs) (v ∷ put vs w s)) u ≡ cond (bytes_eq v.0 u) v.1 (slot_at vs u)) (bytes_eq v.0 w)
    (λ t.
    let no : bytes_eq v.0 u ≡ false = subst (λ x. bytes_eq x u ≡ false) (sym (word_is v.0 w t)) h in
    cond-false (bytes_eq v.0 u) s (slot_at vs u) no ∙ sym (cond-false (bytes_eq v.0 u) v.1 (slot_at vs u) no))
    (λ f. ap (λ x. cond (bytes_eq v.0 u) v.1 x) (slot_put_other vs w s u h))

-- ---- values that fit

pub all_replicate : (gives : ℕ → ℕ → Bool) (d n : ℕ) (v : Value) → Fits gives d v → AllFit gives d (replicate n v)
all_replicate gives d zero v h = tt
all_replicate gives d (suc n) v h = (h, all_replicate gives d n v h)

pub all_at : (gives : ℕ → ℕ → Bool) (d : ℕ) (vs : List Value) (i : ℕ) (v : Value) → AllFit gives d vs → i < length vs → Fits gives d (slice_index_or vs i v)
all_at gives d [] i v h l = absurd (omega arith)
all_at gives d (x ∷ xs) zero v h l = h.0
all_at gives d (x ∷ xs) (suc i) v h l = all_at gives d xs i v h.1 (omega arith)

pub all_set : (gives : ℕ → ℕ → Bool) (d : ℕ) (vs : List Value) (i : ℕ) (v : Value) → AllFit gives d vs → Fits gives d v
    → AllFit gives d (Rattle.std.specs.Prelude.slice_set vs i v)
all_set gives d [] i v h f = tt
all_set gives d (x ∷ xs) zero v h f = (f, h.1)
all_set gives d (x ∷ xs) (suc i) v h f = (h.0, all_set gives d xs i v h.1 f)
