-- Where the run stops is the fault. Nothing here names a symbol of the grammar.
use Rattle.std.proofs.Common.{◌≡◌, ℕ, Bool, true, false, List, [], ◌∷◌, ◌++◌, ◌⊎◌, inl, inr, refl, sym, subst, ap, ◌∙◌, append_assoc, length}
use Rattle.std.specs.Prelude.{Option, Some, None}
use Rattle.fut_tokens.specs.declared.token.Token.{Token}
use Rattle.fut_syntax.specs.Tokens.{program_tokens}
use Rattle.fut_syntax.specs.Machine.{Symbol, First, next, go_on, walk, run_on, run, run64, free}
use Rattle.fut_syntax.specs.Faults.{Begins, IsBad, IsGood, IsFault, is_full, open_by, open_after}
use Rattle.fut_syntax.proofs.Viable.{begins, walk_some}
use Rattle.fut_syntax.proofs.Through.{program_through}

-- every token so far had room
abbrev pub HasRoom : List Token → ℕ → Type 0
HasRoom xs d = (a : List Token) (x : Token) (b : List Token) → xs ≡ a ++ x ∷ b → is_full (open_after a d) x ≡ false

record Stopped (s : List Symbol) (d : ℕ) (xs : List Token) (left : ℕ) : Type 0 where
  before : List Token
  token : Token
  behind : List Token
  due : List Symbol
  whole : xs ≡ before ++ token ∷ behind
  left_is : left ≡ length behind
  walked : walk s before ≡ Some due
  bad : (next due token ≡ None) ⊎ (is_full (open_after before d) token ≡ true)
  room : HasRoom before d

no_room : (d : ℕ) → HasRoom [] d
no_room d [] x b e = absurd (cc)
no_room d (y ∷ a) x b e = absurd (cc)

one_more : (x : Token) (xs : List Token) (d : ℕ) → is_full d x ≡ false → HasRoom xs (open_by x d) → HasRoom (x ∷ xs) d
one_more x xs d h rest [] y b e = let same : x ≡ y = cc in subst (λ (z : Token). is_full d z ≡ false) same h
one_more x xs d h rest (z ∷ a) y b e =
    let same : x ≡ z = cc in
    let tail : xs ≡ a ++ y ∷ b = cc in
    subst (λ (z : Token). is_full (open_after a (open_by z d)) y ≡ false) same (rest a y b tail)

stop_here : (s : List Symbol) (d : ℕ) (x : Token) (xs : List Token) (left : ℕ) → Some (length xs) ≡ Some left → ((next s x ≡ None) ⊎ (is_full d x ≡ true))
    → Stopped s d (x ∷ xs) left
stop_here s d x xs left e bad = record {
  before = [];
  token = x;
  behind = xs;
  due = s;
  whole = refl;
  left_is = cc;
  walked = refl;
  bad = bad;
  room = no_room d;
}

by_cases : (s : List Symbol) (d : ℕ) (x : Token) (xs : List Token) (left : ℕ)
    → ((s' : List Symbol) → run64 s' (open_by x d) xs ≡ Some left → Stopped s' (open_by x d) xs left)
    → (o : Option (List Symbol)) (full : Bool) → next s x ≡ o → is_full d x ≡ full
    → run_on o full (length xs) (λ s. run is_full open_by s (open_by x d) xs) ≡ Some left → Stopped s d (x ∷ xs) left
by_cases s d x xs left ih None full eo ef e = stop_here s d x xs left e (inl eo)
by_cases s d x xs left ih (Some s') true eo ef e = stop_here s d x xs left e (inr ef)
by_cases s d x xs left ih (Some s') false eo ef e =
    let r = ih s' e in
    record {
      before = x ∷ r.before;
      token = r.token;
      behind = r.behind;
      due = r.due;
      whole = ap (λ q. x ∷ q) r.whole;
      left_is = r.left_is;
      walked = ap (λ o. go_on o (λ s. walk s r.before)) eo ∙ r.walked;
      bad = r.bad;
      room = one_more x r.before d ef r.room;
    }

stopped : (xs : List Token) (s : List Symbol) (d left : ℕ) → run64 s d xs ≡ Some left → Stopped s d xs left
stopped [] s d left e = absurd (cc)
stopped (x ∷ xs) s d left e = by_cases s d x xs left (λ s' h. stopped xs s' (open_by x d) left h) (next s x) (is_full d x) refl refl e

-- a part in front is walked too
walk_front : (p q : List Token) (s due : List Symbol) → walk s (p ++ q) ≡ Some due → (m : List Symbol) × (walk s p ≡ Some m)
walk_front [] q s due e = (s, refl)
walk_front (x ∷ p) q s due e =
    let m = walk_some (p ++ q) (next s x) due e in
    let r = walk_front p q m.0 due m.2 in
    (r.0, ap (λ o. go_on o (λ s. walk s p)) m.1 ∙ r.1)

-- where the machine stops it stops whatever stands behind
free_stops : (p : List Token) (s due : List Symbol) (x : Token) (more : List Token) → walk s p ≡ Some due → next due x ≡ None
    → free s (p ++ x ∷ more) ≡ Some (length more)
free_stops [] s due x more e h =
    let same : s ≡ due = cc in
    let none : next s x ≡ None = ap (λ (q : List Symbol). next q x) same ∙ h in
    ap (λ o. run_on o false (length more) (λ s. free s more)) none
free_stops (y ∷ p) s due x more e h =
    let m = walk_some p (next s y) due e in
    ap (λ o. run_on o false (length (p ++ x ∷ more)) (λ s. free s (p ++ x ∷ more))) m.1 ∙ free_stops p m.0 due x more m.2 h

none_begins : (p : List Token) (due : List Symbol) (x : Token) → walk (First ∷ []) p ≡ Some due → next due x ≡ None → Begins (p ++ x ∷ []) → ⊥
none_begins p due x walked none b =
    let through : free (First ∷ []) (program_tokens b.0) ≡ None = program_through b.0 in
    let tokens : program_tokens b.0 ≡ p ++ x ∷ b.1 = b.2 ∙ append_assoc p (x ∷ []) b.1 in
    let at : free (First ∷ []) (p ++ x ∷ b.1) ≡ Some (length b.1) = free_stops p (First ∷ []) due x b.1 walked none in
    let same : free (First ∷ []) (program_tokens b.0) ≡ free (First ∷ []) (p ++ x ∷ b.1) = ap (λ q. free (First ∷ []) q) tokens in
    let clash : Some (length b.1) ≡ None = sym at ∙ sym same ∙ through in
    absurd (cc)

bad_by : (p : List Token) (due : List Symbol) (x : Token) → walk (First ∷ []) p ≡ Some due → ((next due x ≡ None) ⊎ (is_full (open_after p 0) x ≡ true))
    → IsBad p x
bad_by p due x walked (inl none) = inl (none_begins p due x walked none)
bad_by p due x walked (inr full) = inr full

good_by : (p : List Token) (due : List Symbol) → walk (First ∷ []) p ≡ Some due → HasRoom p 0 → (a : List Token) (x : Token) (b : List Token) → p ≡ a ++ x ∷ b
    → IsGood a x
good_by p due walked room a x b e =
    let parts : p ≡ (a ++ x ∷ []) ++ b = e ∙ sym (append_assoc a (x ∷ []) b) in
    let front = walk_front (a ++ x ∷ []) b (First ∷ []) due (sym (ap (λ q. walk (First ∷ []) q) parts) ∙ walked) in
    (begins (a ++ x ∷ []) front.0 front.1, room a x b e)

-- the run stops at the fault
pub fault : (xs : List Token) (left : ℕ) → run64 (First ∷ []) 0 xs ≡ Some left → IsFault xs left
fault xs left e =
    let r = stopped xs (First ∷ []) 0 left e in
    record {
      before = r.before;
      token = r.token;
      behind = r.behind;
      whole = r.whole;
      left_is = r.left_is;
      bad = bad_by r.before r.due r.token r.walked r.bad;
      good = good_by r.before r.due r.walked r.room;
    }

run_none : (s : List Symbol) (d : ℕ) (x : Token) (xs : List Token) (o : Option (List Symbol)) (full : Bool) → is_full d x ≡ full
    → run_on o full (length xs) (λ s. run is_full open_by s (open_by x d) xs) ≡ None
    → (is_full d x ≡ false) × (m : List Symbol) × (run64 m (open_by x d) xs ≡ None)
run_none s d x xs None full ef e = absurd (cc)
run_none s d x xs (Some m) true ef e = absurd (cc)
run_none s d x xs (Some m) false ef e = (ef, m, e)

-- where it doesn't stop every token has room
pub has_room : (xs : List Token) (s : List Symbol) (d : ℕ) → run64 s d xs ≡ None → HasRoom xs d
has_room [] s d e = no_room d
has_room (x ∷ xs) s d e =
    let r = run_none s d x xs (next s x) (is_full d x) refl e in
    one_more x xs d r.0 (has_room xs r.1 (open_by x d) r.2)
