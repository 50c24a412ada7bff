-- Tokens with an end token have a tree or a fault.
use Rattle.std.proofs.Common.{◌≡◌, ℕ, Bool, true, false, List, [], ◌∷◌, ◌++◌, ◌⊎◌, inl, inr, refl, sym, subst, ap, ◌∙◌, append-nil, length}
use Rattle.std.specs.Prelude.{Option, Some, None, ◌&&◌}
use Rattle.std.proofs.lemmas.Option.{same_Some}
use Rattle.std.proofs.lemmas.Bool.{and_parts}
use Rattle.fut_tokens.specs.declared.token.Token.{Token}
use Rattle.fut_tokens.specs.declared.token.Token.TheVariants as t
use Rattle.fut_syntax.specs.Trees.{Program}
use Rattle.fut_syntax.specs.Tokens.{program_before}
use Rattle.fut_syntax.specs.Machine.{Symbol, First, More, Params, ParamsTail, Type', Length, Block', Stmts, Else', VarInit}
use Rattle.fut_syntax.specs.Machine.{WordStmt, Init', InitTail, Args, ArgsTail, Expr', ExprTail, Operand', Primary', Word', Number'}
use Rattle.fut_syntax.specs.Machine.{LeftParen', RightParen', LeftSquare', RightSquare', Semicolon', Colon', Equals', Answer}
use Rattle.fut_syntax.specs.Machine.{Takes, Passes, Stops, first_rule, rule, by_answer, next, go_on, walk, run_on, run, run64}
use Rattle.fut_syntax.specs.Faults.{IsFault, IsWhole, is_full, open_by}
use Rattle.fut_syntax.specs.Phrases.{Phrases}
use Rattle.fut_tokens.specs.Ended.{IsEnded}
use Rattle.fut_syntax.specs.Steps.{is_end}
use Rattle.fut_syntax.proofs.Viable.{walk_some, walk_back}
use Rattle.fut_syntax.proofs.Exact.{fault, has_room}

-- a symbol that stands for a part of an item
abbrev is_inner : Symbol → Bool
is_inner First = false
is_inner More = false
is_inner _ = true

abbrev all_inner : List Symbol → Bool
all_inner [] = true
all_inner (a ∷ s) = is_inner a && all_inner s

-- parts of an item are due, and then items
abbrev IsDue : List Symbol → Type 0
IsDue [] = ⊥
IsDue (a ∷ k) = ((is_inner a ≡ true) × IsDue k) ⊎ ((is_inner a ≡ false) × (k ≡ []))

due_behind : (s k : List Symbol) → all_inner s ≡ true → IsDue k → IsDue (s ++ k)
due_behind [] k e due = due
due_behind (a ∷ s) k e due = inl ((and_parts (is_inner a) (all_inner s) e).0, due_behind s k (and_parts (is_inner a) (all_inner s) e).1 due)

-- a part of an item takes no end token and leaves parts of an item
abbrev keeps_inside : Bool → Answer → Bool
keeps_inside true (Takes s) = false
keeps_inside false (Takes s) = all_inner s
keeps_inside _ Passes = true
keeps_inside _ Stops = true

inside : (a : Symbol) (x : Token) → is_inner a ≡ true → keeps_inside (is_end x) (rule a x) ≡ true
inside First x h = absurd (cc)
inside More x h = absurd (cc)
inside Params t.End h = refl
inside Params _ h = refl
inside ParamsTail t.End h = refl
inside ParamsTail _ h = refl
inside Type' t.End h = refl
inside Type' _ h = refl
inside Length t.End h = refl
inside Length _ h = refl
inside Block' t.End h = refl
inside Block' _ h = refl
inside Stmts t.End h = refl
inside Stmts _ h = refl
inside Else' t.End h = refl
inside Else' _ h = refl
inside VarInit t.End h = refl
inside VarInit _ h = refl
inside WordStmt t.End h = refl
inside WordStmt _ h = refl
inside Init' t.End h = refl
inside Init' _ h = refl
inside InitTail t.End h = refl
inside InitTail _ h = refl
inside Args t.End h = refl
inside Args _ h = refl
inside ArgsTail t.End h = refl
inside ArgsTail _ h = refl
inside Expr' t.End h = refl
inside Expr' _ h = refl
inside ExprTail t.End h = refl
inside ExprTail _ h = refl
inside Operand' t.End h = refl
inside Operand' _ h = refl
inside Primary' t.End h = refl
inside Primary' _ h = refl
inside Word' t.End h = refl
inside Word' _ h = refl
inside Number' t.End h = refl
inside Number' _ h = refl
inside LeftParen' t.End h = refl
inside LeftParen' _ h = refl
inside RightParen' t.End h = refl
inside RightParen' _ h = refl
inside LeftSquare' t.End h = refl
inside LeftSquare' _ h = refl
inside RightSquare' t.End h = refl
inside RightSquare' _ h = refl
inside Semicolon' t.End h = refl
inside Semicolon' _ h = refl
inside Colon' t.End h = refl
inside Colon' _ h = refl
inside Equals' t.End h = refl
inside Equals' _ h = refl

-- what is due after a token: nothing behind the end token, and else parts of an item and then items
abbrev IsAfter : Token → List Symbol → Type 0
IsAfter x s = ((is_end x ≡ true) → s ≡ []) × ((is_end x ≡ false) → IsDue s)

after_inside : (a : Symbol) (k s : List Symbol) (x : Token) (b : Bool) (answer : Answer) (passed : Option (List Symbol)) → is_end x ≡ b
    → keeps_inside b answer ≡ true → IsDue k
    → (passed ≡ Some s → IsAfter x s) → by_answer answer k passed ≡ Some s → IsAfter x s
after_inside a k s x true (Takes m) passed eb e due ih h = absurd (cc)
after_inside a k s x false (Takes m) passed eb e due ih h =
    let same : s ≡ m ++ k = cc in
    (λ q. absurd (cc), λ q. subst (λ (z : List Symbol). IsDue z) (sym same) (due_behind m k e due))
after_inside a k s x b Passes passed eb e due ih h = ih h
after_inside a k s x b Stops passed eb e due ih h = absurd (cc)

-- items take the end token, or begin an item and leave items
abbrev IsOuter : Token → Answer → Type 0
IsOuter x (Takes s) = IsAfter x s
IsOuter x Passes = ⊥
IsOuter x Stops = Unit {0}

first_outer : (x : Token) → IsOuter x (first_rule x)
first_outer t.Cells = (λ q. absurd (cc), λ q. inl (refl, inl (refl, inl (refl, inl (refl, inl (refl, inr (refl, refl)))))))
first_outer t.Task = (λ q. absurd (cc), λ q. inl (refl, inl (refl, inl (refl, inl (refl, inl (refl, inr (refl, refl)))))))
first_outer _ = tt

outer : (a : Symbol) (x : Token) → is_inner a ≡ false → IsOuter x (rule a x)
outer First x h = first_outer x
outer More t.End h = (λ q. refl, λ q. absurd (cc))
outer More t.Cells h = first_outer t.Cells
outer More t.Task h = first_outer t.Task
outer More _ h = tt
outer _ x h = absurd (cc)

after_outer : (s : List Symbol) (x : Token) (answer : Answer) (passed : Option (List Symbol)) → IsOuter x answer → by_answer answer [] passed ≡ Some s
    → IsAfter x s
after_outer s x (Takes m) passed o h = let same : m ≡ s = sym (append-nil m) ∙ same_Some (m ++ []) s h in subst (λ (z : List Symbol). IsAfter x z) same o
after_outer s x Passes passed o h = absurd o
after_outer s x Stops passed o h = absurd (cc)

after_by : (a : Symbol) (k s' : List Symbol) (x : Token) → IsDue (a ∷ k) → (IsDue k → next k x ≡ Some s' → IsAfter x s')
    → by_answer (rule a x) k (next k x) ≡ Some s' → IsAfter x s'
after_by a k s' x (inl h) ih e = after_inside a k s' x (is_end x) (rule a x) (next k x) refl (inside a x h.0) h.1 (ih h.1) e
after_by a k s' x (inr h) ih e =
    after_outer s' x (rule a x) (next k x) (outer a x h.0) (subst (λ (q : List Symbol). by_answer (rule a x) q (next k x) ≡ Some s') h.1 e)

after_next : (s s' : List Symbol) (x : Token) → IsDue s → next s x ≡ Some s' → IsAfter x s'
after_next [] s' x due h = absurd due
after_next (a ∷ k) s' x due h = after_by a k s' x due (λ d e. after_next k s' x d e) h

ended_by : (x : Token) (xs : List Token) → IsEnded (x ∷ xs) → ((is_end x ≡ true) × (xs ≡ [])) ⊎ ((is_end x ≡ false) × IsEnded xs)
ended_by t.End xs h = inl (refl, h)
ended_by _ xs h = inr (refl, h)

last_or_more : (x : Token) (xs : List Token) (m s' : List Symbol) → ((is_end x ≡ true) × (xs ≡ [])) ⊎ ((is_end x ≡ false) × IsEnded xs) → IsAfter x m
    → walk m xs ≡ Some s' → (IsEnded xs → IsDue m → s' ≡ []) → s' ≡ []
last_or_more x xs m s' (inl h) step w ih =
    let none : m ≡ [] = step.0 h.0 in
    let last : walk m [] ≡ Some s' = subst (λ (q : List Token). walk m q ≡ Some s') h.1 w in
    sym (same_Some m s' last) ∙ none
last_or_more x xs m s' (inr h) step w ih = ih h.1 (step.1 h.0)

-- behind the end token nothing is due
after_walk : (xs : List Token) (s s' : List Symbol) → IsEnded xs → IsDue s → walk s xs ≡ Some s' → s' ≡ []
after_walk [] s s' ended due h = absurd ended
after_walk (x ∷ xs) s s' ended due h =
    let m = walk_some xs (next s x) s' h in
    let step = after_next s m.0 x due m.1 in
    last_or_more x xs m.0 s' (ended_by x xs ended) step m.2 (λ e d. after_walk xs m.0 s' e d m.2)

walked_by : (s : List Symbol) (d : ℕ) (x : Token) (xs : List Token) (o : Option (List Symbol)) (full : Bool) → next s x ≡ o
    → run_on o full (length xs) (λ s. run is_full open_by s (open_by x d) xs) ≡ None
    → ((m : List Symbol) → run64 m (open_by x d) xs ≡ None → (s' : List Symbol) × (walk m xs ≡ Some s')) → (s' : List Symbol) × (walk s (x ∷ xs) ≡ Some s')
walked_by s d x xs None full eo e ih = absurd (cc)
walked_by s d x xs (Some m) true eo e ih = absurd (cc)
walked_by s d x xs (Some m) false eo e ih = let r = ih m e in (r.0, ap (λ o. go_on o (λ s. walk s xs)) eo ∙ r.1)

walked : (xs : List Token) (s : List Symbol) (d : ℕ) → run64 s d xs ≡ None → (s' : List Symbol) × (walk s xs ≡ Some s')
walked [] s d e = (s, refl)
walked (x ∷ xs) s d e = walked_by s d x xs (next s x) (is_full d x) refl e (λ m h. walked xs m (open_by x d) h)

decided_by : (xs : List Token) → IsEnded xs → (o : Option ℕ) → run64 (First ∷ []) 0 xs ≡ o → ((p : Program) × IsWhole xs p) ⊎ ((left : ℕ) × IsFault xs left)
decided_by xs ended (Some left) e = inr (left, fault xs left e)
decided_by xs ended None e =
    let w = walked xs (First ∷ []) 0 e in
    let none : w.0 ≡ [] = after_walk xs (First ∷ []) w.0 ended (inr (refl, refl)) w.1 in
    let h = walk_back xs (First ∷ []) w.0 w.1 [] [] (subst (λ (q : List Symbol). Phrases q [] []) (sym none) refl) in
    inl (h.1.0, (sym (h.1.1 ∙ ap (λ r. program_before h.1.0 r) h.2) ∙ append-nil xs, has_room xs (First ∷ []) 0 e))

pub decided : (xs : List Token) → IsEnded xs → ((p : Program) × IsWhole xs p) ⊎ ((left : ℕ) × IsFault xs left)
decided xs ended = decided_by xs ended (run64 (First ∷ []) 0 xs) refl
