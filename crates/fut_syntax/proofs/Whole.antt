-- A list of tokens with a tree has no fault, and no list has two.
use Rattle.std.proofs.Common.{◌≡◌, ℕ, List, [], ◌∷◌, ◌++◌, ◌⊎◌, inl, inr, length, refl, sym, subst, ap, ◌∙◌, append_assoc}
use Rattle.fut_tokens.specs.declared.token.Token.{Token}
use Rattle.fut_syntax.specs.Trees.{Program}
use Rattle.fut_syntax.specs.Faults.{IsBad, IsGood, IsFault, IsWhole}

no_bad : (p : Program) (xs before behind : List Token) (x : Token) → IsWhole xs p → xs ≡ before ++ x ∷ behind → IsBad before x → ⊥
no_bad p xs before behind x whole e (inl none) = none (p, behind, whole.0 ∙ e ∙ sym (append_assoc before (x ∷ []) behind))
no_bad p xs before behind x whole e (inr full) = let room = whole.1 before x behind e in absurd (cc)

pub no_fault : (xs : List Token) (p : Program) (left : ℕ) → IsWhole xs p → IsFault xs left → ⊥
no_fault xs p left whole f = no_bad p xs f.before f.behind f.token whole f.whole f.bad

-- of two fronts of one list the one is the other's front
compare : (a b r s : List Token) → a ++ r ≡ b ++ s
    → ((a ≡ b) × (r ≡ s)) ⊎ ((x : Token) × (m : List Token) × (b ≡ a ++ x ∷ m) × (r ≡ (x ∷ m) ++ s))
    ⊎ ((x : Token) × (m : List Token) × (a ≡ b ++ x ∷ m) × (s ≡ (x ∷ m) ++ r))
compare [] [] r s e = inl (refl, e)
compare [] (y ∷ b) r s e = inr (inl (y, b, refl, e))
compare (x ∷ a) [] r s e = inr (inr (x, a, refl, sym e))
compare (x ∷ a) (y ∷ b) r s e = lift (compare a b r s (cc))
  where
    lift : ((a ≡ b) × (r ≡ s)) ⊎ ((x : Token) × (m : List Token) × (b ≡ a ++ x ∷ m) × (r ≡ (x ∷ m) ++ s))
        ⊎ ((x : Token) × (m : List Token) × (a ≡ b ++ x ∷ m) × (s ≡ (x ∷ m) ++ r))
        → ((x ∷ a ≡ y ∷ b) × (r ≡ s)) ⊎ ((z : Token) × (m : List Token) × (y ∷ b ≡ (x ∷ a) ++ z ∷ m) × (r ≡ (z ∷ m) ++ s))
        ⊎ ((z : Token) × (m : List Token) × (x ∷ a ≡ (y ∷ b) ++ z ∷ m) × (s ≡ (z ∷ m) ++ r))
    lift (inl h) = inl (cc, h.1)
    lift (inr (inl h)) = inr (inl (h.0, h.1, cc, h.3))
    lift (inr (inr h)) = inr (inr (h.0, h.1, cc, h.3))

not_both : (before : List Token) (x : Token) → IsGood before x → IsBad before x → ⊥
not_both before x good (inl none) = none (good.0.0, good.0.1, good.0.2)
not_both before x good (inr full) = let room = good.1 in absurd (cc)

earlier : (xs : List Token) (l l' : ℕ) (f : IsFault xs l) (g : IsFault xs l') (x : Token) (m : List Token) → g.before ≡ f.before ++ x ∷ m
    → f.token ∷ f.behind ≡ (x ∷ m) ++ g.token ∷ g.behind → ⊥
earlier xs l l' f g x m e at =
    let same : f.token ≡ x = cc in
    not_both f.before f.token (subst (λ (q : Token). IsGood f.before q) (sym same) (g.good f.before x m e)) f.bad

fault_by : (xs : List Token) (l l' : ℕ) (f : IsFault xs l) (g : IsFault xs l')
    → ((f.before ≡ g.before) × (f.token ∷ f.behind ≡ g.token ∷ g.behind))
    ⊎ ((x : Token) × (m : List Token) × (g.before ≡ f.before ++ x ∷ m) × (f.token ∷ f.behind ≡ (x ∷ m) ++ g.token ∷ g.behind))
    ⊎ ((x : Token) × (m : List Token) × (f.before ≡ g.before ++ x ∷ m) × (g.token ∷ g.behind ≡ (x ∷ m) ++ f.token ∷ f.behind))
    → l ≡ l'
fault_by xs l l' f g (inl h) = let same : f.behind ≡ g.behind = cc in f.left_is ∙ ap length same ∙ sym g.left_is
fault_by xs l l' f g (inr (inl h)) = absurd (earlier xs l l' f g h.0 h.1 h.2 h.3)
fault_by xs l l' f g (inr (inr h)) = absurd (earlier xs l' l g f h.0 h.1 h.2 h.3)

pub fault_once : (xs : List Token) (l l' : ℕ) → IsFault xs l → IsFault xs l' → l ≡ l'
fault_once xs l l' f g = fault_by xs l l' f g (compare f.before g.before (f.token ∷ f.behind) (g.token ∷ g.behind) (sym f.whole ∙ g.whole))
