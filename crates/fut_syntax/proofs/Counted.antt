-- How many `fut` were taken is told by how many tokens are left.
use Rattle.std.proofs.Common.{◌≡◌, ℕ, zero, suc, ◌+◌, ◌-◌, ◌≤◌, List, [], ◌∷◌, length, sym, subst, ap, ◌∙◌, arith}
use Rattle.fut_tokens.specs.declared.token.Token.{Token}
use Rattle.fut_tokens.specs.declared.token.Token.TheVariants as t
use Rattle.fut_syntax.specs.Tokens.{type_before}
use Rattle.fut_syntax.specs.Steps.{behind}

one_first : (d : ℕ) (r : List Token) → length (type_before d r) ≡ length (behind (type_before d r)) + 1
one_first zero r = omega arith
one_first (suc d) r = omega arith

fut_counted : (left rest : ℕ) (m n r : List Token) → m ≡ t.Fut ∷ n → n ≡ type_before rest r → length (behind m) ≤ left
    → (left - length (behind m)) + suc rest ≡ (left - length (behind n)) + rest
fut_counted left rest m n r e g low =
    let a : length n ≡ length (behind n) + 1 = subst (λ (q : List Token). length q ≡ length (behind q) + 1) (sym g) (one_first rest r) in
    let b : length (behind m) ≡ length n = ap (λ (q : List Token). length (behind q)) e in
    omega (arith, a, b, low)

-- the next `fut`
pub fut_more : (left : ℕ) (xs m n : List Token) → m ≡ t.Fut ∷ n → length (behind m) ≤ left
    → ((rest : ℕ) (r : List Token) → m ≡ type_before rest r → xs ≡ type_before ((left - length (behind m)) + rest) r)
    → (rest : ℕ) (r : List Token) → n ≡ type_before rest r → xs ≡ type_before ((left - length (behind n)) + rest) r
fut_more left xs m n e low h rest r g =
    h (suc rest) r (e ∙ ap (λ q. t.Fut ∷ q) g) ∙ ap (λ (d : ℕ). type_before d r) (fut_counted left rest m n r e g low)

-- the `int` behind them
pub int_last : (left depth : ℕ) (xs m n : List Token) → m ≡ t.Int ∷ n → depth ≡ left - length (behind m)
    → ((rest : ℕ) (r : List Token) → m ≡ type_before rest r → xs ≡ type_before ((left - length (behind m)) + rest) r)
    → xs ≡ type_before depth n
int_last left depth xs m n e g h =
    let a : (left - length (behind m)) + 0 ≡ depth = omega (arith, g) in
    h zero n e ∙ ap (λ (d : ℕ). type_before d n) a

pub fewer_left : (left : ℕ) (m n : List Token) → m ≡ t.Fut ∷ n → length (behind m) ≤ left → length (behind n) ≤ left
fewer_left left m [] e low = omega arith
fewer_left left m (x ∷ n) e low = let b : length (behind m) ≡ length (x ∷ n) = ap (λ (q : List Token). length (behind q)) e in omega (arith, b, low)
