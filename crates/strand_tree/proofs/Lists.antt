-- Two items that are put into a list one after the other.
use Rattle.std.proofs.Common.{◌≡◌, ℕ, ◌≤◌, List, [], ◌∷◌, length, ap, refl, ◌∙◌, arith, ◌==◌, if◌then◌else◌}
use Rattle.order_list.specs.Ordered.{AllBelow, IsNumbered}
use Rattle.fut_base.specs.Orders.{put_after}
use Rattle.strand_laws.proofs.Places.{by_eq}

head_then : (a b : ℕ) (zs : List ℕ) → put_after a (b ∷ []) (a ∷ zs) ≡ a ∷ b ∷ zs
head_then a b zs = by_eq (λ t. a ∷ (if t then b ∷ zs else put_after a (b ∷ []) zs) ≡ a ∷ b ∷ zs) a a (λ _. refl) (λ ne. absurd (ne refl))

-- a second item right after a first one that is new
pub two_after : (x a b n : ℕ) (xs : List ℕ) → AllBelow n xs → n ≤ a → put_after a (b ∷ []) (put_after x (a ∷ []) xs) ≡ put_after x (a ∷ b ∷ []) xs
two_after x a b n [] h le = refl
two_after x a b n (z ∷ zs) h le =
    let R : List ℕ = if z == x then a ∷ zs else put_after x (a ∷ []) zs in
    let rest : put_after a (b ∷ []) R ≡ (if z == x then a ∷ b ∷ zs else put_after x (a ∷ b ∷ []) zs) =
    by_eq (λ t. put_after a (b ∷ []) (if t then a ∷ zs else put_after x (a ∷ []) zs) ≡ (if t then a ∷ b ∷ zs else put_after x (a ∷ b ∷ []) zs)) z x
    (λ _. head_then a b zs) (λ _. two_after x a b n zs h.1 le) in
    by_eq (λ t. z ∷ (if t then b ∷ R else put_after a (b ∷ []) R) ≡ z ∷ (if z == x then a ∷ b ∷ zs else put_after x (a ∷ b ∷ []) zs)) z a
    (λ same. absurd (omega (arith, h.0, le, same))) (λ _. ap (λ r. z ∷ r) rest)

-- a second item right after x, so before a first one there
pub both_after : (x a b : ℕ) (xs : List ℕ) → put_after x (b ∷ []) (put_after x (a ∷ []) xs) ≡ put_after x (b ∷ a ∷ []) xs
both_after x a b [] = refl
both_after x a b (z ∷ zs) =
    by_eq (λ t. z ∷ (if t then b ∷ (if t then a ∷ zs else put_after x (a ∷ []) zs) else put_after x (b ∷ [])
    (if t then a ∷ zs else put_after x (a ∷ []) zs)) ≡ z ∷ (if t then b ∷ a ∷ zs else put_after x (b ∷ a ∷ []) zs)) z x
    (λ _. refl) (λ _. ap (λ r. z ∷ r) (both_after x a b zs))

-- a kid after x and a continuation after the kid
pub english_fork : (at x y kid cont : ℕ) (old mid new : List ℕ) → x ≡ at → y ≡ kid → IsNumbered old → kid ≡ length old → mid ≡ put_after x (kid ∷ []) old
    → new ≡ put_after y (cont ∷ []) mid → new ≡ put_after at (kid ∷ cont ∷ []) old
english_fork at x y kid cont old mid new x_is y_is numbered next mid_is new_is =
    let first : mid ≡ put_after at (kid ∷ []) old = mid_is ∙ ap (λ v. put_after v (kid ∷ []) old) x_is in
    let second : new ≡ put_after kid (cont ∷ []) mid = new_is ∙ ap (λ v. put_after v (cont ∷ []) mid) y_is in
    second ∙ ap (put_after kid (cont ∷ [])) first ∙ two_after at kid cont (length old) old numbered.below (omega (arith, next))

-- a kid after x and a continuation after x
pub hebrew_fork : (at x y kid cont : ℕ) (old mid new : List ℕ) → x ≡ at → y ≡ at → mid ≡ put_after x (kid ∷ []) old → new ≡ put_after y (cont ∷ []) mid
    → new ≡ put_after at (cont ∷ kid ∷ []) old
hebrew_fork at x y kid cont old mid new x_is y_is mid_is new_is =
    let first : mid ≡ put_after at (kid ∷ []) old = mid_is ∙ ap (λ v. put_after v (kid ∷ []) old) x_is in
    let second : new ≡ put_after at (cont ∷ []) mid = new_is ∙ ap (λ v. put_after v (cont ∷ []) mid) y_is in
    second ∙ ap (put_after at (cont ∷ [])) first ∙ both_after at kid cont old
