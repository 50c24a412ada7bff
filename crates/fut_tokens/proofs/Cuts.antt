-- A text is cut in one way.
use Rattle.std.proofs.Common.{◌≡◌, ℕ, true, false, List, [], ◌∷◌, ◌++◌, ◌⊎◌, inl, inr, refl, sym, subst, ap, ◌∙◌}
use Rattle.std.specs.Prelude.{Some, None, ◌&&◌}
use Rattle.std.proofs.lemmas.Bool.{and_parts}
use Rattle.fut_tokens.specs.declared.token.Token.{Token}
use Rattle.fut_tokens.specs.Cut.{token_of, token_by, IsLongest, Blank, class_of, is_blank, is_inline, each}
use Rattle.fut_tokens.specs.Cut.{EndsLine, starts_comment, Piece, Space, Comment, Lexeme, bytes_of, Fits, IsCut}
use Rattle.fut_tokens.specs.declared.token.Position.{Position}
use Rattle.fut_tokens.specs.Lexed.{tokens_of, places_of, IsTokensOf}
use Rattle.fut_tokens.proofs.Tests.{blank_class}

-- the first of two fronts of a list is shorter
abbrev Shorter : (a b r s : List ℕ) → Type 0
Shorter a b r s = (x : ℕ) × (more : List ℕ) × (b ≡ a ++ x ∷ more) × (r ≡ (x ∷ more) ++ s)

-- two fronts of one list are the same, or one is shorter
compare : (a b r s : List ℕ) → a ++ r ≡ b ++ s → ((a ≡ b) × (r ≡ s)) ⊎ Shorter a b r s ⊎ Shorter b a s r
compare [] [] r s e = inl (refl, e)
compare [] (y ∷ b) r s e = inr (inl (y, b, refl, e))
compare (x ∷ a) [] r s e = inr (inr (x, a, refl, sym e))
compare (x ∷ a) (y ∷ b) r s e = lift (compare a b r s (cc))
  where
    lift : ((a ≡ b) × (r ≡ s)) ⊎ Shorter a b r s ⊎ Shorter b a s r → ((x ∷ a ≡ y ∷ b) × (r ≡ s)) ⊎ Shorter (x ∷ a) (y ∷ b) r s ⊎ Shorter (y ∷ b) (x ∷ a) s r
    lift (inl h) = inl (cc, h.1)
    lift (inr (inl h)) = inr (inl (h.0, h.1, cc, h.3))
    lift (inr (inr h)) = inr (inr (h.0, h.1, cc, h.3))

-- two longest tokens at one place are one
token_once : (a b r s : List ℕ) (k l : Token) → a ++ r ≡ b ++ s → token_of a ≡ Some k → token_of b ≡ Some l → IsLongest a r → IsLongest b s
    → (a ≡ b) × (k ≡ l) × (r ≡ s)
token_once a b r s k l e ka kb la lb = by (compare a b r s e)
  where
    by : ((a ≡ b) × (r ≡ s)) ⊎ Shorter a b r s ⊎ Shorter b a s r → (a ≡ b) × (k ≡ l) × (r ≡ s)
    by (inl h) = (h.0, cc, h.1)
    by (inr (inl h)) = let none = la h.0 h.1 s h.3 in let same : Some l ≡ None = sym kb ∙ ap token_of h.2 ∙ none in absurd (cc)
    by (inr (inr h)) = let none = lb h.0 h.1 r h.3 in let same : Some k ≡ None = sym ka ∙ ap token_of h.2 ∙ none in absurd (cc)

no_blank : (b : ℕ) (bs r s : List ℕ) (k : Token) → is_blank b ≡ true → token_of bs ≡ Some k → b ∷ r ≡ bs ++ s → ⊥
no_blank b [] r s k h e at = absurd (cc)
no_blank b (x ∷ bs) r s k h e at =
    let same : b ≡ x = cc in
    let c : class_of x ≡ Blank = ap class_of (sym same) ∙ blank_class b h in
    let none : token_of (x ∷ bs) ≡ None = ap (λ q. token_by q x bs) c in
    absurd (cc)

no_stroke : (b : ℕ) → is_blank b ≡ true → b ≡ 47 → ⊥
no_stroke b h e = let t : false ≡ true = ap is_blank (sym e) ∙ h in absurd (cc)

no_comment : (xs c : List ℕ) → starts_comment xs ≡ false → xs ≡ 47 ∷ 47 ∷ c → ⊥
no_comment xs c h e = let t : true ≡ false = ap starts_comment (sym e) ∙ h in absurd (cc)

-- a comment ends where its line does
comment_once : (c d r s : List ℕ) → each is_inline c ≡ true → each is_inline d ≡ true → EndsLine r → EndsLine s → c ++ r ≡ d ++ s → (c ≡ d) × (r ≡ s)
comment_once [] [] r s hc hd hr hs e = (refl, e)
comment_once [] (y ∷ d) r s hc hd hr hs e =
    let line : y ≡ 10 = subst EndsLine e hr in
    let t : false ≡ true = sym (ap (λ (q : ℕ). is_inline q && each is_inline d) line) ∙ hd in absurd (cc)
comment_once (x ∷ c) [] r s hc hd hr hs e =
    let line : x ≡ 10 = subst EndsLine (sym e) hs in
    let t : false ≡ true = sym (ap (λ (q : ℕ). is_inline q && each is_inline c) line) ∙ hc in absurd (cc)
comment_once (x ∷ c) (y ∷ d) r s hc hd hr hs e =
    let h = comment_once c d r s ((and_parts (is_inline x) (each is_inline c) hc).1) ((and_parts (is_inline y) (each is_inline d) hd).1) hr hs (cc) in (cc, h.1)

piece_once : (p q : Piece) (r s : List ℕ) → Fits p r → Fits q s → bytes_of p ++ r ≡ bytes_of q ++ s → (p ≡ q) × (r ≡ s)
piece_once (Space b) (Space d) r s f g e = (cc, cc)
piece_once (Space b) (Comment d) r s f g e = absurd (no_stroke b f (cc))
piece_once (Space b) (Lexeme d k) r s f g e = absurd (no_blank b d r s k f g.0 e)
piece_once (Comment c) (Space d) r s f g e = absurd (no_stroke d g (cc))
piece_once (Comment c) (Comment d) r s f g e = let h = comment_once c d r s f.0 g.0 f.1 g.1 (cc) in (cc, h.1)
piece_once (Comment c) (Lexeme d k) r s f g e = absurd (no_comment (d ++ s) (c ++ r) g.2 (sym e))
piece_once (Lexeme b k) (Space d) r s f g e = absurd (no_blank d b s r k g f.0 (sym e))
piece_once (Lexeme b k) (Comment d) r s f g e = absurd (no_comment (b ++ r) (d ++ s) f.2 e)
piece_once (Lexeme b k) (Lexeme d l) r s f g e = let h = token_once b d r s k l e f.0 g.0 f.1 g.1 in (cc, h.2)

no_piece : (p : Piece) (r : List ℕ) → Fits p r → bytes_of p ++ r ≡ [] → ⊥
no_piece (Space b) r f e = absurd (cc)
no_piece (Comment c) r f e = absurd (cc)
no_piece (Lexeme [] k) r f e = let h = f.0 in absurd (cc)
no_piece (Lexeme (x ∷ b) k) r f e = absurd (cc)

pub cut_once : (ps qs : List Piece) (bytes : List ℕ) → IsCut bytes ps → IsCut bytes qs → ps ≡ qs
cut_once [] [] bytes f g = refl
cut_once [] (q ∷ qs) bytes f g = absurd (no_piece q g.0 g.2 (sym g.1 ∙ f))
cut_once (p ∷ ps) [] bytes f g = absurd (no_piece p f.0 f.2 (sym f.1 ∙ g))
cut_once (p ∷ ps) (q ∷ qs) bytes f g =
    let h = piece_once p q f.0 g.0 f.2 g.2 (sym f.1 ∙ g.1) in
    let k = cut_once ps qs f.0 f.3 (subst (λ (r : List ℕ). IsCut r qs) (sym h.1) g.3) in (cc)

pub tokens_once : (bytes : List ℕ) (xs ys : List Token) (ps qs : List Position) → IsTokensOf bytes xs ps → IsTokensOf bytes ys qs → (xs ≡ ys) × (ps ≡ qs)
tokens_once bytes xs ys ps qs f g =
    let e = cut_once f.pieces g.pieces bytes f.cut g.cut in
    (f.are ∙ ap tokens_of e ∙ sym g.are, f.stand ∙ ap (places_of []) e ∙ sym g.stand)
