-- Texts written one after another.
use Rattle.std.proofs.Common.{◌≡◌, ℕ, List, [], ◌++◌, sym, ◌∙◌, ap, subst, append_assoc, arith}
use Rattle.std.specs.Prelude.{Option, Some, None}
use Rattle.std.proofs.lemmas.List.{append-nil}
use Rattle.std.specs.Io.KnownBytes.{Appends, Keeps}
use Rattle.fut_base.specs.declared.ports.Wrote.{Wrote}
use Rattle.fut_base.specs.declared.ports.Wrote.TheVariants.{All, Failed}
use Rattle.fut_base.specs.Ports.{Writes, Rose}

pub appends_none : (a : Option (List ℕ)) → Appends a a []
appends_none None = tt
appends_none (Some xs) = sym (append-nil xs)

pub appends_keep : (a b c : Option (List ℕ)) (xs : List ℕ) → Appends a b xs → Keeps b c → Appends a c xs
appends_keep None b c xs h k = tt
appends_keep (Some ks) None c xs h k = absurd h
appends_keep (Some ks) (Some bs) None xs h k = absurd k
appends_keep (Some ks) (Some bs) (Some cs) xs h k = k ∙ h

pub appends_both : (a b c : Option (List ℕ)) (xs ys : List ℕ) → Appends a b xs → Appends b c ys → Appends a c (xs ++ ys)
appends_both None b c xs ys h k = tt
appends_both (Some ks) None c xs ys h k = absurd h
appends_both (Some ks) (Some bs) None xs ys h k = absurd k
appends_both (Some ks) (Some bs) (Some cs) xs ys h k = k ∙ ap (λ (l : List ℕ). l ++ ys) h ∙ append_assoc ks xs ys

-- a text after what was written
pub writes_after : (a b c : Option (List ℕ)) (f g h : ℕ) (xs ys : List ℕ) (r : Wrote) → Appends a b xs → g ≡ f → Writes b c g h ys r
    → Writes a c f h (xs ++ ys) r
writes_after a b c f g h xs ys All one same two = (appends_both a b c xs ys one two.0, omega (arith, two.1))
writes_after a b c f g h xs ys Failed one same two =
    let part = two.0.0 in
    let rest = two.0.1 in (
      (xs ++ part, rest, ap (λ l. xs ++ l) two.0.2 ∙ sym (append_assoc xs part rest), appends_both a b c xs part one two.0.3),
      omega (arith, two.1),
      subst (λ n. Rose n h) same two.2,
    )

-- a longer text of which a beginning was written
pub stopped_early : (a b : Option (List ℕ)) (f g : ℕ) (xs ys : List ℕ) → Writes a b f g xs Failed → Writes a b f g (xs ++ ys) Failed
stopped_early a b f g xs ys w =
    let part = w.0.0 in
    let rest = w.0.1 in
    ((part, rest ++ ys, ap (λ (l : List ℕ). l ++ ys) w.0.2 ∙ append_assoc part rest ys, w.0.3), w.1, w.2)

-- what was written, the next part and those after it are all parts
pub goes_on : (all done here after left : List ℕ) → all ≡ done ++ left → left ≡ here ++ after → all ≡ (done ++ here) ++ after
goes_on all done here after left is next = is ∙ (ap (λ l. done ++ l) next ∙ sym (append_assoc done here after))

-- a text of which some parts were written, and then a beginning of the next
pub stopped_in : (a b c : Option (List ℕ)) (f g h : ℕ) (all done here after : List ℕ) → all ≡ (done ++ here) ++ after → Appends a b done → g ≡ f
    → Writes b c g h here Failed → Writes a c f h all Failed
stopped_in a b c f g h all done here after is one same two =
    subst (λ text. Writes a c f h text Failed) (sym is) (stopped_early a c f h (done ++ here) after (writes_after a b c f g h done here Failed one same two))
