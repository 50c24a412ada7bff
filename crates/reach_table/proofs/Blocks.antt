-- Blocks, their strands and their order.
use Rattle.std.proofs.Common.{◌≡◌, ◌≢◌, ℕ, zero, suc, ◌+◌, ◌-◌, ◌<◌, ◌≤◌, ◌==◌, Bool, false, true≢false, List, []}
use Rattle.std.proofs.Common.{◌∷◌, ◌++◌, length, get_or, take, drop, inl, inr, refl, subst, sym, ap, arith, ◌∙◌}
use Rattle.std.proofs.lemmas.List.{append_assoc, append-nil, take-append-drop, length-map, map_more}
use Rattle.std.proofs.Math.ListN.{get_or-map}
use Rattle.std.specs.declared.sync.Arc.{Arc}
use Rattle.std.specs.Arc.{arc_value}
use Rattle.fut_base.specs.Dag.{Among}
use Rattle.strand_laws.proofs.Places.{among_or, among_left, among_right}
use Rattle.strand_tree.specs.declared.strand.Strand.{Strand}
use Rattle.reach_table.specs.declared.block.Block.{Block}
use Rattle.reach_table.specs.Sorted.{IsBelow, IsRising}
use Rattle.reach_table.specs.Telling.{HasOneOfEach}
use Rattle.reach_table.specs.Merging.{strand_at}
use Rattle.reach_table.specs.Blocks.{key_of, flat, IsBlock, AreBlocks, values}
use Rattle.reach_table.specs.Joining.{HasKey}
use Rattle.reach_table.proofs.Members.{at_place}
use Rattle.reach_table.proofs.Rising.{below_future}

pub in_flat : (b : Block) (bs : List Block) (w : Strand) → Among b bs → Among w b.strands.items → Among w (flat bs)
in_flat b [] w h a = absurd h
in_flat b (c ∷ cs) w (inl e) a = among_left w c.strands.items (flat cs) (subst (λ (z : Block). Among w z.strands.items) (sym e) a)
in_flat b (c ∷ cs) w (inr h) a = among_right w c.strands.items (flat cs) (in_flat b cs w h a)

pub from_flat : (bs : List Block) (w : Strand) → Among w (flat bs) → (b : Block) × Among b bs × Among w b.strands.items
from_flat [] w h = absurd h
from_flat (c ∷ cs) w h = elim (among_or w c.strands.items (flat cs) h) [
  | inl l ↦ (c, inl refl, l)
  | inr r ↦ (let k = from_flat cs w r in (k.0, inr k.1, k.2))
]

pub flat_append : (xs ys : List Block) → flat (xs ++ ys) ≡ flat xs ++ flat ys
flat_append [] ys = refl
flat_append (x ∷ xs) ys = ap (λ l. x.strands.items ++ l) (flat_append xs ys) ∙ sym (append_assoc x.strands.items (flat xs) (flat ys))

pub flat_split : (n : ℕ) (xs : List Block) → flat xs ≡ flat (take n xs) ++ flat (drop n xs)
flat_split n xs = ap flat (sym (take-append-drop n xs)) ∙ flat_append (take n xs) (drop n xs)

pub block_in : (bs : List Block) → AreBlocks bs → (b : Block) → Among b bs → IsBlock b
block_in [] r b h = absurd h
block_in (c ∷ cs) r b (inl e) = subst IsBlock e r.0
block_in (c ∷ cs) r b (inr h) = block_in cs r.2 b h

pub key_in : (bs : List Block) → AreBlocks bs → (w : Strand) → Among w (flat bs) → (b : Block) × Among b bs × (key_of w ≡ b.key)
key_in bs r w h = let k = from_flat bs w h in (k.0, k.1, (block_in bs r k.0 k.1).keyed w k.2)

pub blocks_left : (xs ys : List Block) → AreBlocks (xs ++ ys) → AreBlocks xs
blocks_left [] ys r = tt
blocks_left (x ∷ xs) ys r = (r.0, λ c a. r.1 c (among_left c xs ys a), blocks_left xs ys r.2)

pub blocks_right : (xs ys : List Block) → AreBlocks (xs ++ ys) → AreBlocks ys
blocks_right [] ys r = r
blocks_right (x ∷ xs) ys r = blocks_right xs ys r.2

pub blocks_across : (xs ys : List Block) (x y : Block) → AreBlocks (xs ++ ys) → Among x xs → Among y ys → x.key < y.key
blocks_across [] ys x y r a b = absurd a
blocks_across (z ∷ xs) ys x y r (inl e) b = subst (λ (w : Block). w.key < y.key) e (r.1 y (among_right y xs ys b))
blocks_across (z ∷ xs) ys x y r (inr a) b = blocks_across xs ys x y r.2 a b

pub blocks_join : (xs ys : List Block) → AreBlocks xs → AreBlocks ys → ((x y : Block) → Among x xs → Among y ys → x.key < y.key) → AreBlocks (xs ++ ys)
blocks_join [] ys r k up = k
blocks_join (x ∷ xs) ys r k up = (
  r.0,
  λ c a. elim (among_or c xs ys a) [ inl l ↦ r.1 c l | inr h ↦ up x c (inl refl) h ],
  blocks_join xs ys r.2 k (λ z y a. up z y (inr a)),
)

pub blocks_take : (n : ℕ) (bs : List Block) → AreBlocks bs → AreBlocks (take n bs)
blocks_take n bs r = blocks_left (take n bs) (drop n bs) (subst AreBlocks (sym (take-append-drop n bs)) r)

pub blocks_drop : (n : ℕ) (bs : List Block) → AreBlocks bs → AreBlocks (drop n bs)
blocks_drop n bs r = blocks_right (take n bs) (drop n bs) (subst AreBlocks (sym (take-append-drop n bs)) r)

-- a block of a lesser number, and those before it
pub lesser_more : (bs : List Block) (i : ℕ) (d : Block) (key : ℕ) → AreBlocks bs → i < length bs → (get_or bs i d).key < key → (b : Block)
    → Among b (take (suc i) bs) → b.key < key
lesser_more [] i d key r lt h b a = absurd (omega arith)
lesser_more (c ∷ cs) zero d key r lt h b (inl e) = subst (λ (z : Block). z.key < key) e h
lesser_more (c ∷ cs) zero d key r lt h b (inr a) = absurd a
lesser_more (c ∷ cs) (suc i) d key r lt h b (inl e) =
    let k = r.1 (get_or cs i d) (at_place cs i d (omega arith)) in
    subst (λ (z : Block). z.key < key) e (omega (arith, k, h))
lesser_more (c ∷ cs) (suc i) d key r lt h b (inr a) = lesser_more cs i d key r.2 (omega arith) h b a

-- a block that is not of a lesser number, and those behind it
pub least_more : (bs : List Block) (i : ℕ) (d : Block) (key : ℕ) → AreBlocks bs → i < length bs → key ≤ (get_or bs i d).key → (b : Block)
    → Among b (drop i bs) → key ≤ b.key
least_more [] i d key r lt h b a = absurd (omega arith)
least_more (c ∷ cs) zero d key r lt h b (inl e) = subst (λ (z : Block). key ≤ z.key) e h
least_more (c ∷ cs) zero d key r lt h b (inr a) = let k = r.1 b a in omega (arith, k, h)
least_more (c ∷ cs) (suc i) d key r lt h b a = least_more cs i d key r.2 (omega arith) h b a

-- blocks of lower and of higher numbers
pub lower : (x y : Strand) → key_of x < key_of y → x.future < y.future
lower x y lt = omega (arith, lt)

rising_append : (xs ys : List Strand) → IsRising xs → IsRising ys → ((x y : Strand) → Among x xs → Among y ys → IsBelow x y) → IsRising (xs ++ ys)
rising_append [] ys r k up = k
rising_append (x ∷ xs) ys r k up = (
  λ y a. elim (among_or y xs ys a) [ inl l ↦ r.0 y l | inr h ↦ up x y (inl refl) h ],
  rising_append xs ys r.1 k (λ z y a. up z y (inr a)),
)

pub flat_rising : (bs : List Block) → AreBlocks bs → IsRising (flat bs)
flat_rising [] r = tt
flat_rising (b ∷ bs) r = rising_append b.strands.items (flat bs) r.0.rising (flat_rising bs r.2) (λ x y a h. (
    let k = key_in bs r.2 y h in
    let e = r.0.keyed x a in
    let lt = r.1 k.0 k.1 in
    let f = k.2 in
    inl (lower x y (omega (arith, e, f, lt)))))

-- the first block is the one with the least number
pub first_least : (bs : List Block) (b : Block) → AreBlocks bs → 0 < length bs → get_or bs 0 b ≡ b → HasKey bs b.key × ((m : ℕ) → HasKey bs m → b.key ≤ m)
first_least [] b r lt is = absurd (omega (arith, lt))
first_least (c ∷ cs) b r lt is = ((b, inl is, refl), least)
  where
    least : (m : ℕ) → HasKey (c ∷ cs) m → b.key ≤ m
    least m (d, inl e, k) = let P : Block → Type 0 = λ z. z.key ≡ m in let j : P b = subst P (sym e ∙ is) k in omega (arith, j)
    least m (d, inr a, k) = let P : Block → Type 0 = λ z. z.key < d.key in let j : P b = subst P is (r.1 d a) in omega (arith, j, k)

-- those behind the block with this number
pub rest_above : (bs : List Block) (d : Block) (key : ℕ) → AreBlocks bs → 0 < length bs → (get_or bs 0 d).key ≡ key → (b : Block) → Among b (drop 1 bs)
    → key < b.key
rest_above [] d key r lt is b a = absurd a
rest_above (c ∷ cs) d key r lt is b a = let k = r.1 b a in omega (arith, k, is)

-- no block has this number
pub all_above : (bs : List Block) (d : Block) (key : ℕ) → AreBlocks bs → ((b : Block) → Among b bs → key ≤ b.key) → (get_or bs 0 d).key ≢ key → (b : Block)
    → Among b bs → key < b.key
all_above [] d key r least ne b a = absurd a
all_above (c ∷ cs) d key r least ne b (inl e) =
    let k = least c (inl refl) in
    let P : Block → Type 0 = λ z. key < z.key in
    subst P e (omega (arith, k, ne))
all_above (c ∷ cs) d key r least ne b (inr a) = let k = least c (inl refl) in let j = r.1 b a in omega (arith, k, j)

-- what is shared
module _ {Z : Type 0} (shared : List (Arc Block Z)) where
  pub count : length (values shared) ≡ length shared
  count = length-map shared arc_value

  pub value_at : (i : ℕ) (r : Arc Block Z) (b : Block) → r ≡ get_or shared i r → b ≡ arc_value r → get_or (values shared) i b ≡ b
  value_at i r b is e =
      let P : Block → Type 0 = λ z. get_or (values shared) i z ≡ z in
      subst P (sym e) (get_or-map arc_value shared i r ∙ ap arc_value (sym is))

  pub flat_more : (i : ℕ) (r : Arc Block Z) → i < length shared → r ≡ get_or shared i r
      → flat (values (take (i + 1) shared)) ≡ flat (values (take i shared)) ++ (arc_value r).strands.items
  flat_more i r lt is =
      ap flat (map_more arc_value shared i r lt)
      ∙ flat_append (values (take i shared)) (arc_value (get_or shared i r) ∷ [])
      ∙ ap (λ l. flat (values (take i shared)) ++ l) (append-nil (arc_value (get_or shared i r)).strands.items)
      ∙ ap (λ (z : Arc Block Z). flat (values (take i shared)) ++ (arc_value z).strands.items) (sym is)

-- where futures rise from each strand to the next there is one strand of each
strict : (x : Strand) (xs : List Strand) → IsRising (x ∷ xs)
    → ((n : ℕ) → 0 ≤ n → n < length (x ∷ xs) - 1 → (strand_at (x ∷ xs) n).future < (strand_at (x ∷ xs) (n + 1)).future) → (y : Strand) → Among y xs
    → x.future < y.future
strict x [] r up y a = absurd a
strict x (z ∷ zs) r up y (inl e) = let k = up 0 (omega arith) (omega arith) in subst (λ (w : Strand). x.future < w.future) e k
strict x (z ∷ zs) r up y (inr a) =
    let k = up 0 (omega arith) (omega arith) in
    let j = below_future z y (r.1.0 y a) in
    omega (arith, k, j)

pub one_each : (xs : List Strand) → IsRising xs → ((n : ℕ) → 0 ≤ n → n < length xs - 1 → (strand_at xs n).future < (strand_at xs (n + 1)).future)
    → HasOneOfEach xs
one_each [] r up w y a b e = absurd a
one_each (x ∷ xs) r up w y (inl p) (inl q) e = sym p ∙ q
one_each (x ∷ xs) r up w y (inl p) (inr b) e = let k = strict x xs r up y b in let P : Strand → Type 0 = λ z. z.future < y.future in let j : P w =
    subst P p k in absurd (omega (arith, j, e))
one_each (x ∷ xs) r up w y (inr a) (inl q) e = let k = strict x xs r up w a in let P : Strand → Type 0 = λ z. z.future < w.future in let j : P y =
    subst P q k in absurd (omega (arith, j, e))
one_each (x ∷ xs) r up w y (inr a) (inr b) e = one_each xs r.1 (λ n z lt. (
    let P : ℕ → Type 0 = λ m. (strand_at xs n).future < (strand_at (x ∷ xs) m).future in
    let same : suc n + 1 ≡ suc (n + 1) = omega arith in
    subst P same (up (suc n) (omega arith) (omega (arith, lt))))) w y a b e

pub no_block : {Z : Type 0} → (shared : List (Arc Block Z)) (key : ℕ) → length shared ≡ 0 → (b : Block) → Among b (values shared) → key < b.key
no_block [] key e b a = absurd a
no_block (x ∷ xs) key e b a = absurd (omega (arith, e))

pub some_of : (n : ℕ) (b : Bool) → b ≡ (n == 0) → b ≡ false → 0 < n
some_of zero b is off = absurd (true≢false (sym is ∙ off))
some_of (suc n) b is off = omega arith

-- the only block
pub lone_value : {Z : Type 0} → (shared : List (Arc Block Z)) (r : Arc Block Z) (b : Block) → length shared ≤ 1 → 0 < length shared → r ≡ get_or shared 0 r
    → b ≡ arc_value r → values shared ≡ b ∷ []
lone_value [] r b few some is e = absurd (omega (arith, some))
lone_value (x ∷ []) r b few some is e = ap (λ z. z ∷ []) (ap arc_value (sym is) ∙ sym e)
lone_value (x ∷ y ∷ xs) r b few some is e = absurd (omega (arith, few))

pub lone_flat : (bs : List Block) (b : Block) → bs ≡ b ∷ [] → flat bs ≡ b.strands.items
lone_flat bs b is = ap flat is ∙ append-nil b.strands.items

pub no_strand : {Z : Type 0} → (shared : List (Arc Block Z)) (w : Strand) → length shared ≡ 0 → Among w (flat (values shared)) → ⊥
no_strand [] w e a = a
no_strand (x ∷ xs) w e a = absurd (omega (arith, e))
