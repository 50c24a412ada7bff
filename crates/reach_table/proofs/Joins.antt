-- Blocks of two tables and a strand more, put together one block after the other.
use Rattle.std.proofs.Common.{◌≡◌, ◌≢◌, ℕ, zero, suc, ◌<◌, ◌≤◌, List, [], ◌++◌, take, drop, ◌⊎◌, inl, inr, refl, subst, sym, arith, ◌∙◌}
use Rattle.std.specs.Prelude.{◌↔◌, Option, None}
use Rattle.order_list.specs.Sides.{Lists}
use Rattle.fut_base.specs.Dag.{Among}
use Rattle.strand_laws.proofs.Places.{among_or, among_left, among_right, same_or_not}
use Rattle.strand_tree.specs.declared.strand.Strand.{Strand}
use Rattle.reach_table.specs.declared.block.Block.{Block}
use Rattle.reach_table.specs.Merging.{listed, together, IsGreatest}
use Rattle.reach_table.specs.Blocks.{key_of, flat, AreBlocks}
use Rattle.reach_table.specs.Joining.{IsLeast, HasKey, IsNext}
use Rattle.reach_table.proofs.Members.{from_drop}
use Rattle.reach_table.proofs.Putting.{greatest_same}
use Rattle.reach_table.proofs.Blocks.{flat_split, flat_append, key_in, blocks_take, blocks_drop, blocks_join, lower}
use Rattle.reach_table.proofs.Held.{greatest_apart}

-- what a table has of three lists
pub parts : (a b : List Strand) (l : Option Strand) (w : Strand) → Among w (together a b l) → Among w a ⊎ (Among w b ⊎ Among w (listed l))
parts a b l w h = elim (among_or w (a ++ b) (listed l) h) [
  | inr r ↦ inr (inr r)
  | inl k ↦ elim (among_or w a b k) [ inl x ↦ inl x | inr y ↦ inr (inl y) ]
]

pub of_parts : (a b : List Strand) (l : Option Strand) (w : Strand) → Among w a ⊎ (Among w b ⊎ Among w (listed l)) → Among w (together a b l)
of_parts a b l w (inl x) = among_left w (a ++ b) (listed l) (among_left w a b x)
of_parts a b l w (inr (inl y)) = among_left w (a ++ b) (listed l) (among_right w a b y)
of_parts a b l w (inr (inr r)) = among_right w (a ++ b) (listed l) r

pub in_split : (n : ℕ) (bs : List Block) (w : Strand) → Among w (flat bs) → Among w (flat (take n bs)) ⊎ Among w (flat (drop n bs))
in_split n bs w a = among_or w (flat (take n bs)) (flat (drop n bs)) (subst (λ l. Among w l) (flat_split n bs) a)

pub of_take : (n : ℕ) (bs : List Block) (w : Strand) → Among w (flat (take n bs)) → Among w (flat bs)
of_take n bs w a = subst (λ l. Among w l) (sym (flat_split n bs)) (among_left w (flat (take n bs)) (flat (drop n bs)) a)

pub of_drop : (n : ℕ) (bs : List Block) (w : Strand) → Among w (flat (drop n bs)) → Among w (flat bs)
of_drop n bs w a = subst (λ l. Among w l) (sym (flat_split n bs)) (among_right w (flat (take n bs)) (flat (drop n bs)) a)

-- the block of a strand is still to come
pub next_of : (one other : List Block) (last : Option Strand) → AreBlocks one → AreBlocks other → (w : Strand)
    → Among w (together (flat one) (flat other) last) → IsNext one other last (key_of w)
next_of one other last r s w a = elim (parts (flat one) (flat other) last w a) [
  | inl x ↦ (let k = key_in one r w x in inl (inl (k.0, k.1, sym k.2)))
  | inr (inl y) ↦ (let k = key_in other s w y in inl (inr (k.0, k.1, sym k.2)))
  | inr (inr l) ↦ inr (w, l, refl)
]

-- the blocks that were made of those that have passed, and what is still to come
pub record Joins (lists : Lists) (own : ℕ) (whole : List Strand) (all one other : List Block) (last : Option Strand) : Type 0 where
  pub passed : List Strand
  pub whole_is : (w : Strand) → Among w whole ↔ (Among w passed ⊎ Among w (together (flat one) (flat other) last))
  pub kept : (w : Strand) → Among w (flat all) ↔ IsGreatest lists own passed w
  pub before : (x : Strand) (key : ℕ) → Among x passed → IsNext one other last key → key_of x < key
  pub below : (b : Block) (key : ℕ) → Among b all → IsNext one other last key → b.key < key
  pub blocks : AreBlocks all
  pub one_blocks : AreBlocks one
  pub other_blocks : AreBlocks other

pub joins_none : (lists : Lists) (own : ℕ) (one other : List Block) (last : Option Strand) → AreBlocks one → AreBlocks other
    → Joins lists own (together (flat one) (flat other) last) [] one other last
joins_none lists own one other last r s =
    record {
      passed = [];
      whole_is = λ w. (λ a. inr a, λ h. elim h [ inl x ↦ absurd x | inr y ↦ y ]);
      kept = λ w. (λ a. absurd a, λ g. absurd g.among);
      before = λ x key a n. absurd a;
      below = λ b key a n. absurd a;
      blocks = tt;
      one_blocks = r;
      other_blocks = s;
    }

-- at the end
pub joins_all : (lists : Lists) (own : ℕ) (whole : List Strand) (all one other : List Block) (last : Option Strand) → Joins lists own whole all one other last
    → IsLeast (IsNext one other last) None → (w : Strand) → Among w (flat all) ↔ IsGreatest lists own whole w
joins_all lists own whole all one other last j none w =
    let same : (x : Strand) → Among x j.passed ↔ Among x whole = (λ x. (
      λ a. (j.whole_is x).1 (inl a),
      λ a. elim ((j.whole_is x).0 a) [ inl p ↦ p | inr r ↦ absurd (none (key_of x) (next_of one other last j.one_blocks j.other_blocks x r)) ],
    )) in (
      λ a. greatest_same lists own j.passed whole same w ((j.kept w).0 a),
      λ g. (j.kept w).1 (greatest_same lists own whole j.passed (λ x. ((same x).1, (same x).0)) w g),
    )

-- one block more
module _ (lists : Lists) (own : ℕ) (whole : List Strand) (all one other : List Block) (last : Option Strand) (j : Joins lists own whole all one other last)
    (key : ℕ) (next : IsNext one other last key) (least : (m : ℕ) → IsNext one other last m → key ≤ m)
    (first second : ℕ) (at : (b : Block) → Among b (take first one) → b.key ≡ key) (rest : (b : Block) → Among b (drop first one) → key < b.key)
    (at' : (b : Block) → Among b (take second other) → b.key ≡ key) (rest' : (b : Block) → Among b (drop second other) → key < b.key)
    (here there : Option Strand) (is_here : (w : Strand) → Among w (listed here) ↔ (Among w (listed last) × (key_of w ≡ key)))
    (is_there : (w : Strand) → Among w (listed there) ↔ (Among w (listed last) × (key_of w ≢ key))) where
  abbrev pub piece : List Strand
  piece = together (flat (take first one)) (flat (take second other)) here

  abbrev left_over : List Strand
  left_over = together (flat (drop first one)) (flat (drop second other)) there

  pub piece_key : (w : Strand) → Among w piece → key_of w ≡ key
  piece_key w a = elim (parts (flat (take first one)) (flat (take second other)) here w a) [
    | inl x ↦ (let k = key_in (take first one) (blocks_take first one j.one_blocks) w x in k.2 ∙ at k.0 k.1)
    | inr (inl y) ↦ (let k = key_in (take second other) (blocks_take second other j.other_blocks) w y in k.2 ∙ at' k.0 k.1)
    | inr (inr l) ↦ ((is_here w).0 l).1
  ]

  pub piece_in : (w : Strand) → Among w piece → Among w (together (flat one) (flat other) last)
  piece_in w a = of_parts (flat one) (flat other) last w (elim (parts (flat (take first one)) (flat (take second other)) here w a) [
    | inl x ↦ inl (of_take first one w x)
    | inr (inl y) ↦ inr (inl (of_take second other w y))
    | inr (inr l) ↦ inr (inr ((is_here w).0 l).0)
  ])

  left_in : (w : Strand) → Among w left_over → Among w (together (flat one) (flat other) last)
  left_in w a = of_parts (flat one) (flat other) last w (elim (parts (flat (drop first one)) (flat (drop second other)) there w a) [
    | inl x ↦ inl (of_drop first one w x)
    | inr (inl y) ↦ inr (inl (of_drop second other w y))
    | inr (inr l) ↦ inr (inr ((is_there w).0 l).0)
  ])

  split : (w : Strand) → Among w (together (flat one) (flat other) last) → Among w piece ⊎ Among w left_over
  split w a = elim (parts (flat one) (flat other) last w a) [
    | inl x ↦
        elim (in_split first one w x) [
          | inl p ↦ inl (of_parts _ (flat (take second other)) here w (inl p))
          | inr q ↦
              inr (of_parts _ (flat (drop second other)) there w (inl q))
        ]
    | inr (inl y) ↦
        elim (in_split second other w y) [
          | inl p ↦ inl (of_parts (flat (take first one)) _ here w (inr (inl p)))
          | inr q ↦
              inr (of_parts (flat (drop first one)) _ there w (inr (inl q)))
        ]
    | inr (inr l) ↦ elim (same_or_not (key_of w) key) [
      | inl e ↦ inl (of_parts (flat (take first one)) (flat (take second other)) here w (inr (inr ((is_here w).1 (l, e)))))
      | inr ne ↦ inr (of_parts (flat (drop first one)) (flat (drop second other)) there w (inr (inr ((is_there w).1 (l, ne)))))
    ]
  ]

  -- what comes after this block
  later : (m : ℕ) → IsNext (drop first one) (drop second other) there m → IsNext one other last m × (key < m)
  later m (inl (inl k)) = let lt = rest k.0 k.1 in let e = k.2 in (inl (inl (k.0, from_drop first one k.0 k.1, e)), omega (arith, lt, e))
  later m (inl (inr k)) = let lt = rest' k.0 k.1 in let e = k.2 in (inl (inr (k.0, from_drop second other k.0 k.1, e)), omega (arith, lt, e))
  later m (inr k) =
      let p = (is_there k.0).0 k.1 in
      let was : IsNext one other last m = inr (k.0, p.0, k.2) in
      let le = least m was in
      let ne = p.1 in
      let e = k.2 in
      (was, omega (arith, le, ne, e))

  apart : (x y : Strand) → Among x j.passed → Among y piece → x.future ≢ y.future
  apart x y a b e =
      let lt = j.before x key a next in
      let k = piece_key y b in
      let f = lower x y (omega (arith, lt, k)) in
      absurd (omega (arith, f, e))

  module _ (made : List Block) (blocks : AreBlocks made) (keyed : (b : Block) → Among b made → b.key ≡ key)
      (strands : (w : Strand) → Among w (flat made) ↔ IsGreatest lists own piece w) where
    kept_more : (w : Strand) → Among w (flat (all ++ made)) ↔ IsGreatest lists own (j.passed ++ piece) w
    kept_more w = (
      λ a. (greatest_apart lists own j.passed piece apart w).1 (elim (among_or w (flat all) (flat made) (subst (λ l. Among w l) (flat_append all made) a)) [
        | inl x ↦ inl ((j.kept w).0 x)
        | inr y ↦ inr ((strands w).0 y)
      ]),
      λ g. subst (λ l. Among w l) (sym (flat_append all made)) (elim ((greatest_apart lists own j.passed piece apart w).0 g) [
        | inl x ↦ among_left w (flat all) (flat made) ((j.kept w).1 x)
        | inr y ↦ among_right w (flat all) (flat made) ((strands w).1 y)
      ]),
    )

    pub joins_more : Joins lists own whole (all ++ made) (drop first one) (drop second other) there
    joins_more =
        record {
          passed = j.passed ++ piece;
          whole_is = λ w. (
            λ a. elim ((j.whole_is w).0 a) [
              | inl p ↦ inl (among_left w j.passed piece p)
              | inr r ↦ elim (split w r) [ inl p ↦ inl (among_right w j.passed piece p) | inr q ↦ inr q ]
            ],
            λ h. elim h [
              | inl p ↦ elim (among_or w j.passed piece p) [ inl x ↦ (j.whole_is w).1 (inl x) | inr y ↦ (j.whole_is w).1 (inr (piece_in w y)) ]
              | inr q ↦ (j.whole_is w).1 (inr (left_in w q))
            ],
          );
          kept = kept_more;
          before = λ x m a n. (
              let l = later m n in
              elim (among_or x j.passed piece a) [
                | inl p ↦ j.before x m p l.0
                | inr q ↦ (let k = piece_key x q in let lt = l.1 in omega (arith, k, lt))
              ]);
          below = λ b m a n. (
              let l = later m n in
              elim (among_or b all made a) [
                | inl p ↦ j.below b m p l.0
                | inr q ↦ (let k = keyed b q in let lt = l.1 in omega (arith, k, lt))
              ]);
          blocks = blocks_join all made j.blocks blocks (λ x y a b. (let k = j.below x key a next in let e = keyed y b in omega (arith, k, e)));
          one_blocks = blocks_drop first one j.one_blocks;
          other_blocks = blocks_drop second other j.other_blocks;
        }

-- where a block has the number, it is taken
pub taken_one : (bs : List Block) (n key : ℕ) → HasKey bs key → ((b : Block) → Among b (drop n bs) → key < b.key) → 0 < n
taken_one bs zero key has rest = let k = rest has.0 has.1 in let e = has.2 in absurd (omega (arith, k, e))
taken_one bs (suc n) key has rest = omega arith

-- all strands that are put together are known
pub known_parts : (known : ℕ) (one other : List Strand) (last : Option Strand) → ((w : Strand) → Among w one → w.number < known)
    → ((w : Strand) → Among w other → w.number < known) → ((w : Strand) → Among w (listed last) → w.number < known) → (w : Strand)
    → Among w (together one other last) → w.number < known
known_parts known one other last f g h w a = elim (parts one other last w a) [ inl x ↦ f w x | inr (inl y) ↦ g w y | inr (inr l) ↦ h w l ]

-- all strands that are put together are of one block
pub keyed_parts : (key : ℕ) (one other : List Block) (last : Option Strand) → AreBlocks one → AreBlocks other → ((b : Block) → Among b one → b.key ≡ key)
    → ((b : Block) → Among b other → b.key ≡ key) → ((w : Strand) → Among w (listed last) → key_of w ≡ key) → (w : Strand)
    → Among w (together (flat one) (flat other) last) → key_of w ≡ key
keyed_parts key one other last r s f g h w a = elim (parts (flat one) (flat other) last w a) [
  | inl x ↦ (let k = key_in one r w x in k.2 ∙ f k.0 k.1)
  | inr (inl y) ↦ (let k = key_in other s w y in k.2 ∙ g k.0 k.1)
  | inr (inr l) ↦ h w l
]
