-- The block of a future, where it is found, and one more strand in it.
use Rattle.std.proofs.Common.{◌≡◌, ℕ, ◌<◌, List, ◌++◌, take, drop, ◌⊎◌, inl, inr, subst, sym, arith, ◌∙◌}
use Rattle.std.specs.Prelude.{◌↔◌}
use Rattle.fut_base.specs.Dag.{Among}
use Rattle.strand_laws.proofs.Places.{among_or, among_left, among_right}
use Rattle.strand_tree.specs.declared.strand.Strand.{Strand}
use Rattle.reach_table.specs.declared.block.Block.{Block}
use Rattle.reach_table.specs.Blocks.{key_of, flat, AreBlocks}
use Rattle.reach_table.proofs.Blocks.{flat_append, key_in, blocks_take, blocks_drop, blocks_join}
use Rattle.reach_table.proofs.Joins.{in_split, of_take, of_drop}

module _ (bs : List Block) (r : AreBlocks bs) (at n key : ℕ) (before : (b : Block) → Among b (take at bs) → b.key < key)
    (is : (b : Block) → Among b (take n (drop at bs)) → b.key ≡ key) (rest : (b : Block) → Among b (drop n (drop at bs)) → key < b.key) where
  pub found : (w : Strand) → Among w (flat (take n (drop at bs))) ↔ (Among w (flat bs) × (key_of w ≡ key))
  found w = (
    λ a. (
        let k = key_in (take n (drop at bs)) (blocks_take n (drop at bs) (blocks_drop at bs r)) w a in
        (of_drop at bs w (of_take n (drop at bs) w a), k.2 ∙ is k.0 k.1)),
    λ p. elim (in_split at bs w p.0) [
      | inl a ↦ (
          let k = key_in (take at bs) (blocks_take at bs r) w a in
          let lt = before k.0 k.1 in
          let e = k.2 in
          let f = p.1 in
          absurd (omega (arith, lt, e, f)))
      | inr b ↦ elim (in_split n (drop at bs) w b) [
        | inl c ↦ c
        | inr d ↦ (
            let k = key_in (drop n (drop at bs)) (blocks_drop n (drop at bs) (blocks_drop at bs r)) w d in
            let lt = rest k.0 k.1 in
            let e = k.2 in
            let f = p.1 in
            absurd (omega (arith, lt, e, f)))
      ]
    ],
  )

  -- another block in its place
  module _ (made : List Block) (blocks : AreBlocks made) (keyed : (b : Block) → Among b made → b.key ≡ key) where
    pub with_blocks : AreBlocks ((take at bs ++ made) ++ drop n (drop at bs))
    with_blocks =
        blocks_join (take at bs ++ made) (drop n (drop at bs))
        (blocks_join (take at bs) made (blocks_take at bs r) blocks (λ x y a b. (let lt = before x a in let e = keyed y b in omega (arith, lt, e))))
        (blocks_drop n (drop at bs) (blocks_drop at bs r))
        (λ x y a b. (
        let lt = rest y b in
        elim (among_or x (take at bs) made a) [
          | inl l ↦ (let k = before x l in omega (arith, k, lt))
          | inr m ↦ (let e = keyed x m in omega (arith, e, lt))
        ]))

    pub with_strands : (one : List Strand) → ((w : Strand) → Among w (flat made) ↔ (Among w (flat (take n (drop at bs))) ⊎ Among w one)) → (w : Strand)
        → Among w (flat ((take at bs ++ made) ++ drop n (drop at bs))) ↔ Among w (flat bs ++ one)
    with_strands one iff w = (
      λ a. elim (among_or w (flat (take at bs ++ made)) (flat (drop n (drop at bs)))
          (subst (λ l. Among w l) (flat_append (take at bs ++ made) (drop n (drop at bs))) a)) [
            | inr d ↦ among_left w (flat bs) one (of_drop at bs w (of_drop n (drop at bs) w d))
            | inl l ↦ elim (among_or w (flat (take at bs)) (flat made) (subst (λ l. Among w l) (flat_append (take at bs) made) l)) [
              | inl t ↦ among_left w (flat bs) one (of_take at bs w t)
              | inr m ↦ elim ((iff w).0 m) [
                | inl k ↦ among_left w (flat bs) one (of_drop at bs w (of_take n (drop at bs) w k))
                | inr o ↦ among_right w (flat bs) one o
              ]
            ]
          ],
      λ a. subst (λ l. Among w l) (sym (flat_append (take at bs ++ made) (drop n (drop at bs)))) (elim (among_or w (flat bs) one a) [
        | inr o ↦ among_left w (flat (take at bs ++ made)) (flat (drop n (drop at bs))) (inner (inr ((iff w).1 (inr o))))
        | inl b ↦ elim (in_split at bs w b) [
          | inl t ↦ among_left w (flat (take at bs ++ made)) (flat (drop n (drop at bs))) (inner (inl t))
          | inr d ↦ elim (in_split n (drop at bs) w d) [
            | inl k ↦ among_left w (flat (take at bs ++ made)) (flat (drop n (drop at bs))) (inner (inr ((iff w).1 (inl k))))
            | inr e ↦ among_right w (flat (take at bs ++ made)) (flat (drop n (drop at bs))) e
          ]
        ]
      ]),
    )
      where
        inner : Among w (flat (take at bs)) ⊎ Among w (flat made) → Among w (flat (take at bs ++ made))
        inner s = subst (λ l. Among w l) (sym (flat_append (take at bs) made))
            (elim s [ inl t ↦ among_left w (flat (take at bs)) (flat made) t | inr m ↦ among_right w (flat (take at bs)) (flat made) m ])
