use Rattle.std.proofs.Common.{◌≡◌, ℕ, ◌+◌, ◌<◌, ◌&&◌, ◌==◌, List, length, get_or, take, inl, inr, subst, sym, arith, ◌∙◌}
use Rattle.std.proofs.lemmas.List.{take_all}
use Rattle.fut_base.specs.Dag.{Among}
use Rattle.strand_laws.proofs.Held.{is_eq}
use Rattle.strand_tree.specs.declared.strand.Strand.{Strand}
use Rattle.reach_table.proofs.Members.{at_place, in_more, same_strand, and_left, and_right}
use Rattle.reach_table.proofs.joining.begins_with.Goals as goal

-- the next strand is the same
same_more : (xs ws : List Strand) (n : ℕ) (d : Strand) → n < length xs → n < length ws → get_or xs n d ≡ get_or ws n d
    → ((x : Strand) → Among x (take n xs) → Among x ws) → (x : Strand) → Among x (take (n + 1) xs) → Among x ws
same_more xs ws n d lx lw same was x a = elim (in_more xs n d lx x a) [
  | inl l ↦ was x l
  | inr e ↦ (let P : Strand → Type 0 = λ z. Among z ws in subst P (sym same ∙ e) (at_place ws n d lw))
]

pub loop-n-preserved : goal.loop-n-preserved
loop-n-preserved c = λ yes.
    let none : Strand = record { number = 0; future = 0 } in
    let xs = c.args.other.now in
    let ws = c.args.strands.now in
    let n = c.loop-n.n in
    let x = get_or xs n none in
    let w = get_or ws n none in
    let both = and_left (c.loop-n.same && (x.number == w.number)) (x.future == w.future) yes in
    let future = is_eq x.future w.future (and_right (c.loop-n.same && (x.number == w.number)) (x.future == w.future) yes) in
    let number = is_eq x.number w.number (and_right c.loop-n.same (x.number == w.number) both) in
    same_more xs ws n none c.loop-n-test.true (omega arith) (same_strand x w number future)
    (c.loop-n.invariant (and_left c.loop-n.same (x.number == w.number) both))

pub returns : goal.returns
returns c = λ yes x a.
    let P : List Strand → Type 0 = λ l. Among x l in
    c.loop-n.invariant yes x (subst P (sym (take_all c.loop-n.n c.args.other.now c.loop-n-test.false)) a)
