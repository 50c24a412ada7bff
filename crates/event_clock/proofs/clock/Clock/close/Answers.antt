use Rattle.std.proofs.Common.{◌≡◌, [], ◌∷◌, ◌++◌, ◌∙◌, ℕ, List, length, sym, ap, subst, inl, refl}
use Rattle.std.specs.Prelude.{slice_index}
use Rattle.fut_base.proofs.Members.{among_left, among_right}
use Rattle.fut_base.specs.Dag.{Among}
use Rattle.event_clock.specs.declared.view.View.{View}
use Rattle.event_clock.specs.declared.view.Size.{Size}
use Rattle.event_clock.specs.Views.{numbers_of, number_of}
use Rattle.event_clock.specs.Seated.{Seated, Ticking, HolderList}
use Rattle.event_clock.specs.Closing.{Gathers, IsClosed}
use Rattle.event_clock.proofs.Closings.{closes_all, word_read}
use Rattle.event_clock.proofs.clock.Clock.close.Goals as goal

pub gather_holders-requires : goal.gather_holders-requires
gather_holders-requires c =
    let first = c.in-Some.first in
    let others = c.pop.new.self.items in
    let items : others ++ first ∷ [] ≡ c.args.holders.items = sym c.in-Some.ensures.items ∙ ap (λ (h : HolderList). h.items) c.holders.view_is in
    record {
      clock = (
        ap (λ (h : Seated). h.clock) c.first.view_is ∙ c.requires.clock.0 first
            (subst (λ l. Among first l) items (among_right first others (first ∷ []) (inl refl))),
        λ u a. c.requires.clock.0 u (subst (λ l. Among u l) items (among_left u others (first ∷ []) a)),
      );
    }

pub gather_passes-requires : goal.gather_passes-requires
gather_passes-requires c =
    let first = c.in-Some.first in
    let others = c.pop.new.self.items in
    let items : others ++ first ∷ [] ≡ c.args.holders.items = sym c.in-Some.ensures.items ∙ ap (λ (h : HolderList). h.items) c.holders.view_is in
    let passes = c.into_vec-others.ensures in
    record {
      clock = (
        c.gather_holders.ensures.clock ∙ ap (λ (h : Seated). h.clock) c.first.view_is
            ∙ c.requires.clock.0 first (subst (λ l. Among first l) items (among_right first others (first ∷ []) (inl refl))),
        λ u a. c.requires.clock.1 u (subst (λ l. Among u l) passes a),
      );
    }

pub close_with-closed-requires : goal.close_with-closed-requires
close_with-closed-requires c =
    let first = c.in-Some.first in
    let others = c.pop.new.self.items in
    let items : others ++ first ∷ [] ≡ c.args.holders.items = sym c.in-Some.ensures.items ∙ ap (λ (h : HolderList). h.items) c.holders.view_is in
    c.gather_passes.ensures.clock ∙ c.gather_holders.ensures.clock ∙ ap (λ (h : Seated). h.clock) c.first.view_is
    ∙ c.requires.clock.0 first (subst (λ l. Among first l) items (among_right first others (first ∷ []) (inl refl)))
    ∙ sym (ap (λ (k : Ticking). k.id) c.self.view_is)

pub returns : goal.returns
returns c =
    let first = c.in-Some.first in
    let others = c.pop.new.self.items in
    let items : others ++ first ∷ [] ≡ c.args.holders.items = sym c.in-Some.ensures.items ∙ ap (λ (h : HolderList). h.items) c.holders.view_is in
    let passes = c.into_vec-others.ensures in
    let size : c.self.inside.table.shared.key ≡ c.args.self.size = ap (λ (k : Ticking). k.size) c.self.view_is in
    let view = ap (λ (h : Seated). h.view) c.first.view_is in
    let final = c.close_with-closed.ensures.values.2 in
    let count : slice_index final.0.words 0 ≡ c.word-count.result = word_read final.2 c.word-count.ensures in
    let gathered : Gathers first.view others c.gather_holders.new.seat.me.0 =
    subst (λ (v : View). Gathers v others c.gather_holders.new.seat.me.0) view c.gather_holders.ensures.gathered in
    let one : numbers_of first.view.own ≡ number_of first.view ∷ [] = subst (λ (v : View). numbers_of v.own ≡ number_of v ∷ []) view c.first.invariant.2 in
    let many : length (others ++ first ∷ []) ≡ c.self.inside.table.shared.key.holders =
    ap length items ∙ c.requires.count ∙ sym (ap (λ (z : Size). z.holders) size) in
    let closed =
    closes_all c.self.inside.table.shared.key final.0 final.1.0 c.gather_passes.new.seat.id c.gather_passes.new.seat.me.0 final.1.1 others first
    c.into_vec-others.result.items c.gather_holders.new.seat.me.0 gathered c.gather_passes.ensures.gathered c.gather_holders.ensures.one_each one many in
    subst (λ (n : ℕ). IsClosed c.args.self.size c.args.holders.items c.args.passes.items n) count
    (subst (λ (l : List Seated). IsClosed c.args.self.size c.args.holders.items l (slice_index final.0.words 0)) passes
    (subst (λ (l : List Seated). IsClosed c.args.self.size l c.into_vec-others.result.items (slice_index final.0.words 0)) items
    (subst (λ (z : Size). IsClosed z (others ++ first ∷ []) c.into_vec-others.result.items (slice_index final.0.words 0)) size closed)))
