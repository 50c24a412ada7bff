use Rattle.std.proofs.Common.{ℕ, List, refl, subst, arith, length-drop}
use Rattle.std.proofs.lemmas.List.{take_rest}
use Rattle.fut_tokens.specs.Parts.{IsPart}
use Rattle.fut_tokens.proofs.Begun.{begun_start, begun_on, begun_end, IsWhole}
use Rattle.fut_tokens.proofs.lexer.tokens.Goals as goal
use Rattle.fut_tokens.proofs.lexer.tokens.Goals.{In_ok-add}

pub loop-at-init : goal.loop-at-init
loop-at-init c = record {
  within = omega arith;
  here = refl;
  begun = begun_start c.args.text.now c.new.result.items c.new-2.result.items c.new.ensures.items c.new-2.ensures.items;
}

pub loop-at-preserved : goal.loop-at-preserved
loop-at-preserved c =
    let text = c.args.text.now in
    let x = c.in_ok-front.front.part in
    let n = c.in_ok-front.front.length in
    let p = subst (λ (q : List ℕ). IsPart q x n) (take_rest text c.loop-at.at) c.in_ok-front.ensures in
    record {
      within = omega (arith, p.within, length-drop c.loop-at.at text);
      here = c.place_at-place.ensures;
      begun =
          begun_on text c.loop-at.at n x c.loop-at.place c.loop-at.lexed.tokens.items c.take.new.self.tokens.items c.loop-at.lexed.places.items
          c.take.new.self.places.items c.loop-at.lexed.comments c.take.new.self.comments p c.loop-at.invariant.begun c.loop-at.invariant.here
          c.in_ok-take.ensures.tokens c.in_ok-take.ensures.places c.in_ok-take.ensures.comments;
    }

whole : (c : In_ok-add) → IsWhole c.args.text.now c.add.new.self.tokens.items c.add.new.self.places.items c.add.new.self.comments
whole c =
    begun_end c.args.text.now c.loop-at.at c.loop-at.place c.loop-at.lexed.tokens.items c.add.new.self.tokens.items c.loop-at.lexed.places.items
    c.add.new.self.places.items c.loop-at.lexed.comments c.add.new.self.comments
    (omega (
      arith,
      c.loop-at-test.false,
    )) c.loop-at.invariant.begun c.loop-at.invariant.here c.in_ok-add.ensures.tokens c.in_ok-add.ensures.places c.in_ok-add.ensures.comments

pub returns-clause-tokens : goal.returns-clause-tokens
returns-clause-tokens c = (whole c).of

pub returns-clause-ended : goal.returns-clause-ended
returns-clause-ended c = (whole c).ends

pub returns-clause-comments : goal.returns-clause-comments
returns-clause-comments c = (whole c).told

pub returns-clause-paired : goal.returns-clause-paired
returns-clause-paired c = (whole c).paired
