use Rattle.std.proofs.Common.{◌≡◌, ◌<◌, ◌∷◌, ◌++◌, length, take, sym, ap, subst, ◌∙◌, arith}
use Rattle.fut_tokens.specs.Ended.{IsEnded}
use Rattle.fut_explain.specs.Kinds.{kind_token, behind_kind}
use Rattle.fut_explain.proofs.Cutting.{front_ended}
use Rattle.fut_explain.proofs.Kinding.{kind_ended}
use Rattle.fut_explain.proofs.standing.tried.Goals as goal

pub returns : goal.returns
returns c =
    let all = c.in_ok-front.field-0.tokens.items in
    let k = c.args.kind in
    let is : c.push_kind.new.out.items ≡ take c.args.at all ++ kind_token k ∷ behind_kind k =
    c.in_ok-push_kind.ensures ∙ ap (λ l. l ++ kind_token k ∷ behind_kind k) c.truncate.ensures.items in
    let less : c.args.at < length all = omega (arith, c.if-len-at.false, c.len.ensures, c.in_ok-front.field-0.tokens.ok.0) in (
      subst IsEnded (sym is) (front_ended all c.args.at (kind_token k ∷ behind_kind k) c.in_ok-front.ensures.ended less (kind_ended k)),
      (
        all,
        c.in_ok-front.field-0.places.items,
        c.in_ok-front.ensures.tokens,
        less,
        is,
      ),
    )
