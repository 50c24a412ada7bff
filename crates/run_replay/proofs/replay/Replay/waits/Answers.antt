use Rattle.std.proofs.Common.{◌≡◌, ◌<◌, ◌∙◌, refl, sym, subst, length}
use Rattle.std.specs.Prelude.{slice_get, Some, None}
use Rattle.std.proofs.lemmas.Option.{slice_get_read}
use Rattle.run_replay.specs.Replays.{ReplayNow, HaveEnded, RunsStill, IsFree, IsBarred}
use Rattle.run_replay.proofs.Waiting.{free_sync, barred_sync, free_get, barred_get}
use Rattle.run_replay.proofs.replay.Replay.waits.Goals as goal

pub returns-in-None : goal.returns-in-None
returns-in-None c = λ P code h m r k is.
    let lines = c.self.inside.lines.items in
    let t = c.args.task in
    let l = c.index.result.now in
    let here = subst (λ (v : ReplayNow). t < length v.lines) (sym c.self.view_is) c.requires.exists in
    let present = subst (λ (v : ReplayNow). slice_get v.lines t ≡ Some l) c.self.view_is (slice_get_read lines (length lines) t l refl here c.index.ensures) in
    let all = subst (λ b. HaveEnded c.args.self.now.lines b) c.as_slice-block.ensures.value c.in-None.ensures in
    subst (λ w. IsFree m r w) (sym c.in-Sync.is) (free_sync P code h c.args.self.now m k t l r present is all)

pub returns-in-Some : goal.returns-in-Some
returns-in-Some c = λ P code h m r k is.
    let lines = c.self.inside.lines.items in
    let t = c.args.task in
    let l = c.index.result.now in
    let here = subst (λ (v : ReplayNow). t < length v.lines) (sym c.self.view_is) c.requires.exists in
    let present = subst (λ (v : ReplayNow). slice_get v.lines t ≡ Some l) c.self.view_is (slice_get_read lines (length lines) t l refl here c.index.ensures) in
    let some = subst (λ b. RunsStill c.args.self.now.lines b c.in-Some.field-0) c.as_slice-block.ensures.value c.in-Some.ensures in
    subst (λ w. IsBarred m r w None) (sym c.in-Sync.is) (refl, barred_sync P code h c.args.self.now m k t l r c.in-Some.field-0 present is some)

pub returns-in-Some-value_of : goal.returns-in-Some-value_of
returns-in-Some-value_of c = λ P code h m r k is.
    subst (λ w. IsFree m r w) (sym c.in-Get.is)
    (free_get P code h c.args.self.now m k c.in-Get.future c.in-Some-value_of.field-0 (sym c.value_of.ensures ∙ c.in-Some-value_of.is))

pub returns-in-None-value_of : goal.returns-in-None-value_of
returns-in-None-value_of c = λ P code h m r k is.
    subst (λ w. IsBarred m r w (Some c.in-Get.future)) (sym c.in-Get.is)
    (refl, barred_get P code h c.args.self.now m k c.in-Get.future (sym c.value_of.ensures ∙ c.in-None-value_of.is))
