use Rattle.std.proofs.Common.{refl, sym, ◌∙◌}
use Rattle.command_words.proofs.Choosing.{seen_events, seen_brief, seen_workers, seen_side}
use Rattle.command_words.proofs.options.Seen.with.Goals as goal

pub returns-else-self : goal.returns-else-self
returns-else-self c = λ unnamed cs s. rw c.in-Events.is (seen_events unnamed cs c.args.self _ c.in-Events.bound s c.if-self.false refl refl refl refl refl refl)

pub returns-else-self-2 : goal.returns-else-self-2
returns-else-self-2 c = λ unnamed cs s. rw c.in-Brief.is (seen_brief unnamed cs c.args.self _ s c.if-self-2.false refl refl refl refl refl refl)

pub returns-else-self-3 : goal.returns-else-self-3
returns-else-self-3 c = λ unnamed cs s. rw c.in-Workers.is
    (seen_workers unnamed cs c.args.self _ c.in-Workers.crew s c.if-self-3.false refl refl refl refl refl refl)

pub returns-else-is_some : goal.returns-else-is_some
returns-else-is_some c = λ unnamed cs s. rw c.in-Side.is
    (seen_side unnamed cs c.args.self _ c.in-Side.side s (sym c.is_some.ensures ∙ c.if-is_some.false) refl refl refl refl refl refl)
