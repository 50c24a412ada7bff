use Rattle.std.proofs.Common.{◌++◌, ◌∙◌, ap, refl, sym, length}
use Rattle.std.specs.Prelude.{slice_set, option_to_list}
use Rattle.std.proofs.lemmas.Option.{slice_get_read}
use Rattle.std.proofs.lemmas.List.{append-nil}
use Rattle.run_replay.proofs.table.commit.Goals as goal

pub returns-in-Some : goal.returns-in-Some
returns-in-Some c =
    let old = c.args.lines.now.items in
    let t = c.args.place in
    let before = c.index_mut.result.now in
    record {
      before = before;
      after = c.act_as.new.line;
      present = slice_get_read old (length old) t before refl c.requires.exists c.index_mut.ensures.value;
      is = c.push_reserved.ensures.items ∙ ap (λ o. slice_set old t c.act_as.new.line ++ option_to_list o) (sym c.in-Some.is);
      acts = c.act_as.ensures;
    }

pub returns-in_default : goal.returns-in_default
returns-in_default c =
    let old = c.args.lines.now.items in
    let t = c.args.place in
    let before = c.index_mut.result.now in
    record {
      before = before;
      after = c.act_as.new.line;
      present = slice_get_read old (length old) t before refl c.requires.exists c.index_mut.ensures.value;
      is = sym (append-nil (slice_set old t c.act_as.new.line)) ∙ ap (λ o. slice_set old t c.act_as.new.line ++ option_to_list o) (sym c.in_default.is);
      acts = c.act_as.ensures;
    }
